-- Names by their places, and that a written grammar stays one as it grows.
use Rattle.std.proofs.Common.{◌≡◌, ℕ, zero, suc, ◌<◌, ◌+◌, Bool, true, false, cond, List, [], ◌∷◌, ◌++◌, length, map, Some, None, ◌⊎◌, inl, inr, refl, sym, ap, ◌∙◌, subst, arith, length-append, String}
use Rattle.std.specs.Prelude.{not, string_bytes, string_eq, All, slice_get, slice_index_or, nat_lt}
use Rattle.std.specs.List.{list_any, position_or_len, position}
use Rattle.std.specs.Str.{bytes_eq}
use Rattle.std.proofs.lemmas.Bool.{cases_eq, true≢false, ltb-true, or_parts}
use Rattle.std.proofs.lemmas.List.{map-append}
use Rattle.indexmap.specs.IndexSet.{insert_key}
use Rattle.std.proofs.lemmas.Slice.Eq.{bytes_eq-Decides}
use Rattle.std.proofs.lemmas.List.Elements.{All-weaker, All-append}
use Rattle.std.proofs.Math.ListN.{get_or-append}
use Rattle.std.proofs.Math.Seq.{get_or-append_seam}
use Rattle.finite_sets.proofs.Lists.{get_pushed}
use Rattle.grammar_model.specs.Grammar.{WrittenRule, Grammar, rule_at, no_rule}
use Rattle.grammar_model.specs.declared.limits.TheConstants.{MOST_ENTRIES}
use Rattle.grammar_core.specs.Written.{IsWritten, IsLevelled, symbols_of, with_rule, with_start}

-- a test of the elements' images
pub list_any-map : {X Y : Type 0} (p : X → Bool) (f : Y → X) (ys : List Y) → list_any p (map f ys) ≡ list_any (λ y. p (f y)) ys
list_any-map p f [] = refl
list_any-map p f (y ∷ ys) = let e = list_any-map p f ys in cc

pub position_or_len-map : {X Y : Type 0} (p : X → Bool) (f : Y → X) (ys : List Y) → position_or_len p (map f ys) ≡ position_or_len (λ y. p (f y)) ys
position_or_len-map p f [] = refl
position_or_len-map p f (y ∷ ys) = let e = position_or_len-map p f ys in cc

-- what `position` answers is the place
pub place_is : {X : Type 0} (p : X → Bool) (xs : List X) (k : ℕ) → Some k ≡ position p xs → (k ≡ position_or_len p xs) × (k < length xs)
place_is p xs k e = go (nat_lt (position_or_len p xs) (length xs)) refl e
  where
    go : (b : Bool) → nat_lt (position_or_len p xs) (length xs) ≡ b → Some k ≡ cond b (Some (position_or_len p xs)) None → (k ≡ position_or_len p xs) × (k < length xs)
    go true t h = let e' : k ≡ position_or_len p xs = cc in let l = ltb-true _ _ t in (e', omega arith)
    go false t h = cc

-- the name at its place
pub named : (name : List ℕ) (names : List (List ℕ)) → position_or_len (bytes_eq name) names < length names → slice_get names (position_or_len (bytes_eq name) names) ≡ Some name
named name [] h = absurd (omega arith)
named name (n ∷ ns) h = go (bytes_eq name n) refl (λ k. named name ns k)
  where
    go : (b : Bool) → bytes_eq name n ≡ b → (position_or_len (bytes_eq name) ns < length ns → slice_get ns (position_or_len (bytes_eq name) ns) ≡ Some name) → slice_get (n ∷ ns) (position_or_len (bytes_eq name) (n ∷ ns)) ≡ Some name
    go true e ih = subst (λ b. slice_get (n ∷ ns) (cond (not b) (1 + position_or_len (bytes_eq name) ns) 0) ≡ Some name) (sym e) (ap Some (sym ((bytes_eq-Decides name n).0 e)))
    go false e ih =
        let h' = subst (λ b. cond (not b) (1 + position_or_len (bytes_eq name) ns) 0 < suc (length ns)) e h in
        let next : suc (position_or_len (bytes_eq name) ns) ≡ 1 + position_or_len (bytes_eq name) ns = omega arith in
        subst (λ b. slice_get (n ∷ ns) (cond (not b) (1 + position_or_len (bytes_eq name) ns) 0) ≡ Some name) (sym e) (subst (λ k. slice_get (n ∷ ns) k ≡ Some name) next (ih (omega arith)))

-- where no name passes, the place is the length
pub place_past : {X : Type 0} (p : X → Bool) (xs : List X) → list_any p xs ≡ false → position_or_len p xs ≡ length xs
place_past p [] e = refl
place_past p (x ∷ xs) e =
    let f = or_parts _ _ e in
    let ih = place_past p xs f.1 in
    subst (λ b. cond (not b) (1 + position_or_len p xs) 0 ≡ suc (length xs)) (sym f.0) (omega arith)

pub get_last : {X : Type 0} (xs : List X) (x : X) (i : ℕ) → i ≡ length xs → slice_get (xs ++ x ∷ []) i ≡ Some x
get_last {X} xs x i e = subst (λ k. slice_get (xs ++ x ∷ []) k ≡ Some x) (sym e) (go xs)
  where
    go : (ys : List X) → slice_get (ys ++ x ∷ []) (length ys) ≡ Some x
    go [] = refl
    go (y ∷ ys) = go ys

not_held : (name : List ℕ) (names : List (List ℕ)) (i : ℕ) → list_any (bytes_eq name) names ≡ false → slice_get names i ≡ Some name → ⊥
not_held name [] i e h = cc
not_held name (n ∷ ns) zero e h = true≢false (sym ((bytes_eq-Decides name n).1 (sym (some_is n name h))) ∙ (or_parts _ _ e).0)
  where
    some_is : (x y : List ℕ) → Some x ≡ Some y → x ≡ y
    some_is x y q = cc
not_held name (n ∷ ns) (suc i) e h = not_held name ns i (or_parts _ _ e).1 h

abbrev Differ : List (List ℕ) → Type 0
Differ names = (i j : ℕ) (name : List ℕ) → slice_get names i ≡ Some name → slice_get names j ≡ Some name → i ≡ j

differ_more : (names : List (List ℕ)) (new : List ℕ) → list_any (bytes_eq new) names ≡ false → Differ names → Differ (names ++ new ∷ [])
differ_more names new free differ i j name a b = go (get_pushed names new i name a) (get_pushed names new j name b)
  where
    go : (slice_get names i ≡ Some name) ⊎ ((i ≡ length names) × (new ≡ name)) → (slice_get names j ≡ Some name) ⊎ ((j ≡ length names) × (new ≡ name)) → i ≡ j
    go (inl x) (inl y) = differ i j name x y
    go (inl x) (inr y) = absurd (not_held new names i free (x ∙ ap Some (sym y.1)))
    go (inr x) (inl y) = absurd (not_held new names j free (y ∙ ap Some (sym x.1)))
    go (inr x) (inr y) = x.0 ∙ sym y.0

pub with_new_name : (g : Grammar) (name : List ℕ) → IsWritten g → list_any (bytes_eq name) g.names ≡ false → length g.names < MOST_ENTRIES →
    IsWritten (record { names = g.names ++ name ∷ []; rules = g.rules; starts = g.starts })
with_new_name g name w free room =
    let long = length-append g.names (name ∷ []) in
    record {
      few_names = omega arith;
      few_rules = w.few_rules;
      few_starts = w.few_starts;
      names_differ = differ_more g.names name free w.names_differ;
      rules_known = λ i h. (let k = w.rules_known i h in (All-weaker (λ s. s < length g.names) (λ s. s < length (g.names ++ name ∷ [])) (λ s lt. omega arith) (symbols_of (rule_at g i)) k.0, k.1));
      starts_known = All-weaker (λ s. s < length g.names) (λ s. s < length (g.names ++ name ∷ [])) (λ s lt. omega arith) g.starts w.starts_known;
    }

abbrev Known : Grammar → WrittenRule → Type 0
Known g r = All (λ s. s < length g.names) (symbols_of r) × IsLevelled r

pub with_new_rule : (g : Grammar) (rule : WrittenRule) → IsWritten g → All (λ s. s < length g.names) (symbols_of rule) → IsLevelled rule → length g.rules < MOST_ENTRIES → IsWritten (with_rule g rule)
with_new_rule g rule w known levelled room =
    let long = length-append g.rules (rule ∷ []) in
    record {
      few_names = w.few_names;
      few_rules = omega arith;
      few_starts = w.few_starts;
      names_differ = w.names_differ;
      rules_known = λ i h. place i h (cases_eq i (length g.rules));
      starts_known = w.starts_known;
    }
  where
    place : (i : ℕ) → i < length (g.rules ++ rule ∷ []) → (i ≡ length g.rules) ⊎ (i ≡ length g.rules → ⊥) → Known g (slice_index_or (g.rules ++ rule ∷ []) i no_rule)
    place i h (inl e) = subst (Known g) (sym (ap (λ k. slice_index_or (g.rules ++ rule ∷ []) k no_rule) e ∙ get_or-append_seam g.rules rule [] no_rule)) (known, levelled)
    place i h (inr ne) =
        let long = length-append g.rules (rule ∷ []) in
        let lt : i < length g.rules = omega arith in
        subst (Known g) (sym (get_or-append g.rules (rule ∷ []) no_rule i lt)) (w.rules_known i lt)

all_one : (P : ℕ → Type 0) (x : ℕ) → P x → All P (x ∷ [])
all_one P x p zero d h = p
all_one P x p (suc k) d h = absurd (omega arith)

pub with_new_start : (g : Grammar) (symbol : ℕ) → IsWritten g → symbol < length g.names → length g.starts < MOST_ENTRIES → IsWritten (with_start g symbol)
with_new_start g symbol w known room =
    let long = length-append g.starts (symbol ∷ []) in
    record {
      few_names = w.few_names;
      few_rules = w.few_rules;
      few_starts = omega arith;
      names_differ = w.names_differ;
      rules_known = w.rules_known;
      starts_known = All-append (λ s. s < length g.names) g.starts (symbol ∷ []) w.starts_known (all_one (λ s. s < length g.names) symbol known);
    }

-- the names after a new one was put into their set
pub names_after : {Z : Type 0} (keys new : List (String Z)) (owned : String Z) (name : List ℕ) → string_bytes owned ≡ name → new ≡ insert_key string_eq keys owned →
    list_any (bytes_eq name) (map string_bytes keys) ≡ false → map string_bytes new ≡ map string_bytes keys ++ name ∷ []
names_after {Z} keys new owned name same inserted free =
    let free' : list_any (string_eq owned) keys ≡ false = subst (λ n. list_any (λ (k : String Z). bytes_eq n (string_bytes k)) keys ≡ false) (sym same) (sym (list_any-map (bytes_eq name) string_bytes keys) ∙ free) in
    ap (map string_bytes) (inserted ∙ ap (λ b. cond b keys (keys ++ owned ∷ [])) free') ∙ map-append string_bytes keys (owned ∷ []) ∙ ap (λ n. map string_bytes keys ++ n ∷ []) same
