-- What a grammar grants.
use Rattle.std.proofs.Common.{◌≡◌, ℕ, zero, suc, subst, get_or, ◌<◌, ◌≤◌, true, false, cond, List, [], ◌∷◌, ◌++◌, Some, None, refl, sym, ap, ◌∙◌, length, map}
use Rattle.std.specs.Prelude.{◌&&◌, nat_lt, nat_le, All, slice_get}
use Rattle.std.specs.List.{AllByRecursion, list_all}
use Rattle.std.proofs.lemmas.List.Elements.{recursion_from_All, All-from_recursion, All-get_or}
use Rattle.dsl_build.proofs.Alls.{all_mapped}
use Rattle.std.proofs.lemmas.Bool.Decides.{nat_tests}
use Rattle.std.proofs.Common.{arith}
use Rattle.std.proofs.lemmas.Option.{same_Some}
use Rattle.std.proofs.lemmas.Bool.{or_right}
use Rattle.grammar_model.specs.Grammar.{WrittenRule, Plain, Sequence, Grammar}
use Rattle.grammar_model.specs.declared.limits.TheConstants.{MOST_ENTRIES}
use Rattle.grammar_core.specs.Written.{symbols_of, IsLevelled, has_name, has_room, with_name}
use Rattle.grammar_core.specs.Refusals.{name_refusal, rule_refusal, start_refusal, knows, is_levelled, is_short}
use Rattle.grammar_core.specs.declared.refusal.CoreRefusal.TheVariants.{BadSymbol, BadLevel, TooMany}
use Rattle.language_model.specs.Building.{is_one_of}
use Rattle.dsl_build.specs.Rules.{with_names}
use Rattle.dsl_build.specs.Ready.{IsGood}
use Rattle.dsl_faults.proofs.Keeping.{is_one_of_any}

room : (n : ℕ) → n < MOST_ENTRIES → has_room n ≡ true
room n lt = grind (arith, nat_tests)

below : (s n : ℕ) → s < n → nat_lt s n ≡ true
below s n lt = grind (arith, nat_tests)

within : (m n : ℕ) → m ≤ n → nat_le m n ≡ true
within m n le = grind (arith, nat_tests)

pub name_granted : (g : Grammar) (name : List ℕ) → length g.names < MOST_ENTRIES → name_refusal g name ≡ None
name_granted g name lt = ap (λ b. cond b None (Some TooMany)) (or_right (has_name g name) (has_room (length g.names)) (room (length g.names) lt))

all_known : (g : Grammar) (ss : List ℕ) → AllByRecursion (λ s. s < length g.names) ss → list_all (knows g) ss ≡ true
all_known g [] a = refl
all_known g (s ∷ ss) a = ap (λ b. b && list_all (knows g) ss) (below s (length g.names) a.0) ∙ all_known g ss a.1

levelled : (r : WrittenRule) → IsLevelled r → (is_levelled r ≡ true) × (is_short r ≡ true)
levelled (Plain r) h = (below r.level r.groups h.0, within (length r.rhs) 1000 h.1)
levelled (Sequence r) h = (refl, refl)

pub rule_granted : (g : Grammar) (r : WrittenRule) → IsGood (length g.names) r → length g.rules < MOST_ENTRIES → rule_refusal g r ≡ None
rule_granted g r good lt =
    let l = levelled r good.1 in
    ap (λ b. cond b (cond (is_levelled r) (cond (is_short r && has_room (length g.rules)) None (Some TooMany)) (Some BadLevel)) (Some BadSymbol)) (all_known g (symbols_of r) (recursion_from_All (λ s. s < length g.names) (symbols_of r) good.0))
    ∙ ap (λ b. cond b (cond (is_short r && has_room (length g.rules)) None (Some TooMany)) (Some BadLevel)) l.0
    ∙ ap (λ b. cond (b && has_room (length g.rules)) None (Some TooMany)) l.1 ∙ ap (λ b. cond b None (Some TooMany)) (room (length g.rules) lt)

pub start_granted : (g : Grammar) (s : ℕ) → s < length g.names → length g.starts < MOST_ENTRIES → start_refusal g s ≡ None
start_granted g s known lt =
    ap (λ b. cond b (cond (has_room (length g.starts)) None (Some TooMany)) (Some BadSymbol)) (below s (length g.names) known) ∙ ap (λ b. cond b None (Some TooMany)) (room (length g.starts) lt)

pub named_more : (g : Grammar) (name : List ℕ) → is_one_of g.names name ≡ false → with_name g name ≡ with_names g (name ∷ [])
named_more g name e = ap (λ b. record { names = cond b g.names (g.names ++ name ∷ []); rules = g.rules; starts = g.starts }) (sym (is_one_of_any name g.names) ∙ e)

-- what holds of all elements holds of one
pub all_get : {A : Type 0} (P : A → Type 0) (xs : List A) (i : ℕ) (x : A) → All P xs → slice_get xs i ≡ Some x → P x
all_get {A} P xs i x a e = go xs i (recursion_from_All P xs a) e
  where
    go : (ys : List A) (k : ℕ) → AllByRecursion P ys → slice_get ys k ≡ Some x → P x
    go [] k b f = cc
    go (y ∷ ys) zero b f = subst P (same_Some y x f) b.0
    go (y ∷ ys) (suc k) b f = go ys k b.1 f

pub all_mapped_get : {A B : Type 0} (P : B → Type 0) (f : A → B) (xs : List A) (i : ℕ) (x : A) → All P (map f xs) → i < length xs → x ≡ get_or xs i x → P (f x)
all_mapped_get P f xs i x a lt is =
    subst (λ y. P (f y)) (sym is) (All-get_or (λ y. P (f y)) xs i x lt (All-from_recursion (λ y. P (f y)) xs (all_mapped P f xs (recursion_from_All P (map f xs) a))))

-- what holds of all that a list is mapped to
pub held_all : {A B : Type 0} (P : B → Type 0) (f : A → B) (xs : List A) → AllByRecursion P (map f xs) → All (λ x. P (f x)) xs
held_all P f xs a = All-from_recursion (λ x. P (f x)) xs (all_mapped P f xs a)
