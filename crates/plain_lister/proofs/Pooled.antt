-- Values in a pool.
use Rattle.std.proofs.Common.{◌≡◌, ℕ, zero, suc, ◌<◌, ◌+◌, List, [], ◌∷◌, ◌++◌, length, map, refl, sym, ap, ◌∙◌, subst, arith, length-append, get_or, ◌⊎◌, inl, inr}
use Rattle.std.specs.Prelude.{slice_index_or, slice_get, Some}
use Rattle.std.proofs.Math.ListN.{get_or-append}
use Rattle.std.proofs.Math.Seq.{get_or-append_seam}
use Rattle.std.proofs.lemmas.List.Elements.{All-weaker, All-append}
use Rattle.std.proofs.lemmas.List.{map-append}
use Rattle.grammar_model.specs.Values.{Value, Undefined, list_of, token_at}
use Rattle.value_text.specs.Nodes.{value_at}
use Rattle.value_text.specs.Pool.{IsPut, AreIds}
use Rattle.grammar_model.specs.Grammar.{lhs_of, no_rule}
use Rattle.grammar_model.specs.Characters.{character_tokens}
use Rattle.plain_lister.specs.declared.Derivations.{Derivations}
use Rattle.plain_lister.specs.declared.Cell.{Cell}
use Rattle.plain_lister.specs.declared.lines.Told.{Told}
use Rattle.plain_lister.specs.declared.lines.Told.TheVariants as told
use Rattle.plain_lister.specs.Arena.{Meant, meant, meanings}
use Rattle.plain_lister.specs.Adding.{at}
use Rattle.plain_lister.specs.Listing.{bare_rule}
use Rattle.plain_lister.specs.Told.{Puts, Stays, IsTold, AllTold, IsPrefixTold, IsValueTold, ArePrefixIds, IsValueId, prefix_values, tree_value}
use Rattle.grammar_model.specs.Trees.{Child, NoChild}
use Rattle.std.proofs.lemmas.Option.{slice_get_within}
use Rattle.finite_sets.proofs.Lists.{get_pushed}
use Rattle.plain_lister.proofs.Arena.{keeps_push, at_new}

pub put_puts : (old new : List Value) (id : ℕ) (v : Value) → IsPut old new id v → Puts old new id v
put_puts old new id v p =
    let long = length-append old (v ∷ []) in
    let len = ap length p.values in
    let at_id = p.place in
    record {
      stays = record { longer = omega arith; same = λ k h. ap (λ l. value_at l k) p.values ∙ get_or-append old (v ∷ []) Undefined k h };
      within = omega arith;
      stands = (λ i. value_at (p.values i) (p.place i)) ∙ get_or-append_seam old v [] Undefined;
    }

pub stays_then : (a b c : List Value) → Stays a b → Stays b c → Stays a c
stays_then a b c s t =
    let l = s.longer in
    let m = t.longer in
    record { longer = omega arith; same = λ k h. t.same k (omega arith) ∙ s.same k h }

pub ids_stay : (a b : List Value) (ids : List ℕ) → Stays a b → AreIds a ids → AreIds b ids
ids_stay a b ids s w = let l = s.longer in All-weaker (λ k. k < length a) (λ k. k < length b) (λ k h. omega arith) ids w

pub map_stays : (a b : List Value) (ids : List ℕ) → Stays a b → AreIds a ids → map (value_at b) ids ≡ map (value_at a) ids
map_stays a b [] s w = refl
map_stays a b (k ∷ ids) s w = λ i. s.same k (w 0 0 (omega arith)) i ∷ map_stays a b ids s (λ j d h. w (suc j) d (omega arith)) i

-- a list of two new values and of older ones
pub puts_list : (p0 p1 p2 p3 : List Value) (a b id : ℕ) (va vb : Value) (items children : List ℕ) → items ≡ a ∷ b ∷ children → AreIds p0 children →
    Puts p0 p1 a va → Puts p1 p2 b vb → Puts p2 p3 id (list_of (map (value_at p2) items)) → Puts p0 p3 id (list_of (va ∷ vb ∷ map (value_at p0) children))
puts_list p0 p1 p2 p3 a b id va vb items children e w s t u =
    let first = t.stays.same a s.within ∙ s.stands in
    let older = map_stays p0 p2 children (stays_then p0 p1 p2 s.stays t.stays) w in
    record {
      stays = stays_then p0 p1 p3 s.stays (stays_then p1 p2 p3 t.stays u.stays);
      within = u.within;
      stands = u.stands ∙ ap (λ l. list_of (map (value_at p2) l)) e ∙ (λ i. list_of (first i ∷ t.stands i ∷ older i));
    }

pub puts_same : (old new : List Value) (id : ℕ) (v w : Value) → v ≡ w → Puts old new id v → Puts old new id w
puts_same old new id v w e p = subst (Puts old new id) e p

pub token_text : (k : ℕ) (input : List ℕ) (p d : ℕ) → p < length input → (token_at (character_tokens k input) p).text ≡ get_or input p d ∷ []
token_text k [] p d h = absurd (omega arith)
token_text k (c ∷ cs) zero d h = refl
token_text k (c ∷ cs) (suc p) d h = token_text (suc k) cs p d (omega arith)

pub bare_lhs : (lefts : List ℕ) (i d : ℕ) → i < length lefts → get_or lefts i d ≡ lhs_of (slice_index_or (map bare_rule lefts) i no_rule)
bare_lhs [] i d h = absurd (omega arith)
bare_lhs (x ∷ xs) zero d h = refl
bare_lhs (x ∷ xs) (suc i) d h = bare_lhs xs i d (omega arith)

-- ---- what was told of cells

pub told_stays : (list : Derivations) (a b : List Value) (x : Told) (m : Meant) → Stays a b → IsTold list a x m → IsTold list b x m
told_stays list a b (told.Value id) m s t = let l = s.longer in let h = t.0 in (omega arith, s.same id t.0 ∙ t.1)
told_stays list a b (told.Prefix ids) m s t = (ids_stay a b ids.items s t.0, map_stays a b ids.items s t.0 ∙ t.1)

pub stays_all : (p : List Value) → Stays p p
stays_all p = record { longer = omega arith; same = λ k h. refl }

pub prefix_of : (list : Derivations) (pool : List Value) (xs : List Told) (cells : List Cell) (k : ℕ) (ids : List ℕ) → AllTold list pool xs cells → IsPrefixTold xs k ids →
    AreIds pool ids × (map (value_at pool) ids ≡ prefix_values list (at cells k).prefix)
prefix_of list pool xs cells k ids all f = go f.cell (all.1 k f.cell f.found) f.prefix
  where
    go : (x : Told) → IsTold list pool x (at cells k) → ArePrefixIds x ids → AreIds pool ids × (map (value_at pool) ids ≡ prefix_values list (at cells k).prefix)
    go (told.Value id) t e = absurd e
    go (told.Prefix v) t e = subst (λ l. AreIds pool l × (map (value_at pool) l ≡ prefix_values list (at cells k).prefix)) (sym e) t

pub value_of_told : (list : Derivations) (pool : List Value) (xs : List Told) (cells : List Cell) (k id : ℕ) → AllTold list pool xs cells → IsValueTold xs k id →
    (id < length pool) × (value_at pool id ≡ tree_value list (at cells k).tree)
value_of_told list pool xs cells k id all f = go f.cell (all.1 k f.cell f.found) f.value
  where
    go : (x : Told) → IsTold list pool x (at cells k) → IsValueId x id → (id < length pool) × (value_at pool id ≡ tree_value list (at cells k).tree)
    go (told.Value j) t e = subst (λ l. (l < length pool) × (value_at pool l ≡ tree_value list (at cells k).tree)) (sym e) t
    go (told.Prefix v) t e = absurd e

one_id : (pool : List Value) (id : ℕ) → id < length pool → AreIds pool (id ∷ [])
one_id pool id h zero d lt = h
one_id pool id h (suc k) d lt = absurd (omega arith)

pub told_first : (list : Derivations) (pool : List Value) (xs : List Told) (cells : List Cell) (k id : ℕ) (items : List ℕ) → AllTold list pool xs cells → IsValueTold xs k id → items ≡ id ∷ [] →
    AreIds pool items × (map (value_at pool) items ≡ prefix_values list (Child NoChild (at cells k).tree))
told_first list pool xs cells k id items all v e =
    let t = value_of_told list pool xs cells k id all v in
    subst (λ l. AreIds pool l × (map (value_at pool) l ≡ prefix_values list (Child NoChild (at cells k).tree))) (sym e) (one_id pool id t.0, ap (λ w. w ∷ []) t.1)

pub told_next : (list : Derivations) (pool : List Value) (xs : List Told) (cells : List Cell) (j k id : ℕ) (ids items : List ℕ) → AllTold list pool xs cells → IsPrefixTold xs j ids → IsValueTold xs k id → items ≡ ids ++ id ∷ [] →
    AreIds pool items × (map (value_at pool) items ≡ prefix_values list (Child (at cells j).prefix (at cells k).tree))
told_next list pool xs cells j k id ids items all f v e =
    let s = prefix_of list pool xs cells j ids all f in
    let t = value_of_told list pool xs cells k id all v in
    subst (λ l. AreIds pool l × (map (value_at pool) l ≡ prefix_values list (Child (at cells j).prefix (at cells k).tree))) (sym e)
    (All-append (λ n. n < length pool) ids (id ∷ []) s.0 (one_id pool id t.0), map-append (value_at pool) ids (id ∷ []) ∙ (λ i. s.1 i ++ t.1 i ∷ []))

pub all_more : (list : Derivations) (p q : List Value) (xs : List Told) (x : Told) (cells : List Cell) (c : Cell) → AllTold list p xs cells → Stays p q → IsTold list q x (meant (meanings cells) c) → AllTold list q (xs ++ x ∷ []) (cells ++ c ∷ [])
all_more list p q xs x cells c all s t = (length-append xs (x ∷ []) ∙ ap (λ n. n + 1) all.0 ∙ sym (length-append cells (c ∷ [])), λ j y e. go j y (get_pushed xs x j y e))
  where
    go : (j : ℕ) (y : Told) → (slice_get xs j ≡ Some y) ⊎ ((j ≡ length xs) × (x ≡ y)) → IsTold list q y (at (cells ++ c ∷ []) j)
    go j y (inl e) =
        let w = slice_get_within xs j y e in
        let n = all.0 in
        subst (IsTold list q y) (sym ((keeps_push cells c).same j (omega arith))) (told_stays list p q y (at cells j) s (all.1 j y e))
    go j y (inr e) =
        subst (λ k. IsTold list q y (at (cells ++ c ∷ []) k)) (sym (e.0 ∙ all.0)) (subst (λ z. IsTold list q z (at (cells ++ c ∷ []) (length cells))) e.1 (subst (IsTold list q x) (sym (at_new cells c)) t))
