-- The table grows, and what it holds stays held.
use Rattle.std.proofs.Common.{◌≡◌, ℕ, Bool, true, false, cond, List, [], ◌∷◌, ◌++◌, length, map, Some, refl, sym, ◌∙◌, subst}
use Rattle.std.specs.Prelude.{slice_get}
use Rattle.std.specs.Map.{lookup}
use Rattle.std.proofs.lemmas.Bool.{and_parts, eqb-true}
use Rattle.finite_sets.proofs.Lists.{get_left, get_last}
use Rattle.grammar_model.specs.Grammar.{Grammar}
use Rattle.plain_lister.specs.declared.store.Store.{Store}
use Rattle.plain_lister.specs.Adding.{at, Within, Keeps}
use Rattle.plain_lister.specs.Table.{Key, same_key, value_at, Holds, Grows, IsSound, IsListed}
use Rattle.plain_lister.proofs.Arena.{keeps_all, keeps_then, within_keeps, map_keeps}

-- a store with no lists is sound
pub sound_none : (g : Grammar) (input : List ℕ) (s : Store) → s.memo.entries ≡ [] → IsSound g input s
sound_none g input s e x n p q k found =
    let none = subst (λ l. lookup (same_key (x, n, p, q)) l ≡ Some k) e found in
    absurd cc

pub grows_none : (s : Store) → Grows s s
grows_none s = record { keeps = keeps_all s.cells.items; lists = λ k places e. e }

pub grows_then : (a b c : Store) → Grows a b → Grows b c → Grows a c
grows_then a b c s t = record { keeps = keeps_then a.cells.items b.cells.items c.cells.items s.keeps t.keeps; lists = λ k places e. t.lists k places (s.lists k places e) }

pub holds_grow : (g : Grammar) (input : List ℕ) (old new : Store) (k x n p q : ℕ) → Grows old new → Holds g input old k x n p q → Holds g input new k x n p q
holds_grow g input old new k x n p q s h = record {
  places = h.places;
  found = s.lists k h.places h.found;
  within = within_keeps old.cells.items new.cells.items h.places s.keeps h.within;
  told = map_keeps old.cells.items new.cells.items h.places s.keeps h.within ∙ h.told;
}

-- keys that pass the test are the same
keys_same : (g : Grammar) (input : List ℕ) (s : Store) (k x n p q x' n' p' q' : ℕ) → same_key (x, n, p, q) (x', n', p', q') ≡ true → Holds g input s k x n p q → Holds g input s k x' n' p' q'
keys_same g input s k x n p q x' n' p' q' e h =
    let a = and_parts _ _ e in
    let b = and_parts _ _ a.0 in
    let c = and_parts _ _ b.0 in
    subst (λ z. Holds g input s k z n' p' q') (eqb-true x x' c.0)
    (subst (λ z. Holds g input s k x z p' q') (eqb-true n n' c.1)
    (subst (λ z. Holds g input s k x n z q') (eqb-true p p' b.1)
    (subst (λ z. Holds g input s k x n p z) (eqb-true q q' a.1) h)))

pub kept : (g : Grammar) (input : List ℕ) (old new : Store) (x n p q number : ℕ) (places : List ℕ) →
    new.cells.items ≡ old.cells.items → new.lists.items ≡ old.lists.items ++ places ∷ [] → number ≡ length old.lists.items →
    ((key : Key) → lookup (same_key key) new.memo.entries ≡ cond (same_key (x, n, p, q) key) (Some number) (lookup (same_key key) old.memo.entries)) →
    IsSound g input old → Within old.cells.items places → map (at old.cells.items) places ≡ value_at g input x n p q →
    IsListed g input old new number x n p q
kept g input old new x n p q number places cells lists number_is updates sound within told = record { sound = now_sound; grows = grown; holds = here }
  where
    grown : Grows old new
    grown = record {
      keeps = subst (Keeps old.cells.items) (sym cells) (keeps_all old.cells.items);
      lists = λ k ps e. subst (λ l. slice_get l k ≡ Some ps) (sym lists) (get_left old.lists.items (places ∷ []) k ps e);
    }

    here : Holds g input new number x n p q
    here = record {
      places = places;
      found = (λ i. slice_get (lists i) (number_is i)) ∙ get_last old.lists.items places;
      within = subst (λ cs. Within cs places) (sym cells) within;
      told = subst (λ cs. map (at cs) places ≡ value_at g input x n p q) (sym cells) told;
    }

    go : (x' n' p' q' k : ℕ) (b : Bool) → same_key (x, n, p, q) (x', n', p', q') ≡ b → cond b (Some number) (lookup (same_key (x', n', p', q')) old.memo.entries) ≡ Some k → Holds g input new k x' n' p' q'
    go x' n' p' q' k true e f = let same : number ≡ k = cc in subst (λ z. Holds g input new z x' n' p' q') same (keys_same g input new number x n p q x' n' p' q' e here)
    go x' n' p' q' k false e f = holds_grow g input old new k x' n' p' q' grown (sound x' n' p' q' k f)

    now_sound : IsSound g input new
    now_sound x' n' p' q' k e = go x' n' p' q' k (same_key (x, n, p, q) (x', n', p', q')) refl (sym (updates (x', n', p', q')) ∙ e)
