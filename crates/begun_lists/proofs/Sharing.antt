-- The lists that were made, and one more.
use Rattle.std.proofs.Common.{◌≡◌, ◌⊎◌, inl, inr, ℕ, ◌+◌, ◌<◌, ◌++◌, List, [], ◌∷◌, length, Some, slice_get, Contains, sym, ◌∙◌, ap, subst, arith, length-append}
use Rattle.std.proofs.lemmas.List.{get_or_append_left, get_or-append-add}
use Rattle.finite_sets.proofs.Lists.{get_left}
use Rattle.recognizer_model.specs.declared.Item.{Item}
use Rattle.recognizer_model.specs.Flat.{FlatGrammar}
use Rattle.recognizer_model.specs.Counts.{IsListOf}
use Rattle.item_rows.specs.Rows.{ItemRows, shared_at}
use Rattle.begun_lists.specs.Begun.{AreBegun, IsNoted, AreLists, KeepsSets}
use Rattle.begun_lists.specs.Tried.{MakesOneLater, TriesBegun}
use Rattle.begun_lists.proofs.Noting.{Entries}
use Rattle.begun_lists.proofs.Rising.{rises_as}

pub listed_begun : (g : FlatGrammar) (A : ℕ → Type 0) (items list : List Item) → AreBegun g A items → IsListOf (Contains items) list → AreBegun g A list
listed_begun g A items list are lists item = ((λ c. (are item).0 ((lists.exact item).0 c)), (λ b. (lists.exact item).1 ((are item).1 b)))

module _ (g : FlatGrammar) (lists : List (List Item)) (list : List Item) where
  pub list_last : shared_at (lists ++ list ∷ []) (length lists) ≡ list
  list_last = let there : length lists ≡ length lists + 0 = omega arith in ap (shared_at (lists ++ list ∷ [])) there ∙ get_or-append-add lists (list ∷ []) 0 []

  pub last_there : length lists < length (lists ++ list ∷ [])
  last_there = let l = length-append lists (list ∷ []) in omega (arith, l)

  pub lists_more : (notes : Entries) → AreLists g lists notes → AreLists g (lists ++ list ∷ []) notes
  lists_more notes are = record {
    none = get_left lists (list ∷ []) 0 [] are.none;
    noted = λ symbols number n. (
        let (lt, begun) = are.noted symbols number n in (
          (let l = length-append lists (list ∷ []) in omega (arith, l, lt)),
          subst (AreBegun g (Contains symbols)) (sym (get_or_append_left lists (list ∷ []) [] number lt)) begun,
        ));
  }

pub lists_noted : (g : FlatGrammar) (lists : List (List Item)) (old new : Entries) (symbols : List ℕ) (number : ℕ) → AreLists g lists old → number < length lists → AreBegun g (Contains symbols) (shared_at lists number) →
    ((list : List ℕ) (n : ℕ) → IsNoted new list n → IsNoted old list n ⊎ ((list ≡ symbols) × (n ≡ number))) → AreLists g lists new
lists_noted g lists old new symbols number are lt begun split = record {
  none = are.none;
  noted = λ list n h. elim (split list n h) [
    | inl o ↦ are.noted list n o
    | inr (same, e) ↦ (
      (omega (arith, lt, e)),
      subst (λ l. AreBegun g (Contains l) (shared_at lists n)) (sym same) (subst (λ k. AreBegun g (Contains symbols) (shared_at lists k)) (sym e) begun),
    )
  ];
}

-- the empty list alone
pub no_lists : (g : FlatGrammar) (lists : List (List Item)) (notes : Entries) → lists ≡ [] ∷ [] → notes ≡ [] → AreLists g lists notes
no_lists g lists notes one none = record {
  none = ap (λ (l : List (List Item)). slice_get l 0) one;
  noted = λ symbols number (v, (k, lt, e), same). (let l = ap length none in absurd (omega (arith, l, lt)));
}

got_first : (lists : List (List Item)) → slice_get lists 0 ≡ Some [] → (0 < length lists) × (shared_at lists 0 ≡ [])
got_first [] e = absurd (cc)
got_first (x ∷ xs) e = (omega arith, cc)

pub first_list : (g : FlatGrammar) (lists : List (List Item)) (notes : Entries) → AreLists g lists notes → (0 < length lists) × (shared_at lists 0 ≡ [])
first_list g lists notes are = got_first lists are.none

-- rows after a list was shared
module _ (g : FlatGrammar) (old new : ItemRows) (items : List Item) (ok : (list : List Item) × (new ≡ record old { shared = old.shared ++ list ∷ [] }) × IsListOf (Contains items) list) where
  lists_are : new.shared ≡ old.shared ++ ok.0 ∷ []
  lists_are = ap (λ (r : ItemRows). r.shared) ok.1

  pub shared_keeps : KeepsSets old new
  shared_keeps = record { flat = ap (λ (r : ItemRows). r.flat) ok.1; sets = ap (λ (r : ItemRows). r.sets) ok.1 }

  pub shared_more : (notes : Entries) → AreLists g old.shared notes → AreLists g new.shared notes
  shared_more notes are = subst (λ l. AreLists g l notes) (sym lists_are) (lists_more g old.shared ok.0 notes are)

  module _ (number : ℕ) (last : number ≡ length old.shared) where
    last_is : shared_at new.shared number ≡ ok.0
    last_is = ap (λ l. shared_at l number) lists_are ∙ (ap (shared_at (old.shared ++ ok.0 ∷ [])) last ∙ list_last g old.shared ok.0)

    pub last_below : number < length new.shared
    last_below = let l = ap (λ (l : List (List Item)). length l) lists_are in let k = last_there g old.shared ok.0 in omega (arith, l, k, last)

    pub shared_begun : (A : ℕ → Type 0) → AreBegun g A items → AreBegun g A (shared_at new.shared number)
    shared_begun A are = subst (AreBegun g A) (sym last_is) (listed_begun g A items ok.0 are ok.2)

    pub shared_noted : (notes more : Entries) → AreLists g old.shared notes → (symbols copy : List ℕ) → AreBegun g (Contains symbols) items → copy ≡ symbols →
        ((list : List ℕ) (n : ℕ) → IsNoted more list n → IsNoted notes list n ⊎ ((list ≡ copy) × (n ≡ number))) → AreLists g new.shared more
    shared_noted notes more are symbols copy begun same split =
        lists_noted g new.shared notes more symbols number (shared_more notes are) last_below (shared_begun (Contains symbols) begun)
        (λ list n h. elim (split list n h) [ inl o ↦ inl o | inr (is, e) ↦ inr (is ∙ same, e) ])

    pub shared_tried : (symbols : List ℕ) (a b : ℕ) → TriesBegun g symbols items a b → TriesBegun g symbols (shared_at new.shared number) a b
    shared_tried symbols a b (mid, firsts, later) =
        (mid, firsts, rises_as (MakesOneLater g (shared_at new.shared number)) (λ link (item, there, m). (item, subst (λ l. Contains l item) (sym last_is) ((ok.2.exact item).1 there), m)) later)
