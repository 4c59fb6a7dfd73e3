-- The links of items that begin.
use Rattle.std.proofs.Common.{◌≡◌, ◌≢◌, ℕ, ◌+◌, ◌≤◌, ◌++◌, List, [], ◌∷◌, length, take, slice_get, Some, Contains, refl, sym, ◌∙◌, ap, subst}
use Rattle.std.specs.Prelude.{AllPairs}
use Rattle.std.proofs.lemmas.List.{take_all}
use Rattle.std.proofs.lemmas.List.Elements.{Contains-append_left, Contains-push}
use Rattle.recognizer_model.specs.declared.Item.{Item}
use Rattle.recognizer_model.specs.Flat.{FlatGrammar, IsRule, lhs_of, IsNullable}
use Rattle.recognizer_model.specs.Items.{after}
use Rattle.recognizer_model.specs.Links.{Link, Predicts, Skips, Scans, Completes, Leaps}
use Rattle.begun_lists.specs.Tried.{RisesWithin, MakesSkip, MakesLater}
use Rattle.begun_lists.proofs.Cutting.{not_before, take_next}
use Rattle.begun_lists.proofs.Rising.{rises_none, rises_one, rises_over, rises_on}

-- the link of a symbol that is skipped over
pub rises_skipped : (g : FlatGrammar) (item : Item) (x a b : ℕ) → IsNullable g x → b ≡ a + 1 → RisesWithin (MakesSkip g item x) a b
rises_skipped g item x a b n e = rises_one (MakesSkip g item x) (Skips item) a b (n, refl) e

pub rises_unskipped : (g : FlatGrammar) (item : Item) (x a : ℕ) → RisesWithin (MakesSkip g item x) a a
rises_unskipped g item x a = rises_none (MakesSkip g item x) a a refl

module _ (g : FlatGrammar) (item : Item) where
  pub later_none : (a b : ℕ) → b ≡ a → RisesWithin (MakesLater g item) a b
  later_none a b e = rises_none (MakesLater g item) a b e

  module _ (x a b c : ℕ) (waits : after g item ≡ Some x) where
    predicted : RisesWithin (λ (r : ℕ). IsRule g r × (lhs_of g r ≡ x)) a b → RisesWithin (λ l. (r : ℕ) × IsRule g r × (lhs_of g r ≡ x) × (l ≡ Predicts item r)) a b
    predicted rules = rises_over (λ l. (r : ℕ) × IsRule g r × (lhs_of g r ≡ x) × (l ≡ Predicts item r)) (Predicts item) (λ r (rule, l). (r, rule, l, refl)) (λ r s h i e. cc) rules

    -- the links of the rules of the symbol, and then that of skipping over it
    pub links_later : RisesWithin (λ (r : ℕ). IsRule g r × (lhs_of g r ≡ x)) a b → RisesWithin (MakesSkip g item x) b c → RisesWithin (MakesLater g item) a c
    links_later rules skip =
        rises_on (MakesLater g item)
        (λ l (r, rule, i, s). subst (MakesLater g item) (sym s) (refl, (x, waits, rule, i)))
        (λ l (n, s). subst (MakesLater g item) (sym s) (refl, (x, waits, n)))
        (λ l (r, rule, i, s) (n', t). absurd (let d : Predicts item r ≡ Skips item = sym s ∙ t in cc)) (predicted rules) skip

-- an item that begins makes no link of another
pub same_later : (g : FlatGrammar) (item : Item) (link : Link) (other : Item) → MakesLater g item link → MakesLater g other link → item ≡ other
same_later g item (Predicts before r) other m n = sym m.0 ∙ n.0
same_later g item (Skips before) other m n = sym m.0 ∙ n.0
same_later g item (Scans before from) other m n = absurd m
same_later g item (Completes done waiting) other m n = absurd m
same_later g item (Leaps done) other m n = absurd m

-- the links of items, one after another
module _ (M : Item → Link → Type 0) (same : (item : Item) (link : Link) (other : Item) → M item link → M other link → item ≡ other) where
  abbrev pub MakesAny : List Item → Link → Type 0
  MakesAny items link = (item : Item) × Contains items item × M item link

  pub tried_none : (keys : List Item) (a b : ℕ) → b ≡ a → RisesWithin (MakesAny (take 0 keys)) a b
  tried_none keys a b e = rises_none (MakesAny (take 0 keys)) a b e

  -- the links of one item more
  pub tried_more : (keys new more : List Item) (k : ℕ) (item : Item) (a b c : ℕ) → AllPairs (λ x y. x ≢ y) keys → Some item ≡ slice_get keys k → new ≡ keys ++ more →
      RisesWithin (MakesAny (take k keys)) a b → RisesWithin (M item) b c → RisesWithin (MakesAny (take (k + 1) new)) a c
  tried_more keys new more k item a b c once at is before now =
      subst (λ l. RisesWithin (MakesAny l) a c) (sym (ap (take (k + 1)) is ∙ take_next keys more k item at))
      (rises_on (MakesAny (take k keys ++ item ∷ []))
      (λ link (other, there, m). (other, Contains-append_left (take k keys) (item ∷ []) other there, m))
      (λ link m. (item, Contains-push (take k keys) item, m))
      (λ link (other, there, m) n. not_before keys k item once at (subst (Contains (take k keys)) (same other link item m n) there)) before now)

  pub tried_all : (keys : List Item) (k a b : ℕ) → length keys ≤ k → RisesWithin (MakesAny (take k keys)) a b → RisesWithin (MakesAny keys) a b
  tried_all keys k a b le r = subst (λ l. RisesWithin (MakesAny l) a b) (take_all k keys le) r
