-- Of the items of a set that wait for a symbol, the only one.
use Rattle.std.proofs.Common.{◌≡◌, ◌≢◌, ℕ, zero, suc, length, List, [], ◌∷◌, Option, Some, None, Contains, slice_get, refl, sym, ◌∙◌, ap, subst, arith}
use Rattle.std.specs.Prelude.{IfSome, IsNone}
use Rattle.std.specs.List.{AllPairs}
use Rattle.recognizer_model.specs.declared.Item.{Item}
use Rattle.recognizer_model.specs.Flat.{FlatGrammar}
use Rattle.recognizer_model.specs.Items.{after, IsWhole, advanced}
use Rattle.recognizer_model.specs.Counts.{IsListOf}
use Rattle.leo_items.specs.Steps.{IsStep}

pub one_there : (x y : Item) → Contains (x ∷ []) y → y ≡ x
one_there x y (zero, lt, e) = sym e
one_there x y (suc k, lt, e) = absurd (omega arith)

-- a list of one value alone, each once, has it once
pub only_one : (xs : List Item) (x : Item) → AllPairs (λ a b. a ≢ b) xs → Contains xs x → ((y : Item) → Contains xs y → y ≡ x) → xs ≡ x ∷ []
only_one [] x once (k, lt, e) all = absurd (omega arith)
only_one (a ∷ []) x once there all = ap (λ z. z ∷ []) (all a (0, omega arith, refl))
only_one (a ∷ (b ∷ xs)) x once there all = absurd (once 0 1 a (omega arith) (omega arith) (all a (0, omega arith, refl) ∙ sym (all b (1, omega arith, refl))))

pub only_item : (xs : List Item) (x : Item) → length xs ≡ 1 → slice_get xs 0 ≡ Some x → xs ≡ x ∷ []
only_item [] x one e = absurd (omega arith)
only_item (y ∷ []) x one e = let same : y ≡ x = cc in ap (λ z. z ∷ []) same
only_item (y ∷ (z ∷ zs)) x one e = absurd (omega arith)

first_same : (x y : Item) → x ∷ [] ≡ y ∷ [] → x ≡ y
first_same x y e = cc

-- the step of the only item
pub step_is : (g : FlatGrammar) (waiting : List Item) (item : Item) (step : Option Item) → waiting ≡ item ∷ [] → IfSome step (λ s. IsWhole g (advanced item) × (s ≡ advanced item)) →
    (IsNone step → ¬ IsWhole g (advanced item)) → IsStep g waiting step
step_is g waiting item (Some s) one some none = (item, one, some.0, some.1)
step_is g waiting item None one some none = λ other is. subst (λ z. ¬ IsWhole g (advanced z)) (first_same item other (sym one ∙ is)) (none refl)

module _ (g : FlatGrammar) (P : Item → Type 0) (x : ℕ) (waiting : List Item) (lists : IsListOf (λ item. P item × (after g item ≡ Some x)) waiting) where
  pub record IsOnly (item : Item) : Type 0 where
    pub inside : P item
    pub waits : after g item ≡ Some x
    pub last : IsWhole g (advanced item)
    pub only : (other : Item) → P other → after g other ≡ Some x → other ≡ item

  pub step_some : (step : Item) → IsStep g waiting (Some step) → (item : Item) × IsOnly item × (step ≡ advanced item)
  step_some step (item, one, last, same) =
      let (inside, waits) = (lists.exact item).0 (subst (λ l. Contains l item) (sym one) (0, omega arith, refl)) in (
        item,
        record {
          inside = inside;
          waits = waits;
          last = last;
          only = λ other p e. one_there item other (subst (λ l. Contains l other) one ((lists.exact other).1 (p, e)));
        },
        same,
      )

  pub step_none : IsStep g waiting None → (item : Item) → ¬ IsOnly item
  step_none none item o =
      none item (only_one waiting item lists.once ((lists.exact item).1 (o.inside, o.waits)) (λ y c. let (p, e) = (lists.exact y).0 c in o.only y p e)) o.last
