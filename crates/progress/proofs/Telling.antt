-- What the items of a set tell, one after another.
use Rattle.std.proofs.Common.{◌≡◌, ℕ, ◌<◌, ◌≤◌, ◌+◌, ◌++◌, ◌↔◌, inl, inr, Contains, List, [], ◌∷◌, length, slice_get, Option, Some, None, refl, sym, ◌∙◌, ap, subst, arith}
use Rattle.std.proofs.lemmas.Bool.{cases_lt}
use Rattle.std.proofs.lemmas.List.Elements.{Contains-append_left, Contains-push, Contains-push_cases}
use Rattle.finite_sets.proofs.Lists.{Contains-none, got_item, got_at}
use Rattle.recognizer_model.specs.declared.Item.{Item}
use Rattle.grammar_model.specs.Grammar.{Grammar}
use Rattle.recognizer_model.specs.declared.ReportLine.{ReportLine}
use Rattle.recognizer_model.specs.Report.{IsLine, line_of}
use Rattle.recognizer_model.specs.Flat.{FlatGrammar, IsRule}
use Rattle.recognizer_model.specs.Items.{InSet}
use Rattle.recognizer_model.proofs.Earley.{items_are_found}
use Rattle.earley_sets.specs.Recognizer.{Recognizer, IsRecognizer, edges_of, top_of}
use Rattle.earley_sets.proofs.Membership.{found_at}
use Rattle.earley_sets.proofs.Recognizing.{top_is_top}

module _ {X Y : Type 0} (f : X → Option Y) (xs : List X) where
  -- what the one at a place tells
  abbrev TellsAt : ℕ → Y → Type 0
  TellsAt i y = (x : X) × (slice_get xs i ≡ Some x) × (f x ≡ Some y)

  -- just what the first k tell
  abbrev pub AreTold : ℕ → List Y → Type 0
  AreTold k ys = (y : Y) → Contains ys y ↔ ((i : ℕ) × (i < k) × TellsAt i y)

  pub told_none : AreTold 0 []
  told_none y = (λ h. absurd (Contains-none y h), λ (i, lt, t). absurd (omega arith))

  module _ (k : ℕ) (ys : List Y) (told : AreTold k ys) (x : X) (at : slice_get xs k ≡ Some x) where
    -- the one at the place tells nothing else
    told_here : (y : Y) → TellsAt k y → f x ≡ Some y
    told_here y (z, is, e) = let one : Some z ≡ Some x = sym is ∙ at in let same : z ≡ x = cc in subst (λ v. f v ≡ Some y) same e

    pub told_one : (v : Y) (zs : List Y) → f x ≡ Some v → zs ≡ ys ++ v ∷ [] → AreTold (k + 1) zs
    told_one v zs e grown y = ((λ h. there (subst (λ l. Contains l y) grown h)), (λ t. subst (λ l. Contains l y) (sym grown) (back t)))
      where
        there : Contains (ys ++ v ∷ []) y → (i : ℕ) × (i < k + 1) × TellsAt i y
        there h = elim (Contains-push_cases ys v y h) [
          | inl o ↦ let (i, lt, t) = (told y).0 o in (i, omega arith, t)
          | inr s ↦ (k, omega arith, (x, at, e ∙ ap Some s))
        ]

        back : (i : ℕ) × (i < k + 1) × TellsAt i y → Contains (ys ++ v ∷ []) y
        back (i, lt, t) = elim (cases_lt i k) [
          | inl l ↦ Contains-append_left ys (v ∷ []) y ((told y).1 (i, l, t))
          | inr ge ↦
              let same : i ≡ k = omega arith in
              let one : Some v ≡ Some y = sym e ∙ told_here y (subst (λ n. TellsAt n y) same t) in
              let s : v ≡ y = cc in
              subst (Contains (ys ++ v ∷ [])) s (Contains-push ys v)
        ]

    pub told_nothing : (zs : List Y) → f x ≡ None → zs ≡ ys → AreTold (k + 1) zs
    told_nothing zs e kept y = ((λ h. there (subst (λ l. Contains l y) kept h)), (λ t. subst (λ l. Contains l y) (sym kept) (back t)))
      where
        there : Contains ys y → (i : ℕ) × (i < k + 1) × TellsAt i y
        there h = let (i, lt, t) = (told y).0 h in (i, omega arith, t)

        back : (i : ℕ) × (i < k + 1) × TellsAt i y → Contains ys y
        back (i, lt, t) = elim (cases_lt i k) [
          | inl l ↦ (told y).1 (i, l, t)
          | inr ge ↦ let same : i ≡ k = omega arith in let never : None ≡ Some y = sym e ∙ told_here y (subst (λ n. TellsAt n y) same t) in absurd (cc)
        ]

  pub told_all : (k : ℕ) (ys : List Y) → AreTold k ys → length xs ≤ k → (y : Y) → Contains ys y ↔ ((x : X) × Contains xs x × (f x ≡ Some y))
  told_all k ys told le y = (
    λ h. (let (i, lt, (x, is, e)) = (told y).0 h in (x, got_item xs i x (sym is), e)),
    λ (x, h, e). (let (i, is) = found_at xs x h in let (lt, e') = got_at xs i x x (sym is) in (told y).1 (i, omega arith, (x, is, e))),
  )

-- the item of a set has a rule
pub has_rule : (r : Recognizer) (j : ℕ) (item : Item) → IsRecognizer r → InSet r.flat (edges_of r) (top_of r) j item → IsRule r.flat item.rule
has_rule r j item is h = ((items_are_found r.flat (edges_of r) (top_of r) (top_is_top r.flat r.start (top_of r) is.flat is.start refl) j item).0 h).is_rule

-- the lines of all items of a set
pub lines_told : (w : Grammar) (r : Recognizer) (j : ℕ) (flat : FlatGrammar) → flat ≡ r.flat → (items told : List Item) → told ≡ items → (lines : List ReportLine) →
    ((item : Item) → Contains items item ↔ InSet r.flat (edges_of r) (top_of r) j item) → ((line : ReportLine) → Contains lines line ↔ ((item : Item) × Contains told item × (line_of w flat item ≡ Some line))) →
    (line : ReportLine) → Contains lines line ↔ IsLine w r.flat (edges_of r) (top_of r) j line
lines_told w r j flat same items told is lines exact tells line = (
  λ h. (
      let (item, c, e) = (tells line).0 h in
      (item, (exact item).0 (subst (λ l. Contains l item) is c), subst (λ f. line_of w f item ≡ Some line) same e)
      ),
  λ (item, i, e). (tells line).1 (item, subst (λ l. Contains l item) (sym is) ((exact item).1 i), subst (λ f. line_of w f item ≡ Some line) (sym same) e),
)
