-- What holds of the derivations that an iterator gives, one after another.
use Rattle.std.proofs.Common.{◌≡◌, ℕ, List, [], ◌∷◌, ◌++◌, Bool, true, false, Result, Ok, Err, length, refl, sym, ap, subst, arith}
use Rattle.std.specs.Prelude.{IfOk, OnErr, IfSome, IsFalse, IsTrue}
use Rattle.grammar_model.specs.Trees.{Tree}
use Rattle.grammar_model.specs.Checked.{IsChecked}
use Rattle.grammar_model.specs.Steps.{steps_of}
use Rattle.grammar_core.specs.declared.steps.Span.{Span}
use Rattle.language_model.specs.Building.{Built}
use Rattle.dsl_build.specs.Ranges.{IsInRange}
use Rattle.forest_model.specs.Forest.{Forest}
use Rattle.forest_model.specs.Listing.{IsListing}
use Rattle.tree_iter.specs.Iteration.{Iteration, AreGiven, IsAnswer, between, begun}
use Rattle.valuator.specs.Play.{AreSteps, AreSpans}
use Rattle.value_lines.proofs.Fitting as fitting
use Rattle.text_reading.specs.Parts.{HasForest}
use Rattle.text_reading.proofs.Derived.{listed}
use Rattle.slif_parser.specs.Views.{DerivationsOf, IsUnderWay}
use Rattle.slif_parser.specs.Readings.{AreAll, IsNext, IsPrefixOfAll}

-- THE BEGINNING

pub under_way : (b : Built) (lexemes cs : List ℕ) (spans : List Span) (f : Forest) (it : Iteration) → HasForest b lexemes f.ranking cs spans f → it ≡ begun f → AreGiven it [] → IsUnderWay b lexemes cs spans it
under_way b lexemes cs spans f it has is none = record {
  has = subst (λ (g : Forest). HasForest b lexemes g.ranking cs spans g) (sym (ap (λ (i : Iteration). i.forest) is)) has;
  given = [];
  are = none;
  steps = subst (λ o. IfSome o (AreSteps b.g1 (length spans))) (sym (ap (λ (i : Iteration). i.current) is)) tt;
}

-- GOING ON

given_between : (it new : Iteration) (given : List Tree) → new ≡ between it → IsListing new.forest given → AreGiven it given → AreGiven new given
given_between it new given is all are = subst (λ (i : Iteration). AreGiven i given) (sym is) (record { first = are.first; are_before = subst (λ (i : Iteration). IsListing i.forest given) is all })

module _ (b : Built) (checked : IsChecked b.g1) (ranges : IsInRange b) (lexemes cs : List ℕ) (spans : List Span) where
  module _ (old new : Iteration) (way : IsUnderWay b lexemes cs spans old) (same : new.forest ≡ old.forest) where
    has_same : HasForest b lexemes new.forest.ranking cs spans new.forest
    has_same = subst (λ (g : Forest). HasForest b lexemes g.ranking cs spans g) (sym same) way.has

    answered : (more : Bool) → IsAnswer new way.given more → (more ≡ false → new ≡ between old) → IsUnderWay b lexemes cs spans new
    answered true (tree, are, is) end = record {
      has = has_same;
      given = way.given ++ tree ∷ [];
      are = are;
      steps = subst (λ o. IfSome o (AreSteps b.g1 (length spans))) (sym is)
          (fitting.can_play b checked ranges cs spans old.forest way.has.pieces way.has.of new same way.given (tree, are, is) (steps_of tree) (subst (λ o. IfSome o (λ steps. steps_of tree ≡ steps)) (sym is) refl));
    }
    answered false all end = record {
      has = has_same;
      given = way.given;
      are = given_between old new way.given (end refl) all way.are;
      steps = subst (λ o. IfSome o (AreSteps b.g1 (length spans))) (sym (ap (λ (i : Iteration). i.current) (end refl))) tt;
    }

  pub goes_on : {E : Type 0} (r : Result Bool E) (old new : Iteration) → IsUnderWay b lexemes cs spans old → new.forest ≡ old.forest → IfOk r (λ more. (given : List Tree) → AreGiven old given → IsAnswer new given more) →
      IfOk r (λ more. IsFalse more → new ≡ between old) → OnErr r (new ≡ old) → IsUnderWay b lexemes cs spans new
  goes_on (Ok more) old new way same answer end err = answered old new way same more (answer way.given way.are) end
  goes_on (Err e) old new way same answer end err = subst (IsUnderWay b lexemes cs spans) (sym err) way

-- WHAT IS GIVEN

module _ (b : Built) (lexemes cs : List ℕ) (spans : List Span) (it : Iteration) (way : IsUnderWay b lexemes cs spans it) where
  abbrev pub seen : DerivationsOf
  seen = record { read = record { grammar = b; lexemes = lexemes; characters = cs; spans = spans }; iteration = it }

  pub all_of : (trees : List Tree) → IsListing it.forest trees → AreAll seen trees
  all_of trees l = record { pieces = way.has.pieces; reading = way.has.reading; all = listed b lexemes it.forest.ranking cs spans it.forest way.has trees l }

  pub prefix_of_all : (given : List Tree) → AreGiven it given → IsPrefixOfAll seen given
  prefix_of_all given are = (are.first.rest, all_of (given ++ are.first.rest) are.first.listing)

  next_of : (given : List Tree) (more : Bool) → IsAnswer it given more → IsNext seen given more
  next_of given true answer = answer
  next_of given false answer = all_of given answer

  -- the list of all is not empty
  some_listed : IsListing it.forest [] → ⊥
  some_listed l =
      let all = listed b lexemes it.forest.ranking cs spans it.forest way.has [] l in
      let (k, lt, e) = (all.each way.has.tree).1 way.has.chosen in
      omega (arith, lt)

  pub first_told : {E : Type 0} (r : Result Bool E) (old : Iteration) → AreGiven old [] → IfOk r (λ more. (given : List Tree) → AreGiven old given → IsAnswer it given more) → IfOk r IsTrue
  first_told (Ok true) old none answer = refl
  first_told (Ok false) old none answer = absurd (some_listed (answer [] none))
  first_told (Err e) old none answer = answer

  pub next_told : {E : Type 0} (r : Result Bool E) (old : Iteration) → IfOk r (λ more. (given : List Tree) → AreGiven old given → IsAnswer it given more) →
      IfOk r (λ more. (given : List Tree) → AreGiven old given → IsNext seen given more)
  next_told (Ok more) old answer = λ given are. next_of given more (answer given are)
  next_told (Err e) old answer = answer

-- THE TOKENS

pub spans_known : (b : Built) (checked : IsChecked b.g1) (ranges : IsInRange b) (lexemes cs : List ℕ) (spans : List Span) (it : Iteration) → IsUnderWay b lexemes cs spans it → AreSpans (length cs) spans
spans_known b checked ranges lexemes cs spans it way = fitting.spans_are b checked ranges cs spans it.forest way.has.pieces way.has.of
