-- What the fold of the first derivation tells.
use Rattle.std.proofs.Common.{◌≡◌, ℤ, Bool, true, List, [], ◌∷◌, Option, Some, sym, ◌∙◌, subst, Result, Ok, Err}
use Rattle.std.specs.Prelude.{IfOk, IfErr, IfSome}
use Rattle.grammar_model.specs.declared.Ranking.TheVariants.{Rule}
use Rattle.grammar_model.specs.Trees.{Tree}
use Rattle.grammar_model.specs.Steps.{Step, steps_of}
use Rattle.valuator.specs.Play.{tokens_of}
use Rattle.tree_iter.specs.Iteration.{AreGiven}
use Rattle.tree_fold.specs.Values.{Fails}
use Rattle.tree_fold.specs.Failing.{IsFailure}
use Rattle.tree_fold.specs.declared.semantics.FoldError.{FoldError}
use Rattle.tree_fold.specs.declared.semantics.FoldError.TheVariants as fold
use Rattle.slif_parser.specs.Views.{Read, ForestOf, DerivationsOf}
use Rattle.slif_parser.specs.Readings.{IsBegun, IsNext, IsPrefixOfAll, AreAll, ValueBy, FailsBy, IsAskedBy}
use Rattle.calculator.specs.Worth.{TokenGives, RuleGives, IsNumberOf}
use Rattle.calculator.specs.Faults.{fault_of}
use Rattle.calculator.specs.Expressions.{IsTreeWorth, IsTreeFault, OfStep, OfWhole, HasFirst, IsFirstWorth, IsFirstFault}
use Rattle.calculator.specs.declared.arithmetic.Arithmetic.{Arithmetic}
use Rattle.calculator.specs.declared.arithmetic.Value.{Value}
use Rattle.calculator.specs.declared.arithmetic.Value.TheVariants.{Number, Sign, Function}
use Rattle.calculator.specs.declared.error.CalculationError.{CalculationError}
use Rattle.calculator.specs.declared.error.CalculationError.TheVariants.{Parse, DivisionByZero, NoRoot, NoFunction, TooLarge, NoNumber, NoMemory}

-- the derivations stand at their first
pub record AreAtFirst (read : Read) (d : DerivationsOf) : Type 0 where
  pub of : d.read ≡ read
  pub ranked : d.iteration.forest.ranking ≡ Rule
  pub first : Tree
  pub others : List Tree
  pub all : AreAll d (first ∷ others)
  pub stands : d.iteration.current ≡ Some (steps_of first)

pub at_first : (f : ForestOf) (begun d : DerivationsOf) → f.forest.ranking ≡ Rule → IsBegun f begun → d.read ≡ begun.read → d.iteration.forest ≡ begun.iteration.forest →
    (more : Bool) → more ≡ true → ((given : List Tree) → AreGiven begun.iteration given → IsNext d given more) →
    ((given : List Tree) → AreGiven d.iteration given → IsPrefixOfAll d given) → AreAtFirst f.read d
at_first f begun d ranked is_begun same same_forest more is_true next known =
    let (tree, given, stands) = subst (λ z. IsNext d [] z) is_true (next [] is_begun.none) in
    let (rest, all) = known (tree ∷ []) given in
    record {
      of = same ∙ is_begun.read_is;
      ranked = cc (same_forest, is_begun.is, ranked);
      first = tree;
      others = rest;
      all = all;
      stands = stands;
    }

module _ (read : Read) (d : DerivationsOf) (at : AreAtFirst read d) where
  abbrev ValueOf : Arithmetic → Value → Arithmetic → Type 0
  ValueOf = ValueBy (λ s t symbol name token r. TokenGives name token r) (λ s t symbol name r. r ≡ Err NoNumber) (λ s t rule name children r. RuleGives rule children r) d

  abbrev FaultOf : Arithmetic → CalculationError → Arithmetic → Type 0
  FaultOf = FailsBy (λ s t symbol name token r. TokenGives name token r) (λ s t symbol name r. r ≡ Err NoNumber) (λ s t rule name children r. RuleGives rule children r) d

  abbrev AskedOf : Arithmetic → Arithmetic → Type 0
  AskedOf = IsAskedBy (λ s t symbol name token r. TokenGives name token r) (λ s t symbol name r. r ≡ Err NoNumber) (λ s t rule name children r. RuleGives rule children r) d

  has_first : (P : Read → Tree → Type 0) → P d.read at.first → HasFirst read (P read)
  has_first P p = record {
    derivations = d;
    of = at.of;
    ranked = at.ranked;
    first = at.first;
    others = at.others;
    all = at.all;
    holds = subst (λ r. P r at.first) at.of p;
  }

  -- where memory did not run out
  at_fault : (e : CalculationError) → HasFirst read (IsTreeFault read.grammar.g1 (tokens_of read.characters read.spans) e) → IsFirstFault read e
  at_fault (Parse error) is = is
  at_fault (DivisionByZero column) is = is
  at_fault (NoRoot column) is = is
  at_fault (NoFunction column) is = is
  at_fault (TooLarge column) is = is
  at_fault NoNumber is = is
  at_fault NoMemory is = tt

  pub worth_told : (before after : Arithmetic) (v : Value) (r : Result ℤ CalculationError) → ValueOf before v after → IsNumberOf v r → IfOk r (IsFirstWorth read)
  worth_told before after (Number n) (Ok m) value is =
      let same : m ≡ n = cc in
      subst (IsFirstWorth read) (sym same) (has_first (λ (x : Read). IsTreeWorth x.grammar.g1 (tokens_of x.characters x.spans) n) (before, after, value at.first at.stands))
  worth_told before after (Sign column) (Ok m) value is = cc
  worth_told before after (Function f column) (Ok m) value is = cc
  worth_told before after v (Err e) value is = tt

  pub fault_told : (before after : Arithmetic) (v : Value) (r : Result ℤ CalculationError) → ValueOf before v after → IsNumberOf v r → IfErr r (IsFirstFault read)
  fault_told before after v (Ok m) value is = tt
  fault_told before after v (Err e) value is =
      at_fault e (has_first (λ (x : Read). IsTreeFault x.grammar.g1 (tokens_of x.characters x.spans) e) (OfWhole before after v (value at.first at.stands) is))

  pub failure_told : (before after : Arithmetic) (error : FoldError CalculationError) → IsFailure (λ e. FaultOf before e after) (AskedOf before after) error → IsFirstFault read (fault_of error)
  failure_told before after (fold.Semantics e) fails =
      at_fault e (has_first (λ (x : Read). IsTreeFault x.grammar.g1 (tokens_of x.characters x.spans) e) (OfStep before after (subst AtSteps at.stands fails)))
    where
      AtSteps : Option (List Step) → Type 0
      AtSteps o =
          IfSome o (λ steps. Fails (λ s t symbol name token r. TokenGives name token r) (λ s t symbol name r. r ≡ Err NoNumber) (λ s t rule name children r. RuleGives rule children r) d.read.grammar.g1 (tokens_of d.read.characters d.read.spans) steps before e after)
  failure_told before after fold.NoMemory fails = tt
