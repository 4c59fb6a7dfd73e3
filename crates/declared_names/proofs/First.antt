-- What the fold of the first derivation tells of its names.
use Rattle.std.proofs.Common.{◌≡◌, Bool, true, List, [], ◌∷◌, Option, Some, ◌∙◌, subst}
use Rattle.std.specs.Prelude.{IfSome}
use Rattle.grammar_model.specs.declared.Ranking.TheVariants.{Rule}
use Rattle.grammar_model.specs.Trees.{Tree}
use Rattle.grammar_model.specs.Steps.{Step, steps_of}
use Rattle.valuator.specs.Play.{tokens_of}
use Rattle.tree_iter.specs.Iteration.{AreGiven}
use Rattle.tree_fold.specs.Values.{Fails}
use Rattle.tree_fold.specs.Failing.{IsFailure}
use Rattle.tree_fold.specs.declared.semantics.FoldError.{FoldError}
use Rattle.tree_fold.specs.declared.semantics.FoldError.TheVariants.{Semantics}
use Rattle.slif_parser.specs.Views.{Read, ForestOf, DerivationsOf}
use Rattle.slif_parser.specs.Readings.{IsBegun, IsNext, IsPrefixOfAll, AreAll, ValueBy, FailsBy, IsAskedBy}
use Rattle.declared_names.specs.Names.{Mention, mentions_of}
use Rattle.declared_names.specs.Faults.{IsFaultOf}
use Rattle.declared_names.specs.Order.{HasFirst, AreInOrder, IsFaultIn}
use Rattle.declared_names.specs.Scope.{TokenGives, NulledGives, RuleGives}
use Rattle.declared_names.specs.declared.fault.Fault.{Fault}
use Rattle.declared_names.specs.declared.fault.Fault.TheVariants.{NotDeclared, DeclaredTwice, NoMemory}
use Rattle.declared_names.specs.declared.scope.Scope.{Scope}
use Rattle.declared_names.specs.declared.scope.Value.{Value}
use Rattle.declared_names.proofs.Mentions.{none_behind, behind_tree}
use Rattle.declared_names.proofs.Failing.{failing}

-- the derivations stand at their first
pub record AreAtFirst (read : Read) (d : DerivationsOf) : Type 0 where
  pub of : d.read ≡ read
  pub ranked : d.iteration.forest.ranking ≡ Rule
  pub first : Tree
  pub others : List Tree
  pub all : AreAll d (first ∷ others)
  pub stands : d.iteration.current ≡ Some (steps_of first)

pub at_first : (f : ForestOf) (begun d : DerivationsOf) → f.forest.ranking ≡ Rule → IsBegun f begun → d.read ≡ begun.read → d.iteration.forest ≡ begun.iteration.forest →
    (more : Bool) → more ≡ true → ((given : List Tree) → AreGiven begun.iteration given → IsNext d given more) →
    ((given : List Tree) → AreGiven d.iteration given → IsPrefixOfAll d given) → AreAtFirst f.read d
at_first f begun d ranked is_begun same same_forest more is_true next known =
    let (tree, given, stands) = subst (λ z. IsNext d [] z) is_true (next [] is_begun.none) in
    let (rest, all) = known (tree ∷ []) given in
    record {
      of = same ∙ is_begun.read_is;
      ranked = cc (same_forest, is_begun.is, ranked);
      first = tree;
      others = rest;
      all = all;
      stands = stands;
    }

module _ (read : Read) (d : DerivationsOf) (at : AreAtFirst read d) where
  has_first : (P : List Mention → Type 0) → P (mentions_of (tokens_of d.read.characters d.read.spans) at.first) → HasFirst read P
  has_first P p = record {
    derivations = d;
    of = at.of;
    ranked = at.ranked;
    first = at.first;
    others = at.others;
    all = at.all;
    holds = subst (λ (r : Read). P (mentions_of (tokens_of r.characters r.spans) at.first)) at.of p;
  }

  pub in_order : (before after : Scope) (v : Value) → before.declared.entries ≡ [] →
      ValueBy (λ s t symbol name token r. TokenGives s t token r) (λ s t symbol name r. NulledGives s t r) (λ s t rule name children r. RuleGives s t rule children r) d before v after → HasFirst read AreInOrder
  in_order before after v none value =
      let behind = behind_tree d.read.grammar.g1 (tokens_of d.read.characters d.read.spans) at.first before after v [] (value at.first at.stands) (none_behind before none) in
      has_first AreInOrder (behind.first, behind.once)

  fault_in : (before after : Scope) (e : Fault) → before.declared.entries ≡ [] →
      FailsBy (λ s t symbol name token r. TokenGives s t token r) (λ s t symbol name r. NulledGives s t r) (λ s t rule name children r. RuleGives s t rule children r) d before e after → IsFaultIn read e
  fault_in before after e none fails = told e (failing d.read.grammar.g1 (tokens_of d.read.characters d.read.spans) at.first before after e (none_behind before none) (subst AtSteps at.stands fails))
    where
      AtSteps : Option (List Step) → Type 0
      AtSteps o =
          IfSome o (λ steps. Fails (λ s t symbol name token r. TokenGives s t token r) (λ s t symbol name r. NulledGives s t r) (λ s t rule name children r. RuleGives s t rule children r) d.read.grammar.g1 (tokens_of d.read.characters d.read.spans) steps before e after)

      told : (f : Fault) → IsFaultOf (mentions_of (tokens_of d.read.characters d.read.spans) at.first) f → IsFaultIn read f
      told (NotDeclared name start) is = has_first (λ mentions. IsFaultOf mentions (NotDeclared name start)) is
      told (DeclaredTwice name start first) is = has_first (λ mentions. IsFaultOf mentions (DeclaredTwice name start first)) is
      told NoMemory is = tt

  pub fault_told : (before after : Scope) (error : FoldError Fault) (e : Fault) → before.declared.entries ≡ [] → error ≡ Semantics e →
      IsFailure (λ f. FailsBy (λ s t symbol name token r. TokenGives s t token r) (λ s t symbol name r. NulledGives s t r) (λ s t rule name children r. RuleGives s t rule children r) d before f after)
      (IsAskedBy (λ s t symbol name token r. TokenGives s t token r) (λ s t symbol name r. NulledGives s t r) (λ s t rule name children r. RuleGives s t rule children r) d before after) error → IsFaultIn read e
  fault_told before after error e none is failure =
      fault_in before after e none (subst (IsFailure (λ f. FailsBy (λ s t symbol name token r. TokenGives s t token r) (λ s t symbol name r. NulledGives s t r) (λ s t rule name children r. RuleGives s t rule children r) d before f after)
      (IsAskedBy (λ s t symbol name token r. TokenGives s t token r) (λ s t symbol name r. NulledGives s t r) (λ s t rule name children r. RuleGives s t rule children r) d before after)) is failure)
