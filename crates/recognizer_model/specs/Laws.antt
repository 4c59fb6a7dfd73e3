-- The theorems of flat grammars, over edges of terminals that go forward.
use Rattle.std.specs.Prelude.{ℕ, List, ◌<◌, Contains}
use Rattle.grammar_model.specs.declared.Edge.{Edge}
use Rattle.recognizer_model.specs.Flat.{FlatGrammar}
use Rattle.grammar_model.specs.Derives.{Edges, Held}
use Rattle.recognizer_model.specs.FlatForm.{FlatEdges}
use Rattle.recognizer_model.specs.Contexts.{IsTop, ItemsAreFound}
use Rattle.recognizer_model.specs.Leo.{LeoIsKnown, KeepsWaiting, ExpandsToAll}
use Rattle.recognizer_model.specs.Acceptable.{IsTerminal, MarksAreClosed, PartsAreProductive, NoTerminalHasRules, TerminalsSpan, AcceptableAreAwaited}
use Rattle.grammar_model.specs.Grammar.{Grammar}
use Rattle.grammar_model.specs.declared.Ranking.{Ranking}
use Rattle.recognizer_model.specs.Chosen.{LeavesSome, allowed_by}
use Rattle.recognizer_model.specs.Nodes.{UsedAreMet}
use Rattle.recognizer_model.specs.View.{SameDerivations}

-- edges of terminals, each from one place to a later one
pub record AreTokens (g : FlatGrammar) (edges : List Edge) : Type 0 where
  pub terminal : (e : Edge) → Contains edges e → IsTerminal g e.symbol
  pub forward : (e : Edge) → Contains edges e → e.from < e.to

-- what the theorems ask of a flat grammar
pub record IsSound (g : FlatGrammar) (top : ℕ) : Type 0 where
  pub is_top : IsTop g top
  pub no_rules : NoTerminalHasRules g
  pub marks : MarksAreClosed g
  pub productive : PartsAreProductive g
  pub spans : TerminalsSpan g

-- over edges of terminals that go forward
pub record EarleyLaws (g : FlatGrammar) (E : Edges) (top : ℕ) : Type 0 where
  pub found : ItemsAreFound g E top
  pub keeps : (place : ℕ) → LeoIsKnown g E top place → KeepsWaiting g E top place
  pub expands : (place : ℕ) → LeoIsKnown g E top place → ExpandsToAll g E top place
  pub acceptable : AcceptableAreAwaited g E top
  pub same : SameDerivations g E
  pub used : (w : Grammar) (ranking : Ranking) → LeavesSome g E (allowed_by w ranking g E) → UsedAreMet g E (allowed_by w ranking g E) top

-- the laws, over edges of flat symbols and over edges of written terminals
pub record HasEarleyLaws (g : FlatGrammar) (edges : List Edge) (top : ℕ) : Type 0 where
  pub flat : AreTokens g edges → EarleyLaws g (Held edges) top
  pub written : ((s p q : ℕ) → Held edges s p q → p < q) → EarleyLaws g (FlatEdges g (Held edges)) top

abbrev pub EarleyLawsHold : Type 0
EarleyLawsHold = (g : FlatGrammar) (edges : List Edge) (top : ℕ) → IsSound g top → HasEarleyLaws g edges top
