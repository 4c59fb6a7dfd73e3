-- Reduced sets: over the edges of a list it is known which pairs are Leo, so the law of reduced sets has no other premise; and the
-- law at a grammar where one completion leads on through two pairs.
-- Source: Leo 1991 (a general context-free parsing algorithm running in linear time on every LR(k) grammar).
use Rattle.std.specs.Prelude.{ℕ, false, List, [], ◌∷◌}
use Rattle.grammar_model.specs.declared.Edge.{Edge}
use Rattle.grammar_model.specs.Derives.{Held}
use Rattle.recognizer_model.specs.declared.flat.FlatSymbol.TheVariants.{Terminal, Slot, Top}
use Rattle.recognizer_model.specs.declared.flat.FlatSource.TheVariants.{Written, Top as OfStart}
use Rattle.recognizer_model.specs.Flat.{FlatGrammar}
use Rattle.recognizer_model.specs.FlatForm.{FlatEdges}
use Rattle.recognizer_model.specs.Items.{first_item, advanced}
use Rattle.recognizer_model.specs.Contexts.{IsTop}
use Rattle.recognizer_model.specs.Leo.{IsLeo, LeadsTo, InReduced, IsHidden, LeoIsKnown, KeepsWaiting, ExpandsToAll}
use Rattle.grammar_laws.specs.Laws.{GoForward}

-- the reduced sets keep the items that wait, and their expanded sets are the full ones
pub record Agree (g : FlatGrammar) (edges : List Edge) (top place : ℕ) : Type 0 where
  pub known : LeoIsKnown g (FlatEdges g (Held edges)) top place
  pub keeps : KeepsWaiting g (FlatEdges g (Held edges)) top place
  pub expands : ExpandsToAll g (FlatEdges g (Held edges)) top place

abbrev pub ReducedSetsAgree : Type 0
ReducedSetsAgree = (g : FlatGrammar) (edges : List Edge) (top place : ℕ) → IsTop g top → GoForward (Held edges) → Agree g edges top place

-- A ::= a, S ::= A, and the top of S
abbrev pub chain : FlatGrammar
chain = record {
  symbols = Terminal 0 ∷ Slot 1 0 ∷ Slot 2 0 ∷ Top 0 ∷ [];
  nullable = false ∷ false ∷ false ∷ false ∷ [];
  rules = record { lhs = 1; rhs = 0 ∷ []; source = Written 0 } ∷ record { lhs = 2; rhs = 1 ∷ []; source = Written 1 } ∷ record { lhs = 3; rhs = 2 ∷ []; source = OfStart 0 } ∷ [];
  tops = 2 ∷ [];
}

abbrev pub one_token : List Edge
one_token = record { symbol = 0; from = 0; to = 1 } ∷ []

pub record ReducedSetsApply : Type 0 where
  pub first_pair : IsLeo chain (FlatEdges chain (Held one_token)) 2 0 1 (first_item 1 0)
  pub second_pair : IsLeo chain (FlatEdges chain (Held one_token)) 2 0 2 (first_item 2 0)
  pub leads : LeadsTo chain (FlatEdges chain (Held one_token)) 2 0 1 (advanced (first_item 2 0))
  pub kept : InReduced chain (FlatEdges chain (Held one_token)) 2 1 (advanced (first_item 2 0))
  pub hidden : IsHidden chain (FlatEdges chain (Held one_token)) 2 1 (advanced (first_item 1 0))
  pub agree : Agree chain one_token 2 1
