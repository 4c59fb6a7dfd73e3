-- The premises of the laws on flat forms, acceptable terminals, lists of all derivations and item sets, met at a small grammar.
use Rattle.std.proofs.Common.{◌≡◌, ℕ, zero, suc, ◌<◌, List, [], ◌∷◌, refl, subst, arith, lit<}
use Rattle.std.specs.Prelude.{◌↔◌, Contains, slice_get, Some}
use Rattle.grammar_model.specs.Grammar.{slot_of}
use Rattle.grammar_model.specs.Derives.{Held}
use Rattle.grammar_model.specs.declared.Edge.{Edge}
use Rattle.grammar_model.specs.declared.Ranking.TheVariants.{Rule as RuleRanks}
use Rattle.grammar_model.specs.Trees.{Tree}
use Rattle.grammar_model.specs.Order.{rank_order}
use Rattle.grammar_model.specs.All.{IsAll}
use Rattle.grammar_model.specs.Acceptable.{IsAcceptable}
use Rattle.recognizer_model.specs.declared.flat.FlatSymbol.TheVariants.{Terminal}
use Rattle.recognizer_model.specs.Flat.{lhs_of}
use Rattle.recognizer_model.specs.View.{grammar_view}
use Rattle.recognizer_model.specs.Acceptable.{IsTerminal}
use Rattle.recognizer_model.specs.FlatForm.{FlatEdges, IsFlatForm, FlatGrammarsAreFlatForms, AcceptableAreFlat, ListsExist}
use Rattle.recognizer_model.specs.Laws.{AreTokens, IsSound, HasEarleyLaws, EarleyLawsHold}
use Rattle.flat_model.specs.Lists.{lists, flat_lists}
use Rattle.flat_rules.proofs.ListsChecked.{checked, lists_have_flat_grammar}

-- the symbols one after another
abbrev laid : ℕ → List ℕ → List Edge
laid at [] = []
laid at (s ∷ ss) = record { symbol = s; from = at; to = suc at } ∷ laid (suc at) ss

forward : (at : ℕ) (ss : List ℕ) (e : Edge) → Contains (laid at ss) e → e.from < e.to
forward at [] e (k, lt, is) = absurd (omega arith)
forward at (s ∷ ss) e (zero, lt, is) = let P : Edge → Type 0 = λ z. z.from < z.to in subst P is (omega arith)
forward at (s ∷ ss) e (suc k, lt, is) = forward (suc at) ss e (k, omega arith, is)

-- N comma N, as written terminals and as flat symbols
abbrev edges : List Edge
edges = laid 0 (3 ∷ 4 ∷ 3 ∷ [])

abbrev flat_edges : List Edge
flat_edges = laid 0 (0 ∷ 1 ∷ 0 ∷ [])

edges_forward : (s p q : ℕ) → Held edges s p q → p < q
edges_forward s p q h = forward 0 (3 ∷ 4 ∷ 3 ∷ []) (record { symbol = s; from = p; to = q }) h

form : FlatGrammarsAreFlatForms → IsFlatForm flat_lists lists (Held edges) RuleRanks
form law = law flat_lists lists edges RuleRanks lists_have_flat_grammar.flat lists_have_flat_grammar.made checked edges_forward

listed : ListsExist → (trees : List Tree) × IsAll lists (Held edges) (rank_order lists RuleRanks) (slot_of 0) 0 3 trees
listed law = law flat_lists lists edges RuleRanks lists_have_flat_grammar.flat lists_have_flat_grammar.made checked edges_forward 11 (slot_of 0) 0 3 (lit< tt) (0, refl, refl)

-- after the last N a comma
acceptable : AcceptableAreFlat → IsAcceptable lists (Held edges) 0 4 3
    ↔ ((x : ℕ) × (slice_get flat_lists.symbols x ≡ Some (Terminal 4)) × IsAcceptable (grammar_view flat_lists) (FlatEdges flat_lists (Held edges)) (lhs_of flat_lists 13) x 3)
acceptable law = law flat_lists lists edges 0 0 13 4 3 lists_have_flat_grammar.flat lists_have_flat_grammar.made checked edges_forward refl refl

sound : IsSound flat_lists 13
sound = record {
  is_top = (lists_have_flat_grammar.flat.tops 0 13 refl).is_top;
  no_rules = lists_have_flat_grammar.flat.no_rules;
  marks = lists_have_flat_grammar.flat.marks;
  productive = λ r position x rule e. lists_have_flat_grammar.flat.productive x (lists_have_flat_grammar.flat.in_range.parts r position x rule e);
  spans = lists_have_flat_grammar.flat.terminals_span;
}

is_terminal : (e : Edge) → Contains flat_edges e → IsTerminal flat_lists e.symbol
is_terminal e (zero, lt, is) = subst (λ (z : Edge). IsTerminal flat_lists z.symbol) is (3, refl)
is_terminal e (suc zero, lt, is) = subst (λ (z : Edge). IsTerminal flat_lists z.symbol) is (4, refl)
is_terminal e (suc (suc zero), lt, is) = subst (λ (z : Edge). IsTerminal flat_lists z.symbol) is (3, refl)
is_terminal e (suc (suc (suc k)), lt, is) = absurd (omega arith)

tokens : AreTokens flat_lists flat_edges
tokens = record { terminal = is_terminal; forward = forward 0 (0 ∷ 1 ∷ 0 ∷ []) }

earley : EarleyLawsHold → HasEarleyLaws flat_lists flat_edges 13
earley law = law flat_lists flat_edges 13 sound
