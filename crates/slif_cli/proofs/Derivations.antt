-- A derivation of the written grammar is one of the flat grammar, so its reading has a forest.
use Rattle.std.proofs.Common.{ℕ, ◌<◌, List, [], length, None, refl, sym, subst, arith, slice_index_or}
use Rattle.std.proofs.lemmas.Option.{slice_get-get_or}
use Rattle.finite_sets.proofs.Lists.{get_index}
use Rattle.grammar_model.specs.declared.Edge.{Edge}
use Rattle.grammar_model.specs.declared.Ranking.TheVariants.{Rule as RuleRanks}
use Rattle.grammar_model.specs.Grammar.{Grammar, slot_of}
use Rattle.grammar_model.specs.Trees.{Tree}
use Rattle.grammar_model.specs.Derives.{Held, Derives}
use Rattle.grammar_model.specs.Checked.{IsChecked}
use Rattle.recognizer_model.specs.declared.flat.FlatSymbol.TheVariants.{Top}
use Rattle.recognizer_model.specs.Flat.{FlatGrammar, lhs_of}
use Rattle.recognizer_model.specs.FlatForm.{IsFlatOf, FlatEdges, StandsFor, symbol_at}
use Rattle.recognizer_model.specs.Acceptable.{OnlyTerminals}
use Rattle.recognizer_model.specs.Invariant.{IsFlat, IsTopOf}
use Rattle.recognizer_model.proofs.FlatFormLaw.{flat_form}
use Rattle.recognizer_model.proofs.Views.{symbol_back}
use Rattle.forest_model.specs.Forest.{Forest, IsDerived}

-- a reading, and no nodes
abbrev pub reading_by : Grammar → FlatGrammar → List Edge → (place : ℕ) → Forest
reading_by w f edges place = record { written = w; flat = f; start = 0; edges = edges; place = place; ranking = RuleRanks; nodes = []; root = None }

module _ (w : Grammar) (f : FlatGrammar) (flat : IsFlat f) (made : IsFlatOf f w) (checked : IsChecked w) (edges : List Edge) (forward : (s p q : ℕ) → Held edges s p q → p < q) (place : ℕ) where
  abbrev top : ℕ
  top = slice_index_or f.tops 0 0

  some_top : 0 < length f.tops
  some_top = let some = checked.some_start in let all = made.tops_all in omega (arith, some, all)

  is_top : IsTopOf f 0 (slice_index_or f.tops 0 0)
  is_top = flat.tops 0 top (slice_get-get_or f.tops 0 0 some_top)

  stands : StandsFor w (symbol_at f (lhs_of f (slice_index_or f.tops 0 0))) (slot_of (slice_index_or w.starts 0 0))
  stands =
      subst (λ s. StandsFor w s (slot_of (slice_index_or w.starts 0 0))) (sym (get_index f.symbols (lhs_of f top) (Top 0) (Top 0) is_top.symbol).1)
      (slice_index_or w.starts 0 0, slice_get-get_or w.starts 0 0 checked.some_start, refl)

  only : OnlyTerminals f (FlatEdges f (Held edges))
  only x p q e = (e.0, e.1)

  pub derived_of : (tree : Tree) → Derives w (Held edges) (slot_of (slice_index_or w.starts 0 0)) 0 place tree → IsDerived (reading_by w f edges place)
  derived_of tree d =
      let form = flat_form f w flat made checked (Held edges) forward RuleRanks in
      let (u, under, same) = form.whole (lhs_of f top) 0 place (slot_of (slice_index_or w.starts 0 0)) tree (get_index f.symbols (lhs_of f top) (Top 0) (Top 0) is_top.symbol).0 stands d in
      record {
        checked = checked;
        flat = flat;
        flat_of = made;
        start = some_top;
        forward = λ e c. forward e.symbol e.from e.to c;
        tree = u;
        derives = symbol_back f flat.marks (FlatEdges f (Held edges)) only flat.no_rules flat.terminals_span u (slot_of (lhs_of f top)) 0 place under;
      }
