-- What is read has a chosen derivation wherever it has any.
use Rattle.std.proofs.Common.{◌≡◌, ◌↔◌, ◌<◌, ℕ, Contains, List, [], ◌∷◌, length, map, slice_index_or, refl, sym, subst, arith}
use Rattle.std.proofs.lemmas.Option.{slice_get-get_or}
use Rattle.finite_sets.proofs.Lists.{get_index, Contains-none}
use Rattle.grammar_model.specs.declared.Edge.{Edge}
use Rattle.grammar_model.specs.declared.Ranking.{Ranking}
use Rattle.grammar_model.specs.Grammar.{Grammar, slot_of}
use Rattle.grammar_model.specs.Trees.{Tree}
use Rattle.grammar_model.specs.Derives.{Held, Derives}
use Rattle.grammar_model.specs.Order.{rank_order}
use Rattle.grammar_model.specs.All.{IsAll}
use Rattle.grammar_model.specs.Chosen.{AreChosen}
use Rattle.grammar_model.specs.Checked.{IsChecked}
use Rattle.recognizer_model.specs.declared.flat.FlatSymbol.TheVariants.{Top}
use Rattle.recognizer_model.specs.Flat.{FlatGrammar, lhs_of}
use Rattle.recognizer_model.specs.FlatForm.{IsFlatOf, StandsFor, symbol_at, tree_of}
use Rattle.recognizer_model.specs.Invariant.{IsFlat, IsTopOf}
use Rattle.recognizer_model.proofs.FlatChosen.{chosen_some}
use Rattle.recognizer_model.proofs.FlatFormLaw.{flat_form}
use Rattle.recognizer_model.proofs.FlatListed.{flat_list, written_all}
use Rattle.reading_model.specs.Reading.{edges_of, earleme_after}
use Rattle.reading_laws.specs.Lists.{PiecesLeaveSome}
use Rattle.reading_laws.proofs.Candidates.{pieces_forward}
use Rattle.reading_laws.proofs.Lists.{flat_form_exists}
use Rattle.reading_laws.proofs.Short.{built_are_short}

module _ (w : Grammar) (f : FlatGrammar) (flat : IsFlat f) (made : IsFlatOf f w) (checked : IsChecked w) (edges : List Edge) (forward : (s p q : ℕ) → Held edges s p q → p < q) (ranking : Ranking) where
  some_top : 0 < length f.tops
  some_top = let some = checked.some_start in let all = made.tops_all in omega (arith, some, all)

  is_top : IsTopOf f 0 (slice_index_or f.tops 0 0)
  is_top = flat.tops 0 (slice_index_or f.tops 0 0) (slice_get-get_or f.tops 0 0 some_top)

  stands : StandsFor w (symbol_at f (lhs_of f (slice_index_or f.tops 0 0))) (slot_of (slice_index_or w.starts 0 0))
  stands =
      subst (λ s. StandsFor w s (slot_of (slice_index_or w.starts 0 0))) (sym (get_index f.symbols (lhs_of f (slice_index_or f.tops 0 0)) (Top 0) (Top 0) is_top.symbol).1)
      (slice_index_or w.starts 0 0, slice_get-get_or w.starts 0 0 checked.some_start, refl)

  within : lhs_of f (slice_index_or f.tops 0 0) < length f.symbols
  within = (get_index f.symbols (lhs_of f (slice_index_or f.tops 0 0)) (Top 0) (Top 0) is_top.symbol).0

  empty : (place : ℕ) (all : List Tree) → IsAll w (Held edges) (rank_order w ranking) (slot_of (slice_index_or w.starts 0 0)) 0 place all →
      ((tree : Tree) × Derives w (Held edges) (slot_of (slice_index_or w.starts 0 0)) 0 place tree → ⊥) → all ≡ []
  empty place [] every none = refl
  empty place (t ∷ ts) every none = absurd (none (t, (every.each t).0 (0, omega arith, refl)))

  pub leaves_some : (place : ℕ) (chosen : List Tree) → AreChosen w (Held edges) ranking (slot_of (slice_index_or w.starts 0 0)) 0 place chosen →
      (chosen ≡ []) ↔ ((tree : Tree) × Derives w (Held edges) (slot_of (slice_index_or w.starts 0 0)) 0 place tree → ⊥)
  leaves_some place chosen are =
      let l = flat_list f w flat ranking edges forward (slot_of (lhs_of f (slice_index_or f.tops 0 0))) 0 place in
      let every = written_all f w flat ranking edges forward (flat_form f w flat made checked (Held edges) forward ranking) (lhs_of f (slice_index_or f.tops 0 0)) 0 place
      (slot_of (slice_index_or w.starts 0 0)) l.0 within stands l.1 in
      let both = chosen_some f w edges ranking (record { flat = flat; made = made; checked = checked; forward = forward }) (lhs_of f (slice_index_or f.tops 0 0))
      (slot_of (slice_index_or w.starts 0 0)) 0 place chosen (map (tree_of w f) l.0) within stands are every in (
        λ none (tree, d). Contains-none tree (subst (λ all. Contains all tree) (both.0 none) ((every.each tree).1 d)),
        λ none. both.1 (empty place (map (tree_of w f) l.0) every none),
      )

pub pieces_leave_some : PiecesLeaveSome
pieces_leave_some b ranking pieces chosen built accepted are =
    let checked = accepted.checked.structural in
    let (f, flat, made) = flat_form_exists b.g1 checked accepted.structural (built_are_short b built) in
    leaves_some b.g1 f flat made checked (edges_of pieces) (pieces_forward pieces) ranking (earleme_after pieces) chosen are
