-- What a recognizer that holds the edges of pieces tells of them: the symbols that are acceptable next, and whether they have a derivation.
use Rattle.std.proofs.Common.{arith, ◌↔◌, ℕ, ◌<◌, List, length, slice_index, subst}
use Rattle.std.proofs.lemmas.Option.{slice_get-get_or}
use Rattle.grammar_model.specs.Checked.{IsChecked}
use Rattle.grammar_model.specs.declared.Ranking.{Ranking}
use Rattle.grammar_model.specs.Grammar.{slot_of}
use Rattle.grammar_model.specs.Trees.{Tree}
use Rattle.grammar_model.specs.Derives.{Held, Derives, Line}
use Rattle.grammar_model.specs.Acceptable.{IsAcceptable}
use Rattle.recognizer_model.specs.FlatForm.{IsFlatForm}
use Rattle.recognizer_model.proofs.Words.{line_forward}
use Rattle.recognizer_model.proofs.FlatFormLaw.{flat_form}
use Rattle.recognizer_model.proofs.Expected.{to_flat, from_flat}
use Rattle.language_model.specs.Building.{Built}
use Rattle.reading_model.specs.Reading.{Piece, edges_of, IsNext, HasDerivation}
use Rattle.earley_sets.specs.Recognizer.{Recognizer, IsRecognizer, IsExpected, HasTree, top_of, earleme_of}
use Rattle.earley_sets.specs.Laws.{TreesAreDerivations}
use Rattle.scanless.specs.Reading.{HoldsPieces}

module _ (b : Built) (checked : IsChecked b.g1) (pieces : List Piece) (recce : Recognizer) (is : IsRecognizer recce) (holds : HoldsPieces b pieces recce) where
  forward : (s p q : ℕ) → Held recce.edges s p q → p < q
  forward s p q held = is.forward (record { symbol = s; from = p; to = q }) held

  forms : (words : List ℕ) (ranking : Ranking) → IsFlatForm recce.flat b.g1 (Line words) ranking
  forms words ranking = flat_form recce.flat b.g1 is.flat holds.flat.made checked (Line words) (line_forward words) ranking

  start_within : recce.start < length b.g1.starts
  start_within = let e = holds.flat.made.tops_all in omega (arith, e, is.start)

  law : (t : ℕ) → IsExpected recce t ↔ IsAcceptable b.g1 (Held recce.edges) (slice_index b.g1.starts recce.start) t (earleme_of recce)
  law t =
      let at = slice_get-get_or b.g1.starts recce.start 0 start_within in
      let top = slice_get-get_or recce.flat.tops recce.start 0 is.start in (
        (λ h. from_flat recce.flat b.g1 is.flat (Held recce.edges) forward forms recce.start (slice_index b.g1.starts recce.start) (top_of recce) at top t (earleme_of recce) h.0 h.1 h.2),
        (λ a. to_flat recce.flat b.g1 is.flat (Held recce.edges) forward forms recce.start (slice_index b.g1.starts recce.start) (top_of recce) at top t (earleme_of recce) a),
      )

  pub next_is : (t : ℕ) → IsExpected recce t ↔ IsNext b pieces t
  next_is t =
      subst (λ place. IsExpected recce t ↔ IsAcceptable b.g1 (Held (edges_of pieces)) (slice_index b.g1.starts 0) t place) holds.place
      (subst (λ edges. IsExpected recce t ↔ IsAcceptable b.g1 (Held edges) (slice_index b.g1.starts 0) t (earleme_of recce)) holds.edges
      (subst (λ start. IsExpected recce t ↔ IsAcceptable b.g1 (Held recce.edges) (slice_index b.g1.starts start) t (earleme_of recce)) holds.start (law t)))

  -- the tokens have a derivation exactly where there is a tree
  pub derived_is : TreesAreDerivations → HasTree recce ↔ HasDerivation b pieces
  derived_is trees =
      subst (λ place. HasTree recce ↔ ((tree : Tree) × Derives b.g1 (Held (edges_of pieces)) (slot_of (slice_index b.g1.starts 0)) 0 place tree)) holds.place
      (subst (λ edges. HasTree recce ↔ ((tree : Tree) × Derives b.g1 (Held edges) (slot_of (slice_index b.g1.starts 0)) 0 (earleme_of recce) tree)) holds.edges
      (subst (λ start. HasTree recce ↔ ((tree : Tree) × Derives b.g1 (Held recce.edges) (slot_of (slice_index b.g1.starts start)) 0 (earleme_of recce) tree)) holds.start
      (trees b.g1 recce (slice_index b.g1.starts recce.start) checked holds.flat.made is (slice_get-get_or b.g1.starts recce.start 0 start_within))))
