-- The tokens of a reading have length one.
use Rattle.std.proofs.Common.{◌≡◌, ℕ, zero, suc, ◌<◌, List, [], ◌∷◌, map, length, slice_index_or, Contains, refl, subst, inl, inr, arith}
use Rattle.std.proofs.lemmas.List.Elements.{Contains-append_cases}
use Rattle.grammar_model.specs.declared.Edge.{Edge}
use Rattle.cursor_model.specs.Laws.{AreUnits}
use Rattle.reading_model.specs.Reading.{Piece, Token, Skipped, edges_of, edges_from}

abbrev edge_at : (place symbol : ℕ) → Edge
edge_at place symbol = record { symbol = symbol; from = place; to = suc place }

of_token : (place : ℕ) (symbols : List ℕ) (e : Edge) (k : ℕ) → k < length (map (edge_at place) symbols) → slice_index_or (map (edge_at place) symbols) k e ≡ e → e.to ≡ suc e.from
of_token place [] e k within is = absurd (omega (arith, within))
of_token place (s ∷ symbols) e zero within is = subst (λ (d : Edge). d.to ≡ suc d.from) is refl
of_token place (s ∷ symbols) e (suc k) within is = of_token place symbols e k (omega (arith, within)) is

edges_one : (place : ℕ) (pieces : List Piece) (e : Edge) → Contains (edges_from place pieces) e → e.to ≡ suc e.from
edges_one place [] e (k, within, is) = absurd (omega (arith, within))
edges_one place (Token n symbols ∷ pieces) e c = elim (Contains-append_cases (map (edge_at place) symbols) (edges_from (suc place) pieces) e c) [
  | inl (k, within, is) ↦ of_token place symbols e k within is
  | inr later ↦ edges_one (suc place) pieces e later
]
edges_one place (Skipped n ∷ pieces) e c = edges_one place pieces e c

pub units : (pieces : List Piece) → AreUnits (edges_of pieces)
units pieces e c = edges_one 0 pieces e c
