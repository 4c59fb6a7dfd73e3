-- Pieces that are one token each, of one symbol and one character: their edges are those of a line.
use Rattle.std.proofs.Common.{◌≡◌, ℕ, zero, suc, ◌+◌, ◌<◌, List, [], ◌∷◌, ◌++◌, length, map, slice_get, slice_index_or, Contains, Some, refl, sym, ap, subst, arith}
use Rattle.std.proofs.lemmas.List.{map-append}
use Rattle.std.proofs.lemmas.Option.{same_Some, none-some}
use Rattle.grammar_model.specs.Acceptable.{Spells}
use Rattle.grammar_model.specs.declared.Edge.{Edge}
use Rattle.grammar_model.specs.Derives.{Edges, Held, Line}
use Rattle.reading_model.specs.Reading.{Piece, Token, earleme_after, edges_from, edges_of}
use Rattle.work_laws.proofs.Shapes.{At, AreEdges}

abbrev pub one : ℕ → Piece
one symbol = Token 1 (symbol ∷ [])

abbrev pub ones : List ℕ → List Piece
ones w = map one w

pub place_after_ones : (w : List ℕ) → earleme_after (ones w) ≡ length w
place_after_ones [] = refl
place_after_ones (s ∷ w) = ap suc (place_after_ones w)

pub one_more : (w : List ℕ) (s : ℕ) → ones (w ++ s ∷ []) ≡ ones w ++ one s ∷ []
one_more w s = map-append one w (s ∷ [])

-- ---- the edges

abbrev edge_at : ℕ → ℕ → Edge
edge_at symbol p = record { symbol = symbol; from = p; to = suc p }

held_at : (w : List ℕ) (place k p s : ℕ) → slice_get w k ≡ Some s → place + k ≡ p → Contains (edges_from place (ones w)) (edge_at s p)
held_at [] place k p s e at = absurd (none-some _ e)
held_at (x ∷ w) place zero p s e at = (0, omega arith, λ j. edge_at (same_Some _ _ e j) (here j))
  where
    here : place ≡ p
    here = omega (arith, at)
held_at (x ∷ w) place (suc k) p s e at = let (n, lt, is) = held_at w (suc place) k p s e (omega (arith, at)) in (suc n, omega (arith, lt), is)

held_back : (w : List ℕ) (place n : ℕ) (x : Edge) → n < length (edges_from place (ones w)) → slice_index_or (edges_from place (ones w)) n x ≡ x →
    (k : ℕ) × (place + k ≡ x.from) × (suc x.from ≡ x.to) × (slice_get w k ≡ Some x.symbol)
held_back [] place n x lt e = absurd (omega (arith, lt))
held_back (s ∷ w) place zero x lt e =
    let from : place ≡ x.from = ap (λ (y : Edge). y.from) e in
    let to : suc place ≡ x.to = ap (λ (y : Edge). y.to) e in
    (0, omega (arith, from), omega (arith, from, to), ap (λ (y : Edge). Some y.symbol) e)
held_back (s ∷ w) place (suc n) x lt e =
    let (k, from, to, is) = held_back w (suc place) n x (omega (arith, lt)) e in
    (suc k, omega (arith, from), to, is)

pub edges_of_ones : (w : List ℕ) → AreEdges w (Held (edges_of (ones w)))
edges_of_ones w = record {
  from_edge = λ s p q (n, lt, e).
      let (k, from, to, is) = held_back w 0 n (record { symbol = s; from = p; to = q }) lt e in
      (subst (λ z. At w z s) (let here : k ≡ p = omega (arith, from) in here) is, to);
  to_edge = λ s p a. held_at w 0 p p s a (omega arith);
}

pub line_edges : (w : List ℕ) → AreEdges w (Line w)
line_edges w = record { from_edge = λ s p q (a, e). (a, sym e); to_edge = λ s p a. (a, refl) }

-- ---- a line is spelled by its edges

spelled_from : (w : List ℕ) (edge : Edges) → AreEdges w edge → (rest : List ℕ) (p q : ℕ) → ((k s : ℕ) → slice_get rest k ≡ Some s → At w (p + k) s) → p + length rest ≡ q → Spells edge p q rest
spelled_from w edge are [] p q h e = omega (arith, e)
spelled_from w edge are (s ∷ rest) p q h e = (
  suc p,
  are.to_edge s p (subst (λ z. At w z s) (let here : p + 0 ≡ p = omega arith in here) (h 0 s refl)),
  spelled_from w edge are rest (suc p) q (λ k t is. subst (λ z. At w z t) (let here : p + suc k ≡ suc p + k = omega arith in here) (h (suc k) t is)) (omega (arith, e)),
)

pub ones_spelled : (w : List ℕ) → Spells (Held (edges_of (ones w))) 0 (earleme_after (ones w)) w
ones_spelled w =
    let long = place_after_ones w in
    spelled_from w (Held (edges_of (ones w))) (edges_of_ones w) w 0 (earleme_after (ones w)) (λ k s is. subst (λ z. At w z s) (let here : k ≡ 0 + k = omega arith in here) is) (omega (arith, long))
