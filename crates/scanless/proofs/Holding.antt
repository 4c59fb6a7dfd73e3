-- What pieces hold with one piece more.
use Rattle.std.proofs.Common.{arith, ◌≡◌, inl, inr, ℕ, suc, ◌+◌, ◌<◌, List, [], ◌∷◌, ◌++◌, Contains, append_assoc, append-nil, refl, sym, ◌∙◌, ap, subst}
use Rattle.std.proofs.lemmas.List.Elements.{Contains-append_cases}
use Rattle.finite_sets.proofs.Lists.{Contains-none}
use Rattle.grammar_model.specs.declared.Edge.{Edge}
use Rattle.language_model.specs.Building.{Built}
use Rattle.reading_model.specs.Reading.{Piece, Token, Skipped, earleme_after, edges_from, edges_of, spans_from, ReadsWith}
use Rattle.flat_model.specs.Flattened.{IsFlattened}
use Rattle.earley_sets.specs.Recognizer.{Recognizer, earleme_of}
use Rattle.earley_sets.proofs.Membership.{Contains-map_from}
use Rattle.scanless.specs.Taking.{token_edges, Takes}
use Rattle.scanless.specs.Reading.{HoldsPieces}
use Rattle.reading_model.proofs.Characters.{characters, characters_are}
use Rattle.reading_model.proofs.Behind.{place_token, place_skipped}

-- ---- edges

edges_token : (place : ℕ) (ps : List Piece) (n : ℕ) (ss : List ℕ) → edges_from place (ps ++ Token n ss ∷ []) ≡ edges_from place ps ++ token_edges (place + earleme_after ps) ss
edges_token place [] n ss = append-nil (token_edges place ss) ∙ ap (λ k. token_edges k ss) (let e : place ≡ place + 0 = omega arith in e)
edges_token place (Token k qs ∷ ps) n ss =
    ap (λ es. token_edges place qs ++ es) (edges_token (suc place) ps n ss) ∙ (sym (append_assoc (token_edges place qs) (edges_from (suc place) ps) (token_edges (suc place + earleme_after ps) ss))
    ∙ ap (λ k. (token_edges place qs ++ edges_from (suc place) ps) ++ token_edges k ss) (let e : suc place + earleme_after ps ≡ place + suc (earleme_after ps) = omega arith in e))
edges_token place (Skipped k ∷ ps) n ss = edges_token place ps n ss

edges_skipped : (place : ℕ) (ps : List Piece) (n : ℕ) → edges_from place (ps ++ Skipped n ∷ []) ≡ edges_from place ps
edges_skipped place [] n = refl
edges_skipped place (Token k qs ∷ ps) n = ap (λ es. token_edges place qs ++ es) (edges_skipped (suc place) ps n)
edges_skipped place (Skipped k ∷ ps) n = edges_skipped place ps n

edges_begun : (place : ℕ) (ps : List Piece) (e : Edge) → Contains (edges_from place ps) e → e.from < place + earleme_after ps
edges_begun place [] e c = absurd (Contains-none e c)
edges_begun place (Token k qs ∷ ps) e c = elim (Contains-append_cases (token_edges place qs) (edges_from (suc place) ps) e c) [
  | inl here ↦ (let (s, m, is) = Contains-map_from (λ s. record { symbol = s; from = place; to = suc place }) qs e here in let from_is : e.from ≡ place = ap (λ (d : Edge). d.from) is in omega (arith, from_is))
  | inr later ↦ (let lt = edges_begun (suc place) ps e later in omega (arith, lt))
]
edges_begun place (Skipped k ∷ ps) e c = edges_begun place ps e c

-- ---- spans

spans_token : (at : ℕ) (ps : List Piece) (n : ℕ) (ss : List ℕ) → spans_from at (ps ++ Token n ss ∷ []) ≡ spans_from at ps ++ (at + characters ps, n) ∷ []
spans_token at [] n ss = ap (λ k. (k, n) ∷ []) (let e : at ≡ at + 0 = omega arith in e)
spans_token at (Token k qs ∷ ps) n ss =
    ap (λ l. (at, k) ∷ l) (spans_token (at + k) ps n ss ∙ ap (λ j. spans_from (at + k) ps ++ (j, n) ∷ []) (let e : at + k + characters ps ≡ at + (k + characters ps) = omega arith in e))
spans_token at (Skipped k ∷ ps) n ss =
    spans_token (at + k) ps n ss ∙ ap (λ j. spans_from (at + k) ps ++ (j, n) ∷ []) (let e : at + k + characters ps ≡ at + (k + characters ps) = omega arith in e)

spans_skipped : (at : ℕ) (ps : List Piece) (n : ℕ) → spans_from at (ps ++ Skipped n ∷ []) ≡ spans_from at ps
spans_skipped at [] n = refl
spans_skipped at (Token k qs ∷ ps) n = ap (λ l. (at, k) ∷ l) (spans_skipped (at + k) ps n)
spans_skipped at (Skipped k ∷ ps) n = spans_skipped (at + k) ps n

pub spans_with_token : {b : Built} {given text : List ℕ} {at : ℕ} {pieces : List Piece} → ReadsWith b given text at pieces → (n : ℕ) (ss : List ℕ) → spans_from 0 (pieces ++ Token n ss ∷ []) ≡ spans_from 0 pieces ++ (at, n) ∷ []
spans_with_token {pieces = pieces} r n ss = spans_token 0 pieces n ss ∙ ap (λ k. spans_from 0 pieces ++ (k, n) ∷ []) (let e = characters_are r in omega (arith, e))

pub spans_with_skipped : (pieces : List Piece) (n : ℕ) → spans_from 0 (pieces ++ Skipped n ∷ []) ≡ spans_from 0 pieces
spans_with_skipped pieces n = spans_skipped 0 pieces n

-- ---- a recognizer

module _ (b : Built) (pieces : List Piece) (old : Recognizer) (holds : HoldsPieces b pieces old) where
  pub holds_begun : (e : Edge) → Contains old.edges e → e.from < earleme_of old
  holds_begun e c =
      let lt = edges_begun 0 pieces e (subst (λ es. Contains es e) holds.edges c) in
      let p = holds.place in
      omega (arith, lt, p)

  pub holds_token : (new : Recognizer) (n : ℕ) (ss : List ℕ) → Takes old new ss → HoldsPieces b (pieces ++ Token n ss ∷ []) new
  holds_token new n ss t = record {
    flat = subst (IsFlattened b.g1) (sym t.flat) holds.flat;
    start = t.start ∙ holds.start;
    edges = t.edges ∙ (ap (λ es. es ++ token_edges (earleme_of old) ss) holds.edges ∙ (ap (λ k. edges_of pieces ++ token_edges k ss) (let p = holds.place in let e : earleme_of old ≡ 0 + earleme_after pieces = omega (arith, p) in e) ∙ sym (edges_token 0 pieces n ss)));
    place = t.place ∙ (ap suc holds.place ∙ sym (place_token pieces n ss));
  }

  pub holds_skipped : (n : ℕ) → HoldsPieces b (pieces ++ Skipped n ∷ []) old
  holds_skipped n = record {
    flat = holds.flat;
    start = holds.start;
    edges = holds.edges ∙ sym (edges_skipped 0 pieces n);
    place = holds.place ∙ sym (place_skipped pieces n);
  }
