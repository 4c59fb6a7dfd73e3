-- What a reading gives fits what is played: its tokens' spans, their texts, and the steps of derivations over its edges.
use Rattle.std.proofs.Common.{arith, ◌≡◌, inl, inr, ℕ, zero, suc, ◌+◌, ◌<◌, ◌≤◌, List, [], ◌∷◌, length, map, Contains, refl, sym, ◌∙◌, ap, subst}
use Rattle.std.proofs.lemmas.List.{length-map}
use Rattle.std.proofs.lemmas.List.Elements.{Contains-append_cases}
use Rattle.finite_sets.proofs.Lists.{Contains-none}
use Rattle.grammar_model.specs.declared.Edge.{Edge}
use Rattle.grammar_model.specs.Grammar.{Grammar, Slot, WrittenRule, slot_of, rule_at, child_slot}
use Rattle.grammar_model.specs.Trees.{Tree, Children, Leaf, Nulled, Node, NoChild, Child, child_count}
use Rattle.grammar_model.specs.Derives.{Edges, Held, Derives, DerivesPrefix}
use Rattle.grammar_model.specs.Steps.{steps_of}
use Rattle.grammar_model.specs.declared.limits.TheConstants.{LAST_PLACE, LONGEST_INPUT}
use Rattle.grammar_core.specs.declared.steps.Span.{Span}
use Rattle.earley_sets.proofs.Membership.{Contains-map_from}
use Rattle.language_model.specs.Building.{Built}
use Rattle.reading_model.specs.Reading.{Piece, Token, Skipped, earleme_after, edges_from, edges_of, spans_from, End, IsReadingWith, HasEnded}
use Rattle.run_model.specs.Listing.{token_at_span}
use Rattle.scanless.specs.Reading.{span_of}
use Rattle.valuator.specs.Play.{tokens_of, AreSpans, OnePlace, AreSteps}
use Rattle.reading_model.proofs.Characters.{characters, characters_are}

-- ---- spans

-- each ends at so many characters or before
abbrev AreInside : ℕ → List (ℕ × ℕ) → Type 0
AreInside count [] = Unit {0}
AreInside count (s ∷ spans) = (s.0 + s.1 ≤ count) × AreInside count spans

spans_inside : (count at : ℕ) (pieces : List Piece) → at + characters pieces ≤ count → AreInside count (spans_from at pieces)
spans_inside count at [] le = tt
spans_inside count at (Token n symbols ∷ pieces) le = (omega (arith, le), spans_inside count (at + n) pieces (omega (arith, le)))
spans_inside count at (Skipped n ∷ pieces) le = spans_inside count (at + n) pieces (omega (arith, le))

inside_fit : (count : ℕ) (spans : List Span) → count ≤ LAST_PLACE → AreInside count (map span_of spans) → AreSpans count spans
inside_fit count [] few inside k d lt = absurd (omega (arith, lt))
inside_fit count (s ∷ spans) few (le, inside) zero d lt = (le, omega (arith, le, few))
inside_fit count (s ∷ spans) few (le, inside) (suc k) d lt = inside_fit count spans few inside k d (omega (arith, lt))

-- one for each token
spans_count : (at : ℕ) (pieces : List Piece) → length (spans_from at pieces) ≡ earleme_after pieces
spans_count at [] = refl
spans_count at (Token n symbols ∷ pieces) = ap suc (spans_count (at + n) pieces)
spans_count at (Skipped n ∷ pieces) = spans_count (at + n) pieces

pub spans_fit : (b : Built) (given cs : List ℕ) (pieces : List Piece) (spans : List Span) → length cs ≤ LONGEST_INPUT → IsReadingWith b given cs pieces End → map span_of spans ≡ spans_from 0 pieces →
    AreSpans (length cs) spans × (length spans ≡ earleme_after pieces)
spans_fit b given cs pieces spans few (HasEnded r end) are = (
  inside_fit (length cs) spans few (subst (AreInside (length cs)) (sym are) (spans_inside (length cs) 0 pieces (let e = characters_are r in omega (arith, e)))),
  sym (length-map spans span_of) ∙ (ap length are ∙ spans_count 0 pieces),
)

-- ---- tokens

tokens_are : (cs : List ℕ) (spans : List Span) → tokens_of cs spans ≡ map (token_at_span cs) (map span_of spans)
tokens_are cs [] = refl
tokens_are cs (s ∷ spans) = ap (λ ts. token_at_span cs (span_of s) ∷ ts) (tokens_are cs spans)

pub tokens_fit : (cs : List ℕ) (spans : List Span) (pieces : List Piece) → map span_of spans ≡ spans_from 0 pieces → tokens_of cs spans ≡ map (token_at_span cs) (spans_from 0 pieces)
tokens_fit cs spans pieces are = tokens_are cs spans ∙ ap (map (token_at_span cs)) are

-- ---- steps

-- a derivation over edges is one over edges that hold whenever they do
module _ (g : Grammar) (old new : Edges) (weaker : (s p q : ℕ) → old s p q → new s p q) where
  mutual
    tree_over : (t : Tree) (slot : Slot) (p q : ℕ) → Derives g old slot p q t → Derives g new slot p q t
    tree_over (Leaf s a b) slot p q d = record { symbol_is = d.symbol_is; from_is = d.from_is; to_is = d.to_is; terminal = d.terminal; held = weaker s a b d.held }
    tree_over (Nulled s a) slot p q d = record { symbol_is = d.symbol_is; from_is = d.from_is; to_is = d.to_is; nullable = d.nullable }
    tree_over (Node i cs a b) slot p q d = record {
      from_is = d.from_is;
      to_is = d.to_is;
      spans = d.spans;
      in_range = d.in_range;
      fits = d.fits;
      complete = d.complete;
      prefix = prefix_over cs (rule_at g i) p q d.prefix;
    }

    prefix_over : (cs : Children) (rule : WrittenRule) (p q : ℕ) → DerivesPrefix g old rule p q cs → DerivesPrefix g new rule p q cs
    prefix_over NoChild rule p q d = d
    prefix_over (Child prefix last) rule p q (r, f, d) = (r, prefix_over prefix rule p r f, tree_over last (child_slot rule (child_count prefix)) r q d)

edges_one : (place : ℕ) (pieces : List Piece) (e : Edge) → Contains (edges_from place pieces) e → e.to ≡ suc e.from
edges_one place [] e c = absurd (Contains-none e c)
edges_one place (Token n symbols ∷ pieces) e c = elim (Contains-append_cases (map (λ s. record { symbol = s; from = place; to = suc place }) symbols) (edges_from (suc place) pieces) e c) [
  | inl here ↦ (let (s, m, is) = Contains-map_from (λ s. record { symbol = s; from = place; to = suc place }) symbols e here in subst (λ (d : Edge). d.to ≡ suc d.from) (sym is) refl)
  | inr later ↦ edges_one (suc place) pieces e later
]
edges_one place (Skipped n ∷ pieces) e c = edges_one place pieces e c

pub steps_fit : (b : Built) (pieces : List Piece) (start : ℕ) (place places : ℕ) (t : Tree) → start < length b.g1.names → place ≤ places → Derives b.g1 (Held (edges_of pieces)) (slot_of start) 0 place t → AreSteps b.g1 places (steps_of t)
steps_fit b pieces start place places t known inside d = record {
  tree = t;
  slot = slot_of start;
  from = 0;
  to = place;
  known = known;
  derived = tree_over b.g1 (Held (edges_of pieces)) OnePlace (λ s p q h. edges_one 0 pieces (record { symbol = s; from = p; to = q }) h) t (slot_of start) 0 place d;
  inside = inside;
  are = refl;
}
