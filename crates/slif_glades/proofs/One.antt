-- What is told of an input by a grammar is one text.
use Rattle.std.proofs.Common.{◌≡◌, ◌∙◌, ℕ, zero, suc, ◌<◌, Bool, true, false, List, [], ◌∷◌, Option, None, Some, length, map, slice_get, refl, sym, ap, subst, arith}
use Rattle.std.proofs.lemmas.Option.{slice_get_within}
use Rattle.grammar_core.specs.declared.steps.Span.{Span}
use Rattle.grammar_model.specs.Grammar.{Grammar}
use Rattle.language_model.specs.Building.{Built}
use Rattle.glade_model.specs.Glades.{Glade, AreGlades}
use Rattle.glade_model.proofs.Reports.{glades_one}
use Rattle.glade_groups.specs.Groups.{IsMark}
use Rattle.reading_model.specs.Reading.{Piece, End, edges_of, earleme_after, spans_from}
use Rattle.reading_model.proofs.One.{reading_is_one}
use Rattle.scanless.specs.Reading.{span_of}
use Rattle.std.specs.Prelude.{chars, slice_index_or}
use Rattle.slif_parser.specs.Views.{Read}
use Rattle.slif_parser.specs.Readings.{IsReadAs, AreGladesOf}
use Rattle.slif_glades.specs.Told.{told_text}
use Rattle.slif_glades.specs.Telling.{AreMarked, IsTold, IsToldOfReading, IsToldOfInput}

-- ONE READING

one_spans : (xs ys : List Span) → map span_of xs ≡ map span_of ys → xs ≡ ys
one_spans [] [] e = refl
one_spans [] (y ∷ ys) e = absurd (cc e)
one_spans (x ∷ xs) [] e = absurd (cc e)
one_spans (x ∷ xs) (y ∷ ys) e =
    let first : span_of x ≡ span_of y = cc e in
    let others : map span_of xs ≡ map span_of ys = cc e in
    let start : x.start ≡ y.start = ap (λ (p : ℕ × ℕ). p.0) first in
    let long : x.length ≡ y.length = ap (λ (p : ℕ × ℕ). p.1) first in
    let same : x ≡ y = λ k. record { start = start k; length = long k } in
    ap (λ (z : Span). z ∷ xs) same ∙ ap (λ (zs : List Span). y ∷ zs) (one_spans xs ys others)

one_read : (b : Built) (lexemes bytes : List ℕ) (r s : Read) → IsReadAs b lexemes bytes r → IsReadAs b lexemes bytes s → r ≡ s
one_read b lexemes bytes r s p q =
    let pieces : p.pieces ≡ q.pieces = (reading_is_one b lexemes (chars bytes) p.pieces q.pieces End End p.is.reading q.is.reading).0 in
    let grammar : r.grammar ≡ s.grammar = p.grammar_is ∙ sym q.grammar_is in
    let given : r.lexemes ≡ s.lexemes = p.lexemes_are ∙ sym q.lexemes_are in
    let characters : r.characters ≡ s.characters = p.characters_are ∙ sym q.characters_are in
    let spans : r.spans ≡ s.spans = one_spans r.spans s.spans (p.spans_are ∙ ap (spans_from 0) pieces ∙ sym q.spans_are) in
    λ k. record { grammar = grammar k; lexemes = given k; characters = characters k; spans = spans k }

-- ONE REPORT, with its marks

one_report : (r : Read) (xs ys : List Glade) → AreGladesOf r xs → AreGladesOf r ys → xs ≡ ys
one_report r xs ys p q =
    let pieces : q.pieces ≡ p.pieces = (reading_is_one r.grammar r.lexemes r.characters q.pieces p.pieces End End q.reading p.reading).0 in
    let start : ℕ = slice_index_or r.grammar.g1.starts 0 0 in
    glades_one r.grammar.g1 (edges_of p.pieces) start (earleme_after p.pieces) xs ys p.are
    (subst (λ (ps : List Piece). AreGlades r.grammar.g1 (edges_of ps) start (earleme_after ps) ys) pieces q.are)

same_items : (xs ys : List (Option ℕ)) → length xs ≡ length ys → ((k : ℕ) (x y : Option ℕ) → slice_get xs k ≡ Some x → slice_get ys k ≡ Some y → x ≡ y) → xs ≡ ys
same_items [] [] long same = refl
same_items [] (y ∷ ys) long same = absurd (omega arith)
same_items (x ∷ xs) [] long same = absurd (omega arith)
same_items (x ∷ xs) (y ∷ ys) long same =
    ap (λ (z : Option ℕ). z ∷ xs) (same 0 x y refl refl) ∙ ap (λ (zs : List (Option ℕ)). y ∷ zs) (same_items xs ys (omega arith) (λ k x y p q. same (suc k) x y p q))

some_item : (xs : List Glade) (k : ℕ) → k < length xs → (x : Glade) × (slice_get xs k ≡ Some x)
some_item [] k h = absurd (omega arith)
some_item (x ∷ xs) zero h = (x, refl)
some_item (x ∷ xs) (suc k) h = some_item xs k (omega arith)

one_mark : (glades : List Glade) (at : ℕ) (glade : Glade) (x y : Option ℕ) → IsMark glades at glade x → IsMark glades at glade y → x ≡ y
one_mark glades at glade (Some x) (Some y) p q = let same : x ≡ y = omega (arith, p.1, q.1) in ap Some same
one_mark glades at glade (Some x) None p q = absurd (q p.0)
one_mark glades at glade None (Some y) p q = absurd (p q.0)
one_mark glades at glade None None p q = refl

one_marked : (all : Bool) (glades : List Glade) (xs ys : List (Option ℕ)) → AreMarked all glades xs → AreMarked all glades ys → xs ≡ ys
one_marked true glades xs ys p q = same_items xs ys (p.long ∙ sym q.long) (λ k x y at other. p.each k x at ∙ sym (q.each k y other))
one_marked false glades xs ys p q = same_items xs ys (p.long ∙ sym q.long) at_each
  where
    at_each : (k : ℕ) (x y : Option ℕ) → slice_get xs k ≡ Some x → slice_get ys k ≡ Some y → x ≡ y
    at_each k x y at other =
        let within : k < length xs = slice_get_within xs k x at in
        let (glade, is) = some_item glades k (omega (arith, within, p.long)) in
        one_mark glades k glade x y (p.each k glade x is at) (q.each k glade y is other)

-- ONE TEXT

one_told : (all : Bool) (g : Grammar) (r : Read) (x y : List ℕ) → IsTold all g r x → IsTold all g r y → x ≡ y
one_told all g r x y p q =
    let glades : q.glades ≡ p.glades = one_report r q.glades p.glades q.report p.report in
    let marks : q.marks ≡ p.marks = one_marked all p.glades q.marks p.marks (subst (λ (gs : List Glade). AreMarked all gs q.marks) glades q.marked) p.marked in
    p.is ∙ sym (q.is ∙ ap (λ (gs : List Glade). told_text g r gs q.marks) glades ∙ ap (told_text g r p.glades) marks)

pub one_text : (all : Bool) (b : Built) (input x y : List ℕ) → IsToldOfInput all b input x → IsToldOfInput all b input y → x ≡ y
one_text all b input x y (r, is, told) (s, is', told') =
    let same : s ≡ r = one_read b [] input s r is' is in
    let moved : IsToldOfReading all b.g1 r y = subst (λ (z : Read). IsToldOfReading all b.g1 z y) same told' in
    one_told all b.g1 r x y told.2 moved.2
