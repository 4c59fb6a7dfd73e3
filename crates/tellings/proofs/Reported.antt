-- What a report tells, as lines.
use Rattle.std.proofs.Common.{Ok, Err, ◌≡◌, ◌↔◌, ℕ, ◌<◌, ◌≤◌, Bool, true, false, nat_le, leb-true, List, All, Contains, map, length, refl, sym, ap, subst, ◌∙◌}
use Rattle.std.proofs.lemmas.Bool.{leb-false}
use Rattle.std.proofs.lemmas.List.Elements.{All-weaker, All-contains_itself}
use Rattle.grammar_model.specs.Grammar.{Grammar}
use Rattle.grammar_model.specs.Derives.{Held}
use Rattle.grammar_model.specs.declared.Edge.{Edge}
use Rattle.recognizer_model.specs.declared.ReportLine.{ReportLine}
use Rattle.report_model.specs.Report.{IsReport}
use Rattle.report_model.specs.FlatReport.{IsFlatReport}
use Rattle.report_laws.proofs.Flat.{report_of_flat}
use Rattle.grammar_laws.specs.Laws.{GoForward}
use Rattle.earley_sets.specs.Recognizer.{Recognizer, IsRecognizer, earleme_of}
use Rattle.language_model.specs.Building.{Built}
use Rattle.reading_model.specs.Accepted.{IsAccepted}
use Rattle.reading_model.specs.Reading.{edges_of}
use Rattle.reading_laws.proofs.Candidates.{pieces_forward}
use Rattle.scanless.specs.Reading.{IsReadingOfWith}
use Rattle.scanless.specs.declared.reading.Ending.TheVariants.{End as AtEnd}
use Rattle.grammar_core.specs.declared.steps.Span.{Span}
use Rattle.words_model.specs.Words.Telling.{Report}
use Rattle.run_model.specs.Telling.{report_line, no_set_text, done, refused}
use Rattle.run_model.specs.Telling.TellsReport.{NoSuchSet, Reported}
use Rattle.tellings.specs.Telling.{TellsReading}

-- the rules of a report are there
pub report_known : (g : Grammar) (edges : List Edge) (start place : ℕ) (lines : List ReportLine) → IsReport g edges start place lines → All (λ l. l.rule < length g.rules) lines
report_known g edges start place lines r =
    All-weaker (Contains lines) (λ l. l.rule < length g.rules) (λ l among. ((r.exact l).0 among).first.in_range) lines (All-contains_itself lines)

-- WHAT IS TOLD

module _ (b : Built) (given cs : List ℕ) (recce : Recognizer) (spans : List Span) (read : IsReadingOfWith b given cs recce spans AtEnd) (at : ℕ) where
  -- what is told of the items of the recognizer's set is the report of the reading
  pub report_as : IsAccepted b → IsRecognizer recce → (w : Grammar) (items : List ReportLine) → w ≡ b.g1 → IsFlatReport w recce.flat recce.edges recce.start at items → IsReport b.g1 (edges_of read.pieces) 0 at items
  report_as accepted is w items same r =
      let forward = subst (λ (es : List Edge). GoForward (Held es)) (sym read.holds.edges) (pieces_forward read.pieces) in
      let here = report_of_flat b.g1 recce.flat recce.edges recce.start at items is.flat read.holds.flat.made accepted.checked.structural forward
      (subst (λ (g : Grammar). IsFlatReport g recce.flat recce.edges recce.start at items) same r) in
      subst (λ (es : List Edge). IsReport b.g1 es 0 at items) read.holds.edges (subst (λ n. IsReport b.g1 recce.edges n at items) read.holds.start here)

  pub reported : (v : Grammar) (items shown : List ReportLine) (lines : List (List ℕ)) → v ≡ b.g1 → at ≤ earleme_of recce → IsReport b.g1 (edges_of read.pieces) 0 at items → shown ≡ items
      → lines ≡ map (report_line v at) shown → TellsReading (Report at) b given cs (done lines)
  reported v items shown lines same_v within r is e = record {
    pieces = read.pieces;
    reading = read.is_reading;
    tells = Reported items (subst (λ n. at ≤ n) read.holds.place within) r
        (ap done (e ∙ ap (λ (g : Grammar). map (report_line g at) shown) same_v ∙ ap (map (report_line b.g1 at)) is));
  }

  pub past_last : (text : List ℕ) (last : ℕ) → earleme_of recce < at → last ≡ earleme_of recce → text ≡ no_set_text at last → TellsReading (Report at) b given cs (refused 1 text)
  past_last text last past is e = record {
    pieces = read.pieces;
    reading = read.is_reading;
    tells = NoSuchSet (subst (λ n. n < at) read.holds.place past) (ap (refused 1) (e ∙ ap (no_set_text at) (is ∙ read.holds.place)));
  }

-- a place that is not refused is within
pub within_from : {A B : Type 0} (at last : ℕ) {x : A} {e : B} → (Ok x ≡ Err e) ↔ (last < at) → at ≤ last
within_from {A} {B} at last {x} {e} iff = by (nat_le at last) refl
  where
    by : (t : Bool) → nat_le at last ≡ t → at ≤ last
    by true same = leb-true at last same
    by false same = let bad : Ok x ≡ Err e = iff.1 (leb-false at last same) in absurd (cc bad)
