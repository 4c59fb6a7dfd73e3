-- What is told of the pieces of an input exists, is one, and has a plain status.
use Rattle.std.proofs.Common.{◌≡◌, ◌≢◌, ℕ, List, [], ◌∷◌, ◌++◌, Bool, true, false, refl, sym, ap, subst, ◌∙◌, arith, inl, inr, map, All, chars, slice_index_or, nat_le, leb-true}
use Rattle.std.proofs.lemmas.Bool.{leb-false}
use Rattle.grammar_model.specs.Trees.{Tree}
use Rattle.grammar_model.specs.declared.Ranking.TheVariants.{Rule as RuleRanks}
use Rattle.recognizer_model.specs.declared.ReportLine.{ReportLine}
use Rattle.glade_model.specs.Glades.{Glade}
use Rattle.glade_model.proofs.Reports.{glades_one}
use Rattle.language_model.specs.Building.{Built}
use Rattle.language_model.specs.Texts.{IsBuilt}
use Rattle.reading_model.specs.Accepted.{IsAccepted}
use Rattle.reading_model.specs.Reading.{Piece, edges_of, earleme_after}
use Rattle.words_model.specs.Words.{ValuesAsked, MoreAsked, Telling}
use Rattle.words_model.specs.Words.Telling.{Values, More, Expected, Report, Glades}
use Rattle.run_model.specs.Listing.{AreDerivations}
use Rattle.run_model.specs.Numbers.{Numbers}
use Rattle.run_model.specs.Telling.{Outcome, refused, done, name_line, report_line, glade_line, value_lines, stats_lines, no_derivation_text, no_set_text, TellsExpected, TellsValues, TellsMore, TellsReport, TellsGlades, Tells}
use Rattle.run_model.specs.Telling.TellsValues.{NoDerivation, Derived}
use Rattle.run_model.specs.Telling.TellsMore.{Ungiven, NoPlace, GoesOn}
use Rattle.run_model.specs.Telling.TellsReport.{NoSuchSet, Reported}
use Rattle.run_model.specs.Telling.TellsGlades.{Underived, Compared}
use Rattle.run_model.specs.Given.{NamesLexeme}
use Rattle.run_model.specs.Outcome.{IsInputOutcome, IsNamedOutcome}
use Rattle.run_model.specs.Outcome.IsInputOutcome.{InputRefused, InputRead}
use Rattle.run_model.proofs.Listed.{same_trees, no_tree}
use Rattle.run_model.proofs.More.{one_more, some_more}
use Rattle.run_model.proofs.Given.{some_given, one_given}
use Rattle.run_model.proofs.Inputs.{ReadingLaws, read_or, one_read, not_both, one_refused}

-- ONE OF EACH

module _ (laws : ReadingLaws) (b : Built) (pieces : List Piece) where
  one_expected : (x y : Outcome) → TellsExpected b pieces x → TellsExpected b pieces y → x ≡ y
  one_expected x y p q =
      p.is ∙ ap (λ symbols. done (map (name_line b.g1) symbols)) (laws.one_expected b pieces p.expected q.expected p.are q.are) ∙ sym q.is

  one_values : (asked : ValuesAsked) (cs : List ℕ) (x y : Outcome) → TellsValues asked b cs pieces x → TellsValues asked b cs pieces y → x ≡ y
  one_values asked cs x y (NoDerivation expected none are is) (NoDerivation expected' none' are' is') =
      is ∙ ap (λ symbols. refused 1 (no_derivation_text b.g1 symbols)) (laws.one_expected b pieces expected expected' are are') ∙ sym is'
  one_values asked cs x y (NoDerivation expected none are is) (Derived t ts n all has is') = absurd (no_tree b asked.ranking pieces t ts none all)
  one_values asked cs x y (Derived t ts n all has is) (NoDerivation expected none are is') = absurd (no_tree b asked.ranking pieces t ts none all)
  one_values asked cs x y (Derived t ts n all has is) (Derived u us m all' has' is') =
      is ∙ ap (λ trees. done (value_lines b asked cs pieces trees ++ stats_lines asked.stats n)) (same_trees b asked.ranking pieces (t ∷ ts) (u ∷ us) all all')
      ∙ ap (λ (k : Numbers). done (value_lines b asked cs pieces (u ∷ us) ++ stats_lines asked.stats k)) (laws.one_numbers b asked.ranking pieces n m has has') ∙ sym is'

  one_report : (at : ℕ) (x y : Outcome) → TellsReport b at pieces x → TellsReport b at pieces y → x ≡ y
  one_report at x y (NoSuchSet past is) (NoSuchSet past' is') = is ∙ sym is'
  one_report at x y (NoSuchSet past is) (Reported lines within are is') = absurd (omega (arith, past, within))
  one_report at x y (Reported lines within are is) (NoSuchSet past is') = absurd (omega (arith, past, within))
  one_report at x y (Reported lines within are is) (Reported lines' within' are' is') =
      is ∙ ap (λ (ls : List ReportLine). done (map (report_line b.g1 at) ls)) (laws.one_report b pieces at lines lines' are are') ∙ sym is'

  one_compared : (x y : Outcome) → TellsGlades b pieces x → TellsGlades b pieces y → x ≡ y
  one_compared x y (Underived expected none are is) (Underived expected' none' are' is') =
      is ∙ ap (λ symbols. refused 1 (no_derivation_text b.g1 symbols)) (laws.one_expected b pieces expected expected' are are') ∙ sym is'
  one_compared x y (Underived expected none are is) (Compared t ts glades all are' is') = absurd (no_tree b RuleRanks pieces t ts none all)
  one_compared x y (Compared t ts glades all are is) (Underived expected none are' is') = absurd (no_tree b RuleRanks pieces t ts none all)
  one_compared x y (Compared t ts glades all are is) (Compared t' ts' glades' all' are' is') =
      is ∙ ap (λ (gs : List Glade). done (map (glade_line b.g1) gs))
      (glades_one b.g1 (edges_of pieces) (slice_index_or b.g1.starts 0 0) (earleme_after pieces) glades glades' are are') ∙ sym is'

  pub one_told : (what : Telling) (cs : List ℕ) (x y : Outcome) → Tells what b cs pieces x → Tells what b cs pieces y → x ≡ y
  one_told (Values asked) cs x y p q = one_values asked cs x y p q
  one_told (More asked) cs x y p q = one_more b asked cs pieces (laws.one_expected b pieces) x y p q
  one_told Expected cs x y p q = one_expected x y p q
  one_told (Report at) cs x y p q = one_report at x y p q
  one_told Glades cs x y p q = one_compared x y p q

module _ (laws : ReadingLaws) (what : Telling) (b : Built) (given input : List ℕ) where
  pub one_of_input : (x y : Outcome) → IsInputOutcome what b given input x → IsInputOutcome what b given input y → x ≡ y
  one_of_input x y (InputRefused text is of) (InputRefused other is' of') = of ∙ ap (refused 1) (one_refused laws b given input text other is is') ∙ sym of'
  one_of_input x y (InputRefused text is of) (InputRead pieces read tells) = absurd (not_both laws b given input pieces text read is)
  one_of_input x y (InputRead pieces read tells) (InputRefused text is of) = absurd (not_both laws b given input pieces text read is)
  one_of_input x y (InputRead pieces read tells) (InputRead others read' tells') =
      one_told laws b pieces what (chars input) x y tells (subst (λ (ps : List Piece). Tells what b (chars input) ps y) (one_read laws b given input others pieces read' read) tells')

-- SOME OF ALL

module _ (laws : ReadingLaws) (b : Built) (built : IsBuilt b) (accepted : IsAccepted b) (pieces : List Piece) where
  of_trees : (asked : ValuesAsked) (cs : List ℕ) (trees : List Tree) → AreDerivations b asked.ranking pieces trees → (outcome : Outcome) × TellsValues asked b cs pieces outcome
  of_trees asked cs [] are =
      let (expected, e) = laws.expected b pieces built accepted in
      (refused 1 (no_derivation_text b.g1 expected), NoDerivation expected are e refl)
  of_trees asked cs (tree ∷ trees) are =
      let (n, has) = laws.numbers b asked.ranking pieces built accepted in
      (done (value_lines b asked cs pieces (tree ∷ trees) ++ stats_lines asked.stats n), Derived tree trees n are has refl)

  some_values : (asked : ValuesAsked) (cs : List ℕ) → (outcome : Outcome) × TellsValues asked b cs pieces outcome
  some_values asked cs = let (trees, are) = laws.derivations b asked.ranking pieces built accepted in of_trees asked cs trees are

  some_report : (at : ℕ) → (outcome : Outcome) × TellsReport b at pieces outcome
  some_report at = by (nat_le at (earleme_after pieces)) refl
    where
      by : (t : Bool) → nat_le at (earleme_after pieces) ≡ t → (outcome : Outcome) × TellsReport b at pieces outcome
      by true e = let (lines, are) = laws.report b pieces at built accepted in (done (map (report_line b.g1 at) lines), Reported lines (leb-true _ _ e) are refl)
      by false e = (refused 1 (no_set_text at (earleme_after pieces)), NoSuchSet (leb-false _ _ e) refl)

  some_compared : (outcome : Outcome) × TellsGlades b pieces outcome
  some_compared = let (trees, are) = laws.derivations b RuleRanks pieces built accepted in by trees are
    where
      by : (trees : List Tree) → AreDerivations b RuleRanks pieces trees → (outcome : Outcome) × TellsGlades b pieces outcome
      by [] are =
          let (expected, e) = laws.expected b pieces built accepted in
          (refused 1 (no_derivation_text b.g1 expected), Underived expected are e refl)
      by (tree ∷ trees) are =
          let (glades, report) = laws.glades b pieces tree trees built accepted are in
          (done (map (glade_line b.g1) glades), Compared tree trees glades are report refl)

  pub some_told : (what : Telling) (cs : List ℕ) → (outcome : Outcome) × Tells what b cs pieces outcome
  some_told (Values asked) cs = some_values asked cs
  some_told (More asked) cs =
      let (trees, are) = laws.derivations b asked.ranking pieces built accepted in
      let (expected, e) = laws.expected b pieces built accepted in
      some_more b asked cs pieces trees expected are e
  some_told Expected cs =
      let (expected, are) = laws.expected b pieces built accepted in
      (done (map (name_line b.g1) expected), record { expected = expected; are = are; is = refl })
  some_told (Report at) cs = some_report at
  some_told Glades cs = some_compared

pub some_of_input : (laws : ReadingLaws) (b : Built) → IsBuilt b → IsAccepted b → (what : Telling) (given input : List ℕ) → (outcome : Outcome) × IsInputOutcome what b given input outcome
some_of_input laws b built accepted what given input = elim (read_or laws b built accepted given input) [
  | inl (pieces, read) ↦ (let (outcome, tells) = some_told laws b built accepted pieces what (chars input) in (outcome, InputRead pieces read tells))
  | inr (text, is) ↦ (refused 1 text, InputRefused text is refl)
]

-- WITH WHAT IS GIVEN

pub one_of_named : (laws : ReadingLaws) (b : Built) → IsBuilt b → (what : Telling) (names : List (List ℕ)) (input : List ℕ) (x y : Outcome) →
    IsNamedOutcome what names b input x → IsNamedOutcome what names b input y → x ≡ y
one_of_named laws b built what names input x y (given, are, of) (given', are', of') =
    let same : given' ≡ given = one_given b (laws.named b built) names given' given are' are in
    one_of_input laws what b given input x y of (subst (λ (l : List ℕ). IsInputOutcome what b l input y) same of')

pub some_of_named : (laws : ReadingLaws) (b : Built) → IsBuilt b → IsAccepted b → (what : Telling) (names : List (List ℕ)) → All (NamesLexeme b) names → (input : List ℕ) →
    (outcome : Outcome) × IsNamedOutcome what names b input outcome
some_of_named laws b built accepted what names all input =
    let (given, are) = some_given b names all in
    let (outcome, of) = some_of_input laws b built accepted what given input in
    (outcome, (given, are, of))

-- THE STATUS

-- an outcome has neither the status of a fault nor that of want of memory
pub record IsPlain (outcome : Outcome) : Type 0 where
  pub no_fault : outcome.status ≢ 4
  pub no_memory : outcome.status ≢ 5

pub plain_at : (outcome same : Outcome) → outcome ≡ same → same.status ≢ 4 → same.status ≢ 5 → IsPlain outcome
plain_at outcome same is fault memory = subst IsPlain (sym is) (record { no_fault = fault; no_memory = memory })

plain_values : (asked : ValuesAsked) (b : Built) (cs : List ℕ) (pieces : List Piece) (outcome : Outcome) → TellsValues asked b cs pieces outcome → IsPlain outcome
plain_values asked b cs pieces outcome (NoDerivation expected none are is) = plain_at outcome _ is (λ e. omega arith) (λ e. omega arith)
plain_values asked b cs pieces outcome (Derived tree trees n are has is) = plain_at outcome _ is (λ e. omega arith) (λ e. omega arith)

plain_more : (asked : MoreAsked) (b : Built) (cs : List ℕ) (pieces : List Piece) (outcome : Outcome) → TellsMore asked b cs pieces outcome → IsPlain outcome
plain_more asked b cs pieces outcome (Ungiven expected none are is) = plain_at outcome _ is (λ e. omega arith) (λ e. omega arith)
plain_more asked b cs pieces outcome (NoPlace tree trees are none is) = plain_at outcome _ is (λ e. omega arith) (λ e. omega arith)
plain_more asked b cs pieces outcome (GoesOn tree trees rest are left is) = plain_at outcome _ is (λ e. omega arith) (λ e. omega arith)

plain_report : (b : Built) (at : ℕ) (pieces : List Piece) (outcome : Outcome) → TellsReport b at pieces outcome → IsPlain outcome
plain_report b at pieces outcome (NoSuchSet past is) = plain_at outcome _ is (λ e. omega arith) (λ e. omega arith)
plain_report b at pieces outcome (Reported lines within are is) = plain_at outcome _ is (λ e. omega arith) (λ e. omega arith)

plain_compared : (b : Built) (pieces : List Piece) (outcome : Outcome) → TellsGlades b pieces outcome → IsPlain outcome
plain_compared b pieces outcome (Underived expected none are is) = plain_at outcome _ is (λ e. omega arith) (λ e. omega arith)
plain_compared b pieces outcome (Compared tree trees glades all are is) = plain_at outcome _ is (λ e. omega arith) (λ e. omega arith)

pub plain_told : (what : Telling) (b : Built) (cs : List ℕ) (pieces : List Piece) (outcome : Outcome) → Tells what b cs pieces outcome → IsPlain outcome
plain_told (Values asked) b cs pieces outcome told = plain_values asked b cs pieces outcome told
plain_told (More asked) b cs pieces outcome told = plain_more asked b cs pieces outcome told
plain_told Expected b cs pieces outcome told = plain_at outcome _ told.is (λ e. omega arith) (λ e. omega arith)
plain_told (Report at) b cs pieces outcome told = plain_report b at pieces outcome told
plain_told Glades b cs pieces outcome told = plain_compared b pieces outcome told
