-- What a run needs to know of grammars, from the laws of grammars and of checks.
use Rattle.std.proofs.Common.{◌≡◌, ℕ, ◌≤◌, List, [], ◌∷◌, inl, inr, refl, sym, subst, arith, slice_index_or}
use Rattle.grammar_model.specs.Grammar.{Grammar, Slot, slot_of}
use Rattle.grammar_model.specs.Trees.{Tree}
use Rattle.grammar_model.specs.Analysis.{IsAccessible}
use Rattle.glade_model.specs.Glades.{Glade, AreGlades}
use Rattle.glade_laws.proofs.Existing.{reports_exist as glades_exist}
use Rattle.finite_sets.specs.Decided.{IsDecided}
use Rattle.finite_sets.proofs.Deciding.{both, one_of, moved, equal, test_of, test_true, true_test}
use Rattle.finite_sets.proofs.Members.{Among}
use Rattle.grammar_laws.proofs.Slots.{slots}
use Rattle.grammar_laws.proofs.Tests.{nullable_decided, productive_decided, accessible_decided, accessible_member}
use Rattle.grammar_laws.proofs.Checks.{checks_decide}
use Rattle.grammar_laws.proofs.Flats.{rules_are_counted}
use Rattle.grammar_check.proofs.Uniqueness.{not_refused, one_refusal}
use Rattle.reading_model.proofs.Accepting.{CheckLaws}
use Rattle.reading_model.proofs.One.{reading_is_one, one_expected}
use Rattle.reading_laws.specs.Laws.{LexemesAreNamed}
use Rattle.reading_laws.proofs.Candidates.{expected_list, pieces_forward}
use Rattle.reading_laws.proofs.Lists.{derivations_listed, flat_form_exists}
use Rattle.reading_laws.proofs.Short.{built_are_short}
use Rattle.number_laws.proofs.Exist.{numbers_exist}
use Rattle.number_laws.proofs.One.{numbers_are_one}
use Rattle.work_laws.proofs.Working.{work_has_one}
use Rattle.report_model.specs.Report.{IsReport}
use Rattle.report_laws.proofs.One.{report_is_one}
use Rattle.report_laws.proofs.Existing.{reports_exist}
use Rattle.recognizer_model.specs.declared.ReportLine.{ReportLine}
use Rattle.script_laws.proofs.Exist.{answers_exist}
use Rattle.script_laws.proofs.One.{answers_are_one}
use Rattle.reading_model.specs.Accepted.{IsAccepted}
use Rattle.reading_model.specs.Reading.{Piece, edges_of, earleme_after}
use Rattle.reading_laws.proofs.Reading.{reading_exists}
use Rattle.language_model.specs.Building.{Built}
use Rattle.language_model.specs.Texts.{IsBuilt}
use Rattle.prepared_grammars.proofs.Ordered.{in_order}
use Rattle.run_model.proofs.Inputs.{ReadingLaws}
use Rattle.run_model.specs.Checking.{SymbolRow, IsRowOf}
use Rattle.run_model.specs.Listing.{AreDerivations}
use Rattle.run_model.proofs.Texts.{GrammarLaws, ScriptLaws, RunLaws}
use Rattle.grammar_model.specs.declared.Ranking.TheVariants.{Rule as RuleRanks}
use Rattle.run_model.specs.Telling.{work_line}
use Rattle.run_model.specs.Outcome.{Outcome, IsWorkOutcome, done}
use Rattle.slif_cli.proofs.LanguageLaws.{text_laws}
use Rattle.slif_cli.proofs.Derivations.{reading_by, derived_of}

some_slot : (P : Slot → Type 0) → ((s : Slot) → IsDecided (P s)) → (xs : List Slot) → IsDecided ((s : Slot) × Among s xs × P s)
some_slot P d [] = inr (λ (s, m, p). m)
some_slot P d (x ∷ xs) =
    moved (λ some. elim some [ inl p ↦ (x, inl refl, p) | inr (s, m, p) ↦ (s, inr m, p) ])
    (λ (s, m, p). elim m [ inl e ↦ inl (subst P (sym e) p) | inr n ↦ inr (s, n, p) ])
    (one_of (d x) (some_slot P d xs))

abbrev IsReached : Grammar → ℕ → Type 0
IsReached g s = (level : ℕ) × IsAccessible g (record { symbol = s; level = level })

-- a symbol is accessible at some level, or at none
reached_decided : (g : Grammar) (s : ℕ) → IsDecided (IsReached g s)
reached_decided g s =
    moved (λ (t, m, (e, a)). (t.level, subst (λ (x : ℕ). IsAccessible g (record { symbol = x; level = t.level })) e a))
    (λ (level, a). (record { symbol = s; level = level }, accessible_member g (record { symbol = s; level = level }) a, (refl, a)))
    (some_slot (λ t. (t.symbol ≡ s) × IsAccessible g t) (λ t. both (equal t.symbol s) (accessible_decided g t)) (slots g))

row : (g : Grammar) (s : ℕ) → (row : SymbolRow) × (row.symbol ≡ s) × IsRowOf g row
row g s =
    let n = nullable_decided g (slot_of s) in
    let p = productive_decided g (slot_of s) in
    let a = reached_decided g s in (
      record { symbol = s; nullable = test_of n; productive = test_of p; accessible = test_of a },
      refl,
      record { nullable = (true_test n, test_true n); productive = (true_test p, test_true p); accessible = (true_test a, test_true a) },
    )

check_laws : CheckLaws
check_laws = record { decided = checks_decide; not_both = not_refused; one_refusal = one_refusal; counted = rules_are_counted }

pub grammar_laws : GrammarLaws
grammar_laws = record { texts = text_laws; checks = check_laws }

-- lexemes have names of their own
lexemes_named : (b : Built) → IsBuilt b → LexemesAreNamed b
lexemes_named b built = (in_order b built).differ

-- each place has a report
some_report : (b : Built) (pieces : List Piece) (at : ℕ) → IsBuilt b → IsAccepted b → (lines : List ReportLine) × IsReport b.g1 (edges_of pieces) 0 at lines
some_report b pieces at built accepted =
    let checked = accepted.checked.structural in
    let (flat, is_flat, form) = flat_form_exists b.g1 checked accepted.structural (built_are_short b built) in
    reports_exist b.g1 flat (edges_of pieces) 0 at is_flat form checked (pieces_forward pieces) checked.some_start

-- each reading with a derivation has its glades
some_glades : (b : Built) (pieces : List Piece) (tree : Tree) (trees : List Tree) → IsBuilt b → IsAccepted b → AreDerivations b RuleRanks pieces (tree ∷ trees) →
    (glades : List Glade) × AreGlades b.g1 (edges_of pieces) (slice_index_or b.g1.starts 0 0) (earleme_after pieces) glades
some_glades b pieces tree trees built accepted are =
    let checked = accepted.checked.structural in
    let (flat, is_flat, made) = flat_form_exists b.g1 checked accepted.structural (built_are_short b built) in
    let derives = ((are.each tree).0 (0, omega arith, refl)).0 in
    let derived = derived_of b.g1 flat is_flat made checked (edges_of pieces) (pieces_forward pieces) (earleme_after pieces) tree derives in
    glades_exist (reading_by b.g1 flat (edges_of pieces) (earleme_after pieces)) derived refl

pub reading_laws : ReadingLaws
reading_laws = record {
  named = lexemes_named;
  read = λ b given text built accepted. reading_exists b given text accepted.checked.structural (lexemes_named b built);
  one = reading_is_one;
  expected = λ b pieces built accepted. expected_list b accepted.checked.structural [] pieces 0 (lexemes_named b built);
  one_expected = one_expected;
  derivations = derivations_listed;
  numbers = numbers_exist;
  one_numbers = numbers_are_one;
  report = some_report;
  one_report = λ b pieces at xs ys p q. report_is_one b.g1 (edges_of pieces) 0 at xs ys p q;
  glades = some_glades;
}

-- job `work` has an outcome
some_work : (size : ℕ) → size ≤ 100000 → (outcome : Outcome) × IsWorkOutcome size outcome
some_work size most =
    let (b, accepted, (pieces, read, place, one)) = work_has_one size (omega (arith, most)) in
    let (tree, are) = one RuleRanks in
    let (n, has) = numbers_exist b RuleRanks pieces (accepted.description, accepted.built) accepted.accepted in
    (done (work_line size n 1 ∷ []), record { built = b; accepted = accepted; pieces = pieces; read = read; tree = tree; one = are; numbers = n; has = has; is = refl })

script_laws : ScriptLaws
script_laws = record { answers = answers_exist; one_list = answers_are_one }

pub run_laws : RunLaws
run_laws = record { grammars = grammar_laws; reading = reading_laws; row = row; work = some_work; scripts = script_laws }
