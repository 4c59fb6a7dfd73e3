-- The value of the job's own shortest input.
use Rattle.std.proofs.Common.{◌≡◌, ◌∙◌, [], ◌∷◌, Some, None, false, ap, refl, lit<}
use Rattle.std.specs.Prelude.{codes}
use Rattle.std.specs.Str.{chars}
use Rattle.std.specs.Fmt.{digits}
use Rattle.grammar_model.specs.Derives.{Held}
use Rattle.grammar_model.specs.Trees.{Tree, Leaf, Node, NoChild, Child}
use Rattle.reading_model.specs.Reading.{edges_of}
use Rattle.run_model.specs.Listing.{line_of}
use Rattle.grammar_model.specs.declared.Ranking.TheVariants.{Rule as RuleRanks}
use Rattle.grammar_model.specs.declared.Show.TheVariants.{Array as ShowArray}
use Rattle.words_model.specs.Words.{Job, Tell, Values, StandardInput}
use Rattle.run_model.specs.Jobs.{work_grammar}
use Rattle.run_model.specs.Telling.TellsValues.{Derived}
use Rattle.run_model.specs.Outcome.{IsOutcome, done}
use Rattle.run_model.specs.Outcome.IsOutcome.{OfJob}
use Rattle.run_model.specs.Outcome.IsGrammarOutcome.{GrammarAccepted}
use Rattle.run_model.specs.Outcome.IsInputOutcome.{InputRead}
use Rattle.run_model.specs.Laws.{run_words}
use Rattle.run_model.proofs.Given.{none_given}
use Rattle.run_model.proofs.Accepted.{for_none}
use Rattle.number_laws.proofs.Exist.{numbers_exist}
use Rattle.work_laws.proofs.Text.{work_description}
use Rattle.work_laws.proofs.Building.{work_built, is_built_of}
use Rattle.work_laws.proofs.Accepted.{is_accepted}
use Rattle.work_laws.proofs.Working.{work_accepted, is_read, work_derivations}
use Rattle.work_laws.proofs.Shapes.{IsRun, Last, Letter, run_of, same_run}
use Rattle.work_laws.proofs.Pieces.{ones, edges_of_ones}
use Rattle.work_laws.proofs.Word.{word, word_stops}

abbrev pub job : Job
job = record { grammar = Some (codes "g"); input = StandardInput; task = Tell [] (Values (record { show = ShowArray; ranking = RuleRanks; first = None; stats = false })) }

-- the only derivation
abbrev only : Tree
only = Node 1 (Child NoChild (Node 2 (Child NoChild (Leaf 2 0 1)) 0 1)) 0 1

line : done (codes "undef\n" ∷ []) ≡ done (line_of work_built ShowArray (chars (codes "a")) (ones (word 0)) only ∷ [])
unfolding chars digits
line = refl

pub value : IsOutcome run_words work_grammar (codes "a") (done (codes "undef\n" ∷ []))
value =
    let (tree, one) = work_derivations 0 RuleRanks in
    let (derived, chosen) = (one.each tree).0 (0, lit< tt, refl) in
    let run : IsRun (word 0) 0 1 tree = run_of (word 0) (Held (edges_of (ones (word 0)))) (edges_of_ones (word 0)) tree 0 1 derived in
    let same : only ≡ tree = (same_run (Last (Letter refl)) run (word_stops 0) (word_stops 0)).1 in
    let (numbers, has) = numbers_exist work_built RuleRanks (ones (word 0)) (work_description, is_built_of) is_accepted in
    OfJob job refl (GrammarAccepted work_built (for_none work_grammar work_built work_accepted)
    ([], none_given work_built, InputRead (ones (word 0)) (is_read 0 (lit< tt)) (Derived tree [] numbers one has (line ∙ ap (λ t. done (line_of work_built ShowArray (chars (codes "a")) (ones (word 0)) t ∷ [])) same))))
