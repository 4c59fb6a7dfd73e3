-- Whoever runs over the grammar of right recursion and so many letters reads them into a token each, and gives the one derivation.
use Rattle.std.proofs.Common.{◌≡◌, ◌∙◌, ℕ, suc, ◌+◌, ◌*◌, ◌≤◌, List, [], ◌∷◌, map, replicate, Option, Some, None, false, codes, refl, sym, ap, subst, lit≤}
use Rattle.std.specs.Str.{chars}
use Rattle.std.specs.Fmt.{digits}
use Rattle.grammar_model.specs.declared.limits.TheConstants.{LONGEST_INPUT}
use Rattle.grammar_model.specs.declared.Ranking.TheVariants.{Rule as RuleRanks}
use Rattle.grammar_model.specs.declared.Show.TheVariants.{Array as ShowArray}
use Rattle.grammar_model.specs.Grammar.{Grammar, slot_of}
use Rattle.grammar_model.specs.Derives.{Held}
use Rattle.grammar_model.specs.Trees.{Tree}
use Rattle.grammar_model.specs.Values.{name_of}
use Rattle.grammar_model.proofs.ChosenOnce.{chosen_unique}
use Rattle.outside_model.specs.Told.{ToldFile, Told, MayHold}
use Rattle.language_model.specs.declared.token.Token.{Token}
use Rattle.language_model.specs.Description.{Statement, Describes}
use Rattle.language_model.specs.Building.{Built, built_of}
use Rattle.language_model.specs.Texts.{HasTokens, HasDescription, spelled}
use Rattle.dsl_tokens.proofs.UniqueLemmas as tokens
use Rattle.dsl_reader.proofs.OneDescription as statements
use Rattle.reading_model.specs.Reading.{Piece, End, edges_of, earleme_after}
use Rattle.reading_model.proofs.One.{reading_is_one}
use Rattle.words_model.specs.Words.{Job, Tell, Values, ValuesAsked, StandardInput}
use Rattle.run_model.specs.Refused.{Accepted}
use Rattle.run_model.proofs.Accepted.{for_none}
use Rattle.run_model.specs.Listing.{AreDerivations, line_of}
use Rattle.run_model.specs.Laws.{run_words}
use Rattle.run_model.specs.Steps.{IsWithinSteps}
use Rattle.run_model.specs.Within.{InputWithin, NamedWithin, DoesWithin, RunsWithin}
use Rattle.run_model.specs.Telling.TellsValues.{Derived}
use Rattle.run_model.specs.Outcome.{IsOutcome, done}
use Rattle.run_model.specs.Outcome.IsOutcome.{OfJob}
use Rattle.run_model.specs.Outcome.IsGrammarOutcome.{GrammarAccepted}
use Rattle.run_model.specs.Outcome.IsInputOutcome.{InputRead}
use Rattle.run_model.proofs.Given.{none_given}
use Rattle.number_laws.proofs.Exist.{numbers_exist}
use Rattle.outcome_laws.specs.Figures.{right_grammar, right_built, row, tree}
use Rattle.outcome_laws.proofs.RightText.{description, has_description, is_built_of}
use Rattle.outcome_laws.proofs.RightAccepted.{accepted}
use Rattle.outcome_laws.proofs.RightReading.{is_read}

abbrev asked : ValuesAsked
asked = record { show = ShowArray; ranking = RuleRanks; first = None; stats = false }

abbrev job : Job
job = record { grammar = Some (codes "g"); input = StandardInput; task = Tell [] (Values asked) }

-- ---- the grammars are those that are built of the text

same_tokens : (bytes : List ℕ) (ts us : List Token) → HasTokens bytes ts → HasTokens bytes us → ts ≡ us
same_tokens bytes ts us a b = tokens.one_list (chars bytes) 0 ts us a.are b.are

same_description : (bytes : List ℕ) (d e : List Statement) → HasDescription bytes d → HasDescription bytes e → d ≡ e
same_description bytes d e a b =
    statements.one_list d e _ a.described (subst (λ (ts : List Token). Describes e (spelled bytes ts)) (same_tokens bytes b.tokens a.tokens b.has a.has) b.described)

built_is : (b : Built) → Accepted right_grammar b → b ≡ right_built
built_is b a = a.built.is ∙ ap built_of (same_description right_grammar a.description description a.has has_description) ∙ sym is_built_of.is

names_none : (g : Grammar) (given : List ℕ) → map (name_of g) given ≡ [] → given ≡ []
names_none g [] e = refl
names_none g (x ∷ xs) e = absurd (cc e)

-- ---- and the steps those of its derivation

module _ (n after : ℕ) (few : suc n ≤ LONGEST_INPUT) (bound : IsWithinSteps right_built RuleRanks (row (suc n)) (tree n 0 (suc n) ∷ []) 0 after → after ≤ 18 * n + 15) (derived : AreDerivations right_built RuleRanks (row (suc n)) (tree n 0 (suc n) ∷ [])) where
  of_trees : (trees : List Tree) → AreDerivations right_built RuleRanks (row (suc n)) trees → IsWithinSteps right_built RuleRanks (row (suc n)) trees 0 after → after ≤ 18 * n + 15
  of_trees trees all within =
      let same = chosen_unique right_built.g1 (Held (edges_of (row (suc n)))) RuleRanks (slot_of 0) 0 (earleme_after (row (suc n))) trees (tree n 0 (suc n) ∷ []) all derived in
      bound (subst (λ ts. IsWithinSteps right_built RuleRanks (row (suc n)) ts 0 after) same within)

  of_input : InputWithin (Values asked) right_built [] (replicate (suc n) 97) 0 after → after ≤ 18 * n + 15
  of_input input =
      let same : input.pieces ≡ row (suc n) = (reading_is_one right_built [] (chars (replicate (suc n) 97)) input.pieces (row (suc n)) End End input.read.reading (is_read (suc n) few).reading).0 in
      let P : List Piece → Type 0 = λ pieces. AreDerivations right_built RuleRanks pieces input.within.trees × IsWithinSteps right_built RuleRanks pieces input.within.trees 0 after in
      let (all, within) = subst P same (input.within.all, input.within.within) in
      of_trees input.within.trees all within

  of_named : NamedWithin (Values asked) [] right_built (replicate (suc n) 97) 0 after → after ≤ 18 * n + 15
  of_named (given, are, input) = of_input (subst (λ symbols. InputWithin (Values asked) right_built symbols (replicate (suc n) 97) 0 after) (names_none right_built.g1 given are.named) input)

  of_job : (grammar input : List ℕ) → grammar ≡ right_grammar → ((b : Built) → Accepted grammar b → input ≡ replicate (suc n) 97) → DoesWithin (Tell [] (Values asked)) grammar input 0 after → after ≤ 18 * n + 15
  of_job grammar input is input_is (b, accepted, named) =
      let same = built_is b (subst (λ bytes. Accepted bytes b) is accepted.accepted) in
      of_named (subst (λ (c : Built). NamedWithin (Values asked) [] c (replicate (suc n) 97) 0 after) same (subst (λ bytes. NamedWithin (Values asked) [] b bytes 0 after) (input_is b accepted.accepted) named))

  pub of_run : (file : List ℕ → ToldFile) (out out_after : Option (List ℕ)) → file (codes "g") ≡ Told right_grammar → RunsWithin run_words file (Some (replicate (suc n) 97)) out out_after 0 after → after ≤ 18 * n + 15
  of_run file out out_after told runs =
      let held : MayHold (Told right_grammar) runs.may.grammar = subst (λ f. MayHold f runs.may.grammar) told (runs.may.supplied.grammar_held job refl) in
      of_job runs.may.grammar runs.may.input held (λ b accepted. runs.may.supplied.input_held job refl (b, for_none runs.may.grammar b accepted)) (runs.does job refl)

-- ---- two letters

line : done (codes "undef\n" ∷ []) ≡ done (line_of right_built ShowArray (chars (codes "aa")) (row 2) (tree 1 0 2) ∷ [])
unfolding chars digits
line = refl

pub told : AreDerivations right_built RuleRanks (row 2) (tree 1 0 2 ∷ []) → IsOutcome run_words right_grammar (codes "aa") (done (codes "undef\n" ∷ []))
told derived =
    let (numbers, has) = numbers_exist right_built RuleRanks (row 2) (description, is_built_of) accepted.accepted in
    OfJob job refl (GrammarAccepted right_built (for_none right_grammar right_built accepted)
    ([], none_given right_built, InputRead (row 2) (is_read 2 (lit≤ tt)) (Derived (tree 1 0 2) [] numbers derived has line)))
