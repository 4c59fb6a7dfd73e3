-- An input at which reading stops: of its three characters two are taken, and the third is no terminal's.
use Rattle.std.proofs.Common.{◌≡◌, ℕ, zero, suc, ◌+◌, List, [], ◌∷◌, ◌++◌, length, slice_get, Contains, Some, IsAscii, refl, sym, ◌∙◌, ap, subst, arith, lit<, lit≤}
use Rattle.std.specs.Prelude.{codes}
use Rattle.std.specs.Fmt.{digits}
use Rattle.std.specs.List.Sorted.{IsStrictlySortedBy}
use Rattle.std.proofs.lemmas.Option.{same_Some}
use Rattle.std.proofs.lemmas.Str.{chars-IsAscii, IsUtf8-from_ascii}
use Rattle.finite_sets.proofs.Lists.{Contains-none}
use Rattle.grammar_model.specs.Trees.{Tree}
use Rattle.grammar_model.specs.Derives.{Line}
use Rattle.language_model.specs.Building.{LexemeRow}
use Rattle.reading_model.specs.Reading.{IsNext, IsLongest, IsFound, AreFound, AreExpected, TakesNothing, Reads, Begin, Stopped, HasStopped, IsReading}
use Rattle.run_model.specs.Jobs.{work_grammar}
use Rattle.run_model.specs.Inputs.IsInputRefused.{ReadingStops}
use Rattle.run_model.specs.Outcome.{IsOutcome, refused}
use Rattle.run_model.specs.Outcome.IsOutcome.{OfJob}
use Rattle.run_model.specs.Outcome.IsGrammarOutcome.{GrammarAccepted}
use Rattle.run_model.specs.Outcome.IsInputOutcome.{InputRefused}
use Rattle.run_model.specs.Inputs.{stop_text}
use Rattle.run_model.specs.Laws.{run_words}
use Rattle.run_model.proofs.Given.{none_given}
use Rattle.run_model.proofs.Accepted.{for_none}
use Rattle.work_laws.proofs.Text.{ascii_of}
use Rattle.work_laws.proofs.Building.{work_g1, work_built, row}
use Rattle.work_laws.proofs.Working.{work_accepted}
use Rattle.work_laws.proofs.Shapes.{IsRun, Last, More, Letter, Bracket, run_derives}
use Rattle.work_laws.proofs.Pieces.{ones, ones_spelled, line_edges}
use Rattle.work_laws.proofs.Matching.{spelling, matched}
use Rattle.work_laws.proofs.Reading.{candidate_below, taken}
use Rattle.outcome_laws.proofs.Telling.{job}

abbrev text : List ℕ
text = codes "(ab"

abbrev before : List ℕ
before = 3 ∷ 2 ∷ []

-- ---- what can come next

-- a terminal within a word of the language comes next after those before it
next_of : (front rest : List ℕ) (s : ℕ) (t : Tree) → IsRun (front ++ s ∷ rest) 0 (length (front ++ s ∷ rest)) t → IsNext work_built (ones front) s
next_of front rest s t run = record {
  before = front;
  after = rest;
  tree = t;
  spelled = ones_spelled front;
  derived = run_derives (front ++ s ∷ rest) (Line (front ++ s ∷ rest)) (line_edges (front ++ s ∷ rest)) run;
}

-- `(`, of `(a)`
open_first : IsNext work_built [] 3
open_first = next_of [] (2 ∷ 4 ∷ []) 3 _ (Last (Bracket refl (Last (Letter refl)) refl))

-- `a`, of `(a)`
letter_then : IsNext work_built (ones (3 ∷ [])) 2
letter_then = next_of (3 ∷ []) (4 ∷ []) 2 _ (Last (Bracket refl (Last (Letter refl)) refl))

-- `a`, of `(aa)`
letter_next : IsNext work_built (ones before) 2
letter_next = next_of before (4 ∷ []) 2 _ (Last (Bracket refl (More (Letter refl) (Last (Letter refl))) refl))

-- `(`, of `(a(a))`
open_next : IsNext work_built (ones before) 3
open_next = next_of before (2 ∷ 4 ∷ 4 ∷ []) 3 _ (Last (Bracket refl (More (Letter refl) (Last (Bracket refl (Last (Letter refl)) refl))) refl))

-- `)`, of `(a)`
close_next : IsNext work_built (ones before) 4
close_next = next_of before [] 4 _ (Last (Bracket refl (Last (Letter refl)) refl))

-- ---- the two tokens

reads : Reads work_built text 2 (ones before)
reads = taken text (ones (3 ∷ [])) 1 0 (lit< tt) refl (taken text [] 0 1 (lit< tt) refl Begin (lit< tt) open_first) (lit< tt) letter_then

-- ---- nothing more

not_b : (n : ℕ) → slice_get text 2 ≡ Some (spelling n) → ⊥
not_b zero e = let c = same_Some _ _ e in omega (arith, c)
not_b (suc zero) e = let c = same_Some _ _ e in omega (arith, c)
not_b (suc (suc n)) e = let c = same_Some _ _ e in omega (arith, c)

none_longest : (n : ℕ) → IsLongest work_built text (ones before) 2 n → ⊥
none_longest n l = not_b l.start (matched text l.start 2 (2 + n) (candidate_below (ones before) l.start l.candidate) l.matches).1

takes_nothing : TakesNothing work_built text (ones before) 2
takes_nothing n l = absurd (none_longest n l)

found : AreFound work_built text (ones before) 2 []
unfolding IsStrictlySortedBy
found = record { sorted = tt; exact = λ s. ((λ c. absurd (Contains-none s c)), (λ (f : IsFound work_built text (ones before) 2 s). absurd (none_longest f.count f.longest))) }

expected : AreExpected work_built (ones before) (3 ∷ 4 ∷ 2 ∷ [])
unfolding IsStrictlySortedBy
expected = record { sorted = ((refl, (refl, tt)), ((refl, tt), (tt, tt))); exact = λ s. (to s, from s) }
  where
    IsExpected : ℕ → Type 0
    IsExpected s = (l : LexemeRow) × Contains work_built.lexemes l × (l.symbol ≡ s) × IsNext work_built (ones before) s

    to : (s : ℕ) → Contains (3 ∷ 4 ∷ 2 ∷ []) s → IsExpected s
    to s (zero, lt, e) = subst IsExpected e (row 3 1, (1, lit< tt, refl), refl, open_next)
    to s (suc zero, lt, e) = subst IsExpected e (row 4 2, (2, lit< tt, refl), refl, close_next)
    to s (suc (suc zero), lt, e) = subst IsExpected e (row 2 0, (0, lit< tt, refl), refl, letter_next)
    to s (suc (suc (suc k)), lt, e) = absurd (omega (arith, lt))

    from : (s : ℕ) → IsExpected s → Contains (3 ∷ 4 ∷ 2 ∷ []) s
    from s (l, (zero, lt, e), is, next) = (2, lit< tt, ap (λ (r : LexemeRow). r.symbol) e ∙ is)
    from s (l, (suc zero, lt, e), is, next) = (0, lit< tt, ap (λ (r : LexemeRow). r.symbol) e ∙ is)
    from s (l, (suc (suc zero), lt, e), is, next) = (1, lit< tt, ap (λ (r : LexemeRow). r.symbol) e ∙ is)
    from s (l, (suc (suc (suc k)), lt, e), is, next) = absurd (omega (arith, lt))

text_ascii : IsAscii text
text_ascii = ascii_of text refl

stops : IsReading work_built text (ones before) (Stopped 2 [] (3 ∷ 4 ∷ 2 ∷ []))
stops = HasStopped reads (lit< tt) takes_nothing (λ symbol c may. Contains-none symbol c) found expected

told : codes "input stopped at line 1 column 3; found: none; expected: '(', ')', 'a'" ≡ stop_text work_g1 text 2 [] (3 ∷ 4 ∷ 2 ∷ [])
unfolding digits
told = refl

pub stopped : IsOutcome run_words work_grammar text (refused 1 (codes "input stopped at line 1 column 3; found: none; expected: '(', ')', 'a'"))
stopped =
    OfJob job refl (GrammarAccepted work_built (for_none work_grammar work_built work_accepted) (
      [],
      none_given work_built,
      InputRefused (codes "input stopped at line 1 column 3; found: none; expected: '(', ')', 'a'")
          (ReadingStops (ones before) 2 [] (3 ∷ 4 ∷ 2 ∷ []) (record { within = lit≤ tt; utf8 = IsUtf8-from_ascii text text_ascii })
          (subst (λ cs. IsReading work_built cs (ones before) (Stopped 2 [] (3 ∷ 4 ∷ 2 ∷ []))) (sym (chars-IsAscii text text_ascii)) stops)
          (told ∙ ap (λ cs. stop_text work_g1 cs 2 [] (3 ∷ 4 ∷ 2 ∷ [])) (sym (chars-IsAscii text text_ascii)))) refl,
    ))
