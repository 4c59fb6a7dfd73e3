-- Worked words, each by computing.
use Rattle.std.specs.Prelude.{◌≡◌, ℕ, Bool, true, false, List, [], ◌∷◌, Option, Some, None, codes, refl}
use Rattle.grammar_model.specs.declared.Ranking.{Ranking}
use Rattle.grammar_model.specs.declared.Ranking.TheVariants.{None as NoRanks, Rule as RuleRanks}
use Rattle.grammar_model.specs.declared.Show.{Show}
use Rattle.grammar_model.specs.declared.Show.TheVariants.{Array as ShowArray, Tree as ShowTree}
use Rattle.grammar_model.specs.declared.limits.TheConstants.{LAST_PLACE}
use Rattle.words_model.specs.Words.{Job, Task, Values, More, Check, Expected, Report, Glades, Tell, Work, Script, InputFrom, Nowhere, StandardInput, FileNamed, job_asked}

abbrev input_in : Option (List ℕ) → InputFrom
input_in None = StandardInput
input_in (Some name) = FileNamed name

abbrev of_grammar : (grammar : List ℕ) → InputFrom → Task → Job
of_grammar grammar input task = record { grammar = Some grammar; input = input; task = task }

abbrev runs : (grammar : List ℕ) (input : Option (List ℕ)) → Show → Ranking → (first : Option ℕ) (stats : Bool) → Job
runs grammar input show ranking first stats = of_grammar grammar (input_in input) (Tell [] (Values (record { show = show; ranking = ranking; first = first; stats = stats })))

abbrev checks : List ℕ → Job
checks grammar = of_grammar grammar Nowhere Check

abbrev expects : (grammar : List ℕ) (input : Option (List ℕ)) → Job
expects grammar input = of_grammar grammar (input_in input) (Tell [] Expected)

abbrev reports : (grammar : List ℕ) (at : ℕ) (input : Option (List ℕ)) → Job
reports grammar at input = of_grammar grammar (input_in input) (Tell [] (Report at))

abbrev shows_glades : (grammar : List ℕ) (input : Option (List ℕ)) → Job
shows_glades grammar input = of_grammar grammar (input_in input) (Tell [] Glades)

abbrev goes_on : (grammar : List ℕ) (input : Option (List ℕ)) → Show → Ranking → (after : List ℕ) (first : Option ℕ) → Job
goes_on grammar input show ranking after first = of_grammar grammar (input_in input) (Tell [] (More (record { show = show; ranking = ranking; after = after; first = first })))

abbrev slips : (grammar : List ℕ) (input : Option (List ℕ)) (given : List (List ℕ)) → Show → Ranking → (first : Option ℕ) → Job
slips grammar input given show ranking first = of_grammar grammar (input_in input) (Tell given (Values (record { show = show; ranking = ranking; first = first; stats = false })))

abbrev works : ℕ → Job
works size = record { grammar = None; input = Nowhere; task = Work size }

abbrev plays : Option (List ℕ) → Job
plays input = record { grammar = None; input = input_in input; task = Script }

progress_at : job_asked (codes "progress" ∷ codes "--at" ∷ codes "2" ∷ codes "--grammar" ∷ codes "g.slif" ∷ []) ≡ Some (reports (codes "g.slif") 2 None)
progress_at = refl

run_alone : job_asked (codes "run" ∷ []) ≡ None
run_alone = refl

no_words : job_asked ([]) ≡ None
no_words = refl

first_0 : job_asked (codes "run" ∷ codes "--grammar=g.slif" ∷ codes "--first" ∷ codes "0" ∷ []) ≡ None
first_0 = refl

two_jobs : job_asked (codes "run" ∷ codes "run" ∷ codes "--grammar" ∷ codes "g.slif" ∷ []) ≡ None
two_jobs = refl

two_other_jobs : job_asked (codes "run" ∷ codes "--grammar" ∷ codes "g.slif" ∷ codes "check" ∷ []) ≡ None
two_other_jobs = refl

grammar_twice : job_asked (codes "run" ∷ codes "--grammar" ∷ codes "g.slif" ∷ codes "--grammar" ∷ codes "g.slif" ∷ []) ≡ None
grammar_twice = refl

grammar_twice_in_both_spellings : job_asked (codes "run" ∷ codes "--grammar" ∷ codes "g.slif" ∷ codes "--grammar=h.slif" ∷ []) ≡ None
grammar_twice_in_both_spellings = refl

stats_twice : job_asked (codes "run" ∷ codes "--grammar" ∷ codes "g.slif" ∷ codes "--stats" ∷ codes "--stats" ∷ []) ≡ None
stats_twice = refl

rank_for_check : job_asked (codes "check" ∷ codes "--grammar" ∷ codes "g.slif" ∷ codes "--rank" ∷ codes "rule" ∷ []) ≡ None
rank_for_check = refl

job_behind_the_end : job_asked (codes "--grammar" ∷ codes "g.slif" ∷ codes "--" ∷ codes "check" ∷ []) ≡ Some (checks (codes "g.slif"))
job_behind_the_end = refl

option_behind_the_end : job_asked (codes "check" ∷ codes "--" ∷ codes "--grammar" ∷ codes "g.slif" ∷ []) ≡ None
option_behind_the_end = refl

two_behind_the_end : job_asked (codes "--grammar" ∷ codes "g.slif" ∷ codes "--" ∷ codes "check" ∷ codes "check" ∷ []) ≡ None
two_behind_the_end = refl

job_on_both_sides_of_the_end : job_asked (codes "check" ∷ codes "--grammar" ∷ codes "g.slif" ∷ codes "--" ∷ codes "check" ∷ []) ≡ None
job_on_both_sides_of_the_end = refl

nothing_behind_the_end : job_asked (codes "check" ∷ codes "--grammar" ∷ codes "g.slif" ∷ codes "--" ∷ []) ≡ Some (checks (codes "g.slif"))
nothing_behind_the_end = refl

two_ends : job_asked (codes "--grammar" ∷ codes "g.slif" ∷ codes "--" ∷ codes "--" ∷ codes "check" ∷ []) ≡ None
two_ends = refl

the_end_as_a_value : job_asked (codes "check" ∷ codes "--grammar" ∷ codes "--" ∷ []) ≡ None
the_end_as_a_value = refl

the_end_before_a_value : job_asked (codes "--grammar" ∷ codes "--" ∷ codes "g.slif" ∷ codes "check" ∷ []) ≡ None
the_end_before_a_value = refl

work_2 : job_asked (codes "work" ∷ codes "--size" ∷ codes "2" ∷ []) ≡ Some (works 2)
work_2 = refl

work_1001 : job_asked (codes "--size=1001" ∷ codes "work" ∷ []) ≡ Some (works 1001)
work_1001 = refl

work_most : job_asked (codes "work" ∷ codes "--size" ∷ codes "100000" ∷ []) ≡ Some (works 100000)
work_most = refl

work_too_many : job_asked (codes "work" ∷ codes "--size" ∷ codes "100001" ∷ []) ≡ None
work_too_many = refl

work_0 : job_asked (codes "work" ∷ codes "--size" ∷ codes "0" ∷ []) ≡ None
work_0 = refl

work_with_a_grammar : job_asked (codes "work" ∷ codes "--size" ∷ codes "2" ∷ codes "--grammar" ∷ codes "g.slif" ∷ []) ≡ None
work_with_a_grammar = refl

work_alone : job_asked (codes "work" ∷ []) ≡ None
work_alone = refl

run_plain : job_asked (codes "run" ∷ codes "--grammar" ∷ codes "g.slif" ∷ []) ≡ Some (runs (codes "g.slif") None ShowArray RuleRanks None false)
run_plain = refl

run_all : job_asked (codes "--stats" ∷ codes "--first" ∷ codes "7" ∷ codes "--show" ∷ codes "tree" ∷ codes "run" ∷ codes "--rank" ∷ codes "none" ∷ codes "--input" ∷ codes "text" ∷ codes "--grammar=g.slif" ∷ []) ≡ Some (runs (codes "g.slif") (Some (codes "text")) ShowTree NoRanks (Some 7) true)
run_all = refl

run_all_attached : job_asked (codes "--stats" ∷ codes "--first=7" ∷ codes "--show=array" ∷ codes "--rank=rule" ∷ codes "--input=text" ∷ codes "--grammar=g.slif" ∷ codes "run" ∷ []) ≡ Some (runs (codes "g.slif") (Some (codes "text")) ShowArray RuleRanks (Some 7) true)
run_all_attached = refl

first_most : job_asked (codes "run" ∷ codes "--grammar" ∷ codes "g.slif" ∷ codes "--first" ∷ codes "4294967295" ∷ []) ≡ Some (runs (codes "g.slif") None ShowArray RuleRanks (Some 4294967295) false)
first_most = refl

first_too_many : job_asked (codes "run" ∷ codes "--grammar" ∷ codes "g.slif" ∷ codes "--first" ∷ codes "4294967296" ∷ []) ≡ None
first_too_many = refl

first_with_zeros : job_asked (codes "run" ∷ codes "--grammar" ∷ codes "g.slif" ∷ codes "--first=00001" ∷ []) ≡ Some (runs (codes "g.slif") None ShowArray RuleRanks (Some 1) false)
first_with_zeros = refl

first_ten_digits : job_asked (codes "run" ∷ codes "--grammar" ∷ codes "g.slif" ∷ codes "--first=0000000001" ∷ []) ≡ Some (runs (codes "g.slif") None ShowArray RuleRanks (Some 1) false)
first_ten_digits = refl

first_eleven_digits : job_asked (codes "run" ∷ codes "--grammar" ∷ codes "g.slif" ∷ codes "--first=00000000001" ∷ []) ≡ None
first_eleven_digits = refl

first_with_a_sign : job_asked (codes "run" ∷ codes "--grammar" ∷ codes "g.slif" ∷ codes "--first=+1" ∷ []) ≡ None
first_with_a_sign = refl

first_with_a_letter : job_asked (codes "run" ∷ codes "--grammar" ∷ codes "g.slif" ∷ codes "--first=1a" ∷ []) ≡ None
first_with_a_letter = refl

first_empty : job_asked (codes "run" ∷ codes "--grammar" ∷ codes "g.slif" ∷ codes "--first=" ∷ []) ≡ None
first_empty = refl

value_with_a_hyphen : job_asked (codes "run" ∷ codes "--grammar" ∷ codes "g.slif" ∷ codes "--input" ∷ codes "-x" ∷ []) ≡ None
value_with_a_hyphen = refl

value_with_a_hyphen_attached : job_asked (codes "run" ∷ codes "--grammar" ∷ codes "g.slif" ∷ codes "--input=-x" ∷ []) ≡ Some (runs (codes "g.slif") (Some (codes "-x")) ShowArray RuleRanks None false)
value_with_a_hyphen_attached = refl

value_with_hyphens_attached : job_asked (codes "run" ∷ codes "--grammar" ∷ codes "g.slif" ∷ codes "--input=--" ∷ []) ≡ Some (runs (codes "g.slif") (Some (codes "--")) ShowArray RuleRanks None false)
value_with_hyphens_attached = refl

value_of_a_hyphen : job_asked (codes "run" ∷ codes "--grammar" ∷ codes "g.slif" ∷ codes "--input" ∷ codes "-" ∷ []) ≡ None
value_of_a_hyphen = refl

value_of_a_hyphen_attached : job_asked (codes "run" ∷ codes "--grammar" ∷ codes "g.slif" ∷ codes "--input=-" ∷ []) ≡ None
value_of_a_hyphen_attached = refl

value_with_an_equals : job_asked (codes "run" ∷ codes "--grammar=a=b" ∷ []) ≡ Some (runs (codes "a=b") None ShowArray RuleRanks None false)
value_with_an_equals = refl

value_of_an_equals : job_asked (codes "run" ∷ codes "--grammar==" ∷ []) ≡ Some (runs (codes "=") None ShowArray RuleRanks None false)
value_of_an_equals = refl

value_that_names_a_job : job_asked (codes "check" ∷ codes "--grammar" ∷ codes "run" ∷ []) ≡ Some (checks (codes "run"))
value_that_names_a_job = refl

value_empty_attached : job_asked (codes "run" ∷ codes "--grammar=" ∷ []) ≡ None
value_empty_attached = refl

value_missing : job_asked (codes "run" ∷ codes "--grammar" ∷ []) ≡ None
value_missing = refl

value_missing_before_an_option : job_asked (codes "run" ∷ codes "--grammar" ∷ codes "--stats" ∷ []) ≡ None
value_missing_before_an_option = refl

value_missing_before_a_value : job_asked (codes "run" ∷ codes "--input" ∷ codes "--grammar" ∷ codes "g.slif" ∷ []) ≡ None
value_missing_before_a_value = refl

stats_with_a_value : job_asked (codes "run" ∷ codes "--grammar" ∷ codes "g.slif" ∷ codes "--stats=x" ∷ []) ≡ None
stats_with_a_value = refl

stats_with_an_empty_value : job_asked (codes "run" ∷ codes "--grammar" ∷ codes "g.slif" ∷ codes "--stats=" ∷ []) ≡ None
stats_with_an_empty_value = refl

stats_for_check : job_asked (codes "check" ∷ codes "--grammar" ∷ codes "g.slif" ∷ codes "--stats" ∷ []) ≡ None
stats_for_check = refl

rank_of_another_name : job_asked (codes "run" ∷ codes "--grammar" ∷ codes "g.slif" ∷ codes "--rank" ∷ codes "both" ∷ []) ≡ None
rank_of_another_name = refl

rank_in_capitals : job_asked (codes "run" ∷ codes "--grammar" ∷ codes "g.slif" ∷ codes "--rank" ∷ codes "RULE" ∷ []) ≡ None
rank_in_capitals = refl

show_of_another_name : job_asked (codes "run" ∷ codes "--grammar" ∷ codes "g.slif" ∷ codes "--show" ∷ codes "list" ∷ []) ≡ None
show_of_another_name = refl

at_for_run : job_asked (codes "run" ∷ codes "--grammar" ∷ codes "g.slif" ∷ codes "--at" ∷ codes "2" ∷ []) ≡ None
at_for_run = refl

at_0 : job_asked (codes "progress" ∷ codes "--at" ∷ codes "0" ∷ codes "--grammar" ∷ codes "g.slif" ∷ codes "--input" ∷ codes "text" ∷ []) ≡ Some (reports (codes "g.slif") 0 (Some (codes "text")))
at_0 = refl

at_most : job_asked (codes "progress" ∷ codes "--at=16777216" ∷ codes "--grammar" ∷ codes "g.slif" ∷ []) ≡ Some (reports (codes "g.slif") LAST_PLACE None)
at_most = refl

at_past_the_most : job_asked (codes "progress" ∷ codes "--at=16777217" ∷ codes "--grammar" ∷ codes "g.slif" ∷ []) ≡ None
at_past_the_most = refl

progress_without_at : job_asked (codes "progress" ∷ codes "--grammar" ∷ codes "g.slif" ∷ []) ≡ None
progress_without_at = refl

progress_without_a_grammar : job_asked (codes "progress" ∷ codes "--at" ∷ codes "2" ∷ []) ≡ None
progress_without_a_grammar = refl

expect_plain : job_asked (codes "expect" ∷ codes "--grammar" ∷ codes "g.slif" ∷ []) ≡ Some (expects (codes "g.slif") None)
expect_plain = refl

expect_text : job_asked (codes "--input" ∷ codes "text" ∷ codes "expect" ∷ codes "--grammar" ∷ codes "g.slif" ∷ []) ≡ Some (expects (codes "g.slif") (Some (codes "text")))
expect_text = refl

first_for_expect : job_asked (codes "expect" ∷ codes "--grammar" ∷ codes "g.slif" ∷ codes "--first" ∷ codes "1" ∷ []) ≡ None
first_for_expect = refl

abbreviated : job_asked (codes "run" ∷ codes "--gram" ∷ codes "g.slif" ∷ []) ≡ None
abbreviated = refl

longer : job_asked (codes "run" ∷ codes "--grammars" ∷ codes "g.slif" ∷ []) ≡ None
longer = refl

in_capitals : job_asked (codes "run" ∷ codes "--GRAMMAR" ∷ codes "g.slif" ∷ []) ≡ None
in_capitals = refl

one_hyphen : job_asked (codes "run" ∷ codes "-grammar" ∷ codes "g.slif" ∷ []) ≡ None
one_hyphen = refl

short : job_asked (codes "run" ∷ codes "-g" ∷ codes "g.slif" ∷ []) ≡ None
short = refl

a_hyphen : job_asked (codes "run" ∷ codes "-" ∷ codes "--grammar" ∷ codes "g.slif" ∷ []) ≡ None
a_hyphen = refl

a_hyphen_for_a_job : job_asked (codes "-" ∷ codes "--grammar" ∷ codes "g.slif" ∷ []) ≡ None
a_hyphen_for_a_job = refl

help : job_asked (codes "--help" ∷ []) ≡ None
help = refl

short_help : job_asked (codes "-h" ∷ []) ≡ None
short_help = refl

help_beside_a_job : job_asked (codes "check" ∷ codes "--grammar" ∷ codes "g.slif" ∷ codes "--help" ∷ []) ≡ None
help_beside_a_job = refl

version : job_asked (codes "--version" ∷ []) ≡ None
version = refl

no_name : job_asked (codes "check" ∷ codes "--grammar" ∷ codes "g.slif" ∷ codes "--=x" ∷ []) ≡ None
no_name = refl

job_as_an_option : job_asked (codes "--JOB" ∷ codes "run" ∷ codes "--grammar" ∷ codes "g.slif" ∷ []) ≡ None
job_as_an_option = refl

job_of_another_name : job_asked (codes "parse" ∷ codes "--grammar" ∷ codes "g.slif" ∷ []) ≡ None
job_of_another_name = refl

job_in_capitals : job_asked (codes "RUN" ∷ codes "--grammar" ∷ codes "g.slif" ∷ []) ≡ None
job_in_capitals = refl

job_as_an_option_of_its_own : job_asked (codes "run" ∷ codes "--job" ∷ codes "run" ∷ codes "--grammar" ∷ codes "g.slif" ∷ []) ≡ None
job_as_an_option_of_its_own = refl

value_empty : job_asked (codes "run" ∷ codes "--grammar" ∷ codes "" ∷ []) ≡ None
value_empty = refl

input_empty : job_asked (codes "run" ∷ codes "--grammar" ∷ codes "g.slif" ∷ codes "--input" ∷ codes "" ∷ []) ≡ None
input_empty = refl

an_empty_word : job_asked (codes "run" ∷ codes "--grammar" ∷ codes "g.slif" ∷ codes "" ∷ []) ≡ None
an_empty_word = refl

a_space_in_a_name : job_asked (codes "check" ∷ codes "--grammar" ∷ codes "a b" ∷ []) ≡ Some (checks (codes "a b"))
a_space_in_a_name = refl

glades_plain : job_asked (codes "glades" ∷ codes "--grammar" ∷ codes "g.slif" ∷ []) ≡ Some (shows_glades (codes "g.slif") None)
glades_plain = refl

glades_text : job_asked (codes "glades" ∷ codes "--input=text" ∷ codes "--grammar" ∷ codes "g.slif" ∷ []) ≡ Some (shows_glades (codes "g.slif") (Some (codes "text")))
glades_text = refl

glades_without_a_grammar : job_asked (codes "glades" ∷ []) ≡ None
glades_without_a_grammar = refl

rank_for_glades : job_asked (codes "glades" ∷ codes "--grammar" ∷ codes "g.slif" ∷ codes "--rank" ∷ codes "rule" ∷ []) ≡ None
rank_for_glades = refl

script_alone : job_asked (codes "script" ∷ []) ≡ Some (plays None)
script_alone = refl

script_in_a_file : job_asked (codes "--input=s.txt" ∷ codes "script" ∷ []) ≡ Some (plays (Some (codes "s.txt")))
script_in_a_file = refl

script_with_a_grammar : job_asked (codes "script" ∷ codes "--grammar" ∷ codes "g.slif" ∷ []) ≡ None
script_with_a_grammar = refl

script_of_a_size : job_asked (codes "script" ∷ codes "--size" ∷ codes "2" ∷ []) ≡ None
script_of_a_size = refl

script_in_no_file : job_asked (codes "script" ∷ codes "--input" ∷ codes "-" ∷ []) ≡ None
script_in_no_file = refl

more_plain : job_asked (codes "more" ∷ codes "--grammar" ∷ codes "g.slif" ∷ codes "--after" ∷ codes "0" ∷ []) ≡ Some (goes_on (codes "g.slif") None ShowArray RuleRanks (codes "0") None)
more_plain = refl

more_with_all : job_asked (codes "--show=tree" ∷ codes "--rank" ∷ codes "none" ∷ codes "--first=2" ∷ codes "--after=n0" ∷ codes "--input=text" ∷ codes "more" ∷ codes "--grammar" ∷ codes "g.slif" ∷ []) ≡
    Some (goes_on (codes "g.slif") (Some (codes "text")) ShowTree NoRanks (codes "n0") (Some 2))
more_with_all = refl

more_without_a_place : job_asked (codes "more" ∷ codes "--grammar" ∷ codes "g.slif" ∷ codes "--first" ∷ codes "1" ∷ []) ≡ None
more_without_a_place = refl

more_after_nothing : job_asked (codes "more" ∷ codes "--grammar" ∷ codes "g.slif" ∷ codes "--after" ∷ codes "" ∷ []) ≡ None
more_after_nothing = refl

more_after_a_hyphen : job_asked (codes "more" ∷ codes "--grammar" ∷ codes "g.slif" ∷ codes "--after=-" ∷ []) ≡ None
more_after_a_hyphen = refl

more_after_a_dashed_word : job_asked (codes "more" ∷ codes "--grammar" ∷ codes "g.slif" ∷ codes "--after" ∷ codes "-x" ∷ []) ≡ None
more_after_a_dashed_word = refl

more_after_a_dashed_text : job_asked (codes "more" ∷ codes "--grammar" ∷ codes "g.slif" ∷ codes "--after=-x" ∷ []) ≡ Some (goes_on (codes "g.slif") None ShowArray RuleRanks (codes "-x") None)
more_after_a_dashed_text = refl

stats_for_more : job_asked (codes "more" ∷ codes "--grammar" ∷ codes "g.slif" ∷ codes "--after" ∷ codes "0" ∷ codes "--stats" ∷ []) ≡ None
stats_for_more = refl

more_first_0 : job_asked (codes "more" ∷ codes "--grammar" ∷ codes "g.slif" ∷ codes "--after" ∷ codes "0" ∷ codes "--first" ∷ codes "0" ∷ []) ≡ None
more_first_0 = refl

more_without_a_grammar : job_asked (codes "more" ∷ codes "--after" ∷ codes "0" ∷ []) ≡ None
more_without_a_grammar = refl

after_for_run : job_asked (codes "run" ∷ codes "--grammar" ∷ codes "g.slif" ∷ codes "--after" ∷ codes "0" ∷ []) ≡ None
after_for_run = refl

after_twice : job_asked (codes "more" ∷ codes "--grammar" ∷ codes "g.slif" ∷ codes "--after=0" ∷ codes "--after=0" ∷ []) ≡ None
after_twice = refl

slip_plain : job_asked (codes "slip" ∷ codes "--grammar" ∷ codes "g.slif" ∷ codes "--give" ∷ codes "semi" ∷ []) ≡ Some (slips (codes "g.slif") None (codes "semi" ∷ []) ShowArray RuleRanks None)
slip_plain = refl

slip_with_all : job_asked (codes "--show=tree" ∷ codes "--rank" ∷ codes "none" ∷ codes "--first=2" ∷ codes "--give=semi,end tag" ∷ codes "--input=text" ∷ codes "slip" ∷ codes "--grammar" ∷ codes "g.slif" ∷ []) ≡
    Some (slips (codes "g.slif") (Some (codes "text")) (codes "semi" ∷ codes "end tag" ∷ []) ShowTree NoRanks (Some 2))
slip_with_all = refl

slip_of_eight : job_asked (codes "slip" ∷ codes "--grammar" ∷ codes "g.slif" ∷ codes "--give" ∷ codes "a,b,c,d,e,f,g,h" ∷ []) ≡
    Some (slips (codes "g.slif") None (codes "a" ∷ codes "b" ∷ codes "c" ∷ codes "d" ∷ codes "e" ∷ codes "f" ∷ codes "g" ∷ codes "h" ∷ []) ShowArray RuleRanks None)
slip_of_eight = refl

slip_of_nine : job_asked (codes "slip" ∷ codes "--grammar" ∷ codes "g.slif" ∷ codes "--give" ∷ codes "a,b,c,d,e,f,g,h,i" ∷ []) ≡ None
slip_of_nine = refl

slip_of_a_name_twice : job_asked (codes "slip" ∷ codes "--grammar" ∷ codes "g.slif" ∷ codes "--give" ∷ codes "a,b,a" ∷ []) ≡ None
slip_of_a_name_twice = refl

slip_of_an_empty_name : job_asked (codes "slip" ∷ codes "--grammar" ∷ codes "g.slif" ∷ codes "--give" ∷ codes "a,,b" ∷ []) ≡ None
slip_of_an_empty_name = refl

slip_of_a_last_comma : job_asked (codes "slip" ∷ codes "--grammar" ∷ codes "g.slif" ∷ codes "--give" ∷ codes "a," ∷ []) ≡ None
slip_of_a_last_comma = refl

slip_of_a_first_comma : job_asked (codes "slip" ∷ codes "--grammar" ∷ codes "g.slif" ∷ codes "--give" ∷ codes ",a" ∷ []) ≡ None
slip_of_a_first_comma = refl

slip_of_nothing : job_asked (codes "slip" ∷ codes "--grammar" ∷ codes "g.slif" ∷ codes "--give=" ∷ []) ≡ None
slip_of_nothing = refl

slip_of_a_hyphen : job_asked (codes "slip" ∷ codes "--grammar" ∷ codes "g.slif" ∷ codes "--give=-" ∷ []) ≡ None
slip_of_a_hyphen = refl

slip_without_names : job_asked (codes "slip" ∷ codes "--grammar" ∷ codes "g.slif" ∷ []) ≡ None
slip_without_names = refl

slip_without_a_grammar : job_asked (codes "slip" ∷ codes "--give" ∷ codes "a" ∷ []) ≡ None
slip_without_a_grammar = refl

stats_for_slip : job_asked (codes "slip" ∷ codes "--grammar" ∷ codes "g.slif" ∷ codes "--give" ∷ codes "a" ∷ codes "--stats" ∷ []) ≡ None
stats_for_slip = refl

give_for_run : job_asked (codes "run" ∷ codes "--grammar" ∷ codes "g.slif" ∷ codes "--give" ∷ codes "a" ∷ []) ≡ None
give_for_run = refl
