-- A job that words ask for has what its task needs.
use Rattle.std.proofs.Common.{◌≡◌, ◌≢◌, ℕ, ◌≤◌, List, [], ◌∷◌, Bool, true, false, ◌&&◌, if◌then◌else◌, Option, Some, None, refl, sym, subst, nat_le, nat_lt, leb-true, length, lit≤}
use Rattle.std.specs.Prelude.{IsTrue, option_map, option_and_then, codes, bytes_eq, find, is_some}
use Rattle.std.specs.Char.{is_ascii_digit}
use Rattle.std.specs.List.{list_all}
use Rattle.language_model.specs.Building.{digits_number}
use Rattle.words_model.specs.Words.{Telling, Task, Check, Tell, Work, Script, InputFrom, Nowhere, StandardInput, FileNamed, Job, Setting, Given, Does, Checks, Tells, Supplies, Works, Plays, JobRow, jobs, options_of, task_asked, job_given, job_named, job_with, gives_only, grammar_given, input_given, input_file, work_asked, name_or_text, number_from, are_different, are_names, names_between, names_given, words_set, are_set_once, value_of, read_or}
use Rattle.words_model.specs.Laws.{IsFitted, JobsAreFitted}

-- ---- values

within : (some short digits least most : Bool) (n size : ℕ) → (most ≡ true → n ≤ 100000)
    → (if some && short && digits && least && most then Some n else None) ≡ Some size → size ≤ 100000
within true true true true true n size high e = let same : n ≡ size = cc e in subst (λ z. z ≤ 100000) same (high refl)
within true true true true false n size high e = absurd (cc e)
within true true true false most n size high e = absurd (cc e)
within true true false least most n size high e = absurd (cc e)
within true false digits least most n size high e = absurd (cc e)
within false short digits least most n size high e = absurd (cc e)

number_within : (value : List ℕ) (size : ℕ) → number_from 1 100000 value ≡ Some size → size ≤ 100000
number_within value size e =
    within (nat_lt 0 (length value)) (nat_le (length value) 10) (list_all is_ascii_digit value) (nat_le 1 (digits_number value)) (nat_le (digits_number value) 100000)
    (digits_number value) size (leb-true (digits_number value) 100000) e

named : (o : Option (List ℕ)) (grammar : Option (List ℕ)) → option_map (λ name. Some name) o ≡ Some grammar → IsTrue (is_some grammar)
named None grammar e = absurd (cc e)
named (Some name) grammar e = let same : Some name ≡ grammar = cc e in subst (λ (g : Option (List ℕ)). IsTrue (is_some g)) same refl

somewhere : (value : Option (List ℕ)) (input : InputFrom) → read_or StandardInput input_file value ≡ Some input → input ≢ Nowhere
somewhere None input e nowhere = let same : StandardInput ≡ input = cc e in cc
somewhere (Some value) input e nowhere = by_name (name_or_text value) e
  where
    by_name : (o : Option (List ℕ)) → option_map FileNamed o ≡ Some input → ⊥
    by_name None e = absurd (cc e)
    by_name (Some name) e = let same : FileNamed name ≡ input = cc e in cc

-- ---- tasks

of_work : (value : Option (List ℕ)) (task : Task) → option_map Work (option_and_then (number_from 1 100000) value) ≡ Some task → (size : ℕ) × (Work size ≡ task) × (size ≤ 100000)
of_work None task e = absurd (cc e)
of_work (Some value) task e = by_number (number_from 1 100000 value) (number_within value) e
  where
    by_number : (o : Option ℕ) → ((n : ℕ) → o ≡ Some n → n ≤ 100000) → option_map Work o ≡ Some task → (size : ℕ) × (Work size ≡ task) × (size ≤ 100000)
    by_number None sized e = absurd (cc e)
    by_number (Some n) sized e = (n, cc e, sized n refl)

told : (given : List (List ℕ)) (what : Option Telling) (task : Task) → option_map (Tell given) what ≡ Some task → (w : Telling) × (Tell given w ≡ task)
told given None task e = absurd (cc e)
told given (Some w) task e = (w, cc e)

-- the names that are given are eight at most
few_names : (few some once : Bool) (names given : List (List ℕ)) → (few ≡ true → length names ≤ 8)
    → (if few && some && once then Some names else None) ≡ Some given → length given ≤ 8
few_names true true true names given short e = let same : names ≡ given = cc e in subst (λ (ns : List (List ℕ)). length ns ≤ 8) same (short refl)
few_names true true false names given short e = absurd (cc e)
few_names true false once names given short e = absurd (cc e)
few_names false some once names given short e = absurd (cc e)

given_few : (value : List ℕ) (given : List (List ℕ)) → names_given value ≡ Some given → length given ≤ 8
given_few value given e = by_text (name_or_text value) e
  where
    by_text : (o : Option (List ℕ)) → option_and_then (λ text. if are_names (names_between text) then Some (names_between text) else None) o ≡ Some given → length given ≤ 8
    by_text None e = absurd (cc e)
    by_text (Some text) e =
        few_names (nat_le (length (names_between text)) 8) (list_all (λ name. nat_lt 0 (length name)) (names_between text)) (are_different (names_between text))
        (names_between text) given (leb-true (length (names_between text)) 8) e

of_names : (what : Option Telling) (value : Option (List ℕ)) (task : Task) → option_and_then (λ names. option_map (Tell names) what) (option_and_then names_given value) ≡ Some task
    → (given : List (List ℕ)) × (w : Telling) × (Tell given w ≡ task) × (length given ≤ 8)
of_names what None task e = absurd (cc e)
of_names what (Some value) task e = by_names (names_given value) (given_few value) e
  where
    by_names : (o : Option (List (List ℕ))) → ((given : List (List ℕ)) → o ≡ Some given → length given ≤ 8) → option_and_then (λ names. option_map (Tell names) what) o ≡ Some task
        → (given : List (List ℕ)) × (w : Telling) × (Tell given w ≡ task) × (length given ≤ 8)
    by_names None few e = absurd (cc e)
    by_names (Some given) few e = let (w, is) = told given what task e in (given, w, is, few given refl)

-- ---- jobs

made : (P : Job → Type 0) (only : Bool) (grammar : Option (Option (List ℕ))) (input : Option InputFrom) (task : Option Task)
    → ((g : Option (List ℕ)) (i : InputFrom) (t : Task) → grammar ≡ Some g → input ≡ Some i → task ≡ Some t → P (record { grammar = g; input = i; task = t }))
    → (job : Job)
    → (if only then option_and_then (λ grammar. option_and_then (λ input. option_map (λ t. record { grammar = grammar; input = input; task = t }) task) input) grammar else None) ≡ Some job → P job
made P false grammar input task h job e = absurd (cc e)
made P true None input task h job e = absurd (cc e)
made P true (Some g) None task h job e = absurd (cc e)
made P true (Some g) (Some i) None h job e = absurd (cc e)
made P true (Some g) (Some i) (Some t) h job e = let same : record { grammar = g; input = i; task = t } ≡ job = cc e in subst P same (h g i t refl refl refl)

abbrev Fitted : Job → Type 0
Fitted job = IsFitted job.task job.grammar job.input

module _ (given : Given) where
  by_row : (does : Does) (job : Job) → job_with (options_of does) (task_asked does given) given ≡ Some job → Fitted job
  by_row Checks job e =
      made Fitted (gives_only (codes "grammar" ∷ []) given) (grammar_given (codes "grammar" ∷ []) given) (Some Nowhere) (Some Check) (λ g i t eg ei et.
      (let is : Check ≡ t = cc et in
      let where_is : Nowhere ≡ i = cc ei in
      subst (λ (z : Task). IsFitted z g i) is (named _ g eg, sym where_is))) job e
  by_row (Tells options asked) job e =
      made Fitted (gives_only (options_of (Tells options asked)) given) (grammar_given (options_of (Tells options asked)) given) (input_given (options_of (Tells options asked)) given)
      (option_map (Tell []) (asked given)) (λ g i t eg ei et.
      (let (what, is) = told [] (asked given) t et in
      subst (λ (z : Task). IsFitted z g i) is (named _ g eg, somewhere (given (codes "input")) i ei, lit≤ tt))) job e
  by_row (Supplies options asked) job e =
      made Fitted (gives_only (options_of (Supplies options asked)) given) (grammar_given (options_of (Supplies options asked)) given) (input_given (options_of (Supplies options asked)) given)
      (task_asked (Supplies options asked) given) (λ g i t eg ei et.
      (let (names, what, is, few) = of_names (asked given) (given (codes "give")) t et in
      subst (λ (z : Task). IsFitted z g i) is (named _ g eg, somewhere (given (codes "input")) i ei, few))) job e
  by_row Works job e =
      made Fitted (gives_only (codes "size" ∷ []) given) (Some None) (Some Nowhere) (work_asked given) (λ g i t eg ei et.
      (let (size, is, few) = of_work (given (codes "size")) t et in
      let none : None ≡ g = cc eg in
      let where_is : Nowhere ≡ i = cc ei in
      subst (λ (z : Task). IsFitted z g i) is (sym none, sym where_is, few))) job e
  by_row Plays job e =
      made Fitted (gives_only (codes "input" ∷ []) given) (Some None) (input_given (codes "input" ∷ []) given) (Some Script) (λ g i t eg ei et.
      (let is : Script ≡ t = cc et in
      let none : None ≡ g = cc eg in
      subst (λ (z : Task). IsFitted z g i) is (sym none, somewhere (given (codes "input")) i ei))) job e

  by_rows : (row : Option JobRow) (job : Job) → option_and_then (λ row. job_with (options_of row.does) (task_asked row.does given) given) row ≡ Some job → Fitted job
  by_rows None job e = absurd (cc e)
  by_rows (Some row) job e = by_row row.does job e

  by_words : (name : Option (List ℕ)) (job : Job) → option_and_then (λ n. job_named n given) name ≡ Some job → Fitted job
  by_words None job e = absurd (cc e)
  by_words (Some name) job e = by_rows (find (λ row. bytes_eq name row.name) jobs) job e

by_settings : (job : Job) (settings : Option (List Setting)) → option_and_then (λ ss. if are_set_once ss then job_given (value_of ss) else None) settings ≡ Some job → Fitted job
by_settings job None e = absurd (cc e)
by_settings job (Some ss) e = by_once (are_set_once ss) e
  where
    by_once : (b : Bool) → (if b then job_given (value_of ss) else None) ≡ Some job → Fitted job
    by_once false e = absurd (cc e)
    by_once true e = by_words (value_of ss) (value_of ss (codes "JOB")) job e

pub jobs_are_fitted : JobsAreFitted
jobs_are_fitted words job asks = by_settings job (words_set words None) asks
