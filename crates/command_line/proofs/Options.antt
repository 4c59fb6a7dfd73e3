-- What the tests of names say.
use Rattle.std.proofs.Common.{◌≡◌, ◌∙◌, ℕ, Bool, true, false, not, ◌&&◌, refl, sym, ap, List, [], ◌∷◌, ◌++◌, map, Option, Some, None, codes, bytes_eq, true≢false}
use Rattle.language_model.specs.Building.{is_one_of}
use Rattle.clap.specs.Kinds.{Kinds, or_else}
use Rattle.clap.specs.Walk.{Rule, Row, Text, arg_by_long, arg_by_id, arg_by_short, arg_by_index}
use Rattle.clap.specs.Simple.{Shape, built, filled, with_index}
use Rattle.clap.specs.Faults.{use_fault}
use Rattle.clap.specs.Walk.{has_row}
use Rattle.words_model.specs.Words.{with_value, stats}
use Rattle.words_model.proofs.Spellings.{of_each}
use Rattle.std.proofs.lemmas.Slice.Eq.{bytes_eq-Decides}
use Rattle.command_line.specs.Command.{slif_app, option_rule, stats_rule, job_rule}

-- ---- kinds as tests

abbrev pub clean : Kinds → Bool
clean [] = true
clean (k ∷ ks) = false

pub clean-or : (a b : Kinds) → clean (or_else a b) ≡ (clean a && clean b)
clean-or [] b = refl
clean-or (k ∷ ks) b = refl

pub clean_none : (a : Kinds) → clean a ≡ true → a ≡ []
clean_none [] e = refl
clean_none (k ∷ ks) e = absurd (true≢false (sym e))

-- ---- names of options

no : (b : Bool) → not b ≡ true → b ≡ false
no false e = refl
no true e = sym e

pub not_stats : (name : Text) → is_one_of with_value name ≡ true → bytes_eq name stats ≡ false
not_stats name h = no (bytes_eq name stats) (of_each (λ n. not (bytes_eq n stats)) with_value refl name h)

pub not_job : (name : Text) → is_one_of with_value name ≡ true → bytes_eq name (codes "JOB") ≡ false
not_job name h = no (bytes_eq name (codes "JOB")) (of_each (λ n. not (bytes_eq n (codes "JOB"))) with_value refl name h)

-- ---- the command as it is built

unfoldable pub shape : Shape
shape = (built slif_app).top

abbrev pub opt : Text → Rule
opt name = filled (option_rule name)

abbrev pub flag : Rule
flag = filled stats_rule

abbrev pub job : Rule
job = with_index 1 (filled job_rule)

pub all_rules : shape.rules ≡ map opt with_value ++ flag ∷ job ∷ []
unfolding shape
all_rules = refl

-- of rules of options by their names, that of a name
long_found : (us : List Text) (rest : List Rule) (name : Text) → is_one_of us name ≡ true → arg_by_long (map opt us ++ rest) name ≡ Some (opt name)
long_found [] rest name h = absurd (true≢false (sym h))
long_found (u ∷ us) rest name h = go (bytes_eq u name) refl (long_found us rest name)
  where
    go : (b : Bool) → bytes_eq u name ≡ b → (is_one_of us name ≡ true → arg_by_long (map opt us ++ rest) name ≡ Some (opt name)) → arg_by_long (map opt (u ∷ us) ++ rest) name ≡ Some (opt name)
    go true e more = rw e (ap (λ n. Some (opt n)) ((bytes_eq-Decides u name).0 e))
    go false e more = rw e (more (rw e at h))

long_missing : (us : List Text) (rest : List Rule) (name : Text) → is_one_of us name ≡ false → arg_by_long (map opt us ++ rest) name ≡ arg_by_long rest name
long_missing [] rest name h = refl
long_missing (u ∷ us) rest name h = go (bytes_eq u name) refl (long_missing us rest name)
  where
    go : (b : Bool) → bytes_eq u name ≡ b → (is_one_of us name ≡ false → arg_by_long (map opt us ++ rest) name ≡ arg_by_long rest name) → arg_by_long (map opt (u ∷ us) ++ rest) name ≡ arg_by_long rest name
    go true e more = absurd (true≢false (rw e at h))
    go false e more = rw e (more (rw e at h))

id_found : (us : List Text) (rest : List Rule) (name : Text) → is_one_of us name ≡ true → arg_by_id (map opt us ++ rest) name ≡ Some (opt name)
id_found [] rest name h = absurd (true≢false (sym h))
id_found (u ∷ us) rest name h = go (bytes_eq u name) refl (id_found us rest name)
  where
    go : (b : Bool) → bytes_eq u name ≡ b → (is_one_of us name ≡ true → arg_by_id (map opt us ++ rest) name ≡ Some (opt name)) → arg_by_id (map opt (u ∷ us) ++ rest) name ≡ Some (opt name)
    go true e more = rw e (ap (λ n. Some (opt n)) ((bytes_eq-Decides u name).0 e))
    go false e more = rw e (more (rw e at h))

pub option_by_long : (name : Text) → is_one_of with_value name ≡ true → arg_by_long shape.rules name ≡ Some (opt name)
option_by_long name h = ap (λ rules. arg_by_long rules name) all_rules ∙ long_found with_value (flag ∷ job ∷ []) name h

pub option_by_id : (name : Text) → is_one_of with_value name ≡ true → arg_by_id shape.rules name ≡ Some (opt name)
option_by_id name h = ap (λ rules. arg_by_id rules name) all_rules ∙ id_found with_value (flag ∷ job ∷ []) name h

pub stats_by_long : arg_by_long shape.rules stats ≡ Some flag
unfolding shape
stats_by_long = refl

pub job_by_id : arg_by_id shape.rules (codes "JOB") ≡ Some job
unfolding shape
job_by_id = refl

pub other_by_long : (name : Text) → is_one_of with_value name ≡ false → bytes_eq stats name ≡ false → arg_by_long shape.rules name ≡ None
other_by_long name h e = ap (λ rules. arg_by_long rules name) all_rules ∙ long_missing with_value (flag ∷ job ∷ []) name h ∙ rw e refl

pub none_by_short : (x : ℕ) → arg_by_short shape.rules x ≡ None
unfolding shape
none_by_short x = refl

-- the place of the next operand: 1 where none was given
abbrev pub place : Bool → ℕ
place true = 2
place false = 1

abbrev pub taker : Bool → Option Rule
taker true = None
taker false = Some job

pub by_place : (given : Bool) → arg_by_index shape.rules (place given) ≡ taker given
unfolding shape
by_place true = refl
by_place false = refl

pub once_only : shape.args_override_self ≡ false
unfolding shape
once_only = refl

pub use_clean : (name v : Text) (rows : List Row) → has_row name rows ≡ false → clean (use_fault false (opt name) (v ∷ []) rows) ≡ true
use_clean name v rows e = rw e refl

pub use_clash : (name v : Text) (rows : List Row) → has_row name rows ≡ true → clean (use_fault false (opt name) (v ∷ []) rows) ≡ false
use_clash name v rows e = rw e refl

pub use_empty : (name : Text) (rows : List Row) → clean (use_fault false (opt name) [] rows) ≡ false
use_empty name rows = refl

pub job_clean : (v : Text) (rows : List Row) → has_row (codes "JOB") rows ≡ false → clean (use_fault false job (v ∷ []) rows) ≡ true
job_clean v rows e = rw e refl

pub flag_clean : (rows : List Row) → has_row stats rows ≡ false → clean (use_fault false flag [] rows) ≡ true
flag_clean rows e = rw e refl

pub flag_clash : (rows : List Row) → has_row stats rows ≡ true → clean (use_fault false flag [] rows) ≡ false
flag_clash rows e = rw e refl
