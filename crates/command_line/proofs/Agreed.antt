-- What clap makes of words is what they ask for.
use Rattle.std.proofs.Common.{◌≡◌, ◌∙◌, Bool, cond, true, false, ◌&&◌, ◌||◌, refl, sym, ap, ap₂, List, [], ◌∷◌, ◌++◌, map, fold, find, Option, Some, None, option_map, option_and_then, codes, bytes_eq, true≢false, String, string_bytes}
use Rattle.std.proofs.lemmas.Str.{IsUtf8-string_bytes}
use Rattle.std.specs.Prelude.{if◌then◌else◌, slice_get, is_some}
use Rattle.std.specs.List.{list_all}
use Rattle.std.specs.Borrow.{Bor}
use Rattle.std.proofs.lemmas.Slice.Eq.{bytes_eq-Decides}
use Rattle.clap.specs.Matches.{first_value}
use Rattle.clap.specs.Facts.{Entry}
use Rattle.clap.specs.Walk.{Row, Rule, Text, default_rows, finished, first_of, has_row, is_empty, more_values, nothing_held, reading_by, row_of, rows_of, settled, walk, walk_from, with_default}
use Rattle.clap.specs.Simple.{built, entered, matches_of}
use Rattle.clap.specs.Kinds.{IsAmong, Kinds, or_else}
use Rattle.clap.specs.Faults.{check_fault, default_fault, defaults_fault, entered_fault, fault_of, given_default_fault, is_simple_and_free, settle_fault, walk_fault}
use Rattle.clap.specs.Simple.{is_simple}
use Rattle.clap.specs.declared.error.kind.ErrorKind.{ErrorKind}
use Rattle.clap.specs.declared.parser.matches.Found.{Found}
use Rattle.clap.specs.declared.parser.matches.ValueSource.TheVariants.{DefaultValue}
use Rattle.words_model.specs.Words.{Setting, are_set_once, job_asked, job_given, stats, value_of, with_value, words_set}
use Rattle.command_line.specs.Command.{slif_app}
use Rattle.command_line.specs.Given.{flag_given, given_in}
use Rattle.command_line.proofs.Options.{all_rules, clean, clean-or, flag, job, opt, shape}
use Rattle.words_model.proofs.Settings.{has_name, same_test}
use Rattle.command_line.proofs.Rows.{at_row-none, has_row-rows, row, rows}
use Rattle.command_line.proofs.Walked.{AllUtf8, Agrees, agrees, are_fine, once, total, walk_on}

-- ---- the faults of a parse

stop_none : (stop : Option (Text × List Text)) → entered (built slif_app) stop ≡ None
stop_none None = refl
stop_none (Some p) = refl

below_none : (stop : Option (Text × List Text)) → entered_fault (built slif_app) stop ≡ []
below_none None = refl
below_none (Some p) = refl

defaults_clean : (rs : List Row) (c : List Rule) → list_all (λ a. clean (given_default_fault a a.defaults)) c ≡ true → clean (defaults_fault rs c) ≡ true
unfolding defaults_fault
defaults_clean rs [] e = refl
defaults_clean rs (a ∷ c) e = go (clean (given_default_fault a a.defaults)) refl (defaults_clean (with_default rs a) c)
  where
    choose : (b : Bool) (k : Kinds) → clean k ≡ true → clean (if b then [] else k) ≡ true
    choose true k e = refl
    choose false k e = e

    go : (b : Bool) → clean (given_default_fault a a.defaults) ≡ b → (list_all (λ a. clean (given_default_fault a a.defaults)) c ≡ true → clean (defaults_fault (with_default rs a) c) ≡ true)
        → clean (or_else (default_fault rs a) (defaults_fault (with_default rs a) c)) ≡ true
    go true t more = clean-or (default_fault rs a) (defaults_fault (with_default rs a) c)
        ∙ ap₂ (λ x y. x && y) (choose (has_row a.id rs || is_empty a.defaults) (given_default_fault a a.defaults) t) (more (rw t at e))
    go false t more = absurd (true≢false (sym (rw t at e)))

all_defaults : list_all (λ a. clean (given_default_fault a a.defaults)) shape.rules ≡ true
unfolding shape
all_defaults = refl

check_none : (rs : List Row) → check_fault shape rs false ≡ []
unfolding shape
check_none rs = refl

and_true : (b : Bool) → (b && true) ≡ b
and_true true = refl
and_true false = refl

level : (a b c d e : Kinds) → b ≡ [] → clean d ≡ true → e ≡ [] → clean (or_else a (or_else b (or_else c (or_else d e)))) ≡ (clean a && clean c)
level a b c d e nb nd ne =
    clean-or a (or_else b (or_else c (or_else d e)))
    ∙ ap (λ x. clean a && x) (ap (λ k. clean (or_else k (or_else c (or_else d e)))) nb ∙ clean-or c (or_else d e)
    ∙ ap (λ x. clean c && x) (clean-or d e ∙ ap₂ (λ x y. x && clean y) nd ne) ∙ and_true (clean c))

pub faults : (words : List Text) → clean (fault_of slif_app words) ≡ total (walk_from nothing_held) words
unfolding shape
faults words =
    let end = (walk shape.rules [] nothing_held words).held in
    let stop = (walk shape.rules [] nothing_held words).stopped in
    level (walk_fault shape [] (walk_from nothing_held) words) (entered_fault (built slif_app) stop) (settle_fault shape.rules shape.args_override_self end)
    (defaults_fault (settled shape.rules end).rows shape.rules) (check_fault shape (finished shape.rules end) (is_some (entered (built slif_app) stop)))
    (below_none stop) (defaults_clean (settled shape.rules end).rows shape.rules all_defaults)
    (ap (λ o. check_fault shape (finished shape.rules end) (is_some o)) (stop_none stop) ∙ check_none (finished shape.rules end))

pub simple_and_free : is_simple_and_free slif_app ≡ true
simple_and_free = refl

pub simple : is_simple slif_app ≡ true
simple = refl

-- ---- the rows of a parse

plain_default : (rs : List Row) (a : Rule) → a.defaults ≡ [] → with_default rs a ≡ rs
plain_default rs a e = go (has_row a.id rs) ∙ refl
  where
    go : (b : Bool) → (if b then rs else default_rows a.id (reading_by a) a.defaults rs) ≡ rs
    go true = refl
    go false = ap (λ d. default_rows a.id (reading_by a) d rs) e

abbrev ended_rows : List Row → List Row
ended_rows rs = with_default rs flag

options_default : (rs : List Row) (names : List Text) (c : List Rule) → fold with_default rs (map opt names ++ c) ≡ fold with_default rs c
options_default rs [] c = refl
options_default rs (n ∷ ns) c = ap (λ l. fold with_default l (map opt ns ++ c)) (plain_default rs (opt n) refl) ∙ options_default rs ns c

default_rows_are : (rs : List Row) → fold with_default rs shape.rules ≡ ended_rows rs
default_rows_are rs =
    ap (λ c. fold with_default rs c) all_rules ∙ options_default rs with_value (flag ∷ job ∷ []) ∙ plain_default (ended_rows rs) job refl

matched : (words : List Text) → matches_of slif_app words ≡ ended_rows (settled shape.rules (walk_on (walk_from nothing_held) words).held).rows
unfolding shape
matched words = default_rows_are (settled shape.rules (walk_on (walk_from nothing_held) words).held).rows

-- ---- what the rows give to a name

first_of-row : (r : Row) (e : Entry) → r ≡ row_of e → slice_get r.values 0 ≡ option_map (λ s. s.now) (slice_get e.1.vals.items 0)
first_of-row r e is = ap (λ q. slice_get q.values 0) is ∙ go e.1.vals.items
  where
    go : (vs : List (Bor Text)) → slice_get (map (λ s. s.now) vs) 0 ≡ option_map (λ s. s.now) (slice_get vs 0)
    go [] = refl
    go (v ∷ vs) = refl

entries_give : (id : Text) (es : List Entry) → option_and_then (λ r. slice_get r.values 0) (find (λ r. bytes_eq r.id id) (map row_of es))
    ≡ option_and_then (λ a. option_map (λ s. s.now) (slice_get a.vals.items 0)) (option_map (λ e. e.1) (find (λ e. bytes_eq e.0.now id) es))
entries_give id [] = refl
entries_give id (e ∷ es) = go (bytes_eq e.0.now id) (entries_give id es)
  where
    go : (b : Bool) → option_and_then (λ r. slice_get r.values 0) (find (λ r. bytes_eq r.id id) (map row_of es))
        ≡ option_and_then (λ a. option_map (λ s. s.now) (slice_get a.vals.items 0)) (option_map (λ e. e.1) (find (λ e. bytes_eq e.0.now id) es))
        → option_and_then (λ r. slice_get r.values 0) (cond b (Some (row_of e)) (find (λ r. bytes_eq r.id id) (map row_of es)))
        ≡ option_and_then (λ a. option_map (λ s. s.now) (slice_get a.vals.items 0)) (option_map (λ e. e.1) (cond b (Some e) (find (λ e. bytes_eq e.0.now id) es)))
    go true more = first_of-row (row_of e) e refl
    go false more = more

found_gives : (f : Found) (id : Text) → first_value f id ≡ first_of id (rows_of f)
found_gives f id = sym (entries_give id f.entries.items)

settings_give : (name : Text) (ts : List Setting) → first_of name (rows ts) ≡ value_of ts name
settings_give name [] = refl
settings_give name (t ∷ ts) = go (bytes_eq t.name name) (settings_give name ts)
  where
    go : (b : Bool) → first_of name (rows ts) ≡ value_of ts name
        → option_and_then (λ r. slice_get r.values 0) (cond b (Some (row t)) (find (λ r. bytes_eq r.id name) (rows ts)))
        ≡ option_map (λ s. s.value) (cond b (Some t) (find (λ s. bytes_eq s.name name) ts))
    go true more = refl
    go false more = more

past_last : (name : Text) (rs : List Row) (last : Row) → bytes_eq last.id name ≡ false → first_of name (rs ++ last ∷ []) ≡ first_of name rs
past_last name [] last e = rw e refl
past_last name (r ∷ rs) last e = go (bytes_eq r.id name) (past_last name rs last e)
  where
    go : (b : Bool) → first_of name (rs ++ last ∷ []) ≡ first_of name rs
        → option_and_then (λ q. slice_get q.values 0) (cond b (Some r) (find (λ q. bytes_eq q.id name) (rs ++ last ∷ [])))
        ≡ option_and_then (λ q. slice_get q.values 0) (cond b (Some r) (find (λ q. bytes_eq q.id name) rs))
    go true more = refl
    go false more = more

at_last : (name : Text) (rs : List Row) (last : Row) → bytes_eq last.id name ≡ true → has_row name rs ≡ false → first_of name (rs ++ last ∷ []) ≡ slice_get last.values 0
at_last name [] last e h = rw e refl
at_last name (r ∷ rs) last e h = go (bytes_eq r.id name) refl (at_last name rs last e)
  where
    go : (b : Bool) → bytes_eq r.id name ≡ b → (has_row name rs ≡ false → first_of name (rs ++ last ∷ []) ≡ slice_get last.values 0)
        → first_of name ((r ∷ rs) ++ last ∷ []) ≡ slice_get last.values 0
    go true i more = absurd (true≢false (rw i at h))
    go false i more = rw i (more (rw i at h))

not_given : (name : Text) (ts : List Setting) → has_name name ts ≡ false → value_of ts name ≡ None
not_given name [] e = refl
not_given name (t ∷ ts) e = go (bytes_eq t.name name) refl (not_given name ts)
  where
    go : (b : Bool) → bytes_eq t.name name ≡ b → (has_name name ts ≡ false → value_of ts name ≡ None) → value_of (t ∷ ts) name ≡ None
    go true i more = absurd (true≢false (rw i at e))
    go false i more = rw i (more (rw i at e))

flag_fine : (ts : List Setting) → are_fine ts ≡ true → flag_given (value_of ts stats) ≡ value_of ts stats
flag_fine [] e = refl
flag_fine (t ∷ ts) e = go (bytes_eq t.name stats) refl (bytes_eq t.value (codes "true")) refl (flag_fine ts)
  where
    go : (b : Bool) → bytes_eq t.name stats ≡ b → (d : Bool) → bytes_eq t.value (codes "true") ≡ d → (are_fine ts ≡ true → flag_given (value_of ts stats) ≡ value_of ts stats)
        → flag_given (value_of (t ∷ ts) stats) ≡ value_of (t ∷ ts) stats
    go true i true j more = rw (i, j) refl
    go true i false j more = absurd (true≢false (sym (rw (i, j) at e)))
    go false i d j more = rw i (more (rw i at e))

abbrev no_flag : Row
no_flag = record { id = stats; values = codes "false" ∷ []; count = None; source = Some DefaultValue; reading = reading_by flag }

ended_with : (ts : List Setting) → has_name stats ts ≡ false → ended_rows (rows ts) ≡ rows ts ++ no_flag ∷ []
ended_with ts e =
    let none = has_row-rows stats ts ∙ e in
    ap (λ b. if b then rows ts else default_rows stats (reading_by flag) flag.defaults (rows ts)) none
    ∙ at_row-none stats (more_values DefaultValue (codes "false" ∷ [])) (no_flag ∷ []) (rows ts) none

ended_without : (ts : List Setting) → has_name stats ts ≡ true → ended_rows (rows ts) ≡ rows ts
ended_without ts e = ap (λ b. if b then rows ts else default_rows stats (reading_by flag) flag.defaults (rows ts)) (has_row-rows stats ts ∙ e)

abbrev given_by : List Row → Text → Option Text
given_by rs name = if bytes_eq name stats then flag_given (first_of stats rs) else first_of name rs

rows_give : (ts : List Setting) → are_fine ts ≡ true → (name : Text) → given_by (ended_rows (rows ts)) name ≡ value_of ts name
rows_give ts fine name = go (bytes_eq name stats) refl (has_name stats ts) refl
  where
    go : (b : Bool) → bytes_eq name stats ≡ b → (d : Bool) → has_name stats ts ≡ d
        → (if b then flag_given (first_of stats (ended_rows (rows ts))) else first_of name (ended_rows (rows ts))) ≡ value_of ts name
    go true e true f =
        let is : name ≡ stats = (bytes_eq-Decides name stats).0 e in
        ap (λ rs. flag_given (first_of stats rs)) (ended_without ts f) ∙ ap flag_given (settings_give stats ts) ∙ flag_fine ts fine ∙ ap (value_of ts) (sym is)
    go true e false f =
        let is : name ≡ stats = (bytes_eq-Decides name stats).0 e in
        ap (λ rs. flag_given (first_of stats rs)) (ended_with ts f) ∙ ap flag_given (at_last stats (rows ts) no_flag refl (has_row-rows stats ts ∙ f))
        ∙ sym (ap (value_of ts) is ∙ not_given stats ts f)
    go false e true f = ap (first_of name) (ended_without ts f) ∙ settings_give name ts
    go false e false f = ap (first_of name) (ended_with ts f) ∙ past_last name (rows ts) no_flag (same_test stats name ∙ e) ∙ settings_give name ts

-- ---- both together

judged : (o : Option (List Setting)) → option_and_then (λ ts. if are_set_once ts then job_given (value_of ts) else None) o ≡ option_and_then (λ ts. job_given (value_of ts)) (once o)
unfolding once
judged None = refl
judged (Some ts) = go (are_set_once ts)
  where
    go : (b : Bool) → (if b then job_given (value_of ts) else None) ≡ option_and_then (λ us. job_given (value_of us)) (if b then Some ts else None)
    go true = refl
    go false = refl

given_as : (f : Found) (ts : List Setting) → rows_of f ≡ ended_rows (rows ts) → are_fine ts ≡ true → given_in f ≡ value_of ts
given_as f ts e fine =
    let each : (name : Text) → given_in f name ≡ value_of ts name = λ name.
    ap₂ (λ x y. if bytes_eq name stats then flag_given x else y) (found_gives f stats ∙ ap (first_of stats) e) (found_gives f name ∙ ap (first_of name) e) ∙ rows_give ts fine name in
    λ i name. each name i

-- words that clap takes ask for the job that its matches give
pub taken : (words : List Text) (f : Found) → AllUtf8 words → fault_of slif_app words ≡ [] → rows_of f ≡ matches_of slif_app words → job_given (given_in f) ≡ job_asked words
taken words f u none same = go (once (words_set words None)) (agrees words u) ∙ sym (judged (words_set words None))
  where
    go : (o : Option (List Setting)) → Agrees (walk_from nothing_held) words o → job_given (given_in f) ≡ option_and_then (λ ts. job_given (value_of ts)) o
    go None h = absurd (true≢false (sym (ap clean none) ∙ (faults words ∙ h)))
    go (Some ts) h = ap job_given (given_as f ts (same ∙ (matched words ∙ ap ended_rows h.1)) h.2)

-- words that clap refuses ask for nothing
pub refused : (words : List Text) (k : ErrorKind) → AllUtf8 words → IsAmong k (fault_of slif_app words) → job_asked words ≡ None
refused words k u among = judged (words_set words None) ∙ go (once (words_set words None)) (agrees words u)
  where
    some : (ks : Kinds) → IsAmong k ks → clean ks ≡ true → ⊥
    some [] h e = h
    some (x ∷ xs) h e = true≢false (sym e)

    go : (o : Option (List Setting)) → Agrees (walk_from nothing_held) words o → option_and_then (λ ts. job_given (value_of ts)) o ≡ None
    go None h = refl
    go (Some ts) h = absurd (some (fault_of slif_app words) among (faults words ∙ h.0))

pub texts_are_utf8 : {Z : Type 0} (words : List (String Z)) → AllUtf8 (map string_bytes words)
texts_are_utf8 [] = tt
texts_are_utf8 (word ∷ words) = (IsUtf8-string_bytes word, texts_are_utf8 words)
