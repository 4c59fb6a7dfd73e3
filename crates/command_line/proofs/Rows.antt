-- What stands in clap's rows for settings.
use Rattle.std.proofs.Common.{◌≡◌, ◌∙◌, Bool, true, false, ◌||◌, refl, sym, ap, List, [], ◌∷◌, ◌++◌, map, Some, None, codes, bytes_eq, true≢false, append-nil}
use Rattle.std.specs.Prelude.{if◌then◌else◌}
use Rattle.language_model.specs.Building.{is_one_of}
use Rattle.clap.specs.Walk.{Row, Text, at_row, has_row, more_values, reading_by, used, with_values, without}
use Rattle.clap.specs.Values.{reading_of}
use Rattle.clap.specs.declared.builder.value_parser.Reading.{Reading}
use Rattle.clap.specs.declared.builder.value_parser.ValueParser.TheVariants as vp
use Rattle.clap.specs.declared.parser.matches.ValueSource.TheVariants.{CommandLine}
use Rattle.words_model.specs.Words.{Setting, set, set_job, with_value, stats}
use Rattle.words_model.proofs.Settings.{has_name}
use Rattle.command_line.proofs.Options.{flag, job, not_stats, opt}

abbrev pub reading_for : Text → Reading
reading_for name = if bytes_eq name stats then reading_of vp.Bool else reading_of vp.String

abbrev pub row : Setting → Row
row t = record { id = t.name; values = t.value ∷ []; count = None; source = Some CommandLine; reading = reading_for t.name }

abbrev pub rows : List Setting → List Row
rows = map row

pub has_row-rows : (name : Text) (ts : List Setting) → has_row name (rows ts) ≡ has_name name ts
has_row-rows name [] = refl
has_row-rows name (t ∷ ts) = ap (λ b. bytes_eq t.name name || b) (has_row-rows name ts)

pub rows-push : (ts : List Setting) (t : Setting) → rows (ts ++ t ∷ []) ≡ rows ts ++ row t ∷ []
rows-push [] t = refl
rows-push (u ∷ us) t = ap (λ l. row u ∷ l) (rows-push us t)

pub at_row-none : (name : Text) (change : Row → List Row) (missing rs : List Row) → has_row name rs ≡ false → at_row name change missing rs ≡ rs ++ missing
at_row-none name change missing [] e = refl
at_row-none name change missing (r ∷ rs) e = go (bytes_eq r.id name) refl (at_row-none name change missing rs)
  where
    go : (b : Bool) → bytes_eq r.id name ≡ b → (has_row name rs ≡ false → at_row name change missing rs ≡ rs ++ missing) → at_row name change missing (r ∷ rs) ≡ (r ∷ rs) ++ missing
    go true h next = absurd (true≢false (rw h at e))
    go false h next = rw h (ap (λ l. r ∷ l) (next (rw h at e)))

with_new : (name : Text) (how : Reading) (v : Text) (rs : List Row) → has_row name rs ≡ false
    → with_values name how CommandLine (v ∷ []) (without name rs) ≡ rs ++ record { id = name; values = v ∷ []; count = None; source = Some CommandLine; reading = how } ∷ []
with_new name how v rs e =
    let same : without name rs ≡ rs = at_row-none name (λ _. []) [] rs e ∙ append-nil rs in
    ap (with_values name how CommandLine (v ∷ [])) same ∙ at_row-none name (more_values CommandLine (v ∷ [])) (record { id = name; values = v ∷ []; count = None; source = Some CommandLine; reading = how } ∷ []) rs e

option_reading : (name : Text) → is_one_of with_value name ≡ true → reading_by (opt name) ≡ reading_for name
option_reading name h = ap (λ b. if b then reading_of vp.Bool else reading_of vp.String) (sym (not_stats name h))

pub option_used : (name v : Text) (ts : List Setting) → is_one_of with_value name ≡ true → has_name name ts ≡ false
    → used (opt name) (v ∷ []) (rows ts) ≡ rows (ts ++ set name v ∷ [])
option_used name v ts h e =
    with_new name (reading_by (opt name)) v (rows ts) (has_row-rows name ts ∙ e)
    ∙ ap (λ (how : Reading). rows ts ++ record { id = name; values = v ∷ []; count = None; source = Some CommandLine; reading = how } ∷ []) (option_reading name h)
    ∙ sym (rows-push ts (set name v))

pub job_used : (v : Text) (ts : List Setting) → has_name (codes "JOB") ts ≡ false → used job (v ∷ []) (rows ts) ≡ rows (ts ++ set_job v ∷ [])
job_used v ts e = with_new (codes "JOB") (reading_by job) v (rows ts) (has_row-rows (codes "JOB") ts ∙ e) ∙ sym (rows-push ts (set_job v))

pub flag_used : (ts : List Setting) → has_name stats ts ≡ false → used flag [] (rows ts) ≡ rows (ts ++ set stats (codes "true") ∷ [])
flag_used ts e = with_new stats (reading_by flag) (codes "true") (rows ts) (has_row-rows stats ts ∙ e) ∙ sym (rows-push ts (set stats (codes "true")))
