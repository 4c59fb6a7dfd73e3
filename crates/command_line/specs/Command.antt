-- The command that clap reads.
use Rattle.std.specs.Prelude.{ℕ, true, List, Some, fold, codes}
use Rattle.clap.specs.Words.{App, Rule, new_app, new_rule, with_rule}
use Rattle.clap.specs.declared.builder.action.ArgAction.TheVariants.{SetTrue}
use Rattle.words_model.specs.Words.{stats, with_value}

abbrev pub option_rule : List ℕ → Rule
option_rule name = record (new_rule name) { long = Some name }

abbrev pub stats_rule : Rule
stats_rule = record (option_rule stats) { action = Some SetTrue }

abbrev pub job_rule : Rule
job_rule = new_rule (codes "JOB")

-- with each option that takes a value
abbrev pub with_options : App → App
with_options app = fold (λ app name. with_rule app (option_rule name)) app with_value

abbrev pub slif_app : App
slif_app =
    let new = new_app (codes "slif") in
    let app : App = record new { top = record new.top { no_binary_name = true; disable_help_flag = true } } in
    with_rule (with_rule (with_options app) stats_rule) job_rule
