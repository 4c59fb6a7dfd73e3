use Rattle.std.proofs.Common.{◌∙◌, ℕ, List, Option, sym, ap, codes, ◌∷◌, [], option_map, option_and_then}
use Rattle.clap.specs.Words.{found_of}
use Rattle.words_model.specs.Words as model
use Rattle.command_line.specs.Given.{given_in}
use Rattle.command_line.proofs.job.job_named.Goals as goal

abbrev supplies : Option (List ℕ) → Option model.Telling → Option model.Task
supplies value what = option_and_then (λ names. option_map (model.Tell names) what) (option_and_then model.names_given value)

pub returns-in-run : goal.returns-in-run
returns-in-run c =
    let given = given_in (found_of c.args.matches.now) in
    c.job_with.ensures ∙ ap (λ task. model.job_with (codes "grammar" ∷ codes "input" ∷ codes "first" ∷ codes "rank" ∷ codes "show" ∷ model.stats ∷ []) task given) (c.told.ensures ∙ ap (option_map (model.Tell [])) c.values_asked.ensures)
    ∙ sym (ap (λ name. model.job_named name given) c.in-run.is)

pub returns-in-progress : goal.returns-in-progress
returns-in-progress c =
    let given = given_in (found_of c.args.matches.now) in
    c.job_with-in-progress.ensures
    ∙ ap (λ task. model.job_with (codes "grammar" ∷ codes "input" ∷ codes "at" ∷ []) task given) (c.told-in-progress.ensures ∙ ap (option_map (model.Tell [])) c.report_asked.ensures)
    ∙ sym (ap (λ name. model.job_named name given) c.in-progress.is)

pub returns-in-more : goal.returns-in-more
returns-in-more c =
    let given = given_in (found_of c.args.matches.now) in
    c.job_with-in-more.ensures
    ∙ ap (λ task. model.job_with (codes "grammar" ∷ codes "input" ∷ codes "after" ∷ codes "first" ∷ codes "rank" ∷ codes "show" ∷ []) task given)
    (c.told-in-more.ensures ∙ ap (option_map (model.Tell [])) c.more_asked.ensures)
    ∙ sym (ap (λ name. model.job_named name given) c.in-more.is)

pub returns-in-slip : goal.returns-in-slip
returns-in-slip c =
    let given = given_in (found_of c.args.matches.now) in
    c.job_with-in-slip.ensures
    ∙ ap (λ task. model.job_with (codes "grammar" ∷ codes "input" ∷ codes "give" ∷ codes "first" ∷ codes "rank" ∷ codes "show" ∷ []) task given)
    (c.supply_asked.ensures ∙ ap (supplies (given (codes "give"))) c.values_asked-in-slip.ensures)
    ∙ sym (ap (λ name. model.job_named name given) c.in-slip.is)
