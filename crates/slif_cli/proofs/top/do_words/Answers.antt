use Rattle.std.proofs.Common.{◌≡◌, Option, map, sym, subst}
use Rattle.std.specs.Prelude.{string_bytes, option_map}
use Rattle.slif_base.proofs.Bytes.{appends_none}
use Rattle.words_model.specs.Words.{job_asked}
use Rattle.command_line.specs.Jobs.{job_of}
use Rattle.command_line.specs.declared.job.Job.{Job}
use Rattle.slif_cli.proofs.JobLemmas.{not_asked}
use Rattle.slif_cli.proofs.top.do_words.Goals as goal

pub returns-in-Ok-None-clause-stops : goal.returns-in-Ok-None-clause-stops
returns-in-Ok-None-clause-stops g c =
    let words = map string_bytes c.args.words.now in
    let none = subst (λ (o : Option Job). option_map job_of o ≡ job_asked words) c.in-Ok-None.field-0-is c.in-Ok-None.ensures in
    (not_asked words (g.F.Files.told c.args.files.now) _ (sym none), appends_none _)

pub do_task-requires-clause-asked : goal.do_task-requires-clause-asked
do_task-requires-clause-asked g c =
    let words = map string_bytes c.args.words.now in
    (words, sym (subst (λ (o : Option Job). option_map job_of o ≡ job_asked words) c.in-Ok-Some.field-0-is c.in-Ok-Some.ensures))
