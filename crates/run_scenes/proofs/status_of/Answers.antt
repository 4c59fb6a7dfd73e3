use Rattle.run_scenes.proofs.status_of.Goals as goal

pub returns : goal.returns
returns g c = c.run.ensures.runs
