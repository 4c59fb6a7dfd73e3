use Rattle.earley_sets.specs.Counted.{TakesAtMost}
use Rattle.scanless.specs.declared.reading.Reading.{Reading}
use Rattle.text_reading.proofs.InputLemmas.{same_ok}
use Rattle.text_reading.proofs.inputs.read_text.Goals as goal

pub returns-clause-counted : goal.returns-clause-counted
returns-clause-counted g c =
    same_ok c.whole.result c.in_ok-reading.reading (λ (r : Reading). TakesAtMost r.recce c.args.steps.now c.read_input.new.steps) c.whole.ensures.same c.in_ok-reading.ensures.counted
