use Rattle.std.proofs.lemmas.Result.{on_ok_weaker}
use Rattle.tellings.proofs.reading.tell_reading.Goals as goal

pub returns-in-Expected-clause-counted : goal.returns-in-Expected-clause-counted
returns-in-Expected-clause-counted g c given is_read =
    rw c.in-Expected.is (on_ok_weaker c.write_expected.result
    (λ _. record { pieces = is_read.pieces; reading = is_read.is_reading; within = λ before reads. tt }) (c.write_expected.ensures.done given is_read))

pub returns-in-Report-clause-counted : goal.returns-in-Report-clause-counted
returns-in-Report-clause-counted g c given is_read =
    rw c.in-Report.is (on_ok_weaker c.write_report.result
    (λ _. record { pieces = is_read.pieces; reading = is_read.is_reading; within = λ before reads. tt }) (c.write_report.ensures.done given is_read))

pub returns-in-Values-clause-stops : goal.returns-in-Values-clause-stops
returns-in-Values-clause-stops g c given is_read = rw c.in-Values.is (c.write_values.ensures.stops given is_read)

pub returns-in-More-clause-stops : goal.returns-in-More-clause-stops
returns-in-More-clause-stops g c given is_read = rw c.in-More.is (c.write_more.ensures.stops given is_read)

pub returns-in-Expected-clause-stops : goal.returns-in-Expected-clause-stops
returns-in-Expected-clause-stops g c given is_read = rw c.in-Expected.is (c.write_expected.ensures.stops given is_read)

pub returns-in-Report-clause-stops : goal.returns-in-Report-clause-stops
returns-in-Report-clause-stops g c given is_read = rw c.in-Report.is (c.write_report.ensures.stops given is_read)

pub returns-in-Glades-clause-stops : goal.returns-in-Glades-clause-stops
returns-in-Glades-clause-stops g c given is_read = rw c.in-Glades.is (c.write_glades.ensures.stops given is_read)
