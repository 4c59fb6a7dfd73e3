use Rattle.scanless.proofs.Edges.{counts_token}
use Rattle.scanless.proofs.taking.take_token.Goals as goal
use Rattle.finite_sets.proofs.Clauses.{on_ok_both}
use Rattle.scanless.proofs.Noting.{grows_kept, grows_done}

pub returns-clause-counted : goal.returns-clause-counted
returns-clause-counted g c =
    on_ok_both c.complete_earleme.result
    (λ (set, sets, lists) (tried, once, are, count).
    counts_token c.args.recce.now c.take_lexemes.new.recce c.complete_earleme.new.self c.args.symbols.now c.place-place.ensures.is c.take_lexemes.ensures.same c.in_ok-take_lexemes.ensures.ok
    c.complete_earleme.ensures.same.0 c.complete_earleme.ensures.same.1 c.complete_earleme.ensures.same.2 set sets c.args.steps.now c.complete_earleme.new.steps tried once are count)
    c.complete_earleme.ensures.ok c.complete_earleme.ensures.counted

pub returns-in_err-take_lexemes-clause-grows : goal.returns-in_err-take_lexemes-clause-grows
returns-in_err-take_lexemes-clause-grows g c = grows_kept c.args.recce.now c.take_lexemes.new.recce c.take_lexemes.ensures.same

pub returns-clause-grows : goal.returns-clause-grows
returns-clause-grows g c =
    grows_done c.complete_earleme.result c.args.recce.now c.take_lexemes.new.recce c.complete_earleme.new.self _ c.take_lexemes.ensures.same c.complete_earleme.ensures.same.0 c.complete_earleme.ensures.ok c.complete_earleme.ensures.err
