use Rattle.std.proofs.Common.{◌∙◌, ◌<◌, length, map, ap, sym, subst}
use Rattle.std.specs.Prelude.{All}
use Rattle.grammar_model.specs.Refusals.{listed}
use Rattle.grammar_model.specs.Values.{name_of}
use Rattle.marpa_script.proofs.Replying.{on_ok}
use Rattle.marpa_script.proofs.Hearing.{all_known, replies_expected}
use Rattle.marpa_script.proofs.reading.answer_expected.Goals as goal

pub put_names-requires : goal.put_names-requires
put_names-requires c =
    subst (All (λ s. s < length c.args.w.now.names)) (sym c.deref.ensures.value)
    (all_known c.args.w.now c.args.recce.now c.in_ok-symbols.symbols.items c.known.ensures c.requires.flat c.in_ok-symbols.ensures.exact)

pub returns : goal.returns
returns c =
    on_ok c.put_names.result c.put_names.ensures
    (λ is. replies_expected c.expected_are_acceptable.ensures c.args.w.now c.args.recce.now c.requires c.place-place.ensures.is c.known.ensures c.in_ok-symbols.symbols.items c.put_names.new.line.items
    c.in_ok-symbols.ensures.order c.in_ok-symbols.ensures.exact (is ∙ ap (λ l. listed (map (name_of c.args.w.now) l)) c.deref.ensures.value))
