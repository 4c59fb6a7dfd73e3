use Rattle.std.proofs.Common.{◌∙◌, ◌<◌, length, sym, subst}
use Rattle.std.specs.Prelude.{All}
use Rattle.std.proofs.lemmas.List.Elements.{All-head, All-rest}
use Rattle.marpa_script.proofs.Replying.{on_ok}
use Rattle.marpa_script.proofs.Listing.{none_listed, some_listed}
use Rattle.marpa_script.proofs.names.put_names.Goals as goal

pub symbol_name-requires : goal.symbol_name-requires
symbol_name-requires c =
    let names = c.args.w.now.names in
    All-head (λ s. s < length names) c.in-Some.first.now c.in-Some.others.now (subst (All (λ s. s < length names)) c.in-Some.ensures.cases.0 c.requires)

pub append_names-requires : goal.append_names-requires
append_names-requires c =
    let names = c.args.w.now.names in
    All-rest (λ s. s < length names) c.in-Some.first.now c.in-Some.others.now c.args.symbols.now c.in-Some.ensures.cases.0 c.requires

pub returns-in_default : goal.returns-in_default
returns-in_default c = on_ok c.put.result c.put.ensures (λ is. none_listed c.args.w.now c.args.symbols.now c.put.new.line.items c.in_default.ensures.cases is)

pub returns : goal.returns
returns c =
    on_ok c.append_names.result c.append_names.ensures
    (λ is. some_listed c.args.w.now c.args.symbols.now c.in-Some.first.now c.in-Some.others.now c.put-2.new.line.items c.append_names.new.line.items c.in-Some.ensures.cases.0
    (c.in_ok-put.ensures ∙ c.symbol_name.ensures) is)
