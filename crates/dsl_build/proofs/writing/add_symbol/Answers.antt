use Rattle.std.proofs.Common.{◌≡◌, ◌∙◌, subst}
use Rattle.std.specs.Prelude.{IfOk}
use Rattle.grammar_core.specs.Written.{with_name}
use Rattle.dsl_build.proofs.Granting.{named_more}
use Rattle.dsl_build.proofs.writing.add_symbol.Goals as goal

pub returns : goal.returns
returns c =
    let w = c.args.w.now in
    let name = c.args.name.now in
    let grown : c.symbol_new.new.self ≡ with_name w name = subst (λ r. IfOk r (λ _. c.symbol_new.new.self ≡ with_name w name)) c.in_ok-granted.ensures c.symbol_new.ensures.ok in
    grown ∙ named_more w name c.requires.new
