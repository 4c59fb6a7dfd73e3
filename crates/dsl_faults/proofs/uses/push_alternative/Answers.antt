use Rattle.std.proofs.Common.{◌≡◌, ◌++◌, sym, ◌∙◌, ap, subst, map, Bor}
use Rattle.std.specs.Prelude.{OnOk}
use Rattle.std.proofs.lemmas.Simd.{map-map}
use Rattle.language_model.specs.Tokens.{Spelled}
use Rattle.language_model.specs.Building.{parts_of}
use Rattle.dsl_statement.specs.Statements.{is_lexical}
use Rattle.dsl_faults.specs.Uses.{used, used_of}
use Rattle.dsl_faults.specs.declared.uses.Role.TheVariants.{Right}
use Rattle.dsl_faults.proofs.uses.push_alternative.Goals as goal

pub returns : goal.returns
returns c =
    let now = λ (t : Bor Spelled). t.now in
    let e : map (λ (t : Bor Spelled). used Right (is_lexical c.args.level) t.now) c.deref.result.now ≡ map (used Right (is_lexical c.args.level)) (parts_of c.args.alternative.now) =
    sym (map-map (used Right (is_lexical c.args.level)) now c.deref.result.now) ∙ ap (map (used Right (is_lexical c.args.level))) (ap (map now) c.deref.ensures.value ∙ c.in_ok-parts.ensures) in
    subst (λ us. OnOk c.push_parts.result (map used_of c.push_parts.new.uses.items ≡ map used_of c.args.uses.now.items ++ us)) e c.push_parts.ensures
