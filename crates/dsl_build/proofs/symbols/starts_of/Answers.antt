use Rattle.std.proofs.Common.{◌≡◌, ◌∙◌, ap, map, subst, List, ℕ, [], true, Option, Bor}
use Rattle.std.specs.Prelude.{All, option_to_list}
use Rattle.std.proofs.lemmas.List.Elements.{All-head}
use Rattle.language_model.specs.Tokens.{Spelled}
use Rattle.language_model.specs.Building.{is_one_of}
use Rattle.dsl_build.proofs.symbols.starts_of.Goals as goal

pub symbol_of-requires-clause-named : goal.symbol_of-requires-clause-named
symbol_of-requires-clause-named c =
    let names = c.args.symbols.now in
    let P = λ (t : List ℕ). is_one_of names t ≡ true in
    let all = subst (λ (o : Option (Bor Spelled)). All P (map (λ (t : Bor Spelled). t.now.content) (option_to_list o))) c.in-Some.is c.requires.named in
    ap (λ t. is_one_of names t) (c.as_str.ensures.value ∙ ap (λ (x : Spelled). x.content) c.name.view_is) ∙ All-head P c.in-Some.name.now.content [] all
