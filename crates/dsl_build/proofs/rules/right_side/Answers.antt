use Rattle.std.proofs.Common.{◌≡◌, sym, ◌∙◌, ap, map, subst, Bor, List}
use Rattle.std.specs.Prelude.{IfOk}
use Rattle.std.specs.List.{AllByRecursion}
use Rattle.std.proofs.lemmas.List.Elements.{recursion_from_All}
use Rattle.std.proofs.lemmas.Simd.{map-map}
use Rattle.language_model.specs.Tokens.{Spelled}
use Rattle.language_model.specs.Building.{place_in, numbers_in, parts_of}
use Rattle.dsl_build.specs.Ready.{IsNamed}
use Rattle.dsl_build.proofs.Granting.{held_all}
use Rattle.dsl_build.proofs.rules.right_side.Goals as goal

abbrev now : Bor Spelled → Spelled
now t = t.now

pub numbers_of-requires-clause-named : goal.numbers_of-requires-clause-named
numbers_of-requires-clause-named c =
    let names = c.args.names.now in
    let parts = parts_of c.args.alternative.now in
    let e : map now c.deref.result.now ≡ parts = ap (map now) c.deref.ensures.value ∙ c.in_ok-parts.ensures in
    held_all (IsNamed names) now c.deref.result.now (subst (λ (ts : List Spelled). AllByRecursion (IsNamed names) ts) (sym e) (recursion_from_All (IsNamed names) parts c.requires.named))

pub returns : goal.returns
returns c =
    let number = λ (t : Spelled). place_in c.args.names.now t.content in
    let e : map (λ (t : Bor Spelled). number t.now) c.deref.result.now ≡ numbers_in c.args.names.now (parts_of c.args.alternative.now) =
    sym (map-map number now c.deref.result.now) ∙ ap (map number) (ap (map now) c.deref.ensures.value ∙ c.in_ok-parts.ensures) in
    subst (λ ns. IfOk c.numbers_of.result (λ numbers. numbers.items ≡ ns)) e c.numbers_of.ensures
