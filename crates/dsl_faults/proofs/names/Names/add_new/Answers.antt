use Rattle.std.proofs.Common.{◌≡◌, sym, ◌∙◌, map, false}
use Rattle.std.specs.Prelude.{string_bytes}
use Rattle.std.specs.List.{list_any}
use Rattle.std.specs.Str.{bytes_eq}
use Rattle.grammar_core.proofs.Growth.{names_after}
use Rattle.language_model.specs.Building.{is_one_of}
use Rattle.dsl_faults.proofs.Keeping.{is_one_of_any}
use Rattle.dsl_faults.proofs.names.Names.add_new.Goals as goal

pub returns-clause-ok : goal.returns-clause-ok
returns-clause-ok c =
    let before = map string_bytes c.self.inside.names.keys in
    let name = c.args.name.now in
    let absent : is_one_of before name ≡ false = rw c.self.view_is c.requires in
    let free : list_any (bytes_eq name) before ≡ false = sym (is_one_of_any name before) ∙ absent in
    rw (← c.self.view_is) (names_after c.self.inside.names.keys c.insert.new.self.keys c.in_ok-owned.owned name c.in_ok-owned.ensures.ok c.in_ok-insert.ensures.keys free)
