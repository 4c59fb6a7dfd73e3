use Rattle.std.proofs.Common.{◌≡◌, map, sym, ◌∙◌, Some, subst, arith}
use Rattle.std.specs.List.{position_or_len}
use Rattle.std.proofs.lemmas.List.{length-map}
use Rattle.std.specs.Prelude.{string_bytes, slice_get}
use Rattle.std.specs.Str.{bytes_eq}
use Rattle.grammar_core.proofs.Growth.{list_any-map, position_or_len-map, place_is, named}
use Rattle.grammar_core.proofs.written.Written.symbol_named.Goals as goal

pub returns-in_err-place-clause-held : goal.returns-in_err-place-clause-held
returns-in_err-place-clause-held c =
    rw (c.from_residual.ensures, ← c.self.view_is) (c.in_err-place.ensures.found ∙ sym (list_any-map (bytes_eq c.args.name.now) string_bytes c.self.inside.names.keys))

pub returns-clause-held : goal.returns-clause-held
returns-clause-held c =
    rw (← c.self.view_is) (c.in_ok-place.ensures.found ∙ sym (list_any-map (bytes_eq c.args.name.now) string_bytes c.self.inside.names.keys))

pub returns-clause-number : goal.returns-clause-number
returns-clause-number c =
    let p = place_is _ c.self.inside.names.keys c.in_ok-place.place c.in_ok-place.ensures.index in
    rw (← c.self.view_is) (p.0 ∙ sym (position_or_len-map (bytes_eq c.args.name.now) string_bytes c.self.inside.names.keys))

pub returns-clause-named : goal.returns-clause-named
returns-clause-named c =
    let name = c.args.name.now in
    let keys = c.self.inside.names.keys in
    let p = place_is _ keys c.in_ok-place.place c.in_ok-place.ensures.index in
    let same : position_or_len (bytes_eq name) (map string_bytes keys) ≡ c.in_ok-place.place = position_or_len-map (bytes_eq name) string_bytes keys ∙ sym p.0 in
    let long = length-map keys string_bytes in
    rw (← c.self.view_is) (subst (λ k. slice_get (map string_bytes keys) k ≡ Some name) same (named name (map string_bytes keys) (omega arith)))
