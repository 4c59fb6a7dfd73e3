use Rattle.std.proofs.Common.{◌≡◌, ◌<◌, map, sym, ◌∙◌, length, subst}
use Rattle.std.proofs.lemmas.List.{length-map}
use Rattle.std.specs.Prelude.{string_bytes, IfSome, Some, None, ℕ, Option}
use Rattle.std.specs.List.{position_or_len, position}
use Rattle.std.specs.Str.{bytes_eq}
use Rattle.grammar_core.proofs.Growth.{list_any-map, position_or_len-map, place_is}
use Rattle.dsl_faults.proofs.Keeping.{is_one_of_any}
use Rattle.dsl_faults.proofs.names.Names.position.Goals as goal

pub returns-clause-held : goal.returns-clause-held
returns-clause-held c =
    rw (← c.self.view_is) (c.get_index_of.ensures.found ∙ sym (list_any-map (bytes_eq c.args.name.now) string_bytes c.self.inside.names.keys) ∙ sym (is_one_of_any c.args.name.now (map string_bytes c.self.inside.names.keys)))

pub returns-clause-place : goal.returns-clause-place
returns-clause-place c = rw (← c.self.view_is) (go c.get_index_of.result c.get_index_of.ensures.index)
  where
    go : (o : Option ℕ) → o ≡ position (λ k. bytes_eq c.args.name.now (string_bytes k)) c.self.inside.names.keys → IfSome o (λ k. k ≡ position_or_len (bytes_eq c.args.name.now) (map string_bytes c.self.inside.names.keys))
    go None e = tt
    go (Some k) e = (place_is _ c.self.inside.names.keys k e).0 ∙ sym (position_or_len-map (bytes_eq c.args.name.now) string_bytes c.self.inside.names.keys)

pub returns-clause-within : goal.returns-clause-within
returns-clause-within c = rw (← c.self.view_is) (go c.get_index_of.result c.get_index_of.ensures.index)
  where
    go : (o : Option ℕ) → o ≡ position (λ k. bytes_eq c.args.name.now (string_bytes k)) c.self.inside.names.keys → IfSome o (λ k. k < length (map string_bytes c.self.inside.names.keys))
    go None e = tt
    go (Some k) e = subst (λ n. k < n) (sym (length-map c.self.inside.names.keys string_bytes)) (place_is _ c.self.inside.names.keys k e).1
