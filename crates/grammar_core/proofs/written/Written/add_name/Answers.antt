use Rattle.std.proofs.Common.{◌≡◌, ℕ, [], ◌∷◌, ◌++◌, sym, ap, ◌∙◌, map, cond, false, List}
use Rattle.grammar_model.specs.Grammar.{WrittenRule, Grammar}
use Rattle.grammar_core.specs.Written.{rule_of}
use Rattle.std.specs.Prelude.{string_bytes}
use Rattle.std.specs.List.{list_any}
use Rattle.std.specs.Str.{bytes_eq}
use Rattle.std.proofs.lemmas.List.{length-map}
use Rattle.grammar_core.proofs.Growth.{with_new_name, names_after, place_past, get_last}
use Rattle.grammar_core.proofs.written.Written.add_name.Goals as goal

abbrev with_names : List (List ℕ) → List WrittenRule → List ℕ → Grammar
with_names ns rules starts = record { names = ns; rules = rules; starts = starts }

abbrev names : (c : goal.In_ok-insert) → map string_bytes c.insert.new.self.keys ≡ map string_bytes c.self.inside.names.keys ++ c.args.name.now ∷ []
names c = names_after c.self.inside.names.keys c.insert.new.self.keys c.in_ok-owned.owned c.args.name.now c.in_ok-owned.ensures.ok c.in_ok-insert.ensures.keys (rw (← c.self.view_is) at c.requires.new)

pub invariant_of-self-2 : goal.invariant_of-self-2
invariant_of-self-2 c =
    rw (names c) (with_new_name _ c.args.name.now c.self.invariant (rw (← c.self.view_is) at c.requires.new) (rw (← c.self.view_is) at c.requires.room))

pub returns-clause-number : goal.returns-clause-number
returns-clause-number c =
    rw (← c.self.view_is) (c.len-number.ensures.len ∙ sym (length-map c.self.inside.names.keys string_bytes) ∙ sym (place_past (bytes_eq c.args.name.now) (map string_bytes c.self.inside.names.keys) (rw (← c.self.view_is) at c.requires.new)))

pub returns-clause-named : goal.returns-clause-named
returns-clause-named c =
    rw (names c) (get_last (map string_bytes c.self.inside.names.keys) c.args.name.now c.len-number.result (c.len-number.ensures.len ∙ sym (length-map c.self.inside.names.keys string_bytes)))

pub returns-clause-ok : goal.returns-clause-ok
returns-clause-ok c =
    let before = map string_bytes c.self.inside.names.keys in
    let free : list_any (bytes_eq c.args.name.now) before ≡ false = rw (← c.self.view_is) at c.requires.new in
    rw (← c.self.view_is)
    (ap (λ (ns : List (List ℕ)). with_names ns (map rule_of c.self.inside.rules.items) c.self.inside.starts.items)
    (names c ∙ ap (λ b. cond b before (before ++ c.args.name.now ∷ [])) (sym free)))
