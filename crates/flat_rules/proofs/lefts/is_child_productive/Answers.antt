use Rattle.std.proofs.Common.{◌≡◌, ◌<◌, length, sym, subst, ◌↔◌}
use Rattle.std.specs.Bool.{IsTrue}
use Rattle.grammar_model.specs.Grammar.{Grammar, Slot, rule_at, child_slot, slot_count}
use Rattle.grammar_model.specs.Analysis.{IsProductive}
use Rattle.grammar_core.proofs.Known.{child_known}
use Rattle.flat_rules.proofs.lefts.is_child_productive.Goals as goal

pub slot_productive-requires : goal.slot_productive-requires
slot_productive-requires c =
    let w = c.written-w.result.now in
    let known = child_known w c.args.i c.args.k c.known.ensures (subst (λ (g : Grammar). c.args.i < length g.rules) (sym c.written-w.ensures) c.requires.rule)
    (subst (λ g. c.args.k < slot_count (rule_at g c.args.i)) (sym c.written-w.ensures) c.requires.part) in
    subst (λ (g : Grammar). c.child_at-symbol.result.0 < length g.names) c.written-w.ensures (subst (λ s. s < length w.names) (sym c.child_at-symbol.ensures.symbol) known)

pub returns : goal.returns
returns c =
    let told : Slot = record { symbol = c.child_at-symbol.result.0; level = c.child_at-symbol.result.1 } in
    let here : told ≡ child_slot (rule_at c.written-w.result.now c.args.i) c.args.k = λ z. record { symbol = c.child_at-symbol.ensures.symbol z; level = c.child_at-symbol.ensures.level z } in
    let is : told ≡ child_slot (rule_at c.args.c.now c.args.i) c.args.k = subst (λ g. told ≡ child_slot (rule_at g c.args.i) c.args.k) c.written-w.ensures here in
    subst (λ s. IsTrue c.slot_productive.result ↔ IsProductive c.args.c.now s) is c.slot_productive.ensures
