use Rattle.std.proofs.Common.{map, ap, ◌≡◌, ◌∙◌, ◌++◌, subst, length, arith}
use Rattle.grammar_core.specs.Written.{IsWritten}
use Rattle.flat_model.specs.Flatten.{Decided}
use Rattle.flat_rules.specs.Tables.{told_slot, slots_of_lefts, slots_of_terminals}
use Rattle.flat_rules.proofs.Deciding.{decided_of, keys_differ, slots_few}
use Rattle.flat_rules.proofs.numbering.symbols_of.Goals as goal

pub set_of-requires : goal.set_of-requires
set_of-requires c =
    let d : Decided c.args.c.now = decided_of c.args.c.now (subst IsWritten c.written.ensures c.known.ensures) c.tested.ensures in
    keys_differ c.args.c.now d c.deref.result.now
    (ap (map told_slot) c.deref.ensures.value ∙ c.in_ok-list_lefts.ensures d ∙ ap (λ l. l ++ slots_of_lefts c.args.c.now d) (c.in_ok-list_terminals.ensures d ∙ ap (λ l. map told_slot l ++ slots_of_terminals c.args.c.now d) c.new-keys.ensures.items))

pub returns : goal.returns
returns c =
    let w = c.args.c.now in
    let are : (d : Decided w) → map told_slot c.in_ok-slots.slots.keys ≡ slots_of_terminals w d ++ slots_of_lefts w d = λ d.
    ap (map told_slot) (c.in_ok-slots.ensures ∙ c.deref.ensures.value) ∙ c.in_ok-list_lefts.ensures d
    ∙ ap (λ l. l ++ slots_of_lefts w d) (c.in_ok-list_terminals.ensures d ∙ ap (λ l. map told_slot l ++ slots_of_terminals w d) c.new-keys.ensures.items) in
    record {
      slots = are;
      lists = c.in_ok-list_lists.ensures.lists;
      before = c.in_ok-list_lists.ensures.before;
      few = c.in_ok-list_lists.ensures.few;
      sized = c.in_ok-list_lists.ensures.sized;
      small =
          let written = subst IsWritten c.written.ensures c.known.ensures in
          let d = decided_of w written c.tested.ensures in
          omega (arith, ap length (are d), slots_few w d c.few_accessible.ensures, c.in_ok-list_lists.ensures.small, written.few_rules, written.few_starts);
    }
