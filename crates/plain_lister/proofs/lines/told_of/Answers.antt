use Rattle.std.proofs.Common.{◌∷◌, List, ap, ◌∙◌}
use Rattle.grammar_model.specs.Grammar.{lhs_of, rule_at}
use Rattle.grammar_model.specs.Values.{Value, Text, Number, list_of, name_of}
use Rattle.plain_lister.specs.Told.{grammar_of}
use Rattle.plain_lister.proofs.Pooled.{stays_all, prefix_of, told_first, told_next}
use Rattle.plain_lister.proofs.lines.told_of.Goals as goal

pub node_value-requires : goal.node_value-requires
node_value-requires c = (prefix_of c.args.list.now c.args.pool.now c.args.told.now c.args.done.now c.in-Node.prefix c.in_ok-children-in-Node.children.now c.requires c.in_ok-children-in-Node.ensures).0

pub returns-in_ok-node_value-in-Node : goal.returns-in_ok-node_value-in-Node
returns-in_ok-node_value-in-Node c =
    let put = c.in_ok-node_value-in-Node.ensures in
    let prefix = prefix_of c.args.list.now c.args.pool.now c.args.told.now c.args.done.now c.in-Node.prefix c.in_ok-children-in-Node.children.now c.requires c.in_ok-children-in-Node.ensures in
    let g = grammar_of c.args.list.now in
    rw c.in-Node.is (put.stays, (put.within, put.stands ∙ ap (λ (l : List Value). list_of (Text (name_of g (lhs_of (rule_at g c.in-Node.rule))) ∷ Number c.in-Node.rule ∷ l)) prefix.1))

pub returns-in_ok-with_last-in-First : goal.returns-in_ok-with_last-in-First
returns-in_ok-with_last-in-First c =
    let (id, told, items) = c.in_ok-with_last-in-First.ensures in
    rw c.in-First.is (
      stays_all c.args.pool.now,
      told_first c.args.list.now c.args.pool.now c.args.told.now c.args.done.now c.in-First.last id c.in_ok-with_last-in-First.field-0.items c.requires told items,
    )

pub returns-in_ok-with_last-in-Next : goal.returns-in_ok-with_last-in-Next
returns-in_ok-with_last-in-Next c =
    let (id, told, items) = c.in_ok-with_last-in-Next.ensures in
    rw c.in-Next.is (
      stays_all c.args.pool.now,
      told_next c.args.list.now c.args.pool.now c.args.told.now c.args.done.now c.in-Next.prefix c.in-Next.last id c.in_ok-children-in-Next.children.now c.in_ok-with_last-in-Next.field-0.items
          c.requires c.in_ok-children-in-Next.ensures told items,
    )
