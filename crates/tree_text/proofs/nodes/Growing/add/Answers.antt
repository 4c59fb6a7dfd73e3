use Rattle.std.proofs.Common.{◌≡◌, length, arith}
use Rattle.tree_text.proofs.Nested.{added_to, opened_to}
use Rattle.tree_text.proofs.nodes.Growing.add.Goals as goal

pub returns-in_ok-push-in-Rule : goal.returns-in_ok-push-in-Rule
returns-in_ok-push-in-Rule c =
    let middle = c.under_open-above.new.self in
    let told = c.under_open-above.ensures in
    let depth : c.len.result ≡ length middle.open.items = omega (arith, middle.open.ok, c.len.ensures) in
    let place : c.len-node.result ≡ length c.args.self.now.nodes.items = omega (arith, c.args.self.now.nodes.ok, c.len-node.ensures) in
    opened_to c.args.self.now.nodes.items middle.nodes.items c.push.new.self.items c.args.self.now.open.items middle.open.items _ c.requires told.nodes told.opened c.in_ok-push.ensures.items depth told.above
    c.push-in-Rule.new.self.items _ c.in_ok-push-in-Rule.ensures.items place

pub returns-in_default-label : goal.returns-in_default-label
returns-in_default-label c =
    let middle = c.under_open-above.new.self in
    let told = c.under_open-above.ensures in
    let depth : c.len.result ≡ length middle.open.items = omega (arith, middle.open.ok, c.len.ensures) in
    added_to c.args.self.now.nodes.items middle.nodes.items c.push.new.self.items c.args.self.now.open.items middle.open.items _ c.requires told.nodes told.opened c.in_ok-push.ensures.items depth told.above
