use Rattle.std.proofs.Common.{rules, ap, length, length-append, ◌∷◌, [], ◌∙◌}
use Rattle.recognizer_model.specs.Flat.{IsNullable}
use Rattle.begun_lists.proofs.Following.{has_skipped, none_skipped}
use Rattle.begun_lists.proofs.Trying.{rises_skipped, rises_unskipped}
use Rattle.begun_lists.proofs.skipping.list_skipped.Goals as goal

pub returns-in_ok-push-clause-listed : goal.returns-in_ok-push-clause-listed
returns-in_ok-push-clause-listed c =
    let n : IsNullable c.args.flat.now c.args.symbol = c.nullable.ensures.0 (search rules) in
    has_skipped c.args.flat.now c.args.item c.args.symbol c.args.next.now.items c.push.new.self.items (let p = c.in_ok-push.ensures.items in let a = c.advanced.ensures in cc) n

pub returns-in_ok-push-clause-links : goal.returns-in_ok-push-clause-links
returns-in_ok-push-clause-links c =
    let n : IsNullable c.args.flat.now c.args.symbol = c.nullable.ensures.0 (search rules) in
    rises_skipped c.args.flat.now c.args.item c.args.symbol (length c.args.next.now.items) (length c.push.new.self.items) n (ap length c.in_ok-push.ensures.items ∙ length-append c.args.next.now.items (c.advanced.result ∷ []))

pub returns-else-nullable-clause-listed : goal.returns-else-nullable-clause-listed
returns-else-nullable-clause-listed c = none_skipped c.args.flat.now c.args.item c.args.symbol c.args.next.now.items (λ n. let h = c.nullable.ensures.1 n in search rules)

pub returns-else-nullable-clause-links : goal.returns-else-nullable-clause-links
returns-else-nullable-clause-links c = rises_unskipped c.args.flat.now c.args.item c.args.symbol (length c.args.next.now.items)
