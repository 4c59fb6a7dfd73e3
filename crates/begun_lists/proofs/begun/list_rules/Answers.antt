use Rattle.std.proofs.Common.{ℕ, ◌≡◌}
use Rattle.std.proofs.lemmas.Result.{on_ok_weaker}
use Rattle.recognizer_model.specs.Flat.{IsRule, lhs_of}
use Rattle.begun_lists.proofs.Beginning.{rules_listed}
use Rattle.begun_lists.proofs.Rising.{rises_as}
use Rattle.begun_lists.proofs.begun.list_rules.Goals as goal

pub returns-clause-listed : goal.returns-clause-listed
returns-clause-listed c =
    on_ok_weaker c.list_predicted.result
    (rules_listed c.args.flat.now c.args.symbol c.rules_of-rules.result.start c.rules_of-rules.result.end c.rules_of-rules.ensures c.args.next.now.items c.list_predicted.new.next.items)
    c.list_predicted.ensures.listed

pub returns-clause-links : goal.returns-clause-links
returns-clause-links c =
    on_ok_weaker c.list_predicted.result
    (rises_as (λ (r : ℕ). IsRule c.args.flat.now r × (lhs_of c.args.flat.now r ≡ c.args.symbol)) (λ r between. (c.rules_of-rules.ensures r).0 between))
    c.list_predicted.ensures.links
