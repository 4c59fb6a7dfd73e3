use Rattle.std.proofs.Common.{rules, of_calls, ◌≡◌, ◌≤◌, true, false, length, sym, ap, ◌∙◌, subst, arith}
use Rattle.std.specs.Prelude.{nat_le}
use Rattle.std.specs.List.Sorted.{IsPartitionPoint, IsPartitionedBy}
use Rattle.std.proofs.lemmas.Fn.{always_returns_same}
use Rattle.std.proofs.lemmas.Bool.{leb-true, leb-false}
use Rattle.recognizer_model.specs.Flat.{FlatRule, FlatGrammar, no_rule}
use Rattle.recognizer_model.specs.Invariant.{IsFlat, IsArranged}
use Rattle.grammar_core.proofs.Halving.{up_to_partitioned}
use Rattle.grammar_core.proofs.flat.Flat.rules_up_to.Goals as goal

pub returns : goal.returns
returns c =
    let same : c.deref.result.now ≡ c.args.self.now.rules = c.deref.ensures.value ∙ ap (λ (g : FlatGrammar). g.rules) c.self.view_is in
    let arranged : IsArranged c.args.self.now = subst IsArranged c.self.view_is c.self.invariant.1 in
    let parted : IsPartitionedBy (λ (r : FlatRule). nat_le r.lhs c.args.x) c.deref.result.now = subst (IsPartitionedBy (λ (r : FlatRule). nat_le r.lhs c.args.x)) (sym same) (up_to_partitioned c.args.self.now arranged c.args.x) in
    let point = c.partition_point.ensures.partitioned (λ (r : FlatRule). nat_le r.lhs c.args.x) (always_returns_same _ _ _ (λ a r f k. search (rules, of_calls))) parted in
    let point' = subst (λ l. IsPartitionPoint (λ (r : FlatRule). nat_le r.lhs c.args.x ≡ true) (λ (r : FlatRule). nat_le r.lhs c.args.x ≡ false) l c.partition_point.result) same point in
    let bound = c.partition_point.ensures.bound in
    let flat : IsFlat c.args.self.now = subst IsFlat c.self.view_is c.self.invariant.0 in
    let few = flat.in_range.rules in
    let bound' : c.partition_point.result ≤ length c.args.self.now.rules = subst (λ l. c.partition_point.result ≤ length l) same bound in
    record {
      bound = bound';
      fits = omega arith;
      below = λ r lt. leb-true _ _ (point'.0 r no_rule (omega arith) lt);
      above = λ r le rule. leb-false _ _ (point'.1 r no_rule le rule);
    }
