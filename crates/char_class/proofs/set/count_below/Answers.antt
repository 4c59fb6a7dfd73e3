use Rattle.std.proofs.Common.{rules, ℕ, nat_lt}
use Rattle.std.proofs.lemmas.List.Sorted.{IsPartitionPoint-from_clause}
use Rattle.char_class.proofs.set.count_below.Goals as goal

pub returns-clause-split : goal.returns-clause-split
returns-clause-split c = IsPartitionPoint-from_clause (λ (pair : ℕ × ℕ). nat_lt pair.0 c.args.code) _ _ c.partition_point.ensures.partitioned c.requires (λ a r q k. search rules)
