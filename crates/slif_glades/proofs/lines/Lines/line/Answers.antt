use Rattle.std.proofs.Common.{◌≡◌, ℕ, leb, rules, sym, ◌∙◌, subst}
use Rattle.std.specs.List.Sorted.{IsNonDecreasingBy}
use Rattle.std.proofs.lemmas.List.Sorted.{IsPartitionPoint-from_clause, IsPartitionedBy-leb}
use Rattle.slif_glades.proofs.LineStarts.{are_rising, line_between}
use Rattle.slif_glades.proofs.lines.Lines.line.Goals as goal

pub returns : goal.returns
returns c cs lines h =
    let same : c.deref.result.now ≡ c.args.self.now.starts.items = c.deref.ensures.value in
    let rising : IsNonDecreasingBy (λ (x : ℕ). x) c.deref.result.now = subst (IsNonDecreasingBy (λ (x : ℕ). x)) (sym (same ∙ lines.starts_are)) (are_rising cs) in
    let parted = IsPartitionedBy-leb (λ (x : ℕ). x) _ c.args.at rising in
    let point = IsPartitionPoint-from_clause (λ (x : ℕ). leb x c.args.at) _ _ c.partition_point.ensures.partitioned parted (λ a r q k. search rules) in
    line_between cs c.args.at c.partition_point.result c.deref.result.now (same ∙ lines.starts_are) c.partition_point.ensures.bound point
