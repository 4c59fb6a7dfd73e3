use Rattle.std.proofs.lemmas.List.Sorted.{IsNonDecreasingBy-from_sort_by_key}
use Rattle.std.proofs.Common.{rules}
use Rattle.slif_lint.specs.Told.{place}
use Rattle.slif_lint.proofs.telling.listed.Goals as goal

pub returns : goal.returns
returns c = record {
  found = c.in_ok-hints.hints.items;
  are = c.in_ok-hints.ensures;
  permutation = c.in_ok-sort_by_key.ensures.permutation;
  sorted = IsNonDecreasingBy-from_sort_by_key place _ c.in_ok-sort_by_key.ensures.sorted (λ a r q k. search rules);
}
