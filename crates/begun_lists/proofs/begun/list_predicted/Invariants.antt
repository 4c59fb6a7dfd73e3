use Rattle.std.proofs.Common.{◌≡◌, ◌≤◌, ◌⊎◌}
use Rattle.begun_lists.proofs.Listing.{Listed, Counted}
use Rattle.begun_lists.proofs.begun.list_predicted.Given as goal

abbrev pub invariant-loop-rule : goal.invariant-loop-rule
invariant-loop-rule l = record {
  listed : Listed l.initial.next.items l.first 0 l.next.items l.rule;
  links : Counted l.initial.next.items l.first 0 l.next.items l.rule;
  within : (l.rule ≤ l.end) ⊎ (l.rule ≡ l.first);
}
