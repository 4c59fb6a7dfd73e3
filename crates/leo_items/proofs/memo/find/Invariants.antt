use Rattle.leo_items.proofs.Linking.{IsOn}
use Rattle.leo_items.proofs.memo.find.Given as goal

abbrev pub invariant-loop-number : goal.invariant-loop-number
invariant-loop-number l = IsOn l.notes l.pair l.number

abbrev pub decreases-loop-number : goal.decreases-loop-number
decreases-loop-number l = l.number
