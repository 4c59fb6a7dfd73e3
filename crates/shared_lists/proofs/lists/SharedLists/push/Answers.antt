use Rattle.std.proofs.Common.{◌∙◌, ◌++◌, ◌∷◌, [], sym, ap, subst, ℕ, List}
use Rattle.shared_lists.specs.Counted.{AreCounted}
use Rattle.shared_lists.proofs.Counting.{counted_more}
use Rattle.shared_lists.proofs.lists.SharedLists.push.Goals as goal

pub invariant_of-self-2 : goal.invariant_of-self-2
invariant_of-self-2 c =
    subst (λ (l : List (List ℕ)). AreCounted l c.note-noted.new.counts) (sym c.in_ok-push.ensures.ok)
    (counted_more c.self.inside.lists c.self.inside.counts c.self.invariant c.args.list.now c.requires c.len-place.result c.note-noted.new.counts c.len-place.ensures c.note-noted.ensures)

pub returns-clause-ok : goal.returns-clause-ok
returns-clause-ok c = c.in_ok-push.ensures.ok ∙ ap (λ (l : List (List ℕ)). l ++ c.args.list.now ∷ []) c.self.view_is
