use Rattle.std.proofs.Common.{◌≡◌, ◌⊎◌, ◌++◌, ◌∷◌, [], subst}
use Rattle.threads.specs.Lists.{lists_of}
use Rattle.threads.proofs.Equal.{numbered, numbered_at}
use Rattle.threads.proofs.lists.Lists.number.Goals as goal

pub returns-clause-added : goal.returns-clause-added
returns-clause-added c =
    subst (λ v. (lists_of c.insert_full.new.self.keys ≡ v) ⊎ (lists_of c.insert_full.new.self.keys ≡ v ++ c.args.list.items ∷ [])) c.self.view_is
    (numbered c.self.inside.lists.keys c.insert_full.new.self.keys c.args.list c.in_ok-k.ensures.keys)

pub returns-clause-list : goal.returns-clause-list
returns-clause-list c = let (w, e, t) = c.in_ok-k.ensures.stored in numbered_at c.insert_full.new.self.keys c.in_ok-k.k c.args.list w e t
