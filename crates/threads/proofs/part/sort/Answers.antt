use Rattle.std.proofs.lemmas.List.Sorted.{Contains-permutation, IsPermutation-sym}
use Rattle.threads.proofs.part.sort.Goals as goal

pub returns : goal.returns
returns c =
    let p = c.sort.ensures.permutation in
    λ th. (
      Contains-permutation c.sort.new.self.items c.args.part.now.items th (IsPermutation-sym c.args.part.now.items c.sort.new.self.items p),
      Contains-permutation c.args.part.now.items c.sort.new.self.items th p,
    )
