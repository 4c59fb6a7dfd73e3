use Rattle.std.proofs.Common.{◌≡◌, ◌∙◌, ℕ, Some, sym}
use Rattle.std.specs.Prelude.{slice_get}
use Rattle.std.specs.declared.vec.Vec.{Vec}
use Rattle.std.specs.declared.alloc.Global.{Global}
use Rattle.std.proofs.lemmas.Option.{slice_get_within, get_or_from_slice_get}
use Rattle.lexer.proofs.begins.state_at.Goals as goal

pub returns-then-is_same : goal.returns-then-is_same
returns-then-is_same c =
    let entry : Vec ℕ Global × ℕ = (c.in_ok-list.list.now, c.in_ok-list.state.now) in
    let there : slice_get c.args.states.now.entries c.args.place ≡ Some entry = sym c.in_ok-list.ensures.entry in (
      c.in_ok-list.list.now,
      (c.args.place, slice_get_within c.args.states.now.entries c.args.place entry there, get_or_from_slice_get c.args.states.now.entries c.args.place entry entry there),
      sym c.deref.ensures.value ∙ c.is_same.ensures.0 c.if-is_same.true,
    )
