use Rattle.std.proofs.Common.{◌≡◌, ◌∙◌, Bool, Some, None, refl, sym, arith}
use Rattle.finite_sets.proofs.Lists.{get_index}
use Rattle.glades.proofs.report.unknown.Goals as goal

none_some : {x : Bool} → None ≡ Some x → ⊥
none_some e = cc

pub returns : goal.returns
returns c =
    let long = c.in_ok-resize.ensures.len in
    let count = c.node_count.ensures in
    let empty = c.new-seconds.ensures.len in
    let h = c.in_ok-resize.ensures.by_index in
    record {
      long = omega (arith, long, count);
      known = λ n b e. (let (lt, is) = get_index c.resize.new.self.items n None (Some b) e in
          absurd (none_some (sym (h.1 n None refl (omega (arith, empty)) (omega (arith, lt, long))) ∙ is)));
    }
