use Rattle.std.proofs.Common.{◌≡◌, ◌-◌, ◌<◌, set, get_or, sym, subst, arith}
use Rattle.leo_items.specs.declared.memo.Linked.{Linked}
use Rattle.leo_items.specs.Linked.{blank, IsHeaded}
use Rattle.leo_items.proofs.Linking.{head_room, headed_less}
use Rattle.leo_items.proofs.memo.Memo.drop_last.Goals as goal

pub index_mut-requires : goal.index_mut-requires
index_mut-requires c =
    let size = c.in-Some.ensures.cases in
    let is = c.self.inside.notes.ok.0 in
    let value = c.in-Some.ensures.value blank (omega arith) in
    let same : c.in-Some.note ≡ get_or c.self.inside.notes.items (c.self.inside.notes.len - 1) blank = cc in
    let room = head_room c.self.inside.notes.items c.pop.new.self.items c.self.inside.heads.items (c.self.inside.notes.len - 1) c.self.invariant (omega arith) c.pop.ensures.rest in
    let heads = c.self.inside.heads.ok.0 in
    subst (λ (x : Linked). x.pair.set < c.self.inside.heads.len) (sym same) (omega arith)

pub invariant_of-self : goal.invariant_of-self
invariant_of-self c =
    let size = c.in-Some.ensures.cases in
    let is = c.self.inside.notes.ok.0 in
    let value = c.in-Some.ensures.value blank (omega arith) in
    let same : c.in-Some.note ≡ get_or c.self.inside.notes.items (c.self.inside.notes.len - 1) blank = cc in
    subst (λ (x : Linked). IsHeaded c.pop.new.self.items (set c.self.inside.heads.items x.pair.set x.earlier)) (sym same)
    (headed_less c.self.inside.notes.items c.pop.new.self.items c.self.inside.heads.items (c.self.inside.notes.len - 1) c.self.invariant (omega arith) c.pop.ensures.rest)
