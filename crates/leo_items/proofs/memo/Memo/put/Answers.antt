use Rattle.std.proofs.Common.{◌≡◌, ℕ, ◌+◌, List, length, get_or, None, sym, ◌∙◌, ap, subst}
use Rattle.leo_items.specs.declared.memo.Linked.{Linked}
use Rattle.leo_items.specs.Memo.{Note, noted}
use Rattle.leo_items.proofs.Linking.{same_heads, headed_more}
use Rattle.leo_items.proofs.memo.Memo.put.Goals as goal

pub invariant_of-self-2 : goal.invariant_of-self-2
invariant_of-self-2 c =
    let note : Linked = record { pair = c.args.pair; top = c.args.top; earlier = c.head_of-earlier.result } in
    headed_more c.self.inside.notes.items c.push.new.self.items c.lengthen.new.heads.items note
    (same_heads c.self.inside.notes.items c.self.inside.heads.items c.lengthen.new.heads.items c.in_ok-lengthen.ensures.same c.self.invariant)
    c.in_ok-push.ensures.items
    (subst (λ (l : List Note). noted l c.args.pair ≡ None) (sym c.self.view_is) c.requires)
    (c.head_of-earlier.ensures ∙ ap (λ (h : List ℕ). get_or h c.args.pair.set 0) c.deref-2.ensures.value)
    c.in_ok-lengthen.ensures.long c.in_ok-number.number
    (c.in_ok-number.ensures ∙ ap (λ (l : List Linked). length l + 1) c.deref.ensures.value)
