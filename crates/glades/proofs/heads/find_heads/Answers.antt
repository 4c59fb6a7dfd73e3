use Rattle.std.proofs.Common.{◌≡◌, inl, inr, Some, sym, subst, arith}
use Rattle.std.specs.Prelude.{slice_get}
use Rattle.std.proofs.lemmas.Bool.{cases_lt}
use Rattle.glades.specs.Heads.{IsTwo, HasHead}
use Rattle.glades.proofs.Heading.{two_within, not_noted}
use Rattle.glades.proofs.heads.find_heads.Goals as goal

pub put_head-requires-clause-note : goal.put_head-requires-clause-note
put_head-requires-clause-note c =
    not_noted c.args.forest.now c.known.ensures c.requires.links.by_rules c.args.notes.now c.requires.notes c.in_ok-number.field-0 c.note_at-note.result
    (subst (λ n. slice_get c.args.notes.now n ≡ Some c.note_at-note.result) (sym c.in_ok-number.ensures.ok) c.note_at-note.ensures)

pub put_head-requires-clause-node : goal.put_head-requires-clause-node
put_head-requires-clause-node c =
    let number = c.in_ok-number.ensures.ok in
    let below = c.loop-node-test.true in
    let long = c.requires.notes.long in
    omega (arith, number, below, long)

pub loop-node-preserved : goal.loop-node-preserved
loop-node-preserved c =
    let number = c.in_ok-number.ensures.ok in
    record {
      each = λ head h. elim (c.in_ok-put_head.ensures.puts.each head h) [ inl o ↦ c.loop-node.invariant.each head o | inr k ↦ k ];
      all = λ n slot p q k lt. elim (cases_lt n c.loop-node.node) [
        | inl l ↦ let (head, h, same) = c.loop-node.invariant.all n slot p q k l in (head, c.in_ok-put_head.ensures.puts.kept head h, same)
        | inr ge ↦
            let is : n ≡ c.in_ok-number.field-0 = omega (arith, number, lt, ge) in
            subst (HasHead c.put_head.new.heads.items) (sym is) (c.in_ok-put_head.ensures.puts.all slot p q (subst (λ m. IsTwo c.args.forest.now m slot p q) is k))
      ];
      known = c.put_head.ensures.known;
    }

pub returns-clause-heads : goal.returns-clause-heads
returns-clause-heads c =
    let end = c.loop-node-test.false in
    let long = c.requires.notes.long in
    record {
      each = c.loop-node.invariant.each;
      all = λ n slot p q k. (let lt = two_within c.args.forest.now c.known.ensures c.requires.links.by_rules n slot p q k in c.loop-node.invariant.all n slot p q k (omega (arith, end, long, lt)));
    }
