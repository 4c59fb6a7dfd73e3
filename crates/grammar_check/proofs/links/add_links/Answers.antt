use Rattle.std.proofs.Common.{arith, ◌≡◌, ℕ, List, ◌<◌, ◌+◌, subst, sym, ◌∙◌, true≢false}
use Rattle.grammar_model.specs.Grammar.{rule_at}
use Rattle.slot_analysis.specs.Slots.{needed_of}
use Rattle.grammar_check.specs.Linked.{HasPairs, IsLinkOf}
use Rattle.grammar_check.proofs.Linking.{part_below, alone_from, alone_to, pairs_added, pairs_both, pairs_same, link_more, link_skip}
use Rattle.grammar_check.proofs.links.add_links.Goals as goal
use Rattle.grammar_check.proofs.links.add_links.Goals.{then-lies_between+then-is_part_used+in_ok-add, else-lies_between, else-lies_between-via-then-lies_between+else-is_part_used, else-lies_between-via-else-lies_between}

pub add-requires : goal.add-requires
add-requires c =
    let h = part_below c.args.w.now c.args.slots.now.bases.now c.args.i c.loop-k.k c.child_number-child.result c.known.ensures c.requires.numbering c.requires.rule (omega (arith, c.loop-k-test.true, c.needed_count-k-end.ensures)) c.child_number-child.ensures in
    omega (arith, h, c.requires.sized, c.loop-k.invariant.same_length)

pub loop-k-preserved : goal.loop-k-preserved
loop-k-preserved c =
    let g = c.args.w.now in
    let bases = c.args.slots.now.bases.now in
    let kl : c.loop-k.k < needed_of (rule_at c.args.w.now c.args.i) = omega (arith, c.loop-k-test.true, c.needed_count-k-end.ensures) in
    elim c.if-lies_between.branch [
      | then-lies_between+then-is_part_used+in_ok-add w ↦
          let alone = c.lies_between.ensures.0 w.if-lies_between.true in
          let used = w.is_part_used.ensures.0 w.if-is_part_used.true in
          subst (λ (v : List (List ℕ)). HasPairs c.args.rows.now v (IsLinkOf g bases c.args.i (c.loop-k.k + 1))) (sym w.rows-is)
          (pairs_both c.args.rows.now c.loop-k.rows w.add.new.self (IsLinkOf g bases c.args.i c.loop-k.k) (λ t h. (t ≡ w.child_number-child.result) × (h ≡ c.head_number-head.result)) (IsLinkOf g bases c.args.i (c.loop-k.k + 1))
          (link_more g bases c.args.i c.loop-k.k w.child_number-child.result c.head_number-head.result w.child_number-child.ensures c.head_number-head.ensures used.0 used.1
          (alone_from g c.args.i c.first_solid-first.result c.solid_end-end.result c.first_solid-first.ensures.within c.solid_end-end.ensures.within c.first_solid-first.ensures.before c.first_solid-first.ensures.at c.solid_end-end.ensures.behind c.solid_end-end.ensures.last c.loop-k.k alone.0 alone.1))
          c.loop-k.invariant (pairs_added c.loop-k.rows w.add.new.self w.child_number-child.result c.head_number-head.result w.in_ok-add.ensures.ok))
      | else-lies_between w ↦
          subst (λ (v : List (List ℕ)). HasPairs c.args.rows.now v (IsLinkOf g bases c.args.i (c.loop-k.k + 1))) (sym w.rows-is)
          (pairs_same c.args.rows.now c.loop-k.rows (IsLinkOf g bases c.args.i c.loop-k.k) (IsLinkOf g bases c.args.i (c.loop-k.k + 1))
          (link_skip g bases c.args.i c.loop-k.k (λ all acc prod. elim w.else-lies_between.branch [
            | else-lies_between-via-then-lies_between+else-is_part_used v ↦ true≢false (sym (v.is_part_used.ensures.1 (acc, prod)) ∙ v.if-is_part_used.false)
            | else-lies_between-via-else-lies_between v ↦ true≢false (sym (c.lies_between.ensures.1
                (alone_to g c.args.i c.first_solid-first.result c.solid_end-end.result c.first_solid-first.ensures.within c.solid_end-end.ensures.within c.first_solid-first.ensures.before c.first_solid-first.ensures.at c.solid_end-end.ensures.behind c.solid_end-end.ensures.last c.loop-k.k kl all)) ∙ v.if-lies_between.false)
          ])) c.loop-k.invariant)
    ]

pub returns : goal.returns
returns c = subst (λ n. HasPairs c.args.rows.now c.loop-k.rows (IsLinkOf c.args.w.now c.args.slots.now.bases.now c.args.i n)) (let z : c.loop-k.k ≡ needed_of (rule_at c.args.w.now c.args.i) = omega (arith, c.loop-k-test.false, c.loop-k.auto.k-end, c.needed_count-k-end.ensures) in z) c.loop-k.invariant
