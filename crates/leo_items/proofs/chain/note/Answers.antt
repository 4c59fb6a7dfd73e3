use Rattle.std.proofs.Common.{rules, arith, ◌+◌, ◌≤◌, inl, refl, sym, ap, subst, length, length-append, ◌∷◌, []}
use Rattle.recognizer_model.specs.declared.Pair.{Pair}
use Rattle.leo_items.specs.ByRows.{NotesMore}
use Rattle.leo_items.proofs.Chains.{has_leo, notable_above, notes_more, no_more}
use Rattle.leo_items.proofs.Falling.{far, far_bound, step_falls, symbol_there}
use Rattle.leo_items.proofs.Ways.{noted_next, noted_found, noted_end}
use Rattle.leo_items.proofs.chain.note.Goals as goal

pub loop-init : goal.loop-init
loop-init g c = record {
  memo = no_more c.args.flat.now c.args.rows.now.sets c.args.memo.now c.requires.memo;
  counted = omega arith;
  noted = inl refl;
  notable = λ are. record { inside = c.requires.set; leads = λ item leo. c.requires.leads };
  short = λ flat. (
      let (item, leo) = has_leo c.args.flat.now c.args.rows.now.sets c.requires.leads in
      let bound = far_bound c.args.flat.now flat c.args.pair.set c.args.pair.symbol (search rules) (symbol_there c.args.flat.now flat c.args.rows.now.sets c.requires.rows.are c.requires.nulled c.args.pair.set c.args.pair.symbol item leo) in
      omega (arith, bound));
}

pub step_in-requires-clause-set : goal.step_in-requires-clause-set
step_in-requires-clause-set g c = (c.loop.invariant.notable c.requires.rows.are).inside

pub loop-preserved : goal.loop-preserved
loop-preserved g c =
    let n = c.loop.invariant.notable c.requires.rows.are in
    let (item, leo, same) = c.in-Some.ensures in
    record {
      memo = notes_more c.args.flat.now c.args.rows.now.sets c.loop.memo c.make_leo.new.memo c.loop.pair c.args.top c.in_ok-make_leo.ensures.ok.0 c.args.memo.now c.loop.invariant.memo (search rules) n.inside (n.leads item leo);
      counted = (
          let e = ap length c.in_ok-make_leo.ensures.ok.0 in
          let l = length-append c.loop.memo ((c.loop.pair, c.args.top) ∷ []) in
          let s = c.in_ok-make_leo.ensures.ok.1 in
          let k = c.loop.invariant.counted in
          omega (arith, e, l, s, k));
      noted = noted_next c.loop.memo c.make_leo.new.memo c.loop.pair c.pair_above-pair.result c.args.pair c.args.top c.in_ok-make_leo.ensures.ok.0 (search rules) c.loop.invariant.noted;
      notable = λ are. notable_above c.args.flat.now c.args.rows.now.sets are c.loop.pair c.pair_above-pair.result c.args.top c.in-Some.step (c.loop.invariant.notable are) c.in-Some.ensures c.pair_above-pair.ensures;
      short = λ flat. subst (λ (p : Pair). c.loop.counter + 1 + far c.args.flat.now flat p.set p.symbol ≤ 18446744069414584319) (sym c.pair_above-pair.ensures) (
          let falls = step_falls c.args.flat.now flat c.args.rows.now.sets c.requires.rows.are c.requires.nulled c.loop.pair.set c.loop.pair.symbol c.in-Some.step c.in-Some.ensures in
          let before = c.loop.invariant.short flat in
          omega (arith, falls, before));
    }

pub returns-then-is_some-clause-noted : goal.returns-then-is_some-clause-noted
returns-then-is_some-clause-noted g c = noted_found c.args.flat.now c.args.rows.now.sets c.loop.memo c.loop.pair c.args.pair c.args.top c.requires.leads c.get.result c.loop.invariant.memo.is c.loop.invariant.noted c.get.ensures c.if-is_some.ensures

pub returns-in_default-clause-noted : goal.returns-in_default-clause-noted
returns-in_default-clause-noted g c = noted_end c.args.flat.now c.args.rows.now.sets c.loop.memo c.loop.pair c.args.pair c.args.top c.requires.leads c.loop.invariant.noted c.in_default.ensures

pub returns-in_err-make_leo-clause-memo : goal.returns-in_err-make_leo-clause-memo
returns-in_err-make_leo-clause-memo g c = subst (NotesMore c.args.flat.now c.args.rows.now.sets c.args.memo.now) (sym c.in_err-make_leo.ensures.err.0) c.loop.invariant.memo

pub unreachable-requires : goal.unreachable-requires
unreachable-requires g c = let b = c.loop.invariant.short c.known.ensures.flat in let end = c.loop-test.false in omega (arith, b, end)
