use Rattle.std.proofs.Common.{◌∙◌, ◌≤◌, length, sym, subst, refl, arith, eqb}
use Rattle.std.specs.List.{slice_split}
use Rattle.std.proofs.lemmas.List.{length-take-le}
use Rattle.std.proofs.lemmas.Iterator.Splits.{YieldsList-from_str_split}
use Rattle.command_line.proofs.Different.{Yields, turned, ended, none_tried, one_tried, wrong_name, too_many, too_short, stands_twice, all_tried}
use Rattle.command_line.proofs.names.are_names.Goals.{then-count-eq-MOST_NAMES-via-then-count-eq-MOST_NAMES, then-count-eq-MOST_NAMES-via-else-count-eq-MOST_NAMES+then-is_empty, then-count-eq-MOST_NAMES-via-else-count-eq-MOST_NAMES+else-is_empty+then-is_among}
use Rattle.command_line.proofs.names.are_names.Goals as goal

pub loop-name-init : goal.loop-name-init
loop-name-init c = (
  slice_split (λ b. eqb b 44) c.args.text.now,
  subst (λ s. Yields s (slice_split (λ b. eqb b 44) c.args.text.now)) (sym c.into_iter-name-iterator.ensures.into_iter_gives)
      (YieldsList-from_str_split 44 c.args.text.now (omega arith) c.split-name-items.ensures.text c.split-name-items.ensures.has_more c.split-name-items.ensures.pattern).runs,
  none_tried c.args.text.now _ refl,
)

pub slice_bounds-names-end-else-is_empty : goal.slice_bounds-names-end-else-is_empty
slice_bounds-names-end-else-is_empty c = let few = c.loop-name.invariant.2.few in omega (arith, few, c.if-is_empty.array_long)

pub slice_bounds-is_among-end : goal.slice_bounds-is_among-end
slice_bounds-is_among-end c =
    let few = c.loop-name.invariant.2.few in
    let within : c.loop-name.count ≤ length c.loop-name.names = omega (arith, few, c.if-is_empty.array_long) in
    sym (length-take-le c.loop-name.count c.loop-name.names within)

pub returns-then-count-eq-MOST_NAMES : goal.returns-then-count-eq-MOST_NAMES
returns-then-count-eq-MOST_NAMES c =
    let i = c.loop-name.invariant in
    let t = turned c.loop-name.name-iterator c.next.new.self c.next.result c.in-Some.name i.0 i.1 c.next.ensures.steps c.in-Some.is in
    wrong_name c.args.text.now c.loop-name.names c.loop-name.count c.in-Some.name.now i.0 t.rest i.2 t.is (λ few some once.
    elim c.then-count-eq-MOST_NAMES.branch [
      | then-count-eq-MOST_NAMES-via-then-count-eq-MOST_NAMES w ↦
          too_many c.args.text.now c.loop-name.names c.loop-name.count c.in-Some.name.now i.0 t.rest i.2 t.is w.if-count-eq-MOST_NAMES.true few
      | then-count-eq-MOST_NAMES-via-else-count-eq-MOST_NAMES+then-is_empty w ↦
          too_short c.args.text.now c.loop-name.names c.loop-name.count c.in-Some.name.now i.0 t.rest i.2 t.is (sym w.is_empty.ensures ∙ w.if-is_empty.true) some
      | then-count-eq-MOST_NAMES-via-else-count-eq-MOST_NAMES+else-is_empty+then-is_among w ↦
          stands_twice c.args.text.now c.loop-name.names c.loop-name.count c.in-Some.name.now i.0 t.rest i.2 t.is (sym w.is_among.ensures ∙ w.if-is_among.true) once
    ])

pub offset_bounds-names-count : goal.offset_bounds-names-count
offset_bounds-names-count c = let few = c.loop-name.invariant.2.few in omega (arith, few)

pub bounds-names-count : goal.bounds-names-count
bounds-names-count c = let few = c.loop-name.invariant.2.few in omega (arith, few, c.if-count-eq-MOST_NAMES.false)

pub overflow_add-count : goal.overflow_add-count
overflow_add-count c = let few = c.loop-name.invariant.2.few in omega (arith, few)

pub loop-name-preserved : goal.loop-name-preserved
loop-name-preserved c =
    let i = c.loop-name.invariant in
    let t = turned c.loop-name.name-iterator c.next.new.self c.next.result c.in-Some.name i.0 i.1 c.next.ensures.steps c.in-Some.is in (
      t.rest,
      t.yields,
      one_tried c.args.text.now c.loop-name.names c.loop-name.count c.in-Some.name i.0 t.rest i.2 t.is c.if-count-eq-MOST_NAMES.false
          (sym c.is_empty.ensures ∙ c.if-is_empty.false) (sym c.is_among.ensures ∙ c.if-is_among.false),
    )

pub returns : goal.returns
returns c =
    let i = c.loop-name.invariant in
    let none = ended c.loop-name.name-iterator c.next.new.self c.next.result i.0 i.1 c.next.ensures.steps c.in-None.is in
    all_tried c.args.text.now c.loop-name.names c.loop-name.count i.0 i.2 none
