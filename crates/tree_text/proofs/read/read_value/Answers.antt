use Rattle.std.proofs.Common.{◌+◌, ◌-◌, ◌≡◌, length, map, subst, arith, rules, refl, ap}
use Rattle.std.proofs.lemmas.Result.{err_from_is_err_and}
use Rattle.tree_text.specs.Parts.{part_of}
use Rattle.tree_text.specs.Prefixes.{IsPrefixOf}
use Rattle.tree_text.specs.declared.part.Part.TheVariants.{Open as OpenCode, Close as CloseCode}
use Rattle.tree_text.proofs.Reading.{begin, to_value, open_step, end_step, end_depth, comma_step, part_step, no_value, no_after, done, at_place, pushed, is_empty, not_empty, ends_at}
use Rattle.tree_text.proofs.Prefixes.{prefix_shorter}
use Rattle.tree_text.proofs.read.read_value.Goals as goal
use Rattle.tree_text.proofs.read.read_value.Goals.{else-depth-eq0-via-then-depth-eq0+else-is_empty, else-depth-eq0-via-else-depth-eq0}

pub loop-left-init : goal.loop-left-init
loop-left-init c = record { utf8 = c.utf8.text; reading = begin _ _ (ap (map part_of) c.new-parts.ensures.items); room = omega arith }

pub loop-left-preserved-in-Some : goal.loop-left-preserved-in-Some
loop-left-preserved-in-Some c =
    let some = end_depth c.loop-left.place c.loop-left.depth c.in-Some.ensures.0 in
    let more : c.loop-left.depth ≡ (c.loop-left.depth - 1) + 1 = omega (arith, some) in
    record {
      utf8 = search rules;
      reading =
          at_place _ _ _ _ _ _ _ refl (pushed c.loop-left.parts.items c.push.new.self.items CloseCode c.in_ok-push.ensures.items)
          (end_step _ c.loop-left.place c.loop-left.depth (c.loop-left.depth - 1) _ _ c.in-Some.left.now more c.in-Some.ensures.0 c.loop-left.invariant.reading c.in-Some.ensures.1);
      room = omega (arith, some, ap length c.in-Some.ensures.1);
    }

pub returns-then-is_empty-clause-ok : goal.returns-then-is_empty-clause-ok
returns-then-is_empty-clause-ok c =
    done _ _ _ c.loop-left.rest.now (at_place _ _ _ _ _ _ _ c.in-After.is refl c.loop-left.invariant.reading) c.if-depth-eq0.true (is_empty _ c.if-is_empty.ensures)

pub returns-in-None-clause-err : goal.returns-in-None-clause-err
returns-in-None-clause-err c =
    no_after _ c.loop-left.depth _ c.loop-left.rest.now (at_place _ _ _ _ _ _ _ c.in-After.is refl c.loop-left.invariant.reading)
    (elim c.else-depth-eq0.branch [
      | else-depth-eq0-via-then-depth-eq0+else-is_empty w ↦ λ none. not_empty _ w.if-is_empty.ensures
      | else-depth-eq0-via-else-depth-eq0 w ↦ λ none. absurd (w.if-depth-eq0.false none)
    ])
    (λ some. c.in_default.ensures (ends_at c.loop-left.place c.loop-left.depth c.in-After.is some)) c.in-None.ensures

pub loop-left-preserved-in-After : goal.loop-left-preserved-in-After
loop-left-preserved-in-After c = record {
  utf8 = search rules;
  reading =
      comma_step _ _ _ c.loop-left.rest.now c.in-Some-behind_comma.left.now c.in-Some-behind_comma.ensures.0 (at_place _ _ _ _ _ _ _ c.in-After.is refl c.loop-left.invariant.reading)
      c.in-Some-behind_comma.ensures.1;
  room = omega (arith, ap length c.in-Some-behind_comma.ensures.1);
}

pub returns-in_err-part : goal.returns-in_err-part
returns-in_err-part c =
    let p = err_from_is_err_and c.from_residual-in_err-part.result c.from_residual-in_err-part.ensures.1 in
    rw (p.1, p.2)
    (record {
      ok = tt;
      err = no_value _ _ _ c.loop-left.rest.now _ (to_value _ c.loop-left.place _ _ _ c.loop-left.invariant.reading c.in_default-place.not-After c.in_default.ensures) c.in_err-part.ensures.err;
    })

pub loop-left-preserved-in-Open : goal.loop-left-preserved-in-Open
loop-left-preserved-in-Open c = record {
  utf8 = search rules;
  reading =
      at_place _ _ _ _ _ _ _ refl (pushed c.loop-left.parts.items c.push-in-Open.new.self.items OpenCode c.in_ok-push-2.ensures.items)
      (open_step _ c.loop-left.depth (c.loop-left.depth + 1) _ c.loop-left.rest.now c.in_ok-part.left.now refl
      (to_value _ c.loop-left.place _ _ _ c.loop-left.invariant.reading c.in_default-place.not-After c.in_default.ensures)
      (subst (λ p. IsPrefixOf c.loop-left.rest.now (part_of p) c.in_ok-part.left.now) c.in-Open.is c.in_ok-part.ensures.ok));
  room = omega (arith, prefix_shorter _ _ _ c.in_ok-part.ensures.ok);
}

pub loop-left-smaller : goal.loop-left-smaller
loop-left-smaller c = prefix_shorter _ _ _ c.in_ok-part.ensures.ok

pub loop-left-preserved : goal.loop-left-preserved
loop-left-preserved c = record {
  utf8 = search rules;
  reading =
      at_place _ _ _ _ _ _ _ refl (pushed c.loop-left.parts.items c.push-in-loop-left.new.self.items c.in_ok-part.part c.in_ok-push-3.ensures.items)
      (part_step _ _ _ c.loop-left.rest.now c.in_ok-part.left.now c.in_ok-part.part c.in_default-part.not-Open
      (to_value _ c.loop-left.place _ _ _ c.loop-left.invariant.reading c.in_default-place.not-After c.in_default.ensures)
      c.in_ok-part.ensures.ok);
  room = omega (arith, prefix_shorter _ _ _ c.in_ok-part.ensures.ok);
}
