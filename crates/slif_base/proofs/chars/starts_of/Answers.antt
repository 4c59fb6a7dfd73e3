use Rattle.std.proofs.Common.{◌≡◌, ◌++◌, ◌∙◌, length, length-append, ap, sym, subst, arith, IsUtf8}
use Rattle.std.specs.Str.{chars}
use Rattle.std.proofs.lemmas.Str.{IsUtf8-past_char, length-encode}
use Rattle.std.specs.Char.{encode_utf8}
use Rattle.std.specs.Str.Iter.{chars_rest}
use Rattle.slif_base.specs.Characters.{starts_from}
use Rattle.slif_base.proofs.Starts.{starts_step, starts_end}
use Rattle.slif_base.proofs.chars.starts_of.Goals as goal

pub loop-c-init : goal.loop-c-init
loop-c-init c =
    let same : chars_rest c.into_iter-c-iterator.result ≡ c.args.text.now = cc in
    record {
      utf8 = subst IsUtf8 (sym same) c.utf8.text;
      place = omega (arith, ap length same);
      starts = ap (λ l. l ++ starts_from 0 (chars (chars_rest c.into_iter-c-iterator.result))) c.new-starts.ensures.items ∙ ap (λ t. starts_from 0 (chars t)) same;
    }

pub overflow_add-at : goal.overflow_add-at
overflow_add-at c =
    let bytes = ap length c.in-Some.ensures.steps.0 in
    omega (arith, c.loop-c.invariant.place, bytes, length-append (encode_utf8 c.in-Some.c) (chars_rest c.next.new.self), c.len_utf8.ensures.len)

pub loop-c-preserved : goal.loop-c-preserved
loop-c-preserved c =
    let parts = c.in-Some.ensures.steps.0 in
    let bytes = ap length parts in
    rw c.len_utf8.ensures.value (record {
      utf8 = IsUtf8-past_char _ _ c.in-Some.c c.loop-c.invariant.utf8 parts;
      place = omega (arith, c.loop-c.invariant.place, bytes, length-append (encode_utf8 c.in-Some.c) (chars_rest c.next.new.self), length-encode c.in-Some.c);
      starts = starts_step _ _ _ _ _ _ _ c.loop-c.invariant.utf8 parts c.in_ok-push.ensures.items c.loop-c.invariant.starts;
    })

pub returns : goal.returns
returns c = starts_end _ _ _ _ _ c.in-None.ensures.steps.0.0 c.in_ok-push-2.ensures.items c.loop-c.invariant.starts
