use Rattle.std.proofs.Common.{ℕ, List, arith, rules, sym, subst, chars, string_bytes}
use Rattle.std.proofs.lemmas.Str.{IsUtf8-string_bytes}
use Rattle.tree_text.proofs.Escapes.{begins_small, never_small}
use Rattle.tree_text.proofs.Quoted.{Reads, begin, next, no_chars, chars_push, shorter, ended, not_ended}
use Rattle.tree_text.proofs.read.read_quoted.Goals as goal

pub loop-c-init : goal.loop-c-init
loop-c-init c = record { utf8 = c.utf8.text; reads = begin _ _ (no_chars _ c.new-quoted.ensures.bytes) }

pub loop-c-smaller : goal.loop-c-smaller
loop-c-smaller c = shorter _ _ c.in-Some.c c.in-Some.ensures

pub loop-c-preserved : goal.loop-c-preserved
loop-c-preserved c = record {
  utf8 = search rules;
  reads =
      subst (λ (b : List ℕ). Reads c.args.text.now b c.in-Some.left.now)
      (sym (chars_push (string_bytes c.loop-c.quoted) (string_bytes c.push.new.self) c.in-Some.c (IsUtf8-string_bytes c.loop-c.quoted) (IsUtf8-string_bytes c.push.new.self) c.in_ok-push.ensures.bytes))
      (next c.args.text.now (chars (string_bytes c.loop-c.quoted)) c.loop-c.rest.now c.in-Some.left.now c.in-Some.c c.loop-c.invariant.reads c.in-Some.ensures);
}

pub returns-in-Some-behind-clause-ok : goal.returns-in-Some-behind-clause-ok
returns-in-Some-behind-clause-ok c = ended _ _ _ _ c.loop-c.invariant.reads c.in_default.ensures (begins_small _ _ 34 (omega arith) c.in-Some-behind.ensures)

pub returns-clause-err : goal.returns-clause-err
returns-clause-err c = not_ended _ _ _ c.loop-c.invariant.reads c.in_default.ensures (never_small _ 34 (omega arith) c.in-None.ensures)
