use Rattle.std.proofs.Common.{◌≡◌, ◌∙◌, sym, ap, length, drop, arith, rules, Some, true, false, codes}
use Rattle.language_model.specs.Description.{is_mark}
use Rattle.dsl_reader.specs.Pieces.{first_is, first_of, is_part}
use Rattle.dsl_reader.proofs.ReadingLemmas.{hidden_next, hidden_closed, hidden_empty, hidden_open}
use Rattle.dsl_reader.proofs.alternatives.read_hidden.Goals as goal
use Rattle.dsl_reader.proofs.alternatives.read_hidden.Goals.{then-count-eq0-via-then-count-eq0, then-count-eq0-via-else-count-eq0+then-not-is_mark}

pub loop-alloc-preserved : goal.loop-alloc-preserved
loop-alloc-preserved c =
    let ts = c.args.piece.now in
    let parts = c.loop-alloc.parts.items in
    let n : c.len.result ≡ length parts = search rules in
    let m : c.len-in-loop-alloc.result ≡ length parts = search rules in
    let is : first_is is_part (drop (length parts) ts) ≡ true = ap (λ k. first_is is_part (drop k ts)) (sym n) ∙ sym c.is_part.ensures ∙ c.loop-alloc-test.true in
    let found : Some c.in-Some.part ≡ first_of (drop (length parts) ts) = sym c.in-Some.is ∙ c.in_ok-part.ensures ∙ ap (λ k. first_of (drop k ts)) m in
    let next = hidden_next ts parts _ c.in-Some.part _ is found c.in_ok-push.ensures.items c.loop-alloc.invariant.read in
    record { within = next.0; read = next.1 }

pub returns-then-count-eq0-clause-read : goal.returns-then-count-eq0-clause-read
returns-then-count-eq0-clause-read c =
    let ts = c.args.piece.now in
    let parts = c.loop-alloc.parts.items in
    let n : c.len.result ≡ length parts = search rules in
    let m : c.len-count.result ≡ length parts = search rules in
    let over : first_is is_part (drop (length parts) ts) ≡ false = ap (λ k. first_is is_part (drop k ts)) (sym n) ∙ sym c.is_part.ensures ∙ c.loop-alloc-test.false in
    elim c.then-count-eq0.branch [
      | then-count-eq0-via-then-count-eq0 w ↦ hidden_empty ts parts _ over (omega (arith, w.if-count-eq0.true)) c.loop-alloc.invariant.read
      | then-count-eq0-via-else-count-eq0+then-not-is_mark w ↦ hidden_open ts parts _ over (ap (λ k. first_is (is_mark (codes ")")) (drop k ts)) (sym m) ∙ sym w.is_mark.ensures ∙ w.if-not-is_mark.true) c.loop-alloc.invariant.read
    ]

pub returns-clause-read : goal.returns-clause-read
returns-clause-read c =
    let ts = c.args.piece.now in
    let parts = c.loop-alloc.parts.items in
    let n : c.len.result ≡ length parts = search rules in
    let m : c.len-count.result ≡ length parts = search rules in
    let over : first_is is_part (drop (length parts) ts) ≡ false = ap (λ k. first_is is_part (drop k ts)) (sym n) ∙ sym c.is_part.ensures ∙ c.loop-alloc-test.false in
    hidden_closed ts parts _ over (omega (arith, m, c.if-count-eq0.false)) (ap (λ k. first_is (is_mark (codes ")")) (drop k ts)) (sym m) ∙ sym c.is_mark.ensures ∙ c.if-not-is_mark.false) c.loop-alloc.invariant.read
