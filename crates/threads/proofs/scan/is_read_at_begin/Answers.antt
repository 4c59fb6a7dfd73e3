use Rattle.std.proofs.Common.{◌≡◌, inl, inr, Some, None, List, Contains, sym, subst, arith}
use Rattle.std.proofs.lemmas.List.Elements.{Contains-get_or}
use Rattle.std.proofs.lemmas.List.{take_all}
use Rattle.finite_sets.proofs.Lists.{Contains-none}
use Rattle.recognizer_model.specs.declared.thread.Thread.{Thread}
use Rattle.recognizer_model.specs.Threads.{next}
use Rattle.threads.proofs.Listing.{contains_next}
use Rattle.threads.proofs.scan.is_read_at_begin.Goals as goal

pub is_read_here-requires : goal.is_read_here-requires
is_read_here-requires c = c.requires _ (Contains-get_or c.args.row.now c.loop-thread.thread-index (record { rule = 0; dot = 0; label = None }) (omega arith))

pub loop-thread-init : goal.loop-thread-init
loop-thread-init c th x h = absurd (Contains-none th h)

pub loop-thread-preserved : goal.loop-thread-preserved
loop-thread-preserved c th x h none e reads =
    elim ((contains_next c.args.row.now c.loop-thread.thread-index (record { rule = 0; dot = 0; label = None }) th c.loop-thread-test.true).0 h) [
      | inl o ↦ c.loop-thread.invariant th x o none e reads
      | inr s ↦
          c.is_read_here.ensures (λ t. (let f = c.if-is_read_here.false in absurd (cc))) x (subst (λ (z : Thread). z.label ≡ None) (sym s) none) (subst (λ (z : Thread). next c.args.flat.now z ≡ Some x) (sym s) e) reads
    ]

pub returns : goal.returns
returns c never th x h =
    c.loop-thread.invariant th x (subst (λ (l : List Thread). Contains l th) (sym (take_all c.loop-thread.thread-index c.args.row.now c.loop-thread-test.false)) h)
