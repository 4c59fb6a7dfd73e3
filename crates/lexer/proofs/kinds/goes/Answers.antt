use Rattle.std.proofs.Common.{◌≡◌, ℕ, Some, None, inl, inr, Contains, sym, subst, refl, arith}
use Rattle.std.proofs.lemmas.List.Elements.{Contains-get_or}
use Rattle.std.proofs.lemmas.List.{take_all}
use Rattle.finite_sets.proofs.Lists.{Contains-none}
use Rattle.recognizer_model.specs.declared.thread.Thread.{Thread}
use Rattle.recognizer_model.specs.Threads.{next}
use Rattle.threads.proofs.Listing.{contains_next}
use Rattle.lexer.proofs.kinds.goes.Goals as goal

pub waits-requires : goal.waits-requires
waits-requires c = c.requires _ (Contains-get_or c.args.row.now c.loop-thread.thread-index (record { rule = 0; dot = 0; label = None }) (omega arith))

pub loop-thread-init : goal.loop-thread-init
loop-thread-init c = λ th h m. Contains-none th h

pub loop-thread-preserved : goal.loop-thread-preserved
loop-thread-preserved c = λ th h m. elim ((contains_next c.args.row.now c.loop-thread.thread-index (record { rule = 0; dot = 0; label = None }) th c.loop-thread-test.true).0 h) [
  | inl o ↦ c.loop-thread.invariant th o m
  | inr s ↦ let t = c.waits.ensures.1 (subst (λ (z : Thread). (x : ℕ) × (next c.args.flat.now z ≡ Some x)) (sym s) m) in let f = c.if-waits.false in absurd (cc)
]

pub returns-then-waits : goal.returns-then-waits
returns-then-waits c = ((λ t. (_, (Contains-get_or c.args.row.now c.loop-thread.thread-index (record { rule = 0; dot = 0; label = None }) c.loop-thread-test.true, c.waits.ensures.0 c.if-waits.true))), (λ h. refl))

pub returns : goal.returns
returns c = ((λ f. absurd (cc)), (λ (th, (h, m)). absurd (c.loop-thread.invariant th (subst (λ l. Contains l th) (sym (take_all c.loop-thread.thread-index c.args.row.now c.loop-thread-test.false)) h) m)))
