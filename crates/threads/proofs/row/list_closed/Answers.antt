use Rattle.std.proofs.Common.{inl, inr, List, Contains, subst}
use Rattle.finite_sets.proofs.Clauses.{on_ok}
use Rattle.finite_sets.proofs.Lists.{Contains-none}
use Rattle.recognizer_model.specs.declared.thread.Thread.{Thread}
use Rattle.threads.specs.Steps.{Keeps}
use Rattle.threads.proofs.Closing.{closed_from}
use Rattle.threads.proofs.row.list_closed.Goals as goal

pub close-requires-clause-set : goal.close-requires-clause-set
close-requires-clause-set c = λ th h. elim ((c.in_ok-add_threads.ensures.has th).0 h) [
  | inl n ↦ absurd (Contains-none th (subst (λ (l : List Thread). Contains l th) c.requires.empty n))
  | inr s ↦ c.requires.seeds th s
]

pub list_kept-requires : goal.list_kept-requires
list_kept-requires c = λ th h. (c.in_ok-close.ensures.threads th (subst (λ (l : List Thread). Contains l th) c.as_slice.ensures.keys h)).is_rule

pub returns-clause-threads : goal.returns-clause-threads
returns-clause-threads c = on_ok c.sort.result (λ th h.
    c.in_ok-close.ensures.threads th (subst (λ (l : List Thread). Contains l th) c.as_slice.ensures.keys ((c.in_ok-list_kept.ensures th).0 ((c.sort.ensures th).0 h)).0))

pub returns-clause-closed : goal.returns-clause-closed
returns-clause-closed c = on_ok c.sort.result (
  c.close.new.set.keys,
  closed_from c.args.flat.now c.args.parts.now c.add_threads.new.set.keys c.args.seeds.now c.close.new.set.keys
      (λ th h. elim ((c.in_ok-add_threads.ensures.has th).0 h) [
        | inl n ↦ absurd (Contains-none th (subst (λ (l : List Thread). Contains l th) c.requires.empty n))
        | inr s ↦ s
      ]) c.in_ok-close.ensures.closed,
  λ th h. c.in_ok-close.ensures.begins th ((c.in_ok-add_threads.ensures.has th).1 (inr h)),
  subst (λ (l : List Thread). Keeps c.args.flat.now l c.sort.new.row.items) c.as_slice.ensures.keys
      (λ th. ((λ h. (c.in_ok-list_kept.ensures th).0 ((c.sort.ensures th).0 h)), (λ h. (c.sort.ensures th).1 ((c.in_ok-list_kept.ensures th).1 h)))),
)
