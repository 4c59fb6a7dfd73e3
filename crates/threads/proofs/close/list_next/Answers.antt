use Rattle.std.proofs.Common.{◌≡◌, ◌↔◌, ◌⊎◌, List, Contains, sym, subst}
use Rattle.std.proofs.lemmas.Result.{on_ok_weaker}
use Rattle.recognizer_model.specs.declared.thread.Thread.{Thread}
use Rattle.recognizer_model.specs.Flat.{IsNullable}
use Rattle.recognizer_model.specs.Threads.{step}
use Rattle.threads.specs.Closing.{IsBegun, AreCompleted}
use Rattle.threads.proofs.Closing.{begun_followed, completed_followed, nothing_followed}
use Rattle.threads.proofs.close.list_next.Goals as goal

pub next_symbol-requires : goal.next_symbol-requires
next_symbol-requires c = c.requires.thread.is_rule

pub returns-in-Some : goal.returns-in-Some
returns-in-Some c =
    let g = c.args.flat.now in
    let th = c.args.thread in
    let new = c.list_begun.new.next.items in
    on_ok_weaker c.list_begun.result
    (λ h. begun_followed g c.args.parts.now th c.requires.thread c.in-Some.x (sym c.in-Some.ensures.value) new
    (subst (λ (l : List Thread). (other : Thread) → Contains new other ↔ ((Contains l other ⊎ IsBegun g c.in-Some.x other) ⊎ (IsNullable g c.in-Some.x × (other ≡ step th th.label)))) c.clear.ensures.items h))
    c.list_begun.ensures

pub list_completed-requires-clause-label : goal.list_completed-requires-clause-label
list_completed-requires-clause-label c = c.requires.thread.known c.in-Some-label.label c.in-Some-label.is

pub list-requires : goal.list-requires
list-requires c = c.requires.thread.known c.in-Some-label.label c.in-Some-label.is

pub returns-in-Some-label : goal.returns-in-Some-label
returns-in-Some-label c =
    let g = c.args.flat.now in
    let new = c.list_completed.new.next.items in
    on_ok_weaker c.list_completed.result
    (λ h. completed_followed g c.args.parts.now c.args.thread c.requires.thread (sym c.in-None.ensures.value) c.in-Some-label.label c.in-Some-label.is new
    (subst (λ (l : List Thread). AreCompleted g c.args.parts.now c.in-Some-label.label l new) c.clear.ensures.items h))
    c.list_completed.ensures

pub returns-in-None-label : goal.returns-in-None-label
returns-in-None-label c = nothing_followed c.args.flat.now c.args.parts.now c.args.thread c.requires.thread (sym c.in-None.ensures.value) c.in-None-label.is c.clear.new.self.items c.clear.ensures.items
