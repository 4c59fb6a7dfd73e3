use Rattle.std.proofs.Common.{List, ℕ, sym, subst, ◌∙◌, ap, map, All}
use Rattle.finite_sets.proofs.Clauses.{at_some}
use Rattle.grammar_model.specs.Grammar.{Grammar}
use Rattle.grammar_model.specs.Cycles.{IsLeastCycle, HasHeights}
use Rattle.grammar_core.specs.Written.{IsWritten}
use Rattle.slot_analysis.specs.Packed.{packed}
use Rattle.grammar_check.specs.Told.{slots_with, unpacked_pair, IsPlaced}
use Rattle.grammar_check.specs.Message.{AreOf}
use Rattle.grammar_check.proofs.Clearing.{none_told}
use Rattle.grammar_check.proofs.Around.{has_heights, all_placed, least_unpacked, known_unpacked}
use Rattle.grammar_check.proofs.cyclic.least_cycle_of.Goals as goal

pub returns-in_default-clause-none : goal.returns-in_default-clause-none
returns-in_default-clause-none c _ =
    let e = c.written-written.ensures in
    let high = none_told c.in_ok-cycle.field-0 (HasHeights (packed c.slots-slots.result.levels.now c.written-written.result.now)) c.in_default.is c.in_ok-cycle.ensures.none in
    has_heights c.args.analysis.now c.slots-slots.result.levels.now (subst IsWritten e c.known.ensures) c.slots-slots.ensures.levels
    (subst (λ (g : Grammar). HasHeights (packed c.slots-slots.result.levels.now g)) e high)

pub unpacked-requires : goal.unpacked-requires
unpacked-requires c =
    let e = c.written-written.ensures in
    let least = at_some (λ cycle. IsLeastCycle (packed c.slots-slots.result.levels.now c.written-written.result.now) (slots_with cycle.items)) c.in_ok-cycle.field-0 c.in-Some.cycle c.in-Some.is c.in_ok-cycle.ensures.some in
    subst (λ (l : List (ℕ × ℕ)). All (IsPlaced c.slots-slots.result.levels.now) l) (sym c.deref.ensures.value)
    (all_placed c.args.analysis.now c.slots-slots.result.levels.now (subst IsWritten e c.known.ensures) c.slots-slots.ensures.levels c.in-Some.cycle.items
    (subst (λ (g : Grammar). IsLeastCycle (packed c.slots-slots.result.levels.now g) (slots_with c.in-Some.cycle.items)) e least))

pub returns-clause-some : goal.returns-clause-some
returns-clause-some c =
    let e = c.written-written.ensures in
    let least = at_some (λ cycle. IsLeastCycle (packed c.slots-slots.result.levels.now c.written-written.result.now) (slots_with cycle.items)) c.in_ok-cycle.field-0 c.in-Some.cycle c.in-Some.is c.in_ok-cycle.ensures.some in
    let is = c.in_ok-cycle-2.ensures ∙ ap (λ (l : List (ℕ × ℕ)). map (unpacked_pair c.slots-slots.result.levels.now) l) c.deref.ensures.value in
    subst (λ (l : List (ℕ × ℕ)). IsLeastCycle c.args.analysis.now (slots_with l)) (sym is)
    (least_unpacked c.args.analysis.now c.slots-slots.result.levels.now (subst IsWritten e c.known.ensures) c.slots-slots.ensures.levels c.in-Some.cycle.items
    (subst (λ (g : Grammar). IsLeastCycle (packed c.slots-slots.result.levels.now g) (slots_with c.in-Some.cycle.items)) e least))

pub returns-clause-known : goal.returns-clause-known
returns-clause-known c =
    let e = c.written-written.ensures in
    let known = at_some (λ cycle. AreOf (packed c.slots-slots.result.levels.now c.written-written.result.now) cycle.items) c.in_ok-cycle.field-0 c.in-Some.cycle c.in-Some.is c.in_ok-cycle.ensures.known in
    let is = c.in_ok-cycle-2.ensures ∙ ap (λ (l : List (ℕ × ℕ)). map (unpacked_pair c.slots-slots.result.levels.now) l) c.deref.ensures.value in
    subst (λ (l : List (ℕ × ℕ)). AreOf c.args.analysis.now l) (sym is)
    (known_unpacked c.args.analysis.now c.slots-slots.result.levels.now c.in-Some.cycle.items
    (subst (λ (g : Grammar). AreOf (packed c.slots-slots.result.levels.now g) c.in-Some.cycle.items) e known))
