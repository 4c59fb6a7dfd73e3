use Rattle.std.proofs.Common.{◌≡◌, ◌∙◌, ◌<◌, ◌↔◌, ◌==◌, Bool, false, true≢false, zero, suc, List, ℕ, Contains, length, map, sym, subst, arith}
use Rattle.std.proofs.lemmas.Bool.{eqb-true}
use Rattle.std.proofs.lemmas.Result.{on_ok_weaker, IfOk-from_err}
use Rattle.recognizer_model.specs.declared.Item.{Item}
use Rattle.forest_parts.specs.Needed.{IsAskedAnew}
use Rattle.forest_parts.specs.declared.chains.Chains.{Chains}
use Rattle.forest_parts.specs.Chains.{EndsAt, AreChained}
use Rattle.bocage.specs.Given.{IsAfterAt}
use Rattle.bocage.specs.Needed.{AreNeeded}
use Rattle.bocage.specs.Walk.{IsUsedIn}
use Rattle.bocage.proofs.Visiting.{chained_more, none_visited}
use Rattle.forest_parts.proofs.Counting.{rises_of, rises_none}
use Rattle.forest_parts.proofs.Tops.{below_hidden}
use Rattle.bocage.proofs.HiddenNodes.{asked_node}
use Rattle.bocage.proofs.Allowed.{below_allowed}
use Rattle.bocage.proofs.Expanding.{given_expanded}
use Rattle.bocage.proofs.Needing.{needed_are}
use Rattle.bocage.proofs.ends.visit_end.Goals.{then-whole, else-whole, else-is_empty-via-then-is_empty+else-not-whole, else-is_empty-via-else-is_empty}
use Rattle.bocage.proofs.Growing.{grows_none}
use Rattle.bocage.proofs.ends.visit_end.Goals as goal

pub returns-then-not-whole-clause-visited : goal.returns-then-not-whole-clause-visited
returns-then-not-whole-clause-visited g c =
    none_visited c.args.w.now c.args.ranking c.args.recce.now c.requires.read c.args.end c.args.first c.args.found.now (map (λ r. r.now) c.args.table.now.items) c.as_slice.result.now c.requires.going
    (eqb-true (length c.as_slice.result.now) 0 (sym c.is_empty.ensures ∙ c.if-is_empty.true)) (λ e. c.if-not-whole.true (e ∙ sym c.place.ensures.place))
    (λ n. subst (λ (l : List ℕ). Contains l n ↔ ((n < c.args.first) × EndsAt c.args.found.now.keys.keys c.args.end n)) (sym c.as_slice.ensures.value) (c.in_ok-list_nodes.ensures.listed n))

pub list_nodes-requires-clause-first : goal.list_nodes-requires-clause-first
list_nodes-requires-clause-first g c = c.requires.going.few

pub least_origin-least-requires : goal.least_origin-least-requires
least_origin-least-requires g c n h =
    let (lt, known) = (c.in_ok-list_nodes.ensures.listed n).0 (subst (λ (l : List ℕ). Contains l n) c.deref.ensures.value h) in
    let few = c.requires.going.few in
    omega arith

pub visit_from-requires-clause-nodes : goal.visit_from-requires-clause-nodes
visit_from-requires-clause-nodes g c = c.in_ok-list_nodes.ensures.listed

pub visit_from-requires-clause-least : goal.visit_from-requires-clause-least
visit_from-requires-clause-least g c n key h at = c.least_origin-least.ensures.nodes n key (subst (λ (l : List ℕ). Contains l n) (sym c.deref.ensures.value) h) at

pub visit_from-requires-clause-whole : goal.visit_from-requires-clause-whole
visit_from-requires-clause-whole g c e =
    let b = c.least_origin-least.ensures.bound in
    elim c.if-whole.branch [
      | then-whole w ↦ let z = w.lowest-is in omega arith
      | else-whole w ↦ absurd (w.if-whole.false (e ∙ sym c.place.ensures.place))
    ]

positive : (b : Bool) (n : ℕ) → b ≡ (n == 0) → b ≡ false → 0 < n
positive b zero e f = absurd (true≢false (sym e ∙ f))
positive b (suc n) e f = omega arith

pub returns-in_err-hidden-clause-counted : goal.returns-in_err-hidden-clause-counted
returns-in_err-hidden-clause-counted g c =
    rises_of (IsAskedAnew c.args.w.now c.args.ranking c.args.recce.now c.args.found.now.keys.keys c.args.given.now c.args.end c.least_origin-least.result) (IsAfterAt c.args.w.now c.args.ranking c.args.recce.now c.args.given.now c.args.end) c.args.steps.now c.list_needed_after.new.steps
    (λ item (h, fresh). (
      (
        given_expanded c.args.w.now c.args.ranking c.args.recce.now c.requires.read c.args.end c.args.first c.args.found.now (map (λ r. r.now) c.args.table.now.items) c.requires.going c.deref.result.now
            (λ n. subst (λ (l : List ℕ). Contains l n ↔ ((n < c.args.first) × EndsAt c.args.found.now.keys.keys c.args.end n)) (sym c.deref.ensures.value) (c.in_ok-list_nodes.ensures.listed n))
            c.if-whole.lowest c.least_origin-least.result c.least_origin-least.ensures.bound c.least_origin-least.ensures.met
            (λ n. (
              elim c.if-whole.branch [ then-whole w ↦ absurd (n (w.if-whole.true ∙ c.place.ensures.place)) | else-whole w ↦ w.lowest-is ],
              elim c.else-is_empty.branch [
                | else-is_empty-via-then-is_empty+else-not-whole w ↦ absurd (n (w.if-not-whole.false ∙ c.place.ensures.place))
                | else-is_empty-via-else-is_empty w ↦ subst (λ (l : List ℕ). 0 < length l) (c.as_slice.ensures.value ∙ sym c.deref.ensures.value) (positive c.is_empty.result (length c.as_slice.result.now) c.is_empty.ensures w.if-is_empty.false)
              ],
            ))
            item (below_hidden c.args.w.now c.args.ranking c.args.recce.now c.requires.read.is c.args.found.now.keys.keys c.args.end c.least_origin-least.result item h),
        (
          asked_node c.args.w.now c.args.recce.now c.requires.read c.args.end c.requires.end c.args.ranking c.args.found.now.keys.keys c.requires.going.used c.least_origin-least.result item h,
          below_allowed c.args.w.now c.args.recce.now c.requires.read c.args.end c.requires.end c.args.ranking c.args.found.now.keys.keys c.requires.going.used c.least_origin-least.result item h,
        ),
      ),
      fresh,
    ))
    c.in_err-hidden.ensures.counted

pub returns-clause-counted : goal.returns-clause-counted
returns-clause-counted g c =
    rises_of (IsAskedAnew c.args.w.now c.args.ranking c.args.recce.now c.args.found.now.keys.keys c.args.given.now c.args.end c.least_origin-least.result) (IsAfterAt c.args.w.now c.args.ranking c.args.recce.now c.args.given.now c.args.end) c.args.steps.now c.list_needed_after.new.steps
    (λ item (h, fresh). (
      (
        given_expanded c.args.w.now c.args.ranking c.args.recce.now c.requires.read c.args.end c.args.first c.args.found.now (map (λ r. r.now) c.args.table.now.items) c.requires.going c.deref.result.now
            (λ n. subst (λ (l : List ℕ). Contains l n ↔ ((n < c.args.first) × EndsAt c.args.found.now.keys.keys c.args.end n)) (sym c.deref.ensures.value) (c.in_ok-list_nodes.ensures.listed n))
            c.if-whole.lowest c.least_origin-least.result c.least_origin-least.ensures.bound c.least_origin-least.ensures.met
            (λ n. (
              elim c.if-whole.branch [ then-whole w ↦ absurd (n (w.if-whole.true ∙ c.place.ensures.place)) | else-whole w ↦ w.lowest-is ],
              elim c.else-is_empty.branch [
                | else-is_empty-via-then-is_empty+else-not-whole w ↦ absurd (n (w.if-not-whole.false ∙ c.place.ensures.place))
                | else-is_empty-via-else-is_empty w ↦ subst (λ (l : List ℕ). 0 < length l) (c.as_slice.ensures.value ∙ sym c.deref.ensures.value) (positive c.is_empty.result (length c.as_slice.result.now) c.is_empty.ensures w.if-is_empty.false)
              ],
            ))
            item (below_hidden c.args.w.now c.args.ranking c.args.recce.now c.requires.read.is c.args.found.now.keys.keys c.args.end c.least_origin-least.result item h),
        (
          asked_node c.args.w.now c.args.recce.now c.requires.read c.args.end c.requires.end c.args.ranking c.args.found.now.keys.keys c.requires.going.used c.least_origin-least.result item h,
          below_allowed c.args.w.now c.args.recce.now c.requires.read c.args.end c.requires.end c.args.ranking c.args.found.now.keys.keys c.requires.going.used c.least_origin-least.result item h,
        ),
      ),
      fresh,
    ))
    c.in_ok-hidden.ensures.counted

pub returns-clause-chained : goal.returns-clause-chained
returns-clause-chained g c =
    on_ok_weaker c.visit_from.result
    (λ grows. chained_more (IsUsedIn c.args.w.now c.args.ranking c.args.recce.now) c.args.found.now.keys.keys c.visit_from.new.found.keys.keys c.visit_from.new.work.chains.heads.items c.visit_from.new.work.chains.below.items grows (subst (λ (s : Chains). AreChained c.args.found.now.keys.keys s.heads.items s.below.items) (sym c.visit_from.ensures.chains) c.in_ok-list_nodes.ensures.chained))
    c.visit_from.ensures.grows

pub returns-in_err-list_nodes-clause-chained : goal.returns-in_err-list_nodes-clause-chained
returns-in_err-list_nodes-clause-chained g c = IfOk-from_err _ _ c.from_residual.ensures.0

pub returns-in_err-hidden-clause-chained : goal.returns-in_err-hidden-clause-chained
returns-in_err-hidden-clause-chained g c = IfOk-from_err _ _ c.from_residual-in_err-hidden.ensures.0

pub returns-in_err-list_nodes-clause-visited : goal.returns-in_err-list_nodes-clause-visited
returns-in_err-list_nodes-clause-visited g c = IfOk-from_err _ _ c.from_residual.ensures.0

pub returns-in_err-hidden-clause-visited : goal.returns-in_err-hidden-clause-visited
returns-in_err-hidden-clause-visited g c = IfOk-from_err _ _ c.from_residual-in_err-hidden.ensures.0

pub returns-in_err-list_nodes-clause-grows : goal.returns-in_err-list_nodes-clause-grows
returns-in_err-list_nodes-clause-grows g c = IfOk-from_err _ _ c.from_residual.ensures.0

pub returns-in_err-hidden-clause-grows : goal.returns-in_err-hidden-clause-grows
returns-in_err-hidden-clause-grows g c = IfOk-from_err _ _ c.from_residual-in_err-hidden.ensures.0

pub returns-then-not-whole-clause-chained : goal.returns-then-not-whole-clause-chained
returns-then-not-whole-clause-chained g c = c.in_ok-list_nodes.ensures.chained

pub returns-then-not-whole-clause-grows : goal.returns-then-not-whole-clause-grows
returns-then-not-whole-clause-grows g c = grows_none (IsUsedIn c.args.w.now c.args.ranking c.args.recce.now) c.args.found.now.keys.keys

pub list_needed_after-requires-clause-is : goal.list_needed_after-requires-clause-is
list_needed_after-requires-clause-is g c = c.requires.read.is

pub list_needed_after-requires-clause-flat : goal.list_needed_after-requires-clause-flat
list_needed_after-requires-clause-flat g c = c.requires.read.flat_of

pub visit_from-requires-clause-hidden : goal.visit_from-requires-clause-hidden
visit_from-requires-clause-hidden g c =
    subst (λ (l : List Item). AreNeeded c.args.w.now c.args.ranking c.args.recce.now c.args.end c.least_origin-least.result l) (sym c.deref-2.ensures.value)
    (needed_are c.args.w.now c.args.ranking c.args.recce.now c.requires.read c.args.end c.args.first c.args.found.now (map (λ r. r.now) c.args.table.now.items) c.requires.going c.list_nodes.new.nodes.items c.in_ok-list_nodes.ensures.listed c.least_origin-least.result
    (λ n key h at. c.least_origin-least.ensures.nodes n key (subst (λ (l : List ℕ). Contains l n) (sym c.deref.ensures.value) h) at)
    (λ e. (let b = c.least_origin-least.ensures.bound in
    elim c.if-whole.branch [
      | then-whole w ↦ let z = w.lowest-is in omega arith
      | else-whole w ↦ absurd (w.if-whole.false (e ∙ sym c.place.ensures.place))
    ]))
    c.requires.end c.in_ok-hidden.hidden.items c.in_ok-hidden.ensures.hidden c.in_ok-hidden.ensures.all)

pub list_needed_after-requires-clause-given : goal.list_needed_after-requires-clause-given
list_needed_after-requires-clause-given g c e h = (c.requires.given e h).below

pub visit_from-requires-clause-read : goal.visit_from-requires-clause-read
visit_from-requires-clause-read g c = c.requires.read

pub visit_from-requires-clause-end : goal.visit_from-requires-clause-end
visit_from-requires-clause-end g c = c.requires.end

pub visit_from-requires-clause-going : goal.visit_from-requires-clause-going
visit_from-requires-clause-going g c = c.requires.going

pub returns-clause-visited : goal.returns-clause-visited
returns-clause-visited g c = c.visit_from.ensures.visited

pub returns-clause-grows : goal.returns-clause-grows
returns-clause-grows g c = c.visit_from.ensures.grows

pub returns-in_err-list_nodes-clause-counted : goal.returns-in_err-list_nodes-clause-counted
returns-in_err-list_nodes-clause-counted g c = rises_none (IsAfterAt c.args.w.now c.args.ranking c.args.recce.now c.args.given.now c.args.end) c.args.steps.now

pub returns-then-not-whole-clause-counted : goal.returns-then-not-whole-clause-counted
returns-then-not-whole-clause-counted g c = rises_none (IsAfterAt c.args.w.now c.args.ranking c.args.recce.now c.args.given.now c.args.end) c.args.steps.now
