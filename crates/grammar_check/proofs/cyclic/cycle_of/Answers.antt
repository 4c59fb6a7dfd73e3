use Rattle.std.proofs.Common.{◌≡◌, ℕ, ◌<◌, List, All, Option, Some, subst, sym, refl, length, slice_index}
use Rattle.std.specs.Option.{IfSome, IsNone}
use Rattle.std.specs.declared.vec.Vec.{Vec}
use Rattle.std.specs.declared.alloc.Global.{Global}
use Rattle.grammar_check.specs.Links.{AreRows, AreFloors, IsLeastPath}
use Rattle.grammar_check.specs.Settled.{NoneBelow, Rises}
use Rattle.grammar_check.specs.Told.{AreSlotsAt}
use Rattle.grammar_check.proofs.SlotCycles.{floors_are, rows_are, path_known, cycle_told, slots_of_grammar, heights}
use Rattle.grammar_check.proofs.cyclic.cycle_of.Goals as goal

pub least_cycle-requires-clause-rows : goal.least_cycle-requires-clause-rows
least_cycle-requires-clause-rows c =
    subst (λ n. AreRows n c.in_ok-rows.rows) (sym c.in_ok-rows.ensures.length)
    (rows_are c.args.w.now c.known.ensures c.args.slots.now.bases.now c.requires.numbering c.in_ok-floors.floors.items c.in_ok-floors.ensures c.in_ok-rows.rows c.in_ok-rows.ensures.links)

pub least_cycle-requires-clause-floors : goal.least_cycle-requires-clause-floors
least_cycle-requires-clause-floors c = subst AreFloors (sym c.deref.ensures.value) (floors_are c.args.w.now c.known.ensures c.args.slots.now.bases.now c.requires.numbering c.in_ok-floors.floors.items c.in_ok-floors.ensures)

pub returns-in_default-clause-none : goal.returns-in_default-clause-none
returns-in_default-clause-none c = λ _.
    let none = subst (λ (r : Option (Vec ℕ Global)). IsNone r → Rises c.in_ok-rows.rows c.deref.result.now) c.in_default.is c.in_ok-path.ensures.none refl in
    let r = subst (Rises c.in_ok-rows.rows) c.deref.ensures.value none in
    heights c.args.w.now c.known.ensures c.args.slots.now.bases.now c.requires.numbering c.in_ok-floors.floors.items c.in_ok-floors.ensures c.in_ok-rows.rows c.in_ok-rows.ensures.links
    c.args.slots.now.productive.now c.requires.productive.exact c.in_ok-rows.ensures.length r

abbrev Least : List (List ℕ) → List ℕ → List ℕ → Type 0
Least rows floors path = (to : ℕ) × (n : ℕ) × IsLeastPath rows floors to n path × NoneBelow rows floors to

least : (rows : List (List ℕ)) (deref floors : List ℕ) (r : Option (Vec ℕ Global)) (path : Vec ℕ Global) → deref ≡ floors → r ≡ Some path → IfSome r (λ path. Least rows deref path.items) → Least rows floors path.items
least rows deref floors r path ef ep h =
    let at = subst (λ (r : Option (Vec ℕ Global)). IfSome r (λ path. Least rows deref path.items)) ep h in
    subst (λ floors. Least rows floors path.items) ef at

pub slots_at-requires-clause-known : goal.slots_at-requires-clause-known
slots_at-requires-clause-known c =
    let (to, n, p, below) = least c.in_ok-rows.rows c.deref.result.now c.in_ok-floors.floors.items c.in_ok-path.field-0 c.in-Some.path c.deref.ensures.value c.in-Some.is c.in_ok-path.ensures.some in
    subst (λ l. All (λ x. x < slice_index c.args.slots.now.bases.now (length c.args.w.now.names)) l) (sym c.deref-2.ensures.value)
    (path_known c.args.w.now c.known.ensures c.args.slots.now.bases.now c.requires.numbering c.in_ok-floors.floors.items c.in_ok-floors.ensures c.in_ok-rows.rows c.in_ok-rows.ensures.links to n c.in-Some.path.items p)

pub returns-clause-some : goal.returns-clause-some
returns-clause-some c =
    let (to, n, p, below) = least c.in_ok-rows.rows c.deref.result.now c.in_ok-floors.floors.items c.in_ok-path.field-0 c.in-Some.path c.deref.ensures.value c.in-Some.is c.in_ok-path.ensures.some in
    cycle_told c.args.w.now c.known.ensures c.args.slots.now.bases.now c.requires.numbering c.in_ok-floors.floors.items c.in_ok-floors.ensures c.in_ok-rows.rows c.in_ok-rows.ensures.links to n c.in-Some.path.items c.in_ok-cycle.cycle.items p below
    (subst (λ l. AreSlotsAt c.args.w.now c.args.slots.now.bases.now l c.in_ok-cycle.cycle.items) c.deref-2.ensures.value c.in_ok-cycle.ensures)

pub returns-clause-known : goal.returns-clause-known
returns-clause-known c =
    let told = subst (λ l. AreSlotsAt c.args.w.now c.args.slots.now.bases.now l c.in_ok-cycle.cycle.items) c.deref-2.ensures.value c.in_ok-cycle.ensures in
    slots_of_grammar c.args.w.now c.args.slots.now.bases.now c.in-Some.path.items c.in_ok-cycle.cycle.items told
