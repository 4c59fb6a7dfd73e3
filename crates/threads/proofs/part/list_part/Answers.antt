use Rattle.std.proofs.Common.{◌≡◌, ◌↔◌, ◌⊎◌, inl, inr, ℕ, Some, List, [], Contains, sym, subst}
use Rattle.std.proofs.lemmas.List.Elements.{Contains-push}
use Rattle.finite_sets.proofs.Lists.{Contains-none}
use Rattle.recognizer_model.specs.declared.thread.Thread.{Thread}
use Rattle.recognizer_model.specs.Threads.{next}
use Rattle.threads.proofs.Parts.{is_part}
use Rattle.threads.proofs.part.list_part.Goals as goal

pub list_all_waiting-requires-clause-order : goal.list_all_waiting-requires-clause-order
list_all_waiting-requires-clause-order c = c.requires.order.order

pub list_all_waiting-requires-clause-empty : goal.list_all_waiting-requires-clause-empty
list_all_waiting-requires-clause-empty c = c.new-part.ensures.items

pub returns-clause-inside : goal.returns-clause-inside
returns-clause-inside c =
    let goals = c.close_goals.new.goals.items in
    let part = c.sort.new.part.items in
    let listed : (th : Thread) → Contains c.list_all_waiting.new.part.items th ↔ (Contains c.args.ordered.now th × ((x : ℕ) × (next c.args.flat.now th ≡ Some x) × Contains goals x)) =
    subst (λ (gs : List ℕ). (th : Thread) → Contains c.list_all_waiting.new.part.items th ↔ (Contains c.args.ordered.now th × ((x : ℕ) × (next c.args.flat.now th ≡ Some x) × Contains gs x))) c.deref.ensures.value c.in_ok-list_all_waiting.ensures in
    let exact : (th : Thread) → Contains part th ↔ (Contains [] th ⊎ (Contains c.args.row.now th × ((x : ℕ) × (next c.args.flat.now th ≡ Some x) × Contains goals x))) =
    λ th. (
      λ h. (let (there, w) = (listed th).0 ((c.sort.ensures th).0 h) in inr ((c.requires.order.same th).0 there, w)),
      λ s. elim s [ inl n ↦ absurd (Contains-none th n) | inr (there, w) ↦ (c.sort.ensures th).1 ((listed th).1 ((c.requires.order.same th).1 there, w)) ],
    ) in
    λ th h. elim ((exact th).0 h) [ inl n ↦ absurd (Contains-none th n) | inr (i, w) ↦ i ]

pub returns-clause-part : goal.returns-clause-part
returns-clause-part c =
    let goals = c.close_goals.new.goals.items in
    let part = c.sort.new.part.items in
    let listed : (th : Thread) → Contains c.list_all_waiting.new.part.items th ↔ (Contains c.args.ordered.now th × ((x : ℕ) × (next c.args.flat.now th ≡ Some x) × Contains goals x)) =
    subst (λ (gs : List ℕ). (th : Thread) → Contains c.list_all_waiting.new.part.items th ↔ (Contains c.args.ordered.now th × ((x : ℕ) × (next c.args.flat.now th ≡ Some x) × Contains gs x))) c.deref.ensures.value c.in_ok-list_all_waiting.ensures in
    let exact : (th : Thread) → Contains part th ↔ (Contains [] th ⊎ (Contains c.args.row.now th × ((x : ℕ) × (next c.args.flat.now th ≡ Some x) × Contains goals x))) =
    λ th. (
      λ h. (let (there, w) = (listed th).0 ((c.sort.ensures th).0 h) in inr ((c.requires.order.same th).0 there, w)),
      λ s. elim s [ inl n ↦ absurd (Contains-none th n) | inr (there, w) ↦ (c.sort.ensures th).1 ((listed th).1 ((c.requires.order.same th).1 there, w)) ],
    ) in
    is_part c.args.flat.now c.args.row.now part goals c.args.symbol
    (c.in_ok-close_goals.ensures.kept c.args.symbol (subst (λ (l : List ℕ). Contains l c.args.symbol) (sym c.in_ok-goals.ensures.items) (Contains-push [] c.args.symbol)))
    c.in_ok-close_goals.ensures.lefts exact
