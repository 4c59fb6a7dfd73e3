-- Leo items by rows, where the rows before a place are the reduced sets.
use Rattle.std.proofs.Common.{◌≡◌, ℕ, ◌<◌, List, Some, Contains, arith}
use Rattle.grammar_model.specs.declared.Edge.{Edge as HeldEdge}
use Rattle.grammar_model.specs.Derives.{Held}
use Rattle.recognizer_model.specs.declared.Item.{Item}
use Rattle.recognizer_model.specs.Flat.{FlatGrammar, lhs_of}
use Rattle.recognizer_model.specs.FlatForm.{FlatEdges}
use Rattle.recognizer_model.specs.Items.{after, InSet}
use Rattle.recognizer_model.specs.Contexts.{IsTop}
use Rattle.recognizer_model.specs.Leo.{IsLeo, IsNotLeo, LeadsTo, GoesForward, LeoIsKnown, KeepsWaiting}
use Rattle.recognizer_model.proofs.Leo.{origin_below, reduced_inside, keeps_waiting}
use Rattle.recognizer_model.proofs.Once.{known_by_reduced}
use Rattle.item_rows.specs.Rows.{row_at}
use Rattle.leo_items.specs.ByRows.{IsLeoIn, IsNotLeoIn, LeadsIn}
use Rattle.earley_sets.specs.Scanning.{GoForward, AreReduced}

module _ (g : FlatGrammar) (edges : List HeldEdge) (top : ℕ) (is_top : IsTop g top) (forward : GoForward edges) where
  pub goes_forward : GoesForward (FlatEdges g (Held edges))
  goes_forward x p q (t, is, h) = forward (record { symbol = t; from = p; to = q }) h

  module _ (rows : List (List Item)) (earleme : ℕ) (are : AreReduced g edges top rows earleme) where
    pub known : LeoIsKnown g (FlatEdges g (Held edges)) top earleme
    known = known_by_reduced g (FlatEdges g (Held edges)) top is_top goes_forward earleme (λ i lt. (row_at rows i, are i lt))

    kept_waiting : (i : ℕ) → i < earleme → KeepsWaiting g (FlatEdges g (Held edges)) top i
    kept_waiting i lt = keeps_waiting g (FlatEdges g (Held edges)) top is_top goes_forward i (λ k x l. known k x (omega arith))

    in_row : (i x : ℕ) (item : Item) → i < earleme → after g item ≡ Some x → InSet g (FlatEdges g (Held edges)) top i item → Contains (row_at rows i) item
    in_row i x item lt e s = (are i lt item).1 ((kept_waiting i lt item x e).1 s)

    in_set : (i : ℕ) (item : Item) → i < earleme → Contains (row_at rows i) item → InSet g (FlatEdges g (Held edges)) top i item
    in_set i item lt c = reduced_inside g (FlatEdges g (Held edges)) top is_top goes_forward ((are i lt item).0 c)

    pub to_leo : (i x : ℕ) (item : Item) → i < earleme → IsLeoIn g rows i x item → IsLeo g (FlatEdges g (Held edges)) top i x item
    to_leo i x item lt leo = record { inside = in_set i item lt leo.there; waits = leo.waits; last = leo.last; only = λ o s e. leo.only o (in_row i x o lt e s) e }

    pub from_leo : (i x : ℕ) (item : Item) → i < earleme → IsLeo g (FlatEdges g (Held edges)) top i x item → IsLeoIn g rows i x item
    from_leo i x item lt leo = record { there = in_row i x item lt leo.waits leo.inside; waits = leo.waits; last = leo.last; only = λ o c e. leo.only o (in_set i o lt c) e }

    pub to_none : (i x : ℕ) → i < earleme → IsNotLeoIn g rows i x → IsNotLeo g (FlatEdges g (Held edges)) top i x
    to_none i x lt none item leo = none item (from_leo i x item lt leo)

    pub from_none : (i x : ℕ) → i < earleme → IsNotLeo g (FlatEdges g (Held edges)) top i x → IsNotLeoIn g rows i x
    from_none i x lt none item leo = none item (to_leo i x item lt leo)

    pub to_leads : {i x : ℕ} {t : Item} → i < earleme → LeadsIn g rows i x t → LeadsTo g (FlatEdges g (Held edges)) top i x t
    to_leads {i = i} {x = x} lt (LeadsIn.Last {item = item} leo none) =
        let up = to_leo i x item lt leo in
        let le = origin_below g (FlatEdges g (Held edges)) top is_top goes_forward up.inside in
        LeadsTo.Last up (to_none item.origin (lhs_of g item.rule) (omega arith) none)
    to_leads {i = i} {x = x} lt (LeadsIn.On {item = item} leo more) =
        let up = to_leo i x item lt leo in
        let le = origin_below g (FlatEdges g (Held edges)) top is_top goes_forward up.inside in
        LeadsTo.On up (to_leads (omega arith) more)

    pub from_leads : {i x : ℕ} {t : Item} → i < earleme → LeadsTo g (FlatEdges g (Held edges)) top i x t → LeadsIn g rows i x t
    from_leads {i = i} {x = x} lt (LeadsTo.Last {item = item} leo none) =
        let le = origin_below g (FlatEdges g (Held edges)) top is_top goes_forward leo.inside in
        LeadsIn.Last (from_leo i x item lt leo) (from_none item.origin (lhs_of g item.rule) (omega arith) none)
    from_leads {i = i} {x = x} lt (LeadsTo.On {item = item} leo more) =
        let le = origin_below g (FlatEdges g (Held edges)) top is_top goes_forward leo.inside in
        LeadsIn.On (from_leo i x item lt leo) (from_leads (omega arith) more)
