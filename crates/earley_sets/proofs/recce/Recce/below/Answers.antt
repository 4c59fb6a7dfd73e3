use Rattle.std.proofs.Common.{◌≤◌, ◌↔◌, sym, subst, Contains}
use Rattle.recognizer_model.specs.declared.Item.{Item}
use Rattle.recognizer_model.specs.Counts.{IsListOf}
use Rattle.earley_sets.specs.Below.{IsBottom, IsBottomOf, StandsBelowOf}
use Rattle.earley_sets.specs.Recognizer.{Recognizer, earleme_of}
use Rattle.earley_sets.proofs.Below.{bottom_there, bottoms_there, lists_below}
use Rattle.earley_sets.proofs.recce.Recce.below.Goals as goal

pub list_below-requires-clause-bottoms : goal.list_below-requires-clause-bottoms
list_below-requires-clause-bottoms g c =
    bottoms_there c.self.inside.flat.now c.self.inside.start c.self.inside.edges c.self.inside.rows.sets c.self.inside.top c.self.inside.memo c.self.invariant.0 c.args.j
    (subst (λ (r : Recognizer). c.args.j ≤ earleme_of r) (sym c.self.view_is) c.requires.place) c.args.tops.now c.args.bottoms.now
    (subst (λ (r : Recognizer). (item : Item) → Contains c.args.bottoms.now item ↔ IsBottomOf r c.args.j c.args.tops.now item) (sym c.self.view_is) c.requires.bottoms)

pub list_below-requires-clause-tops : goal.list_below-requires-clause-tops
list_below-requires-clause-tops g c t h =
    let (item, is) = c.requires.tops t h in (
      item,
      bottom_there c.self.inside.flat.now c.self.inside.start c.self.inside.edges c.self.inside.rows.sets c.self.inside.top c.self.inside.memo c.self.invariant.0 c.args.j
          (subst (λ (r : Recognizer). c.args.j ≤ earleme_of r) (sym c.self.view_is) c.requires.place) t item (subst (λ (r : Recognizer). IsBottom r c.args.j t item) (sym c.self.view_is) is),
    )

pub returns-clause-below : goal.returns-clause-below
returns-clause-below g c =
    subst (λ (r : Recognizer). IsListOf (StandsBelowOf r c.args.j c.args.tops.now) c.in_ok-below.below.items) c.self.view_is
    (lists_below c.self.inside.flat.now c.self.inside.start c.self.inside.edges c.self.inside.rows.sets c.self.inside.top c.self.inside.memo c.self.invariant.0 c.args.j
    (subst (λ (r : Recognizer). c.args.j ≤ earleme_of r) (sym c.self.view_is) c.requires.place) c.args.tops.now c.in_ok-below.below.items c.in_ok-below.ensures)
