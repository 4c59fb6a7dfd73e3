use Rattle.std.proofs.Common.{◌≢◌, List, sym, subst}
use Rattle.std.specs.List.{AllPairs}
use Rattle.recognizer_model.specs.declared.Item.{Item}
use Rattle.recognizer_model.specs.Counts.{IsListOf}
use Rattle.leo_items.specs.Hidden.{IsBelowOf}
use Rattle.leo_items.proofs.Walking.{walked_none, walked_all}
use Rattle.leo_items.proofs.below.list_below.Goals as goal

pub add_first_steps-requires-clause-walked : goal.add_first_steps-requires-clause-walked
add_first_steps-requires-clause-walked c =
    walked_none c.args.flat.now c.args.rows.now.sets c.requires.rows.are c.args.earleme c.args.tops.now c.args.bottoms.now c.requires.bottoms c.requires.tops c.new-below.result c.new-below.ensures

pub returns : goal.returns
returns c =
    subst (λ (l : List Item). IsListOf (IsBelowOf c.args.flat.now c.args.rows.now.sets c.args.earleme c.args.tops.now) l) (sym c.into_items.ensures.items)
    (walked_all c.args.flat.now c.args.rows.now.sets c.requires.rows.are c.args.earleme c.args.tops.now c.args.bottoms.now c.requires.bottoms c.requires.tops c.add_later_steps.new.below c.in_ok-add_later_steps.ensures
    (subst (λ (l : List Item). AllPairs (λ x y. x ≢ y) l) c.into_items.ensures.items c.into_items.ensures.once))
