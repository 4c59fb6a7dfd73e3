use Rattle.std.proofs.Common.{◌≤◌, length, refl, sym, subst}
use Rattle.std.specs.Prelude.{IfSome, IsNone}
use Rattle.std.proofs.lemmas.Option.{IfSome_then}
use Rattle.recognizer_model.specs.declared.Item.{Item}
use Rattle.earley_sets.specs.Below.{StepsTo, LeadsUp}
use Rattle.earley_sets.specs.Recognizer.{Recognizer, earleme_of}
use Rattle.earley_sets.proofs.Below.{up_there, step_there}
use Rattle.earley_sets.proofs.Nulling.{nulled_rows}
use Rattle.earley_sets.proofs.Recognizing.{kept_top, kept_sets}
use Rattle.earley_sets.proofs.recce.Recce.topmost.Goals as goal

pub top_above-requires-clause-nulled : goal.top_above-requires-clause-nulled
top_above-requires-clause-nulled c =
    nulled_rows c.self.inside.flat.now c.self.inside.edges c.self.inside.top (kept_top c.self.inside.flat.now c.self.inside.start c.self.inside.edges c.self.inside.rows.sets c.self.inside.top c.self.inside.memo c.self.invariant.0)
    c.self.invariant.0.is.forward c.self.inside.rows.sets (length c.self.inside.rows.sets)
    (kept_sets c.self.inside.flat.now c.self.inside.start c.self.inside.edges c.self.inside.rows.sets c.self.inside.top c.self.inside.memo c.self.invariant.0) refl

pub returns-clause-some : goal.returns-clause-some
returns-clause-some c =
    subst (λ (r : Recognizer). IfSome c.top_above.result (λ top. LeadsUp r c.args.j c.args.item top)) c.self.view_is
    (IfSome_then c.top_above.result c.top_above.ensures.some (λ top up. (up_there c.self.inside.flat.now c.self.inside.start c.self.inside.edges c.self.inside.rows.sets c.self.inside.top c.self.inside.memo c.self.invariant.0 c.args.j
    (subst (λ (r : Recognizer). c.args.j ≤ earleme_of r) (sym c.self.view_is) c.requires.place) c.args.item top).0 up))

pub returns-clause-none : goal.returns-clause-none
returns-clause-none c =
    subst (λ (r : Recognizer). IsNone c.top_above.result → (other : Item) → ¬ StepsTo r c.args.j c.args.item other) c.self.view_is
    (λ none other up. c.top_above.ensures.none none other ((step_there c.self.inside.flat.now c.self.inside.start c.self.inside.edges c.self.inside.rows.sets c.self.inside.top c.self.inside.memo c.self.invariant.0 c.args.j
    (subst (λ (r : Recognizer). c.args.j ≤ earleme_of r) (sym c.self.view_is) c.requires.place) c.args.item other).1 up))
