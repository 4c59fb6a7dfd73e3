use Rattle.std.proofs.Common.{rules, ◌≡◌, ◌∙◌, ℕ, ℤ, ◌<ℤ◌, T, to_z, of_z, w32, List, length, Contains, sym, ap, subst}
use mir.Val.{SFits}
use Rattle.std.specs.Int.Signed.{lt_z_yes}
use Rattle.std.proofs.lemmas.Int.{to_z-of_z}
use Rattle.grammar_model.specs.declared.Ranking.TheVariants.{High as HighRanks}
use Rattle.recognizer_model.specs.declared.Item.{Item}
use Rattle.recognizer_model.specs.Flat.{FlatGrammar, rhs_of}
use Rattle.recognizer_model.specs.Chosen.{flat_rank}
use Rattle.earley_sets.specs.Recognizer.{set_at}
use Rattle.forest_parts.proofs.outranked.is_higher.Goals as goal

pub returns-then-rank_of : goal.returns-then-rank_of
returns-then-rank_of c =
    let low : c.rank_of.result ≡ flat_rank c.args.w.now HighRanks c.args.recce.now.flat c.args.item.rule = c.rank_of.ensures ∙ ap (λ (g : FlatGrammar). flat_rank c.args.w.now HighRanks g c.args.item.rule) c.flat-flat.ensures in
    let high : c.rank_of-2.result ≡ flat_rank c.args.w.now HighRanks c.args.recce.now.flat c.args.rule = c.rank_of-2.ensures ∙ ap (λ (g : FlatGrammar). flat_rank c.args.w.now HighRanks g c.args.rule) c.flat-flat.ensures in
    let fits : SFits w32 c.rank_of.result = search rules in
    let fits' : SFits w32 c.rank_of-2.result = search rules in
    let higher = subst (λ (x : ℤ). x <ℤ flat_rank c.args.w.now HighRanks c.args.recce.now.flat c.args.rule) (to_z-of_z w32 c.rank_of.result fits ∙ low) (subst (λ (y : ℤ). to_z w32 (of_z w32 c.rank_of.result) <ℤ y) (to_z-of_z w32 c.rank_of-2.result fits' ∙ high) (lt_z_yes (subst T (sym c.if-rank_of.true) tt))) in
    let whole = ap (λ (l : List ℕ). record { rule = c.args.rule; dot = length l; origin = c.args.item.origin }) (c.rhs.ensures ∙ ap (λ (g : FlatGrammar). rhs_of g c.args.rule) c.flat-flat.ensures) in (
      λ t. (higher, subst (λ (z : Item). Contains (set_at c.args.recce.now c.args.end) z) whole (c.has.ensures.0 t)),
      λ (lt, h). c.has.ensures.1 (subst (λ (z : Item). Contains (set_at c.args.recce.now c.args.end) z) (sym whole) h),
    )
