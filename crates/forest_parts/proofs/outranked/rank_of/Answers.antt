use Rattle.std.proofs.Common.{rules, ◌∙◌, ap, w32}
use mir.Val.{SFits}
use Rattle.std.proofs.lemmas.Int.{to_z-of_z}
use Rattle.forest_parts.specs.declared.parts.RuleKey.{RuleKey}
use Rattle.forest_parts.proofs.outranked.rank_of.Goals as goal

pub returns : goal.returns
returns c =
    let fits : SFits w32 c.rank_in_key.result = search rules in
    to_z-of_z w32 c.rank_in_key.result fits ∙ c.rank_in_key.ensures ∙ ap (λ (k : RuleKey). (k.rank).0) c.rule_key.ensures
