use Rattle.std.proofs.Common.{◌≡◌, ◌∙◌, ℕ, sym}
use Rattle.recognizer_model.specs.declared.flat.FlatSource.TheVariants.{Written, Top as OfStart}
use Rattle.glades.proofs.Nodes.{key_sound, source_same}
use Rattle.glades.proofs.report.rule_of.Goals as goal

pub origin_of-requires : goal.origin_of-requires
origin_of-requires c = (key_sound c.args.forest.now c.known.ensures c.args.node c.requires.node c.flat.result.now c.flat.ensures c.key.result c.key.ensures.value).rule

not_top : {i k : ℕ} → Written i ≡ OfStart k → ⊥
not_top e = cc

pub unreachable-requires : goal.unreachable-requires
unreachable-requires c =
    let (rule, comes) = c.requires.rule in
    not_top (sym comes ∙ source_same c.args.forest.now c.args.node c.requires.node c.flat.result.now c.flat.ensures c.key.result c.key.ensures.value ∙ sym c.origin_of.ensures ∙ c.in-Top.is)

pub returns : goal.returns
returns c = source_same c.args.forest.now c.args.node c.requires.node c.flat.result.now c.flat.ensures c.key.result c.key.ensures.value ∙ sym c.origin_of.ensures ∙ c.in-Written.is
