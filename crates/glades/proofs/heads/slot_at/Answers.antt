use Rattle.std.proofs.Common.{◌<◌, ◌∙◌, length, sym, ap, subst}
use Rattle.recognizer_model.specs.declared.flat.FlatSymbol.TheVariants.{Slot as AtLevel}
use Rattle.glades.proofs.Nodes.{key_sound, left_symbol}
use Rattle.glades.proofs.heads.slot_at.Goals as goal

pub lhs-requires : goal.lhs-requires
lhs-requires c = (key_sound c.args.forest.now c.known.ensures c.args.node c.requires c.flat-flat.result.now c.flat-flat.ensures c.key.result c.key.ensures.value).rule

pub symbol-requires : goal.symbol-requires
symbol-requires c =
    subst (λ x. x < length c.flat-flat.result.now.symbols) (sym c.lhs.ensures)
    (key_sound c.args.forest.now c.known.ensures c.args.node c.requires c.flat-flat.result.now c.flat-flat.ensures c.key.result c.key.ensures.value).left

pub returns-in-Slot : goal.returns-in-Slot
returns-in-Slot c = left_symbol c.args.forest.now c.args.node c.flat-flat.result.now c.flat-flat.ensures c.key.result c.key.ensures.value c.lhs.result c.lhs.ensures c.symbol.result c.symbol.ensures ∙ c.in-Slot.is ∙ ap (λ s. AtLevel s c.in-Slot.level) (sym c.plain.ensures)

pub returns-in_default : goal.returns-in_default
returns-in_default c = λ s l is. c.in_default.not-Slot s l (sym (left_symbol c.args.forest.now c.args.node c.flat-flat.result.now c.flat-flat.ensures c.key.result c.key.ensures.value c.lhs.result c.lhs.ensures c.symbol.result c.symbol.ensures) ∙ is)
