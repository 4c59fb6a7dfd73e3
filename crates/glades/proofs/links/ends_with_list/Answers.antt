use Rattle.std.proofs.Common.{◌<◌, ◌-◌, length, sym, subst}
use Rattle.std.specs.Prelude.{slice_index_or}
use Rattle.glades.proofs.Nodes.{key_sound}
use Rattle.glades.proofs.links.ends_with_list.Goals as goal

pub rhs-requires : goal.rhs-requires
rhs-requires c = (key_sound c.args.forest.now c.known.ensures c.args.node c.requires c.flat-flat.result.now c.flat-flat.ensures c.key-key.result c.key-key.ensures.value).rule

pub overflow_sub-key : goal.overflow_sub-key
overflow_sub-key c = (key_sound c.args.forest.now c.known.ensures c.args.node c.requires c.flat-flat.result.now c.flat-flat.ensures c.key-key.result c.key-key.ensures.value).some

pub bounds-rhs-key : goal.bounds-rhs-key
bounds-rhs-key c =
    subst (λ l. c.key-key.result.dot - 1 < length l) (sym c.rhs.ensures)
    (key_sound c.args.forest.now c.known.ensures c.args.node c.requires c.flat-flat.result.now c.flat-flat.ensures c.key-key.result c.key-key.ensures.value).place

pub symbol-symbol-requires : goal.symbol-symbol-requires
symbol-symbol-requires c =
    subst (λ l. slice_index_or l (c.key-key.result.dot - 1) 0 < length c.flat-flat.result.now.symbols) (sym c.rhs.ensures)
    (key_sound c.args.forest.now c.known.ensures c.args.node c.requires c.flat-flat.result.now c.flat-flat.ensures c.key-key.result c.key-key.ensures.value).symbol
