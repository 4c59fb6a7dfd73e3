use Rattle.std.proofs.Common.{◌∙◌, ap}
use Rattle.grammar_model.specs.Values.{name_of}
use Rattle.marpa_script.proofs.Listing.{one_more_name, no_name_yet, all_named}
use Rattle.marpa_script.proofs.names.append_names.Goals as goal

pub loop-symbol-init : goal.loop-symbol-init
loop-symbol-init c = no_name_yet c.args.w.now c.args.symbols.now c.args.line.now.items

pub loop-symbol-preserved : goal.loop-symbol-preserved
loop-symbol-preserved c =
    one_more_name c.args.w.now c.args.symbols.now c.args.line.now.items c.loop-symbol.symbol-index c.symbol-item.result c.loop-symbol.line.items c.extend_from_slice.new.self.items c.extend_from_slice-in-loop-symbol.new.self.items c.as_bytes.result.now
    c.loop-symbol-test.true c.loop-symbol.invariant c.in_ok-extend_from_slice.ensures.items c.in_ok-extend_from_slice-2.ensures.items (c.as_bytes.ensures.value ∙ (c.symbol_name.ensures ∙ ap (name_of c.args.w.now) c.symbol-item.is))

pub returns : goal.returns
returns c = all_named c.args.w.now c.args.symbols.now c.args.line.now.items c.loop-symbol.symbol-index c.loop-symbol.line.items c.loop-symbol-test.false c.loop-symbol.invariant
