use Rattle.std.proofs.Common.{◌≤◌, List, [], ◌∷◌, arith, map, length, Ok, Err}
use Rattle.std.specs.Prelude.{slice_index}
use Rattle.std.proofs.lemmas.List.{length-map}
use Rattle.grammar_model.specs.Simple.{numbers}
use Rattle.recognizer_model.specs.Flat.{FlatRule}
use Rattle.recognizer_model.specs.declared.flat.FlatSymbol.{FlatSymbol}
use Rattle.recognizer_model.specs.declared.flat.FlatSymbol.TheVariants.{Top}
use Rattle.flat_model.specs.Flatten.{rules_of}
use Rattle.flat_rules.specs.Tables.{numbered_in}
use Rattle.flat_rules.specs.Added.{top_by}
use Rattle.flat_rules.proofs.Adding.{adds_to, loop_stop, loop_next, loop_end, at_top}
use Rattle.flat_rules.proofs.FlatOf.{numbers_length}
use Rattle.flat_rules.proofs.SymbolRules.{top_of}
use Rattle.flat_rules.proofs.flattening.push_tops.Goals as goal

pub returns-in_err-push_top : goal.returns-in_err-push_top
returns-in_err-push_top c = λ d.
    let w = c.args.w.now in
    let g : FlatSymbol → List FlatRule = λ x. map (numbered_in c.args.symbols.now) (rules_of w d x) in
    let (lt, is) = at_top (length w.starts) c.loop-k.k (omega (arith, c.loop-k-test.true, c.start_count-k-end.ensures.count)) in
    loop_stop g (map Top (numbers (length w.starts))) c.loop-k.k (Top c.loop-k.k) c.args.rules.now.items c.loop-k.rules.items c.push_top.new.rules.items c.push_top.new.rules.items c.in_err-push_top.field-0.0 c.from_residual.result lt is c.from_residual.ensures.1 (c.loop-k.invariant d)
    (adds_to {T = Unit {0}} c.loop-k.rules.items c.push_top.new.rules.items (top_by c.args.symbols.now c.loop-k.k (slice_index w.starts c.loop-k.k) ∷ []) (g (Top c.loop-k.k)) (Err c.in_err-push_top.field-0.0) (top_of w d c.args.symbols.now c.loop-k.k) c.in_err-push_top.ensures)

pub loop-k-preserved : goal.loop-k-preserved
loop-k-preserved c = λ d.
    let w = c.args.w.now in
    let g : FlatSymbol → List FlatRule = λ x. map (numbered_in c.args.symbols.now) (rules_of w d x) in
    let (lt, is) = at_top (length w.starts) c.loop-k.k (omega (arith, c.loop-k-test.true, c.start_count-k-end.ensures.count)) in
    loop_next g (map Top (numbers (length w.starts))) c.loop-k.k (Top c.loop-k.k) c.args.rules.now.items c.loop-k.rules.items c.push_top.new.rules.items lt is (c.loop-k.invariant d)
    (adds_to {T = Unit {0}} c.loop-k.rules.items c.push_top.new.rules.items (top_by c.args.symbols.now c.loop-k.k (slice_index w.starts c.loop-k.k) ∷ []) (g (Top c.loop-k.k)) (Ok tt) (top_of w d c.args.symbols.now c.loop-k.k) c.in_ok-push_top.ensures)

pub returns : goal.returns
returns c = λ d.
    let w = c.args.w.now in
    let g : FlatSymbol → List FlatRule = λ x. map (numbered_in c.args.symbols.now) (rules_of w d x) in
    let long = length-map (numbers (length w.starts)) Top in
    let count = numbers_length (length w.starts) in
    let le : length (map Top (numbers (length w.starts))) ≤ c.loop-k.k = omega (arith, long, count, c.loop-k-test.false, c.start_count-k-end.ensures.count) in
    loop_end g (map Top (numbers (length w.starts))) c.loop-k.k c.args.rules.now.items c.loop-k.rules.items le (c.loop-k.invariant d)
