use Rattle.std.proofs.Common.{rules, ◌≡◌, ℕ, true}
use Rattle.std.proofs.lemmas.Result.{on_ok_weaker}
use Rattle.recognizer_model.specs.Flat.{IsNullable}
use Rattle.bocage.specs.Walk.{BeginsIn, MayBegin, is_high}
use Rattle.bocage.proofs.Growing.{lists_then}
use Rattle.bocage.proofs.Joining.{may_begin, nothing_first}
use Rattle.bocage.proofs.walk.put_nothing_first.Goals as goal

pub put_alternatives-requires-clause-noted : goal.put_alternatives-requires-clause-noted
put_alternatives-requires-clause-noted c = c.in_ok-put_nothing.ensures.noted

pub returns : goal.returns
returns c =
    let h : is_high c.args.known.now c.args.predecessor ≡ true = search rules in
    on_ok_weaker c.put_alternatives.result
    (λ g. lists_then c.args.known.now c.args.predecessor c.args.symbol (λ (m : ℕ). (m ≡ c.args.known.now.end) × IsNullable c.args.known.now.recce.now.flat c.args.symbol) (BeginsIn c.args.known.now c.args.joins.now) (MayBegin c.args.known.now c.args.symbol)
    c.args.found.now c.put_nothing.new.found c.put_alternatives.new.found c.in_ok-put_nothing.ensures g
    (λ m n d b. nothing_first c.args.known.now c.requires.knows c.args.predecessor c.args.symbol c.requires.next c.args.joins.now c.requires.joins (is_high c.args.known.now c.args.predecessor) h m n d.0 b)
    (may_begin c.args.known.now c.requires.knows c.args.predecessor c.args.symbol c.requires.next c.args.joins.now c.requires.joins))
    c.put_alternatives.ensures
