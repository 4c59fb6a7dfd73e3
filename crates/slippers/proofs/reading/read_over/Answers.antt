use Rattle.std.proofs.Common.{◌<◌, ◌≤◌, ◌+◌, ◌↔◌, arith, ℕ, length, None, Contains, subst, sym, ap, ◌∙◌}
use Rattle.grammar_model.specs.declared.limits.TheConstants.{LAST_PLACE, LONGEST_INPUT}
use Rattle.reading_model.specs.Reading.{IsNext}
use Rattle.earley_sets.specs.Recognizer.{earleme_of}
use Rattle.slippers.specs.Stock.{Stock}
use Rattle.slippers.specs.Supplied.{IsReadOver}
use Rattle.slippers.proofs.Supplying.{few_tokens, few_supplied, offered_none, offered_first, offered_stock, some_not_none, none_of, stuck_at, over_without, over_with, rests_remembered, rests_turns, next_supplied, next_turns}
use Rattle.slippers.proofs.reading.read_over.Goals as goal
use Rattle.slippers.proofs.reading.read_over.Goals.{else-is_none-via-then-is_none+else-has_derivation, else-is_none-via-else-is_none}

pub read_on-requires-clause-reader : goal.read_on-requires-clause-reader
read_on-requires-clause-reader g c =
    let so_far = c.loop.invariant.supplied in (_, record { pieces = so_far.pieces; has_read = so_far.has_read })

pub read_on-requires-clause-room : goal.read_on-requires-clause-room
read_on-requires-clause-room g c =
    let so_far = c.loop.invariant.supplied in
    let eight = subst (λ names. length names ≤ 8) (sym c.loop.invariant.names) c.requires.names in
    let few = few_tokens c.loop.reader.grammar _ c.args.chars.now so_far.pieces c.loop.reader.at c.loop.reader.recce c.loop.reader.spans so_far.has_read c.requires.few eight in
    let short = c.requires.few in
    let le : earleme_of c.loop.reader.recce + length c.args.chars.now ≤ LAST_PLACE + c.loop.reader.at = omega (arith, few, short) in
    le

pub returns-then-has_derivation-clause-over : goal.returns-then-has_derivation-clause-over
returns-then-has_derivation-clause-over g c =
    let so_far = c.loop.invariant.supplied in
    let comes = c.in_ok-found.ensures.rests _ so_far.pieces so_far.has_read in
    subst (λ names. IsReadOver names c.args.chars.now c.read_on.new.self None) c.loop.invariant.names
    (over_with _ c.args.chars.now c.read_on.new.self c.in_ok-found.found (none_of c.in_ok-found.found c.if-is_none.ensures) comes.0 ((c.has_derivation.ensures comes.0.pieces comes.0.has_read.holds).0 c.if-has_derivation.true))

pub returns-then-has_derivation-clause-counted : goal.returns-then-has_derivation-clause-counted
returns-then-has_derivation-clause-counted g c = λ before counts. c.in_ok-found.ensures.counted before (c.loop.invariant.counted before counts)

pub returns-in_default-clause-over : goal.returns-in_default-clause-over
returns-in_default-clause-over g c =
    let so_far = c.loop.invariant.supplied in
    let comes = c.in_ok-found.ensures.rests _ so_far.pieces so_far.has_read in
    let remembers = rests_remembered c.args.chars.now c.loop.reader c.read_on.new.self _ c.in_ok-found.found so_far comes in
    let acceptable = c.expected.ensures.acceptable comes.0.pieces comes.0.has_read.holds in
    let none = offered_none c.read_on.new.self.grammar _ _ c.read_on.new.self.at c.at.result c.at.ensures c.expected.result.now comes.0.pieces remembers
    (λ t. ((λ h. (acceptable t).0 ((c.expected.ensures.exact t).0 h)), (λ n. (c.expected.ensures.exact t).1 ((acceptable t).1 n)))) c.in_ok-symbol.field-0 c.in_ok-symbol.ensures c.in_default.is in
    subst (λ names. IsReadOver names c.args.chars.now c.read_on.new.self c.in_ok-found.found) c.loop.invariant.names (comes.0, over_without _ c.args.chars.now c.read_on.new.self c.in_ok-found.found comes.0 none)

pub returns-in_default-clause-counted : goal.returns-in_default-clause-counted
returns-in_default-clause-counted g c = λ before counts. c.in_ok-found.ensures.counted before (c.loop.invariant.counted before counts)

pub supply-requires-clause-reader : goal.supply-requires-clause-reader
supply-requires-clause-reader g c =
    let so_far = c.loop.invariant.supplied in
    let comes = c.in_ok-found.ensures.rests _ so_far.pieces so_far.has_read in
    let short : length c.args.chars.now ≤ LONGEST_INPUT = (let few = c.requires.few in omega (arith, few)) in
    (_, c.args.chars.now, short, record { pieces = comes.0.pieces; has_read = comes.0.has_read })

pub supply-requires-clause-place : goal.supply-requires-clause-place
supply-requires-clause-place g c =
    let so_far = c.loop.invariant.supplied in
    let comes = c.in_ok-found.ensures.rests _ so_far.pieces so_far.has_read in
    let eight = subst (λ names. length names ≤ 8) (sym c.loop.invariant.names) c.requires.names in
    let few = few_tokens c.read_on.new.self.grammar _ c.args.chars.now comes.0.pieces c.read_on.new.self.at c.read_on.new.self.recce c.read_on.new.self.spans comes.0.has_read c.requires.few eight in
    let lt : earleme_of c.read_on.new.self.recce < LAST_PLACE = omega (arith, few) in
    lt

pub supply-requires-clause-expected : goal.supply-requires-clause-expected
supply-requires-clause-expected g c =
    let so_far = c.loop.invariant.supplied in
    let comes = c.in_ok-found.ensures.rests _ so_far.pieces so_far.has_read in
    let remembers = rests_remembered c.args.chars.now c.loop.reader c.read_on.new.self _ c.in_ok-found.found so_far comes in
    let acceptable = c.expected.ensures.acceptable comes.0.pieces comes.0.has_read.holds in
    let first = offered_first c.read_on.new.self.grammar _ _ c.read_on.new.self.at c.at.result c.at.ensures c.expected.result.now comes.0.pieces remembers
    (λ t. ((λ h. (acceptable t).0 ((c.expected.ensures.exact t).0 h)), (λ n. (c.expected.ensures.exact t).1 ((acceptable t).1 n)))) c.in_ok-symbol.field-0 c.in_ok-symbol.ensures c.in-Some.symbol c.in-Some.is in
    (acceptable c.in-Some.symbol).1 first.has.next

pub loop-preserved : goal.loop-preserved
loop-preserved g c =
    let so_far = c.loop.invariant.supplied in
    let comes = c.in_ok-found.ensures.rests _ so_far.pieces so_far.has_read in
    let remembers = rests_remembered c.args.chars.now c.loop.reader c.read_on.new.self _ c.in_ok-found.found so_far comes in
    let acceptable = c.expected.ensures.acceptable comes.0.pieces comes.0.has_read.holds in
    let next : (t : ℕ) → Contains c.expected.result.now t ↔ IsNext c.read_on.new.self.grammar comes.0.pieces t = λ t. ((λ h. (acceptable t).0 ((c.expected.ensures.exact t).0 h)), (λ n. (c.expected.ensures.exact t).1 ((acceptable t).1 n))) in
    let first = offered_first c.read_on.new.self.grammar _ _ c.read_on.new.self.at c.at.result c.at.ensures c.expected.result.now comes.0.pieces remembers next c.in_ok-symbol.field-0 c.in_ok-symbol.ensures c.in-Some.symbol c.in-Some.is in
    let stock = offered_stock c.read_on.new.self.grammar _ _ c.read_on.new.self.at c.at.result c.at.ensures c.expected.result.now comes.0.pieces remembers next c.in_ok-symbol.field-0 c.in_ok-symbol.ensures c.in-Some.symbol c.in-Some.is in
    let stuck = stuck_at _ c.args.chars.now c.read_on.new.self c.in_ok-found.found comes.0
    (λ none some. elim c.else-is_none.branch [
      | else-is_none-via-then-is_none+else-has_derivation w ↦ (let is = (w.has_derivation.ensures comes.0.pieces comes.0.has_read.holds).1 some in let not = w.if-has_derivation.false in absurd (cc))
      | else-is_none-via-else-is_none w ↦ some_not_none c.in_ok-found.found c.is_none.result c.is_none.ensures w.if-is_none.false none
    ]) in
    let read = c.in_ok-supply.ensures.supplied _ c.args.chars.now comes.0.pieces comes.0.has_read stuck first in
    let eight = subst (λ names. length names ≤ 8) (sym c.loop.invariant.names) c.requires.names in
    let turns = rests_turns c.args.chars.now c.loop.reader c.read_on.new.self _ c.in_ok-found.found so_far comes c.loop.counter c.requires.few eight c.loop.invariant.turns in
    record {
      grammar = c.supply.ensures.grammar ∙ (c.read_on.ensures.grammar ∙ c.loop.invariant.grammar);
      names = ap (λ (s : Stock). s.names) stock ∙ c.loop.invariant.names;
      supplied = next_supplied c.args.chars.now c.read_on.new.self c.supply.new.self _ _ c.in-Some.symbol comes.0.pieces c.supply.ensures.at remembers stock c.read_on.new.self.grammar c.supply.ensures.grammar read;
      turns = next_turns c.args.chars.now c.read_on.new.self c.supply.new.self _ _ c.in-Some.symbol comes.0.pieces c.supply.ensures.at remembers stock c.loop.counter turns;
      counted = λ before counts. c.in_ok-supply.ensures.counted before (c.in_ok-found.ensures.counted before (c.loop.invariant.counted before counts));
    }

pub unreachable-requires : goal.unreachable-requires
unreachable-requires g c =
    let so_far = c.loop.invariant.supplied in
    let eight = subst (λ names. length names ≤ 8) (sym c.loop.invariant.names) c.requires.names in
    let few = few_supplied c.loop.reader.grammar _ c.args.chars.now so_far.pieces c.loop.reader.at c.loop.reader.recce c.loop.reader.spans so_far.has_read c.requires.few eight in
    let same = ap length so_far.remembers.same in
    let within = so_far.has_read.within in
    let short = c.requires.few in
    let turns = c.loop.invariant.turns in
    let all = c.loop-test.false in
    absurd (omega (arith, few, same, within, short, turns, all))
