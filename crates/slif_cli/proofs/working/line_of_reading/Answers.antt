use Rattle.std.proofs.Common.{◌≡◌, ℕ, [], ◌∷◌, Vec, Global}
use Rattle.std.proofs.lemmas.Result.{IfOk-weaker}
use Rattle.earley_sets.specs.Counted.{TakesAtMost}
use Rattle.run_model.specs.Outcome.{IsWorkOutcome, done}
use Rattle.run_model.specs.Within.{WorkWithin}
use Rattle.run_model.specs.Telling.{work_line}
use Rattle.grammar_model.specs.declared.Ranking.TheVariants.{Rule as RuleRanks}
use Rattle.value_lines.specs.Counts.{numbers_of}
use Rattle.value_lines.proofs.Counting.{has_numbers}
use Rattle.text_reading.specs.Refusals.{IsNoDerivation}
use Rattle.slif_cli.proofs.Own.{input_memory, own_few, own_derived, own_told, own_within}
use Rattle.slif_cli.proofs.working.line_of_reading.Goals as goal

pub forest_of-requires-clause-few : goal.forest_of-requires-clause-few
forest_of-requires-clause-few g c = own_few c.args.size c.requires.size c.args.chars.now c.requires.chars

pub no_memory-requires : goal.no_memory-requires
no_memory-requires g c =
    input_memory (IsNoDerivation c.args.prepared.now [] RuleRanks c.args.chars.now)
    (own_derived c.args.size c.requires.size c.args.prepared.now c.requires.grammar c.args.chars.now c.requires.chars RuleRanks) c.in-Err.refusal (c.in-Err.ensures.refused [] c.requires.read)

pub returns-clause-line : goal.returns-clause-line
returns-clause-line g c =
    let b = c.args.prepared.now in
    let cs = c.args.chars.now in
    let spans = c.args.reading.now.spans.items in
    let has = c.in-Ok.ensures.forest [] c.requires.read in
    let numbers = has_numbers b cs spans c.in-Ok.forest has.pieces has.of RuleRanks has.ranking_is c.known.ensures c.in_ok-stats.stats c.in_ok-stats.ensures in
    IfOk-weaker c.work_line.result
    (λ (line : Vec ℕ Global). line.items ≡ work_line c.args.size (numbers_of c.in_ok-stats.stats) c.in-Ok-count_derivations.values)
    (λ (line : Vec ℕ Global). IsWorkOutcome c.args.size (done (line.items ∷ [])))
    (λ line told. own_told c.args.size c.requires.size b c.requires.grammar cs c.requires.chars spans c.in-Ok.forest has c.known.ensures (numbers_of c.in_ok-stats.stats) numbers
    c.in-Ok-count_derivations.values c.in-Ok-count_derivations.ensures.count line.items told)
    c.work_line.ensures

pub returns-clause-counted : goal.returns-clause-counted
returns-clause-counted g c =
    let b = c.args.prepared.now in
    let cs = c.args.chars.now in
    let read = c.args.reading.now in
    IfOk-weaker c.work_line.result
    (λ (line : Vec ℕ Global). line.items ≡ work_line c.args.size (numbers_of c.in_ok-stats.stats) c.in-Ok-count_derivations.values)
    (λ (line : Vec ℕ Global). (before : ℕ) → TakesAtMost read.recce before c.args.steps.now → WorkWithin b c.args.size before c.count_derivations.new.steps)
    (λ line told before reads. own_within c.args.size c.requires.size b c.requires.grammar cs c.requires.chars read.spans.items c.in-Ok.forest (c.in-Ok.ensures.forest [] c.requires.read) c.known.ensures
    read.recce c.place-place.ensures.is read.spans.items c.requires.read before _ _ _ c.forest_of.ensures.counted c.in-Ok-count_derivations.ensures.counted reads)
    c.work_line.ensures
