use Rattle.std.proofs.Common.{◌<◌, ◌≤◌, ◌+◌, ℕ, List, length}
use Rattle.std.specs.Prelude.{IsNone, IfSome}
use Rattle.reading_model.specs.Reading.{Piece, IsLongest}
use Rattle.earley_sets.specs.Recognizer.{IsExpected}
use Rattle.scanless.specs.Reading.{HoldsPieces}
use Rattle.scanless.specs.Pieces.{AreCandidates, AreMatched, IsLongestBy}
use Rattle.scanless.proofs.Nexts.{next_is}
use Rattle.scanless.proofs.Noting.{sought_known, sought_candidates}
use Rattle.scanless.proofs.Choosing.{longest_by, none_longest, matched_within}
use Rattle.scanless.proofs.Results.{if_some}
use Rattle.std.proofs.lemmas.Result.{IfOk-weaker}
use Rattle.scanless.proofs.candidates.longest_sought.Goals as goal

pub longest-requires-clause-starts : goal.longest-requires-clause-starts
longest-requires-clause-starts c = sought_known c.args.p.now (IsExpected c.args.recce.now) c.args.starts.now c.requires.starts c.known.ensures.ranges.starts c.known.ensures.ranges.discards

candidates : (c : goal.After-longest) (pieces : List Piece) → HoldsPieces c.args.p.now pieces c.args.recce.now → AreCandidates c.args.p.now pieces c.args.starts.now
candidates c pieces holds =
    sought_candidates c.args.p.now (IsExpected c.args.recce.now) c.args.starts.now c.requires.starts pieces
    (next_is c.args.p.now c.known.ensures.accepted.checked.structural pieces c.args.recce.now c.place-place.ensures.is holds)

pub returns-clause-none : goal.returns-clause-none
returns-clause-none c =
    IfOk-weaker c.longest.result _ (λ answer. IsNone answer → (pieces : List Piece) → HoldsPieces c.args.p.now pieces c.args.recce.now → (n : ℕ) → IsLongest c.args.p.now c.args.chars.now pieces c.args.at n → ⊥)
    (λ answer none f pieces holds n l. none_longest c.args.p.now c.args.chars.now pieces c.args.at c.args.starts.now (candidates c pieces holds) (none f) n l)
    c.longest.ensures.none

pub returns-clause-some : goal.returns-clause-some
returns-clause-some c =
    IfOk-weaker c.longest.result _ (λ answer. IfSome answer (λ n. (pieces : List Piece) → HoldsPieces c.args.p.now pieces c.args.recce.now → IsLongestBy c.args.p.now c.args.chars.now pieces c.args.at n c.longest.new.matched.items))
    (λ answer some.
    if_some answer (λ n. AreMatched c.args.p.now c.args.chars.now c.args.at c.args.starts.now n c.longest.new.matched.items) _
    (λ n m pieces holds. longest_by c.args.p.now c.args.chars.now pieces c.args.at c.args.starts.now (candidates c pieces holds) n c.longest.new.matched.items m) some)
    c.longest.ensures.some

pub returns-clause-within : goal.returns-clause-within
returns-clause-within c =
    IfOk-weaker c.longest.result _ (λ answer. IfSome answer (λ n. (0 < n) × (c.args.at + n ≤ length c.args.chars.now)))
    (λ answer some.
    if_some answer (λ n. AreMatched c.args.p.now c.args.chars.now c.args.at c.args.starts.now n c.longest.new.matched.items) _
    (λ n m. (m.some, matched_within c.args.p.now c.args.chars.now c.args.at c.args.starts.now n c.longest.new.matched.items m)) some)
    c.longest.ensures.some
