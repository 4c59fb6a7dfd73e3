use Rattle.std.proofs.Common.{◌≡◌, ℕ, List, [], refl, sym, subst, ◌∙◌, arith}
use Rattle.std.specs.List.Sorted.{IsStrictlySortedBy}
use Rattle.finite_sets.proofs.Clauses.{at_some}
use Rattle.finite_sets.proofs.Lists.{Contains-none}
use Rattle.language_model.specs.Building.{Built}
use Rattle.reading_model.specs.Reading.{Piece, IsLongest, IsKeptNone, IsSkipped, AreFound}
use Rattle.scanless.specs.Pieces.{IsLongestBy}
use Rattle.scanless.specs.Taking.{Takes}
use Rattle.scanless.specs.Noted.{AreNoted}
use Rattle.scanless.proofs.Noting.{noted_later}
use Rattle.scanless.specs.Reading.{HoldsPieces, IsChosen}
use Rattle.scanless.proofs.Results.{is_none}
use Rattle.scanless.proofs.piece.take_piece.Goals as goal

found_none : (b : Built) (text : List ℕ) (pieces : List Piece) (at : ℕ) → ((n : ℕ) → IsLongest b text pieces at n → ⊥) → AreFound b text pieces at []
unfolding IsStrictlySortedBy
found_none b text pieces at none = record { sorted = tt; exact = λ symbol. ((λ c. absurd (Contains-none symbol c)), (λ f. absurd (none f.count f.longest))) }

nothing_at : (b : Built) (text : List ℕ) (pieces : List Piece) (at n : ℕ) (matched : List ℕ) → IsLongestBy b text pieces at n matched → IsKeptNone b text pieces at n × (IsSkipped b text pieces at n → ⊥) →
    (m : ℕ) → IsLongest b text pieces at m → IsKeptNone b text pieces at m × (IsSkipped b text pieces at m → ⊥)
nothing_at b text pieces at n matched by none m l =
    let e : n ≡ m = (let x = l.longest by.longest.start n by.longest.candidate by.longest.matches in let y = by.longest.longest l.start m l.candidate l.matches in omega (arith, x, y)) in
    subst (λ k. IsKeptNone b text pieces at k × (IsSkipped b text pieces at k → ⊥)) e none

pub returns-in_default-clause-cut : goal.returns-in_default-clause-cut
returns-in_default-clause-cut g c = λ pieces holds.
    let none = c.in_ok-length.ensures.none (is_none c.in_ok-length.field-0 c.in_default.is) pieces holds in
    ((λ n l. absurd (none n l)), subst (AreFound c.args.p.now c.args.chars.now pieces c.args.at) (sym c.new.ensures.items) (found_none c.args.p.now c.args.chars.now pieces c.args.at none), refl)

pub returns-in_ok-take_token-in-Token-clause-cut : goal.returns-in_ok-take_token-in-Token-clause-cut
returns-in_ok-take_token-in-Token-clause-cut g c = λ pieces holds.
    let by : IsLongestBy c.args.p.now c.args.chars.now pieces c.args.at c.in-Some.length c.look.new.work.matched.items =
    at_some (λ n. (pieces : List Piece) → HoldsPieces c.args.p.now pieces c.args.recce.now → IsLongestBy c.args.p.now c.args.chars.now pieces c.args.at n c.look.new.work.matched.items) c.in_ok-length.field-0 c.in-Some.length c.in-Some.is c.in_ok-length.ensures.some pieces holds in
    let chosen = subst (IsChosen c.args.p.now c.args.chars.now pieces c.args.at c.in-Some.length c.choose.new.work.kept.items) c.in-Token.is (c.in_ok-choose.ensures.chosen c.args.chars.now pieces c.args.at c.in-Some.length holds by) in
    record {
      symbols = c.choose.new.work.kept.items;
      some = chosen.0;
      sorted = c.in_ok-choose.ensures.sorted;
      longest = by.longest;
      exact = chosen.1;
      takes = subst (Takes c.args.recce.now c.take_token.new.recce) c.as_slice.ensures.value c.in_ok-take_token-in-Token.ensures.takes;
    }

pub returns-in-Skipped-clause-cut : goal.returns-in-Skipped-clause-cut
returns-in-Skipped-clause-cut g c = λ pieces holds.
    let by : IsLongestBy c.args.p.now c.args.chars.now pieces c.args.at c.in-Some.length c.look.new.work.matched.items =
    at_some (λ n. (pieces : List Piece) → HoldsPieces c.args.p.now pieces c.args.recce.now → IsLongestBy c.args.p.now c.args.chars.now pieces c.args.at n c.look.new.work.matched.items) c.in_ok-length.field-0 c.in-Some.length c.in-Some.is c.in_ok-length.ensures.some pieces holds in
    let chosen = subst (IsChosen c.args.p.now c.args.chars.now pieces c.args.at c.in-Some.length c.choose.new.work.kept.items) c.in-Skipped.is (c.in_ok-choose.ensures.chosen c.args.chars.now pieces c.args.at c.in-Some.length holds by) in
    (by.longest, chosen.0, chosen.1, refl)

pub returns-in_ok-found-in-Nothing-clause-cut : goal.returns-in_ok-found-in-Nothing-clause-cut
returns-in_ok-found-in-Nothing-clause-cut g c = λ pieces holds.
    let by : IsLongestBy c.args.p.now c.args.chars.now pieces c.args.at c.in-Some.length c.look.new.work.matched.items =
    at_some (λ n. (pieces : List Piece) → HoldsPieces c.args.p.now pieces c.args.recce.now → IsLongestBy c.args.p.now c.args.chars.now pieces c.args.at n c.look.new.work.matched.items) c.in_ok-length.field-0 c.in-Some.length c.in-Some.is c.in_ok-length.ensures.some pieces holds in
    let chosen = subst (IsChosen c.args.p.now c.args.chars.now pieces c.args.at c.in-Some.length c.choose.new.work.kept.items) c.in-Nothing.is (c.in_ok-choose.ensures.chosen c.args.chars.now pieces c.args.at c.in-Some.length holds by) in
    let found = c.in_ok-found-in-Nothing.ensures c.args.chars.now pieces c.args.at c.in-Some.length (subst (IsLongestBy c.args.p.now c.args.chars.now pieces c.args.at c.in-Some.length) (sym (c.as_slice-in-Nothing.ensures.value ∙ c.in_ok-choose.ensures.same.1)) by) in
    (nothing_at c.args.p.now c.args.chars.now pieces c.args.at c.in-Some.length c.look.new.work.matched.items by chosen, found, refl)

pub returns-in_ok-take_token-in-Token-clause-moves : goal.returns-in_ok-take_token-in-Token-clause-moves
returns-in_ok-take_token-in-Token-clause-moves g c =
    (c.choose.new.work.kept.items, c.in_ok-choose.ensures.expected, subst (Takes c.args.recce.now c.take_token.new.recce) c.as_slice.ensures.value c.in_ok-take_token-in-Token.ensures.takes)

pub returns-in_err-take_token-in-Token-clause-notes : goal.returns-in_err-take_token-in-Token-clause-notes
returns-in_err-take_token-in-Token-clause-notes g c =
    noted_later c.args.p.now c.args.recce.now c.take_token.new.recce c.choose.new.work.notes c.in_err-take_token-in-Token.ensures.grows (subst (AreNoted c.args.p.now c.args.recce.now) (sym c.in_ok-choose.ensures.notes) c.in_ok-length.ensures.notes)

pub returns-in_ok-take_token-in-Token-clause-notes : goal.returns-in_ok-take_token-in-Token-clause-notes
returns-in_ok-take_token-in-Token-clause-notes g c =
    noted_later c.args.p.now c.args.recce.now c.take_token.new.recce c.choose.new.work.notes c.in_ok-take_token-in-Token.ensures.grows (subst (AreNoted c.args.p.now c.args.recce.now) (sym c.in_ok-choose.ensures.notes) c.in_ok-length.ensures.notes)
