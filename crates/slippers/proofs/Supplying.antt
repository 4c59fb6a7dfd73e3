-- What a supplier gives is what the definition supplies.
use Rattle.std.proofs.Common.{arith, ◌≡◌, inl, inr, ◌↔◌, ℕ, ◌+◌, ◌*◌, ◌<◌, ◌≤◌, ◌==◌, if◌then◌else◌, Bool, true, false, not, List, [], ◌∷◌, ◌++◌, length, length-append, Option, Some, None, Contains, Vec, Global, refl, sym, ap, subst, ◌∙◌}
use Rattle.std.specs.Option.{is_some}
use Rattle.std.proofs.Math.Nat.{mul-le-mul_left}
use Rattle.std.proofs.lemmas.Bool.{eq-eqb}
use Rattle.finite_sets.proofs.Clauses.{less_differs}
use Rattle.grammar_model.specs.declared.limits.TheConstants.{LONGEST_GIVEN}
use Rattle.grammar_core.specs.declared.steps.Span.{Span}
use Rattle.language_model.specs.Building.{Built}
use Rattle.reading_model.specs.First.{IsFirstWith, HasNone}
use Rattle.reading_model.specs.Reading.{Piece, supplied, supplied_behind, IsNext, IsStuck, Within, Ended, HasDerivation, MaySupply}
use Rattle.reading_model.proofs.Few.{tokens_are_few}
use Rattle.reading_model.proofs.Behind.{behind_supplied}
use Rattle.earley_sets.specs.Recognizer.{Recognizer, earleme_of}
use Rattle.scanless.specs.declared.reading.Ending.{Ending}
use Rattle.scanless.specs.Reading.{IsReadingOfWith, HasRead, ReadSoFar, IsSameOrLonger, ComesToRest, IsResting, IsOver}
use Rattle.slippers.specs.Stock.{Stock, told, given_at, MayGive, Offers}
use Rattle.slippers.specs.Supplied.{Remembers, IsSupplied, IsReadOver}

-- ---- how many tokens there are

module _ (b : Built) (given text : List ℕ) (pieces : List Piece) (at : ℕ) (recce : Recognizer) (spans : List Span) (read : HasRead b given text pieces at recce spans) (short : length text ≤ LONGEST_GIVEN) (eight : length given ≤ 8) where
  pub few_supplied : length (supplied_behind pieces) ≤ 8
  few_supplied = let few = (tokens_are_few b given text at pieces read.reads).1 in omega (arith, few, eight)

  pub few_tokens : earleme_of recce ≤ 9437192
  few_tokens =
      let few = (tokens_are_few b given text at pieces read.reads).0 in
      let place = read.holds.place in
      let within = read.within in
      let times : at * length given ≤ at * 8 = mul-le-mul_left at eight in
      let supplied_few = few_supplied in
      omega (arith, few, place, within, times, supplied_few, short)

-- ---- what the supplier remembers

pub at_same : (place : ℕ) (names given : List ℕ) → given_at (record { names = names; place = place; given = given }) place ≡ given
at_same place names given = ap (λ (t : Bool). if t then given else []) (eq-eqb place place refl)

module _ (stock : Stock) (from at : ℕ) (before after : List Piece) (remembers : Remembers stock from before) where
  pub remembers_on : IsSameOrLonger before after from at → Remembers stock at after
  remembers_on (inl (e, same)) =
      record { so_far = (let le = remembers.so_far in omega (arith, le, e)); same = subst (λ k. given_at stock k ≡ supplied_behind after) (sym e) (remembers.same ∙ ap supplied_behind (sym same)) }
  remembers_on (inr (more, none)) =
      let lt : stock.place < at = (let le = remembers.so_far in omega (arith, le, more)) in
      record { so_far = omega (arith, lt); same = ap (λ (t : Bool). if t then stock.given else []) (less_differs stock.place at lt) ∙ sym none }

  -- at each character eight turns are enough
  pub turns_on : IsSameOrLonger before after from at → (turns : ℕ) → length (supplied_behind before) ≤ 8 → turns ≤ from * 8 + length (given_at stock from) → turns ≤ at * 8 + length (supplied_behind after)
  turns_on (inl (e, same)) turns few le =
      let l = ap length (remembers.same ∙ ap supplied_behind (sym same)) in omega (arith, le, l, e)
  turns_on (inr (more, none)) turns few le = let l = ap length remembers.same in omega (arith, le, l, few, more)

pub remembers_given : (stock new : Stock) (at x : ℕ) (pieces : List Piece) → Remembers stock at pieces → new ≡ record { names = stock.names; place = at; given = given_at stock at ++ x ∷ [] } → Remembers new at (pieces ++ supplied x ∷ [])
remembers_given stock new at x pieces remembers is =
    subst (λ (s : Stock). Remembers s at (pieces ++ supplied x ∷ [])) (sym is) (record {
      so_far = omega arith;
      same = at_same at stock.names (given_at stock at ++ x ∷ []) ∙ (ap (λ l. l ++ x ∷ []) remembers.same ∙ sym (behind_supplied pieces x));
    })

-- ---- what may be given may be supplied

module _ (b : Built) (stock : Stock) (at : ℕ) (expected : List ℕ) (pieces : List Piece) (remembers : Remembers stock at pieces) (next : (t : ℕ) → Contains expected t ↔ IsNext b pieces t) where
  to_supply : (t : ℕ) → MayGive stock at expected t → MaySupply b pieces t
  to_supply t may = record { next = (next t).0 may.0; once = λ c. may.1 (subst (λ l. Contains l t) (sym remembers.same) c) }

  to_give : (t : ℕ) → MaySupply b pieces t → MayGive stock at expected t
  to_give t may = ((next t).1 may.next, λ c. may.once (subst (λ l. Contains l t) remembers.same c))

  pub none_supplied : HasNone (MayGive stock at expected) stock.names → HasNone (MaySupply b pieces) stock.names
  none_supplied none t c may = none t c (to_give t may)

  pub first_supplied : (x : ℕ) → IsFirstWith (MayGive stock at expected) stock.names x → IsFirstWith (MaySupply b pieces) stock.names x
  first_supplied x first = record {
    before = first.before;
    after = first.after;
    split = first.split;
    has = to_supply x first.has;
    none_before = λ y c may. first.none_before y c (to_give y may);
  }

module _ (b : Built) (stock new : Stock) (at asked : ℕ) (asked_is : asked ≡ at) (expected : List ℕ) (pieces : List Piece) (remembers : Remembers stock at pieces) (next : (t : ℕ) → Contains expected t ↔ IsNext b pieces t) (offered : Option ℕ)
    (offers : Offers stock asked expected offered new) where
  pub offered_none : offered ≡ None → HasNone (MaySupply b pieces) stock.names
  offered_none is = none_supplied b stock at expected pieces remembers next (subst (λ k. HasNone (MayGive stock k expected) stock.names) asked_is (subst (λ o. Offers stock asked expected o new) is offers).0)

  pub offered_first : (x : ℕ) → offered ≡ Some x → IsFirstWith (MaySupply b pieces) stock.names x
  offered_first x is = first_supplied b stock at expected pieces remembers next x (subst (λ k. IsFirstWith (MayGive stock k expected) stock.names x) asked_is (subst (λ o. Offers stock asked expected o new) is offers).0)

  pub offered_stock : (x : ℕ) → offered ≡ Some x → new ≡ record { names = stock.names; place = at; given = given_at stock at ++ x ∷ [] }
  offered_stock x is = subst (λ k. new ≡ record { names = stock.names; place = k; given = given_at stock k ++ x ∷ [] }) asked_is (subst (λ o. Offers stock asked expected o new) is offers).1

pub some_not_none : {A : Type 0} (o : Option A) (t : Bool) → is_some o ≡ not t → t ≡ false → o ≡ None → ⊥
some_not_none None true e f none = absurd (cc)
some_not_none None false e f none = absurd (cc)
some_not_none (Some x) t e f none = absurd (cc)

pub none_of : {A : Type 0} (o : Option A) → is_some o ≡ false → o ≡ None
none_of None e = refl
none_of (Some x) e = absurd (cc)

-- ---- where reading rests

module _ (given text : List ℕ) (r : ReadSoFar) where
  pub stuck_at : (found : Option (Vec ℕ Global)) → (rests : IsResting given text r found) → (found ≡ None → HasDerivation r.grammar rests.pieces → ⊥) → IsStuck r.grammar text rests.pieces r.at
  stuck_at None rests none = Ended rests.rests (none refl)
  stuck_at (Some f) rests none = Within rests.rests.more rests.rests.none

  pub over_without : (found : Option (Vec ℕ Global)) → (rests : IsResting given text r found) → HasNone (MaySupply r.grammar rests.pieces) given → IsOver r.grammar given rests.pieces found
  over_without None rests none = inr none
  over_without (Some f) rests none = none

  pub over_with : (found : Option (Vec ℕ Global)) → found ≡ None → (rests : IsResting given text r found) → HasDerivation r.grammar rests.pieces → IsReadOver given text r None
  over_with None e rests some = (rests, inl some)
  over_with (Some f) e rests some = absurd (cc)

-- ---- a turn

module _ (text : List ℕ) (old new : ReadSoFar) (stock : Stock) (found : Option (Vec ℕ Global)) (so_far : IsSupplied text old stock) (comes : ComesToRest stock.names text so_far.pieces old new found) where
  pub rests_remembered : Remembers stock new.at comes.0.pieces
  rests_remembered = remembers_on stock old.at new.at so_far.pieces comes.0.pieces so_far.remembers comes.1

  pub rests_turns : (turns : ℕ) → length text ≤ LONGEST_GIVEN → length stock.names ≤ 8 → turns ≤ old.at * 8 + length (given_at stock old.at) → turns ≤ new.at * 8 + length (supplied_behind comes.0.pieces)
  rests_turns turns short eight le =
      turns_on stock old.at new.at so_far.pieces comes.0.pieces so_far.remembers comes.1 turns (few_supplied old.grammar stock.names text so_far.pieces old.at old.recce old.spans so_far.has_read short eight) le

module _ (text : List ℕ) (r next : ReadSoFar) (stock new : Stock) (x : ℕ) (pieces : List Piece) (at_is : next.at ≡ r.at) (remembers : Remembers stock r.at pieces)
    (is : new ≡ record { names = stock.names; place = r.at; given = given_at stock r.at ++ x ∷ [] }) where
  next_remembered : Remembers new next.at (pieces ++ supplied x ∷ [])
  next_remembered = subst (λ k. Remembers new k (pieces ++ supplied x ∷ [])) (sym at_is) (remembers_given stock new r.at x pieces remembers is)

  pub next_supplied : (b : Built) → next.grammar ≡ b → HasRead b stock.names text (pieces ++ supplied x ∷ []) next.at next.recce next.spans → IsSupplied text next new
  next_supplied b grammar read = record {
    pieces = pieces ++ supplied x ∷ [];
    has_read = subst (λ (s : Stock). HasRead next.grammar s.names text (pieces ++ supplied x ∷ []) next.at next.recce next.spans) (sym is)
        (subst (λ (b : Built). HasRead b stock.names text (pieces ++ supplied x ∷ []) next.at next.recce next.spans) (sym grammar) read);
    remembers = next_remembered;
  }

  pub next_turns : (turns : ℕ) → turns ≤ r.at * 8 + length (supplied_behind pieces) → turns + 1 ≤ next.at * 8 + length (given_at new next.at)
  next_turns turns le =
      let l = ap length (next_remembered.same ∙ behind_supplied pieces x) in
      let more = length-append (supplied_behind pieces) (x ∷ []) in
      omega (arith, le, l, more, at_is)

none_either : (t : Bool) → Path (List ℕ) (if t then [] else []) []
none_either true = refl
none_either false = refl

-- a reader and a supplier that begin
pub supplied_first : (text : List ℕ) (b : Built) (r : ReadSoFar) (stock : Stock) → r.grammar ≡ b → stock ≡ told stock.names → HasRead b stock.names text [] r.at r.recce r.spans → IsSupplied text r stock
supplied_first text b r stock grammar is read = record {
  pieces = [];
  has_read = subst (λ (b : Built). HasRead b stock.names text [] r.at r.recce r.spans) (sym grammar) read;
  remembers = record {
    so_far = (let e : stock.place ≡ 0 = ap (λ (s : Stock). s.place) is in omega (arith, e));
    same = subst (λ (s : Stock). given_at s r.at ≡ []) (sym is) (none_either (0 == r.at));
  };
}

pub as_read : (b other : Built) (given text : List ℕ) (recce : Recognizer) (spans : List Span) (ending : Ending) → other ≡ b → IsReadingOfWith other given text recce spans ending → IsReadingOfWith b given text recce spans ending
as_read b other given text recce spans ending e is = subst (λ (b : Built). IsReadingOfWith b given text recce spans ending) e is
