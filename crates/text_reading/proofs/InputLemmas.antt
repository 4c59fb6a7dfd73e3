-- What pieces of a reading name, and what is told of an input.
use Rattle.std.proofs.Common.{Vec, Global, ◌≡◌, ℕ, ◌<◌, ◌≤◌, ◌++◌, [], ◌∷◌, List, length, map, All, Contains, refl, sym, ap, subst, ◌∙◌, chars, codes, decimal, IsUtf8, drop, Option, Some, None, Result, Ok, Err, take, get_or, slice_get, append_assoc, arith, ◌-◌}
use Rattle.std.specs.Prelude.{IfOk}
use Rattle.std.proofs.lemmas.List.{take_all}
use Rattle.std.proofs.lemmas.Option.{get_or_from_slice_get}
use Rattle.std.specs.List.{flat_map}
use Rattle.grammar_model.specs.Grammar.{Grammar}
use Rattle.std.proofs.lemmas.List.Elements.{All-weaker, All-contains_itself, All-contains}
use Rattle.grammar_core.specs.declared.steps.Span.{Span}
use Rattle.grammar_model.specs.Values.{name_of}
use Rattle.language_model.specs.Building.{Built, LexemeRow}
use Rattle.dsl_build.specs.Ranges.{IsInRange}
use Rattle.slif_base.specs.Characters.{RefusesText}
use Rattle.slif_base.specs.declared.chars.TextRefusal.{TextRefusal}
use Rattle.slif_base.specs.declared.chars.TextRefusal.TheVariants.{NotUtf8 as BrokenText}
use Rattle.reading_model.specs.Reading.{Piece, Stopped, IsReadingWith, HasStopped, AreFound, AreExpected}
use Rattle.earley_sets.specs.Recognizer.{Recognizer}
use Rattle.scanless.specs.Reading.{IsReadingOfWith, ending_of}
use Rattle.scanless.specs.declared.reading.Ending.{Ending as HeldEnding}
use Rattle.scanless.specs.declared.reading.Ending.TheVariants.{Stopped as Stops}
use Rattle.run_model.specs.Inputs.{input_limit, longer_text, TooLong, NotUtf8, ReadingStops, stop_text, names_text}
use Rattle.text_reading.specs.declared.refusal.Place.{Place}
use Rattle.text_reading.specs.declared.refusal.Refusal.{Refusal}
use Rattle.text_reading.specs.declared.refusal.Refusal.TheVariants as refusal
use Rattle.text_reading.specs.Refusals.{TellsInput, IsInputRefusedAt, place_in}
use Rattle.text_reading.specs.Parts.{IsBrokenText, IsStopText}

-- SYMBOLS

module _ (b : Built) (ranges : IsInRange b) where
  abbrev Known : ℕ → Type 0
  Known s = s < length b.g1.names

  row_known : (l : LexemeRow) → Contains b.lexemes l → Known l.symbol
  row_known l among = All-contains (λ (r : LexemeRow). r.symbol < length b.g1.names) b.lexemes l ranges.symbols among

  all_known : (symbols : List ℕ) → ((s : ℕ) → Contains symbols s → Known s) → All Known symbols
  all_known symbols each = All-weaker (Contains symbols) Known each symbols (All-contains_itself symbols)

  pub expected_known : (pieces : List Piece) (symbols : List ℕ) → AreExpected b pieces symbols → All Known symbols
  expected_known pieces symbols are =
      all_known symbols (λ s among. let (l, lexeme, is, next) = (are.exact s).0 among in subst Known is (row_known l lexeme))

  found_known : (text : List ℕ) (pieces : List Piece) (at : ℕ) (symbols : List ℕ) → AreFound b text pieces at symbols → All Known symbols
  found_known text pieces at symbols are =
      all_known symbols (λ s among. let f = (are.exact s).0 among in subst Known f.symbol_is (row_known f.row f.lexeme))

  pub stopped_known : (given text : List ℕ) (pieces : List Piece) (at : ℕ) (found expected : List ℕ) → IsReadingWith b given text pieces (Stopped at found expected) → All Known found × All Known expected
  stopped_known given text pieces at found expected (HasStopped reads below nothing none are_found are_expected) =
      (found_known text pieces at found are_found, expected_known pieces expected are_expected)

  pub stops_known : (given text : List ℕ) (recce : Recognizer) (spans : List Span) (ending : HeldEnding) (at : ℕ) (found expected : Vec ℕ Global) → ending ≡ Stops at found expected → IsReadingOfWith b given text recce spans ending →
      All Known found.items × All Known expected.items
  stops_known given text recce spans ending at found expected is read =
      stopped_known given text read.pieces at found.items expected.items (subst (λ (e : HeldEnding). IsReadingWith b given text read.pieces (ending_of e)) is read.is_reading)

  pub known_in : (w : Grammar) (xs ys : List ℕ) → w ≡ b.g1 → xs ≡ ys → All Known ys → All (λ s. s < length w.names) xs
  known_in w xs ys same is all = subst (λ (g : Grammar). All (λ s. s < length g.names) xs) (sym same) (subst (All Known) (sym is) all)

pub stop_told : (b : Built) (given text : List ℕ) (recce : Recognizer) (spans : List Span) (ending : HeldEnding) (at : ℕ) (found expected : Vec ℕ Global) → ending ≡ Stops at found expected → IsReadingOfWith b given text recce spans ending →
    (w : Grammar) (xs ys : List ℕ) → w ≡ b.g1 → xs ≡ found.items → ys ≡ expected.items → (t : List ℕ) → t ≡ stop_text w text at xs ys → (zs : List ℕ) → zs ≡ expected.items → IsStopText b given text t (Some (place_in text at)) zs
stop_told b given text recce spans ending at found expected is read w xs ys same is_found is_expected t told zs are =
    subst (IsStopText b given text t (Some (place_in text at))) (sym are) (record {
      pieces = read.pieces;
      at = at;
      found = found.items;
      reading = subst (λ (e : HeldEnding). IsReadingWith b given text read.pieces (ending_of e)) is read.is_reading;
      told = told ∙ cc (same, is_found, is_expected);
      place_is = refl;
    })

pub broken_input : (bytes text : List ℕ) (e : TextRefusal) (at : ℕ) → e ≡ BrokenText at → RefusesText bytes e → text ≡ codes "input is not UTF-8 at byte " ++ decimal at → (expected : List ℕ) → expected ≡ [] →
    IsBrokenText bytes text None expected
broken_input bytes text e at is refuses told expected none =
    let broken = subst (RefusesText bytes) is refuses in
    record { at = at; broken = broken.0; prefix = broken.1; told = told; place_is = refl; expected_is = none }

-- AN INPUT THAT IS REFUSED

pub input_weaker : (P Q : List ℕ → Option Place → List ℕ → Type 0) → ((t : List ℕ) (p : Option Place) (ss : List ℕ) → P t p ss → Q t p ss) → (r : Refusal) → TellsInput P r → TellsInput Q r
input_weaker P Q f (refusal.Grammar text place) tells = tells
input_weaker P Q f (refusal.Input text place expected) tells = f text.items place expected.items tells
input_weaker P Q f refusal.NoMemory tells = tells

module _ (b : Built) (given bytes text : List ℕ) (place : Option Place) (expected : List ℕ) where
  pub refused_long : input_limit given < length bytes → text ≡ longer_text (input_limit given) → place ≡ None → expected ≡ [] → IsInputRefusedAt b given bytes text place expected
  refused_long long told placed none = record { refused = TooLong long told; place_is = placed; expected_is = none }

  pub refused_broken : length bytes ≤ input_limit given → IsBrokenText bytes text place expected → IsInputRefusedAt b given bytes text place expected
  refused_broken within broken = record {
    refused = NotUtf8 broken.at (record { within = within; broken = broken.broken; prefix = broken.prefix }) broken.told;
    place_is = broken.place_is;
    expected_is = broken.expected_is;
  }

  pub refused_stop : length bytes ≤ input_limit given → IsUtf8 bytes → IsStopText b given (chars bytes) text place expected → IsInputRefusedAt b given bytes text place expected
  refused_stop within utf8 stop = record {
    refused = ReadingStops stop.pieces stop.at stop.found expected (record { within = within; utf8 = utf8 }) stop.reading stop.told;
    place_is = stop.place_is;
    expected_is = refl;
  }

-- what holds of the value that comes back holds of the result
pub same_ok : {T E : Type 0} (r : Result T E) (x : T) (P : T → Type 0) → IfOk r (λ y. y ≡ x) → P x → IfOk r P
same_ok (Ok y) x P is p = subst P (sym is) p
same_ok (Err e) x P is p = is

-- NAMES

pub name_is : (g : Grammar) (symbol : ℕ) (name : List ℕ) → slice_get g.names symbol ≡ Some name → name_of g symbol ≡ name
name_is g symbol name e = get_or_from_slice_get g.names symbol name [] e

flat_named : (g : Grammar) (symbols : List ℕ) → flat_map (λ n. codes ", " ++ n) (map (name_of g) symbols) ≡ flat_map (λ s. codes ", " ++ name_of g s) symbols
flat_named g [] = refl
flat_named g (s ∷ ss) = ap (λ rest. (codes ", " ++ name_of g s) ++ rest) (flat_named g ss)

pub names_after : (g : Grammar) (symbols : List ℕ) (first : ℕ) (text middle new : List ℕ) → 0 < length symbols → first ≡ get_or symbols 0 first → middle ≡ text ++ name_of g first →
    new ≡ middle ++ flat_map (λ s. codes ", " ++ name_of g s) (take (length symbols - 1) (drop 1 symbols)) → new ≡ text ++ names_text g symbols
names_after g [] first text middle new some is at e = absurd (omega (arith, some))
names_after g (s ∷ ss) first text middle new some is at e =
    e ∙ ap (λ rest. middle ++ flat_map (λ s. codes ", " ++ name_of g s) rest) (take_all (length (s ∷ ss) - 1) ss (omega arith))
    ∙ ap (λ l. l ++ flat_map (λ s. codes ", " ++ name_of g s) ss) (at ∙ ap (λ k. text ++ name_of g k) is)
    ∙ append_assoc text (name_of g s) (flat_map (λ s. codes ", " ++ name_of g s) ss)
    ∙ ap (λ rest. text ++ (name_of g s ++ rest)) (sym (flat_named g ss))
