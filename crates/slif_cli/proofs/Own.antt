-- What job `work` comes to: its grammar is accepted, its input is read to its end, and it has one derivation.
use Rattle.std.proofs.Common.{◌≡◌, ℕ, ◌+◌, ◌*◌, ◌≤◌, List, [], ◌∷◌, ◌++◌, Option, replicate, length, take, refl, sym, ap, subst, ◌∙◌, length-append, arith, chars, IsUtf8, slice_index_or}
use Rattle.std.specs.List.{sum_by}
use Rattle.std.proofs.lemmas.List.{length-replicate, take_all}
use Rattle.std.proofs.lemmas.Str.{length-le-encodes, encodes-chars}
use Rattle.grammar_model.specs.Grammar.{slot_of}
use Rattle.grammar_model.specs.Trees.{Tree}
use Rattle.grammar_model.specs.Derives.{Held}
use Rattle.grammar_model.specs.declared.Ranking.{Ranking}
use Rattle.grammar_model.specs.declared.Ranking.TheVariants.{Rule as RuleRanks}
use Rattle.grammar_model.proofs.ChosenOnce.{chosen_unique}
use Rattle.grammar_model.specs.declared.limits.TheConstants.{LONGEST_INPUT}
use Rattle.grammar_core.specs.declared.steps.Span.{Span}
use Rattle.recognizer_model.specs.Links.{choices}
use Rattle.earley_sets.specs.Recognizer.{Recognizer, IsRecognizer}
use Rattle.earley_sets.specs.Counted.{TakesAtMost}
use Rattle.scanless.specs.Reading.{HoldsPieces, IsReadingOf}
use Rattle.scanless.specs.declared.reading.Ending.TheVariants.{End as AtEnd}
use Rattle.language_model.specs.Building.{Built}
use Rattle.reading_model.specs.Reading.{Piece, End, Stopped, IsReading, edges_of, earleme_after}
use Rattle.reading_model.proofs.One.{reading_is_one}
use Rattle.forest_model.specs.Forest.{Forest, IsForest}
use Rattle.forest_model.specs.Listing.{IsListing}
use Rattle.run_model.specs.Refused.{Accepted}
use Rattle.run_model.specs.Inputs.{IsInputText, IsRead}
use Rattle.run_model.specs.Listing.{AreDerivations}
use Rattle.run_model.specs.Numbers.{Numbers, HasNumbers}
use Rattle.run_model.specs.Jobs.{work_grammar, work_input}
use Rattle.run_model.specs.Telling.{work_line}
use Rattle.run_model.specs.Outcome.{IsWorkOutcome, done}
use Rattle.run_model.specs.Within.{WorkWithin}
use Rattle.run_model.proofs.Accepted.{one_built, not_refused}
use Rattle.work_laws.proofs.Working.{work_has_one}
use Rattle.text_reading.specs.Refusals.{TellsGrammar, TellsInput, IsRefusedAt, IsNoDerivation}
use Rattle.text_reading.specs.Parts.{IsBrokenText, IsStopText, HasForest, BuildsWithin}
use Rattle.text_reading.specs.declared.refusal.Place.{Place}
use Rattle.text_reading.specs.declared.refusal.Refusal.{Refusal}
use Rattle.text_reading.specs.declared.refusal.Refusal.TheVariants.{Grammar, Input, NoMemory}
use Rattle.slif_cli.proofs.GrammarLaws.{grammar_laws}
use Rattle.text_reading.proofs.Derived.{listed, some_listing}
use Rattle.tellings.proofs.Within.{within}

pub work_length : (n : ℕ) → length (work_input n) ≡ 3 * n + 1
work_length n =
    let letters = length-replicate {A = ℕ} n 97 in
    let opened = length-replicate {A = ℕ} n 40 in
    let closed = length-replicate {A = ℕ} n 41 in
    let back = length-append {A = ℕ} (replicate n 40) (97 ∷ replicate n 41) in
    let whole = length-append {A = ℕ} (replicate n 97) (replicate n 40 ++ (97 ∷ replicate n 41)) in
    omega (arith, letters, opened, closed, back, whole)

-- WHERE NOTHING IS REFUSED, only memory is wanting

pub grammar_memory : (P : List ℕ → Option Place → Type 0) → ((text : List ℕ) (place : Option Place) → P text place → ⊥) → (refusal : Refusal) → TellsGrammar P refusal → refusal ≡ NoMemory
grammar_memory P none (Grammar text place) tells = absurd (none text.items place tells)
grammar_memory P none (Input text place expected) tells = absurd tells
grammar_memory P none NoMemory tells = refl

pub input_memory : (P : List ℕ → Option Place → List ℕ → Type 0) → ((text : List ℕ) (place : Option Place) (expected : List ℕ) → P text place expected → ⊥) → (refusal : Refusal) → TellsInput P refusal → refusal ≡ NoMemory
input_memory P none (Grammar text place) tells = absurd tells
input_memory P none (Input text place expected) tells = absurd (none text.items place expected.items tells)
input_memory P none NoMemory tells = refl

-- THE GRAMMAR

pub own_accepted : (text : List ℕ) (place : Option Place) → IsRefusedAt work_grammar text place → ⊥
own_accepted text place at = let law = work_has_one 1 (omega arith) in not_refused grammar_laws work_grammar law.0 text law.1 at.refused

-- THE INPUT

-- an input that is read, with one derivation
abbrev IsOwn : (size : ℕ) → Built → List Piece → Type 0
IsOwn size b pieces = IsRead b [] (work_input size) pieces × ((ranking : Ranking) → (tree : Tree) × AreDerivations b ranking pieces (tree ∷ []))

module _ (size : ℕ) (sized : size ≤ 100000) where
  own_text : IsInputText LONGEST_INPUT (work_input size)
  own_text = let law = work_has_one size (omega (arith, sized)) in law.2.1.text

  pub own_utf8 : (bytes : List ℕ) → bytes ≡ work_input size → (text : List ℕ) (place : Option Place) (expected : List ℕ) → IsBrokenText bytes text place expected → ⊥
  own_utf8 bytes is text place expected broken = broken.broken (subst IsUtf8 (sym is) own_text.utf8)

  pub own_few : (cs : List ℕ) → cs ≡ chars (work_input size) → length cs ≤ LONGEST_INPUT
  own_few cs is =
      let bytes = work_input size in
      omega (arith, ap length is, length-le-encodes (chars bytes), ap length (encodes-chars bytes own_text.utf8), work_length size, sized)

  module _ (b : Built) (accepted : Accepted work_grammar b) where
    own : (pieces : List Piece) × IsOwn size b pieces
    own =
        let law = work_has_one size (omega (arith, sized)) in
        subst (λ (c : Built). (pieces : List Piece) × IsOwn size c pieces) (one_built grammar_laws work_grammar law.0 b law.1 accepted) (law.2.0, (law.2.1, law.2.3))

    module _ (cs : List ℕ) (is : cs ≡ chars (work_input size)) where
      own_reading : IsReading b cs own.0 End
      own_reading = subst (λ (l : List ℕ). IsReading b l own.0 End) (sym is) own.1.0.reading

      pub own_read : (text : List ℕ) (place : Option Place) (expected : List ℕ) → IsStopText b [] cs text place expected → ⊥
      own_read text place expected stop = let (same, ends) = reading_is_one b [] cs own.0 stop.pieces End (Stopped stop.at stop.found expected) own_reading stop.reading in absurd (cc ends)

      -- the one derivation
      only : (pieces : List Piece) → IsReading b cs pieces End → (ranking : Ranking) → (tree : Tree) × AreDerivations b ranking pieces (tree ∷ [])
      only pieces reading ranking =
          let (same, ends) = reading_is_one b [] cs own.0 pieces End End own_reading reading in
          subst (λ (ps : List Piece). (tree : Tree) × AreDerivations b ranking ps (tree ∷ [])) same (own.1.1 ranking)

      same_list : (ranking : Ranking) (pieces : List Piece) (ts us : List Tree) → AreDerivations b ranking pieces ts → AreDerivations b ranking pieces us → ts ≡ us
      same_list ranking pieces ts us p q =
          chosen_unique b.g1 (Held (edges_of pieces)) ranking (slot_of (slice_index_or b.g1.starts 0 0)) 0 (earleme_after pieces) ts us p q

      pub own_derived : (ranking : Ranking) (text : List ℕ) (place : Option Place) (expected : List ℕ) → IsNoDerivation b [] ranking cs text place expected → ⊥
      own_derived ranking text place expected none =
          let (tree, one) = only none.pieces none.reading ranking in
          let e : [] ≡ tree ∷ [] = same_list ranking none.pieces [] (tree ∷ []) none.none one in
          absurd (cc e)

      module _ (spans : List Span) (f : Forest) (has : HasForest b [] RuleRanks cs spans f) (forest : IsForest f) where
        one_counted : (n : ℕ) → ((trees : List Tree) → IsListing f trees → n ≡ length (take 4294967295 trees)) → n ≡ 1
        one_counted n counted =
            let (trees, l) = some_listing b [] RuleRanks cs spans f has forest in
            let (tree, one) = only has.pieces has.reading RuleRanks in
            let same = same_list RuleRanks has.pieces trees (tree ∷ []) (listed b [] RuleRanks cs spans f has trees l) one in
            counted trees l ∙ ap (λ (ts : List Tree). length (take 4294967295 ts)) same ∙ ap length (take_all 4294967295 (tree ∷ []) (omega arith))

        pub own_told : (numbers : Numbers) → HasNumbers b RuleRanks has.pieces numbers → (n : ℕ) → ((trees : List Tree) → IsListing f trees → n ≡ length (take 4294967295 trees)) → (line : List ℕ) →
            line ≡ work_line size numbers n → IsWorkOutcome size (done (line ∷ []))
        own_told numbers has_numbers n counted line told =
            let (tree, one) = only has.pieces has.reading RuleRanks in
            record {
              built = b;
              accepted = accepted;
              pieces = has.pieces;
              read = record { text = own_text; reading = subst (λ (l : List ℕ). IsReading b l has.pieces End) is has.reading };
              tree = tree;
              one = one;
              numbers = numbers;
              has = has_numbers;
              is = ap (λ l. done (l ∷ [])) (told ∙ ap (work_line size numbers) (one_counted n counted));
            }

        pub own_within : (recce : Recognizer) → IsRecognizer recce → (held_spans : List Span) → IsReadingOf b cs recce held_spans AtEnd → (before read built after : ℕ)
            → BuildsWithin b.g1 RuleRanks recce read built
            → ((trees : List Tree) → IsListing f trees → after ≤ built + sum_by choices (take 4294967295 trees))
            → TakesAtMost recce before read → WorkWithin b size before after
        own_within recce recognizes held_spans reading before read built after builds gives reads =
            let (trees, l) = some_listing b [] RuleRanks cs spans f has forest in
            let all = listed b [] RuleRanks cs spans f has trees l in
            let (tree, one) = only has.pieces has.reading RuleRanks in
            let same = same_list RuleRanks has.pieces trees (tree ∷ []) all one in
            let few : take 4294967295 trees ≡ trees = ap (λ (ts : List Tree). take 4294967295 ts) same ∙ take_all 4294967295 (tree ∷ []) (omega arith) ∙ sym same in
            let (pieces, ends) = reading_is_one b [] cs reading.pieces has.pieces End End reading.is_reading has.reading in
            let holds : HoldsPieces b has.pieces recce = subst (λ (ps : List Piece). HoldsPieces b ps recce) pieces reading.holds in
            record {
              pieces = has.pieces;
              read = record { text = own_text; reading = subst (λ (l : List ℕ). IsReading b l has.pieces End) is has.reading };
              within = record {
                trees = trees;
                all = all;
                within = within b recce recognizes has.pieces holds RuleRanks (sum_by choices trees) before read built after reads builds (subst (λ (ts : List Tree). after ≤ built + sum_by choices ts) few (gives trees l));
              };
            }
