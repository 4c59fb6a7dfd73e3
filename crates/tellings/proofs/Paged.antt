-- What a forest tells of the derivations after a place.
use Rattle.std.proofs.Common.{◌≡◌, ℕ, ◌+◌, ◌*◌, ◌<◌, ◌≤◌, length, codes, List, [], ◌∷◌, ◌++◌, Option, Contains, take, refl, sym, ap, subst, inl, inr, arith, slice_index_or}
use Rattle.std.specs.List.{concat, sum_by}
use Rattle.std.specs.Io.KnownBytes.{Appends}
use Rattle.outside_model.specs.Told.{AppendsPrefix}
use Rattle.finite_sets.proofs.Lists.{Contains-none}
use Rattle.grammar_model.specs.Grammar.{Grammar, slot_of}
use Rattle.grammar_model.specs.Trees.{Tree}
use Rattle.grammar_model.specs.Derives.{Held, Derives}
use Rattle.grammar_model.specs.Checked.{IsChecked}
use Rattle.grammar_model.specs.declared.Ranking.{Ranking}
use Rattle.grammar_model.specs.declared.Show.{Show}
use Rattle.grammar_core.specs.Written.{IsWritten}
use Rattle.grammar_core.specs.declared.steps.Span.{Span}
use Rattle.cursor_model.specs.Rest.{IsPlaceOf, NamesNone}
use Rattle.recognizer_model.specs.Links.{choices}
use Rattle.earley_sets.specs.Recognizer.{Recognizer, IsRecognizer}
use Rattle.earley_sets.specs.Counted.{TakesAtMost}
use Rattle.forest_model.specs.Forest.{Forest, IsForest}
use Rattle.forest_model.specs.Listing.{IsListing}
use Rattle.language_model.specs.Building.{Built}
use Rattle.reading_model.specs.Reading.{Piece, End, edges_of, earleme_after}
use Rattle.reading_model.proofs.One.{reading_is_one}
use Rattle.scanless.specs.Reading.{HoldsPieces, IsReadingOfWith}
use Rattle.scanless.specs.declared.reading.Ending.TheVariants.{End as AtEnd}
use Rattle.words_model.specs.Words.{MoreAsked}
use Rattle.words_model.specs.Words.Telling.{More}
use Rattle.run_model.specs.Listing.{AreDerivations, first_of, beyond}
use Rattle.run_model.specs.More.{last_steps, page_lines}
use Rattle.run_model.specs.Outside.{Stream}
use Rattle.run_model.specs.Steps.{IsWithinLooks}
use Rattle.run_model.specs.Telling.{Outcome, TellsMore, done, refused}
use Rattle.run_model.specs.Telling.TellsMore.{Ungiven, NoPlace, GoesOn}
use Rattle.run_model.proofs.Units.{units}
use Rattle.value_lines.specs.Lines.{IsForestOf}
use Rattle.value_lines.specs.Paging.{PageHas, PageStops}
use Rattle.value_lines.specs.declared.page.PageRefusal.{PageRefusal}
use Rattle.value_lines.specs.declared.page.PageRefusal.TheVariants as unpaged
use Rattle.text_reading.specs.declared.refusal.Place.{Place}
use Rattle.text_reading.specs.Refusals.{IsNoDerivation}
use Rattle.text_reading.proofs.Derived.{listed, some_listing}
use Rattle.tellings.specs.Places.{TellsNoPlace}
use Rattle.tellings.specs.Refusals.{IsPageStop}
use Rattle.tellings.specs.Stops.{Does, WriteStops, IsPrefix, AppendsPrefixOf}
use Rattle.tellings.specs.Stops.IsPrefix.{Nothing}
use Rattle.tellings.specs.Telling.{TellsReading, HasForest, GoesOnWithin}
use Rattle.text_reading.specs.Parts.{BuildsWithin}
use Rattle.tellings.specs.declared.stop.Refusal.TheVariants.{Usage, Grammar as BadGrammar, Input as BadInput}
use Rattle.tellings.specs.declared.stop.Stop.{Stop}
use Rattle.tellings.specs.declared.stop.Stop.TheVariants.{Refused, OpenFault, ReadFault, WriteFault, NoMemory}
use Rattle.tellings.proofs.Placed.{none_told}
use Rattle.tellings.proofs.Stopping.{lines_done, lines_stop}
use Rattle.tellings.proofs.Within.{within}

-- NO PLACE

module _ (b : Built) (written : IsWritten b.g1) (checked : IsChecked b.g1) (cs : List ℕ) (spans : List Span) (f : Forest) (pieces : List Piece) (of : IsForestOf b cs spans f pieces) where
  start_known : slice_index_or b.g1.starts 0 0 < length b.g1.names
  start_known = written.starts_known 0 0 checked.some_start

  -- what the forest lists are derivations of the pieces
  derived : (t : Tree) → Derives f.written (Held f.edges) (slot_of (slice_index_or f.written.starts f.start 0)) 0 f.place t
      → Derives b.g1 (Held (edges_of pieces)) (slot_of (slice_index_or b.g1.starts 0 0)) 0 (earleme_after pieces) t
  derived t d =
      subst (λ n. Derives b.g1 (Held (edges_of pieces)) (slot_of (slice_index_or b.g1.starts n 0)) 0 (earleme_after pieces) t) of.start
      (subst (λ n. Derives b.g1 (Held (edges_of pieces)) (slot_of (slice_index_or b.g1.starts f.start 0)) 0 n t) of.place
      (subst (λ es. Derives b.g1 (Held es) (slot_of (slice_index_or b.g1.starts f.start 0)) 0 f.place t) of.edges
      (subst (λ (g : Grammar). Derives g (Held f.edges) (slot_of (slice_index_or g.starts f.start 0)) 0 f.place t) of.written d)))

  pub none_named : (text : List ℕ) → TellsNoPlace text → (trees : List Tree) → IsListing f trees → NamesNone trees text
  none_named text lacks trees l =
      none_told b.g1 (edges_of pieces) (units pieces) (slot_of (slice_index_or b.g1.starts 0 0)) (earleme_after pieces) trees (λ t among. derived t ((l.each t).0 among).0)
      text written start_known lacks

-- WHAT IS TOLD

module _ (asked : MoreAsked) (b : Built) (lexemes cs : List ℕ) (spans : List Span) (f : Forest) (has : HasForest b lexemes asked.ranking cs spans f) (is : IsForest f) where
  abbrev Told : Outcome → Type 0
  Told = TellsReading (More asked) b lexemes cs

  abbrev page : List Tree → List (List ℕ)
  page rest = page_lines b asked.show asked.first asked.after cs has.pieces rest

  abbrev Paged : (List ℕ → Type 0) → Type 0
  Paged P = PageHas b asked.show asked.first asked.after cs spans f P

  rest_told : (trees given rest : List Tree) → IsListing f trees → IsPlaceOf asked.after trees given rest → Told (done (page rest))
  rest_told trees given rest l place = record { pieces = has.pieces; reading = has.reading; tells = by trees (listed b lexemes asked.ranking cs spans f has trees l) place }
    where
      by : (ts : List Tree) → AreDerivations b asked.ranking has.pieces ts → IsPlaceOf asked.after ts given rest → TellsMore asked b cs has.pieces (done (page rest))
      by [] all place = absurd (Contains-none has.tree ((all.each has.tree).1 has.chosen))
      by (t ∷ ts) all place = GoesOn t ts rest all (given, place) refl

  no_place_told : (text : List ℕ) → text ≡ codes "the cursor names no derivation" → ((trees : List Tree) → IsListing f trees → NamesNone trees asked.after) → Told (refused 1 text)
  no_place_told text is_text none =
      let (trees, l) = some_listing b lexemes asked.ranking cs spans f has is in
      record { pieces = has.pieces; reading = has.reading; tells = by trees (listed b lexemes asked.ranking cs spans f has trees l) (none trees l) }
    where
      by : (ts : List Tree) → AreDerivations b asked.ranking has.pieces ts → NamesNone ts asked.after → TellsMore asked b cs has.pieces (refused 1 text)
      by [] all names = absurd (Contains-none has.tree ((all.each has.tree).1 has.chosen))
      by (t ∷ ts) all names = NoPlace t ts all names (ap (refused 1) is_text)

  pub more_done : (before after : Option (List ℕ)) → Paged (λ text. Appends before after text) → Does Told before after
  more_done before after text =
      let (trees, given, rest, l, place, written) = text has.pieces has.of in
      lines_done Told (page rest) (rest_told trees given rest l place) before after written

  -- nothing was written, or a prefix of the page
  pub part_stop : (before after : Stream) (stop : Stop) → Paged (λ text. AppendsPrefix before.bytes after.bytes text) → stop ≡ NoMemory → WriteStops Told before after stop
  part_stop before after stop text is_stop =
      let (trees, given, rest, l, place, part) = text has.pieces has.of in
      subst (WriteStops Told before after) (sym is_stop) (lines_stop Told (page rest) (rest_told trees given rest l place) before after NoMemory part)

  nothing : (before after : Stream) → Appends before.bytes after.bytes [] → AppendsPrefixOf Told before.bytes after.bytes
  nothing before after none = record { text = []; prefix = Nothing refl; appends = none }

  refused_stop : (before after : Stream) (stop : Stop) → ((trees : List Tree) → IsListing f trees → NamesNone trees asked.after) → Appends before.bytes after.bytes []
      → IsPageStop unpaged.NoSuchPlace stop → WriteStops Told before after stop
  refused_stop before after (Refused Usage) none empty stops = absurd stops
  refused_stop before after (Refused (BadGrammar text)) none empty stops = absurd stops
  refused_stop before after (Refused (BadInput text)) none empty stops = (no_place_told text.items stops none, empty)
  refused_stop before after (OpenFault name) none empty stops = absurd stops
  refused_stop before after ReadFault none empty stops = absurd stops
  refused_stop before after WriteFault none empty stops = absurd stops
  refused_stop before after NoMemory none empty stops = nothing before after empty

  pub more_stop : (before after : Stream) (refusal : PageRefusal) (stop : Stop) → PageStops b asked.show asked.first asked.after cs spans f before after refusal → IsPageStop refusal stop
      → WriteStops Told before after stop
  more_stop before after unpaged.NoSuchPlace stop (none, empty) stops = refused_stop before after stop none empty stops
  more_stop before after unpaged.WriteFault stop text stops =
      let (trees, given, rest, l, place, part) = text has.pieces has.of in
      subst (WriteStops Told before after) (sym stops) (lines_stop Told (page rest) (rest_told trees given rest l place) before after WriteFault part)
  more_stop before after unpaged.NoMemory stop (inl empty) stops = subst (WriteStops Told before after) (sym stops) (nothing before after empty)
  more_stop before after unpaged.NoMemory stop (inr text) stops = part_stop before after stop text stops

  -- STEPS

  moved : (pieces : List Piece) (looks extra before after : ℕ) → IsWithinLooks b asked.ranking pieces (extra + looks) before after → IsWithinLooks b asked.ranking pieces looks (before + extra) after
  moved pieces looks extra before after w = record {
    flat = w.flat;
    is = w.is;
    of = w.of;
    top = w.top;
    top_is = w.top_is;
    few = λ links pairs expanded l p e. (let few = w.few links pairs expanded l p e in omega (arith, few));
    needed = λ links pairs hidden l p h. (let few = w.needed links pairs hidden l p h in omega (arith, few));
  }

  pub more_within : (recce : Recognizer) (held_spans : List Span) → IsRecognizer recce → IsReadingOfWith b lexemes cs recce held_spans AtEnd → (read built after : ℕ)
      → BuildsWithin b.g1 asked.ranking recce read built
      → ((trees given rest : List Tree) → IsListing f trees → IsPlaceOf asked.after trees given rest →
      after ≤ built + 7 * last_steps given + sum_by choices (first_of asked.first rest ++ take 1 (beyond asked.first rest)))
      → (trees given rest : List Tree) → IsListing f trees → IsPlaceOf asked.after trees given rest → GoesOnWithin (More asked) b lexemes cs recce read after
  more_within recce held_spans recognizes reading read built after builds gives trees given rest l place =
      let (same, ends) = reading_is_one b lexemes cs reading.pieces has.pieces End End reading.is_reading has.reading in
      let holds : HoldsPieces b has.pieces recce = subst (λ (ps : List Piece). HoldsPieces b ps recce) same reading.holds in
      let looks : ℕ = sum_by choices (first_of asked.first rest ++ take 1 (beyond asked.first rest)) in
      let few = gives trees given rest l place in
      record {
        pieces = has.pieces;
        reading = has.reading;
        within = λ before reads. record {
          trees = trees;
          all = listed b lexemes asked.ranking cs spans f has trees l;
          given = given;
          rest = rest;
          place = place;
          within = moved has.pieces looks (7 * last_steps given) before after
              (within b recce recognizes has.pieces holds asked.ranking (7 * last_steps given + looks) before read built after reads builds (omega (arith, few)));
        };
      }

-- NO DERIVATION

pub none_more : (asked : MoreAsked) (b : Built) (lexemes cs text : List ℕ) (place : Option Place) (expected : List ℕ) → IsNoDerivation b lexemes asked.ranking cs text place expected → TellsReading (More asked) b lexemes cs (refused 1 text)
none_more asked b lexemes cs text place expected is = record { pieces = is.pieces; reading = is.reading; tells = Ungiven expected is.none is.are (ap (refused 1) is.told) }
