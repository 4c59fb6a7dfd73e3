-- What a forest tells of the derivations of a reading.
use Rattle.std.proofs.Common.{Bool, true, false, Result, ◌≡◌, ℕ, ◌≤◌, List, [], ◌∷◌, ◌++◌, Option, refl, sym, ap, subst, ◌∙◌}
use Rattle.std.specs.Prelude.{IfErr}
use Rattle.std.specs.List.{concat}
use Rattle.std.specs.Io.KnownBytes.{Appends}
use Rattle.finite_sets.proofs.Lists.{Contains-none}
use Rattle.slif_base.proofs.Bytes.{appends_none}
use Rattle.grammar_model.specs.Trees.{Tree}
use Rattle.grammar_core.specs.declared.steps.Span.{Span}
use Rattle.forest_model.specs.Forest.{Forest}
use Rattle.forest_model.specs.Listing.{IsListing}
use Rattle.language_model.specs.Building.{Built}
use Rattle.words_model.specs.Words.{ValuesAsked}
use Rattle.run_model.specs.Listing.{AreDerivations}
use Rattle.run_model.specs.Numbers.{Numbers, HasNumbers}
use Rattle.words_model.specs.Words.Telling.{Values}
use Rattle.run_model.specs.Telling.{Outcome, TellsValues, value_lines, stats_line, stats_lines, done, refused}
use Rattle.run_model.specs.Telling.TellsValues.{NoDerivation, Derived}
use Rattle.run_model.specs.Outside.{Stream}
use Rattle.value_lines.specs.Writing.{TextHas, TextStops}
use Rattle.value_lines.specs.declared.writing.WriteRefusal.{WriteRefusal}
use Rattle.value_lines.specs.declared.writing.WriteRefusal.TheVariants.{WriteFault as WriteFailed, NoMemory as NoRoom}
use Rattle.text_reading.specs.declared.refusal.Place.{Place}
use Rattle.text_reading.specs.Refusals.{IsNoDerivation}
use Rattle.text_reading.proofs.Derived.{listed}
use Rattle.tellings.specs.Refusals.{write_stop}
use Rattle.tellings.specs.Stops.{Does, WriteStops, LinesStop}
use Rattle.tellings.specs.Telling.{TellsReading, HasForest}
use Rattle.tellings.specs.declared.stop.Stop.{Stop}
use Rattle.tellings.specs.declared.stop.Stop.TheVariants.{WriteFault, NoMemory}
use Rattle.tellings.proofs.Lines.{appends_both, prefix_of_both, stops_behind}
use Rattle.tellings.proofs.Stopping.{lines_done, lines_stop}

-- JOB run

module _ (asked : ValuesAsked) (b : Built) (given cs : List ℕ) (spans : List Span) (f : Forest) (has : HasForest b given asked.ranking cs spans f) (n : Numbers) (numbers : HasNumbers b asked.ranking has.pieces n) where
  abbrev Told : Outcome → Type 0
  Told = TellsReading (Values asked) b given cs

  abbrev values : List Tree → List (List ℕ)
  values = value_lines b asked cs has.pieces

  value_told : (trees : List Tree) → IsListing f trees → Told (done (values trees ++ stats_lines asked.stats n))
  value_told trees l = record { pieces = has.pieces; reading = has.reading; tells = by trees (listed b given asked.ranking cs spans f has trees l) }
    where
      by : (ts : List Tree) → AreDerivations b asked.ranking has.pieces ts → TellsValues asked b cs has.pieces (done (values ts ++ stats_lines asked.stats n))
      by [] all = absurd (Contains-none has.tree ((all.each has.tree).1 has.chosen))
      by (t ∷ ts) all = Derived t ts n all numbers refl

  -- the numbers were written after the values
  pub values_done : (before middle after : Option (List ℕ)) → TextHas b asked.show cs spans f asked.first (λ text. Appends before middle text) → Appends middle after (concat (stats_lines asked.stats n)) → Does Told before after
  values_done before middle after text more =
      let (trees, l, first) = text has.pieces has.of in
      lines_done Told (values trees ++ stats_lines asked.stats n) (value_told trees l) before after (appends_both (values trees) (stats_lines asked.stats n) before middle after first more)

  -- none were asked for
  pub only_done : asked.stats ≡ false → (before after : Option (List ℕ)) → TextHas b asked.show cs spans f asked.first (λ text. Appends before after text) → Does Told before after
  only_done off before after text = values_done before after after text (subst (λ s. Appends after after (concat (stats_lines s n))) (sym off) (appends_none after))

  -- they were not
  pub stats_stop : (before middle after : Stream) (stop : Stop) → TextHas b asked.show cs spans f asked.first (λ text. Appends before.bytes middle.bytes text) → before.faults ≤ middle.faults
      → LinesStop (stats_lines asked.stats n) middle after stop → WriteStops Told before after stop
  stats_stop before middle after stop text later stops =
      let (trees, l, first) = text has.pieces has.of in
      lines_stop Told (values trees ++ stats_lines asked.stats n) (value_told trees l) before after stop (stops_behind (values trees) (stats_lines asked.stats n) before middle after stop first later stops)

  pub values_stop : (before after : Stream) (refusal : WriteRefusal) → TextHas b asked.show cs spans f asked.first (λ text. TextStops before after refusal text) → WriteStops Told before after (write_stop refusal)
  values_stop before after WriteFailed text =
      let (trees, l, stops) = text has.pieces has.of in
      lines_stop Told (values trees ++ stats_lines asked.stats n) (value_told trees l) before after WriteFault (stops.0, prefix_of_both (values trees) (stats_lines asked.stats n) before.bytes after.bytes stops.1)
  values_stop before after NoRoom text =
      let (trees, l, stops) = text has.pieces has.of in
      lines_stop Told (values trees ++ stats_lines asked.stats n) (value_told trees l) before after NoMemory (prefix_of_both (values trees) (stats_lines asked.stats n) before.bytes after.bytes stops)

-- the line of the numbers that is asked for
pub asked_lines : (asked : Bool) → asked ≡ true → (line : List ℕ) (m n : Numbers) → line ≡ stats_line m → m ≡ n → line ∷ [] ≡ stats_lines asked n
asked_lines true on line m n is same = ap (λ l. l ∷ []) (is ∙ ap stats_line same)
asked_lines false on line m n is same = absurd (cc on)

-- NO DERIVATION

pub no_values : (asked : ValuesAsked) (b : Built) (given cs text : List ℕ) (place : Option Place) (expected : List ℕ) → IsNoDerivation b given asked.ranking cs text place expected → TellsReading (Values asked) b given cs (refused 1 text)
no_values asked b given cs text place expected is = record { pieces = is.pieces; reading = is.reading; tells = NoDerivation expected is.none is.are (ap (refused 1) is.told) }
