-- The first derivation that was found is that of what is read, and can be played.
use Rattle.std.proofs.Common.{◌≡◌, ℕ, ◌+◌, ◌<◌, ◌≤◌, ◌^◌, Bool, true, List, [], ◌∷◌, None, Some, All, length, map, drop, ap, refl}
use Rattle.std.proofs.lemmas.List.Elements.{All-weaker}
use Rattle.grammar_model.specs.Checked.{IsChecked}
use Rattle.grammar_model.specs.Steps.{Step}
use Rattle.grammar_model.specs.declared.Ranking.{Ranking}
use Rattle.std.specs.declared.vec.Vec.{Vec}
use Rattle.std.specs.declared.alloc.Global.{Global}
use Rattle.grammar_core.specs.declared.steps.Span.{Span}
use Rattle.grammar_core.specs.declared.steps.TreeStep.{TreeStep}
use Rattle.grammar_core.specs.Steps.{step_of}
use Rattle.scanless.specs.declared.reading.Ending.TheVariants.{End}
use Rattle.language_model.specs.Building.{Built}
use Rattle.dsl_build.specs.Ranges.{IsInRange}
use Rattle.earley_sets.specs.Recognizer.{Recognizer}
use Rattle.first_walk.specs.Place.{reading_of}
use Rattle.forest_model.specs.Forest.{Forest}
use Rattle.valuator.specs.Play.{AreSpans}
use Rattle.value_lines.proofs.Fitting as fitting
use Rattle.value_lines.proofs.Playing.{spans_fit}
use Rattle.text_reading.specs.Parts.{HasFirst, HasOnly, ForGiven}
use Rattle.text_reading.proofs.Derived.{listed}
use Rattle.slif_parser.specs.Views.{Read, IsHeld, CanBePlayed}
use Rattle.slif_parser.specs.Readings.{IsFirst}

module _ (b : Built) (checked : IsChecked b.g1) (ranges : IsInRange b) (lexemes : List ℕ) (ranking : Ranking) (cs : List ℕ) (spans : List Span) (recce : Recognizer) (steps : List Step) (alone : Bool)
    (has : HasFirst b lexemes ranking cs spans recce steps alone) where
  abbrev f : Forest
  f = reading_of b.g1 ranking recce

  pub played : CanBePlayed b cs spans steps
  played = record {
    lie = fitting.spans_are b checked ranges cs spans f has.has.pieces has.has.of;
    told = fitting.asked_fits b checked ranges cs spans f has.has.pieces has.has.of (Some 1) steps
        (record { tree = has.first.tree; others = has.first.others; listing = has.first.listing; alone = refl; steps_are = has.first.is });
  }

  abbrev r : Read
  r = record { grammar = b; lexemes = lexemes; characters = cs; spans = spans }

  pub found : IsFirst r ranking (record { read = r; steps = steps; only = alone })
  found = record {
    read_is = refl;
    tree = has.first.tree;
    others = has.first.others;
    all = record { pieces = has.has.pieces; reading = has.has.reading; all = listed b lexemes ranking cs spans f has.has (has.first.tree ∷ has.first.others) has.first.listing };
    steps_are = has.first.is;
    only = has.first.only;
  }

module _ (b : Built) (checked : IsChecked b.g1) (ranges : IsInRange b) (lexemes : List ℕ) (ranking : Ranking) (cs : List ℕ) (spans : List Span) (recce : Recognizer) (steps : List Step)
    (has : HasOnly b lexemes ranking None cs spans recce steps) where
  pub only_played : CanBePlayed b cs spans steps
  only_played = record {
    lie = fitting.spans_are b checked ranges cs spans (reading_of b.g1 ranking recce) has.has.pieces has.has.of;
    told = fitting.asked_fits b checked ranges cs spans (reading_of b.g1 ranking recce) has.has.pieces has.has.of None steps has.asked;
  }

  abbrev only_read : Read
  only_read = record { grammar = b; lexemes = lexemes; characters = cs; spans = spans }

  none_beside : has.asked.others ≡ []
  none_beside = ap (drop 1) has.asked.alone

  pub only_found : IsFirst only_read ranking (record { read = only_read; steps = steps; only = true })
  only_found = record {
    read_is = refl;
    tree = has.asked.tree;
    others = has.asked.others;
    all = record { pieces = has.has.pieces; reading = has.has.reading; all = listed b lexemes ranking cs spans (reading_of b.g1 ranking recce) has.has (has.asked.tree ∷ has.asked.others) has.asked.listing };
    steps_are = has.asked.steps_are;
    only = (λ is. none_beside, λ none. refl);
  }

-- the only derivation was found, whatever lexemes were given
abbrev pub IsOnlyFound : Built → Ranking → List ℕ → Recognizer → List Span → Vec TreeStep Global → Type 0
IsOnlyFound b ranking cs recce spans list = ForGiven b cs recce spans End (λ given. HasOnly b given ranking None cs spans recce (map step_of list.items))

-- where tokens end is a number of 32 bits
pub ends_small : (count : ℕ) (spans : List Span) → AreSpans count spans → All (λ (s : Span). s.start + s.length < 4294967296) spans
ends_small count spans are = All-weaker (λ (s : Span). (s.start + s.length ≤ count) × (s.start + s.length < 2 ^ 32)) (λ (s : Span). s.start + s.length < 4294967296) (λ s p. p.1) spans are

pub spans_held : (b : Built) (lexemes cs : List ℕ) (recce : Recognizer) (spans : List Span) → IsHeld b lexemes cs recce spans → AreSpans (length cs) spans
spans_held b lexemes cs recce spans held = (spans_fit b lexemes cs held.reading.pieces spans held.few held.reading.is_reading held.reading.spans_are).0
