-- The job's own grammar is accepted, and its own input is read to its end and has one derivation.
use Rattle.std.proofs.Common.{◌≡◌, inr, ℕ, zero, suc, ◌+◌, ◌*◌, ◌<◌, pos, [], ◌∷◌, length, chars, slice_index_or, Contains, sym, ◌∙◌, refl, subst, arith, lit<}
use Rattle.std.specs.List.Sorted.{IsStrictlySortedBy}
use Rattle.finite_sets.proofs.Lists.{Contains-none}
use Rattle.grammar_model.specs.declared.Ranking.{Ranking}
use Rattle.grammar_model.specs.Grammar.{slot_of, rule_at, rank_of}
use Rattle.grammar_model.specs.Trees.{Tree}
use Rattle.grammar_model.specs.Derives.{Held, Line, Derives}
use Rattle.grammar_model.specs.Chosen.{AreChosen}
use Rattle.grammar_model.proofs.ChosenOnce.{alike_chosen}
use Rattle.grammar_model.specs.declared.limits.TheConstants.{LONGEST_INPUT}
use Rattle.reading_model.specs.Reading.{End, HasEnded, IsReading, earleme_after, edges_of}
use Rattle.run_model.specs.Jobs.{work_grammar, work_input}
use Rattle.run_model.specs.Refused.{Accepted}
use Rattle.run_model.specs.Inputs.{IsRead}
use Rattle.work_laws.specs.Laws.{WorkHasOne}
use Rattle.work_laws.proofs.Text.{work_description, has_description}
use Rattle.work_laws.proofs.Building.{work_g1, work_built, is_built_of}
use Rattle.work_laws.proofs.Accepted.{is_accepted}
use Rattle.work_laws.proofs.Shapes.{IsRun, same_run, run_of, run_derives}
use Rattle.work_laws.proofs.Word.{word, word_length, word_stops, word_run}
use Rattle.work_laws.proofs.Pieces.{ones, place_after_ones, edges_of_ones, line_edges}
use Rattle.work_laws.proofs.Reading.{all_read}
use Rattle.work_laws.proofs.Input.{input_chars, input_utf8, input_length, input_spelled}

-- no rule of the grammar has a rank of its own
pub no_ranks : (i : ℕ) → rank_of (rule_at work_g1 i) ≡ pos 0
no_ranks zero = refl
no_ranks (suc zero) = refl
no_ranks (suc (suc zero)) = refl
no_ranks (suc (suc (suc zero))) = refl
no_ranks (suc (suc (suc (suc i)))) = refl

module _ (size : ℕ) where
  pub work_place : earleme_after (ones (word size)) ≡ 3 * size + 1
  work_place = place_after_ones (word size) ∙ word_length size

  line_derived : (t : Tree) × Derives work_g1 (Line (word size)) (slot_of 0) 0 (length (word size)) t
  line_derived =
      let (t, r) = word_run size in
      (t, subst (λ z. Derives work_g1 (Line (word size)) (slot_of 0) 0 z t) (sym (word_length size)) (run_derives (word size) (Line (word size)) (line_edges (word size)) r))

  pub work_read : IsReading work_built (chars (work_input size)) (ones (word size)) End
  work_read =
      subst (λ text. IsReading work_built text (ones (word size)) End) (sym (input_chars size))
      (HasEnded (all_read (word size) (work_input size) (input_spelled size) line_derived) (inr (λ symbol c may. Contains-none symbol c)))

  abbrev D : Tree → Type 0
  D = Derives work_g1 (Held (edges_of (ones (word size)))) (slot_of 0) 0 (earleme_after (ones (word size)))

  pub work_derivations : (ranking : Ranking) →
      (t : Tree) × AreChosen work_g1 (Held (edges_of (ones (word size)))) ranking (slot_of (slice_index_or work_g1.starts 0 0)) 0 (earleme_after (ones (word size))) (t ∷ [])
  unfolding IsStrictlySortedBy
  work_derivations ranking = (t, record { sorted = (tt, tt); each = λ u. ((λ c. (to u c, alike_chosen work_g1 (Held (edges_of (ones (word size)))) (pos 0) no_ranks ranking (slot_of 0) u)), (λ (d, c). from u d)) })
    where
      t : Tree
      t = (word_run size).0

      derived : D t
      derived = subst (λ z. Derives work_g1 (Held (edges_of (ones (word size)))) (slot_of 0) 0 z t) (sym work_place)
          (run_derives (word size) (Held (edges_of (ones (word size)))) (edges_of_ones (word size)) (word_run size).1)

      to : (u : Tree) → Contains (t ∷ []) u → D u
      to u (zero, lt, e) = subst D e derived
      to u (suc k, lt, e) = absurd (omega (arith, lt))

      from : (u : Tree) → D u → Contains (t ∷ []) u
      from u d =
          let r : IsRun (word size) 0 (3 * size + 1) u = subst (λ z. IsRun (word size) 0 z u) work_place (run_of (word size) (Held (edges_of (ones (word size)))) (edges_of_ones (word size)) u 0 (earleme_after (ones (word size))) d) in
          (0, lit< tt, (same_run (word_run size).1 r (word_stops size) (word_stops size)).1)

pub work_accepted : Accepted work_grammar work_built
work_accepted = record { description = work_description; has = has_description; built = is_built_of; accepted = is_accepted }

pub is_read : (size : ℕ) → 3 * size < LONGEST_INPUT → IsRead work_built [] (work_input size) (ones (word size))
is_read size few =
    let long = input_length size in
    let count = word_length size in
    record { text = record { within = omega (arith, few, long, count); utf8 = input_utf8 size }; reading = work_read size }

pub work_has_one : WorkHasOne
work_has_one size few = (work_built, work_accepted, (ones (word size), is_read size few, work_place size, work_derivations size))
