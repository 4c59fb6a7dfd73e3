-- A grammar passes the check, or it has a refusal.
use Rattle.std.proofs.Common.{arith, ◌≡◌, ◌⊎◌, inl, inr, ℕ, ◌<◌, List, length, Contains}
use Rattle.grammar_model.specs.Grammar.{Grammar, Slot, slot_of}
use Rattle.grammar_model.specs.Analysis.{IsProductive}
use Rattle.grammar_model.specs.Cycles.{IsCyclic, IsLeastCycle, HasHeights}
use Rattle.grammar_model.specs.Checked.{IsChecked, IsLeft, StartsAreLeft, SequencesAreAlone, RulesDiffer, ItemsSpan, StartsAreProductive, IsLeastWith, IsShared, IsDuplicate, IsCountedNullable, IsFirstStart, Refusal, NoRules, NoStart, StartNotLhs, SequenceLhs, Duplicate, CountedNullable, UnproductiveStart, Cyclic, Refuses}
use Rattle.grammar_check.proofs.Clearing.{clear}
use Rattle.finite_sets.specs.Decided.{IsDecided}
use Rattle.finite_sets.proofs.Deciding.{negated}
use Rattle.grammar_laws.specs.Laws.{ChecksDecide}
use Rattle.grammar_laws.proofs.Tests.{productive_decided}
use Rattle.grammar_laws.proofs.Faults.{left_decided, first_start, least_shared, least_duplicate, least_counted}
use Rattle.grammar_laws.proofs.LeastCycles.{acyclic_or}

some_or : (n : ℕ) → (n ≡ 0) ⊎ (0 < n)
some_or n = grind arith

-- what is not refuted holds, where it is decided
holds : {P : Type 0} → IsDecided P → ((P → ⊥) → ⊥) → P
holds (inl p) h = p
holds (inr p) h = absurd (h p)

abbrev Outcome : Grammar → Type 0
Outcome g = IsChecked g ⊎ ((r : Refusal) × Refuses g r)

module _ (g : Grammar) where
  module _ (rules : 0 < length g.rules) where
    module _ (starts : 0 < length g.starts) where
      module _ (left : StartsAreLeft g) where
        module _ (alone : SequencesAreAlone g) where
          module _ (differ : RulesDiffer g) where
            module _ (span : ItemsSpan g) where
              on_cycles : StartsAreProductive g → ((xs : List Slot) × IsLeastCycle g xs) ⊎ ((IsCyclic g → ⊥) × HasHeights g) → Outcome g
              on_cycles productive (inl (xs, l)) =
                  inr (Cyclic xs, record { fault = l; first = clear g 8 (omega arith) (λ _. rules) (λ _. starts) (λ _. left) (λ _. alone) (λ _. differ) (λ _. span) (λ _. productive) })
              on_cycles productive (inr (acyclic, heights)) =
                  inl (record { some_rule = rules; some_start = starts; starts_left = left; sequences_alone = alone; rules_differ = differ; items_span = span; starts_productive = productive; acyclic = acyclic; heights = heights })

              on_productive : ((s : ℕ) × IsFirstStart g (λ s. IsProductive g (slot_of s) → ⊥) s) ⊎ ((s : ℕ) → Contains g.starts s → (IsProductive g (slot_of s) → ⊥) → ⊥) → Outcome g
              on_productive (inl (s, f)) =
                  inr (UnproductiveStart s, record { fault = f; first = clear g 7 (omega arith) (λ _. rules) (λ _. starts) (λ _. left) (λ _. alone) (λ _. differ) (λ _. span) (λ lt. absurd (omega (arith, lt))) })
              on_productive (inr none) = on_cycles (λ s c. holds (productive_decided g (slot_of s)) (none s c)) (acyclic_or g)

            on_items : ((i : ℕ) × ((i < length g.rules) × IsLeastWith (IsCountedNullable g) i)) ⊎ ItemsSpan g → Outcome g
            on_items (inl (i, f)) =
                inr (CountedNullable i, record { fault = f; first = clear g 6 (omega arith) (λ _. rules) (λ _. starts) (λ _. left) (λ _. alone) (λ _. differ) (λ lt. absurd (omega (arith, lt))) (λ lt. absurd (omega (arith, lt))) })
            on_items (inr span) = on_productive span (first_start g (λ s. IsProductive g (slot_of s) → ⊥) (λ s. negated (productive_decided g (slot_of s))))

          on_duplicates : ((i : ℕ) × ((i < length g.rules) × IsLeastWith (IsDuplicate g) i)) ⊎ RulesDiffer g → Outcome g
          on_duplicates (inl (i, f)) =
              inr (Duplicate i, record { fault = f; first = clear g 5 (omega arith) (λ _. rules) (λ _. starts) (λ _. left) (λ _. alone) (λ lt. absurd (omega (arith, lt))) (λ lt. absurd (omega (arith, lt))) (λ lt. absurd (omega (arith, lt))) })
          on_duplicates (inr differ) = on_items differ (least_counted g)

        on_shared : ((s : ℕ) × IsLeastWith (IsShared g) s) ⊎ SequencesAreAlone g → Outcome g
        on_shared (inl (s, f)) =
            inr (SequenceLhs s, record { fault = f; first = clear g 4 (omega arith) (λ _. rules) (λ _. starts) (λ _. left) (λ lt. absurd (omega (arith, lt))) (λ lt. absurd (omega (arith, lt))) (λ lt. absurd (omega (arith, lt))) (λ lt. absurd (omega (arith, lt))) })
        on_shared (inr alone) = on_duplicates alone (least_duplicate g)

      on_left : ((s : ℕ) × IsFirstStart g (λ s. IsLeft g s → ⊥) s) ⊎ ((s : ℕ) → Contains g.starts s → (IsLeft g s → ⊥) → ⊥) → Outcome g
      on_left (inl (s, f)) =
          inr (StartNotLhs s, record { fault = f; first = clear g 3 (omega arith) (λ _. rules) (λ _. starts) (λ lt. absurd (omega (arith, lt))) (λ lt. absurd (omega (arith, lt))) (λ lt. absurd (omega (arith, lt))) (λ lt. absurd (omega (arith, lt))) (λ lt. absurd (omega (arith, lt))) })
      on_left (inr none) = let left : StartsAreLeft g = λ s c. holds (left_decided g s) (none s c) in on_shared left (least_shared g)

    on_starts : (length g.starts ≡ 0) ⊎ (0 < length g.starts) → Outcome g
    on_starts (inl e) =
        inr (NoStart, record { fault = e; first = clear g 2 (omega arith) (λ _. rules) (λ lt. absurd (omega (arith, lt))) (λ lt. absurd (omega (arith, lt))) (λ lt. absurd (omega (arith, lt))) (λ lt. absurd (omega (arith, lt))) (λ lt. absurd (omega (arith, lt))) (λ lt. absurd (omega (arith, lt))) })
    on_starts (inr starts) = on_left starts (first_start g (λ s. IsLeft g s → ⊥) (λ s. negated (left_decided g s)))

  on_rules : (length g.rules ≡ 0) ⊎ (0 < length g.rules) → Outcome g
  on_rules (inl e) =
      inr (NoRules, record { fault = e; first = clear g 1 (omega arith) (λ lt. absurd (omega (arith, lt))) (λ lt. absurd (omega (arith, lt))) (λ lt. absurd (omega (arith, lt))) (λ lt. absurd (omega (arith, lt))) (λ lt. absurd (omega (arith, lt))) (λ lt. absurd (omega (arith, lt))) (λ lt. absurd (omega (arith, lt))) })
  on_rules (inr rules) = on_starts rules (some_or (length g.starts))

pub checks_decide : ChecksDecide
checks_decide g = on_rules g (some_or (length g.rules))
