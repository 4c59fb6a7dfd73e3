-- Cycles. A cycle is a list of two or more slots, each of which can stand in a tree, where each leads to the next
-- while all beside it is nullable, and the last is the first again. Of all cycles one is shown: the least by its
-- first slot, then by its length, then slot by slot.
-- Source: the Libmarpa manual (cycles, which it calls loops); which one is shown is our own choice.
use Rattle.std.specs.Prelude.{◌≡◌, ◌≢◌, ℕ, ◌<◌, ◌≤◌, List, [], ◌∷◌, length, take, ◌-◌, slice_get}
use Rattle.std.specs.declared.cmp.Ordering.{Ordering}
use Rattle.std.specs.declared.cmp.Ordering.TheVariants.{Greater}
use Rattle.std.specs.Ordering.{ordering_then, nat_cmp}
use Rattle.std.specs.Cmp.Lexicographic.{slice_cmp}
use Rattle.grammar_model.specs.Grammar.{Grammar, Slot}
use Rattle.grammar_model.specs.Analysis.{IsAccessible, IsProductive, LeadsTo}

abbrev pub IsWalk : Grammar → List Slot → Type 0
IsWalk g [] = Unit {0}
IsWalk g (s ∷ []) = IsAccessible g s × IsProductive g s
IsWalk g (s ∷ t ∷ rest) = IsAccessible g s × IsProductive g s × LeadsTo g s t × IsWalk g (t ∷ rest)

pub record IsCycle (g : Grammar) (slots : List Slot) : Type 0 where
  pub long : 2 ≤ length slots
  pub walk : IsWalk g slots
  pub closed : slice_get slots 0 ≡ slice_get slots (length slots - 1)

abbrev pub IsCyclic : Grammar → Type 0
IsCyclic g = (slots : List Slot) × IsCycle g slots

abbrev pub slot_cmp : Slot → Slot → Ordering
slot_cmp s t = ordering_then (nat_cmp s.symbol t.symbol) (nat_cmp s.level t.level)

abbrev pub cycle_cmp : List Slot → List Slot → Ordering
cycle_cmp slots others =
    ordering_then (slice_cmp slot_cmp (take 1 slots) (take 1 others)) (ordering_then (nat_cmp (length slots) (length others)) (slice_cmp slot_cmp slots others))

-- the cycle that is shown
pub record IsLeastCycle (g : Grammar) (slots : List Slot) : Type 0 where
  pub cycle : IsCycle g slots
  pub least : (others : List Slot) → IsCycle g others → cycle_cmp slots others ≢ Greater

-- heights that fall along each step of a walk. Where there are some there is no cycle; a check that finds no cycle
-- finds heights, as the order in which a search through the slots comes to their end.
pub record HasHeights (g : Grammar) : Type 0 where
  pub height : Slot → ℕ
  pub falls : (s t : Slot) → IsAccessible g s → IsProductive g s → LeadsTo g s t → height t < height s

abbrev pub HeightsExcludeCycles : Type 0
HeightsExcludeCycles = (g : Grammar) → HasHeights g → IsCyclic g → ⊥
