-- Parts that end at one place, in order: those of one symbol over one span stand together, and the ranking keeps some of them.
use Rattle.std.specs.Prelude.{◌≡◌, ℕ, ◌+◌, ◌<◌, ◌≤◌, ℤ, pos, ◌≤ℤ◌, List, Option, Some, None, length, Contains, ◌↔◌, slice_get}
use Rattle.std.specs.List.Sorted.{IsStrictlySortedBy}
use Rattle.grammar_model.specs.declared.Ranking.{Ranking}
use Rattle.grammar_model.specs.declared.Ranking.TheVariants.{None as NoRanks, Rule as RuleRanks, High as HighRanks}
use Rattle.forest_parts.specs.declared.groups.Group.{Group}
use Rattle.forest_parts.specs.declared.parts.Part.{Part}
use Rattle.forest_parts.specs.declared.parts.RuleKey.{RuleKey}
use Rattle.forest_parts.specs.Parts.{part_cmp, part_at}

-- parts that end at one place derive the same symbol over the same span
abbrev pub IsSameSpan : Part → Part → Type 0
IsSameSpan p q = (p.symbol ≡ q.symbol) × (p.length ≡ q.length)

-- the rank of a whole rule
abbrev pub rank_in : Option RuleKey → ℤ
rank_in None = pos 0
rank_in (Some key) = (key.rank).0

-- the ranking keeps the part, where another is the first of those over the same span
abbrev pub IsKept : Ranking → (part first : Part) → Type 0
IsKept NoRanks part first = Unit {0}
IsKept RuleRanks part first = Unit {0}
IsKept HighRanks part first = rank_in part.whole ≡ rank_in first.whole

-- of parts over one span those of a higher rank come first
abbrev pub RanksFall : List Part → Type 0
RanksFall parts = (i j : ℕ) → i < j → j < length parts → IsSameSpan (part_at parts i) (part_at parts j) → rank_in (part_at parts j).whole ≤ℤ rank_in (part_at parts i).whole

-- parts over one span: all of them that there are and that the ranking keeps
pub record IsSpan (ranking : Ranking) (all parts : List Part) : Type 0 where
  pub some : 0 < length parts
  pub sorted : IsStrictlySortedBy part_cmp parts
  pub exact : (p : Part) → Contains parts p ↔ (Contains all p × (p.symbol ≡ (part_at parts 0).symbol) × (p.length ≡ (part_at parts 0).length) × IsKept ranking p (part_at parts 0))
  pub best : (p : Part) → Contains all p → p.symbol ≡ (part_at parts 0).symbol → p.length ≡ (part_at parts 0).length → rank_in p.whole ≤ℤ rank_in (part_at parts 0).whole

-- those of the parts that derive the symbol from the start and that the ranking keeps
pub record IsGroup (ranking : Ranking) (end : ℕ) (parts : List Part) (g : Group) : Type 0 where
  pub some : g.first < g.past
  pub within : g.past ≤ length parts
  pub each : (i : ℕ) → g.first ≤ i → i < g.past → ((part_at parts i).symbol ≡ g.symbol) × (g.start + (part_at parts i).length ≡ end)
  pub kept : (i : ℕ) → g.first ≤ i → i < g.past → IsKept ranking (part_at parts i) (part_at parts g.first)
  pub all : (i : ℕ) → i < length parts → (part_at parts i).symbol ≡ g.symbol → g.start + (part_at parts i).length ≡ end → (g.first ≤ i) × (IsKept ranking (part_at parts i) (part_at parts g.first) → i < g.past)

-- each part is in a group, and of two groups of one symbol the first begins later
pub record AreGroups (ranking : Ranking) (end : ℕ) (parts : List Part) (groups : List Group) : Type 0 where
  pub are : (g : Group) → Contains groups g → IsGroup ranking end parts g
  pub all : (p : Part) → Contains parts p → (k : ℕ) × (g : Group) × (slice_get groups k ≡ Some g) × (g.symbol ≡ p.symbol) × (g.start + p.length ≡ end)
  pub order : (i j : ℕ) (g h : Group) → i < j → slice_get groups i ≡ Some g → slice_get groups j ≡ Some h → g.symbol ≡ h.symbol → h.start < g.start
