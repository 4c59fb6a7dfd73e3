-- Items packed into numbers: the number of a dotted rule in the order of rows, and an origin.
use Rattle.std.specs.Prelude.{◌≡◌, ◌≢◌, ℕ, ◌+◌, ◌/◌, ◌%◌, ◌++◌, ◌<◌, ◌≤◌, ◌^◌, ◌↔◌, List, length, map, Some, slice_get, slice_index_or, Contains}
use Rattle.kernels.specs.Slots.{Rises}
use Rattle.recognizer_model.specs.declared.Item.{Item}
use Rattle.recognizer_model.specs.Flat.{FlatGrammar, rhs_of, part_of}
use Rattle.item_rows.specs.Kept.{IsItem, StandsForTerminal}
use Rattle.item_rows.specs.declared.dotted.Span.{Span}

-- the dotted rules of a flat grammar, in the order of rows
pub record Dotted : Type 0 where
  pub flat : FlatGrammar
  pub rules : List Item

abbrev pub no_item : Item
no_item = record { rule = 0; dot = 0; origin = 0 }

abbrev pub dotted_at : List Item → ℕ → Item
dotted_at rules k = slice_index_or rules k no_item

-- the dotted rule of that number, and the origin
abbrev pub unpacked : List Item → ℕ → Item
unpacked rules n = record { rule = (dotted_at rules (n / 4294967296)).rule; dot = (dotted_at rules (n / 4294967296)).dot; origin = n % 4294967296 }

abbrev pub IsPacked : List Item → (n : ℕ) → Item → Type 0
IsPacked rules n item = (n / 4294967296 < length rules) × (unpacked rules n ≡ item)

-- packed items in order, each once, with dotted rules of so many
pub record IsPackedRow (count : ℕ) (row : List ℕ) : Type 0 where
  pub rises : Rises row
  pub within : (n : ℕ) → Contains row n → n / 4294967296 < count

-- numbers of dotted rules in order, each once, of so many
pub record AreDotted (count : ℕ) (numbers : List ℕ) : Type 0 where
  pub rises : Rises numbers
  pub within : (k : ℕ) → Contains numbers k → k < count

-- the dotted rule of that number, begun at the place
abbrev pub begun_at : List Item → (earleme : ℕ) → ℕ → Item
begun_at rules earleme k = record (dotted_at rules k) { origin = earleme }

-- the items that are packed, and the dotted rules that begin at the place
abbrev pub row_items : List Item → (earleme : ℕ) → (packed begun : List ℕ) → List Item
row_items rules earleme packed begun = map (unpacked rules) packed ++ map (begun_at rules earleme) begun

-- no item stands in both parts
pub record IsRowOfParts (rules : List Item) (earleme : ℕ) (packed begun : List ℕ) : Type 0 where
  pub first : IsPackedRow (length rules) packed
  pub second : AreDotted (length rules) begun
  pub apart : (n k : ℕ) → Contains packed n → Contains begun k → unpacked rules n ≢ begun_at rules earleme k

-- dotted rules with different numbers are different
abbrev pub DifferInDots : List Item → Type 0
DifferInDots rules = (j k : ℕ) → j < length rules → k < length rules → (dotted_at rules j).rule ≡ (dotted_at rules k).rule → (dotted_at rules j).dot ≡ (dotted_at rules k).dot → j ≡ k

-- exactly the dotted rules of a kind
pub record IsSpanOf (Kind : (rule dot : ℕ) → Type 0) (rules : List Item) (span : Span) : Type 0 where
  pub order : span.start ≤ span.end
  pub exact : (k : ℕ) → k < length rules → ((span.start ≤ k) × (k < span.end)) ↔ Kind (dotted_at rules k).rule (dotted_at rules k).dot

-- exactly the dotted rules that wait for the symbol
abbrev pub IsSpan : FlatGrammar → List Item → (symbol : ℕ) → Span → Type 0
IsSpan g rules symbol span = IsSpanOf (λ rule dot. part_of g rule dot ≡ Some symbol) rules span

-- exactly those with the dot at the end
abbrev pub IsWholeSpan : FlatGrammar → List Item → Span → Type 0
IsWholeSpan g rules span = IsSpanOf (λ rule dot. dot ≡ length (rhs_of g rule)) rules span

-- exactly those that wait for terminals
abbrev pub IsTerminalSpan : FlatGrammar → List Item → Span → Type 0
IsTerminalSpan g rules span = IsSpanOf (λ rule dot. (x : ℕ) × (part_of g rule dot ≡ Some x) × StandsForTerminal g x) rules span

-- the dotted rules of a span in each part of a row
pub record AreWithin (packed begun : List ℕ) (span : Span) (own others : List ℕ) : Type 0 where
  pub own_rises : Rises own
  pub own_exact : (n : ℕ) → Contains own n ↔ (Contains packed n × (span.start ≤ n / 4294967296) × (n / 4294967296 < span.end))
  pub others_rise : Rises others
  pub others_exact : (k : ℕ) → Contains others k ↔ (Contains begun k × (span.start ≤ k) × (k < span.end))

pub record AreSpans (g : FlatGrammar) (rules : List Item) (spans : List Span) (count : ℕ) : Type 0 where
  pub all : length spans ≡ count
  pub are : (x : ℕ) (span : Span) → slice_get spans x ≡ Some span → IsSpan g rules x span

-- the first dotted rules of a rule after those that were listed
pub record AddsDots (rule count : ℕ) (old new : List Item) : Type 0 where
  pub size : length new ≡ length old + count
  pub before : (k : ℕ) → k < length old → slice_get new k ≡ slice_get old k
  pub dots : (d : ℕ) → d < count → slice_get new (length old + d) ≡ Some (record { rule = rule; dot = d; origin = 0 })

-- where an item is listed, rule by rule
pub record IsListedAt (listed : List Item) (firsts : List ℕ) (item : Item) (k : ℕ) : Type 0 where
  pub first : ℕ
  pub begins : slice_get firsts item.rule ≡ Some first
  pub at : k ≡ first + item.dot
  pub is : slice_get listed k ≡ Some (record item { origin = 0 })

-- the dotted rules of the first rules are listed
pub record AreListed (g : FlatGrammar) (listed : List Item) (firsts : List ℕ) (count : ℕ) : Type 0 where
  pub told : (k : ℕ) (item : Item) → slice_get listed k ≡ Some item → IsListedAt listed firsts item k × (item.origin ≡ 0) × (item.dot ≤ length (rhs_of g item.rule))
  pub there : (item : Item) → item.rule < count → item.dot ≤ length (rhs_of g item.rule) → (k : ℕ) × IsListedAt listed firsts item k

-- the numbers of what is listed
abbrev pub AreNumbers : (listed rules : List Item) → List ℕ → Type 0
AreNumbers listed rules numbers = (k : ℕ) (item : Item) → slice_get listed k ≡ Some item → (n : ℕ) × (slice_get numbers k ≡ Some n) × (slice_get rules n ≡ Some item)

-- a dotted rule by its rule and its dot
pub record IsNumbered (rules : List Item) (firsts numbers : List ℕ) (item : Item) : Type 0 where
  pub first : ℕ
  pub begins : slice_get firsts item.rule ≡ Some first
  pub number : ℕ
  pub has_number : slice_get numbers (first + item.dot) ≡ Some number
  pub is : slice_get rules number ≡ Some (record item { origin = 0 })

-- the tables of the dotted rules of a grammar
pub record IsTable (g : FlatGrammar) (rules : List Item) (firsts numbers : List ℕ) (spans : List Span) (whole scanned : Span) : Type 0 where
  pub few : length rules < 2 ^ 32
  pub differ : DifferInDots rules
  pub all : (item : Item) → IsItem g item → IsNumbered rules firsts numbers item
  pub each : (k : ℕ) → k < length rules → IsNumbered rules firsts numbers (dotted_at rules k)
  pub by_symbol : AreSpans g rules spans (length g.symbols)
  pub at_end : IsWholeSpan g rules whole
  pub first : IsTerminalSpan g rules scanned
