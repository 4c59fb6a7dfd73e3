-- What is always so of a flat grammar: what recognizers, forests and reports rest on.
-- Source: the Libmarpa manual (precomputation of grammars); the marks are Aycock and Horspool's (2002) nullable symbols.
use Rattle.std.specs.Prelude.{◌≡◌, ◌≢◌, ℕ, ◌<◌, ◌≤◌, ◌^◌, length, Some, slice_get}
use Rattle.recognizer_model.specs.Flat.{FlatGrammar, FlatSymbol, Terminal, Sequence, Slot, Top, FlatSource, Written, OfStart, IsRule, lhs_of, rhs_of, part_of, source_of, IsNullable}
use Rattle.recognizer_model.specs.Contexts.{IsTop}
use Rattle.recognizer_model.specs.Acceptable.{IsTerminal, IsProductive, MarksAreClosed, NoTerminalHasRules, TerminalsSpan}

-- a symbol is a top, or stands on the right side of a rule of an accessible one
pub data IsAccessible (f : FlatGrammar) : ℕ → Type 0 where
  Outermost : {x k : ℕ} → slice_get f.symbols x ≡ Some (Top k) → IsAccessible f x
  Below : {x r : ℕ} (position : ℕ) → IsRule f r → IsAccessible f (lhs_of f r) → part_of f r position ≡ Some x → IsAccessible f x

-- the only rule of a start's top, with the start alone on its right side
pub record IsTopOf (f : FlatGrammar) (start r : ℕ) : Type 0 where
  pub is_top : IsTop f r
  pub symbol : slice_get f.symbols (lhs_of f r) ≡ Some (Top start)
  pub source : source_of f r ≡ OfStart start
  pub one : length (rhs_of f r) ≡ 1

-- a rule of a slot or of a list comes from a written rule, and that of a top from its start
abbrev pub HasSource : FlatSymbol → FlatSource → Type 0
HasSource (Slot symbol level) (Written i) = Unit {0}
HasSource (Sequence j) (Written i) = i ≡ j
HasSource (Top k) (OfStart s) = s ≡ k
HasSource _ _ = ⊥

-- the symbol at the position may span all that the rule's left side spans
abbrev pub LeadsOver : FlatGrammar → (r position : ℕ) → Type 0
LeadsOver f r position = (other x : ℕ) → other ≢ position → part_of f r other ≡ Some x → IsNullable f x

-- a height falls from each left side to a part that may span all of it, so none leads back to itself
pub record HasHeights (f : FlatGrammar) : Type 0 where
  pub height : ℕ → ℕ
  pub falls : (r position x : ℕ) → IsRule f r → part_of f r position ≡ Some x → LeadsOver f r position → height x < height (lhs_of f r)

pub record IsInRange (f : FlatGrammar) : Type 0 where
  pub marks : length f.nullable ≡ length f.symbols
  pub symbols : length f.symbols < 2 ^ 32
  pub rules : length f.rules < 2 ^ 32
  pub tops : length f.tops < 2 ^ 32
  pub short : (r : ℕ) → IsRule f r → length (rhs_of f r) < 2 ^ 32
  pub left : (r : ℕ) → IsRule f r → lhs_of f r < length f.symbols
  pub parts : (r position x : ℕ) → IsRule f r → part_of f r position ≡ Some x → x < length f.symbols

pub record IsFlat (f : FlatGrammar) : Type 0 where
  pub in_range : IsInRange f
  pub differ : (x y : ℕ) (s : FlatSymbol) → slice_get f.symbols x ≡ Some s → slice_get f.symbols y ≡ Some s → x ≡ y
  pub no_rules : NoTerminalHasRules f
  pub some : (r : ℕ) → IsRule f r → 0 < length (rhs_of f r)
  pub tops : (k r : ℕ) → slice_get f.tops k ≡ Some r → IsTopOf f k r
  pub all_tops : (x k : ℕ) → slice_get f.symbols x ≡ Some (Top k) → k < length f.tops
  pub sources : (r : ℕ) (s : FlatSymbol) → IsRule f r → slice_get f.symbols (lhs_of f r) ≡ Some s → HasSource s (source_of f r)
  pub marks : MarksAreClosed f
  pub terminals_span : TerminalsSpan f
  pub lists_span : (x i : ℕ) → slice_get f.symbols x ≡ Some (Sequence i) → IsNullable f x → ⊥
  pub heights : HasHeights f
  pub productive : (x : ℕ) → x < length f.symbols → IsProductive f x
  pub accessible : (x : ℕ) → x < length f.symbols → IsAccessible f x

-- how the symbols and rules are arranged, so that they are found by binary search: terminals first, by number, and the rules by left side
pub record IsArranged (f : FlatGrammar) : Type 0 where
  pub terminals : (x y t : ℕ) → x < y → slice_get f.symbols y ≡ Some (Terminal t) → (s : ℕ) × (slice_get f.symbols x ≡ Some (Terminal s)) × (s < t)
  pub rules : (r s : ℕ) → r < s → IsRule f s → lhs_of f r ≤ lhs_of f s
