-- What the numbers in built grammars and tables stand for.
use Rattle.std.specs.Prelude.{◌≡◌, ◌⊎◌, ℕ, ◌+◌, ◌<◌, [], ◌∷◌, length, map, All, Some, slice_get}
use Rattle.grammar_model.specs.Grammar.{Grammar, IsTerminal}
use Rattle.grammar_core.specs.Written.{symbols_of, IsLevelled}
use Rattle.language_model.specs.Building.{Built, count_from}

-- rules and starts name symbols that the grammar has, levels are below their groups, and right sides are not too long
pub record IsKnown (g : Grammar) : Type 0 where
  pub rules : All (λ r. All (λ s. s < length g.names) (symbols_of r) × IsLevelled r) g.rules
  pub starts : All (λ s. s < length g.names) g.starts

-- the sets have the last symbols of the lexical grammar, in order; a lexeme has a symbol and a start, and a discard a start
pub record IsInRange (b : Built) : Type 0 where
  pub g1 : IsKnown b.g1
  pub l0 : IsKnown b.l0
  pub sets : (first : ℕ) × (first + length b.sets ≡ length b.l0.names) × (map (λ p. p.0) b.sets ≡ count_from first (length b.sets))
  pub symbols : All (λ r. r.symbol < length b.g1.names) b.lexemes
  pub starts : All (λ r. r.start < length b.l0.starts) b.lexemes
  pub discards : All (λ k. k < length b.l0.starts) b.discards

-- the symbol is that of a set
abbrev pub HasSet : Built → ℕ → Type 0
HasSet b s = (k : ℕ) × (k < length b.sets) × (slice_get (map (λ p. p.0) b.sets) k ≡ Some s)

-- the symbol is the start of the structural grammar, which has no rule there
pub record IsBareStart (b : Built) (s : ℕ) : Type 0 where
  pub start : ℕ
  pub is : b.g1.starts ≡ start ∷ []
  pub bare : IsTerminal b.g1 start
  pub named : slice_get b.g1.names start ≡ slice_get b.l0.names s

-- a terminal of the lexical grammar has a set, if it is not a start of the structural grammar that has no rule there either
abbrev pub TerminalsHaveSets : Built → Type 0
TerminalsHaveSets b = (s : ℕ) → s < length b.l0.names → IsTerminal b.l0 s → HasSet b s ⊎ IsBareStart b s
