-- Terminals that are acceptable at a place: some more make what is there a whole.
use Rattle.std.specs.Prelude.{◌≡◌, ℕ, suc, ◌+◌, ◌≤◌, ◌⊎◌, ◌↔◌, List, [], ◌∷◌, length, Some, slice_get}
use Rattle.std.specs.List.{AllByRecursion}
use Rattle.recognizer_model.specs.declared.Item.{Item}
use Rattle.grammar_model.specs.Trees.{Tree}
use Rattle.recognizer_model.specs.Flat.{FlatGrammar, Terminal, IsRule, lhs_of, rhs_of, part_of, IsNullable}
use Rattle.grammar_model.specs.Derives.{Edges}
use Rattle.recognizer_model.specs.FlatDerives.{Derives}
use Rattle.grammar_model.specs.Acceptable.{IsAcceptable}
use Rattle.recognizer_model.specs.View.{grammar_view}
use Rattle.recognizer_model.specs.Items.{after, InSet}

abbrev pub IsTerminal : FlatGrammar → ℕ → Type 0
IsTerminal g x = (t : ℕ) × (slice_get g.symbols x ≡ Some (Terminal t))

-- symbols laid one after another from a place
abbrev pub Laid : ℕ → List ℕ → Edges
Laid p [] x from to = ⊥
Laid p (t ∷ ts) x from to = ((x ≡ t) × (from ≡ p) × (to ≡ suc p)) ⊎ Laid (suc p) ts x from to

-- the edges up to a place, and symbols laid after it
abbrev pub Continued : Edges → ℕ → List ℕ → Edges
Continued E p ts x from to = (E x from to × (to ≤ p)) ⊎ Laid p ts x from to

-- with the symbol and some terminals laid after the place, the start derives the whole: a form of acceptable in which no path is spelled
pub record IsContinued (g : FlatGrammar) (E : Edges) (top place symbol : ℕ) : Type 0 where
  pub more : List ℕ
  pub terminals : AllByRecursion (IsTerminal g) more
  pub tree : Tree
  pub derives : Derives g (Continued E place (symbol ∷ more)) (lhs_of g top) 0 (place + length (symbol ∷ more)) tree

mutual
  -- a symbol derives some list of terminals
  pub data IsProductive (g : FlatGrammar) : ℕ → Type 0 where
    Itself : {x : ℕ} → IsTerminal g x → IsProductive g x
    Marked : {x : ℕ} → IsNullable g x → IsProductive g x
    ByRule : {x r : ℕ} → IsRule g r → lhs_of g r ≡ x → AreProductive g r (length (rhs_of g r)) → IsProductive g x

  -- the first `dot` parts of a rule do
  pub data AreProductive (g : FlatGrammar) : (rule dot : ℕ) → Type 0 where
    None : {r : ℕ} → AreProductive g r 0
    Both : {r d x : ℕ} → AreProductive g r d → part_of g r d ≡ Some x → IsProductive g x → AreProductive g r (suc d)

-- a symbol is marked where all parts of one of its rules are
abbrev pub MarksAreClosed : FlatGrammar → Type 0
MarksAreClosed g = (r : ℕ) → IsRule g r → ((position x : ℕ) → part_of g r position ≡ Some x → IsNullable g x) → IsNullable g (lhs_of g r)

abbrev pub PartsAreProductive : FlatGrammar → Type 0
PartsAreProductive g = (r position x : ℕ) → IsRule g r → part_of g r position ≡ Some x → IsProductive g x

abbrev pub OnlyTerminals : FlatGrammar → Edges → Type 0
OnlyTerminals g E = (x p q : ℕ) → E x p q → IsTerminal g x

abbrev pub NoTerminalHasRules : FlatGrammar → Type 0
NoTerminalHasRules g = (r : ℕ) → IsRule g r → ¬ IsTerminal g (lhs_of g r)

abbrev pub ContinuedAreAwaited : (g : FlatGrammar) (E : Edges) (top : ℕ) → Type 0
ContinuedAreAwaited g E top = (place t : ℕ) → IsTerminal g t →
    IsContinued g E top place t ↔ ((item : Item) × InSet g E top place item × (after g item ≡ Some t))

-- a terminal is acceptable exactly where an item of the set waits for it
abbrev pub AcceptableAreAwaited : (g : FlatGrammar) (E : Edges) (top : ℕ) → Type 0
AcceptableAreAwaited g E top = (place t : ℕ) → IsTerminal g t →
    IsAcceptable (grammar_view g) E (lhs_of g top) t place ↔ ((item : Item) × InSet g E top place item × (after g item ≡ Some t))

-- terminals are not marked
abbrev pub TerminalsSpan : FlatGrammar → Type 0
TerminalsSpan g = (x : ℕ) → IsTerminal g x → IsNullable g x → ⊥
