-- The rules of each symbol, and the symbol of each terminal.
use Rattle.std.specs.Prelude.{◌≡◌, ◌≢◌, ℕ, ◌<◌, ◌≤◌, ◌↔◌, List, Option, Some, None, slice_get}
use Rattle.recognizer_model.specs.declared.flat.FlatSymbol.TheVariants.{Terminal}
use Rattle.recognizer_model.specs.Flat.{FlatGrammar, IsRule, lhs_of}
use Rattle.item_rows.specs.declared.heads.Rules.{Rules}
use Rattle.item_rows.specs.declared.heads.Heads.{Heads}

-- exactly the rules of the symbol stand there
abbrev pub HasRules : FlatGrammar → (symbol : ℕ) → Rules → Type 0
HasRules g x rules = (r : ℕ) → ((rules.start ≤ r) × (r < rules.end)) ↔ (IsRule g r × (lhs_of g r ≡ x))

abbrev pub AreRules : FlatGrammar → List Rules → Type 0
AreRules g all = (x : ℕ) (rules : Rules) → slice_get all x ≡ Some rules → HasRules g x rules

-- the symbol that stands for the terminal, if there is one
abbrev pub IsSymbolOf : FlatGrammar → (t : ℕ) → Option ℕ → Type 0
IsSymbolOf g t None = (x : ℕ) → slice_get g.symbols x ≢ Some (Terminal t)
IsSymbolOf g t (Some x) = slice_get g.symbols x ≡ Some (Terminal t)

abbrev pub AreSymbols : FlatGrammar → List (Option ℕ) → Type 0
AreSymbols g symbols = (t : ℕ) (symbol : Option ℕ) → slice_get symbols t ≡ Some symbol → IsSymbolOf g t symbol

pub record AreHeads (g : FlatGrammar) (heads : Heads) : Type 0 where
  pub rules : AreRules g heads.rules.items
  pub symbols : AreSymbols g heads.symbols.items
