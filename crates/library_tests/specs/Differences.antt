-- The values of differences.
use Rattle.std.specs.Prelude.{◌≡◌, ◌^◌, ◌<◌, ℕ, ℤ, pos, List, [], ◌∷◌, Result, Ok, Some, codes}
use Rattle.std.specs.Int.{w64, int_wrapping_sub, int_wrapping_neg}
use Rattle.std.specs.Str.Parse.{IsNumeral, digits_value}
use Rattle.grammar_model.specs.Trees.{Tree, Leaf, Node, NoChild, Child}
use Rattle.grammar_model.specs.Steps.{steps_of}
use Rattle.grammar_model.specs.Values.{Token}
use Rattle.valuator.specs.Play.{tokens_of}
use Rattle.slif_parser.specs.Views.{DerivationsOf}

-- of decimal digits, their number
abbrev pub NumberGives : {E : Type 0} → (text : List ℕ) → Result ℤ E → Type 0
NumberGives text r = IsNumeral 10 text → digits_value 10 text < 2 ^ 63 → r ≡ Ok (pos (digits_value 10 text))

-- of the values of one, two, or three parts, of which a sign is one
abbrev pub difference : List ℤ → ℤ
difference (one ∷ []) = one
difference (sign ∷ one ∷ []) = int_wrapping_neg w64 one
difference (left ∷ sign ∷ right ∷ []) = int_wrapping_sub w64 left right
difference parts = pos 0

-- 9-3-2

abbrev pub text_at : ℕ → List ℕ → Token
text_at start text = record { start = start; length = 1; text = text }

abbrev pub the_tokens : List Token
the_tokens = text_at 0 (codes "9") ∷ text_at 1 (codes "-") ∷ text_at 2 (codes "3") ∷ text_at 3 (codes "-") ∷ text_at 4 (codes "2") ∷ []

-- by `S ::= S '-' S | Number`, with these numbers of the symbols
module _ (number minus : ℕ) where
  abbrev pub number_at : ℕ → ℕ → Tree
  number_at from to = Node 1 (Child NoChild (Leaf number from to)) from to

  abbrev pub minus_of : Tree → ℕ → ℕ → Tree → ℕ → ℕ → Tree
  minus_of left at behind right from to = Node 0 (Child (Child (Child NoChild left) (Leaf minus at behind)) right) from to

  -- the left difference first, and the right one first
  abbrev pub left_first : Tree
  left_first = minus_of (minus_of (number_at 0 1) 1 2 (number_at 2 3) 0 3) 3 4 (number_at 4 5) 0 5

  abbrev pub right_first : Tree
  right_first = minus_of (number_at 0 1) 1 2 (minus_of (number_at 2 3) 3 4 (number_at 4 5) 2 5) 0 5

-- the current derivation is this one of these tokens
pub record IsCurrent (d : DerivationsOf) (tokens : List Token) (tree : Tree) : Type 0 where
  pub tokens_are : tokens_of d.read.characters d.read.spans ≡ tokens
  pub tree_is : d.iteration.current ≡ Some (steps_of tree)
