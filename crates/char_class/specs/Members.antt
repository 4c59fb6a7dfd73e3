-- Membership as a test, which the stored bits and codes answer.
use Rattle.std.specs.Prelude.{◌≡◌, ℕ, ◌<◌, ◌≤◌, Bool, not, ◌&&◌, ◌||◌, ◌==◌, if◌then◌else◌, List, length, slice_index}
use Rattle.std.specs.Int.{bit_at}
use Rattle.std.specs.List.{list_any}
use Rattle.unicode.specs.CaseFolding.{fold_pairs}
use Rattle.language_model.specs.declared.class.ClassItem.{ClassItem}
use Rattle.language_model.specs.Classes.{Class, some_item_has}

abbrev pub bit_of : Bool → ℕ
bit_of b = if b then 1 else 0

-- another character with the same simple folding is in an item
abbrev pub folded_has : List ClassItem → ℕ → Bool
folded_has items c = list_any (λ pair. (pair.0 == c) && some_item_has items pair.1) fold_pairs

abbrev pub has_code : List ℕ → ℕ → Bool
has_code codes c = list_any (λ x. x == c) codes

abbrev pub class_has : Class → ℕ → Bool
class_has k c =
    let found = some_item_has k.items c || (k.caseless && folded_has k.items c) in
    if k.negated then not found else found

abbrev pub HasBits : Class → ℕ → Type 0
HasBits k bits = (c : ℕ) → c < 128 → bit_at bits c ≡ bit_of (class_has k c)

abbrev pub HasCodes : Bool → List ClassItem → List ℕ → Type 0
HasCodes caseless items codes = (c : ℕ) → has_code codes c ≡ (caseless && folded_has items c)

-- the codes do not fall
abbrev pub Rises : List ℕ → Type 0
Rises codes = (i j : ℕ) → i ≤ j → j < length codes → slice_index codes i ≤ slice_index codes j
