-- Actions and their descriptors, as the manual of the SLIF DSL of Marpa::R2 has them.
use Rattle.std.specs.Prelude.{ℕ, ◌-◌, Bool, true, false, ◌&&◌, ◌==◌, nat_lt, if◌then◌else◌, List, [], ◌∷◌, length, take, drop, slice_index, bytes_eq, codes, Option, Some, None, option_map}
use Rattle.language_model.specs.Tokens.{spaced}
use Rattle.unicode.specs.Binary.{is_white_space}
use Rattle.grammar_model.specs.declared.DescItem.{DescItem}
use Rattle.grammar_model.specs.declared.DescItem.TheVariants as item
use Rattle.grammar_model.specs.Values.{Action, MakeArray, MakeFirst, MakeUndefined, MakeItems}

abbrev pub item_named : List ℕ → Option DescItem
item_named name =
    if bytes_eq name (codes "name") then Some item.Name
    else (if bytes_eq name (codes "symbol") then Some item.Symbol
    else (if bytes_eq name (codes "start") then Some item.Start
    else (if bytes_eq name (codes "length") then Some item.Length
    else (if bytes_eq name (codes "g1start") then Some item.G1Start
    else (if bytes_eq name (codes "g1length") then Some item.G1Length
    else (if bytes_eq name (codes "value") then Some item.Values
    else (if bytes_eq name (codes "values") then Some item.Values
    else None)))))))

-- the parts of a text between commas
abbrev pub on_first : ℕ → List (List ℕ) → List (List ℕ)
on_first c [] = (c ∷ []) ∷ []
on_first c (p ∷ ps) = (c ∷ p) ∷ ps

abbrev pub between_commas : List ℕ → List (List ℕ)
between_commas [] = [] ∷ []
between_commas (c ∷ cs) = if c == 44 then [] ∷ between_commas cs else on_first c (between_commas cs)

-- the item, and those after it, where each is one
abbrev pub item_and : Option DescItem → Option (List DescItem) → Option (List DescItem)
item_and (Some i) (Some is) = Some (i ∷ is)
item_and _ _ = None

abbrev pub items_named : List (List ℕ) → Option (List DescItem)
items_named [] = Some []
items_named (name ∷ names) = item_and (item_named (spaced name false false)) (items_named names)

abbrev pub is_blank : List ℕ → Bool
is_blank [] = true
is_blank (c ∷ cs) = is_white_space c && is_blank cs

-- a descriptor is `[`, items with commas between them, `]`
abbrev pub descriptor_of : List ℕ → Option Action
descriptor_of text =
    let inner = take (length text - 2) (drop 1 text) in
    if nat_lt 1 (length text) && (slice_index text 0 == 91) && (slice_index text (length text - 1) == 93)
    then (if is_blank inner then Some (MakeItems []) else option_map MakeItems (items_named (between_commas inner)))
    else None

-- the action that the value of the adverb `action` tells
abbrev pub action_of : List ℕ → Option Action
action_of text =
    if bytes_eq text (codes "::array") then Some MakeArray
    else (if bytes_eq text (codes "::first") then Some MakeFirst
    else (if bytes_eq text (codes "::undef") then Some MakeUndefined
    else descriptor_of text))
