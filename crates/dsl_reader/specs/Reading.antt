-- Statements read from their pieces, from the left.
use Rattle.std.specs.Prelude.{Bool, false, ◌&&◌, ◌||◌, if◌then◌else◌, List, [], ◌∷◌, ◌++◌, codes, Option, Some, None}
use Rattle.language_model.specs.Tokens.{Spelled}
use Rattle.language_model.specs.Description.{Element, Bare, Hidden, Adverb, Comma, Pair, Alternative, is_kind_of_part, is_kind_of_value, is_adverb_name, is_mark, is_some}

abbrev pub add_adverb : Adverb → Option (List Adverb) → Option (List Adverb)
add_adverb a None = None
add_adverb a (Some as') = Some (a ∷ as')

abbrev pub is_pair : Spelled → Spelled → Spelled → Bool
is_pair name arrow value = is_adverb_name name && is_mark (codes "=>") arrow && is_kind_of_value value.kind

-- the adverbs that the tokens are, all of them
unfoldable pub adverbs_of : List Spelled → Option (List Adverb)
adverbs_of [] = Some []
adverbs_of (t ∷ []) = if is_mark (codes ",") t then Some (Comma t.at ∷ []) else None
adverbs_of (t ∷ u ∷ []) = if is_mark (codes ",") t then add_adverb (Comma t.at) (adverbs_of (u ∷ [])) else None
adverbs_of (t ∷ u ∷ v ∷ ts) =
    if is_mark (codes ",") t then add_adverb (Comma t.at) (adverbs_of (u ∷ v ∷ ts))
    else (if is_pair t u v then add_adverb (Pair t v) (adverbs_of ts)
    else None)

abbrev pub add_element : Element → Option Alternative → Option Alternative
add_element e None = None
add_element e (Some a) = Some (record { elements = e ∷ a.elements; adverbs = a.adverbs })

abbrev pub only_adverbs : Option (List Adverb) → Option Alternative
only_adverbs None = None
only_adverbs (Some as') = Some (record { elements = []; adverbs = as' })

-- an adverb begins at the first of the tokens
abbrev pub begins_adverb : List Spelled → Bool
begins_adverb [] = false
begins_adverb (t ∷ []) = is_mark (codes ",") t
begins_adverb (t ∷ u ∷ ts) = is_mark (codes ",") t || is_mark (codes "=>") u

-- the elements and adverbs that the tokens are; after `(`, the parts so far
unfoldable pub alternative_of : List Spelled → Option (List Spelled) → Option Alternative
alternative_of [] None = Some (record { elements = []; adverbs = [] })
alternative_of [] (Some parts) = None
alternative_of (t ∷ ts) None =
    if begins_adverb (t ∷ ts) then only_adverbs (adverbs_of (t ∷ ts))
    else (if is_mark (codes "(") t then alternative_of ts (Some [])
    else (if is_kind_of_part t.kind then add_element (Bare t) (alternative_of ts None)
    else None))
alternative_of (t ∷ ts) (Some parts) =
    if is_kind_of_part t.kind then alternative_of ts (Some (parts ++ t ∷ []))
    else (if is_mark (codes ")") t && is_some parts then add_element (Hidden parts) (alternative_of ts None)
    else None)
