-- How what a function returns stands to what a definition reads.
use Rattle.std.specs.Prelude.{◌≡◌, ℕ, List, [], ◌∷◌, Option, Some, None, Result, Ok, Err}
use Rattle.language_model.specs.declared.class.ClassItem.{ClassItem}
use Rattle.language_model.specs.declared.class.ClassFault.{ClassFault}
use Rattle.language_model.specs.declared.class.ClassFault.TheVariants as fault
use Rattle.language_model.specs.declared.class.Piece.{Piece}
use Rattle.language_model.specs.Classes.{Class, item_of, range_to, range_start}
use Rattle.char_class.specs.declared.items.ItemsError.{ItemsError}
use Rattle.char_class.specs.declared.items.ItemsError.TheVariants.{Fault, Memory}
use Rattle.char_class.specs.declared.set.ClassRefusal.{ClassRefusal}
use Rattle.char_class.specs.declared.set.ClassRefusal.TheVariants.{BadEscape, BadRange, BadPosix, NoMemory}

-- the item at the front of pieces, and of how many it is made
abbrev pub item_at : List Piece → Result ClassItem ClassFault × ℕ
item_at [] = (Err fault.BadRange, 0)
item_at (p ∷ []) = (item_of p, 1)
item_at (p ∷ q ∷ []) = (item_of p, 1)
item_at (p ∷ q ∷ r ∷ ps) = from_start (range_start p q) p r
  where
    from_start : Option ℕ → Piece → Piece → Result ClassItem ClassFault × ℕ
    from_start (Some low) p r = (range_to low r, 3)
    from_start None p r = (item_of p, 1)

abbrev pub Fails : {X : Type 0} → ItemsError → Result X ClassFault → Type 0
Fails Memory read = Unit {0}
Fails (Fault f) read = read ≡ Err f

-- what was returned, seen by view, is what is read, unless memory ran out
abbrev pub Gives : {X Y : Type 0} → (X → Y) → Result X ItemsError → Result Y ClassFault → Type 0
Gives view (Ok x) read = read ≡ Ok (view x)
Gives view (Err e) read = Fails e read

abbrev pub RefusesBy : ClassRefusal → Result Class ClassFault → Type 0
RefusesBy BadEscape read = read ≡ Err fault.BadEscape
RefusesBy BadRange read = read ≡ Err fault.BadRange
RefusesBy BadPosix read = read ≡ Err fault.BadPosix
RefusesBy NoMemory read = Unit {0}

-- the class is the one that is read, and a refusal is the fault that is read, unless memory ran out
abbrev pub Refuses : Result Class ClassRefusal → Result Class ClassFault → Type 0
Refuses (Ok k) read = read ≡ Ok k
Refuses (Err e) read = RefusesBy e read

-- the refusal that tells the error
abbrev pub RefusedAs : ItemsError → ClassRefusal → Type 0
RefusedAs Memory r = r ≡ NoMemory
RefusedAs (Fault f) r = RefusesBy r (Err f) × (r ≡ NoMemory → ⊥)
