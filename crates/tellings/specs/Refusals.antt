-- How the work stops for what a layer below refuses.
use Rattle.std.specs.Prelude.{◌≡◌, ⊤, codes}
use Rattle.text_reading.specs.declared.refusal.Refusal as text
use Rattle.text_reading.specs.declared.refusal.Refusal.TheVariants as refusal
use Rattle.value_lines.specs.declared.writing.WriteRefusal as lines
use Rattle.value_lines.specs.declared.writing.WriteRefusal.TheVariants as unwritten
use Rattle.value_lines.specs.declared.page.PageRefusal as page
use Rattle.value_lines.specs.declared.page.PageRefusal.TheVariants as unpaged
use Rattle.tellings.specs.Stops.{StopsBy, OfInput}
use Rattle.tellings.specs.declared.stop.Refusal.TheVariants.{Grammar as BadGrammar, Input as BadInput}
use Rattle.tellings.specs.declared.stop.Stop.{Stop}
use Rattle.tellings.specs.declared.stop.Stop.TheVariants.{Refused, WriteFault, NoMemory}

-- a text that is refused
abbrev pub stop_for : text.Refusal → Stop
stop_for (refusal.Grammar text place) = Refused (BadGrammar text)
stop_for (refusal.Input text place expected) = Refused (BadInput text)
stop_for refusal.NoMemory = NoMemory

-- values that were not all written
abbrev pub write_stop : lines.WriteRefusal → Stop
write_stop unwritten.WriteFault = WriteFault
write_stop unwritten.NoMemory = NoMemory

-- a page that was not all written
abbrev pub IsPageStop : page.PageRefusal → Stop → Type 0
IsPageStop unpaged.NoSuchPlace stop =
    StopsBy (OfInput (λ text. text ≡ codes "the cursor names no derivation"))
    (λ name. ⊥) ⊥ ⊥ ⊤ stop
IsPageStop unpaged.WriteFault stop = stop ≡ WriteFault
IsPageStop unpaged.NoMemory stop = stop ≡ NoMemory
