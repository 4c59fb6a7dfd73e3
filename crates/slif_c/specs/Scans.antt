-- What calls of a scanner answer C, by the machine that is held.
use Rattle.std.specs.Prelude.{◌≡◌, ℕ, List, Option, Some, None, Result, Ok, Err, nat_eq, if◌then◌else◌, length, ⊤}
use Rattle.std.specs.declared.alloc.Global.{Global}
use Rattle.std.specs.declared.vec.Vec.{Vec}
use Rattle.script_model.specs.Machine.{Machine}
use Rattle.scanning_calls.specs.Calls.{PrecomputeAnswers}
use Rattle.scanning_calls.specs.declared.kept.Kept.{Kept}
use Rattle.scanning_calls.specs.declared.refusal.ScanRefusal.{ScanRefusal}
use Rattle.scanning_calls.specs.declared.refusal.ScanRefusal.TheVariants.{NotNow, BadSymbol, TooMany, SecondStart, BadGrammar, Unexpected, Duplicate, BadLength, NoMemory}
use Rattle.c_handles.specs.Copying.{overlaid}
use Rattle.c_handles.specs.Placed.{IsPlaced}
use Rattle.c_handles.specs.declared.parse.Parse.{Parse}

abbrev pub scan_code : ScanRefusal → ℕ
scan_code NotNow = 8
scan_code BadSymbol = 7
scan_code TooMany = 14
scan_code SecondStart = 10
scan_code BadGrammar = 3
scan_code Unexpected = 11
scan_code Duplicate = 12
scan_code BadLength = 13
scan_code NoMemory = 5

abbrev pub answer_code : {T : Type 0} → Result T ScanRefusal → ℕ
answer_code (Ok x) = 0
answer_code (Err refusal) = scan_code refusal

-- the number that is granted, or what stood there
abbrev pub number_or : (before : ℕ) → Result ℕ ScanRefusal → ℕ
number_or before (Ok number) = number
number_or before (Err refusal) = before

-- WHAT IS COPIED

-- the text why a grammar is refused
abbrev reason_of : ScanRefusal → List ℕ → Option (List ℕ)
reason_of BadGrammar text = Some text
reason_of NotNow text = None
reason_of BadSymbol text = None
reason_of TooMany text = None
reason_of SecondStart text = None
reason_of Unexpected text = None
reason_of Duplicate text = None
reason_of BadLength text = None
reason_of NoMemory text = None

abbrev pub reason_in : {T : Type 0} → Result T ScanRefusal → (text : List ℕ) → Option (List ℕ)
reason_in (Ok x) text = None
reason_in (Err refusal) text = reason_of refusal text

abbrev pub items_in : Result (Vec ℕ Global) ScanRefusal → Option (List ℕ)
items_in (Ok all) = Some all.items
items_in (Err refusal) = None

-- what stands in memory, and the length that is told, where there is something to copy
abbrev pub text_or : (before : List ℕ) → Option (List ℕ) → List ℕ
text_or before None = before
text_or before (Some text) = overlaid text before

abbrev pub length_or : (before : ℕ) → Option (List ℕ) → ℕ
length_or before None = before
length_or before (Some text) = length text

-- the derivations that are granted are kept, or those that were
abbrev pub AreKeptIn : Result Kept ScanRefusal → (before after : Option Parse) → Type 0
AreKeptIn (Ok kept) before after = (p : Parse) × (after ≡ Some p) × IsPlaced kept p
AreKeptIn (Err refusal) before after = after ≡ before

-- the scanner that was held answers as P says, the handle holds it as it is after that, and C is told
pub record Answered {T : Type 0} (new : Option Machine) (code : ℕ) (P : Result T ScanRefusal → (after : Machine) → Type 0) (Told : Result T ScanRefusal → Type 0) : Type 0 where
  pub answer : Result T ScanRefusal
  pub after : Machine
  pub held : new ≡ Some after
  pub is : P answer after
  pub code_is : code ≡ answer_code answer
  pub told : Told answer

-- 2 ^ 32 - 1 is none
abbrev pub separator_of : ℕ → Option ℕ
separator_of n = if nat_eq n 4294967295 then None else Some n

-- answered so, where nothing is granted but that it is done
abbrev pub Obeyed : (new : Option Machine) → (code : ℕ) → (P : Result ⊤ ScanRefusal → (after : Machine) → Type 0) → Type 0
Obeyed new code P = Answered {T = ⊤} new code P (λ _. ⊤)

-- the grammar is ready, or the text why it is not was copied
abbrev pub Precomputed : Machine → (new : Option Machine) → (code : ℕ) → (text before message : List ℕ) → (size_before size : ℕ) → Type 0
Precomputed m new code text before message size_before size =
    Answered {T = ⊤} new code (λ answer after. PrecomputeAnswers m.phase m after answer text)
    (λ answer. (message ≡ text_or before (reason_in answer text)) × (size ≡ length_or size_before (reason_in answer text)))
