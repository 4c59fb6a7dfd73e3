-- Derivations that were granted and found no room.
use Rattle.std.proofs.Common.{◌≡◌, ℕ, Option, Some, None, Result, Ok, Err, refl}
use Rattle.script_model.specs.Machine.{Machine}
use Rattle.scanning_calls.specs.Calls.{Answers, DerivationsAnswer, reading_refusal}
use Rattle.scanning_calls.specs.declared.kept.Kept.{Kept}
use Rattle.scanning_calls.specs.declared.refusal.ScanRefusal.{ScanRefusal}
use Rattle.scanning_calls.specs.declared.refusal.ScanRefusal.TheVariants.{NoMemory}
use Rattle.c_handles.specs.declared.parse.Parse.{Parse}
use Rattle.slif_c.specs.Scans.{Answered, AreKeptIn}

lacks : {T : Type 0} (o : Option ScanRefusal) (x : T) (Same : Type 0) (P : T → Type 0) → Answers o (Ok x) Same (λ y. Same × P y) → Answers o (Err NoMemory) Same (λ y. Same × P y)
lacks (Some refusal) x Same P granted = absurd granted
lacks None x Same P (same, more) = (refl, same)

pub no_room : (m after : Machine) (skip most : ℕ) (kept : Kept) (before : Option Parse) → DerivationsAnswer m skip most (Ok kept) after → Answered (Some after) 5 (DerivationsAnswer m skip most) (λ answer. AreKeptIn answer before before)
no_room m after skip most kept before granted = record { answer = Err NoMemory; after = after; held = refl; is = lacks (reading_refusal m) kept (after ≡ m) _ granted; code_is = refl; told = refl }
