-- A handle may cross to another thread, since its value may.
use mathlib.Core.Bool.{Bool, true, false}
use mir.Raw.{raw}
use base.Fraction.{full_share}
use base.Shift.{Keyless}
use denote.Exit.{Exit, unchanged, leaves, hidden, under}
use denote.Memory.{lone}
use denote.RattleType.{RattleType}
use denote.RawPtr.{Ptr, block_ptr, null_ptr, lies_at}
use denote.Struct.Struct.{exits_of}
use denote.Struct.Owning.{shape, fields, to}
use denote.Param.Send.{IsSend, AllSend, Quiet, part_keyless, owning_send, struct_send, sendable}
use Rattle.std.proofs.Crossing as heap
use Rattle.std.proofs.alloc.Global.TheSendSync as handle
use Rattle.std.specs.contracts.impls.GlobalAllocator.TheImpl.{ghosts}
use Rattle.std.specs.declared.alloc.Global.{Global}
use Rattle.std.specs.declared.option.Option.{Option}
use Rattle.std.specs.declared.option.Option.TheVariants.{None, Some}
use Rattle.c_handles.specs.Owned.{owned}
use Rattle.c_handles.specs.contracts.shared.SharedGrammar as Held
use Rattle.c_handles.proofs.shared.SharedGrammar.TheSendSync.{the_send as held_send}
use Rattle.c_handles.specs.contracts.grammar_handle.GrammarHandle.{the_row, the_type}

quiet : {D X : Type 0} (to : D → X) (e : Exit X) → Quiet e → Quiet (hidden (under to e))
quiet to unchanged q = λ x w. tt
quiet to (leaves L l S s r₀) q = λ d. q (to d)

lies : (R : RattleType) → IsSend R → (p : Ptr) (x : R.Denot) → Keyless (lies_at R full_share p x)
lies R s (block_ptr b o) x = part_keyless R s full_share x b o
lies R s null_ptr x = tt

owned_keyless : (a : Global) (y : Bool) (p : Ptr) (x : Option (Held.the_row).Denot) → Keyless (owned (ghosts.dealloc_token a) Held.the_row y p x)
owned_keyless a true p (Some x) = (lies Held.the_row held_send p x, heap.frees.frees a (raw (lone (Held.the_row).mir)) p)
owned_keyless a true p None = tt
owned_keyless a false p (Some x) = tt
owned_keyless a false p None = tt

pub send : IsSend the_row
send =
    let all : AllSend (fields the_type) = (search sendable, (handle.the_field_send, (search sendable, tt))) in
    owning_send the_type all (λ d. owned_keyless d.alloc d.full d.at d.held)
    (λ k. quiet (to the_type) (exits_of k (fields the_type)) ((struct_send (shape the_type) all).leaving k))
