-- The machine values of a handle and of its parts: what the fields own tells them, and is made of nothing.
use Rattle.std.proofs.Common.{◌≡◌, List, [], ◌∷◌, ◌++◌, refl, ◌∙◌, lit<}
use mathlib.Core.Bool.{Bool}
use lib.Dec.{T}
use seplogic.Ra.Ura.{Ura}
use mir.Syntax.{Ty, ty_ptr, ty_bool, ty_unit, ty_struct, tcons, tnil}
use mir.Val.{Val, vbool, vstruct, vcons, vnil, of_list, vunit, has_ty, WT}
use base.Logic.{ent, emp}
use base.Fml.{Fml}
use types.Logic.{Logic, sem}
use denote.RattleType.{RattleType}
use denote.Builtin.{bool}
use denote.Laws.{Is}
use denote.RawPtr.{Ptr, RawPtr, block_ptr, null_ptr, ptr_val}
use denote.Shadow.{shadow, makes_shadow}
use denote.Struct.Struct.{Struct}
use Rattle.std.proofs.Handle.{heap_val, heap_Tells}
use Rattle.std.specs.declared.alloc.Global.{Global}
use Rattle.std.specs.contracts.alloc.Global as Heap
use Rattle.std.specs.contracts.impls.GlobalAllocator.TheImpl.{ghosts}
use Rattle.c_handles.specs.contracts.parts.Parts as Parts

-- a struct by its fields alone: what it owns does not read its name
abbrev pub Good : Ty → Val → Type 0
Good τ v = T (has_ty τ v) × WT v

abbrev pub plainly : List RattleType → RattleType
plainly Rs = Struct (record { name = []; args = []; types = []; fields = Rs })

pub ptr_typed : (p : Ptr) → Good ty_ptr (ptr_val p)
ptr_typed (block_ptr b o) = (tt, tt)
ptr_typed null_ptr = (tt, record { fits = lit< tt })

pub heap_is : (a : Global) → Is Heap.the_row a (heap_val ∷ [])
heap_is a = ((vstruct (vcons vunit vnil) ∷ [], tt), (refl, (((vunit ∷ [], tt), (refl, (refl, tt))), tt)))

abbrev pub heap_ty : Ty
heap_ty = ty_struct [] (tcons (ty_struct [] (tcons ty_unit tnil)) tnil)

pub heap_typed : Good heap_ty heap_val
heap_typed = (tt, ((tt, tt), tt))

abbrev pub PartsOf : RattleType → RattleType
PartsOf R = Parts.the_row R Heap.the_row ghosts

abbrev pub two : Ptr → Val
two p = vstruct (vcons (ptr_val p) (vcons heap_val vnil))

abbrev pub two_own : Ptr → Global → List Val → Fml
two_own p a = (plainly (RawPtr ∷ Heap.the_row ∷ [])).own_val (p, (a, tt))

pub two_told : (p : Ptr) (a : Global) (vs : List Val) → shadow (two_own p a vs) → vs ≡ two p ∷ []
two_told p a vs s = s.1.0 ∙ (λ i. vstruct (of_list (s.1.1.0 i ++ (heap_Tells a s.0.1.0 s.1.1.1.0 i ++ []))) ∷ [])

pub two_made : {M : Type 1} {𝓤 : Ura M} (𝓛 : Logic 𝓤) (p : Ptr) (a : Global) → ent 𝓤 (emp 𝓤) (sem 𝓛 (two_own p a (two p ∷ [])))
two_made 𝓛 p a = makes_shadow 𝓛 (two_own p a (two p ∷ [])) (λ _. (tt, (tt, ((λ _. (tt, ((λ _. (tt, (tt, tt))), tt))), tt))))
    ((ptr_val p ∷ [], (heap_val ∷ [], tt)), (refl, (refl, (heap_is a, tt))))

abbrev pub word : Ptr → Bool → Val
word p y = vstruct (vcons (ptr_val p) (vcons heap_val (vcons (vbool y) vnil)))

abbrev pub word_own : Ptr → Global → Bool → List Val → Fml
word_own p a y = (plainly (RawPtr ∷ Heap.the_row ∷ bool ∷ [])).own_val (p, (a, (y, tt)))

pub word_told : (p : Ptr) (a : Global) (y : Bool) (vs : List Val) → shadow (word_own p a y vs) → vs ≡ word p y ∷ []
word_told p a y vs s = s.1.0 ∙ (λ i. vstruct (of_list (s.1.1.0 i ++ (heap_Tells a s.0.1.0 s.1.1.1.0 i ++ (s.1.1.1.1.0 i ++ [])))) ∷ [])

pub word_made : {M : Type 1} {𝓤 : Ura M} (𝓛 : Logic 𝓤) (p : Ptr) (a : Global) (y : Bool) → ent 𝓤 (emp 𝓤) (sem 𝓛 (word_own p a y (word p y ∷ [])))
word_made 𝓛 p a y = makes_shadow 𝓛 (word_own p a y (word p y ∷ [])) (λ _. (tt, (tt, ((λ _. (tt, ((λ _. (tt, (tt, tt))), tt))), (tt, tt)))))
    ((ptr_val p ∷ [], (heap_val ∷ [], (vbool y ∷ [], tt))), (refl, (refl, (heap_is a, (refl, tt)))))

pub two_typed : (p : Ptr) → Good (ty_struct [] (tcons ty_ptr (tcons heap_ty tnil))) (two p)
two_typed (block_ptr b o) = (tt, (tt, (((tt, tt), tt), tt)))
two_typed null_ptr = (tt, (record { fits = lit< tt }, (((tt, tt), tt), tt)))

pub word_typed : (p : Ptr) (y : Bool) → Good (ty_struct [] (tcons ty_ptr (tcons heap_ty (tcons ty_bool tnil)))) (word p y)
word_typed (block_ptr b o) y = (tt, (tt, (((tt, tt), tt), (tt, tt))))
word_typed null_ptr y = (tt, (record { fits = lit< tt }, (((tt, tt), tt), (tt, tt))))
