-- What a program's faults and refusals mean.
use Rattle.std.specs.Prelude.{◌≡◌, List, [], ◌∷◌, ◌++◌, Option, Some, None, option_map, Result, IfSome, MatchResult, string_bytes}
use Rattle.std.specs.Borrow.{Bor, MutBor}
use Rattle.std.specs.Fn.{Shared}
use Rattle.language_model.specs.Building as building
use Rattle.language_model.specs.Building.{Fault, BuildFault}
use Rattle.dsl_faults.specs.declared.found.Found.{Found}
use Rattle.dsl_faults.specs.declared.refusal.BuildRefusal.{BuildRefusal}
use Rattle.dsl_faults.specs.declared.refusal.BuildRefusal.TheVariants.{BadAdverb, RepeatedAdverb, LexemeNotDefined, InBoth, NotALexeme, BadClass, TwoStarts, NumberRange, TooLong, NoMemory}

abbrev pub fault_of : Found → Fault
fault_of f = record { at = f.at; name = f.name.now }

abbrev pub first_of : {A : Type 0} → List A → Option A
first_of [] = None
first_of (x ∷ xs) = Some x

-- the first of these faults, or none where there are none
abbrev pub IsFirst : List Fault → Option Found → Type 0
IsFirst faults found = option_map fault_of found ≡ first_of faults

-- what elements have, each by the state that those before it left
abbrev pub along : {S A B : Type 0} → (S → A → List B) → (S → A → S) → S → List A → List B
along each after s [] = []
along each after s (x ∷ xs) = each s x ++ along each after (after s x) xs

-- a call at a `&mut` to s and a `&` to x may give r, and leave t
pub record FindsAfter {F S A R : Type 0} (g : Shared F (MutBor S × (Bor A × Unit {0})) (R × (MutBor S × Unit {0}))) (f : F) (s : S) (x : A) (r : R) (t : S) : Type 0 where
  pub shown : MutBor S
  pub item : Bor A
  pub shows : (shown.now ≡ s) × (item.now ≡ x)
  pub left : MutBor S
  pub met : g.post f (shown, (item, tt)) (r, (left, tt))
  pub leaves : left.now ≡ t

-- the fault that a refusal tells, if it is not want of memory
abbrev pub refused_fault : BuildRefusal → Option BuildFault
refused_fault (BadAdverb at name) = Some (building.BadAdverb (record { at = at; name = string_bytes name }))
refused_fault (RepeatedAdverb at name) = Some (building.RepeatedAdverb (record { at = at; name = string_bytes name }))
refused_fault (LexemeNotDefined at name) = Some (building.LexemeNotDefined (record { at = at; name = string_bytes name }))
refused_fault (InBoth at name) = Some (building.InBoth (record { at = at; name = string_bytes name }))
refused_fault (NotALexeme at name) = Some (building.NotALexeme (record { at = at; name = string_bytes name }))
refused_fault (BadClass at name) = Some (building.BadClass (record { at = at; name = string_bytes name }))
refused_fault (TwoStarts at name) = Some (building.TwoStarts (record { at = at; name = string_bytes name }))
refused_fault (NumberRange at name) = Some (building.NumberRange (record { at = at; name = string_bytes name }))
refused_fault (TooLong at name) = Some (building.TooLong (record { at = at; name = string_bytes name }))
refused_fault NoMemory = None

-- Ok where there are no faults, else the first, want of memory aside
abbrev pub Tells : {A : Type 0} → List BuildFault → Result A BuildRefusal → Type 0
Tells faults result = MatchResult result (λ _. faults ≡ []) (λ r. IfSome (refused_fault r) (λ f. first_of faults ≡ Some f))
