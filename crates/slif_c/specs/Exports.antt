-- What exports promise.
use Rattle.std.specs.Prelude.{◌≡◌, ℕ, zero, suc, ◌-◌, ◌≤◌, List, [], Option, IfSome, IsSome, chars, length, drop, slice_get}
use Rattle.grammar_model.specs.declared.Ranking.{Ranking}
use Rattle.grammar_model.specs.declared.Ranking.TheVariants as ranking
use Rattle.grammar_model.specs.declared.Show.{Show}
use Rattle.grammar_model.specs.declared.Show.TheVariants as show
use Rattle.language_model.specs.Building.{Built}
use Rattle.text_reading.specs.declared.refusal.Place.{Place}
use Rattle.text_reading.specs.Refusals.{IsRefusedAt, IsInputRefusedAt, IsNoDerivation}
use Rattle.slif_parser.specs.declared.error.ParseError.{ParseError}
use Rattle.slif_parser.specs.Errors.{TellsGrammar, TellsInput}
use Rattle.c_handles.specs.Copying.{overlaid}
use Rattle.c_handles.specs.Faults.{code_of, fault_of, message_of, expected_of}
use Rattle.c_handles.specs.declared.fault.Fault.{Fault}

-- there is something, and P holds of it
abbrev pub Holds : {X : Type 0} → Option X → (X → Type 0) → Type 0
Holds o P = IsSome o × IfSome o P

-- 0 is none, 1 rule, all else high
abbrev pub ranking_of : ℕ → Ranking
ranking_of zero = ranking.None
ranking_of (suc zero) = ranking.Rule
ranking_of (suc (suc n)) = ranking.High

-- 0 is the value of actions, all else the tree
abbrev pub show_of : ℕ → Show
show_of zero = show.Array
show_of (suc n) = show.Tree

-- REFUSALS

-- the caller is told of the error: by the code, by the fault, and in the memory for the message and for the lexemes
pub record IsTold (error : ParseError) (code : ℕ) (before fault : Fault) (message_before message expected_before expected : List ℕ) : Type 0 where
  pub code_is : code ≡ code_of error
  pub fault_is : fault ≡ fault_of error before
  pub message_is : message ≡ message_of error message_before
  pub expected_is : expected ≡ expected_of error expected_before

-- why an input has no derivations: it is not read to its end, or its tokens have none
pub data IsUnparsed (b : Built) (ranking : Ranking) (bytes text : List ℕ) (place : Option Place) (expected : List ℕ) : Type 0 where
  NotRead : IsInputRefusedAt b [] bytes text place expected → IsUnparsed b ranking bytes text place expected
  NotDerived : IsNoDerivation b [] ranking (chars bytes) text place expected → IsUnparsed b ranking bytes text place expected
