-- What is known where a part of the work stops, and of what is written before.
use Rattle.std.specs.Prelude.{◌≡◌, ℕ, List, [], ◌++◌, Option}
use Rattle.std.specs.List.{concat}
use Rattle.std.specs.Io.KnownBytes.{Appends}
use Rattle.outside_model.specs.Causes.{Rose}
use Rattle.outside_model.specs.Told.{AppendsPrefix}
use Rattle.run_model.specs.Outcome.{Outcome, usage, refused}
use Rattle.run_model.specs.Outside.{Stream}
use Rattle.tellings.specs.declared.stop.Refusal.{Refusal}
use Rattle.tellings.specs.declared.stop.Refusal.TheVariants.{Usage, Grammar as BadGrammar, Input as BadInput}
use Rattle.tellings.specs.declared.stop.Stop.{Stop}
use Rattle.tellings.specs.declared.stop.Stop.TheVariants.{Refused, OpenFault, ReadFault, WriteFault, NoMemory}

abbrev pub refusal_outcome : Refusal → Outcome
refusal_outcome Usage = usage
refusal_outcome (BadGrammar text) = refused 3 text.items
refusal_outcome (BadInput text) = refused 1 text.items

-- what is so of a stop, by its kind: of what is refused, of the name of a file that was not opened, where something was not read or not
-- written, and where there is no memory
abbrev pub StopsBy : (Refuses : Refusal → Type 0) (Unopened : List ℕ → Type 0) (Unread Unwritten NoRoom : Type 0) → Stop → Type 0
StopsBy Refuses Unopened Unread Unwritten NoRoom (Refused refusal) = Refuses refusal
StopsBy Refuses Unopened Unread Unwritten NoRoom (OpenFault name) = Unopened name.now
StopsBy Refuses Unopened Unread Unwritten NoRoom ReadFault = Unread
StopsBy Refuses Unopened Unread Unwritten NoRoom WriteFault = Unwritten
StopsBy Refuses Unopened Unread Unwritten NoRoom NoMemory = NoRoom

-- a grammar is refused with a text of which P holds
abbrev pub OfGrammar : (List ℕ → Type 0) → Refusal → Type 0
OfGrammar P Usage = ⊥
OfGrammar P (BadGrammar text) = P text.items
OfGrammar P (BadInput text) = ⊥

-- an input is
abbrev pub OfInput : (List ℕ → Type 0) → Refusal → Type 0
OfInput P Usage = ⊥
OfInput P (BadGrammar text) = ⊥
OfInput P (BadInput text) = P text.items

-- OUTCOMES. One of those with P comes about.

-- the text is a prefix of that of an outcome, or nothing
pub data IsPrefix (P : Outcome → Type 0) (text : List ℕ) : Type 0 where
  Nothing : text ≡ [] → IsPrefix P text
  Prefix : (outcome : Outcome) → P outcome → (rest : List ℕ) → outcome.out ≡ text ++ rest → IsPrefix P text

pub record AppendsPrefixOf (P : Outcome → Type 0) (before after : Option (List ℕ)) : Type 0 where
  pub text : List ℕ
  pub prefix : IsPrefix P text
  pub appends : Appends before after text

-- the whole text of an outcome was written, and nothing is refused
pub record Does (P : Outcome → Type 0) (before after : Option (List ℕ)) : Type 0 where
  pub outcome : Outcome
  pub is : P outcome
  pub status_is : outcome.status ≡ 0
  pub line_is : outcome.line ≡ []
  pub out : Appends before after outcome.out

-- where the work stopped: a name may be that of a file that was not opened, and something may not have been read
abbrev pub StopsAt : (P : Outcome → Type 0) (Unopened : List ℕ → Type 0) (Unread : Type 0) → Stream → Stream → Stop → Type 0
StopsAt P Unopened Unread before after =
    StopsBy (λ refusal. P (refusal_outcome refusal) × Appends before.bytes after.bytes []) (λ name. Unopened name × Appends before.bytes after.bytes [])
    (Unread × Appends before.bytes after.bytes []) (Rose before.faults after.faults × AppendsPrefixOf P before.bytes after.bytes) (AppendsPrefixOf P before.bytes after.bytes)

-- where only writing and memory may have failed
abbrev pub WriteStops : (P : Outcome → Type 0) → Stream → Stream → Stop → Type 0
WriteStops P before after stop = StopsAt P (λ name. ⊥) ⊥ before after stop

-- lines were not all written: a prefix of their text was
abbrev pub LinesStop : List (List ℕ) → Stream → Stream → Stop → Type 0
LinesStop lines before after =
    StopsBy (λ refusal. ⊥) (λ name. ⊥) ⊥ (Rose before.faults after.faults × AppendsPrefix before.bytes after.bytes (concat lines))
    (AppendsPrefix before.bytes after.bytes (concat lines))
