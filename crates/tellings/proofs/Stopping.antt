-- What is known of a stop, and what follows from it.
use Rattle.std.proofs.Common.{◌≡◌, ℕ, List, [], Option, Result, Ok, Err, Vec, Global, refl, sym, subst}
use Rattle.std.specs.Prelude.{IsErrAnd, IfErr}
use Rattle.std.specs.List.{concat}
use Rattle.std.specs.Io.KnownBytes.{Appends}
use Rattle.outside_model.specs.Told.{AppendsPrefix}
use Rattle.slif_base.proofs.Bytes.{appends_none}
use Rattle.run_model.specs.Outcome.{Outcome, done}
use Rattle.run_model.specs.Outside.{Stream}
use Rattle.tellings.specs.Stops.{StopsBy, OfGrammar, OfInput, IsPrefix, AppendsPrefixOf, Does, StopsAt, WriteStops, LinesStop, refusal_outcome}
use Rattle.tellings.specs.Stops.IsPrefix.{Nothing, Prefix}
use Rattle.tellings.specs.declared.stop.Refusal.{Refusal}
use Rattle.tellings.specs.declared.stop.Refusal.TheVariants.{Usage, Grammar as BadGrammar, Input as BadInput}
use Rattle.tellings.specs.declared.stop.Stop.{Stop}
use Rattle.tellings.specs.declared.stop.Stop.TheVariants.{Refused, OpenFault, ReadFault, WriteFault, NoMemory}

-- what is so of a stop, of which more is so
module _ {R S : Refusal → Type 0} {U V : List ℕ → Type 0} {A B C D E F : Type 0} where
  pub stops_as : ((r : Refusal) → R r → S r) → ((n : List ℕ) → U n → V n) → (A → B) → (C → D) → (E → F) → (stop : Stop) → StopsBy R U A C E stop → StopsBy S V B D F stop
  stops_as refused unopened unread unwritten no_room (Refused refusal) stops = refused refusal stops
  stops_as refused unopened unread unwritten no_room (OpenFault name) stops = unopened name.now stops
  stops_as refused unopened unread unwritten no_room ReadFault stops = unread stops
  stops_as refused unopened unread unwritten no_room WriteFault stops = unwritten stops
  stops_as refused unopened unread unwritten no_room NoMemory stops = no_room stops

pub of_grammar : (P : List ℕ → Type 0) (Q : Refusal → Type 0) → ((text : Vec ℕ Global) → P text.items → Q (BadGrammar text)) → (r : Refusal) → OfGrammar P r → Q r
of_grammar P Q f Usage of = absurd of
of_grammar P Q f (BadGrammar text) of = f text of
of_grammar P Q f (BadInput text) of = absurd of

pub of_input : (P : List ℕ → Type 0) (Q : Refusal → Type 0) → ((text : Vec ℕ Global) → P text.items → Q (BadInput text)) → (r : Refusal) → OfInput P r → Q r
of_input P Q f Usage of = absurd of
of_input P Q f (BadGrammar text) of = absurd of
of_input P Q f (BadInput text) of = f text of

-- an error that came through a `?`
pub passed_on : {T X : Type 0} (P : X → Type 0) (r : Result T X) (e : X) → IsErrAnd r (λ x. x ≡ e) → P e → IfErr r P
passed_on P (Ok x) e is holds = tt
passed_on P (Err x) e is holds = subst P (sym is) holds

module _ (P Q : Outcome → Type 0) (f : (o : Outcome) → P o → Q o) where
  prefix_weaker : (text : List ℕ) → IsPrefix P text → IsPrefix Q text
  prefix_weaker text (Nothing e) = Nothing e
  prefix_weaker text (Prefix o p rest e) = Prefix o (f o p) rest e

  pub appends_weaker : (before after : Option (List ℕ)) → AppendsPrefixOf P before after → AppendsPrefixOf Q before after
  appends_weaker before after a = record { text = a.text; prefix = prefix_weaker a.text a.prefix; appends = a.appends }

  pub does_weaker : (before after : Option (List ℕ)) → Does P before after → Does Q before after
  does_weaker before after d = record { outcome = d.outcome; is = f d.outcome d.is; status_is = d.status_is; line_is = d.line_is; out = d.out }

  pub stops_weaker : (U V : List ℕ → Type 0) (R S : Type 0) → ((n : List ℕ) → U n → V n) → (R → S) → (before after : Stream) (stop : Stop)
      → StopsAt P U R before after stop → StopsAt Q V S before after stop
  stops_weaker U V R S g h before after =
      stops_as (λ r x. (f (refusal_outcome r) x.0, x.1)) (λ n x. (g n x.0, x.1)) (λ x. (h x.0, x.1)) (λ x. (x.0, appends_weaker before.bytes after.bytes x.1))
      (appends_weaker before.bytes after.bytes)

pub nothing_appended : (P : Outcome → Type 0) (before : Option (List ℕ)) → AppendsPrefixOf P before before
nothing_appended P before = record { text = []; prefix = Nothing refl; appends = appends_none before }

-- a call that found no memory, and nothing was written
pub memory_stops : {T : Type 0} (P : Outcome → Type 0) (before : Stream) (r : Result T Stop) → IsErrAnd r (λ stop. stop ≡ NoMemory) → IfErr r (WriteStops P before before)
memory_stops P before r is = passed_on (WriteStops P before before) r NoMemory is (nothing_appended P before.bytes)

-- LINES

module _ (P : Outcome → Type 0) (lines : List (List ℕ)) (is : P (done lines)) where
  pub lines_done : (before after : Option (List ℕ)) → Appends before after (concat lines) → Does P before after
  lines_done before after written = record { outcome = done lines; is = is; status_is = refl; line_is = refl; out = written }

  part_done : (before after : Option (List ℕ)) → AppendsPrefix before after (concat lines) → AppendsPrefixOf P before after
  part_done before after part = record { text = part.bytes; prefix = Prefix (done lines) is part.rest part.split; appends = part.appends }

  pub lines_stop : (before after : Stream) (stop : Stop) → LinesStop lines before after stop → WriteStops P before after stop
  lines_stop before after =
      stops_as (λ r x. absurd x) (λ n x. absurd x) (λ x. absurd x) (λ x. (x.0, part_done before.bytes after.bytes x.1)) (part_done before.bytes after.bytes)
