-- What is known of a stop, and what follows from it.
use Rattle.std.proofs.Common.{◌≡◌, ◌∙◌, ℕ, List, [], ◌++◌, Option, Result, Ok, Err, refl, sym, ap, subst, append_assoc, ◌≤◌, arith}
use Rattle.std.specs.Prelude.{IsErrAnd, IfErr}
use Rattle.std.specs.Io.KnownBytes.{Appends}
use Rattle.outside_model.specs.Told.{AppendsPrefix}
use Rattle.slif_base.proofs.Bytes.{appends_none, appends_twice}
use Rattle.run_model.specs.Outside.{Stream}
use Rattle.slif_parser.specs.declared.error.ParseError.{ParseError}
use Rattle.slif_glades.specs.declared.stop.Stop.{Stop}
use Rattle.slif_glades.specs.declared.stop.Stop.TheVariants.{Usage, Parse, OpenFault, ReadFault, WriteFault, NoMemory}
use Rattle.slif_glades.specs.Telling.{StopsBy, Stops, TextStops, Writes, WritesPart}
use Rattle.slif_glades.specs.Telling.WritesPart.{Nothing, Part}

-- what is so of a stop, of which more is so
stops_as : {R S : ParseError → Type 0} {A B C D : Type 0} → ((e : ParseError) → R e → S e) → (A → B) → (C → D) → (stop : Stop) → StopsBy R A C stop → StopsBy S B D stop
stops_as refused unwritten no_room Usage stops = stops
stops_as refused unwritten no_room (Parse error) stops = refused error stops
stops_as refused unwritten no_room OpenFault stops = stops
stops_as refused unwritten no_room ReadFault stops = stops
stops_as refused unwritten no_room WriteFault stops = unwritten stops
stops_as refused unwritten no_room NoMemory stops = no_room stops

-- an error that came through a `?`
pub passed_on : {T X : Type 0} (P : X → Type 0) (r : Result T X) (e : X) → IsErrAnd r (λ x. x ≡ e) → P e → IfErr r P
passed_on P (Ok x) e is holds = tt
passed_on P (Err x) e is holds = subst P (sym is) holds

-- a call that found no memory, and nothing was written
pub memory_stops : {T : Type 0} (P : List ℕ → Type 0) (R : ParseError → Type 0) (before : Stream) (r : Result T Stop) → IsErrAnd r (λ stop. stop ≡ NoMemory) → IfErr r (Stops P R before before)
memory_stops P R before r is = passed_on (Stops P R before before) r NoMemory is (Nothing (appends_none before.bytes))

pub text_memory : {T : Type 0} (text : List ℕ) (before : Stream) (r : Result T Stop) → IsErrAnd r (λ stop. stop ≡ NoMemory) → IfErr r (TextStops text before before)
text_memory text before r is = passed_on (TextStops text before before) r NoMemory is (record { bytes = []; rest = text; split = refl; appends = appends_none before.bytes })

-- a text that has P was not all written
pub of_text : (P : List ℕ → Type 0) (R : ParseError → Type 0) (text : List ℕ) → P text → (before after : Stream) (stop : Stop) → TextStops text before after stop → Stops P R before after stop
of_text P R text has before after = stops_as (λ e x. absurd x) (λ x. (x.0, Part text has x.1)) (Part text has)

module _ (P Q : List ℕ → Type 0) (f : (text : List ℕ) → P text → Q text) where
  pub writes_weaker : (before after : Option (List ℕ)) → Writes P before after → Writes Q before after
  writes_weaker before after w = record { text = w.text; has = f w.text w.has; appends = w.appends }

  part_weaker : (before after : Option (List ℕ)) → WritesPart P before after → WritesPart Q before after
  part_weaker before after (Nothing none) = Nothing none
  part_weaker before after (Part text has part) = Part text (f text has) part

  pub stops_weaker : (R S : ParseError → Type 0) → ((e : ParseError) → R e → S e) → (before after : Stream) (stop : Stop) → Stops P R before after stop → Stops Q S before after stop
  stops_weaker R S h before after =
      stops_as (λ e x. (h e x.0, x.1)) (λ x. (x.0, part_weaker before.bytes after.bytes x.1)) (part_weaker before.bytes after.bytes)

-- TEXTS, one after the other

pub text_behind : (before middle after : Stream) (written text rest whole : List ℕ) → Appends before.bytes middle.bytes written → before.faults ≤ middle.faults → whole ≡ written ++ (text ++ rest)
    → (stop : Stop) → TextStops text middle after stop → TextStops whole before after stop
text_behind before middle after written text rest whole first later split =
    stops_as (λ e x. x) (λ x. (let rose = x.0 in omega (arith, later, rose), behind x.1)) behind
  where
    behind : AppendsPrefix middle.bytes after.bytes text → AppendsPrefix before.bytes after.bytes whole
    behind part = record {
      bytes = written ++ part.bytes;
      rest = part.rest ++ rest;
      split = split ∙ ap (λ t. written ++ (t ++ rest)) part.split ∙ ap (λ t. written ++ t) (append_assoc part.bytes part.rest rest) ∙ sym (append_assoc written part.bytes (part.rest ++ rest));
      appends = appends_twice before.bytes middle.bytes after.bytes written part.bytes first part.appends;
    }
