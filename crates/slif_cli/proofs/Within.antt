-- How many steps a run takes.
use Rattle.std.proofs.Common.{◌≡◌, ◌∙◌, ℕ, List, Option, Result, Ok, Err, inl, inr, ap, sym, subst, arith, chars}
use Rattle.std.specs.Prelude.{OnOk}
use Rattle.std.specs.Io.KnownBytes.{Appends}
use Rattle.outside_model.specs.Told.{ToldFile}
use Rattle.earley_sets.specs.Recognizer.{Recognizer}
use Rattle.earley_sets.specs.Counted.{TakesAtMost}
use Rattle.language_model.specs.Building.{Built}
use Rattle.words_model.specs.Words.{Telling, Job, Asks}
use Rattle.words_model.proofs.Asked.{asks_once}
use Rattle.run_model.specs.Inputs.{IsInputText, input_limit}
use Rattle.run_model.specs.Outside.{Stream}
use Rattle.run_model.specs.Outcome.{Outcome}
use Rattle.run_model.specs.Within.{DoesWithin, RunsWithin, InputWithin}
use Rattle.slif_cli.specs.Stops.{MayHave, Reports}
use Rattle.tellings.specs.Stops.{Does}
use Rattle.tellings.specs.Telling.{GoesOnWithin}
use Rattle.tellings.specs.declared.stop.Refusal.TheVariants.{Usage, Grammar as BadGrammar, Input as BadInput}
use Rattle.tellings.specs.declared.stop.Stop.{Stop}
use Rattle.tellings.specs.declared.stop.Stop.TheVariants.{Refused, OpenFault, ReadFault, WriteFault, NoMemory}

-- the characters are those of the bytes
pub bytes_within : (what : Telling) (b : Built) (given bytes : List ℕ) → IsInputText (input_limit given) bytes → (recce : Recognizer) (before middle after : ℕ) → TakesAtMost recce before middle
    → GoesOnWithin what b given (chars bytes) recce middle after → InputWithin what b given bytes before after
bytes_within what b given bytes text recce before middle after reads goes =
    record { pieces = goes.pieces; read = record { text = text; reading = goes.reading }; within = goes.within before reads }

-- THE RUN

module _ (words : List (List ℕ)) (job : Job) (asks : Asks words job) (file : List ℕ → ToldFile) (left out out_after : Option (List ℕ)) (before after : ℕ) where
  pub runs_within : (d : Does (MayHave words file left) out out_after) → DoesWithin job.task d.is.0.grammar d.is.0.input before after → RunsWithin words file left out out_after before after
  runs_within d does = record {
    may = d.is.0;
    status_is = ap (λ (o : Outcome). o.status) d.is.1 ∙ d.status_is;
    written = subst (λ (o : Outcome). Appends out out_after o.out) (sym d.is.1) d.out;
    does = λ other others. subst (λ (j : Job). DoesWithin j.task d.is.0.grammar d.is.0.input before after) (asks_once words job other asks others) does;
  }

-- of what is so where something was done, both
pub on_ok_both : {T E : Type 0} (A B : Type 0) (r : Result T E) → OnOk r A → OnOk r B → OnOk r (A × B)
on_ok_both A B (Ok x) a b = (a, b)
on_ok_both A B (Err e) a b = tt

-- what is told of a stop is no success
pub not_done : (before after : Stream) (status : ℕ) (stop : Stop) → Reports before after status stop → status ≡ 0 → ⊥
not_done before after status (Refused Usage) (inl told) e = let is = told.0 in omega (arith, is, e)
not_done before after status (Refused (BadGrammar text)) (inl told) e = let is = told.0 in omega (arith, is, e)
not_done before after status (Refused (BadInput text)) (inl told) e = let is = told.0 in omega (arith, is, e)
not_done before after status (Refused refusal) (inr (inl told)) e = let is = told.0 in omega (arith, is, e)
not_done before after status (Refused refusal) (inr (inr told)) e = let is = told.0 in omega (arith, is, e)
not_done before after status (OpenFault name) (inl told) e = let is = told.0 in omega (arith, is, e)
not_done before after status (OpenFault name) (inr told) e = let is = told.0 in omega (arith, is, e)
not_done before after status ReadFault told e = let is = told.0 in omega (arith, is, e)
not_done before after status WriteFault told e = let is = told.0 in omega (arith, is, e)
not_done before after status NoMemory told e = let is = told.0 in omega (arith, is, e)
