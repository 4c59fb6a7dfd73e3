-- Held files leave a run an outcome.
use Rattle.std.proofs.Common.{◌≡◌, ◌≢◌, ℕ, List, [], Option, Some, None, IfSome, refl, inl, inr, subst}
use Rattle.outside_model.specs.Told.{ToldFile, MayHold, MayBe}
use Rattle.outside_model.specs.Told.ToldFile.{Untold, Missing, Told}
use Rattle.words_model.specs.Words.{Job, InputFrom, Asks}
use Rattle.words_model.specs.Words.InputFrom.{Nowhere, StandardInput, FileNamed}
use Rattle.words_model.proofs.Asked.{asks_or_not, asks_once, not_both}
use Rattle.run_model.specs.Runs.{Supplied, MayEnd, InputMayBe}
use Rattle.run_model.specs.Laws.{HoldsFiles}
use Rattle.run_model.proofs.Texts.{RunLaws}
use Rattle.run_model.proofs.Exists.{an_outcome}

some_held : (told : ToldFile) → told ≢ Missing → (bytes : List ℕ) × MayHold told bytes
some_held Untold there = ([], record {})
some_held Missing there = absurd (there refl)
some_held (Told known) there = (known, refl)

some_left : (left : Option (List ℕ)) → (bytes : List ℕ) × MayBe left bytes
some_left None = ([], record {})
some_left (Some known) = (known, refl)

module _ (file : List ℕ → ToldFile) where
  some_grammar : (name : Option (List ℕ)) → IfSome name (λ n. file n ≢ Missing) → (bytes : List ℕ) × IfSome name (λ n. MayHold (file n) bytes)
  some_grammar None there = ([], record {})
  some_grammar (Some name) there = some_held (file name) there

  some_input : (from : InputFrom) (left : Option (List ℕ)) → ((name : List ℕ) → from ≡ FileNamed name → file name ≢ Missing) → (bytes : List ℕ) × InputMayBe from file left bytes
  some_input Nowhere left there = ([], record {})
  some_input StandardInput left there = some_left left
  some_input (FileNamed name) left there = some_held (file name) (there name refl)

module _ (laws : RunLaws) (words : List (List ℕ)) (file : List ℕ → ToldFile) (left : Option (List ℕ)) where
  of_none : ((job : Job) → Asks words job → ⊥) → Supplied words file left [] []
  of_none none = record { grammar_held = λ job asks. absurd (none job asks); input_held = λ job asks goes. absurd (none job asks) }

  of_job : (job : Job) → Asks words job → (grammar input : List ℕ) → IfSome job.grammar (λ name. MayHold (file name) grammar)
      → InputMayBe job.input file left input → Supplied words file left grammar input
  of_job job asks grammar input held given = record {
    grammar_held = λ other asks'. subst (λ (j : Job). IfSome j.grammar (λ name. MayHold (file name) grammar)) (asks_once words job other asks asks') held;
    input_held = λ other asks' goes. subst (λ (j : Job). InputMayBe j.input file left input) (asks_once words job other asks asks') given;
  }

  pub an_end : HoldsFiles words file → MayEnd words file left
  an_end holds = elim (asks_or_not words) [
    | inl some ↦ (
        let job = some.0 in
        let g = some_grammar file job.grammar (holds.grammar some.0 some.1) in
        let i = some_input file job.input left (λ name e. holds.input some.0 name some.1 e) in
        let o = an_outcome laws words g.0 i.0 in
        record { grammar = g.0; input = i.0; outcome = o.0; supplied = of_job some.0 some.1 g.0 i.0 g.1 i.1; is_outcome = o.1 })
    | inr none ↦ (
        let o = an_outcome laws words [] [] in
        record { grammar = []; input = []; outcome = o.0; supplied = of_none (λ job asks. not_both words job asks none); is_outcome = o.1 })
  ]
