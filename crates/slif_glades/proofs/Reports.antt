-- What is known of the report that is told, and of the characters.
use Rattle.std.proofs.Common.{◌≡◌, ◌∙◌, ℕ, ◌≤◌, Bool, true, false, List, Option, length, arith}
use Rattle.std.specs.Prelude.{slice_range}
use Rattle.std.proofs.lemmas.List.{take_all}
use Rattle.grammar_model.specs.declared.limits.TheConstants.{LONGEST_INPUT}
use Rattle.glade_model.specs.Glades.{Glade}
use Rattle.slif_glades.specs.Telling.{AreMarked}

-- each glade has a mark or none
pub marks_long : (all : Bool) (glades : List Glade) (marks : List (Option ℕ)) → AreMarked all glades marks → length marks ≡ length glades
marks_long true glades marks marked = marked.long
marks_long false glades marks marked = marked.long

-- all of the text
pub whole_text : (cs text : List ℕ) → length cs ≤ LONGEST_INPUT → text ≡ slice_range cs 0 4294967295 → text ≡ cs
whole_text cs text few is = is ∙ take_all 4294967295 cs (omega (arith, few))
