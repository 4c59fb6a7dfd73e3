use Rattle.std.proofs.Common.{◌≡◌, ◌∷◌, ◌++◌, refl, sym, subst, arith}
use Rattle.std.specs.Prelude.{MatchOption}
use Rattle.std.proofs.lemmas.Bool.Decides.{nat_tests}
use Rattle.grammar_model.specs.Text.{escaped}
use Rattle.tree_text.specs.Prefixes.{HasNoCharacter}
use Rattle.tree_text.proofs.Escapes.{no_escape, no_escape_end, letter_begins, letter_escape, marked_escape}
use Rattle.tree_text.proofs.characters.read_escape.Goals as goal

pub returns-in_err-c : goal.returns-in_err-c
returns-in_err-c c = rw c.from_residual.ensures (no_escape_end _ c.in_err-c.ensures)

pub returns-in_default : goal.returns-in_default
returns-in_default c = no_escape _ _ _ c.in_ok-c.ensures (grind (arith, nat_tests)) (grind arith)

pub returns-in-92 : goal.returns-in-92
returns-in-92 c = marked_escape _ _ _ c.in_ok-c.ensures (grind (arith, nat_tests))

pub returns-in-n : goal.returns-in-n
returns-in-n c = letter_escape _ _ _ 110 10 c.in_ok-c.ensures (grind arith) (omega arith) refl

pub returns-in-r : goal.returns-in-r
returns-in-r c = letter_escape _ _ _ 114 13 c.in_ok-c.ensures (grind arith) (omega arith) refl

pub returns-in-t : goal.returns-in-t
returns-in-t c = letter_escape _ _ _ 116 9 c.in_ok-c.ensures (grind arith) (omega arith) refl

pub returns-in-x : goal.returns-in-x
returns-in-x c =
    subst (λ l. MatchOption c.read_control.result (HasNoCharacter (92 ∷ l)) (λ x. 92 ∷ l ≡ escaped x.0 ++ x.1.now))
    (sym (letter_begins _ _ _ 120 c.in_ok-c.ensures (grind arith) (omega arith))) c.read_control.ensures
