use Rattle.std.proofs.Common.{◌≡◌, ◌++◌, sym, subst, arith}
use Rattle.std.specs.Prelude.{MatchOption}
use Rattle.std.proofs.lemmas.Bool.Decides.{nat_tests}
use Rattle.grammar_model.specs.Text.{escaped}
use Rattle.tree_text.specs.Prefixes.{HasNoCharacter}
use Rattle.tree_text.proofs.Escapes.{no_character_end, no_raw, letter_begins, plain_escape}
use Rattle.tree_text.proofs.characters.read_character.Goals as goal

pub returns-in_err-c : goal.returns-in_err-c
returns-in_err-c c = rw c.from_residual.ensures (no_character_end _ c.in_err-c.ensures)

pub returns-in-34 : goal.returns-in-34
returns-in-34 c = no_raw _ _ _ c.in_ok-c.ensures (grind arith) (grind (arith, nat_tests))

pub returns-in_default : goal.returns-in_default
returns-in_default c = no_raw _ _ _ c.in_ok-c.ensures (grind arith) (grind (arith, nat_tests))

pub returns-in-92 : goal.returns-in-92
returns-in-92 c =
    subst (λ l. MatchOption c.read_escape.result (HasNoCharacter l) (λ x. l ≡ escaped x.0 ++ x.1.now))
    (sym (letter_begins _ _ _ 92 c.in_ok-c.ensures (grind arith) (omega arith))) c.read_escape.ensures

pub returns-in_default-2 : goal.returns-in_default-2
returns-in_default-2 c = plain_escape _ _ _ c.in_ok-c.ensures (grind (arith, nat_tests)) (grind arith)
