use Rattle.std.proofs.Common.{Some, subst, sym}
use Rattle.text_reading.specs.Parts.{IsBadText}
use Rattle.text_reading.proofs.Refusing.{bad_token, bad_statement}
use Rattle.text_reading.proofs.grammar.describe.Goals as goal

pub returns-in-Err-BadToken-clause-refused : goal.returns-in-Err-BadToken-clause-refused
returns-in-Err-BadToken-clause-refused c =
    subst (λ p. IsBadText c.args.chars.now c.in_ok-text-in-Err-BadToken.text.items (Some p)) (sym c.place_in.ensures)
    (bad_token c.args.chars.now c.in_ok-text-in-Err-BadToken.text.items c.in-Err-BadToken.field-0 c.in-Err-BadToken.at c.in-Err-BadToken.field-0-is c.in-Err-BadToken.ensures.refused c.in_ok-text-in-Err-BadToken.ensures)

pub returns-in-Err-BadStatement-clause-refused : goal.returns-in-Err-BadStatement-clause-refused
returns-in-Err-BadStatement-clause-refused c =
    subst (λ p. IsBadText c.args.chars.now c.in_ok-text-in-Err-BadStatement.text.items (Some p)) (sym c.place_in-in-Err-BadStatement.ensures)
    (bad_statement c.args.chars.now c.in-Ok.tokens c.in_ok-text-in-Err-BadStatement.text.items c.in-Err-BadStatement.field-0 c.in-Err-BadStatement.at
    c.in-Ok.ensures.found c.in-Err-BadStatement.field-0-is c.in-Err-BadStatement.ensures.refused c.in_ok-text-in-Err-BadStatement.ensures)
