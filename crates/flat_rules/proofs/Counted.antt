-- A grammar that is flattened has few flat rules, and one that is refused has too many.
use Rattle.std.proofs.Common.{length, map}
use Rattle.std.proofs.lemmas.List.{length-map}
use Rattle.grammar_model.specs.Grammar.{Grammar}
use Rattle.grammar_model.specs.Checked.{IsChecked}
use Rattle.recognizer_model.specs.Flat.{FlatGrammar}
use Rattle.recognizer_model.specs.FlatForm.{named}
use Rattle.recognizer_model.specs.FewRules.{HasFewRules, HasTooManyRules}
use Rattle.flat_model.specs.Flatten.{flat_of}
use Rattle.flat_model.specs.Flattened.{IsFlattened, HasTooMany}
use Rattle.flat_rules.proofs.FlatOf.{is_flat_of}

pub few_rules : (w : Grammar) (f : FlatGrammar) → IsFlattened w f → HasFewRules w
few_rules w f is = record { count = length f.rules; counted = (map (named f) f.rules, is.made.rules, length-map f.rules (named f)); few = is.few }

pub many_rules : (w : Grammar) → IsChecked w → HasTooMany w → HasTooManyRules w
many_rules w c many =
    let f = flat_of w many.decided in
    record { count = length f.rules; counted = (map (named f) f.rules, (is_flat_of w many.decided c).rules, length-map f.rules (named f)); many = many.many many.decided }
