use Rattle.std.proofs.Common.{◌≡◌, None, option_map}
use Rattle.dsl_faults.specs.Found.{refused_fault}
use Rattle.language_model.specs.Building.{Built}
use Rattle.language_model.specs.Texts.{IsBuiltOf}
use Rattle.text_reading.specs.Refusals.{place_in, fault_at}
use Rattle.text_reading.specs.Parts.{IsBadDescription, IsFaultText, IsGrammarText, OfGrammars}
use Rattle.text_reading.proofs.Refusing.{bad_description, if_refused, tells_weaker}
use Rattle.text_reading.proofs.grammar.accept.Goals as goal

pub returns-in-Ok-clause-refused : goal.returns-in-Ok-clause-refused
returns-in-Ok-clause-refused c =
    let b : Built = c.in-Ok.built in
    let built : IsBuiltOf c.args.description.now b = record { described = c.requires.read; faultless = c.in-Ok.ensures.faults; is = c.in-Ok.ensures.built } in
    if_refused (λ text place. IsGrammarText b text × (place ≡ None)) (IsBadDescription c.args.chars.now c.args.description.now)
    (λ text place told. OfGrammars b built told.0 told.1) c.prepare_built.result c.prepare_built.ensures.refused

pub returns-in-Err-clause-refused : goal.returns-in-Err-clause-refused
returns-in-Err-clause-refused c =
    let cs = c.args.chars.now in
    let d = c.args.description.now in
    let r = c.in-Err.refusal in
    tells_weaker (λ text place. IsFaultText cs (refused_fault r) text × (place ≡ option_map (λ fault. place_in cs (fault_at fault)) (refused_fault r))) (IsBadDescription cs d)
    (λ text place told. bad_description cs d text place r c.in-Err.ensures.faults told.0 told.1) c.tell_description-told.result c.tell_description-told.ensures
