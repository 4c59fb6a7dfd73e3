use Rattle.std.proofs.Common.{ℕ, List, ap, subst, arith, length, chars}
use Rattle.std.proofs.lemmas.Str.{length-le-encodes, encodes-chars}
use Rattle.language_model.specs.Texts.{IsText, HasDescription}
use Rattle.text_reading.specs.Refusals.{TellsGrammar, IsRefusedAt}
use Rattle.text_reading.specs.Parts.{IsBadText, IsBadDescription, IsDescriptionOf}
use Rattle.text_reading.proofs.Refusing.{tells_weaker, refused_text, refused_description}
use Rattle.text_reading.proofs.grammar.read_grammar.Goals as goal

pub describe-requires : goal.describe-requires
describe-requires c =
    let utf8 = c.in-Ok.ensures.utf8 in
    omega (arith, ap length c.in-Ok.ensures.ok, length-le-encodes (chars c.args.bytes.now), ap length (encodes-chars c.args.bytes.now utf8), c.requires)

pub accept-requires-clause-small : goal.accept-requires-clause-small
accept-requires-clause-small c =
    let utf8 = c.in-Ok.ensures.utf8 in
    omega (arith, ap length c.in-Ok.ensures.ok, length-le-encodes (chars c.args.bytes.now), ap length (encodes-chars c.args.bytes.now utf8), c.requires)

pub returns-in-Err-describe-clause-refused : goal.returns-in-Err-describe-clause-refused
returns-in-Err-describe-clause-refused c =
    let text : IsText c.args.bytes.now = record { within = c.requires; utf8 = c.in-Ok.ensures.utf8 } in
    tells_weaker (IsBadText (chars c.args.bytes.now)) (IsRefusedAt c.args.bytes.now) (λ t p. refused_text c.args.bytes.now t p text) c.in-Err-describe.refusal
    (subst (λ (cs : List ℕ). TellsGrammar (IsBadText cs) c.in-Err-describe.refusal) c.in-Ok.ensures.ok c.in-Err-describe.ensures.refused)

pub returns-clause-refused : goal.returns-clause-refused
returns-clause-refused c =
    let text : IsText c.args.bytes.now = record { within = c.requires; utf8 = c.in-Ok.ensures.utf8 } in
    let described : IsDescriptionOf c.in-Ok-describe.description (chars c.args.bytes.now) =
    subst (λ (cs : List ℕ). IsDescriptionOf c.in-Ok-describe.description cs) c.in-Ok.ensures.ok c.in-Ok-describe.ensures.described in
    let has : HasDescription c.args.bytes.now c.in-Ok-describe.description = record { tokens = described.tokens; has = record { text = text; are = described.are }; described = described.described } in
    tells_weaker (IsBadDescription (chars c.args.bytes.now) c.in-Ok-describe.description) (IsRefusedAt c.args.bytes.now) (λ t p. refused_description c.args.bytes.now t p c.in-Ok-describe.description has) c.in-Err-accept.refusal
    (subst (λ (cs : List ℕ). TellsGrammar (IsBadDescription cs c.in-Ok-describe.description) c.in-Err-accept.refusal) c.in-Ok.ensures.ok c.in-Err-accept.ensures.refused)
