use Rattle.std.proofs.Common.{refl, sym}
use Rattle.threads.proofs.Folding.{top_of_source, source_of_top}
use Rattle.threads.proofs.fold.is_start.Goals as goal

pub returns-in-Top : goal.returns-in-Top
returns-in-Top c = ((λ t. top_of_source c.args.flat.now c.known.ensures.flat c.args.rule c.in-Top.field-0 c.requires (sym c.in-Top.ensures)), (λ h. refl))

pub returns-in-Written : goal.returns-in-Written
returns-in-Written c = ((λ f. absurd (cc)), (λ h. let (k, e) = source_of_top c.args.flat.now c.known.ensures.flat c.args.rule h in let w = c.in-Written.ensures in absurd (cc)))
