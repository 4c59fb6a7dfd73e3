use Rattle.std.proofs.Common.{◌≡◌, [], ◌∷◌, subst, sym, rules}
use Rattle.std.specs.Prelude.{IfOk, option_map}
use Rattle.dsl_statement.specs.declared.statement.Adverb.{Adverb as HeldAdverb}
use Rattle.dsl_statement.specs.Statements.{adverb_of}
use Rattle.dsl_faults.specs.Found.{fault_of, first_of}
use Rattle.dsl_faults.specs.Adverbs.{place_of, list_faults}
use Rattle.dsl_faults.specs.declared.checks.Check.TheVariants.{Known}
use Rattle.dsl_faults.proofs.Pairs.{known_flat}
use Rattle.dsl_faults.proofs.checks.unknown.Goals as goal

pub returns : goal.returns
returns c =
    subst (λ fs. IfOk c.first_found.result (λ found. option_map fault_of found ≡ first_of fs)) (sym (known_flat (place_of c.args.place) c.args.adverbs.now))
    (c.first_found.ensures (λ (a : HeldAdverb). list_faults Known (place_of c.args.place, adverb_of a ∷ [])) (λ x o e. search rules))
