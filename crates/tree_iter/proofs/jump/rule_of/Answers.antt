use Rattle.std.proofs.Common.{◌≡◌, sym, subst}
use Rattle.recognizer_model.proofs.Sources.{source_within}
use Rattle.recognizer_model.specs.Flat.{FlatGrammar, IsRule, source_of}
use Rattle.recognizer_model.specs.declared.flat.FlatSource.TheVariants.{Written}
use Rattle.tree_iter.proofs.GoalLemmas.{key_sound}
use Rattle.tree_iter.proofs.jump.rule_of.Goals as goal

pub origin_of-requires : goal.origin_of-requires
origin_of-requires c = (key_sound c.args.forest.now c.known.ensures c.args.node c.requires c.flat-flat.result.now c.flat-flat.ensures c.key-key.result c.key-key.ensures.value).rule

pub returns-in-Written-clause-within : goal.returns-in-Written-clause-within
returns-in-Written-clause-within c =
    let f = c.args.forest.now in
    let is_rule = (key_sound f c.known.ensures c.args.node c.requires c.flat-flat.result.now c.flat-flat.ensures c.key-key.result c.key-key.ensures.value).rule in
    source_within f.flat f.written c.key-key.result.rule c.in-Written.rule c.known.ensures.derived.flat_of (subst (λ (g : FlatGrammar). IsRule g c.key-key.result.rule) c.flat-flat.ensures is_rule)
    (subst (λ (g : FlatGrammar). source_of g c.key-key.result.rule ≡ Written c.in-Written.rule) c.flat-flat.ensures (sym c.in-Written.ensures))
