use Rattle.std.proofs.Common.{◌∙◌, ◌++◌, ◌∷◌, [], List, take, sym, ap, subst, arith}
use Rattle.std.proofs.lemmas.List.{take_all, take_more}
use Rattle.finite_sets.proofs.Lists.{got_item, got_at}
use Rattle.recognizer_model.specs.declared.NodeKey.{NodeKey}
use Rattle.forest_parts.specs.Counts.{AreLeast}
use Rattle.forest_parts.proofs.counts.least_origins.Goals as goal

pub lower-requires : goal.lower-requires
lower-requires c = let l = c.loop-k.invariant.long in let e = c.requires c.key_at.result (got_item c.args.keys.now c.loop-k.k c.key_at.result (sym c.key_at.ensures)) in omega arith

pub loop-k-preserved : goal.loop-k-preserved
loop-k-preserved c =
    let (lt, same) = got_at c.args.keys.now c.loop-k.k c.key_at.result c.key_at.result (sym c.key_at.ensures) in
    record {
      long = c.lower.ensures.long ∙ c.loop-k.invariant.long;
      least = subst (λ (l : List NodeKey). AreLeast l c.lower.new.least.items) (ap (λ (k : NodeKey). take c.loop-k.k c.args.keys.now ++ k ∷ []) (sym same) ∙ sym (take_more c.args.keys.now c.loop-k.k c.key_at.result lt))
          (c.lower.ensures.least (take c.loop-k.k c.args.keys.now) c.loop-k.invariant.least);
    }

pub returns-clause-least : goal.returns-clause-least
returns-clause-least c = subst (λ (l : List NodeKey). AreLeast l c.loop-k.least.items) (take_all c.loop-k.k c.args.keys.now c.loop-k-test.false) c.loop-k.invariant.least
