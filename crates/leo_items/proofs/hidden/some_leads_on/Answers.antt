use Rattle.std.proofs.Common.{true≢false, sym, ◌∙◌, subst, arith}
use Rattle.std.proofs.lemmas.List.{take_all}
use Rattle.finite_sets.proofs.Lists.{Contains-none}
use Rattle.grammar_core.proofs.Placed.{at_found}
use Rattle.leo_items.specs.Hidden.{NoneLeadsOn}
use Rattle.leo_items.proofs.Hiding.{none_more}
use Rattle.leo_items.proofs.hidden.some_leads_on.Goals as goal

pub loop-k-init : goal.loop-k-init
loop-k-init c item step (h, le) s = Contains-none item h

pub leads_on-requires-clause-rule : goal.leads_on-requires-clause-rule
leads_on-requires-clause-rule c = (c.requires.items c.at.result (at_found c.args.items.now c.loop-k.k c.at.result c.at.ensures)).is_rule

pub loop-k-preserved : goal.loop-k-preserved
loop-k-preserved c =
    none_more c.args.flat.now c.args.rows.now.sets c.args.earleme c.args.from c.args.items.now c.loop-k.k c.at.result c.at.ensures c.loop-k.invariant
    (c.leads_on.ensures (λ t. true≢false (sym t ∙ c.if-leads_on.false)))

pub returns : goal.returns
returns c none =
    subst (NoneLeadsOn c.args.flat.now c.args.rows.now.sets c.args.earleme c.args.from) (take_all c.loop-k.k c.args.items.now (let n = c.len-k-end.ensures in let f = c.loop-k-test.false in omega arith)) c.loop-k.invariant
