use Rattle.std.proofs.Common.{◌∙◌, length, nat_eq, refl, sym, subst}
use Rattle.std.specs.HashMap.{get}
use Rattle.grammar_core.specs.Long.{IsNewest}
use Rattle.grammar_core.proofs.Chains.{AreListedFrom, none_from, number_below, one_down, one_down_once, all_from}
use Rattle.grammar_core.proofs.long.list_chain.Goals as goal

pub loop-next-init : goal.loop-next-init
loop-next-init c = record {
  listed = none_from c.args.links.now c.args.place c.args.edges.now.items c.args.edges.now.items c.copied-next.result refl
      (subst (IsNewest c.args.links.now c.args.place (length c.args.links.now)) (sym (c.copied-next.ensures ∙ c.get.ensures.value)) (c.requires.chained.to c.args.place));
  once = c.requires.once;
}

pub link_at-link-requires : goal.link_at-link-requires
link_at-link-requires c =
    number_below c.args.links.now c.args.place c.args.edges.now.items c.loop-next.edges.items c.in-Some.number
    (subst (AreListedFrom c.args.links.now c.args.place c.args.edges.now.items c.loop-next.edges.items) c.in-Some.is c.loop-next.invariant.listed)

pub loop-next-preserved : goal.loop-next-preserved
loop-next-preserved c =
    let before = subst (AreListedFrom c.args.links.now c.args.place c.args.edges.now.items c.loop-next.edges.items) c.in-Some.is c.loop-next.invariant.listed in
    record {
      listed = one_down c.args.links.now c.args.place c.args.edges.now.items (get nat_eq c.args.newest.now) c.requires.chained c.loop-next.edges.items c.push.new.self.items c.in-Some.number c.link_at-link.result
          before c.link_at-link.ensures c.in_ok-push.ensures.items;
      once = one_down_once c.args.links.now c.args.place c.args.edges.now.items (get nat_eq c.args.newest.now) c.requires.chained c.requires.apart c.loop-next.edges.items c.push.new.self.items c.in-Some.number c.link_at-link.result
          before c.link_at-link.ensures c.in_ok-push.ensures.items c.loop-next.invariant.once;
    }

pub returns-clause-listed : goal.returns-clause-listed
returns-clause-listed c = all_from c.args.links.now c.args.place c.args.edges.now.items c.loop-next.edges.items c.loop-next.next c.in_default.is c.loop-next.invariant.listed
