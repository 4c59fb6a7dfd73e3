use Rattle.std.proofs.Common.{◌∙◌, ◌<◌, ◌↔◌, ℕ, List, Contains, sym, subst}
use Rattle.forest_parts.specs.Chains.{EndsAt}
use Rattle.bocage.proofs.Joining.{gathered_same}
use Rattle.bocage.proofs.ends.visit_from.Goals as goal

pub visit_gathered-requires-clause-knows : goal.visit_gathered-requires-clause-knows
visit_gathered-requires-clause-knows c = record {
  checked = c.requires.read.checked;
  flat_of = c.requires.read.flat_of;
  is = c.requires.read.is;
  end = c.requires.end;
  gathered = gathered_same c.args.w.now c.args.ranking c.args.recce.now c.args.end c.args.least c.gather.new.work.parts.items c.deref.result.now c.gather.new.work.groups.items c.deref-2.result.now
      c.gather.new.work.joins.items c.deref-3.result.now c.in_ok-gather.ensures.gathered c.deref.ensures.value c.deref-2.ensures.value c.deref-3.ensures.value;
}

pub visit_gathered-requires-clause-going : goal.visit_gathered-requires-clause-going
visit_gathered-requires-clause-going c = c.requires.going

pub visit_gathered-requires-clause-nodes : goal.visit_gathered-requires-clause-nodes
visit_gathered-requires-clause-nodes c n =
    subst (λ (l : List ℕ). Contains l n ↔ ((n < c.args.first) × EndsAt c.args.found.now.keys.keys c.args.end n)) (sym (c.deref-4.ensures.value ∙ (λ i. (c.gather.ensures.nodes i).items))) (c.requires.nodes n)

pub visit_gathered-requires-clause-least : goal.visit_gathered-requires-clause-least
visit_gathered-requires-clause-least c n key h at = c.requires.least n key (subst (λ (l : List ℕ). Contains l n) (c.deref-4.ensures.value ∙ (λ i. (c.gather.ensures.nodes i).items)) h) at

pub visit_gathered-requires-clause-whole : goal.visit_gathered-requires-clause-whole
visit_gathered-requires-clause-whole c = c.requires.whole

pub returns-clause-visited : goal.returns-clause-visited
returns-clause-visited c = c.visit_gathered.ensures.visited

pub returns-clause-grows : goal.returns-clause-grows
returns-clause-grows c = c.visit_gathered.ensures.grows
