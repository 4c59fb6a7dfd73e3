use Rattle.std.proofs.Common.{◌<◌, ◌++◌, ◌∷◌, [], ◌∙◌, sym, ap, subst}
use Rattle.glades.specs.declared.links.Link.{Link}
use Rattle.glades.proofs.Visiting.{first_within, some_there, link_found}
use Rattle.glades.proofs.links.visit.Goals as goal

pub note_all-requires : goal.note_all-requires
note_all-requires g c = λ at n lt e.
    subst (λ k. n < k) (sym c.requires.long)
    (first_within c.args.forest.now c.known.ensures c.args.node c.requires.node c.alternatives-alternatives.result c.alternatives-alternatives.ensures.value at n lt e)

pub first_two-requires : goal.first_two-requires
first_two-requires g c = some_there c.args.forest.now c.known.ensures c.args.node c.requires.node c.alternatives-alternatives.result c.alternatives-alternatives.ensures.value c.requires.by_rules

pub returns-clause-links : goal.returns-clause-links
returns-clause-links g c =
    c.in_ok-push.ensures.items
    ∙ ap (λ (l : Link). c.args.found.now.links.items ++ l ∷ [])
    (link_found c.args.forest.now c.known.ensures c.args.node c.requires.node c.alternatives-alternatives.result c.alternatives-alternatives.ensures.value c.requires.by_rules
    c.ends_with_list.result c.ends_with_list.ensures c.first_two.result c.first_two.ensures.list c.first_two.ensures.child)
