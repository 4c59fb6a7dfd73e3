use Rattle.std.proofs.Common.{◌≡◌, ◌∙◌, ◌∷◌, ◌++◌, [], refl, sym, subst}
use Rattle.std.proofs.lemmas.List.{append-nil}
use Rattle.finite_sets.proofs.Lists.{got_item}
use Rattle.bocage.specs.Walk.{IsNext, Lists, parts_of_group}
use Rattle.bocage.proofs.Joining.{group_span, group_start, group_symbol}
use Rattle.bocage.proofs.Wholes.{put_group}
use Rattle.bocage.proofs.Noting.{noted_more}
use Rattle.bocage.proofs.walk.put_alternative.Goals as goal

pub cause_of_group-requires-clause-noted : goal.cause_of_group-requires-clause-noted
cause_of_group-requires-clause-noted c =
    noted_more c.args.known.now c.args.found.now _ (c.in_ok-predecessor.ensures.grows).0 [] (c.in_ok-predecessor.ensures.grows).1 (sym (append-nil c.args.found.now.wholes.items)) refl c.requires.noted

pub returns : goal.returns
returns c =
    let here = got_item c.args.known.now.groups.now c.args.at c.args.group (sym c.requires.group) in
    let span = group_span c.args.known.now c.requires.knows c.args.group here in
    let start = group_start c.args.known.now c.requires.knows c.args.group here in
    let symbol = group_symbol c.args.known.now c.requires.knows c.args.group here in
    let cause = c.in_ok-cause.ensures in
    subst (λ x. Lists c.args.known.now c.args.predecessor x (λ m. m ≡ c.args.group.start) c.args.found.now (record { keys = c.cause_of_group.new.found.keys; alternatives = c.push.new.self; wholes = c.cause_of_group.new.found.wholes; causes = c.cause_of_group.new.found.causes })) symbol
    (put_group c.args.known.now c.requires.knows c.args.predecessor (parts_of_group c.args.known.now c.args.group) span c.args.group.start start (subst (λ x. IsNext c.args.known.now c.args.predecessor x) (sym symbol) c.requires.next) c.requires.there c.args.found.now
    (record { keys = c.cause_of_group.new.found.keys; alternatives = c.push.new.self; wholes = c.cause_of_group.new.found.wholes; causes = c.cause_of_group.new.found.causes }) c.predecessor_of.new.keys.keys c.in_ok-predecessor.predecessor c.in_ok-cause.cause cause.more
    (c.in_ok-push.ensures.ok ∙ (λ i. (cause.alternatives i).items ++ record { start = c.args.group.start; predecessor = c.in_ok-predecessor.predecessor; cause = c.in_ok-cause.cause } ∷ []))
    cause.wholes c.in_ok-predecessor.ensures.predecessor c.in_ok-predecessor.ensures.grows cause.keys cause.held
    (record { long = cause.noted.long; each = cause.noted.each }))
