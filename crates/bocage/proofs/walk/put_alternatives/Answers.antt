use Rattle.std.proofs.Common.{◌∙◌, List, [], get_or, Contains, sym, ap, subst}
use Rattle.std.proofs.lemmas.List.Elements.{Contains-get_or}
use Rattle.std.proofs.lemmas.List.{take_all}
use Rattle.std.proofs.lemmas.Option.{slice_get-get_or}
use Rattle.finite_sets.proofs.Lists.{Contains-none, got_at}
use Rattle.earley_sets.specs.Recognizer.{set_at}
use Rattle.forest_parts.specs.declared.groups.Group.{Group}
use Rattle.bocage.specs.declared.joins.Join.{Join}
use Rattle.bocage.specs.Walk.{Lists, BeginsIn, IsNext}
use Rattle.bocage.proofs.JoinOrder.{no_join}
use Rattle.bocage.proofs.Growing.{lists_none}
use Rattle.bocage.proofs.Joining.{no_group, group_of_join, lists_next}
use Rattle.bocage.proofs.walk.put_alternatives.Goals as goal

pub loop-join-init : goal.loop-join-init
loop-join-init c = lists_none c.args.known.now c.args.predecessor c.args.symbol (BeginsIn c.args.known.now []) c.args.found.now (λ m (j, g, h, s, q) i. Contains-none j h) c.requires.noted

pub bounds-known-at : goal.bounds-known-at
bounds-known-at c =
    let (g, at, in_set, s) = group_of_join c.args.known.now c.requires.knows c.args.predecessor c.args.symbol c.requires.next c.args.joins.now c.requires.joins (get_or c.args.joins.now c.loop-join.join-index no_join) (Contains-get_or c.args.joins.now c.loop-join.join-index no_join c.loop-join-test.true) in
    (got_at c.args.known.now.groups.now (get_or c.args.joins.now c.loop-join.join-index no_join).group g no_group (sym at)).0

pub put_alternative-requires-clause-group : goal.put_alternative-requires-clause-group
put_alternative-requires-clause-group c =
    let (g, at, in_set, s) = group_of_join c.args.known.now c.requires.knows c.args.predecessor c.args.symbol c.requires.next c.args.joins.now c.requires.joins (get_or c.args.joins.now c.loop-join.join-index no_join) (Contains-get_or c.args.joins.now c.loop-join.join-index no_join c.loop-join-test.true) in
    slice_get-get_or c.args.known.now.groups.now (get_or c.args.joins.now c.loop-join.join-index no_join).group no_group (got_at c.args.known.now.groups.now (get_or c.args.joins.now c.loop-join.join-index no_join).group g no_group (sym at)).0

pub put_alternative-requires-clause-noted : goal.put_alternative-requires-clause-noted
put_alternative-requires-clause-noted c = c.loop-join.invariant.noted

pub put_alternative-requires-clause-next : goal.put_alternative-requires-clause-next
put_alternative-requires-clause-next c =
    let (g, at, in_set, s) = group_of_join c.args.known.now c.requires.knows c.args.predecessor c.args.symbol c.requires.next c.args.joins.now c.requires.joins (get_or c.args.joins.now c.loop-join.join-index no_join) (Contains-get_or c.args.joins.now c.loop-join.join-index no_join c.loop-join-test.true) in
    let (lt, same) = got_at c.args.known.now.groups.now (get_or c.args.joins.now c.loop-join.join-index no_join).group g no_group (sym at) in
    subst (λ x. IsNext c.args.known.now c.args.predecessor x) (sym (ap (λ (z : Group). z.symbol) same ∙ s)) c.requires.next

pub put_alternative-requires-clause-there : goal.put_alternative-requires-clause-there
put_alternative-requires-clause-there c =
    let (g, at, in_set, s) = group_of_join c.args.known.now c.requires.knows c.args.predecessor c.args.symbol c.requires.next c.args.joins.now c.requires.joins (get_or c.args.joins.now c.loop-join.join-index no_join) (Contains-get_or c.args.joins.now c.loop-join.join-index no_join c.loop-join-test.true) in
    let (lt, same) = got_at c.args.known.now.groups.now (get_or c.args.joins.now c.loop-join.join-index no_join).group g no_group (sym at) in
    subst (λ (z : Group). Contains (set_at c.args.known.now.recce.now z.start) c.args.predecessor) (sym same) in_set

pub loop-join-preserved : goal.loop-join-preserved
loop-join-preserved c =
    let (g, at, in_set, s) = group_of_join c.args.known.now c.requires.knows c.args.predecessor c.args.symbol c.requires.next c.args.joins.now c.requires.joins (get_or c.args.joins.now c.loop-join.join-index no_join) (Contains-get_or c.args.joins.now c.loop-join.join-index no_join c.loop-join-test.true) in
    let (lt, same) = got_at c.args.known.now.groups.now (get_or c.args.joins.now c.loop-join.join-index no_join).group g no_group (sym at) in
    lists_next c.args.known.now c.requires.knows c.args.predecessor c.args.symbol c.requires.next c.args.joins.now c.requires.joins c.loop-join.join-index c.loop-join-test.true
    (get_or c.args.known.now.groups.now (get_or c.args.joins.now c.loop-join.join-index no_join).group no_group) (slice_get-get_or c.args.known.now.groups.now (get_or c.args.joins.now c.loop-join.join-index no_join).group no_group lt) c.args.found.now c.loop-join.found c.put_alternative.new.found
    c.loop-join.invariant c.in_ok-put_alternative.ensures

pub returns : goal.returns
returns c = subst (λ (l : List Join). Lists c.args.known.now c.args.predecessor c.args.symbol (BeginsIn c.args.known.now l) c.args.found.now c.loop-join.found) (take_all c.loop-join.join-index c.args.joins.now c.loop-join-test.false) c.loop-join.invariant
