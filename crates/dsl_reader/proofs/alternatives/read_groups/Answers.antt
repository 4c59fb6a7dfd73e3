use Rattle.std.proofs.Common.{◌≡◌, ◌∙◌, ap, ◌<◌, ◌++◌, [], ◌∷◌, length, drop, take, map, Some, None, codes, arith}
use Rattle.std.specs.Prelude.{option_map}
use Rattle.std.proofs.lemmas.List.{map-append}
use Rattle.dsl_reader.specs.Forms.{group_of, groups_of}
use Rattle.dsl_reader.proofs.ReadingLemmas.{split_next, split_last, split_none, nothing_before, none_given, some_given}
use Rattle.dsl_reader.proofs.alternatives.read_groups.Goals as goal

pub groups-init : goal.groups-init
unfolding groups_of
groups-init c = record {
  within = omega arith;
  read = ap (λ l. option_map (λ r. map (λ g. g.items) l ++ r) (groups_of c.args.piece.now)) c.new-groups.ensures.items ∙ nothing_before (groups_of c.args.piece.now);
}

pub returns-in_default : goal.returns-in_default
returns-in_default c =
    let ts = c.args.piece.now in
    let none : None ≡ group_of (drop c.groups.at (take c.mark_from-to.result ts)) = none_given _ _ c.in_default.is ∙ c.in_ok-group.ensures ∙ ap group_of c.part.ensures in
    split_none (codes "||") group_of ts c.groups.at c.mark_from-to.result _ _ c.groups.invariant.within c.mark_from-to.ensures.place c.mark_from-to.ensures.within none c.groups.invariant.read

pub groups-preserved : goal.groups-preserved
groups-preserved c =
    let ts = c.args.piece.now in
    let some : Some c.in-Some.group.items ≡ group_of (drop c.groups.at (take c.mark_from-to.result ts)) = some_given _ _ _ c.in-Some.is ∙ c.in_ok-group.ensures ∙ ap group_of c.part.ensures in
    let inside : c.mark_from-to.result < length ts = omega (arith, c.mark_from-to.ensures.within, c.len.ensures, c.if-to-len.false) in
    record {
      within = omega (arith, inside);
      read = split_next (codes "||") group_of ts c.groups.at c.mark_from-to.result c.in-Some.group.items (map (λ g. g.items) c.groups.groups.items) _ _ c.groups.invariant.within c.mark_from-to.ensures.place inside some (ap (map (λ g. g.items)) c.in_ok-push.ensures.items ∙ map-append (λ g. g.items) c.groups.groups.items (c.in-Some.group ∷ [])) c.groups.invariant.read;
    }

pub returns-then-to-len : goal.returns-then-to-len
returns-then-to-len c =
    let ts = c.args.piece.now in
    let some : Some c.in-Some.group.items ≡ group_of (drop c.groups.at (take c.mark_from-to.result ts)) = some_given _ _ _ c.in-Some.is ∙ c.in_ok-group.ensures ∙ ap group_of c.part.ensures in
    let last : c.mark_from-to.result ≡ length ts = c.if-to-len.true ∙ c.len.ensures in
    split_last (codes "||") group_of ts c.groups.at c.mark_from-to.result c.in-Some.group.items (map (λ g. g.items) c.groups.groups.items) _ _ c.groups.invariant.within c.mark_from-to.ensures.place last some (ap (map (λ g. g.items)) c.in_ok-push.ensures.items ∙ map-append (λ g. g.items) c.groups.groups.items (c.in-Some.group ∷ [])) c.groups.invariant.read
