use Rattle.std.proofs.Common.{[], ◌++◌, refl, subst, arith}
use Rattle.std.specs.Prelude.{codes}
use Rattle.std.proofs.lemmas.Result.{on_ok_weaker, IfErr-weaker}
use Rattle.forest_model.specs.Forest.{Forest}
use Rattle.forest_model.specs.Listing.{IsListing}
use Rattle.run_model.specs.Outside.{stream}
use Rattle.value_lines.specs.Writing.{HaveCome}
use Rattle.value_lines.proofs.Texts.{left_none, left_some}
use Rattle.value_lines.proofs.Pages.{passed_on, lines_stop, page_ends, page_stops, page_few}
use Rattle.value_lines.proofs.page.write_from.Goals as goal

pub write_last-requires : goal.write_last-requires
write_last-requires g c =
    let (pieces, of) = c.requires.forest in
    let (show, alone) = c.requires.tellers in
    let (before, are) = c.requires.begun in
    let (given, come, wrote) = c.in_ok-write_lines.ensures.written show pieces before alone of are in
    (before, given, subst (HaveCome before c.args.first c.write_lines.new.iter given) c.if-branch.true come)

pub put_line-requires : goal.put_line-requires
put_line-requires g c = record { text = codes "end"; ended = refl }

pub returns-in_err-write_lines-clause-stops : goal.returns-in_err-write_lines-clause-stops
returns-in_err-write_lines-clause-stops g c =
    let old = stream g.O.Sink.contents g.O.Sink.fault_count c.args.out.now in
    let new = stream g.O.Sink.contents g.O.Sink.fault_count c.write_lines.new.out in
    passed_on _ c.from_residual.result c.in_err-write_lines.field-0.0 c.from_residual.ensures.1
    (λ show pieces before alone of are.
    lines_stop c.args.prepared.now show c.args.first c.args.after.now c.args.player.now.chars pieces c.args.iter.now.forest before old new c.in_err-write_lines.field-0.0
    (c.in_err-write_lines.ensures.stops show pieces before alone of are))

pub returns-then-branch-clause-written : goal.returns-then-branch-clause-written
returns-then-branch-clause-written g c = on_ok_weaker c.write_last.result
    (λ last show pieces before alone of are.
    let b = c.args.prepared.now in
    let f = c.args.iter.now.forest in
    let (given, come, wrote) = c.in_ok-write_lines.ensures.written show pieces before alone of are in
    let e = subst (HaveCome before c.args.first c.write_lines.new.iter given) c.if-branch.true come in
    let (left, listing, (appends, few)) = last before given e in
    let has = left_some f before c.args.first given left e.count (subst (λ (h : Forest). IsListing h ((before ++ given) ++ left)) c.in_ok-write_lines.ensures.forest listing) in
    let old = stream g.O.Sink.contents g.O.Sink.fault_count c.args.out.now in
    let middle = stream g.O.Sink.contents g.O.Sink.fault_count c.write_lines.new.out in
    let new = stream g.O.Sink.contents g.O.Sink.fault_count c.write_last.new.out in (
      given ++ left,
      has.listing,
      (
        page_ends b show c.args.first c.args.after.now c.args.player.now.chars pieces f before given left has old middle new wrote.appends appends,
        page_few b show c.args.first c.args.after.now c.args.player.now.chars pieces f before given left has old middle new wrote.appends _ _ _ wrote.few few,
      ),
    ))
    c.write_last.ensures.written

pub returns-then-branch-clause-stops : goal.returns-then-branch-clause-stops
returns-then-branch-clause-stops g c = IfErr-weaker c.write_last.result _ _
    (λ refusal stops show pieces before alone of are.
    let b = c.args.prepared.now in
    let f = c.args.iter.now.forest in
    let (given, come, wrote) = c.in_ok-write_lines.ensures.written show pieces before alone of are in
    let e = subst (HaveCome before c.args.first c.write_lines.new.iter given) c.if-branch.true come in
    let (left, listing, part) = stops before given e in
    let has = left_some f before c.args.first given left e.count (subst (λ (h : Forest). IsListing h ((before ++ given) ++ left)) c.in_ok-write_lines.ensures.forest listing) in
    let old = stream g.O.Sink.contents g.O.Sink.fault_count c.args.out.now in
    let middle = stream g.O.Sink.contents g.O.Sink.fault_count c.write_lines.new.out in
    let new = stream g.O.Sink.contents g.O.Sink.fault_count c.write_last.new.out in
    (given ++ left, has.listing, page_stops b show c.args.first c.args.after.now c.args.player.now.chars pieces f before given left has old middle new wrote.appends refusal c.write_lines.ensures.later part))
    c.write_last.ensures.stops

pub returns-else-branch-clause-written : goal.returns-else-branch-clause-written
returns-else-branch-clause-written g c = on_ok_weaker c.put_line.result
    (λ appends show pieces before alone of are.
    let b = c.args.prepared.now in
    let f = c.args.iter.now.forest in
    let (given, come, wrote) = c.in_ok-write_lines.ensures.written show pieces before alone of are in
    let e = subst (HaveCome before c.args.first c.write_lines.new.iter given) c.if-branch.false come in
    let has = left_none f before c.args.first c.write_lines.new.iter c.in_ok-write_lines.ensures.forest given e in
    let old = stream g.O.Sink.contents g.O.Sink.fault_count c.args.out.now in
    let middle = stream g.O.Sink.contents g.O.Sink.fault_count c.write_lines.new.out in
    let new = stream g.O.Sink.contents g.O.Sink.fault_count c.put_line.new.out in (
      given ++ [],
      has.listing,
      (
        page_ends b show c.args.first c.args.after.now c.args.player.now.chars pieces f before given [] has old middle new wrote.appends appends,
        page_few b show c.args.first c.args.after.now c.args.player.now.chars pieces f before given [] has old middle new wrote.appends _ _ _ wrote.few (omega arith),
      ),
    ))
    c.put_line.ensures.written

pub returns-else-branch-clause-stops : goal.returns-else-branch-clause-stops
returns-else-branch-clause-stops g c = IfErr-weaker c.put_line.result _ _
    (λ refusal stops show pieces before alone of are.
    let b = c.args.prepared.now in
    let f = c.args.iter.now.forest in
    let (given, come, wrote) = c.in_ok-write_lines.ensures.written show pieces before alone of are in
    let e = subst (HaveCome before c.args.first c.write_lines.new.iter given) c.if-branch.false come in
    let has = left_none f before c.args.first c.write_lines.new.iter c.in_ok-write_lines.ensures.forest given e in
    let old = stream g.O.Sink.contents g.O.Sink.fault_count c.args.out.now in
    let middle = stream g.O.Sink.contents g.O.Sink.fault_count c.write_lines.new.out in
    let new = stream g.O.Sink.contents g.O.Sink.fault_count c.put_line.new.out in
    (given ++ [], has.listing, page_stops b show c.args.first c.args.after.now c.args.player.now.chars pieces f before given [] has old middle new wrote.appends refusal c.write_lines.ensures.later stops))
    c.put_line.ensures.stops
