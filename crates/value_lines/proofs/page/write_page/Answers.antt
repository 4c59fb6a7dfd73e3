use Rattle.std.proofs.Common.{◌≡◌, ◌++◌, List, Option, ap, subst, sym}
use Rattle.std.specs.Prelude.{MatchOption, IfSome, take}
use Rattle.std.specs.List.{concat, sum_by}
use Rattle.std.specs.Io.KnownBytes.{Appends}
use Rattle.slif_base.proofs.Bytes.{appends_none}
use Rattle.grammar_model.specs.Trees.{Tree}
use Rattle.recognizer_model.specs.Links.{choices}
use Rattle.reading_model.specs.Reading.{Piece}
use Rattle.forest_model.specs.Forest.{Forest}
use Rattle.forest_model.specs.Listing.{IsListing}
use Rattle.run_model.specs.Listing.{first_of, beyond}
use Rattle.run_model.specs.More.{page_lines}
use Rattle.run_model.specs.Outside.{stream}
use Rattle.tree_iter.specs.Iteration.{Iteration, AreGiven}
use Rattle.valuator.specs.Player.{Score}
use Rattle.value_lines.specs.Lines.{score_of, IsForestOf}
use Rattle.value_lines.specs.Paging.{at_place, page_refusal, steps_at, LacksPlace, PageStops}
use Rattle.value_lines.specs.Writing.{RestHas, TextStops}
use Rattle.value_lines.proofs.Pages.{passed_on, edges_one, names_none, page_has, page_refused, page_counted}
use Rattle.value_lines.proofs.page.write_page.Goals as goal

pub returns-in_default-clause-stops : goal.returns-in_default-clause-stops
returns-in_default-clause-stops g c =
    let f = c.args.forest.now in
    let to = steps_at c.args.page.to in
    let (pieces, of) = c.requires.forest in
    let lacks = subst (λ (o : Option Iteration). MatchOption o (LacksPlace f to) (λ iter. iter ≡ at_place f to)) c.in_default.is c.in_ok-iter.ensures.at in
    (λ trees listing. names_none f (edges_one c.args.prepared.now c.args.chars.now c.args.spans.now f pieces of) trees listing c.args.page.after.now to c.requires.place lacks, appends_none (g.O.Sink.contents c.args.out.now))

pub returns-in_err-write_from-clause-stops : goal.returns-in_err-write_from-clause-stops
returns-in_err-write_from-clause-stops g c =
    let b = c.args.prepared.now in
    let p = c.args.page in
    let cs = c.args.chars.now in
    let spans = c.args.spans.now in
    let f = c.args.forest.now in
    let to = steps_at c.args.page.to in
    let refusal = c.in_err-write_from.field-0.0 in
    let old = stream g.O.Sink.contents g.O.Sink.fault_count c.args.out.now in
    let new = stream g.O.Sink.contents g.O.Sink.fault_count c.write_from.new.out in
    let is = subst (λ o. MatchOption o (LacksPlace f to) (λ iter. iter ≡ at_place f to)) c.in-Some.is c.in_ok-iter.ensures.at in
    let (before, are) = subst (λ o. IfSome o (λ iter. (given : List Tree) × AreGiven iter given)) c.in-Some.is c.in_ok-iter.ensures.given in
    let same : c.in-Some.iter.forest ≡ f = ap (λ (it : Iteration). it.forest) is in
    let Each : Score → Forest → Type 0 = λ s h. (pieces : List Piece) → IsForestOf b s.chars s.spans h pieces →
    RestHas h before (λ rest. TextStops old new refusal (concat (page_lines b p.show p.first p.after.now s.chars pieces rest))) in
    let each = subst (Each (score_of b cs spans)) same (subst (λ (s : Score). Each s c.in-Some.iter.forest) c.in_ok-player.ensures
    (λ pieces of. c.in_err-write_from.ensures.stops p.show pieces before c.keep_teller.ensures of are)) in
    passed_on (PageStops b p.show p.first p.after.now cs spans f old new) c.from_residual-in_err-write_from.result (page_refusal refusal) c.from_residual-in_err-write_from.ensures.1
    (page_refused b p.show p.first p.after.now cs spans f to c.requires.place old new refusal
    (page_has b p.show p.first p.after.now cs spans f to c.requires.place (λ text. TextStops old new refusal text) c.in-Some.iter before is are each))

pub returns-clause-written : goal.returns-clause-written
returns-clause-written g c =
    let b = c.args.prepared.now in
    let p = c.args.page in
    let cs = c.args.chars.now in
    let spans = c.args.spans.now in
    let f = c.args.forest.now in
    let to = steps_at c.args.page.to in
    let appends = Appends (g.O.Sink.contents c.args.out.now) (g.O.Sink.contents c.write_from.new.out) in
    let is = subst (λ o. MatchOption o (LacksPlace f to) (λ iter. iter ≡ at_place f to)) c.in-Some.is c.in_ok-iter.ensures.at in
    let (before, are) = subst (λ o. IfSome o (λ iter. (given : List Tree) × AreGiven iter given)) c.in-Some.is c.in_ok-iter.ensures.given in
    let same : c.in-Some.iter.forest ≡ f = ap (λ (it : Iteration). it.forest) is in
    let Each : Score → Forest → Type 0 = λ s h. (pieces : List Piece) → IsForestOf b s.chars s.spans h pieces →
    RestHas h before (λ rest. appends (concat (page_lines b p.show p.first p.after.now s.chars pieces rest))) in
    let each = subst (Each (score_of b cs spans)) same (subst (λ (s : Score). Each s c.in-Some.iter.forest) c.in_ok-player.ensures
    (λ pieces of. (let (rest, listing, (whole, few)) = c.in_ok-write_from.ensures.written p.show pieces before c.keep_teller.ensures of are in (rest, listing, whole)))) in
    page_has b p.show p.first p.after.now cs spans f to c.requires.place appends c.in-Some.iter before is are each

pub returns-clause-counted : goal.returns-clause-counted
returns-clause-counted g c =
    let b = c.args.prepared.now in
    let p = c.args.page in
    let cs = c.args.chars.now in
    let spans = c.args.spans.now in
    let f = c.args.forest.now in
    let to = steps_at c.args.page.to in
    let (pieces, of) = c.requires.forest in
    let is = subst (λ o. MatchOption o (LacksPlace f to) (λ iter. iter ≡ at_place f to)) c.in-Some.is c.in_ok-iter.ensures.at in
    let same : c.in-Some.iter.forest ≡ f = ap (λ (it : Iteration). it.forest) is in
    let of_player = subst (λ (s : Score). IsForestOf b s.chars s.spans c.in-Some.iter.forest pieces) (sym c.in_ok-player.ensures)
    (subst (λ (h : Forest). IsForestOf b cs spans h pieces) (sym same) of) in
    page_counted b p.show p.first p.after.now cs spans f to c.requires.place pieces of c.in-Some.iter is (λ rest. sum_by choices (first_of p.first rest ++ take 1 (beyond p.first rest)))
    c.args.steps.now c.iter_at.new.steps c.write_from.new.steps c.iter_at.ensures.few
    (λ before are. (let (rest, listing, (whole, few)) = c.in_ok-write_from.ensures.written p.show pieces before c.keep_teller.ensures of_player are in
    (rest, subst (λ (h : Forest). IsListing h (before ++ rest)) same listing, few)))
