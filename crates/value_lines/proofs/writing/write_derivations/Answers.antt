use Rattle.std.proofs.Common.{◌≡◌, [], ◌∙◌, ap, refl, subst, sym}
use Rattle.std.specs.Io.KnownBytes.{Appends}
use Rattle.forest_model.specs.Forest.{Forest}
use Rattle.run_model.specs.Outside.{stream}
use Rattle.tree_iter.specs.Iteration.{Iteration}
use Rattle.valuator.specs.Player.{Score}
use Rattle.value_lines.specs.Lines.{score_of, IsForestOf}
use Rattle.value_lines.specs.Writing.{TextHas, TextStops}
use Rattle.value_lines.proofs.Texts.{none_written, first_written, first_counted}
use Rattle.value_lines.proofs.Pages.{passed_on}
use Rattle.value_lines.proofs.writing.write_derivations.Goals as goal

pub returns-in_default-clause-stops : goal.returns-in_default-clause-stops
returns-in_default-clause-stops g c =
    λ pieces of.
    none_written c.args.prepared.now c.args.show c.args.chars.now pieces c.args.forest.now c.args.first c.known.ensures (g.O.Sink.contents c.args.out.now)

pub player_of-requires : goal.player_of-requires
player_of-requires g c = (c.args.forest.now, c.requires.forest.0, c.requires.forest.1)

pub returns-in_default-player_of-clause-stops : goal.returns-in_default-player_of-clause-stops
returns-in_default-player_of-clause-stops g c =
    λ pieces of.
    none_written c.args.prepared.now c.args.show c.args.chars.now pieces c.args.forest.now c.args.first c.known.ensures (g.O.Sink.contents c.args.out.now)

pub write_lines-requires-clause-player : goal.write_lines-requires-clause-player
write_lines-requires-clause-player g c = subst (λ (s : Score). s ≡ score_of c.args.prepared.now s.chars s.spans) (sym c.in-Ok-player_of.ensures) refl

pub write_lines-requires-clause-forest : goal.write_lines-requires-clause-forest
write_lines-requires-clause-forest g c =
    let b = c.args.prepared.now in
    let (pieces, of) = c.requires.forest in
    let same : c.in-Ok.iter.forest ≡ c.args.forest.now = ap (λ (it : Iteration). it.forest) c.in-Ok.ensures.begun in (
      pieces,
      subst (λ (s : Score). IsForestOf b s.chars s.spans c.in-Ok.iter.forest pieces) (sym c.in-Ok-player_of.ensures)
          (subst (λ (f : Forest). IsForestOf b c.args.chars.now c.args.spans.now f pieces) (sym same) of),
    )

pub returns-in_err-write_lines-clause-stops : goal.returns-in_err-write_lines-clause-stops
returns-in_err-write_lines-clause-stops g c =
    let b = c.args.prepared.now in
    let refusal = c.in_err-write_lines.field-0.0 in
    let ends = TextStops (stream g.O.Sink.contents g.O.Sink.fault_count c.args.out.now) (stream g.O.Sink.contents g.O.Sink.fault_count c.write_lines.new.out) refusal in
    let same : c.in-Ok.iter.forest ≡ c.args.forest.now = ap (λ (it : Iteration). it.forest) c.in-Ok.ensures.begun in
    passed_on _ c.from_residual.result refusal c.from_residual.ensures.1
    (subst (λ (f : Forest). TextHas b c.args.show c.args.chars.now c.args.spans.now f c.args.first ends) same
    (subst (λ (s : Score). TextHas b c.args.show s.chars s.spans c.in-Ok.iter.forest c.args.first ends) c.in-Ok-player_of.ensures
    (λ pieces of. c.in_err-write_lines.ensures.stops c.args.show pieces [] c.keep_teller.ensures of c.in-Ok.ensures.none)))

pub returns-clause-written : goal.returns-clause-written
returns-clause-written g c =
    let b = c.args.prepared.now in
    let appends = Appends (g.O.Sink.contents c.args.out.now) (g.O.Sink.contents c.write_lines.new.out) in
    let same : c.in-Ok.iter.forest ≡ c.args.forest.now = ap (λ (it : Iteration). it.forest) c.in-Ok.ensures.begun in
    subst (λ (f : Forest). TextHas b c.args.show c.args.chars.now c.args.spans.now f c.args.first appends) same
    (subst (λ (s : Score). TextHas b c.args.show s.chars s.spans c.in-Ok.iter.forest c.args.first appends) c.in-Ok-player_of.ensures
    (λ pieces of.
    let (given, come, wrote) = c.in_ok-write_lines.ensures.written c.args.show pieces [] c.keep_teller.ensures of c.in-Ok.ensures.none in
    first_written b c.args.show _ pieces c.in-Ok.iter.forest c.args.first c.write_lines.new.iter c.in_ok-write_lines.ensures.forest given c.in_ok-write_lines.field-0 come _ _ _ _ wrote))

pub returns-clause-counted : goal.returns-clause-counted
returns-clause-counted g c =
    let b = c.args.prepared.now in
    let same : c.in-Ok.iter.forest ≡ c.args.forest.now = ap (λ (it : Iteration). it.forest) c.in-Ok.ensures.begun in
    let (pieces, of) = c.requires.forest in
    let of_player = subst (λ (s : Score). IsForestOf b s.chars s.spans c.in-Ok.iter.forest pieces) (sym c.in-Ok-player_of.ensures)
    (subst (λ (f : Forest). IsForestOf b c.args.chars.now c.args.spans.now f pieces) (sym same) of) in
    let (given, come, wrote) = c.in_ok-write_lines.ensures.written c.args.show pieces [] c.keep_teller.ensures of_player c.in-Ok.ensures.none in
    first_counted b c.args.show _ pieces c.args.forest.now c.args.first c.write_lines.new.iter (c.in_ok-write_lines.ensures.forest ∙ same) given c.in_ok-write_lines.field-0 come _ _ _ _ wrote
