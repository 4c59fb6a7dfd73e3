use Rattle.std.proofs.Common.{◌≡◌, ◌∙◌, ℕ, List, Option, length, refl, sym, ap, subst, arith}
use Rattle.std.specs.Str.{chars}
use Rattle.std.proofs.lemmas.Result.{MatchResult-weaker}
use Rattle.glade_model.specs.Glades.{Glade}
use Rattle.run_model.specs.Outside.{stream}
use Rattle.slif_parser.specs.Readings.{AreGladesOf}
use Rattle.slif_glades.specs.Lines.{AreLinesOf}
use Rattle.slif_glades.specs.Told.{told_text}
use Rattle.slif_glades.specs.Telling.{AreMarked, IsTold}
use Rattle.slif_glades.proofs.Reports.{marks_long, whole_text}
use Rattle.slif_glades.proofs.Stopping.{of_text}
use Rattle.slif_glades.proofs.telling.tell_forest.Goals as goal

pub of-requires : goal.of-requires
of-requires g c =
    let whole : chars c.text.result.now ≡ c.args.forest.now.read.characters = whole_text _ _ c.requires.few c.text.ensures in
    omega (arith, ap length whole, c.requires.few)

pub tell_glades-requires-clause-lines : goal.tell_glades-requires-clause-lines
tell_glades-requires-clause-lines g c =
    subst (λ (cs : List ℕ). AreLinesOf cs c.in_ok-lines.lines) (whole_text _ _ c.requires.few c.text.ensures) c.in_ok-lines.ensures

pub tell_glades-requires-clause-long : goal.tell_glades-requires-clause-long
tell_glades-requires-clause-long g c =
    let long : length c.in_ok-marks.marks.items ≡ length c.deref.result.now = marks_long c.args.all c.deref.result.now c.in_ok-marks.marks.items c.in_ok-marks.ensures in
    let same : c.deref.result.now ≡ c.deref-2.result.now = c.deref.ensures.value ∙ sym c.deref-2.ensures.value in
    ap length c.deref-3.ensures.value ∙ long ∙ ap length same

pub returns-clause-stops : goal.returns-clause-stops
returns-clause-stops g c =
    let w = c.args.grammar.now.g1 in
    let r = c.args.forest.now.read in
    let glades : List Glade = c.deref-2.result.now in
    let marks : List (Option ℕ) = c.deref-3.result.now in
    let same : c.deref.result.now ≡ glades = c.deref.ensures.value ∙ sym c.deref-2.ensures.value in
    let report : AreGladesOf r glades = subst (AreGladesOf r) (sym c.deref-2.ensures.value) c.in_ok-glades.ensures in
    let marked : AreMarked c.args.all glades marks = subst (λ (xs : List Glade). AreMarked c.args.all xs marks) same (subst (AreMarked c.args.all c.deref.result.now) (sym c.deref-3.ensures.value) c.in_ok-marks.ensures) in
    let told : IsTold c.args.all w r (told_text w r glades marks) = record { glades = glades; report = report; marks = marks; marked = marked; is = refl } in
    MatchResult-weaker c.tell_glades.result c.tell_glades.ensures.stops (λ _ x. x)
    (of_text (IsTold c.args.all w r) (λ error. ⊥) (told_text w r glades marks) told
    (stream g.K.Sink.contents g.K.Sink.fault_count c.args.out.now) (stream g.K.Sink.contents g.K.Sink.fault_count c.tell_glades.new.out))
