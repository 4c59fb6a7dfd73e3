use Rattle.std.proofs.Common.{◌≡◌, ◌∙◌, ◌≤◌, ℕ, List, Some, Err, length, refl, sym, ap, subst}
use Rattle.std.specs.Prelude.{OnOk, OnErr, IsNone, IfSome, encode_utf8_all}
use Rattle.std.proofs.lemmas.Result.{on_ok_weaker, on_err_weaker}
use Rattle.slif_base.proofs.Bytes.{rose_before}
use Rattle.flat_model.specs.Flattened.{IsFlattened}
use Rattle.script_model.specs.Machine.{that_reads}
use Rattle.marpa_script.specs.Machines.{building}
use Rattle.marpa_script.specs.Written.{HasPlayed, HasPlayedTo, Answered, BreaksOffIn}
use Rattle.marpa_script.specs.declared.refusal.ScriptRefusal.TheVariants.{WriteFault}
use Rattle.marpa_script.proofs.Whole.{answered_by, whole_text, few_bytes}
use Rattle.marpa_script.proofs.scripts.play_script.Goals as goal

pub build_grammar-requires-clause-blank : goal.build_grammar-requires-clause-blank
build_grammar-requires-clause-blank g c = λ i. record { names = c.new-w.ensures.names i; rules = c.new-w.ensures.rules i; starts = c.new-w.ensures.starts i }

pub build_grammar-requires-clause-few : goal.build_grammar-requires-clause-few
build_grammar-requires-clause-few g c =
    let is = c.text-text.ensures.bytes ∙ ap encode_utf8_all (whole_text c.args.chars.now c.len.result c.len.ensures) in
    few_bytes c.args.chars.now c.text-text.result.now is c.requires

pub returns-in-Ok-None-clause-played : goal.returns-in-Ok-None-clause-played
returns-in-Ok-None-clause-played g c =
    let is = c.text-text.ensures.bytes ∙ ap encode_utf8_all (whole_text c.args.chars.now c.len.result c.len.ensures) in
    subst (λ (t : List ℕ). Answered t (g.K.Sink.contents c.args.out.now) (g.K.Sink.contents c.build_grammar.new.out)) is
    (answered_by c.text-text.result.now (building c.build_grammar.new.w) _ _ (c.in-Ok-None.ensures.all (subst IsNone (sym c.in-Ok-None.field-0-is) refl)))

pub read_by-requires-clause-flat : goal.read_by-requires-clause-flat
read_by-requires-clause-flat g c = subst (λ o. IfSome o (λ ready. IsFlattened c.build_grammar.new.w ready.flat)) c.in-Ok-Some.field-0-is c.in-Ok-Some.ensures.flat

pub read_by-requires-clause-built : goal.read_by-requires-clause-built
read_by-requires-clause-built g c = (
  c.text-text.result.now,
  g.K.Sink.contents c.args.out.now,
  subst (λ o. IfSome o (λ ready. HasPlayedTo c.text-text.result.now ready.rest.now (that_reads (building c.build_grammar.new.w)) (g.K.Sink.contents c.args.out.now) (g.K.Sink.contents c.build_grammar.new.out)))
      c.in-Ok-Some.field-0-is c.in-Ok-Some.ensures.ready,
)

pub returns-in-Ok-Some-clause-played : goal.returns-in-Ok-Some-clause-played
returns-in-Ok-Some-clause-played g c =
    let is = c.text-text.ensures.bytes ∙ ap encode_utf8_all (whole_text c.args.chars.now c.len.result c.len.ensures) in
    let built = subst (λ o. IfSome o (λ ready. HasPlayedTo c.text-text.result.now ready.rest.now (that_reads (building c.build_grammar.new.w)) (g.K.Sink.contents c.args.out.now) (g.K.Sink.contents c.build_grammar.new.out)))
    c.in-Ok-Some.field-0-is c.in-Ok-Some.ensures.ready in
    on_ok_weaker c.read_by.result
    (λ all. subst (λ (t : List ℕ). Answered t (g.K.Sink.contents c.args.out.now) (g.K.Sink.contents c.read_by.new.out)) is (all c.text-text.result.now (g.K.Sink.contents c.args.out.now) built)) c.read_by.ensures.played

pub returns-in-Ok-Some-clause-stops : goal.returns-in-Ok-Some-clause-stops
returns-in-Ok-Some-clause-stops g c =
    let is = c.text-text.ensures.bytes ∙ ap encode_utf8_all (whole_text c.args.chars.now c.len.result c.len.ensures) in
    let built = subst (λ o. IfSome o (λ ready. HasPlayedTo c.text-text.result.now ready.rest.now (that_reads (building c.build_grammar.new.w)) (g.K.Sink.contents c.args.out.now) (g.K.Sink.contents c.build_grammar.new.out)))
    c.in-Ok-Some.field-0-is c.in-Ok-Some.ensures.ready in
    on_err_weaker c.read_by.result
    (λ all. subst (λ (t : List ℕ). BreaksOffIn t (g.K.Sink.contents c.args.out.now) (g.K.Sink.contents c.read_by.new.out)) is (all c.text-text.result.now (g.K.Sink.contents c.args.out.now) built)) c.read_by.ensures.breaks

pub returns-in-Ok-Some-clause-fault : goal.returns-in-Ok-Some-clause-fault
returns-in-Ok-Some-clause-fault g c fault =
    rose_before (g.K.Sink.fault_count c.args.out.now) (g.K.Sink.fault_count c.build_grammar.new.out) (g.K.Sink.fault_count c.read_by.new.out) c.build_grammar.ensures.later (c.read_by.ensures.fault fault)

pub returns-clause-stops : goal.returns-clause-stops
returns-clause-stops g c =
    let is = c.text-text.ensures.bytes ∙ ap encode_utf8_all (whole_text c.args.chars.now c.len.result c.len.ensures) in
    subst (λ (t : List ℕ). BreaksOffIn t (g.K.Sink.contents c.args.out.now) (g.K.Sink.contents c.build_grammar.new.out)) is c.in-Err.ensures.breaks

pub returns-clause-fault : goal.returns-clause-fault
returns-clause-fault g c fault = let same : c.in-Err.refusal ≡ WriteFault = cc fault in c.build_grammar.ensures.fault (c.in-Err.is ∙ ap (λ e. Err e) same)
