use Rattle.std.proofs.Common.{◌∷◌, ◌∙◌, subst, sym}
use Rattle.std.specs.Io.KnownBytes.{Appends}
use Rattle.outside_model.specs.Told.{AppendsPrefix}
use Rattle.value_lines.proofs.Texts.{only_text}
use Rattle.value_lines.proofs.derivation.write_derivation.Goals as goal

pub returns-in_default-write_line-clause-stops : goal.returns-in_default-write_line-clause-stops
returns-in_default-write_line-clause-stops g c f first asked pieces of =
    let b = c.args.prepared.now in
    let line = c.deref.ensures.value ∙ (c.in-Ok.ensures.line c.args.show f pieces first c.keep_teller.ensures of asked ∙ sym (only_text b c.args.show c.args.chars.now pieces f first _ asked)) in (
      asked.tree ∷ asked.others,
      asked.listing,
      (c.in_default-write_line.ensures.cause.failed, subst (AppendsPrefix (g.O.Sink.contents c.args.out.now) (g.O.Sink.contents c.write_line.new.out)) line c.in_default-write_line.ensures.prefix),
    )

pub returns-clause-written : goal.returns-clause-written
returns-clause-written g c f first asked pieces of =
    let b = c.args.prepared.now in
    let line = c.deref.ensures.value ∙ (c.in-Ok.ensures.line c.args.show f pieces first c.keep_teller.ensures of asked ∙ sym (only_text b c.args.show c.args.chars.now pieces f first _ asked)) in
    (asked.tree ∷ asked.others, asked.listing, subst (Appends (g.O.Sink.contents c.args.out.now) (g.O.Sink.contents c.write_line.new.out)) line c.in-Ok-write_line.ensures.written)
