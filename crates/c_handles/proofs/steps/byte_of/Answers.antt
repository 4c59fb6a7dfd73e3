use Rattle.std.proofs.Common.{length, sym, ap, ◌∙◌}
use Rattle.std.specs.Prelude.{encode_utf8_all}
use Rattle.std.proofs.lemmas.Slice.{between_from_start}
use Rattle.std.proofs.lemmas.Str.{encodes-chars}
use Rattle.c_handles.proofs.steps.byte_of.Goals as goal

pub returns : goal.returns
returns c =
    ap length (sym (encodes-chars c.text.result.now c.text.utf8)) ∙
    ap (λ cs. length (encode_utf8_all cs)) (c.text.ensures ∙ between_from_start c.args.reading.now.characters c.args.character)
