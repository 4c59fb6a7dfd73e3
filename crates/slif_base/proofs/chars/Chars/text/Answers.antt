use Rattle.std.proofs.Common.{◌∙◌}
use Rattle.slif_base.proofs.Starts.{cut_in, characters_of}
use Rattle.slif_base.proofs.chars.Chars.text.Goals as goal

pub part-requires : goal.part-requires
part-requires c =
    let cut = cut_in _ _ _ _ _ _ _ c.as_str.utf8 c.as_str.ensures.value c.self.view_is c.requires.order c.requires.to c.start-start.ensures c.start-end.ensures in
    record { order = cut.0; start = cut.1; end = cut.2 }

pub returns : goal.returns
returns c =
    let cut = cut_in _ _ _ _ _ _ _ c.as_str.utf8 c.as_str.ensures.value c.self.view_is c.requires.order c.requires.to c.start-start.ensures c.start-end.ensures in
    let bytes = c.part.ensures ∙ cut.3 in
    record {
      bytes = bytes;
      characters = characters_of _ _ _ _ _ _ c.as_str.utf8 c.as_str.ensures.value c.self.view_is bytes;
    }
