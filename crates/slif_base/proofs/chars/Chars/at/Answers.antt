use Rattle.std.proofs.Common.{◌<◌, ◌∙◌, length, slice_index_or, ap, subst, sym, string_bytes, Vec, Global, ℕ}
use Rattle.slif_base.proofs.Starts.{bytes_are_chars}
use Rattle.slif_base.proofs.chars.Chars.at.Goals as goal

pub bounds-as_bytes-i : goal.bounds-as_bytes-i
bounds-as_bytes-i c =
    let same = bytes_are_chars (λ (v : Vec ℕ Global). v.items) (string_bytes c.self.inside.text) _ _ c.in-None.is c.self.invariant c.self.view_is in
    subst (λ l. c.args.i < length l) (sym (c.as_bytes.ensures.value ∙ same.1)) c.requires

pub returns-in-None : goal.returns-in-None
returns-in-None c =
    let same = bytes_are_chars (λ (v : Vec ℕ Global). v.items) (string_bytes c.self.inside.text) _ _ c.in-None.is c.self.invariant c.self.view_is in
    ap (λ l. slice_index_or l c.args.i 0) (c.as_bytes.ensures.value ∙ same.1)
