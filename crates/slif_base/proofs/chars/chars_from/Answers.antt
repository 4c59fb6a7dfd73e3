use Rattle.std.proofs.Common.{subst, Vec, Global, ℕ, IsUtf8}
use Rattle.std.proofs.lemmas.Str.{IsUtf8-string_bytes}
use Rattle.slif_base.proofs.chars.chars_from.Goals as goal

pub returns-in_ok-characters-in-Ok-clause-utf8 : goal.returns-in_ok-characters-in-Ok-clause-utf8
returns-in_ok-characters-in-Ok-clause-utf8 c = subst (λ (v : Vec ℕ Global). IsUtf8 v.items) c.in-Ok.ensures.ok (IsUtf8-string_bytes c.in-Ok.text)
