use Rattle.std.proofs.Common.{◌≡◌, inl, inr, ℕ, Some}
use Rattle.lexer.proofs.ClassLists.{got_set}
use Rattle.lexer.proofs.classes.note_class.Goals as goal

same_class : (k m : ℕ) → Some k ≡ Some m → k ≡ m
same_class k m e = cc

pub returns : goal.returns
returns c i k e = elim (got_set c.args.ascii.now.items c.args.c (Some c.args.class) i (Some k) e) [ inl o ↦ inl o | inr (same, is) ↦ inr (same, same_class k c.args.class is) ]
