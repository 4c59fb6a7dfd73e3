use Rattle.std.proofs.Common.{◌≡◌, ◌<◌, ◌||◌, ℕ, take, [], ◌∷◌}
use Rattle.std.specs.Int.{bit_at}
use Rattle.language_model.specs.declared.class.ClassItem.TheVariants.{Span}
use Rattle.language_model.specs.Classes.{some_item_has}
use Rattle.char_class.specs.Members.{bit_of, has_code}
use Rattle.char_class.proofs.set.char_bits.Given as goal

abbrev pub invariant-loop-code : goal.invariant-loop-code
invariant-loop-code l = (x : ℕ) → x < 128 → bit_at l.bits x ≡ bit_of (some_item_has (Span l.fn.c l.fn.c ∷ []) x || has_code (take l.code-index l.codes) x)
