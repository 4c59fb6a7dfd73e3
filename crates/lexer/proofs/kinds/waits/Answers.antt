use Rattle.std.proofs.Common.{◌≡◌, ◌↔◌, ℕ, Bool, true, Option, Some, None, IsTrue, refl, subst}
use Rattle.std.specs.Prelude.{is_some}
use Rattle.lexer.proofs.kinds.waits.Goals as goal

some_there : (o : Option ℕ) (b : Bool) → b ≡ is_some o → (b ≡ true) ↔ ((x : ℕ) × (o ≡ Some x))
some_there (Some x) b e = (λ _. (x, refl), λ _. e)
some_there None b e = (λ t. absurd (cc), λ h. let (x, q) = h in absurd (cc))

pub returns : goal.returns
returns c = subst (λ o. IsTrue c.is_some.result ↔ ((x : ℕ) × (o ≡ Some x))) c.next_symbol.ensures.value (some_there c.next_symbol.result c.is_some.result c.is_some.ensures)
