-- What an option holds, and what a list holds at a place.
use Rattle.std.proofs.Common.{◌≡◌, inl, inr, ℕ, Bool, true, false, Option, Some, None, refl, sym, ap, subst}
use Rattle.std.proofs.lemmas.Option.{same_Some}
use Rattle.finite_sets.specs.Decided.{IsDecided}
use Rattle.finite_sets.proofs.Deciding.{moved, equal}

none_some : (s : ℕ) → Path (Option ℕ) None (Some s) → ⊥
none_some s e = absurd (cc)

-- what an option holds has a property
pub some_held : (o : Option ℕ) (P : ℕ → Type 0) → ((x : ℕ) → IsDecided (P x)) → IsDecided ((x : ℕ) × (o ≡ Some x) × P x)
some_held None P d = inr (λ (x, e, p). none_some x e)
some_held (Some y) P d = moved (λ p. (y, refl, p)) (λ (x, e, p). subst P (sym (same_Some y x e)) p) (d y)

pub same_option : (o : Option ℕ) (x : ℕ) → IsDecided (o ≡ Some x)
same_option None x = inr (λ e. none_some x e)
same_option (Some y) x = moved (ap Some) (λ e. same_Some y x e) (equal y x)

pub some_true : (o : Option Bool) → IsDecided (o ≡ Some true)
some_true None = inr (λ e. absurd (cc))
some_true (Some true) = inl refl
some_true (Some false) = inr (λ e. absurd (cc))
