-- The rules of each symbol and the symbols of the first terminals, listed.
use Rattle.std.proofs.Common.{◌≡◌, inl, inr, ℕ, List, [], ◌∷◌, ◌++◌, length, Option, Some, slice_get, sym, ◌∙◌, subst}
use Rattle.std.specs.Prelude.{◌≢◌, None, IfSome, IsNone}
use Rattle.recognizer_model.specs.declared.flat.FlatSymbol.TheVariants.{Terminal}
use Rattle.finite_sets.proofs.Lists.{get_pushed}
use Rattle.recognizer_model.specs.Flat.{FlatGrammar}
use Rattle.item_rows.specs.declared.heads.Rules.{Rules}
use Rattle.item_rows.specs.Heads.{AreRules, HasRules, AreSymbols, IsSymbolOf}

-- one more of what each place has
pub more_noted : {A : Type 0} (P : ℕ → A → Type 0) (old : List A) (last : A) (n : ℕ) (new : List A) → ((k : ℕ) (x : A) → slice_get old k ≡ Some x → P k x) → length old ≡ n → P n last → new ≡ old ++ last ∷ [] →
    (k : ℕ) (x : A) → slice_get new k ≡ Some x → P k x
more_noted P old last n new are long has is k x e =
    elim (get_pushed old last k x (subst (λ l. slice_get l k ≡ Some x) is e)) [
      | inl a ↦ are k x a
      | inr (there, same) ↦ subst (λ z. P z x) (sym (there ∙ long)) (subst (P n) same has)
    ]

pub more_heads : (g : FlatGrammar) (heads : List Rules) (last : Rules) (x : ℕ) (new : List Rules) → AreRules g heads → length heads ≡ x → HasRules g x last → new ≡ heads ++ last ∷ [] → AreRules g new
more_heads g = more_noted (HasRules g)

pub more_symbols : (g : FlatGrammar) (symbols : List (Option ℕ)) (last : Option ℕ) (t : ℕ) (new : List (Option ℕ)) → AreSymbols g symbols → length symbols ≡ t → IsSymbolOf g t last → new ≡ symbols ++ last ∷ [] → AreSymbols g new
more_symbols g = more_noted (IsSymbolOf g)

pub symbol_some : (g : FlatGrammar) (t : ℕ) (symbol : Option ℕ) → IsSymbolOf g t symbol → IfSome symbol (λ x. slice_get g.symbols x ≡ Some (Terminal t))
symbol_some g t None is = tt
symbol_some g t (Some x) is = is

pub symbol_none : (g : FlatGrammar) (t : ℕ) (symbol : Option ℕ) → IsSymbolOf g t symbol → IsNone symbol → (x : ℕ) → slice_get g.symbols x ≢ Some (Terminal t)
symbol_none g t None is none = is
symbol_none g t (Some x) is none = absurd (cc)
