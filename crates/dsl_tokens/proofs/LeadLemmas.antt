-- Tokens that lead on.
use Rattle.std.proofs.Common.{◌≡◌, ◌∙◌, sym, ap, ℕ, ◌+◌, false, List, [], ◌∷◌, ◌++◌, drop}
use Rattle.language_model.specs.declared.token.Token.{Token}
use Rattle.language_model.specs.Layout.{after_layout, layout_len}
use Rattle.language_model.specs.Tokens.{LeadTo, IsLongest}

-- one more token at the end
pub LeadTo-push : (text : List ℕ) (at : ℕ) (ts : List Token) (place : ℕ) (t : Token) (next : ℕ) → LeadTo text at ts place → place ≡ t.from → IsLongest text t → after_layout text t.to ≡ next → LeadTo text at (ts ++ t ∷ []) next
LeadTo-push text at [] place t next lead is longest then_at = (lead ∙ is, longest, then_at)
LeadTo-push text at (u ∷ us) place t next lead is longest then_at = (lead.0, lead.1, LeadTo-push text u.to us place t next lead.2 is longest then_at)

-- the layout that the code skips
pub layout_skipped : (text : List ℕ) (to n : ℕ) → n ≡ layout_len (drop to text) false → after_layout text to ≡ to + n
layout_skipped text to n is = ap (λ k. to + k) (sym is)
