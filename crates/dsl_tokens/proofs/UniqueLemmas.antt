-- A text has one list of tokens, or a bad place.
use Rattle.std.proofs.Common.{◌≡◌, ◌∙◌, sym, ap, subst, refl, ℕ, ◌-◌, ◌<◌, ◌≤◌, List, [], ◌∷◌, length, drop, Option, Some, arith}
use Rattle.std.specs.List.{slice_range}
use Rattle.language_model.specs.declared.token.TokenKind.{TokenKind}
use Rattle.language_model.specs.declared.token.Token.{Token}
use Rattle.language_model.specs.Tokens.{IsSpelling, IsLongest, LeadTo}
use Rattle.dsl_tokens.specs.Scanning.{token_at}
use Rattle.dsl_tokens.proofs.LongestLemmas.{longest_found}

same_token : (k j : TokenKind) (a b c d : ℕ) → k ≡ j → a ≡ b → c ≡ d → (let t : Token = record { kind = k; from = a; to = c } in t) ≡ record { kind = j; from = b; to = d }
same_token k j a b c d e f g = cc

pair_parts : (k j : TokenKind) (m n : ℕ) → (let o : Option (TokenKind × ℕ) = Some (k, m) in o) ≡ Some (j, n) → (k ≡ j) × (m ≡ n)
pair_parts k j m n e =
    let both : (let p : TokenKind × ℕ = (k, m) in p) ≡ (j, n) = cc in
    (ap (λ (p : TokenKind × ℕ). p.0) both, ap (λ (p : TokenKind × ℕ). p.1) both)

-- one longest token stands at a place
pub same_longest : (text : List ℕ) (t u : Token) → IsLongest text t → IsLongest text u → t.from ≡ u.from → t ≡ u
same_longest text t u l m at =
    let both = sym (longest_found text t l) ∙ ap (λ k. token_at (drop k text)) at ∙ longest_found text u m in
    let parts = pair_parts t.kind u.kind (t.to - t.from) (u.to - u.from) both in
    same_token t.kind u.kind t.from u.from t.to u.to parts.0 at (omega (arith, parts.1, l.some, m.some))

pub one_list : (text : List ℕ) (at : ℕ) (ts us : List Token) → LeadTo text at ts (length text) → LeadTo text at us (length text) → ts ≡ us
one_list text at [] [] h k = refl
one_list text at [] (u ∷ us) h k = absurd (omega (arith, h, k.0, k.1.some, k.1.within))
one_list text at (t ∷ ts) [] h k = absurd (omega (arith, k, h.0, h.1.some, h.1.within))
one_list text at (t ∷ ts) (u ∷ us) h k =
    let same = same_longest text t u h.1 k.1 (sym h.0 ∙ k.0) in
    let rest = one_list text t.to ts us h.2 (subst (λ (x : Token). LeadTo text x.to us (length text)) (sym same) k.2) in
    cc

pub no_bad_place : (text : List ℕ) (at : ℕ) (ts us : List Token) (place : ℕ) → LeadTo text at ts (length text) → LeadTo text at us place → place < length text → ((kind : TokenKind) (to : ℕ) → place < to → to ≤ length text → IsSpelling kind (slice_range text place to) → ⊥) → ⊥
no_bad_place text at [] [] place h k within none = absurd (omega (arith, h, k))
no_bad_place text at [] (u ∷ us) place h k within none = absurd (omega (arith, h, k.0, k.1.some, k.1.within))
no_bad_place text at (t ∷ ts) [] place h k within none =
    let here : t.from ≡ place = sym h.0 ∙ k in
    none t.kind t.to (omega (arith, h.1.some)) h.1.within (subst (λ p. IsSpelling t.kind (slice_range text p t.to)) here h.1.spelled)
no_bad_place text at (t ∷ ts) (u ∷ us) place h k within none =
    let same = same_longest text t u h.1 k.1 (sym h.0 ∙ k.0) in
    no_bad_place text t.to ts us place h.2 (subst (λ (x : Token). LeadTo text x.to us place) (sym same) k.2) within none
