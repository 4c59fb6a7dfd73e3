-- Each text has tokens, or a bad place, and one bad place at most.
use Rattle.std.proofs.Common.{◌≡◌, ◌∙◌, sym, subst, refl, ℕ, zero, suc, ◌+◌, ◌-◌, ◌<◌, ◌≤◌, Bool, true, false, List, [], ◌∷◌, ◌++◌, length, drop, nat_lt, Option, Some, None, ◌⊎◌, inl, inr, arith, ltb-true, ltb-false}
use Rattle.std.specs.Prelude.{if◌then◌else◌, not, ◌==◌}
use Rattle.std.specs.List.{slice_range}
use Rattle.unicode.specs.Binary.{is_white_space}
use Rattle.std.proofs.lemmas.List.{length-drop}
use Rattle.language_model.specs.declared.token.TokenKind.{TokenKind}
use Rattle.language_model.specs.declared.token.Token.{Token}
use Rattle.language_model.specs.Layout.{after_layout, layout_len}
use Rattle.language_model.specs.Tokens.{IsSpelling, LeadTo, AreTokens, IsBadPlace}
use Rattle.dsl_tokens.specs.Scanning.{token_at}
use Rattle.dsl_tokens.proofs.LeadLemmas.{LeadTo-push}
use Rattle.dsl_tokens.proofs.LongestLemmas.{IsLongest-found, none_found}
use Rattle.dsl_tokens.proofs.UniqueLemmas.{same_longest}

abbrev pub Read : List ℕ → Type 0
Read text = ((ts : List Token) × AreTokens text ts) ⊎ ((at : ℕ) × IsBadPlace text at)

one_more_within : (n m : ℕ) → n ≤ m → 1 + n ≤ suc m
one_more_within n m h = omega (arith, h)

layout_within : (text : List ℕ) (b : Bool) → layout_len text b ≤ length text
unfolding layout_len
layout_within [] b = omega arith
layout_within (c ∷ cs) true = one_more_within _ _ (layout_within cs (not (c == 10)))
layout_within (c ∷ cs) false = by_space (is_white_space c) (c == 35) (layout_within cs false) (layout_within cs true)
  where
    by_space : (space comment : Bool) → layout_len cs false ≤ length cs → layout_len cs true ≤ length cs → (if space then 1 + layout_len cs false else (if comment then 1 + layout_len cs true else 0)) ≤ suc (length cs)
    by_space true comment h k = one_more_within _ _ h
    by_space false true h k = one_more_within _ _ k
    by_space false false h k = omega arith

behind_within : (text : List ℕ) (at : ℕ) → at ≤ length text → after_layout text at ≤ length text
behind_within text at h = omega (arith, layout_within (drop at text) false, length-drop at text)

read_from : (n : ℕ) (text : List ℕ) (before : List Token) (at : ℕ) → LeadTo text 0 before at → at ≤ length text → length text - at < n → Read text
read_from zero text before at lead within fuel = absurd (omega (arith, fuel))
read_from (suc n) text before at lead within fuel =
    by_end (λ (more : List Token) (next : ℕ). read_from n text more next) (nat_lt at (length text)) refl
  where
    found : ((more : List Token) (next : ℕ) → LeadTo text 0 more next → next ≤ length text → length text - next < n → Read text)
        → at < length text → (r : Option (TokenKind × ℕ)) → token_at (drop at text) ≡ r → Read text
    found go inside None e = inr (at, record { before = before; lead = lead; within = inside; none = none_found text at inside e })
    found go inside (Some f) e =
        let longest = IsLongest-found text at f.0 f.1 inside e in
        let next = after_layout text (at + f.1) in
        go (before ++ (record { kind = f.0; from = at; to = at + f.1 }) ∷ []) next
        (LeadTo-push text 0 before at (record { kind = f.0; from = at; to = at + f.1 }) next lead refl longest refl)
        (behind_within text (at + f.1) longest.within) (omega (arith, fuel, longest.some))

    by_end : ((more : List Token) (next : ℕ) → LeadTo text 0 more next → next ≤ length text → length text - next < n → Read text)
        → (b : Bool) → nat_lt at (length text) ≡ b → Read text
    by_end go true e = found go (ltb-true _ _ e) (token_at (drop at text)) refl
    by_end go false e = inl (before, subst (LeadTo text 0 before) (omega (arith, within, ltb-false _ _ e)) lead)

pub read : (text : List ℕ) → Read text
read text = read_from (suc (length text)) text [] (after_layout text 0) refl (behind_within text 0 (omega arith)) (omega arith)

same_place : (text : List ℕ) (at : ℕ) (ts us : List Token) (p q : ℕ) → LeadTo text at ts p → LeadTo text at us q → p < length text → q < length text
    → ((kind : TokenKind) (to : ℕ) → p < to → to ≤ length text → IsSpelling kind (slice_range text p to) → ⊥)
    → ((kind : TokenKind) (to : ℕ) → q < to → to ≤ length text → IsSpelling kind (slice_range text q to) → ⊥) → p ≡ q
same_place text at [] [] p q h k inside within none other = sym h ∙ k
same_place text at [] (u ∷ us) p q h k inside within none other =
    let here : u.from ≡ p = sym k.0 ∙ h in
    absurd (none u.kind u.to (omega (arith, here, k.1.some)) k.1.within (subst (λ f. IsSpelling u.kind (slice_range text f u.to)) here k.1.spelled))
same_place text at (t ∷ ts) [] p q h k inside within none other =
    let here : t.from ≡ q = sym h.0 ∙ k in
    absurd (other t.kind t.to (omega (arith, here, h.1.some)) h.1.within (subst (λ f. IsSpelling t.kind (slice_range text f t.to)) here h.1.spelled))
same_place text at (t ∷ ts) (u ∷ us) p q h k inside within none other =
    let same = same_longest text t u h.1 k.1 (sym h.0 ∙ k.0) in
    same_place text t.to ts us p q h.2 (subst (λ (x : Token). LeadTo text x.to us q) (sym same) k.2) inside within none other

pub one_bad_place : (text : List ℕ) (p q : ℕ) → IsBadPlace text p → IsBadPlace text q → p ≡ q
one_bad_place text p q a b = same_place text 0 a.before b.before p q a.lead b.lead a.within b.within a.none b.none
