-- What a run needs to know of grammar texts, from the laws of tokens and of statements.
use Rattle.std.proofs.Common.{◌≡◌, ◌∙◌, ℕ, ◌≤◌, Bool, true, false, List, ◌⊎◌, inl, inr, refl, sym, ap, subst, arith, length, chars, nat_le, leb-true}
use Rattle.std.proofs.lemmas.Bool.{leb-false}
use Rattle.std.specs.Str.{is_utf8}
use Rattle.std.proofs.lemmas.Str.{utf8_valid_len-IsValidUpTo, IsUtf8-from_is_utf8}
use Rattle.grammar_model.specs.declared.limits.TheConstants.{LONGEST_GRAMMAR}
use Rattle.language_model.specs.declared.token.Token.{Token}
use Rattle.language_model.specs.Description.{Statement, Describes, IsBadStatement}
use Rattle.dsl_tokens.proofs.ExistLemmas as tokens
use Rattle.dsl_tokens.proofs.UniqueLemmas.{one_list, no_bad_place}
use Rattle.language_model.specs.Texts.{IsText, HasTokens, HasDescription, spelled}
use Rattle.run_model.specs.Texts.{TextFault, TooLong, NotUtf8, BadToken, BadStatement, HasFault}
use Rattle.run_model.proofs.Texts.{TextLaws}
use Rattle.run_model.proofs.Utf8.{broken_at}
use Rattle.dsl_reader.proofs.SomeDescription.{described_or_bad}
use Rattle.dsl_reader.proofs.OneDescription as statements

-- ONE OF EACH

same_tokens : (bytes : List ℕ) (ts us : List Token) → HasTokens bytes ts → HasTokens bytes us → ts ≡ us
same_tokens bytes ts us a b = one_list (chars bytes) 0 ts us a.are b.are

same_description : (bytes : List ℕ) (d e : List Statement) → HasDescription bytes d → HasDescription bytes e → d ≡ e
same_description bytes d e a b =
    statements.one_list d e _ a.described (subst (λ (ts : List Token). Describes e (spelled bytes ts)) (same_tokens bytes b.tokens a.tokens b.has a.has) b.described)

same_fault : (bytes : List ℕ) (f g : TextFault) → HasFault bytes f → HasFault bytes g → f ≡ g
same_fault bytes TooLong TooLong a b = refl
same_fault bytes TooLong (NotUtf8 at) a b = let w = b.within in absurd (omega (arith, a, w))
same_fault bytes TooLong (BadToken at) a b = let w = b.text.within in absurd (omega (arith, a, w))
same_fault bytes TooLong (BadStatement at) a b = let w = b.has.text.within in absurd (omega (arith, a, w))
same_fault bytes (NotUtf8 at) TooLong a b = let w = a.within in absurd (omega (arith, b, w))
same_fault bytes (NotUtf8 at) (NotUtf8 at') a b = ap NotUtf8 (sym (utf8_valid_len-IsValidUpTo bytes at a.prefix) ∙ utf8_valid_len-IsValidUpTo bytes at' b.prefix)
same_fault bytes (NotUtf8 at) (BadToken at') a b = absurd (a.broken b.text.utf8)
same_fault bytes (NotUtf8 at) (BadStatement at') a b = absurd (a.broken b.has.text.utf8)
same_fault bytes (BadToken at) TooLong a b = let w = a.text.within in absurd (omega (arith, b, w))
same_fault bytes (BadToken at) (NotUtf8 at') a b = absurd (b.broken a.text.utf8)
same_fault bytes (BadToken at) (BadToken at') a b = ap BadToken (tokens.one_bad_place (chars bytes) at at' a.bad b.bad)
same_fault bytes (BadToken at) (BadStatement at') a b = absurd (no_bad_place (chars bytes) 0 b.tokens a.bad.before at b.has.are a.bad.lead a.bad.within a.bad.none)
same_fault bytes (BadStatement at) TooLong a b = let w = a.has.text.within in absurd (omega (arith, b, w))
same_fault bytes (BadStatement at) (NotUtf8 at') a b = absurd (b.broken a.has.text.utf8)
same_fault bytes (BadStatement at) (BadToken at') a b = absurd (no_bad_place (chars bytes) 0 a.tokens b.bad.before at' a.has.are b.bad.lead b.bad.within b.bad.none)
same_fault bytes (BadStatement at) (BadStatement at') a b =
    ap BadStatement (statements.one_bad_statement (spelled bytes a.tokens) at at' a.bad (subst (λ (ts : List Token). IsBadStatement (spelled bytes ts) at') (same_tokens bytes b.tokens a.tokens b.has a.has) b.bad))

not_both : (bytes : List ℕ) (d : List Statement) (f : TextFault) → HasDescription bytes d → HasFault bytes f → ⊥
not_both bytes d TooLong has fault = let w = has.has.text.within in absurd (omega (arith, fault, w))
not_both bytes d (NotUtf8 at) has fault = fault.broken has.has.text.utf8
not_both bytes d (BadToken at) has fault = no_bad_place (chars bytes) 0 has.tokens fault.bad.before at has.has.are fault.bad.lead fault.bad.within fault.bad.none
not_both bytes d (BadStatement at) has fault =
    statements.no_bad_statement d (spelled bytes has.tokens) at has.described (subst (λ (ts : List Token). IsBadStatement (spelled bytes ts) at) (same_tokens bytes fault.tokens has.tokens fault.has has.has) fault.bad)

-- SOME OF ALL

abbrev Read : List ℕ → Type 0
Read bytes = ((d : List Statement) × HasDescription bytes d) ⊎ ((f : TextFault) × HasFault bytes f)

module _ (bytes : List ℕ) where
  of_tokens : (ts : List Token) → HasTokens bytes ts → Read bytes
  of_tokens ts has =
      elim (described_or_bad (spelled bytes ts)) [
        | inl some ↦ inl (some.0, record { tokens = ts; has = has; described = some.1 })
        | inr bad ↦ inr (BadStatement bad.0, record { tokens = ts; has = has; bad = bad.1 })
      ]

  of_text : IsText bytes → Read bytes
  of_text text =
      elim (tokens.read (chars bytes)) [
        | inl some ↦ of_tokens some.0 (record { text = text; are = some.1 })
        | inr bad ↦ inr (BadToken bad.0, record { text = text; bad = bad.1 })
      ]

  of_bytes : length bytes ≤ LONGEST_GRAMMAR → (b : Bool) → is_utf8 bytes ≡ b → Read bytes
  of_bytes within true e = of_text (record { within = within; utf8 = IsUtf8-from_is_utf8 bytes e })
  of_bytes within false e = let at = broken_at bytes e in inr (NotUtf8 at.0, record { within = within; broken = at.1; prefix = at.2 })

  read : Read bytes
  read = by_length (nat_le (length bytes) LONGEST_GRAMMAR) refl
    where
      by_length : (b : Bool) → nat_le (length bytes) LONGEST_GRAMMAR ≡ b → Read bytes
      by_length true e = of_bytes (leb-true _ _ e) (is_utf8 bytes) refl
      by_length false e = inr (TooLong, leb-false _ _ e)

pub text_laws : TextLaws
text_laws = record { read = read; one_description = same_description; one_fault = same_fault; not_both = not_both }
