-- The rules of a slot and of a list, by the numbers of their symbols.
use Rattle.std.proofs.Common.{◌≡◌, ℕ, zero, suc, ◌+◌, ◌<◌, Bool, true, false, not, cond, List, [], ◌∷◌, ◌++◌, length, map, Option, Some, None, refl, sym, ap, ◌∙◌, subst, arith, true≢false}
use Rattle.std.specs.Prelude.{◌&&◌, nat_lt, nat_le, slice_index_or}
use Rattle.std.proofs.lemmas.Bool.{leb-true, eq-eqb}
use Rattle.std.proofs.lemmas.List.{map-append}
use Rattle.grammar_model.specs.Grammar.{PlainRule, SequenceRule, WrittenRule, Plain, Grammar, rule_at, slot_of, child_slot, sequence_symbol, level_of}
use Rattle.grammar_model.specs.Grammar
use Rattle.grammar_model.specs.Analysis.{IsLive}
use Rattle.grammar_model.specs.Simple.{is_terminal, fits, numbers}
use Rattle.grammar_model.proofs.Simple.{terminal_from}
use Rattle.recognizer_model.specs.declared.flat.FlatSymbol.{FlatSymbol}
use Rattle.recognizer_model.specs.declared.flat.FlatSymbol.TheVariants.{Slot, Sequence}
use Rattle.recognizer_model.specs.declared.flat.FlatSource.TheVariants.{Written}
use Rattle.recognizer_model.specs.FlatForm.{NamedRule}
use Rattle.flat_model.specs.Flatten
use Rattle.flat_model.specs.Flatten.{Decided}
use Rattle.grammar_core.specs.Rules.{is_sequence}
use Rattle.flat_rules.specs.Tables.{Numbering, number_in, numbered_in, place_of, slot_at, AreLive}
use Rattle.flat_rules.specs.Added.{rule_by, part_in, parts_in, plain_by, lists_by, from_rule, is_proper_rule, separator_counts, counts_separator}
use Rattle.flat_rules.proofs.Deciding.{terminal_symbol, left_symbol}
use Rattle.flat_rules.proofs.Listing.{same_test}
use Rattle.flat_rules.proofs.Parts.{level_zero}
use Rattle.flat_rules.proofs.Rules.{live_from, from_live}

abbrev pub named_by : FlatSymbol → List FlatSymbol → ℕ → NamedRule
named_by left right i = record { left = left; right = right; source = Written i }

module _ (w : Grammar) (d : Decided w) where
  pub makes_then : (i level : ℕ) (live below : Bool) (table : List Bool) → AreLive w table → i < length w.rules → slice_index_or table i false ≡ live → below ≡ nat_le level (level_of (rule_at w i)) →
      (live && below) ≡ (Flatten.is_live w d (rule_at w i) && nat_le level (level_of (rule_at w i)))
  makes_then i level live below table a lt e f =
      let same = same_test (slice_index_or table i false) (Flatten.is_live w d (rule_at w i)) (IsLive w (rule_at w i)) (a.each i lt) ((λ h. live_from w d (rule_at w i) h), (λ h. from_live w d (rule_at w i) h)) in
      λ z. (sym e ∙ same) z && f z

module _ (w : Grammar) (d : Decided w) (t : Numbering) where
  abbrev symbol_for : Grammar.Slot → FlatSymbol
  symbol_for = Flatten.symbol_for w d

  -- ---- the number of a slot's symbol

  pub number_slot : (slot : Grammar.Slot) → (Grammar.IsTerminal w slot.symbol → slot ≡ slot_of slot.symbol) → number_in t (symbol_for slot) ≡ place_of t.slots slot
  number_slot slot flat = go (is_terminal w slot.symbol) refl
    where
      go : (b : Bool) → is_terminal w slot.symbol ≡ b → number_in t (symbol_for slot) ≡ place_of t.slots slot
      go true e = ap (number_in t) (terminal_symbol w d slot.symbol slot.level e) ∙ ap (place_of t.slots) (sym (flat (terminal_from w slot.symbol e)))
      go false e = ap (number_in t) (left_symbol w d slot.symbol slot.level e)

  pub number_flat : (s : ℕ) → number_in t (symbol_for (slot_of s)) ≡ place_of t.slots (slot_of s)
  number_flat s = number_slot (slot_of s) (λ h. refl)

  -- ---- the parts of a plain rule

  parts_snoc : (rule : WrittenRule) (k n : ℕ) → Flatten.parts_from w d rule k (suc n) ≡ Flatten.parts_from w d rule k n ++ symbol_for (child_slot rule (k + n)) ∷ []
  parts_snoc rule k zero = let e : k ≡ k + 0 = omega arith in ap (λ z. symbol_for (child_slot rule z) ∷ []) e
  parts_snoc rule k (suc n) =
      let e : suc k + n ≡ k + suc n = omega arith in
      ap (λ l. symbol_for (child_slot rule k) ∷ l) (parts_snoc rule (suc k) n ∙ ap (λ z. Flatten.parts_from w d rule (suc k) n ++ symbol_for (child_slot rule z) ∷ []) e)

  parts_to : (i : ℕ) (r : PlainRule) → i < length w.rules → rule_at w i ≡ Plain r → (n : ℕ) → map (number_in t) (Flatten.parts_from w d (Plain r) 0 n) ≡ map (part_in t (Plain r)) (numbers n)
  parts_to i r lt is zero = refl
  parts_to i r lt is (suc n) =
      let e : 0 + n ≡ n = omega arith in
      ap (map (number_in t)) (parts_snoc (Plain r) 0 n ∙ ap (λ z. Flatten.parts_from w d (Plain r) 0 n ++ symbol_for (child_slot (Plain r) z) ∷ []) e)
      ∙ map-append (number_in t) (Flatten.parts_from w d (Plain r) 0 n) (symbol_for (child_slot (Plain r) n) ∷ [])
      ∙ (λ z. parts_to i r lt is n z ++ number_slot (child_slot (Plain r) n) (level_zero w i r lt is n) z ∷ []) ∙ sym (map-append (part_in t (Plain r)) (numbers n) (n ∷ []))

  -- ---- tests

  fits_is : (rule : WrittenRule) (k : ℕ) → fits rule (slot_at (Grammar.lhs_of rule) k) ≡ nat_le k (level_of rule)
  fits_is rule k = ap (λ b. b && nat_le k (level_of rule)) (eq-eqb (Grammar.lhs_of rule) (Grammar.lhs_of rule) refl)

  no_both : (b e : Bool) → (b && e) ≡ false → (e && b) ≡ false
  no_both true true h = h
  no_both true false h = refl
  no_both false true h = refl
  no_both false false h = refl

  -- ---- none

  none_by : (i : ℕ) (rule : WrittenRule) (k : ℕ) → (Flatten.is_live w d rule && nat_le k (level_of rule)) ≡ false → map (numbered_in t) (Flatten.slot_rules w d (Grammar.lhs_of rule) k i rule) ≡ []
  none_by i (Plain r) k e =
      let none : (fits (Plain r) (slot_at r.lhs k) && Flatten.is_live w d (Plain r)) ≡ false = ap (λ b. b && Flatten.is_live w d (Plain r)) (fits_is (Plain r) k) ∙ no_both (Flatten.is_live w d (Plain r)) (nat_le k r.level) e in
      ap (λ b. map (numbered_in t) (cond b (named_by (Slot r.lhs k) (Flatten.parts_from w d (Plain r) 0 (length r.rhs)) i ∷ []) [])) (three (fits (Plain r) (slot_at r.lhs k)) (Flatten.is_live w d (Plain r)) (nat_lt 0 (length r.rhs)) none)
    where
      three : (a b c : Bool) → (a && b) ≡ false → (a && (b && c)) ≡ false
      three true true c h = absurd (true≢false h)
      three true false c h = refl
      three false b c h = refl
  none_by i (Grammar.Sequence r) k e =
      let none : (fits (Grammar.Sequence r) (slot_at r.lhs k) && Flatten.is_live w d (Grammar.Sequence r)) ≡ false =
      ap (λ b. b && Flatten.is_live w d (Grammar.Sequence r)) (fits_is (Grammar.Sequence r) k) ∙ no_both (Flatten.is_live w d (Grammar.Sequence r)) (nat_le k 0) e in
      ap (λ b. map (numbered_in t) (cond b (named_by (Slot r.lhs 0) (Sequence i ∷ []) i ∷ Flatten.trailing_rules w d i r r.separator) [])) none

  both_of : (a b : Bool) → (a && b) ≡ true → (a ≡ true) × (b ≡ true)
  both_of true b e = (refl, e)
  both_of false b e = cc

  -- ---- of a plain rule

  some_plain : (i k : ℕ) (r : PlainRule) → i < length w.rules → rule_at w i ≡ Plain r → (Flatten.is_live w d (Plain r) && nat_le k r.level) ≡ true →
      plain_by t i (place_of t.slots (slot_at r.lhs k)) (Plain r) ≡ map (numbered_in t) (Flatten.plain_rules w d r.lhs k i r)
  some_plain i k r lt is e =
      let (live, le) = both_of (Flatten.is_live w d (Plain r)) (nat_le k r.level) e in
      let test : (fits (Plain r) (slot_at r.lhs k) && (Flatten.is_live w d (Plain r) && nat_lt 0 (length r.rhs))) ≡ nat_lt 0 (length r.rhs) = λ z. (fits_is (Plain r) k ∙ le) z && (live z && nat_lt 0 (length r.rhs)) in
      by_parts (nat_lt 0 (length r.rhs)) (sym (parts_to i r lt is (length r.rhs))) ∙ ap (λ b. map (numbered_in t) (cond b (named_by (Slot r.lhs k) (Flatten.parts_from w d (Plain r) 0 (length r.rhs)) i ∷ []) [])) (sym test)
    where
      by_parts : (b : Bool) → parts_in t (Plain r) ≡ map (number_in t) (Flatten.parts_from w d (Plain r) 0 (length r.rhs)) →
          cond b (rule_by i (place_of t.slots (slot_at r.lhs k)) (parts_in t (Plain r)) ∷ []) []
          ≡ map (numbered_in t) (cond b (named_by (Slot r.lhs k) (Flatten.parts_from w d (Plain r) 0 (length r.rhs)) i ∷ []) [])
      by_parts true e = ap (λ l. rule_by i (place_of t.slots (slot_at r.lhs k)) l ∷ []) e
      by_parts false e = refl

  -- ---- of a sequence

  trailing_is : (i : ℕ) (r : SequenceRule) (separator : Option ℕ) →
      cond (not r.proper && separator_counts d separator) (rule_by i (place_of t.slots (slot_of r.lhs)) (number_in t (Sequence i) ∷ place_of t.slots (slot_of (sequence_symbol r.item separator 1)) ∷ []) ∷ []) []
      ≡ map (numbered_in t) (Flatten.trailing_rules w d i r separator)
  trailing_is i r None = ap (λ b. cond b (rule_by i (place_of t.slots (slot_of r.lhs)) (number_in t (Sequence i) ∷ place_of t.slots (slot_of r.item) ∷ []) ∷ []) []) (none r.proper)
    where
      none : (b : Bool) → (not b && false) ≡ false
      none true = refl
      none false = refl
  trailing_is i r (Some c) = go (not r.proper && d.productive (slot_of c)) (number_flat c)
    where
      go : (b : Bool) → number_in t (symbol_for (slot_of c)) ≡ place_of t.slots (slot_of c) →
          cond b (rule_by i (place_of t.slots (slot_of r.lhs)) (number_in t (Sequence i) ∷ place_of t.slots (slot_of c) ∷ []) ∷ []) []
          ≡ map (numbered_in t) (cond b (named_by (Slot r.lhs 0) (Sequence i ∷ symbol_for (slot_of c) ∷ []) i ∷ []) [])
      go true e = ap (λ x. rule_by i (place_of t.slots (slot_of r.lhs)) (number_in t (Sequence i) ∷ x ∷ []) ∷ []) (sym e)
      go false e = refl

  some_lists : (i k : ℕ) (r : SequenceRule) → (Flatten.is_live w d (Grammar.Sequence r) && nat_le k 0) ≡ true →
      lists_by t i (place_of t.slots (slot_at r.lhs k)) (not r.proper && separator_counts d r.separator) (Grammar.Sequence r) ≡ map (numbered_in t) (Flatten.list_rules w d r.lhs k i r)
  some_lists i k r e =
      let (live, le) = both_of (Flatten.is_live w d (Grammar.Sequence r)) (nat_le k 0) e in
      let level : k ≡ 0 = (let h = leb-true k 0 le in omega arith) in
      let test : (fits (Grammar.Sequence r) (slot_at r.lhs k) && Flatten.is_live w d (Grammar.Sequence r)) ≡ true = λ z. (fits_is (Grammar.Sequence r) k ∙ le) z && live z in
      ap (λ k. lists_by t i (place_of t.slots (slot_at r.lhs k)) (not r.proper && separator_counts d r.separator) (Grammar.Sequence r)) level
      ∙ ap (λ l. rule_by i (place_of t.slots (slot_of r.lhs)) (number_in t (Sequence i) ∷ []) ∷ l) (trailing_is i r r.separator)
      ∙ ap (λ b. map (numbered_in t) (cond b (named_by (Slot r.lhs 0) (Sequence i ∷ []) i ∷ Flatten.trailing_rules w d i r r.separator) [])) (sym test)

  -- ---- by the rule

  pub none_of : (i s k : ℕ) → Grammar.lhs_of (rule_at w i) ≡ s → (Flatten.is_live w d (rule_at w i) && nat_le k (level_of (rule_at w i))) ≡ false → [] ≡ from_rule w d t (slot_at s k) i
  none_of i s k left e = sym (none_by i (rule_at w i) k e) ∙ ap (λ s. from_rule w d t (slot_at s k) i) left

  pub plain_of : (i s k : ℕ) → i < length w.rules → Grammar.lhs_of (rule_at w i) ≡ s → (Flatten.is_live w d (rule_at w i) && nat_le k (level_of (rule_at w i))) ≡ true → is_sequence (rule_at w i) ≡ false →
      plain_by t i (place_of t.slots (slot_at s k)) (rule_at w i) ≡ from_rule w d t (slot_at s k) i
  plain_of i s k lt left e other = go (rule_at w i) refl left e other
    where
      go : (rule : WrittenRule) → rule_at w i ≡ rule → Grammar.lhs_of rule ≡ s → (Flatten.is_live w d rule && nat_le k (level_of rule)) ≡ true → is_sequence rule ≡ false →
          plain_by t i (place_of t.slots (slot_at s k)) rule ≡ map (numbered_in t) (Flatten.slot_rules w d s k i rule)
      go (Plain r) is left e other = subst (λ s. plain_by t i (place_of t.slots (slot_at s k)) (Plain r) ≡ map (numbered_in t) (Flatten.plain_rules w d s k i r)) left (some_plain i k r lt is e)
      go (Grammar.Sequence r) is left e other = absurd (true≢false other)

  pub lists_of : (i s k : ℕ) → Grammar.lhs_of (rule_at w i) ≡ s → (Flatten.is_live w d (rule_at w i) && nat_le k (level_of (rule_at w i))) ≡ true → is_sequence (rule_at w i) ≡ true →
      lists_by t i (place_of t.slots (slot_at s k)) (not (is_proper_rule (rule_at w i)) && counts_separator d (rule_at w i)) (rule_at w i) ≡ from_rule w d t (slot_at s k) i
  lists_of i s k left e more = go (rule_at w i) left e more
    where
      go : (rule : WrittenRule) → Grammar.lhs_of rule ≡ s → (Flatten.is_live w d rule && nat_le k (level_of rule)) ≡ true → is_sequence rule ≡ true →
          lists_by t i (place_of t.slots (slot_at s k)) (not (is_proper_rule rule) && counts_separator d rule) rule ≡ map (numbered_in t) (Flatten.slot_rules w d s k i rule)
      go (Plain r) left e more = absurd (true≢false (sym more))
      go (Grammar.Sequence r) left e more =
          subst (λ s. lists_by t i (place_of t.slots (slot_at s k)) (not r.proper && separator_counts d r.separator) (Grammar.Sequence r) ≡ map (numbered_in t) (Flatten.list_rules w d s k i r)) left (some_lists i k r e)
