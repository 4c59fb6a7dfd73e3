-- Marks and heights of the flat grammar.
use Rattle.std.proofs.Common.{◌≡◌, ◌≢◌, ℕ, zero, suc, ◌<◌, ◌+◌, List, length, Some, refl, sym, ap, ◌∙◌, subst, arith, lit<, lit≤}
use Rattle.std.specs.Prelude.{slice_get, slice_index, slice_index_or}
use Rattle.std.proofs.lemmas.Option.{slice_get-get_or}
use Rattle.finite_sets.proofs.Lists.{get_index}
use Rattle.grammar_model.specs.Grammar.{PlainRule, SequenceRule, Plain, Grammar, slot_of, child_slot, Fits, sequence_symbol}
use Rattle.grammar_model.specs.Grammar
use Rattle.grammar_model.specs.Analysis
use Rattle.grammar_model.specs.Checked.{IsChecked}
use Rattle.recognizer_model.specs.Flat.{FlatGrammar, IsRule, lhs_of, part_of, IsNullable}
use Rattle.recognizer_model.specs.declared.flat.FlatSymbol.{FlatSymbol}
use Rattle.recognizer_model.specs.declared.flat.FlatSymbol.TheVariants.{Terminal, Slot, Sequence, Top}
use Rattle.recognizer_model.specs.FlatForm.{IsUsedSlot, IsSymbolOf, Stands, AsTerminal, AsSlot, StandAll, NamedRule, IsRuleOf, OfPlain, OfList, OfTrailing, OfItem, OfItems, OfSeparated, OfTop, symbol_at, SpansNothing}
use Rattle.recognizer_model.proofs.FlatNamed.{all_at}
use Rattle.flat_model.specs.Flatten
use Rattle.flat_model.specs.Flatten.{Decided}
use Rattle.flat_rules.proofs.Symbols.{in_symbols}
use Rattle.flat_rules.proofs.Numbered.{told_back}
use Rattle.grammar_model.proofs.Total.{nullable_not_terminal}
use Rattle.grammar_model.proofs.Productive.{nullable_by, item_first}
use Rattle.recognizer_model.specs.Invariant.{HasHeights, LeadsOver}
use Rattle.recognizer_model.specs.Acceptable
use Rattle.flat_rules.proofs.Parts.{level_zero}
use Rattle.flat_rules.proofs.Named.{name_of, is_rule, left_in, lhs_is, part_is, is_part, symbol_of, at_number, spans_from, marked, part_in}

module _ (w : Grammar) (d : Decided w) (c : IsChecked w) where
  abbrev f : FlatGrammar
  f = Flatten.flat_of w d

  abbrev number_of : FlatSymbol → ℕ
  number_of = Flatten.number_of w d

  -- ---- what spans nothing

  stands_null : (slot : Grammar.Slot) (s : FlatSymbol) → Stands w slot s → SpansNothing w s → Analysis.IsNullable w slot
  stands_null slot s (AsTerminal t) n = absurd n
  stands_null slot s (AsSlot t) n = n

  null_stands : (slot : Grammar.Slot) (s : FlatSymbol) → Stands w slot s → Analysis.IsNullable w slot → SpansNothing w s
  null_stands slot s (AsTerminal t) n = nullable_not_terminal w slot n t
  null_stands slot s (AsSlot t) n = n

  -- no item and no separator is nullable
  item_spans : (i : ℕ) (r : SequenceRule) → i < length w.rules → Grammar.rule_at w i ≡ Grammar.Sequence r → Analysis.IsNullable w (slot_of r.item) → ⊥
  item_spans i r lt is n =
      let e : slot_of r.item ≡ child_slot (Grammar.Sequence r) 0 = ap slot_of (sym (item_first r.item r.separator)) in
      c.items_span i lt (r, is, (0, omega arith, subst (Analysis.IsNullable w) e n))

  separator_spans : (i b : ℕ) (r : SequenceRule) → i < length w.rules → Grammar.rule_at w i ≡ Grammar.Sequence r → r.separator ≡ Some b → Analysis.IsNullable w (slot_of b) → ⊥
  separator_spans i b r lt is sep n =
      let e : slot_of b ≡ child_slot (Grammar.Sequence r) 1 = sym (ap (λ z. slot_of (sequence_symbol r.item z 1)) sep) in
      c.items_span i lt (r, is, (1, subst (λ z. 1 < suc (length (Rattle.std.specs.Prelude.option_to_list z))) (sym sep) (lit< tt), subst (Analysis.IsNullable w) e n))

  -- where all parts span nothing, the left side does
  null_rule : (n : NamedRule) → IsRuleOf w n → ((k : ℕ) (s : FlatSymbol) → slice_get n.right k ≡ Some s → SpansNothing w s) → SpansNothing w n.left
  null_rule n (OfPlain i s k r right lt is some live fits used len all) h =
      nullable_by w i (record { symbol = s; level = k }) lt (subst (λ z. Fits z (record { symbol = s; level = k })) (sym is) fits)
      (subst (λ z. Grammar.EachChildSlot (Analysis.IsNullable w) z) (sym is) (λ j less. child j (omega arith)))
    where
      child : (j : ℕ) → j < length right → Analysis.IsNullable w (child_slot (Plain r) j)
      child j less =
          let st = all_at w (Plain r) 0 right j all less in
          let e : 0 + j ≡ j = omega arith in
          subst (λ z. Analysis.IsNullable w (child_slot (Plain r) z)) e (stands_null (child_slot (Plain r) (0 + j)) (slice_index_or right j (Top 0)) st (h j (slice_index_or right j (Top 0)) (slice_get-get_or right j (Top 0) less)))
  null_rule n (OfList i r symbol is) h = absurd (h 0 (Sequence i) refl)
  null_rule n (OfTrailing i b r s symbol is sep proper prod st) h = absurd (h 0 (Sequence i) refl)
  null_rule n (OfItem i r b symbol is st) h = absurd (item_spans i r symbol.1 is (stands_null (slot_of r.item) b st (h 0 b refl)))
  null_rule n (OfItems i r b symbol is sep st) h = absurd (h 0 (Sequence i) refl)
  null_rule n (OfSeparated i b r s u symbol is sep prod st st') h = absurd (h 0 (Sequence i) refl)
  null_rule n (OfTop k start s at st) h = (start, at, stands_null (slot_of start) s st (h 0 s refl))

  pub marks : Acceptable.MarksAreClosed f
  marks r lt h =
      subst (IsNullable f) (sym (lhs_is w d r lt))
      (marked w d c (name_of w d r).left (left_in w d r lt)
      (null_rule (name_of w d r) (is_rule w d r lt) (λ k s at. spans_from w d c s (part_in w d c r k s lt at) (h k (number_of s) (is_part w d r k s lt at)))))

  pub terminals_span : Acceptable.TerminalsSpan f
  terminals_span x (t, e) n = spans_from w d c (Terminal t) (symbol_of w d x (Terminal t) e) (subst (IsNullable f) (sym (at_number w d x (Terminal t) e)) n)

  pub lists_span : (x i : ℕ) → slice_get f.symbols x ≡ Some (Sequence i) → IsNullable f x → ⊥
  lists_span x i e n = spans_from w d c (Sequence i) (symbol_of w d x (Sequence i) e) (subst (IsNullable f) (sym (at_number w d x (Sequence i) e)) n)

  -- ---- heights

  abbrev high : Grammar.Slot → ℕ
  high = c.heights.height

  abbrev height_of : FlatSymbol → ℕ
  height_of (Terminal t) = suc (high (slot_of t) + high (slot_of t))
  height_of (Slot s k) = suc (high (record { symbol = s; level = k }) + high (record { symbol = s; level = k }))
  height_of (Sequence i) = high (slot_of (Grammar.lhs_of (Grammar.rule_at w i))) + high (slot_of (Grammar.lhs_of (Grammar.rule_at w i)))
  height_of (Top k) = suc (suc (high (slot_of (slice_index w.starts k)) + high (slot_of (slice_index w.starts k))))

  stands_high : (slot : Grammar.Slot) (s : FlatSymbol) → Stands w slot s → (Grammar.IsTerminal w slot.symbol → slot ≡ slot_of slot.symbol) → height_of s ≡ suc (high slot + high slot)
  stands_high slot s (AsTerminal t) flat = ap (λ z. suc (high z + high z)) (sym (flat t))
  stands_high slot s (AsSlot t) flat = refl

  -- what stands beside a part spans nothing
  abbrev Over : NamedRule → ℕ → Type 0
  Over n position = (other : ℕ) (s : FlatSymbol) → other ≢ position → slice_get n.right other ≡ Some s → SpansNothing w s

  abbrev Falls : NamedRule → ℕ → FlatSymbol → Type 0
  Falls n k s = height_of s < height_of n.left

  plain_falls : (i s l : ℕ) (r : PlainRule) (right : List FlatSymbol) (k : ℕ) (x : FlatSymbol) → i < length w.rules → Grammar.rule_at w i ≡ Plain r → Fits (Plain r) (record { symbol = s; level = l }) →
      IsUsedSlot w (record { symbol = s; level = l }) → length right ≡ length r.rhs → StandAll w (Plain r) 0 right → slice_get right k ≡ Some x →
      ((other : ℕ) (y : FlatSymbol) → other ≢ k → slice_get right other ≡ Some y → SpansNothing w y) → height_of x < suc (high (record { symbol = s; level = l }) + high (record { symbol = s; level = l }))
  plain_falls i s l r right k x lt is fits used len all at over =
      let (less, same) = get_index right k (Top 0) x at in
      let st : Stands w (child_slot (Plain r) k) x = subst (Stands w (child_slot (Plain r) k)) same (stand_at k less) in
      let alone : Analysis.IsAlone w (child_slot (Plain r) k) (Plain r) = (k, omega arith, refl, λ j lj ne. beside j (omega arith) ne) in
      let leads : Analysis.LeadsTo w (record { symbol = s; level = l }) (child_slot (Plain r) k) =
      (i, lt, subst (λ z. Fits z (record { symbol = s; level = l })) (sym is) fits, subst (Analysis.IsAlone w (child_slot (Plain r) k)) (sym is) alone) in
      let less' = c.heights.falls (record { symbol = s; level = l }) (child_slot (Plain r) k) used.0 used.1 leads in
      let h = stands_high (child_slot (Plain r) k) x st (level_zero w i r lt is k) in
      omega arith
    where
      stand_at : (j : ℕ) → j < length right → Stands w (child_slot (Plain r) j) (slice_index_or right j (Top 0))
      stand_at j lj = let e : 0 + j ≡ j = omega arith in subst (λ z. Stands w (child_slot (Plain r) z) (slice_index_or right j (Top 0))) e (all_at w (Plain r) 0 right j all lj)

      beside : (j : ℕ) → j < length right → j ≢ k → Analysis.IsNullable w (child_slot (Plain r) j)
      beside j lj ne = stands_null (child_slot (Plain r) j) (slice_index_or right j (Top 0)) (stand_at j lj) (over j (slice_index_or right j (Top 0)) ne (slice_get-get_or right j (Top 0) lj))

  item_falls : (i : ℕ) (r : SequenceRule) (b : FlatSymbol) → IsSymbolOf w (Sequence i) → Grammar.rule_at w i ≡ Grammar.Sequence r → Stands w (slot_of r.item) b → height_of b < height_of (Sequence i)
  item_falls i r b (q, lt, is', live, used) is st =
      let both : Grammar.Sequence q ≡ Grammar.Sequence r = sym is' ∙ is in
      let same : q ≡ r = cc in
      let used' : IsUsedSlot w (slot_of r.lhs) = subst (λ (z : SequenceRule). IsUsedSlot w (slot_of z.lhs)) same used in
      let fits : Fits (Grammar.Sequence r) (slot_of r.lhs) = (refl, lit≤ tt) in
      let alone : Analysis.IsAlone w (slot_of r.item) (Grammar.Sequence r) = refl in
      let leads : Analysis.LeadsTo w (slot_of r.lhs) (slot_of r.item) = (i, lt, subst (λ z. Fits z (slot_of r.lhs)) (sym is) fits, subst (Analysis.IsAlone w (slot_of r.item)) (sym is) alone) in
      let less = c.heights.falls (slot_of r.lhs) (slot_of r.item) used'.0 used'.1 leads in
      let h = stands_high (slot_of r.item) b st (λ t. refl) in
      let left : high (slot_of (Grammar.lhs_of (Grammar.rule_at w i))) ≡ high (slot_of r.lhs) = ap (λ z. high (slot_of (Grammar.lhs_of z))) is in
      omega arith

  fall : (n : NamedRule) → IsRuleOf w n → (k : ℕ) (s : FlatSymbol) → slice_get n.right k ≡ Some s → Over n k → Falls n k s
  fall n (OfPlain i s l r right lt is some live fits used len all) k x at over = plain_falls i s l r right k x lt is fits used len all at over
  fall n (OfList i r symbol is) zero s at over =
      let same : Sequence i ≡ s = cc in
      let e : high (slot_of (Grammar.lhs_of (Grammar.rule_at w i))) ≡ high (slot_of r.lhs) = ap (λ z. high (slot_of (Grammar.lhs_of z))) is in
      let lower : height_of (Sequence i) < suc (high (slot_of r.lhs) + high (slot_of r.lhs)) = omega arith in
      subst (λ z. height_of z < suc (high (slot_of r.lhs) + high (slot_of r.lhs))) same lower
  fall n (OfList i r symbol is) (suc k) s at over = cc
  fall n (OfTrailing i b r x symbol is sep proper prod st) zero s at over =
      absurd (separator_spans i b r symbol.1 is sep (stands_null (slot_of b) x st (over 1 x (λ e. omega arith) refl)))
  fall n (OfTrailing i b r x symbol is sep proper prod st) (suc k) s at over = absurd (over 0 (Sequence i) (λ e. omega arith) refl)
  fall n (OfItem i r b symbol is st) zero s at over =
      let same : b ≡ s = cc in
      subst (λ z. height_of z < height_of (Sequence i)) same (item_falls i r b symbol is st)
  fall n (OfItem i r b symbol is st) (suc k) s at over = cc
  fall n (OfItems i r b symbol is sep st) zero s at over = absurd (item_spans i r symbol.1 is (stands_null (slot_of r.item) b st (over 1 b (λ e. omega arith) refl)))
  fall n (OfItems i r b symbol is sep st) (suc k) s at over = absurd (over 0 (Sequence i) (λ e. omega arith) refl)
  fall n (OfSeparated i b r x u symbol is sep prod st st') zero s at over =
      absurd (separator_spans i b r symbol.1 is sep (stands_null (slot_of b) u st (over 1 u (λ e. omega arith) refl)))
  fall n (OfSeparated i b r x u symbol is sep prod st st') (suc k) s at over = absurd (over 0 (Sequence i) (λ e. omega arith) refl)
  fall n (OfTop j start x e st) zero s at over =
      let same : x ≡ s = cc in
      let h = stands_high (slot_of start) x st (λ t. refl) in
      let is : slice_index w.starts j ≡ start = (get_index w.starts j _ start e).1 in
      let lower : height_of x < height_of (Top j) = (let g : high (slot_of (slice_index w.starts j)) ≡ high (slot_of start) = ap (λ z. high (slot_of z)) is in omega arith) in
      subst (λ z. height_of z < height_of (Top j)) same lower
  fall n (OfTop j start x e st) (suc k) s at over = cc

  abbrev height : ℕ → ℕ
  height x = height_of (symbol_at f x)

  height_at : (s : FlatSymbol) → IsSymbolOf w s → height (number_of s) ≡ height_of s
  height_at s symbol = ap height_of (told_back w d s (in_symbols w d s symbol))

  pub falls : (r position x : ℕ) → IsRule f r → part_of f r position ≡ Some x → LeadsOver f r position → height x < height (lhs_of f r)
  falls r position x lt e over =
      let (s, at, same) = part_is w d r position x lt e in
      let part = part_in w d c r position s lt at in
      let less = fall (name_of w d r) (is_rule w d r lt) position s at
      (λ other y ne at'. spans_from w d c y (part_in w d c r other y lt at') (over other (number_of y) ne (is_part w d r other y lt at'))) in
      let up : height (lhs_of f r) ≡ height_of (name_of w d r).left = ap height (lhs_is w d r lt) ∙ height_at (name_of w d r).left (left_in w d r lt) in
      let down : height x ≡ height_of s = ap height (sym same) ∙ height_at s part in
      omega arith

  pub heights : HasHeights f
  heights = record { height = height; falls = falls }
