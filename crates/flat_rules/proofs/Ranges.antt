-- What is always so of the flat grammar: its ranges, its tops, and what its rules come from.
use Rattle.std.proofs.Common.{◌≡◌, ◌≢◌, ℕ, suc, ◌<◌, List, [], ◌∷◌, length, inl, inr, Some, refl, sym, ap, ◌∙◌, subst, arith, lit<}
use Rattle.std.specs.Prelude.{slice_get}
use Rattle.std.proofs.lemmas.List.{length-map}
use Rattle.finite_sets.proofs.Members.{Among}
use Rattle.finite_sets.proofs.Lists.{get_among}
use Rattle.grammar_model.specs.Grammar.{WrittenRule, Plain, Grammar, slot_of, child_slot}
use Rattle.grammar_model.specs.Grammar
use Rattle.grammar_model.specs.Checked.{IsChecked}
use Rattle.recognizer_model.specs.Flat.{FlatGrammar, IsRule, lhs_of, rhs_of, source_of, part_of}
use Rattle.recognizer_model.specs.declared.flat.FlatSymbol.{FlatSymbol}
use Rattle.recognizer_model.specs.declared.flat.FlatSymbol.TheVariants.{Terminal, Sequence, Top}
use Rattle.recognizer_model.specs.declared.flat.FlatSource.TheVariants.{Top as OfStart}
use Rattle.recognizer_model.specs.FlatForm.{IsSymbolOf, Stands, AsTerminal, AsSlot, StandAll, NamedRule, IsRuleOf, OfPlain, OfList, OfTrailing, OfItem, OfItems, OfSeparated, OfTop, symbol_at}
use Rattle.recognizer_model.proofs.FlatNamed.{stand_one}
use Rattle.flat_model.specs.Flatten
use Rattle.flat_model.specs.Flatten.{Decided}
use Rattle.flat_rules.proofs.Symbols.{in_symbols}
use Rattle.flat_rules.proofs.Numbered.{told_back}
use Rattle.flat_rules.proofs.Parts.{parts_are}
use Rattle.flat_rules.proofs.FlatOf.{is_flat_of}
use Rattle.recognizer_model.specs.Invariant.{IsTopOf, HasSource}
use Rattle.recognizer_model.specs.Acceptable
use Rattle.flat_rules.proofs.Named.{name_of, is_rule, left_in, lhs_is, rhs_is, source_is, part_is, same_rule, told, symbol_of, one_number, has_part}

module _ (w : Grammar) (d : Decided w) where
  abbrev f : FlatGrammar
  f = Flatten.flat_of w d

  abbrev number_of : FlatSymbol → ℕ
  number_of = Flatten.number_of w d

  -- ---- by names

  no_terminal_left : (n : NamedRule) → IsRuleOf w n → (t : ℕ) → n.left ≢ Terminal t
  no_terminal_left n (OfPlain i s k r right lt is some live fits used len all) t e = cc
  no_terminal_left n (OfList i r symbol is) t e = cc
  no_terminal_left n (OfTrailing i b r s symbol is sep proper prod st) t e = cc
  no_terminal_left n (OfItem i r b symbol is st) t e = cc
  no_terminal_left n (OfItems i r b symbol is sep st) t e = cc
  no_terminal_left n (OfSeparated i b r s u symbol is sep prod st st') t e = cc
  no_terminal_left n (OfTop k start s e' st) t e = cc

  length_some : (ss : List FlatSymbol) → ss ≢ [] → 0 < length ss
  length_some [] h = absurd (h refl)
  length_some (x ∷ xs) h = omega arith

  some_right : (n : NamedRule) → IsRuleOf w n → 0 < length n.right
  some_right n (OfPlain i s k r right lt is some live fits used len all) = length_some right some
  some_right n (OfList i r symbol is) = lit< tt
  some_right n (OfTrailing i b r s symbol is sep proper prod st) = lit< tt
  some_right n (OfItem i r b symbol is st) = lit< tt
  some_right n (OfItems i r b symbol is sep st) = lit< tt
  some_right n (OfSeparated i b r s u symbol is sep prod st st') = lit< tt
  some_right n (OfTop k start s e' st) = lit< tt

  stands_inner : (slot : Grammar.Slot) (s : FlatSymbol) (k : ℕ) → Stands w slot s → s ≢ Top k
  stands_inner slot s k (AsTerminal t) e = cc
  stands_inner slot s k (AsSlot t) e = cc

  all_inner : (rule : WrittenRule) (k j : ℕ) (ss : List FlatSymbol) (s : FlatSymbol) → StandAll w rule k ss → Among s ss → s ≢ Top j
  all_inner rule k j [] s all m = absurd m
  all_inner rule k j (x ∷ xs) s all (inl e) = subst (λ z. z ≢ Top j) e (stands_inner (child_slot rule k) x j all.0)
  all_inner rule k j (x ∷ xs) s all (inr m) = all_inner rule (suc k) j xs s all.1 m

  one_inner : (slot : Grammar.Slot) (s x : FlatSymbol) (k : ℕ) → Stands w slot s → Among x (s ∷ []) → x ≢ Top k
  one_inner slot s x k st (inl e) = subst (λ z. z ≢ Top k) e (stands_inner slot s k st)
  one_inner slot s x k st (inr bad) = absurd bad

  list_inner : (i k : ℕ) (x : FlatSymbol) → Sequence i ≡ x → x ≢ Top k
  list_inner i k x e h = cc

  no_top_right : (n : NamedRule) → IsRuleOf w n → (x : FlatSymbol) (j : ℕ) → Among x n.right → x ≢ Top j
  no_top_right n (OfPlain i s k r right lt is some live fits used len all) x j m = all_inner (Plain r) 0 j right x all m
  no_top_right n (OfList i r symbol is) x j (inl e) = list_inner i j x e
  no_top_right n (OfList i r symbol is) x j (inr bad) = absurd bad
  no_top_right n (OfTrailing i b r s symbol is sep proper prod st) x j (inl e) = list_inner i j x e
  no_top_right n (OfTrailing i b r s symbol is sep proper prod st) x j (inr m) = one_inner (slot_of b) s x j st m
  no_top_right n (OfItem i r b symbol is st) x j m = one_inner (slot_of r.item) b x j st m
  no_top_right n (OfItems i r b symbol is sep st) x j (inl e) = list_inner i j x e
  no_top_right n (OfItems i r b symbol is sep st) x j (inr m) = one_inner (slot_of r.item) b x j st m
  no_top_right n (OfSeparated i b r s u symbol is sep prod st st') x j (inl e) = list_inner i j x e
  no_top_right n (OfSeparated i b r s u symbol is sep prod st st') x j (inr (inl e)) = one_inner (slot_of b) u x j st (inl e)
  no_top_right n (OfSeparated i b r s u symbol is sep prod st st') x j (inr (inr m)) = one_inner (slot_of r.item) s x j st' m
  no_top_right n (OfTop k start s e' st) x j m = one_inner (slot_of start) s x j st m

  has_source : (n : NamedRule) → IsRuleOf w n → HasSource n.left n.source
  has_source n (OfPlain i s k r right lt is some live fits used len all) = tt
  has_source n (OfList i r symbol is) = tt
  has_source n (OfTrailing i b r s symbol is sep proper prod st) = tt
  has_source n (OfItem i r b symbol is st) = refl
  has_source n (OfItems i r b symbol is sep st) = refl
  has_source n (OfSeparated i b r s u symbol is sep prod st st') = refl
  has_source n (OfTop k start s e' st) = refl

  -- two rules of one top are one
  top_start : (n : NamedRule) (k : ℕ) → IsRuleOf w n → n.left ≡ Top k → (start : ℕ) × (s : FlatSymbol) × (slice_get w.starts k ≡ Some start) × Stands w (slot_of start) s × (n ≡ record { left = Top k; right = s ∷ []; source = OfStart k })
  top_start n k (OfPlain i s l r right lt is some live fits used len all) e = cc
  top_start n k (OfList i r symbol is) e = cc
  top_start n k (OfTrailing i b r s symbol is sep proper prod st) e = cc
  top_start n k (OfItem i r b symbol is st) e = cc
  top_start n k (OfItems i r b symbol is sep st) e = cc
  top_start n k (OfSeparated i b r s u symbol is sep prod st st') e = cc
  top_start n k (OfTop j start s at st) e =
      let same : j ≡ k = cc in
      (start, s, ap (slice_get w.starts) (sym same) ∙ at, st, ap (λ z. record { left = Top z; right = s ∷ []; source = OfStart z }) same)

  one_top : (m n : NamedRule) (k : ℕ) → IsRuleOf w m → IsRuleOf w n → m.left ≡ Top k → n.left ≡ Top k → m ≡ n
  one_top m n k a b ea eb =
      let (x, s, at, st, is) = top_start m k a ea in
      let (y, u, at', st', is') = top_start n k b eb in
      let h : Some x ≡ Some y = sym at ∙ at' in
      let same : x ≡ y = cc in
      let symbols : s ≡ u = stand_one w st (subst (λ z. Stands w (slot_of z) u) (sym same) st') in
      is ∙ ap (λ z. record { left = Top k; right = z ∷ []; source = OfStart k }) symbols ∙ sym is'

  -- ---- by numbers

  pub no_rules : Acceptable.NoTerminalHasRules f
  no_rules r lt (t, e) =
      let here = told w d (name_of w d r).left (left_in w d r lt) in
      let h : Some (name_of w d r).left ≡ Some (Terminal t) = sym here ∙ ap (slice_get f.symbols) (sym (lhs_is w d r lt)) ∙ e in
      no_terminal_left (name_of w d r) (is_rule w d r lt) t (same h)
    where
      same : Some (name_of w d r).left ≡ Some (Terminal t) → (name_of w d r).left ≡ Terminal t
      same h = cc

  pub some : (r : ℕ) → IsRule f r → 0 < length (rhs_of f r)
  some r lt =
      let a = some_right (name_of w d r) (is_rule w d r lt) in
      let b = ap length (rhs_is w d r lt) in
      let e = length-map (name_of w d r).right number_of in
      omega arith

  pub sources : (r : ℕ) (s : FlatSymbol) → IsRule f r → slice_get f.symbols (lhs_of f r) ≡ Some s → HasSource s (source_of f r)
  sources r s lt e =
      let here = told w d (name_of w d r).left (left_in w d r lt) in
      let h : Some (name_of w d r).left ≡ Some s = sym here ∙ ap (slice_get f.symbols) (sym (lhs_is w d r lt)) ∙ e in
      subst (λ z. HasSource z (source_of f r)) (same h) (subst (HasSource (name_of w d r).left) (sym (source_is w d r lt)) (has_source (name_of w d r) (is_rule w d r lt)))
    where
      same : Some (name_of w d r).left ≡ Some s → (name_of w d r).left ≡ s
      same h = cc

  module _ (c : IsChecked w) where
    left_told : (r k : ℕ) → IsRule f r → symbol_at f (lhs_of f r) ≡ Top k → (name_of w d r).left ≡ Top k
    left_told r k lt e =
        sym (told_back w d (name_of w d r).left (in_symbols w d (name_of w d r).left (left_in w d r lt))) ∙ ap (symbol_at f) (sym (lhs_is w d r lt)) ∙ e

    pub tops : (k r : ℕ) → slice_get f.tops k ≡ Some r → IsTopOf f k r
    tops k r e =
        let (lt, is) = (is_flat_of w d c).tops k r e in
        let left = left_told r k lt is in
        let rule = is_rule w d r lt in
        let (start, s, at, st, whole) = top_start (name_of w d r) k rule left in
        record {
          is_top = record {
            is_rule = lt;
            alone = λ q l same. same_rule w d q r l lt (one_top (name_of w d q) (name_of w d r) k (is_rule w d q l) rule
                (one_number w d (name_of w d q).left (name_of w d r).left (left_in w d q l) (left_in w d r lt) (sym (lhs_is w d q l) ∙ same ∙ lhs_is w d r lt) ∙ left) left);
            outermost = λ q position h. outer q position (left_in w d r lt) (lhs_is w d r lt) left h;
          };
          symbol = ap (slice_get f.symbols) (lhs_is w d r lt) ∙ told w d (name_of w d r).left (left_in w d r lt) ∙ ap Some left;
          source = source_is w d r lt ∙ ap (λ (z : NamedRule). z.source) whole;
          one = ap length (rhs_is w d r lt) ∙ length-map (name_of w d r).right number_of ∙ ap (λ (z : NamedRule). length z.right) whole;
        }
      where
        outer : (q position : ℕ) → IsSymbolOf w (name_of w d r).left → lhs_of f r ≡ number_of (name_of w d r).left → (name_of w d r).left ≡ Top k → part_of f q position ≡ Some (lhs_of f r) → ⊥
        outer q position symbol_left ls left h =
            let lt = has_part f q position (lhs_of f r) h in
            let (s, at, same) = part_is w d q position (lhs_of f r) lt h in
            let m = get_among (name_of w d q).right position s at in
            let symbol = parts_are w c (name_of w d q) (is_rule w d q lt) s m in
            let one = one_number w d s (name_of w d r).left symbol symbol_left (same ∙ ls) in
            no_top_right (name_of w d q) (is_rule w d q lt) s k m (one ∙ left)

    pub all_tops : (x k : ℕ) → slice_get f.symbols x ≡ Some (Top k) → k < length f.tops
    all_tops x k e =
        let lt : k < length w.starts = symbol_of w d x (Top k) e in
        let len = (is_flat_of w d c).tops_all in
        omega arith
