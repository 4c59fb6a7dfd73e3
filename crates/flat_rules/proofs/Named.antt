-- The rules of the flat grammar by their numbers, and by their names.
use Rattle.std.proofs.Common.{◌≡◌, ℕ, ◌<◌, ◌≤◌, [], map, length, ◌⊎◌, inl, inr, Some, sym, ap, ◌∙◌, arith}
use Rattle.std.specs.Prelude.{slice_get, slice_index_or}
use Rattle.std.proofs.lemmas.Bool.{cases_lt}
use Rattle.std.proofs.lemmas.Option.{slice_get-get_or}
use Rattle.std.proofs.lemmas.List.{get_or_past}
use Rattle.finite_sets.proofs.Members.{among_at, once_pairs, Among}
use Rattle.finite_sets.proofs.Lists.{get_map, get_among, get_index, get_mapped}
use Rattle.grammar_model.specs.Grammar.{Grammar}
use Rattle.grammar_model.specs.Checked.{IsChecked}
use Rattle.recognizer_model.specs.Flat.{FlatGrammar, FlatRule, no_rule, IsRule, lhs_of, rhs_of, source_of, part_of, IsNullable}
use Rattle.recognizer_model.specs.declared.flat.FlatSymbol.{FlatSymbol}
use Rattle.recognizer_model.specs.declared.flat.FlatSymbol.TheVariants.{Top}
use Rattle.recognizer_model.specs.FlatForm.{IsSymbolOf, NamedRule, IsRuleOf, SpansNothing}
use Rattle.recognizer_model.proofs.FlatNamed.{at_among, one_place}
use Rattle.flat_model.specs.Flatten
use Rattle.flat_model.specs.Flatten.{Decided}
use Rattle.flat_rules.proofs.Symbols.{symbol_in, in_symbols, once_symbols}
use Rattle.flat_rules.proofs.Rules.{named_in}
use Rattle.flat_rules.proofs.Whole.{in_named, in_rules, once_named}
use Rattle.flat_rules.proofs.Numbered.{numbered_in, told_back}
use Rattle.flat_rules.proofs.Parts.{parts_are}
use Rattle.flat_rules.proofs.FlatOf.{no_named, rule_at, rules_length, is_flat_of}

-- only a rule has parts
pub has_part : (f : FlatGrammar) (r position x : ℕ) → part_of f r position ≡ Some x → IsRule f r
has_part f r position x e = go (cases_lt r (length f.rules))
  where
    go : (r < length f.rules) ⊎ (length f.rules ≤ r) → IsRule f r
    go (inl lt) = lt
    go (inr ge) =
        let h : slice_get [] position ≡ Some x = ap (λ (z : FlatRule). slice_get z.rhs position) (sym (get_or_past f.rules r no_rule ge)) ∙ e in
        cc

module _ (w : Grammar) (d : Decided w) where
  abbrev f : FlatGrammar
  f = Flatten.flat_of w d

  abbrev pub number_of : FlatSymbol → ℕ
  number_of = Flatten.number_of w d

  abbrev pub name_of : ℕ → NamedRule
  name_of r = slice_index_or (Flatten.named_rules w d) r (no_named w d)

  name_lt : (r : ℕ) → IsRule f r → r < length (Flatten.named_rules w d)
  name_lt r lt = let e = rules_length w d in omega arith

  pub name_among : (r : ℕ) → IsRule f r → Among (name_of r) (Flatten.named_rules w d)
  name_among r lt = among_at (Flatten.named_rules w d) r (no_named w d) (name_lt r lt)

  pub is_rule : (r : ℕ) → IsRule f r → IsRuleOf w (name_of r)
  is_rule r lt = (named_in w d (name_of r) (name_among r lt)).0

  pub left_in : (r : ℕ) → IsRule f r → IsSymbolOf w (name_of r).left
  left_in r lt = (in_rules w d (name_of r) (is_rule r lt)).0

  pub lhs_is : (r : ℕ) → IsRule f r → lhs_of f r ≡ number_of (name_of r).left
  lhs_is r lt = ap (λ (z : FlatRule). z.lhs) (rule_at w d r (name_lt r lt))

  pub rhs_is : (r : ℕ) → IsRule f r → rhs_of f r ≡ map number_of (name_of r).right
  rhs_is r lt = ap (λ (z : FlatRule). z.rhs) (rule_at w d r (name_lt r lt))

  pub source_is : (r : ℕ) → IsRule f r → source_of f r ≡ (name_of r).source
  source_is r lt = ap (λ (z : FlatRule). z.source) (rule_at w d r (name_lt r lt))

  pub part_is : (r position x : ℕ) → IsRule f r → part_of f r position ≡ Some x → (s : FlatSymbol) × (slice_get (name_of r).right position ≡ Some s) × (number_of s ≡ x)
  part_is r position x lt e = get_mapped number_of (name_of r).right position x (ap (λ l. slice_get l position) (sym (rhs_is r lt)) ∙ e)

  pub is_part : (r position : ℕ) (s : FlatSymbol) → IsRule f r → slice_get (name_of r).right position ≡ Some s → part_of f r position ≡ Some (number_of s)
  is_part r position s lt e = ap (λ l. slice_get l position) (rhs_is r lt) ∙ get_map number_of (name_of r).right position s e

  -- a named rule has a number
  pub rule_of : (n : NamedRule) → IsRuleOf w n → (r : ℕ) × IsRule f r × (name_of r ≡ n)
  rule_of n rule =
      let (r, lt, e) = at_among (Flatten.named_rules w d) n (no_named w d) (in_named w d n rule) in
      let len = rules_length w d in
      (r, omega arith, e)

  pub same_rule : (r s : ℕ) → IsRule f r → IsRule f s → name_of r ≡ name_of s → r ≡ s
  same_rule r s a b e = one_place (Flatten.named_rules w d) (once_pairs (Flatten.named_rules w d) (once_named w d)) r s (no_named w d) (name_lt r a) (name_lt s b) e

  -- ---- symbols

  pub told : (s : FlatSymbol) → IsSymbolOf w s → slice_get f.symbols (number_of s) ≡ Some s
  told s symbol =
      let m = in_symbols w d s symbol in
      slice_get-get_or f.symbols (number_of s) (Top 0) (numbered_in w d s m) ∙ ap Some (told_back w d s m)

  pub symbol_of : (x : ℕ) (s : FlatSymbol) → slice_get f.symbols x ≡ Some s → IsSymbolOf w s
  symbol_of x s e = symbol_in w d s (get_among f.symbols x s e)

  pub one_number : (s t : FlatSymbol) → IsSymbolOf w s → IsSymbolOf w t → number_of s ≡ number_of t → s ≡ t
  one_number s t a b e =
      let h : Some s ≡ Some t = sym (told s a) ∙ ap (slice_get f.symbols) e ∙ told t b in cc

  pub differ : (x y : ℕ) (s : FlatSymbol) → slice_get f.symbols x ≡ Some s → slice_get f.symbols y ≡ Some s → x ≡ y
  differ x y s a b =
      let (la, ia) = get_index f.symbols x (Top 0) s a in
      let (lb, ib) = get_index f.symbols y (Top 0) s b in
      one_place f.symbols (once_pairs f.symbols (once_symbols w d)) x y (Top 0) la lb (ia ∙ sym ib)

  pub at_number : (x : ℕ) (s : FlatSymbol) → slice_get f.symbols x ≡ Some s → number_of s ≡ x
  at_number x s e = differ (number_of s) x s (told s (symbol_of x s e)) e

  -- ---- marks

  module _ (c : IsChecked w) where
    pub spans_from : (s : FlatSymbol) → IsSymbolOf w s → IsNullable f (number_of s) → SpansNothing w s
    spans_from s symbol n = ((is_flat_of w d c).marks (number_of s) s (told s symbol)).0 n

    pub marked : (s : FlatSymbol) → IsSymbolOf w s → SpansNothing w s → IsNullable f (number_of s)
    marked s symbol n = ((is_flat_of w d c).marks (number_of s) s (told s symbol)).1 n

    pub part_in : (r position : ℕ) (s : FlatSymbol) → IsRule f r → slice_get (name_of r).right position ≡ Some s → IsSymbolOf w s
    part_in r position s lt e = parts_are w c (name_of r) (is_rule r lt) s (get_among (name_of r).right position s e)
