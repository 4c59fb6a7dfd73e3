-- The flat grammar is the one of the written grammar: its symbols, rules, marks and tops.
use Rattle.std.proofs.Common.{◌≡◌, ℕ, zero, suc, ◌<◌, ◌≤◌, ◌+◌, true, List, [], ◌∷◌, ◌++◌, map, length, ◌⊎◌, inl, inr, Some, refl, sym, ap, ◌∙◌, subst, arith}
use Rattle.std.specs.Prelude.{◌↔◌, slice_get, slice_index, slice_index_or}
use Rattle.std.specs.List.{flat_map}
use Rattle.std.proofs.lemmas.Grind.{flat_map-append}
use Rattle.std.proofs.lemmas.List.{append_assoc, length-map, length-append}
use Rattle.std.proofs.lemmas.Option.{slice_get-get_or}
use Rattle.finite_sets.proofs.Members.{among_at, Among}
use Rattle.finite_sets.proofs.Lists.{get_map, get_index}
use Rattle.grammar_model.specs.Grammar.{Grammar, slot_of}
use Rattle.grammar_model.specs.Analysis.{IsNullable}
use Rattle.grammar_model.specs.Checked.{IsChecked}
use Rattle.grammar_model.specs.Simple.{numbers}
use Rattle.recognizer_model.specs.Flat.{FlatGrammar, FlatRule, no_rule, IsRule, lhs_of}
use Rattle.recognizer_model.specs.declared.flat.FlatSymbol.{FlatSymbol}
use Rattle.recognizer_model.specs.declared.flat.FlatSymbol.TheVariants.{Terminal, Slot, Sequence, Top}
use Rattle.recognizer_model.specs.declared.flat.FlatSource.TheVariants.{Top as OfStart}
use Rattle.recognizer_model.specs.FlatForm.{IsSymbolOf, NamedRule, IsRuleOf, symbol_at, named, SpansNothing, IsFlatOf}
use Rattle.recognizer_model.specs.Counts.{IsListOf}
use Rattle.recognizer_model.proofs.FlatNamed.{map_at}
use Rattle.flat_model.specs.Flatten
use Rattle.flat_model.specs.Flatten.{Decided}
use Rattle.flat_rules.proofs.Symbols.{symbol_in, in_symbols, symbols_listed}
use Rattle.flat_rules.proofs.Rules.{named_in}
use Rattle.flat_rules.proofs.Whole.{in_named, once_named}
use Rattle.flat_rules.proofs.Numbered.{AreSymbols, told_back, named_back}
use Rattle.flat_rules.proofs.Parts.{parts_are}
use Rattle.recognizer_model.proofs.Counting.{list_is}

-- ---- lists

pub index_append : {A : Type 0} (xs ys : List A) (k : ℕ) (d : A) → slice_index_or (xs ++ ys) (length xs + k) d ≡ slice_index_or ys k d
index_append [] ys k d = let e : 0 + k ≡ k = omega arith in ap (λ z. slice_index_or ys z d) e
index_append (x ∷ xs) ys k d =
    let e : length (x ∷ xs) + k ≡ suc (length xs + k) = omega arith in
    ap (λ z. slice_index_or ((x ∷ xs) ++ ys) z d) e ∙ index_append xs ys k d

pub index_before : {A : Type 0} (xs ys : List A) (k : ℕ) (d : A) → k < length xs → slice_index_or (xs ++ ys) k d ≡ slice_index_or xs k d
index_before [] ys k d lt = absurd (omega arith)
index_before (x ∷ xs) ys zero d lt = refl
index_before (x ∷ xs) ys (suc k) d lt = index_before xs ys k d (omega arith)

pub numbers_length : (n : ℕ) → length (numbers n) ≡ n
numbers_length zero = refl
numbers_length (suc n) = let e = length-append (numbers n) (n ∷ []) in let h = numbers_length n in omega arith

pub numbers_at : (n k d : ℕ) → k < n → slice_index_or (numbers n) k d ≡ k
numbers_at zero k d lt = absurd (omega arith)
numbers_at (suc n) k d lt = go (Rattle.std.proofs.lemmas.Bool.cases_lt k n) (numbers_at n k d) (numbers_length n)
  where
    go : (k < n) ⊎ (n ≤ k) → (k < n → slice_index_or (numbers n) k d ≡ k) → length (numbers n) ≡ n → slice_index_or (numbers n ++ n ∷ []) k d ≡ k
    go (inl less) rest len = index_before (numbers n) (n ∷ []) k d (omega arith) ∙ rest less
    go (inr ge) rest len =
        let same : k ≡ length (numbers n) + 0 = omega arith in
        let e : n ≡ k = omega arith in
        ap (λ z. slice_index_or (numbers n ++ n ∷ []) z d) same ∙ index_append (numbers n) (n ∷ []) 0 d ∙ e

pub flat_map_one : {A B : Type 0} (g : A → List B) (h : A → B) → ((x : A) → g x ≡ h x ∷ []) → (xs : List A) → flat_map g xs ≡ map h xs
flat_map_one g h one [] = refl
flat_map_one g h one (x ∷ xs) = λ i. one x i ++ flat_map_one g h one xs i

pub map_map : {A B C : Type 0} (g : B → C) (h : A → B) (xs : List A) → flat_map (λ x. g x ∷ []) (map h xs) ≡ map (λ x. g (h x)) xs
map_map g h [] = refl
map_map g h (x ∷ xs) = ap (λ l. g (h x) ∷ l) (map_map g h xs)

module _ (w : Grammar) (d : Decided w) where
  abbrev f : FlatGrammar
  f = Flatten.flat_of w d

  are_symbols : IsChecked w → (n : NamedRule) → Among n (Flatten.named_rules w d) → AreSymbols w d n
  are_symbols c n m =
      let (rule, left) = named_in w d n m in
      (left, λ s a. in_symbols w d s (parts_are w c n rule s a))

  pub names : IsChecked w → map (named f) f.rules ≡ Flatten.named_rules w d
  names c = named_back w d (are_symbols c)

  -- ---- marks

  marked_is : (s : FlatSymbol) → IsSymbolOf w s → (Flatten.is_marked w d s ≡ true) ↔ SpansNothing w s
  marked_is (Terminal t) symbol = ((λ e. cc), (λ n. absurd n))
  marked_is (Slot s k) symbol = d.nullable_is (record { symbol = s; level = k })
  marked_is (Sequence i) symbol = ((λ e. cc), (λ n. absurd n))
  marked_is (Top k) lt =
      let is = d.nullable_is (slot_of (slice_index w.starts k)) in
      ((λ e. (slice_index w.starts k, slice_get-get_or w.starts k _ lt, is.0 e)), (λ h. is.1 (subst (λ z. IsNullable w (slot_of z)) (sym (get_index w.starts k _ h.0 h.1).1) h.2)))

  symbol_of : (x : ℕ) (s : FlatSymbol) → slice_get f.symbols x ≡ Some s → IsSymbolOf w s
  symbol_of x s e =
      let (lt, is) = get_index f.symbols x (Top 0) s e in
      symbol_in w d s (subst (λ z. Among z f.symbols) is (among_at f.symbols x (Top 0) lt))

  marks_are : (x : ℕ) (s : FlatSymbol) → slice_get f.symbols x ≡ Some s → (slice_get f.nullable x ≡ Some true) ↔ SpansNothing w s
  marks_are x s e =
      let here : slice_get f.nullable x ≡ Some (Flatten.is_marked w d s) = get_map (Flatten.is_marked w d) f.symbols x s e in
      let is = marked_is s (symbol_of x s e) in
      ((λ t. (let h : Some (Flatten.is_marked w d s) ≡ Some true = sym here ∙ t in is.0 (some_same h))), (λ n. here ∙ ap Some (is.1 n)))
    where
      some_same : Some (Flatten.is_marked w d s) ≡ Some true → Flatten.is_marked w d s ≡ true
      some_same e = cc

  -- ---- tops

  abbrev pub top_made : ℕ → NamedRule
  top_made k = record { left = Top k; right = Flatten.symbol_for w d (slot_of (slice_index w.starts k)) ∷ []; source = OfStart k }

  top_rules : flat_map (Flatten.rules_of w d) (Flatten.tops w d) ≡ map top_made (numbers (length w.starts))
  top_rules = go (numbers (length w.starts))
    where
      go : (ks : List ℕ) → flat_map (Flatten.rules_of w d) (map Top ks) ≡ map top_made ks
      go [] = refl
      go (k ∷ ks) = ap (λ l. top_made k ∷ l) (go ks)

  abbrev pub prefix : List NamedRule
  prefix = flat_map (Flatten.rules_of w d) (Flatten.terminals w d ++ (Flatten.slots w d ++ Flatten.lists w d))

  pub split : Flatten.named_rules w d ≡ prefix ++ map top_made (numbers (length w.starts))
  split =
      ap (flat_map (Flatten.rules_of w d))
      (ap (λ l. Flatten.terminals w d ++ l) (sym (append_assoc (Flatten.slots w d) (Flatten.lists w d) (Flatten.tops w d))) ∙ sym (append_assoc (Flatten.terminals w d) (Flatten.slots w d ++ Flatten.lists w d) (Flatten.tops w d)))
      ∙ flat_map-append (Flatten.rules_of w d) (Flatten.terminals w d ++ (Flatten.slots w d ++ Flatten.lists w d)) (Flatten.tops w d)
      ∙ ap (λ l. prefix ++ l) top_rules

  abbrev pub no_named : NamedRule
  no_named = record { left = Top 0; right = []; source = OfStart 0 }

  pub top_rule_at : (k : ℕ) → k < length w.starts → (length prefix + k < length (Flatten.named_rules w d)) × (slice_index_or (Flatten.named_rules w d) (length prefix + k) no_named ≡ top_made k)
  top_rule_at k lt =
      let len = numbers_length (length w.starts) in
      let mapped = length-map (numbers (length w.starts)) top_made in
      let whole = length-append prefix (map top_made (numbers (length w.starts))) in
      let all = ap length split in (
        omega arith,
        ap (λ l. slice_index_or l (length prefix + k) no_named) split ∙ index_append prefix (map top_made (numbers (length w.starts))) k no_named
            ∙ map_at top_made (numbers (length w.starts)) k 0 no_named (omega arith) ∙ ap top_made (numbers_at (length w.starts) k 0 lt),
      )

  pub rule_at : (r : ℕ) → r < length (Flatten.named_rules w d) → slice_index_or f.rules r no_rule ≡ Flatten.numbered w d (slice_index_or (Flatten.named_rules w d) r no_named)
  rule_at r lt = map_at (Flatten.numbered w d) (Flatten.named_rules w d) r no_named no_rule lt

  pub rules_length : length f.rules ≡ length (Flatten.named_rules w d)
  rules_length = length-map (Flatten.named_rules w d) (Flatten.numbered w d)

  top_is : (k r : ℕ) → slice_get f.tops k ≡ Some r → (k < length w.starts) × (r ≡ length prefix + k)
  top_is k r e =
      let (lt, is) = get_index f.tops k 0 r e in
      let len = length-map (numbers (length w.starts)) (λ k. Flatten.before_tops w d + k) in
      let n = numbers_length (length w.starts) in
      let here : k < length w.starts = omega arith in
      (here, sym is ∙ map_at (λ k. Flatten.before_tops w d + k) (numbers (length w.starts)) k 0 0 (omega arith) ∙ ap (λ z. length prefix + z) (numbers_at (length w.starts) k 0 here))

  tops_are : (k r : ℕ) → slice_get f.tops k ≡ Some r → IsRule f r × (symbol_at f (lhs_of f r) ≡ Top k)
  tops_are k r e =
      let (lt, is) = top_is k r e in
      let (less, made) = top_rule_at k lt in
      let len = rules_length in
      let rule : slice_index_or f.rules (length prefix + k) no_rule ≡ Flatten.numbered w d (top_made k) = rule_at (length prefix + k) less ∙ ap (Flatten.numbered w d) made in
      let left : lhs_of f (length prefix + k) ≡ Flatten.number_of w d (Top k) = ap (λ (z : FlatRule). z.lhs) rule in
      subst (λ z. IsRule f z × (symbol_at f (lhs_of f z) ≡ Top k)) (sym is) (omega arith, ap (symbol_at f) left ∙ told_back w d (Top k) (in_symbols w d (Top k) lt))

  pub is_flat_of : IsChecked w → IsFlatOf f w
  is_flat_of c = record {
    symbols = symbols_listed w d;
    rules = subst (IsListOf (IsRuleOf w)) (sym (names c)) (list_is (IsRuleOf w) (Flatten.named_rules w d) (once_named w d) (λ n m. (named_in w d n m).0) (in_named w d));
    marks_all = length-map f.symbols (Flatten.is_marked w d);
    marks = marks_are;
    tops_all = length-map (numbers (length w.starts)) (λ k. Flatten.before_tops w d + k) ∙ numbers_length (length w.starts);
    tops = tops_are;
  }
