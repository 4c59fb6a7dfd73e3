-- The symbols of the flat grammar are listed, each once.
use Rattle.std.proofs.Common.{◌≡◌, ℕ, ◌<◌, Bool, true, false, not, List, ◌++◌, map, length, ◌⊎◌, inl, inr, refl, sym, ap, ◌∙◌, subst, arith}
use Rattle.std.specs.Prelude.{◌&&◌, filter}
use Rattle.std.proofs.lemmas.Bool.{cases_Bool, not-true, and_from, and_parts, not_from_false}
use Rattle.finite_sets.proofs.Members.{among_filter, among_filter_from, among_left, among_right, among_either, among_map, among_map_from, among_flat_map, among_flat_map_from, once_append, once_map, once_flat_map, once_filter, Among, Once}
use Rattle.grammar_model.specs.Grammar.{SequenceRule, WrittenRule, Plain, Grammar, rule_at, slot_of}
use Rattle.grammar_model.specs.Grammar
use Rattle.grammar_model.specs.Analysis.{IsLive}
use Rattle.grammar_model.specs.Simple.{is_terminal, numbers}
use Rattle.grammar_model.proofs.Simple.{terminal_from, no_terminal_from, is_terminal_from, among_numbers, among_numbers_from}
use Rattle.recognizer_model.specs.declared.flat.FlatSymbol.{FlatSymbol}
use Rattle.recognizer_model.specs.declared.flat.FlatSymbol.TheVariants.{Terminal, Slot, Sequence, Top}
use Rattle.recognizer_model.specs.FlatForm.{IsUsedSlot, IsSymbolOf}
use Rattle.recognizer_model.specs.Counts.{IsListOf}
use Rattle.flat_model.specs.Flatten
use Rattle.flat_model.specs.Flatten.{Decided}
use Rattle.flat_rules.proofs.Once.{once_numbers}
use Rattle.recognizer_model.proofs.Counting.{list_is}

-- ---- two tests

pub terminal_no : (w : Grammar) (s : ℕ) → (Grammar.IsTerminal w s → ⊥) → is_terminal w s ≡ false
terminal_no w s other = elim (cases_Bool (is_terminal w s)) [ inl t ↦ absurd (other (terminal_from w s t)) | inr f ↦ f ]

-- ---- kinds of symbols

abbrev pub kind : FlatSymbol → ℕ
kind (Terminal t) = 0
kind (Slot s k) = 1
kind (Sequence i) = 2
kind (Top k) = 3

abbrev pub number : FlatSymbol → ℕ
number (Terminal t) = t
number (Slot s k) = s
number (Sequence i) = i
number (Top k) = k

abbrev pub level : FlatSymbol → ℕ
level (Slot s k) = k
level _ = 0

abbrev pub sequence_of : WrittenRule → Grammar.SequenceRule
sequence_of (Plain r) = record { lhs = r.lhs; item = 0; plus = false; separator = Rattle.std.specs.Prelude.None; proper = false; rank = Rattle.std.specs.Prelude.pos 0; null_high = false }
sequence_of (Grammar.Sequence r) = r

module _ (w : Grammar) (d : Decided w) where
  abbrev makes : WrittenRule → Bool
  makes = Flatten.makes_list w d

  -- ---- each kind

  terminal_in : (x : FlatSymbol) → Among x (Flatten.terminals w d) → (kind x ≡ 0) × IsSymbolOf w x
  terminal_in x m =
      let (t, a, e) = among_map_from Terminal x (filter (λ s. is_terminal w s && d.used (slot_of s)) (numbers d.symbols)) m in
      let (b, test) = among_filter_from (λ s. is_terminal w s && d.used (slot_of s)) t (numbers d.symbols) a in
      let (ter, used) = and_parts (is_terminal w t) (d.used (slot_of t)) test in
      let p : IsSymbolOf w (Terminal t) = (terminal_from w t ter, (d.used_is (slot_of t)).0 used) in
      (sym (ap kind e), subst (IsSymbolOf w) e p)

  slot_in : (x : FlatSymbol) → Among x (Flatten.slots w d) → (kind x ≡ 1) × IsSymbolOf w x
  slot_in x m =
      let (s, a, b) = among_flat_map_from (λ s. map (Slot s) (Flatten.levels_of w d s)) x (numbers d.symbols) m in
      let (k, c, e) = among_map_from (Slot s) x (Flatten.levels_of w d s) b in
      let (g, test) = among_filter_from (λ k. not (is_terminal w s) && d.used (record { symbol = s; level = k })) k (numbers d.levels) c in
      let (ter, used) = and_parts (not (is_terminal w s)) (d.used (record { symbol = s; level = k })) test in
      let p : IsSymbolOf w (Slot s k) = (no_terminal_from w s (not-true (is_terminal w s) ter), (d.used_is (record { symbol = s; level = k })).0 used) in
      (sym (ap kind e), subst (IsSymbolOf w) e p)

  list_at : (i : ℕ) (rule : WrittenRule) → i < length w.rules → rule_at w i ≡ rule → makes rule ≡ true → IsSymbolOf w (Sequence i)
  list_at i (Plain r) lt is e = cc
  list_at i (Grammar.Sequence r) lt is e =
      let (live, used) = and_parts (d.productive (slot_of r.item)) (d.used (slot_of r.lhs)) e in
      (r, lt, is, (d.productive_is (slot_of r.item)).0 live, (d.used_is (slot_of r.lhs)).0 used)

  list_in : (x : FlatSymbol) → Among x (Flatten.lists w d) → (kind x ≡ 2) × IsSymbolOf w x
  list_in x m =
      let (i, a, e) = among_map_from Sequence x (filter (λ i. makes (rule_at w i)) (numbers (length w.rules))) m in
      let (b, test) = among_filter_from (λ i. makes (rule_at w i)) i (numbers (length w.rules)) a in
      (sym (ap kind e), subst (IsSymbolOf w) e (list_at i (rule_at w i) (among_numbers_from (length w.rules) i b) refl test))

  top_in : (x : FlatSymbol) → Among x (Flatten.tops w d) → (kind x ≡ 3) × IsSymbolOf w x
  top_in x m =
      let (k, a, e) = among_map_from Top x (numbers (length w.starts)) m in
      let p : IsSymbolOf w (Top k) = among_numbers_from (length w.starts) k a in
      (sym (ap kind e), subst (IsSymbolOf w) e p)

  -- ---- each symbol is there

  pub all_terminals : (t : ℕ) → Grammar.IsTerminal w t → IsUsedSlot w (slot_of t) → Among (Terminal t) (Flatten.terminals w d)
  all_terminals t ter used =
      among_map Terminal t (filter (λ s. is_terminal w s && d.used (slot_of s)) (numbers d.symbols))
      (among_filter (λ s. is_terminal w s && d.used (slot_of s)) t (numbers d.symbols) (among_numbers d.symbols t (d.below_symbols (slot_of t) used))
      (and_from (is_terminal w t) (d.used (slot_of t)) (is_terminal_from w t ter) ((d.used_is (slot_of t)).1 used)))

  pub all_slots : (s k : ℕ) → (Grammar.IsTerminal w s → ⊥) → IsUsedSlot w (record { symbol = s; level = k }) → Among (Slot s k) (Flatten.slots w d)
  all_slots s k other used =
      among_flat_map (λ s. map (Slot s) (Flatten.levels_of w d s)) s (Slot s k) (numbers d.symbols)
      (among_numbers d.symbols s (d.below_symbols (record { symbol = s; level = k }) used))
      (among_map (Slot s) k (Flatten.levels_of w d s)
      (among_filter (λ k. not (is_terminal w s) && d.used (record { symbol = s; level = k })) k (numbers d.levels)
      (among_numbers d.levels k (d.below_levels (record { symbol = s; level = k }) used other))
      (and_from (not (is_terminal w s)) (d.used (record { symbol = s; level = k })) (not_from_false (is_terminal w s) (terminal_no w s other)) ((d.used_is (record { symbol = s; level = k })).1 used))))

  makes_one : (r : SequenceRule) (rule : WrittenRule) → rule ≡ Grammar.Sequence r → IsLive w (Grammar.Sequence r) → IsUsedSlot w (slot_of r.lhs) → makes rule ≡ true
  makes_one r (Plain p) e live used = cc
  makes_one r (Grammar.Sequence p) e live used =
      let same : r ≡ p = sym (ap sequence_of e) in
      and_from (d.productive (slot_of p.item)) (d.used (slot_of p.lhs))
      ((d.productive_is (slot_of p.item)).1 (subst (λ q. IsLive w (Grammar.Sequence q)) same live)) ((d.used_is (slot_of p.lhs)).1 (subst (λ (q : SequenceRule). IsUsedSlot w (slot_of q.lhs)) same used))

  pub all_lists : (i : ℕ) → IsSymbolOf w (Sequence i) → Among (Sequence i) (Flatten.lists w d)
  all_lists i (r, lt, is, live, used) =
      among_map Sequence i (filter (λ i. makes (rule_at w i)) (numbers (length w.rules)))
      (among_filter (λ i. makes (rule_at w i)) i (numbers (length w.rules)) (among_numbers (length w.rules) i lt) (makes_one r (rule_at w i) is live used))

  pub all_tops : (k : ℕ) → k < length w.starts → Among (Top k) (Flatten.tops w d)
  all_tops k lt = among_map Top k (numbers (length w.starts)) (among_numbers (length w.starts) k lt)

  -- ---- the list

  abbrev after_slots : List FlatSymbol
  after_slots = Flatten.lists w d ++ Flatten.tops w d

  abbrev after_terminals : List FlatSymbol
  after_terminals = Flatten.slots w d ++ after_slots

  late_in : (x : FlatSymbol) → Among x after_slots → ((kind x ≡ 2) ⊎ (kind x ≡ 3)) × IsSymbolOf w x
  late_in x m = elim (among_either x (Flatten.lists w d) (Flatten.tops w d) m)
      [ inl a ↦ (let (e, h) = list_in x a in (inl e, h)) | inr a ↦ (let (e, h) = top_in x a in (inr e, h)) ]

  pub later_in : (x : FlatSymbol) → Among x after_terminals → (0 < kind x) × IsSymbolOf w x
  later_in x m = go (among_either x (Flatten.slots w d) after_slots m)
    where
      go : Among x (Flatten.slots w d) ⊎ Among x after_slots → (0 < kind x) × IsSymbolOf w x
      go (inl a) = let (e, h) = slot_in x a in (omega arith, h)
      go (inr a) = let (e, h) = late_in x a in (elim e [ inl f ↦ omega arith | inr f ↦ omega arith ], h)

  pub symbol_in : (x : FlatSymbol) → Among x (Flatten.symbols w d) → IsSymbolOf w x
  symbol_in x m = elim (among_either x (Flatten.terminals w d) after_terminals m) [ inl a ↦ (terminal_in x a).1 | inr a ↦ (later_in x a).1 ]

  pub in_symbols : (x : FlatSymbol) → IsSymbolOf w x → Among x (Flatten.symbols w d)
  in_symbols (Terminal t) h = among_left (Terminal t) (Flatten.terminals w d) after_terminals (all_terminals t h.0 h.1)
  in_symbols (Slot s k) h = among_right (Slot s k) (Flatten.terminals w d) after_terminals (among_left (Slot s k) (Flatten.slots w d) after_slots (all_slots s k h.0 h.1))
  in_symbols (Sequence i) h =
      among_right (Sequence i) (Flatten.terminals w d) after_terminals (among_right (Sequence i) (Flatten.slots w d) after_slots
      (among_left (Sequence i) (Flatten.lists w d) (Flatten.tops w d) (all_lists i h)))
  in_symbols (Top k) h =
      among_right (Top k) (Flatten.terminals w d) after_terminals (among_right (Top k) (Flatten.slots w d) after_slots
      (among_right (Top k) (Flatten.lists w d) (Flatten.tops w d) (all_tops k h)))

  once_slots : Once (Flatten.slots w d)
  once_slots = once_flat_map (λ s. map (Slot s) (Flatten.levels_of w d s)) (numbers d.symbols) (once_numbers d.symbols)
      (λ s m. once_map (Slot s) (Flatten.levels_of w d s) (λ x y e. ap level e)
      (once_filter (λ k. not (is_terminal w s) && d.used (record { symbol = s; level = k })) (numbers d.levels) (once_numbers d.levels)))
      (λ s t x p q a b. (let (k, m, e) = among_map_from (Slot s) x (Flatten.levels_of w d s) a in
      let (l, n, g) = among_map_from (Slot t) x (Flatten.levels_of w d t) b in ap number (e ∙ sym g)))

  pub once_symbols : Once (Flatten.symbols w d)
  once_symbols =
      once_append (Flatten.terminals w d) after_terminals
      (once_map Terminal (filter (λ s. is_terminal w s && d.used (slot_of s)) (numbers d.symbols)) (λ x y e. ap number e)
      (once_filter (λ s. is_terminal w s && d.used (slot_of s)) (numbers d.symbols) (once_numbers d.symbols)))
      (once_append (Flatten.slots w d) after_slots once_slots
      (once_append (Flatten.lists w d) (Flatten.tops w d)
      (once_map Sequence (filter (λ i. makes (rule_at w i)) (numbers (length w.rules))) (λ x y e. ap number e)
      (once_filter (λ i. makes (rule_at w i)) (numbers (length w.rules)) (once_numbers (length w.rules))))
      (once_map Top (numbers (length w.starts)) (λ x y e. ap number e) (once_numbers (length w.starts)))
      (λ x a b. (let e = (list_in x a).0 in let f = (top_in x b).0 in omega arith)))
      (λ x a b. (let e = (slot_in x a).0 in elim (late_in x b).0 [ inl f ↦ omega arith | inr f ↦ omega arith ])))
      (λ x a b. (let e = (terminal_in x a).0 in let f = (later_in x b).0 in omega arith))

  pub symbols_listed : IsListOf (IsSymbolOf w) (Flatten.symbols w d)
  symbols_listed = list_is (IsSymbolOf w) (Flatten.symbols w d) once_symbols symbol_in in_symbols
