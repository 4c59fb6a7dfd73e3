-- What a check tells by tests is what it decides; and the slots that are numbered, each once.
use Rattle.std.proofs.Common.{◌≡◌, ◌≢◌, ℕ, zero, suc, ◌+◌, ◌<◌, Bool, true, false, List, [], ◌∷◌, ◌++◌, length, map, inl, inr, refl, sym, ap, ◌∙◌, subst, arith}
use Rattle.std.specs.Prelude.{◌&&◌, ◌^◌, filter, not, slice_index_or}
use Rattle.std.specs.List.{AllPairs, flat_map}
use Rattle.std.proofs.lemmas.List.{append_assoc, map-append}
use Rattle.std.proofs.lemmas.Bool.{not-true, and_from, and_parts}
use Rattle.std.proofs.lemmas.Simd.{map-map}
use Rattle.finite_sets.proofs.Members.{among_filter_from, among_left, among_either, among_map, among_map_from, among_flat_map_from, among_at, once_pairs, Among, Once}
use Rattle.grammar_model.specs.Grammar.{WrittenRule, Grammar, no_rule, slot_of, level_of}
use Rattle.grammar_model.specs.Grammar
use Rattle.grammar_model.specs.Simple.{is_terminal, numbers}
use Rattle.grammar_core.specs.Written.{IsWritten}
use Rattle.slot_analysis.specs.Tested.{HasTests}
use Rattle.slot_analysis.specs.Few.{FewAreAccessible}
use Rattle.recognizer_model.specs.FlatForm.{IsUsedSlot}
use Rattle.recognizer_model.specs.declared.flat.FlatSymbol.TheVariants.{Terminal, Slot}
use Rattle.flat_model.specs.Flatten
use Rattle.flat_model.specs.Flatten.{Decided, levels_of}
use Rattle.flat_rules.specs.declared.numbering.SlotKey.{SlotKey}
use Rattle.flat_rules.specs.Tables.{told_slot, slot_at, slots_of_terminals, slots_of_lefts}
use Rattle.flat_rules.proofs.Symbols.{once_symbols}
use Rattle.flat_rules.proofs.Listing.{used_known, productive_rule}

-- ---- what is decided

abbrev top_level : List WrittenRule → ℕ
top_level [] = 0
top_level (r ∷ rs) = suc (level_of r + top_level rs)

below_top : (rules : List WrittenRule) (i : ℕ) → i < length rules → level_of (slice_index_or rules i no_rule) < top_level rules
below_top [] i lt = absurd (omega arith)
below_top (r ∷ rs) zero lt = omega arith
below_top (r ∷ rs) (suc i) lt = let h = below_top rs i (omega arith) in omega arith

pub decided_of : (w : Grammar) → IsWritten w → HasTests w → Decided w
decided_of w written t = record {
  used = λ s. t.accessible s && t.productive s;
  used_is = λ s. (
    (λ e. (let (a, b) = and_parts (t.accessible s) (t.productive s) e in ((t.accessible_is s).0 a, (t.productive_is s).0 b))),
    (λ u. and_from (t.accessible s) (t.productive s) ((t.accessible_is s).1 u.0) ((t.productive_is s).1 u.1)),
  );
  productive = t.productive;
  productive_is = t.productive_is;
  nullable = t.nullable;
  nullable_is = t.nullable_is;
  symbols = length w.names;
  below_symbols = λ s u. used_known w written s u;
  levels = top_level w.rules;
  below_levels = λ s u other. (let (i, lt, is, le) = productive_rule w s other u.1 in let less = below_top w.rules i lt in omega arith);
}

-- ---- each slot once

once_left : {X : Type 0} (xs ys : List X) → Once (xs ++ ys) → Once xs
once_left [] ys h = tt
once_left (x ∷ xs) ys h = ((λ m. h.0 (among_left x xs ys m)), once_left xs ys h.1)

once_unmap : {X Y : Type 0} (f : X → Y) (xs : List X) → Once (map f xs) → Once xs
once_unmap f [] h = tt
once_unmap f (x ∷ xs) h = ((λ m. h.0 (among_map f x xs m)), once_unmap f xs h.1)

map_filter : {X : Type 0} (f g : ℕ → X) (p : ℕ → Bool) (xs : List ℕ) → ((k : ℕ) → p k ≡ true → f k ≡ g k) → map f (filter p xs) ≡ map g (filter p xs)
map_filter f g p xs same = go (filter p xs) (λ k m. same k (among_filter_from p k xs m).1)
  where
    go : (ys : List ℕ) → ((k : ℕ) → Among k ys → f k ≡ g k) → map f ys ≡ map g ys
    go [] h = refl
    go (y ∷ ys) h = λ i. h y (inl refl) i ∷ go ys (λ k m. h k (inr m)) i

pub map_flat : {K X Y : Type 0} (f : X → Y) (g : K → List X) (h : K → List Y) (xs : List K) → ((k : K) → map f (g k) ≡ h k) → map f (flat_map g xs) ≡ flat_map h xs
map_flat f g h [] same = refl
map_flat f g h (x ∷ xs) same = map-append f (g x) (flat_map g xs) ∙ (λ i. same x i ++ map_flat f g h xs same i)

module _ (w : Grammar) (d : Decided w) where
  abbrev pub slots_in : List Grammar.Slot
  slots_in = slots_of_terminals w d ++ slots_of_lefts w d

  pub terminal_symbol : (s k : ℕ) → is_terminal w s ≡ true → Flatten.symbol_for w d (slot_at s k) ≡ Terminal s
  terminal_symbol s k e = ap (λ b. Rattle.std.proofs.Common.cond b (Terminal s) (Slot s k)) e

  pub left_symbol : (s k : ℕ) → is_terminal w s ≡ false → Flatten.symbol_for w d (slot_at s k) ≡ Slot s k
  left_symbol s k e = ap (λ b. Rattle.std.proofs.Common.cond b (Terminal s) (Slot s k)) e

  terminals_are : map (Flatten.symbol_for w d) (slots_of_terminals w d) ≡ Flatten.terminals w d
  terminals_are =
      let p : ℕ → Bool = λ s. is_terminal w s && d.used (slot_of s) in
      map-map (Flatten.symbol_for w d) slot_of (filter p (numbers d.symbols))
      ∙ map_filter (λ s. Flatten.symbol_for w d (slot_of s)) Terminal p (numbers d.symbols) (λ s t. terminal_symbol s 0 (and_parts (is_terminal w s) (d.used (slot_of s)) t).0)

  slots_are : map (Flatten.symbol_for w d) (slots_of_lefts w d) ≡ Flatten.slots w d
  slots_are =
      map_flat (Flatten.symbol_for w d) (λ s. map (slot_at s) (levels_of w d s)) (λ s. map (Slot s) (levels_of w d s)) (numbers d.symbols)
      (λ s. map-map (Flatten.symbol_for w d) (slot_at s) (levels_of w d s)
      ∙ map_filter (λ k. Flatten.symbol_for w d (slot_at s k)) (Slot s) (λ k. not (is_terminal w s) && d.used (slot_at s k)) (numbers d.levels)
      (λ k t. left_symbol s k (not-true (is_terminal w s) (and_parts (not (is_terminal w s)) (d.used (slot_at s k)) t).0)))

  pub prefix_is : Flatten.terminals w d ++ Flatten.slots w d ≡ map (Flatten.symbol_for w d) slots_in
  prefix_is = (λ i. sym terminals_are i ++ sym slots_are i) ∙ sym (map-append (Flatten.symbol_for w d) (slots_of_terminals w d) (slots_of_lefts w d))

  -- the symbols, slots first
  pub symbols_split : Flatten.symbols w d ≡ map (Flatten.symbol_for w d) slots_in ++ (Flatten.lists w d ++ Flatten.tops w d)
  symbols_split = sym (append_assoc (Flatten.terminals w d) (Flatten.slots w d) (Flatten.lists w d ++ Flatten.tops w d)) ∙ ap (λ l. l ++ (Flatten.lists w d ++ Flatten.tops w d)) prefix_is

  pub once_slots_in : Once slots_in
  once_slots_in =
      once_unmap (Flatten.symbol_for w d) slots_in (once_left (map (Flatten.symbol_for w d) slots_in) (Flatten.lists w d ++ Flatten.tops w d) (subst Once symbols_split (once_symbols w d)))

-- a slot that is numbered is one that counts
slots_used : (w : Grammar) (d : Decided w) (slot : Grammar.Slot) → Among slot (slots_of_terminals w d ++ slots_of_lefts w d) → IsUsedSlot w slot
slots_used w d slot m = elim (among_either slot (slots_of_terminals w d) (slots_of_lefts w d) m) [
  | inl a ↦
      let p : ℕ → Bool = λ s. is_terminal w s && d.used (slot_of s) in
      let (s, b, e) = among_map_from slot_of slot (filter p (numbers d.symbols)) a in
      subst (IsUsedSlot w) e ((d.used_is (slot_of s)).0 (and_parts (is_terminal w s) (d.used (slot_of s)) (among_filter_from p s (numbers d.symbols) b).1).1)
  | inr a ↦
      let (s, there, b) = among_flat_map_from (λ s. map (slot_at s) (levels_of w d s)) slot (numbers d.symbols) a in
      let (k, here, e) = among_map_from (slot_at s) slot (levels_of w d s) b in
      let p : ℕ → Bool = λ k. not (is_terminal w s) && d.used (slot_at s k) in
      subst (IsUsedSlot w) e ((d.used_is (slot_at s k)).0 (and_parts (not (is_terminal w s)) (d.used (slot_at s k)) (among_filter_from p k (numbers d.levels) here).1).1)
]

-- and of a known symbol
pub slots_known : (w : Grammar) (d : Decided w) → IsWritten w → (slot : Grammar.Slot) → Among slot (slots_of_terminals w d ++ slots_of_lefts w d) → slot.symbol < length w.names
slots_known w d written slot m = used_known w written slot (slots_used w d slot m)

pub slots_few : (w : Grammar) (d : Decided w) → FewAreAccessible w → length (slots_of_terminals w d ++ slots_of_lefts w d) < 2 ^ 31
slots_few w d few =
    few (slots_in w d) (once_pairs (slots_in w d) (once_slots_in w d)) (λ k e lt. (slots_used w d (slice_index_or (slots_in w d) k e) (among_at (slots_in w d) k e lt)).0)

pub keys_differ : (w : Grammar) (d : Decided w) (keys : List SlotKey) → map told_slot keys ≡ slots_of_terminals w d ++ slots_of_lefts w d → AllPairs (λ x y. x ≢ y) keys
keys_differ w d keys e = once_pairs keys (once_unmap told_slot keys (subst Once (sym e) (once_slots_in w d)))
