-- The numbers of symbols are their places, so flat rules by these numbers are those of the flat grammar.
use Rattle.std.proofs.Common.{◌≡◌, ℕ, zero, suc, ◌+◌, ◌<◌, ◌≤◌, Bool, true, false, not, cond, List, [], ◌∷◌, ◌++◌, length, map, ◌⊎◌, Some, None, inl, inr, refl, sym, ap, ◌∙◌, subst, arith, true≢false, append_assoc, length-append, ◌-◌, ◌^◌, Result, Ok, Err}
use Rattle.std.specs.Prelude.{◌&&◌, ◌==◌, filter, slice_get, unwrap_or}
use Rattle.std.specs.List.{flat_map, position_or_len}
use Rattle.std.proofs.lemmas.Bool.{and_parts, eqb-true, eq-eqb, lt-ltb, cases_lt, and_from, not_from_false}
use Rattle.std.proofs.lemmas.Grind.{flat_map-append}
use Rattle.grammar_model.specs.Grammar.{Grammar, slot_of, rule_at}
use Rattle.grammar_model.specs.Grammar
use Rattle.grammar_model.specs.Checked.{IsChecked}
use Rattle.grammar_model.specs.Simple.{is_terminal, numbers}
use Rattle.grammar_model.proofs.Simple.{is_terminal_from, among_numbers}
use Rattle.recognizer_model.specs.Flat.{FlatRule}
use Rattle.recognizer_model.specs.declared.flat.FlatSymbol.{FlatSymbol}
use Rattle.recognizer_model.specs.declared.flat.FlatSymbol.TheVariants.{Terminal, Slot, Sequence, Top}
use Rattle.recognizer_model.specs.FlatForm.{IsUsedSlot, IsSymbolOf, NamedRule}
use Rattle.flat_model.specs.Flatten
use Rattle.flat_model.specs.Flatten.{Decided, levels_of}
use Rattle.flat_rules.specs.Tables.{Numbering, number_in, numbered_in, place_of, slot_at, same_slot, slots_of_terminals, slots_of_lefts, lists_to, AreNumbers}
use Rattle.flat_rules.specs.Added.{from_symbols, AreAll}
use Rattle.flat_model.specs.Flattened.{HasTooMany}
use Rattle.flat_rules.specs.declared.refusal.FlatRefusal.{FlatRefusal}
use Rattle.flat_rules.specs.declared.refusal.FlatRefusal.TheVariants.{TooManyRules}
use Rattle.std.specs.Result.{IsErrAnd, IfErr}
use Rattle.std.proofs.lemmas.List.{map-append, length-map}
use Rattle.std.proofs.lemmas.Option.{slice_get-get_or}
use Rattle.std.proofs.lemmas.Simd.{map-map}
use Rattle.finite_sets.proofs.Members.{among_filter, among_left, among_right, among_map, among_flat_map, Among}
use Rattle.finite_sets.proofs.Lists.{get_map, get_left, get_last, get_right}
use Rattle.grammar_model.specs.declared.limits.TheConstants.{MOST_FLAT_RULES}
use Rattle.grammar_core.specs.Written.{IsWritten, IsLevelled}
use Rattle.flat_rules.proofs.Symbols.{terminal_no}
use Rattle.flat_rules.proofs.Rules.{named_in}
use Rattle.flat_rules.proofs.Parts.{parts_are}
use Rattle.flat_rules.proofs.FlatOf.{numbers_length, numbers_at, rules_length, split as named_split, prefix as named_prefix, top_made}
use Rattle.flat_rules.proofs.Named.{at_number}
use Rattle.flat_rules.proofs.Deciding.{map_flat, slots_in, symbols_split, terminal_symbol, left_symbol}

-- ---- places

same_slot_is : (s t : Grammar.Slot) → same_slot s t ≡ true → s ≡ t
same_slot_is s t e =
    let (a, b) = and_parts (s.symbol == t.symbol) (s.level == t.level) e in
    let p = eqb-true s.symbol t.symbol a in
    let q = eqb-true s.level t.level b in
    λ i. record { symbol = p i; level = q i }

same_itself : (s : Grammar.Slot) → same_slot s s ≡ true
same_itself s = and_from (s.symbol == s.symbol) (s.level == s.level) (eq-eqb s.symbol s.symbol refl) (eq-eqb s.level s.level refl)

first_place : (s : Grammar.Slot) (slots : List Grammar.Slot) → Among s slots → (position_or_len (same_slot s) slots < length slots) × (slice_get slots (position_or_len (same_slot s) slots) ≡ Some s)
first_place s [] m = absurd m
first_place s (x ∷ xs) m = go (same_slot s x) refl m (first_place s xs)
  where
    go : (b : Bool) → same_slot s x ≡ b → Among s (x ∷ xs) → (Among s xs → (position_or_len (same_slot s) xs < length xs) × (slice_get xs (position_or_len (same_slot s) xs) ≡ Some s)) →
        (position_or_len (same_slot s) (x ∷ xs) < length (x ∷ xs)) × (slice_get (x ∷ xs) (position_or_len (same_slot s) (x ∷ xs)) ≡ Some s)
    go true e m rest =
        subst (λ b. (cond (not b) (1 + position_or_len (same_slot s) xs) 0 < suc (length xs)) × (slice_get (x ∷ xs) (cond (not b) (1 + position_or_len (same_slot s) xs) 0) ≡ Some s)) (sym e) (omega arith, ap Some (sym (same_slot_is s x e)))
    go false e (inl same) rest = absurd (true≢false (sym (same_itself s) ∙ ap (same_slot s) (sym same) ∙ e))
    go false e (inr n) rest =
        let (lt, at) = rest n in
        let next : suc (position_or_len (same_slot s) xs) ≡ 1 + position_or_len (same_slot s) xs = omega arith in
        subst (λ b. (cond (not b) (1 + position_or_len (same_slot s) xs) 0 < suc (length xs)) × (slice_get (x ∷ xs) (cond (not b) (1 + position_or_len (same_slot s) xs) 0) ≡ Some s)) (sym e)
        (omega (arith, lt), subst (λ k. slice_get (x ∷ xs) k ≡ Some s) next at)

placed_slot : (s : Grammar.Slot) (slots : List Grammar.Slot) → Among s slots → slice_get slots (place_of slots s) ≡ Some s
placed_slot s slots m =
    let (lt, at) = first_place s slots m in
    let is : place_of slots s ≡ position_or_len (same_slot s) slots = ap (λ b. unwrap_or (cond b (Some (position_or_len (same_slot s) slots)) None) 0) (lt-ltb (position_or_len (same_slot s) slots) (length slots) lt) in
    ap (slice_get slots) is ∙ at

-- a number that passes stands after those before it that pass
ranked : (p : ℕ → Bool) (n i : ℕ) → i < n → p i ≡ true → slice_get (filter p (numbers n)) (length (filter p (numbers i))) ≡ Some i
ranked p zero i lt t = absurd (omega arith)
ranked p (suc n) i lt t = go (cases_lt i n) (λ less. ranked p n i less t) (λ b e. (let more : n + 1 ≡ suc n = omega arith in next b e more))
  where
    next : (b : Bool) → p n ≡ b → n + 1 ≡ suc n → filter p (numbers (suc n)) ≡ filter p (numbers n) ++ cond b (n ∷ []) []
    next b e more = ap (λ z. filter p (numbers z)) (sym more) ∙ Rattle.flat_rules.proofs.Listing.filter_next p n b e

    go : (i < n) ⊎ (n ≤ i) → (i < n → slice_get (filter p (numbers n)) (length (filter p (numbers i))) ≡ Some i) → ((b : Bool) → p n ≡ b → filter p (numbers (suc n)) ≡ filter p (numbers n) ++ cond b (n ∷ []) []) →
        slice_get (filter p (numbers (suc n))) (length (filter p (numbers i))) ≡ Some i
    go (inl less) rest more =
        ap (λ l. slice_get l (length (filter p (numbers i)))) (more (p n) refl) ∙ get_left (filter p (numbers n)) (cond (p n) (n ∷ []) []) (length (filter p (numbers i))) i (rest less)
    go (inr ge) rest more =
        let same : i ≡ n = omega arith in
        subst (λ z. slice_get (filter p (numbers (suc n))) (length (filter p (numbers z))) ≡ Some z) (sym same)
        (ap (λ l. slice_get l (length (filter p (numbers n)))) (more true (subst (λ z. p z ≡ true) same t)) ∙ get_last (filter p (numbers n)) n)

-- ---- numbers

module _ (w : Grammar) (d : Decided w) (t : Numbering) (are : AreNumbers w t) where
  slot_of_terminal : (s : ℕ) → Grammar.IsTerminal w s → IsUsedSlot w (slot_of s) → Among (slot_of s) (slots_in w d)
  slot_of_terminal s ter used =
      among_left (slot_of s) (slots_of_terminals w d) (slots_of_lefts w d)
      (among_map slot_of s (filter (λ s. is_terminal w s && d.used (slot_of s)) (numbers d.symbols))
      (among_filter (λ s. is_terminal w s && d.used (slot_of s)) s (numbers d.symbols) (among_numbers d.symbols s (d.below_symbols (slot_of s) used))
      (and_from (is_terminal w s) (d.used (slot_of s)) (is_terminal_from w s ter) ((d.used_is (slot_of s)).1 used))))

  slot_of_left : (s k : ℕ) → (Grammar.IsTerminal w s → ⊥) → IsUsedSlot w (slot_at s k) → Among (slot_at s k) (slots_in w d)
  slot_of_left s k other used =
      among_right (slot_at s k) (slots_of_terminals w d) (slots_of_lefts w d)
      (among_flat_map (λ s. map (slot_at s) (levels_of w d s)) s (slot_at s k) (numbers d.symbols) (among_numbers d.symbols s (d.below_symbols (slot_at s k) used))
      (among_map (slot_at s) k (levels_of w d s)
      (among_filter (λ k. not (is_terminal w s) && d.used (slot_at s k)) k (numbers d.levels) (among_numbers d.levels k (d.below_levels (slot_at s k) used other))
      (and_from (not (is_terminal w s)) (d.used (slot_at s k)) (not_from_false (is_terminal w s) (terminal_no w s other)) ((d.used_is (slot_at s k)).1 used)))))

  abbrev prefix : List FlatSymbol
  prefix = map (Flatten.symbol_for w d) t.slots

  abbrev behind : List FlatSymbol
  behind = Flatten.lists w d ++ Flatten.tops w d

  split : Flatten.symbols w d ≡ prefix ++ behind
  split = symbols_split w d ∙ ap (λ l. map (Flatten.symbol_for w d) l ++ behind) (sym (are.slots d))

  -- a slot's symbol stands at the slot's place
  slot_there : (slot : Grammar.Slot) → Among slot (slots_in w d) → slice_get (Flatten.symbols w d) (place_of t.slots slot) ≡ Some (Flatten.symbol_for w d slot)
  slot_there slot m =
      let at = placed_slot slot t.slots (subst (Among slot) (sym (are.slots d)) m) in
      ap (λ l. slice_get l (place_of t.slots slot)) split
      ∙ get_left prefix behind (place_of t.slots slot) (Flatten.symbol_for w d slot) (get_map (Flatten.symbol_for w d) t.slots (place_of t.slots slot) slot at)

  length_prefix : length prefix ≡ length t.slots
  length_prefix = length-map t.slots (Flatten.symbol_for w d)

  behind_there : (k : ℕ) (s : FlatSymbol) → slice_get behind k ≡ Some s → slice_get (Flatten.symbols w d) (length t.slots + k) ≡ Some s
  behind_there k s e = (λ i. slice_get (split i) (sym length_prefix i + k)) ∙ get_right prefix behind k s e

  there : (s : FlatSymbol) → IsSymbolOf w s → slice_get (Flatten.symbols w d) (number_in t s) ≡ Some s
  there (Terminal s) (ter, used) = slot_there (slot_of s) (slot_of_terminal s ter used) ∙ ap Some (terminal_symbol w d s 0 (is_terminal_from w s ter))
  there (Slot s k) (other, used) = slot_there (slot_at s k) (slot_of_left s k other used) ∙ ap Some (left_symbol w d s k (terminal_no w s other))
  there (Sequence i) symbol =
      let p : ℕ → Bool = λ i. Flatten.makes_list w d (rule_at w i) in
      let makes : p i ≡ true = list_makes i symbol in
      let at = ranked p (length w.rules) i symbol.1 makes in
      let is : number_in t (Sequence i) ≡ length t.slots + length (lists_to w d i) = ap (λ n. length t.slots + n) (are.before d i symbol.1) in
      ap (slice_get (Flatten.symbols w d)) is
      ∙ behind_there (length (lists_to w d i)) (Sequence i) (get_left (Flatten.lists w d) (Flatten.tops w d) (length (lists_to w d i)) (Sequence i) (get_map Sequence (lists_to w d (length w.rules)) (length (lists_to w d i)) i at))
    where
      list_makes : (i : ℕ) → IsSymbolOf w (Sequence i) → Flatten.makes_list w d (rule_at w i) ≡ true
      list_makes i (r, lt, is, live, used) = ap (Flatten.makes_list w d) is ∙ and_from (d.productive (slot_of r.item)) (d.used (slot_of r.lhs)) ((d.productive_is (slot_of r.item)).1 live) ((d.used_is (slot_of r.lhs)).1 used)
  there (Top k) lt =
      let long : length (Flatten.lists w d) ≡ length t.lists = length-map (lists_to w d (length w.rules)) Sequence ∙ ap length (sym (are.lists d)) in
      let count = numbers_length (length w.starts) in
      let at : slice_get (numbers (length w.starts)) k ≡ Some k = slice_get-get_or (numbers (length w.starts)) k 0 (omega (arith, count, lt)) ∙ ap Some (numbers_at (length w.starts) k 0 lt) in
      ap (λ n. slice_get (Flatten.symbols w d) (length t.slots + (n + k))) (sym long)
      ∙ behind_there (length (Flatten.lists w d) + k) (Top k) (get_right (Flatten.lists w d) (Flatten.tops w d) k (Top k) (get_map Top (numbers (length w.starts)) k k at))

  pub agree : (s : FlatSymbol) → IsSymbolOf w s → number_in t s ≡ Flatten.number_of w d s
  agree s symbol = sym (at_number w d (number_in t s) s (there s symbol))

  agree_all : (ss : List FlatSymbol) → ((s : FlatSymbol) → Among s ss → IsSymbolOf w s) → map (number_in t) ss ≡ map (Flatten.number_of w d) ss
  agree_all [] h = refl
  agree_all (s ∷ ss) h = λ i. agree s (h s (inl refl)) i ∷ agree_all ss (λ x m. h x (inr m)) i

  rules_agree : (ns : List NamedRule) → ((n : NamedRule) → Among n ns → IsSymbolOf w n.left × ((s : FlatSymbol) → Among s n.right → IsSymbolOf w s)) → map (numbered_in t) ns ≡ map (Flatten.numbered w d) ns
  rules_agree [] h = refl
  rules_agree (n ∷ ns) h =
      let (left, right) = h n (inl refl) in
      λ i. record { lhs = agree n.left left i; rhs = agree_all n.right right i; source = n.source } ∷ rules_agree ns (λ m a. h m (inr a)) i

  -- the rules by these numbers are those of the flat grammar
  pub numbered_agree : IsChecked w → map (numbered_in t) (Flatten.named_rules w d) ≡ (Flatten.flat_of w d).rules
  numbered_agree c = rules_agree (Flatten.named_rules w d) (λ n m. (
      let (rule, left) = named_in w d n m in
      (Rattle.flat_rules.proofs.Symbols.symbol_in w d n.left left, (λ s a. parts_are w c n rule s a))))

  -- the rules that come from the symbols, part by part
  pub parts_named : from_symbols w d t prefix ++ (from_symbols w d t (map Sequence t.lists) ++ from_symbols w d t (map Top (numbers (length w.starts)))) ≡ map (numbered_in t) (Flatten.named_rules w d)
  parts_named =
      let g : FlatSymbol → List FlatRule = λ x. map (numbered_in t) (Flatten.rules_of w d x) in
      ap (λ l. from_symbols w d t prefix ++ (from_symbols w d t (map Sequence l) ++ from_symbols w d t (Flatten.tops w d))) (are.lists d)
      ∙ ap (λ l. from_symbols w d t prefix ++ l) (sym (flat_map-append g (Flatten.lists w d) (Flatten.tops w d)))
      ∙ sym (flat_map-append g prefix behind) ∙ ap (flat_map g) (sym split)
      ∙ sym (map_flat (numbered_in t) (Flatten.rules_of w d) g (Flatten.symbols w d) (λ x. refl))

  -- ---- the parts of the flat grammar

  listed_as : (prefix ++ map Sequence t.lists) ++ map Top (numbers (length w.starts)) ≡ Flatten.symbols w d
  listed_as = append_assoc prefix (map Sequence t.lists) (Flatten.tops w d) ∙ ap (λ l. prefix ++ (map Sequence l ++ Flatten.tops w d)) (are.lists d) ∙ sym split

  pub listed_symbols : (none slots lists all : List FlatSymbol) → none ≡ [] → slots ≡ none ++ prefix → lists ≡ slots ++ map Sequence t.lists → all ≡ lists ++ map Top (numbers (length w.starts)) → all ≡ Flatten.symbols w d
  listed_symbols none slots lists all e a b c =
      c ∙ ap (λ l. l ++ Flatten.tops w d) (b ∙ ap (λ l. l ++ map Sequence t.lists) (a ∙ ap (λ l. l ++ prefix) e)) ∙ listed_as

  pub listed_marks : (none slots lists all : List Bool) → none ≡ [] → slots ≡ none ++ map (Flatten.is_marked w d) prefix → lists ≡ slots ++ map (λ i. false) t.lists →
      all ≡ lists ++ map (Flatten.is_marked w d) (map Top (numbers (length w.starts))) → all ≡ map (Flatten.is_marked w d) (Flatten.symbols w d)
  listed_marks none slots lists all e a b c =
      let m : FlatSymbol → Bool = Flatten.is_marked w d in
      c ∙ ap (λ l. l ++ map m (Flatten.tops w d)) (b ∙ (λ i. (a ∙ ap (λ l. l ++ map m prefix) e) i ++ sym (map-map m Sequence t.lists) i) ∙ sym (map-append m prefix (map Sequence t.lists)))
      ∙ sym (map-append m (prefix ++ map Sequence t.lists) (Flatten.tops w d)) ∙ ap (map m) listed_as

  pub count_symbols : length (Flatten.symbols w d) ≡ length t.slots + (length t.lists + length w.starts)
  count_symbols =
      let a = ap length (sym listed_as) in
      let b = length-append (prefix ++ map Sequence t.lists) (Flatten.tops w d) in
      let c = length-append prefix (map Sequence t.lists) in
      let e = length_prefix in
      let f = length-map t.lists Sequence in
      let g = length-map (numbers (length w.starts)) Top in
      let h = numbers_length (length w.starts) in
      omega (arith, a, b, c, e, f, g, h)

module _ (w : Grammar) (d : Decided w) where
  -- the rules of the tops are the last ones
  pub count_rules : length (Flatten.flat_of w d).rules ≡ Flatten.before_tops w d + length w.starts
  count_rules =
      let a = rules_length w d in
      let b = ap length (named_split w d) in
      let c = length-append (named_prefix w d) (map (top_made w d) (numbers (length w.starts))) in
      let e = length-map (numbers (length w.starts)) (top_made w d) in
      let f = numbers_length (length w.starts) in
      omega (arith, a, b, c, e, f)

  pub tops_as : (tops : List ℕ) (rules : List FlatRule) (count : ℕ) → rules ≡ (Flatten.flat_of w d).rules → count ≡ length w.starts → tops ≡ map (λ k. (length rules - count) + k) (numbers count) → tops ≡ (Flatten.flat_of w d).tops
  tops_as tops rules count e same is =
      let a = ap length e in
      let b = count_rules in
      let before : length rules - count ≡ Flatten.before_tops w d = omega (arith, a, b, same) in
      is ∙ (λ i. map (λ k. before i + k) (numbers (same i)))

  pub tops_within : (rules : List FlatRule) (count : ℕ) → rules ≡ (Flatten.flat_of w d).rules → count ≡ length w.starts → count ≤ length rules
  tops_within rules count e same = let a = ap length e in let b = count_rules in omega (arith, a, b, same)

-- ---- refusals

pub err_many : {T : Type 0} (w : Grammar) (r : Result T FlatRefusal) (e : FlatRefusal) → IsErrAnd r (λ z. z ≡ e) → ((d : Decided w) → AreAll (Flatten.flat_of w d).rules (Err e)) →
    IfErr r (λ x. x ≡ TooManyRules → (d : Decided w) → MOST_FLAT_RULES < length (Flatten.flat_of w d).rules)
err_many w (Ok x) e given h = tt
err_many w (Err z) e given h = λ same d. subst (λ x. AreAll (Flatten.flat_of w d).rules (Err x)) (sym given ∙ same) (h d)

pub err_too_many : {T : Type 0} (w : Grammar) (d : Decided w) (r : Result T FlatRefusal) (e : FlatRefusal) → IsErrAnd r (λ z. z ≡ e) → (e ≡ TooManyRules → (d : Decided w) → MOST_FLAT_RULES < length (Flatten.flat_of w d).rules) → IfErr r (λ x. x ≡ TooManyRules → HasTooMany w)
err_too_many w d (Ok x) e given h = tt
err_too_many w d (Err z) e given h = λ same. record { decided = d; many = h (sym given ∙ same) }

-- ---- few enough to be numbered

pub few_enough : (w : Grammar) (d : Decided w) → IsWritten w → length (Flatten.flat_of w d).symbols < 2 ^ 32 → length (Flatten.flat_of w d).rules ≤ MOST_FLAT_RULES → Flatten.AreFew w (Flatten.flat_of w d)
few_enough w d written symbols rules = record {
  symbols = symbols;
  rules = omega (arith, rules);
  starts = omega (arith, written.few_starts);
  short = λ i r lt is. (let levelled = subst IsLevelled is (written.rules_known i lt).1 in omega (arith, levelled.1));
}
