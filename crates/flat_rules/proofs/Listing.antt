-- Lists of numbers that pass a test, as they grow; and what bounds them.
use Rattle.std.proofs.Common.{◌≡◌, ◌≢◌, ℕ, zero, suc, ◌+◌, ◌<◌, ◌≤◌, Bool, true, false, cond, not, List, [], ◌∷◌, ◌++◌, length, map, take, get_or, inl, inr, refl, sym, ap, ◌∙◌, subst, arith}
use Rattle.std.specs.Prelude.{◌&&◌, ◌||◌, ◌==◌, ◌↔◌, filter, slice_index_or, nat_lt, unwrap_or, Option, Some, None}
use Rattle.std.specs.List.{AllPairs, flat_map, list_any, position}
use Rattle.grammar_core.proofs.Growth.{position_or_len-map}
use Rattle.std.proofs.lemmas.Bool.{cases_Bool, eqb-true, and_parts, eq-eqb}
use Rattle.std.proofs.lemmas.List.{map-append, take_more, get_or-take, length-take-le, length-map, append-nil}
use Rattle.std.proofs.lemmas.List.Elements.{filter-append}
use Rattle.std.proofs.lemmas.Grind.{flat_map-append}
use Rattle.finite_sets.proofs.Members.{among_filter, among_filter_from, contains_from, Among}
use Rattle.indexmap.specs.IndexSet.{insert_key}
use Rattle.grammar_model.specs.Grammar.{Grammar, WrittenRule, rule_at, slot_of, lhs_of, level_of, Plain}
use Rattle.grammar_model.specs.Grammar
use Rattle.grammar_model.specs.Analysis.{IsLive, IsProductive, IsAccessibleIn}
use Rattle.grammar_model.specs.Simple.{is_terminal, numbers}
use Rattle.grammar_model.proofs.Simple.{terminal_from, no_terminal_from, is_terminal_from, among_numbers, among_numbers_from}
use Rattle.grammar_core.specs.Written.{IsWritten}
use Rattle.recognizer_model.specs.FlatForm.{IsUsedSlot}
use Rattle.flat_model.specs.Flatten
use Rattle.flat_model.specs.Flatten.{Decided, levels_of}
use Rattle.flat_rules.specs.declared.numbering.SlotKey.{SlotKey}
use Rattle.grammar_core.specs.Rules.{is_sequence}
use Rattle.flat_rules.specs.Tables.{rules_with, AreLive, told_slot, slot_at, same_slot, place_of, slots_of_terminals, slots_of_lefts}
use Rattle.flat_rules.proofs.Symbols.{terminal_no}
use Rattle.flat_rules.proofs.Rules.{live_from, from_live}
use Rattle.grammar_core.proofs.Known.{child_known}
use Rattle.flat_rules.proofs.Rows.{numbers_next}

-- ---- tests that say the same

pub same_test : (a b : Bool) (P : Type 0) → (a ≡ true) ↔ P → (b ≡ true) ↔ P → a ≡ b
same_test true b P f g = sym (g.1 (f.0 refl))
same_test false true P f g = f.1 (g.0 refl)
same_test false false P f g = refl

-- ---- numbers that pass

pub filter_next : (p : ℕ → Bool) (n : ℕ) (b : Bool) → p n ≡ b → filter p (numbers (n + 1)) ≡ filter p (numbers n) ++ cond b (n ∷ []) []
filter_next p n b e = ap (filter p) (numbers_next n) ∙ filter-append p (numbers n) (n ∷ []) ∙ ap (λ c. filter p (numbers n) ++ cond c (n ∷ []) []) e

pub filter_keep : (p : ℕ → Bool) (n : ℕ) → p n ≡ true → filter p (numbers (n + 1)) ≡ filter p (numbers n) ++ n ∷ []
filter_keep p n e = filter_next p n true e

pub filter_drop : (p : ℕ → Bool) (n : ℕ) → p n ≡ false → filter p (numbers (n + 1)) ≡ filter p (numbers n)
filter_drop p n e = filter_next p n false e ∙ append-nil (filter p (numbers n))

pub flat_next : {X : Type 0} (g : ℕ → List X) (n : ℕ) → flat_map g (numbers (n + 1)) ≡ flat_map g (numbers n) ++ g n
flat_next g n = ap (flat_map g) (numbers_next n) ∙ flat_map-append g (numbers n) (n ∷ []) ∙ ap (λ l. flat_map g (numbers n) ++ l) (append-nil (g n))

-- past a bound nothing passes
filter_past : (p : ℕ → Bool) (m j : ℕ) → ((k : ℕ) → p k ≡ true → k < m) → filter p (numbers (j + m)) ≡ filter p (numbers m)
filter_past p m zero bound = let e : 0 + m ≡ m = omega arith in ap (λ n. filter p (numbers n)) e
filter_past p m (suc j) bound =
    let e : suc j + m ≡ (j + m) + 1 = omega arith in
    ap (λ n. filter p (numbers n)) e ∙ filter_drop p (j + m) (elim (cases_Bool (p (j + m))) [ inl t ↦ (let lt = bound (j + m) t in absurd (omega arith)) | inr f ↦ f ]) ∙ filter_past p m j bound

filter_same : (p q : ℕ → Bool) → ((k : ℕ) → p k ≡ q k) → (xs : List ℕ) → filter p xs ≡ filter q xs
filter_same p q e [] = refl
filter_same p q e (x ∷ xs) = λ i. cond (e x i) (x ∷ filter_same p q e xs i) (filter_same p q e xs i)

pub filter_bound : (p q : ℕ → Bool) (m n : ℕ) → ((k : ℕ) → p k ≡ true → k < m) → ((k : ℕ) → q k ≡ true → k < n) → ((k : ℕ) → p k ≡ q k) → filter p (numbers m) ≡ filter q (numbers n)
filter_bound p q m n a b e =
    let swap : n + m ≡ m + n = omega arith in
    sym (filter_past p m n a) ∙ ap (λ z. filter p (numbers z)) swap ∙ filter_same p q e (numbers (m + n)) ∙ filter_past q n m b

flat_past : {X : Type 0} (g : ℕ → List X) (m j : ℕ) → ((k : ℕ) → m ≤ k → g k ≡ []) → flat_map g (numbers (j + m)) ≡ flat_map g (numbers m)
flat_past g m zero bound = let e : 0 + m ≡ m = omega arith in ap (λ n. flat_map g (numbers n)) e
flat_past g m (suc j) bound =
    let e : suc j + m ≡ (j + m) + 1 = omega arith in
    ap (λ n. flat_map g (numbers n)) e ∙ flat_next g (j + m) ∙ ap (λ l. flat_map g (numbers (j + m)) ++ l) (bound (j + m) (omega arith)) ∙ append-nil (flat_map g (numbers (j + m))) ∙ flat_past g m j bound

pub flat_bound : {X : Type 0} (g : ℕ → List X) (m n : ℕ) → ((k : ℕ) → m ≤ k → g k ≡ []) → ((k : ℕ) → n ≤ k → g k ≡ []) → flat_map g (numbers m) ≡ flat_map g (numbers n)
flat_bound g m n a b =
    let swap : n + m ≡ m + n = omega arith in
    sym (flat_past g m n a) ∙ ap (λ z. flat_map g (numbers z)) swap ∙ flat_past g n m b

pub filter_none : (p : ℕ → Bool) (xs : List ℕ) → ((k : ℕ) → p k ≡ true → ⊥) → filter p xs ≡ []
filter_none p [] h = refl
filter_none p (x ∷ xs) h = go (p x) (h x) (filter_none p xs h)
  where
    go : (b : Bool) → (b ≡ true → ⊥) → filter p xs ≡ [] → cond b (x ∷ filter p xs) (filter p xs) ≡ []
    go true never e = absurd (never refl)
    go false never e = e

-- ---- keys

pub list_step : (old new : List SlotKey) (start : List Grammar.Slot) (g : ℕ → Grammar.Slot) (p : ℕ → Bool) (n : ℕ) (key : SlotKey) → told_slot key ≡ g n → map told_slot old ≡ start ++ map g (filter p (numbers n)) →
    new ≡ old ++ key ∷ [] → p n ≡ true → map told_slot new ≡ start ++ map g (filter p (numbers (n + 1)))
list_step old new start g p n key is h e t =
    ap (map told_slot) e ∙ map-append told_slot old (key ∷ []) ∙ (λ i. h i ++ is i ∷ []) ∙ Rattle.std.proofs.Common.append_assoc start (map g (filter p (numbers n))) (g n ∷ [])
    ∙ ap (λ l. start ++ l) (sym (map-append g (filter p (numbers n)) (n ∷ []))) ∙ ap (λ l. start ++ map g l) (sym (filter_keep p n t))

pub list_skip : (old start : List Grammar.Slot) (g : ℕ → Grammar.Slot) (p : ℕ → Bool) (n : ℕ) → old ≡ start ++ map g (filter p (numbers n)) → p n ≡ false → old ≡ start ++ map g (filter p (numbers (n + 1)))
list_skip old start g p n h t = h ∙ ap (λ l. start ++ map g l) (sym (filter_drop p n t))

abbrev pub key_eq : SlotKey → SlotKey → Bool
key_eq x y = (x.symbol == y.symbol) && (x.level == y.level)

key_same : (x y : SlotKey) → key_eq x y ≡ true → x ≡ y
key_same x y h =
    let (a, b) = and_parts (x.symbol == y.symbol) (x.level == y.level) h in
    let ea = eqb-true x.symbol y.symbol a in
    let eb = eqb-true x.level y.level b in
    λ i. record { symbol = ea i; level = eb i }

-- a key that differs from all is among none
key_new : (x : SlotKey) (ks : List SlotKey) → ((y : SlotKey) → Among y ks → y ≢ x) → list_any (key_eq x) ks ≡ false
key_new x [] h = refl
key_new x (y ∷ ys) h = go (key_eq x y) refl (key_new x ys (λ z m. h z (inr m)))
  where
    go : (b : Bool) → key_eq x y ≡ b → list_any (key_eq x) ys ≡ false → (b || list_any (key_eq x) ys) ≡ false
    go true e rest = absurd (h y (inl refl) (sym (key_same x y e)))
    go false e rest = rest

pub keys_more : (keys old new : List SlotKey) (n : ℕ) (key : SlotKey) → AllPairs (λ x y. x ≢ y) keys → n < length keys → key ≡ get_or keys n key → old ≡ take n keys → new ≡ insert_key key_eq old key → new ≡ take (n + 1) keys
keys_more keys old new n key pairs lt is e h =
    let differ : (y : SlotKey) → Among y (take n keys) → y ≢ key = λ y m. (
    let (k, less, at) = contains_from (take n keys) y m in
    let few : length (take n keys) ≡ n = grind (arith, length-take-le) in
    let here : slice_index_or keys k y ≡ y = sym (get_or-take n keys k y (omega arith)) ∙ at in
    λ same. pairs k n y (omega arith) lt (here ∙ (same ∙ (is ∙ Rattle.std.proofs.lemmas.List.get_or_default keys n key y lt)))) in
    let new_key = key_new key (take n keys) differ in
    h ∙ ap (λ l. insert_key key_eq l key) e ∙ ap (λ b. cond b (take n keys) (take n keys ++ key ∷ [])) new_key ∙ ap (λ x. take n keys ++ x ∷ []) is ∙ sym (take_more' keys n key lt)
  where
    take_more' : (keys : List SlotKey) (n : ℕ) (d : SlotKey) → n < length keys → take (n + 1) keys ≡ take n keys ++ get_or keys n d ∷ []
    take_more' keys n d lt = grind (arith, take_more)

position_map : {X Y : Type 0} (p : Y → Bool) (f : X → Y) (xs : List X) → position p (map f xs) ≡ position (λ x. p (f x)) xs
position_map p f xs =
    let places = position_or_len-map p f xs in
    let long = length-map xs f in
    λ i. cond (nat_lt (places i) (long i)) (Some (places i)) None

-- a key's place is its slot's
pub place_told : (keys : List SlotKey) (slots : List Grammar.Slot) (symbol level : ℕ) (place : Option ℕ) → map told_slot keys ≡ slots → place ≡ position (key_eq (record { symbol = symbol; level = level })) keys →
    unwrap_or place 0 ≡ place_of slots (slot_at symbol level)
place_told keys slots symbol level place is e =
    ap (λ o. unwrap_or o 0) (e ∙ sym (position_map (same_slot (slot_at symbol level)) told_slot keys)) ∙ ap (λ l. place_of l (slot_at symbol level)) is

-- ---- what bounds slots that count

pub accessible_known : (w : Grammar) → IsWritten w → (n : ℕ) (slot : Grammar.Slot) → IsAccessibleIn n w slot → slot.symbol < length w.names
accessible_known w written zero slot (s, (k, kl, e), is) =
    let known : s < length w.names = subst (λ s. s < length w.names) e (written.starts_known k s kl) in
    subst (λ (z : Grammar.Slot). z.symbol < length w.names) (sym is) known
accessible_known w written (suc n) slot (above, acc, prod, (i, lt, fits, (live, (k, less, is)))) = subst (λ (z : Grammar.Slot). z.symbol < length w.names) is (child_known w i k written lt less)

pub used_known : (w : Grammar) → IsWritten w → (slot : Grammar.Slot) → IsUsedSlot w slot → slot.symbol < length w.names
used_known w written slot u = accessible_known w written u.0.0 slot u.0.1

-- a left side with a tree has a rule of its level
pub productive_rule : (w : Grammar) (slot : Grammar.Slot) → (Grammar.IsTerminal w slot.symbol → ⊥) → IsProductive w slot → (i : ℕ) × (i < length w.rules) × (lhs_of (rule_at w i) ≡ slot.symbol) × (slot.level ≤ level_of (rule_at w i))
productive_rule w slot other (zero, t) = absurd (other t)
productive_rule w slot other (suc n, inl t) = absurd (other t)
productive_rule w slot other (suc n, inr (i, lt, fits, p)) = (i, lt, fits.0, fits.1)

pub rule_among : (w : Grammar) (s i : ℕ) → i < length w.rules → lhs_of (rule_at w i) ≡ s → Among i (rules_with w s)
rule_among w s i lt e = among_filter (λ i. lhs_of (rule_at w i) == s) i (numbers (length w.rules)) (among_numbers (length w.rules) i lt) (eq-eqb (lhs_of (rule_at w i)) s e)

pub among_rule : (w : Grammar) (s i : ℕ) → Among i (rules_with w s) → (i < length w.rules) × (lhs_of (rule_at w i) ≡ s)
among_rule w s i m =
    let (a, t) = among_filter_from (λ i. lhs_of (rule_at w i) == s) i (numbers (length w.rules)) m in
    (among_numbers_from (length w.rules) i a, eqb-true (lhs_of (rule_at w i)) s t)

-- a symbol without rules is a terminal
pub no_rules : (w : Grammar) (s : ℕ) → rules_with w s ≡ [] → Grammar.IsTerminal w s
no_rules w s e i lt is = subst (Among i) e (rule_among w s i lt is)

pub terminal_none : (w : Grammar) (s : ℕ) → Grammar.IsTerminal w s → rules_with w s ≡ []
terminal_none w s t = none (rules_with w s) (λ i m. (let (lt, e) = among_rule w s i m in t i lt e))
  where
    none : (xs : List ℕ) → ((i : ℕ) → Among i xs → ⊥) → xs ≡ []
    none [] h = refl
    none (x ∷ xs) h = absurd (h x (inl refl))

pub some_rules : (w : Grammar) (s : ℕ) → (rules_with w s ≡ [] → ⊥) → Grammar.IsTerminal w s → ⊥
some_rules w s more t = more (terminal_none w s t)

module _ (w : Grammar) (d : Decided w) where
  pub terminal_then : (s : ℕ) (r : Bool) → rules_with w s ≡ [] → (r ≡ true) ↔ IsUsedSlot w (slot_at s 0) → r ≡ (is_terminal w s && d.used (slot_of s))
  terminal_then s r e u = same_test r (d.used (slot_of s)) (IsUsedSlot w (slot_at s 0)) u (d.used_is (slot_of s)) ∙ ap (λ b. b && d.used (slot_of s)) (sym (is_terminal_from w s (no_rules w s e)))

  pub terminal_else : (s : ℕ) → (rules_with w s ≡ [] → ⊥) → false ≡ (is_terminal w s && d.used (slot_of s))
  terminal_else s more = ap (λ b. b && d.used (slot_of s)) (sym (terminal_no w s (some_rules w s more)))

  -- the levels of a symbol that count, below a bound of the levels of its rules
  pub levels_are : (s room : ℕ) → (rules_with w s ≡ [] → room ≡ 0) → ((i : ℕ) → Among i (rules_with w s) → level_of (rule_at w i) < room) → levels_of w d s ≡ filter (λ k. d.used (slot_at s k)) (numbers room)
  levels_are s room zero_room bound = go (is_terminal w s) refl
    where
      go : (b : Bool) → is_terminal w s ≡ b → filter (λ k. not (is_terminal w s) && d.used (slot_at s k)) (numbers d.levels) ≡ filter (λ k. d.used (slot_at s k)) (numbers room)
      go true e =
          filter_none (λ k. not (is_terminal w s) && d.used (slot_at s k)) (numbers d.levels) (λ k t. (let h : (not true && d.used (slot_at s k)) ≡ true = ap (λ b. not b && d.used (slot_at s k)) (sym e) ∙ t in cc))
          ∙ ap (λ n. filter (λ k. d.used (slot_at s k)) (numbers n)) (sym (zero_room (terminal_none w s (terminal_from w s e))))
      go false e =
          filter_bound (λ k. not (is_terminal w s) && d.used (slot_at s k)) (λ k. d.used (slot_at s k)) d.levels room
          (λ k t. d.below_levels (slot_at s k) ((d.used_is (slot_at s k)).0 (ap (λ b. not b && d.used (slot_at s k)) (sym e) ∙ t)) (no_terminal_from w s e))
          (λ k t. (let u = (d.used_is (slot_at s k)).0 t in let (i, lt, is, le) = productive_rule w (slot_at s k) (no_terminal_from w s e) u.1 in let less = bound i (rule_among w s i lt is) in omega arith))
          (λ k. ap (λ b. not b && d.used (slot_at s k)) e)

  -- the same lists up to the last symbol
  pub terminals_to : IsWritten w → map slot_of (filter (λ s. is_terminal w s && d.used (slot_of s)) (numbers (length w.names))) ≡ slots_of_terminals w d
  terminals_to written =
      let p : ℕ → Bool = λ s. is_terminal w s && d.used (slot_of s) in
      ap (map slot_of) (filter_bound p p (length w.names) d.symbols
      (λ s t. used_known w written (slot_of s) ((d.used_is (slot_of s)).0 (and_parts (is_terminal w s) (d.used (slot_of s)) t).1))
      (λ s t. d.below_symbols (slot_of s) ((d.used_is (slot_of s)).0 (and_parts (is_terminal w s) (d.used (slot_of s)) t).1)) (λ s. refl))

  no_levels : (n : ℕ) → ((s k : ℕ) → IsUsedSlot w (slot_at s k) → s < n) → (s : ℕ) → n ≤ s → map (slot_at s) (levels_of w d s) ≡ []
  no_levels n bound s le =
      ap (map (slot_at s)) (filter_none (λ k. not (is_terminal w s) && d.used (slot_at s k)) (numbers d.levels)
      (λ k t. (let lt = bound s k ((d.used_is (slot_at s k)).0 (and_parts (not (is_terminal w s)) (d.used (slot_at s k)) t).1) in omega arith)))

  pub lefts_to : IsWritten w → flat_map (λ s. map (slot_at s) (levels_of w d s)) (numbers (length w.names)) ≡ slots_of_lefts w d
  lefts_to written =
      flat_bound (λ s. map (slot_at s) (levels_of w d s)) (length w.names) d.symbols
      (no_levels (length w.names) (λ s k u. used_known w written (slot_at s k) u)) (no_levels d.symbols (λ s k u. d.below_symbols (slot_at s k) u))

  makes_by : (rule : WrittenRule) (live used : Bool) → live ≡ Flatten.is_live w d rule → used ≡ d.used (slot_of (lhs_of rule)) → (is_sequence rule && (live && used)) ≡ Flatten.makes_list w d rule
  makes_by (Plain r) live used e f = refl
  makes_by (Grammar.Sequence r) live used e f = λ i. e i && f i

  -- the tests of a rule that makes a list
  pub makes_is : (i : ℕ) (live used : Bool) (table : List Bool) → AreLive w table → i < length w.rules → slice_index_or table i false ≡ live → (used ≡ true) ↔ IsUsedSlot w (slot_at (lhs_of (rule_at w i)) 0) →
      (is_sequence (rule_at w i) && (live && used)) ≡ Flatten.makes_list w d (rule_at w i)
  makes_is i live used table t lt e u =
      let a = t.each i lt in
      makes_by (rule_at w i) live used
      (sym e ∙ same_test (slice_index_or table i false) (Flatten.is_live w d (rule_at w i)) (IsLive w (rule_at w i)) a ((λ h. live_from w d (rule_at w i) h), (λ h. from_live w d (rule_at w i) h)))
      (same_test used (d.used (slot_of (lhs_of (rule_at w i)))) (IsUsedSlot w (slot_at (lhs_of (rule_at w i)) 0)) u (d.used_is (slot_of (lhs_of (rule_at w i)))))
