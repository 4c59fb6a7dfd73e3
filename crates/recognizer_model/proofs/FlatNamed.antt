-- The symbols and rules of a flat grammar, by what they are of the written one.
use Rattle.std.proofs.Common.{◌≡◌, ◌≢◌, ℕ, zero, suc, ◌<◌, ◌≤◌, ◌+◌, Bool, true, false, cond, not, List, [], ◌∷◌, map, length, ◌⊎◌, inl, inr, Option, Some, None, refl, sym, ap, ◌∙◌, subst, arith, lit<, lit≤}
use Rattle.std.specs.Prelude.{◌&&◌, ◌==◌, nat_lt, slice_get, slice_index, slice_index_or, IsFalse}
use Rattle.std.specs.List.{AllPairs}
use Rattle.std.proofs.lemmas.Bool.{true≢false, cases_Bool, cases_lt, ne_eqb}
use Rattle.finite_sets.proofs.Members.{Among}
use Rattle.grammar_model.specs.Grammar.{PlainRule, SequenceRule, WrittenRule, Plain, Grammar, rule_at, slot_of, Fits, child_slot, own_level, is_item, has_trailing, ends_with_separator, sequence_symbol, IsChildCount, IsTerminal}
use Rattle.grammar_model.specs.Grammar
use Rattle.grammar_model.specs.Simple.{is_terminal}
use Rattle.grammar_model.proofs.Simple.{terminal_from, no_terminal_from}
use Rattle.recognizer_model.specs.Flat.{lhs_of}
use Rattle.recognizer_model.specs.declared.flat.FlatSymbol.{FlatSymbol}
use Rattle.recognizer_model.specs.declared.flat.FlatSymbol.TheVariants.{Terminal, Slot, Sequence, Top}
use Rattle.recognizer_model.specs.declared.flat.FlatSource.TheVariants.{Written}
use Rattle.recognizer_model.specs.FlatForm.{Stands, AsTerminal, AsSlot, StandAll, NamedRule, IsRuleOf, OfPlain, OfList, OfTrailing, OfItem, OfItems, OfSeparated, OfTop, source_number}
use Rattle.recognizer_model.proofs.Forms
use Rattle.recognizer_model.proofs.Forms.{FlatTerminal, FlatSlot, FlatList, FlatTop, IsInner, IsHead, IsPart, StandsFor, IsSequence, EndsWithItem}

abbrev pub form : FlatSymbol → Forms.FlatSymbol
form (Terminal s) = FlatTerminal s
form (Slot s k) = FlatSlot (record { symbol = s; level = k })
form (Sequence i) = FlatList i
form (Top k) = FlatTop k

-- ---- lists

pub get_or : {A : Type 0} (xs : List A) (k : ℕ) (d : A) → (slice_get xs k ≡ Some (slice_index_or xs k d)) ⊎ (slice_index_or xs k d ≡ d)
get_or [] k d = inr refl
get_or (x ∷ xs) zero d = inl refl
get_or (x ∷ xs) (suc k) d = get_or xs k d

pub at_among : {A : Type 0} (xs : List A) (x d : A) → Among x xs → (k : ℕ) × (k < length xs) × (slice_index_or xs k d ≡ x)
at_among [] x d h = absurd h
at_among (y ∷ ys) x d (inl e) = (0, omega arith, e)
at_among (y ∷ ys) x d (inr h) = let (k, lt, e) = at_among ys x d h in (suc k, omega arith, e)

pub map_at : {A B : Type 0} (g : A → B) (xs : List A) (k : ℕ) (d : A) (e : B) → k < length xs → slice_index_or (map g xs) k e ≡ g (slice_index_or xs k d)
map_at g [] k d e lt = absurd (omega arith)
map_at g (x ∷ xs) zero d e lt = refl
map_at g (x ∷ xs) (suc k) d e lt = map_at g xs k d e (omega arith)

-- where no two are the same, equal elements stand at one place
pub one_place : {A : Type 0} (xs : List A) → AllPairs (λ x y. x ≢ y) xs → (i j : ℕ) (d : A) → i < length xs → j < length xs → slice_index_or xs i d ≡ slice_index_or xs j d → i ≡ j
one_place xs once i j d li lj e = go (cases_lt i j)
  where
    later : (j < i) ⊎ (i ≤ j) → j ≤ i → i ≡ j
    later (inl lt) le = absurd (once j i d lt li (sym e))
    later (inr ge) le = omega arith

    go : (i < j) ⊎ (j ≤ i) → i ≡ j
    go (inl lt) = absurd (once i j d lt lj e)
    go (inr ge) = later (cases_lt j i) ge

-- ---- what stands for a slot

module _ (w : Grammar) where
  pub stand_some : (slot : Grammar.Slot) → (s : FlatSymbol) × Stands w slot s
  stand_some slot = go (cases_Bool (is_terminal w slot.symbol))
    where
      go : (is_terminal w slot.symbol ≡ true) ⊎ (is_terminal w slot.symbol ≡ false) → (s : FlatSymbol) × Stands w slot s
      go (inl e) = (Terminal slot.symbol, AsTerminal (terminal_from w slot.symbol e))
      go (inr e) = (Slot slot.symbol slot.level, AsSlot (no_terminal_from w slot.symbol e))

  pub stand_one : {slot : Grammar.Slot} {s s' : FlatSymbol} → Stands w slot s → Stands w slot s' → s ≡ s'
  stand_one (AsTerminal t) (AsTerminal t') = refl
  stand_one (AsTerminal t) (AsSlot n) = absurd (n t)
  stand_one (AsSlot n) (AsTerminal t) = absurd (n t)
  stand_one (AsSlot n) (AsSlot n') = refl

  pub all_some : (rule : WrittenRule) (k n : ℕ) → (ss : List FlatSymbol) × (length ss ≡ n) × StandAll w rule k ss
  all_some rule k zero = ([], refl, tt)
  all_some rule k (suc n) =
      let (s, h) = stand_some (child_slot rule k) in
      let (ss, len, hs) = all_some rule (suc k) n in
      (s ∷ ss, ap suc len, (h, hs))

  pub all_one : (rule : WrittenRule) (k : ℕ) (ss ts : List FlatSymbol) → length ss ≡ length ts → StandAll w rule k ss → StandAll w rule k ts → ss ≡ ts
  all_one rule k [] [] len a b = refl
  all_one rule k [] (t ∷ ts) len a b = absurd (omega arith)
  all_one rule k (s ∷ ss) [] len a b = absurd (omega arith)
  all_one rule k (s ∷ ss) (t ∷ ts) len a b = λ i. (stand_one a.0 b.0 i ∷ all_one rule (suc k) ss ts (omega arith) a.1 b.1 i)

  pub all_at : (rule : WrittenRule) (k : ℕ) (ss : List FlatSymbol) (j : ℕ) → StandAll w rule k ss → j < length ss → Stands w (child_slot rule (k + j)) (slice_index_or ss j (Top 0))
  all_at rule k [] j a lt = absurd (omega arith)
  all_at rule k (s ∷ ss) zero a lt = let e : k ≡ k + 0 = omega arith in subst (λ z. Stands w (child_slot rule z) s) e a.0
  all_at rule k (s ∷ ss) (suc j) a lt = let e : suc k + j ≡ k + suc j = omega arith in subst (λ z. Stands w (child_slot rule z) (slice_index_or ss j (Top 0))) e (all_at rule (suc k) ss j a.1 (omega arith))

  pub stands_for : (slot : Grammar.Slot) (s : FlatSymbol) → Stands w slot s → (IsTerminal w slot.symbol → slot ≡ slot_of slot.symbol) → StandsFor (form s) slot
  stands_for slot s (AsTerminal t) h = h t
  stands_for slot s (AsSlot n) h = refl

  -- a terminal among a plain rule's parts is not its left side, and has level 0
  pub level_zero : (i : ℕ) (r : PlainRule) → i < length w.rules → rule_at w i ≡ Plain r → (k : ℕ) → IsTerminal w (slice_index r.rhs k) → child_slot (Plain r) k ≡ slot_of (slice_index r.rhs k)
  level_zero i r lt is k t =
      let other : (slice_index r.rhs k == r.lhs) ≡ false = ne_eqb _ _ (λ e. t i lt (ap Grammar.lhs_of is ∙ sym e)) in
      λ z. record { symbol = slice_index r.rhs k; level = (ap (λ b. cond (nat_lt 1 r.groups && b) (own_level r.assoc r k) 0) other ∙ no_level (nat_lt 1 r.groups)) z }
    where
      no_level : (b : Bool) → cond (b && false) (own_level r.assoc r k) 0 ≡ 0
      no_level true = refl
      no_level false = refl

  -- ---- what is known of a rule by its name

  pub head_of : (n : NamedRule) → IsRuleOf w n → IsHead w (form n.left) (source_number w n.source) (length n.right)
  head_of n (OfPlain i s k r right lt is some live fits used len stand) =
      (lt, subst (λ z. Fits z (record { symbol = s; level = k })) (sym is) fits, subst (λ z. IsChildCount z (length right)) (sym is) len)
  head_of n (OfList i r (q, lt, is', live, used) is) =
      (lt, subst (λ z. Fits z (slot_of r.lhs)) (sym is) (refl, lit≤ tt), subst (λ z. IsChildCount z 1) (sym is) (lit< tt, one r.separator))
    where
      one : (separator : Option ℕ) → ends_with_separator separator 1 ≡ true → IsFalse r.proper
      one None e = absurd (true≢false (sym e))
      one (Some c) e = absurd (true≢false (sym e))
  head_of n (OfTrailing i c' r c (q, lt, is', live, used) is sep proper prod st) =
      (lt, subst (λ z. Fits z (slot_of r.lhs)) (sym is) (refl, lit≤ tt), subst (λ z. IsChildCount z 2) (sym is) (lit< tt, λ t. proper))
  head_of n (OfItem i r b s is st) = (refl, subst (λ z. EndsWithItem z 1) (sym is) (lit< tt, one r.separator))
    where
      one : (separator : Option ℕ) → ends_with_separator separator 1 ≡ false
      one None = refl
      one (Some c) = refl
  head_of n (OfItems i r b s is none st) = (refl, subst (λ z. EndsWithItem z 2) (sym is) (lit< tt, ap (λ z. ends_with_separator z 2) none))
  head_of n (OfSeparated i c' r b c s is sep prod st st') = (refl, subst (λ z. EndsWithItem z 3) (sym is) (lit< tt, ap (λ z. ends_with_separator z 3) sep))
  head_of n (OfTop k start s at st) = tt

  item_slot : (r : SequenceRule) (k : ℕ) → is_item r.separator k ≡ true → child_slot (Grammar.Sequence r) k ≡ slot_of r.item
  item_slot r k e = ap slot_of (go r.separator e)
    where
      go : (separator : Option ℕ) → is_item separator k ≡ true → sequence_symbol r.item separator k ≡ r.item
      go None e = refl
      go (Some c) e = ap (λ b. cond b r.item c) e

  separator_slot : (r : SequenceRule) (c : ℕ) → r.separator ≡ Some c → child_slot (Grammar.Sequence r) 1 ≡ slot_of c
  separator_slot r c e = ap (λ z. slot_of (sequence_symbol r.item z 1)) e

  always : (separator : Option ℕ) → is_item separator 0 ≡ true
  always None = refl
  always (Some c) = refl

  part_for : (i k : ℕ) (r : SequenceRule) (s : FlatSymbol) (x : ℕ) → rule_at w i ≡ Grammar.Sequence r → child_slot (Grammar.Sequence r) k ≡ slot_of x → Stands w (slot_of x) s → IsPart w (form s) i k
  part_for i k r s x is e st = inl (subst (StandsFor (form s)) (sym e ∙ ap (λ z. child_slot z k) (sym is)) (stands_for (slot_of x) s st (λ t. refl)))

  list_first : (i k : ℕ) (r : SequenceRule) → rule_at w i ≡ Grammar.Sequence r → k ≡ 0 → IsPart w (FlatList i) i k
  list_first i k r is e = inr (e, refl, subst IsSequence (sym is) tt)

  pub part_of : (n : NamedRule) → IsRuleOf w n → (k : ℕ) → k < length n.right → IsInner (form n.left) → IsPart w (form (slice_index_or n.right k (Top 0))) (source_number w n.source) k
  part_of n (OfPlain i s l r right lt is some live fits used len stand) k h inner =
      let at = all_at (Plain r) 0 right k stand h in
      let e : 0 + k ≡ k = omega arith in
      let st : Stands w (child_slot (Plain r) k) (slice_index_or right k (Top 0)) = subst (λ z. Stands w (child_slot (Plain r) z) (slice_index_or right k (Top 0))) e at in
      inl (subst (λ z. StandsFor (form (slice_index_or right k (Top 0))) (child_slot z k)) (sym is) (stands_for (child_slot (Plain r) k) (slice_index_or right k (Top 0)) st (level_zero i r lt is k)))
  part_of n (OfList i r s is) zero h inner = list_first i 0 r is refl
  part_of n (OfList i r s is) (suc k) h inner = absurd (omega arith)
  part_of n (OfTrailing i c' r c s is sep proper prod st) zero h inner = list_first i 0 r is refl
  part_of n (OfTrailing i c' r c s is sep proper prod st) (suc zero) h inner = part_for i 1 r c c' is (separator_slot r c' sep) st
  part_of n (OfTrailing i c' r c s is sep proper prod st) (suc (suc k)) h inner = absurd (omega arith)
  part_of n (OfItem i r b s is st) zero h inner = part_for i 0 r b r.item is (item_slot r 0 (always r.separator)) st
  part_of n (OfItem i r b s is st) (suc k) h inner = absurd (omega arith)
  part_of n (OfItems i r b s is none st) zero h inner = list_first i 0 r is refl
  part_of n (OfItems i r b s is none st) (suc zero) h inner = part_for i 1 r b r.item is (item_slot r 1 (ap (λ z. is_item z 1) none)) st
  part_of n (OfItems i r b s is none st) (suc (suc k)) h inner = absurd (omega arith)
  part_of n (OfSeparated i c' r b c s is sep prod st st') zero h inner = list_first i 0 r is refl
  part_of n (OfSeparated i c' r b c s is sep prod st st') (suc zero) h inner = part_for i 1 r c c' is (separator_slot r c' sep) st
  part_of n (OfSeparated i c' r b c s is sep prod st st') (suc (suc zero)) h inner = part_for i 2 r b r.item is (item_slot r 2 (ap (λ z. is_item z 2) sep)) st'
  part_of n (OfSeparated i c' r b c s is sep prod st st') (suc (suc (suc k))) h inner = absurd (omega arith)
  part_of n (OfTop l start s at st) k h inner = absurd inner

  -- ---- rules of a slot

  -- what stands on the right side of a slot's rule
  pub data SlotRight (i : ℕ) (right : List FlatSymbol) : Type 0 where
    ByParts : (r : PlainRule) → rule_at w i ≡ Plain r → length right ≡ length r.rhs → StandAll w (Plain r) 0 right → SlotRight i right
    ByList : (r : SequenceRule) → rule_at w i ≡ Grammar.Sequence r → right ≡ Sequence i ∷ [] → SlotRight i right
    ByTrailing : (r : SequenceRule) (x : ℕ) (c : FlatSymbol) → rule_at w i ≡ Grammar.Sequence r → r.separator ≡ Some x → Stands w (slot_of x) c → right ≡ Sequence i ∷ c ∷ [] → SlotRight i right

  pub slot_right : (n : NamedRule) → IsRuleOf w n → (s k : ℕ) → n.left ≡ Slot s k → (i : ℕ) × (i < length w.rules) × (n.source ≡ Written i) × SlotRight i n.right
  slot_right n (OfPlain i s l r right lt is some live fits used len stand) s' k' e = (i, lt, refl, ByParts r is len stand)
  slot_right n (OfList i r (q, lt, is', live, used) is) s' k' e = (i, lt, refl, ByList r is refl)
  slot_right n (OfTrailing i x r c (q, lt, is', live, used) is sep proper prod st) s' k' e = (i, lt, refl, ByTrailing r x c is sep st refl)
  slot_right n (OfItem i r b s is st) s' k' e = cc
  slot_right n (OfItems i r b s is none st) s' k' e = cc
  slot_right n (OfSeparated i x r b c s is sep prod st st') s' k' e = cc
  slot_right n (OfTop l start s at st) s' k' e = cc

  trailing_two : (i x : ℕ) (r : SequenceRule) → rule_at w i ≡ Grammar.Sequence r → r.separator ≡ Some x → has_trailing (rule_at w i) 2 ≡ true
  trailing_two i x r is sep = ap (λ z. has_trailing z 2) is ∙ ap (λ z. ends_with_separator z 2) sep

  trailing_one : (i : ℕ) (r : SequenceRule) → rule_at w i ≡ Grammar.Sequence r → has_trailing (rule_at w i) 1 ≡ false
  trailing_one i r is = ap (λ z. has_trailing z 1) is ∙ go r.separator
    where
      go : (separator : Option ℕ) → ends_with_separator separator 1 ≡ false
      go None = refl
      go (Some c) = refl

  pub one_right : (i : ℕ) (a b : List FlatSymbol) → SlotRight i a → SlotRight i b → has_trailing (rule_at w i) (length a) ≡ has_trailing (rule_at w i) (length b) → a ≡ b
  one_right i a b (ByParts r is len st) (ByParts r' is' len' st') h =
      let same : Plain r ≡ Plain r' = sym is ∙ is' in
      let rr : r ≡ r' = cc in
      let lens : length a ≡ length b = len ∙ ap (λ (z : PlainRule). length z.rhs) rr ∙ sym len' in
      all_one (Plain r) 0 a b lens st (subst (λ z. StandAll w (Plain z) 0 b) (sym rr) st')
  one_right i a b (ByParts r is len st) (ByList r' is' e) h = let bad : Plain r ≡ Grammar.Sequence r' = sym is ∙ is' in cc
  one_right i a b (ByParts r is len st) (ByTrailing r' x c is' sep st' e) h = let bad : Plain r ≡ Grammar.Sequence r' = sym is ∙ is' in cc
  one_right i a b (ByList r is e) (ByParts r' is' len st) h = let bad : Grammar.Sequence r ≡ Plain r' = sym is ∙ is' in cc
  one_right i a b (ByList r is e) (ByList r' is' e') h = e ∙ sym e'
  one_right i a b (ByList r is e) (ByTrailing r' x c is' sep st e') h =
      absurd (true≢false (sym (trailing_two i x r' is' sep) ∙ sym (ap (λ z. has_trailing (rule_at w i) (length z)) e') ∙ sym h ∙ ap (λ z. has_trailing (rule_at w i) (length z)) e ∙ trailing_one i r is))
  one_right i a b (ByTrailing r x c is sep st e) (ByParts r' is' len st') h = let bad : Grammar.Sequence r ≡ Plain r' = sym is ∙ is' in cc
  one_right i a b (ByTrailing r x c is sep st e) (ByList r' is' e') h =
      absurd (true≢false (sym (trailing_two i x r is sep) ∙ sym (ap (λ z. has_trailing (rule_at w i) (length z)) e) ∙ h ∙ ap (λ z. has_trailing (rule_at w i) (length z)) e' ∙ trailing_one i r' is'))
  one_right i a b (ByTrailing r x c is sep st e) (ByTrailing r' x' c' is' sep' st' e') h =
      let same : Grammar.Sequence r ≡ Grammar.Sequence r' = sym is ∙ is' in
      let rr : r ≡ r' = cc in
      let xs : Some x ≡ Some x' = sym sep ∙ ap (λ (z : SequenceRule). z.separator) rr ∙ sep' in
      let xx : x ≡ x' = cc in
      let cs : c ≡ c' = stand_one st (subst (λ z. Stands w (slot_of z) c') (sym xx) st') in
      e ∙ (λ z. (Sequence i ∷ cs z ∷ [])) ∙ sym e'

  -- ---- rules of a list

  pub data ListRight (i : ℕ) (right : List FlatSymbol) : Type 0 where
    ByItem : (r : SequenceRule) (b : FlatSymbol) → rule_at w i ≡ Grammar.Sequence r → Stands w (slot_of r.item) b → right ≡ b ∷ [] → ListRight i right
    ByItems : (r : SequenceRule) (b : FlatSymbol) → rule_at w i ≡ Grammar.Sequence r → r.separator ≡ None → Stands w (slot_of r.item) b → right ≡ Sequence i ∷ b ∷ [] → ListRight i right
    BySeparated : (r : SequenceRule) (x : ℕ) (b c : FlatSymbol) → rule_at w i ≡ Grammar.Sequence r → r.separator ≡ Some x → Stands w (slot_of x) c → Stands w (slot_of r.item) b → right ≡ Sequence i ∷ c ∷ b ∷ [] → ListRight i right

  pub list_right : (n : NamedRule) → IsRuleOf w n → (j : ℕ) → n.left ≡ Sequence j → (n.source ≡ Written j) × ListRight j n.right
  list_right n (OfPlain i s l r right lt is some live fits used len stand) j e = cc
  list_right n (OfList i r s is) j e = cc
  list_right n (OfTrailing i x r c s is sep proper prod st) j e = cc
  list_right n (OfItem i r b s is st) j e = let same : i ≡ j = cc in subst (λ z. (Written i ≡ Written z) × ListRight z (b ∷ [])) same (refl, ByItem r b is st refl)
  list_right n (OfItems i r b s is none st) j e = let same : i ≡ j = cc in subst (λ z. (Written i ≡ Written z) × ListRight z (Sequence i ∷ b ∷ [])) same (refl, ByItems r b is none st refl)
  list_right n (OfSeparated i x r b c s is sep prod st st') j e = let same : i ≡ j = cc in subst (λ z. (Written i ≡ Written z) × ListRight z (Sequence i ∷ c ∷ b ∷ [])) same (refl, BySeparated r x b c is sep st st' refl)
  list_right n (OfTop l start s at st) j e = cc

  pub one_list : (i : ℕ) (a b : List FlatSymbol) → ListRight i a → ListRight i b → length a ≡ length b → a ≡ b
  one_list i a b (ByItem r x is st e) (ByItem r' y is' st' e') h =
      let same : Grammar.Sequence r ≡ Grammar.Sequence r' = sym is ∙ is' in
      let rr : r ≡ r' = cc in
      let xy : x ≡ y = stand_one st (subst (λ (z : SequenceRule). Stands w (slot_of z.item) y) (sym rr) st') in
      e ∙ (λ z. (xy z ∷ [])) ∙ sym e'
  one_list i a b (ByItem r x is st e) (ByItems r' y is' none st' e') h = let l = ap length e in let l' = ap length e' in absurd (omega arith)
  one_list i a b (ByItem r x is st e) (BySeparated r' z y c is' sep st' st'' e') h = let l = ap length e in let l' = ap length e' in absurd (omega arith)
  one_list i a b (ByItems r x is none st e) (ByItem r' y is' st' e') h = let l = ap length e in let l' = ap length e' in absurd (omega arith)
  one_list i a b (ByItems r x is none st e) (ByItems r' y is' none' st' e') h =
      let same : Grammar.Sequence r ≡ Grammar.Sequence r' = sym is ∙ is' in
      let rr : r ≡ r' = cc in
      let xy : x ≡ y = stand_one st (subst (λ (z : SequenceRule). Stands w (slot_of z.item) y) (sym rr) st') in
      e ∙ (λ z. (Sequence i ∷ xy z ∷ [])) ∙ sym e'
  one_list i a b (ByItems r x is none st e) (BySeparated r' z y c is' sep st' st'' e') h = let l = ap length e in let l' = ap length e' in absurd (omega arith)
  one_list i a b (BySeparated r z x c is sep st st' e) (ByItem r' y is' st'' e') h = let l = ap length e in let l' = ap length e' in absurd (omega arith)
  one_list i a b (BySeparated r z x c is sep st st' e) (ByItems r' y is' none st'' e') h = let l = ap length e in let l' = ap length e' in absurd (omega arith)
  one_list i a b (BySeparated r z x c is sep st st' e) (BySeparated r' z' y d is' sep' st'' st''' e') h =
      let same : Grammar.Sequence r ≡ Grammar.Sequence r' = sym is ∙ is' in
      let rr : r ≡ r' = cc in
      let zs : Some z ≡ Some z' = sym sep ∙ ap (λ (z : SequenceRule). z.separator) rr ∙ sep' in
      let zz : z ≡ z' = cc in
      let xy : x ≡ y = stand_one st' (subst (λ (z : SequenceRule). Stands w (slot_of z.item) y) (sym rr) st''') in
      let cd : c ≡ d = stand_one st (subst (λ v. Stands w (slot_of v) d) (sym zz) st'') in
      e ∙ (λ v. (Sequence i ∷ cd v ∷ xy v ∷ [])) ∙ sym e'
