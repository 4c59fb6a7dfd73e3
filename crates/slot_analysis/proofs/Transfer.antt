-- What slots can do is the same in a grammar without gaps between its levels.
use Rattle.std.proofs.Common.{arith, ◌≡◌, ◌⊎◌, ◌↔◌, inl, inr, ℕ, zero, suc, ◌<◌, ◌≤◌, List, length, Contains, slice_index, refl, sym, ◌∙◌, ap, subst}
use Rattle.std.proofs.Common.{if◌then◌else◌, Bool, true, false, Option, Some, None, option_to_list, All}
use Rattle.std.proofs.lemmas.List.{get_or-map, length-map}
use Rattle.grammar_model.specs.Grammar.{WrittenRule, Plain, Sequence, Grammar, Slot, slot_of, no_rule, rule_at, lhs_of, level_of, IsTerminal, Fits, child_slot, slot_count, sequence_symbol, is_even, EachChildSlot, IsChildSlot}
use Rattle.grammar_model.specs.Analysis.{SomeRule, IsStar, IsNullableIn, IsNullable, EachNeeded, IsProductiveIn, IsProductive, IsLive, IsAccessibleIn, IsAccessible}
use Rattle.grammar_model.specs.Checked.{IsLeft}
use Rattle.grammar_core.specs.Written.{IsWritten, IsLevelled, symbols_of}
use Rattle.grammar_core.proofs.Known.{lhs_known}
use Rattle.jagged.specs.Rows.{row_at}
use Rattle.slot_analysis.specs.Packed.{place, packed_rule, packed, packed_slot, Occurs, IsLevelTable}
use Rattle.grammar_core.specs.Rules.{groups_of}
use Rattle.slot_analysis.proofs.Counting.{below_rises, below_zero, below_next, same_level}
use Rattle.slot_analysis.proofs.Packing.{lhs_is, level_is, slots_are, first_is, star_to, star_from, level_same, places_below, part_occurs}

module _ (g : Grammar) (rows : List (List ℕ)) (w : IsWritten g) (t : IsLevelTable g rows) where
  abbrev pub p : Grammar
  p = packed rows g

  pub rules_count : length p.rules ≡ length g.rules
  rules_count = length-map g.rules (packed_rule rows)

  pub rule_is : (i : ℕ) → i < length g.rules → rule_at p i ≡ packed_rule rows (rule_at g i)
  rule_is i lt = get_or-map (packed_rule rows) g.rules i no_rule no_rule lt

  -- the child slots of the packed rule are those of the rule
  pub child_is : (i k : ℕ) → i < length g.rules → k < slot_count (rule_at g i) → child_slot (packed_rule rows (rule_at g i)) k ≡ packed_slot rows (child_slot (rule_at g i) k)
  child_is i k lt kl = by (rule_at g i) (w.rules_known i lt).1 (t.has.levels i lt) (t.has.nexts i lt) (t.has.first (lhs_of (rule_at g i)) (lhs_known g i w lt))
    where
      by : (rule : WrittenRule) → IsLevelled rule → Contains (row_at rows (lhs_of rule)) (level_of rule) → Contains (row_at rows (lhs_of rule)) (suc (level_of rule)) → Contains (row_at rows (lhs_of rule)) 0 →
          child_slot (packed_rule rows rule) k ≡ packed_slot rows (child_slot rule k)
      by (Plain r) levelled here next first = λ i. record { symbol = slice_index r.rhs k; level = level_same rows t.rising r levelled.0 here next first k i }
      by (Sequence r) levelled here next first = sym (first_is rows (sequence_symbol r.item r.separator k))

  -- each child slot's level occurs at its symbol
  pub child_occurs : (i k : ℕ) → i < length g.rules → k < slot_count (rule_at g i) → Occurs rows (child_slot (rule_at g i) k)
  child_occurs i k lt kl = by (rule_at g i) (w.rules_known i lt) (t.has.levels i lt) (t.has.nexts i lt) (t.has.first (lhs_of (rule_at g i)) (lhs_known g i w lt)) kl
    where
      parted : (item separator : ℕ) (b : Bool) → item < length g.names → separator < length g.names → Occurs rows (slot_of (if b then item else separator))
      parted item separator true i s = t.has.first item i
      parted item separator false i s = t.has.first separator s

      of_sequence : (item : ℕ) (separator : Option ℕ) → item < length g.names → All (λ s. s < length g.names) (option_to_list separator) → Occurs rows (slot_of (sequence_symbol item separator k))
      of_sequence item None known all = t.has.first item known
      of_sequence item (Some separator) known all = parted item separator (is_even k) known (all 0 0 (omega arith))

      by : (rule : WrittenRule) → All (λ s. s < length g.names) (symbols_of rule) × IsLevelled rule → Contains (row_at rows (lhs_of rule)) (level_of rule) → Contains (row_at rows (lhs_of rule)) (suc (level_of rule)) → Contains (row_at rows (lhs_of rule)) 0 →
          k < slot_count rule → Occurs rows (child_slot rule k)
      by (Plain r) (all, levelled) here next first kl = part_occurs rows t.rising r levelled.0 here next first k (t.has.first (slice_index r.rhs k) (all (suc k) 0 (omega (arith, kl))))
      by (Sequence r) (all, levelled) here next first kl = of_sequence r.item r.separator (all 1 0 (omega arith)) (λ n d nl. all (suc (suc n)) d (omega (arith, nl)))

  pub fits_to : (i : ℕ) (slot : Slot) → Fits (rule_at g i) slot → Fits (packed_rule rows (rule_at g i)) (packed_slot rows slot)
  fits_to i slot (e, fits) =
      let m = below_rises (row_at rows slot.symbol) slot.level (level_of (rule_at g i)) fits in
      (lhs_is rows (rule_at g i) ∙ e, omega (arith, m, level_is rows (rule_at g i), ap (λ s. place rows s (level_of (rule_at g i))) e))

  pub fits_from : (i : ℕ) (slot : Slot) → i < length g.rules → Fits (packed_rule rows (rule_at g i)) (packed_slot rows slot) → Fits (rule_at g i) slot
  fits_from i slot lt (e, fits) = (same, by (side slot.level (level_of (rule_at g i))))
    where
      same : lhs_of (rule_at g i) ≡ slot.symbol
      same = sym (lhs_is rows (rule_at g i)) ∙ e

      side : (l m : ℕ) → (l ≤ m) ⊎ (suc m ≤ l)
      side l m = grind arith

      by : (slot.level ≤ level_of (rule_at g i)) ⊎ (suc (level_of (rule_at g i)) ≤ slot.level) → slot.level ≤ level_of (rule_at g i)
      by (inl le) = le
      by (inr gt) =
          let a = below_next (row_at rows (lhs_of (rule_at g i))) (t.rising (lhs_of (rule_at g i))) (level_of (rule_at g i)) (t.has.levels i lt) in
          let b = below_rises (row_at rows (lhs_of (rule_at g i))) (suc (level_of (rule_at g i))) slot.level gt in
          absurd (omega (arith, a, b, fits, level_is rows (rule_at g i), ap (λ s. place rows s slot.level) same))

  pub some_to : (slot : Slot) (P Q : WrittenRule → Type 0) → ((i : ℕ) → i < length g.rules → P (rule_at g i) → Q (packed_rule rows (rule_at g i))) → SomeRule g slot P → SomeRule p (packed_slot rows slot) Q
  some_to slot P Q f (i, lt, fits, h) =
      (i, omega (arith, lt, rules_count), subst (λ r. Fits r (packed_slot rows slot)) (sym (rule_is i lt)) (fits_to i slot fits), subst Q (sym (rule_is i lt)) (f i lt h))

  pub some_from : (slot : Slot) (P Q : WrittenRule → Type 0) → ((i : ℕ) → i < length g.rules → Q (packed_rule rows (rule_at g i)) → P (rule_at g i)) → SomeRule p (packed_slot rows slot) Q → SomeRule g slot P
  some_from slot P Q f (i, lt, fits, h) =
      let il : i < length g.rules = omega (arith, lt, rules_count) in
      (i, il, fits_from i slot il (subst (λ r. Fits r (packed_slot rows slot)) (rule_is i il) fits), f i il (subst Q (rule_is i il) h))

  abbrev Children : WrittenRule → Type 0
  Children rule = (k : ℕ) → k < slot_count rule → child_slot (packed_rule rows rule) k ≡ packed_slot rows (child_slot rule k)

  each_to : (P Q : Slot → Type 0) (rule : WrittenRule) → Children rule → ((s : Slot) → P s → Q (packed_slot rows s)) → EachChildSlot P rule → EachChildSlot Q (packed_rule rows rule)
  each_to P Q rule children f h k kl = let l : k < slot_count rule = omega (arith, kl, slots_are rows rule) in subst Q (sym (children k l)) (f (child_slot rule k) (h k l))

  each_from : (P Q : Slot → Type 0) (rule : WrittenRule) → Children rule → ((s : Slot) → Q (packed_slot rows s) → P s) → EachChildSlot Q (packed_rule rows rule) → EachChildSlot P rule
  each_from P Q rule children f h k kl = f (child_slot rule k) (subst Q (children k kl) (h k (omega (arith, kl, slots_are rows rule))))

  needed_to : (P Q : Slot → Type 0) (rule : WrittenRule) → Children rule → ((s : Slot) → P s → Q (packed_slot rows s)) → EachNeeded P rule → EachNeeded Q (packed_rule rows rule)
  needed_to P Q (Plain r) children f h = each_to P Q (Plain r) children f h
  needed_to P Q (Sequence r) children f h = subst Q (first_is rows r.item) (f (slot_of r.item) h)

  needed_from : (P Q : Slot → Type 0) (rule : WrittenRule) → Children rule → ((s : Slot) → Q (packed_slot rows s) → P s) → EachNeeded Q (packed_rule rows rule) → EachNeeded P rule
  needed_from P Q (Plain r) children f h = each_from P Q (Plain r) children f h
  needed_from P Q (Sequence r) children f h = f (slot_of r.item) (subst Q (sym (first_is rows r.item)) h)

  children_are : (i : ℕ) → i < length g.rules → Children (rule_at g i)
  children_are i lt k kl = child_is i k lt kl

  pub packed_written : IsWritten p
  packed_written = record {
    few_names = w.few_names;
    few_rules = let few = w.few_rules in omega (arith, few, rules_count);
    few_starts = w.few_starts;
    names_differ = w.names_differ;
    rules_known = λ i lt. (let il : i < length g.rules = omega (arith, lt, rules_count) in
        subst (λ r. All (λ s. s < length g.names) (symbols_of r) × IsLevelled r) (sym (rule_is i il))
        (by (rule_at g i) (w.rules_known i il) (t.has.levels i il) (t.has.nexts i il) (t.has.first (lhs_of (rule_at g i)) (lhs_known g i w il))));
    starts_known = w.starts_known;
  }
    where
      by : (rule : WrittenRule) → All (λ s. s < length g.names) (symbols_of rule) × IsLevelled rule → Contains (row_at rows (lhs_of rule)) (level_of rule) → Contains (row_at rows (lhs_of rule)) (suc (level_of rule)) → Contains (row_at rows (lhs_of rule)) 0 →
          All (λ s. s < length g.names) (symbols_of (packed_rule rows rule)) × IsLevelled (packed_rule rows rule)
      by (Plain r) (all, levelled) here next first = (all, (places_below rows t.rising r levelled.0 here next first, levelled.1))
      by (Sequence r) h here next first = h

  -- NULLABLE AND PRODUCTIVE

  nullable_to_in : (n : ℕ) (slot : Slot) → IsNullableIn n g slot → IsNullableIn n p (packed_slot rows slot)
  nullable_to_in zero slot h = h
  nullable_to_in (suc n) slot h = some_to slot (λ rule. IsStar rule ⊎ EachChildSlot (IsNullableIn n g) rule) (λ rule. IsStar rule ⊎ EachChildSlot (IsNullableIn n p) rule)
      (λ i lt q. elim q [
        | inl star ↦ inl (star_to rows (rule_at g i) star)
        | inr each ↦ inr (each_to (IsNullableIn n g) (IsNullableIn n p) (rule_at g i) (children_are i lt) (λ s. nullable_to_in n s) each)
      ]) h

  nullable_from_in : (n : ℕ) (slot : Slot) → IsNullableIn n p (packed_slot rows slot) → IsNullableIn n g slot
  nullable_from_in zero slot h = h
  nullable_from_in (suc n) slot h = some_from slot (λ rule. IsStar rule ⊎ EachChildSlot (IsNullableIn n g) rule) (λ rule. IsStar rule ⊎ EachChildSlot (IsNullableIn n p) rule)
      (λ i lt q. elim q [
        | inl star ↦ inl (star_from rows (rule_at g i) star)
        | inr each ↦ inr (each_from (IsNullableIn n g) (IsNullableIn n p) (rule_at g i) (children_are i lt) (λ s. nullable_from_in n s) each)
      ]) h

  pub nullable_same : (slot : Slot) → IsNullable p (packed_slot rows slot) ↔ IsNullable g slot
  nullable_same slot = (λ (n, h). (n, nullable_from_in n slot h), λ (n, h). (n, nullable_to_in n slot h))

  pub terminal_to : (s : ℕ) → IsTerminal g s → IsTerminal p s
  terminal_to s h i lt e = let il : i < length g.rules = omega (arith, lt, rules_count) in h i il (sym (lhs_is rows (rule_at g i)) ∙ (ap lhs_of (sym (rule_is i il)) ∙ e))

  pub terminal_from : (s : ℕ) → IsTerminal p s → IsTerminal g s
  terminal_from s h i lt e = h i (omega (arith, lt, rules_count)) (ap lhs_of (rule_is i lt) ∙ (lhs_is rows (rule_at g i) ∙ e))

  productive_to_in : (n : ℕ) (slot : Slot) → IsProductiveIn n g slot → IsProductiveIn n p (packed_slot rows slot)
  productive_to_in zero slot h = terminal_to slot.symbol h
  productive_to_in (suc n) slot (inl h) = inl (terminal_to slot.symbol h)
  productive_to_in (suc n) slot (inr h) = inr (some_to slot (λ rule. IsStar rule ⊎ EachNeeded (IsProductiveIn n g) rule) (λ rule. IsStar rule ⊎ EachNeeded (IsProductiveIn n p) rule)
      (λ i lt q. elim q [
        | inl star ↦ inl (star_to rows (rule_at g i) star)
        | inr each ↦ inr (needed_to (IsProductiveIn n g) (IsProductiveIn n p) (rule_at g i) (children_are i lt) (λ s. productive_to_in n s) each)
      ]) h)

  productive_from_in : (n : ℕ) (slot : Slot) → IsProductiveIn n p (packed_slot rows slot) → IsProductiveIn n g slot
  productive_from_in zero slot h = terminal_from slot.symbol h
  productive_from_in (suc n) slot (inl h) = inl (terminal_from slot.symbol h)
  productive_from_in (suc n) slot (inr h) = inr (some_from slot (λ rule. IsStar rule ⊎ EachNeeded (IsProductiveIn n g) rule) (λ rule. IsStar rule ⊎ EachNeeded (IsProductiveIn n p) rule)
      (λ i lt q. elim q [
        | inl star ↦ inl (star_from rows (rule_at g i) star)
        | inr each ↦ inr (needed_from (IsProductiveIn n g) (IsProductiveIn n p) (rule_at g i) (children_are i lt) (λ s. productive_from_in n s) each)
      ]) h)

  pub productive_same : (slot : Slot) → IsProductive p (packed_slot rows slot) ↔ IsProductive g slot
  productive_same slot = (λ (n, h). (n, productive_from_in n slot h), λ (n, h). (n, productive_to_in n slot h))

  live_to : (i : ℕ) → i < length g.rules → IsLive g (rule_at g i) → IsLive p (packed_rule rows (rule_at g i))
  live_to i lt h = needed_to (IsProductive g) (IsProductive p) (rule_at g i) (children_are i lt) (λ s. (productive_same s).1) h

  live_from : (i : ℕ) → i < length g.rules → IsLive p (packed_rule rows (rule_at g i)) → IsLive g (rule_at g i)
  live_from i lt h = needed_from (IsProductive g) (IsProductive p) (rule_at g i) (children_are i lt) (λ s. (productive_same s).0) h

  -- ACCESSIBLE

  accessible_to_in : (n : ℕ) (slot : Slot) → IsAccessibleIn n g slot → IsAccessibleIn n p (packed_slot rows slot)
  accessible_to_in zero slot (s, c, e) = (s, c, ap (packed_slot rows) e ∙ first_is rows s)
  accessible_to_in (suc n) slot (above, acc, prod, some) = (
    packed_slot rows above,
    accessible_to_in n above acc,
    (productive_same slot).1 prod,
    some_to above (λ rule. IsLive g rule × IsChildSlot rule slot) (λ rule. IsLive p rule × IsChildSlot rule (packed_slot rows slot))
        (λ i lt (live, (k, kl, e)). (live_to i lt live, (k, omega (arith, kl, slots_are rows (rule_at g i)), child_is i k lt kl ∙ ap (packed_slot rows) e))) some,
  )

  -- an accessible slot of the packed grammar is that of one of the grammar
  pub accessible_from_in : (n : ℕ) (other : Slot) → IsAccessibleIn n p other → (slot : Slot) × IsAccessibleIn n g slot × (packed_slot rows slot ≡ other)
  accessible_from_in zero other (s, c, e) = (slot_of s, (s, c, refl), first_is rows s ∙ sym e)
  accessible_from_in (suc n) other (above', acc', prod', (i, il', fits', (live', (k, kl', e)))) =
      let il : i < length g.rules = omega (arith, il', rules_count) in
      let (above, acc, ea) = accessible_from_in n above' acc' in
      let rule = rule_at g i in
      let kl : k < slot_count rule = omega (arith, kl', ap slot_count (rule_is i il), slots_are rows rule) in
      let child = child_slot rule k in
      let is : packed_slot rows child ≡ other = sym (child_is i k il kl) ∙ (ap (λ r. child_slot r k) (sym (rule_is i il)) ∙ e) in
      let fits = fits_from i above il (subst (λ s. Fits (packed_rule rows rule) s) (sym ea) (subst (λ r. Fits r above') (rule_is i il) fits')) in
      let prod = (productive_same child).0 (subst (IsProductive p) (sym is) prod') in
      let live = live_from i il (subst (IsLive p) (rule_is i il) live') in
      (child, (above, acc, prod, (i, il, fits, (live, (k, kl, refl)))), is)

  pub accessible_occurs : (n : ℕ) (slot : Slot) → IsAccessibleIn n g slot → Occurs rows slot
  accessible_occurs zero slot (s, (k, kl, e), is) =
      let known : s < length g.names = subst (λ s. s < length g.names) e (w.starts_known k s kl) in
      subst (Occurs rows) (sym is) (t.has.first s known)
  accessible_occurs (suc n) slot (above, acc, prod, (i, il, fits, (live, (k, kl, is)))) = subst (Occurs rows) is (child_occurs i k il kl)

  pub same_slots : (s u : Slot) → Occurs rows s → Occurs rows u → packed_slot rows s ≡ packed_slot rows u → s ≡ u
  same_slots s u cs cu e =
      let es : s.symbol ≡ u.symbol = ap (λ x. x.symbol) e in
      let el : place rows s.symbol s.level ≡ place rows u.symbol u.level = ap (λ x. x.level) e in
      let here : Contains (row_at rows s.symbol) u.level = subst (λ x. Contains (row_at rows x) u.level) (sym es) cu in
      let level : s.level ≡ u.level = same_level (row_at rows s.symbol) (t.rising s.symbol) s.level u.level cs here (el ∙ ap (λ x. place rows x u.level) (sym es)) in
      λ i. record { symbol = es i; level = level i }

  pub accessible_to : (slot : Slot) → IsAccessible g slot → IsAccessible p (packed_slot rows slot)
  accessible_to slot (n, h) = (n, accessible_to_in n slot h)

  pub accessible_from : (slot : Slot) → Occurs rows slot → IsAccessible p (packed_slot rows slot) → IsAccessible g slot
  accessible_from slot c (n, h) =
      let (u, acc, e) = accessible_from_in n (packed_slot rows slot) h in
      subst (IsAccessible g) (same_slots u slot (accessible_occurs n u acc) c e) (n, acc)

  pub some_level : (s : ℕ) → ((l : ℕ) × IsAccessible p (record { symbol = s; level = l })) ↔ ((l : ℕ) × IsAccessible g (record { symbol = s; level = l }))
  some_level s = (
    λ (l, (n, h)).
        let (u, acc, e) = accessible_from_in n (record { symbol = s; level = l }) h in
        let same : u.symbol ≡ s = ap (λ x. x.symbol) e in
        (u.level, (n, subst (λ x. IsAccessibleIn n g (record { symbol = x; level = u.level })) same acc)),
    λ (l, h). (place rows s l, accessible_to (record { symbol = s; level = l }) h),
  )

  pub left_same : (s : ℕ) → IsLeft p s ↔ IsLeft g s
  left_same s = (
    λ (i, lt, e). (let il : i < length g.rules = omega (arith, lt, rules_count) in (i, il, sym (lhs_is rows (rule_at g i)) ∙ (ap lhs_of (sym (rule_is i il)) ∙ e))),
    λ (i, lt, e). (i, omega (arith, lt, rules_count), ap lhs_of (rule_is i lt) ∙ (lhs_is rows (rule_at g i) ∙ e)),
  )

  -- what is looked up in the grammar, in a grammar that is the packed one
  module _ (h : Grammar) (is : p ≡ h) (i : ℕ) (il : i < length h.rules) where
    pub rule_within : i < length g.rules
    rule_within = omega (arith, il, rules_count, ap (λ (h : Grammar). length h.rules) is)

    same_rule : packed_rule rows (rule_at g i) ≡ rule_at h i
    same_rule = sym (rule_is i rule_within) ∙ ap (λ h. rule_at h i) is

    pub level_told : (s l q : ℕ) → s ≡ lhs_of (rule_at g i) → l ≡ level_of (rule_at g i) → q ≡ place rows s l → q ≡ level_of (rule_at h i)
    level_told s l q es el eq = eq ∙ (ap (λ s. place rows s l) es ∙ (ap (place rows (lhs_of (rule_at g i))) el ∙ (sym (level_is rows (rule_at g i)) ∙ ap level_of same_rule)))

    pub groups_told : (s l q : ℕ) → s ≡ lhs_of (rule_at g i) → l ≡ groups_of (rule_at g i) → q ≡ place rows s l → q ≡ groups_of (rule_at h i)
    groups_told s l q es el eq = eq ∙ (ap (λ s. place rows s l) es ∙ (ap (place rows (lhs_of (rule_at g i))) el ∙ (by (rule_at g i) (t.has.first (lhs_of (rule_at g i)) (lhs_known g i w rule_within)) ∙ ap groups_of same_rule)))
      where
        by : (rule : WrittenRule) → Contains (row_at rows (lhs_of rule)) 0 → place rows (lhs_of rule) (groups_of rule) ≡ groups_of (packed_rule rows rule)
        by (Plain r) first = refl
        by (Sequence r) first = below_next (row_at rows r.lhs) (t.rising r.lhs) 0 first ∙ ap suc (below_zero (row_at rows r.lhs))

    pub part_within : (k : ℕ) → k < slot_count (rule_at h i) → k < slot_count (rule_at g i)
    part_within k kl = omega (arith, kl, slots_are rows (rule_at g i), ap slot_count same_rule)

    pub cause_told : (k s l q : ℕ) → k < slot_count (rule_at h i) → s ≡ (child_slot (rule_at g i) k).symbol → l ≡ (child_slot (rule_at g i) k).level → q ≡ place rows s l → q ≡ (child_slot (rule_at h i) k).level
    cause_told k s l q kl es el eq =
        eq ∙ (ap (λ s. place rows s l) es ∙ (ap (place rows (child_slot (rule_at g i) k).symbol) el ∙ (ap (λ x. x.level) (sym (child_is i k rule_within (part_within k kl))) ∙ ap (λ r. (child_slot r k).level) same_rule)))
