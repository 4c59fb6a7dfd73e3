-- Whatever tells what a check decides, the flat grammar that is listed is the same; so a checked grammar has it, or it would
-- have too many rules.
use Rattle.std.proofs.Common.{arith, ◌≡◌, ◌⊎◌, inl, inr, ℕ, zero, suc, ◌+◌, ◌<◌, ◌≤◌, not, ◌&&◌, nat_lt, if◌then◌else◌, [], ◌∷◌, ◌++◌, length, map, filter, flat_map, Option, Some, None, refl, sym, ◌∙◌, ap}
use Rattle.std.specs.Prelude.{slice_index}
use Rattle.std.specs.List.{list_all}
use Rattle.std.proofs.lemmas.Bool.{and_parts, not-true}
use Rattle.grammar_model.specs.Grammar.{PlainRule, SequenceRule, WrittenRule, Plain, Grammar, rule_at, slot_of, child_slot, IsTerminal}
use Rattle.grammar_model.specs.Grammar
use Rattle.grammar_model.specs.Simple.{is_terminal, fits, numbers}
use Rattle.grammar_model.proofs.Simple.{no_terminal_from}
use Rattle.recognizer_model.specs.Flat.{FlatGrammar}
use Rattle.recognizer_model.specs.FlatForm.{NamedRule, IsUsedSlot}
use Rattle.recognizer_model.specs.declared.flat.FlatSymbol.{FlatSymbol}
use Rattle.recognizer_model.specs.declared.flat.FlatSymbol.TheVariants.{Terminal, Slot, Sequence, Top}
use Rattle.recognizer_model.specs.declared.flat.FlatSource.TheVariants.{Written}
use Rattle.flat_model.specs.Flatten
use Rattle.flat_model.specs.Flatten.{Decided, flat_of}
use Rattle.flat_model.specs.Flattened.{IsFlattened, HasTooMany}
use Rattle.flat_rules.proofs.Listing.{same_test, filter_bound, filter_none, flat_bound}
use Rattle.flat_rules.proofs.FlatOf.{is_flat_of}
use Rattle.std.proofs.lemmas.Bool.{cases_lt}
use Rattle.grammar_model.specs.declared.limits.TheConstants.{MOST_FLAT_RULES}
use Rattle.grammar_laws.specs.Laws.{FlatteningDecides}
use Rattle.grammar_laws.proofs.Flats.{decisions_exist}

module _ (w : Grammar) (d e : Decided w) where
  used : (s : Grammar.Slot) → d.used s ≡ e.used s
  used s = same_test (d.used s) (e.used s) (IsUsedSlot w s) (d.used_is s) (e.used_is s)

  productive : (s : Grammar.Slot) → d.productive s ≡ e.productive s
  productive s = same_test (d.productive s) (e.productive s) _ (d.productive_is s) (e.productive_is s)

  nullable : (s : Grammar.Slot) → d.nullable s ≡ e.nullable s
  nullable s = same_test (d.nullable s) (e.nullable s) _ (d.nullable_is s) (e.nullable_is s)

  live : (rule : WrittenRule) → Flatten.is_live w d rule ≡ Flatten.is_live w e rule
  live (Plain r) = λ i. list_all (λ k. productive (child_slot (Plain r) k) i) (numbers (length r.rhs))
  live (Grammar.Sequence r) = productive (slot_of r.item)

  parts : (rule : WrittenRule) (k n : ℕ) → Flatten.parts_from w d rule k n ≡ Flatten.parts_from w e rule k n
  parts rule k zero = refl
  parts rule k (suc n) = λ i. Flatten.symbol_for w d (child_slot rule k) ∷ parts rule (suc k) n i

  -- ---- symbols

  terminals : Flatten.terminals w d ≡ Flatten.terminals w e
  terminals =
      ap (map Terminal)
      (filter_bound (λ s. is_terminal w s && d.used (slot_of s)) (λ s. is_terminal w s && e.used (slot_of s)) d.symbols e.symbols
      (λ k t. d.below_symbols (slot_of k) ((d.used_is (slot_of k)).0 (and_parts (is_terminal w k) (d.used (slot_of k)) t).1))
      (λ k t. e.below_symbols (slot_of k) ((e.used_is (slot_of k)).0 (and_parts (is_terminal w k) (e.used (slot_of k)) t).1))
      (λ k i. is_terminal w k && used (slot_of k) i))

  levels : (s : ℕ) → Flatten.levels_of w d s ≡ Flatten.levels_of w e s
  levels s =
      filter_bound (λ k. not (is_terminal w s) && d.used (record { symbol = s; level = k })) (λ k. not (is_terminal w s) && e.used (record { symbol = s; level = k })) d.levels e.levels
      (λ k t.
      let h = and_parts (not (is_terminal w s)) (d.used (record { symbol = s; level = k })) t in
      d.below_levels (record { symbol = s; level = k }) ((d.used_is (record { symbol = s; level = k })).0 h.1) (no_terminal_from w s (not-true (is_terminal w s) h.0)))
      (λ k t.
      let h = and_parts (not (is_terminal w s)) (e.used (record { symbol = s; level = k })) t in
      e.below_levels (record { symbol = s; level = k }) ((e.used_is (record { symbol = s; level = k })).0 h.1) (no_terminal_from w s (not-true (is_terminal w s) h.0)))
      (λ k i. not (is_terminal w s) && used (record { symbol = s; level = k }) i)

  -- past the bound there is no level
  no_level : (c : Decided w) (s : ℕ) → c.symbols ≤ s → Flatten.levels_of w c s ≡ []
  no_level c s le =
      filter_none (λ k. not (is_terminal w s) && c.used (record { symbol = s; level = k })) (numbers c.levels)
      (λ k t.
      let h = and_parts (not (is_terminal w s)) (c.used (record { symbol = s; level = k })) t in
      let lt = c.below_symbols (record { symbol = s; level = k }) ((c.used_is (record { symbol = s; level = k })).0 h.1) in
      omega (arith, lt, le))

  slots : Flatten.slots w d ≡ Flatten.slots w e
  slots =
      (λ i. flat_map (λ s. map (Slot s) (levels s i)) (numbers d.symbols))
      ∙ flat_bound (λ s. map (Slot s) (Flatten.levels_of w e s)) d.symbols e.symbols (λ k le. ap (map (Slot k)) (sym (levels k) ∙ no_level d k le)) (λ k le. ap (map (Slot k)) (no_level e k le))

  makes_list : (rule : WrittenRule) → Flatten.makes_list w d rule ≡ Flatten.makes_list w e rule
  makes_list (Plain r) = refl
  makes_list (Grammar.Sequence r) = λ i. live (Grammar.Sequence r) i && used (slot_of r.lhs) i

  lists : Flatten.lists w d ≡ Flatten.lists w e
  lists = λ i. map Sequence (filter (λ k. makes_list (rule_at w k) i) (numbers (length w.rules)))

  symbols : Flatten.symbols w d ≡ Flatten.symbols w e
  symbols = λ i. terminals i ++ (slots i ++ (lists i ++ Flatten.tops w d))

  -- ---- rules

  plain_rules : (s k i : ℕ) (r : PlainRule) → Flatten.plain_rules w d s k i r ≡ Flatten.plain_rules w e s k i r
  plain_rules s k i r =
      λ j. if fits (Plain r) (record { symbol = s; level = k }) && (live (Plain r) j && nat_lt 0 (length r.rhs))
      then record { left = Slot s k; right = parts (Plain r) 0 (length r.rhs) j; source = Written i } ∷ []
      else []

  trailing_rules : (i : ℕ) (r : SequenceRule) (o : Option ℕ) → Flatten.trailing_rules w d i r o ≡ Flatten.trailing_rules w e i r o
  trailing_rules i r None = refl
  trailing_rules i r (Some c) =
      λ j. if not r.proper && productive (slot_of c) j
      then record { left = Slot r.lhs 0; right = Sequence i ∷ Flatten.symbol_for w d (slot_of c) ∷ []; source = Written i } ∷ []
      else []

  slot_rules : (s k i : ℕ) (rule : WrittenRule) → Flatten.slot_rules w d s k i rule ≡ Flatten.slot_rules w e s k i rule
  slot_rules s k i (Plain r) = plain_rules s k i r
  slot_rules s k i (Grammar.Sequence r) =
      λ j. if fits (Grammar.Sequence r) (record { symbol = s; level = k }) && live (Grammar.Sequence r) j
      then record { left = Slot r.lhs 0; right = Sequence i ∷ []; source = Written i } ∷ trailing_rules i r r.separator j
      else []

  longer_rules : (i : ℕ) (r : SequenceRule) (o : Option ℕ) → Flatten.longer_rules w d i r o ≡ Flatten.longer_rules w e i r o
  longer_rules i r None = refl
  longer_rules i r (Some c) =
      λ j. if productive (slot_of c) j
      then record { left = Sequence i; right = Sequence i ∷ Flatten.symbol_for w d (slot_of c) ∷ Flatten.symbol_for w d (slot_of r.item) ∷ []; source = Written i } ∷ []
      else []

  item_rules : (i : ℕ) (rule : WrittenRule) → Flatten.item_rules w d i rule ≡ Flatten.item_rules w e i rule
  item_rules i (Plain r) = refl
  item_rules i (Grammar.Sequence r) = λ j. longer_rules i r r.separator j ++ record { left = Sequence i; right = Flatten.symbol_for w d (slot_of r.item) ∷ []; source = Written i } ∷ []

  rules_of : (x : FlatSymbol) → Flatten.rules_of w d x ≡ Flatten.rules_of w e x
  rules_of (Terminal t) = refl
  rules_of (Slot s k) = λ j. flat_map (λ i. slot_rules s k i (rule_at w i) j) (numbers (length w.rules))
  rules_of (Sequence i) = item_rules i (rule_at w i)
  rules_of (Top k) = refl

  named_rules : Flatten.named_rules w d ≡ Flatten.named_rules w e
  named_rules = λ j. flat_map (λ x. rules_of x j) (symbols j)

  numbered : (n : NamedRule) → Flatten.numbered w d n ≡ Flatten.numbered w e n
  numbered n = λ j. record { lhs = Flatten.place_in (symbols j) n.left; rhs = map (λ s. Flatten.place_in (symbols j) s) n.right; source = n.source }

  marked : (x : FlatSymbol) → Flatten.is_marked w d x ≡ Flatten.is_marked w e x
  marked (Terminal t) = refl
  marked (Slot s k) = nullable (record { symbol = s; level = k })
  marked (Sequence i) = refl
  marked (Top k) = nullable (slot_of (slice_index w.starts k))

  before_tops : Flatten.before_tops w d ≡ Flatten.before_tops w e
  before_tops = λ j. length (flat_map (λ x. rules_of x j) (terminals j ++ (slots j ++ lists j)))

  pub one_flat : flat_of w d ≡ flat_of w e
  one_flat = λ j. record {
    symbols = symbols j;
    nullable = map (λ x. marked x j) (symbols j);
    rules = map (λ n. numbered n j) (named_rules j);
    tops = map (λ k. before_tops j + k) (numbers (length w.starts));
  }

pub flattening_decides : FlatteningDecides
flattening_decides w c = go (cases_lt MOST_FLAT_RULES (length (flat_of w d).rules))
  where
    d : Decided w
    d = decisions_exist w

    go : (MOST_FLAT_RULES < length (flat_of w d).rules) ⊎ (length (flat_of w d).rules ≤ MOST_FLAT_RULES) → ((f : FlatGrammar) × IsFlattened w f) ⊎ HasTooMany w
    go (inl many) = inr (record { decided = d; many = λ e. (let same = ap (λ (f : FlatGrammar). length f.rules) (one_flat w d e) in omega (arith, many, same)) })
    go (inr few) = inl (flat_of w d, record { decided = d; listed = λ e. one_flat w d e; made = is_flat_of w d c; few = few })
