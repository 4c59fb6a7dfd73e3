-- Whether a slot is nullable, productive and accessible is decided, whatever the grammar.
use Rattle.std.proofs.Common.{◌≡◌, ◌⊎◌, inl, inr, ℕ, zero, suc, sym, subst}
use Rattle.grammar_model.specs.Grammar.{WrittenRule, Grammar, Slot, slot_of, rule_at, child_slot, EachChildSlot, IsChildSlot}
use Rattle.grammar_model.specs.Analysis.{SomeRule, IsStar, IsNullableIn, IsNullable, EachNeeded, IsProductiveIn, IsProductive, IsLive, IsAccessibleIn, IsAccessible}
use Rattle.finite_sets.specs.Decided.{IsDecided}
use Rattle.finite_sets.proofs.Deciding.{both, one_of, moved, test_of, test_true, true_test}
use Rattle.finite_sets.proofs.Members.{Among, some_among, among_from, contains_from}
use Rattle.finite_sets.proofs.Rounds.{AreRounds, decided}
use Rattle.grammar_laws.specs.Laws.{TestsExist}
use Rattle.grammar_laws.proofs.Slots.{same_slot, slots, child_among, start_among, star_decided, terminal_decided, some_rule, each_child, each_needed, needed_on, child_slot_decided}

module _ (g : Grammar) where
  -- ---- nullable

  nullable_grows : (k : ℕ) (slot : Slot) → IsNullableIn k g slot → IsNullableIn (suc k) g slot
  nullable_grows zero slot h = absurd h
  nullable_grows (suc k) slot (i, lt, fits, inl star) = (i, lt, fits, inl star)
  nullable_grows (suc k) slot (i, lt, fits, inr each) = (i, lt, fits, inr (λ n nl. nullable_grows k (child_slot (rule_at g i) n) (each n nl)))

  nullable_next : (j k : ℕ) → ((s : Slot) → Among s (slots g) → IsNullableIn j g s → IsNullableIn k g s) → (slot : Slot) → IsNullableIn (suc j) g slot → IsNullableIn (suc k) g slot
  nullable_next j k f slot (i, lt, fits, inl star) = (i, lt, fits, inl star)
  nullable_next j k f slot (i, lt, fits, inr each) = (i, lt, fits, inr (λ n nl. f (child_slot (rule_at g i) n) (child_among g i n lt nl) (each n nl)))

  nullable_rounds : AreRounds (slots g) (λ s. Unit {0}) (λ k s. IsNullableIn k g s)
  nullable_rounds = record {
    members = λ s m. tt;
    grows = λ k s u h. nullable_grows k s h;
    next = λ j k f s u h. nullable_next j k f s h;
    first_decided = λ s u. inr (λ h. h);
    next_decided = λ k d s u.
        some_rule g s (λ rule. IsStar rule ⊎ EachChildSlot (IsNullableIn k g) rule)
        (λ i lt. one_of (star_decided (rule_at g i)) (each_child (IsNullableIn k g) (rule_at g i) (λ n nl. d (child_slot (rule_at g i) n) (child_among g i n lt nl))));
  }

  pub nullable_decided : (slot : Slot) → IsDecided (IsNullable g slot)
  nullable_decided slot = decided (slots g) (λ s. Unit {0}) (λ k s. IsNullableIn k g s) nullable_rounds slot tt

  -- ---- productive

  productive_grows : (k : ℕ) (slot : Slot) → IsProductiveIn k g slot → IsProductiveIn (suc k) g slot
  productive_grows zero slot h = inl h
  productive_grows (suc k) slot (inl h) = inl h
  productive_grows (suc k) slot (inr (i, lt, fits, inl star)) = inr (i, lt, fits, inl star)
  productive_grows (suc k) slot (inr (i, lt, fits, inr each)) =
      inr (i, lt, fits, inr (needed_on (IsProductiveIn k g) (IsProductiveIn (suc k) g) (rule_at g i) (λ n nl h. productive_grows k (child_slot (rule_at g i) n) h) each))

  productive_next : (j k : ℕ) → ((s : Slot) → Among s (slots g) → IsProductiveIn j g s → IsProductiveIn k g s) → (slot : Slot) → IsProductiveIn (suc j) g slot → IsProductiveIn (suc k) g slot
  productive_next j k f slot (inl h) = inl h
  productive_next j k f slot (inr (i, lt, fits, inl star)) = inr (i, lt, fits, inl star)
  productive_next j k f slot (inr (i, lt, fits, inr each)) =
      inr (i, lt, fits, inr (needed_on (IsProductiveIn j g) (IsProductiveIn k g) (rule_at g i) (λ n nl h. f (child_slot (rule_at g i) n) (child_among g i n lt nl) h) each))

  productive_rounds : AreRounds (slots g) (λ s. Unit {0}) (λ k s. IsProductiveIn k g s)
  productive_rounds = record {
    members = λ s m. tt;
    grows = λ k s u h. productive_grows k s h;
    next = λ j k f s u h. productive_next j k f s h;
    first_decided = λ s u. terminal_decided g s.symbol;
    next_decided = λ k d s u.
        one_of (terminal_decided g s.symbol)
        (some_rule g s (λ rule. IsStar rule ⊎ EachNeeded (IsProductiveIn k g) rule)
        (λ i lt. one_of (star_decided (rule_at g i)) (each_needed (IsProductiveIn k g) (rule_at g i) (λ n nl. d (child_slot (rule_at g i) n) (child_among g i n lt nl)))));
  }

  pub productive_decided : (slot : Slot) → IsDecided (IsProductive g slot)
  productive_decided slot = decided (slots g) (λ s. Unit {0}) (λ k s. IsProductiveIn k g s) productive_rounds slot tt

  pub live_decided : (rule : WrittenRule) → IsDecided (IsLive g rule)
  live_decided rule = each_needed (IsProductive g) rule (λ k kl. productive_decided (child_slot rule k))

  -- ---- accessible

  -- the slot may stand below that one
  abbrev pub Below : Slot → Slot → Type 0
  Below above slot = IsProductive g slot × SomeRule g above (λ rule. IsLive g rule × IsChildSlot rule slot)

  below_decided : (above slot : Slot) → IsDecided (Below above slot)
  below_decided above slot =
      both (productive_decided slot)
      (some_rule g above (λ rule. IsLive g rule × IsChildSlot rule slot) (λ i lt. both (live_decided (rule_at g i)) (child_slot_decided (rule_at g i) slot)))

  -- in so many steps at most
  abbrev Reached : ℕ → Slot → Type 0
  Reached zero slot = IsAccessibleIn zero g slot
  Reached (suc k) slot = IsAccessibleIn zero g slot ⊎ ((above : Slot) × Reached k above × Below above slot)

  reached_grows : (k : ℕ) (slot : Slot) → Reached k slot → Reached (suc k) slot
  reached_grows zero slot h = inl h
  reached_grows (suc k) slot (inl h) = inl h
  reached_grows (suc k) slot (inr (above, h, b)) = inr (above, reached_grows k above h, b)

  start_decided : (slot : Slot) → IsDecided (IsAccessibleIn zero g slot)
  start_decided slot =
      moved (λ (s, m, e). (s, contains_from g.starts s m, e)) (λ (s, c, e). (s, among_from g.starts s c, e))
      (some_among (λ s. slot ≡ slot_of s) g.starts (λ s m. same_slot slot (slot_of s)))

  start_member : (slot : Slot) → IsAccessibleIn zero g slot → Among slot (slots g)
  start_member slot (s, c, e) = subst (λ t. Among t (slots g)) (sym e) (start_among g s c)

  below_member : (above slot : Slot) → Below above slot → Among slot (slots g)
  below_member above slot (prod, (i, lt, fits, (live, (k, kl, e)))) = subst (λ t. Among t (slots g)) e (child_among g i k lt kl)

  reached_member : (k : ℕ) (slot : Slot) → Reached k slot → Among slot (slots g)
  reached_member zero slot h = start_member slot h
  reached_member (suc k) slot (inl h) = start_member slot h
  reached_member (suc k) slot (inr (above, h, b)) = below_member above slot b

  reached_rounds : AreRounds (slots g) (λ s. Unit {0}) Reached
  reached_rounds = record {
    members = λ s m. tt;
    grows = λ k s u h. reached_grows k s h;
    next = λ j k f s u h. elim h [ inl a ↦ inl a | inr (above, a, b) ↦ inr (above, f above (reached_member j above a) a, b) ];
    first_decided = λ s u. start_decided s;
    next_decided = λ k d s u.
        one_of (start_decided s)
        (moved (λ (above, m, (h, b)). (above, h, b)) (λ (above, h, b). (above, reached_member k above h, (h, b)))
        (some_among (λ above. Reached k above × Below above s) (slots g) (λ above m. both (d above m) (below_decided above s))));
  }

  to_accessible : (k : ℕ) (slot : Slot) → Reached k slot → IsAccessible g slot
  to_accessible zero slot h = (0, h)
  to_accessible (suc k) slot (inl h) = (0, h)
  to_accessible (suc k) slot (inr (above, h, (prod, some))) = let (n, a) = to_accessible k above h in (suc n, (above, a, prod, some))

  from_accessible : (k : ℕ) (slot : Slot) → IsAccessibleIn k g slot → Reached k slot
  from_accessible zero slot h = h
  from_accessible (suc k) slot (above, h, prod, some) = inr (above, from_accessible k above h, (prod, some))

  pub accessible_decided : (slot : Slot) → IsDecided (IsAccessible g slot)
  accessible_decided slot =
      moved (λ (k, h). to_accessible k slot h) (λ (k, h). (k, from_accessible k slot h)) (decided (slots g) (λ s. Unit {0}) Reached reached_rounds slot tt)

  pub accessible_member : (slot : Slot) → IsAccessible g slot → Among slot (slots g)
  accessible_member slot (k, h) = reached_member k slot (from_accessible k slot h)

pub tests_exist : TestsExist
tests_exist g = record {
  nullable = λ s. test_of (nullable_decided g s);
  nullable_is = λ s. (true_test (nullable_decided g s), test_true (nullable_decided g s));
  productive = λ s. test_of (productive_decided g s);
  productive_is = λ s. (true_test (productive_decided g s), test_true (productive_decided g s));
  accessible = λ s. test_of (accessible_decided g s);
  accessible_is = λ s. (true_test (accessible_decided g s), test_true (accessible_decided g s));
}
