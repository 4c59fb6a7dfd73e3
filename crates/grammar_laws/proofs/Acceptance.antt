-- Whether a terminal is acceptable at a place of a checked grammar is decided, over edges that are decided and go forward. What
-- comes after the terminal is not told: there each productive slot may span nothing.
use Rattle.std.proofs.Common.{arith, ◌≡◌, ◌⊎◌, inl, inr, ℕ, zero, suc, ◌+◌, ◌<◌, ◌≤◌, IsTrue, IsFalse, List, [], ◌∷◌, ◌++◌, length, Option, Some, None, slice_get, refl, sym, ◌∙◌, ap, subst, length-append, true≢false}
use Rattle.finite_sets.proofs.Lists.{get_left, get_right}
use Rattle.grammar_model.specs.Grammar.{WrittenRule, SequenceRule, Plain, Sequence, Grammar, Slot, slot_of, rule_at, IsTerminal, Fits, child_slot, ends_with_separator, IsChildCount, EachChildSlot}
use Rattle.grammar_model.specs.Trees.{Tree, Children, Leaf, Nulled, Node, NoChild, Child, child_count}
use Rattle.grammar_model.specs.Analysis.{IsNullable, IsProductiveIn, IsProductive, EachNeeded}
use Rattle.grammar_model.specs.Derives.{Edges, Held, Line, Derives, DerivesPrefix}
use Rattle.grammar_model.specs.Checked.{ItemsSpan}
use Rattle.grammar_model.specs.Acceptable.{Spells, IsAcceptable}
use Rattle.grammar_model.proofs.Productive.{nullable_by, item_first}
use Rattle.recognizer_model.proofs.Moved.{moved as moved_tree, moved_all, count-moved, tree_moved, prefix_moved}
use Rattle.recognizer_model.proofs.Words.{line_forward, spells-append}
use Rattle.finite_sets.specs.Decided.{IsDecided}
use Rattle.finite_sets.proofs.Deciding.{both, one_of, moved, equal, at_most, is_true}
use Rattle.grammar_laws.specs.Laws.{GoForward, Told, AcceptableAreDecided, ToldAcceptableAreDecided}
use Rattle.grammar_laws.proofs.Tests.{nullable_decided, productive_decided}
use Rattle.grammar_laws.proofs.Facts.{class, after, class_zero, class_after, class_count, slot_same, Fact, TreeOf, PrefixOf, Base, Next, In, tree_in, fact_decided}
use Rattle.grammar_laws.proofs.ItemSets.{AreEdgesDecided, held_decided}

-- ---- words

none_some : (s : ℕ) → Path (Option ℕ) None (Some s) → ⊥
none_some s e = absurd (cc)

module _ (g : Grammar) where
  abbrev HasWord : Slot → List ℕ → Type 0
  HasWord s ws = (tree : Tree) × Derives g (Line ws) s 0 (length ws) tree

  abbrev HasPrefix : WrittenRule → ℕ → List ℕ → Type 0
  HasPrefix rule n ws = (cs : Children) × DerivesPrefix g (Line ws) rule 0 (length ws) cs × (child_count cs ≡ n)

  no_word : (s : Slot) (q : ℕ) → IsNullable g s → HasWord s []
  no_word s q h = (Nulled s.symbol 0, record { symbol_is = refl; from_is = refl; to_is = refl; nullable = h })

  one_word : (s : Slot) → IsTerminal g s.symbol → HasWord s (s.symbol ∷ [])
  one_word s h = (Leaf s.symbol 0 1, record { symbol_is = refl; from_is = refl; to_is = refl; terminal = h; held = (refl, refl) })

  -- one child more
  longer : (rule : WrittenRule) (n : ℕ) (ws vs : List ℕ) → HasPrefix rule n ws → HasWord (child_slot rule n) vs → HasPrefix rule (suc n) (ws ++ vs)
  longer rule n ws vs (cs, f, e) (tree, d) =
      let ends : length ws + length vs ≡ length (ws ++ vs) = sym (length-append ws vs) in
      let starts : length ws + 0 ≡ length ws = omega arith in
      let prefix =
      prefix_moved g (Line ws) (Line (ws ++ vs)) (λ k. k) (length ws) (line_forward ws) (λ a b lt le. lt) (λ s a b h le. (get_left ws vs a s h.0, h.1)) cs rule 0 (length ws) (omega arith) f in
      let last =
      tree_moved g (Line vs) (Line (ws ++ vs)) (λ k. length ws + k) (length vs) (line_forward vs) (λ a b lt le. omega (arith, lt)) (λ s a b h le. (get_right ws vs a s h.0, (let z = h.1 in omega (arith, z)))) tree (child_slot rule n) 0 (length vs) (omega arith) d in
      let placed =
      subst (λ b. Derives g (Line (ws ++ vs)) (child_slot rule n) (length ws) b (moved_tree (λ k. length ws + k) tree)) ends
      (subst (λ a. Derives g (Line (ws ++ vs)) (child_slot rule n) a (length ws + length vs) (moved_tree (λ k. length ws + k) tree)) starts last) in
      let count : child_count (moved_all (λ k. k) cs) ≡ n = count-moved (λ k. k) cs ∙ e in (
        Child (moved_all (λ k. k) cs) (moved_tree (λ k. length ws + k) tree),
        (length ws, prefix, subst (λ m. Derives g (Line (ws ++ vs)) (child_slot rule m) (length ws) (length (ws ++ vs)) (moved_tree (λ k. length ws + k) tree)) (sym count) placed),
        ap suc count,
      )

  no_prefix : (rule : WrittenRule) → HasPrefix rule 0 []
  no_prefix rule = (NoChild, refl, refl)

  node_word : (i n : ℕ) (s : Slot) (ws : List ℕ) → i < length g.rules → Fits (rule_at g i) s → IsChildCount (rule_at g i) n → 0 < length ws → HasPrefix (rule_at g i) n ws → HasWord s ws
  node_word i n s ws lt fits count some (cs, d, e) = (
    Node i cs 0 (length ws),
    record {
      from_is = refl;
      to_is = refl;
      spans = some;
      in_range = lt;
      fits = fits;
      complete = subst (IsChildCount (rule_at g i)) (sym e) count;
      prefix = d;
    },
  )

  -- what derives no word is nullable
  empty_null : (s : Slot) → HasWord s [] → IsNullable g s
  empty_null s (Leaf x a b, d) = absurd (none_some x d.held.0)
  empty_null s (Nulled x a, d) = d.nullable
  empty_null s (Node i cs a b, d) = let lt = d.spans in absurd (omega (arith, lt))

  -- ---- a productive slot has a word

  -- the first parts of a rule, which are nullable where they have no word
  abbrev HasParts : WrittenRule → ℕ → Type 0
  HasParts rule n = (ws : List ℕ) × HasPrefix rule n ws × (length ws ≡ 0 → (j : ℕ) → j < n → IsNullable g (child_slot rule j))

  nil_of : (ws : List ℕ) → length ws ≡ 0 → ws ≡ []
  nil_of [] e = refl
  nil_of (x ∷ ws) e = absurd (omega (arith, e))

  parts_word : (rule : WrittenRule) (n : ℕ) → ((j : ℕ) → j < n → (ws : List ℕ) × HasWord (child_slot rule j) ws) → HasParts rule n
  parts_word rule zero h = ([], no_prefix rule, λ e j lt. absurd (omega (arith, lt)))
  parts_word rule (suc n) h = go (parts_word rule n (λ j lt. h j (omega (arith, lt)))) (h n (omega arith))
    where
      or_last : (j n : ℕ) → j < suc n → (j < n) ⊎ (n ≡ j)
      or_last j n lt = grind arith

      go : HasParts rule n → (ws : List ℕ) × HasWord (child_slot rule n) ws → HasParts rule (suc n)
      go (ws, prefix, null) (vs, word) = (
        ws ++ vs,
        longer rule n ws vs prefix word,
        λ e j lt. let long = length-append ws vs in elim (or_last j n lt) [
          | inl less ↦ null (omega (arith, e, long)) j less
          | inr same ↦ subst (λ m. IsNullable g (child_slot rule m)) same (empty_null (child_slot rule n) (subst (HasWord (child_slot rule n)) (nil_of vs (omega (arith, e, long))) word))
        ],
      )

  some_or : (n : ℕ) → (n ≡ 0) ⊎ (0 < n)
  some_or n = grind arith

  one_child : (r : SequenceRule) → IsChildCount (Sequence r) 1
  one_child r = (omega arith, last r.separator)
    where
      last : (separator : Option ℕ) → IsTrue (ends_with_separator separator 1) → IsFalse r.proper
      last None h = absurd (true≢false (sym h))
      last (Some c) h = absurd (true≢false (sym h))

  module _ (span : ItemsSpan g) where
    rule_word : (i : ℕ) (s : Slot) (rule : WrittenRule) → rule_at g i ≡ rule → i < length g.rules → Fits (rule_at g i) s → EachNeeded (λ t. (ws : List ℕ) × HasWord t ws) rule → (ws : List ℕ) × HasWord s ws
    rule_word i s (Plain r) e lt fits each = go (parts_word (Plain r) (length r.rhs) each)
      where
        go : HasParts (Plain r) (length r.rhs) → (ws : List ℕ) × HasWord s ws
        go (ws, prefix, null) = elim (some_or (length ws)) [
          | inl none ↦ ([], no_word s 0 (nullable_by g i s lt fits (subst (EachChildSlot (IsNullable g)) (sym e) (null none))))
          | inr some ↦ (ws, node_word i (length r.rhs) s ws lt fits (subst (λ rule. IsChildCount rule (length r.rhs)) (sym e) refl) some (subst (λ rule. HasPrefix rule (length r.rhs) ws) (sym e) prefix))
        ]
    rule_word i s (Sequence r) e lt fits (ws, word) =
        let item : slot_of r.item ≡ child_slot (Sequence r) 0 = ap slot_of (sym (item_first r.item r.separator)) in
        let first = subst (λ t. HasWord t ws) item word in
        let prefix = longer (Sequence r) 0 [] ws (no_prefix (Sequence r)) first in
        elim (some_or (length ws)) [
          | inl none ↦ absurd (span i lt (r, e, (0, omega arith, empty_null (child_slot (Sequence r) 0) (subst (HasWord (child_slot (Sequence r) 0)) (nil_of ws none) first))))
          | inr some ↦ (ws, node_word i 1 s ws lt fits (subst (λ rule. IsChildCount rule 1) (sym e) (one_child r)) some (subst (λ rule. HasPrefix rule 1 ws) (sym e) prefix))
        ]

    needed_words : (k : ℕ) (rule : WrittenRule) → ((t : Slot) → IsProductiveIn k g t → (ws : List ℕ) × HasWord t ws) → EachNeeded (IsProductiveIn k g) rule → EachNeeded (λ t. (ws : List ℕ) × HasWord t ws) rule
    needed_words k (Plain r) f each = λ j jl. f (child_slot (Plain r) j) (each j jl)
    needed_words k (Sequence r) f each = f (slot_of r.item) each

    productive_word : (k : ℕ) (s : Slot) → IsProductiveIn k g s → (ws : List ℕ) × HasWord s ws
    productive_word zero s h = (s.symbol ∷ [], one_word s h)
    productive_word (suc k) s (inl h) = (s.symbol ∷ [], one_word s h)
    productive_word (suc k) s (inr (i, lt, fits, inl star)) = ([], no_word s 0 (1, (i, lt, fits, inl star)))
    productive_word (suc k) s (inr (i, lt, fits, inr each)) = rule_word i s (rule_at g i) refl lt fits (needed_words k (rule_at g i) (λ t h. productive_word k t h) each)

-- ---- what is found with an open end

module _ (g : Grammar) (E : Edges) (forward : GoForward E) (t p : ℕ) where
  -- the edges up to the place, and the terminal after it
  abbrev Before : Edges
  Before s a b = (E s a b × (b ≤ p)) ⊎ ((s ≡ t) × (a ≡ p) × (b ≡ suc p))

  abbrev Free : ℕ → Slot → Type 0
  Free q s = IsNullable g s ⊎ ((q ≡ suc p) × IsProductive g s)

  -- after the terminal each word stays
  abbrev Open : Edges
  Open s a b = Before s a b ⊎ ((a ≡ suc p) × (b ≡ suc p))

  abbrev Made : Fact → Type 0
  Made (TreeOf s a b) = (ws : List ℕ) × Spells Open a b ws × HasWord g s ws
  Made (PrefixOf i c a b) = (ws : List ℕ) × Spells Open a b ws × ((n : ℕ) × HasPrefix g (rule_at g i) n ws × (class (rule_at g i) n ≡ c))

  stays : (ws : List ℕ) → Spells Open (suc p) (suc p) ws
  stays [] = refl
  stays (x ∷ ws) = (suc p, inr (refl, refl), stays ws)

  some_word : (a b : ℕ) (ws : List ℕ) → Spells Open a b ws → a < b → 0 < length ws
  some_word a b [] e lt = absurd (omega (arith, e, lt))
  some_word a b (x ∷ ws) h lt = omega arith

  module _ (span : ItemsSpan g) where
    free_word : (q : ℕ) (s : Slot) → Free q s → (ws : List ℕ) × Spells Open q q ws × HasWord g s ws
    free_word q s (inl h) = ([], refl, no_word g s q h)
    free_word q s (inr (e, (k, h))) = let (ws, word) = productive_word g span k s h in (ws, subst (λ q. Spells Open q q ws) (sym e) (stays ws), word)

    base_made : (x : Fact) → Base g Before Free x → Made x
    base_made (TreeOf s a b) (inl (terminal, h)) = (s.symbol ∷ [], (b, inl h, refl), one_word g s terminal)
    base_made (TreeOf s a b) (inr (e, free)) = let (ws, path, word) = free_word a s free in (ws, subst (λ q. Spells Open a q ws) e path, word)
    base_made (PrefixOf i c a b) (z, e) = ([], e, (0, no_prefix g (rule_at g i), class_zero (rule_at g i) ∙ sym z))

    next_made : (R : Fact → Type 0) → ((x : Fact) → R x → Made x) → (x : Fact) → Next g Before Free R x → Made x
    next_made R f (TreeOf s a b) (lt, (i, il, (fits, (c, cl, (count, h))))) =
        let (ws, path, (n, prefix, e)) = f (PrefixOf i c a b) h in
        (ws, path, node_word g i n s ws il fits (class_count (rule_at g i) n (subst (IsChildCount (rule_at g i)) (sym e) count)) (some_word a b ws path lt) prefix)
    next_made R f (PrefixOf i c a b) (d, dl, ((e, le), (r, rl, (h, k)))) =
        let (ws, path, (n, prefix, m)) = f (PrefixOf i d a r) h in
        let (vs, more, word) = f (TreeOf (child_slot (rule_at g i) d) r b) k in
        let same : child_slot (rule_at g i) d ≡ child_slot (rule_at g i) n = ap (child_slot (rule_at g i)) (sym m) ∙ slot_same (rule_at g i) n in (
          ws ++ vs,
          spells-append Open a r b ws vs path more,
          (suc n, longer g (rule_at g i) n ws vs prefix (subst (λ s. HasWord g s vs) same word), class_after (rule_at g i) n ∙ (ap (after (rule_at g i)) m ∙ e)),
        )

    made : (k : ℕ) (x : Fact) → In g Before Free k x → Made x
    made zero x b = base_made x b
    made (suc k) x (inl b) = base_made x b
    made (suc k) x (inr n) = next_made (In g Before Free k) (λ y h. made k y h) x n

  -- a path to after the terminal has the terminal
  abbrev Parts : ℕ → List ℕ → Type 0
  Parts a ws = (before : List ℕ) × (rest : List ℕ) × (ws ≡ before ++ t ∷ rest) × Spells E a p before

  parted : (ws : List ℕ) (a : ℕ) → a ≤ p → Spells Open a (suc p) ws → Parts a ws
  parted [] a le e = absurd (omega (arith, le, e))
  parted (x ∷ ws) a le (r, inl (inl (h, low)), path) = let (before, rest, e, s) = parted ws r low path in (x ∷ before, rest, ap (λ l. x ∷ l) e, (r, h, s))
  parted (x ∷ ws) a le (r, inl (inr (same, at, to)), path) = ([], ws, ap (λ y. y ∷ ws) same, at)
  parted (x ∷ ws) a le (r, inr (at, to), path) = absurd (omega (arith, le, at))

  from_fact : ItemsSpan g → (start k : ℕ) → In g Before Free k (TreeOf (slot_of start) 0 (suc p)) → IsAcceptable g E start t p
  from_fact span start k h =
      let (ws, path, (tree, d)) = made span k (TreeOf (slot_of start) 0 (suc p)) h in
      let (before, rest, e, s) = parted ws 0 (omega arith) path in
      record { before = before; after = rest; tree = tree; spelled = s; derived = subst (λ w. Derives g (Line w) (slot_of start) 0 (length w) tree) e d }

  -- ---- the places of a word's positions: after the terminal all are one

  path_low : (w : List ℕ) (a : ℕ) → Spells E a p w → a ≤ p
  path_low [] a e = omega (arith, e)
  path_low (x ∷ w) a (r, h, s) = let lt = forward x a r h in let le = path_low w r s in omega (arith, lt, le)

  place : (w : List ℕ) (a : ℕ) → Spells E a p w → ℕ → ℕ
  place [] a s zero = a
  place [] a s (suc k) = suc p
  place (x ∷ w) a s zero = a
  place (x ∷ w) a (r, h, s) (suc k) = place w r s k

  place_first : (w : List ℕ) (a : ℕ) (s : Spells E a p w) → place w a s 0 ≡ a
  unfolding place
  place_first [] a s = refl
  place_first (x ∷ w) a s = refl

  place_most : (w : List ℕ) (a : ℕ) (s : Spells E a p w) (k : ℕ) → place w a s k ≤ suc p
  unfolding place
  place_most [] a s zero = omega (arith, s)
  place_most [] a s (suc k) = omega arith
  place_most (x ∷ w) a s zero = let le = path_low (x ∷ w) a s in omega (arith, le)
  place_most (x ∷ w) a (r, h, s) (suc k) = place_most w r s k

  place_last : (w : List ℕ) (a : ℕ) (s : Spells E a p w) (k : ℕ) → length w < k → place w a s k ≡ suc p
  unfolding place
  place_last [] a s zero lt = absurd (omega (arith, lt))
  place_last [] a s (suc k) lt = refl
  place_last (x ∷ w) a s zero lt = absurd (omega (arith, lt))
  place_last (x ∷ w) a (r, h, s) (suc k) lt = place_last w r s k (omega (arith, lt))

  abbrev Behind : (from to : ℕ) → Type 0
  Behind from to = (from ≡ suc p) × (to ≡ suc p)

  place_step : (w : List ℕ) (a : ℕ) (s : Spells E a p w) (k : ℕ) → (place w a s k < place w a s (suc k)) ⊎ Behind (place w a s k) (place w a s (suc k))
  unfolding place
  place_step [] a s zero = inl (omega (arith, s))
  place_step [] a s (suc k) = inr (refl, refl)
  place_step (x ∷ w) a (r, h, s) zero = let first = place_first w r s in let lt = forward x a r h in inl (omega (arith, first, lt))
  place_step (x ∷ w) a (r, h, s) (suc k) = place_step w r s k

  place_edge : (w rest : List ℕ) (a : ℕ) (s : Spells E a p w) (k x : ℕ) → slice_get (w ++ t ∷ rest) k ≡ Some x → Before x (place w a s k) (place w a s (suc k)) ⊎ Behind (place w a s k) (place w a s (suc k))
  unfolding place
  place_edge [] rest a s zero x e = let same : x ≡ t = cc in inl (inr (same, s, refl))
  place_edge [] rest a s (suc k) x e = inr (refl, refl)
  place_edge (y ∷ w) rest a (r, h, s) zero x e =
      let same : y ≡ x = cc in
      let first = place_first w r s in
      let low = path_low w r s in
      inl (inl (subst (λ b. E x a b) (sym first) (subst (λ z. E z a r) same h), omega (arith, first, low)))
  place_edge (y ∷ w) rest a (r, h, s) (suc k) x e = place_edge w rest r s k x e

  module _ (w : List ℕ) (s : Spells E 0 p w) where
    place_rise : (a b : ℕ) → a ≤ b → place w 0 s a ≤ place w 0 s b
    place_rise a zero le = let e : a ≡ 0 = omega (arith, le) in let same = ap (place w 0 s) e in omega (arith, same)
    place_rise a (suc b) le = elim (or_same a b le) [
      | inl low ↦ (let h = place_rise a b low in elim (place_step w 0 s b) [ inl lt ↦ omega (arith, h, lt) | inr (x, y) ↦ omega (arith, h, x, y) ])
      | inr e ↦ (let same = ap (place w 0 s) e in omega (arith, same))
    ]
      where
        or_same : (a b : ℕ) → a ≤ suc b → (a ≤ b) ⊎ (a ≡ suc b)
        or_same a b le = grind arith

    place_node : (a b : ℕ) → a < b → (place w 0 s a < place w 0 s b) ⊎ ((place w 0 s a ≡ place w 0 s b) × ((slot : Slot) → IsProductive g slot → Free (place w 0 s a) slot))
    place_node a b lt =
        let le = place_rise (suc a) b (omega (arith, lt)) in
        let most = place_most w 0 s b in
        elim (place_step w 0 s a) [ inl less ↦ inl (omega (arith, le, less)) | inr (x, y) ↦ inr ((omega (arith, le, most, x, y)), λ slot h. inr (x, h)) ]

    place_leaf : (rest : List ℕ) (x a b : ℕ) → IsTerminal g x → Line (w ++ t ∷ rest) x a b → Before x (place w 0 s a) (place w 0 s b) ⊎ ((place w 0 s a ≡ place w 0 s b) × ((slot : Slot) → slot.symbol ≡ x → Free (place w 0 s a) slot))
    place_leaf rest x a b terminal (at, next) =
        subst (λ c. Before x (place w 0 s a) (place w 0 s c) ⊎ ((place w 0 s a ≡ place w 0 s c) × ((slot : Slot) → slot.symbol ≡ x → Free (place w 0 s a) slot))) (sym next)
        (elim (place_edge w rest 0 s a x at) [ inl h ↦ inl h | inr (i, j) ↦ inr (i ∙ sym j, λ slot e. inr (i, (0, subst (IsTerminal g) (sym e) terminal))) ])

  to_fact : (start : ℕ) → IsAcceptable g E start t p → (k : ℕ) × In g Before Free k (TreeOf (slot_of start) 0 (suc p))
  to_fact start a =
      let words = a.before ++ t ∷ a.after in
      let (k, h) =
      tree_in g Before Free (Line words) (line_forward words) (place a.before 0 a.spelled) (place_rise a.before a.spelled) (λ q s h. inl h) (place_leaf a.before a.spelled a.after) (place_node a.before a.spelled)
      a.tree (slot_of start) 0 (length words) a.derived in
      let long = length-append a.before (t ∷ a.after) in (
        k,
        subst (λ n. In g Before Free k (TreeOf (slot_of start) 0 n)) (place_last a.before 0 a.spelled (length words) (omega (arith, long)))
            (subst (λ n. In g Before Free k (TreeOf (slot_of start) n (place a.before 0 a.spelled (length words)))) (place_first a.before 0 a.spelled) h),
      )

  -- ---- the decision

  before_decided : AreEdgesDecided E → AreEdgesDecided Before
  before_decided edge s a b = one_of (both (edge s a b) (at_most b p)) (moved (λ (x, (y, z)). (x, y, z)) (λ (x, y, z). (x, (y, z))) (both (equal s t) (both (equal a p) (equal b (suc p)))))

  free_decided : (q : ℕ) (s : Slot) → IsDecided (Free q s)
  free_decided q s = one_of (nullable_decided g s) (both (equal q (suc p)) (productive_decided g s))

  pub acceptable_decided : ItemsSpan g → AreEdgesDecided E → (start : ℕ) → IsDecided (IsAcceptable g E start t p)
  acceptable_decided span edge start =
      moved (λ (k, h). from_fact span start k h) (λ a. to_fact start a) (fact_decided g Before Free (before_decided edge) free_decided (suc p) (TreeOf (slot_of start) 0 (suc p)) (omega arith, omega arith))

pub acceptable_are_decided : AcceptableAreDecided
acceptable_are_decided w edges start t place checked forward = acceptable_decided w (Held edges) forward t place checked.items_span (held_decided edges) start

pub told_acceptable_are_decided : ToldAcceptableAreDecided
told_acceptable_are_decided w test start t place checked forward = acceptable_decided w (Told test) forward t place checked.items_span (λ s a b. is_true (test s a b)) start
