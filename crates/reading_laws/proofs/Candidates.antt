-- What could come next is decided: candidates, the longest match, and what is kept of it, skipped, found and expected.
use Rattle.std.proofs.Common.{arith, ◌≡◌, ◌⊎◌, ◌↔◌, inl, inr, ℕ, suc, ◌+◌, ◌<◌, ◌≤ℤ◌, IsFalse, List, [], ◌∷◌, ◌++◌, length, map, Contains, slice_index, refl, sym, ◌∙◌, ap, subst}
use Rattle.std.specs.List.Sorted.{IsStrictlySortedBy}
use Rattle.std.specs.declared.cmp.Ordering.{Ordering}
use Rattle.std.specs.declared.cmp.Ordering.TheVariants.{Less, Equal, Greater}
use Rattle.std.specs.Ordering.{nat_cmp, is_eq, ordering_reverse}
use Rattle.std.specs.Cmp.Lexicographic.{slice_cmp}
use Rattle.std.proofs.lemmas.Cmp.{nat_cmp_total, nat_list_cmp_total}
use Rattle.std.proofs.lemmas.Map.Text.{is_eq-slice_cmp}
use Rattle.std.proofs.lemmas.Slice.Eq.{bytes_eq-Decides}
use Rattle.grammar_check.proofs.SlotCycles.{nat_cases}
use Rattle.grammar_model.specs.declared.Edge.{Edge}
use Rattle.grammar_model.specs.Derives.{Held}
use Rattle.grammar_model.specs.Values.{name_of}
use Rattle.grammar_model.specs.Checked.{IsChecked}
use Rattle.language_model.specs.Building.{Built, LexemeRow}
use Rattle.reading_model.specs.Matches.{Matches}
use Rattle.reading_model.specs.Reading.{Piece, Token, Skipped, earleme_after, edges_from, edges_of, IsNext, IsCandidate, ADiscard, ALexeme, IsLongest, IsFitting, IsKept, IsSkipped, AreSorted, AreExpected, IsFound, AreFound}
use Rattle.finite_sets.specs.Decided.{IsDecided}
use Rattle.finite_sets.proofs.Deciding.{both, one_of, moved, implied, equal, less, greatest_below, most_decided}
use Rattle.finite_sets.proofs.Members.{Among, among_from, contains_from, among_left, among_right, among_either, among_map, among_map_from, some_among, each_among, member}
use Rattle.finite_sets.proofs.Sorting.{sorted_listed}
use Rattle.grammar_laws.specs.Laws.{GoForward}
use Rattle.grammar_laws.proofs.Slots.{false_or}
use Rattle.grammar_laws.proofs.ItemSets.{held_decided}
use Rattle.grammar_laws.proofs.Acceptance.{acceptable_decided}
use Rattle.reading_laws.specs.Laws.{LexemesAreNamed}
use Rattle.reading_model.proofs.Within.{match_within}
use Rattle.reading_laws.proofs.Matching.{matches_decided}

-- ---- orders

nat_three : (a b : ℕ) → (nat_cmp a b ≡ Less) ⊎ ((a ≡ b) ⊎ (nat_cmp b a ≡ Less))
nat_three a b = elim (nat_cases a b) [
  | inl (e, lt) ↦ inl e
  | inr (inl (e, same)) ↦ inr (inl same)
  | inr (inr (e, gt)) ↦ inr (inr (nat_cmp_total.antisymm b a ∙ ap ordering_reverse e))
]

-- the pieces' edges go forward
edges_forward : (place : ℕ) (pieces : List Piece) (e : Edge) → Among e (edges_from place pieces) → e.from < e.to
edges_forward place [] e m = absurd m
edges_forward place (Token n symbols ∷ pieces) e m = elim (among_either e (map (λ s. record { symbol = s; from = place; to = suc place }) symbols) (edges_from (suc place) pieces) m) [
  | inl here ↦ made (among_map_from (λ s. record { symbol = s; from = place; to = suc place }) e symbols here)
  | inr later ↦ edges_forward (suc place) pieces e later
]
  where
    made : (s : ℕ) × Among s symbols × (Path Edge (record { symbol = s; from = place; to = suc place }) e) → e.from < e.to
    made (s, m, is) = subst (λ (d : Edge). d.from < d.to) is (omega arith)
edges_forward place (Skipped n ∷ pieces) e m = edges_forward place pieces e m

pub pieces_forward : (pieces : List Piece) → GoForward (Held (edges_of pieces))
pieces_forward pieces s p q h = edges_forward 0 pieces (record { symbol = s; from = p; to = q }) (among_from (edges_of pieces) (record { symbol = s; from = p; to = q }) h)

module _ (b : Built) (checked : IsChecked b.g1) (text : List ℕ) (pieces : List Piece) (at : ℕ) where
  next_decided : (symbol : ℕ) → IsDecided (IsNext b pieces symbol)
  next_decided symbol =
      acceptable_decided b.g1 (Held (edges_of pieces)) (pieces_forward pieces) symbol (earleme_after pieces) checked.items_span (held_decided (edges_of pieces)) (slice_index b.g1.starts 0)

  contained : (xs : List ℕ) (x : ℕ) → IsDecided (Contains xs x)
  contained xs x = moved (contains_from xs x) (among_from xs x) (member equal x xs)

  candidate_decided : (start : ℕ) → IsDecided (IsCandidate b pieces start)
  candidate_decided start =
      moved to from
      (one_of (contained b.discards start) (some_among (λ l. (l.start ≡ start) × (IsFalse l.latm ⊎ IsNext b pieces l.symbol)) b.lexemes (λ l m. both (equal l.start start) (one_of (false_or l.latm) (next_decided l.symbol)))))
    where
      to : Contains b.discards start ⊎ ((l : LexemeRow) × Among l b.lexemes × ((l.start ≡ start) × (IsFalse l.latm ⊎ IsNext b pieces l.symbol))) → IsCandidate b pieces start
      to (inl c) = ADiscard c
      to (inr (l, m, (e, h))) = ALexeme l (contains_from b.lexemes l m) e h

      from : IsCandidate b pieces start → Contains b.discards start ⊎ ((l : LexemeRow) × Among l b.lexemes × ((l.start ≡ start) × (IsFalse l.latm ⊎ IsNext b pieces l.symbol)))
      from (ADiscard c) = inl c
      from (ALexeme l c e h) = inr (l, among_from b.lexemes l c, (e, h))

  -- ---- the longest match

  abbrev start_by : LexemeRow → ℕ
  start_by l = l.start

  candidate_among : (start : ℕ) → IsCandidate b pieces start → Among start (b.discards ++ map start_by b.lexemes)
  candidate_among start (ADiscard c) = among_left start b.discards (map start_by b.lexemes) (among_from b.discards start c)
  candidate_among start (ALexeme l c e h) = among_right start b.discards (map start_by b.lexemes) (subst (λ s. Among s (map start_by b.lexemes)) e (among_map start_by l b.lexemes (among_from b.lexemes l c)))

  abbrev HasMatch : ℕ → Type 0
  HasMatch n = (start : ℕ) × IsCandidate b pieces start × Matches b text start at (at + n)

  match_decided : (n : ℕ) → IsDecided (HasMatch n)
  match_decided n =
      moved (λ (s, m, (c, h)). (s, c, h)) (λ (s, c, h). (s, candidate_among s c, (c, h)))
      (some_among (λ s. IsCandidate b pieces s × Matches b text s at (at + n)) (b.discards ++ map start_by b.lexemes) (λ s m. both (candidate_decided s) (matches_decided b text s at (at + n))))

  some_or : (n : ℕ) → (n ≡ 0) ⊎ (0 < n)
  some_or n = grind arith

  pub longest_or : ((n : ℕ) × IsLongest b text pieces at n) ⊎ ((n : ℕ) → IsLongest b text pieces at n → ⊥)
  longest_or = elim (greatest_below (λ n. (0 < n) × HasMatch n) (suc (length text)) (λ n lt. both (less 0 n) (match_decided n))) [
    | inl (n, lt, (some, (start, c, m)), most) ↦ inl (
      n,
      record {
        some = some;
        start = start;
        candidate = c;
        matches = m;
        longest = λ other k oc om. elim (some_or k) [ inl e ↦ omega (arith, e) | inr more ↦ (let w = match_within b text other at k more om in most k (omega (arith, w)) (more, (other, oc, om))) ];
      },
    )
    | inr none ↦ inr (λ n l. let w = match_within b text l.start at n l.some l.matches in none n (omega (arith, w)) (l.some, (l.start, l.candidate, l.matches)))
  ]

  pub one_longest : (m n : ℕ) → IsLongest b text pieces at m → IsLongest b text pieces at n → m ≡ n
  one_longest m n l k = let x = l.longest k.start n k.candidate k.matches in let y = k.longest l.start m l.candidate l.matches in omega (arith, x, y)

  -- ---- what is kept of it

  module _ (n : ℕ) where
    fitting_decided : (l : LexemeRow) → Among l b.lexemes → IsDecided (IsFitting b text pieces at n l)
    fitting_decided l m =
        moved (λ (x, h). record { lexeme = contains_from b.lexemes l m; next = x; matches = h }) (λ f. (f.next, f.matches)) (both (next_decided l.symbol) (matches_decided b text l.start at (at + n)))

    abbrev Highest : LexemeRow → Type 0
    Highest l = (other : LexemeRow) → IsFitting b text pieces at n other → other.priority ≤ℤ l.priority

    highest_decided : (l : LexemeRow) → IsDecided (Highest l)
    highest_decided l =
        moved (λ all o f. all o (among_from b.lexemes o f.lexeme) f) (λ h o m f. h o f)
        (each_among (λ o. IsFitting b text pieces at n o → o.priority ≤ℤ l.priority) b.lexemes (λ o m. implied (fitting_decided o m) (most_decided o.priority l.priority)))

    kept_decided : (symbol : ℕ) → IsDecided (IsKept b text pieces at n symbol)
    kept_decided symbol =
        moved (λ (l, m, (e, (f, h))). record { row = l; symbol_is = e; fitting = f; highest = h }) (λ k. (k.row, among_from b.lexemes k.row k.fitting.lexeme, (k.symbol_is, (k.fitting, k.highest))))
        (some_among (λ l. (l.symbol ≡ symbol) × (IsFitting b text pieces at n l × Highest l)) b.lexemes (λ l m. both (equal l.symbol symbol) (both (fitting_decided l m) (highest_decided l))))

    abbrev symbol_by : LexemeRow → ℕ
    symbol_by l = l.symbol

    lexeme_among : (l : LexemeRow) (symbol : ℕ) → Contains b.lexemes l → l.symbol ≡ symbol → Among symbol (map symbol_by b.lexemes)
    lexeme_among l symbol c e = subst (λ s. Among s (map symbol_by b.lexemes)) e (among_map symbol_by l b.lexemes (among_from b.lexemes l c))

    pub kept_list : (xs : List ℕ) × IsStrictlySortedBy nat_cmp xs × ((symbol : ℕ) → Contains xs symbol ↔ IsKept b text pieces at n symbol)
    kept_list =
        let (xs, (s, is, all)) =
        sorted_listed nat_cmp (λ x. Unit {0}) (λ x y k m. nat_three x y) nat_cmp_total.trans (λ symbol. IsKept b text pieces at n symbol) (map symbol_by b.lexemes) (λ x m. tt) (λ x m. kept_decided x) in
        (xs, s, λ symbol. ((λ c. (is symbol (among_from xs symbol c)).1), (λ k. contains_from xs symbol (all symbol (lexeme_among k.row symbol k.fitting.lexeme k.symbol_is) k))))

    pub skipped_decided : IsDecided (IsSkipped b text pieces at n)
    skipped_decided =
        moved (λ (s, m, h). (s, contains_from b.discards s m, h)) (λ (s, c, h). (s, among_from b.discards s c, h))
        (some_among (λ s. Matches b text s at (at + n)) b.discards (λ s m. matches_decided b text s at (at + n)))

  -- ---- what is found and expected, by name

  module _ (names : LexemesAreNamed b) where
    abbrev by_name : ℕ → ℕ → Ordering
    by_name s t = slice_cmp nat_cmp (name_of b.g1 s) (name_of b.g1 t)

    abbrev IsLexeme : ℕ → Type 0
    IsLexeme s = (l : LexemeRow) × Contains b.lexemes l × (l.symbol ≡ s)

    lexemes : List ℕ
    lexemes = map (λ (l : LexemeRow). l.symbol) b.lexemes

    is_lexeme : (s : ℕ) → Among s lexemes → IsLexeme s
    unfolding lexemes
    is_lexeme s m = let (l, a, e) = among_map_from (λ (l : LexemeRow). l.symbol) s b.lexemes m in (l, contains_from b.lexemes l a, e)

    among_lexemes : (l : LexemeRow) (s : ℕ) → Contains b.lexemes l → l.symbol ≡ s → Among s lexemes
    unfolding lexemes
    among_lexemes l s c e = subst (λ s. Among s (map (λ (l : LexemeRow). l.symbol) b.lexemes)) e (among_map (λ (l : LexemeRow). l.symbol) l b.lexemes (among_from b.lexemes l c))

    same_named : (s t : ℕ) → IsLexeme s → IsLexeme t → name_of b.g1 s ≡ name_of b.g1 t → s ≡ t
    same_named s t (l, c, e) (m, d, f) same = sym e ∙ (names l m c d (ap (name_of b.g1) e ∙ (same ∙ sym (ap (name_of b.g1) f))) ∙ f)

    name_three : (s t : ℕ) → IsLexeme s → IsLexeme t → (by_name s t ≡ Less) ⊎ ((s ≡ t) ⊎ (by_name t s ≡ Less))
    name_three s t k m = go (by_name s t) refl
      where
        go : (o : Ordering) → by_name s t ≡ o → (by_name s t ≡ Less) ⊎ ((s ≡ t) ⊎ (by_name t s ≡ Less))
        go Less e = inl e
        go Equal e = inr (inl (same_named s t k m ((bytes_eq-Decides (name_of b.g1 s) (name_of b.g1 t)).0 (sym (is_eq-slice_cmp (name_of b.g1 s) (name_of b.g1 t)) ∙ ap is_eq e))))
        go Greater e = inr (inr (nat_list_cmp_total.antisymm (name_of b.g1 t) (name_of b.g1 s) ∙ ap ordering_reverse e))

    name_through : (s t u : ℕ) → by_name s t ≡ Less → by_name t u ≡ Less → by_name s u ≡ Less
    name_through s t u = nat_list_cmp_total.trans (name_of b.g1 s) (name_of b.g1 t) (name_of b.g1 u)

    -- a list of lexemes with a decided property, by name
    named_list : (P : ℕ → Type 0) → ((s : ℕ) → IsDecided (P s)) → ((s : ℕ) → P s → Among s lexemes) → (xs : List ℕ) × AreSorted b xs × ((s : ℕ) → Contains xs s ↔ P s)
    named_list P d inside =
        let (xs, (s, is, all)) = sorted_listed by_name IsLexeme name_three name_through P lexemes is_lexeme (λ x m. d x) in
        (xs, s, λ x. ((λ c. (is x (among_from xs x c)).1), (λ p. contains_from xs x (all x (inside x p) p))))

    pub expected_list : (xs : List ℕ) × AreExpected b pieces xs
    expected_list =
        let (xs, s, exact) = named_list (λ symbol. (l : LexemeRow) × Contains b.lexemes l × (l.symbol ≡ symbol) × IsNext b pieces symbol)
        (λ symbol. moved (λ (l, m, (e, x)). (l, contains_from b.lexemes l m, e, x)) (λ (l, c, e, x). (l, among_from b.lexemes l c, (e, x)))
        (some_among (λ l. (l.symbol ≡ symbol) × IsNext b pieces symbol) b.lexemes (λ l m. both (equal l.symbol symbol) (next_decided symbol))))
        (λ symbol (l, c, e, x). among_lexemes l symbol c e) in
        (xs, record { sorted = s; exact = exact })

    found_with : (n : ℕ) → IsLongest b text pieces at n → (symbol : ℕ) → IsDecided (IsFound b text pieces at symbol)
    found_with n is symbol =
        moved (λ (l, m, (e, (c, h))). record { row = l; lexeme = contains_from b.lexemes l m; symbol_is = e; candidate = c; count = n; longest = is; matches = h })
        (λ f. (f.row, among_from b.lexemes f.row f.lexeme, (f.symbol_is, (f.candidate, subst (λ k. Matches b text f.row.start at (at + k)) (one_longest f.count n f.longest is) f.matches))))
        (some_among (λ l. (l.symbol ≡ symbol) × (IsCandidate b pieces l.start × Matches b text l.start at (at + n))) b.lexemes (λ l m. both (equal l.symbol symbol) (both (candidate_decided l.start) (matches_decided b text l.start at (at + n)))))

    found_decided : (symbol : ℕ) → IsDecided (IsFound b text pieces at symbol)
    found_decided symbol = elim longest_or [ inl (n, is) ↦ found_with n is symbol | inr none ↦ inr (λ f. none f.count f.longest) ]

    pub found_list : (xs : List ℕ) × AreFound b text pieces at xs
    found_list =
        let (xs, s, exact) = named_list (λ symbol. IsFound b text pieces at symbol) found_decided (λ symbol f. among_lexemes f.row symbol f.lexeme f.symbol_is) in
        (xs, record { sorted = s; exact = exact })
