-- Glades of heads are the report.
use Rattle.std.proofs.Common.{◌≡◌, ℕ, ◌+◌, ◌<◌, ◌≤◌, true, List, [], ◌∷◌, ◌++◌, length, ◌⊎◌, inl, inr, ◌↔◌, Option, Some, None, Contains, refl, sym, ap, ◌∙◌, subst, arith}
use Rattle.std.specs.Prelude.{slice_get, slice_index_or}
use Rattle.std.specs.List.Sorted.{IsStrictlySortedBy}
use Rattle.std.specs.declared.cmp.Ordering.{Ordering}
use Rattle.std.specs.declared.cmp.Ordering.TheVariants.{Less, Equal, Greater}
use Rattle.std.specs.Ordering.{ordering_then, nat_cmp}
use Rattle.std.specs.Cmp.{tied_itself, nat_cmp_total, nat_cmp_is}
use Rattle.std.proofs.lemmas.Bool.{cases_lt}
use Rattle.finite_sets.proofs.Clauses.{nat_cmp-Equal}
use Rattle.finite_sets.proofs.Lists.{get_index}
use Rattle.finite_sets.proofs.Members.{Among, among_from, contains_from}
use Rattle.grammar_model.specs.Grammar.{Slot}
use Rattle.grammar_model.specs.declared.Ranking.TheVariants.{Rule as RuleRanks}
use Rattle.grammar_model.proofs.Lists.{each_at, each_from}
use Rattle.recognizer_model.specs.declared.flat.FlatSource.TheVariants.{Written}
use Rattle.forest_model.specs.Forest.{Forest, IsForest}
use Rattle.glade_model.specs.Glades.{Shape, Glade, glade_cmp, AreGlades}
use Rattle.glade_laws.specs.Walks.{HasSecond, IsFirst, IsOnly, IsSecond}
use Rattle.glade_laws.specs.Groups.{start_of, IsGroup, shape_at, ComesFrom, AreFirstTwo, IsByGroup}
use Rattle.glade_laws.specs.Groups.AreFirstTwo.{OfOne, OfTwo}
use Rattle.std.proofs.lemmas.Option.{slice_get-get_or}
use Rattle.glade_laws.proofs.Alone.{one_group}
use Rattle.glade_laws.proofs.Listed.{wholes}
use Rattle.glade_laws.proofs.Choosing.{one_first}
use Rattle.glade_laws.proofs.Reported.{second_first, comes_from, report_is}
use Rattle.glade_laws.specs.Walks.IsOnly.{OnlyEnds, OnlyGoes}
use Rattle.glade_laws.specs.Walks.IsFirst.{FirstEnds, FirstGoes}
use Rattle.glades.specs.declared.heads.Head.{Head}
use Rattle.glades.specs.Links.{IsNote}
use Rattle.glades.specs.Heads.{last_place, IsTwo, IsHead, AreHeads, head_cmp, IsGladeOf, AreGladesOf, HasRule, IsOther}
use Rattle.glades.proofs.Noting.{one_note}
use Rattle.glades.proofs.Heading.{one_place, note_of}

-- ---- glades beside heads

module _ (f : Forest) where
  pub glades_push : (hs : List Head) (gs : List Glade) (h : Head) (g : Glade) → AreGladesOf f hs gs → IsGladeOf f h g → AreGladesOf f (hs ++ h ∷ []) (gs ++ g ∷ [])
  glades_push [] [] h g are is = (is, tt)
  glades_push [] (y ∷ gs) h g are is = absurd are
  glades_push (x ∷ hs) [] h g are is = absurd are
  glades_push (x ∷ hs) (y ∷ gs) h g (first, rest) is = (first, glades_push hs gs h g rest is)

  head_for : (hs : List Head) (gs : List Glade) → AreGladesOf f hs gs → (g : Glade) → Among g gs → (h : Head) × Among h hs × IsGladeOf f h g
  head_for [] [] are g m = absurd m
  head_for [] (y ∷ gs) are g m = absurd are
  head_for (x ∷ hs) [] are g m = absurd are
  head_for (x ∷ hs) (y ∷ gs) (first, rest) g (inl e) = (x, inl refl, subst (IsGladeOf f x) e first)
  head_for (x ∷ hs) (y ∷ gs) (first, rest) g (inr m) = let (h, k, is) = head_for hs gs rest g m in (h, inr k, is)

  glade_for : (hs : List Head) (gs : List Glade) → AreGladesOf f hs gs → (h : Head) → Among h hs → (g : Glade) × Among g gs × IsGladeOf f h g
  glade_for [] gs are h m = absurd m
  glade_for (x ∷ hs) [] are h m = absurd are
  glade_for (x ∷ hs) (y ∷ gs) (first, rest) h (inl e) = (y, inl refl, subst (λ z. IsGladeOf f z y) e first)
  glade_for (x ∷ hs) (y ∷ gs) (first, rest) h (inr m) = let (g, k, is) = glade_for hs gs rest h m in (g, inr k, is)

-- ---- the order

-- the order of places, or a tie of all
split : (a b c d e : Ordering) → ordering_then a (ordering_then b (ordering_then c (ordering_then d e))) ≡ Less →
    (ordering_then a (ordering_then b (ordering_then c d)) ≡ Less) ⊎ ((a ≡ Equal) × (b ≡ Equal) × (c ≡ Equal) × (d ≡ Equal) × (e ≡ Less))
split Less b c d e h = inl refl
split Greater b c d e h = absurd (cc)
split Equal Less c d e h = inl refl
split Equal Greater c d e h = absurd (cc)
split Equal Equal Less d e h = inl refl
split Equal Equal Greater d e h = absurd (cc)
split Equal Equal Equal Less e h = inl refl
split Equal Equal Equal Greater e h = absurd (cc)
split Equal Equal Equal Equal e h = inr (refl, refl, refl, refl, h)

counted_back : (a b x y m : ℕ) → a + x ≡ m → b + y ≡ m → nat_cmp a b ≡ nat_cmp y x
counted_back a b x y m e e' = go (cases_lt a b) (cases_lt b a)
  where
    go : (a < b) ⊎ (b ≤ a) → (b < a) ⊎ (a ≤ b) → nat_cmp a b ≡ nat_cmp y x
    go (inl lt) k = let back : y < x = omega (arith, e, e', lt) in sym (nat_cmp_is a b Less lt) ∙ nat_cmp_is y x Less back
    go (inr ge) (inl gt) = let back : x < y = omega (arith, e, e', gt) in sym (nat_cmp_is a b Greater gt) ∙ nat_cmp_is y x Greater back
    go (inr ge) (inr le) = let same : a ≡ b = omega (arith, ge, le) in let back : y ≡ x = omega (arith, e, e', ge, le) in sym (nat_cmp_is a b Equal same) ∙ nat_cmp_is y x Equal back

module _ (f : Forest) (is : IsForest f) (rule : f.ranking ≡ RuleRanks) where
  not_tied : Less ≡ Equal → ⊥
  not_tied e = cc

  head_of : {x y : ℕ} {xs ys : List ℕ} → x ∷ xs ≡ y ∷ ys → x ≡ y
  head_of e = cc

  -- two heads of one place are of one node
  same_node : (h k : Head) → IsHead f h → IsHead f k → h.from ≡ k.from → h.back ≡ k.back → h.symbol ≡ k.symbol → h.level ≡ k.level → h.node ≡ k.node
  same_node h k a b from back symbol level =
      let sum = a.back in
      let sum' = b.back in
      let to : a.to ≡ b.to = omega (arith, sum, sum', back) in
      let slot : Slot = record { symbol = k.symbol; level = k.level } in
      let moved : IsGroup f slot k.from b.to (h.node ∷ a.is_two.more) =
      subst (λ q. IsGroup f slot k.from q (h.node ∷ a.is_two.more)) to
      (subst (λ p. IsGroup f slot p a.to (h.node ∷ a.is_two.more)) from
      (subst (λ (s : Slot). IsGroup f s h.from a.to (h.node ∷ a.is_two.more)) (λ i. record { symbol = symbol i; level = level i }) a.is_two.group)) in
      head_of (one_group f is rule slot k.from b.to (h.node ∷ a.is_two.more) (k.node ∷ b.is_two.more) moved b.is_two.group)

  in_order : (h k : Head) (g g' : Glade) → IsHead f h → IsHead f k → IsGladeOf f h g → IsGladeOf f k g' → head_cmp h k ≡ Less → glade_cmp g g' ≡ Less
  in_order h k g g' a b x y less =
      elim (split (nat_cmp h.from k.from) (nat_cmp h.back k.back) (nat_cmp h.symbol k.symbol) (nat_cmp h.level k.level) (nat_cmp h.node k.node) less) [
        | inl place ↦
            let back = counted_back h.back k.back g.to g'.to last_place x.to y.to in
            (λ i. ordering_then (nat_cmp (x.from i) (y.from i)) (ordering_then (sym back i) (ordering_then (nat_cmp ((x.slot i).symbol) ((y.slot i).symbol)) (nat_cmp ((x.slot i).level) ((y.slot i).level))))) ∙ place
        | inr (from, back, symbol, level, last) ↦
            let node = same_node h k a b (nat_cmp-Equal _ _ from) (nat_cmp-Equal _ _ back) (nat_cmp-Equal _ _ symbol) (nat_cmp-Equal _ _ level) in
            absurd (not_tied (sym last ∙ ap (nat_cmp h.node) (sym node) ∙ tied_itself nat_cmp_total h.node))
      ]

  sorted : (hs : List Head) (gs : List Glade) → AreGladesOf f hs gs → ((h : Head) → Among h hs → IsHead f h) → IsStrictlySortedBy head_cmp hs → IsStrictlySortedBy glade_cmp gs
  unfolding IsStrictlySortedBy
  sorted [] [] are heads s = tt
  sorted [] (g ∷ gs) are heads s = absurd are
  sorted (h ∷ hs) [] are heads s = absurd are
  sorted (h ∷ hs) (g ∷ gs) (first, rest) heads s = (
    each_from (λ z. glade_cmp g z ≡ Less) gs
        (λ g' m. (let (k, n, is_k) = head_for f hs gs rest g' m in
        in_order h k g g' (heads h (inl refl)) (heads k (inr n)) first is_k (each_at (λ z. head_cmp h z ≡ Less) hs k s.0 n))),
    sorted hs gs rest (λ k m. heads k (inr m)) s.1,
  )

  -- ---- the first two shapes of a head's group

  written_is : {i j : ℕ} → Written i ≡ Written j → i ≡ j
  written_is e = cc

  only_first : (n : ℕ) (s : List ℕ) → IsOnly f n s → IsFirst f n s
  only_first n s (OnlyEnds node there e) = FirstEnds node there e
  only_first n s (OnlyGoes node m starts there e only) = FirstGoes node m [] starts there e (only_first m starts only)

  pub first_two : (n : ℕ) (more : List ℕ) (next : Option ℕ) → slice_get more 0 ≡ next → (first other : Shape) → ComesFrom f n first.rule → IsFirst f n first.starts → IsOther f n next other → AreFirstTwo f (n ∷ more) first other
  first_two n more next is_next first other source walk (inl (source', (s, second))) =
      let starts = one_first f n s first.starts (second_first f is rule n s other.starts second) walk in
      let rules : other.rule ≡ first.rule = written_is (sym source' ∙ source) in
      subst (λ r. AreFirstTwo f (n ∷ more) first (shape_at r other.starts)) (sym rules)
      (OfOne n more first.rule first.starts other.starts refl source (subst (λ z. IsSecond f n z other.starts) starts second))
  first_two n [] next is_next first other source walk (inr (m, e, one, source', walk')) = absurd (none_some (is_next ∙ e))
    where
      none_some : {x : ℕ} → None ≡ Some x → ⊥
      none_some e = cc
  first_two n (k ∷ more) next is_next first other source walk (inr (m, e, (s, only), source', walk')) =
      let same : k ≡ m = some_is (is_next ∙ e) in
      let starts = one_first f n s first.starts (only_first n s only) walk in
      OfTwo n m more first.rule other.rule first.starts other.starts (ap (λ z. n ∷ z ∷ more) same) source source' (subst (IsOnly f n) starts only) walk'
    where
      some_is : {x y : ℕ} → Some x ≡ Some y → x ≡ y
      some_is e = cc

  -- ---- all

  -- a glade that a group tells has a head
  group_two : (glade : Glade) (by : IsByGroup f glade) → (n : ℕ) × IsTwo f n glade.slot glade.from glade.to
  group_two glade by = go by.shapes
    where
      second_then : (n : ℕ) (more : List ℕ) → by.nodes ≡ n ∷ more → (slice_get more 0 ≡ None → HasSecond f n true) → IsTwo f n glade.slot glade.from glade.to
      second_then n more e two = record { more = more; group = subst (IsGroup f glade.slot glade.from glade.to) e by.group; two = two }

      some_none : {x : ℕ} → Some x ≡ None → ⊥
      some_none e = cc

      go : {a b : Shape} → AreFirstTwo f by.nodes a b → (n : ℕ) × IsTwo f n glade.slot glade.from glade.to
      go (OfOne n more r s o e source second) = (n, second_then n more e (λ none. (s, o, second)))
      go (OfTwo n m more r r' s o e source source' only first) = (n, second_then n (m ∷ more) e (λ none. absurd (some_none none)))

  pub report_of : (hs : List Head) (gs : List Glade) → IsStrictlySortedBy head_cmp hs → AreHeads f hs → AreGladesOf f hs gs → AreGlades f.written f.edges (start_of f) f.place gs
  report_of hs gs s heads are = report_is f is rule gs (record {
    sorted = sorted hs gs are (λ h m. heads.each h (contains_from hs h m)) s;
    each = λ g c. (let (h, m, is_g) = head_for f hs gs are g (among_from gs g c) in is_g.by_group);
    all = λ g by.
        (let (n, two) = group_two g by in
        let (h, c, same) = heads.all n g.slot g.from g.to two in
        let (told, m, is_told) = glade_for f hs gs are h (among_from hs h c) in
        let k = heads.each h c in
        let (slot, from, to) = one_place f is rule h.node n (record { symbol = h.symbol; level = h.level }) g.slot h.from k.to g.from g.to k.is_two two same in
        let sum = k.back in
        let sum' = is_told.to in
        let ends : told.to ≡ k.to = omega (arith, sum, sum') in
        (told, contains_from gs told m, is_told.slot ∙ slot, is_told.from ∙ from, ends ∙ to));
  })

module _ (f : Forest) (is : IsForest f) (rule : f.ranking ≡ RuleRanks) (n : ℕ) (slot : Slot) (p q : ℕ) (two : IsTwo f n slot p q) where
  -- the nodes of a group have rules
  pub rule_there : HasRule f n
  rule_there = comes_from f is rule slot p q (n ∷ two.more) two.group n 0 refl

  pub next_there : (next : Option ℕ) → IsNote f n next → (m : ℕ) → next ≡ Some m → (m < length f.nodes) × HasRule f m
  next_there next note m e =
      let at : slice_get (n ∷ two.more) 1 ≡ Some m = one_note f is n (slice_get two.more 0) next (note_of f is rule n slot p q two) note ∙ e in
      let h = wholes f is rule slot p q (n ∷ two.more) two.group in
      let lt = (get_index (n ∷ two.more) 1 0 m at).0 in
      let count = h.all in
      let (node, there, key) = h.each 1 m (slice_index_or h.rules 1 0) at (slice_get-get_or h.rules 1 0 (omega (arith, lt, count))) in
      ((get_index f.nodes m node node there).0, comes_from f is rule slot p q (n ∷ two.more) two.group m 1 at)

  pub next_none : (next : Option ℕ) → IsNote f n next → next ≡ None → HasSecond f n true
  next_none next note e = two.two (one_note f is n (slice_get two.more 0) next (note_of f is rule n slot p q two) note ∙ e)

pub glade_is : (f : Forest) (is : IsForest f) (rule : f.ranking ≡ RuleRanks) (head : Head) (h : IsHead f head) (next : Option ℕ) → IsNote f head.node next → (to : ℕ) → head.back + to ≡ last_place → (first other : Shape) →
    ComesFrom f head.node first.rule → IsFirst f head.node first.starts → IsOther f head.node next other →
    IsGladeOf f head (record { slot = record { symbol = head.symbol; level = head.level }; from = head.from; to = to; first = first; second = other })
glade_is f is rule head h next note to sum first other source walk second =
    let slot : Slot = record { symbol = head.symbol; level = head.level } in
    let sum' = h.back in
    let ends : h.to ≡ to = omega (arith, sum, sum') in
    record {
      slot = refl;
      from = refl;
      to = sum;
      by_group = record {
        nodes = head.node ∷ h.is_two.more;
        group = subst (λ q. IsGroup f slot head.from q (head.node ∷ h.is_two.more)) ends h.is_two.group;
        shapes = first_two f is rule head.node h.is_two.more next (one_note f is head.node (slice_get h.is_two.more 0) next (note_of f is rule head.node slot head.from h.to h.is_two) note) first other source walk second;
      };
    }

pub heads_moved : (f : Forest) (hs ks : List Head) → AreHeads f hs → ((h : Head) → Contains ks h ↔ Contains hs h) → AreHeads f ks
heads_moved f hs ks are same = record {
  each = λ h c. are.each h ((same h).0 c);
  all = λ n slot p q two. (let (h, c, e) = are.all n slot p q two in (h, (same h).1 c, e));
}
