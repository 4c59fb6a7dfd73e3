-- Nodes that are added stand below those that are open.
use Rattle.std.proofs.Common.{◌≡◌, ℕ, zero, suc, ◌+◌, ◌-◌, ◌<◌, List, [], ◌∷◌, ◌++◌, length, map, take, get_or, Option, None, Some, MatchOption, slice_get, refl, sym, ap, ◌∙◌, subst, inl, inr, ◌⊎◌, length-append, length-take, get_or-take, arith}
use Rattle.std.proofs.lemmas.Bool.{cases_lt}
use Rattle.std.proofs.lemmas.List.{get_or_append_left, length-map, map-append, take-map}
use Rattle.std.specs.Option.{option_map}
use Rattle.std.proofs.lemmas.Option.{slice_get-get_or, slice_get-map, slice_get_read}
use Rattle.std.proofs.Math.Seq.{get_or-append_seam}
use Rattle.tree_text.specs.Differences.{depth_at}
use Rattle.tree_text.specs.Nested.{above_at, IsRightBelow, AreNested, Level, level_of, node_of, last_of, depth_of, above_of, IsBelow, IsOpenAt, AreGrowing}
use Rattle.tree_text.specs.declared.nodes.Node.{Node}
use Rattle.tree_text.specs.declared.nodes.Open.{Open}

told : (o : Option ℕ) (P Q : Type 0) (R S : ℕ → Type 0) → (P → Q) → ((a : ℕ) → R a → S a) → MatchOption o P R → MatchOption o Q S
told None P Q R S f g m = f m
told (Some a) P Q R S f g m = g a m

before_or_last : (i n : ℕ) → i < n + 1 → (i < n) ⊎ (i ≡ n)
before_or_last i n lt = elim (cases_lt i n) [ inl less ↦ inl less | inr up ↦ inr (omega (arith, lt, up)) ]

-- the level of a new node, below the one that was opened last
abbrev pub new_level : List ℕ → Level
new_level nodes = (length nodes, last_of nodes)

pub none_growing : AreGrowing [] []
none_growing = record { nested = λ i lt. absurd (omega (arith, lt)); each = λ j lt. absurd (omega (arith, lt)) }

module _ (levels : List Level) (nodes : List ℕ) (growing : AreGrowing levels nodes) where
  abbrev more : List Level
  more = levels ++ new_level nodes ∷ []

  longer : length more ≡ length levels + 1
  longer = length-append levels (new_level nodes ∷ [])

  old_level : (i : ℕ) → i < length levels → get_or more i (0, None) ≡ get_or levels i (0, None)
  old_level i lt = get_or_append_left levels (new_level nodes ∷ []) (0, None) i lt

  last_level : get_or more (length levels) (0, None) ≡ new_level nodes
  last_level = get_or-append_seam levels (new_level nodes) [] (0, None)

  old_depth : (i : ℕ) → i < length levels → depth_of more i ≡ depth_of levels i
  old_depth i lt = ap (λ (l : Level). l.0) (old_level i lt)

  last_depth : depth_of more (length levels) ≡ length nodes
  last_depth = ap (λ (l : Level). l.0) last_level

  below_still : (i : ℕ) → i < length levels → (a : ℕ) → IsBelow levels a i → IsBelow more a i
  below_still i lt a is = record {
    before = is.before;
    deeper = let x = old_depth i lt in let y = old_depth a (omega (arith, is.before)) in let z = is.deeper in omega (arith, x, y, z);
    between = λ k low high. let x = old_depth k (omega arith) in let y = old_depth a (omega arith) in let z = is.between k low high in omega (arith, x, y, z);
  }

  nested_still : (i : ℕ) → i < length levels → MatchOption (above_of more i) (depth_of more i ≡ 0) (λ a. IsBelow more a i)
  nested_still i lt =
      subst (λ o. MatchOption o (depth_of more i ≡ 0) (λ a. IsBelow more a i)) (ap (λ (l : Level). l.1) (sym (old_level i lt)))
      (told (above_of levels i) (depth_of levels i ≡ 0) (depth_of more i ≡ 0) (λ a. IsBelow levels a i) (λ a. IsBelow more a i) (λ e. old_depth i lt ∙ e) (below_still i lt) (growing.nested i lt))

  -- after a node that is open stands the new one, too
  open_still : (j node : ℕ) → j < length nodes → IsOpenAt levels j node → IsOpenAt more j node
  open_still j node lt is = record {
    there = let n = longer in let there = is.there in omega (arith, n, there);
    depth_is = old_depth node is.there ∙ is.depth_is;
    behind = λ k low high. elim (before_or_last k (length levels) (let n = longer in omega (arith, n, high))) [
      | inl old ↦ let x = old_depth k old in let y = is.behind k low old in omega (arith, x, y)
      | inr new ↦ let x : depth_of more k ≡ length nodes = ap (depth_of more) new ∙ last_depth in omega (arith, x, lt)
    ];
  }

  below_last : (node : ℕ) → IsOpenAt levels (length nodes - 1) node → 0 < length nodes → IsBelow more node (length levels)
  below_last node is some = record {
    before = is.there;
    deeper = let x = old_depth node is.there in let y = is.depth_is in let z = last_depth in omega (arith, x, y, z, some);
    between = λ k low high.
        let o = open_still (length nodes - 1) node (omega (arith, some)) is in
        let x = old_depth node is.there in let y = is.depth_is in let n = longer in
        let z = o.behind k low (omega (arith, n, high)) in omega (arith, x, y, z);
  }

  under : (outer : List ℕ) → outer ≡ nodes → MatchOption (slice_get outer (length outer - 1)) (length outer ≡ 0) (λ a. IsBelow more a (length levels))
  under [] same = refl
  under (x ∷ xs) same =
      let some : 0 < length (x ∷ xs) = omega arith in
      let got = slice_get-get_or (x ∷ xs) (length (x ∷ xs) - 1) 0 (omega arith) in
      let few : length (x ∷ xs) ≡ length nodes = ap length same in
      let P : List ℕ → Type 0 = λ (l : List ℕ). IsOpenAt levels (length l - 1) (get_or l (length l - 1) 0) in
      let is = subst P (sym same) (growing.each (length nodes - 1) (omega (arith, few))) in
      let Q : ℕ → Type 0 = λ n. IsOpenAt levels (n - 1) (get_or (x ∷ xs) (length (x ∷ xs) - 1) 0) in
      subst (λ o. MatchOption o (length (x ∷ xs) ≡ 0) (λ a. IsBelow more a (length levels))) (sym got) (below_last _ (subst Q few is) (omega (arith, few)))

  nested_last : MatchOption (above_of more (length levels)) (depth_of more (length levels) ≡ 0) (λ a. IsBelow more a (length levels))
  nested_last =
      let P : Level → Type 0 = λ (l : Level). MatchOption l.1 (l.0 ≡ 0) (λ a. IsBelow more a (length levels)) in
      subst P (sym last_level) (under nodes refl)

  nested_more : (i : ℕ) → i < length more → MatchOption (above_of more i) (depth_of more i ≡ 0) (λ a. IsBelow more a i)
  nested_more i lt = elim (before_or_last i (length levels) (let n = longer in omega (arith, n, lt))) [
    | inl old ↦ nested_still i old
    | inr new ↦ subst (λ n. MatchOption (above_of more n) (depth_of more n ≡ 0) (λ a. IsBelow more a n)) (sym new) nested_last
  ]

  -- a node is added under those that are open
  pub added : AreGrowing more nodes
  added = record { nested = nested_more; each = λ j lt. open_still j (get_or nodes j 0) lt (growing.each j lt) }

  opened_last : IsOpenAt more (length nodes) (length levels)
  opened_last = record {
    there = let n = longer in omega (arith, n);
    depth_is = last_depth;
    behind = λ k low high. absurd (let n = longer in omega (arith, n, low, high));
  }

  -- a node is added, and is open, too
  pub opened : AreGrowing more (nodes ++ length levels ∷ [])
  opened = record {
    nested = nested_more;
    each = λ j lt. elim (before_or_last j (length nodes) (let n = length-append nodes (length levels ∷ []) in omega (arith, n, lt))) [
      | inl old ↦ subst (IsOpenAt more j) (sym (get_or_append_left nodes (length levels ∷ []) 0 j old)) (open_still j (get_or nodes j 0) old (growing.each j old))
      | inr new ↦
          let P : ℕ → Type 0 = λ n. IsOpenAt more n (get_or (nodes ++ length levels ∷ []) n 0) in
          subst P (sym new) (subst (IsOpenAt more (length nodes)) (sym (get_or-append_seam nodes (length levels) [] 0)) opened_last)
    ];
  }

  -- some are no longer open
  pub closed : (n : ℕ) → AreGrowing levels (take n nodes)
  closed n = record {
    nested = growing.nested;
    each = λ j lt.
        let few = length-take n nodes in
        subst (IsOpenAt levels j) (sym (get_or-take n nodes j 0 (omega (arith, few, lt)))) (growing.each j (omega (arith, few, lt)));
  }

-- ---- the same of the nodes themselves

depth_same : (nodes : List Node) (i : ℕ) → depth_at nodes i ≡ depth_of (map level_of nodes) i
depth_same [] i = refl
depth_same (x ∷ xs) zero = refl
depth_same (x ∷ xs) (suc i) = depth_same xs i

above_same : (nodes : List Node) (i : ℕ) → above_at nodes i ≡ above_of (map level_of nodes) i
above_same [] i = refl
above_same (x ∷ xs) zero = refl
above_same (x ∷ xs) (suc i) = above_same xs i

right_below : (nodes : List Node) (i : ℕ) → i < length nodes → (a : ℕ) → IsBelow (map level_of nodes) a i → IsRightBelow nodes a i
right_below nodes i lt a is = record {
  below = record {
    there = lt;
    up_to = let x = is.before in omega (arith, x);
    deeper = λ k low high. let x = depth_same nodes a in let y = depth_same nodes k in let z = is.between k low high in omega (arith, x, y, z);
  };
  deeper = let x = depth_same nodes i in let y = depth_same nodes a in let z = is.deeper in omega (arith, x, y, z);
}

-- the nodes that were added stand as they tell
pub all_nested : (nodes : List Node) (outer : List ℕ) → AreGrowing (map level_of nodes) outer → AreNested nodes
all_nested nodes outer growing i lt =
    let within : i < length (map level_of nodes) = let n = length-map nodes level_of in omega (arith, n, lt) in
    subst (λ o. MatchOption o (depth_at nodes i ≡ 0) (λ a. IsRightBelow nodes a i)) (sym (above_same nodes i))
    (told (above_of (map level_of nodes) i) (depth_of (map level_of nodes) i ≡ 0) (depth_at nodes i ≡ 0) (λ a. IsBelow (map level_of nodes) a i) (λ a. IsRightBelow nodes a i)
    (λ e. depth_same nodes i ∙ e) (right_below nodes i lt) (growing.nested i within))

-- ---- what the calls on growing nodes do

module _ (old middle new : List Node) (outer same : List Open) (node : Node) (growing : AreGrowing (map level_of old) (map node_of outer)) where
  module _ (kept : map level_of middle ≡ map level_of old) (still : map node_of same ≡ map node_of outer) (is : new ≡ middle ++ node ∷ []) (depth : node.depth ≡ length same) (above : node.above ≡ last_of (map node_of outer)) where
    depth_is : node.depth ≡ length (map node_of outer)
    depth_is = depth ∙ sym (length-map same node_of) ∙ ap length still

    level_is : level_of node ≡ new_level (map node_of outer)
    level_is i = (depth_is i, above i)

    levels_are : map level_of new ≡ map level_of old ++ new_level (map node_of outer) ∷ []
    levels_are = ap (map level_of) is ∙ map-append level_of middle (node ∷ []) ∙ (λ i. kept i ++ level_is i ∷ [])

    pub added_to : AreGrowing (map level_of new) (map node_of same)
    added_to = subst (λ ls. AreGrowing ls (map node_of same)) (sym levels_are)
        (subst (AreGrowing (map level_of old ++ new_level (map node_of outer) ∷ [])) (sym still) (added (map level_of old) (map node_of outer) growing))

    pub opened_to : (wider : List Open) (last : Open) → wider ≡ same ++ last ∷ [] → last.node ≡ length old → AreGrowing (map level_of new) (map node_of wider)
    opened_to wider last wide place =
        let place_is : last.node ≡ length (map level_of old) = place ∙ sym (length-map old level_of) in
        let open_are : map node_of wider ≡ map node_of outer ++ length (map level_of old) ∷ [] = ap (map node_of) wide ∙ map-append node_of same (last ∷ []) ∙ (λ i. still i ++ place_is i ∷ []) in
        subst (λ ls. AreGrowing ls (map node_of wider)) (sym levels_are)
        (subst (AreGrowing (map level_of old ++ new_level (map node_of outer) ∷ [])) (sym open_are) (opened (map level_of old) (map node_of outer) growing))

-- the one that was opened last
pub last_opened : (opens : List Open) (n : ℕ) (last : Open) → n ≡ length opens → 0 < n → last ≡ get_or opens (n - 1) last → Some (node_of last) ≡ last_of (map node_of opens)
last_opened opens n last few some is =
    let same : length (map node_of opens) - 1 ≡ n - 1 = omega (arith, few, length-map opens node_of) in
    sym (ap (slice_get (map node_of opens)) same ∙ slice_get-map node_of opens (n - 1) ∙ ap (option_map node_of) (slice_get_read opens n (n - 1) last few (omega arith) is))

pub closed_to : (old new : List Node) (outer less : List Open) (n : ℕ) → AreGrowing (map level_of old) (map node_of outer) → map level_of new ≡ map level_of old → less ≡ take n outer → AreGrowing (map level_of new) (map node_of less)
closed_to old new outer less n growing kept is =
    let open_are : map node_of less ≡ take n (map node_of outer) = ap (map node_of) is ∙ sym (take-map node_of n outer) in
    subst (λ ls. AreGrowing ls (map node_of less)) (sym kept) (subst (AreGrowing (map level_of old)) (sym open_are) (closed (map level_of old) (map node_of outer) growing n))
