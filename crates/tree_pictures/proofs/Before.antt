-- The box right above each comes before it, where the same holds of the nodes.
use Rattle.std.proofs.Common.{length, slice_get, ◌≡◌, ℕ, zero, suc, ◌+◌, ◌-◌, ◌<◌, ◌≤◌, Bool, true, false, ◌&&◌, Option, Some, None, List, [], ◌∷◌, get_or, map, inl, inr, refl, sym, ap, ◌∙◌, subst, arith, zero-add}
use Rattle.std.specs.Prelude.{if◌then◌else◌}
use Rattle.std.proofs.lemmas.Bool.{cases_lt}
use Rattle.std.proofs.lemmas.Bool.Decides.{nat_tests}
use Rattle.std.proofs.lemmas.Option.{get_or_from_slice_get, slice_get_cases}
use Rattle.std.proofs.lemmas.List.{get_or-map, get_or_past, length-map}
use Rattle.std.specs.Option.{option_and_then}
use Rattle.std.specs.Prelude.{MatchOption}
use Rattle.tree_text.specs.Differences.{depth_at}
use Rattle.tree_text.specs.Nested.{above_at, IsRightBelow, AreNested}
use Rattle.tree_text.specs.declared.nodes.Node.{Node}
use Rattle.tree_pictures.specs.Boxes.{is_behind, shares, boxes_with, places_from, place_of, aboves_from, counts_of, AreBoxes, AreBefore}

-- the first nodes stand in the first boxes
pub record AreKnown (places : List ℕ) (i boxes : ℕ) : Type 0 where
  pub below : (n : ℕ) → n < i → get_or places n 0 < boxes
  pub some : 0 < i → 0 < boxes

-- from i on the places are these
abbrev pub GoOn : List ℕ → ℕ → List ℕ → Type 0
GoOn places i rest = (k : ℕ) → get_or places (i + k) 0 ≡ get_or rest k 0

-- those from a place on
abbrev pub ComeBefore : ℕ → List (Option ℕ) → Type 0
ComeBefore from aboves = (k above : ℕ) → get_or aboves k None ≡ Some above → above < from + k

known_more : (places : List ℕ) (i boxes boxes' : ℕ) → get_or places i 0 ≡ boxes' - 1 → boxes ≤ boxes' → 0 < boxes' → AreKnown places i boxes →
    AreKnown places (i + 1) boxes'
known_more places i boxes boxes' here more some known = record {
  below = λ n lt.
      elim (cases_lt n i) [
        | inl less ↦ (let old : get_or places n 0 < boxes = known.below n less in omega arith)
        | inr past ↦ (let same : n ≡ i = omega arith in
            let e : get_or places n 0 ≡ get_or places i 0 = ap (λ k. get_or places k 0) same in omega arith)
      ];
  some = λ lt. some;
}

on_more : (places rest : List ℕ) (i place : ℕ) → GoOn places i (place ∷ rest) → GoOn places (i + 1) rest
on_more places rest i place on k = let e : i + 1 + k ≡ i + suc k = omega arith in ap (λ n. get_or places n 0) e ∙ on (suc k)

on_here : (places rest : List ℕ) (i place : ℕ) → GoOn places i (place ∷ rest) → get_or places i 0 ≡ place
on_here places rest i place on = let e : i ≡ i + 0 = omega arith in ap (λ n. get_or places n 0) e ∙ on 0

before_more : (from : ℕ) (of : Option ℕ) (nodes : List (Option ℕ)) → ComeBefore from (of ∷ nodes) → ComeBefore (from + 1) nodes
before_more from of nodes before k above e = let lt : above < from + suc k = before (suc k) above e in omega arith

place_before : (places : List ℕ) (i boxes : ℕ) (node : Option ℕ) (nodes : List (Option ℕ)) (above : ℕ) → AreKnown places i boxes →
    ComeBefore i (node ∷ nodes) → place_of places node ≡ Some above → above < boxes
place_before places i boxes None nodes above known before e = cc
place_before places i boxes (Some node) nodes above known before e =
    let lt : node < i + 0 = before 0 node refl in
    let is : get_or places node 0 ≡ above = get_or_from_slice_get places node above 0 e in
    let old : get_or places node 0 < boxes = known.below node (omega arith) in omega arith

cons_before : (boxes : ℕ) (first : Option ℕ) (rest : List (Option ℕ)) → ((above : ℕ) → first ≡ Some above → above < boxes) →
    ComeBefore (boxes + 1) rest → ComeBefore boxes (first ∷ rest)
cons_before boxes first rest here later zero above e = let lt : above < boxes = here above e in omega arith
cons_before boxes first rest here later (suc k) above e = let lt : above < boxes + 1 + k = later k above e in omega arith

behind_some : (above : Option ℕ) (i : ℕ) → is_behind above i ≡ true → 0 < i
behind_some None i e = cc
behind_some (Some above) i e = grind (arith, nat_tests)

and_first : (a b : Bool) → (a && b) ≡ true → a ≡ true
and_first true b e = refl
and_first false b e = e

-- a node that shares its box has one before it
shares_some : (counts : List ℕ) (i : ℕ) (node : Node) → shares counts i node ≡ true → 0 < i
shares_some counts i node e = behind_some node.above i (and_first (is_behind node.above i) _ e)

step : (places : List ℕ) (i boxes : ℕ) (of : Option ℕ) (nodes rest : List (Option ℕ)) (b : Bool) → (b ≡ true → 0 < i) →
    get_or places i 0 ≡ (if b then boxes else boxes + 1) - 1 → AreKnown places i boxes → ComeBefore i (of ∷ nodes) →
    (AreKnown places (i + 1) (if b then boxes else boxes + 1) → ComeBefore (if b then boxes else boxes + 1) rest) →
    ComeBefore boxes (if b then rest else place_of places of ∷ rest)
step places i boxes of nodes rest true some here known before later = later (known_more places i boxes boxes here (omega arith) (known.some (some refl)) known)
step places i boxes of nodes rest false some here known before later =
    cons_before boxes (place_of places of) rest (λ above e. place_before places i boxes of nodes above known before e)
    (later (known_more places i boxes (boxes + 1) here (omega arith) (omega arith) known))

before_from : (counts places : List ℕ) (i boxes : ℕ) (nodes : List Node) → AreKnown places i boxes → GoOn places i (places_from counts i boxes nodes) →
    ComeBefore i (map (λ (node : Node). node.above) nodes) → ComeBefore boxes (aboves_from counts places i nodes)
before_from counts places i boxes [] known on before = λ k above e. let wrong : None ≡ Some above = e in cc
before_from counts places i boxes (node ∷ nodes) known on before =
    step places i boxes node.above (map (λ (node : Node). node.above) nodes) (aboves_from counts places (i + 1) nodes) (shares counts i node)
    (λ e. shares_some counts i node e) (on_here places _ i _ on) known before
    (λ more. before_from counts places (i + 1) (boxes_with counts i boxes node) nodes more (on_more places _ i _ on)
    (before_more i node.above (map (λ (node : Node). node.above) nodes) before))

pub before_all : (counts : List ℕ) (nodes : List Node) → AreBefore (map (λ (node : Node). node.above) nodes) →
    AreBefore (aboves_from counts (places_from counts 0 0 nodes) 0 nodes)
before_all counts nodes before k above e =
    let lt : above < 0 + k =
    before_from counts (places_from counts 0 0 nodes) 0 0 nodes (record { below = λ n lt. omega arith; some = λ lt. lt })
    (λ n. ap (λ m. get_or (places_from counts 0 0 nodes) m 0) (zero-add n)) (λ n a is. let old : a < n = before n a is in omega arith) k above e in
    omega arith

-- a node's place is after that of the one right above it, since it is deeper
right_after : (nodes : List Node) (i : ℕ) (node : Node) (above : ℕ) → AreNested nodes → i < length nodes → slice_get nodes i ≡ Some node →
    node.above ≡ Some above → above < i
right_after nodes i node above nested lt is e =
    let told : above_at nodes i ≡ Some above = ap (λ o. option_and_then (λ (n : Node). n.above) o) is ∙ e in
    let below : IsRightBelow nodes above i = subst (λ o. MatchOption o (depth_at nodes i ≡ 0) (λ a. IsRightBelow nodes a i)) told (nested i lt) in
    let up : above ≤ i = below.below.up_to in
    let deeper : depth_at nodes i ≡ depth_at nodes above + 1 = below.deeper in
    elim (cases_lt above i) [
      | inl less ↦ less
      | inr past ↦ (let same : above ≡ i = omega arith in
          let level : depth_at nodes above ≡ depth_at nodes i = ap (depth_at nodes) same in absurd (omega arith))
    ]

nested_before : (nodes : List Node) → AreNested nodes → AreBefore (map (λ (node : Node). node.above) nodes)
nested_before nodes nested i above e =
    elim ((slice_get_cases nodes i).1) [
      | inl (node, lt, is, here) ↦ right_after nodes i node above nested lt is
          (ap (λ (n : Node). n.above) (sym here) ∙ sym (get_or-map (λ (n : Node). n.above) nodes i node None lt) ∙ e)
      | inr (past, none) ↦ (let few : length (map (λ (n : Node). n.above) nodes) ≤ i = omega (arith, length-map nodes (λ (n : Node). n.above)) in
          let wrong : None ≡ Some above = sym (get_or_past (map (λ (n : Node). n.above) nodes) i None few) ∙ e in cc)
    ]

pub boxes_before : (nodes : List Node) (labels : List (List ℕ)) (aboves : List (Option ℕ)) → AreBoxes nodes labels aboves → AreNested nodes → AreBefore aboves
boxes_before nodes labels aboves are nested = subst AreBefore (sym are.aboves_are) (before_all (counts_of nodes) nodes (nested_before nodes nested))
