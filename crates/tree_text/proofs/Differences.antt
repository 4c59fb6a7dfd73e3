-- Two trees, place by place, and the nodes around the first place where they differ.
use Rattle.std.proofs.Common.{◌≡◌, ◌≢◌, ℕ, ◌<◌, ◌≤◌, ◌+◌, List, length, Some, None, sym, ap, ◌∙◌, arith, ◌⊎◌, inl, inr, subst, slice_get, get_or, Bool, true, false, MatchBool, max}
use Rattle.std.specs.Option.{option_map}
use Rattle.std.proofs.lemmas.Bool.{cases_lt, cases_eq}
use Rattle.std.proofs.lemmas.Option.{slice_get_past, slice_get-get_or}
use Rattle.tree_text.specs.declared.nodes.Node.{Node}
use Rattle.tree_text.specs.Looks.{look_of, Face, face_of}
use Rattle.tree_text.specs.Differences.{look_at, depth_in, depth_at, DifferFirst, IsAround, IsAroundIn, face_at, IsInBoth, IsSmallest, AreApart}

-- what stands at a place
look_past : (nodes : List Node) (i : ℕ) → length nodes ≤ i → look_at nodes i ≡ None
look_past nodes i past = ap (option_map look_of) (slice_get_past nodes i past)

face_there : (nodes : List Node) (i : ℕ) (node : Node) → slice_get nodes i ≡ Some node → face_at nodes i ≡ Some (face_of node)
face_there nodes i node e = ap (option_map face_of) e

face_past : (nodes : List Node) (i : ℕ) → length nodes ≤ i → face_at nodes i ≡ None
face_past nodes i past = ap (option_map face_of) (slice_get_past nodes i past)

depth_past : (nodes : List Node) (i : ℕ) → length nodes ≤ i → depth_at nodes i ≡ 0
depth_past nodes i past = ap depth_in (look_past nodes i past)

is_there : (nodes : List Node) (i d : ℕ) → d < depth_at nodes i → i < length nodes
is_there nodes i d less = elim (cases_lt i (length nodes)) [
  | inl lt ↦ lt
  | inr past ↦ absurd (omega (arith, depth_past nodes i past))
]

face_within : (nodes : List Node) (i : ℕ) (face : Face) → face_at nodes i ≡ Some face → i < length nodes
face_within nodes i face e = elim (cases_lt i (length nodes)) [
  | inl lt ↦ lt
  | inr past ↦ let bad : None ≡ Some face = sym (face_past nodes i past) ∙ e in cc
]

-- a depth that is above all from a place to the first that differs, where one of both trees has that
pub record IsBelow (one other : List Node) (first left d : ℕ) : Type 0 where
  pub behind : (k : ℕ) → left ≤ k → k < first → d < depth_at one k
  pub end : (d < depth_at one first) ⊎ (d < depth_at other first)

pub record Limits (one other : List Node) (first left limit : ℕ) : Type 0 where
  pub up : (d : ℕ) → d < limit → IsBelow one other first left d
  pub down : (d : ℕ) → IsBelow one other first left d → d < limit

pub limit_begin : (one other : List Node) (first limit : ℕ) → limit ≡ max (depth_at one first) (depth_at other first) → Limits one other first first limit
limit_begin one other first limit e = record {
  up = λ d less. record {
    behind = λ k low high. absurd (omega arith);
    end = elim (cases_lt d (depth_at one first)) [ inl lower ↦ inl lower | inr more ↦ inr (omega arith) ];
  };
  down = λ d below. elim below.end [ inl less ↦ omega arith | inr less ↦ omega arith ];
}

-- the place before is no less deep, and sets no limit
pub limit_kept : (one other : List Node) (first left more limit : ℕ) → more ≡ left + 1 → Limits one other first more limit → limit ≤ depth_at one left → Limits one other first left limit
limit_kept one other first left more limit e limits deep = record {
  up = λ d less.
      let below = limits.up d less in
      record {
        behind = λ k low high. elim (cases_eq k left) [
          | inl same ↦ subst (λ n. d < depth_at one n) (sym same) (omega arith)
          | inr other ↦ below.behind k (omega arith) high
        ];
        end = below.end;
      };
  down = λ d below. limits.down d (record { behind = λ k low high. below.behind k (omega arith) high; end = below.end });
}

-- the place before is less deep, and is the new limit
pub limit_lower : (one other : List Node) (first left more limit : ℕ) → more ≡ left + 1 → more ≤ first → Limits one other first more limit → depth_at one left < limit → Limits one other first left (depth_at one left)
limit_lower one other first left more limit e there limits less = record {
  up = λ d lower.
      let below = limits.up d (omega arith) in
      record {
        behind = λ k low high. elim (cases_eq k left) [
          | inl same ↦ subst (λ n. d < depth_at one n) (sym same) lower
          | inr other ↦ below.behind k (omega arith) high
        ];
        end = below.end;
      };
  down = λ d below. below.behind left (omega arith) (omega arith);
}

same_depth : (one other : List Node) (first i : ℕ) → DifferFirst one other first → i < first → depth_at one i ≡ depth_at other i
same_depth one other first i differ less = ap depth_in (differ.before i less)

-- a node is around the first place exactly if its depth is below all after it
around_end : (nodes : List Node) (first i more : ℕ) → more ≡ i + 1 → i < first → first < length nodes → ((k : ℕ) → more ≤ k → k < first → depth_at nodes i < depth_at nodes k) → depth_at nodes i < depth_at nodes first → IsAround nodes i first
around_end nodes first i more e less there behind end = record {
  there = there;
  up_to = omega arith;
  deeper = λ k low high. elim (cases_eq k first) [
    | inl same ↦ subst (λ n. depth_at nodes i < depth_at nodes n) (sym same) end
    | inr other ↦ behind k (omega arith) (omega arith)
  ];
}

around_below : (one other : List Node) (first i more : ℕ) → more ≡ i + 1 → DifferFirst one other first → i < first → IsBelow one other first more (depth_at one i) → IsAroundIn one other i first
around_below one other first i more e differ less below =
    let same = same_depth one other first i differ less in
    elim below.end [
      | inl end ↦ inl (around_end one first i more e less (is_there one first (depth_at one i) end) below.behind end)
      | inr end ↦ inr (around_end other first i more e less (is_there other first (depth_at one i) end)
          (λ k low high. let deep = same_depth one other first k differ high in let b = below.behind k low high in omega arith)
          (omega arith))
    ]

below_around : (one other : List Node) (first i more : ℕ) → more ≡ i + 1 → DifferFirst one other first → i < first → IsAroundIn one other i first → IsBelow one other first more (depth_at one i)
below_around one other first i more e differ less around =
    let same = same_depth one other first i differ less in
    elim around [
      | inl a ↦ record { behind = λ k low high. a.deeper k (omega arith) (omega arith); end = inl (a.deeper first less (omega arith)) }
      | inr a ↦ record {
        behind = λ k low high. let deep = same_depth one other first k differ high in let b = a.deeper k (omega arith) (omega arith) in omega arith;
        end = inr (let b = a.deeper first less (omega arith) in omega arith);
      }
    ]

up_to_first : (one other : List Node) (i first : ℕ) → IsAroundIn one other i first → i ≤ first
up_to_first one other i first around = elim around [ inl a ↦ a.up_to | inr a ↦ a.up_to ]

-- no node from a place on is around the first place, and in both
abbrev pub NoneFrom : List Node → List Node → ℕ → ℕ → Type 0
NoneFrom one other first left = (i : ℕ) → left ≤ i → IsAroundIn one other i first → ¬ (IsInBoth one other i)

pub none_begin : (one other : List Node) (first : ℕ) → ¬ (IsInBoth one other first) → NoneFrom one other first first
none_begin one other first not i low around both =
    let up = up_to_first one other i first around in
    let e : i ≡ first = omega arith in
    not (subst (IsInBoth one other) e both)

pub none_deep : (one other : List Node) (first left more limit : ℕ) → more ≡ left + 1 → DifferFirst one other first → more ≤ first → Limits one other first more limit → limit ≤ depth_at one left → NoneFrom one other first more → NoneFrom one other first left
none_deep one other first left more limit e differ there limits deep none i low around both = elim (cases_eq i left) [
  | inl same ↦
      let around_left = subst (λ n. IsAroundIn one other n first) same around in
      let less = limits.down (depth_at one left) (below_around one other first left more e differ (omega arith) around_left) in
      absurd (omega arith)
  | inr differs ↦ none i (omega arith) around both
]

pub none_not : (one other : List Node) (first left more : ℕ) → more ≡ left + 1 → ¬ (IsInBoth one other left) → NoneFrom one other first more → NoneFrom one other first left
none_not one other first left more e not none i low around both = elim (cases_eq i left) [
  | inl same ↦ not (subst (IsInBoth one other) same both)
  | inr differs ↦ none i (omega arith) around both
]

pub smallest_first : (one other : List Node) (first : ℕ) → DifferFirst one other first → IsInBoth one other first → IsSmallest one other first
smallest_first one other first differ both = record {
  first = first;
  differ = differ;
  around = inl (record { there = face_within one first both.face both.first; up_to = omega arith; deeper = λ k low high. absurd (omega arith) });
  in_both = both;
  smallest = λ i around also. up_to_first one other i first around;
}

pub smallest_at : (one other : List Node) (first left more limit : ℕ) → more ≡ left + 1 → DifferFirst one other first → more ≤ first → Limits one other first more limit → depth_at one left < limit → NoneFrom one other first more → IsInBoth one other left → IsSmallest one other left
smallest_at one other first left more limit e differ there limits less none both = record {
  first = first;
  differ = differ;
  around = around_below one other first left more e differ (omega arith) (limits.up (depth_at one left) less);
  in_both = both;
  smallest = λ i around also. elim (cases_lt left i) [
    | inl behind ↦ absurd (none i (omega arith) around also)
    | inr up ↦ up
  ];
}

pub apart : (one other : List Node) (first : ℕ) → DifferFirst one other first → NoneFrom one other first 0 → AreApart one other
apart one other first differ none = record { first = first; differ = differ; none = λ i around. none i (omega arith) around }

in_both : (one other : List Node) (i : ℕ) (a b : Node) → slice_get one i ≡ Some a → slice_get other i ≡ Some b → face_of a ≡ face_of b → IsInBoth one other i
in_both one other i a b there then same = record { face = face_of a; first = face_there one i a there; second = face_there other i b then ∙ ap Some (sym same) }

not_in_both : (one other : List Node) (i : ℕ) (a b : Node) → slice_get one i ≡ Some a → slice_get other i ≡ Some b → face_of a ≢ face_of b → ¬ (IsInBoth one other i)
not_in_both one other i a b there then differ both =
    let x : Some (face_of a) ≡ Some both.face = sym (face_there one i a there) ∙ both.first in
    let y : Some (face_of b) ≡ Some both.face = sym (face_there other i b then) ∙ both.second in
    differ cc

-- what is told of the nodes at a place
pub faces_told : (one other : List Node) (i : ℕ) (told : Bool) (d e : Node) → i < length one → i < length other → MatchBool told (face_of (get_or one i d) ≡ face_of (get_or other i e)) (face_of (get_or one i d) ≢ face_of (get_or other i e)) →
    MatchBool told (IsInBoth one other i) (¬ (IsInBoth one other i))
faces_told one other i true d e a b same = in_both one other i (get_or one i d) (get_or other i e) (slice_get-get_or one i d a) (slice_get-get_or other i e b) same
faces_told one other i false d e a b differ = not_in_both one other i (get_or one i d) (get_or other i e) (slice_get-get_or one i d a) (slice_get-get_or other i e b) differ
