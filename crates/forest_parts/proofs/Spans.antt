-- Parts that end at one place, span by span.
use Rattle.std.proofs.Common.{◌≡◌, ℕ, zero, suc, ◌<◌, ◌≤◌, ◌+◌, ◌-◌, ◌++◌, inl, inr, Contains, List, [], ◌∷◌, Some, length, take, drop, get_or, slice_get, refl, sym, ◌∙◌, ap, subst, arith, ◌≤ℤ◌}
use Rattle.std.proofs.lemmas.Int.{ints}
use Rattle.std.specs.Option.{option_cmp}
use Rattle.std.specs.List.Sorted.{IsStrictlySortedBy}
use Rattle.std.proofs.lemmas.Bool.{cases_lt}
use Rattle.std.proofs.lemmas.List.Elements.{Contains-push_cases, Contains-get_or}
use Rattle.grammar_core.proofs.Placed.{part_from, part_to}
use Rattle.earley_sets.proofs.Membership.{found_at}
use Rattle.forest_parts.specs.declared.parts.Part.{Part}
use Rattle.forest_parts.specs.declared.groups.Group.{Group}
use Rattle.forest_parts.specs.Lists.{between}
use Rattle.forest_parts.specs.Parts.{part_cmp, key_cmp, part_at, no_part}
use Rattle.std.specs.Int.Signed.{≤ℤ_refl}
use Rattle.std.proofs.lemmas.Option.{slice_get-get_or}
use Rattle.finite_sets.proofs.Lists.{get_left, get_last, get_pushed, got_item, got_at}
use Rattle.grammar_model.specs.declared.Ranking.{Ranking}
use Rattle.grammar_model.specs.declared.Ranking.TheVariants.{None as NoRanks, Rule as RuleRanks, High as HighRanks}
use Rattle.forest_parts.specs.Groups.{IsSameSpan, IsKept, RanksFall, IsGroup, rank_in, IsSpan}
use Rattle.forest_parts.proofs.InOrder.{seconds_rise, thirds_rise, sorted_between}

first_between : {X : Type 0} (k end : ℕ) (xs : List X) (d : X) → k < end → k < length xs → get_or (between k end xs) 0 d ≡ get_or xs k d
first_between zero (suc end) [] d lt l = absurd (omega arith)
first_between zero (suc end) (x ∷ xs) d lt l = let e : suc end - 0 ≡ suc end = omega arith in ap (λ n. get_or (take n (x ∷ xs)) 0 d) e
first_between zero zero xs d lt l = absurd (omega arith)
first_between (suc k) zero xs d lt l = absurd (omega arith)
first_between (suc k) (suc end) [] d lt l = absurd (omega arith)
first_between (suc k) (suc end) (x ∷ xs) d lt l = let e : suc end - suc k ≡ end - k = omega arith in ap (λ n. get_or (take n (drop k xs)) 0 d) e ∙ first_between k end xs d (omega arith) (omega arith)

-- the ranking keeps the first
kept_first : (ranking : Ranking) (p : Part) → IsKept ranking p p
kept_first NoRanks p = tt
kept_first RuleRanks p = tt
kept_first HighRanks p = refl

-- what stands between the first and one that is kept is kept
kept_between : (ranking : Ranking) (first p q : Part) → rank_in p.whole ≤ℤ rank_in first.whole → rank_in q.whole ≤ℤ rank_in p.whole → IsKept ranking q first → IsKept ranking p first
kept_between NoRanks first p q a b h = tt
kept_between RuleRanks first p q a b h = tt
kept_between HighRanks first p q a b h = omega (arith, ints)

module _ (ranking : Ranking) (end : ℕ) (parts : List Part) (sorted : IsStrictlySortedBy part_cmp parts) (ranks : RanksFall parts) (ends : (p : Part) → Contains parts p → (p.end ≡ end) × (p.length ≤ end)) where
  same_ends : (p q : Part) → Contains parts p → Contains parts q → p.end ≡ q.end
  same_ends p q a b = (ends p a).0 ∙ sym (ends q b).0

  symbols_rise : (i j : ℕ) (d : Part) → i ≤ j → j < length parts → (get_or parts i d).symbol ≤ (get_or parts j d).symbol
  symbols_rise = seconds_rise (λ (p : Part). p.end) (λ (p : Part). p.symbol) (λ (p : Part). p.length) (λ (p q : Part). option_cmp key_cmp p.whole q.whole) parts sorted same_ends

  lengths_rise : (i j : ℕ) (d : Part) → i ≤ j → j < length parts → (get_or parts i d).symbol ≡ (get_or parts j d).symbol → (get_or parts i d).length ≤ (get_or parts j d).length
  lengths_rise = thirds_rise (λ (p : Part). p.end) (λ (p : Part). p.symbol) (λ (p : Part). p.length) (λ (p q : Part). option_cmp key_cmp p.whole q.whole) parts sorted same_ends

  module _ (k past : ℕ) (below : k < length parts) (on : k < past) (bound : past ≤ length parts)
      (same : (i : ℕ) → k ≤ i → i < past → IsSameSpan (part_at parts i) (part_at parts k)) (other : past < length parts → ¬ IsSameSpan (part_at parts past) (part_at parts k))
      (cut : ℕ) (after : k < cut) (inside : cut ≤ past) (kept : (i : ℕ) → k ≤ i → i < cut → IsKept ranking (part_at parts i) (part_at parts k)) (apart : cut < past → ¬ IsKept ranking (part_at parts cut) (part_at parts k)) where
    -- after the group the same symbol is over longer spans
    pub beyond : (i : ℕ) → past ≤ i → i < length parts → (part_at parts i).symbol ≡ (part_at parts k).symbol → (part_at parts k).length < (part_at parts i).length
    beyond i le lt e =
        let a = symbols_rise k past no_part (omega arith) (omega arith) in
        let b = symbols_rise past i no_part le lt in
        let s : (part_at parts past).symbol ≡ (part_at parts k).symbol = omega arith in
        let c = lengths_rise k past no_part (omega arith) (omega arith) (sym s) in
        let d = lengths_rise past i no_part le lt (s ∙ sym e) in
        elim (cases_lt (part_at parts k).length (part_at parts i).length) [ inl l ↦ l | inr ge ↦ absurd (other (omega arith) (s, omega arith)) ]

    abbrev pub group_at : Group
    group_at = record { symbol = (part_at parts k).symbol; start = end - (part_at parts k).length; first = k; past = cut }

    -- those over the span that the ranking keeps stand before the cut
    before_cut : (i : ℕ) → k ≤ i → i < past → IsKept ranking (part_at parts i) (part_at parts k) → i < cut
    before_cut i le lt is = elim (cases_lt i cut) [
      | inl below' ↦ below'
      | inr ge ↦ absurd (apart (omega arith) (elim (cases_lt cut i) [
        | inl gt ↦
            let a = same cut (omega arith) (omega arith) in
            let b = same i le lt in
            kept_between ranking (part_at parts k) (part_at parts cut) (part_at parts i) (ranks k cut after (omega arith) (sym a.0, sym a.1)) (ranks cut i gt (omega arith) (a.0 ∙ sym b.0, a.1 ∙ sym b.1)) is
        | inr le' ↦ let e : i ≡ cut = omega arith in subst (λ n. IsKept ranking (part_at parts n) (part_at parts k)) e is
      ]))
    ]

    fits : (part_at parts k).length ≤ end
    fits = (ends (part_at parts k) (Contains-get_or parts k no_part below)).1

    module _ (groups : List Group)
        (are : (g : Group) → Contains groups g → IsGroup ranking end parts g)
        (all : (i : ℕ) → i < k → (n : ℕ) × (g : Group) × (slice_get groups n ≡ Some g) × (g.symbol ≡ (part_at parts i).symbol) × (g.start + (part_at parts i).length ≡ end))
        (order : (i j : ℕ) (g h : Group) → i < j → slice_get groups i ≡ Some g → slice_get groups j ≡ Some h → g.symbol ≡ h.symbol → h.start < g.start)
        (longer : (g : Group) (j : ℕ) → Contains groups g → k ≤ j → j < length parts → g.symbol ≡ (part_at parts j).symbol → end < g.start + (part_at parts j).length) where
      new_group : IsGroup ranking end parts (record { symbol = (part_at parts k).symbol; start = end - (part_at parts k).length; first = k; past = cut })
      new_group = record {
        some = after;
        within = omega arith;
        each = λ i le lt. (let s = same i le (omega arith) in let l = s.1 in let f = fits in (s.0, omega arith));
        kept = kept;
        all = λ i lt s l. (
            elim (cases_lt i k) [
              | inl before ↦
                  let (n, g, at, gs, gl) = all i before in
                  let x = longer g k (got_item groups n g (sym at)) (omega arith) below (gs ∙ s) in
                  let f = fits in
                  absurd (omega arith)
              | inr ge ↦ elim (cases_lt i past) [ inl lt' ↦ (ge, before_cut i ge lt') | inr ge' ↦ let b = beyond i ge' lt s in let f = fits in absurd (omega arith) ]
            ]
            );
      }

      pub more_are : (g : Group) → Contains (groups ++ record { symbol = (part_at parts k).symbol; start = end - (part_at parts k).length; first = k; past = cut } ∷ []) g → IsGroup ranking end parts g
      more_are g h = elim (Contains-push_cases groups (record { symbol = (part_at parts k).symbol; start = end - (part_at parts k).length; first = k; past = cut }) g h) [ inl a ↦ are g a | inr s ↦ subst (IsGroup ranking end parts) s new_group ]

      pub more_all : (i : ℕ) → i < past → (n : ℕ) × (g : Group) × (slice_get (groups ++ record { symbol = (part_at parts k).symbol; start = end - (part_at parts k).length; first = k; past = cut } ∷ []) n ≡ Some g) × (g.symbol ≡ (part_at parts i).symbol) × (g.start + (part_at parts i).length ≡ end)
      more_all i lt = elim (cases_lt i k) [
        | inl before ↦ let (n, g, at, gs, gl) = all i before in (n, g, get_left groups _ n g at, gs, gl)
        | inr ge ↦ let s = same i ge lt in let l = s.1 in let f = fits in (length groups, group_at, get_last groups _, sym s.0, omega arith)
      ]

      pub more_order : (i j : ℕ) (g h : Group) → i < j → slice_get (groups ++ record { symbol = (part_at parts k).symbol; start = end - (part_at parts k).length; first = k; past = cut } ∷ []) i ≡ Some g →
          slice_get (groups ++ record { symbol = (part_at parts k).symbol; start = end - (part_at parts k).length; first = k; past = cut } ∷ []) j ≡ Some h → g.symbol ≡ h.symbol → h.start < g.start
      more_order i j g h lt a b s = elim (get_pushed groups _ i g a) [
        | inl x ↦ elim (get_pushed groups _ j h b) [
          | inl y ↦ order i j g h lt x y s
          | inr (at, same') ↦
              let x' = longer g k (got_item groups i g (sym x)) (omega arith) below (s ∙ ap (λ (z : Group). z.symbol) (sym same')) in
              let f = fits in
              let e = ap (λ (z : Group). z.start) same' in
              omega arith
        ]
        | inr (at, same') ↦ elim (get_pushed groups _ j h b) [
          | inl y ↦ let (l, e) = got_at groups j h h (sym y) in absurd (omega arith)
          | inr (at', _) ↦ absurd (omega arith)
        ]
      ]

      pub more_longer : (g : Group) (j : ℕ) → Contains (groups ++ record { symbol = (part_at parts k).symbol; start = end - (part_at parts k).length; first = k; past = cut } ∷ []) g → past ≤ j → j < length parts → g.symbol ≡ (part_at parts j).symbol → end < g.start + (part_at parts j).length
      more_longer g j h le lt s = elim (Contains-push_cases groups (record { symbol = (part_at parts k).symbol; start = end - (part_at parts k).length; first = k; past = cut }) g h) [
        | inl a ↦ longer g j a (omega arith) lt s
        | inr q ↦ let b = beyond j le lt (sym (ap (λ (z : Group). z.symbol) q ∙ s)) in let e = ap (λ (z : Group). z.start) q in let f = fits in omega arith
      ]

  -- the parts of a group are those of one symbol over one span
  module _ (g : Group) (is : IsGroup ranking end parts g) where
    below : g.first < length parts
    below = let a = is.some in let b = is.within in omega arith

    pub first_of_group : part_at (between g.first g.past parts) 0 ≡ part_at parts g.first
    first_of_group = first_between g.first g.past parts no_part is.some below

    pub symbol_of_group : (part_at (between g.first g.past parts) 0).symbol ≡ g.symbol
    symbol_of_group = ap (λ (p : Part). p.symbol) first_of_group ∙ (is.each g.first (omega arith) is.some).0

    pub start_of_group : g.start + (part_at (between g.first g.past parts) 0).length ≡ end
    start_of_group = ap (λ (p : Part). g.start + p.length) first_of_group ∙ (is.each g.first (omega arith) is.some).1

    pub span_of_group : IsSpan ranking parts (between g.first g.past parts)
    span_of_group = record {
      some = (let (n, lt, e) = inside (part_at parts g.first) g.first (omega arith) is.some (slice_get-get_or parts g.first no_part below) in omega arith);
      sorted = sorted_between part_cmp g.first g.past parts sorted;
      exact = λ p. (out p, into p);
      best = best;
    }
      where
        inside : (p : Part) (i : ℕ) → g.first ≤ i → i < g.past → slice_get parts i ≡ Some p → Contains (between g.first g.past parts) p
        inside p i le lt e = let s = is.some in part_to parts g.first g.past (omega arith) is.within i p le lt e

        out : (p : Part) → Contains (between g.first g.past parts) p → Contains parts p × (p.symbol ≡ (part_at (between g.first g.past parts) 0).symbol) × (p.length ≡ (part_at (between g.first g.past parts) 0).length) × IsKept ranking p (part_at (between g.first g.past parts) 0)
        out p h =
            let s = is.some in
            let (i, le, lt, e) = part_from parts g.first g.past (omega arith) is.within p h in
            let (l, same) = got_at parts i p no_part (sym e) in
            let (a, b) = is.each i le lt in
            let c = ap (λ (z : Part). z.length) same in
            let d = start_of_group in (
              got_item parts i p (sym e),
              ap (λ (z : Part). z.symbol) (sym same) ∙ a ∙ sym symbol_of_group,
              omega arith,
              subst (λ z. IsKept ranking z (part_at (between g.first g.past parts) 0)) same (subst (λ z. IsKept ranking (part_at parts i) z) (sym first_of_group) (is.kept i le lt)),
            )

        into : (p : Part) → Contains parts p × (p.symbol ≡ (part_at (between g.first g.past parts) 0).symbol) × (p.length ≡ (part_at (between g.first g.past parts) 0).length) × IsKept ranking p (part_at (between g.first g.past parts) 0) → Contains (between g.first g.past parts) p
        into p (all, s, l, kept) =
            let (i, at) = found_at parts p all in
            let (lt, same) = got_at parts i p no_part (sym at) in
            let c = ap (λ (z : Part). z.length) same in
            let d = start_of_group in
            let (a, b) = is.all i lt (ap (λ (z : Part). z.symbol) same ∙ s ∙ symbol_of_group) (omega arith) in
            inside p i a (b (subst (λ z. IsKept ranking (part_at parts i) z) first_of_group (subst (λ z. IsKept ranking z (part_at (between g.first g.past parts) 0)) (sym same) kept))) at

        best : (p : Part) → Contains parts p → p.symbol ≡ (part_at (between g.first g.past parts) 0).symbol → p.length ≡ (part_at (between g.first g.past parts) 0).length → rank_in p.whole ≤ℤ rank_in (part_at (between g.first g.past parts) 0).whole
        best p all s l =
            let (i, at) = found_at parts p all in
            let (lt, same) = got_at parts i p no_part (sym at) in
            let c = ap (λ (z : Part). z.length) same in
            let d = start_of_group in
            let one = ap (λ (z : Part). z.symbol) same ∙ s ∙ symbol_of_group in
            let (a, b) = is.all i lt one (omega arith) in
            let (e, f) = is.each g.first (omega arith) is.some in
            subst (λ z. rank_in p.whole ≤ℤ rank_in z.whole) (sym first_of_group) (subst (λ z. rank_in z.whole ≤ℤ rank_in (part_at parts g.first).whole) same (elim (cases_lt g.first i) [
              | inl gt ↦ ranks g.first i gt lt (e ∙ sym one, omega arith)
              | inr le ↦ let q : g.first ≡ i = omega arith in subst (λ n. rank_in (part_at parts n).whole ≤ℤ rank_in (part_at parts g.first).whole) q (≤ℤ_refl (rank_in (part_at parts g.first).whole))
            ]))
