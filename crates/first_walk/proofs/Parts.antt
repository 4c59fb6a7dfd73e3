-- The parts that are listed for a place, and the last part of a used node that ends there.
use Rattle.std.proofs.Common.{◌≡◌, ◌⊎◌, inl, inr, ◌↔◌, ℕ, suc, ◌+◌, ◌-◌, ◌<◌, ◌≤◌, ℤ, ◌≤ℤ◌, true, false, List, [], ◌∷◌, Option, Some, None, length, Contains, slice_get, refl, sym, ◌∙◌, ap, subst, arith}
use Rattle.std.proofs.lemmas.Bool.{cases_lt}
use Rattle.std.proofs.lemmas.Int.{ints}
use Rattle.std.proofs.lemmas.List.Elements.{Contains-get_or}
use Rattle.std.proofs.lemmas.Map.Keys.{Less-from_sorted}
use Rattle.std.specs.Prelude.{IsTrue}
use Rattle.std.specs.Int.Signed.{≤ℤ_refl}
use Rattle.std.specs.declared.cmp.Ordering.TheVariants.{Less}
use Rattle.std.specs.Ordering.{ordering_then, nat_cmp}
use Rattle.std.specs.Option.{option_cmp}
use Rattle.finite_sets.proofs.Clauses.{then_at_most}
use Rattle.finite_sets.proofs.Deciding.{most_twice}
use Rattle.finite_sets.proofs.Lists.{got_at}
use Rattle.finite_sets.proofs.Members.{Among, among_from, contains_from}
use Rattle.grammar_model.specs.declared.Edge.{Edge}
use Rattle.grammar_model.specs.declared.Ranking.{Ranking}
use Rattle.grammar_model.specs.Grammar.{Grammar}
use Rattle.grammar_model.specs.Trees.{Tree, Children, Leaf, Nulled, Node}
use Rattle.recognizer_model.specs.declared.Item.{Item}
use Rattle.recognizer_model.specs.declared.NodeKey.{NodeKey}
use Rattle.recognizer_model.specs.Contexts.{Next}
use Rattle.recognizer_model.specs.Flat.{IsRule, lhs_of, rhs_of, part_of, IsNullable}
use Rattle.recognizer_model.specs.FlatDerives.{Derives, Token, Null, Rule, Spans}
use Rattle.recognizer_model.specs.Chosen.{flat_rank, IsBestRule, allowed_by}
use Rattle.earley_sets.specs.Recognizer.{Recognizer, earleme_of, set_at, edges_of}
use Rattle.earley_sets.proofs.Membership.{found_at}
use Rattle.forest_model.specs.Forest.{ForestNode, IsNode, AreWholes, IsSplit, whole_key, rules_cmp}
use Rattle.forest_parts.specs.declared.parts.Part.{Part}
use Rattle.forest_parts.specs.declared.parts.RuleKey.{RuleKey}
use Rattle.forest_parts.specs.Groups.{IsKept, IsSameSpan, RanksFall, rank_in}
use Rattle.forest_parts.specs.Parts.{part_cmp, key_cmp, part_at, no_part, rule_key_of, IsPart}
use Rattle.forest_parts.proofs.InOrder.{then_rest}
use Rattle.forest_parts.proofs.Ranks.{ranks_fall, kept_allowed, allowed_kept}
use Rattle.forest_parts.proofs.Sets.{in_full}
use Rattle.bocage.specs.Walk.{IsRead, IsUsedIn}
use Rattle.bocage.proofs.Splits.{IsKeyWithin, used_within, waits_in, spans_forward, derives_forward}
use Rattle.first_walk.specs.Walk.{is_none}
use Rattle.first_walk.specs.Place.{reading_of, MayBeLast, HaveLast, IsMatch, IsFirstMatch, HasNoMatch, HasOtherStart, HasOtherWhole}
use Rattle.first_walk.proofs.Heads.{IsHead, first_is}
use Rattle.first_walk.proofs.Rules.{F, kept_itself, keys_compare, never}

at_most_then : (x y z : ℤ) → x ≤ℤ y → y ≤ℤ z → x ≤ℤ z
at_most_then x y z a b = omega (arith, ints, a, b)

as_long : (xs ys : List ℕ) → length xs ≡ length ys → IsTrue (is_none xs) → IsTrue (is_none ys)
as_long [] [] e t = refl
as_long [] (y ∷ ys) e t = absurd (omega arith)
as_long (x ∷ xs) ys e t = let no : false ≡ true = t in absurd (cc)

module _ (w : Grammar) (ranking : Ranking) (r : Recognizer) (read : IsRead w r) (key : NodeKey) (used : IsUsedIn w ranking r key)
    (d symbol : ℕ) (dot_is : key.dot ≡ suc d) (part : part_of r.flat key.rule d ≡ Some symbol) where
  abbrev pub item : Item
  item = record { rule = key.rule; dot = d; origin = key.origin }

  -- the last part begins there
  abbrev pub Split : ℕ → Type 0
  Split m = IsSplit (reading_of w ranking r) key.rule d key.origin symbol m key.end

  within : IsKeyWithin r key
  within = used_within w ranking r read key used

  pub kept_at : (m : ℕ) → m ≤ earleme_of r → Contains (set_at r m) item → (cs : Children) × Spans r.flat (edges_of r) key.rule d key.origin m cs
  kept_at m le h = let f = (waits_in r read.is m item symbol le part).0 h in (f.children, f.spans)

  pub kept_by : (m : ℕ) → m ≤ earleme_of r → (cs : Children) → Spans r.flat (edges_of r) key.rule d key.origin m cs → Contains (set_at r m) item
  kept_by m le cs s = (waits_in r read.is m item symbol le part).1 (record { is_rule = within.is_rule; may_stand = within.stands; children = cs; spans = s })

  pub starts_late : (m : ℕ) → Split m → key.origin ≤ m
  starts_late m s = spans_forward r read.is s.predecessor

  pub starts_early : (m : ℕ) → Split m → m ≤ key.end
  starts_early m s = derives_forward r read.is s.cause

  -- where it spans nothing
  pub nothing_split : IsNullable r.flat symbol → Contains (set_at r key.end) item → Split key.end
  nothing_split null h =
      let (cs, s) = kept_at key.end within.inside h in
      record { children = cs; predecessor = s; tree = Nulled symbol key.end; cause = Null null }

  pub split_nothing : (m : ℕ) → Split m → m ≡ key.end → IsNullable r.flat symbol × Contains (set_at r key.end) item
  split_nothing m s e =
      let here = kept_by m (let i = within.inside in omega arith) s.children s.predecessor in
      (null_of s.cause e, subst (λ z. Contains (set_at r z) item) e here)
    where
      null_of : {x p q : ℕ} {t : Tree} → Derives r.flat (edges_of r) x p q t → p ≡ q → IsNullable r.flat x
      null_of (Token {p = p} {q = q} (t, e, h)) same = let lt = read.is.forward (record { symbol = t; from = p; to = q }) h in absurd (omega arith)
      null_of (Null n) same = n
      null_of (Rule is left lt s) same = absurd (omega arith)

  module _ (parts : List Part) (listed : HaveLast w ranking r key parts) where
    pub there : (k : ℕ) → k < length parts → Contains parts (part_at parts k)
    there k lt = Contains-get_or parts k no_part lt

    pub ends : (p : Part) → Contains parts p → (p.end ≡ key.end) × (p.length ≤ key.end)
    ends p h = let (is, end, bound) = listed.are p h in (end, omega arith)

    pub index_of : (p : Part) → Contains parts p → (k : ℕ) × (k < length parts) × (part_at parts k ≡ p)
    index_of p h =
        let (k, at) = found_at parts p h in
        let (lt, same) = got_at parts k p no_part (sym at) in
        (k, lt, same)

    -- of two parts of one symbol the first begins no earlier, and over one span they are in the order of their rules
    pub in_order : (i j : ℕ) → i < j → j < length parts → (part_at parts i).symbol ≡ (part_at parts j).symbol →
        ordering_then (nat_cmp (part_at parts i).length (part_at parts j).length) (option_cmp key_cmp (part_at parts i).whole (part_at parts j).whole) ≡ Less
    in_order i j lt below same =
        let (e, l) = ends (part_at parts i) (there i (omega arith)) in
        let (e', l') = ends (part_at parts j) (there j below) in
        then_rest _ _ _ (then_rest _ _ _ (Less-from_sorted part_cmp parts i j no_part listed.sorted lt below) (e ∙ sym e')) same

    pub longer : (i j : ℕ) → i < j → j < length parts → (part_at parts i).symbol ≡ (part_at parts j).symbol → (part_at parts i).length ≤ (part_at parts j).length
    longer i j lt below same = then_at_most _ _ _ (in_order i j lt below same)

    -- the symbols of parts do not fall
    pub rising : (i j : ℕ) → i < j → j < length parts → (part_at parts i).symbol ≤ (part_at parts j).symbol
    rising i j lt below =
        let (e, l) = ends (part_at parts i) (there i (omega arith)) in
        let (e', l') = ends (part_at parts j) (there j below) in
        then_at_most _ _ _ (then_rest _ _ _ (Less-from_sorted part_cmp parts i j no_part listed.sorted lt below) (e ∙ sym e'))

    -- A PART THAT MATCHES

    may_be_last : (m : ℕ) (p : Part) → m + p.length ≡ key.end → p.symbol ≡ symbol → Contains (set_at r m) item → MayBeLast r key p
    may_be_last m p sum same kept =
        let d_is : d ≡ key.dot - 1 = omega arith in (
          m,
          sum,
          subst (λ n. part_of r.flat key.rule n ≡ Some p.symbol) d_is (part ∙ ap Some (sym same)),
          subst (λ n. Contains (set_at r m) (record { rule = key.rule; dot = n; origin = key.origin })) d_is kept,
        )

    long : (p : Part) → IsPart w ranking r p → 0 < p.length
    long p (inl (e, i, is)) = let f = read.is.forward e i in let s = is.start in let t = is.end in omega arith
    long p (inr (earleme, whole, le, i, is)) = let f = is.spans in let s = is.start in omega arith

    derives_by : (p : Part) → IsPart w ranking r p → p.end ≡ key.end → p.symbol ≡ symbol → (m : ℕ) → m + p.length ≡ key.end → (t : Tree) × Derives r.flat (edges_of r) symbol m key.end t
    derives_by p (inl (e, i, is)) end same m sum =
        let s = is.start in
        let from : e.from ≡ m = omega arith in
        (Leaf symbol m key.end, Token (e.symbol, ap (slice_get r.flat.symbols) (sym same) ∙ is.symbol, subst (λ (z : Edge). Contains r.edges z) (λ i. record { symbol = e.symbol; from = from i; to = (sym is.end ∙ end) i }) i))
    derives_by p (inr (earleme, whole, le, i, is)) end same m sum =
        let f = (in_full r read.is earleme whole).0 i in
        let s = is.start in
        let e = is.end in
        let origin : whole.origin ≡ m = omega arith in
        let here : earleme ≡ key.end = sym is.end ∙ end in
        let spans = subst (λ q. Spans r.flat (edges_of r) whole.rule (length (rhs_of r.flat whole.rule)) m q f.children) here
        (subst (λ p'. Spans r.flat (edges_of r) whole.rule (length (rhs_of r.flat whole.rule)) p' earleme f.children) origin
        (subst (λ n. Spans r.flat (edges_of r) whole.rule n whole.origin earleme f.children) is.dot f.spans)) in
        (Node whole.rule f.children m key.end, Rule f.is_rule (sym is.symbol ∙ same) (let z = is.spans in omega arith) spans)

    record IsPlaced (p : Part) : Type 0 where
      start : ℕ
      sum : start + p.length ≡ key.end
      is : p.end - p.length ≡ start
      early : start < key.end

    placed : (p : Part) → Contains parts p → IsPlaced p
    placed p h =
        let (is, end, bound) = listed.are p h in
        let l = long p is in
        record { start = key.end - p.length; sum = omega arith; is = omega arith; early = omega arith }

    -- a part that begins where the item is kept may be the last one
    pub match_split : (p : Part) → Contains parts p → IsMatch r symbol item p → (m : ℕ) → m + p.length ≡ key.end → Split m × (m < key.end)
    match_split p h (same, kept) m sum =
        let (is, end, bound) = listed.are p h in
        let at = placed p h in
        let s = at.sum in
        let e = at.is in
        let m_is : p.end - p.length ≡ m = omega arith in
        let i = within.inside in
        let l = at.early in
        let (cs, before) = kept_at m (omega arith) (subst (λ z. Contains (set_at r z) item) m_is kept) in
        let (t, derives) = derives_by p is end same m sum in
        (record { children = cs; predecessor = before; tree = t; cause = derives }, omega arith)

    -- the part of a rule
    abbrev pub part_by : (m rule : ℕ) → Part
    part_by m rule = record { end = key.end; symbol = symbol; length = key.end - m; whole = Some (rule_key_of w ranking r.flat rule) }

    pub rule_part : (m rule : ℕ) (cs : Children) → m < key.end → IsRule r.flat rule → lhs_of r.flat rule ≡ symbol → Spans r.flat (edges_of r) rule (length (rhs_of r.flat rule)) m key.end cs →
        (ds : Children) → Spans r.flat (edges_of r) key.rule d key.origin m ds → Contains parts (part_by m rule)
    rule_part m rule cs lt is left s ds before =
        let whole : Item = record { rule = rule; dot = length (rhs_of r.flat rule); origin = m } in
        let inside = (in_full r read.is key.end whole).1 (record { is_rule = is; may_stand = Next within.stands within.is_rule refl before (part ∙ ap Some (sym left)); children = cs; spans = s }) in
        let i = within.inside in
        listed.all (part_by m rule) (
          inr (key.end, whole, within.inside, inside, record { dot = refl; end = refl; spans = lt; start = (let z = lt in omega arith); symbol = sym left; whole = refl }),
          refl,
          omega arith,
        ) (may_be_last m (part_by m rule) (omega arith) refl (kept_by m (omega arith) ds before))

    derived_part : (m : ℕ) (t : Tree) → Derives r.flat (edges_of r) symbol m key.end t → m < key.end → (ds : Children) → Spans r.flat (edges_of r) key.rule d key.origin m ds →
        (p : Part) × Contains parts p × (p.symbol ≡ symbol) × (m + p.length ≡ key.end)
    derived_part m t derives lt ds before = go derives refl refl refl
      where
        go : {x p q : ℕ} {u : Tree} → Derives r.flat (edges_of r) x p q u → x ≡ symbol → p ≡ m → q ≡ key.end → (p : Part) × Contains parts p × (p.symbol ≡ symbol) × (m + p.length ≡ key.end)
        go (Token {x = x} {p = p} {q = q} (s, e, h)) same from to =
            let edge : Edge = record { symbol = s; from = p; to = q } in
            let f = read.is.forward edge h in
            let one : Part = record { end = q; symbol = x; length = q - p; whole = None } in
            let i = within.inside in
            let sum : m + one.length ≡ key.end = omega arith in (
              one,
              listed.all one (inl (edge, h, record { symbol = e; end = refl; start = (let f = read.is.forward edge h in omega arith); whole = refl }), to, omega arith) (may_be_last m one sum same (kept_by m (omega arith) ds before)),
              same,
              sum,
            )
        go (Null n) same from to = absurd (omega arith)
        go (Rule {p = p} {q = q} {r = rule} {cs = cs} is left lt' s) same from to =
            let s' = subst (λ z. Spans r.flat (edges_of r) rule (length (rhs_of r.flat rule)) z key.end cs) from (subst (λ z. Spans r.flat (edges_of r) rule (length (rhs_of r.flat rule)) p z cs) to s) in
            (part_by m rule, rule_part m rule cs lt is (left ∙ same) s' ds before, refl, omega arith)

    -- where the last part may begin before the end there is such a part
    pub split_match : (m : ℕ) → Split m → m < key.end → (j : ℕ) × (j < length parts) × IsMatch r symbol item (part_at parts j) × (m + (part_at parts j).length ≡ key.end)
    split_match m s lt =
        let (p, h, same, sum) = derived_part m s.tree s.cause lt s.children s.predecessor in
        let (j, below, e) = index_of p h in
        let at = placed p h in
        let i = within.inside in
        let kept = kept_by m (omega arith) s.children s.predecessor in
        let a = at.sum in
        let b = at.is in
        let m_is : m ≡ p.end - p.length = omega arith in (
          j,
          below,
          subst (IsMatch r symbol item) (sym e) (same, subst (λ z. Contains (set_at r z) item) m_is kept),
          subst (λ (z : Part). m + z.length ≡ key.end) (sym e) sum,
        )

    -- without a match it spans nothing
    pub none_nothing : HasNoMatch r parts symbol item → (m : ℕ) → Split m → m ≡ key.end
    none_nothing none m s = elim (cases_lt m key.end) [
      | inl lt ↦ let (j, below, match, sum) = split_match m s lt in absurd (none j below match)
      | inr ge ↦ let le = starts_early m s in omega arith
    ]

    module _ (k : ℕ) (first : IsFirstMatch r parts symbol item k) where
      abbrev pub start : ℕ
      start = key.end - (part_at parts k).length

      pub start_sum : start + (part_at parts k).length ≡ key.end
      start_sum = let (e, l) = ends (part_at parts k) (there k first.below) in omega arith

      pub start_split : Split start × (start < key.end)
      start_split = match_split (part_at parts k) (there k first.below) first.is start start_sum

      pub is_later : (j : ℕ) → j < length parts → IsMatch r symbol item (part_at parts j) → (j ≡ k) ⊎ (k < j)
      is_later j below match = elim (cases_lt j k) [
        | inl lt ↦ absurd (first.first j lt match)
        | inr ge ↦ elim (cases_lt k j) [ inl lt ↦ inr lt | inr le ↦ inl (omega arith) ]
      ]

      -- each other start before the end is no later
      pub starts_before : (m : ℕ) → Split m → m < key.end → (m ≡ start) ⊎ (m < start)
      starts_before m s lt =
          let (j, below, match, sum) = split_match m s lt in
          let mine = start_sum in
          elim (is_later j below match) [
            | inl e ↦ let same = ap (λ z. (part_at parts z).length) e in inl (omega arith)
            | inr after ↦
                let l = longer k j after below (first.is.0 ∙ sym match.0) in
                elim (cases_lt m start) [ inl before ↦ inr before | inr ge ↦ inl (omega arith) ]
          ]

      -- and there is none but where a part behind it begins elsewhere
      pub other_start : HasOtherStart r parts item k → (m : ℕ) × Split m × (m < key.end) × (m ≡ start → ⊥)
      other_start (j, after, below, differs, (same, kept)) =
          let match : IsMatch r symbol item (part_at parts j) = (same ∙ first.is.0, kept) in
          let (e, l) = ends (part_at parts j) (there j below) in
          let (s, lt) = match_split (part_at parts j) (there j below) match (key.end - (part_at parts j).length) (omega arith) in
          let mine = start_sum in
          let (e', l') = ends (part_at parts k) (there k first.below) in
          (key.end - (part_at parts j).length, s, lt, λ q. differs (let q' : key.end - (part_at parts j).length ≡ key.end - (part_at parts k).length = q in omega arith))

      pub start_other : (m : ℕ) → Split m → m < key.end → (m ≡ start → ⊥) → HasOtherStart r parts item k
      start_other m s lt differs =
          let (j, below, match, sum) = split_match m s lt in
          let mine = start_sum in
          elim (is_later j below match) [
            | inl e ↦ let same = ap (λ z. (part_at parts z).length) e in absurd (differs (omega arith))
            | inr after ↦ (j, after, below, (λ e. differs (let e' : (part_at parts j).length ≡ (part_at parts k).length = e in omega arith)), (match.0 ∙ sym first.is.0, match.1))
          ]

      -- THE WHOLE RULES OVER ITS SPAN

      falls : RanksFall parts
      falls = ranks_fall w ranking r read.is key.end 0 parts (λ p h. listed.are p h) listed.sorted

      -- a rule over the span
      pub record IsOver (rule : ℕ) : Type 0 where
        pub is_rule : IsRule r.flat rule
        pub left : lhs_of r.flat rule ≡ symbol
        pub children : Children
        pub spans : Spans r.flat (edges_of r) rule (length (rhs_of r.flat rule)) start key.end children

      -- has its part, which stands behind the first or is the first
      record HasIndex (rule : ℕ) : Type 0 where
        index : ℕ
        below : index < length parts
        is : part_at parts index ≡ part_by start rule
        order : (index ≡ k) ⊎ (k < index)

      index_by : (rule : ℕ) → IsOver rule → HasIndex rule
      index_by rule over =
          let (s, lt) = start_split in
          let h = rule_part start rule over.children lt over.is_rule over.left over.spans s.children s.predecessor in
          let (j, below, e) = index_of (part_by start rule) h in
          let i = within.inside in
          let kept = kept_by start (omega arith) s.children s.predecessor in
          let back : start ≡ key.end - (key.end - start) = omega arith in
          record { index = j; below = below; is = e; order = is_later j below (subst (IsMatch r symbol item) (sym e) (refl, subst (λ z. Contains (set_at r z) item) back kept)) }

      -- the length of the first part
      own_length : key.end - start ≡ (part_at parts k).length
      own_length = let s = start_sum in omega arith

      same_span : (rule : ℕ) (h : HasIndex rule) → IsSameSpan (part_at parts k) (part_at parts h.index)
      same_span rule h = (first.is.0 ∙ sym (ap (λ (p : Part). p.symbol) h.is), sym own_length ∙ sym (ap (λ (p : Part). p.length) h.is))

      module _ (s : ℕ) (mine : IsOver s) (whole : (part_at parts k).whole ≡ Some (rule_key_of w ranking r.flat s)) where
        -- no rule over the span has a higher rank
        ranks : (rule : ℕ) → IsOver rule → flat_rank w ranking r.flat rule ≤ℤ flat_rank w ranking r.flat s
        ranks rule over =
            let h = index_by rule over in
            let own = ap rank_in whole in
            let its : rank_in (part_at parts h.index).whole ≡ flat_rank w ranking r.flat rule = ap (λ (p : Part). rank_in p.whole) h.is in
            subst (λ z. z ≤ℤ flat_rank w ranking r.flat s) its (subst (λ z. rank_in (part_at parts h.index).whole ≤ℤ z) own (
            elim h.order [
              | inl e ↦ subst (λ i. rank_in (part_at parts h.index).whole ≤ℤ rank_in (part_at parts i).whole) e (≤ℤ_refl (rank_in (part_at parts h.index).whole))
              | inr lt ↦ falls k h.index lt h.below (same_span rule h)
            ]
            ))

        best : IsBestRule w ranking r.flat (edges_of r) s start key.end
        best = λ other children is left spans. ranks other (record { is_rule = is; left = left ∙ mine.left; children = children; spans = spans })

        allowed : allowed_by w ranking r.flat (edges_of r) s start key.end
        allowed = kept_allowed w r.flat (edges_of r) s start key.end (part_at parts k) (part_at parts k) ranking (kept_itself ranking (part_at parts k)) (λ same. best)

        module _ (nodes : List ForestNode) (root : Option ℕ) where
          -- it stands before the others
          before : (rule : ℕ) → IsOver rule → (rule ≡ s) ⊎ (rules_cmp (F w ranking r nodes root) s rule ≡ Less)
          before rule over =
              let h = index_by rule over in
              elim h.order [
                | inl e ↦
                    let one : Some (rule_key_of w ranking r.flat rule) ≡ Some (rule_key_of w ranking r.flat s) = sym (ap (λ (p : Part). p.whole) h.is) ∙ ap (λ i. (part_at parts i).whole) e ∙ whole in
                    let keys : rule_key_of w ranking r.flat rule ≡ rule_key_of w ranking r.flat s = cc in
                    inl (ap (λ (z : RuleKey). z.rule) keys)
                | inr lt ↦
                    let (x, l) = same_span rule h in
                    let less = then_rest _ _ _ (in_order k h.index lt h.below x) l in
                    let keys : key_cmp (rule_key_of w ranking r.flat s) (rule_key_of w ranking r.flat rule) ≡ Less =
                    subst (λ o. option_cmp key_cmp o (Some (rule_key_of w ranking r.flat rule)) ≡ Less) whole (subst (λ (p : Part). option_cmp key_cmp (part_at parts k).whole p.whole ≡ Less) h.is less) in
                    inr (sym (keys_compare w ranking r nodes root s rule (mine.left ∙ sym over.left)) ∙ keys)
              ]

          module _ (numbers : List ℕ) (are : AreWholes (F w ranking r nodes root) symbol start key.end numbers) where
            over_of : (rule : ℕ) → Among rule are.rules → IsOver rule
            over_of rule i = let (over, best) = (are.exact rule).0 (contains_from are.rules rule i) in record { is_rule = over.is_rule; left = over.left; children = over.children; spans = over.spans }

            head : IsHead are.rules s
            head = first_is (rules_cmp (F w ranking r nodes root)) (never w ranking r nodes root) are.rules are.sorted s
                (among_from are.rules s ((are.exact s).1 (record { is_rule = mine.is_rule; left = mine.left; children = mine.children; spans = mine.spans }, allowed)))
                (λ rule i. before rule (over_of rule i))

            -- a second rule stands behind it where there is one
            second_rule : HasOtherWhole ranking parts k → ((n : ℕ) → Among n are.rules → n ≡ s) → ⊥
            second_rule (below, (x, l), kept) alone =
                let h = there (suc k) below in
                let (is, end, bound) = listed.are (part_at parts (suc k)) h in
                go is end
              where
                go : IsPart w ranking r (part_at parts (suc k)) → (part_at parts (suc k)).end ≡ key.end → ⊥
                go (inl (e, i, is)) end = read.is.flat.no_rules s mine.is_rule (e.symbol, ap (slice_get r.flat.symbols) (mine.left ∙ sym first.is.0 ∙ sym x) ∙ is.symbol)
                go (inr (earleme, item', le, i, is)) end =
                    let f = (in_full r read.is earleme item').0 i in
                    let a = is.start in
                    let b = is.end in
                    let sum = start_sum in
                    let origin : item'.origin ≡ start = omega arith in
                    let here : earleme ≡ key.end = sym is.end ∙ end in
                    let spans = subst (λ q. Spans r.flat (edges_of r) item'.rule (length (rhs_of r.flat item'.rule)) start q f.children) here
                    (subst (λ p'. Spans r.flat (edges_of r) item'.rule (length (rhs_of r.flat item'.rule)) p' earleme f.children) origin
                    (subst (λ n. Spans r.flat (edges_of r) item'.rule n item'.origin earleme f.children) is.dot f.spans)) in
                    let left : lhs_of r.flat item'.rule ≡ symbol = sym is.symbol ∙ x ∙ first.is.0 in
                    let over : IsOver item'.rule = record { is_rule = f.is_rule; left = left; children = f.children; spans = spans } in
                    let can = kept_allowed w r.flat (edges_of r) item'.rule start key.end (part_at parts (suc k)) (part_at parts k) ranking kept
                    (λ same other children is' left' spans'. (
                    subst (λ z. flat_rank w ranking r.flat other ≤ℤ z) (sym (ap rank_in whole) ∙ sym same ∙ ap rank_in is.whole)
                    (ranks other (record { is_rule = is'; left = left' ∙ left; children = children; spans = spans' }))
                    )) in
                    let among = among_from are.rules item'.rule ((are.exact item'.rule).1 (record { is_rule = f.is_rule; left = left; children = f.children; spans = spans }, can)) in
                    let one = alone item'.rule among in
                    let less = then_rest _ _ _ (in_order k (suc k) (omega arith) below (sym x)) (sym l) in
                    let keys : key_cmp (rule_key_of w ranking r.flat s) (rule_key_of w ranking r.flat s) ≡ Less =
                    subst (λ z. option_cmp key_cmp (Some (rule_key_of w ranking r.flat s)) (Some (rule_key_of w ranking r.flat z)) ≡ Less) one
                    (subst (λ o. option_cmp key_cmp (Some (rule_key_of w ranking r.flat s)) o ≡ Less) is.whole (subst (λ o. option_cmp key_cmp o (part_at parts (suc k)).whole ≡ Less) whole less)) in
                    let again = sym (keys_compare w ranking r nodes root s s refl) ∙ keys in
                    never w ranking r nodes root s s again again

            -- and only there
            only_rule : (HasOtherWhole ranking parts k → ⊥) → (n : ℕ) → Among n are.rules → n ≡ s
            only_rule none n i =
                let over = over_of n i in
                let can = ((are.exact n).0 (contains_from are.rules n i)).1 in
                let h = index_by n over in
                elim h.order [
                  | inl e ↦
                      let one : Some (rule_key_of w ranking r.flat n) ≡ Some (rule_key_of w ranking r.flat s) = sym (ap (λ (p : Part). p.whole) h.is) ∙ ap (λ i. (part_at parts i).whole) e ∙ whole in
                      let keys : rule_key_of w ranking r.flat n ≡ rule_key_of w ranking r.flat s = cc in
                      ap (λ (z : RuleKey). z.rule) keys
                  | inr lt ↦ absurd (none (next n over can h lt))
                ]
              where
                next : (n : ℕ) → IsOver n → allowed_by w ranking r.flat (edges_of r) n start key.end → (h : HasIndex n) → k < h.index → HasOtherWhole ranking parts k
                next n over can h lt = let (x, l) = same_span n h in elim (cases_lt (suc k) h.index) [
                  | inl after ↦
                      let up = rising k (suc k) (omega arith) (let b = h.below in omega arith) in
                      let up' = rising (suc k) h.index after h.below in
                      let same : (part_at parts k).symbol ≡ (part_at parts (suc k)).symbol = omega arith in
                      let long = longer k (suc k) (omega arith) (let b = h.below in omega arith) same in
                      let long' = longer (suc k) h.index after h.below (sym same ∙ x) in
                      let alike : (part_at parts (suc k)).length ≡ (part_at parts k).length = omega arith in
                      let below : suc k < length parts = (let b = h.below in omega arith) in
                      let low' = falls (suc k) h.index after h.below (sym same ∙ x, alike ∙ l) in
                      let high = falls k (suc k) (omega arith) below (same, sym alike) in
                      (below, (sym same, alike), kept_next (suc k) low' high)
                  | inr ge ↦
                      let e : h.index ≡ suc k = omega arith in
                      let below : suc k < length parts = (let b = h.below in omega arith) in
                      let high = falls k h.index lt h.below (x, l) in (
                        below,
                        subst (λ i. IsSameSpan (part_at parts i) (part_at parts k)) e (sym x, sym l),
                        kept_next (suc k) (subst (λ i. rank_in (part_at parts h.index).whole ≤ℤ rank_in (part_at parts i).whole) e (≤ℤ_refl (rank_in (part_at parts h.index).whole)))
                            (subst (λ i. rank_in (part_at parts i).whole ≤ℤ rank_in (part_at parts k).whole) e high),
                      )
                ]
                  where
                    -- what lies between two of one rank has it
                    kept_next : (i : ℕ) → rank_in (part_at parts h.index).whole ≤ℤ rank_in (part_at parts i).whole → rank_in (part_at parts i).whole ≤ℤ rank_in (part_at parts k).whole → IsKept ranking (part_at parts i) (part_at parts k)
                    kept_next i low' high = allowed_kept w r.flat (edges_of r) n start key.end (part_at parts i) (part_at parts k) ranking can
                        (λ is. (
                        let most = is s mine.children mine.is_rule (mine.left ∙ sym over.left) mine.spans in
                        let its : rank_in (part_at parts h.index).whole ≡ flat_rank w ranking r.flat n = ap (λ (p : Part). rank_in p.whole) h.is in
                        most_twice (rank_in (part_at parts i).whole) (rank_in (part_at parts k).whole) high
                        (subst (λ z. z ≤ℤ rank_in (part_at parts i).whole) (sym (ap rank_in whole)) (at_most_then _ _ _ most (subst (λ z. z ≤ℤ rank_in (part_at parts i).whole) its low')))
                        ))

            -- its node, and whether it is the only one
            pub record IsFirstWhole : Type 0 where
              pub number : ℕ
              pub more : List ℕ
              pub is : numbers ≡ number ∷ more
              pub node : IsNode (F w ranking r nodes root) number (whole_key (F w ranking r nodes root) s start key.end)
              pub none : IsTrue (is_none more) ↔ (HasOtherWhole ranking parts k → ⊥)

            pub first_whole : IsFirstWhole
            first_whole = go numbers refl head.rest head.is
              where
                go : (xs : List ℕ) → numbers ≡ xs → (rest : List ℕ) → are.rules ≡ s ∷ rest → IsFirstWhole
                go [] e rest e' = let a = are.some in let b = ap (λ (l : List ℕ). length l) e in absurd (omega arith)
                go (n ∷ more) e rest e' = record {
                  number = n;
                  more = more;
                  is = e;
                  node = are.each 0 n s (ap (λ l. slice_get l 0) e) (ap (λ l. slice_get l 0) e');
                  none = (
                    λ t other. second_rule other (head.none.0 (subst (λ l. IsTrue (is_none l)) (rest_is rest e') (as_long more rest lengths t))),
                    λ none. as_long rest more (sym lengths) (subst (λ l. IsTrue (is_none l)) (sym (rest_is rest e')) (head.none.1 (only_rule none))),
                  );
                }
                  where
                    rest_is : (rest : List ℕ) → are.rules ≡ s ∷ rest → rest ≡ head.rest
                    rest_is rest e' = let both : s ∷ rest ≡ s ∷ head.rest = sym e' ∙ head.is in cc

                    lengths : length more ≡ length rest
                    lengths = let a = are.all in let b = ap (λ (l : List ℕ). length l) e in let c = ap (λ (l : List ℕ). length l) e' in omega arith
