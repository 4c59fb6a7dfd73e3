-- The walk, end by end.
use Rattle.std.proofs.Common.{◌≡◌, ◌≢◌, ℕ, zero, suc, ◌<◌, ◌≤◌, ◌+◌, ◌++◌, ◌⊎◌, inl, inr, ◌↔◌, Contains, List, [], ◌∷◌, Some, None, length, map, take, slice_get, get_or, refl, sym, ◌∙◌, ap, subst, arith}
use Rattle.std.proofs.lemmas.Bool.{cases_lt}
use Rattle.std.proofs.lemmas.List.Elements.{Contains-push_cases}
use Rattle.grammar_model.specs.declared.Ranking.{Ranking}
use Rattle.grammar_model.specs.Grammar.{Grammar}
use Rattle.recognizer_model.specs.declared.NodeKey.{NodeKey}
use Rattle.earley_sets.specs.Recognizer.{Recognizer, earleme_of}
use Rattle.earley_sets.proofs.Membership.{found_at}
use Rattle.bocage.specs.declared.rows.AlternativeRow.{AlternativeRow}
use Rattle.bocage.specs.declared.walk.Known.{Known}
use Rattle.bocage.specs.declared.walk.Found.{Found}
use Rattle.bocage.specs.Walk.{IsRead, Knows, IsUsedIn, IsNew, AreNoted, GrowsBy, ListsKey, top_key}
use Rattle.forest_parts.specs.Chains.{EndsAt, AreChained}
use Rattle.bocage.specs.Ends.{SetsRow, HasRow, Goes, Visits, IsReady, IsGoing, AreVisited}
use Rattle.std.proofs.Math.ListN.{set}
use Rattle.std.proofs.lemmas.List.{map-append, length-map, take_more, nil_from_length, map-set}
use Rattle.std.proofs.lemmas.Option.{slice_get_within}
use Rattle.finite_sets.proofs.Lists.{Contains-none, get_left, get_last, get_none, got_item}
use Rattle.bocage.proofs.Growing.{grows_none, grows_then}
use Rattle.bocage.proofs.Finishing.{key_law}
use Rattle.bocage.proofs.Moving.{row_stays}

get_below : {X : Type 0} (xs ys : List X) (n : ℕ) (x : X) → slice_get (xs ++ ys) n ≡ Some x → n < length xs → slice_get xs n ≡ Some x
get_below [] ys n x e lt = absurd (omega arith)
get_below (z ∷ zs) ys zero x e lt = e
get_below (z ∷ zs) ys (suc n) x e lt = get_below zs ys n x e (omega arith)

get_behind : {X : Type 0} (xs ys : List X) (n : ℕ) (x : X) → slice_get (xs ++ ys) n ≡ Some x → length xs ≤ n → Contains ys x
get_behind [] ys n x e le = got_item ys n x (sym e)
get_behind (z ∷ zs) ys zero x e le = absurd (omega arith)
get_behind (z ∷ zs) ys (suc n) x e le = get_behind zs ys n x e (omega arith)

-- ROWS THAT ARE SET

set_same : {X : Type 0} (ys : List X) (n : ℕ) (b : X) → n < length ys → slice_get (set ys n b) n ≡ Some b
set_same [] n b lt = absurd (omega arith)
set_same (y ∷ ys) zero b lt = refl
set_same (y ∷ ys) (suc n) b lt = set_same ys n b (omega arith)

set_other : {X : Type 0} (ys : List X) (n m : ℕ) (b y : X) → m ≢ n → slice_get ys m ≡ Some y → slice_get (set ys n b) m ≡ Some y
set_other [] n m b y ne e = absurd (cc)
set_other (z ∷ ys) zero zero b y ne e = absurd (ne refl)
set_other (z ∷ ys) zero (suc m) b y ne e = e
set_other (z ∷ ys) (suc n) zero b y ne e = e
set_other (z ∷ ys) (suc n) (suc m) b y ne e = set_other ys n m b y (λ q. ne (ap suc q)) e

module _ {X : Type 0} (f : X → List AlternativeRow) (old : List (List AlternativeRow)) (xs : List X) (same : (m : ℕ) (held : List AlternativeRow) → slice_get old m ≡ Some held → slice_get (map f xs) m ≡ Some held) where
  pub more_pushed : (x : X) (m : ℕ) (held : List AlternativeRow) → slice_get old m ≡ Some held → slice_get (map f (xs ++ x ∷ [])) m ≡ Some held
  more_pushed x m held e = subst (λ l. slice_get l m ≡ Some held) (sym (map-append f xs (x ∷ []))) (get_left (map f xs) (f x ∷ []) m held (same m held e))

  pub sets_pushed : (x : X) (n : ℕ) → n ≡ length xs → SetsRow old (map f (xs ++ x ∷ [])) n (f x)
  sets_pushed x n e = record {
    same = λ m held ne h. more_pushed x m held h;
    sets = subst (λ k. slice_get (map f (xs ++ x ∷ [])) k ≡ Some (f x)) (length-map xs f ∙ sym e) (subst (λ l. slice_get l (length (map f xs)) ≡ Some (f x)) (sym (map-append f xs (x ∷ []))) (get_last (map f xs) (f x)));
  }

  pub sets_there : (x : X) (n : ℕ) → n < length xs → SetsRow old (map f (set xs n x)) n (f x)
  sets_there x n lt = record {
    same = λ m held ne h. subst (λ l. slice_get l m ≡ Some held) (sym (map-set f xs n x)) (set_other (map f xs) n m (f x) held ne (same m held h));
    sets = (let l = length-map xs f in subst (λ l. slice_get l n ≡ Some (f x)) (sym (map-set f xs n x)) (set_same (map f xs) n (f x) (omega arith)));
  }

-- of what has grown, a number is an old one's, or that of one that was added
pub by_age : (P : NodeKey → Type 0) (old new : List NodeKey) → GrowsBy P old new → (n : ℕ) (key : NodeKey) → slice_get new n ≡ Some key → (slice_get old n ≡ Some key) ⊎ P key
by_age P old new (more, e, p) n key at =
    let at' : slice_get (old ++ more) n ≡ Some key = subst (λ l. slice_get l n ≡ Some key) e at in
    elim (cases_lt n (length old)) [ inl lt ↦ inl (get_below old more n key at' lt) | inr ge ↦ inr (p key (get_behind old more n key at' ge)) ]

pub still_at : (P : NodeKey → Type 0) (old new : List NodeKey) → GrowsBy P old new → (n : ℕ) (key : NodeKey) → slice_get old n ≡ Some key → slice_get new n ≡ Some key
still_at P old new (more, e, p) n key at = subst (λ l. slice_get l n ≡ Some key) (sym e) (get_left old more n key at)

pub still_there : (P : NodeKey → Type 0) (old new : List NodeKey) → GrowsBy P old new → (key : NodeKey) → Contains old key → Contains new key
still_there P old new g key h = let (n, at) = found_at old key h in got_item new n key (sym (still_at P old new g n key at))

pub was_at : (P : NodeKey → Type 0) (old new : List NodeKey) → GrowsBy P old new → (n : ℕ) (key : NodeKey) → n < length old → slice_get new n ≡ Some key → slice_get old n ≡ Some key
was_at P old new (more, e, p) n key lt at = get_below old more n key (subst (λ l. slice_get l n ≡ Some key) e at) lt

pub longer : (P : NodeKey → Type 0) (old new : List NodeKey) → GrowsBy P old new → length old ≤ length new
longer P [] new g = omega arith
longer P (x ∷ xs) new (more, e, p) = subst (λ l. length (x ∷ xs) ≤ length l) (sym e) (go xs)
  where
    go : (ys : List NodeKey) → length (x ∷ ys) ≤ length ((x ∷ ys) ++ more)
    go [] = omega arith
    go (y ∷ ys) = let l = go ys in omega arith

-- chains of nodes stand where more are met
pub chained_more : (P : NodeKey → Type 0) (old new : List NodeKey) (heads below : List ℕ) → GrowsBy P old new → AreChained old heads below → AreChained new heads below
chained_more P old new heads below grows h = record {
  few = (let l = longer P old new grows in let f = h.few in omega arith);
  chain = λ end. (
      let (ns, is, exact) = h.chain end in (
        ns,
        is,
        λ n. (
          λ i. (let (lt, (key, at, e)) = (exact n).0 i in (lt, (key, still_at P old new grows n key at, e))),
          λ (lt, (key, at, e)). (let f = h.few in (exact n).1 (lt, (key, was_at P old new grows n key (omega arith) at, e))),
        ),
      )
      );
}

module _ (k : Known) where
  pub goes_none : (f : Found) (table : List (List AlternativeRow)) → AreNoted k f → Goes k f f table table
  goes_none f table noted = record { keys = grows_none (IsNew k) f.keys.keys; keeps = λ n key at h. h; noted = noted }

  pub goes_then : (old mid new : Found) (t u v : List (List AlternativeRow)) → Goes k old mid t u → Goes k mid new u v → Goes k old new t v
  goes_then old mid new t u v a b = record {
    keys = grows_then (IsNew k) old.keys.keys mid.keys.keys new.keys.keys a.keys b.keys;
    keeps = λ n key at h. b.keeps n key (still_at (IsNew k) old.keys.keys mid.keys.keys a.keys n key at) (a.keeps n key at h);
    noted = b.noted;
  }

  -- a node that is still ready
  pub still_ready : (old new : Found) (t u : List (List AlternativeRow)) → Goes k old new t u → (n : ℕ) → IsReady k old.keys.keys n → IsReady k new.keys.keys n
  still_ready old new t u g n h = record { key = h.key; at = still_at (IsNew k) old.keys.keys new.keys.keys g.keys n h.key h.at; used = h.used; end = h.end; least = h.least }

  pub ready_key : (keys : List NodeKey) (n : ℕ) (key : NodeKey) → IsReady k keys n → slice_get keys n ≡ Some key → IsUsedIn k.written.now k.ranking k.recce.now key × (key.end ≡ k.end) × (k.least ≤ key.origin)
  ready_key keys n key h at =
      let one : Some h.key ≡ Some key = sym h.at ∙ at in
      let e : h.key ≡ key = cc in
      subst (λ (z : NodeKey). IsUsedIn k.written.now k.ranking k.recce.now z × (z.end ≡ k.end) × (k.least ≤ z.origin)) e (h.used, h.end, h.least)

  -- one node is visited
  pub one_visited : Knows k → (n : ℕ) (key : NodeKey) (old empty new : Found) (t u : List (List AlternativeRow)) → slice_get old.keys.keys n ≡ Some key → IsUsedIn k.written.now k.ranking k.recce.now key → key.end ≡ k.end →
      empty.keys ≡ old.keys → empty.wholes ≡ old.wholes → empty.alternatives.items ≡ [] → ListsKey k key empty new → SetsRow t u n new.alternatives.items → Visits k n old new t u
  one_visited knows n key old empty new t u at used end same_keys same_wholes none l sets = record {
    goes = record { keys = grown; keeps = λ m other at' h. keeps m other at' h; noted = l.lists.noted };
    has = λ other at'. (let one : Some key ≡ Some other = sym at ∙ at' in let e : key ≡ other = cc in subst (λ z. HasRow k.written.now k.ranking k.recce.now new.keys.keys new.wholes.items u n z) e here);
  }
    where
      grown : GrowsBy (IsNew k) old.keys.keys new.keys.keys
      grown = subst (λ z. GrowsBy (IsNew k) z new.keys.keys) (λ i. (same_keys i).keys) l.lists.keys

      wholes_are : new.wholes.items ≡ old.wholes.items ++ l.lists.more
      wholes_are = l.lists.wholes ∙ (λ i. (same_wholes i).items ++ l.lists.more)

      rows_are : new.alternatives.items ≡ l.lists.rows
      rows_are = l.lists.is ∙ ap (λ z. z ++ l.lists.rows) none

      here : HasRow k.written.now k.ranking k.recce.now new.keys.keys new.wholes.items u n key
      here = record {
        rows = l.lists.rows;
        at = sets.sets ∙ ap Some rows_are;
        are = key_law k knows key used end l.symbol l.next new.keys.keys new.wholes.items l.lists.rows l.some l.lists.listed;
        within = λ a i. (l.lists.listed.each a i).1;
      }

      keeps : (m : ℕ) (other : NodeKey) → slice_get old.keys.keys m ≡ Some other → HasRow k.written.now k.ranking k.recce.now old.keys.keys old.wholes.items t m other → HasRow k.written.now k.ranking k.recce.now new.keys.keys new.wholes.items u m other
      keeps m other at' h = elim (cases_lt m n) [
        | inl lt ↦ apart (λ e. let q : m ≡ n = e in absurd (omega arith))
        | inr ge ↦ elim (cases_lt n m) [
          | inl gt ↦ apart (λ e. let q : m ≡ n = e in absurd (omega arith))
          | inr le ↦
              let q : n ≡ m = omega arith in
              let one : Some key ≡ Some other = sym at ∙ ap (slice_get old.keys.keys) q ∙ at' in
              let e : key ≡ other = cc in
              subst (λ z. HasRow k.written.now k.ranking k.recce.now new.keys.keys new.wholes.items u z other) q (subst (λ z. HasRow k.written.now k.ranking k.recce.now new.keys.keys new.wholes.items u n z) e here)
        ]
      ]
        where
          apart : m ≢ n → HasRow k.written.now k.ranking k.recce.now new.keys.keys new.wholes.items u m other
          apart ne = row_stays k.written.now k.ranking k.recce.now old.keys.keys new.keys.keys (grown).0 old.wholes.items new.wholes.items l.lists.more t u m other (grown).1 wholes_are h (sets.same m h.rows ne h.at)

  -- one of the listed nodes more
  pub listed_more : (nodes : List ℕ) (i : ℕ) → i < length nodes → (old mid new : Found) (t u v : List (List AlternativeRow)) → Goes k old mid t u →
      ((n : ℕ) (key : NodeKey) → Contains (take i nodes) n → slice_get old.keys.keys n ≡ Some key → HasRow k.written.now k.ranking k.recce.now mid.keys.keys mid.wholes.items u n key) → Visits k (get_or nodes i 0) mid new u v →
      Goes k old new t v × ((n : ℕ) (key : NodeKey) → Contains (take (i + 1) nodes) n → slice_get old.keys.keys n ≡ Some key → HasRow k.written.now k.ranking k.recce.now new.keys.keys new.wholes.items v n key)
  listed_more nodes i lt old mid new t u v goes have visit = (
    goes_then old mid new t u v goes visit.goes,
    λ n key h at. (
        let at' = still_at (IsNew k) old.keys.keys mid.keys.keys goes.keys n key at in
        elim (Contains-push_cases (take i nodes) (get_or nodes i 0) n (subst (λ l. Contains l n) (take_more nodes i 0 lt) h)) [
          | inl a ↦ visit.goes.keeps n key at' (have n key a at)
          | inr e ↦ subst (λ n. HasRow k.written.now k.ranking k.recce.now new.keys.keys new.wholes.items v n key) e (visit.has key (subst (λ z. slice_get mid.keys.keys z ≡ Some key) (sym e) at'))
        ]
        ),
  )

  -- one number more
  pub new_more : (first m : ℕ) (here : NodeKey) (mid new : Found) (u v : List (List AlternativeRow)) → slice_get mid.keys.keys m ≡ Some here → Goes k mid new u v →
      (here.end ≡ k.end → HasRow k.written.now k.ranking k.recce.now new.keys.keys new.wholes.items v m here) → ((n : ℕ) (key : NodeKey) → first ≤ n → n < m → slice_get mid.keys.keys n ≡ Some key → key.end ≡ k.end → HasRow k.written.now k.ranking k.recce.now mid.keys.keys mid.wholes.items u n key) →
      (n : ℕ) (key : NodeKey) → first ≤ n → n < m + 1 → slice_get new.keys.keys n ≡ Some key → key.end ≡ k.end → HasRow k.written.now k.ranking k.recce.now new.keys.keys new.wholes.items v n key
  new_more first m here mid new u v held goes has have n key le lt at end =
      let below = slice_get_within mid.keys.keys m here held in
      let at' = was_at (IsNew k) mid.keys.keys new.keys.keys goes.keys n key (omega arith) at in
      elim (cases_lt n m) [
        | inl before ↦ goes.keeps n key at' (have n key le before at' end)
        | inr ge ↦
            let e : m ≡ n = omega arith in
            let one : Some here ≡ Some key = sym held ∙ ap (slice_get mid.keys.keys) e ∙ at' in
            let q : here ≡ key = cc in
            subst (λ n. HasRow k.written.now k.ranking k.recce.now new.keys.keys new.wholes.items v n key) e (subst (λ key. HasRow k.written.now k.ranking k.recce.now new.keys.keys new.wholes.items v m key) q (has (ap (λ (z : NodeKey). z.end) q ∙ end)))
      ]

  -- the node of a number is ready where it ends here
  pub ready_at : (first : ℕ) (old new : Found) (t u : List (List AlternativeRow)) → Goes k old new t u → ((n : ℕ) (key : NodeKey) → first ≤ n → slice_get old.keys.keys n ≡ Some key → key.end ≡ k.end → IsReady k old.keys.keys n) →
      (n : ℕ) (key : NodeKey) → first ≤ n → slice_get new.keys.keys n ≡ Some key → key.end ≡ k.end → IsReady k new.keys.keys n
  ready_at first old new t u goes ready n key le at end = elim (by_age (IsNew k) old.keys.keys new.keys.keys goes.keys n key at) [
    | inl at' ↦ still_ready old new t u goes n (ready n key le at' end)
    | inr is_new ↦ record { key = key; at = at; used = is_new.used; end = end; least = is_new.least end }
  ]

  -- the last number
  pub new_all : (first m : ℕ) (f : Found) (u : List (List AlternativeRow)) → slice_get f.keys.keys m ≡ None →
      ((n : ℕ) (key : NodeKey) → first ≤ n → n < m → slice_get f.keys.keys n ≡ Some key → key.end ≡ k.end → HasRow k.written.now k.ranking k.recce.now f.keys.keys f.wholes.items u n key) →
      (n : ℕ) (key : NodeKey) → first ≤ n → slice_get f.keys.keys n ≡ Some key → key.end ≡ k.end → HasRow k.written.now k.ranking k.recce.now f.keys.keys f.wholes.items u n key
  new_all first m f u none have n key le at end =
      let lt = slice_get_within f.keys.keys n key at in
      let past = get_none f.keys.keys m none in
      have n key le (omega arith) at end

-- AFTER ONE END

module _ (k : Known) (knows : Knows k) (first : ℕ) (nodes : List ℕ) (old mid new : Found) (t u v : List (List AlternativeRow))
    (going : IsGoing k.written.now k.ranking k.recce.now k.end first old t)
    (listed : (n : ℕ) → Contains nodes n ↔ ((n < first) × EndsAt old.keys.keys k.end n))
    (one : Goes k old mid t u) (two : Goes k mid new u v)
    (have : (n : ℕ) (key : NodeKey) → Contains nodes n → slice_get old.keys.keys n ≡ Some key → HasRow k.written.now k.ranking k.recce.now mid.keys.keys mid.wholes.items u n key)
    (have_new : (n : ℕ) (key : NodeKey) → first ≤ n → slice_get new.keys.keys n ≡ Some key → key.end ≡ k.end → HasRow k.written.now k.ranking k.recce.now new.keys.keys new.wholes.items v n key) where
  both : Goes k old new t v
  both = goes_then k old mid new t u v one two

  old_at : (n : ℕ) (key : NodeKey) → slice_get new.keys.keys n ≡ Some key → n < first → slice_get old.keys.keys n ≡ Some key
  old_at n key at lt = let f = going.few in was_at (IsNew k) old.keys.keys new.keys.keys both.keys n key (omega arith) at

  pub all_visited : AreVisited k.written.now k.ranking k.recce.now k.end new v
  all_visited = record {
    visited = λ n key at le. elim (by_age (IsNew k) old.keys.keys new.keys.keys both.keys n key at) [
      | inl at' ↦ elim (cases_lt k.end key.end) [ inl lt ↦ both.keeps n key at' (going.visited n key at' lt) | inr ge ↦ here n key at (omega arith) ]
      | inr is_new ↦ let b = is_new.before in here n key at (omega arith)
    ];
    used = λ key h. (
        let (n, at) = found_at new.keys.keys key h in
        elim (by_age (IsNew k) old.keys.keys new.keys.keys both.keys n key at) [ inl at' ↦ going.used key (got_item old.keys.keys n key (sym at')) | inr is_new ↦ is_new.used ]
        );
    waits = λ n key at lt. elim (by_age (IsNew k) old.keys.keys new.keys.keys both.keys n key at) [ inl at' ↦ going.waits n key at' (inr lt) (omega arith) | inr is_new ↦ is_new.waits lt ];
    top = λ lt. still_there (IsNew k) old.keys.keys new.keys.keys both.keys (top_key k.recce.now) (going.top lt);
  }
    where
      here : (n : ℕ) (key : NodeKey) → slice_get new.keys.keys n ≡ Some key → key.end ≡ k.end → HasRow k.written.now k.ranking k.recce.now new.keys.keys new.wholes.items v n key
      here n key at end = elim (cases_lt n first) [
        | inl lt ↦
            let at' = old_at n key at lt in
            let row = have n key ((listed n).1 (lt, (key, at', end))) at' in
            two.keeps n key (still_at (IsNew k) old.keys.keys mid.keys.keys one.keys n key at') row
        | inr ge ↦ have_new n key ge at end
      ]

-- a node from the first number on is ready where it ends here
pub new_ready : (k : Known) (first : ℕ) (old mid : Found) (t u : List (List AlternativeRow)) → IsGoing k.written.now k.ranking k.recce.now k.end first old t → Goes k old mid t u → (k.end ≡ earleme_of k.recce.now → k.least ≡ 0) →
    (n : ℕ) (key : NodeKey) → first ≤ n → slice_get mid.keys.keys n ≡ Some key → key.end ≡ k.end → IsReady k mid.keys.keys n
new_ready k first old mid t u going goes whole n key le at end = record {
  key = key;
  at = at;
  used = elim (by_age (IsNew k) old.keys.keys mid.keys.keys goes.keys n key at) [ inl at' ↦ going.used key (got_item old.keys.keys n key (sym at')) | inr is_new ↦ is_new.used ];
  end = end;
  least = elim (by_age (IsNew k) old.keys.keys mid.keys.keys goes.keys n key at) [ inl at' ↦ let z = whole (going.begun n key at' le end) in omega arith | inr is_new ↦ is_new.least end ];
}

-- a listed node is ready
pub listed_ready : (k : Known) (first : ℕ) (old : Found) (t : List (List AlternativeRow)) (nodes : List ℕ) → IsGoing k.written.now k.ranking k.recce.now k.end first old t →
    ((n : ℕ) → Contains nodes n ↔ ((n < first) × EndsAt old.keys.keys k.end n)) → ((n : ℕ) (key : NodeKey) → Contains nodes n → slice_get old.keys.keys n ≡ Some key → k.least ≤ key.origin) →
    (n : ℕ) → Contains nodes n → IsReady k old.keys.keys n
listed_ready k first old t nodes going listed least n h =
    let (lt, (key, at, end)) = (listed n).0 h in
    record { key = key; at = at; used = going.used key (got_item old.keys.keys n key (sym at)); end = end; least = least n key h at }

module _ (w : Grammar) (ranking : Ranking) (r : Recognizer) where
  -- at the last place
  pub going_first : (f : Found) (table : List (List AlternativeRow)) → ((key : NodeKey) → Contains f.keys.keys key → IsUsedIn w ranking r key × (key.end ≡ earleme_of r)) → (0 < earleme_of r → Contains f.keys.keys (top_key r)) → IsGoing w ranking r (earleme_of r) 0 f table
  going_first f table h top = record {
    few = omega arith;
    visited = λ n key at lt. (let e = (h key (got_item f.keys.keys n key (sym at))).1 in absurd (omega arith));
    used = λ key i. (h key i).0;
    waits = λ n key at e le. (let s = (h key (got_item f.keys.keys n key (sym at))).1 in elim e [ inl lt ↦ absurd (omega arith) | inr lt ↦ absurd (omega arith) ]);
    begun = λ n key at le e. refl;
    top = top;
  }

  -- at the place before one that was visited
  pub going_next : (end : ℕ) (f : Found) (table : List (List AlternativeRow)) → AreVisited w ranking r (suc end) f table → IsGoing w ranking r end (length f.keys.keys) f table
  going_next end f table h = record {
    few = omega arith;
    visited = λ n key at lt. h.visited n key at (omega arith);
    used = h.used;
    waits = λ n key at e le. h.waits n key at (omega arith);
    begun = λ n key at le e. (let lt = slice_get_within f.keys.keys n key at in absurd (omega arith));
    top = h.top;
  }

  -- where no node ends there is nothing to visit
  pub none_visited : IsRead w r → (end first : ℕ) (f : Found) (table : List (List AlternativeRow)) (nodes : List ℕ) → IsGoing w ranking r end first f table → length nodes ≡ 0 → (end ≢ earleme_of r) →
      ((n : ℕ) → Contains nodes n ↔ ((n < first) × EndsAt f.keys.keys end n)) → AreVisited w ranking r end f table
  none_visited read end first f table nodes going empty inner listed = record {
    visited = λ n key at le. elim (cases_lt end key.end) [
      | inl lt ↦ going.visited n key at lt
      | inr ge ↦
          let same : key.end ≡ end = omega arith in
          elim (cases_lt n first) [
            | inl lt ↦ absurd (Contains-none n (subst (λ l. Contains l n) (nil_from_length nodes empty) ((listed n).1 (lt, (key, at, same)))))
            | inr after ↦ absurd (inner (going.begun n key at after same))
          ]
    ];
    used = going.used;
    waits = λ n key at lt. going.waits n key at (inr lt) (omega arith);
    top = going.top;
  }
