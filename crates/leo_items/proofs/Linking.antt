-- Notes of pairs as they are held.
use Rattle.std.proofs.Common.{rules, ◌≡◌, ◌≢◌, inl, inr, ℕ, zero, suc, ◌+◌, ◌<◌, ◌≤◌, ◌++◌, Bool, true, false, length, take, set, get_or, List, [], ◌∷◌, Some, None, refl, sym, ◌∙◌, ap, subst, arith, length-append}
use Rattle.std.specs.Prelude.{cond}
use Rattle.std.specs.Cmp.Rules.{comparing}
use Rattle.std.proofs.lemmas.Bool.{cases_lt, cases_eq}
use Rattle.std.proofs.lemmas.List.{get_or_append_left, get_or_at, get_or_past, get_or-take, get_or-set_same, get_or-set_other, length-take-le}
use Rattle.recognizer_model.specs.declared.Pair.{Pair}
use Rattle.leo_items.specs.declared.memo.Linked.{Linked}
use Rattle.leo_items.specs.Memo.{same_pair, noted}
use Rattle.leo_items.specs.Linked.{notes_of, blank, pair_at, IsLast, AreLinked, IsHeaded}
use Rattle.leo_items.proofs.Chains.{same_pair-true}

pub same_pair-is : (x y : Pair) → x ≡ y → same_pair x y ≡ true
same_pair-is x y e = subst (λ z. same_pair x z ≡ true) e (search (comparing, rules))

same_pair-not : (x y : Pair) → x ≢ y → same_pair x y ≡ false
same_pair-not x y other = by (same_pair x y) refl
  where
    by : (b : Bool) → same_pair x y ≡ b → b ≡ false
    by true h = absurd (other (same_pair-true x y h))
    by false h = refl

-- what was noted of a pair, by where it stands first
noted_at : (ls : List Linked) (pair : Pair) (k : ℕ) → ((j : ℕ) → j < k → pair_at ls j ≢ pair) → k < length ls → pair_at ls k ≡ pair → noted (notes_of ls) pair ≡ Some (get_or ls k blank).top
noted_at [] pair k first lt e = absurd (omega arith)
noted_at (l ∷ ls) pair zero first lt e = ap (λ b. cond b (Some l.top) (noted (notes_of ls) pair)) (same_pair-is pair l.pair (sym e))
noted_at (l ∷ ls) pair (suc k) first lt e =
    ap (λ b. cond b (Some l.top) (noted (notes_of ls) pair)) (same_pair-not pair l.pair (λ s. first 0 (omega arith) (sym s)))
    ∙ noted_at ls pair k (λ j below. first (suc j) (omega arith)) (omega arith) e

noted_nowhere : (ls : List Linked) (pair : Pair) → ((k : ℕ) → k < length ls → pair_at ls k ≢ pair) → noted (notes_of ls) pair ≡ None
noted_nowhere [] pair none = refl
noted_nowhere (l ∷ ls) pair none =
    ap (λ b. cond b (Some l.top) (noted (notes_of ls) pair)) (same_pair-not pair l.pair (λ s. none 0 (omega arith) (sym s)))
    ∙ noted_nowhere ls pair (λ k lt. none (suc k) (omega arith))

-- a pair of which nothing is noted stands nowhere
nowhere : (ls : List Linked) (pair : Pair) → noted (notes_of ls) pair ≡ None → (k : ℕ) → k < length ls → pair_at ls k ≢ pair
nowhere [] pair none k lt e = absurd (omega arith)
nowhere (l ∷ ls) pair none zero lt e = absurd (let f = ap (λ b. cond b (Some l.top) (noted (notes_of ls) pair)) (same_pair-is pair l.pair (sym e)) in cc)
nowhere (l ∷ ls) pair none (suc k) lt e = by (same_pair pair l.pair) refl (λ rest. nowhere ls pair rest k (omega arith) e)
  where
    by : (b : Bool) → same_pair pair l.pair ≡ b → (noted (notes_of ls) pair ≡ None → ⊥) → ⊥
    by true h later = let f = ap (λ b. cond b (Some l.top) (noted (notes_of ls) pair)) h in absurd (cc)
    by false h later = later (sym (ap (λ b. cond b (Some l.top) (noted (notes_of ls) pair)) h) ∙ none)

-- on the way along the notes of a set: those of the pair are among so many first ones
pub record IsOn (ls : List Linked) (pair : Pair) (number : ℕ) : Type 0 where
  pub within : number ≤ length ls
  pub here : (k : ℕ) → suc k ≡ number → (pair_at ls k).set ≡ pair.set
  pub rest : (k : ℕ) → k < length ls → pair_at ls k ≡ pair → k < number

pub on_first : (ls : List Linked) (pair : Pair) (number : ℕ) → IsLast ls (length ls) pair.set number → IsOn ls pair number
on_first ls pair number is = record { within = is.within; here = is.here; rest = λ k lt e. is.last k lt (ap (λ (p : Pair). p.set) e) }

module _ (ls : List Linked) (linked : AreLinked ls) (pair : Pair) (number k : ℕ) (on : IsOn ls pair number) (at : suc k ≡ number) where
  pub on_next : pair_at ls k ≢ pair → IsOn ls pair (get_or ls k blank).earlier
  on_next other =
      let w = on.within in
      let is = linked.earlier k (omega arith) in
      let le = is.within in
      record {
        within = omega arith;
        here = λ j e. is.here j e ∙ on.here k at;
        rest = λ j lt e. (
            let below = on.rest j lt e in
            elim (cases_lt j k) [
              | inl before ↦ is.last j before (ap (λ (p : Pair). p.set) e ∙ sym (on.here k at))
              | inr now ↦ let same : j ≡ k = omega arith in absurd (other (sym (ap (pair_at ls) same) ∙ e))
            ]);
      }

  pub on_found : pair_at ls k ≡ pair → noted (notes_of ls) pair ≡ Some (get_or ls k blank).top
  on_found e = let w = on.within in noted_at ls pair k (λ j below same. linked.once j k below (omega arith) (same ∙ sym e)) (omega arith) e

pub on_none : (ls : List Linked) (pair : Pair) → IsOn ls pair 0 → noted (notes_of ls) pair ≡ None
on_none ls pair on = noted_nowhere ls pair (λ k lt e. let no = on.rest k lt e in absurd (omega arith))

-- other notes that are the same up to a bound
same_last : (ls new : List Linked) (bound set number : ℕ) → ((k : ℕ) → k < bound → pair_at new k ≡ pair_at ls k) → IsLast ls bound set number → IsLast new bound set number
same_last ls new bound set number same is = record {
  within = is.within;
  here = λ k e. let w = is.within in ap (λ (p : Pair). p.set) (same k (omega arith)) ∙ is.here k e;
  last = λ k lt e. is.last k lt (sym (ap (λ (p : Pair). p.set) (same k lt)) ∙ e);
}

pub no_heads : (ls : List Linked) (heads : List ℕ) → ls ≡ [] → heads ≡ [] → IsHeaded ls heads
no_heads ls heads none none' =
    let short : length ls ≡ 0 = ap length none in
    record {
      linked = record { earlier = λ k lt. absurd (omega arith); once = λ j k below lt e. absurd (omega arith) };
      head = λ set. subst (λ h. IsLast ls (length ls) set (get_or h set 0)) (sym none') (record { within = omega arith; here = λ k e. absurd (omega arith); last = λ k lt e. absurd (omega arith) });
    }

-- heads that tell the same
pub same_heads : (ls : List Linked) (heads new : List ℕ) → ((s : ℕ) → get_or new s 0 ≡ get_or heads s 0) → IsHeaded ls heads → IsHeaded ls new
same_heads ls heads new same is = record { linked = is.linked; head = λ s. subst (IsLast ls (length ls) s) (sym (same s)) (is.head s) }

-- one note more
module _ (ls new : List Linked) (heads : List ℕ) (l : Linked) (is : IsHeaded ls heads) (more : new ≡ ls ++ l ∷ []) (apart : noted (notes_of ls) l.pair ≡ None) (links : l.earlier ≡ get_or heads l.pair.set 0) (room : l.pair.set < length heads) where
  size : length new ≡ length ls + 1
  size = ap length more ∙ length-append ls (l ∷ [])

  old_at : (k : ℕ) → k < length ls → get_or new k blank ≡ get_or ls k blank
  old_at k lt = ap (λ (n : List Linked). get_or n k blank) more ∙ get_or_append_left ls (l ∷ []) blank k lt

  new_at : get_or new (length ls) blank ≡ l
  new_at = ap (λ (n : List Linked). get_or n (length ls) blank) more ∙ get_or_at ls l [] blank (length ls) refl

  old_pair : (k : ℕ) → k < length ls → pair_at new k ≡ pair_at ls k
  old_pair k lt = ap (λ (x : Linked). x.pair) (old_at k lt)

  earlier_more : (k : ℕ) → k < length new → IsLast new k (pair_at new k).set (get_or new k blank).earlier
  earlier_more k lt = elim (cases_lt k (length ls)) [
    | inl before ↦ subst (λ (x : Linked). IsLast new k x.pair.set x.earlier) (sym (old_at k before))
        (same_last ls new k _ _ (λ j below. old_pair j (omega arith)) (is.linked.earlier k before))
    | inr now ↦
        let here : k ≡ length ls = (let s = size in omega arith) in
        subst (λ n. IsLast new n (pair_at new n).set (get_or new n blank).earlier) (sym here)
        (subst (λ (x : Linked). IsLast new (length ls) x.pair.set x.earlier) (sym new_at)
        (subst (IsLast new (length ls) l.pair.set) (sym links) (same_last ls new (length ls) _ _ old_pair (is.head l.pair.set))))
  ]

  once_more : (j k : ℕ) → j < k → k < length new → pair_at new j ≢ pair_at new k
  once_more j k below lt e = elim (cases_lt k (length ls)) [
    | inl before ↦ is.linked.once j k below before (sym (old_pair j (omega arith)) ∙ (e ∙ old_pair k before))
    | inr now ↦
        let s = size in
        let here : k ≡ length ls = omega arith in
        nowhere ls l.pair apart j (omega arith) (sym (old_pair j (omega arith)) ∙ (e ∙ (ap (pair_at new) here ∙ ap (λ (x : Linked). x.pair) new_at)))
  ]

  pub headed_more : (number : ℕ) → number ≡ length ls + 1 → IsHeaded new (set heads l.pair.set number)
  headed_more number is' = record {
    linked = record { earlier = earlier_more; once = once_more };
    head = λ s. elim (cases_eq s l.pair.set) [
      | inl same ↦
          subst (IsLast new (length new) s) (sym (ap (λ n. get_or (set heads l.pair.set number) n 0) same ∙ get_or-set_same heads l.pair.set number 0 room)) (
          let z = size in
          record {
            within = omega arith;
            here = λ k e. (let at : k ≡ length ls = omega arith in ap (λ n. (pair_at new n).set) at ∙ (ap (λ (x : Linked). x.pair.set) new_at ∙ sym same));
            last = λ k lt e. omega arith;
          })
      | inr other ↦
          subst (IsLast new (length new) s) (sym (get_or-set_other heads l.pair.set s number 0 other)) (
          let z = size in
          let old = same_last ls new (length ls) s (get_or heads s 0) old_pair (is.head s) in
          let w = old.within in
          record {
            within = omega arith;
            here = old.here;
            last = λ k lt e. elim (cases_lt k (length ls)) [
              | inl before ↦ old.last k before e
              | inr now ↦ let at : k ≡ length ls = omega arith in absurd (other (sym e ∙ (ap (λ n. (pair_at new n).set) at ∙ ap (λ (x : Linked). x.pair.set) new_at)))
            ];
          })
    ];
  }

-- one note less
module _ (ls new : List Linked) (heads : List ℕ) (n : ℕ) (is : IsHeaded ls heads) (size : length ls ≡ n + 1) (less : new ≡ take n ls) where
  left_at : (k : ℕ) → k < n → get_or new k blank ≡ get_or ls k blank
  left_at k lt = ap (λ (l : List Linked). get_or l k blank) less ∙ get_or-take n ls k blank lt

  left_pair : (k : ℕ) → k < n → pair_at new k ≡ pair_at ls k
  left_pair k lt = ap (λ (x : Linked). x.pair) (left_at k lt)

  left_size : length new ≡ n
  left_size = ap length less ∙ length-take-le n ls (omega arith)

  pub head_room : (pair_at ls n).set < length heads
  head_room =
      let set = (pair_at ls n).set in
      let some = (is.head set).last n (omega arith) refl in
      elim (cases_lt set (length heads)) [
        | inl lt ↦ lt
        | inr past ↦ let zero' = get_or_past heads set 0 past in absurd (omega arith)
      ]

  pub headed_less : IsHeaded new (set heads (pair_at ls n).set (get_or ls n blank).earlier)
  headed_less = record {
    linked = record {
      earlier = λ k lt. (
          let z = left_size in
          let lt' : k < n = omega arith in
          subst (λ (x : Linked). IsLast new k x.pair.set x.earlier) (sym (left_at k lt'))
          (same_last ls new k _ _ (λ j below. left_pair j (omega arith)) (is.linked.earlier k (omega arith))));
      once = λ j k below lt e. (
          let z = left_size in
          is.linked.once j k below (omega arith) (sym (left_pair j (omega arith)) ∙ (e ∙ left_pair k (omega arith))));
    };
    head = λ s. subst (λ b. IsLast new b s (get_or (set heads (pair_at ls n).set (get_or ls n blank).earlier) s 0)) (sym left_size) (same_last ls new n s _ left_pair (elim (cases_eq s (pair_at ls n).set) [
      | inl same ↦ subst (IsLast ls n s) (sym (ap (λ m. get_or (set heads (pair_at ls n).set (get_or ls n blank).earlier) m 0) same ∙ get_or-set_same heads (pair_at ls n).set (get_or ls n blank).earlier 0 head_room))
          (subst (λ m. IsLast ls n m (get_or ls n blank).earlier) (sym same) (is.linked.earlier n (omega arith)))
      | inr other ↦ subst (IsLast ls n s) (sym (get_or-set_other heads (pair_at ls n).set s (get_or ls n blank).earlier 0 other)) (
          let old = is.head s in
          record {
            within = (
                let w = old.within in
                elim (cases_lt (get_or heads s 0) (n + 1)) [
                  | inl lt ↦ omega arith
                  | inr ge ↦ absurd (other (sym (old.here n (omega arith))))
                ]);
            here = old.here;
            last = λ k lt e. old.last k (omega arith) e;
          })
    ]));
  }
