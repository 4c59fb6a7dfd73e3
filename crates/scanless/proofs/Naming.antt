-- Lexemes in the order of their names.
use Rattle.std.proofs.Common.{arith, ◌≡◌, ◌≢◌, ℕ, ◌+◌, ◌<◌, List, length, get_or, Contains, refl, sym, ◌∙◌, ap}
use Rattle.std.specs.Cmp.{IsTotalOrder, IsStrictWeakOrder, nat_cmp_is}
use Rattle.std.specs.Cmp.Lexicographic.{slice_cmp}
use Rattle.std.specs.List.Sorted.{IsStrictlySortedBy, IsPermutation, IsSortedBy}
use Rattle.std.specs.declared.cmp.Ordering.{Ordering}
use Rattle.std.specs.declared.cmp.Ordering.TheVariants.{Less, Equal, Greater}
use Rattle.std.specs.Ordering.{nat_cmp, is_eq, is_lt, eq_by_cmp, ordering_reverse}
use Rattle.std.proofs.lemmas.Bool.{true≢false}
use Rattle.std.proofs.lemmas.Cmp.{nat_cmp_total, nat_list_cmp_total}
use Rattle.std.proofs.lemmas.List.Elements.{Contains-get_or}
use Rattle.std.proofs.lemmas.List.Sorted.{ranks_by, IsPermutation-sym, Contains-permutation}
use Rattle.std.proofs.lemmas.Map.Keys.{IsDistinct-from_sorted, IsDistinct-IsPermutation, apart_from_distinct, sorted_from_all_adjacent}
use Rattle.std.proofs.lemmas.Map.Text.{is_eq-slice_cmp}
use Rattle.std.proofs.lemmas.Slice.Eq.{bytes_eq-Decides}
use Rattle.grammar_model.specs.Values.{name_of}
use Rattle.language_model.specs.Building.{Built}
use Rattle.reading_model.specs.Reading.{AreSorted}
use Rattle.prepared_grammars.specs.Prepared.{AreInOrder}
use Rattle.scanless.specs.Pieces.{AreLexemes}

same_either_way : (o p : Ordering) → o ≡ ordering_reverse p → is_eq o ≡ is_eq p
same_either_way o Less e = ap is_eq e
same_either_way o Equal e = ap is_eq e
same_either_way o Greater e = ap is_eq e

flips : (x y : ℕ) → eq_by_cmp nat_cmp x y ≡ eq_by_cmp nat_cmp y x
flips x y = same_either_way (nat_cmp x y) (nat_cmp y x) (nat_cmp_total.antisymm x y)

module _ (b : Built) where
  abbrev pub by_name : ℕ → ℕ → Ordering
  by_name s t = slice_cmp nat_cmp (name_of b.g1 s) (name_of b.g1 t)

  total : IsTotalOrder by_name
  total = record {
    antisymm = λ x y. nat_list_cmp_total.antisymm (name_of b.g1 x) (name_of b.g1 y);
    trans = λ x y z. nat_list_cmp_total.trans (name_of b.g1 x) (name_of b.g1 y) (name_of b.g1 z);
    congr = λ x y z. nat_list_cmp_total.congr (name_of b.g1 x) (name_of b.g1 y) (name_of b.g1 z);
  }

  pub name_ranks : IsStrictWeakOrder (λ x y. is_lt (by_name x y))
  name_ranks = ranks_by nat_list_cmp_total (name_of b.g1)

  module _ (order : AreInOrder b) (xs ys : List ℕ) (known : AreLexemes b xs) (ascend : IsStrictlySortedBy nat_cmp xs) (p : IsPermutation xs ys) where
    same_named : (s t : ℕ) → Contains ys s → Contains ys t → by_name s t ≡ Equal → s ≡ t
    same_named s t c d e =
        let back = IsPermutation-sym xs ys p in
        let (l, l_in, l_is) = known s (Contains-permutation ys xs s back c) in
        let (m, m_in, m_is) = known t (Contains-permutation ys xs t back d) in
        let names : name_of b.g1 s ≡ name_of b.g1 t = (bytes_eq-Decides (name_of b.g1 s) (name_of b.g1 t)).0 (sym (is_eq-slice_cmp (name_of b.g1 s) (name_of b.g1 t)) ∙ ap is_eq e) in
        sym l_is ∙ (order.differ l m l_in m_in (ap (name_of b.g1) l_is ∙ (names ∙ sym (ap (name_of b.g1) m_is))) ∙ m_is)

    apart : (k : ℕ) → k + 1 < length ys → get_or ys k 0 ≢ get_or ys (k + 1) 0
    apart k lt e =
        let once = IsDistinct-IsPermutation (eq_by_cmp nat_cmp) flips xs ys p (IsDistinct-from_sorted nat_cmp xs ascend) in
        let other = apart_from_distinct (eq_by_cmp nat_cmp) ys k (k + 1) 0 once (omega arith) lt in
        let same : nat_cmp (get_or ys k 0) (get_or ys (k + 1) 0) ≡ Equal = sym (nat_cmp_is (get_or ys k 0) (get_or ys (k + 1) 0) Equal e) in
        true≢false (sym (ap is_eq same) ∙ other)

    pub strictly_by_name : IsSortedBy (λ x y. is_lt (by_name x y)) ys → AreSorted b ys
    strictly_by_name up = sorted_from_all_adjacent total ys 0 (λ k lt. go k lt (by_name (get_or ys k 0) (get_or ys (k + 1) 0)) refl)
      where
        go : (k : ℕ) → k + 1 < length ys → (o : Ordering) → by_name (get_or ys k 0) (get_or ys (k + 1) 0) ≡ o → by_name (get_or ys k 0) (get_or ys (k + 1) 0) ≡ Less
        go k lt Less e = e
        go k lt Equal e = absurd (apart k lt (same_named (get_or ys k 0) (get_or ys (k + 1) 0) (Contains-get_or ys k 0 (omega (arith, lt))) (Contains-get_or ys (k + 1) 0 lt) e))
        go k lt Greater e =
            let back : by_name (get_or ys (k + 1) 0) (get_or ys k 0) ≡ Less = total.antisymm (get_or ys (k + 1) 0) (get_or ys k 0) ∙ ap ordering_reverse e in
            absurd (true≢false (sym (ap is_lt back) ∙ up k 0 (omega arith) lt))
