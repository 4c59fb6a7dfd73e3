-- What rows in ascending order have is gathered in ascending order.
use Rattle.std.proofs.Common.{◌≡◌, inl, inr, ℕ, ◌<◌, List, length, map, take, get_or, sym, subst}
use Rattle.std.specs.List.Sorted.{IsStrictlySortedBy}
use Rattle.std.specs.Ordering.{nat_cmp}
use Rattle.lexer.proofs.Sorted.{sorted_push}
use Rattle.prepared_grammars.specs.Gathered.{AddsIf, Gathers}
use Rattle.prepared_grammars.proofs.Gathering.{above}

module _ {A : Type 0} (P : A → Type 0) (f : A → ℕ) (rows : List A) (ascend : IsStrictlySortedBy nat_cmp (map f rows)) (i : ℕ) (row : A) (lt : i < length rows) (is : row ≡ get_or rows i row) where
  pub sorted_more : (xs ys : List ℕ) → Gathers P f (take i rows) xs → IsStrictlySortedBy nat_cmp xs → AddsIf (P row) (f row) xs ys → IsStrictlySortedBy nat_cmp ys
  sorted_more xs ys g s (inl (p, e)) = subst (IsStrictlySortedBy nat_cmp) (sym e) (sorted_push xs (f row) s (λ x c. (let (r, m, q, same) = (g x).0 c in subst (λ z. z < f row) same (above P f rows ascend i row lt is r m))))
  sorted_more xs ys g s (inr (not, e)) = subst (IsStrictlySortedBy nat_cmp) (sym e) s
