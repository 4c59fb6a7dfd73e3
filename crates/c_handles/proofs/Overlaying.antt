-- What stands in memory while items are copied into it.
use Rattle.std.proofs.Common.{◌≡◌, ℕ, ◌+◌, ◌<◌, List, [], ◌∷◌, ◌++◌, length, take, drop, get_or, set, min, sym, ◌∙◌, ap, arith}
use Rattle.std.proofs.lemmas.List.{append_assoc, drop_more, length-take-le, set_at, take_more, take_min, drop_min}
use Rattle.c_handles.specs.Copying.{overlaid}

-- one more of the first items is written
pub one_written : {A : Type 0} (from to : List A) (k : ℕ) (d : A) → k < length from → k < length to → set (take k from ++ drop k to) k (get_or from k d) ≡ take (k + 1) from ++ drop (k + 1) to
one_written from to k d less fits =
    ap (λ rest. set (take k from ++ rest) k (get_or from k d)) (drop_more to k d fits) ∙
    (set_at (take k from) (get_or to k d) (drop (k + 1) to) (get_or from k d) k (length-take-le k from (omega arith)) ∙
    (sym (append_assoc (take k from) (get_or from k d ∷ []) (drop (k + 1) to)) ∙
    ap (λ front. front ++ drop (k + 1) to) (sym (take_more from k d less))))

-- all are written for which there is room
pub all_written : {A : Type 0} (from to : List A) (n : ℕ) → n ≡ min (length from) (length to) → take n from ++ drop n to ≡ overlaid from to
all_written from to n is =
    let left : n ≡ min (length to) (length from) = omega (arith, is) in
    ap (λ m. take m from ++ drop n to) left ∙ (ap (λ front. front ++ drop n to) (take_min (length to) from) ∙
    (ap (λ m. take (length to) from ++ drop m to) is ∙ ap (λ rest. take (length to) from ++ rest) (drop_min (length from) to)))
