-- Lists of exactly the values with a property.
use Rattle.std.proofs.Common.{◌≡◌, List, length, refl}
use Rattle.recognizer_model.specs.Counts.{IsListOf, IsCountOf}
use Rattle.finite_sets.specs.Decided.{IsDecided}
use Rattle.finite_sets.proofs.Members.{Among, among_from, contains_from, once_pairs, listed}

-- where it is decided, among those of a list that has them all
pub list_of : {X : Type 0} (P : X → Type 0) → ((x y : X) → IsDecided (x ≡ y)) → ((x : X) → IsDecided (P x)) → (xs : List X) → ((x : X) → P x → Among x xs) → (ys : List X) × IsListOf P ys
list_of P same decided xs within =
    let (ys, (once, is, all)) = listed P same xs (λ x m. decided x) in (
      ys,
      record {
        once = once_pairs ys once;
        exact = λ x. ((λ c. (is x (among_from ys x c)).1), (λ p. contains_from ys x (all x (within x p) p)));
      },
    )

pub count_of : {X : Type 0} (P : X → Type 0) (xs : List X) → IsListOf P xs → IsCountOf P (length xs)
count_of P xs is = (xs, is, refl)
