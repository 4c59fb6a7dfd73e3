-- Items of the same dotted rules, and the lists that are noted for them.
use Rattle.std.proofs.Common.{◌≡◌, ◌↔◌, ◌⊎◌, inl, inr, ℕ, ◌+◌, ◌<◌, ◌≤◌, ◌++◌, List, [], ◌∷◌, length, Contains, Some, refl, sym, ap, ◌∙◌, subst, arith, length-append}
use Rattle.std.specs.Prelude.{slice_index_or}
use Rattle.std.proofs.lemmas.List.{get_or_default, get_or_append_left, get_or-append-add}
use Rattle.std.proofs.lemmas.List.Elements.{Contains-get_or}
use Rattle.std.proofs.lemmas.Bool.{cases_lt}
use Rattle.jagged.specs.Rows.{row_at as list_at}
use Rattle.recognizer_model.specs.declared.Item.{Item}
use Rattle.recognizer_model.specs.Flat.{FlatGrammar}
use Rattle.recognizer_model.specs.Items.{after}
use Rattle.item_rows.specs.Rows.{shared_at}
use Rattle.item_rows.specs.Kept.{IsAwaited}
use Rattle.begun_lists.specs.Begun.{AreBegun, SharesMore}
use Rattle.begun_lists.specs.Met.{item_at, HaveSameRules, AreMet}
use Rattle.begun_lists.proofs.Begins.{begins_over}

-- as far as the first k
pub record HaveSameTo (items others : List Item) (k : ℕ) : Type 0 where
  pub rules : (i : ℕ) → i < k → (item_at items i).rule ≡ (item_at others i).rule
  pub dots : (i : ℕ) → i < k → (item_at items i).dot ≡ (item_at others i).dot

pub none_same : (items others : List Item) → HaveSameTo items others 0
none_same items others = record { rules = λ i lt. absurd (omega arith); dots = λ i lt. absurd (omega arith) }

pub one_same : (items others : List Item) (k : ℕ) → HaveSameTo items others k → (item_at items k).rule ≡ (item_at others k).rule → (item_at items k).dot ≡ (item_at others k).dot → HaveSameTo items others (k + 1)
one_same items others k h rule dot = record {
  rules = λ i lt. elim (cases_lt i k) [
    | inl below ↦ h.rules i below
    | inr above ↦ (let is : k ≡ i = omega arith in subst (λ j. (item_at items j).rule ≡ (item_at others j).rule) is rule)
  ];
  dots = λ i lt. elim (cases_lt i k) [
    | inl below ↦ h.dots i below
    | inr above ↦ (let is : k ≡ i = omega arith in subst (λ j. (item_at items j).dot ≡ (item_at others j).dot) is dot)
  ];
}

pub all_same : (items others : List Item) (k : ℕ) → length items ≡ length others → length items ≤ k → HaveSameTo items others k → HaveSameRules items others
all_same items others k same le h = record { same = same; rules = λ i lt. h.rules i (omega arith); dots = λ i lt. h.dots i (omega arith) }

-- what items wait for goes by their dotted rules
awaited_same : (g : FlatGrammar) (items others : List Item) → HaveSameRules items others → (x : ℕ) → IsAwaited g items x → IsAwaited g others x
awaited_same g items others h x (item, (k, lt, at), e) = (
  other,
  Contains-get_or others k _ (let s = h.same in omega (arith, lt, s)),
  subst (λ (i : Item). after g i ≡ Some x) there e,
)
  where
    other : Item
    other = item_at others k

    is : item_at items k ≡ item
    is = get_or_default items k _ item lt ∙ at

    rule : item.rule ≡ other.rule
    rule = sym (ap (λ (i : Item). i.rule) is) ∙ h.rules k lt

    dot : item.dot ≡ other.dot
    dot = sym (ap (λ (i : Item). i.dot) is) ∙ h.dots k lt

    there : item ≡ record other { origin = item.origin }
    there i = record { rule = rule i; dot = dot i; origin = item.origin }

rules_back : (items others : List Item) → HaveSameRules items others → HaveSameRules others items
rules_back items others h = record {
  same = sym h.same;
  rules = λ k lt. sym (h.rules k (let s = h.same in omega (arith, lt, s)));
  dots = λ k lt. sym (h.dots k (let s = h.same in omega (arith, lt, s)));
}

pub begun_same : (g : FlatGrammar) (items others list : List Item) → HaveSameRules items others → AreBegun g (IsAwaited g items) list → AreBegun g (IsAwaited g others) list
begun_same g items others list h are item = (
  λ c. begins_over (λ x a has. awaited_same g items others h x a) ((are item).0 c),
  λ b. (are item).1 (begins_over (λ x a has. awaited_same g others items (rules_back items others h) x a) b),
)

-- one more list with its number
module _ (g : FlatGrammar) (shared : List (List Item)) (lists : List (List Item)) (numbers : List ℕ) (are : AreMet g shared lists numbers) (items : List Item) (number : ℕ) (lt : number < length shared) (begun : AreBegun g (IsAwaited g items) (shared_at shared number)) where
  last_list : (k : ℕ) → k ≡ length lists → list_at (lists ++ items ∷ []) k ≡ items
  last_list k is = let there : k ≡ length lists + 0 = omega (arith, is) in ap (list_at (lists ++ items ∷ [])) there ∙ get_or-append-add lists (items ∷ []) 0 []

  last_number : (k : ℕ) → k ≡ length lists → slice_index_or (numbers ++ number ∷ []) k 0 ≡ number
  last_number k is = let s = are.same in let there : k ≡ length numbers + 0 = omega (arith, is, s) in ap (λ j. slice_index_or (numbers ++ number ∷ []) j 0) there ∙ get_or-append-add numbers (number ∷ []) 0 0

  first_list : (k : ℕ) → k < length lists → list_at (lists ++ items ∷ []) k ≡ list_at lists k
  first_list k lt = get_or_append_left lists (items ∷ []) [] k lt

  first_number : (k : ℕ) → k < length lists → slice_index_or (numbers ++ number ∷ []) k 0 ≡ slice_index_or numbers k 0
  first_number k lt = get_or_append_left numbers (number ∷ []) 0 k (let s = are.same in omega (arith, lt, s))

  pub one_met : AreMet g shared (lists ++ items ∷ []) (numbers ++ number ∷ [])
  one_met = record {
    same = (let s = are.same in let a = length-append lists (items ∷ []) in let b = length-append numbers (number ∷ []) in omega (arith, s, a, b));
    there = λ k below. elim (cases_lt k (length lists)) [
      | inl old ↦ subst (λ n. n < length shared) (sym (first_number k old)) (are.there k old)
      | inr new ↦ subst (λ n. n < length shared) (sym (last_number k (is_last k below new))) lt
    ];
    begun = λ k below. elim (cases_lt k (length lists)) [
      | inl old ↦ subst (λ n. AreBegun g (IsAwaited g (list_at (lists ++ items ∷ []) k)) (shared_at shared n)) (sym (first_number k old))
          (subst (λ l. AreBegun g (IsAwaited g l) (shared_at shared (slice_index_or numbers k 0))) (sym (first_list k old)) (are.begun k old))
      | inr new ↦ subst (λ n. AreBegun g (IsAwaited g (list_at (lists ++ items ∷ []) k)) (shared_at shared n)) (sym (last_number k (is_last k below new)))
          (subst (λ l. AreBegun g (IsAwaited g l) (shared_at shared number)) (sym (last_list k (is_last k below new))) begun)
    ];
  }
    where
      is_last : (k : ℕ) → k < length (lists ++ items ∷ []) → length lists ≤ k → k ≡ length lists
      is_last k below new = let a = length-append lists (items ∷ []) in omega (arith, below, new, a)

-- more lists that rows share change nothing
pub met_more : (g : FlatGrammar) (old new : List (List Item)) (lists : List (List Item)) (numbers : List ℕ) → SharesMore old new → AreMet g old lists numbers → AreMet g new lists numbers
met_more g old new lists numbers more are = record {
  same = are.same;
  there = λ k lt. (more (slice_index_or numbers k 0) (are.there k lt)).0;
  begun = λ k lt. subst (AreBegun g (IsAwaited g (list_at lists k))) (sym (more (slice_index_or numbers k 0) (are.there k lt)).1) (are.begun k lt);
}

pub none_met : (g : FlatGrammar) (shared : List (List Item)) (lists : List (List Item)) (numbers : List ℕ) → lists ≡ [] → numbers ≡ [] → AreMet g shared lists numbers
none_met g shared lists numbers none empty = record {
  same = (let a = ap length none in let b = ap length empty in omega (arith, a, b));
  there = λ k lt. (let a = ap length none in absurd (omega (arith, lt, a)));
  begun = λ k lt. (let a = ap length none in absurd (omega (arith, lt, a)));
}
