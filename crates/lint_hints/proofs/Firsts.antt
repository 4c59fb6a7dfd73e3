-- The first cause that the program finds: a step over a list.
use Rattle.std.proofs.Common.{◌≡◌, ℕ, ◌<◌, ◌+◌, List, length, get_or, drop, map, sym, ap, ◌∙◌, Option, Some, None}
use Rattle.std.specs.Option.{option_or}
use Rattle.std.proofs.lemmas.List.{at_drop_more}
use Rattle.language_model.specs.Tokens.{Spelled}
use Rattle.language_model.specs.Description.{Alternative}
use Rattle.lint_hints.specs.Nullable.{Cause}
use Rattle.lint_hints.specs.Found.{found_alternative, found_group, found_groups}

module _ (causes : List ℕ → Option Cause) (left : Spelled) where
  group_step : (group : List Alternative) (i : ℕ) (a : Alternative) (o : Option Cause) → i < length group → a ≡ get_or group i a → o ≡ found_alternative causes left a → found_group causes left (drop i group) ≡ option_or o (found_group causes left (drop (i + 1) group))
  group_step group i a o w is e =
      at_drop_more (found_group causes left) group i a w ∙ ap (λ x. option_or x (found_group causes left (drop (i + 1) group))) (ap (found_alternative causes left) (sym is) ∙ sym e)

  pub group_found : (group : List Alternative) (i : ℕ) (a : Alternative) (c : Cause) → i < length group → a ≡ get_or group i a → Some c ≡ found_alternative causes left a → found_group causes left (drop i group) ≡ found_group causes left group → Some c ≡ found_group causes left group
  group_found group i a c w is e so_far = sym (group_step group i a (Some c) w is e) ∙ so_far

  pub group_past : (group : List Alternative) (i : ℕ) (a : Alternative) → i < length group → a ≡ get_or group i a → None ≡ found_alternative causes left a → found_group causes left (drop i group) ≡ found_group causes left group → found_group causes left (drop (i + 1) group) ≡ found_group causes left group
  group_past group i a w is e so_far = sym (group_step group i a None w is e) ∙ so_far

  module _ {V : Type 0} (items : V → List Alternative) where
    groups_step : (groups : List V) (i : ℕ) (g : V) (o : Option Cause) → i < length groups → g ≡ get_or groups i g → o ≡ found_group causes left (items g) → found_groups causes left (map items (drop i groups)) ≡ option_or o (found_groups causes left (map items (drop (i + 1) groups)))
    groups_step groups i g o w is e =
        at_drop_more (λ gs. found_groups causes left (map items gs)) groups i g w ∙ ap (λ x. option_or x (found_groups causes left (map items (drop (i + 1) groups)))) (ap (λ x. found_group causes left (items x)) (sym is) ∙ sym e)

    pub groups_found : (groups : List V) (i : ℕ) (g : V) (c : Cause) → i < length groups → g ≡ get_or groups i g → Some c ≡ found_group causes left (items g) → found_groups causes left (map items (drop i groups)) ≡ found_groups causes left (map items groups) → Some c ≡ found_groups causes left (map items groups)
    groups_found groups i g c w is e so_far = sym (groups_step groups i g (Some c) w is e) ∙ so_far

    pub groups_past : (groups : List V) (i : ℕ) (g : V) → i < length groups → g ≡ get_or groups i g → None ≡ found_group causes left (items g) → found_groups causes left (map items (drop i groups)) ≡ found_groups causes left (map items groups) → found_groups causes left (map items (drop (i + 1) groups)) ≡ found_groups causes left (map items groups)
    groups_past groups i g w is e so_far = sym (groups_step groups i g None w is e) ∙ so_far
