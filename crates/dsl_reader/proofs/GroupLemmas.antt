-- Reading groups of alternatives, and printing them.
use Rattle.std.proofs.Common.{◌≡◌, ◌∙◌, ap, subst, refl, ℕ, Bool, true, false, not, ◌&&◌, List, [], ◌∷◌, codes, map, Option, Some, None, bytes_eq}
use Rattle.std.specs.Prelude.{if◌then◌else◌}
use Rattle.std.specs.List.{list_all}
use Rattle.std.proofs.lemmas.Bool.{and_parts}
use Rattle.std.specs.Cmp.Derive.{both_true}
use Rattle.language_model.specs.Tokens.{Spelled}
use Rattle.language_model.specs.Description.{Alternative, is_adverb, is_element, is_alternative, is_group, is_some, Printed, mark, joined, PrintedAs, Together, tokens_of_alternative, tokens_of_groups}
use Rattle.dsl_reader.specs.Reading.{alternative_of}
use Rattle.dsl_reader.specs.Forms.{behind_some, some_elements, full_alternative_of, group_of, groups_of}
use Rattle.dsl_reader.proofs.AlternativeLemmas.{alternative_again, alternative_takes}
use Rattle.dsl_reader.proofs.UnlikeLemmas.{IsOuter, unlike, alternative_unlike, append_unlike}
use Rattle.dsl_reader.proofs.BetweenLemmas.{IsReader, all_again, all_takes}

-- ALTERNATIVES

some_taken : (q : List Spelled) (a x : Alternative) → alternative_of q None ≡ Some a → some_elements a ≡ Some x → (is_alternative x ≡ true) × Together PrintedAs (tokens_of_alternative x) q
some_taken q a x e h = by_test (is_some a.elements) refl h
  where
    by_test : (b : Bool) → is_some a.elements ≡ b → (if b then Some a else None) ≡ Some x → (is_alternative x ≡ true) × Together PrintedAs (tokens_of_alternative x) q
    by_test true f g =
        let same : a ≡ x = cc in
        let taken = alternative_takes q a e in
        subst (λ (x : Alternative). (is_alternative x ≡ true) × Together PrintedAs (tokens_of_alternative x) q) same (both_true (both_true f taken.0) taken.1, taken.2)
    by_test false f g = cc

full_takes : (q : List Spelled) (x : Alternative) → full_alternative_of q ≡ Some x → (is_alternative x ≡ true) × Together PrintedAs (tokens_of_alternative x) q
unfolding full_alternative_of
full_takes q x h = by_read (alternative_of q None) refl h
  where
    by_read : (o : Option Alternative) → alternative_of q None ≡ o → behind_some o some_elements ≡ Some x → (is_alternative x ≡ true) × Together PrintedAs (tokens_of_alternative x) q
    by_read None e g = cc
    by_read (Some a) e g = some_taken q a x e g

full_again : (x : Alternative) (q : List Spelled) → is_alternative x ≡ true → Together PrintedAs (tokens_of_alternative x) q → full_alternative_of q ≡ Some x
unfolding full_alternative_of
full_again x q fine h =
    let outer = and_parts (is_some x.elements && list_all is_element x.elements) (list_all is_adverb x.adverbs) fine in
    let inner = and_parts (is_some x.elements) (list_all is_element x.elements) outer.0 in
    ap (λ o. behind_some o some_elements) (alternative_again x.elements x.adverbs q inner.1 outer.1 h) ∙ ap (λ b. if b then Some x else None) inner.0

pub full_reader : IsReader full_alternative_of tokens_of_alternative is_alternative
full_reader = record { takes = full_takes; again = full_again }

-- GROUPS

pub bar_outer : IsOuter (codes "|")
bar_outer = record { comma = refl; arrow = refl; opens = refl; closes = refl; ranking = refl }

pub bars_outer : IsOuter (codes "||")
bars_outer = record { comma = refl; arrow = refl; opens = refl; closes = refl; ranking = refl }

abbrev pub tokens_of_group : List Alternative → List Printed
tokens_of_group g = joined (mark (codes "|")) (map tokens_of_alternative g)

pub group_reader : IsReader group_of tokens_of_group is_group
unfolding group_of
group_reader = record {
  takes = λ q g e. let taken = all_takes (codes "|") full_alternative_of tokens_of_alternative is_alternative full_reader q g e in (both_true taken.0 taken.1, taken.2);
  again = λ g q fine h. let parts = and_parts (is_some g) (list_all is_alternative g) fine in all_again (codes "|") full_alternative_of tokens_of_alternative is_alternative full_reader (λ a ok. alternative_unlike (codes "|") a bar_outer ok) g q parts.0 parts.1 h;
}

group_unlike_from : (m : List ℕ) → IsOuter m → bytes_eq (codes "|") m ≡ false → (g : List Alternative) → list_all is_alternative g ≡ true → list_all (unlike m) (tokens_of_group g) ≡ true
group_unlike_from m o e [] ok = refl
group_unlike_from m o e (a ∷ []) ok = alternative_unlike m a o (and_parts (is_alternative a) true ok).0
group_unlike_from m o e (a ∷ b ∷ g) ok =
    let parts = and_parts (is_alternative a) (list_all is_alternative (b ∷ g)) ok in
    append_unlike m (tokens_of_alternative a) (mark (codes "|") ∷ tokens_of_group (b ∷ g)) (alternative_unlike m a o parts.0) (both_true (ap not e) (group_unlike_from m o e (b ∷ g) parts.1))

pub group_unlike : (m : List ℕ) → IsOuter m → bytes_eq (codes "|") m ≡ false → (g : List Alternative) → is_group g ≡ true → list_all (unlike m) (tokens_of_group g) ≡ true
group_unlike m o e g ok = group_unlike_from m o e g (and_parts (is_some g) (list_all is_alternative g) ok).1

pub groups_takes : (q : List Spelled) (gs : List (List Alternative)) → groups_of q ≡ Some gs → (is_some gs ≡ true) × (list_all is_group gs ≡ true) × Together PrintedAs (tokens_of_groups gs) q
unfolding groups_of
groups_takes q gs e = all_takes (codes "||") group_of tokens_of_group is_group group_reader q gs e

pub groups_again : (gs : List (List Alternative)) (q : List Spelled) → is_some gs ≡ true → list_all is_group gs ≡ true → Together PrintedAs (tokens_of_groups gs) q → groups_of q ≡ Some gs
unfolding groups_of
groups_again gs q some ok h = all_again (codes "||") group_of tokens_of_group is_group group_reader (λ g fine. group_unlike (codes "||") bars_outer refl g fine) gs q some ok h

pub groups_unlike : (m : List ℕ) → IsOuter m → bytes_eq (codes "|") m ≡ false → bytes_eq (codes "||") m ≡ false → (gs : List (List Alternative)) → list_all is_group gs ≡ true → list_all (unlike m) (tokens_of_groups gs) ≡ true
groups_unlike m o e f [] ok = refl
groups_unlike m o e f (g ∷ []) ok = group_unlike m o e g (and_parts (is_group g) true ok).0
groups_unlike m o e f (g ∷ k ∷ gs) ok =
    let parts = and_parts (is_group g) (list_all is_group (k ∷ gs)) ok in
    append_unlike m (tokens_of_group g) (mark (codes "||") ∷ tokens_of_groups (k ∷ gs)) (group_unlike m o e g parts.0) (both_true (ap not f) (groups_unlike m o e f (k ∷ gs) parts.1))
