-- The pairs of adverbs, and the value of one.
use Rattle.std.proofs.Common.{◌≡◌, ℕ, Bool, true, false, cond, List, [], ◌∷◌, ◌++◌, Some, None, refl, sym, ap, ◌∙◌, map, append-nil, Vec, Global}
use Rattle.std.proofs.lemmas.List.Folds.{flat_map-map}
use Rattle.std.specs.Prelude.{flat_map, option_to_list, not, ◌&&◌}
use Rattle.std.specs.Str.{bytes_eq}
use Rattle.finite_sets.proofs.Lists.{flat_flat}
use Rattle.language_model.specs.Tokens.{Spelled}
use Rattle.language_model.specs.Description.{Alternative}
use Rattle.dsl_statement.specs.declared.statement.Alternative.{Alternative as HeldAlternative}
use Rattle.dsl_faults.specs.declared.checks.Check.{Check}
use Rattle.language_model.specs.Building.{value_of, pairs_of, AdverbPlace, fault_at, at_most, is_one_of, names_at, fits_adverb}
use Rattle.dsl_statement.specs.declared.statement.Adverb.{Adverb as HeldAdverb}
use Rattle.dsl_statement.specs.declared.statement.Adverb.TheVariants.{Comma, Pair}
use Rattle.dsl_statement.specs.Statements.{adverb_of, adverbs_of}
use Rattle.dsl_faults.specs.declared.checks.Check.TheVariants.{Known}
use Rattle.dsl_faults.specs.Adverbs.{list_faults, big_faults, is_big}
use Rattle.dsl_faults.specs.Found.{first_of}
use Rattle.dsl_faults.proofs.Lists.{flat_same}

-- the value that an adverb gives
abbrev pub values_in : List ℕ → HeldAdverb → List Spelled
values_in name a = option_to_list (value_of name (adverb_of a ∷ []))

pub value_of_first : (name : List ℕ) (held : List HeldAdverb) → value_of name (map adverb_of held) ≡ first_of (flat_map (values_in name) held)
value_of_first name [] = refl
value_of_first name (Comma at ∷ held) = value_of_first name held
value_of_first name (Pair n value ∷ held) = go (bytes_eq n.content name) (value_of_first name held)
  where
    go : (b : Bool) → value_of name (map adverb_of held) ≡ first_of (flat_map (values_in name) held) →
        cond b (Some value) (value_of name (map adverb_of held)) ≡ first_of (option_to_list (cond b (Some value) None) ++ flat_map (values_in name) held)
    go true e = refl
    go false e = e

pub pairs_flat : {A : Type 0} (f : Spelled × Spelled → List A) (held : List HeldAdverb) → flat_map f (pairs_of (map adverb_of held)) ≡ flat_map (λ a. flat_map f (pairs_of (adverb_of a ∷ []))) held
pairs_flat f [] = refl
pairs_flat f (Comma at ∷ held) = pairs_flat f held
pairs_flat f (Pair n v ∷ held) = ap (λ xs. f (n, v) ++ xs) (pairs_flat f held) ∙ ap (λ xs. xs ++ flat_map (λ a. flat_map f (pairs_of (adverb_of a ∷ []))) held) (sym (append-nil (f (n, v))))

pub known_flat : (place : AdverbPlace) (held : List HeldAdverb) → list_faults Known (place, adverbs_of held) ≡ flat_map (λ a. list_faults Known (place, adverb_of a ∷ [])) held
known_flat place held = pairs_flat (λ p. at_most (not (is_one_of (names_at place) p.0.content && fits_adverb p.0.content p.1)) (fault_at p.0)) held

pub big_flat : (held : List HeldAdverb) → big_faults (adverbs_of held) ≡ flat_map (λ a. big_faults (adverb_of a ∷ [])) held
big_flat held = pairs_flat (λ p. at_most (is_big p.0.content p.1) (fault_at p.1)) held

-- the faults of the adverbs of alternatives
pub groups_flat : (check : Check) (place : AdverbPlace) (groups : List (Vec HeldAlternative Global)) →
    flat_map (list_faults check) (flat_map (λ g. map (λ a. (place, a.adverbs)) g) (map (λ g. g.items) groups)) ≡ flat_map (λ g. flat_map (λ a. list_faults check (place, a.adverbs)) g.items) groups
groups_flat check place groups =
    flat_flat (λ (g : List Alternative). map (λ a. (place, a.adverbs)) g) (list_faults check) (map (λ g. g.items) groups)
    ∙ flat_map-map (λ (g : List Alternative). flat_map (list_faults check) (map (λ a. (place, a.adverbs)) g)) (λ g. g.items) groups
    ∙ flat_same (λ (g : Vec HeldAlternative Global). flat_map (list_faults check) (map (λ a. (place, a.adverbs)) g.items)) (λ g. flat_map (λ a. list_faults check (place, a.adverbs)) g.items) groups
    (λ (g : Vec HeldAlternative Global). flat_map-map (list_faults check) (λ a. (place, a.adverbs)) g.items)
