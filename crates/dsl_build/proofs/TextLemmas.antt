-- The texts of both grammars, as tables of uses have them, are those of the definition.
use Rattle.std.proofs.Common.{◌≡◌, ℕ, Bool, true, false, cond, List, [], ◌∷◌, ◌++◌, refl, sym, ap, ◌∙◌, map, take}
use Rattle.std.specs.Prelude.{flat_map, filter, not, ◌||◌}
use Rattle.finite_sets.proofs.Lists.{flat_flat}
use Rattle.language_model.specs.Tokens.{Spelled}
use Rattle.language_model.specs.Description.{Statement, Start, Default, LexemeDefault, Lexeme, Discard, Empty, Quantified, Rules}
use Rattle.language_model.specs.Building.{is_one_of, new_texts, new_tokens, symbols_g1, lexemes, left_names, discards_of, discarded, start_names, start_of, lexical_tokens, placed_tokens, is_quote_or_bracket, separator_of, parts_of, alternatives_of}
use Rattle.dsl_faults.specs.declared.uses.Role.TheVariants as role
use Rattle.dsl_faults.specs.declared.uses.Which.TheVariants.{StructuralLeft, Discarded, Started}
use Rattle.dsl_faults.specs.Uses.{used, uses_of, texts_asked, starts_asked}
use Rattle.dsl_build.specs.Lexical.{placed_part}
use Rattle.dsl_faults.proofs.Lists.{flat_same}
use Rattle.dsl_faults.proofs.Keeping.{among_texts}
use Rattle.dsl_faults.proofs.Bridges.{uses, nothing, structural_lefts}

filter_same : {A : Type 0} (p q : A → Bool) (xs : List A) → ((x : A) → p x ≡ q x) → filter p xs ≡ filter q xs
filter_same p q [] same = refl
filter_same p q (x ∷ xs) same = ap (λ b. cond b (x ∷ filter p xs) (filter p xs)) (same x) ∙ ap (λ ys. cond (q x) (x ∷ ys) ys) (filter_same p q xs same)

pub lexemes_are : (d : List Statement) (symbols left : List (List ℕ)) → symbols ≡ symbols_g1 d → left ≡ new_texts [] (flat_map (texts_asked StructuralLeft) (uses d)) → filter (λ t. not (is_one_of left t)) symbols ≡ lexemes d
lexemes_are d symbols left s l =
    ap (filter (λ t. not (is_one_of left t))) s
    ∙ filter_same (λ t. not (is_one_of left t)) (λ t. not (is_one_of (left_names false d) t)) (symbols_g1 d)
    (λ (t : List ℕ). ap not (ap (λ ns. is_one_of ns t) l ∙ among_texts (flat_map (texts_asked StructuralLeft) (uses d)) t ∙ ap (λ ns. is_one_of ns t) (sym (structural_lefts d))))

pub discards_are : (d : List Statement) → new_texts [] (flat_map (texts_asked Discarded) (uses d)) ≡ discarded d
discards_are d = ap (new_texts []) (flat_flat uses_of (texts_asked Discarded) d ∙ flat_same (λ s. flat_map (texts_asked Discarded) (uses_of s)) discards_of d each)
  where
    each : (s : Statement) → flat_map (texts_asked Discarded) (uses_of s) ≡ discards_of s
    each (Start at name) = refl
    each (Default at adverbs) = refl
    each (LexemeDefault at adverbs) = refl
    each (Lexeme at name adverbs) = refl
    each (Discard at item adverbs) = refl
    each (Empty left lexical adverbs) = refl
    each (Quantified left lexical item plus adverbs) = nothing (texts_asked Discarded) role.Right (map (λ t. (lexical, t)) (item ∷ separator_of adverbs)) (λ (l : Bool) (t : Spelled). refl)
    each (Rules left lexical groups) = nothing (texts_asked Discarded) role.Right (map (λ t. (lexical, t)) (flat_map parts_of (alternatives_of groups))) (λ (l : Bool) (t : Spelled). refl)

pub starts_are : (d : List Statement) → starts_asked (uses d) ≡ start_of d
starts_are d =
    ap (λ ns. take 1 (ns ++ flat_map (texts_asked StructuralLeft) (uses d))) (flat_flat uses_of (texts_asked Started) d ∙ flat_same (λ s. flat_map (texts_asked Started) (uses_of s)) start_names d each)
    ∙ ap (λ ns. take 1 (flat_map start_names d ++ ns)) (sym (structural_lefts d))
  where
    each : (s : Statement) → flat_map (texts_asked Started) (uses_of s) ≡ start_names s
    each (Start at name) = refl
    each (Default at adverbs) = refl
    each (LexemeDefault at adverbs) = refl
    each (Lexeme at name adverbs) = refl
    each (Discard at item adverbs) = refl
    each (Empty left lexical adverbs) = refl
    each (Quantified left lexical item plus adverbs) = nothing (texts_asked Started) role.Right (map (λ t. (lexical, t)) (item ∷ separator_of adverbs)) (λ (l : Bool) (t : Spelled). refl)
    each (Rules left lexical groups) = nothing (texts_asked Started) role.Right (map (λ t. (lexical, t)) (flat_map parts_of (alternatives_of groups))) (λ (l : Bool) (t : Spelled). refl)

placed_rights : (xs : List (Bool × Spelled)) → flat_map placed_part (map (λ x. used role.Right x.0 x.1) xs) ≡ map (λ r. r.1) (filter (λ r. r.0 || is_quote_or_bracket r.1) xs)
placed_rights [] = refl
placed_rights (x ∷ xs) = go (x.0 || is_quote_or_bracket x.1) (placed_rights xs)
  where
    go : (b : Bool) → flat_map placed_part (map (λ y. used role.Right y.0 y.1) xs) ≡ map (λ r. r.1) (filter (λ r. r.0 || is_quote_or_bracket r.1) xs) →
        cond b (x.1 ∷ []) [] ++ flat_map placed_part (map (λ y. used role.Right y.0 y.1) xs) ≡ map (λ (r : Bool × Spelled). r.1) (cond b (x ∷ filter (λ r. r.0 || is_quote_or_bracket r.1) xs) (filter (λ r. r.0 || is_quote_or_bracket r.1) xs))
    go true e = ap (λ ys. x.1 ∷ ys) e
    go false e = e

pub placed_are : (d : List Statement) → new_tokens [] (flat_map placed_part (uses d)) ≡ placed_tokens d
placed_are d = ap (new_tokens []) (flat_flat uses_of placed_part d ∙ flat_same (λ s. flat_map placed_part (uses_of s)) lexical_tokens d each)
  where
    each : (s : Statement) → flat_map placed_part (uses_of s) ≡ lexical_tokens s
    each (Start at name) = refl
    each (Default at adverbs) = refl
    each (LexemeDefault at adverbs) = refl
    each (Lexeme at name adverbs) = refl
    each (Discard at item adverbs) = refl
    each (Empty left true adverbs) = refl
    each (Empty left false adverbs) = refl
    each (Quantified left true item plus adverbs) = ap (λ ys. left ∷ ys) (placed_rights (map (λ t. (true, t)) (item ∷ separator_of adverbs)))
    each (Quantified left false item plus adverbs) = placed_rights (map (λ t. (false, t)) (item ∷ separator_of adverbs))
    each (Rules left true groups) = ap (λ ys. left ∷ ys) (placed_rights (map (λ t. (true, t)) (flat_map parts_of (alternatives_of groups))))
    each (Rules left false groups) = placed_rights (map (λ t. (false, t)) (flat_map parts_of (alternatives_of groups)))
