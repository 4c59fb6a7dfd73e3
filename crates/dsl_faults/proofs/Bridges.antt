-- The faults that are told are those of the definition.
use Rattle.std.proofs.Common.{◌≡◌, ℕ, Bool, true, false, cond, List, [], ◌∷◌, ◌++◌, Option, Some, None, refl, sym, ap, ◌∙◌, map}
use Rattle.std.specs.Prelude.{flat_map, filter_map, filter, option_to_list, bytes_eq, not, ◌&&◌, ◌||◌, is_ok, chars}
use Rattle.std.specs.List.{cons_option}
use Rattle.std.proofs.Math.Bool.{or-false}
use Rattle.std.proofs.lemmas.List.Folds.{flat_map-map}
use Rattle.std.proofs.lemmas.Slice.Eq.{bytes_eq-Decides}
use Rattle.finite_sets.proofs.Lists.{flat_flat}
use Rattle.language_model.specs.Tokens.{Spelled}
use Rattle.language_model.specs.Classes.{class_of}
use Rattle.language_model.specs.Description.{Statement, Start, Default, LexemeDefault, Lexeme, Discard, Empty, Quantified, Rules, is_name}
use Rattle.language_model.specs.Building.{left_of, right_of, lefts, left_names, all_left_names, is_one_of, new_texts, symbols_g1, structural_names, not_lexemes, no_lexeme_of, not_defined, bad_classes, at_most, fault_at, is_bracket, in_both, faults_of, separator_of, parts_of, alternatives_of, Fault, BuildFault, BadAdverb, RepeatedAdverb, LexemeNotDefined, InBoth, NotALexeme, BadClass, TwoStarts, NumberRange, TooLong, bad_adverbs, repeated, second_starts, big_numbers, too_long}
use Rattle.dsl_faults.specs.declared.uses.Role.{Role}
use Rattle.dsl_faults.specs.declared.uses.Role.TheVariants as role
use Rattle.dsl_faults.specs.declared.uses.Which.TheVariants.{StructuralLeft, LexicalLeft, Structural}
use Rattle.dsl_faults.specs.Uses.{Used, used, uses_of, texts_asked, is_left}
use Rattle.dsl_faults.specs.Faults.{undefined_fault, class_fault, left_part, lexeme_fault, all_faults}
use Rattle.dsl_faults.proofs.Lists.{flat_same}
use Rattle.dsl_faults.proofs.Keeping.{among_texts}

pub filter_flat : {A B : Type 0} (f : A → Option B) (xs : List A) → filter_map f xs ≡ flat_map (λ x. option_to_list (f x)) xs
filter_flat f [] = refl
filter_flat {A} {B} f (x ∷ xs) = go (f x) ∙ ap (λ ys. option_to_list (f x) ++ ys) (filter_flat f xs)
  where
    go : (o : Option B) → cons_option o (filter_map f xs) ≡ option_to_list o ++ filter_map f xs
    go (Some y) = refl
    go None = refl

-- what gives nothing for right sides gives what it gives for the left one
pub nothing : {A : Type 0} (g : Used → List A) (r : Role) (xs : List (Bool × Spelled)) → ((l : Bool) (t : Spelled) → g (used r l t) ≡ []) → flat_map g (map (λ x. used r x.0 x.1) xs) ≡ []
nothing g r [] e = refl
nothing g r (x ∷ xs) e = ap (λ ys. ys ++ flat_map g (map (λ y. used r y.0 y.1) xs)) (e x.0 x.1) ∙ nothing g r xs e

lefts_only : {A : Type 0} (g : Used → List A) (s : Statement) → ((l : Bool) (t : Spelled) → g (used role.Start l t) ≡ []) → ((l : Bool) (t : Spelled) → g (used role.Right l t) ≡ []) → ((l : Bool) (t : Spelled) → g (used role.Discard l t) ≡ []) →
    flat_map g (uses_of s) ≡ flat_map (λ l. g (used role.Left l.0 l.1)) (option_to_list (left_of s))
lefts_only g (Start at name) st ri di = ap (λ ys. ys ++ []) (st false name)
lefts_only g (Default at adverbs) st ri di = refl
lefts_only g (LexemeDefault at adverbs) st ri di = refl
lefts_only g (Lexeme at name adverbs) st ri di = refl
lefts_only g (Discard at item adverbs) st ri di = ap (λ ys. ys ++ []) (di true item)
lefts_only g (Empty left lexical adverbs) st ri di = refl
lefts_only g (Quantified left lexical item plus adverbs) st ri di = ap (λ ys. g (used role.Left lexical left) ++ ys) (nothing g role.Right (map (λ t. (lexical, t)) (item ∷ separator_of adverbs)) ri)
lefts_only g (Rules left lexical groups) st ri di = ap (λ ys. g (used role.Left lexical left) ++ ys) (nothing g role.Right (map (λ t. (lexical, t)) (flat_map parts_of (alternatives_of groups))) ri)

rights_only : {A : Type 0} (g : Used → List A) (f : Bool × Spelled → List A) (s : Statement) → ((l : Bool) (t : Spelled) → g (used role.Start l t) ≡ []) → ((l : Bool) (t : Spelled) → g (used role.Left l t) ≡ []) →
    ((x : Bool × Spelled) → g (used role.Right x.0 x.1) ≡ f x) → ((x : Bool × Spelled) → g (used role.Discard x.0 x.1) ≡ f x) → flat_map g (uses_of s) ≡ flat_map f (right_of s)
rights_only g f (Start at name) st le ri di = ap (λ ys. ys ++ []) (st false name)
rights_only g f (Default at adverbs) st le ri di = refl
rights_only g f (LexemeDefault at adverbs) st le ri di = refl
rights_only g f (Lexeme at name adverbs) st le ri di = refl
rights_only g f (Discard at item adverbs) st le ri di = ap (λ ys. ys ++ []) (di (true, item))
rights_only g f (Empty left lexical adverbs) st le ri di = ap (λ ys. ys ++ []) (le lexical left)
rights_only g f (Quantified left lexical item plus adverbs) st le ri di =
    let xs = map (λ t. (lexical, t)) (item ∷ separator_of adverbs) in
    ap (λ ys. ys ++ flat_map g (map (λ x. used role.Right x.0 x.1) xs)) (le lexical left) ∙ flat_map-map g (λ (x : Bool × Spelled). used role.Right x.0 x.1) xs ∙ flat_same (λ (x : Bool × Spelled). g (used role.Right x.0 x.1)) f xs ri
rights_only g f (Rules left lexical groups) st le ri di =
    let xs = map (λ t. (lexical, t)) (flat_map parts_of (alternatives_of groups)) in
    ap (λ ys. ys ++ flat_map g (map (λ x. used role.Right x.0 x.1) xs)) (le lexical left) ∙ flat_map-map g (λ (x : Bool × Spelled). used role.Right x.0 x.1) xs ∙ flat_same (λ (x : Bool × Spelled). g (used role.Right x.0 x.1)) f xs ri

abbrev pub uses : List Statement → List Used
uses d = flat_map uses_of d

single : {A : Type 0} (xs : List A) → flat_map (λ x. x ∷ []) xs ≡ xs
single [] = refl
single (x ∷ xs) = ap (λ ys. x ∷ ys) (single xs)

lefts_of_uses : (d : List Statement) → lefts d ≡ flat_map left_part (uses d)
lefts_of_uses d =
    filter_flat left_of d
    ∙ sym (flat_flat uses_of left_part d ∙ flat_same (λ s. flat_map left_part (uses_of s)) (λ s. option_to_list (left_of s)) d
    (λ (s : Statement). lefts_only left_part s (λ (l : Bool) (t : Spelled). refl) (λ (l : Bool) (t : Spelled). refl) (λ (l : Bool) (t : Spelled). refl) ∙ single (option_to_list (left_of s))))

abbrev pub names_at_level : Bool → Bool × Spelled → List (List ℕ)
names_at_level lexical l = cond ((lexical && l.0) || (not lexical && not l.0)) (l.1.content ∷ []) []

pub lexical_lefts : (d : List Statement) → left_names true d ≡ flat_map (texts_asked LexicalLeft) (uses d)
lexical_lefts d =
    ap (flat_map (names_at_level true)) (lefts_of_uses d) ∙ flat_flat left_part (names_at_level true) (uses d)
    ∙ flat_same (λ u. flat_map (names_at_level true) (left_part u)) (texts_asked LexicalLeft) (uses d) (λ (u : Used). go (is_left u) u.lexical u.token)
  where
    go : (b l : Bool) (t : Spelled) → flat_map (names_at_level true) (cond b ((l, t) ∷ []) []) ≡ cond (b && l) (t.content ∷ []) []
    go true true t = refl
    go true false t = refl
    go false l t = refl

pub structural_lefts : (d : List Statement) → left_names false d ≡ flat_map (texts_asked StructuralLeft) (uses d)
structural_lefts d =
    ap (flat_map (names_at_level false)) (lefts_of_uses d) ∙ flat_flat left_part (names_at_level false) (uses d)
    ∙ flat_same (λ u. flat_map (names_at_level false) (left_part u)) (texts_asked StructuralLeft) (uses d) (λ (u : Used). go (is_left u) u.lexical u.token)
  where
    go : (b l : Bool) (t : Spelled) → flat_map (names_at_level false) (cond b ((l, t) ∷ []) []) ≡ cond (b && not l) (t.content ∷ []) []
    go true true t = refl
    go true false t = refl
    go false l t = refl

pub any_left : (ls : List (Bool × Spelled)) (t : List ℕ) → is_one_of (map (λ l. l.1.content) ls) t ≡ (is_one_of (flat_map (names_at_level true) ls) t || is_one_of (flat_map (names_at_level false) ls) t)
any_left [] t = refl
any_left (l ∷ ls) t =
    ap (λ a. bytes_eq l.1.content t || a) (any_left ls t) ∙ moves l.0 (bytes_eq l.1.content t) (is_one_of (flat_map (names_at_level true) ls) t) (is_one_of (flat_map (names_at_level false) ls) t) ∙ sym (both l.0)
  where
    sides : (b c x y : Bool) → Bool
    sides true c x y = (c || x) || y
    sides false c x y = x || (c || y)

    both : (b : Bool) → (is_one_of (cond ((true && b) || (false && not b)) (l.1.content ∷ []) [] ++ flat_map (names_at_level true) ls) t || is_one_of (cond ((false && b) || (true && not b)) (l.1.content ∷ []) [] ++ flat_map (names_at_level false) ls) t)
        ≡ sides b (bytes_eq l.1.content t) (is_one_of (flat_map (names_at_level true) ls) t) (is_one_of (flat_map (names_at_level false) ls) t)
    both true = refl
    both false = refl

    moves : (b c x y : Bool) → (c || (x || y)) ≡ sides b c x y
    moves true true x y = refl
    moves true false x y = refl
    moves false true true y = refl
    moves false true false y = refl
    moves false false x y = refl

-- THE TABLES

pub symbols_are : (d : List Statement) → symbols_g1 d ≡ new_texts [] (flat_map (texts_asked Structural) (uses d))
symbols_are d = ap (new_texts []) (sym (flat_flat uses_of (texts_asked Structural) d ∙ flat_same (λ s. flat_map (texts_asked Structural) (uses_of s)) structural_names d each))
  where
    rights : (xs : List Spelled) → flat_map (texts_asked Structural) (map (λ (x : Bool × Spelled). used role.Right x.0 x.1) (map (λ t. (false, t)) xs)) ≡ map (λ t. t.content) xs
    rights [] = refl
    rights (x ∷ xs) = ap (λ ys. x.content ∷ ys) (rights xs)

    no_rights : (xs : List Spelled) → flat_map (texts_asked Structural) (map (λ (x : Bool × Spelled). used role.Right x.0 x.1) (map (λ t. (true, t)) xs)) ≡ []
    no_rights [] = refl
    no_rights (x ∷ xs) = no_rights xs

    each : (s : Statement) → flat_map (texts_asked Structural) (uses_of s) ≡ structural_names s
    each (Start at name) = refl
    each (Default at adverbs) = refl
    each (LexemeDefault at adverbs) = refl
    each (Lexeme at name adverbs) = refl
    each (Discard at item adverbs) = refl
    each (Empty left true adverbs) = refl
    each (Empty left false adverbs) = refl
    each (Quantified left true item plus adverbs) = no_rights (item ∷ separator_of adverbs)
    each (Quantified left false item plus adverbs) = ap (λ ys. left.content ∷ ys) (rights (item ∷ separator_of adverbs))
    each (Rules left true groups) = no_rights (flat_map parts_of (alternatives_of groups))
    each (Rules left false groups) = ap (λ ys. left.content ∷ ys) (rights (flat_map parts_of (alternatives_of groups)))

pub among_filtered : (p : List ℕ → Bool) (xs : List (List ℕ)) (t : List ℕ) → is_one_of (filter p xs) t ≡ (is_one_of xs t && p t)
among_filtered p [] t = refl
among_filtered p (x ∷ xs) t = go (p x) (bytes_eq x t) refl refl (among_filtered p xs t)
  where
    same : bytes_eq x t ≡ true → p x ≡ p t
    same e = ap p ((bytes_eq-Decides x t).0 e)

    go : (b c : Bool) → p x ≡ b → bytes_eq x t ≡ c → is_one_of (filter p xs) t ≡ (is_one_of xs t && p t) → is_one_of (cond b (x ∷ filter p xs) (filter p xs)) t ≡ ((c || is_one_of xs t) && p t)
    go true true px eq e = ap (λ c. c || is_one_of (filter p xs) t) eq ∙ sym (sym (same eq) ∙ px)
    go true false px eq e = ap (λ c. c || is_one_of (filter p xs) t) eq ∙ e
    go false true px eq e = e ∙ and_false (is_one_of xs t) (p t) (sym (same eq) ∙ px) ∙ sym (sym (same eq) ∙ px)
      where
        and_false : (a b : Bool) → b ≡ false → (a && b) ≡ false
        and_false true b h = h
        and_false false b h = refl
    go false false px eq e = e

module _ (d : List Statement) (structural lexical : List (List ℕ)) (s_is : structural ≡ new_texts [] (flat_map (texts_asked StructuralLeft) (uses d))) (l_is : lexical ≡ new_texts [] (flat_map (texts_asked LexicalLeft) (uses d))) where
  in_lexical : (t : List ℕ) → is_one_of lexical t ≡ is_one_of (left_names true d) t
  in_lexical t = ap (λ ns. is_one_of ns t) l_is ∙ among_texts (flat_map (texts_asked LexicalLeft) (uses d)) t ∙ ap (λ ns. is_one_of ns t) (sym (lexical_lefts d))

  in_structural : (t : List ℕ) → is_one_of structural t ≡ is_one_of (left_names false d) t
  in_structural t = ap (λ ns. is_one_of ns t) s_is ∙ among_texts (flat_map (texts_asked StructuralLeft) (uses d)) t ∙ ap (λ ns. is_one_of ns t) (sym (structural_lefts d))

  in_level : (l : Bool) (t : List ℕ) → (is_one_of lexical t || (not l && is_one_of structural t)) ≡ is_one_of (cond l (left_names true d) (all_left_names d)) t
  in_level true t = or-false (is_one_of lexical t) ∙ in_lexical t
  in_level false t = ap (λ b. b || is_one_of structural t) (in_lexical t) ∙ ap (λ b. is_one_of (left_names true d) t || b) (in_structural t) ∙ sym (any_left (lefts d) t)

  undefined_are : flat_map (undefined_fault structural lexical) (uses d) ≡ not_defined d
  undefined_are =
      flat_flat uses_of (undefined_fault structural lexical) d
      ∙ flat_same (λ s. flat_map (undefined_fault structural lexical) (uses_of s)) (λ s. flat_map (λ r. at_most (is_name r.1 && not (is_one_of (cond r.0 (left_names true d) (all_left_names d)) r.1.content)) (fault_at r.1)) (right_of s)) d
      (λ (s : Statement). rights_only (undefined_fault structural lexical) (λ r. at_most (is_name r.1 && not (is_one_of (cond r.0 (left_names true d) (all_left_names d)) r.1.content)) (fault_at r.1)) s
      (λ (l : Bool) (t : Spelled). refl) (λ (l : Bool) (t : Spelled). refl)
      (λ (x : Bool × Spelled). ap (λ b. at_most (is_name x.1 && not b) (fault_at x.1)) (in_level x.0 x.1.content))
      (λ (x : Bool × Spelled). ap (λ b. at_most (is_name x.1 && not b) (fault_at x.1)) (in_level x.0 x.1.content)))

  lexemes_are : (symbols : List (List ℕ)) → symbols ≡ new_texts [] (flat_map (texts_asked Structural) (uses d)) → flat_map (lexeme_fault symbols structural) d ≡ not_lexemes d
  lexemes_are symbols e = flat_same (lexeme_fault symbols structural) (no_lexeme_of d) d each
    where
      each : (s : Statement) → lexeme_fault symbols structural s ≡ no_lexeme_of d s
      each (Lexeme at name adverbs) =
          ap (λ b. at_most (not b) (fault_at name))
          (ap (λ ns. is_one_of ns name.content && not (is_one_of structural name.content)) (e ∙ sym (symbols_are d)) ∙ ap (λ b. is_one_of (symbols_g1 d) name.content && not b) (in_structural name.content)
          ∙ sym (among_filtered (λ t. not (is_one_of (left_names false d) t)) (symbols_g1 d) name.content))
      each (Start at name) = refl
      each (Default at adverbs) = refl
      each (LexemeDefault at adverbs) = refl
      each (Discard at item adverbs) = refl
      each (Empty left lexical adverbs) = refl
      each (Quantified left lexical item plus adverbs) = refl
      each (Rules left lexical groups) = refl

classes_are : (d : List Statement) → flat_map class_fault (uses d) ≡ bad_classes d
classes_are d =
    flat_flat uses_of class_fault d
    ∙ flat_same (λ s. flat_map class_fault (uses_of s)) (λ s. flat_map (λ r. at_most (is_bracket r.1 && not (is_ok (class_of (chars r.1.content)))) (fault_at r.1)) (right_of s)) d
    (λ (s : Statement). rights_only class_fault (λ r. at_most (is_bracket r.1 && not (is_ok (class_of (chars r.1.content)))) (fault_at r.1)) s
    (λ (l : Bool) (t : Spelled). refl) (λ (l : Bool) (t : Spelled). refl) (λ (x : Bool × Spelled). refl) (λ (x : Bool × Spelled). refl))

pub faults_are : (d : List Statement) (us : List Used) (symbols structural lexical : List (List ℕ)) → us ≡ uses d → symbols ≡ new_texts [] (flat_map (texts_asked Structural) us) →
    structural ≡ new_texts [] (flat_map (texts_asked StructuralLeft) us) → lexical ≡ new_texts [] (flat_map (texts_asked LexicalLeft) us) → all_faults symbols structural lexical us d ≡ faults_of d
faults_are d us symbols structural lexical u_is y_is s_is l_is =
    let s' = s_is ∙ ap (λ xs. new_texts [] (flat_map (texts_asked StructuralLeft) xs)) u_is in
    let l' = l_is ∙ ap (λ xs. new_texts [] (flat_map (texts_asked LexicalLeft) xs)) u_is in
    let y' = y_is ∙ ap (λ xs. new_texts [] (flat_map (texts_asked Structural) xs)) u_is in
    ap (λ xs. all_faults symbols structural lexical xs d) u_is
    ∙ joined (undefined_are d structural lexical s' l') (ap (in_both []) (sym (lefts_of_uses d))) (lexemes_are d structural lexical s' l' symbols y') (classes_are d)
  where
    all : (undefined both lexeme class : List Fault) → List BuildFault
    all undefined both lexeme class =
        map BadAdverb (bad_adverbs d) ++ map RepeatedAdverb (repeated [] d) ++ map LexemeNotDefined undefined
        ++ map InBoth both ++ map NotALexeme lexeme ++ map BadClass class
        ++ map TwoStarts (second_starts d) ++ map NumberRange (big_numbers d) ++ map TooLong (too_long d)

    joined : {u₁ u₂ b₁ b₂ x₁ x₂ c₁ c₂ : List Fault} → u₁ ≡ u₂ → b₁ ≡ b₂ → x₁ ≡ x₂ → c₁ ≡ c₂ → all u₁ b₁ x₁ c₁ ≡ all u₂ b₂ x₂ c₂
    joined {u₁} {u₂} {b₁} {b₂} {x₁} {x₂} {c₁} {c₂} e f g h = ap (λ u. all u b₁ x₁ c₁) e ∙ ap (λ b. all u₂ b x₁ c₁) f ∙ ap (λ x. all u₂ b₂ x c₁) g ∙ ap (λ c. all u₂ b₂ x₂ c) h
