-- The meanings of a built grammar fit its rules, one by one.
use Rattle.std.proofs.Common.{◌≡◌, ℕ, zero, suc, ◌+◌, ◌<◌, true, false, List, [], ◌∷◌, ◌++◌, Option, Some, None, length, refl, sym, ap, ◌∙◌, subst, map, arith}
use Rattle.std.specs.Prelude.{flat_map, filter, slice_index_or, is_some, option_map, unwrap_or, codes}
use Rattle.std.proofs.lemmas.List.{map-append, length-map, length-append}
use Rattle.grammar_model.specs.Grammar.{no_rule}
use Rattle.grammar_model.specs.Values.{Action, MakeUndefined, RuleMeaning}
use Rattle.language_model.specs.Tokens.{Spelled}
use Rattle.language_model.specs.Description.{Element, Bare, Hidden, Alternative, Statement, Start, Default, LexemeDefault, Lexeme, Discard, Empty, Quantified, Rules, Together}
use Rattle.language_model.specs.Building.{Built, built_of, symbols_g1, place_in, value_of, action_in, parts_of, parts_of_element, shown_of_element, alternatives_of, plain_rule, rules_of_groups, rules_of, is_of_level, meaning_of_plain, meanings}
use Rattle.language_model.specs.Texts.{IsBuilt}
use Rattle.valuator.specs.Play.{Suits, IsMeaningOf}

-- LISTS THAT GO TOGETHER

together_join : {A B : Type 0} (R : A → B → Type 0) (xs after : List A) (ys behind : List B) → Together R xs ys → Together R after behind → Together R (xs ++ after) (ys ++ behind)
together_join R [] after [] behind t rest = rest
together_join R [] after (y ∷ ys) behind t rest = absurd t
together_join R (x ∷ xs) after [] behind t rest = absurd t
together_join R (x ∷ xs) after (y ∷ ys) behind t rest = (t.0, together_join R xs after ys behind t.1 rest)

together_count : {A B : Type 0} (R : A → B → Type 0) (xs : List A) (ys : List B) → Together R xs ys → length ys ≡ length xs
together_count R [] [] t = refl
together_count R [] (y ∷ ys) t = absurd t
together_count R (x ∷ xs) [] t = absurd t
together_count R (x ∷ xs) (y ∷ ys) t = ap suc (together_count R xs ys t.1)

together_at : {A B : Type 0} (R : A → B → Type 0) (xs : List A) (ys : List B) (a : A) (b : B) (i : ℕ) → Together R xs ys → i < length xs → R (slice_index_or xs i a) (slice_index_or ys i b)
together_at R [] ys a b i t lt = absurd (omega arith)
together_at R (x ∷ xs) [] a b i t lt = absurd t
together_at R (x ∷ xs) (y ∷ ys) a b zero t lt = t.0
together_at R (x ∷ xs) (y ∷ ys) a b (suc i) t lt = together_at R xs ys a b i t.1 (omega (arith, lt))

-- THE RULES OF A STATEMENT

shown_count : (elements : List Element) → length (flat_map shown_of_element elements) ≡ length (flat_map parts_of_element elements)
shown_count [] = refl
shown_count (Bare part ∷ elements) = ap suc (shown_count elements)
shown_count (Hidden parts ∷ elements) =
    length-append (map (λ (t : Spelled). false) parts) (flat_map shown_of_element elements)
    ∙ ap (λ n. n + length (flat_map shown_of_element elements)) (length-map parts (λ (t : Spelled). false))
    ∙ ap (λ n. length parts + n) (shown_count elements)
    ∙ sym (length-append parts (flat_map parts_of_element elements))

abbrev meaning_of_alternative : Action → Alternative → RuleMeaning
meaning_of_alternative default a = meaning_of_plain default (flat_map shown_of_element a.elements) a.adverbs

group_fits : (names : List (List ℕ)) (left : Spelled) (level count : ℕ) (default : Action) (g : List Alternative) → Together Suits (map (plain_rule names left level count) g) (map (meaning_of_alternative default) g)
group_fits names left level count default [] = tt
group_fits names left level count default (a ∷ g) =
    ((refl, refl, shown_count a.elements ∙ sym (length-map (parts_of a) (λ (t : Spelled). place_in names t.content))), group_fits names left level count default g)

groups_fit : (names : List (List ℕ)) (left : Spelled) (count : ℕ) (default : Action) (groups : List (List Alternative)) → Together Suits (rules_of_groups names left count groups) (map (meaning_of_alternative default) (alternatives_of groups))
groups_fit names left count default [] = tt
groups_fit names left count default (g ∷ groups) =
    let rules = map (plain_rule names left (length groups) count) g in
    let joined = together_join Suits rules (rules_of_groups names left count groups) (map (meaning_of_alternative default) g) (map (meaning_of_alternative default) (alternatives_of groups))
    (group_fits names left (length groups) count default g) (groups_fit names left count default groups) in
    subst (Together Suits (rules ++ rules_of_groups names left count groups)) (sym (map-append (meaning_of_alternative default) g (alternatives_of groups))) joined

some_mapped : {A B : Type 0} (f : A → B) (o : Option A) → is_some o ≡ is_some (option_map f o)
some_mapped f None = refl
some_mapped f (Some x) = refl

-- ALL STATEMENTS

statements_fit : (names : List (List ℕ)) (default : Action) (ss : List Statement) → Together Suits (flat_map (rules_of names) (filter (is_of_level false) ss)) (meanings default ss)
statements_fit names default [] = tt
statements_fit names default (Start at name ∷ ss) = statements_fit names default ss
statements_fit names default (Default at adverbs ∷ ss) = statements_fit names (unwrap_or (action_in adverbs) default) ss
statements_fit names default (LexemeDefault at adverbs ∷ ss) = statements_fit names default ss
statements_fit names default (Lexeme at name adverbs ∷ ss) = statements_fit names default ss
statements_fit names default (Discard at item adverbs ∷ ss) = statements_fit names default ss
statements_fit names default (Empty left true adverbs ∷ ss) = statements_fit names default ss
statements_fit names default (Empty left false adverbs ∷ ss) = ((refl, refl, refl), statements_fit names default ss)
statements_fit names default (Quantified left true item plus adverbs ∷ ss) = statements_fit names default ss
statements_fit names default (Quantified left false item plus adverbs ∷ ss) =
    ((refl, some_mapped (λ (t : Spelled). place_in names t.content) (value_of (codes "separator") adverbs)), statements_fit names default ss)
statements_fit names default (Rules left true groups ∷ ss) = statements_fit names default ss
statements_fit names default (Rules left false groups ∷ ss) =
    together_join Suits (rules_of_groups names left (length groups) groups) (flat_map (rules_of names) (filter (is_of_level false) ss)) (map (meaning_of_alternative default) (alternatives_of groups)) (meanings default ss)
    (groups_fit names left (length groups) default groups) (statements_fit names default ss)

statements_meaning : (d : List Statement) → IsMeaningOf (built_of d).g1 (built_of d).meaning
statements_meaning d =
    let rules = (built_of d).g1.rules in
    let fit = statements_fit (symbols_g1 d) MakeUndefined d in record {
      count = together_count Suits rules (meanings MakeUndefined d) fit;
      suits = λ (i : ℕ) (lt : i < length rules). together_at Suits rules (meanings MakeUndefined d) no_rule (record { action = MakeUndefined; shown = []; sequence = false; separated = false }) i fit lt;
    }

pub meaning_fits : (b : Built) → IsBuilt b → IsMeaningOf b.g1 b.meaning
meaning_fits b (d, built) = subst (λ (c : Built). IsMeaningOf c.g1 c.meaning) (sym built.is) (statements_meaning d)
