-- What is built of a description without faults is in range.
use Rattle.std.proofs.Common.{◌≡◌, ℕ, zero, suc, ◌+◌, ◌<◌, ◌≤◌, Bool, true, false, cond, List, [], ◌∷◌, ◌++◌, refl, sym, ap, ◌∙◌, subst, map, length, take, arith, ⊎_elim}
use Rattle.std.specs.Prelude.{flat_map, filter, not, ◌||◌, ◌&&◌, bytes_eq, decimal, pos}
use Rattle.std.specs.List.{AllByRecursion}
use Rattle.std.proofs.lemmas.Bool.{true≢false, or_cases}
use Rattle.std.proofs.lemmas.List.{length-map, length-append}
use Rattle.std.proofs.lemmas.List.Elements.{All-from_recursion, recursion_from_All}
use Rattle.std.proofs.lemmas.Slice.Eq.{bytes_eq-Decides}
use Rattle.std.proofs.Math.Bool.{or-true}
use Rattle.finite_sets.proofs.Lists.{map_flat}
use Rattle.grammar_model.specs.Grammar.{WrittenRule, Plain}
use Rattle.grammar_model.specs.declared.Assoc.TheVariants.{Left}
use Rattle.grammar_core.specs.Written.{symbols_of}
use Rattle.language_model.specs.Tokens.{Spelled}
use Rattle.language_model.specs.Description.{Statement, Start, Default, LexemeDefault, Lexeme, Discard, Empty, Quantified, Rules}
use Rattle.language_model.specs.Building.{Built, is_one_of, place_in, parts_of, alternatives_of, separator_of, rules_of, is_of_level, structural_names, symbols_g1, left_names, lexemes, start_names, start_of, lexical_tokens, placed_tokens, new_tokens, new_texts, texts_l0, named_l0, sets_l0, sets_of, set_names, added_rules, count_from, discards_of, discarded, start_texts, grammar_g1, grammar_l0, lexeme_row, built_of, numbered_from, is_quote_or_bracket}
use Rattle.language_model.specs.Texts.{IsBuiltOf}
use Rattle.dsl_build.specs.Ranges.{IsKnown, IsInRange}
use Rattle.dsl_faults.proofs.Keeping.{among_texts}
use Rattle.dsl_faults.proofs.Bridges.{among_filtered}
use Rattle.dsl_build.proofs.Faultless.{Faultless, faultless}
use Rattle.dsl_build.proofs.Alls.{all_join, all_map, all_weaker, all_flat, all_pieces}
use Rattle.dsl_build.proofs.Few.{IsFew, few_placed}
use Rattle.dsl_build.proofs.Known.{AllIn, place_known, IsGood, names_in, level_good, sides_short}

-- TEXTS AMONG TEXTS

same_text : (t : List ℕ) → bytes_eq t t ≡ true
same_text t = (bytes_eq-Decides t t).1 refl

pub all_in : (names xs : List (List ℕ)) → ((t : List ℕ) → is_one_of xs t ≡ true → is_one_of names t ≡ true) → AllIn names xs
all_in names [] h = tt
all_in names (x ∷ xs) h =
    (h x (ap (λ b. b || is_one_of xs x) (same_text x)), all_in names xs (λ (t : List ℕ) (e : is_one_of xs t ≡ true). h t (ap (λ b. bytes_eq x t || b) e ∙ or-true (bytes_eq x t))))

pub any_append : (xs ys : List (List ℕ)) (t : List ℕ) → is_one_of (xs ++ ys) t ≡ (is_one_of xs t || is_one_of ys t)
any_append [] ys t = refl
any_append (x ∷ xs) ys t = ap (λ b. bytes_eq x t || b) (any_append xs ys t) ∙ assoc (bytes_eq x t) (is_one_of xs t) (is_one_of ys t)
  where
    assoc : (a b c : Bool) → (a || (b || c)) ≡ ((a || b) || c)
    assoc true b c = refl
    assoc false b c = refl

-- the first texts, and those of the second that are none of them, have all of both
pub in_joined : (first second : List (List ℕ)) (t : List ℕ) → (is_one_of first t || is_one_of second t) ≡ true → is_one_of (first ++ filter (λ u. not (is_one_of first u)) second) t ≡ true
in_joined first second t e = any_append first (filter (λ u. not (is_one_of first u)) second) t ∙ ap (λ b. is_one_of first t || b) (among_filtered (λ u. not (is_one_of first u)) second t) ∙ go (is_one_of first t) (is_one_of second t) e
  where
    go : (a b : Bool) → (a || b) ≡ true → (a || (b && not a)) ≡ true
    go true b e = refl
    go false true e = refl
    go false false e = e

-- THE STRUCTURAL GRAMMAR

pub symbols_all : (d : List Statement) → AllByRecursion (λ s. AllIn (symbols_g1 d) (structural_names s)) d
symbols_all d =
    all_pieces (λ t. is_one_of (symbols_g1 d) t ≡ true) structural_names d
    (all_in (symbols_g1 d) (flat_map structural_names d) (λ (t : List ℕ) (e : is_one_of (flat_map structural_names d) t ≡ true). among_texts (flat_map structural_names d) t ∙ e))

pub structural_in : (names : List (List ℕ)) (s : Statement) → AllIn names (structural_names s) → is_of_level false s ≡ true → AllIn names (names_in s)
structural_in names (Start at name) a e = tt
structural_in names (Default at adverbs) a e = tt
structural_in names (LexemeDefault at adverbs) a e = tt
structural_in names (Lexeme at name adverbs) a e = tt
structural_in names (Discard at item adverbs) a e = tt
structural_in names (Empty left true adverbs) a e = absurd (true≢false (sym e))
structural_in names (Empty left false adverbs) a e = a
structural_in names (Quantified left true item plus adverbs) a e = absurd (true≢false (sym e))
structural_in names (Quantified left false item plus adverbs) a e = a
structural_in names (Rules left true groups) a e = absurd (true≢false (sym e))
structural_in names (Rules left false groups) a e = a

starts_in : (names : List (List ℕ)) (s : Statement) → AllIn names (structural_names s) → AllIn names (start_names s)
starts_in names (Start at name) a = a
starts_in names (Default at adverbs) a = tt
starts_in names (LexemeDefault at adverbs) a = tt
starts_in names (Lexeme at name adverbs) a = tt
starts_in names (Discard at item adverbs) a = tt
starts_in names (Empty left lexical adverbs) a = tt
starts_in names (Quantified left lexical item plus adverbs) a = tt
starts_in names (Rules left lexical groups) a = tt

pub lefts_in : (names : List (List ℕ)) (ss : List Statement) → AllByRecursion (λ s. AllIn names (structural_names s)) ss → AllIn names (left_names false ss)
lefts_in names [] a = tt
lefts_in names (s ∷ ss) a = go s a.0 (lefts_in names ss a.1)
  where
    go : (x : Statement) → AllIn names (structural_names x) → AllIn names (left_names false ss) → AllIn names (left_names false (x ∷ ss))
    go (Start at name) b rest = rest
    go (Default at adverbs) b rest = rest
    go (LexemeDefault at adverbs) b rest = rest
    go (Lexeme at name adverbs) b rest = rest
    go (Discard at item adverbs) b rest = rest
    go (Empty left true adverbs) b rest = rest
    go (Empty left false adverbs) b rest = (b.0, rest)
    go (Quantified left true item plus adverbs) b rest = rest
    go (Quantified left false item plus adverbs) b rest = (b.0, rest)
    go (Rules left true groups) b rest = rest
    go (Rules left false groups) b rest = (b.0, rest)

all_take : {A : Type 0} (P : A → Type 0) (n : ℕ) (xs : List A) → AllByRecursion P xs → AllByRecursion P (take n xs)
all_take P zero xs a = tt
all_take P (suc n) [] a = tt
all_take P (suc n) (x ∷ xs) a = (a.0, all_take P n xs a.1)

pub start_known : (d : List Statement) → AllIn (symbols_g1 d) (start_of d)
start_known d =
    let P = λ (t : List ℕ). is_one_of (symbols_g1 d) t ≡ true in
    all_take P 1 (flat_map start_names d ++ left_names false d)
    (all_join P (flat_map start_names d) (left_names false d)
    (all_flat P start_names d (all_weaker (λ s. AllIn (symbols_g1 d) (structural_names s)) (λ s. AllIn (symbols_g1 d) (start_names s)) d (starts_in (symbols_g1 d)) (symbols_all d)))
    (lefts_in (symbols_g1 d) d (symbols_all d)))

places_known : (names xs : List (List ℕ)) → AllIn names xs → AllByRecursion (λ s. s < length names) (map (place_in names) xs)
places_known names xs a = all_map (λ s. s < length names) (place_in names) xs (all_weaker (λ t. is_one_of names t ≡ true) (λ t. place_in names t < length names) xs (place_known names) a)

pub g1_known : (d : List Statement) → Faultless d → IsKnown (grammar_g1 d)
g1_known d f =
    let names = symbols_g1 d in
    record {
      rules = All-from_recursion (IsGood (length names)) (grammar_g1 d).rules
          (level_good names false d (all_weaker (λ s. AllIn names (structural_names s)) (λ s. is_of_level false s ≡ true → AllIn names (names_in s)) d (structural_in names) (symbols_all d)) (sides_short d f.lengths));
      starts = All-from_recursion (λ s. s < length names) (grammar_g1 d).starts (places_known names (start_of d) (start_known d));
    }

-- THE LEXICAL GRAMMAR

pub tokens_as_texts : (seen : List (List ℕ)) (ts : List Spelled) → map (λ t. t.content) (new_tokens seen ts) ≡ new_texts seen (map (λ t. t.content) ts)
tokens_as_texts seen [] = refl
tokens_as_texts seen (t ∷ ts) = go (is_one_of seen t.content) (tokens_as_texts seen ts) (tokens_as_texts (t.content ∷ seen) ts)
  where
    go : (b : Bool) → map (λ u. u.content) (new_tokens seen ts) ≡ new_texts seen (map (λ u. u.content) ts) → map (λ u. u.content) (new_tokens (t.content ∷ seen) ts) ≡ new_texts (t.content ∷ seen) (map (λ u. u.content) ts) →
        map (λ (u : Spelled). u.content) (cond b (new_tokens seen ts) (t ∷ new_tokens (t.content ∷ seen) ts)) ≡ cond b (new_texts seen (map (λ u. u.content) ts)) (t.content ∷ new_texts (t.content ∷ seen) (map (λ u. u.content) ts))
    go true e f = e
    go false e f = ap (λ xs. t.content ∷ xs) f

abbrev pub contents : List Spelled → List (List ℕ)
contents = map (λ t. t.content)

-- a text with a place is a symbol
named_has : (d : List Statement) (t : List ℕ) → is_one_of (flat_map (λ s. contents (lexical_tokens s)) d) t ≡ true → is_one_of (named_l0 d) t ≡ true
named_has d t e =
    let texts : is_one_of (texts_l0 d) t ≡ true =
    ap (λ xs. is_one_of xs t) (tokens_as_texts [] (flat_map lexical_tokens d) ∙ ap (new_texts []) (map_flat lexical_tokens (λ (u : Spelled). u.content) d)) ∙ among_texts (flat_map (λ s. contents (lexical_tokens s)) d) t ∙ e in
    in_joined (texts_l0 d) (lexemes d) t (ap (λ b. b || is_one_of (lexemes d) t) texts)

pub lexical_all : (d : List Statement) → AllByRecursion (λ s. AllIn (named_l0 d) (contents (lexical_tokens s))) d
lexical_all d = all_pieces (λ t. is_one_of (named_l0 d) t ≡ true) (λ s. contents (lexical_tokens s)) d (all_in (named_l0 d) (flat_map (λ s. contents (lexical_tokens s)) d) (named_has d))

pub rights_all : (xs : List Spelled) → map (λ (r : Bool × Spelled). r.1) (filter (λ r. r.0 || is_quote_or_bracket r.1) (map (λ t. (true, t)) xs)) ≡ xs
rights_all [] = refl
rights_all (x ∷ xs) = ap (λ ys. x ∷ ys) (rights_all xs)

pub lexical_in : (names : List (List ℕ)) (s : Statement) → AllIn names (contents (lexical_tokens s)) → is_of_level true s ≡ true → AllIn names (names_in s)
lexical_in names (Start at name) a e = tt
lexical_in names (Default at adverbs) a e = tt
lexical_in names (LexemeDefault at adverbs) a e = tt
lexical_in names (Lexeme at name adverbs) a e = tt
lexical_in names (Discard at item adverbs) a e = tt
lexical_in names (Empty left false adverbs) a e = absurd (true≢false (sym e))
lexical_in names (Empty left true adverbs) a e = a
lexical_in names (Quantified left false item plus adverbs) a e = absurd (true≢false (sym e))
lexical_in names (Quantified left true item plus adverbs) a e = (a.0, subst (AllIn names) (ap contents (rights_all (item ∷ separator_of adverbs))) a.1)
lexical_in names (Rules left false groups) a e = absurd (true≢false (sym e))
lexical_in names (Rules left true groups) a e = (a.0, subst (AllIn names) (ap contents (rights_all (flat_map parts_of (alternatives_of groups)))) a.1)

discards_in : (names : List (List ℕ)) (s : Statement) → AllIn names (contents (lexical_tokens s)) → AllIn names (discards_of s)
discards_in names (Start at name) a = tt
discards_in names (Default at adverbs) a = tt
discards_in names (LexemeDefault at adverbs) a = tt
discards_in names (Lexeme at name adverbs) a = tt
discards_in names (Discard at item adverbs) a = a
discards_in names (Empty left lexical adverbs) a = tt
discards_in names (Quantified left lexical item plus adverbs) a = tt
discards_in names (Rules left lexical groups) a = tt

-- what is among the texts of a list that are all among the names
pub one_in : (names xs : List (List ℕ)) (t : List ℕ) → AllIn names xs → is_one_of xs t ≡ true → is_one_of names t ≡ true
one_in names [] t a e = absurd (true≢false (sym e))
one_in names (x ∷ xs) t a e = go (bytes_eq x t) refl e (one_in names xs t a.1)
  where
    go : (b : Bool) → bytes_eq x t ≡ b → (b || is_one_of xs t) ≡ true → (is_one_of xs t ≡ true → is_one_of names t ≡ true) → is_one_of names t ≡ true
    go true is f rest = subst (λ y. is_one_of names y ≡ true) ((bytes_eq-Decides x t).0 is) a.0
    go false is f rest = rest f

discarded_in : (d : List Statement) (t : List ℕ) → is_one_of (discarded d) t ≡ true → is_one_of (named_l0 d) t ≡ true
discarded_in d t e =
    one_in (named_l0 d) (flat_map discards_of d) t
    (all_flat (λ u. is_one_of (named_l0 d) u ≡ true) discards_of d (all_weaker (λ s. AllIn (named_l0 d) (contents (lexical_tokens s))) (λ s. AllIn (named_l0 d) (discards_of s)) d (discards_in (named_l0 d)) (lexical_all d)))
    (sym (among_texts (flat_map discards_of d) t) ∙ e)

pub lexeme_named : (d : List Statement) (t : List ℕ) → is_one_of (lexemes d) t ≡ true → is_one_of (named_l0 d) t ≡ true
lexeme_named d t e = in_joined (texts_l0 d) (lexemes d) t (ap (λ b. is_one_of (texts_l0 d) t || b) e ∙ or-true (is_one_of (texts_l0 d) t))

pub prefix_true : (a b : Bool) → (a && b) ≡ true → a ≡ true
prefix_true true b e = refl
prefix_true false b e = e

-- a start is a lexeme or a discard
pub start_named : (d : List Statement) (t : List ℕ) → is_one_of (start_texts d) t ≡ true → is_one_of (named_l0 d) t ≡ true
start_named d t e =
    ⊎_elim (lexeme_named d t) (λ (h : is_one_of (filter (λ u. not (is_one_of (lexemes d) u)) (discarded d)) t ≡ true). discarded_in d t (prefix_true (is_one_of (discarded d) t) (not (is_one_of (lexemes d) t)) (sym (among_filtered (λ u. not (is_one_of (lexemes d) u)) (discarded d) t) ∙ h)))
    (or_cases (is_one_of (lexemes d) t) (is_one_of (filter (λ u. not (is_one_of (lexemes d) u)) (discarded d)) t) (sym (any_append (lexemes d) (filter (λ u. not (is_one_of (lexemes d) u)) (discarded d)) t) ∙ e))

pub count_long : (a k : ℕ) → length (count_from a k) ≡ k
count_long a zero = refl
count_long a (suc k) = ap suc (count_long (a + 1) k)

count_below : (n a k : ℕ) → a + k ≤ n → AllByRecursion (λ s. s < n) (count_from a k)
count_below n a zero le = tt
count_below n a (suc k) le = (omega (arith, le), count_below n (a + 1) k (omega (arith, le)))

added_good : (n number next : ℕ) (ts : List Spelled) → number + length ts ≤ n → next + length (flat_map sets_of ts) ≤ n → AllByRecursion IsFew ts → AllByRecursion (IsGood n) (added_rules number next ts)
added_good n number next [] fits sets few = tt
added_good n number next (t ∷ ts) fits sets few =
    let long : length (flat_map sets_of (t ∷ ts)) ≡ length (sets_of t) + length (flat_map sets_of ts) = length-append (sets_of t) (flat_map sets_of ts) in
    go (is_quote_or_bracket t) (omega (arith, long, sets)) (added_good n (number + 1) (next + length (sets_of t)) ts (omega (arith, fits)) (omega (arith, long, sets)) few.1)
  where
    go : (b : Bool) → next + length (sets_of t) ≤ n → AllByRecursion (IsGood n) (added_rules (number + 1) (next + length (sets_of t)) ts) →
        AllByRecursion (IsGood n) (cond b (Plain (record { lhs = number; rhs = count_from next (length (sets_of t)); level = 0; groups = 1; assoc = Left; rank = pos 0; null_high = false }) ∷ []) [] ++ added_rules (number + 1) (next + length (sets_of t)) ts)
    go true le rest =
        let short : length (count_from next (length (sets_of t))) ≤ 1000 = subst (λ k. k ≤ 1000) (sym (count_long next (length (sets_of t)))) few.0 in
        ((All-from_recursion (λ s. s < n) (number ∷ count_from next (length (sets_of t))) (omega (arith, fits), count_below n next (length (sets_of t)) le), (omega arith, short)), rest)
    go false le rest = rest

good_more : (m n : ℕ) → m ≤ n → (r : WrittenRule) → IsGood m r → IsGood n r
good_more m n le r h =
    (All-from_recursion (λ s. s < n) (symbols_of r) (all_weaker (λ s. s < m) (λ s. s < n) (symbols_of r) (λ (s : ℕ) (lt : s < m). below s lt) (recursion_from_All (λ s. s < m) (symbols_of r) h.0)), h.1)
  where
    below : (s : ℕ) → s < m → s < n
    below s lt = omega (arith, lt, le)

pub names_long : (d : List Statement) → length (grammar_l0 d).names ≡ length (named_l0 d) + length (sets_l0 d)
names_long d =
    length-append (named_l0 d) (set_names (length (sets_l0 d))) ∙ ap (λ k. length (named_l0 d) + k) (length-map (count_from 0 (length (sets_l0 d))) (λ k. 58 ∷ decimal k) ∙ count_long 0 (length (sets_l0 d)))

pub texts_long : (d : List Statement) → length (placed_tokens d) ≤ length (named_l0 d)
texts_long d =
    let e : length (named_l0 d) ≡ length (texts_l0 d) + length (filter (λ t. not (is_one_of (texts_l0 d) t)) (lexemes d)) = length-append (texts_l0 d) (filter (λ t. not (is_one_of (texts_l0 d) t)) (lexemes d)) in
    let f : length (texts_l0 d) ≡ length (placed_tokens d) = length-map (placed_tokens d) (λ t. t.content) in
    omega (arith, e, f)

pub l0_known : (d : List Statement) → Faultless d → AllByRecursion IsFew (placed_tokens d) → IsKnown (grammar_l0 d)
l0_known d f few =
    let names = named_l0 d in
    let n = length (grammar_l0 d).names in
    let long = names_long d in
    let texts = texts_long d in
    let less : length names ≤ n = omega (arith, long) in
    let written = flat_map (rules_of names) (filter (is_of_level true) d) in
    let added = added_rules 0 (length names) (placed_tokens d) in
    record {
      rules = All-from_recursion (IsGood n) (grammar_l0 d).rules
          (all_join (IsGood n) written added
          (all_weaker (IsGood (length names)) (IsGood n) written (good_more (length names) n less)
          (level_good names true d (all_weaker (λ s. AllIn names (contents (lexical_tokens s))) (λ s. is_of_level true s ≡ true → AllIn names (names_in s)) d (lexical_in names) (lexical_all d)) (sides_short d f.lengths)))
          (added_good n 0 (length names) (placed_tokens d) (omega (arith, less, texts)) (omega (arith, long)) few));
      starts = All-from_recursion (λ s. s < n) (grammar_l0 d).starts
          (all_weaker (λ s. s < length names) (λ s. s < n) (grammar_l0 d).starts (λ (s : ℕ) (lt : s < length names). omega (arith, lt, less)) (places_known names (start_texts d) (all_in names (start_texts d) (start_named d))));
    }

-- THE TABLES

pub numbers_are : {A : Type 0} (n : ℕ) (xs : List A) → map (λ p. p.0) (numbered_from n xs) ≡ count_from n (length xs)
numbers_are n [] = refl
numbers_are n (x ∷ xs) = ap (λ ns. n ∷ ns) (numbers_are (n + 1) xs)

pub numbered_long : {A : Type 0} (n : ℕ) (xs : List A) → length (numbered_from n xs) ≡ length xs
numbered_long n [] = refl
numbered_long n (x ∷ xs) = ap suc (numbered_long (n + 1) xs)

pub symbol_of_lexeme : (d : List Statement) (t : List ℕ) → is_one_of (lexemes d) t ≡ true → is_one_of (symbols_g1 d) t ≡ true
symbol_of_lexeme d t e = prefix_true (is_one_of (symbols_g1 d) t) (not (is_one_of (left_names false d) t)) (sym (among_filtered (λ u. not (is_one_of (left_names false d) u)) (symbols_g1 d) t) ∙ e)

pub start_of_lexeme : (d : List Statement) (t : List ℕ) → is_one_of (lexemes d) t ≡ true → is_one_of (start_texts d) t ≡ true
start_of_lexeme d t e = in_joined (lexemes d) (discarded d) t (ap (λ b. b || is_one_of (discarded d) t) e)

pub start_of_discard : (d : List Statement) (t : List ℕ) → is_one_of (discarded d) t ≡ true → is_one_of (start_texts d) t ≡ true
start_of_discard d t e = in_joined (lexemes d) (discarded d) t (ap (λ b. is_one_of (lexemes d) t || b) e ∙ or-true (is_one_of (lexemes d) t))

tables_in_range : (d : List Statement) → Faultless d → AllByRecursion IsFew (placed_tokens d) → IsInRange (built_of d)
tables_in_range d f few =
    let starts : length (grammar_l0 d).starts ≡ length (start_texts d) = length-map (start_texts d) (place_in (named_l0 d)) in
    let sets = numbered_from (length (named_l0 d)) (sets_l0 d) in
    record {
      g1 = g1_known d f;
      l0 = l0_known d f few;
      sets = (
        length (named_l0 d),
        ap (λ k. length (named_l0 d) + k) (numbered_long (length (named_l0 d)) (sets_l0 d)) ∙ sym (names_long d),
        numbers_are (length (named_l0 d)) (sets_l0 d) ∙ ap (count_from (length (named_l0 d))) (sym (numbered_long (length (named_l0 d)) (sets_l0 d))),
      );
      symbols = All-from_recursion (λ r. r.symbol < length (symbols_g1 d)) (map (lexeme_row d) (lexemes d))
          (all_map (λ r. r.symbol < length (symbols_g1 d)) (lexeme_row d) (lexemes d) (all_weaker (λ t. is_one_of (symbols_g1 d) t ≡ true) (λ t. place_in (symbols_g1 d) t < length (symbols_g1 d)) (lexemes d) (place_known (symbols_g1 d)) (all_in (symbols_g1 d) (lexemes d) (symbol_of_lexeme d))));
      starts = All-from_recursion (λ r. r.start < length (grammar_l0 d).starts) (map (lexeme_row d) (lexemes d))
          (all_map (λ r. r.start < length (grammar_l0 d).starts) (lexeme_row d) (lexemes d)
          (all_weaker (λ t. is_one_of (start_texts d) t ≡ true) (λ t. place_in (start_texts d) t < length (grammar_l0 d).starts) (lexemes d) (λ (t : List ℕ) (e : is_one_of (start_texts d) t ≡ true). subst (λ n. place_in (start_texts d) t < n) (sym starts) (place_known (start_texts d) t e)) (all_in (start_texts d) (lexemes d) (start_of_lexeme d))));
      discards = All-from_recursion (λ k. k < length (grammar_l0 d).starts) (map (place_in (start_texts d)) (discarded d))
          (subst (λ n. AllByRecursion (λ k. k < n) (map (place_in (start_texts d)) (discarded d))) (sym starts) (places_known (start_texts d) (discarded d) (all_in (start_texts d) (discarded d) (start_of_discard d))));
    }

pub built_ranges : (d : List Statement) (b : Built) → IsBuiltOf d b → IsInRange b
built_ranges d b h = let f = faultless d h.faultless in subst IsInRange (sym h.is) (tables_in_range d f (few_placed d f h.described))
