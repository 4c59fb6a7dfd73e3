-- Rules name symbols of their grammar, and their right sides are short.
use Rattle.std.proofs.Common.{◌≡◌, ℕ, suc, ◌+◌, ◌<◌, ◌≤◌, Bool, true, false, cond, List, [], ◌∷◌, ◌++◌, Option, Some, None, refl, sym, ap, ◌∙◌, subst, map, length, arith}
use Rattle.std.specs.Prelude.{flat_map, filter, not, ◌||◌, bytes_eq, codes, All, option_map, option_to_list}
use Rattle.std.specs.List.{AllByRecursion}
use Rattle.std.proofs.lemmas.Bool.{true≢false}
use Rattle.std.proofs.lemmas.List.{map-append, length-map}
use Rattle.std.proofs.lemmas.List.Elements.{All-from_recursion}
use Rattle.grammar_model.specs.Grammar.{WrittenRule}
use Rattle.grammar_core.specs.Written.{symbols_of, IsLevelled}
use Rattle.language_model.specs.Tokens.{Spelled}
use Rattle.language_model.specs.Description.{Alternative, Statement, Start, Default, LexemeDefault, Lexeme, Discard, Empty, Quantified, Rules}
use Rattle.language_model.specs.Building.{is_one_of, place_in, numbers_in, parts_of, alternatives_of, separator_of, value_of, plain_rule, rules_of_groups, rules_of, is_of_level, right_sides, long_parts, too_long}
use Rattle.dsl_faults.proofs.Keeping.{bytes_eq_sym}
use Rattle.dsl_build.proofs.Alls.{all_prefix, all_back, all_join, all_mapped, all_weaker, all_empty}
use Rattle.std.proofs.lemmas.Grind.{flat_map-append}
use Rattle.language_model.proofs.Short.{not_long}

-- the texts are all among the names
abbrev pub AllIn : List (List ℕ) → List (List ℕ) → Type 0
AllIn names = AllByRecursion (λ t. is_one_of names t ≡ true)

pub place_known : (names : List (List ℕ)) (t : List ℕ) → is_one_of names t ≡ true → place_in names t < length names
place_known [] t e = absurd (true≢false (sym e))
place_known (n ∷ ns) t e = go (bytes_eq t n) refl (λ (held : is_one_of ns t ≡ true). place_known ns t held)
  where
    go : (b : Bool) → bytes_eq t n ≡ b → (is_one_of ns t ≡ true → place_in ns t < length ns) → place_in (n ∷ ns) t < suc (length ns)
    go true is known = subst (λ c. cond (not c) (1 + place_in ns t) 0 < suc (length ns)) (sym is) (omega arith)
    go false is known =
        let held : is_one_of ns t ≡ true = sym (ap (λ b. b || is_one_of ns t) (bytes_eq_sym n t ∙ is)) ∙ e in
        let rest = known held in
        subst (λ c. cond (not c) (1 + place_in ns t) 0 < suc (length ns)) (sym is) (omega (arith, rest))

pub numbers_known : (names : List (List ℕ)) (ts : List Spelled) → AllIn names (map (λ t. t.content) ts) → AllByRecursion (λ s. s < length names) (numbers_in names ts)
numbers_known names [] a = tt
numbers_known names (t ∷ ts) a = (place_known names t.content a.0, numbers_known names ts a.1)

-- the rule names symbols of so many, and is as the grammar wants it
abbrev pub IsGood : ℕ → WrittenRule → Type 0
IsGood n r = All (λ s. s < n) (symbols_of r) × IsLevelled r

abbrev IsShort : Alternative → Type 0
IsShort a = length (parts_of a) ≤ 1000

abbrev contents : List Spelled → List (List ℕ)
contents = map (λ t. t.content)

abbrev alternatives_in : List Alternative → List (List ℕ)
alternatives_in as' = contents (flat_map parts_of as')

group_good : (names : List (List ℕ)) (left : Spelled) (level count : ℕ) (g : List Alternative) → level < count → is_one_of names left.content ≡ true → AllIn names (alternatives_in g) → AllByRecursion IsShort g →
    AllByRecursion (IsGood (length names)) (map (plain_rule names left level count) g)
group_good names left level count [] lt held known short = tt
group_good names left level count (a ∷ as') lt held known short =
    let split : AllIn names (contents (parts_of a) ++ alternatives_in as') = subst (AllIn names) (map-append (λ (t : Spelled). t.content) (parts_of a) (flat_map parts_of as')) known in
    let parts = numbers_known names (parts_of a) (all_prefix (λ t. is_one_of names t ≡ true) (contents (parts_of a)) (alternatives_in as') split) in
    let long : length (numbers_in names (parts_of a)) ≤ 1000 = subst (λ n. n ≤ 1000) (sym (length-map (parts_of a) (λ t. place_in names t.content))) short.0 in (
      (All-from_recursion (λ s. s < length names) (place_in names left.content ∷ numbers_in names (parts_of a)) (place_known names left.content held, parts), (lt, long)),
      group_good names left level count as' lt held (all_back (λ t. is_one_of names t ≡ true) (contents (parts_of a)) (alternatives_in as') split) short.1,
    )

groups_good : (names : List (List ℕ)) (left : Spelled) (count : ℕ) (gs : List (List Alternative)) → length gs ≤ count → is_one_of names left.content ≡ true → AllIn names (alternatives_in (alternatives_of gs)) → AllByRecursion IsShort (alternatives_of gs) →
    AllByRecursion (IsGood (length names)) (rules_of_groups names left count gs)
groups_good names left count [] le held known short = tt
groups_good names left count (g ∷ gs) le held known short =
    let parts : flat_map parts_of (g ++ alternatives_of gs) ≡ flat_map parts_of g ++ flat_map parts_of (alternatives_of gs) = flat_map-append parts_of g (alternatives_of gs) in
    let split : AllIn names (alternatives_in g ++ alternatives_in (alternatives_of gs)) =
    subst (AllIn names) (ap contents parts ∙ map-append (λ (t : Spelled). t.content) (flat_map parts_of g) (flat_map parts_of (alternatives_of gs))) known in
    all_join (IsGood (length names)) (map (plain_rule names left (length gs) count) g) (rules_of_groups names left count gs)
    (group_good names left (length gs) count g (omega (arith, le)) held (all_prefix (λ t. is_one_of names t ≡ true) (alternatives_in g) (alternatives_in (alternatives_of gs)) split) (all_prefix IsShort g (alternatives_of gs) short))
    (groups_good names left count gs (omega (arith, le)) held (all_back (λ t. is_one_of names t ≡ true) (alternatives_in g) (alternatives_in (alternatives_of gs)) split) (all_back IsShort g (alternatives_of gs) short))

-- what the rules of a statement name
abbrev pub names_in : Statement → List (List ℕ)
names_in (Empty left lexical adverbs) = left.content ∷ []
names_in (Quantified left lexical item plus adverbs) = left.content ∷ item.content ∷ map (λ t. t.content) (separator_of adverbs)
names_in (Rules left lexical groups) = left.content ∷ map (λ t. t.content) (flat_map parts_of (alternatives_of groups))
names_in _ = []

abbrev pub AreShort : Statement → Type 0
AreShort s = AllByRecursion (λ side. length side ≤ 1000) (right_sides s)

sequence_good : (names : List (List ℕ)) (left item : ℕ) (o : Option Spelled) → left < length names → item < length names → AllIn names (map (λ t. t.content) (option_to_list o)) →
    AllByRecursion (λ s. s < length names) (left ∷ item ∷ option_to_list (option_map (λ t. place_in names t.content) o))
sequence_good names left item None l i a = (l, (i, tt))
sequence_good names left item (Some t) l i a = (l, (i, (place_known names t.content a.0, tt)))

statement_good : (names : List (List ℕ)) (s : Statement) → AllIn names (names_in s) → AreShort s → AllByRecursion (IsGood (length names)) (rules_of names s)
statement_good names (Start at name) known short = tt
statement_good names (Default at adverbs) known short = tt
statement_good names (LexemeDefault at adverbs) known short = tt
statement_good names (Lexeme at name adverbs) known short = tt
statement_good names (Discard at item adverbs) known short = tt
statement_good names (Empty left lexical adverbs) known short =
    ((All-from_recursion (λ s. s < length names) (place_in names left.content ∷ []) (place_known names left.content known.0, tt), (omega arith, omega arith)), tt)
statement_good names (Quantified left lexical item plus adverbs) known short =
    let o = value_of (codes "separator") adverbs in
    ((All-from_recursion (λ s. s < length names) (place_in names left.content ∷ place_in names item.content ∷ option_to_list (option_map (λ t. place_in names t.content) o)) (sequence_good names (place_in names left.content) (place_in names item.content) o (place_known names left.content known.0) (place_known names item.content known.1.0) known.1.1), tt), tt)
statement_good names (Rules left lexical groups) known short =
    groups_good names left (length groups) groups (omega arith) known.0 known.1 (all_mapped (λ (side : List Spelled). length side ≤ 1000) parts_of (alternatives_of groups) short)

pub level_good : (names : List (List ℕ)) (lexical : Bool) (ss : List Statement) → AllByRecursion (λ s. is_of_level lexical s ≡ true → AllIn names (names_in s)) ss → AllByRecursion AreShort ss →
    AllByRecursion (IsGood (length names)) (flat_map (rules_of names) (filter (is_of_level lexical) ss))
level_good names lexical [] known short = tt
level_good names lexical (s ∷ ss) known short = go (is_of_level lexical s) refl (level_good names lexical ss known.1 short.1)
  where
    go : (b : Bool) → is_of_level lexical s ≡ b → AllByRecursion (IsGood (length names)) (flat_map (rules_of names) (filter (is_of_level lexical) ss)) → AllByRecursion (IsGood (length names)) (flat_map (rules_of names) (cond b (s ∷ filter (is_of_level lexical) ss) (filter (is_of_level lexical) ss)))
    go true e rest = all_join (IsGood (length names)) (rules_of names s) (flat_map (rules_of names) (filter (is_of_level lexical) ss)) (statement_good names s (known.0 e) short.0) rest
    go false e rest = rest

-- THE LENGTHS OF RIGHT SIDES

short_side : (side : List Spelled) → 0 + length side ≤ 1000 → length side ≤ 1000
short_side side le = omega (arith, le)

pub sides_short : (d : List Statement) → too_long d ≡ [] → AllByRecursion AreShort d
sides_short d e =
    all_weaker (λ s. flat_map (long_parts 0) (right_sides s) ≡ []) AreShort d
    (λ (s : Statement) (f : flat_map (long_parts 0) (right_sides s) ≡ []).
    all_weaker (λ side. long_parts 0 side ≡ []) (λ side. length side ≤ 1000) (right_sides s) (λ (side : List Spelled) (g : long_parts 0 side ≡ []). short_side side (not_long 0 side (omega arith) g)) (all_empty (long_parts 0) (right_sides s) f))
    (all_empty (λ (s : Statement). flat_map (long_parts 0) (right_sides s)) d e)
