-- The terminals of a lexical grammar: its character sets, and a start that has no rule at all.
use Rattle.std.proofs.Common.{◌≡◌, ◌≢◌, ℕ, zero, suc, ◌+◌, ◌<◌, ◌≤◌, Bool, true, false, cond, List, [], ◌∷◌, ◌++◌, Option, Some, refl, sym, ap, ◌∙◌, subst, map, length, take, drop, arith, ◌⊎◌, inl, inr, ⊎_elim, ◌-◌}
use Rattle.std.proofs.lemmas.Bool.{cases_lt, not-false, or_cases}
use Rattle.std.specs.Prelude.{flat_map, filter, not, ◌||◌, ◌&&◌, bytes_eq, codes, IsTrue, slice_index_or, slice_get, option_to_list, pos}
use Rattle.std.specs.List.{AllByRecursion, list_all}
use Rattle.std.proofs.lemmas.Bool.{true≢false}
use Rattle.std.proofs.lemmas.Grind.{flat_map-append}
use Rattle.std.proofs.lemmas.Slice.Eq.{bytes_eq-Decides}
use Rattle.grammar_model.specs.declared.Assoc.TheVariants.{Left}
use Rattle.grammar_model.specs.Grammar.{WrittenRule, Plain, lhs_of, no_rule, IsTerminal}
use Rattle.grammar_core.proofs.Growth.{named}
use Rattle.language_model.specs.declared.token.TokenKind.{TokenKind}
use Rattle.language_model.specs.declared.token.TokenKind.TheVariants.{Word, Angle, Quote, Bracket, Pseudo, Reserved, Signed, Mark}
use Rattle.language_model.specs.Tokens.{Spelled}
use Rattle.language_model.specs.Description.{Element, Bare, Hidden, Alternative, Adverb, Comma, Pair, Statement, Start, Default, LexemeDefault, Lexeme, Discard, Empty, Quantified, Rules, is_statement, is_name, is_kind_of_single, is_kind_of_part, is_adverb, is_element, is_alternative, is_group, is_one, is_some as is_filled}
use Rattle.language_model.specs.Building.{AdverbPlace, InLexicalQuantified, InQuantified, is_one_of, names_at, fits_adverb, is_single, pairs_of, value_of, separator_of, parts_of, parts_of_element, alternatives_of, place_in, plain_rule, rules_of_groups, rules_of, is_of_level, left_of, right_of, lefts, left_names, all_left_names, structural_names, symbols_g1, lexemes, start_names, start_places, start_of, second_starts, at_most, fault_at, Fault, is_quote_or_bracket, lexical_tokens, new_texts, placed_tokens, texts_l0, named_l0, sets_l0, sets_of, count_from, added_rules, grammar_g1, grammar_l0, Built, built_of, set_names}
use Rattle.language_model.specs.Texts.{IsDescription, IsBuiltOf, spelled}
use Rattle.dsl_build.specs.Ranges.{HasSet, IsBareStart, TerminalsHaveSets}
use Rattle.language_model.specs.Description.{pieces_of}
use Rattle.dsl_faults.proofs.Keeping.{among_texts}
use Rattle.dsl_faults.proofs.Bridges.{among_filtered, any_left}
use Rattle.dsl_build.proofs.Faultless.{Faultless, faultless}
use Rattle.dsl_build.proofs.Differing.{differ, named_new}
use Rattle.dsl_build.proofs.Alls.{all_prefix, all_back, all_join, all_map, all_weaker, all_always, all_flat, all_pieces, all_filter, all_empty, all_at}
use Rattle.dsl_build.proofs.Few.{and_prefix, and_back, bad_pair, bad_of, statements_are, all_tokens}
use Rattle.dsl_build.proofs.Known.{AllIn, place_known}
use Rattle.dsl_faults.specs.Texts.{AllNew}
use Rattle.std.proofs.Math.Bool.{or-false}
use Rattle.std.proofs.lemmas.Option.{same_Some}
use Rattle.std.proofs.Math.Bool.{or-true}
use Rattle.finite_sets.proofs.Lists.{get_left, map_empty, map_flat, get_some, prefix_empty, back_empty}
use Rattle.finite_sets.proofs.Clauses.{and_right}
use Rattle.dsl_build.proofs.Ranging.{all_in, any_append, one_in, symbols_all, lefts_in, tokens_as_texts, contents, names_long, numbers_are, numbered_long, prefix_true, symbol_of_lexeme}
use Rattle.language_model.proofs.Short.{none_of}

-- RULES WITH A LEFT SIDE

abbrev HasLeft : ℕ → List WrittenRule → Type 0
HasLeft s [] = ⊥
HasLeft s (r ∷ rs) = (lhs_of r ≡ s) ⊎ HasLeft s rs

has_prefix : (s : ℕ) (xs ys : List WrittenRule) → HasLeft s xs → HasLeft s (xs ++ ys)
has_prefix s [] ys h = absurd h
has_prefix s (x ∷ xs) ys h = ⊎_elim (λ (e : lhs_of x ≡ s). inl e) (λ (t : HasLeft s xs). inr (has_prefix s xs ys t)) h

has_back : (s : ℕ) (xs ys : List WrittenRule) → HasLeft s ys → HasLeft s (xs ++ ys)
has_back s [] ys h = h
has_back s (x ∷ xs) ys h = inr (has_back s xs ys h)

no_terminal : (s : ℕ) (rules : List WrittenRule) → HasLeft s rules → ((i : ℕ) → i < length rules → lhs_of (slice_index_or rules i no_rule) ≢ s) → ⊥
no_terminal s [] h none = h
no_terminal s (r ∷ rs) h none =
    ⊎_elim (λ (e : lhs_of r ≡ s). none 0 (omega arith) e)
    (λ (t : HasLeft s rs). no_terminal s rs t (λ (i : ℕ) (lt : i < length rs) (e : lhs_of (slice_index_or rs i no_rule) ≡ s). none (suc i) (omega (arith, lt)) e)) h

some_group : (names : List (List ℕ)) (left : Spelled) (count : ℕ) (gs : List (List Alternative)) → IsTrue (list_all is_group gs) → IsTrue (is_filled gs) → HasLeft (place_in names left.content) (rules_of_groups names left count gs)
some_group names left count [] h k = absurd (true≢false (sym k))
some_group names left count (g ∷ gs) h k = has_prefix (place_in names left.content) (map (plain_rule names left (length gs) count) g) (rules_of_groups names left count gs) (one g (and_prefix (is_group g) (list_all is_group gs) h))
  where
    one : (as' : List Alternative) → IsTrue (is_group as') → HasLeft (place_in names left.content) (map (plain_rule names left (length gs) count) as')
    one [] f = absurd (true≢false (sym f))
    one (a ∷ as') f = inl refl

one_filled : {A : Type 0} (xs : List A) → IsTrue (is_one xs) → IsTrue (is_filled xs)
one_filled [] h = h
one_filled (x ∷ xs) h = refl

abbrev side : Bool → Spelled → Option (Bool × Spelled)
side l t = Some (l, t)

side_token : (k l : Bool) (own left : Spelled) → side k own ≡ side l left → own ≡ left
side_token k l own left e = ap (λ (x : Bool × Spelled). x.1) (same_Some (k, own) (l, left) e)

side_level : (k l : Bool) (own left : Spelled) → side k own ≡ side l left → k ≡ l
side_level k l own left e = ap (λ (x : Bool × Spelled). x.0) (same_Some (k, own) (l, left) e)

statement_has : (names : List (List ℕ)) (s : Statement) (l : Bool) (left : Spelled) → IsTrue (is_statement s) → left_of s ≡ Some (l, left) → HasLeft (place_in names left.content) (rules_of names s)
statement_has names (Start at name) l left h e = cc
statement_has names (Default at adverbs) l left h e = cc
statement_has names (LexemeDefault at adverbs) l left h e = cc
statement_has names (Lexeme at name adverbs) l left h e = cc
statement_has names (Discard at item adverbs) l left h e = cc
statement_has names (Empty own lexical adverbs) l left h e = inl (ap (λ (t : Spelled). place_in names t.content) (side_token lexical l own left e))
statement_has names (Quantified own lexical item plus adverbs) l left h e = inl (ap (λ (t : Spelled). place_in names t.content) (side_token lexical l own left e))
statement_has names (Rules own lexical groups) l left h e =
    let same : own ≡ left = side_token lexical l own left e in
    let prefix = and_prefix (is_name own && list_all is_group groups) (cond lexical (is_one groups) (is_filled groups)) h in
    subst (λ (t : Spelled). HasLeft (place_in names t.content) (rules_of names (Rules own lexical groups))) same
    (some_group names own (length groups) groups (and_back (is_name own) (list_all is_group groups) prefix) (filled lexical (and_back (is_name own && list_all is_group groups) (cond lexical (is_one groups) (is_filled groups)) h)))
  where
    filled : (b : Bool) → IsTrue (cond b (is_one groups) (is_filled groups)) → IsTrue (is_filled groups)
    filled true k = one_filled groups k
    filled false k = k

-- one statement more
level_on : (names : List (List ℕ)) (t left : List ℕ) (b : Bool) (texts : List (List ℕ)) (fs : List Statement) (s : Statement) → HasLeft (place_in names left) (rules_of names s) → is_one_of (cond b (left ∷ []) [] ++ texts) t ≡ true →
    (is_one_of texts t ≡ true → HasLeft (place_in names t) (flat_map (rules_of names) fs)) → HasLeft (place_in names t) (flat_map (rules_of names) (cond b (s ∷ fs) fs))
level_on names t left false texts fs s has e rest = rest e
level_on names t left true texts fs s has e rest =
    ⊎_elim (λ (is : bytes_eq left t ≡ true). has_prefix (place_in names t) (rules_of names s) (flat_map (rules_of names) fs) (subst (λ u. HasLeft (place_in names u) (rules_of names s)) ((bytes_eq-Decides left t).0 is) has))
    (λ (f : is_one_of texts t ≡ true). has_back (place_in names t) (rules_of names s) (flat_map (rules_of names) fs) (rest f))
    (or_cases (bytes_eq left t) (is_one_of texts t) e)

level_has : (names : List (List ℕ)) (lexical : Bool) (ss : List Statement) (t : List ℕ) → AllByRecursion (λ s. IsTrue (is_statement s)) ss → is_one_of (left_names lexical ss) t ≡ true → HasLeft (place_in names t) (flat_map (rules_of names) (filter (is_of_level lexical) ss))
level_has names lexical [] t a e = absurd (true≢false (sym e))
level_has names lexical (s ∷ ss) t a e = go s a.0 e (λ (f : is_one_of (left_names lexical ss) t ≡ true). level_has names lexical ss t a.1 f)
  where
    go : (x : Statement) → IsTrue (is_statement x) → is_one_of (left_names lexical (x ∷ ss)) t ≡ true → (is_one_of (left_names lexical ss) t ≡ true → HasLeft (place_in names t) (flat_map (rules_of names) (filter (is_of_level lexical) ss))) →
        HasLeft (place_in names t) (flat_map (rules_of names) (filter (is_of_level lexical) (x ∷ ss)))
    go (Start at name) h f rest = rest f
    go (Default at adverbs) h f rest = rest f
    go (LexemeDefault at adverbs) h f rest = rest f
    go (Lexeme at name adverbs) h f rest = rest f
    go (Discard at item adverbs) h f rest = rest f
    go (Empty left l adverbs) h f rest = level_on names t left.content ((lexical && l) || (not lexical && not l)) (left_names lexical ss) (filter (is_of_level lexical) ss) (Empty left l adverbs) (statement_has names (Empty left l adverbs) l left h refl) f rest
    go (Quantified left l item plus adverbs) h f rest =
        level_on names t left.content ((lexical && l) || (not lexical && not l)) (left_names lexical ss) (filter (is_of_level lexical) ss) (Quantified left l item plus adverbs) (statement_has names (Quantified left l item plus adverbs) l left h refl) f rest
    go (Rules left l groups) h f rest = level_on names t left.content ((lexical && l) || (not lexical && not l)) (left_names lexical ss) (filter (is_of_level lexical) ss) (Rules left l groups) (statement_has names (Rules left l groups) l left h refl) f rest

abbrev added_one : ℕ → ℕ → Spelled → WrittenRule
added_one number next t = Plain (record { lhs = number; rhs = count_from next (length (sets_of t)); level = 0; groups = 1; assoc = Left; rank = pos 0; null_high = false })

added_has : (number next : ℕ) (ts : List Spelled) (i : ℕ) (u : Spelled) → slice_get ts i ≡ Some u → is_quote_or_bracket u ≡ true → HasLeft (number + i) (added_rules number next ts)
added_has number next [] i u e q = cc
added_has number next (t ∷ ts) zero u e q =
    let same : t ≡ u = cc in
    let here : number ≡ number + 0 = omega arith in
    has_prefix (number + 0) (cond (is_quote_or_bracket t) (added_one number next t ∷ []) []) (added_rules (number + 1) (next + length (sets_of t)) ts) (go (is_quote_or_bracket t) (ap is_quote_or_bracket same ∙ q) here)
  where
    go : (b : Bool) → b ≡ true → number ≡ number + 0 → HasLeft (number + 0) (cond b (added_one number next t ∷ []) [])
    go true f here = inl here
    go false f here = absurd (true≢false (sym f))
added_has number next (t ∷ ts) (suc i) u e q =
    let there : number + 1 + i ≡ number + suc i = omega arith in
    has_back (number + suc i) (cond (is_quote_or_bracket t) (added_one number next t ∷ []) []) (added_rules (number + 1) (next + length (sets_of t)) ts)
    (subst (λ n. HasLeft n (added_rules (number + 1) (next + length (sets_of t)) ts)) there (added_has (number + 1) (next + length (sets_of t)) ts i u e q))

-- THE KINDS OF PARTS

abbrev pub IsPart : Spelled → Type 0
IsPart t = (is_name t || is_quote_or_bracket t) ≡ true

part_kind : (k : TokenKind) (c : List ℕ) (at : ℕ) → IsTrue (is_kind_of_part k) → IsPart (record { kind = k; content = c; at = at })
part_kind Word c at h = refl
part_kind Angle c at h = refl
part_kind Quote c at h = refl
part_kind Bracket c at h = refl
part_kind Pseudo c at h = absurd (true≢false (sym h))
part_kind Reserved c at h = absurd (true≢false (sym h))
part_kind Signed c at h = absurd (true≢false (sym h))
part_kind Mark c at h = absurd (true≢false (sym h))

single_kind : (k : TokenKind) (c : List ℕ) (at : ℕ) → IsTrue (is_kind_of_single k) → IsPart (record { kind = k; content = c; at = at })
single_kind Word c at h = refl
single_kind Angle c at h = refl
single_kind Bracket c at h = refl
single_kind Quote c at h = absurd (true≢false (sym h))
single_kind Pseudo c at h = absurd (true≢false (sym h))
single_kind Reserved c at h = absurd (true≢false (sym h))
single_kind Signed c at h = absurd (true≢false (sym h))
single_kind Mark c at h = absurd (true≢false (sym h))

value_kind : (k : TokenKind) (c : List ℕ) (at : ℕ) → is_single (record { kind = k; content = c; at = at }) ≡ true → IsPart (record { kind = k; content = c; at = at })
value_kind Word c at h = refl
value_kind Angle c at h = refl
value_kind Bracket c at h = refl
value_kind Quote c at h = absurd (true≢false (sym h))
value_kind Pseudo c at h = absurd (true≢false (sym h))
value_kind Reserved c at h = absurd (true≢false (sym h))
value_kind Signed c at h = absurd (true≢false (sym h))
value_kind Mark c at h = absurd (true≢false (sym h))

tokens_parts : (ts : List Spelled) → IsTrue (list_all (λ t. is_kind_of_part t.kind) ts) → AllByRecursion IsPart ts
tokens_parts [] h = tt
tokens_parts (t ∷ ts) h = (part_kind t.kind t.content t.at (and_prefix (is_kind_of_part t.kind) (list_all (λ u. is_kind_of_part u.kind) ts) h), tokens_parts ts (and_back (is_kind_of_part t.kind) (list_all (λ u. is_kind_of_part u.kind) ts) h))

elements_parts : (es : List Element) → IsTrue (list_all is_element es) → AllByRecursion IsPart (flat_map parts_of_element es)
elements_parts [] h = tt
elements_parts (Bare t ∷ es) h = (part_kind t.kind t.content t.at (and_prefix (is_kind_of_part t.kind) (list_all is_element es) h), elements_parts es (and_back (is_kind_of_part t.kind) (list_all is_element es) h))
elements_parts (Hidden ts ∷ es) h =
    let own = is_filled ts && list_all (λ t. is_kind_of_part t.kind) ts in
    all_join IsPart ts (flat_map parts_of_element es) (tokens_parts ts (and_back (is_filled ts) (list_all (λ t. is_kind_of_part t.kind) ts) (and_prefix own (list_all is_element es) h))) (elements_parts es (and_back own (list_all is_element es) h))

alternatives_parts : (as' : List Alternative) → IsTrue (list_all is_alternative as') → AllByRecursion IsPart (flat_map parts_of as')
alternatives_parts [] h = tt
alternatives_parts (a ∷ as') h =
    let own = and_prefix (is_alternative a) (list_all is_alternative as') h in
    let prefix = and_prefix (is_filled a.elements && list_all is_element a.elements) (list_all is_adverb a.adverbs) own in
    all_join IsPart (parts_of a) (flat_map parts_of as') (elements_parts a.elements (and_back (is_filled a.elements) (list_all is_element a.elements) prefix)) (alternatives_parts as' (and_back (is_alternative a) (list_all is_alternative as') h))

groups_parts : (gs : List (List Alternative)) → IsTrue (list_all is_group gs) → AllByRecursion IsPart (flat_map parts_of (alternatives_of gs))
groups_parts [] h = tt
groups_parts (g ∷ gs) h =
    let own = and_prefix (is_group g) (list_all is_group gs) h in
    subst (AllByRecursion IsPart) (sym (flat_map-append parts_of g (alternatives_of gs)))
    (all_join IsPart (flat_map parts_of g) (flat_map parts_of (alternatives_of gs)) (alternatives_parts g (and_back (is_filled g) (list_all is_alternative g) own)) (groups_parts gs (and_back (is_group g) (list_all is_group gs) h)))

separator_parts : (place : AdverbPlace) (adverbs : List Adverb) → flat_map (bad_pair place) (pairs_of adverbs) ≡ [] → AllByRecursion IsPart (separator_of adverbs)
separator_parts place [] e = tt
separator_parts place (Comma at ∷ adverbs) e = separator_parts place adverbs e
separator_parts place (Pair name value ∷ adverbs) e =
    go (bytes_eq name.content (codes "separator")) refl
    (and_right (is_one_of (names_at place) name.content) (fits_adverb name.content value) (not-false (is_one_of (names_at place) name.content && fits_adverb name.content value)
    (none_of (not (is_one_of (names_at place) name.content && fits_adverb name.content value)) (fault_at name) (prefix_empty (bad_pair place (name, value)) (flat_map (bad_pair place) (pairs_of adverbs)) e))))
    (separator_parts place adverbs (back_empty (bad_pair place (name, value)) (flat_map (bad_pair place) (pairs_of adverbs)) e))
  where
    go : (b : Bool) → bytes_eq name.content (codes "separator") ≡ b → fits_adverb name.content value ≡ true → AllByRecursion IsPart (separator_of adverbs) → AllByRecursion IsPart (option_to_list (cond b (Some value) (value_of (codes "separator") adverbs)))
    go true is fits rest =
        let single : is_single value ≡ true = subst (λ n. fits_adverb n value ≡ true) ((bytes_eq-Decides name.content (codes "separator")).0 is) fits in
        (value_kind value.kind value.content value.at single, tt)
    go false is fits rest = rest

pub rights_parts : (s : Statement) → IsTrue (is_statement s) → bad_of s ≡ [] → AllByRecursion (λ r. IsPart r.1) (right_of s)
rights_parts (Start at name) h bad = tt
rights_parts (Default at adverbs) h bad = tt
rights_parts (LexemeDefault at adverbs) h bad = tt
rights_parts (Lexeme at name adverbs) h bad = tt
rights_parts (Discard at item adverbs) h bad = (single_kind item.kind item.content item.at (and_prefix (is_kind_of_single item.kind) (list_all is_adverb adverbs) h), tt)
rights_parts (Empty left lexical adverbs) h bad = tt
rights_parts (Quantified left lexical item plus adverbs) h bad =
    let prefix = and_prefix (is_name left && is_kind_of_single item.kind) (list_all is_adverb adverbs) h in
    let place = cond lexical InLexicalQuantified InQuantified in
    all_map (λ (r : Bool × Spelled). IsPart r.1) (λ t. (lexical, t)) (item ∷ separator_of adverbs)
    (single_kind item.kind item.content item.at (and_back (is_name left) (is_kind_of_single item.kind) prefix), separator_parts place adverbs (prefix_empty (flat_map (bad_pair place) (pairs_of adverbs)) [] bad))
rights_parts (Rules left lexical groups) h bad =
    let prefix = and_prefix (is_name left && list_all is_group groups) (cond lexical (is_one groups) (is_filled groups)) h in
    all_map (λ (r : Bool × Spelled). IsPart r.1) (λ t. (lexical, t)) (flat_map parts_of (alternatives_of groups)) (groups_parts groups (and_back (is_name left) (list_all is_group groups) prefix))

-- WHAT IS DEFINED

-- a quoted text, a class, or a name that a rule defines
abbrev IsSettled : List Statement → Bool × Spelled → Type 0
IsSettled d r = (is_quote_or_bracket r.1 ≡ true) ⊎ (is_one_of (cond r.0 (left_names true d) (all_left_names d)) r.1.content ≡ true)

settled : (n q o : Bool) → (n || q) ≡ true → (n && not o) ≡ false → (q ≡ true) ⊎ (o ≡ true)
settled true q true e f = inr refl
settled true q false e f = absurd (true≢false f)
settled false q o e f = inl e

abbrev undefined : List Statement → Bool × Spelled → List Fault
undefined d r = at_most (is_name r.1 && not (is_one_of (cond r.0 (left_names true d) (all_left_names d)) r.1.content)) (fault_at r.1)

settled_all : (d : List Statement) (rs : List (Bool × Spelled)) → AllByRecursion (λ r. IsPart r.1) rs → AllByRecursion (λ r. undefined d r ≡ []) rs → AllByRecursion (IsSettled d) rs
settled_all d [] a b = tt
settled_all d (r ∷ rs) a b =
    let o = is_one_of (cond r.0 (left_names true d) (all_left_names d)) r.1.content in
    (settled (is_name r.1) (is_quote_or_bracket r.1) o a.0 (none_of (is_name r.1 && not o) (fault_at r.1) b.0), settled_all d rs a.1 b.1)

statements_settled : (d ss : List Statement) → AllByRecursion (λ s. IsTrue (is_statement s)) ss → AllByRecursion (λ s. bad_of s ≡ []) ss → AllByRecursion (λ s. flat_map (undefined d) (right_of s) ≡ []) ss → AllByRecursion (λ s. AllByRecursion (IsSettled d) (right_of s)) ss
statements_settled d [] a b c = tt
statements_settled d (s ∷ ss) a b c = (settled_all d (right_of s) (rights_parts s a.0 b.0) (all_empty (undefined d) (right_of s) c.0), statements_settled d ss a.1 b.1 c.1)

pub description_settled : (d : List Statement) → Faultless d → IsDescription d → AllByRecursion (λ s. AllByRecursion (IsSettled d) (right_of s)) d
description_settled d f h = statements_settled d d (statements_are d (pieces_of (spelled h.0 h.1.tokens)) h.1.described) (all_empty bad_of d f.adverbs) (all_empty (λ (s : Statement). flat_map (undefined d) (right_of s)) d f.defined)

-- LEFT SIDES

-- the left side of the level, if the statement has one, is among the names
abbrev LeftIn : Bool → List (List ℕ) → Statement → Type 0
LeftIn l names s = (left : Spelled) → left_of s ≡ Some (l, left) → is_one_of names left.content ≡ true

one_left : (l k : Bool) (own left : Spelled) (names : List (List ℕ)) → AllIn names (cond ((l && k) || (not l && not k)) (own.content ∷ []) []) → side k own ≡ side l left → is_one_of names left.content ≡ true
one_left true true own left names a e = let same : own ≡ left = side_token true true own left e in subst (λ (t : Spelled). is_one_of names t.content ≡ true) same a.0
one_left false false own left names a e = let same : own ≡ left = side_token false false own left e in subst (λ (t : Spelled). is_one_of names t.content ≡ true) same a.0
one_left true false own left names a e = absurd (true≢false (sym (side_level false true own left e)))
one_left false true own left names a e = absurd (true≢false (side_level true false own left e))

first_left : (l : Bool) (names : List (List ℕ)) (s : Statement) (ss : List Statement) → AllIn names (left_names l (s ∷ ss)) → LeftIn l names s
first_left l names (Start at name) ss a = λ left e. cc
first_left l names (Default at adverbs) ss a = λ left e. cc
first_left l names (LexemeDefault at adverbs) ss a = λ left e. cc
first_left l names (Lexeme at name adverbs) ss a = λ left e. cc
first_left l names (Discard at item adverbs) ss a = λ left e. cc
first_left l names (Empty own k adverbs) ss a = λ left e. one_left l k own left names (all_prefix (λ t. is_one_of names t ≡ true) (cond ((l && k) || (not l && not k)) (own.content ∷ []) []) (left_names l ss) a) e
first_left l names (Quantified own k item plus adverbs) ss a = λ left e. one_left l k own left names (all_prefix (λ t. is_one_of names t ≡ true) (cond ((l && k) || (not l && not k)) (own.content ∷ []) []) (left_names l ss) a) e
first_left l names (Rules own k groups) ss a = λ left e. one_left l k own left names (all_prefix (λ t. is_one_of names t ≡ true) (cond ((l && k) || (not l && not k)) (own.content ∷ []) []) (left_names l ss) a) e

other_lefts : (l : Bool) (names : List (List ℕ)) (s : Statement) (ss : List Statement) → AllIn names (left_names l (s ∷ ss)) → AllIn names (left_names l ss)
other_lefts l names (Start at name) ss a = a
other_lefts l names (Default at adverbs) ss a = a
other_lefts l names (LexemeDefault at adverbs) ss a = a
other_lefts l names (Lexeme at name adverbs) ss a = a
other_lefts l names (Discard at item adverbs) ss a = a
other_lefts l names (Empty own k adverbs) ss a = all_back (λ t. is_one_of names t ≡ true) (cond ((l && k) || (not l && not k)) (own.content ∷ []) []) (left_names l ss) a
other_lefts l names (Quantified own k item plus adverbs) ss a = all_back (λ t. is_one_of names t ≡ true) (cond ((l && k) || (not l && not k)) (own.content ∷ []) []) (left_names l ss) a
other_lefts l names (Rules own k groups) ss a = all_back (λ t. is_one_of names t ≡ true) (cond ((l && k) || (not l && not k)) (own.content ∷ []) []) (left_names l ss) a

lefts_known : (l : Bool) (names : List (List ℕ)) (ss : List Statement) → AllIn names (left_names l ss) → AllByRecursion (LeftIn l names) ss
lefts_known l names [] a = tt
lefts_known l names (s ∷ ss) a = (first_left l names s ss a, lefts_known l names ss (other_lefts l names s ss a))

all_self : (xs : List (List ℕ)) → AllIn xs xs
all_self xs = all_in xs xs (λ (t : List ℕ) (e : is_one_of xs t ≡ true). e)

-- TOKENS WITH A PLACE HAVE A RULE

abbrev IsRuled : List Statement → Spelled → Type 0
IsRuled d u = (is_quote_or_bracket u ≡ true) ⊎ (is_one_of (left_names true d) u.content ≡ true)

one_ruled : (d : List Statement) (l : Bool) (u : Spelled) → IsSettled d (l, u) → (l || is_quote_or_bracket u) ≡ true → IsRuled d u
one_ruled d true u h e = h
one_ruled d false u h e = inl e

abbrev is_kept : Bool × Spelled → Bool
is_kept r = r.0 || is_quote_or_bracket r.1

abbrev kept : List (Bool × Spelled) → List Spelled
kept rs = map (λ r. r.1) (filter is_kept rs)

kept_ruled : (d : List Statement) (rs : List (Bool × Spelled)) → AllByRecursion (IsSettled d) rs → AllByRecursion (IsRuled d) (kept rs)
kept_ruled d rs a =
    all_map (IsRuled d) (λ (r : Bool × Spelled). r.1) (filter is_kept rs)
    (all_filter (λ (r : Bool × Spelled). IsRuled d r.1) is_kept rs (all_weaker (IsSettled d) (λ r. is_kept r ≡ true → IsRuled d r.1) rs (λ (r : Bool × Spelled) (h : IsSettled d r) (e : is_kept r ≡ true). one_ruled d r.0 r.1 h e) a))

statement_ruled : (d : List Statement) (s : Statement) → LeftIn true (left_names true d) s → AllByRecursion (IsSettled d) (right_of s) → AllByRecursion (IsRuled d) (lexical_tokens s)
statement_ruled d (Start at name) h a = tt
statement_ruled d (Default at adverbs) h a = tt
statement_ruled d (LexemeDefault at adverbs) h a = tt
statement_ruled d (Lexeme at name adverbs) h a = tt
statement_ruled d (Discard at item adverbs) h a = kept_ruled d ((true, item) ∷ []) a
statement_ruled d (Empty left true adverbs) h a = (inr (h left refl), tt)
statement_ruled d (Empty left false adverbs) h a = tt
statement_ruled d (Quantified left true item plus adverbs) h a = (inr (h left refl), kept_ruled d (map (λ t. (true, t)) (item ∷ separator_of adverbs)) a)
statement_ruled d (Quantified left false item plus adverbs) h a = kept_ruled d (map (λ t. (false, t)) (item ∷ separator_of adverbs)) a
statement_ruled d (Rules left true groups) h a = (inr (h left refl), kept_ruled d (map (λ t. (true, t)) (flat_map parts_of (alternatives_of groups))) a)
statement_ruled d (Rules left false groups) h a = kept_ruled d (map (λ t. (false, t)) (flat_map parts_of (alternatives_of groups))) a

statements_ruled : (d ss : List Statement) → AllByRecursion (LeftIn true (left_names true d)) ss → AllByRecursion (λ s. AllByRecursion (IsSettled d) (right_of s)) ss → AllByRecursion (λ s. AllByRecursion (IsRuled d) (lexical_tokens s)) ss
statements_ruled d [] a b = tt
statements_ruled d (s ∷ ss) a b = (statement_ruled d s a.0 b.0, statements_ruled d ss a.1 b.1)

placed_ruled : (d : List Statement) → AllByRecursion (λ s. AllByRecursion (IsSettled d) (right_of s)) d → AllByRecursion (IsRuled d) (placed_tokens d)
placed_ruled d a =
    all_tokens (IsRuled d) [] (flat_map lexical_tokens d)
    (all_flat (IsRuled d) lexical_tokens d (statements_ruled d d (lefts_known true (left_names true d) d (all_self (left_names true d))) a))

-- AT A PLACE

all_get : {A : Type 0} (P : A → Type 0) (xs : List A) (i : ℕ) (x : A) → AllByRecursion P xs → slice_get xs i ≡ Some x → P x
all_get P [] i x a e = cc
all_get P (y ∷ ys) zero x a e = let same : y ≡ x = cc in subst P same a.0
all_get P (y ∷ ys) (suc i) x a e = all_get P ys i x a.1 e

pub get_in : (names : List (List ℕ)) (i : ℕ) (t : List ℕ) → slice_get names i ≡ Some t → is_one_of names t ≡ true
get_in [] i t e = cc
get_in (n ∷ ns) zero t e = let same : n ≡ t = cc in ap (λ b. b || is_one_of ns t) ((bytes_eq-Decides n t).1 same)
get_in (n ∷ ns) (suc i) t e = ap (λ b. bytes_eq n t || b) (get_in ns i t e) ∙ or-true (bytes_eq n t)

token_at : (ts : List Spelled) (i : ℕ) (t : List ℕ) → slice_get (contents ts) i ≡ Some t → (u : Spelled) × (slice_get ts i ≡ Some u) × (u.content ≡ t)
token_at [] i t e = cc
token_at (u ∷ us) zero t e = let same : u.content ≡ t = cc in (u, refl, same)
token_at (u ∷ us) (suc i) t e = token_at us i t e

text_at : (names : List (List ℕ)) (t : List ℕ) → is_one_of names t ≡ true → slice_get names (place_in names t) ≡ Some t
text_at names t e = named t names (place_known names t e)

pub place_at : (names : List (List ℕ)) (i : ℕ) (t : List ℕ) → AllNew [] names → slice_get names i ≡ Some t → place_in names t ≡ i
place_at names i t new e = differ [] names (place_in names t) i t new (text_at names t (get_in names i t e)) e

place_same : (names : List (List ℕ)) (t u : List ℕ) → is_one_of names t ≡ true → is_one_of names u ≡ true → place_in names t ≡ place_in names u → t ≡ u
place_same names t u a b e =
    let first = text_at names t a in
    let second = text_at names u b in
    some_same t u (sym first ∙ ap (slice_get names) e ∙ second)
  where
    some_same : (x y : List ℕ) → Some x ≡ Some y → x ≡ y
    some_same x y h = cc

placed_has : (d : List Statement) (t : List ℕ) → AllByRecursion (λ s. IsTrue (is_statement s)) d → AllByRecursion (λ s. AllByRecursion (IsSettled d) (right_of s)) d → is_one_of (texts_l0 d) t ≡ true → HasLeft (place_in (named_l0 d) t) (grammar_l0 d).rules
placed_has d t are settled e =
    let names = named_l0 d in
    let written = flat_map (rules_of names) (filter (is_of_level true) d) in
    let added = added_rules 0 (length names) (placed_tokens d) in
    let p = place_in (texts_l0 d) t in
    let there : slice_get (texts_l0 d) p ≡ Some t = text_at (texts_l0 d) t e in
    let token = token_at (placed_tokens d) p t there in
    let place : place_in names t ≡ p = place_at names p t (named_new d) (get_left (texts_l0 d) (filter (λ u. not (is_one_of (texts_l0 d) u)) (lexemes d)) p t there) in
    let here : 0 + p ≡ place_in names t = omega (arith, place) in
    ⊎_elim
    (λ (q : is_quote_or_bracket token.0 ≡ true). has_back (place_in names t) written added (subst (λ n. HasLeft n added) here (added_has 0 (length names) (placed_tokens d) p token.0 token.1 q)))
    (λ (o : is_one_of (left_names true d) token.0.content ≡ true). has_prefix (place_in names t) written added (subst (λ u. HasLeft (place_in names u) written) token.2 (level_has names true d token.0.content are o)))
    (all_get (IsRuled d) (placed_tokens d) p token.0 (placed_ruled d settled) token.1)

-- WHERE A STRUCTURAL SYMBOL STANDS

texts_all : (d : List Statement) → AllByRecursion (λ s. AllIn (texts_l0 d) (contents (lexical_tokens s))) d
texts_all d =
    all_pieces (λ t. is_one_of (texts_l0 d) t ≡ true) (λ s. contents (lexical_tokens s)) d
    (all_in (texts_l0 d) (flat_map (λ s. contents (lexical_tokens s)) d)
    (λ (t : List ℕ) (e : is_one_of (flat_map (λ s. contents (lexical_tokens s)) d) t ≡ true).
    ap (λ xs. is_one_of xs t) (tokens_as_texts [] (flat_map lexical_tokens d) ∙ ap (new_texts []) (map_flat lexical_tokens (λ (u : Spelled). u.content) d)) ∙ among_texts (flat_map (λ s. contents (lexical_tokens s)) d) t ∙ e))

lexical_lefts_in : (names : List (List ℕ)) (ss : List Statement) → AllByRecursion (λ s. AllIn names (contents (lexical_tokens s))) ss → AllIn names (left_names true ss)
lexical_lefts_in names [] a = tt
lexical_lefts_in names (s ∷ ss) a = go s a.0 (lexical_lefts_in names ss a.1)
  where
    go : (x : Statement) → AllIn names (contents (lexical_tokens x)) → AllIn names (left_names true ss) → AllIn names (left_names true (x ∷ ss))
    go (Start at name) b rest = rest
    go (Default at adverbs) b rest = rest
    go (LexemeDefault at adverbs) b rest = rest
    go (Lexeme at name adverbs) b rest = rest
    go (Discard at item adverbs) b rest = rest
    go (Empty left true adverbs) b rest = (b.0, rest)
    go (Empty left false adverbs) b rest = rest
    go (Quantified left true item plus adverbs) b rest = (b.0, rest)
    go (Quantified left false item plus adverbs) b rest = rest
    go (Rules left true groups) b rest = (b.0, rest)
    go (Rules left false groups) b rest = rest

lexical_placed : (d : List Statement) (t : List ℕ) → is_one_of (left_names true d) t ≡ true → is_one_of (texts_l0 d) t ≡ true
lexical_placed d t e = one_in (texts_l0 d) (left_names true d) t (lexical_lefts_in (texts_l0 d) d (texts_all d)) e

-- the name of a `:start`, a structural left side, or a text with a place
abbrev IsFound : List Statement → List ℕ → Type 0
IsFound d t = (is_one_of (flat_map start_names d) t ≡ true) ⊎ ((is_one_of (left_names false d) t ≡ true) ⊎ (is_one_of (texts_l0 d) t ≡ true))

kept_known : (names : List (List ℕ)) (rs : List (Bool × Spelled)) → AllIn names (contents (kept rs)) → AllByRecursion (λ r. is_kept r ≡ true → is_one_of names r.1.content ≡ true) rs
kept_known names [] a = tt
kept_known names (r ∷ rs) a = go (is_kept r) refl a (λ (b : AllIn names (contents (kept rs))). kept_known names rs b)
  where
    go : (b : Bool) → is_kept r ≡ b → AllIn names (contents (map (λ x. x.1) (cond b (r ∷ filter is_kept rs) (filter is_kept rs)))) → (AllIn names (contents (kept rs)) → AllByRecursion (λ x. is_kept x ≡ true → is_one_of names x.1.content ≡ true) rs) →
        (is_kept r ≡ true → is_one_of names r.1.content ≡ true) × AllByRecursion (λ x. is_kept x ≡ true → is_one_of names x.1.content ≡ true) rs
    go true is b rest = ((λ e. b.0), rest b.1)
    go false is b rest = ((λ (e : is_kept r ≡ true). absurd (true≢false (sym e ∙ is))), rest b)

rights_found : (d : List Statement) (ts : List Spelled) → AllByRecursion (IsSettled d) (map (λ t. (false, t)) ts) → AllByRecursion (λ r. is_kept r ≡ true → is_one_of (texts_l0 d) r.1.content ≡ true) (map (λ t. (false, t)) ts) → AllByRecursion (IsFound d) (contents ts)
rights_found d [] a b = tt
rights_found d (t ∷ ts) a b = (
  ⊎_elim (λ (q : is_quote_or_bracket t ≡ true). inr (inr (b.0 q)))
      (λ (o : is_one_of (all_left_names d) t.content ≡ true).
      ⊎_elim (λ (x : is_one_of (left_names true d) t.content ≡ true). inr (inr (lexical_placed d t.content x))) (λ (y : is_one_of (left_names false d) t.content ≡ true). inr (inl y))
      (or_cases (is_one_of (left_names true d) t.content) (is_one_of (left_names false d) t.content) (sym (any_left (lefts d) t.content) ∙ o))) a.0,
  rights_found d ts a.1 b.1,
)

statement_found : (d : List Statement) (s : Statement) → AllIn (flat_map start_names d) (start_names s) → LeftIn false (left_names false d) s → AllByRecursion (IsSettled d) (right_of s) → AllIn (texts_l0 d) (contents (lexical_tokens s)) → AllByRecursion (IsFound d) (structural_names s)
statement_found d (Start at name) a h r x = (inl a.0, tt)
statement_found d (Default at adverbs) a h r x = tt
statement_found d (LexemeDefault at adverbs) a h r x = tt
statement_found d (Lexeme at name adverbs) a h r x = tt
statement_found d (Discard at item adverbs) a h r x = tt
statement_found d (Empty left true adverbs) a h r x = tt
statement_found d (Empty left false adverbs) a h r x = (inr (inl (h left refl)), tt)
statement_found d (Quantified left true item plus adverbs) a h r x = tt
statement_found d (Quantified left false item plus adverbs) a h r x =
    (inr (inl (h left refl)), rights_found d (item ∷ separator_of adverbs) r (kept_known (texts_l0 d) (map (λ t. (false, t)) (item ∷ separator_of adverbs)) x))
statement_found d (Rules left true groups) a h r x = tt
statement_found d (Rules left false groups) a h r x =
    (inr (inl (h left refl)), rights_found d (flat_map parts_of (alternatives_of groups)) r (kept_known (texts_l0 d) (map (λ t. (false, t)) (flat_map parts_of (alternatives_of groups))) x))

statements_found : (d ss : List Statement) → AllByRecursion (λ s. AllIn (flat_map start_names d) (start_names s)) ss → AllByRecursion (LeftIn false (left_names false d)) ss → AllByRecursion (λ s. AllByRecursion (IsSettled d) (right_of s)) ss →
    AllByRecursion (λ s. AllIn (texts_l0 d) (contents (lexical_tokens s))) ss → AllByRecursion (λ s. AllByRecursion (IsFound d) (structural_names s)) ss
statements_found d [] a b c e = tt
statements_found d (s ∷ ss) a b c e = (statement_found d s a.0 b.0 c.0 e.0, statements_found d ss a.1 b.1 c.1 e.1)

one_found : (d : List Statement) (xs : List (List ℕ)) (t : List ℕ) → AllByRecursion (IsFound d) xs → is_one_of xs t ≡ true → IsFound d t
one_found d xs t a e = all_get (IsFound d) xs (place_in xs t) t a (text_at xs t e)

symbol_found : (d : List Statement) (t : List ℕ) → AllByRecursion (λ s. AllByRecursion (IsSettled d) (right_of s)) d → is_one_of (symbols_g1 d) t ≡ true → IsFound d t
symbol_found d t settled e =
    one_found d (flat_map structural_names d) t
    (all_flat (IsFound d) structural_names d
    (statements_found d d (all_pieces (λ u. is_one_of (flat_map start_names d) u ≡ true) start_names d (all_self (flat_map start_names d))) (lefts_known false (left_names false d) d (all_self (left_names false d))) settled (texts_all d)))
    (sym (among_texts (flat_map structural_names d) t) ∙ e)

-- THE START

same_long : (d : List Statement) → length (flat_map start_names d) ≡ length (flat_map start_places d)
same_long [] = refl
same_long (s ∷ ss) = go s (same_long ss)
  where
    go : (x : Statement) → length (flat_map start_names ss) ≡ length (flat_map start_places ss) → length (flat_map start_names (x ∷ ss)) ≡ length (flat_map start_places (x ∷ ss))
    go (Start at name) e = ap suc e
    go (Default at adverbs) e = e
    go (LexemeDefault at adverbs) e = e
    go (Lexeme at name adverbs) e = e
    go (Discard at item adverbs) e = e
    go (Empty left lexical adverbs) e = e
    go (Quantified left lexical item plus adverbs) e = e
    go (Rules left lexical groups) e = e

only_start : (names : List (List ℕ)) (places : List ℕ) (t : List ℕ) → length names ≡ length places → drop 1 places ≡ [] → is_one_of names t ≡ true → names ≡ t ∷ []
only_start [] places t e f g = absurd (true≢false (sym g))
only_start (n ∷ []) places t e f g = ap (λ x. x ∷ []) ((bytes_eq-Decides n t).0 (sym (or-false (bytes_eq n t)) ∙ g))
only_start (n ∷ m ∷ ns) [] t e f g = absurd (omega (arith, e))
only_start (n ∷ m ∷ ns) (p ∷ []) t e f g = absurd (omega (arith, e))
only_start (n ∷ m ∷ ns) (p ∷ q ∷ ps) t e f g = cc

start_is : (d : List Statement) (t : List ℕ) → second_starts d ≡ [] → is_one_of (flat_map start_names d) t ≡ true → start_of d ≡ t ∷ []
start_is d t e f = ap (λ ns. take 1 (ns ++ left_names false d)) (only_start (flat_map start_names d) (flat_map start_places d) t (same_long d) (map_empty (λ (at : ℕ). record { at = at; name = codes ":start" }) (drop 1 (flat_map start_places d)) e) f)

-- a rule's left side is one of the names
abbrev HasLeftIn : List (List ℕ) → List (List ℕ) → WrittenRule → Type 0
HasLeftIn names lefts' r = (left : List ℕ) × (lhs_of r ≡ place_in names left) × (is_one_of lefts' left ≡ true)

groups_lefts : (names lefts' : List (List ℕ)) (left : Spelled) (count : ℕ) (gs : List (List Alternative)) → is_one_of lefts' left.content ≡ true → AllByRecursion (HasLeftIn names lefts') (rules_of_groups names left count gs)
groups_lefts names lefts' left count [] h = tt
groups_lefts names lefts' left count (g ∷ gs) h =
    all_join (HasLeftIn names lefts') (map (plain_rule names left (length gs) count) g) (rules_of_groups names left count gs)
    (all_map (HasLeftIn names lefts') (plain_rule names left (length gs) count) g (all_always (λ a. HasLeftIn names lefts' (plain_rule names left (length gs) count a)) g (λ (a : Alternative). (left.content, refl, h)))) (groups_lefts names lefts' left count gs h)

level_lefts : (names lefts' : List (List ℕ)) (ss : List Statement) → AllByRecursion (LeftIn false lefts') ss → AllByRecursion (HasLeftIn names lefts') (flat_map (rules_of names) (filter (is_of_level false) ss))
level_lefts names lefts' [] a = tt
level_lefts names lefts' (s ∷ ss) a = go s a.0 (level_lefts names lefts' ss a.1)
  where
    go : (x : Statement) → LeftIn false lefts' x → AllByRecursion (HasLeftIn names lefts') (flat_map (rules_of names) (filter (is_of_level false) ss)) → AllByRecursion (HasLeftIn names lefts') (flat_map (rules_of names) (filter (is_of_level false) (x ∷ ss)))
    go (Start at name) h rest = rest
    go (Default at adverbs) h rest = rest
    go (LexemeDefault at adverbs) h rest = rest
    go (Lexeme at name adverbs) h rest = rest
    go (Discard at item adverbs) h rest = rest
    go (Empty left true adverbs) h rest = rest
    go (Empty left false adverbs) h rest = ((left.content, refl, h left refl), rest)
    go (Quantified left true item plus adverbs) h rest = rest
    go (Quantified left false item plus adverbs) h rest = ((left.content, refl, h left refl), rest)
    go (Rules left true groups) h rest = rest
    go (Rules left false groups) h rest = all_join (HasLeftIn names lefts') (rules_of_groups names left (length groups) groups) (flat_map (rules_of names) (filter (is_of_level false) ss)) (groups_lefts names lefts' left (length groups) groups (h left refl)) rest

not_left : (d : List Statement) (t : List ℕ) → is_one_of (lexemes d) t ≡ true → is_one_of (left_names false d) t ≡ true → ⊥
not_left d t e f = true≢false (sym (and_right (is_one_of (symbols_g1 d) t) (not (is_one_of (left_names false d) t)) (sym (among_filtered (λ u. not (is_one_of (left_names false d) u)) (symbols_g1 d) t) ∙ e)) ∙ ap not f)

lexeme_terminal : (d : List Statement) (t : List ℕ) → is_one_of (symbols_g1 d) t ≡ true → is_one_of (lexemes d) t ≡ true → IsTerminal (grammar_g1 d) (place_in (symbols_g1 d) t)
lexeme_terminal d t s e = λ i lt f.
    let names = symbols_g1 d in
    let lefts' = left_names false d in
    let h = all_at (HasLeftIn names lefts') (grammar_g1 d).rules i no_rule (level_lefts names lefts' d (lefts_known false lefts' d (all_self lefts'))) lt in
    let same : h.0 ≡ t = place_same names h.0 t (one_in names lefts' h.0 (lefts_in names d (symbols_all d)) h.2) s (sym h.1 ∙ f) in
    not_left d t e (subst (λ u. is_one_of lefts' u ≡ true) same h.2)

-- THE LAW

count_at : (n m k : ℕ) → k < m → slice_get (count_from n m) k ≡ Some (n + k)
count_at n zero k lt = absurd (omega arith)
count_at n (suc m) zero lt = let e : n ≡ n + 0 = omega arith in ap (λ x. Some x) e
count_at n (suc m) (suc k) lt = let e : n + 1 + k ≡ n + suc k = omega arith in count_at (n + 1) m k (omega (arith, lt)) ∙ ap (λ x. Some x) e

-- a symbol with a name that is no terminal's but for the start
unruled : (d : List Statement) (s : ℕ) (t : List ℕ) → Faultless d → IsDescription d → IsTerminal (grammar_l0 d) s → slice_get (named_l0 d) s ≡ Some t → IsBareStart (built_of d) s
unruled d s t f h none at = go (is_one_of (texts_l0 d) t) refl
  where
    settled : AllByRecursion (λ x. AllByRecursion (IsSettled d) (right_of x)) d
    settled = description_settled d f h

    lexeme : is_one_of (texts_l0 d) t ≡ false → is_one_of (lexemes d) t ≡ true
    lexeme is = prefix_true (is_one_of (lexemes d) t) (not (is_one_of (texts_l0 d) t)) (sym (among_filtered (λ u. not (is_one_of (texts_l0 d) u)) (lexemes d) t)
        ∙ sym (ap (λ b. b || is_one_of (filter (λ u. not (is_one_of (texts_l0 d) u)) (lexemes d)) t) is) ∙ sym (any_append (texts_l0 d) (filter (λ u. not (is_one_of (texts_l0 d) u)) (lexemes d)) t) ∙ get_in (named_l0 d) s t at)

    go : (b : Bool) → is_one_of (texts_l0 d) t ≡ b → IsBareStart (built_of d) s
    go true is =
        let place : place_in (named_l0 d) t ≡ s = place_at (named_l0 d) s t (named_new d) at in
        absurd (no_terminal s (grammar_l0 d).rules (subst (λ n. HasLeft n (grammar_l0 d).rules) place (placed_has d t (statements_are d (pieces_of (spelled h.0 h.1.tokens)) h.1.described) settled is)) none)
    go false is =
        let lexical = lexeme is in
        let symbol = symbol_of_lexeme d t lexical in
        ⊎_elim
        (λ (st : is_one_of (flat_map start_names d) t ≡ true). record {
          start = place_in (symbols_g1 d) t;
          is = ap (map (place_in (symbols_g1 d))) (start_is d t f.starts st);
          bare = lexeme_terminal d t symbol lexical;
          named = text_at (symbols_g1 d) t symbol ∙ sym (get_left (named_l0 d) (set_names (length (sets_l0 d))) s t at);
        })
        (λ (other : (is_one_of (left_names false d) t ≡ true) ⊎ (is_one_of (texts_l0 d) t ≡ true)).
        ⊎_elim (λ (left : is_one_of (left_names false d) t ≡ true). absurd (not_left d t lexical left)) (λ (text : is_one_of (texts_l0 d) t ≡ true). absurd (true≢false (sym text ∙ is))) other)
        (symbol_found d t settled symbol)

built_terminals : (d : List Statement) → Faultless d → IsDescription d → TerminalsHaveSets (built_of d)
built_terminals d f h s lt none = ⊎_elim (λ (below : s < length (named_l0 d)). inr (bare below)) (λ (above : length (named_l0 d) ≤ s). inl (set above)) (cases_lt s (length (named_l0 d)))
  where
    set : length (named_l0 d) ≤ s → HasSet (built_of d) s
    set above =
        let n = length (named_l0 d) in
        let m = length (sets_l0 d) in
        let long = names_long d in
        let k = s - n in
        let within : k < m = omega (arith, lt, long, above) in
        let same : n + k ≡ s = omega (arith, above) in
        (k, subst (λ x. k < x) (sym (numbered_long n (sets_l0 d))) within, ap (λ xs. slice_get xs k) (numbers_are n (sets_l0 d)) ∙ count_at n m k within ∙ ap (λ x. Some x) same)

    bare : s < length (named_l0 d) → IsBareStart (built_of d) s
    bare below =
        let names = named_l0 d in
        let found = get_some names s below in
        unruled d s found.0 f h none found.1

pub terminals_are_sets : (d : List Statement) (b : Built) → IsBuiltOf d b → TerminalsHaveSets b
terminals_are_sets d b h = subst TerminalsHaveSets (sym h.is) (built_terminals d (faultless d h.faultless) h.described)
