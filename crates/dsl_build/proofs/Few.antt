-- A token with a place in the lexical grammar has at most a thousand character sets.
use Rattle.std.proofs.Common.{◌≡◌, ℕ, ◌+◌, ◌≤◌, ◌==◌, Bool, true, false, cond, List, [], ◌∷◌, ◌++◌, Some, refl, sym, subst, map, length, arith, ltb-false}
use Rattle.std.specs.Prelude.{flat_map, filter, not, ◌||◌, ◌&&◌, bytes_eq, codes, option_to_list, nat_lt, IsTrue, Result, Ok, Err, chars}
use Rattle.std.specs.List.{AllByRecursion, list_all}
use Rattle.std.proofs.lemmas.Bool.{true≢false, not-false}
use Rattle.std.proofs.lemmas.List.{length-map}
use Rattle.std.proofs.lemmas.Slice.Eq.{bytes_eq-Decides}
use Rattle.finite_sets.proofs.Lists.{prefix_empty, back_empty}
use Rattle.finite_sets.proofs.Clauses.{and_right}
use Rattle.language_model.specs.declared.token.TokenKind.{TokenKind}
use Rattle.language_model.specs.declared.token.TokenKind.TheVariants.{Word, Angle, Quote, Bracket, Pseudo, Reserved, Signed, Mark}
use Rattle.language_model.specs.declared.class.ClassFault.{ClassFault}
use Rattle.language_model.specs.Tokens.{Spelled}
use Rattle.language_model.specs.Classes.{Class, class_of, class_of_char, modifier_len}
use Rattle.language_model.specs.Description.{Alternative, Adverb, Comma, Pair, Statement, Start, Default, LexemeDefault, Lexeme, Discard, Empty, Quantified, Rules, is_statement, is_name, is_kind_of_single, is_adverb, Together, Spells, pieces_of}
use Rattle.language_model.specs.Building.{AdverbPlace, InLexicalQuantified, InQuantified, is_one_of, names_at, fits_adverb, is_single, pairs_of, adverb_lists, value_of, separator_of, parts_of, alternatives_of, right_sides, long_parts, at_most, fault_at, Fault, is_quote, is_quote_or_bracket, quoted, sets_of, lexical_tokens, new_tokens, placed_tokens}
use Rattle.language_model.specs.Texts.{IsDescription, spelled}
use Rattle.dsl_build.proofs.Faultless.{Faultless}
use Rattle.dsl_build.proofs.Alls.{all_map, all_mapped, all_weaker, all_flat, all_filter, all_empty}
use Rattle.language_model.proofs.Short.{none_of}

-- a token with at most a thousand sets
abbrev pub IsFew : Spelled → Type 0
IsFew t = length (sets_of t) ≤ 1000

abbrev is_long : Spelled → Bool
is_long t = is_quote t && nat_lt 1000 (length (quoted t.content))

few_class : (c : List ℕ) (at : ℕ) (r : Result Class ClassFault) → class_of (chars c) ≡ r → IsFew (record { kind = Bracket; content = c; at = at })
few_class c at (Ok k) e = rw e (omega arith)
few_class c at (Err f) e = rw e (omega arith)

few_kind : (k : TokenKind) (c : List ℕ) (at : ℕ) → is_long (record { kind = k; content = c; at = at }) ≡ false → IsFew (record { kind = k; content = c; at = at })
few_kind Word c at e = omega arith
few_kind Angle c at e = omega arith
few_kind Bracket c at e = few_class c at (class_of (chars c)) refl
few_kind Pseudo c at e = omega arith
few_kind Reserved c at e = omega arith
few_kind Signed c at e = omega arith
few_kind Mark c at e = omega arith
few_kind Quote c at e =
    let le = ltb-false 1000 (length (quoted c)) e in
    subst (λ n. n ≤ 1000) (sym (length-map (quoted c) (λ x. class_of_char x (nat_lt 0 (modifier_len c))))) le

few_token : (t : Spelled) → is_long t ≡ false → IsFew t
few_token t e = few_kind t.kind t.content t.at e

-- names, and what stands alone, are no quoted texts
name_kind : (k : TokenKind) (c : List ℕ) (at : ℕ) → IsTrue (is_name (record { kind = k; content = c; at = at })) → is_long (record { kind = k; content = c; at = at }) ≡ false
name_kind Word c at h = refl
name_kind Angle c at h = refl
name_kind Quote c at h = absurd (true≢false (sym h))
name_kind Bracket c at h = refl
name_kind Pseudo c at h = refl
name_kind Reserved c at h = refl
name_kind Signed c at h = refl
name_kind Mark c at h = refl

single_kind : (k : TokenKind) (c : List ℕ) (at : ℕ) → IsTrue (is_kind_of_single k) → is_long (record { kind = k; content = c; at = at }) ≡ false
single_kind Word c at h = refl
single_kind Angle c at h = refl
single_kind Quote c at h = absurd (true≢false (sym h))
single_kind Bracket c at h = refl
single_kind Pseudo c at h = refl
single_kind Reserved c at h = refl
single_kind Signed c at h = refl
single_kind Mark c at h = refl

value_kind : (k : TokenKind) (c : List ℕ) (at : ℕ) → is_single (record { kind = k; content = c; at = at }) ≡ true → is_long (record { kind = k; content = c; at = at }) ≡ false
value_kind Word c at h = refl
value_kind Angle c at h = refl
value_kind Quote c at h = absurd (true≢false (sym h))
value_kind Bracket c at h = refl
value_kind Pseudo c at h = refl
value_kind Reserved c at h = refl
value_kind Signed c at h = refl
value_kind Mark c at h = refl

pub and_prefix : (a b : Bool) → IsTrue (a && b) → IsTrue a
and_prefix true b h = refl
and_prefix false b h = h

pub and_back : (a b : Bool) → IsTrue (a && b) → IsTrue b
and_back true b h = h
and_back false b h = absurd (true≢false (sym h))

-- SEPARATORS

abbrev pub bad_pair : AdverbPlace → Spelled × Spelled → List Fault
bad_pair place p = at_most (not (is_one_of (names_at place) p.0.content && fits_adverb p.0.content p.1)) (fault_at p.0)

separator_few : (place : AdverbPlace) (adverbs : List Adverb) → flat_map (bad_pair place) (pairs_of adverbs) ≡ [] → AllByRecursion IsFew (separator_of adverbs)
separator_few place [] e = tt
separator_few place (Comma at ∷ adverbs) e = separator_few place adverbs e
separator_few place (Pair name value ∷ adverbs) e =
    go (bytes_eq name.content (codes "separator")) refl
    (and_right (is_one_of (names_at place) name.content) (fits_adverb name.content value) (not-false (is_one_of (names_at place) name.content && fits_adverb name.content value)
    (none_of (not (is_one_of (names_at place) name.content && fits_adverb name.content value)) (fault_at name) (prefix_empty (bad_pair place (name, value)) (flat_map (bad_pair place) (pairs_of adverbs)) e))))
    (separator_few place adverbs (back_empty (bad_pair place (name, value)) (flat_map (bad_pair place) (pairs_of adverbs)) e))
  where
    go : (b : Bool) → bytes_eq name.content (codes "separator") ≡ b → fits_adverb name.content value ≡ true → AllByRecursion IsFew (separator_of adverbs) → AllByRecursion IsFew (option_to_list (cond b (Some value) (value_of (codes "separator") adverbs)))
    go true is fits rest =
        let single : is_single value ≡ true = subst (λ n. fits_adverb n value ≡ true) ((bytes_eq-Decides name.content (codes "separator")).0 is) fits in
        (few_token value (value_kind value.kind value.content value.at single), tt)
    go false is fits rest = rest

-- STATEMENTS

or_back : (a b : Bool) → (a || b) ≡ false → b ≡ false
or_back true b e = absurd (true≢false e)
or_back false b e = e

parts_few : (before : ℕ) (ts : List Spelled) → long_parts before ts ≡ [] → AllByRecursion IsFew ts
parts_few before [] e = tt
parts_few before (t ∷ ts) e = (
  few_token t (or_back (before == 1000) (is_long t) (none_of (before == 1000 || is_long t) (fault_at t) (prefix_empty (at_most (before == 1000 || is_long t) (fault_at t)) (long_parts (before + 1) ts) e))),
  parts_few (before + 1) ts (back_empty (at_most (before == 1000 || is_long t) (fault_at t)) (long_parts (before + 1) ts) e),
)

sides_few : (alternatives : List Alternative) → flat_map (long_parts 0) (map parts_of alternatives) ≡ [] → AllByRecursion IsFew (flat_map parts_of alternatives)
sides_few alternatives e =
    all_flat IsFew parts_of alternatives
    (all_weaker (λ a. long_parts 0 (parts_of a) ≡ []) (λ a. AllByRecursion IsFew (parts_of a)) alternatives (λ (a : Alternative). parts_few 0 (parts_of a))
    (all_mapped (λ side. long_parts 0 side ≡ []) parts_of alternatives (all_empty (long_parts 0) (map parts_of alternatives) e)))

-- right sides of which some are kept
kept_few : (lexical : Bool) (ts : List Spelled) → AllByRecursion IsFew ts → AllByRecursion IsFew (map (λ (r : Bool × Spelled). r.1) (filter (λ r. r.0 || is_quote_or_bracket r.1) (map (λ t. (lexical, t)) ts)))
kept_few lexical ts few =
    all_map IsFew (λ (r : Bool × Spelled). r.1) (filter (λ r. r.0 || is_quote_or_bracket r.1) (map (λ t. (lexical, t)) ts))
    (all_filter (λ (r : Bool × Spelled). IsFew r.1) (λ r. r.0 || is_quote_or_bracket r.1) (map (λ t. (lexical, t)) ts)
    (all_map (λ (r : Bool × Spelled). (r.0 || is_quote_or_bracket r.1) ≡ true → IsFew r.1) (λ t. (lexical, t)) ts
    (all_weaker IsFew (λ t. (lexical || is_quote_or_bracket t) ≡ true → IsFew t) ts (λ (t : Spelled) (f : IsFew t) (e : (lexical || is_quote_or_bracket t) ≡ true). f) few)))

abbrev pub bad_of : Statement → List Fault
bad_of s = flat_map (λ l. flat_map (bad_pair l.0) (pairs_of l.1)) (adverb_lists s)

abbrev long_of : Statement → List Fault
long_of s = flat_map (long_parts 0) (right_sides s)

name_few : (t : Spelled) → IsTrue (is_name t) → IsFew t
name_few t h = few_token t (name_kind t.kind t.content t.at h)

single_few : (t : Spelled) → IsTrue (is_kind_of_single t.kind) → IsFew t
single_few t h = few_token t (single_kind t.kind t.content t.at h)

quantified_few : (lexical : Bool) (item : Spelled) (adverbs : List Adverb) → IsTrue (is_kind_of_single item.kind) → flat_map (bad_pair (cond lexical InLexicalQuantified InQuantified)) (pairs_of adverbs) ++ [] ≡ [] → AllByRecursion IsFew (item ∷ separator_of adverbs)
quantified_few lexical item adverbs h e =
    (single_few item h, separator_few (cond lexical InLexicalQuantified InQuantified) adverbs (prefix_empty (flat_map (bad_pair (cond lexical InLexicalQuantified InQuantified)) (pairs_of adverbs)) [] e))

few_statement : (s : Statement) → IsTrue (is_statement s) → bad_of s ≡ [] → long_of s ≡ [] → AllByRecursion IsFew (lexical_tokens s)
few_statement (Start at name) h bad long = tt
few_statement (Default at adverbs) h bad long = tt
few_statement (LexemeDefault at adverbs) h bad long = tt
few_statement (Lexeme at name adverbs) h bad long = tt
few_statement (Discard at item adverbs) h bad long = (single_few item (and_prefix (is_kind_of_single item.kind) (list_all is_adverb adverbs) h), tt)
few_statement (Empty left true adverbs) h bad long = (name_few left (and_prefix (is_name left) (list_all is_adverb adverbs) h), tt)
few_statement (Empty left false adverbs) h bad long = tt
few_statement (Quantified left true item plus adverbs) h bad long =
    let prefix = and_prefix (is_name left && is_kind_of_single item.kind) (list_all is_adverb adverbs) h in
    (name_few left (and_prefix (is_name left) (is_kind_of_single item.kind) prefix), kept_few true (item ∷ separator_of adverbs) (quantified_few true item adverbs (and_back (is_name left) (is_kind_of_single item.kind) prefix) bad))
few_statement (Quantified left false item plus adverbs) h bad long =
    let prefix = and_prefix (is_name left && is_kind_of_single item.kind) (list_all is_adverb adverbs) h in
    kept_few false (item ∷ separator_of adverbs) (quantified_few false item adverbs (and_back (is_name left) (is_kind_of_single item.kind) prefix) bad)
few_statement (Rules left true groups) h bad long =
    (name_few left (and_prefix (is_name left) _ (and_prefix (is_name left && _) _ h)), kept_few true (flat_map parts_of (alternatives_of groups)) (sides_few (alternatives_of groups) long))
few_statement (Rules left false groups) h bad long = kept_few false (flat_map parts_of (alternatives_of groups)) (sides_few (alternatives_of groups) long)

-- THE DESCRIPTION

pub statements_are : (ss : List Statement) (ps : List (List Spelled)) → Together Spells ss ps → AllByRecursion (λ s. IsTrue (is_statement s)) ss
statements_are [] ps h = tt
statements_are (s ∷ ss) [] h = absurd h
statements_are (s ∷ ss) (p ∷ ps) h = (h.0.0, statements_are ss ps h.1)

few_statements : (ss : List Statement) → AllByRecursion (λ s. IsTrue (is_statement s)) ss → AllByRecursion (λ s. bad_of s ≡ []) ss → AllByRecursion (λ s. long_of s ≡ []) ss → AllByRecursion (λ s. AllByRecursion IsFew (lexical_tokens s)) ss
few_statements [] a b c = tt
few_statements (s ∷ ss) a b c = (few_statement s a.0 b.0 c.0, few_statements ss a.1 b.1 c.1)

pub all_tokens : (P : Spelled → Type 0) (seen : List (List ℕ)) (ts : List Spelled) → AllByRecursion P ts → AllByRecursion P (new_tokens seen ts)
all_tokens P seen [] a = tt
all_tokens P seen (t ∷ ts) a = go (is_one_of seen t.content) (all_tokens P seen ts a.1) (all_tokens P (t.content ∷ seen) ts a.1)
  where
    go : (b : Bool) → AllByRecursion P (new_tokens seen ts) → AllByRecursion P (new_tokens (t.content ∷ seen) ts) → AllByRecursion P (cond b (new_tokens seen ts) (t ∷ new_tokens (t.content ∷ seen) ts))
    go true here behind = here
    go false here behind = (a.0, behind)

pub few_placed : (d : List Statement) → Faultless d → IsDescription d → AllByRecursion IsFew (placed_tokens d)
few_placed d f h =
    all_tokens IsFew [] (flat_map lexical_tokens d)
    (all_flat IsFew lexical_tokens d
    (few_statements d (statements_are d (pieces_of (spelled h.0 h.1.tokens)) h.1.described) (all_empty bad_of d f.adverbs) (all_empty long_of d f.lengths)))
