-- What the tokens of a description spell.
use Rattle.std.proofs.Common.{◌≡◌, ℕ, zero, suc, ◌-◌, Bool, true, false, cond, List, [], ◌∷◌, ◌++◌, Some, refl, sym, subst, map, take, drop}
use Rattle.std.specs.Prelude.{flat_map, ◌&&◌, bytes_eq, codes, option_to_list, encode_utf8_all}
use Rattle.std.specs.List.{AllByRecursion, slice_range}
use Rattle.std.proofs.Math.Utf8.{scalars, scalar}
use Rattle.std.proofs.lemmas.Str.{scalars-chars}
use Rattle.std.specs.Str.{chars}
use Rattle.std.proofs.lemmas.Bool.{and_from}
use Rattle.finite_sets.proofs.Clauses.{and_right}
use Rattle.language_model.specs.declared.token.Token.{Token}
use Rattle.language_model.specs.declared.token.TokenKind.{TokenKind}
use Rattle.language_model.specs.Tokens.{Spelled, LeadTo, IsSpelling, content_of, spelled_at}
use Rattle.language_model.specs.Description.{Element, Bare, Hidden, Adverb, Comma, Pair, Alternative, Statement, Start, Default, LexemeDefault, Lexeme, Discard, Empty, Quantified, Rules, Printed, kept, mark, joined, tokens_of_element, tokens_of_adverbs, tokens_of_alternative, tokens_of_groups, tokens_of, is_mark, begins_piece, onto_first, cut, is_some, pieces_of, Together, PrintedAs, Spells}
use Rattle.language_model.specs.Texts.{IsDescription, spelled}
use Rattle.language_model.specs.Building.{AdverbPlace, InOther, InAlternative, adverb_lists, pairs_of, value_of, separator_of, parts_of, parts_of_element, alternatives_of, right_of, left_of}
use Rattle.dsl_build.proofs.Alls.{all_prefix, all_back, all_join, all_map, all_mapped, all_weaker, all_flat, all_filter}

-- the content is that of a token of the kind, in a text of Unicode characters
abbrev pub IsSpelt : TokenKind → List ℕ → Type 0
IsSpelt kind content = (text : List ℕ) × (scalars text ≡ true) × IsSpelling kind text × (content ≡ encode_utf8_all (content_of kind text))

abbrev pub Spelt : Spelled → Type 0
Spelt t = IsSpelt t.kind t.content

both_left : (a b : Bool) → (a && b) ≡ true → a ≡ true
both_left true b e = refl
both_left false b e = e

pub scalars_drop : (n : ℕ) (cs : List ℕ) → scalars cs ≡ true → scalars (drop n cs) ≡ true
scalars_drop zero cs s = s
scalars_drop (suc n) [] s = s
scalars_drop (suc n) (c ∷ cs) s = scalars_drop n cs (and_right (scalar c) (scalars cs) s)

pub scalars_take : (n : ℕ) (cs : List ℕ) → scalars cs ≡ true → scalars (take n cs) ≡ true
scalars_take zero cs s = refl
scalars_take (suc n) [] s = refl
scalars_take (suc n) (c ∷ cs) s = and_from (scalar c) (scalars (take n cs)) (both_left (scalar c) (scalars cs) s) (scalars_take n cs (and_right (scalar c) (scalars cs) s))

tokens_spelt : (text : List ℕ) (at place : ℕ) (ts : List Token) → scalars text ≡ true → LeadTo text at ts place → AllByRecursion Spelt (map (spelled_at text) ts)
tokens_spelt text at place [] s h = tt
tokens_spelt text at place (t ∷ ts) s h =
    ((slice_range text t.from t.to, scalars_take (t.to - t.from) (drop t.from text) (scalars_drop t.from text s), h.1.spelled, refl), tokens_spelt text t.to place ts s h.2)

-- PIECES

onto_all : (P : Spelled → Type 0) (t : Spelled) (ps : List (List Spelled)) → P t → AllByRecursion (AllByRecursion P) ps → AllByRecursion (AllByRecursion P) (onto_first t ps)
onto_all P t [] h a = ((h, tt), tt)
onto_all P t (p ∷ ps) h a = ((h, a.0), a.1)

cut_all : (P : Spelled → Type 0) (ts : List Spelled) → AllByRecursion P ts → AllByRecursion (AllByRecursion P) (cut ts)
unfolding cut
cut_all P [] a = (tt, tt)
cut_all P (t ∷ ts) a = go (is_mark (codes ";") t) (begins_piece (t ∷ ts)) (cut_all P ts a.1)
  where
    go : (m b : Bool) → AllByRecursion (AllByRecursion P) (cut ts) → AllByRecursion (AllByRecursion P) (cond m ([] ∷ cut ts) (cond b ([] ∷ onto_first t (cut ts)) (onto_first t (cut ts))))
    go true b rest = (tt, rest)
    go false true rest = (tt, onto_all P t (cut ts) a.0 rest)
    go false false rest = onto_all P t (cut ts) a.0 rest

pieces_all : (P : Spelled → Type 0) (ts : List Spelled) → AllByRecursion P ts → AllByRecursion (AllByRecursion P) (pieces_of ts)
pieces_all P ts a =
    all_filter (AllByRecursion P) is_some (cut ts)
    (all_weaker (AllByRecursion P) (λ (p : List Spelled). is_some p ≡ true → AllByRecursion P p) (cut ts) (λ (p : List Spelled) (h : AllByRecursion P p) (e : is_some p ≡ true). h) (cut_all P ts a))

-- PRINTED TOKENS

abbrev pub PrintedSpelt : Printed → Type 0
PrintedSpelt p = IsSpelt p.kind p.content

printed_spelt : (ps : List Printed) (ts : List Spelled) → Together PrintedAs ps ts → AllByRecursion Spelt ts → AllByRecursion PrintedSpelt ps
printed_spelt [] ts h a = tt
printed_spelt (p ∷ ps) [] h a = absurd h
printed_spelt (p ∷ ps) (t ∷ ts) h a =
    (subst (λ k. IsSpelt k p.content) (sym h.0.0) (subst (λ c. IsSpelt t.kind c) (sym h.0.1) a.0), printed_spelt ps ts h.1 a.1)

statements_spelt : (ss : List Statement) (ps : List (List Spelled)) → Together Spells ss ps → AllByRecursion (AllByRecursion Spelt) ps → AllByRecursion (λ s. AllByRecursion PrintedSpelt (tokens_of s)) ss
statements_spelt [] ps h a = tt
statements_spelt (s ∷ ss) [] h a = absurd h
statements_spelt (s ∷ ss) (p ∷ ps) h a = (printed_spelt (tokens_of s) p h.0.1 a.0, statements_spelt ss ps h.1 a.1)

pub description_spelt : (d : List Statement) → IsDescription d → AllByRecursion (λ s. AllByRecursion PrintedSpelt (tokens_of s)) d
description_spelt d h =
    let bytes = h.0 in
    let tokens = h.1.tokens in
    statements_spelt d (pieces_of (spelled bytes tokens)) h.1.described
    (pieces_all Spelt (spelled bytes tokens) (tokens_spelt (chars bytes) 0 _ tokens (scalars-chars bytes h.1.has.text.utf8) h.1.has.are))

-- WHAT STATEMENTS KEEP

elements_spelt : (es : List Element) → AllByRecursion PrintedSpelt (flat_map tokens_of_element es) → AllByRecursion Spelt (flat_map parts_of_element es)
elements_spelt [] a = tt
elements_spelt (Bare t ∷ es) a = (a.0, elements_spelt es a.1)
elements_spelt (Hidden ts ∷ es) a =
    let own = map kept ts ++ mark (codes ")") ∷ [] in
    let rest = flat_map tokens_of_element es in
    all_join Spelt ts (flat_map parts_of_element es)
    (all_mapped PrintedSpelt kept ts (all_prefix PrintedSpelt (map kept ts) (mark (codes ")") ∷ []) (all_prefix PrintedSpelt own rest a.1)))
    (elements_spelt es (all_back PrintedSpelt own rest a.1))

adverbs_spelt : (adverbs : List Adverb) → AllByRecursion PrintedSpelt (tokens_of_adverbs adverbs) → AllByRecursion (λ p. Spelt p.1) (pairs_of adverbs)
adverbs_spelt [] a = tt
adverbs_spelt (Comma at ∷ adverbs) a = adverbs_spelt adverbs a.1
adverbs_spelt (Pair name value ∷ adverbs) a = (a.1.1.0, adverbs_spelt adverbs a.1.1.1)

separator_spelt : (adverbs : List Adverb) → AllByRecursion (λ p. Spelt p.1) (pairs_of adverbs) → AllByRecursion Spelt (separator_of adverbs)
separator_spelt [] a = tt
separator_spelt (Comma at ∷ adverbs) a = separator_spelt adverbs a
separator_spelt (Pair name value ∷ adverbs) a = go (bytes_eq name.content (codes "separator")) (separator_spelt adverbs a.1)
  where
    go : (b : Bool) → AllByRecursion Spelt (separator_of adverbs) → AllByRecursion Spelt (option_to_list (cond b (Some value) (value_of (codes "separator") adverbs)))
    go true rest = (a.0, tt)
    go false rest = rest

joined_all : (P : Printed → Type 0) (m : Printed) (xs : List (List Printed)) → AllByRecursion P (joined m xs) → AllByRecursion (AllByRecursion P) xs
joined_all P m [] a = tt
joined_all P m (ps ∷ []) a = (a, tt)
joined_all P m (ps ∷ qs ∷ rest) a =
    (all_prefix P ps (m ∷ joined m (qs ∷ rest)) a, joined_all P m (qs ∷ rest) (all_back P ps (m ∷ joined m (qs ∷ rest)) a).1)

abbrev AlternativeSpelt : Alternative → Type 0
AlternativeSpelt a = AllByRecursion PrintedSpelt (tokens_of_alternative a)

abbrev group_tokens : List Alternative → List Printed
group_tokens g = joined (mark (codes "|")) (map tokens_of_alternative g)

group_spelt : (g : List Alternative) → AllByRecursion PrintedSpelt (group_tokens g) → AllByRecursion AlternativeSpelt g
group_spelt g a = all_mapped (AllByRecursion PrintedSpelt) tokens_of_alternative g (joined_all PrintedSpelt (mark (codes "|")) (map tokens_of_alternative g) a)

groups_spelt : (gs : List (List Alternative)) → AllByRecursion PrintedSpelt (tokens_of_groups gs) → AllByRecursion AlternativeSpelt (alternatives_of gs)
groups_spelt gs a =
    all_flat AlternativeSpelt (λ g. g) gs
    (all_weaker (λ g. AllByRecursion PrintedSpelt (group_tokens g)) (AllByRecursion AlternativeSpelt) gs group_spelt
    (all_mapped (AllByRecursion PrintedSpelt) group_tokens gs (joined_all PrintedSpelt (mark (codes "||")) (map group_tokens gs) a)))

parts_spelt : (gs : List (List Alternative)) → AllByRecursion PrintedSpelt (tokens_of_groups gs) → AllByRecursion Spelt (flat_map parts_of (alternatives_of gs))
parts_spelt gs a =
    all_flat Spelt parts_of (alternatives_of gs)
    (all_weaker AlternativeSpelt (λ x. AllByRecursion Spelt (parts_of x)) (alternatives_of gs)
    (λ (x : Alternative) (h : AlternativeSpelt x). elements_spelt x.elements (all_prefix PrintedSpelt (flat_map tokens_of_element x.elements) (tokens_of_adverbs x.adverbs) h)) (groups_spelt gs a))

pub right_spelt : (s : Statement) → AllByRecursion PrintedSpelt (tokens_of s) → AllByRecursion (λ r. Spelt r.1) (right_of s)
unfolding tokens_of
right_spelt (Start at name) a = tt
right_spelt (Default at adverbs) a = tt
right_spelt (LexemeDefault at adverbs) a = tt
right_spelt (Lexeme at name adverbs) a = tt
right_spelt (Discard at item adverbs) a = (a.1.1.0, tt)
right_spelt (Empty left lexical adverbs) a = tt
right_spelt (Quantified left lexical item plus adverbs) a =
    all_map (λ (r : Bool × Spelled). Spelt r.1) (λ t. (lexical, t)) (item ∷ separator_of adverbs) (a.1.1.0, separator_spelt adverbs (adverbs_spelt adverbs a.1.1.1.1))
right_spelt (Rules left lexical groups) a =
    all_map (λ (r : Bool × Spelled). Spelt r.1) (λ t. (lexical, t)) (flat_map parts_of (alternatives_of groups)) (parts_spelt groups a.1.1)

pub left_spelt : (s : Statement) → AllByRecursion PrintedSpelt (tokens_of s) → AllByRecursion (λ l. Spelt l.1) (option_to_list (left_of s))
unfolding tokens_of
left_spelt (Start at name) a = tt
left_spelt (Default at adverbs) a = tt
left_spelt (LexemeDefault at adverbs) a = tt
left_spelt (Lexeme at name adverbs) a = tt
left_spelt (Discard at item adverbs) a = tt
left_spelt (Empty left lexical adverbs) a = (a.0, tt)
left_spelt (Quantified left lexical item plus adverbs) a = (a.0, tt)
left_spelt (Rules left lexical groups) a = (a.0, tt)

abbrev pub PairsSpelt : AdverbPlace × List Adverb → Type 0
PairsSpelt l = AllByRecursion (λ p. Spelt p.1) (pairs_of l.1)

group_values : (place : AdverbPlace) (gs : List (List Alternative)) → AllByRecursion PrintedSpelt (tokens_of_groups gs) → AllByRecursion PairsSpelt (flat_map (λ g. map (λ a. (place, a.adverbs)) g) gs)
group_values place gs h =
    all_flat PairsSpelt (λ g. map (λ a. (place, a.adverbs)) g) gs
    (all_weaker (λ g. AllByRecursion PrintedSpelt (group_tokens g)) (λ g. AllByRecursion PairsSpelt (map (λ a. (place, a.adverbs)) g)) gs
    (λ (g : List Alternative) (k : AllByRecursion PrintedSpelt (group_tokens g)).
    all_map PairsSpelt (λ (a : Alternative). (place, a.adverbs)) g
    (all_weaker AlternativeSpelt (λ a. AllByRecursion (λ p. Spelt p.1) (pairs_of a.adverbs)) g
    (λ (a : Alternative) (m : AlternativeSpelt a). adverbs_spelt a.adverbs (all_back PrintedSpelt (flat_map tokens_of_element a.elements) (tokens_of_adverbs a.adverbs) m)) (group_spelt g k)))
    (all_mapped (AllByRecursion PrintedSpelt) group_tokens gs (joined_all PrintedSpelt (mark (codes "||")) (map group_tokens gs) h)))

-- the values of the adverbs of a statement
pub values_spelt : (s : Statement) → AllByRecursion PrintedSpelt (tokens_of s) → AllByRecursion PairsSpelt (adverb_lists s)
unfolding tokens_of
values_spelt (Start at name) a = tt
values_spelt (Default at adverbs) a = (adverbs_spelt adverbs a.1.1, tt)
values_spelt (LexemeDefault at adverbs) a = (adverbs_spelt adverbs a.1.1.1, tt)
values_spelt (Lexeme at name adverbs) a = (adverbs_spelt adverbs a.1.1.1, tt)
values_spelt (Discard at item adverbs) a = (adverbs_spelt adverbs a.1.1.1, tt)
values_spelt (Empty left lexical adverbs) a = (adverbs_spelt adverbs a.1.1, tt)
values_spelt (Quantified left lexical item plus adverbs) a = (adverbs_spelt adverbs a.1.1.1.1, tt)
values_spelt (Rules left lexical groups) a = group_values (cond lexical InOther InAlternative) groups a.1.1

pub rights_spelt : (d : List Statement) → IsDescription d → AllByRecursion (λ s. AllByRecursion (λ r. Spelt r.1) (right_of s)) d
rights_spelt d h = all_weaker (λ s. AllByRecursion PrintedSpelt (tokens_of s)) (λ s. AllByRecursion (λ r. Spelt r.1) (right_of s)) d right_spelt (description_spelt d h)
