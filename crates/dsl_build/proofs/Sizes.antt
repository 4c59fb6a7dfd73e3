-- How much there is in the description of a text.
use Rattle.std.proofs.Common.{◌≡◌, ℕ, suc, ◌+◌, ◌-◌, ◌*◌, ◌≤◌, Bool, true, false, cond, List, [], ◌∷◌, ◌++◌, Some, refl, ap, ◌∙◌, map, length, drop, arith, length-append}
use Rattle.std.proofs.lemmas.Grind.{flat_map-append}
use Rattle.grammar_model.specs.Grammar.{Plain}
use Rattle.grammar_model.specs.declared.Assoc.TheVariants.{Left}
use Rattle.std.specs.Prelude.{not, pos, flat_map, filter, ◌||◌, bytes_eq, codes, option_to_list, chars, encode_utf8_all}
use Rattle.std.specs.List.{slice_range}
use Rattle.std.proofs.Math.Utf8.{scalars}
use Rattle.std.proofs.lemmas.Str.{scalars-chars, length-le-encodes, encodes-chars}
use Rattle.std.proofs.lemmas.List.{length-map}
use Rattle.std.proofs.lemmas.List.{length-take-le, length-drop}
use Rattle.language_model.specs.declared.token.TokenKind.{TokenKind}
use Rattle.language_model.specs.declared.token.Token.{Token}
use Rattle.language_model.specs.Tokens.{Spelled, LeadTo, IsLongest, spelled_at, content_of}
use Rattle.language_model.specs.Description.{Element, Bare, Hidden, Adverb, Comma, Pair, Alternative, Statement, Start, Default, LexemeDefault, Lexeme, Discard, Empty, Quantified, Rules, Printed, kept, mark, joined, tokens_of_element, tokens_of_adverbs, tokens_of_alternative, tokens_of_groups, tokens_of, is_mark, begins_piece, onto_first, cut, is_some, pieces_of, Together, PrintedAs, Spells}
use Rattle.language_model.specs.Texts.{IsDescription, spelled}
use Rattle.language_model.specs.Building.{value_of, separator_of, parts_of, parts_of_element, alternatives_of, sets_of, structural_names, lexical_tokens, is_quote_or_bracket, rules_of, rules_of_groups, plain_rule, discards_of, is_one_of, new_texts, new_tokens, symbols_g1, is_of_level, left_names, lexemes, placed_tokens, sets_l0, texts_l0, named_l0, discarded, start_texts, count_from, added_rules}
use Rattle.dsl_build.proofs.Spellings.{scalars_drop, scalars_take}
use Rattle.dsl_build.proofs.Contents.{sets_few}

-- a token counts one, and one for each of its sets
abbrev pub weight : TokenKind → List ℕ → ℕ
weight kind content = suc (length (sets_of (record { kind = kind; content = content; at = 0 })))

abbrev pub weights : List Spelled → ℕ
weights [] = 0
weights (t ∷ ts) = weight t.kind t.content + weights ts

abbrev pub weights_printed : List Printed → ℕ
weights_printed [] = 0
weights_printed (p ∷ ps) = weight p.kind p.content + weights_printed ps

abbrev pub weights_lists : List (List Spelled) → ℕ
weights_lists [] = 0
weights_lists (p ∷ ps) = weights p + weights_lists ps

abbrev pub weights_statements : List Statement → ℕ
weights_statements [] = 0
weights_statements (s ∷ ss) = weights_printed (tokens_of s) + weights_statements ss

-- TOKENS

slice_long : (text : List ℕ) (from to : ℕ) → from ≤ to → to ≤ length text → length (slice_range text from to) ≡ to - from
slice_long text from to le within = length-take-le (to - from) (drop from text) (let long = length-drop from text in omega (arith, long, le, within))

token_weight : (text : List ℕ) (t : Token) → scalars text ≡ true → IsLongest text t → weight t.kind (encode_utf8_all (content_of t.kind (slice_range text t.from t.to))) ≤ 2 * (t.to - t.from)
token_weight text t s h =
    let slice = slice_range text t.from t.to in
    let long : length slice ≡ t.to - t.from = slice_long text t.from t.to (omega (arith, h.some)) h.within in
    let few = sets_few t.kind slice 0 (scalars_take (t.to - t.from) (drop t.from text) (scalars_drop t.from text s)) h.spelled (omega (arith, long, h.some)) in
    omega (arith, few, long, h.some)

lead_weight : (text : List ℕ) (at : ℕ) (ts : List Token) (place : ℕ) → scalars text ≡ true → LeadTo text at ts place → 2 * at + weights (map (spelled_at text) ts) ≤ 2 * place
lead_weight text at [] place s h = omega (arith, h)
lead_weight text at (t ∷ ts) place s h =
    let here = token_weight text t s h.1 in
    let rest = lead_weight text t.to ts place s h.2 in
    let from = h.0 in
    let some = h.1.some in
    omega (arith, here, rest, from, some)

-- PIECES

onto_weight : (t : Spelled) (ps : List (List Spelled)) → weights_lists (onto_first t ps) ≡ weight t.kind t.content + weights_lists ps
onto_weight t [] = omega arith
onto_weight t (p ∷ ps) = omega arith

cut_weight : (ts : List Spelled) → weights_lists (cut ts) ≤ weights ts
unfolding cut
cut_weight [] = omega arith
cut_weight (t ∷ ts) = go (is_mark (codes ";") t) (begins_piece (t ∷ ts)) (cut_weight ts) (onto_weight t (cut ts))
  where
    go : (m b : Bool) → weights_lists (cut ts) ≤ weights ts → weights_lists (onto_first t (cut ts)) ≡ weight t.kind t.content + weights_lists (cut ts) →
        weights_lists (cond m ([] ∷ cut ts) (cond b ([] ∷ onto_first t (cut ts)) (onto_first t (cut ts)))) ≤ weight t.kind t.content + weights ts
    go true b rest onto = omega (arith, rest)
    go false true rest onto = omega (arith, rest, onto)
    go false false rest onto = omega (arith, rest, onto)

filter_weight : (ps : List (List Spelled)) → weights_lists (filter is_some ps) ≤ weights_lists ps
filter_weight [] = omega arith
filter_weight (p ∷ ps) = go (is_some p) (filter_weight ps)
  where
    go : (b : Bool) → weights_lists (filter is_some ps) ≤ weights_lists ps → weights_lists (cond b (p ∷ filter is_some ps) (filter is_some ps)) ≤ weights p + weights_lists ps
    go true rest = omega (arith, rest)
    go false rest = omega (arith, rest)

-- STATEMENTS

printed_weight : (ps : List Printed) (ts : List Spelled) → Together PrintedAs ps ts → weights_printed ps ≡ weights ts
printed_weight [] [] h = refl
printed_weight [] (t ∷ ts) h = absurd h
printed_weight (p ∷ ps) [] h = absurd h
printed_weight (p ∷ ps) (t ∷ ts) h =
    let here : weight p.kind p.content ≡ weight t.kind t.content = ap (λ k. weight k p.content) h.0.0 ∙ ap (weight t.kind) h.0.1 in
    let rest = printed_weight ps ts h.1 in
    omega (arith, here, rest)

together_weight : (ss : List Statement) (ps : List (List Spelled)) → Together Spells ss ps → weights_statements ss ≤ weights_lists ps
together_weight [] ps h = omega arith
together_weight (s ∷ ss) [] h = absurd h
together_weight (s ∷ ss) (p ∷ ps) h =
    let here = printed_weight (tokens_of s) p h.0.1 in
    let rest = together_weight ss ps h.1 in
    omega (arith, here, rest)

-- a text has at most 1,048,576 characters
pub description_weight : (d : List Statement) → IsDescription d → weights_statements d ≤ 2097152
description_weight d h =
    let bytes = h.0 in
    let text = chars bytes in
    let tokens = h.1.tokens in
    let utf8 = h.1.has.text.utf8 in
    let a = together_weight d (pieces_of (spelled bytes tokens)) h.1.described in
    let b = filter_weight (cut (spelled bytes tokens)) in
    let c = cut_weight (spelled bytes tokens) in
    let e = lead_weight text 0 tokens (length text) (scalars-chars bytes utf8) h.1.has.are in
    let f : length text ≤ length (encode_utf8_all text) = length-le-encodes text in
    let g : length (encode_utf8_all text) ≡ length bytes = ap length (encodes-chars bytes utf8) in
    let w = h.1.has.text.within in
    omega (arith, a, b, c, e, f, g, w)

weights_append : (xs ys : List Spelled) → weights (xs ++ ys) ≡ weights xs + weights ys
weights_append [] ys = omega arith
weights_append (x ∷ xs) ys = let e = weights_append xs ys in omega (arith, e)

printed_append : (xs ys : List Printed) → weights_printed (xs ++ ys) ≡ weights_printed xs + weights_printed ys
printed_append [] ys = omega arith
printed_append (x ∷ xs) ys = let e = printed_append xs ys in omega (arith, e)

kept_weight : (ts : List Spelled) → weights_printed (map kept ts) ≡ weights ts
kept_weight [] = refl
kept_weight (t ∷ ts) = let e = kept_weight ts in omega (arith, e)

long_weight : (ts : List Spelled) → length ts ≤ weights ts
long_weight [] = omega arith
long_weight (t ∷ ts) = let e = long_weight ts in omega (arith, e)

elements_weight : (es : List Element) → weights (flat_map parts_of_element es) ≤ weights_printed (flat_map tokens_of_element es)
elements_weight [] = omega arith
elements_weight (Bare t ∷ es) = let e = elements_weight es in omega (arith, e)
elements_weight (Hidden ts ∷ es) =
    let e = elements_weight es in
    let own = map kept ts ++ mark (codes ")") ∷ [] in
    let a = weights_append ts (flat_map parts_of_element es) in
    let b = printed_append own (flat_map tokens_of_element es) in
    let c = printed_append (map kept ts) (mark (codes ")") ∷ []) in
    let k = kept_weight ts in
    omega (arith, e, a, b, c, k)

separator_weight : (adverbs : List Adverb) → weights (separator_of adverbs) ≤ weights_printed (tokens_of_adverbs adverbs)
separator_weight [] = omega arith
separator_weight (Comma at ∷ adverbs) = let e = separator_weight adverbs in omega (arith, e)
separator_weight (Pair name value ∷ adverbs) = go (bytes_eq name.content (codes "separator")) (separator_weight adverbs)
  where
    go : (b : Bool) → weights (separator_of adverbs) ≤ weights_printed (tokens_of_adverbs adverbs) → weights (option_to_list (cond b (Some value) (value_of (codes "separator") adverbs))) ≤ weights_printed (tokens_of_adverbs (Pair name value ∷ adverbs))
    go true e = omega arith
    go false e = omega (arith, e)

alternative_weight : (a : Alternative) → weights (parts_of a) ≤ weights_printed (tokens_of_alternative a)
alternative_weight a =
    let e = elements_weight a.elements in
    let b = printed_append (flat_map tokens_of_element a.elements) (tokens_of_adverbs a.adverbs) in
    omega (arith, e, b)

weights_rows : List (List Printed) → ℕ
weights_rows [] = 0
weights_rows (ps ∷ rows) = weights_printed ps + weights_rows rows

joined_weight : (m : Printed) (rows : List (List Printed)) → length rows + weights_rows rows ≤ suc (weights_printed (joined m rows))
unfolding weights_rows
joined_weight m [] = omega arith
joined_weight m (ps ∷ []) = omega arith
joined_weight m (ps ∷ qs ∷ rows) =
    let e = joined_weight m (qs ∷ rows) in
    let a = printed_append ps (m ∷ joined m (qs ∷ rows)) in
    omega (arith, e, a)

abbrev group_tokens : List Alternative → List Printed
group_tokens g = joined (mark (codes "|")) (map tokens_of_alternative g)

rows_weight : (g : List Alternative) → weights (flat_map parts_of g) ≤ weights_rows (map tokens_of_alternative g)
unfolding weights_rows
rows_weight [] = omega arith
rows_weight (a ∷ g) =
    let e = rows_weight g in
    let h = alternative_weight a in
    let f = weights_append (parts_of a) (flat_map parts_of g) in
    omega (arith, e, h, f)

group_weight : (g : List Alternative) → length g + weights (flat_map parts_of g) ≤ suc (weights_printed (group_tokens g))
group_weight g =
    let e = joined_weight (mark (codes "|")) (map tokens_of_alternative g) in
    let f = length-map g tokens_of_alternative in
    let h = rows_weight g in
    omega (arith, e, f, h)

all_groups_weight : (gs : List (List Alternative)) → length (alternatives_of gs) + weights (flat_map parts_of (alternatives_of gs)) ≤ length gs + weights_rows (map group_tokens gs)
unfolding weights_rows
all_groups_weight [] = omega arith
all_groups_weight (g ∷ gs) =
    let e = all_groups_weight gs in
    let h = group_weight g in
    let a = length-append g (alternatives_of gs) in
    let b = ap weights (flat_map-append parts_of g (alternatives_of gs)) in
    let c = weights_append (flat_map parts_of g) (flat_map parts_of (alternatives_of gs)) in
    omega (arith, e, h, a, b, c)

groups_weight : (gs : List (List Alternative)) → length (alternatives_of gs) + weights (flat_map parts_of (alternatives_of gs)) ≤ suc (weights_printed (tokens_of_groups gs))
groups_weight gs =
    let e = all_groups_weight gs in
    let f = joined_weight (mark (codes "||")) (map group_tokens gs) in
    let h = length-map gs group_tokens in
    omega (arith, e, f, h)

pub groups_count : (gs : List (List Alternative)) → length gs ≤ suc (weights_printed (tokens_of_groups gs))
groups_count gs =
    let f = joined_weight (mark (codes "||")) (map group_tokens gs) in
    let h = length-map gs group_tokens in
    omega (arith, f, h)

rights_kept : (lexical : Bool) (ts : List Spelled) → weights (map (λ (r : Bool × Spelled). r.1) (filter (λ r. r.0 || is_quote_or_bracket r.1) (map (λ t. (lexical, t)) ts))) ≤ weights ts
rights_kept lexical [] = omega arith
rights_kept lexical (t ∷ ts) = go (lexical || is_quote_or_bracket t) (rights_kept lexical ts)
  where
    rest : List (Bool × Spelled)
    rest = filter (λ (r : Bool × Spelled). r.0 || is_quote_or_bracket r.1) (map (λ (u : Spelled). (lexical, u)) ts)

    go : (b : Bool) → weights (map (λ (r : Bool × Spelled). r.1) (filter (λ (r : Bool × Spelled). r.0 || is_quote_or_bracket r.1) (map (λ (u : Spelled). (lexical, u)) ts))) ≤ weights ts →
        weights (map (λ (r : Bool × Spelled). r.1) (cond b ((lexical, t) ∷ filter (λ (r : Bool × Spelled). r.0 || is_quote_or_bracket r.1) (map (λ (u : Spelled). (lexical, u)) ts)) (filter (λ (r : Bool × Spelled). r.0 || is_quote_or_bracket r.1) (map (λ (u : Spelled). (lexical, u)) ts)))) ≤ weight t.kind t.content + weights ts
    go true e = omega (arith, e)
    go false e = omega (arith, e)

texts_long : (ts : List Spelled) → length (map (λ t. t.content) ts) ≤ weights ts
texts_long ts = let e = length-map ts (λ (t : Spelled). t.content) in let f = long_weight ts in omega (arith, e, f)

structural_few : (s : Statement) → length (structural_names s) ≤ weights_printed (tokens_of s)
unfolding tokens_of
structural_few (Start at name) = omega arith
structural_few (Default at adverbs) = omega arith
structural_few (LexemeDefault at adverbs) = omega arith
structural_few (Lexeme at name adverbs) = omega arith
structural_few (Discard at item adverbs) = omega arith
structural_few (Empty left true adverbs) = omega arith
structural_few (Empty left false adverbs) = omega arith
structural_few (Quantified left true item plus adverbs) = omega arith
structural_few (Quantified left false item plus adverbs) =
    let e = texts_long (separator_of adverbs) in
    let f = separator_weight adverbs in
    omega (arith, e, f)
structural_few (Rules left true groups) = omega arith
structural_few (Rules left false groups) =
    let e = texts_long (flat_map parts_of (alternatives_of groups)) in
    let f = groups_weight groups in
    omega (arith, e, f)

lexical_few : (s : Statement) → weights (lexical_tokens s) ≤ weights_printed (tokens_of s)
unfolding tokens_of
lexical_few (Start at name) = omega arith
lexical_few (Default at adverbs) = omega arith
lexical_few (LexemeDefault at adverbs) = omega arith
lexical_few (Lexeme at name adverbs) = omega arith
lexical_few (Discard at item adverbs) = omega arith
lexical_few (Empty left true adverbs) = omega arith
lexical_few (Empty left false adverbs) = omega arith
lexical_few (Quantified left true item plus adverbs) =
    let e = rights_kept true (item ∷ separator_of adverbs) in
    let f = separator_weight adverbs in
    omega (arith, e, f)
lexical_few (Quantified left false item plus adverbs) =
    let e = rights_kept false (item ∷ separator_of adverbs) in
    let f = separator_weight adverbs in
    omega (arith, e, f)
lexical_few (Rules left true groups) =
    let e = rights_kept true (flat_map parts_of (alternatives_of groups)) in
    let f = groups_weight groups in
    omega (arith, e, f)
lexical_few (Rules left false groups) =
    let e = rights_kept false (flat_map parts_of (alternatives_of groups)) in
    let f = groups_weight groups in
    omega (arith, e, f)

groups_rules : (names : List (List ℕ)) (left : Spelled) (count : ℕ) (gs : List (List Alternative)) → length (rules_of_groups names left count gs) ≡ length (alternatives_of gs)
groups_rules names left count [] = refl
groups_rules names left count (g ∷ gs) =
    let e = groups_rules names left count gs in
    let a = length-append (map (plain_rule names left (length gs) count) g) (rules_of_groups names left count gs) in
    let b = length-map g (plain_rule names left (length gs) count) in
    let c = length-append g (alternatives_of gs) in
    omega (arith, e, a, b, c)

rules_few : (names : List (List ℕ)) (s : Statement) → length (rules_of names s) ≤ weights_printed (tokens_of s)
unfolding tokens_of
rules_few names (Start at name) = omega arith
rules_few names (Default at adverbs) = omega arith
rules_few names (LexemeDefault at adverbs) = omega arith
rules_few names (Lexeme at name adverbs) = omega arith
rules_few names (Discard at item adverbs) = omega arith
rules_few names (Empty left lexical adverbs) = omega arith
rules_few names (Quantified left lexical item plus adverbs) = omega arith
rules_few names (Rules left lexical groups) =
    let e = groups_rules names left (length groups) groups in
    let f = groups_weight groups in
    omega (arith, e, f)

discards_few : (s : Statement) → length (discards_of s) ≤ weights_printed (tokens_of s)
unfolding tokens_of
discards_few (Start at name) = omega arith
discards_few (Default at adverbs) = omega arith
discards_few (LexemeDefault at adverbs) = omega arith
discards_few (Lexeme at name adverbs) = omega arith
discards_few (Discard at item adverbs) = omega arith
discards_few (Empty left lexical adverbs) = omega arith
discards_few (Quantified left lexical item plus adverbs) = omega arith
discards_few (Rules left lexical groups) = omega arith

-- what statements give, at most as much as their tokens
flat_few : {A : Type 0} (f : Statement → List A) (d : List Statement) → ((s : Statement) → length (f s) ≤ weights_printed (tokens_of s)) → length (flat_map f d) ≤ weights_statements d
flat_few f [] h = omega arith
flat_few f (s ∷ ss) h =
    let e = flat_few f ss h in
    let a = length-append (f s) (flat_map f ss) in
    let b = h s in
    omega (arith, e, a, b)

level_few : {A : Type 0} (f : Statement → List A) (p : Statement → Bool) (d : List Statement) → ((s : Statement) → length (f s) ≤ weights_printed (tokens_of s)) → length (flat_map f (filter p d)) ≤ weights_statements d
level_few f p [] h = omega arith
level_few {A} f p (s ∷ ss) h = go (p s) (level_few f p ss h)
  where
    go : (b : Bool) → length (flat_map f (filter p ss)) ≤ weights_statements ss → length (flat_map f (cond b (s ∷ filter p ss) (filter p ss))) ≤ weights_printed (tokens_of s) + weights_statements ss
    go true e =
        let a = length-append (f s) (flat_map f (filter p ss)) in
        let b = h s in
        omega (arith, e, a, b)
    go false e = omega (arith, e)

tokens_few : (d : List Statement) → weights (flat_map lexical_tokens d) ≤ weights_statements d
tokens_few [] = omega arith
tokens_few (s ∷ ss) =
    let e = tokens_few ss in
    let a = weights_append (lexical_tokens s) (flat_map lexical_tokens ss) in
    let b = lexical_few s in
    omega (arith, e, a, b)

new_few : (seen ts : List (List ℕ)) → length (new_texts seen ts) ≤ length ts
new_few seen [] = omega arith
new_few seen (t ∷ ts) = go (is_one_of seen t) (new_few seen ts) (new_few (t ∷ seen) ts)
  where
    go : (b : Bool) → length (new_texts seen ts) ≤ length ts → length (new_texts (t ∷ seen) ts) ≤ length ts → length (cond b (new_texts seen ts) (t ∷ new_texts (t ∷ seen) ts)) ≤ suc (length ts)
    go true e f = omega (arith, e)
    go false e f = omega (arith, f)

new_weight : (seen : List (List ℕ)) (ts : List Spelled) → weights (new_tokens seen ts) ≤ weights ts
new_weight seen [] = omega arith
new_weight seen (t ∷ ts) = go (is_one_of seen t.content) (new_weight seen ts) (new_weight (t.content ∷ seen) ts)
  where
    go : (b : Bool) → weights (new_tokens seen ts) ≤ weights ts → weights (new_tokens (t.content ∷ seen) ts) ≤ weights ts → weights (cond b (new_tokens seen ts) (t ∷ new_tokens (t.content ∷ seen) ts)) ≤ weight t.kind t.content + weights ts
    go true e f = omega (arith, e)
    go false e f = omega (arith, f)

filter_few : {A : Type 0} (p : A → Bool) (xs : List A) → length (filter p xs) ≤ length xs
filter_few p [] = omega arith
filter_few {A} p (x ∷ xs) = go (p x) (filter_few p xs)
  where
    go : (b : Bool) → length (filter p xs) ≤ length xs → length (cond b (x ∷ filter p xs) (filter p xs)) ≤ suc (length xs)
    go true e = omega (arith, e)
    go false e = omega (arith, e)

sets_weight : (ts : List Spelled) → length ts + length (flat_map sets_of ts) ≡ weights ts
sets_weight [] = refl
sets_weight (t ∷ ts) =
    let e = sets_weight ts in
    let a = length-append (sets_of t) (flat_map sets_of ts) in
    omega (arith, e, a)

added_few : (number next : ℕ) (ts : List Spelled) → length (added_rules number next ts) ≤ length ts
added_few number next [] = omega arith
added_few number next (t ∷ ts) = go (is_quote_or_bracket t) (added_few (number + 1) (next + length (sets_of t)) ts)
  where
    go : (b : Bool) → length (added_rules (number + 1) (next + length (sets_of t)) ts) ≤ length ts →
        length (cond b (Plain (record { lhs = number; rhs = count_from next (length (sets_of t)); level = 0; groups = 1; assoc = Left; rank = pos 0; null_high = false }) ∷ []) [] ++ added_rules (number + 1) (next + length (sets_of t)) ts) ≤ suc (length ts)
    go true e = omega (arith, e)
    go false e = omega (arith, e)

-- THE SIZES OF GRAMMARS

pub record IsModest (d : List Statement) : Type 0 where
  pub symbols : length (symbols_g1 d) ≤ 2097152
  pub rules : length (flat_map (rules_of (symbols_g1 d)) (filter (is_of_level false) d)) ≤ 2097152
  pub placed : length (placed_tokens d) + length (sets_l0 d) ≤ 2097152
  pub named : length (named_l0 d) + length (sets_l0 d) ≤ 4194304
  pub lexical : length (flat_map (rules_of (named_l0 d)) (filter (is_of_level true) d)) ≤ 2097152
  pub added : length (added_rules 0 (length (named_l0 d)) (placed_tokens d)) ≤ 2097152
  pub starts : length (start_texts d) ≤ 4194304

pub modest : (d : List Statement) → IsDescription d → IsModest d
modest d h =
    let w = description_weight d h in
    let symbols = flat_few structural_names d structural_few in
    let few_symbols = new_few [] (flat_map structural_names d) in
    let lexemes_few = filter_few (λ t. not (is_one_of (left_names false d) t)) (symbols_g1 d) in
    let tokens = tokens_few d in
    let new = new_weight [] (flat_map lexical_tokens d) in
    let sets = sets_weight (placed_tokens d) in
    let texts = length-map (placed_tokens d) (λ (t : Spelled). t.content) in
    let others = filter_few (λ t. not (is_one_of (texts_l0 d) t)) (lexemes d) in
    let named_long = length-append (texts_l0 d) (filter (λ t. not (is_one_of (texts_l0 d) t)) (lexemes d)) in
    let discarded_few = flat_few discards_of d discards_few in
    let new_discards = new_few [] (flat_map discards_of d) in
    let more = filter_few (λ t. not (is_one_of (lexemes d) t)) (discarded d) in
    let starts_long = length-append (lexemes d) (filter (λ t. not (is_one_of (lexemes d) t)) (discarded d)) in
    let own = level_few (rules_of (symbols_g1 d)) (is_of_level false) d (rules_few (symbols_g1 d)) in
    let other = level_few (rules_of (named_l0 d)) (is_of_level true) d (rules_few (named_l0 d)) in
    let add = added_few 0 (length (named_l0 d)) (placed_tokens d) in
    record {
      symbols = omega (arith, w, symbols, few_symbols);
      rules = omega (arith, w, own);
      placed = omega (arith, w, tokens, new, sets);
      named = omega (arith, w, tokens, new, sets, texts, others, named_long, lexemes_few, symbols, few_symbols);
      lexical = omega (arith, w, other);
      added = omega (arith, w, tokens, new, sets, add);
      starts = omega (arith, w, starts_long, more, new_discards, discarded_few, lexemes_few, symbols, few_symbols);
    }
