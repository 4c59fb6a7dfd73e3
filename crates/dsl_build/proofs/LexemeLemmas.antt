-- What `:lexeme` statements say of a lexeme.
use Rattle.std.proofs.Common.{◌≡◌, ℕ, suc, ◌+◌, Bool, true, false, cond, List, [], ◌∷◌, ◌++◌, Option, Some, refl, sym, ap, ◌∙◌, map, append-nil, length, arith}
use Rattle.std.specs.Prelude.{flat_map, option_map, unwrap_or, bytes_eq, codes, pos, slice_index_or, not, ◌||◌}
use Rattle.std.specs.List.{list_any, position_or_len}
use Rattle.std.proofs.lemmas.Bool.{true≢false}
use Rattle.std.proofs.lemmas.Slice.Eq.{bytes_eq-Decides}
use Rattle.std.proofs.Math.Bool.{or-true}
use Rattle.finite_sets.proofs.Lists.{flat_flat, prefix_empty, back_empty}
use Rattle.language_model.specs.Tokens.{Spelled}
use Rattle.language_model.specs.Description.{Adverb, Comma, Pair, Statement, Start, Default, LexemeDefault, Lexeme, Discard, Empty, Quantified, Rules}
use Rattle.language_model.specs.Building.{is_one_of, value_of, place_in, number_of, LexemeRow, lexeme_row, lexeme_adverbs, lexeme_default_adverbs, symbols_g1, start_texts, repeated, repeated_statement, repeated_in, pairs_of, adverb_lists, is_lexeme_of}
use Rattle.dsl_build.specs.Tables.{lexeme_parts, adverbs_at, or_else, row_from}
use Rattle.dsl_faults.specs.Texts.{AllNew}
use Rattle.dsl_faults.proofs.Lists.{flat_same}
use Rattle.dsl_faults.proofs.Keeping.{bytes_eq_sym}
use Rattle.language_model.proofs.Short.{none_of}

-- THE VALUE OF AN ADVERB

value_or : (name : List ℕ) (own all : List Adverb) → value_of name (own ++ all) ≡ or_else (value_of name own) (value_of name all)
value_or name [] all = refl
value_or name (Comma at ∷ own) all = value_or name own all
value_or name (Pair n value ∷ own) all = go (bytes_eq n.content name) (value_or name own all)
  where
    go : (b : Bool) → value_of name (own ++ all) ≡ or_else (value_of name own) (value_of name all) → cond b (Some value) (value_of name (own ++ all)) ≡ or_else (cond b (Some value) (value_of name own)) (value_of name all)
    go true e = refl
    go false e = e

-- NO SECOND STATEMENT OF A LEXEME

-- every text that was seen is the name of a statement before
abbrev SameSeen : List (List ℕ) → List Statement → Type 0
SameSeen seen before = (t : List ℕ) → is_one_of seen t ≡ list_any (is_lexeme_of t) before

abbrev pub names_of : List Statement → List (List ℕ)
names_of d = map (λ p. p.0) (flat_map lexeme_parts d)

statements_new : (seen : List (List ℕ)) (before d : List Statement) → SameSeen seen before → repeated before d ≡ [] → AllNew seen (names_of d)
statements_new seen before [] same e = tt
statements_new seen before (s ∷ ss) same e =
    let rest : repeated (s ∷ before) ss ≡ [] = back_empty (repeated_statement before s ++ flat_map (λ l. repeated_in [] (pairs_of l.1)) (adverb_lists s)) (repeated (s ∷ before) ss) e in
    let own : repeated_statement before s ≡ [] = prefix_empty (repeated_statement before s) (flat_map (λ l. repeated_in [] (pairs_of l.1)) (adverb_lists s)) (prefix_empty (repeated_statement before s ++ flat_map (λ l. repeated_in [] (pairs_of l.1)) (adverb_lists s)) (repeated (s ∷ before) ss) e) in
    go s own (λ (seen' : List (List ℕ)) (same' : SameSeen seen' (s ∷ before)). statements_new seen' (s ∷ before) ss same' rest)
  where
    go : (x : Statement) → repeated_statement before x ≡ [] → ((seen' : List (List ℕ)) → SameSeen seen' (x ∷ before) → AllNew seen' (names_of ss)) → AllNew seen (names_of (x ∷ ss))
    go (Lexeme at name adverbs) own rest = (
      same name.content ∙ none_of (list_any (is_lexeme_of name.content) before) (record { at = at; name = codes ":lexeme" }) own,
      rest (name.content ∷ seen) (λ (t : List ℕ). ap (λ b. b || is_one_of seen t) (bytes_eq_sym name.content t) ∙ ap (λ b. bytes_eq t name.content || b) (same t)),
    )
    go (Start at name) own rest = rest seen same
    go (Default at adverbs) own rest = rest seen same
    go (LexemeDefault at adverbs) own rest = rest seen same
    go (Discard at item adverbs) own rest = rest seen same
    go (Empty left lexical adverbs) own rest = rest seen same
    go (Quantified left lexical item plus adverbs) own rest = rest seen same
    go (Rules left lexical groups) own rest = rest seen same

pub lexemes_new : (d : List Statement) → repeated [] d ≡ [] → AllNew [] (names_of d)
lexemes_new d e = statements_new [] [] d (λ (t : List ℕ). refl) e

-- THE ADVERBS OF A LEXEME

abbrev of_name : List ℕ → (List ℕ) × List Adverb → List Adverb
of_name name p = cond (bytes_eq name p.0) p.1 []

none_behind : (name : List ℕ) (seen : List (List ℕ)) (parts : List ((List ℕ) × List Adverb)) → is_one_of seen name ≡ true → AllNew seen (map (λ p. p.0) parts) → flat_map (of_name name) parts ≡ []
none_behind name seen [] held new = refl
none_behind name seen (p ∷ ps) held new =
    go (bytes_eq name p.0) refl (none_behind name (p.0 ∷ seen) ps (ap (λ b. bytes_eq p.0 name || b) held ∙ or-true (bytes_eq p.0 name)) new.1)
  where
    go : (b : Bool) → bytes_eq name p.0 ≡ b → flat_map (of_name name) ps ≡ [] → cond b p.1 [] ++ flat_map (of_name name) ps ≡ []
    go true e rest = absurd (true≢false (sym held ∙ ap (is_one_of seen) ((bytes_eq-Decides name p.0).0 e) ∙ new.0))
    go false e rest = rest

own_found : (name : List ℕ) (seen : List (List ℕ)) (parts : List ((List ℕ) × List Adverb)) → AllNew seen (map (λ p. p.0) parts) → flat_map (of_name name) parts ≡ adverbs_at (map (λ p. p.0) parts) (map (λ p. p.1) parts) name
own_found name seen [] new = refl
own_found name seen (p ∷ ps) new = go (bytes_eq name p.0) refl (own_found name (p.0 ∷ seen) ps new.1)
  where
    go : (b : Bool) → bytes_eq name p.0 ≡ b → flat_map (of_name name) ps ≡ adverbs_at (map (λ q. q.0) ps) (map (λ q. q.1) ps) name → cond b p.1 [] ++ flat_map (of_name name) ps ≡ slice_index_or (p.1 ∷ map (λ q. q.1) ps) (cond (not b) (1 + position_or_len (bytes_eq name) (map (λ q. q.0) ps)) 0) []
    go true e rest =
        ap (λ xs. p.1 ++ xs) (none_behind name (p.0 ∷ seen) ps (ap (λ b. b || is_one_of seen name) (bytes_eq_sym p.0 name ∙ e)) new.1) ∙ append-nil p.1
    go false e rest =
        let next : suc (position_or_len (bytes_eq name) (map (λ q. q.0) ps)) ≡ 1 + position_or_len (bytes_eq name) (map (λ q. q.0) ps) = omega arith in
        rest ∙ ap (λ k. slice_index_or (p.1 ∷ map (λ q. q.1) ps) k []) next

pub own_are : (d : List Statement) (name : List ℕ) → repeated [] d ≡ [] → adverbs_at (map (λ p. p.0) (flat_map lexeme_parts d)) (map (λ p. p.1) (flat_map lexeme_parts d)) name ≡ flat_map (lexeme_adverbs name) d
own_are d name e =
    sym (own_found name [] (flat_map lexeme_parts d) (lexemes_new d e)) ∙ flat_flat lexeme_parts (of_name name) d ∙ flat_same (λ s. flat_map (of_name name) (lexeme_parts s)) (lexeme_adverbs name) d each
  where
    each : (s : Statement) → flat_map (of_name name) (lexeme_parts s) ≡ lexeme_adverbs name s
    each (Lexeme at n adverbs) = append-nil (cond (bytes_eq name n.content) adverbs [])
    each (Start at n) = refl
    each (Default at adverbs) = refl
    each (LexemeDefault at adverbs) = refl
    each (Discard at item adverbs) = refl
    each (Empty left lexical adverbs) = refl
    each (Quantified left lexical item plus adverbs) = refl
    each (Rules left lexical groups) = refl

-- THE ROWS

row_is : (d : List Statement) (name : List ℕ) → repeated [] d ≡ [] →
    row_from (symbols_g1 d) (start_texts d) (adverbs_at (map (λ p. p.0) (flat_map lexeme_parts d)) (map (λ p. p.1) (flat_map lexeme_parts d)) name) (value_of (codes "latm") (flat_map lexeme_default_adverbs d)) name ≡ lexeme_row d name
row_is d name e =
    let all = flat_map lexeme_default_adverbs d in
    let own = flat_map (lexeme_adverbs name) d in
    ap (λ xs. row_from (symbols_g1 d) (start_texts d) xs (value_of (codes "latm") all) name) (own_are d name e)
    ∙ ap (λ (o : Option Spelled). row_with (unwrap_or (option_map (λ t. bytes_eq t.content (codes "1")) o) false)) (sym (value_or (codes "latm") own all))
  where
    row_with : Bool → LexemeRow
    row_with latm = record {
      symbol = place_in (symbols_g1 d) name;
      start = place_in (start_texts d) name;
      priority = unwrap_or (option_map (λ t. number_of t.content) (value_of (codes "priority") (flat_map (lexeme_adverbs name) d))) (pos 0);
      latm = latm;
    }

pub rows_are : (d : List Statement) (names symbols starts : List (List ℕ)) → repeated [] d ≡ [] → symbols ≡ symbols_g1 d → starts ≡ start_texts d →
    map (λ name. row_from symbols starts (adverbs_at (map (λ p. p.0) (flat_map lexeme_parts d)) (map (λ p. p.1) (flat_map lexeme_parts d)) name) (value_of (codes "latm") (flat_map lexeme_default_adverbs d)) name) names ≡ map (lexeme_row d) names
rows_are d [] symbols starts e s t = refl
rows_are d (name ∷ names) symbols starts e s t =
    ap (λ r. r ∷ map (λ n. row_from symbols starts (adverbs_at (map (λ p. p.0) (flat_map lexeme_parts d)) (map (λ p. p.1) (flat_map lexeme_parts d)) n) (value_of (codes "latm") (flat_map lexeme_default_adverbs d)) n) names)
    (ap (λ ns. row_from ns starts own (value_of (codes "latm") (flat_map lexeme_default_adverbs d)) name) s ∙ ap (λ ns. row_from (symbols_g1 d) ns own (value_of (codes "latm") (flat_map lexeme_default_adverbs d)) name) t ∙ row_is d name e)
    ∙ ap (λ rs. lexeme_row d name ∷ rs) (rows_are d names symbols starts e s t)
  where
    own : List Adverb
    own = adverbs_at (map (λ p. p.0) (flat_map lexeme_parts d)) (map (λ p. p.1) (flat_map lexeme_parts d)) name

-- a text that is not there has the place after the last
pub absent_place : (names : List (List ℕ)) (t : List ℕ) → is_one_of names t ≡ false → place_in names t ≡ length names
absent_place [] t e = refl
absent_place (n ∷ ns) t e = go (bytes_eq n t) refl e (λ (f : is_one_of ns t ≡ false). absent_place ns t f)
  where
    go : (b : Bool) → bytes_eq n t ≡ b → (b || is_one_of ns t) ≡ false → (is_one_of ns t ≡ false → place_in ns t ≡ length ns) → place_in (n ∷ ns) t ≡ suc (length ns)
    go true is f rest = absurd (true≢false f)
    go false is f rest =
        let next : 1 + place_in ns t ≡ suc (place_in ns t) = omega arith in
        ap (λ c. cond (not c) (1 + place_in ns t) 0) (bytes_eq_sym t n ∙ is) ∙ next ∙ ap suc (rest f)
