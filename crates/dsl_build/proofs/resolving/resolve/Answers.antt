use Rattle.std.proofs.Common.{◌≡◌, ◌≤◌, ◌∙◌, ap, map, subst, sym, List, ℕ, true, false, length, arith}
use Rattle.std.specs.Prelude.{flat_map, filter, All}
use Rattle.std.proofs.lemmas.List.Elements.{All-from_recursion}
use Rattle.grammar_model.specs.declared.limits.TheConstants.{MOST_ENTRIES}
use Rattle.language_model.specs.Description.{Adverb, Statement}
use Rattle.language_model.specs.Texts.{IsDescription}
use Rattle.language_model.specs.Building.{lexeme_row, rules_of, is_of_level, is_one_of, place_in, lexemes, symbols_g1, named_l0, start_of, start_texts, discarded}
use Rattle.dsl_statement.specs.declared.statement.Statement.{Statement as HeldStatement}
use Rattle.dsl_statement.specs.Statements.{statement_of}
use Rattle.dsl_build.specs.Ready.{IsReady, IsSmall}
use Rattle.dsl_build.specs.Tables.{lexeme_parts, priority_of}
use Rattle.dsl_faults.specs.Uses.{Used, used_of, uses_of, starts_asked}
use Rattle.dsl_faults.specs.declared.uses.Use.{Use}
use Rattle.dsl_build.proofs.Faultless.{faultless}
use Rattle.dsl_build.proofs.Granting.{held_all}
use Rattle.dsl_build.proofs.LexemeLemmas.{rows_are, lexemes_new}
use Rattle.dsl_build.proofs.Ranging.{start_known}
use Rattle.dsl_build.proofs.Sizes.{modest}
use Rattle.dsl_build.proofs.TextLemmas.{starts_are}
use Rattle.dsl_build.proofs.Readying.{structural_ready, lexical_ready, lexemes_small, lexemes_known, lexemes_started, discards_started, starts_named}
use Rattle.dsl_build.proofs.resolving.resolve.Goals as goal

all_among : (names others texts ts : List (List ℕ)) → names ≡ others → texts ≡ ts → All (λ t. is_one_of others t ≡ true) ts → All (λ t. is_one_of names t ≡ true) texts
all_among names others texts ts n t a = subst (λ ns. All (λ x. is_one_of ns x ≡ true) texts) (sym n) (subst (λ xs. All (λ x. is_one_of others x ≡ true) xs) (sym t) a)

as_few : (names others : List (List ℕ)) (n : ℕ) → names ≡ others → length others ≤ n → length names ≤ n
as_few names others n e le = subst (λ (ns : List (List ℕ)). length ns ≤ n) (sym e) le

symbols_few : (d : List Statement) → IsDescription d → length (symbols_g1 d) ≤ MOST_ENTRIES
symbols_few d h = let few = (modest d h).symbols in omega (arith, few)

named_few : (d : List Statement) → IsDescription d → length (named_l0 d) ≤ MOST_ENTRIES
named_few d h = let few = (modest d h).named in omega (arith, few)

starts_few : (d : List Statement) → IsDescription d → length (start_texts d) ≤ MOST_ENTRIES
starts_few d h = let few = (modest d h).starts in omega (arith, few)

pub rules_of-requires-clause-structural : goal.rules_of-requires-clause-structural
rules_of-requires-clause-structural c =
    let d = map statement_of c.args.statements.now in
    subst (λ (names : List (List ℕ)). All (λ (s : HeldStatement). is_of_level false (statement_of s) ≡ true → IsReady names (statement_of s)) c.args.statements.now) (sym c.requires.texts.symbols)
    (held_all (λ s. is_of_level false s ≡ true → IsReady (symbols_g1 d) s) statement_of c.args.statements.now (structural_ready d (faultless d c.requires.faultless) c.requires.described))

pub rules_of-requires-clause-lexical : goal.rules_of-requires-clause-lexical
rules_of-requires-clause-lexical c =
    let d = map statement_of c.args.statements.now in
    subst (λ (names : List (List ℕ)). All (λ (s : HeldStatement). is_of_level true (statement_of s) ≡ true → IsReady names (statement_of s)) c.args.statements.now) (sym c.requires.texts.named)
    (held_all (λ s. is_of_level true s ≡ true → IsReady (named_l0 d) s) statement_of c.args.statements.now (lexical_ready d (faultless d c.requires.faultless) c.requires.described))

pub rules_of-requires-clause-few : goal.rules_of-requires-clause-few
rules_of-requires-clause-few c = let d = map statement_of c.args.statements.now in as_few _ (symbols_g1 d) MOST_ENTRIES c.requires.texts.symbols (symbols_few d c.requires.described)

pub rules_of-requires-clause-few_lexical : goal.rules_of-requires-clause-few_lexical
rules_of-requires-clause-few_lexical c = let d = map statement_of c.args.statements.now in as_few _ (named_l0 d) MOST_ENTRIES c.requires.texts.named (named_few d c.requires.described)

pub starts_of-requires-clause-named : goal.starts_of-requires-clause-named
starts_of-requires-clause-named c =
    let d = map statement_of c.args.statements.now in
    let us : map used_of c.deref.result.now ≡ flat_map uses_of d = ap (λ (xs : List Use). map used_of xs) c.deref.ensures.value ∙ c.requires.texts.uses in
    let starts = c.start_of.ensures ∙ ap (λ (us : List Used). starts_asked us) us ∙ starts_are d in
    all_among _ (symbols_g1 d) _ (start_of d) c.requires.texts.symbols starts (All-from_recursion (λ t. is_one_of (symbols_g1 d) t ≡ true) (start_of d) (start_known d))

pub starts_of-requires-clause-few : goal.starts_of-requires-clause-few
starts_of-requires-clause-few c = let d = map statement_of c.args.statements.now in as_few _ (symbols_g1 d) MOST_ENTRIES c.requires.texts.symbols (symbols_few d c.requires.described)

pub symbols_of-requires-clause-named : goal.symbols_of-requires-clause-named
symbols_of-requires-clause-named c =
    let d = map statement_of c.args.statements.now in
    all_among _ (named_l0 d) _ (start_texts d) c.requires.texts.named c.requires.texts.starts (All-from_recursion (λ t. is_one_of (named_l0 d) t ≡ true) (start_texts d) (starts_named d))

pub symbols_of-requires-clause-few : goal.symbols_of-requires-clause-few
symbols_of-requires-clause-few c = let d = map statement_of c.args.statements.now in as_few _ (named_l0 d) MOST_ENTRIES c.requires.texts.named (named_few d c.requires.described)

pub lexeme_rows-requires-clause-once : goal.lexeme_rows-requires-clause-once
lexeme_rows-requires-clause-once c = let d = map statement_of c.args.statements.now in lexemes_new d (faultless d c.requires.faultless).repeats

pub lexeme_rows-requires-clause-small : goal.lexeme_rows-requires-clause-small
lexeme_rows-requires-clause-small c =
    let d = map statement_of c.args.statements.now in
    All-from_recursion (λ (p : (List ℕ) × List Adverb). IsSmall (priority_of p.1)) (flat_map lexeme_parts d) (lexemes_small d (faultless d c.requires.faultless) c.requires.described)

pub lexeme_rows-requires-clause-symbols : goal.lexeme_rows-requires-clause-symbols
lexeme_rows-requires-clause-symbols c =
    let d = map statement_of c.args.statements.now in
    all_among _ (symbols_g1 d) _ (lexemes d) c.requires.texts.symbols c.requires.texts.lexemes (All-from_recursion (λ t. is_one_of (symbols_g1 d) t ≡ true) (lexemes d) (lexemes_known d))

pub lexeme_rows-requires-clause-starts : goal.lexeme_rows-requires-clause-starts
lexeme_rows-requires-clause-starts c =
    let d = map statement_of c.args.statements.now in
    all_among _ (start_texts d) _ (lexemes d) c.requires.texts.starts c.requires.texts.lexemes (All-from_recursion (λ t. is_one_of (start_texts d) t ≡ true) (lexemes d) (lexemes_started d))

pub lexeme_rows-requires-clause-few : goal.lexeme_rows-requires-clause-few
lexeme_rows-requires-clause-few c = let d = map statement_of c.args.statements.now in as_few _ (symbols_g1 d) MOST_ENTRIES c.requires.texts.symbols (symbols_few d c.requires.described)

pub lexeme_rows-requires-clause-few_starts : goal.lexeme_rows-requires-clause-few_starts
lexeme_rows-requires-clause-few_starts c = let d = map statement_of c.args.statements.now in as_few _ (start_texts d) MOST_ENTRIES c.requires.texts.starts (starts_few d c.requires.described)

pub places_of-requires-clause-named : goal.places_of-requires-clause-named
places_of-requires-clause-named c =
    let d = map statement_of c.args.statements.now in
    all_among _ (start_texts d) _ (discarded d) c.requires.texts.starts c.requires.texts.discards (All-from_recursion (λ t. is_one_of (start_texts d) t ≡ true) (discarded d) (discards_started d))

pub places_of-requires-clause-few : goal.places_of-requires-clause-few
places_of-requires-clause-few c = let d = map statement_of c.args.statements.now in as_few _ (start_texts d) MOST_ENTRIES c.requires.texts.starts (starts_few d c.requires.described)

pub returns : goal.returns
returns c =
    let d = map statement_of c.args.statements.now in
    let texts = c.args.texts.now in
    let us : map used_of c.deref.result.now ≡ flat_map uses_of d = ap (λ (xs : List Use). map used_of xs) c.deref.ensures.value ∙ c.requires.texts.uses in
    let start = c.start_of.ensures ∙ ap (λ (us : List Used). starts_asked us) us ∙ starts_are d in
    let g1 = c.requires.texts.symbols in
    let l0 = c.requires.texts.named in
    record {
      structural = c.in_ok-rules_of.ensures.structural ∙ ap (λ (ns : List (List ℕ)). flat_map (rules_of ns) (filter (is_of_level false) d)) g1;
      lexical = c.in_ok-rules_of.ensures.lexical ∙ ap (λ (ns : List (List ℕ)). flat_map (rules_of ns) (filter (is_of_level true) d)) l0;
      start = c.in_ok-starts_of.ensures ∙ ap (map (place_in c.args.named.now.symbols)) start ∙ ap (λ (ns : List (List ℕ)). map (place_in ns) (start_of d)) g1;
      starts = c.in_ok-symbols_of.ensures ∙ ap (map (place_in texts.placed.names)) c.requires.texts.starts ∙ ap (λ (ns : List (List ℕ)). map (place_in ns) (start_texts d)) l0;
      lexemes = c.in_ok-lexeme_rows.ensures ∙ rows_are d texts.starts.lexemes c.args.named.now.symbols texts.starts.texts (faultless d c.requires.faultless).repeats g1 c.requires.texts.starts ∙ ap (map (lexeme_row d)) c.requires.texts.lexemes;
      discards = c.in_ok-places_of.ensures ∙ ap (map (place_in texts.starts.texts)) c.requires.texts.discards ∙ ap (λ (ns : List (List ℕ)). map (place_in ns) (discarded d)) c.requires.texts.starts;
    }
