use Rattle.std.proofs.Common.{◌≡◌, true, subst, arith, sym, ◌∙◌, ap, map, take, length, Bor, List, Option, ℕ, [], ◌∷◌, ◌++◌}
use Rattle.std.specs.Prelude.{option_copied, flat_map}
use Rattle.std.proofs.lemmas.List.Elements.{recursion_from_All}
use Rattle.std.proofs.lemmas.List.{map-append, take_all, length-map}
use Rattle.language_model.specs.Tokens.{Spelled}
use Rattle.language_model.specs.Description.{Adverb}
use Rattle.language_model.specs.Building.{LexemeRow, is_one_of, place_in}
use Rattle.dsl_statement.specs.declared.statement.Adverb.{Adverb as HeldAdverb}
use Rattle.dsl_statement.specs.Statements.{adverbs_of, statement_of}
use Rattle.dsl_build.specs.Tables.{row_of, row_from, adverbs_at, lexeme_parts, priority_of}
use Rattle.dsl_build.specs.Ready.{IsSmall}
use Rattle.dsl_build.proofs.Alls.{all_map}
use Rattle.dsl_build.proofs.Granting.{all_get}
use Rattle.dsl_build.proofs.OwnLemmas.{index_all}
use Rattle.dsl_build.proofs.Smallness.{small_pos}
use Rattle.dsl_faults.proofs.Lists.{take_get}
use Rattle.dsl_build.proofs.lexemes.lexeme_rows.Goals as goal

pub loop-place-preserved : goal.loop-place-preserved
loop-place-preserved c =
    let symbols = c.args.symbols.now in
    let starts = c.args.starts.now in
    let default = option_copied c.default_value-default.result in
    let names = c.in_ok-own.own.names in
    let row = c.lexeme_row.result in
    let name = c.text-name.result.now in
    let before = take c.loop-place.place c.args.lexemes.now in
    let lists = λ (xs : List (Bor (List HeldAdverb))). map (λ (a : Bor (List HeldAdverb)). adverbs_of a.now) xs in
    let told = λ (n : List ℕ). row_from symbols starts (adverbs_at names (lists c.in_ok-own.own.adverbs.items) n) default n in
    let found = c.lexeme_row.ensures
    ∙ ap (λ (a : List Adverb). row_from symbols starts a default name) (c.adverbs_named-adverbs.ensures ∙ ap (λ (xs : List (Bor (List HeldAdverb))). adverbs_at names (lists xs) name) c.deref.ensures.value) in
    ap (map row_of) c.in_ok-push.ensures.items ∙ map-append row_of c.loop-place.rows.items (row ∷ []) ∙ ap (λ (rs : List LexemeRow). rs ++ row_of row ∷ []) c.loop-place.invariant
    ∙ ap (λ (r : LexemeRow). map told before ++ r ∷ []) found
    ∙ sym (ap (map told) (take_get c.args.lexemes.now c.loop-place.place name c.text-name.ensures) ∙ map-append told before (name ∷ []))

pub lexeme_row-requires-clause-symbol : goal.lexeme_row-requires-clause-symbol
lexeme_row-requires-clause-symbol c = all_get (λ t. is_one_of c.args.symbols.now t ≡ true) c.args.lexemes.now c.loop-place.place c.text-name.result.now c.requires.symbols c.text-name.ensures

pub lexeme_row-requires-clause-start : goal.lexeme_row-requires-clause-start
lexeme_row-requires-clause-start c = all_get (λ t. is_one_of c.args.starts.now t ≡ true) c.args.lexemes.now c.loop-place.place c.text-name.result.now c.requires.starts c.text-name.ensures

pub lexeme_row-requires-clause-small : goal.lexeme_row-requires-clause-small
lexeme_row-requires-clause-small c =
    let names = c.in_ok-own.own.names in
    let name = c.text-name.result.now in
    let lists = λ (xs : List (Bor (List HeldAdverb))). map (λ (a : Bor (List HeldAdverb)). adverbs_of a.now) xs in
    let parts = flat_map lexeme_parts (map statement_of c.args.statements.now) in
    let P = λ (a : List Adverb). IsSmall (priority_of a) in
    let found = c.adverbs_named-adverbs.ensures ∙ ap (λ (xs : List (Bor (List HeldAdverb))). adverbs_at names (lists xs) name) c.deref.ensures.value
    ∙ ap (λ (ls : List (List Adverb)). adverbs_at names ls name) c.in_ok-own.ensures.adverbs in
    subst P (sym found) (index_all P (small_pos 0 (omega arith)) (map (λ p. p.1) parts) (all_map P (λ (p : (List ℕ) × List Adverb). p.1) parts (recursion_from_All (λ (p : (List ℕ) × List Adverb). P p.1) parts c.requires.small)) (place_in names name))

pub adverbs_named-adverbs-requires : goal.adverbs_named-adverbs-requires
adverbs_named-adverbs-requires c =
    let told = λ (a : Bor (List HeldAdverb)). adverbs_of a.now in
    let parts = flat_map lexeme_parts (map statement_of c.args.statements.now) in
    let own = c.in_ok-own.own in
    let held : length c.deref.result.now ≡ length own.adverbs.items = ap (λ (xs : List (Bor (List HeldAdverb))). length xs) c.deref.ensures.value in
    let mapped : length (map told own.adverbs.items) ≡ length own.adverbs.items = length-map own.adverbs.items told in
    let adverbs : length (map told own.adverbs.items) ≡ length (map (λ (p : (List ℕ) × List Adverb). p.1) parts) = ap (λ (xs : List (List Adverb)). length xs) c.in_ok-own.ensures.adverbs in
    let seconds : length (map (λ (p : (List ℕ) × List Adverb). p.1) parts) ≡ length parts = length-map parts (λ (p : (List ℕ) × List Adverb). p.1) in
    let firsts : length (map (λ (p : (List ℕ) × List Adverb). p.0) parts) ≡ length parts = length-map parts (λ (p : (List ℕ) × List Adverb). p.0) in
    let names : length own.names ≡ length (map (λ (p : (List ℕ) × List Adverb). p.0) parts) = ap (λ (ns : List (List ℕ)). length ns) c.in_ok-own.ensures.names in
    held ∙ sym mapped ∙ adverbs ∙ seconds ∙ sym firsts ∙ sym names

pub returns : goal.returns
returns c =
    let symbols = c.args.symbols.now in
    let starts = c.args.starts.now in
    let lexemes = c.args.lexemes.now in
    let told = λ (a : Bor (List HeldAdverb)). adverbs_of a.now in
    let own = c.in_ok-own.own in
    let parts = flat_map lexeme_parts (map statement_of c.args.statements.now) in
    let default = option_copied c.default_value-default.result in
    let row = λ (names : List (List ℕ)) (lists : List (List Adverb)) (o : Option Spelled) (n : List ℕ). row_from symbols starts (adverbs_at names lists n) o n in
    c.loop-place.invariant ∙ ap (map (row own.names (map told own.adverbs.items) default)) (take_all c.loop-place.place lexemes (omega arith))
    ∙ ap (λ (ns : List (List ℕ)). map (row ns (map told own.adverbs.items) default) lexemes) c.in_ok-own.ensures.names
    ∙ ap (λ (ls : List (List Adverb)). map (row (map (λ (p : (List ℕ) × List Adverb). p.0) parts) ls default) lexemes) c.in_ok-own.ensures.adverbs
    ∙ ap (λ (o : Option Spelled). map (row (map (λ (p : (List ℕ) × List Adverb). p.0) parts) (map (λ (p : (List ℕ) × List Adverb). p.1) parts) o) lexemes) c.default_value-default.ensures
