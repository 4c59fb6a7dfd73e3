-- The adverbs that `:lexeme` statements have, none named twice.
use Rattle.std.proofs.Common.{◌≡◌, ℕ, zero, suc, ◌<◌, List, [], ◌∷◌, ◌++◌, refl, sym, ap, ◌∙◌, subst, map, length, take, drop, get_or, append-nil, false}
use Rattle.std.specs.Prelude.{flat_map, slice_index_or}
use Rattle.std.specs.List.{AllByRecursion}
use Rattle.std.proofs.Math.Seq.{drop-cons}
use Rattle.std.proofs.lemmas.List.{map-append, take-append-drop}
use Rattle.std.proofs.lemmas.Grind.{flat_map-append}
use Rattle.language_model.specs.Description.{Adverb, Statement, Start, Default, LexemeDefault, Lexeme, Discard, Empty, Quantified, Rules}
use Rattle.language_model.specs.Building.{is_one_of}
use Rattle.dsl_statement.specs.declared.statement.Statement.{Statement as HeldStatement}
use Rattle.dsl_statement.specs.Statements.{statement_of}
use Rattle.dsl_build.specs.Tables.{lexeme_parts}
use Rattle.dsl_faults.specs.Texts.{AllNew}
use Rattle.dsl_build.proofs.Differing.{unseen_behind}
use Rattle.dsl_build.proofs.LexemeLemmas.{names_of}

names_join : (xs ys : List Statement) → names_of (xs ++ ys) ≡ names_of xs ++ names_of ys
names_join xs ys = ap (map (λ (p : (List ℕ) × List Adverb). p.0)) (flat_map-append lexeme_parts xs ys) ∙ map-append (λ (p : (List ℕ) × List Adverb). p.0) (flat_map lexeme_parts xs) (flat_map lexeme_parts ys)

pub own_unseen : (xs : List HeldStatement) (i : ℕ) (s : HeldStatement) → AllNew [] (names_of (map statement_of xs)) → i < length xs → s ≡ get_or xs i s →
    AllByRecursion (λ p. is_one_of (names_of (map statement_of (take i xs))) p.0 ≡ false) (lexeme_parts (statement_of s))
own_unseen xs i s new lt is =
    let prefix = names_of (map statement_of (take i xs)) in
    let whole : names_of (map statement_of xs) ≡ prefix ++ names_of (map statement_of (drop i xs)) =
    ap (λ ys. names_of (map statement_of ys)) (sym (take-append-drop i xs)) ∙ ap names_of (map-append statement_of (take i xs) (drop i xs)) ∙ names_join (map statement_of (take i xs)) (map statement_of (drop i xs)) in
    let rest : drop i xs ≡ s ∷ drop (suc i) xs = drop-cons xs i s lt ∙ ap (λ y. y ∷ drop (suc i) xs) (sym is) in
    go (names_of (map statement_of (take i xs))) (map statement_of (drop (suc i) xs)) (statement_of s) (subst (λ (ns : List (List ℕ)). AllNew [] ns) (whole ∙ ap (λ ys. prefix ++ names_of (map statement_of ys)) rest) new)
  where
    go : (prefix : List (List ℕ)) (behind : List Statement) (x : Statement) → AllNew [] (prefix ++ names_of (x ∷ behind)) → AllByRecursion (λ p. is_one_of prefix p.0 ≡ false) (lexeme_parts x)
    go prefix behind (Lexeme at n adverbs) h = (subst (λ ns. is_one_of ns n.content ≡ false) (append-nil prefix) (unseen_behind [] prefix (n.content ∷ names_of behind) 0 n.content h refl), tt)
    go prefix behind (Start at n) h = tt
    go prefix behind (Default at adverbs) h = tt
    go prefix behind (LexemeDefault at adverbs) h = tt
    go prefix behind (Discard at item adverbs) h = tt
    go prefix behind (Empty left lexical adverbs) h = tt
    go prefix behind (Quantified left lexical item plus adverbs) h = tt
    go prefix behind (Rules left lexical groups) h = tt

-- what holds of all lists, and of none, holds at each place
pub index_all : {A : Type 0} (P : List A → Type 0) → P [] → (lists : List (List A)) → AllByRecursion P lists → (k : ℕ) → P (slice_index_or lists k [])
index_all P e [] a k = e
index_all P e (x ∷ xs) a zero = a.0
index_all P e (x ∷ xs) a (suc k) = index_all P e xs a.1 k
