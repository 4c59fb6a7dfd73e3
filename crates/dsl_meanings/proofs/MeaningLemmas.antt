-- The meanings of rules, statement after statement.
use Rattle.std.proofs.Common.{◌≡◌, ℕ, suc, ◌+◌, ◌<◌, ◌≤◌, List, ◌∷◌, ◌++◌, length, drop, get_or, refl, sym, ap, ◌∙◌, map, Vec, Global, append_assoc, append-nil, add-one}
use Rattle.std.specs.Prelude.{flat_map}
use Rattle.std.proofs.lemmas.List.{drop_all}
use Rattle.std.proofs.lemmas.List.Folds.{flat_map-map}
use Rattle.std.proofs.Math.Seq.{drop-cons}
use Rattle.finite_sets.proofs.Lists.{map_flat}
use Rattle.grammar_model.specs.Values.{Action, RuleMeaning}
use Rattle.language_model.specs.Description.{Alternative, Statement, Start, Default, LexemeDefault, Lexeme, Discard, Empty, Quantified, Rules}
use Rattle.language_model.specs.Building.{meanings, alternatives_of}
use Rattle.dsl_statement.specs.declared.statement.Alternative.{Alternative as HeldAlternative}
use Rattle.dsl_statement.specs.declared.statement.Statement.{Statement as HeldStatement}
use Rattle.dsl_statement.specs.Statements.{statement_of}
use Rattle.dsl_meanings.specs.Meanings.{meaning_of_alternative, meanings_of, next_default}

pub alternatives_flat : (default : Action) (groups : List (Vec HeldAlternative Global)) →
    map (meaning_of_alternative default) (alternatives_of (map (λ g. g.items) groups)) ≡ flat_map (λ g. map (meaning_of_alternative default) g.items) groups
alternatives_flat default groups =
    map_flat (λ (g : List Alternative). g) (meaning_of_alternative default) (map (λ g. g.items) groups) ∙ flat_map-map (λ (g : List Alternative). map (meaning_of_alternative default) g) (λ g. g.items) groups

one_statement : (default : Action) (s : Statement) (ss : List Statement) → meanings default (s ∷ ss) ≡ meanings_of default s ++ meanings (next_default default s) ss
one_statement default (Start at name) ss = refl
one_statement default (Default at adverbs) ss = refl
one_statement default (LexemeDefault at adverbs) ss = refl
one_statement default (Lexeme at name adverbs) ss = refl
one_statement default (Discard at item adverbs) ss = refl
one_statement default (Empty left lexical adverbs) ss = refl
one_statement default (Quantified left lexical item plus adverbs) ss = refl
one_statement default (Rules left lexical groups) ss = refl

pub meanings_on : (ss : List HeldStatement) (i : ℕ) (s : HeldStatement) (default next : Action) (out after whole : List RuleMeaning) → i < length ss → s ≡ get_or ss i s → after ≡ out ++ meanings_of default (statement_of s) →
    next ≡ next_default default (statement_of s) → out ++ meanings default (map statement_of (drop i ss)) ≡ whole → after ++ meanings next (map statement_of (drop (i + 1) ss)) ≡ whole
meanings_on ss i s default next out after whole lt is a n w =
    let rest : drop i ss ≡ s ∷ drop (i + 1) ss = drop-cons ss i s lt ∙ ap (λ y. y ∷ drop (suc i) ss) (sym is) ∙ ap (λ k. s ∷ drop k ss) (sym (add-one i)) in
    ap (λ ms. ms ++ meanings next (map statement_of (drop (i + 1) ss))) a ∙ ap (λ d. (out ++ meanings_of default (statement_of s)) ++ meanings d (map statement_of (drop (i + 1) ss))) n
    ∙ append_assoc out (meanings_of default (statement_of s)) (meanings (next_default default (statement_of s)) (map statement_of (drop (i + 1) ss)))
    ∙ ap (λ ms. out ++ ms) (sym (one_statement default (statement_of s) (map statement_of (drop (i + 1) ss)))) ∙ ap (λ xs. out ++ meanings default (map statement_of xs)) (sym rest) ∙ w

pub meanings_end : (ss : List HeldStatement) (i : ℕ) (default : Action) (out whole : List RuleMeaning) → length ss ≤ i → out ++ meanings default (map statement_of (drop i ss)) ≡ whole → out ≡ whole
meanings_end ss i default out whole le w = sym (append-nil out) ∙ ap (λ xs. out ++ meanings default (map statement_of xs)) (sym (drop_all i ss le)) ∙ w
