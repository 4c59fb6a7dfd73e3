-- What a program's statements mean: the same statements, with lists in the place of vectors.
use Rattle.std.specs.Prelude.{Bool, true, false, List, map}
use Rattle.language_model.specs.Description.{Element, Bare, Hidden, Adverb, Comma, Pair, Statement, Start, Default, LexemeDefault, Lexeme, Discard, Empty, Quantified, Rules}
use Rattle.dsl_statement.specs.declared.statement.Element.{Element as HeldElement}
use Rattle.dsl_statement.specs.declared.statement.Element.TheVariants as element
use Rattle.dsl_statement.specs.declared.statement.Adverb.{Adverb as HeldAdverb}
use Rattle.dsl_statement.specs.declared.statement.Adverb.TheVariants as adverb
use Rattle.dsl_statement.specs.declared.statement.Level.{Level}
use Rattle.dsl_statement.specs.declared.statement.Level.TheVariants.{Structural, Lexical}
use Rattle.dsl_statement.specs.declared.statement.Statement.{Statement as HeldStatement}
use Rattle.dsl_statement.specs.declared.statement.Statement.TheVariants as statement

abbrev pub element_of : HeldElement → Element
element_of (element.Bare part) = Bare part
element_of (element.Hidden parts) = Hidden parts.items

abbrev pub adverb_of : HeldAdverb → Adverb
adverb_of (adverb.Comma at) = Comma at
adverb_of (adverb.Pair name value) = Pair name value

abbrev pub adverbs_of : List HeldAdverb → List Adverb
adverbs_of adverbs = map adverb_of adverbs

abbrev pub is_lexical : Level → Bool
is_lexical Structural = false
is_lexical Lexical = true

abbrev pub statement_of : HeldStatement → Statement
statement_of (statement.Start at name) = Start at name
statement_of (statement.Default at adverbs) = Default at (adverbs_of adverbs.items)
statement_of (statement.LexemeDefault at adverbs) = LexemeDefault at (adverbs_of adverbs.items)
statement_of (statement.Lexeme at name adverbs) = Lexeme at name (adverbs_of adverbs.items)
statement_of (statement.Discard at item adverbs) = Discard at item (adverbs_of adverbs.items)
statement_of (statement.Empty left level adverbs) = Empty left (is_lexical level) (adverbs_of adverbs.items)
statement_of (statement.Quantified left level item plus adverbs) = Quantified left (is_lexical level) item plus (adverbs_of adverbs.items)
statement_of (statement.Rules left level groups) = Rules left (is_lexical level) (map (λ g. g.items) groups.items)

abbrev pub statements_of : List HeldStatement → List Statement
statements_of statements = map statement_of statements
