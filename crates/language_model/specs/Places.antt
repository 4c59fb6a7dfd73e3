-- Tokens and statements without their places.
use Rattle.std.specs.Prelude.{map}
use Rattle.language_model.specs.Tokens.{Spelled}
use Rattle.language_model.specs.Description.{Element, Bare, Hidden, Adverb, Comma, Pair, Alternative, Statement, Start, Default, LexemeDefault, Lexeme, Discard, Empty, Quantified, Rules}

abbrev pub unplaced_token : Spelled → Spelled
unplaced_token t = record { kind = t.kind; content = t.content; at = 0 }

abbrev pub unplaced_element : Element → Element
unplaced_element (Bare part) = Bare (unplaced_token part)
unplaced_element (Hidden parts) = Hidden (map unplaced_token parts)

abbrev pub unplaced_adverb : Adverb → Adverb
unplaced_adverb (Comma at) = Comma 0
unplaced_adverb (Pair name value) = Pair (unplaced_token name) (unplaced_token value)

abbrev pub unplaced_alternative : Alternative → Alternative
unplaced_alternative a = record { elements = map unplaced_element a.elements; adverbs = map unplaced_adverb a.adverbs }

-- the statement with each place 0
abbrev pub unplaced : Statement → Statement
unplaced (Start at name) = Start 0 (unplaced_token name)
unplaced (Default at adverbs) = Default 0 (map unplaced_adverb adverbs)
unplaced (LexemeDefault at adverbs) = LexemeDefault 0 (map unplaced_adverb adverbs)
unplaced (Lexeme at name adverbs) = Lexeme 0 (unplaced_token name) (map unplaced_adverb adverbs)
unplaced (Discard at item adverbs) = Discard 0 (unplaced_token item) (map unplaced_adverb adverbs)
unplaced (Empty left lexical adverbs) = Empty (unplaced_token left) lexical (map unplaced_adverb adverbs)
unplaced (Quantified left lexical item plus adverbs) = Quantified (unplaced_token left) lexical (unplaced_token item) plus (map unplaced_adverb adverbs)
unplaced (Rules left lexical groups) = Rules (unplaced_token left) lexical (map (map unplaced_alternative) groups)
