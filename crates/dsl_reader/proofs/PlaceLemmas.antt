-- What is printed without places.
use Rattle.std.proofs.Common.{◌≡◌, ◌∙◌, sym, ap, subst, refl, ℕ, Bool, true, false, ◌&&◌, List, [], ◌∷◌, ◌++◌, codes, map, Option, Some, None}
use Rattle.std.specs.Prelude.{if◌then◌else◌, option_map, IfSome}
use Rattle.std.specs.List.{list_all, flat_map}
use Rattle.std.proofs.lemmas.List.{map-append}
use Rattle.language_model.specs.declared.token.TokenKind.TheVariants.{Word, Pseudo, Mark}
use Rattle.language_model.specs.Tokens.{Spelled}
use Rattle.language_model.specs.Description.{Element, Bare, Hidden, Adverb, Comma, Pair, Alternative, Statement, Start, Default, LexemeDefault, Lexeme, Discard, Empty, Quantified, Rules, is_adverb, is_adverb_name, is_element, is_alternative, is_group, is_statement, is_one, is_some, is_name, is_kind_of_part, is_kind_of_single, is_kind_of_value, Printed, mark, kept, operator, PrintedAs, Together, Spells, tokens_of, tokens_of_element, tokens_of_adverbs, tokens_of_alternative, tokens_of_groups}
use Rattle.language_model.specs.Places.{unplaced_token, unplaced_element, unplaced_adverb, unplaced_alternative, unplaced}
use Rattle.dsl_reader.proofs.GroupLemmas.{tokens_of_group}
use Rattle.dsl_reader.proofs.OneDescription.{one_statement}

abbrev zero_of : ℕ → ℕ
zero_of at = 0

abbrev unplaced_printed : Printed → Printed
unplaced_printed p = record { kind = p.kind; content = p.content; at = option_map zero_of p.at }

zero_placed : (o : Option ℕ) → IfSome (option_map zero_of o) (λ (at : ℕ). at ≡ 0)
zero_placed None = tt
zero_placed (Some at) = refl

together_unplaced : (ps : List Printed) (ts : List Spelled) → Together PrintedAs ps ts → Together PrintedAs (map unplaced_printed ps) (map unplaced_token ts)
together_unplaced [] [] h = tt
together_unplaced [] (t ∷ ts) h = absurd h
together_unplaced (p ∷ ps) [] h = absurd h
together_unplaced (p ∷ ps) (t ∷ ts) h = ((h.0.0, h.0.1, zero_placed p.at), together_unplaced ps ts h.1)

-- WHAT IS PRINTED

adverbs_unplaced : (adverbs : List Adverb) → tokens_of_adverbs (map unplaced_adverb adverbs) ≡ map unplaced_printed (tokens_of_adverbs adverbs)
adverbs_unplaced [] = refl
adverbs_unplaced (Comma at ∷ adverbs) = ap (λ l. record { kind = Mark; content = codes ","; at = Some 0 } ∷ l) (adverbs_unplaced adverbs)
adverbs_unplaced (Pair name value ∷ adverbs) = ap (λ l. kept (unplaced_token name) ∷ mark (codes "=>") ∷ kept (unplaced_token value) ∷ l) (adverbs_unplaced adverbs)

parts_unplaced : (parts : List Spelled) → map kept (map unplaced_token parts) ≡ map unplaced_printed (map kept parts)
parts_unplaced [] = refl
parts_unplaced (t ∷ parts) = ap (λ l. kept (unplaced_token t) ∷ l) (parts_unplaced parts)

element_unplaced : (e : Element) → tokens_of_element (unplaced_element e) ≡ map unplaced_printed (tokens_of_element e)
element_unplaced (Bare part) = refl
element_unplaced (Hidden parts) = ap (λ l. mark (codes "(") ∷ l) (ap (λ l. l ++ mark (codes ")") ∷ []) (parts_unplaced parts) ∙ sym (map-append unplaced_printed (map kept parts) (mark (codes ")") ∷ [])))

elements_unplaced : (elements : List Element) → flat_map tokens_of_element (map unplaced_element elements) ≡ map unplaced_printed (flat_map tokens_of_element elements)
elements_unplaced [] = refl
elements_unplaced (e ∷ elements) = (λ i. element_unplaced e i ++ elements_unplaced elements i) ∙ sym (map-append unplaced_printed (tokens_of_element e) (flat_map tokens_of_element elements))

alternative_unplaced : (a : Alternative) → tokens_of_alternative (unplaced_alternative a) ≡ map unplaced_printed (tokens_of_alternative a)
alternative_unplaced a = (λ i. elements_unplaced a.elements i ++ adverbs_unplaced a.adverbs i) ∙ sym (map-append unplaced_printed (flat_map tokens_of_element a.elements) (tokens_of_adverbs a.adverbs))

group_unplaced : (g : List Alternative) → tokens_of_group (map unplaced_alternative g) ≡ map unplaced_printed (tokens_of_group g)
group_unplaced [] = refl
group_unplaced (a ∷ []) = alternative_unplaced a
group_unplaced (a ∷ b ∷ g) = (λ i. alternative_unplaced a i ++ mark (codes "|") ∷ group_unplaced (b ∷ g) i) ∙ sym (map-append unplaced_printed (tokens_of_alternative a) (mark (codes "|") ∷ tokens_of_group (b ∷ g)))

groups_unplaced : (gs : List (List Alternative)) → tokens_of_groups (map (map unplaced_alternative) gs) ≡ map unplaced_printed (tokens_of_groups gs)
groups_unplaced [] = refl
groups_unplaced (g ∷ []) = group_unplaced g
groups_unplaced (g ∷ k ∷ gs) = (λ i. group_unplaced g i ++ mark (codes "||") ∷ groups_unplaced (k ∷ gs) i) ∙ sym (map-append unplaced_printed (tokens_of_group g) (mark (codes "||") ∷ tokens_of_groups (k ∷ gs)))

statement_unplaced : (s : Statement) → tokens_of (unplaced s) ≡ map unplaced_printed (tokens_of s)
unfolding tokens_of
statement_unplaced (Start at name) = refl
statement_unplaced (Default at adverbs) = ap (λ l. record { kind = Pseudo; content = codes ":default"; at = Some 0 } ∷ mark (codes "::=") ∷ l) (adverbs_unplaced adverbs)
statement_unplaced (LexemeDefault at adverbs) = ap (λ l. record { kind = Word; content = codes "lexeme"; at = Some 0 } ∷ record { kind = Word; content = codes "default"; at = None } ∷ mark (codes "=") ∷ l) (adverbs_unplaced adverbs)
statement_unplaced (Lexeme at name adverbs) = ap (λ l. record { kind = Pseudo; content = codes ":lexeme"; at = Some 0 } ∷ mark (codes "~") ∷ kept (unplaced_token name) ∷ l) (adverbs_unplaced adverbs)
statement_unplaced (Discard at item adverbs) = ap (λ l. record { kind = Pseudo; content = codes ":discard"; at = Some 0 } ∷ mark (codes "~") ∷ kept (unplaced_token item) ∷ l) (adverbs_unplaced adverbs)
statement_unplaced (Empty left lexical adverbs) = ap (λ l. kept (unplaced_token left) ∷ operator lexical ∷ l) (adverbs_unplaced adverbs)
statement_unplaced (Quantified left lexical item plus adverbs) = ap (λ l. kept (unplaced_token left) ∷ operator lexical ∷ kept (unplaced_token item) ∷ mark (if plus then codes "+" else codes "*") ∷ l) (adverbs_unplaced adverbs)
statement_unplaced (Rules left lexical groups) = ap (λ l. kept (unplaced_token left) ∷ operator lexical ∷ l) (groups_unplaced groups)

-- WHAT IS WELL FORMED

adverbs_fine : (adverbs : List Adverb) → list_all is_adverb (map unplaced_adverb adverbs) ≡ list_all is_adverb adverbs
adverbs_fine [] = refl
adverbs_fine (Comma at ∷ adverbs) = adverbs_fine adverbs
adverbs_fine (Pair name value ∷ adverbs) = ap (λ b. (is_adverb_name name && is_kind_of_value value.kind) && b) (adverbs_fine adverbs)

parts_fine : (parts : List Spelled) → list_all (λ t. is_kind_of_part t.kind) (map unplaced_token parts) ≡ list_all (λ t. is_kind_of_part t.kind) parts
parts_fine [] = refl
parts_fine (t ∷ parts) = ap (λ b. is_kind_of_part t.kind && b) (parts_fine parts)

some_map : {A B : Type 0} (f : A → B) (xs : List A) → is_some (map f xs) ≡ is_some xs
some_map f [] = refl
some_map f (x ∷ xs) = refl

one_map : {A B : Type 0} (f : A → B) (xs : List A) → is_one (map f xs) ≡ is_one xs
one_map f [] = refl
one_map f (x ∷ []) = refl
one_map f (x ∷ y ∷ xs) = refl

element_fine : (e : Element) → is_element (unplaced_element e) ≡ is_element e
element_fine (Bare part) = refl
element_fine (Hidden parts) = λ i. some_map unplaced_token parts i && parts_fine parts i

elements_fine : (elements : List Element) → list_all is_element (map unplaced_element elements) ≡ list_all is_element elements
elements_fine [] = refl
elements_fine (e ∷ elements) = λ i. element_fine e i && elements_fine elements i

alternatives_fine : (g : List Alternative) → list_all is_alternative (map unplaced_alternative g) ≡ list_all is_alternative g
alternatives_fine [] = refl
alternatives_fine (a ∷ g) = λ i. ((some_map unplaced_element a.elements i && elements_fine a.elements i) && adverbs_fine a.adverbs i) && alternatives_fine g i

groups_fine : (gs : List (List Alternative)) → list_all is_group (map (map unplaced_alternative) gs) ≡ list_all is_group gs
groups_fine [] = refl
groups_fine (g ∷ gs) = λ i. (some_map unplaced_alternative g i && alternatives_fine g i) && groups_fine gs i

shape_kept : (lexical : Bool) (gs : List (List Alternative)) → (if lexical then is_one (map (map unplaced_alternative) gs) else is_some (map (map unplaced_alternative) gs)) ≡ (if lexical then is_one gs else is_some gs)
shape_kept true gs = one_map (map unplaced_alternative) gs
shape_kept false gs = some_map (map unplaced_alternative) gs

statement_fine : (s : Statement) → is_statement (unplaced s) ≡ is_statement s
statement_fine (Start at name) = refl
statement_fine (Default at adverbs) = adverbs_fine adverbs
statement_fine (LexemeDefault at adverbs) = adverbs_fine adverbs
statement_fine (Lexeme at name adverbs) = ap (λ b. is_name name && b) (adverbs_fine adverbs)
statement_fine (Discard at item adverbs) = ap (λ b. is_kind_of_single item.kind && b) (adverbs_fine adverbs)
statement_fine (Empty left lexical adverbs) = ap (λ b. is_name left && b) (adverbs_fine adverbs)
statement_fine (Quantified left lexical item plus adverbs) = ap (λ b. (is_name left && is_kind_of_single item.kind) && b) (adverbs_fine adverbs)
statement_fine (Rules left lexical groups) = λ i. (is_name left && groups_fine groups i) && shape_kept lexical groups i

spells_unplaced : (s : Statement) (p : List Spelled) → Spells s p → Spells (unplaced s) (map unplaced_token p)
spells_unplaced s p h = (statement_fine s ∙ h.0, subst (λ l. Together PrintedAs l (map unplaced_token p)) (sym (statement_unplaced s)) (together_unplaced (tokens_of s) p h.1))

-- statements with the same tokens are the same but for places
pub same_unplaced : (s r : Statement) (p q : List Spelled) → Spells s p → Spells r q → map unplaced_token p ≡ map unplaced_token q → unplaced s ≡ unplaced r
same_unplaced s r p q h k e = one_statement (unplaced s) (unplaced r) (map unplaced_token p) (spells_unplaced s p h) (subst (Spells (unplaced r)) (sym e) (spells_unplaced r q k))
