-- Statements, printed, are read again.
use Rattle.std.proofs.Common.{◌≡◌, ◌∙◌, sym, ap, subst, refl, ℕ, ◌<◌, Bool, true, false, not, ◌&&◌, ◌||◌, List, [], ◌∷◌, ◌++◌, length, drop, codes, map, Some, None, bytes_eq, append_assoc, append-nil, arith}
use Rattle.std.specs.Prelude.{if◌then◌else◌, option_map}
use Rattle.std.specs.List.{list_all, flat_map}
use Rattle.std.proofs.lemmas.Bool.{and_parts}
use Rattle.language_model.specs.declared.token.TokenKind.{TokenKind}
use Rattle.language_model.specs.declared.token.TokenKind.TheVariants.{Word, Angle, Quote, Bracket, Pseudo, Reserved, Signed, Mark}
use Rattle.language_model.specs.Tokens.{Spelled}
use Rattle.language_model.specs.Description.{Element, Bare, Hidden, Adverb, Alternative, Statement, Start, Default, LexemeDefault, Lexeme, Discard, Empty, Quantified, Rules, is_adverb, is_element, is_alternative, is_group, is_one, is_some, is_name, is_pseudo, is_mark, is_kind_of_part, is_kind_of_single, Printed, mark, word, kept, operator, first, PrintedAs, Together, Spells, tokens_of, tokens_of_element, tokens_of_adverbs, tokens_of_alternative, tokens_of_groups}
use Rattle.dsl_reader.specs.Reading.{adverbs_of, begins_adverb}
use Rattle.dsl_reader.specs.Pieces.{first_is, is_unlike}
use Rattle.dsl_reader.specs.Forms.{behind_some, ends_elements, start_of, default_of, lexeme_default_of, lexeme_of, discard_of, pseudo_of, quantified_of, rules_of, right_of, rule_of, statement_in}
use Rattle.dsl_reader.proofs.AdverbLemmas.{same_token, kept_is, adverbs_again}
use Rattle.dsl_reader.proofs.AlternativeLemmas.{NoArrow, first_no_arrow, no_adverb, no_mark, other_mark, hidden_first, adverb_begins, printed}
use Rattle.dsl_reader.proofs.UnlikeLemmas.{printed_unlike}
use Rattle.dsl_reader.proofs.BetweenLemmas.{parted}
use Rattle.dsl_reader.proofs.GroupLemmas.{tokens_of_group, groups_again, groups_unlike}

-- a token is what was printed
pub printed_is : (p : Printed) (t : Spelled) → PrintedAs p t → (let u : Spelled = record { kind = p.kind; content = p.content; at = t.at } in u) ≡ t
printed_is p t h = same_token p.kind t.kind p.content t.content t.at t.at h.0 h.1 refl

-- STATEMENTS OF PSEUDO WORDS

start_again : (at : ℕ) (name t u v : Spelled) → is_name name ≡ true → PrintedAs (first Pseudo (codes ":start") at) t → PrintedAs (mark (codes "::=")) u → PrintedAs (kept name) v → statement_in (t ∷ u ∷ v ∷ []) ≡ Some (Start at name)
unfolding statement_in pseudo_of start_of
start_again at name t u v named h k l =
    (λ i. statement_in (sym (printed_is (first Pseudo (codes ":start") at) t h) i ∷ sym (printed_is (mark (codes "::=")) u k) i ∷ sym (kept_is name v l) i ∷ []))
    ∙ ap (λ b. behind_some (if b then Some name else None) (λ n. Some (Start t.at n))) named ∙ ap (λ a. Some (Start a name)) (sym h.2)

default_again : (at : ℕ) (adverbs : List Adverb) (t u : Spelled) (q : List Spelled) → list_all is_adverb adverbs ≡ true → PrintedAs (first Pseudo (codes ":default") at) t → PrintedAs (mark (codes "::=")) u → Together PrintedAs (tokens_of_adverbs adverbs) q → statement_in (t ∷ u ∷ q) ≡ Some (Default at adverbs)
unfolding statement_in pseudo_of default_of
default_again at adverbs t u q fine h k l =
    (λ i. statement_in (sym (printed_is (first Pseudo (codes ":default") at) t h) i ∷ sym (printed_is (mark (codes "::=")) u k) i ∷ q))
    ∙ ap (option_map (Default t.at)) (adverbs_again adverbs q fine l) ∙ ap (λ a. Some (Default a adverbs)) (sym h.2)

lexeme_again : (at : ℕ) (name : Spelled) (adverbs : List Adverb) (t u v : Spelled) (q : List Spelled) → is_name name ≡ true → list_all is_adverb adverbs ≡ true → PrintedAs (first Pseudo (codes ":lexeme") at) t → PrintedAs (mark (codes "~")) u → PrintedAs (kept name) v → Together PrintedAs (tokens_of_adverbs adverbs) q → statement_in (t ∷ u ∷ v ∷ q) ≡ Some (Lexeme at name adverbs)
unfolding statement_in pseudo_of lexeme_of
lexeme_again at name adverbs t u v q named fine h k l m =
    (λ i. statement_in (sym (printed_is (first Pseudo (codes ":lexeme") at) t h) i ∷ sym (printed_is (mark (codes "~")) u k) i ∷ sym (kept_is name v l) i ∷ q))
    ∙ ap (λ b. behind_some (if b then Some name else None) (λ n. option_map (Lexeme t.at n) (adverbs_of q))) named
    ∙ ap (option_map (Lexeme t.at name)) (adverbs_again adverbs q fine m) ∙ ap (λ a. Some (Lexeme a name adverbs)) (sym h.2)

discard_again : (at : ℕ) (item : Spelled) (adverbs : List Adverb) (t u v : Spelled) (q : List Spelled) → is_kind_of_single item.kind ≡ true → list_all is_adverb adverbs ≡ true → PrintedAs (first Pseudo (codes ":discard") at) t → PrintedAs (mark (codes "~")) u → PrintedAs (kept item) v → Together PrintedAs (tokens_of_adverbs adverbs) q → statement_in (t ∷ u ∷ v ∷ q) ≡ Some (Discard at item adverbs)
unfolding statement_in pseudo_of discard_of
discard_again at item adverbs t u v q single fine h k l m =
    (λ i. statement_in (sym (printed_is (first Pseudo (codes ":discard") at) t h) i ∷ sym (printed_is (mark (codes "~")) u k) i ∷ sym (kept_is item v l) i ∷ q))
    ∙ ap (λ b. behind_some (if b then Some item else None) (λ n. option_map (Discard t.at n) (adverbs_of q))) single
    ∙ ap (option_map (Discard t.at item)) (adverbs_again adverbs q fine m) ∙ ap (λ a. Some (Discard a item adverbs)) (sym h.2)

lexeme_default_again : (at : ℕ) (adverbs : List Adverb) (t d e : Spelled) (q : List Spelled) → list_all is_adverb adverbs ≡ true → PrintedAs (first Word (codes "lexeme") at) t → PrintedAs (word (codes "default")) d → PrintedAs (mark (codes "=")) e → Together PrintedAs (tokens_of_adverbs adverbs) q → statement_in (t ∷ d ∷ e ∷ q) ≡ Some (LexemeDefault at adverbs)
unfolding statement_in lexeme_default_of
lexeme_default_again at adverbs t d e q fine h k l m =
    (λ i. statement_in (sym (printed_is (first Word (codes "lexeme") at) t h) i ∷ sym (printed_is (word (codes "default")) d k) i ∷ sym (printed_is (mark (codes "=")) e l) i ∷ q))
    ∙ ap (option_map (LexemeDefault t.at)) (adverbs_again adverbs q fine m) ∙ ap (λ a. Some (LexemeDefault a adverbs)) (sym h.2)

-- RULES

name_no_pseudo : (k : TokenKind) (c : List ℕ) (at : ℕ) → is_name (record { kind = k; content = c; at = at }) ≡ true → is_pseudo (record { kind = k; content = c; at = at }) ≡ false
name_no_pseudo Word c at h = refl
name_no_pseudo Angle c at h = refl
name_no_pseudo Quote c at h = refl
name_no_pseudo Bracket c at h = refl
name_no_pseudo Reserved c at h = refl
name_no_pseudo Signed c at h = refl
name_no_pseudo Mark c at h = refl
name_no_pseudo Pseudo c at h = cc

rule_again : (left : Spelled) (lexical : Bool) (op : Spelled) (q : List Spelled) → is_name left ≡ true → PrintedAs (operator lexical) op → statement_in (left ∷ op ∷ q) ≡ right_of left lexical (left ∷ op ∷ q)
unfolding statement_in rule_of
rule_again left true op q named h =
    let P : Spelled → Type 0 = λ o. statement_in (left ∷ o ∷ q) ≡ right_of left true (left ∷ o ∷ q) in
    let pseudo : is_pseudo left ≡ false = name_no_pseudo left.kind left.content left.at named in
    subst P (printed_is (mark (codes "~")) op h) (rw (pseudo, named) refl)
rule_again left false op q named h =
    let P : Spelled → Type 0 = λ o. statement_in (left ∷ o ∷ q) ≡ right_of left false (left ∷ o ∷ q) in
    let pseudo : is_pseudo left ≡ false = name_no_pseudo left.kind left.content left.at named in
    subst P (printed_is (mark (codes "::=")) op h) (rw (pseudo, named) refl)

adverbs_end : (adverbs : List Adverb) (q : List Spelled) → Together PrintedAs (tokens_of_adverbs adverbs) q → ends_elements q ≡ true
adverbs_end adverbs [] h = refl
adverbs_end [] (t ∷ ts) h = absurd h
adverbs_end (a ∷ adverbs) (t ∷ ts) h = adverb_begins a adverbs t ts h

empty_again : (left : Spelled) (lexical : Bool) (adverbs : List Adverb) (op : Spelled) (q : List Spelled) → list_all is_adverb adverbs ≡ true → Together PrintedAs (tokens_of_adverbs adverbs) q → right_of left lexical (left ∷ op ∷ q) ≡ Some (Empty left lexical adverbs)
unfolding right_of
empty_again left lexical adverbs op q fine h = let ends = adverbs_end adverbs q h in rw ends (ap (option_map (Empty left lexical)) (adverbs_again adverbs q fine h))

single_part : (k : TokenKind) → is_kind_of_single k ≡ true → is_kind_of_part k ≡ true
single_part Word h = refl
single_part Angle h = refl
single_part Bracket h = refl
single_part Quote h = cc
single_part Reserved h = cc
single_part Signed h = cc
single_part Mark h = cc
single_part Pseudo h = cc

quantified_again : (left : Spelled) (lexical : Bool) (item : Spelled) (plus : Bool) (adverbs : List Adverb) (op v m : Spelled) (q : List Spelled) → is_kind_of_single item.kind ≡ true → list_all is_adverb adverbs ≡ true → PrintedAs (kept item) v → PrintedAs (mark (if plus then codes "+" else codes "*")) m → Together PrintedAs (tokens_of_adverbs adverbs) q
    → right_of left lexical (left ∷ op ∷ v ∷ m ∷ q) ≡ Some (Quantified left lexical item plus adverbs)
unfolding right_of quantified_of
quantified_again left lexical item true adverbs op v m q single fine h k l =
    let P : Spelled → Type 0 = λ n. right_of left lexical (left ∷ op ∷ item ∷ n ∷ q) ≡ Some (Quantified left lexical item true adverbs) in
    let comma = no_mark (codes ",") item.kind item.content item.at (single_part item.kind single) in
    let read = adverbs_again adverbs q fine l in
    (λ i. right_of left lexical (left ∷ op ∷ sym (kept_is item v h) i ∷ m ∷ q))
    ∙ subst P (printed_is (mark (codes "+")) m k) (rw (comma, single, read) refl)
quantified_again left lexical item false adverbs op v m q single fine h k l =
    let P : Spelled → Type 0 = λ n. right_of left lexical (left ∷ op ∷ item ∷ n ∷ q) ≡ Some (Quantified left lexical item false adverbs) in
    let comma = no_mark (codes ",") item.kind item.content item.at (single_part item.kind single) in
    let read = adverbs_again adverbs q fine l in
    (λ i. right_of left lexical (left ∷ op ∷ sym (kept_is item v h) i ∷ m ∷ q))
    ∙ subst P (printed_is (mark (codes "*")) m k) (rw (comma, single, read) refl)

-- the first tokens of an alternative begin no adverb
first_begins_not : (elements : List Element) (adverbs : List Adverb) (p : List Spelled) → is_some elements ≡ true → list_all is_element elements ≡ true → list_all is_adverb adverbs ≡ true → Together PrintedAs (printed elements adverbs) p → (0 < length p) × (begins_adverb p ≡ false)
first_begins_not [] adverbs p some ok fine h = absurd (let e : false ≡ true = some in clash e)
  where
    clash : false ≡ true → ⊥
    clash e = absurd cc
first_begins_not (Bare part ∷ elements) adverbs [] some ok fine h = absurd h
first_begins_not (Bare part ∷ elements) adverbs (t ∷ ts) some ok fine h =
    let parts = and_parts (is_kind_of_part part.kind) (list_all is_element elements) ok in
    let is_part : is_kind_of_part t.kind ≡ true = subst (λ (x : Spelled). is_kind_of_part x.kind ≡ true) (kept_is part t h.0) parts.0 in
    (omega arith, no_adverb t ts (no_mark (codes ",") t.kind t.content t.at is_part) (first_no_arrow elements adverbs ts parts.1 fine h.1))
first_begins_not (Hidden parts ∷ elements) adverbs [] some ok fine h = absurd h
first_begins_not (Hidden parts ∷ elements) adverbs (t ∷ ts) some ok fine h =
    let oks = and_parts (is_some parts && list_all (λ t. is_kind_of_part t.kind) parts) (list_all is_element elements) ok in
    let ins = and_parts (is_some parts) (list_all (λ t. is_kind_of_part t.kind) parts) oks.0 in
    let inside : Together PrintedAs ((map kept parts ++ mark (codes ")") ∷ []) ++ printed elements adverbs) ts =
    subst (λ l. Together PrintedAs l ts) (append_assoc (map kept parts ++ mark (codes ")") ∷ []) (flat_map tokens_of_element elements) (tokens_of_adverbs adverbs)) h.1 in
    (omega arith, no_adverb t ts (other_mark (codes ",") (codes "(") t.kind t.content t.at refl h.0.0 h.0.1) (hidden_first parts (printed elements adverbs) ts ins.0 ins.1 inside))

-- an alternative at the front, before no arrow
pub record IsPrefixed (q : List Spelled) : Type 0 where
  pub prefix : List Spelled
  pub back : List Spelled
  pub whole : q ≡ prefix ++ back
  pub some : 0 < length prefix
  pub begins : begins_adverb prefix ≡ false
  pub no_arrow : NoArrow back

alternative_prefixed : (a : Alternative) (p back q : List Spelled) → is_alternative a ≡ true → Together PrintedAs (tokens_of_alternative a) p → q ≡ p ++ back → NoArrow back → IsPrefixed q
alternative_prefixed a p back q fine h whole no_arrow =
    let outer = and_parts (is_some a.elements && list_all is_element a.elements) (list_all is_adverb a.adverbs) fine in
    let inner = and_parts (is_some a.elements) (list_all is_element a.elements) outer.0 in
    let facts = first_begins_not a.elements a.adverbs p inner.0 inner.1 outer.1 h in
    record { prefix = p; back = back; whole = whole; some = facts.0; begins = facts.1; no_arrow = no_arrow }

mark_no_arrow : (m : List ℕ) (ps : List Printed) (s : List Spelled) → bytes_eq m (codes "=>") ≡ false → Together PrintedAs (mark m ∷ ps) s → NoArrow s
mark_no_arrow m ps [] e h = tt
mark_no_arrow m ps (t ∷ ts) e h = other_mark (codes "=>") m t.kind t.content t.at e h.0.0 h.0.1

no_arrow_append : (p s : List Spelled) → NoArrow p → NoArrow s → NoArrow (p ++ s)
no_arrow_append [] s h k = k
no_arrow_append (t ∷ p) s h k = h

group_prefixed : (g : List Alternative) (p back q : List Spelled) → is_group g ≡ true → Together PrintedAs (tokens_of_group g) p → q ≡ p ++ back → NoArrow back → IsPrefixed q
group_prefixed [] p back q fine h whole no_arrow = absurd (let e : false ≡ true = fine in clash e)
  where
    clash : false ≡ true → ⊥
    clash e = absurd cc
group_prefixed (a ∷ []) p back q fine h whole no_arrow = alternative_prefixed a p back q (and_parts (is_alternative a) true fine).0 h whole no_arrow
group_prefixed (a ∷ b ∷ g) p back q fine h whole no_arrow =
    let split = parted (tokens_of_alternative a) (mark (codes "|") ∷ tokens_of_group (b ∷ g)) p h in
    alternative_prefixed a split.first (split.second ++ back) q (and_parts (is_alternative a) (list_all is_alternative (b ∷ g)) fine).0 split.before
    (whole ∙ ap (λ l. l ++ back) split.whole ∙ append_assoc split.first split.second back)
    (no_arrow_append split.second back (mark_no_arrow (codes "|") (tokens_of_group (b ∷ g)) split.second refl split.behind) no_arrow)

groups_prefixed : (gs : List (List Alternative)) (q : List Spelled) → is_some gs ≡ true → list_all is_group gs ≡ true → Together PrintedAs (tokens_of_groups gs) q → IsPrefixed q
groups_prefixed [] q some fine h = absurd (let e : false ≡ true = some in clash e)
  where
    clash : false ≡ true → ⊥
    clash e = absurd cc
groups_prefixed (g ∷ []) q some fine h = group_prefixed g q [] q (and_parts (is_group g) true fine).0 h (sym (append-nil q)) tt
groups_prefixed (g ∷ k ∷ gs) q some fine h =
    let split = parted (tokens_of_group g) (mark (codes "||") ∷ tokens_of_groups (k ∷ gs)) q h in
    group_prefixed g split.first split.second q (and_parts (is_group g) (list_all is_group (k ∷ gs)) fine).0 split.before split.whole (mark_no_arrow (codes "||") (tokens_of_groups (k ∷ gs)) split.second refl split.behind)

begins_seam : (prefix back : List Spelled) → 0 < length prefix → begins_adverb prefix ≡ false → NoArrow back → ends_elements (prefix ++ back) ≡ false
begins_seam [] back h e k = absurd (omega arith)
begins_seam (t ∷ []) [] h e k = e
begins_seam (t ∷ []) (u ∷ back) h e k = ap (λ b. b || is_mark (codes "=>") u) e ∙ k
begins_seam (t ∷ u ∷ prefix) back h e k = e

prefixed_goes_on : (q : List Spelled) → IsPrefixed q → ends_elements q ≡ false
prefixed_goes_on q f = ap ends_elements f.whole ∙ begins_seam f.prefix f.back f.some f.begins f.no_arrow

unlike_second : (m : List ℕ) (q : List Spelled) → list_all (is_unlike m) q ≡ true → first_is (is_mark m) (drop 1 q) ≡ false
unlike_second m [] h = refl
unlike_second m (t ∷ []) h = refl
unlike_second m (t ∷ u ∷ q) h = no_true (is_mark m u) (and_parts (not (is_mark m u)) (list_all (is_unlike m) q) (and_parts (not (is_mark m t)) (list_all (is_unlike m) (u ∷ q)) h).1).0
  where
    no_true : (b : Bool) → not b ≡ true → b ≡ false
    no_true true e = cc
    no_true false e = refl

one_some : (gs : List (List Alternative)) → is_one gs ≡ true → is_some gs ≡ true
one_some [] h = cc
one_some (g ∷ gs) h = refl

shape_some : (lexical : Bool) (gs : List (List Alternative)) → (if lexical then is_one gs else is_some gs) ≡ true → (is_some gs ≡ true) × ((lexical && not (is_one gs)) ≡ false)
shape_some true gs h = (one_some gs h, ap not h)
shape_some false gs h = (h, refl)

rules_again : (left : Spelled) (lexical : Bool) (gs : List (List Alternative)) (op : Spelled) (q : List Spelled) → list_all is_group gs ≡ true → (if lexical then is_one gs else is_some gs) ≡ true → Together PrintedAs (tokens_of_groups gs) q → right_of left lexical (left ∷ op ∷ q) ≡ Some (Rules left lexical gs)
unfolding right_of rules_of
rules_again left lexical gs op q fine shape h =
    let shaped = shape_some lexical gs shape in
    let goes_on = prefixed_goes_on q (groups_prefixed gs q shaped.0 fine h) in
    let star = unlike_second (codes "*") q (printed_unlike (codes "*") (tokens_of_groups gs) q (groups_unlike (codes "*") (record { comma = refl; arrow = refl; opens = refl; closes = refl; ranking = refl }) refl refl gs fine) h) in
    let plus = unlike_second (codes "+") q (printed_unlike (codes "+") (tokens_of_groups gs) q (groups_unlike (codes "+") (record { comma = refl; arrow = refl; opens = refl; closes = refl; ranking = refl }) refl refl gs fine) h) in
    let read = groups_again gs q shaped.0 fine h in
    let one = shaped.1 in
    rw (goes_on, star, plus, read, one) refl

-- ALL STATEMENTS

pub statement_again : (s : Statement) (p : List Spelled) → Spells s p → statement_in p ≡ Some s
unfolding tokens_of
statement_again (Start at name) [] h = absurd h.1
statement_again (Start at name) (t ∷ []) h = absurd h.1.1
statement_again (Start at name) (t ∷ u ∷ []) h = absurd h.1.1.1
statement_again (Start at name) (t ∷ u ∷ v ∷ []) h = start_again at name t u v h.0 h.1.0 h.1.1.0 h.1.1.1.0
statement_again (Start at name) (t ∷ u ∷ v ∷ w ∷ q) h = absurd h.1.1.1.1
statement_again (Default at adverbs) [] h = absurd h.1
statement_again (Default at adverbs) (t ∷ []) h = absurd h.1.1
statement_again (Default at adverbs) (t ∷ u ∷ q) h = default_again at adverbs t u q h.0 h.1.0 h.1.1.0 h.1.1.1
statement_again (LexemeDefault at adverbs) [] h = absurd h.1
statement_again (LexemeDefault at adverbs) (t ∷ []) h = absurd h.1.1
statement_again (LexemeDefault at adverbs) (t ∷ d ∷ []) h = absurd h.1.1.1
statement_again (LexemeDefault at adverbs) (t ∷ d ∷ e ∷ q) h = lexeme_default_again at adverbs t d e q h.0 h.1.0 h.1.1.0 h.1.1.1.0 h.1.1.1.1
statement_again (Lexeme at name adverbs) [] h = absurd h.1
statement_again (Lexeme at name adverbs) (t ∷ []) h = absurd h.1.1
statement_again (Lexeme at name adverbs) (t ∷ u ∷ []) h = absurd h.1.1.1
statement_again (Lexeme at name adverbs) (t ∷ u ∷ v ∷ q) h = let ok = and_parts (is_name name) (list_all is_adverb adverbs) h.0 in lexeme_again at name adverbs t u v q ok.0 ok.1 h.1.0 h.1.1.0 h.1.1.1.0 h.1.1.1.1
statement_again (Discard at item adverbs) [] h = absurd h.1
statement_again (Discard at item adverbs) (t ∷ []) h = absurd h.1.1
statement_again (Discard at item adverbs) (t ∷ u ∷ []) h = absurd h.1.1.1
statement_again (Discard at item adverbs) (t ∷ u ∷ v ∷ q) h = let ok = and_parts (is_kind_of_single item.kind) (list_all is_adverb adverbs) h.0 in discard_again at item adverbs t u v q ok.0 ok.1 h.1.0 h.1.1.0 h.1.1.1.0 h.1.1.1.1
statement_again (Empty left lexical adverbs) [] h = absurd h.1
statement_again (Empty left lexical adverbs) (t ∷ []) h = absurd h.1.1
statement_again (Empty left lexical adverbs) (t ∷ op ∷ q) h =
    let ok = and_parts (is_name left) (list_all is_adverb adverbs) h.0 in
    ap (λ l. statement_in (l ∷ op ∷ q)) (sym (kept_is left t h.1.0)) ∙ rule_again left lexical op q ok.0 h.1.1.0 ∙ empty_again left lexical adverbs op q ok.1 h.1.1.1
statement_again (Quantified left lexical item plus adverbs) [] h = absurd h.1
statement_again (Quantified left lexical item plus adverbs) (t ∷ []) h = absurd h.1.1
statement_again (Quantified left lexical item plus adverbs) (t ∷ op ∷ []) h = absurd h.1.1.1
statement_again (Quantified left lexical item plus adverbs) (t ∷ op ∷ v ∷ []) h = absurd h.1.1.1.1
statement_again (Quantified left lexical item plus adverbs) (t ∷ op ∷ v ∷ m ∷ q) h =
    let ok = and_parts (is_name left && is_kind_of_single item.kind) (list_all is_adverb adverbs) h.0 in
    let both = and_parts (is_name left) (is_kind_of_single item.kind) ok.0 in
    ap (λ l. statement_in (l ∷ op ∷ v ∷ m ∷ q)) (sym (kept_is left t h.1.0)) ∙ rule_again left lexical op (v ∷ m ∷ q) both.0 h.1.1.0 ∙ quantified_again left lexical item plus adverbs op v m q both.1 ok.1 h.1.1.1.0 h.1.1.1.1.0 h.1.1.1.1.1
statement_again (Rules left lexical groups) [] h = absurd h.1
statement_again (Rules left lexical groups) (t ∷ []) h = absurd h.1.1
statement_again (Rules left lexical groups) (t ∷ op ∷ q) h =
    let ok = and_parts (is_name left && list_all is_group groups) (if lexical then is_one groups else is_some groups) h.0 in
    let both = and_parts (is_name left) (list_all is_group groups) ok.0 in
    ap (λ l. statement_in (l ∷ op ∷ q)) (sym (kept_is left t h.1.0)) ∙ rule_again left lexical op q both.0 h.1.1.0 ∙ rules_again left lexical groups op q both.1 ok.1 h.1.1.1
