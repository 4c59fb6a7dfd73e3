-- Statements that were read, printed, are the tokens.
use Rattle.std.proofs.Common.{◌≡◌, ◌∙◌, sym, subst, refl, ℕ, Bool, true, false, not, ◌&&◌, ◌||◌, List, [], ◌∷◌, drop, codes, Option, Some, None}
use Rattle.std.specs.Prelude.{if◌then◌else◌, option_map}
use Rattle.std.specs.List.{list_all}
use Rattle.std.proofs.lemmas.Bool.{and_parts}
use Rattle.std.specs.Cmp.Derive.{both_true}
use Rattle.language_model.specs.declared.token.TokenKind.{TokenKind}
use Rattle.language_model.specs.declared.token.TokenKind.TheVariants.{Word, Angle, Quote, Bracket, Pseudo, Reserved, Signed, Mark}
use Rattle.language_model.specs.Tokens.{Spelled}
use Rattle.language_model.specs.Description.{Adverb, Alternative, Statement, Start, Default, LexemeDefault, Lexeme, Discard, Empty, Quantified, Rules, is_adverb, is_one, is_some, is_name, is_pseudo, is_mark, is_word_of, is_kind_of_single, mark, word, kept, operator, first, PrintedAs, Together, Spells, tokens_of, tokens_of_adverbs}
use Rattle.dsl_reader.specs.Reading.{adverbs_of}
use Rattle.dsl_reader.specs.Pieces.{first_is, is_pseudo_of}
use Rattle.dsl_reader.specs.Forms.{behind_some, ends_elements, groups_of, default_begins, start_of, default_of, lexeme_default_of, lexeme_of, discard_of, pseudo_of, quantified_of, rules_of, right_of, rule_of, statement_in}
use Rattle.dsl_reader.proofs.AdverbLemmas.{same_texts, mark_parts, adverbs_takes}
use Rattle.dsl_reader.proofs.GroupLemmas.{groups_takes}

clash : {A : Type 0} → false ≡ true → A
clash e = cc

-- a token that reads as a word, or as a pseudo word, is that word
word_parts : (content : List ℕ) (k : TokenKind) (c : List ℕ) (at : ℕ) → is_word_of content (record { kind = k; content = c; at = at }) ≡ true → (Word ≡ k) × (content ≡ c)
word_parts content Word c at h = (refl, same_texts c content h)
word_parts content Mark c at h = clash h
word_parts content Angle c at h = clash h
word_parts content Quote c at h = clash h
word_parts content Bracket c at h = clash h
word_parts content Pseudo c at h = clash h
word_parts content Reserved c at h = clash h
word_parts content Signed c at h = clash h

pseudo_parts : (content : List ℕ) (k : TokenKind) (c : List ℕ) (at : ℕ) → is_pseudo_of content (record { kind = k; content = c; at = at }) ≡ true → (Pseudo ≡ k) × (content ≡ c)
pseudo_parts content Pseudo c at h = (refl, same_texts c content h)
pseudo_parts content Mark c at h = clash h
pseudo_parts content Angle c at h = clash h
pseudo_parts content Quote c at h = clash h
pseudo_parts content Bracket c at h = clash h
pseudo_parts content Word c at h = clash h
pseudo_parts content Reserved c at h = clash h
pseudo_parts content Signed c at h = clash h

pub mark_printed : (m : List ℕ) (t : Spelled) → is_mark m t ≡ true → PrintedAs (mark m) t
mark_printed m t h = let parts = mark_parts m t.kind t.content t.at h in (parts.0, parts.1, tt)

word_printed : (m : List ℕ) (t : Spelled) → is_word_of m t ≡ true → PrintedAs (word m) t
word_printed m t h = let parts = word_parts m t.kind t.content t.at h in (parts.0, parts.1, tt)

first_word_printed : (m : List ℕ) (t : Spelled) → is_word_of m t ≡ true → PrintedAs (first Word m t.at) t
first_word_printed m t h = let parts = word_parts m t.kind t.content t.at h in (parts.0, parts.1, refl)

pseudo_printed : (m : List ℕ) (t : Spelled) → is_pseudo_of m t ≡ true → PrintedAs (first Pseudo m t.at) t
pseudo_printed m t h = let parts = pseudo_parts m t.kind t.content t.at h in (parts.0, parts.1, refl)

kept_printed : (t : Spelled) → PrintedAs (kept t) t
kept_printed t = (refl, refl, refl)

-- what was read, printed, is the tokens
abbrev Said : List Spelled → Option Statement → Type 0
Said p None = Unit {0}
Said p (Some s) = Spells s p

said_if : (p : List Spelled) (b : Bool) (x y : Option Statement) → (b ≡ true → Said p x) → (b ≡ false → Said p y) → Said p (if b then x else y)
said_if p true x y f g = f refl
said_if p false x y f g = g refl

said_adverbs : (p q : List Spelled) (make : List Adverb → Statement) → ((adverbs : List Adverb) → list_all is_adverb adverbs ≡ true → Together PrintedAs (tokens_of_adverbs adverbs) q → Spells (make adverbs) p) → Said p (option_map make (adverbs_of q))
said_adverbs p q make spells = by_read (adverbs_of q) refl
  where
    by_read : (o : Option (List Adverb)) → adverbs_of q ≡ o → Said p (option_map make o)
    by_read None e = tt
    by_read (Some adverbs) e = let taken = adverbs_takes q adverbs e in spells adverbs taken.0 taken.1

said_such : (p : List Spelled) (t : Spelled) (b : Bool) (f : Spelled → Option Statement) → (b ≡ true → Said p (f t)) → Said p (behind_some (if b then Some t else None) f)
said_such p t true f g = g refl
said_such p t false f g = tt

start_said : (t u : Spelled) (q : List Spelled) → is_pseudo_of (codes ":start") t ≡ true → is_mark (codes "::=") u ≡ true → Said (t ∷ u ∷ q) (start_of (t ∷ u ∷ q))
unfolding start_of tokens_of
start_said t u [] h k = tt
start_said t u (v ∷ []) h k = said_such (t ∷ u ∷ v ∷ []) v (is_name v) (λ n. Some (Start t.at n)) (λ named. (named, (pseudo_printed (codes ":start") t h, (mark_printed (codes "::=") u k, (kept_printed v, tt)))))
start_said t u (v ∷ w ∷ q) h k = said_such (t ∷ u ∷ v ∷ w ∷ q) v (is_name v) (λ n. None) (λ named. tt)

default_said : (t u : Spelled) (q : List Spelled) → is_pseudo_of (codes ":default") t ≡ true → is_mark (codes "::=") u ≡ true → Said (t ∷ u ∷ q) (default_of (t ∷ u ∷ q))
unfolding default_of tokens_of
default_said t u q h k = said_adverbs (t ∷ u ∷ q) q (Default t.at) (λ adverbs fine l. (fine, (pseudo_printed (codes ":default") t h, (mark_printed (codes "::=") u k, l))))

lexeme_said : (t u : Spelled) (q : List Spelled) → is_pseudo_of (codes ":lexeme") t ≡ true → is_mark (codes "~") u ≡ true → Said (t ∷ u ∷ q) (lexeme_of (t ∷ u ∷ q))
unfolding lexeme_of tokens_of
lexeme_said t u [] h k = tt
lexeme_said t u (v ∷ q) h k = said_such (t ∷ u ∷ v ∷ q) v (is_name v) (λ n. option_map (Lexeme t.at n) (adverbs_of q)) (λ named. said_adverbs (t ∷ u ∷ v ∷ q) q (Lexeme t.at v) (λ adverbs fine l. (both_true named fine, (pseudo_printed (codes ":lexeme") t h, (mark_printed (codes "~") u k, (kept_printed v, l))))))

discard_said : (t u : Spelled) (q : List Spelled) → is_pseudo_of (codes ":discard") t ≡ true → is_mark (codes "~") u ≡ true → Said (t ∷ u ∷ q) (discard_of (t ∷ u ∷ q))
unfolding discard_of tokens_of
discard_said t u [] h k = tt
discard_said t u (v ∷ q) h k = said_such (t ∷ u ∷ v ∷ q) v (is_kind_of_single v.kind) (λ n. option_map (Discard t.at n) (adverbs_of q)) (λ single. said_adverbs (t ∷ u ∷ v ∷ q) q (Discard t.at v) (λ adverbs fine l. (both_true single fine, (pseudo_printed (codes ":discard") t h, (mark_printed (codes "~") u k, (kept_printed v, l))))))

none_first : (b : Bool) → (b && false) ≡ true → false ≡ true
none_first true h = h
none_first false h = h

pseudo_said : (p : List Spelled) → Said p (pseudo_of p)
unfolding pseudo_of
pseudo_said [] = tt
pseudo_said (t ∷ []) =
    said_if (t ∷ []) (is_pseudo_of (codes ":start") t && false) _ _ (λ h. clash (none_first _ h)) (λ _.
    said_if (t ∷ []) (is_pseudo_of (codes ":default") t && false) _ _ (λ h. clash (none_first _ h)) (λ _.
    said_if (t ∷ []) (is_pseudo_of (codes ":lexeme") t && false) _ _ (λ h. clash (none_first _ h)) (λ _.
    said_if (t ∷ []) (is_pseudo_of (codes ":discard") t && false) _ None (λ h. clash (none_first _ h)) (λ _. tt))))
pseudo_said (t ∷ u ∷ q) =
    said_if (t ∷ u ∷ q) (is_pseudo_of (codes ":start") t && is_mark (codes "::=") u) _ _ (λ h. let both = and_parts (is_pseudo_of (codes ":start") t) (is_mark (codes "::=") u) h in start_said t u q both.0 both.1) (λ _.
    said_if (t ∷ u ∷ q) (is_pseudo_of (codes ":default") t && is_mark (codes "::=") u) _ _ (λ h. let both = and_parts (is_pseudo_of (codes ":default") t) (is_mark (codes "::=") u) h in default_said t u q both.0 both.1) (λ _.
    said_if (t ∷ u ∷ q) (is_pseudo_of (codes ":lexeme") t && is_mark (codes "~") u) _ _ (λ h. let both = and_parts (is_pseudo_of (codes ":lexeme") t) (is_mark (codes "~") u) h in lexeme_said t u q both.0 both.1) (λ _.
    said_if (t ∷ u ∷ q) (is_pseudo_of (codes ":discard") t && is_mark (codes "~") u) _ None (λ h. let both = and_parts (is_pseudo_of (codes ":discard") t) (is_mark (codes "~") u) h in discard_said t u q both.0 both.1) (λ _. tt))))

-- RULES

counted_printed : (m : Spelled) → (is_mark (codes "*") m || is_mark (codes "+") m) ≡ true → PrintedAs (mark (if is_mark (codes "+") m then codes "+" else codes "*")) m
counted_printed m h = by_plus (is_mark (codes "+") m) refl
  where
    left_of : (a b : Bool) → (a || b) ≡ true → b ≡ false → a ≡ true
    left_of true b e f = refl
    left_of false b e f = sym f ∙ e

    by_plus : (b : Bool) → is_mark (codes "+") m ≡ b → PrintedAs (mark (if b then codes "+" else codes "*")) m
    by_plus true e = mark_printed (codes "+") m e
    by_plus false e = mark_printed (codes "*") m (left_of (is_mark (codes "*") m) (is_mark (codes "+") m) h e)

quantified_said : (left : Spelled) (lexical : Bool) (op : Spelled) (q : List Spelled) → is_name left ≡ true → PrintedAs (operator lexical) op → (first_is (is_mark (codes "*")) (drop 1 q) || first_is (is_mark (codes "+")) (drop 1 q)) ≡ true → Said (left ∷ op ∷ q) (quantified_of left lexical (left ∷ op ∷ q))
unfolding quantified_of tokens_of
quantified_said left lexical op [] named h counted = tt
quantified_said left lexical op (v ∷ []) named h counted = clash counted
quantified_said left lexical op (v ∷ m ∷ q) named h counted =
    said_such (left ∷ op ∷ v ∷ m ∷ q) v (is_kind_of_single v.kind) (λ n. option_map (Quantified left lexical n (is_mark (codes "+") m)) (adverbs_of q)) (λ single.
    said_adverbs (left ∷ op ∷ v ∷ m ∷ q) q (Quantified left lexical v (is_mark (codes "+") m)) (λ adverbs fine l. (both_true (both_true named single) fine, (kept_printed left, (h, (kept_printed v, (counted_printed m counted, l)))))))

shape_of : (lexical : Bool) (gs : List (List Alternative)) → is_some gs ≡ true → (lexical && not (is_one gs)) ≡ false → (if lexical then is_one gs else is_some gs) ≡ true
shape_of true gs some h = not_false (is_one gs) h
  where
    not_false : (b : Bool) → not b ≡ false → b ≡ true
    not_false true e = refl
    not_false false e = cc
shape_of false gs some h = some

rules_said : (left : Spelled) (lexical : Bool) (op : Spelled) (q : List Spelled) → is_name left ≡ true → PrintedAs (operator lexical) op → Said (left ∷ op ∷ q) (rules_of left lexical (left ∷ op ∷ q))
unfolding rules_of tokens_of
rules_said left lexical op q named h = by_read (groups_of q) refl
  where
    by_read : (o : Option (List (List Alternative))) → groups_of q ≡ o → Said (left ∷ op ∷ q) (behind_some o (λ groups. if lexical && not (is_one groups) then None else Some (Rules left lexical groups)))
    by_read None e = tt
    by_read (Some gs) e =
        let taken = groups_takes q gs e in
        said_if (left ∷ op ∷ q) (lexical && not (is_one gs)) None (Some (Rules left lexical gs)) (λ _. tt) (λ f. (both_true (both_true named taken.1) (shape_of lexical gs taken.0 f), (kept_printed left, (h, taken.2))))

right_said : (left : Spelled) (lexical : Bool) (op : Spelled) (q : List Spelled) → is_name left ≡ true → PrintedAs (operator lexical) op → Said (left ∷ op ∷ q) (right_of left lexical (left ∷ op ∷ q))
unfolding right_of tokens_of
right_said left lexical op q named h =
    said_if (left ∷ op ∷ q) (ends_elements q) (option_map (Empty left lexical) (adverbs_of q)) _ (λ _. said_adverbs (left ∷ op ∷ q) q (Empty left lexical) (λ adverbs fine l. (both_true named fine, (kept_printed left, (h, l))))) (λ _.
    said_if (left ∷ op ∷ q) (first_is (is_mark (codes "*")) (drop 1 q) || first_is (is_mark (codes "+")) (drop 1 q)) (quantified_of left lexical (left ∷ op ∷ q)) (rules_of left lexical (left ∷ op ∷ q)) (λ counted. quantified_said left lexical op q named h counted) (λ _. rules_said left lexical op q named h))

operator_printed : (op : Spelled) → (is_mark (codes "::=") op || is_mark (codes "~") op) ≡ true → PrintedAs (operator (is_mark (codes "~") op)) op
operator_printed op h = by_lexical (is_mark (codes "~") op) refl
  where
    left_of : (a b : Bool) → (a || b) ≡ true → b ≡ false → a ≡ true
    left_of true b e f = refl
    left_of false b e f = sym f ∙ e

    by_lexical : (b : Bool) → is_mark (codes "~") op ≡ b → PrintedAs (operator b) op
    by_lexical true e = mark_printed (codes "~") op e
    by_lexical false e = mark_printed (codes "::=") op (left_of (is_mark (codes "::=") op) (is_mark (codes "~") op) h e)

rule_said : (t op : Spelled) (q : List Spelled) → (is_mark (codes "::=") op || is_mark (codes "~") op) ≡ true → Said (t ∷ op ∷ q) (rule_of (t ∷ op ∷ q))
unfolding rule_of
rule_said t op q h = said_such (t ∷ op ∷ q) t (is_name t) (λ left. right_of left (is_mark (codes "~") op) (t ∷ op ∷ q)) (λ named. right_said t (is_mark (codes "~") op) op q named (operator_printed op h))

lexeme_default_said : (p : List Spelled) → default_begins p ≡ true → Said p (lexeme_default_of p)
unfolding lexeme_default_of tokens_of
lexeme_default_said [] h = clash h
lexeme_default_said (t ∷ []) h = clash (and_parts (is_word_of (codes "lexeme") t && false) false h).1
lexeme_default_said (t ∷ d ∷ []) h = clash (and_parts (is_word_of (codes "lexeme") t && is_word_of (codes "default") d) false h).1
lexeme_default_said (t ∷ d ∷ e ∷ q) h =
    let outer = and_parts (is_word_of (codes "lexeme") t && is_word_of (codes "default") d) (is_mark (codes "=") e) h in
    let inner = and_parts (is_word_of (codes "lexeme") t) (is_word_of (codes "default") d) outer.0 in
    said_adverbs (t ∷ d ∷ e ∷ q) q (LexemeDefault t.at) (λ adverbs fine l. (fine, (first_word_printed (codes "lexeme") t inner.0, (word_printed (codes "default") d inner.1, (mark_printed (codes "=") e outer.1, l)))))

behind_pseudo : (p : List Spelled) → Said p (if first_is (is_mark (codes "::=")) (drop 1 p) || first_is (is_mark (codes "~")) (drop 1 p) then rule_of p else (if default_begins p then lexeme_default_of p else None))
behind_pseudo [] = tt
behind_pseudo (t ∷ []) = said_if (t ∷ []) (default_begins (t ∷ [])) (lexeme_default_of (t ∷ [])) None (λ h. lexeme_default_said (t ∷ []) h) (λ _. tt)
behind_pseudo (t ∷ op ∷ q) =
    said_if (t ∷ op ∷ q) (is_mark (codes "::=") op || is_mark (codes "~") op) (rule_of (t ∷ op ∷ q)) (if default_begins (t ∷ op ∷ q) then lexeme_default_of (t ∷ op ∷ q) else None) (λ h. rule_said t op q h) (λ _.
    said_if (t ∷ op ∷ q) (default_begins (t ∷ op ∷ q)) (lexeme_default_of (t ∷ op ∷ q)) None (λ h. lexeme_default_said (t ∷ op ∷ q) h) (λ _. tt))

statement_said : (p : List Spelled) → Said p (statement_in p)
unfolding statement_in
statement_said p = said_if p (first_is is_pseudo p) (pseudo_of p) _ (λ _. pseudo_said p) (λ _. behind_pseudo p)

pub statement_takes : (p : List Spelled) (s : Statement) → statement_in p ≡ Some s → Spells s p
statement_takes p s e = subst (Said p) e (statement_said p)
