-- The pieces of printed statements are those statements' pieces.
use Rattle.std.proofs.Common.{◌≡◌, ◌∙◌, ap, subst, refl, ℕ, Bool, true, false, not, ◌&&◌, ◌||◌, List, [], ◌∷◌, ◌++◌, codes, filter}
use Rattle.std.specs.Prelude.{if◌then◌else◌}
use Rattle.std.specs.List.{list_all, flat_map}
use Rattle.std.proofs.lemmas.Bool.{and_parts, or_left, or_right}
use Rattle.std.specs.Cmp.Derive.{both_true}
use Rattle.language_model.specs.declared.token.TokenKind.{TokenKind}
use Rattle.language_model.specs.declared.token.TokenKind.TheVariants.{Word, Angle, Quote, Bracket, Pseudo, Reserved, Signed, Mark}
use Rattle.language_model.specs.Tokens.{Spelled}
use Rattle.language_model.specs.Description.{Adverb, Alternative, Statement, Start, Default, LexemeDefault, Lexeme, Discard, Empty, Quantified, Rules, is_adverb, is_group, is_one, is_some, is_name, is_pseudo, is_mark, is_word_of, is_kind_of_single, mark, kept, operator, first, PrintedAs, Together, Spells, tokens_of, tokens_of_adverbs, tokens_of_groups, begins_piece, onto_first, cut, pieces_of}
use Rattle.dsl_reader.proofs.AdverbLemmas.{kept_is, mark_is}
use Rattle.dsl_reader.proofs.AlternativeLemmas.{other_mark}
use Rattle.dsl_reader.proofs.CutLemmas.{AllQuiet, IsFresh, piece_cut, quiet_step, begin_step, quiet_cut}
use Rattle.dsl_reader.proofs.QuietLemmas.{quiet, printed_quiet, adverbs_quiet, groups_quiet}

-- what may stand before more tokens: it is cut off there
abbrev Cuts : List Spelled → List Spelled → List (List Spelled) → Type 0
Cuts p rest ps = (cut (p ++ rest) ≡ [] ∷ p ∷ ps) × IsFresh (p ++ rest)

-- a first token that is no mark
record IsFirst (t : Spelled) : Type 0 where
  pub rule : is_mark (codes "::=") t ≡ false
  pub lexical : is_mark (codes "~") t ≡ false
  pub equals : is_mark (codes "=") t ≡ false
  pub semicolon : is_mark (codes ";") t ≡ false

name_first : (k : TokenKind) (c : List ℕ) (at : ℕ) → is_name (record { kind = k; content = c; at = at }) ≡ true → IsFirst (record { kind = k; content = c; at = at })
name_first Word c at h = record { rule = refl; lexical = refl; equals = refl; semicolon = refl }
name_first Angle c at h = record { rule = refl; lexical = refl; equals = refl; semicolon = refl }
name_first Quote c at h = record { rule = refl; lexical = refl; equals = refl; semicolon = refl }
name_first Bracket c at h = record { rule = refl; lexical = refl; equals = refl; semicolon = refl }
name_first Pseudo c at h = record { rule = refl; lexical = refl; equals = refl; semicolon = refl }
name_first Reserved c at h = record { rule = refl; lexical = refl; equals = refl; semicolon = refl }
name_first Signed c at h = record { rule = refl; lexical = refl; equals = refl; semicolon = refl }
name_first Mark c at h = record { rule = cc; lexical = cc; equals = cc; semicolon = cc }

pseudo_first : (k : TokenKind) (c : List ℕ) (at : ℕ) → Pseudo ≡ k → IsFirst (record { kind = k; content = c; at = at }) × (is_pseudo (record { kind = k; content = c; at = at }) ≡ true)
pseudo_first k c at e =
    let P : TokenKind → Type 0 = λ k. IsFirst (record { kind = k; content = c; at = at }) × (is_pseudo (record { kind = k; content = c; at = at }) ≡ true) in
    subst P e (record { rule = refl; lexical = refl; equals = refl; semicolon = refl }, refl)

mark_facts : (k : TokenKind) (c : List ℕ) (at : ℕ) → Mark ≡ k → (is_pseudo (record { kind = k; content = c; at = at }) ≡ false) × (is_name (record { kind = k; content = c; at = at }) ≡ false) × (is_word_of (codes "lexeme") (record { kind = k; content = c; at = at }) ≡ false)
mark_facts k c at e =
    let P : TokenKind → Type 0 = λ k. (is_pseudo (record { kind = k; content = c; at = at }) ≡ false) × (is_name (record { kind = k; content = c; at = at }) ≡ false) × (is_word_of (codes "lexeme") (record { kind = k; content = c; at = at }) ≡ false) in
    subst P e (refl, refl, refl)

-- a piece that begins with a first token and an operator
header_cut : (t op : Spelled) (q rest : List Spelled) (ps : List (List Spelled)) → IsFirst t → Mark ≡ op.kind → (is_mark (codes ";") op ≡ false) → (is_mark (codes "=") op ≡ false) → ((more : List Spelled) → begins_piece (t ∷ op ∷ more) ≡ true) → AllQuiet q → IsFresh rest → cut rest ≡ [] ∷ ps → Cuts (t ∷ op ∷ q) rest ps
header_cut t op q rest ps fresh_t kind no_end no_equals begins quiet fresh h =
    let facts = mark_facts op.kind op.content op.at kind in
    (piece_cut t op q rest ps fresh_t.semicolon no_end facts.0 facts.1 facts.2 begins quiet fresh h, (fresh_t.rule, fresh_t.lexical, fresh_t.equals, no_equals))

pseudo_begins : (t op : Spelled) → is_pseudo t ≡ true → (more : List Spelled) → begins_piece (t ∷ op ∷ more) ≡ true
pseudo_begins t op h [] = or_left _ _ h
pseudo_begins t op h (u ∷ more) = or_left _ _ (or_left _ _ h)

rule_begins : (t op : Spelled) → is_name t ≡ true → (is_mark (codes "::=") op || is_mark (codes "~") op) ≡ true → (more : List Spelled) → begins_piece (t ∷ op ∷ more) ≡ true
rule_begins t op h k [] = or_right _ _ (both_true h k)
rule_begins t op h k (u ∷ more) = or_left _ _ (or_right _ _ (both_true h k))

-- a statement of a pseudo word
pseudo_cut : (c : List ℕ) (at : ℕ) (other : List ℕ) (t op : Spelled) (q rest : List Spelled) (ps : List (List Spelled)) → PrintedAs (first Pseudo c at) t → PrintedAs (mark other) op → (let ok : Bool = not (is_mark (codes ";") (record { kind = Mark; content = other; at = 0 })) && not (is_mark (codes "=") (record { kind = Mark; content = other; at = 0 })) in ok) ≡ true → AllQuiet q → IsFresh rest → cut rest ≡ [] ∷ ps → Cuts (t ∷ op ∷ q) rest ps
pseudo_cut c at other t op q rest ps first_is op_is fine quiet fresh h =
    let begins = pseudo_first t.kind t.content t.at first_is.0 in
    let parts = and_parts _ _ fine in
    header_cut t op q rest ps begins.0 op_is.0
    (other_mark (codes ";") other op.kind op.content op.at (not_true _ parts.0) op_is.0 op_is.1)
    (other_mark (codes "=") other op.kind op.content op.at (not_true _ parts.1) op_is.0 op_is.1)
    (pseudo_begins t op begins.1) quiet fresh h
  where
    not_true : (b : Bool) → not b ≡ true → b ≡ false
    not_true true h = cc
    not_true false h = refl

-- a statement of a rule
rule_cut : (left : Spelled) (lexical : Bool) (t op : Spelled) (q rest : List Spelled) (ps : List (List Spelled)) → is_name left ≡ true → PrintedAs (kept left) t → PrintedAs (operator lexical) op → AllQuiet q → IsFresh rest → cut rest ≡ [] ∷ ps → Cuts (t ∷ op ∷ q) rest ps
rule_cut left true t op q rest ps named left_is op_is quiet fresh h =
    let name : is_name t ≡ true = subst (λ x. is_name x ≡ true) (kept_is left t left_is) named in
    header_cut t op q rest ps (name_first t.kind t.content t.at name) op_is.0
    (other_mark (codes ";") (codes "~") op.kind op.content op.at refl op_is.0 op_is.1) (other_mark (codes "=") (codes "~") op.kind op.content op.at refl op_is.0 op_is.1)
    (rule_begins t op name (or_right _ _ (mark_is (codes "~") op.kind op.content op.at op_is.0 op_is.1))) quiet fresh h
rule_cut left false t op q rest ps named left_is op_is quiet fresh h =
    let name : is_name t ≡ true = subst (λ x. is_name x ≡ true) (kept_is left t left_is) named in
    header_cut t op q rest ps (name_first t.kind t.content t.at name) op_is.0
    (other_mark (codes ";") (codes "::=") op.kind op.content op.at refl op_is.0 op_is.1) (other_mark (codes "=") (codes "::=") op.kind op.content op.at refl op_is.0 op_is.1)
    (rule_begins t op name (or_left _ _ (mark_is (codes "::=") op.kind op.content op.at op_is.0 op_is.1))) quiet fresh h

-- the pieces of rules with alternatives
pub rules_cut : (left : Spelled) (lexical : Bool) (groups : List (List Alternative)) (p rest : List Spelled) (ps : List (List Spelled)) → Spells (Rules left lexical groups) p → IsFresh rest → cut rest ≡ [] ∷ ps → Cuts p rest ps
unfolding tokens_of
rules_cut left lexical groups [] rest ps h fresh k = absurd h.1
rules_cut left lexical groups (t ∷ []) rest ps h fresh k = absurd h.1.1
rules_cut left lexical groups (t ∷ op ∷ q) rest ps h fresh k =
    let ok = and_parts (is_name left && list_all is_group groups) (if lexical then is_one groups else is_some groups) h.0 in
    let both = and_parts (is_name left) (list_all is_group groups) ok.0 in
    rule_cut left lexical t op q rest ps both.0 h.1.0 h.1.1.0 (printed_quiet (tokens_of_groups groups) q (groups_quiet groups both.1) h.1.1.1) fresh k

pub empty_cut : (left : Spelled) (lexical : Bool) (adverbs : List Adverb) (p rest : List Spelled) (ps : List (List Spelled)) → Spells (Empty left lexical adverbs) p → IsFresh rest → cut rest ≡ [] ∷ ps → Cuts p rest ps
unfolding tokens_of
empty_cut left lexical adverbs [] rest ps h fresh k = absurd h.1
empty_cut left lexical adverbs (t ∷ []) rest ps h fresh k = absurd h.1.1
empty_cut left lexical adverbs (t ∷ op ∷ q) rest ps h fresh k =
    let both = and_parts (is_name left) (list_all is_adverb adverbs) h.0 in
    rule_cut left lexical t op q rest ps both.0 h.1.0 h.1.1.0 (printed_quiet (tokens_of_adverbs adverbs) q (adverbs_quiet adverbs both.1) h.1.1.1) fresh k

pub default_cut : (at : ℕ) (adverbs : List Adverb) (p rest : List Spelled) (ps : List (List Spelled)) → Spells (Default at adverbs) p → IsFresh rest → cut rest ≡ [] ∷ ps → Cuts p rest ps
unfolding tokens_of
default_cut at adverbs [] rest ps h fresh k = absurd h.1
default_cut at adverbs (t ∷ []) rest ps h fresh k = absurd h.1.1
default_cut at adverbs (t ∷ op ∷ q) rest ps h fresh k = pseudo_cut (codes ":default") at (codes "::=") t op q rest ps h.1.0 h.1.1.0 refl (printed_quiet (tokens_of_adverbs adverbs) q (adverbs_quiet adverbs h.0) h.1.1.1) fresh k

-- names and items are quiet
name_is_quiet : (k : TokenKind) (c : List ℕ) (at : ℕ) → is_name (record { kind = k; content = c; at = at }) ≡ true → quiet k c ≡ true
name_is_quiet Word c at h = refl
name_is_quiet Angle c at h = refl
name_is_quiet Quote c at h = refl
name_is_quiet Bracket c at h = refl
name_is_quiet Reserved c at h = refl
name_is_quiet Signed c at h = refl
name_is_quiet Pseudo c at h = cc
name_is_quiet Mark c at h = cc

single_is_quiet : (k : TokenKind) (c : List ℕ) → is_kind_of_single k ≡ true → quiet k c ≡ true
single_is_quiet Word c h = refl
single_is_quiet Angle c h = refl
single_is_quiet Quote c h = refl
single_is_quiet Bracket c h = refl
single_is_quiet Reserved c h = refl
single_is_quiet Signed c h = refl
single_is_quiet Pseudo c h = cc
single_is_quiet Mark c h = cc

start_cut : (at : ℕ) (name : Spelled) (p rest : List Spelled) (ps : List (List Spelled)) → Spells (Start at name) p → IsFresh rest → cut rest ≡ [] ∷ ps → Cuts p rest ps
unfolding tokens_of
start_cut at name [] rest ps h fresh k = absurd h.1
start_cut at name (t ∷ []) rest ps h fresh k = absurd h.1.1
start_cut at name (t ∷ op ∷ q) rest ps h fresh k = pseudo_cut (codes ":start") at (codes "::=") t op q rest ps h.1.0 h.1.1.0 refl (printed_quiet (kept name ∷ []) q (both_true (name_is_quiet name.kind name.content name.at h.0) refl) h.1.1.1) fresh k

lexeme_cut : (at : ℕ) (name : Spelled) (adverbs : List Adverb) (p rest : List Spelled) (ps : List (List Spelled)) → Spells (Lexeme at name adverbs) p → IsFresh rest → cut rest ≡ [] ∷ ps → Cuts p rest ps
unfolding tokens_of
lexeme_cut at name adverbs [] rest ps h fresh k = absurd h.1
lexeme_cut at name adverbs (t ∷ []) rest ps h fresh k = absurd h.1.1
lexeme_cut at name adverbs (t ∷ op ∷ q) rest ps h fresh k =
    let both = and_parts (is_name name) (list_all is_adverb adverbs) h.0 in
    pseudo_cut (codes ":lexeme") at (codes "~") t op q rest ps h.1.0 h.1.1.0 refl (printed_quiet (kept name ∷ tokens_of_adverbs adverbs) q (both_true (name_is_quiet name.kind name.content name.at both.0) (adverbs_quiet adverbs both.1)) h.1.1.1) fresh k

discard_cut : (at : ℕ) (item : Spelled) (adverbs : List Adverb) (p rest : List Spelled) (ps : List (List Spelled)) → Spells (Discard at item adverbs) p → IsFresh rest → cut rest ≡ [] ∷ ps → Cuts p rest ps
unfolding tokens_of
discard_cut at item adverbs [] rest ps h fresh k = absurd h.1
discard_cut at item adverbs (t ∷ []) rest ps h fresh k = absurd h.1.1
discard_cut at item adverbs (t ∷ op ∷ q) rest ps h fresh k =
    let both = and_parts (is_kind_of_single item.kind) (list_all is_adverb adverbs) h.0 in
    pseudo_cut (codes ":discard") at (codes "~") t op q rest ps h.1.0 h.1.1.0 refl (printed_quiet (kept item ∷ tokens_of_adverbs adverbs) q (both_true (single_is_quiet item.kind item.content both.0) (adverbs_quiet adverbs both.1)) h.1.1.1) fresh k

plus_quiet : (plus : Bool) → quiet Mark (if plus then codes "+" else codes "*") ≡ true
plus_quiet true = refl
plus_quiet false = refl

quantified_cut : (left : Spelled) (lexical : Bool) (item : Spelled) (plus : Bool) (adverbs : List Adverb) (p rest : List Spelled) (ps : List (List Spelled)) → Spells (Quantified left lexical item plus adverbs) p → IsFresh rest → cut rest ≡ [] ∷ ps → Cuts p rest ps
unfolding tokens_of
quantified_cut left lexical item plus adverbs [] rest ps h fresh k = absurd h.1
quantified_cut left lexical item plus adverbs (t ∷ []) rest ps h fresh k = absurd h.1.1
quantified_cut left lexical item plus adverbs (t ∷ op ∷ q) rest ps h fresh k =
    let ok = and_parts (is_name left && is_kind_of_single item.kind) (list_all is_adverb adverbs) h.0 in
    let both = and_parts (is_name left) (is_kind_of_single item.kind) ok.0 in
    rule_cut left lexical t op q rest ps both.0 h.1.0 h.1.1.0
    (printed_quiet (kept item ∷ mark (if plus then codes "+" else codes "*") ∷ tokens_of_adverbs adverbs) q (both_true (single_is_quiet item.kind item.content both.1) (both_true (plus_quiet plus) (adverbs_quiet adverbs ok.1))) h.1.1.1) fresh k

-- `lexeme default =` is a header of three tokens
word_facts : (content : List ℕ) (k : TokenKind) (c : List ℕ) (at : ℕ) → Word ≡ k → content ≡ c → (is_pseudo (record { kind = k; content = c; at = at }) ≡ false) × IsFirst (record { kind = k; content = c; at = at }) × ((d : List ℕ) → is_word_of d (record { kind = k; content = c; at = at }) ≡ is_word_of d (record { kind = Word; content = content; at = at }))
word_facts content k c at e f =
    let P : TokenKind → Type 0 = λ k. (is_pseudo (record { kind = k; content = c; at = at }) ≡ false) × IsFirst (record { kind = k; content = c; at = at }) × ((d : List ℕ) → is_word_of d (record { kind = k; content = c; at = at }) ≡ is_word_of d (record { kind = Word; content = content; at = at })) in
    let Q : List ℕ → Type 0 = λ c. (is_pseudo (record { kind = Word; content = c; at = at }) ≡ false) × IsFirst (record { kind = Word; content = c; at = at }) × ((d : List ℕ) → is_word_of d (record { kind = Word; content = c; at = at }) ≡ is_word_of d (record { kind = Word; content = content; at = at })) in
    subst P e (subst Q f (refl, record { rule = refl; lexical = refl; equals = refl; semicolon = refl }, λ d. refl))

lexeme_default_cut : (at : ℕ) (adverbs : List Adverb) (p rest : List Spelled) (ps : List (List Spelled)) → Spells (LexemeDefault at adverbs) p → IsFresh rest → cut rest ≡ [] ∷ ps → Cuts p rest ps
unfolding tokens_of
lexeme_default_cut at adverbs [] rest ps h fresh k = absurd h.1
lexeme_default_cut at adverbs (t ∷ []) rest ps h fresh k = absurd h.1.1
lexeme_default_cut at adverbs (t ∷ d ∷ []) rest ps h fresh k = absurd h.1.1.1
lexeme_default_cut at adverbs (t ∷ d ∷ e ∷ q) rest ps h fresh k =
    let first_is = word_facts (codes "lexeme") t.kind t.content t.at h.1.0.0 h.1.0.1 in
    let second_is = word_facts (codes "default") d.kind d.content d.at h.1.1.0.0 h.1.1.0.1 in
    let third_is = mark_facts e.kind e.content e.at h.1.1.1.0.0 in
    let no_rule = other_mark (codes "::=") (codes "=") e.kind e.content e.at refl h.1.1.1.0.0 h.1.1.1.0.1 in
    let no_lexical = other_mark (codes "~") (codes "=") e.kind e.content e.at refl h.1.1.1.0.0 h.1.1.1.0.1 in
    let no_end = other_mark (codes ";") (codes "=") e.kind e.content e.at refl h.1.1.1.0.0 h.1.1.1.0.1 in
    let equals = mark_is (codes "=") e.kind e.content e.at h.1.1.1.0.0 h.1.1.1.0.1 in
    let quiet_q = printed_quiet (tokens_of_adverbs adverbs) q (adverbs_quiet adverbs h.0) h.1.1.1.1 in
    let begins : begins_piece (t ∷ d ∷ e ∷ (q ++ rest)) ≡ true = or_right _ _ (both_true (both_true (first_is.2 (codes "lexeme")) (second_is.2 (codes "default"))) equals) in
    let at_e : cut (e ∷ (q ++ rest)) ≡ (e ∷ q) ∷ ps = quiet_step e (q ++ rest) no_end (mark_begins_not e (q ++ rest) third_is.0 third_is.1 third_is.2) ∙ ap (onto_first e) (quiet_cut q rest ps quiet_q fresh k) in
    let at_d : cut (d ∷ e ∷ (q ++ rest)) ≡ (d ∷ e ∷ q) ∷ ps = quiet_step d (e ∷ (q ++ rest)) second_is.1.semicolon (default_begins_not d e (q ++ rest) second_is.0 (second_is.2 (codes "lexeme")) no_rule no_lexical) ∙ ap (onto_first d) at_e in
    (begin_step t (d ∷ e ∷ (q ++ rest)) first_is.1.semicolon begins ∙ ap (λ l. [] ∷ onto_first t l) at_d, (first_is.1.rule, first_is.1.lexical, first_is.1.equals, second_is.1.equals))
  where
    mark_begins_not : (op : Spelled) (more : List Spelled) → is_pseudo op ≡ false → is_name op ≡ false → is_word_of (codes "lexeme") op ≡ false → begins_piece (op ∷ more) ≡ false
    mark_begins_not op [] a b c = a
    mark_begins_not op (u ∷ []) a b c = rw (a, b) refl
    mark_begins_not op (u ∷ v ∷ more) a b c = rw (a, b, c) refl

    name_no : (n a b : Bool) → a ≡ false → b ≡ false → (n && (a || b)) ≡ false
    name_no true a b e f = rw (e, f) refl
    name_no false a b e f = refl

    default_begins_not : (x y : Spelled) (more : List Spelled) → is_pseudo x ≡ false → is_word_of (codes "lexeme") x ≡ false → is_mark (codes "::=") y ≡ false → is_mark (codes "~") y ≡ false → begins_piece (x ∷ y ∷ more) ≡ false
    default_begins_not x y [] a b c d = ap (λ l. l || (is_name x && (is_mark (codes "::=") y || is_mark (codes "~") y))) a ∙ name_no (is_name x) _ _ c d
    default_begins_not x y (u ∷ more) a b c d = ap (λ l. l || (is_name x && (is_mark (codes "::=") y || is_mark (codes "~") y)) || (is_word_of (codes "lexeme") x && is_word_of (codes "default") y && is_mark (codes "=") u)) a ∙ ap (λ l. l || (is_word_of (codes "lexeme") x && is_word_of (codes "default") y && is_mark (codes "=") u)) (name_no (is_name x) _ _ c d) ∙ ap (λ l. l && is_word_of (codes "default") y && is_mark (codes "=") u) b

statement_cut : (s : Statement) (p rest : List Spelled) (ps : List (List Spelled)) → Spells s p → IsFresh rest → cut rest ≡ [] ∷ ps → Cuts p rest ps
statement_cut (Start at name) p rest ps h fresh k = start_cut at name p rest ps h fresh k
statement_cut (Default at adverbs) p rest ps h fresh k = default_cut at adverbs p rest ps h fresh k
statement_cut (LexemeDefault at adverbs) p rest ps h fresh k = lexeme_default_cut at adverbs p rest ps h fresh k
statement_cut (Lexeme at name adverbs) p rest ps h fresh k = lexeme_cut at name adverbs p rest ps h fresh k
statement_cut (Discard at item adverbs) p rest ps h fresh k = discard_cut at item adverbs p rest ps h fresh k
statement_cut (Empty left lexical adverbs) p rest ps h fresh k = empty_cut left lexical adverbs p rest ps h fresh k
statement_cut (Quantified left lexical item plus adverbs) p rest ps h fresh k = quantified_cut left lexical item plus adverbs p rest ps h fresh k
statement_cut (Rules left lexical groups) p rest ps h fresh k = rules_cut left lexical groups p rest ps h fresh k

-- a statement has a token
spelled_some : (s : Statement) (p : List Spelled) → Spells s p → is_some p ≡ true
unfolding tokens_of
spelled_some s (t ∷ p) h = refl
spelled_some (Start at name) [] h = absurd h.1
spelled_some (Default at adverbs) [] h = absurd h.1
spelled_some (LexemeDefault at adverbs) [] h = absurd h.1
spelled_some (Lexeme at name adverbs) [] h = absurd h.1
spelled_some (Discard at item adverbs) [] h = absurd h.1
spelled_some (Empty left lexical adverbs) [] h = absurd h.1
spelled_some (Quantified left lexical item plus adverbs) [] h = absurd h.1
spelled_some (Rules left lexical groups) [] h = absurd h.1

pub all_cut : (ss : List Statement) (pieces : List (List Spelled)) → Together Spells ss pieces → (cut (flat_map (λ p. p) pieces) ≡ [] ∷ pieces) × IsFresh (flat_map (λ p. p) pieces)
unfolding cut
all_cut [] [] h = (refl, tt)
all_cut [] (p ∷ ps) h = absurd h
all_cut (s ∷ ss) [] h = absurd h
all_cut (s ∷ ss) (p ∷ ps) h = let rest = all_cut ss ps h.1 in statement_cut s p (flat_map (λ p. p) ps) ps h.0 rest.1 rest.0

all_some : (ss : List Statement) (pieces : List (List Spelled)) → Together Spells ss pieces → filter is_some pieces ≡ pieces
all_some [] [] h = refl
all_some [] (p ∷ ps) h = absurd h
all_some (s ∷ ss) [] h = absurd h
all_some (s ∷ ss) (p ∷ ps) h = let some = spelled_some s p h.0 in let rest = all_some ss ps h.1 in rw (some, rest) refl

pub pieces_back : (ss : List Statement) (pieces : List (List Spelled)) → Together Spells ss pieces → pieces_of (flat_map (λ p. p) pieces) ≡ pieces
pieces_back ss pieces h = ap (filter is_some) (all_cut ss pieces h).0 ∙ all_some ss pieces h
