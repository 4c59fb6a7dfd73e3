-- Pieces that follow one another are cut where they meet.
use Rattle.std.proofs.Common.{◌≡◌, ◌∙◌, ap, refl, Bool, true, false, ◌&&◌, ◌||◌, List, [], ◌∷◌, ◌++◌, codes}
use Rattle.std.proofs.Math.Bool.{and-false}
use Rattle.language_model.specs.Tokens.{Spelled}
use Rattle.language_model.specs.Description.{is_mark, is_pseudo, is_name, is_word_of, begins_piece, onto_first, cut}

-- inside a piece: no token that begins a piece or ends one, and no operator
pub record IsQuiet (t : Spelled) : Type 0 where
  pub pseudo : is_pseudo t ≡ false
  pub rule : is_mark (codes "::=") t ≡ false
  pub lexical : is_mark (codes "~") t ≡ false
  pub equals : is_mark (codes "=") t ≡ false
  pub semicolon : is_mark (codes ";") t ≡ false

abbrev pub AllQuiet : List Spelled → Type 0
AllQuiet [] = Unit {0}
AllQuiet (t ∷ ts) = IsQuiet t × AllQuiet ts

-- what may follow a piece: nothing, or a token that is no operator, and then none that is `=`
abbrev pub IsFresh : List Spelled → Type 0
IsFresh [] = Unit {0}
IsFresh (t ∷ []) = (is_mark (codes "::=") t ≡ false) × (is_mark (codes "~") t ≡ false) × (is_mark (codes "=") t ≡ false)
IsFresh (t ∷ u ∷ ts) = (is_mark (codes "::=") t ≡ false) × (is_mark (codes "~") t ≡ false) × (is_mark (codes "=") t ≡ false) × (is_mark (codes "=") u ≡ false)

none_of_two : (n a b : Bool) → a ≡ false → b ≡ false → (n && (a || b)) ≡ false
none_of_two n a b e f = ap (λ x. n && (x || b)) e ∙ ap (λ y. n && y) f ∙ and-false n

begins_not : (t : Spelled) (ts : List Spelled) → is_pseudo t ≡ false → IsFresh ts → begins_piece (t ∷ ts) ≡ false
begins_not t [] p h = p
begins_not t (u ∷ []) p h = ap (λ b. b || (is_name t && (is_mark (codes "::=") u || is_mark (codes "~") u))) p ∙ none_of_two (is_name t) _ _ h.0 h.1
begins_not t (u ∷ v ∷ ts) p h =
    ap (λ b. b || (is_name t && (is_mark (codes "::=") u || is_mark (codes "~") u)) || (is_word_of (codes "lexeme") t && is_word_of (codes "default") u && is_mark (codes "=") v)) p
    ∙ ap (λ b. b || (is_word_of (codes "lexeme") t && is_word_of (codes "default") u && is_mark (codes "=") v)) (none_of_two (is_name t) _ _ h.0 h.1)
    ∙ ap (λ b. is_word_of (codes "lexeme") t && is_word_of (codes "default") u && b) h.3 ∙ and-false _

fresh_behind : (q rest : List Spelled) → AllQuiet q → IsFresh rest → IsFresh (q ++ rest)
fresh_behind [] rest quiet h = h
fresh_behind (t ∷ []) [] quiet h = (quiet.0.rule, quiet.0.lexical, quiet.0.equals)
fresh_behind (t ∷ []) (u ∷ []) quiet h = (quiet.0.rule, quiet.0.lexical, quiet.0.equals, h.2)
fresh_behind (t ∷ []) (u ∷ v ∷ rest) quiet h = (quiet.0.rule, quiet.0.lexical, quiet.0.equals, h.2)
fresh_behind (t ∷ u ∷ q) rest quiet h = (quiet.0.rule, quiet.0.lexical, quiet.0.equals, quiet.1.0.equals)

pub quiet_step : (t : Spelled) (ts : List Spelled) → is_mark (codes ";") t ≡ false → begins_piece (t ∷ ts) ≡ false → cut (t ∷ ts) ≡ onto_first t (cut ts)
unfolding cut
quiet_step t ts e f = rw (e, f) refl

pub begin_step : (t : Spelled) (ts : List Spelled) → is_mark (codes ";") t ≡ false → begins_piece (t ∷ ts) ≡ true → cut (t ∷ ts) ≡ [] ∷ onto_first t (cut ts)
unfolding cut
begin_step t ts e f = rw (e, f) refl

-- quiet tokens stay with the piece
pub quiet_cut : (q rest : List Spelled) (ps : List (List Spelled)) → AllQuiet q → IsFresh rest → cut rest ≡ [] ∷ ps → cut (q ++ rest) ≡ q ∷ ps
quiet_cut [] rest ps quiet fresh h = h
quiet_cut (t ∷ q) rest ps quiet fresh h =
    quiet_step t (q ++ rest) quiet.0.semicolon (begins_not t (q ++ rest) quiet.0.pseudo (fresh_behind q rest quiet.1 fresh)) ∙ ap (onto_first t) (quiet_cut q rest ps quiet.1 fresh h)

-- a piece of a rule or of a pseudo word: a first token, an operator, and quiet tokens
pub piece_cut : (t op : Spelled) (q rest : List Spelled) (ps : List (List Spelled)) → is_mark (codes ";") t ≡ false → is_mark (codes ";") op ≡ false → is_pseudo op ≡ false → is_name op ≡ false → is_word_of (codes "lexeme") op ≡ false
    → ((more : List Spelled) → begins_piece (t ∷ op ∷ more) ≡ true) → AllQuiet q → IsFresh rest → cut rest ≡ [] ∷ ps → cut (t ∷ op ∷ (q ++ rest)) ≡ [] ∷ (t ∷ op ∷ q) ∷ ps
piece_cut t op q rest ps no_end op_no_end op_no_pseudo op_no_name op_no_lexeme begins quiet fresh h =
    begin_step t (op ∷ (q ++ rest)) no_end (begins (q ++ rest))
    ∙ ap (λ l. [] ∷ onto_first t l) (quiet_step op (q ++ rest) op_no_end (op_begins_not (q ++ rest)) ∙ ap (onto_first op) (quiet_cut q rest ps quiet fresh h))
  where
    op_begins_not : (more : List Spelled) → begins_piece (op ∷ more) ≡ false
    op_begins_not [] = op_no_pseudo
    op_begins_not (u ∷ []) = rw (op_no_pseudo, op_no_name) refl
    op_begins_not (u ∷ v ∷ more) = rw (op_no_pseudo, op_no_name, op_no_lexeme) refl
