-- Tokens have one description, or one bad statement.
use Rattle.std.proofs.Common.{◌≡◌, ◌∙◌, sym, ap, subst, refl, ℕ, List, [], ◌∷◌, ◌++◌, Option, Some}
use Rattle.language_model.specs.Tokens.{Spelled}
use Rattle.language_model.specs.Description.{Statement, Spells, Together, Describes, IsBadStatement}
use Rattle.dsl_reader.proofs.AgainStatement.{statement_again}

same_some : (s r : Statement) → (let o : Option Statement = Some s in o) ≡ Some r → s ≡ r
same_some s r e = cc

pub one_statement : (s r : Statement) (p : List Spelled) → Spells s p → Spells r p → s ≡ r
one_statement s r p h k = same_some s r (sym (statement_again s p h) ∙ statement_again r p k)

pub one_list : (ss rs : List Statement) (ps : List (List Spelled)) → Together Spells ss ps → Together Spells rs ps → ss ≡ rs
one_list [] [] [] h k = refl
one_list [] (r ∷ rs) [] h k = absurd k
one_list (s ∷ ss) rs [] h k = absurd h
one_list [] rs (p ∷ ps) h k = absurd h
one_list (s ∷ ss) [] (p ∷ ps) h k = absurd k
one_list (s ∷ ss) (r ∷ rs) (p ∷ ps) h k =
    let first = one_statement s r p h.0 k.0 in
    let rest = one_list ss rs ps h.1 k.1 in cc

-- statements of all pieces are statements of each
spelled_piece : (ss : List Statement) (good rest : List (List Spelled)) (p : List Spelled) → Together Spells ss (good ++ p ∷ rest) → (s : Statement) × Spells s p
spelled_piece [] [] rest p h = absurd h
spelled_piece (s ∷ ss) [] rest p h = (s, h.0)
spelled_piece [] (q ∷ good) rest p h = absurd h
spelled_piece (s ∷ ss) (q ∷ good) rest p h = spelled_piece ss good rest p h.1

pub no_bad_statement : (ds : List Statement) (tokens : List Spelled) (at : ℕ) → Describes ds tokens → IsBadStatement tokens at → ⊥
no_bad_statement ds tokens at h bad =
    let found = spelled_piece ds bad.good bad.rest (bad.bad ∷ bad.behind) (subst (Together Spells ds) bad.pieces h) in
    bad.none found.0 found.1

-- the first pieces that are no statements are the same
first_bad : (ss rs : List Statement) (good other : List (List Spelled)) (t u : Spelled) (ts us : List Spelled) (rest rest' : List (List Spelled)) → good ++ (t ∷ ts) ∷ rest ≡ other ++ (u ∷ us) ∷ rest' → Together Spells ss good → Together Spells rs other
    → ((s : Statement) → Spells s (t ∷ ts) → ⊥) → ((s : Statement) → Spells s (u ∷ us) → ⊥) → t ≡ u
first_bad ss rs [] [] t u ts us rest rest' e h k f g = cc
first_bad ss [] [] (q ∷ other) t u ts us rest rest' e h k f g = absurd k
first_bad ss (r ∷ rs) [] (q ∷ other) t u ts us rest rest' e h k f g = let same : q ≡ t ∷ ts = cc in absurd (f r (subst (Spells r) same k.0))
first_bad [] rs (q ∷ good) [] t u ts us rest rest' e h k f g = absurd h
first_bad (s ∷ ss) rs (q ∷ good) [] t u ts us rest rest' e h k f g = let same : q ≡ u ∷ us = cc in absurd (g s (subst (Spells s) same h.0))
first_bad [] rs (q ∷ good) (q' ∷ other) t u ts us rest rest' e h k f g = absurd h
first_bad (s ∷ ss) [] (q ∷ good) (q' ∷ other) t u ts us rest rest' e h k f g = absurd k
first_bad (s ∷ ss) (r ∷ rs) (q ∷ good) (q' ∷ other) t u ts us rest rest' e h k f g =
    let same : good ++ (t ∷ ts) ∷ rest ≡ other ++ (u ∷ us) ∷ rest' = cc in
    first_bad ss rs good other t u ts us rest rest' same h.1 k.1 f g

pub one_bad_statement : (tokens : List Spelled) (at other : ℕ) → IsBadStatement tokens at → IsBadStatement tokens other → at ≡ other
one_bad_statement tokens at other a b =
    let same = first_bad a.statements b.statements a.good b.good a.bad b.bad a.behind b.behind a.rest b.rest (sym a.pieces ∙ b.pieces) a.described b.described a.none b.none in
    sym a.place ∙ ap (λ (t : Spelled). t.at) same ∙ b.place
