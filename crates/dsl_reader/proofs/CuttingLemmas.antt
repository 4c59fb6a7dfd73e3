-- Reading the pieces, one token further.
use Rattle.std.proofs.Common.{◌≡◌, ◌∙◌, sym, ap, subst, refl, ℕ, zero, suc, ◌+◌, ◌-◌, ◌<◌, ◌≤◌, Bool, true, false, ◌&&◌, ◌||◌, List, [], ◌∷◌, ◌++◌, length, drop, take, codes, filter, None, append_assoc, append-nil, arith, get_or, length-append}
use Rattle.std.specs.List.{All, slice_range}
use Rattle.std.proofs.lemmas.List.{length-drop, length-take, length-take-le, drop-append-le}
use Rattle.std.proofs.Math.ListN.{drop_of_length-le}
use Rattle.std.proofs.Math.Seq.{take-add}
use Rattle.language_model.specs.declared.token.TokenKind.TheVariants.{Angle}
use Rattle.language_model.specs.declared.token.Token.{Token}
use Rattle.language_model.specs.Tokens.{Spelled, IsSpelling, IsLongest, LeadTo, AreTokens}
use Rattle.language_model.specs.Description.{Statement, IsBadStatement, Spells, Together, Describes, is_some, is_mark, is_name, is_pseudo, is_word_of, begins_piece, onto_first, cut, pieces_of}
use Rattle.dsl_reader.specs.Pieces.{IsPlaced, first_is, first_place}
use Rattle.dsl_reader.specs.Forms.{piece_begins, statement_in}
use Rattle.dsl_reader.specs.Cutting.{IsAdded, IsNoStatement, Refuses}
use Rattle.dsl_reader.specs.declared.refusal.StatementRefusal.{StatementRefusal}
use Rattle.dsl_reader.specs.declared.refusal.StatementRefusal.TheVariants.{BadStatement, NoMemory}
use Rattle.dsl_reader.proofs.CutLemmas.{quiet_step, begin_step}
use Rattle.dsl_reader.proofs.ReadingLemmas.{drop_more}
use Rattle.dsl_reader.proofs.AgainStatement.{statement_again}
use Rattle.dsl_reader.proofs.TakenStatement.{statement_takes}

-- tokens before the first of the pieces
abbrev pub onto : List Spelled → List (List Spelled) → List (List Spelled)
onto q [] = q ∷ []
onto q (p ∷ ps) = (q ++ p) ∷ ps

-- the pieces before a token are read as statements, and the one that it stands in began at another token
pub record IsRead (tokens : List Spelled) (statements : List Statement) (from at : ℕ) : Type 0 where
  pub good : List (List Spelled)
  pub spelled : Together Spells statements good
  pub pieces : pieces_of tokens ≡ good ++ filter is_some (onto (drop from (take at tokens)) (cut (drop at tokens)))
  pub order : from ≤ at
  pub within : at ≤ length tokens

-- TOKENS WITHIN THE TEXT

angle_long : (text : List ℕ) → IsSpelling Angle text → 2 ≤ length text
angle_long text (inner, e, spaced, some) = omega (arith, ap length e, length-append inner (codes ">"))

placed_one : (text : List ℕ) (t : Token) → IsLongest text t → IsPlaced text t
placed_one text t l = record {
  order = omega (arith, l.some);
  within = l.within;
  ends = λ e.
      let spelled : IsSpelling Angle (slice_range text t.from t.to) = subst (λ k. IsSpelling k (slice_range text t.from t.to)) e l.spelled in
      omega (arith, angle_long (slice_range text t.from t.to) spelled, length-take-le (t.to - t.from) (drop t.from text) (omega (arith, length-drop t.from text, l.within)), l.within);
}

led_placed : (text : List ℕ) (at : ℕ) (ts : List Token) (place : ℕ) → LeadTo text at ts place → (k : ℕ) (d : Token) → k < length ts → IsPlaced text (get_or ts k d)
led_placed text at [] place h k d l = absurd (omega arith)
led_placed text at (t ∷ ts) place h zero d l = placed_one text t h.1
led_placed text at (t ∷ ts) place h (suc k) d l = led_placed text t.to ts place h.2 k d (omega arith)

pub all_placed : (text : List ℕ) (ts us : List Token) → us ≡ ts → AreTokens text ts → All (IsPlaced text) us
all_placed text ts us e h = λ k d l. led_placed text 0 us (length text) (subst (λ (x : List Token). LeadTo text 0 x (length text)) (sym e) h) k d l

-- WHERE A PIECE BEGINS

no_third : (p r l d : Bool) → (p || r || (l && d && false)) ≡ (p || r)
no_third true r l d = refl
no_third false true l d = refl
no_third false false true true = refl
no_third false false true false = refl
no_third false false false d = refl

no_second : (p n l : Bool) → (p || (n && (false || false)) || (l && false && false)) ≡ p
no_second true n l = refl
no_second false true true = refl
no_second false true false = refl
no_second false false true = refl
no_second false false false = refl

begins_is : (ts : List Spelled) → piece_begins ts ≡ begins_piece ts
begins_is [] = refl
begins_is (t ∷ []) = no_second (is_pseudo t) (is_name t) (is_word_of (codes "lexeme") t)
begins_is (t ∷ u ∷ []) = no_third (is_pseudo t) (is_name t && (is_mark (codes "::=") u || is_mark (codes "~") u)) (is_word_of (codes "lexeme") t) (is_word_of (codes "default") u)
begins_is (t ∷ u ∷ v ∷ ts) = refl

-- PIECES

nothing_onto : (l : List (List Spelled)) → filter is_some (onto [] l) ≡ filter is_some l
nothing_onto [] = refl
nothing_onto (p ∷ ps) = refl

one_onto : (t : Spelled) (l : List (List Spelled)) → onto (t ∷ []) l ≡ onto_first t l
one_onto t [] = refl
one_onto t (p ∷ ps) = refl

onto_push : (q : List Spelled) (t : Spelled) (l : List (List Spelled)) → onto q (onto_first t l) ≡ onto (q ++ t ∷ []) l
onto_push q t [] = refl
onto_push q t (p ∷ ps) = ap (λ x. x ∷ ps) (sym (append_assoc q (t ∷ []) p))

first_piece : (q : List Spelled) (rest : List (List Spelled)) → filter is_some (onto q ([] ∷ rest)) ≡ filter is_some (q ∷ []) ++ filter is_some rest
first_piece [] rest = refl
first_piece (t ∷ q) rest = ap (λ x. (t ∷ x) ∷ filter is_some rest) (append-nil q)

-- the token at a place, and those after it
record IsCell (ts : List Spelled) (at : ℕ) : Type 0 where
  pub token : Spelled
  pub is : drop at ts ≡ token ∷ drop (at + 1) ts

cell_first : (xs : List Spelled) → 0 < length xs → (t : Spelled) × (xs ≡ t ∷ drop 1 xs)
cell_first [] h = absurd (omega arith)
cell_first (t ∷ xs) h = (t, refl)

cell_of : (ts : List Spelled) (at : ℕ) → at < length ts → IsCell ts at
cell_of ts at h =
    let first = cell_first (drop at ts) (omega (arith, length-drop at ts)) in
    record { token = first.0; is = first.1 ∙ ap (λ l. first.0 ∷ l) (sym (drop_more 1 at ts)) }

one_longer : (ts : List Spelled) (from at : ℕ) (t : Spelled) → drop at ts ≡ t ∷ drop (at + 1) ts → from ≤ at → at ≤ length ts → drop from (take (at + 1) ts) ≡ drop from (take at ts) ++ t ∷ []
one_longer ts from at t e h l =
    ap (drop from) (take-add at 1 ts ∙ ap (λ x. take at ts ++ take 1 x) e)
    ∙ drop-append-le from (take at ts) (t ∷ []) (omega (arith, length-take-le at ts l))

none_left : (ts : List Spelled) (n : ℕ) → drop n (take n ts) ≡ []
none_left ts n = drop_of_length-le (take n ts) (omega (arith, length-take n ts))

end_step : (t : Spelled) (ts : List Spelled) → is_mark (codes ";") t ≡ true → cut (t ∷ ts) ≡ [] ∷ cut ts
unfolding cut
end_step t ts e = rw e refl

cut_nothing : cut [] ≡ [] ∷ []
unfolding cut
cut_nothing = refl

-- STATEMENTS AND THEIR PIECES

together_push : (ss : List Statement) (good : List (List Spelled)) (s : Statement) (p : List Spelled) → Together Spells ss good → Spells s p → Together Spells (ss ++ s ∷ []) (good ++ p ∷ [])
together_push [] [] s p h k = (k, tt)
together_push [] (q ∷ good) s p h k = absurd h
together_push (r ∷ ss) [] s p h k = absurd h
together_push (r ∷ ss) (q ∷ good) s p h k = (h.0, together_push ss good s p h.1 k)

added_spelled : (ss ss' : List Statement) (good : List (List Spelled)) (q : List Spelled) → Together Spells ss good → IsAdded ss q ss' → Together Spells ss' (good ++ filter is_some (q ∷ []))
added_spelled ss ss' good [] h same = subst (λ x. Together Spells x (good ++ [])) (sym same) (subst (Together Spells ss) (sym (append-nil good)) h)
added_spelled ss ss' good (t ∷ q) h (s, e, made) = subst (λ x. Together Spells x (good ++ (t ∷ q) ∷ [])) (sym made) (together_push ss good s (t ∷ q) h (statement_takes (t ∷ q) s e))

regrouped : (tokens q : List Spelled) (good rest : List (List Spelled)) → pieces_of tokens ≡ good ++ filter is_some (onto q ([] ∷ rest)) → pieces_of tokens ≡ (good ++ filter is_some (q ∷ [])) ++ filter is_some rest
regrouped tokens q good rest h = h ∙ ap (λ l. good ++ l) (first_piece q rest) ∙ sym (append_assoc good (filter is_some (q ∷ [])) (filter is_some rest))

cut_at : (tokens : List Spelled) (statements : List Statement) (from at : ℕ) (l : List (List Spelled)) → (r : IsRead tokens statements from at) → cut (drop at tokens) ≡ l → pieces_of tokens ≡ r.good ++ filter is_some (onto (drop from (take at tokens)) l)
cut_at tokens statements from at l r e = r.pieces ∙ ap (λ x. r.good ++ filter is_some (onto (drop from (take at tokens)) x)) e

-- STEPS

first_token : (p : Spelled → Bool) (ts : List Spelled) (at : ℕ) (t : Spelled) (b : Bool) → drop at ts ≡ t ∷ drop (at + 1) ts → first_is p (drop at ts) ≡ b → p t ≡ b
first_token p ts at t b e h = sym (ap (first_is p) e) ∙ h

pub read_semicolon : (ts : List Spelled) (ss ss' : List Statement) (from at : ℕ) → IsRead ts ss from at → at < length ts → first_is (is_mark (codes ";")) (drop at ts) ≡ true → IsAdded ss (drop from (take at ts)) ss' → IsRead ts ss' (at + 1) (at + 1)
read_semicolon ts ss ss' from at r h ends added =
    let cell = cell_of ts at h in
    let q = drop from (take at ts) in
    let rest = cut (drop (at + 1) ts) in
    let cuts : cut (drop at ts) ≡ [] ∷ rest = ap cut cell.is ∙ end_step cell.token (drop (at + 1) ts) (first_token (is_mark (codes ";")) ts at cell.token true cell.is ends) in
    record {
      good = r.good ++ filter is_some (q ∷ []);
      spelled = added_spelled ss ss' r.good q r.spelled added;
      pieces = regrouped ts q r.good rest (cut_at ts ss from at ([] ∷ rest) r cuts) ∙ ap (λ l. (r.good ++ filter is_some (q ∷ [])) ++ l) (sym (nothing_onto rest) ∙ ap (λ x. filter is_some (onto x rest)) (sym (none_left ts (at + 1))));
      order = omega arith;
      within = omega arith;
    }

pub read_begin : (ts : List Spelled) (ss ss' : List Statement) (from at : ℕ) → IsRead ts ss from at → at < length ts → first_is (is_mark (codes ";")) (drop at ts) ≡ false → piece_begins (drop at ts) ≡ true → IsAdded ss (drop from (take at ts)) ss' → IsRead ts ss' at (at + 1)
read_begin ts ss ss' from at r h goes_on begins added =
    let cell = cell_of ts at h in
    let q = drop from (take at ts) in
    let rest = onto_first cell.token (cut (drop (at + 1) ts)) in
    let cuts : cut (drop at ts) ≡ [] ∷ rest = ap cut cell.is ∙ begin_step cell.token (drop (at + 1) ts) (first_token (is_mark (codes ";")) ts at cell.token false cell.is goes_on) (sym (ap begins_piece cell.is) ∙ sym (begins_is (drop at ts)) ∙ begins) in
    let one : drop at (take (at + 1) ts) ≡ cell.token ∷ [] = one_longer ts at at cell.token cell.is (omega arith) (omega arith) ∙ ap (λ x. x ++ cell.token ∷ []) (none_left ts at) in
    record {
      good = r.good ++ filter is_some (q ∷ []);
      spelled = added_spelled ss ss' r.good q r.spelled added;
      pieces = regrouped ts q r.good rest (cut_at ts ss from at ([] ∷ rest) r cuts) ∙ ap (λ l. (r.good ++ filter is_some (q ∷ [])) ++ filter is_some l) (sym (one_onto cell.token (cut (drop (at + 1) ts))) ∙ ap (λ x. onto x (cut (drop (at + 1) ts))) (sym one));
      order = omega arith;
      within = omega arith;
    }

pub read_on : (ts : List Spelled) (ss : List Statement) (from at : ℕ) → IsRead ts ss from at → at < length ts → first_is (is_mark (codes ";")) (drop at ts) ≡ false → piece_begins (drop at ts) ≡ false → IsRead ts ss from (at + 1)
read_on ts ss from at r h goes_on begins =
    let cell = cell_of ts at h in
    let rest = cut (drop (at + 1) ts) in
    let cuts : cut (drop at ts) ≡ onto_first cell.token rest = ap cut cell.is ∙ quiet_step cell.token (drop (at + 1) ts) (first_token (is_mark (codes ";")) ts at cell.token false cell.is goes_on) (sym (ap begins_piece cell.is) ∙ sym (begins_is (drop at ts)) ∙ begins) in
    record {
      good = r.good;
      spelled = r.spelled;
      pieces = cut_at ts ss from at (onto_first cell.token rest) r cuts ∙ ap (λ l. r.good ++ filter is_some l) (onto_push (drop from (take at ts)) cell.token rest ∙ ap (λ x. onto x rest) (sym (one_longer ts from at cell.token cell.is r.order r.within)));
      order = omega (arith, r.order);
      within = omega arith;
    }

at_end : (ts : List Spelled) (ss : List Statement) (from at : ℕ) → (r : IsRead ts ss from at) → length ts ≤ at → cut (drop at ts) ≡ [] ∷ []
at_end ts ss from at r h = ap cut (drop_of_length-le ts h) ∙ cut_nothing

pub read_end : (ts : List Spelled) (ss ss' : List Statement) (from at n : ℕ) → IsRead ts ss from at → length ts ≤ at → n ≡ length ts → IsAdded ss (drop from (take n ts)) ss' → Describes ss' ts
read_end ts ss ss' from at n r h e added =
    let here : n ≡ at = omega (arith, e, r.within) in
    let q = drop from (take at ts) in
    let spelled = added_spelled ss ss' r.good q r.spelled (subst (λ k. IsAdded ss (drop from (take k ts)) ss') here added) in
    subst (Together Spells ss') (sym (regrouped ts q r.good [] (cut_at ts ss from at ([] ∷ []) r (at_end ts ss from at r h)) ∙ append-nil (r.good ++ filter is_some (q ∷ [])))) spelled

-- REFUSALS

none_spells : (p : List Spelled) → statement_in p ≡ None → (s : Statement) → Spells s p → ⊥
none_spells p e s h = let both = sym e ∙ statement_again s p h in absurd cc

bad_piece : (ts q : List Spelled) (ss : List Statement) (good rest : List (List Spelled)) (at : ℕ) → Together Spells ss good → pieces_of ts ≡ (good ++ filter is_some (q ∷ [])) ++ rest → (is_some q ≡ true) × (statement_in q ≡ None) × (first_place q ≡ at) → IsBadStatement ts at
bad_piece ts [] ss good rest at spelled pieces h = absurd (let e : false ≡ true = h.0 in clash e)
  where
    clash : false ≡ true → ⊥
    clash e = absurd cc
bad_piece ts (t ∷ q) ss good rest at spelled pieces h = record {
  good = good;
  bad = t;
  behind = q;
  rest = rest;
  pieces = pieces ∙ append_assoc good ((t ∷ q) ∷ []) rest;
  statements = ss;
  described = spelled;
  none = none_spells (t ∷ q) h.1;
  place = h.2;
}

refused_at : (ts : List Spelled) (ss : List Statement) (from at : ℕ) (rest : List (List Spelled)) (e : StatementRefusal) → IsRead ts ss from at → cut (drop at ts) ≡ [] ∷ rest → IsNoStatement (drop from (take at ts)) e → Refuses ts e
refused_at ts ss from at rest NoMemory r cuts h = tt
refused_at ts ss from at rest (BadStatement n) r cuts h = bad_piece ts (drop from (take at ts)) ss r.good (filter is_some rest) n r.spelled (regrouped ts (drop from (take at ts)) r.good rest (cut_at ts ss from at ([] ∷ rest) r cuts)) h

pub refused_semicolon : (ts : List Spelled) (ss : List Statement) (from at : ℕ) (e : StatementRefusal) → IsRead ts ss from at → at < length ts → first_is (is_mark (codes ";")) (drop at ts) ≡ true → IsNoStatement (drop from (take at ts)) e → Refuses ts e
refused_semicolon ts ss from at e r h ends bad =
    let cell = cell_of ts at h in
    refused_at ts ss from at (cut (drop (at + 1) ts)) e r (ap cut cell.is ∙ end_step cell.token (drop (at + 1) ts) (first_token (is_mark (codes ";")) ts at cell.token true cell.is ends)) bad

pub refused_begin : (ts : List Spelled) (ss : List Statement) (from at : ℕ) (e : StatementRefusal) → IsRead ts ss from at → at < length ts → first_is (is_mark (codes ";")) (drop at ts) ≡ false → piece_begins (drop at ts) ≡ true → IsNoStatement (drop from (take at ts)) e → Refuses ts e
refused_begin ts ss from at e r h goes_on begins bad =
    let cell = cell_of ts at h in
    refused_at ts ss from at (onto_first cell.token (cut (drop (at + 1) ts))) e r (ap cut cell.is ∙ begin_step cell.token (drop (at + 1) ts) (first_token (is_mark (codes ";")) ts at cell.token false cell.is goes_on) (sym (ap begins_piece cell.is) ∙ sym (begins_is (drop at ts)) ∙ begins)) bad

pub refused_end : (ts : List Spelled) (ss : List Statement) (from at n : ℕ) (e : StatementRefusal) → IsRead ts ss from at → length ts ≤ at → n ≡ length ts → IsNoStatement (drop from (take n ts)) e → Refuses ts e
refused_end ts ss from at n e r h same bad =
    let here : n ≡ at = omega (arith, same, r.within) in
    refused_at ts ss from at [] e r (at_end ts ss from at r h) (subst (λ k. IsNoStatement (drop from (take k ts)) e) here bad)
