-- Reading an alternative, and printing it.
use Rattle.std.proofs.Common.{◌≡◌, ◌∙◌, sym, ap, subst, refl, ℕ, Bool, true, false, ◌&&◌, ◌||◌, List, [], ◌∷◌, ◌++◌, codes, Option, Some, None, bytes_eq, nat_eq, append_assoc, append-nil, map, eqb-true}
use Rattle.std.specs.Prelude.{if◌then◌else◌}
use Rattle.std.specs.List.{list_all, flat_map}
use Rattle.std.proofs.lemmas.Bool.{and_parts, or_left, or_right}
use Rattle.std.specs.Cmp.Derive.{both_true}
use Rattle.language_model.specs.declared.token.TokenKind.{TokenKind}
use Rattle.language_model.specs.declared.token.TokenKind.TheVariants.{Word, Angle, Quote, Bracket, Pseudo, Reserved, Signed, Mark}
use Rattle.language_model.specs.Tokens.{Spelled}
use Rattle.language_model.specs.Description.{Element, Bare, Hidden, Adverb, Comma, Pair, Alternative, is_adverb, is_element, is_adverb_name, is_kind_of_part, is_kind_of_value, is_some, is_mark, Printed, kept, mark, PrintedAs, Together, tokens_of_element, tokens_of_adverbs}
use Rattle.dsl_reader.specs.Reading.{adverbs_of, alternative_of, add_element, only_adverbs, begins_adverb}
use Rattle.dsl_reader.proofs.AdverbLemmas.{kept_is, mark_is, mark_parts, adverbs_again, adverbs_takes}

-- a part is no mark
pub no_mark : (content : List ℕ) (k : TokenKind) (c : List ℕ) (at : ℕ) → is_kind_of_part k ≡ true → is_mark content (record { kind = k; content = c; at = at }) ≡ false
no_mark content Word c at h = refl
no_mark content Angle c at h = refl
no_mark content Quote c at h = refl
no_mark content Bracket c at h = refl
no_mark content Pseudo c at h = refl
no_mark content Reserved c at h = refl
no_mark content Signed c at h = refl
no_mark content Mark c at h = cc

-- a mark is no part, and no other mark
mark_no_part : (k : TokenKind) → Mark ≡ k → is_kind_of_part k ≡ false
mark_no_part k e = ap is_kind_of_part (sym e)

pub other_mark : (content other : List ℕ) (k : TokenKind) (c : List ℕ) (at : ℕ) → bytes_eq other content ≡ false → Mark ≡ k → other ≡ c → is_mark content (record { kind = k; content = c; at = at }) ≡ false
other_mark content other k c at differ e f =
    let P : TokenKind → Type 0 = λ k. is_mark content (record { kind = k; content = c; at = at }) ≡ false in
    let Q : List ℕ → Type 0 = λ d. bytes_eq d content ≡ false in
    subst P e (subst Q f differ)

-- the name of an adverb is no arrow
no_arrow : (k : TokenKind) (c : List ℕ) (at : ℕ) → is_adverb_name (record { kind = k; content = c; at = at }) ≡ true → is_mark (codes "=>") (record { kind = k; content = c; at = at }) ≡ false
no_arrow Word c at h = refl
no_arrow Angle c at h = refl
no_arrow Quote c at h = refl
no_arrow Bracket c at h = refl
no_arrow Pseudo c at h = refl
no_arrow Reserved c at h = refl
no_arrow Signed c at h = refl
no_arrow Mark [] at h = refl
no_arrow Mark (x ∷ cs) at h = by_first (nat_eq x 110) refl
  where
    by_first : (b : Bool) → nat_eq x 110 ≡ b → (nat_eq x 61 && bytes_eq cs (codes ">")) ≡ false
    by_first true e = ap (λ b. b && bytes_eq cs (codes ">")) (ap (λ y. nat_eq y 61) (eqb-true x 110 e))
    by_first false e = let impossible : false ≡ true = sym (ap (λ b. b && bytes_eq cs (codes "ull-ranking")) e) ∙ h in cc

-- no arrow stands first
abbrev pub NoArrow : List Spelled → Type 0
NoArrow [] = Unit {0}
NoArrow (t ∷ ts) = is_mark (codes "=>") t ≡ false

abbrev pub printed : List Element → List Adverb → List Printed
printed elements adverbs = flat_map tokens_of_element elements ++ tokens_of_adverbs adverbs

pub first_no_arrow : (elements : List Element) (adverbs : List Adverb) (p : List Spelled) → list_all is_element elements ≡ true → list_all is_adverb adverbs ≡ true → Together PrintedAs (printed elements adverbs) p → NoArrow p
first_no_arrow elements adverbs [] ok fine h = tt
first_no_arrow [] [] (t ∷ ts) ok fine h = absurd h
first_no_arrow [] (Comma at ∷ adverbs) (t ∷ ts) ok fine h = other_mark (codes "=>") (codes ",") t.kind t.content t.at refl h.0.0 h.0.1
first_no_arrow [] (Pair name value ∷ adverbs) (t ∷ ts) ok fine h =
    let named = (and_parts (is_adverb_name name) (is_kind_of_value value.kind) (and_parts _ _ fine).0).0 in
    no_arrow t.kind t.content t.at (subst (λ x. is_adverb_name x ≡ true) (kept_is name t h.0) named)
first_no_arrow (Bare part ∷ elements) adverbs (t ∷ ts) ok fine h =
    no_mark (codes "=>") t.kind t.content t.at (subst (λ (x : Spelled). is_kind_of_part x.kind ≡ true) (kept_is part t h.0) (and_parts (is_kind_of_part part.kind) _ ok).0)
first_no_arrow (Hidden parts ∷ elements) adverbs (t ∷ ts) ok fine h = other_mark (codes "=>") (codes "(") t.kind t.content t.at refl h.0.0 h.0.1

-- neither a comma first nor an arrow second
pub no_adverb : (t : Spelled) (ts : List Spelled) → is_mark (codes ",") t ≡ false → NoArrow ts → begins_adverb (t ∷ ts) ≡ false
no_adverb t [] e h = e
no_adverb t (u ∷ ts) e h = ap (λ b. b || is_mark (codes "=>") u) e ∙ h

-- STEPS OF READING

pub bare_step : (t : Spelled) (ts : List Spelled) → begins_adverb (t ∷ ts) ≡ false → is_mark (codes "(") t ≡ false → is_kind_of_part t.kind ≡ true → alternative_of (t ∷ ts) None ≡ add_element (Bare t) (alternative_of ts None)
unfolding alternative_of
bare_step t ts e f g = rw (e, f, g) refl

pub open_step : (t : Spelled) (ts : List Spelled) → begins_adverb (t ∷ ts) ≡ false → is_mark (codes "(") t ≡ true → alternative_of (t ∷ ts) None ≡ alternative_of ts (Some [])
unfolding alternative_of
open_step t ts e f = rw (e, f) refl

pub adverb_step : (t : Spelled) (ts : List Spelled) → begins_adverb (t ∷ ts) ≡ true → alternative_of (t ∷ ts) None ≡ only_adverbs (adverbs_of (t ∷ ts))
unfolding alternative_of
adverb_step t ts e = rw e refl

pub part_step : (t : Spelled) (ts parts : List Spelled) → is_kind_of_part t.kind ≡ true → alternative_of (t ∷ ts) (Some parts) ≡ alternative_of ts (Some (parts ++ t ∷ []))
unfolding alternative_of
part_step t ts parts e = rw e refl

pub close_step : (t : Spelled) (ts parts : List Spelled) → is_kind_of_part t.kind ≡ false → (is_mark (codes ")") t && is_some parts) ≡ true → alternative_of (t ∷ ts) (Some parts) ≡ add_element (Hidden parts) (alternative_of ts None)
unfolding alternative_of
close_step t ts parts e f = rw (e, f) refl

some_end : (xs : List Spelled) (x : Spelled) → is_some (xs ++ x ∷ []) ≡ true
some_end [] x = refl
some_end (y ∷ ys) x = refl

-- the parts in round brackets, of which some are read
hidden_again : (parts prefix : List Spelled) (elements : List Element) (adverbs : List Adverb) (p : List Spelled) (a : Option Alternative) → list_all (λ t. is_kind_of_part t.kind) parts ≡ true → is_some (prefix ++ parts) ≡ true
    → Together PrintedAs ((map kept parts ++ mark (codes ")") ∷ []) ++ printed elements adverbs) p
    → ((q : List Spelled) → Together PrintedAs (printed elements adverbs) q → alternative_of q None ≡ a)
    → alternative_of p (Some prefix) ≡ add_element (Hidden (prefix ++ parts)) a
hidden_again [] prefix elements adverbs [] a ok some h rest = absurd h
hidden_again [] prefix elements adverbs (t ∷ ts) a ok some h rest =
    let named : is_some prefix ≡ true = subst (λ l. is_some l ≡ true) (append-nil prefix) some in
    close_step t ts prefix (mark_no_part t.kind h.0.0) (both_true (mark_is (codes ")") t.kind t.content t.at h.0.0 h.0.1) named)
    ∙ ap (add_element (Hidden prefix)) (rest ts h.1) ∙ ap (λ l. add_element (Hidden l) a) (sym (append-nil prefix))
hidden_again (x ∷ xs) prefix elements adverbs [] a ok some h rest = absurd h
hidden_again (x ∷ xs) prefix elements adverbs (t ∷ ts) a ok some h rest =
    let parts = and_parts (is_kind_of_part x.kind) (list_all (λ t. is_kind_of_part t.kind) xs) ok in
    let same = kept_is x t h.0 in
    let part : is_kind_of_part t.kind ≡ true = subst (λ (y : Spelled). is_kind_of_part y.kind ≡ true) same parts.0 in
    let regroup : (prefix ++ t ∷ []) ++ xs ≡ prefix ++ x ∷ xs = append_assoc prefix (t ∷ []) xs ∙ ap (λ y. prefix ++ y ∷ xs) (sym same) in
    part_step t ts prefix part
    ∙ hidden_again xs (prefix ++ t ∷ []) elements adverbs ts a parts.1 (subst (λ l. is_some l ≡ true) (sym regroup) some) h.1 rest
    ∙ ap (λ l. add_element (Hidden l) a) regroup

-- the first of parts in round brackets is no arrow
pub hidden_first : (parts : List Spelled) (rest : List Printed) (p : List Spelled) → is_some parts ≡ true → list_all (λ t. is_kind_of_part t.kind) parts ≡ true → Together PrintedAs ((map kept parts ++ mark (codes ")") ∷ []) ++ rest) p → NoArrow p
hidden_first [] rest p some ok h = absurd (let impossible : false ≡ true = some in clash impossible)
  where
    clash : false ≡ true → ⊥
    clash e = absurd cc
hidden_first (x ∷ xs) rest [] some ok h = tt
hidden_first (x ∷ xs) rest (t ∷ ts) some ok h =
    no_mark (codes "=>") t.kind t.content t.at (subst (λ (y : Spelled). is_kind_of_part y.kind ≡ true) (kept_is x t h.0) (and_parts (is_kind_of_part x.kind) _ ok).0)

-- an adverb that is printed begins one
pub adverb_begins : (a : Adverb) (adverbs : List Adverb) (t : Spelled) (ts : List Spelled) → Together PrintedAs (tokens_of_adverbs (a ∷ adverbs)) (t ∷ ts) → begins_adverb (t ∷ ts) ≡ true
adverb_begins (Comma at) adverbs t [] h = mark_is (codes ",") t.kind t.content t.at h.0.0 h.0.1
adverb_begins (Comma at) adverbs t (u ∷ ts) h = or_left _ _ (mark_is (codes ",") t.kind t.content t.at h.0.0 h.0.1)
adverb_begins (Pair name value) adverbs t [] h = absurd h.1
adverb_begins (Pair name value) adverbs t (u ∷ ts) h = or_right _ _ (mark_is (codes "=>") u.kind u.content u.at h.1.0.0 h.1.0.1)

-- what is printed is read again
pub alternative_again : (elements : List Element) (adverbs : List Adverb) (p : List Spelled) → list_all is_element elements ≡ true → list_all is_adverb adverbs ≡ true → Together PrintedAs (printed elements adverbs) p → alternative_of p None ≡ Some (record { elements = elements; adverbs = adverbs })
unfolding alternative_of
alternative_again [] [] [] ok fine h = refl
alternative_again [] [] (t ∷ ts) ok fine h = absurd h
alternative_again [] (Comma at ∷ adverbs) [] ok fine h = absurd h
alternative_again [] (Pair name value ∷ adverbs) [] ok fine h = absurd h
alternative_again [] (a ∷ adverbs) (t ∷ ts) ok fine h = adverb_step t ts (adverb_begins a adverbs t ts h) ∙ ap only_adverbs (adverbs_again (a ∷ adverbs) (t ∷ ts) fine h)
alternative_again (Bare part ∷ elements) adverbs [] ok fine h = absurd h
alternative_again (Bare part ∷ elements) adverbs (t ∷ ts) ok fine h =
    let parts = and_parts (is_kind_of_part part.kind) (list_all is_element elements) ok in
    let same = kept_is part t h.0 in
    let is_part : is_kind_of_part t.kind ≡ true = subst (λ (x : Spelled). is_kind_of_part x.kind ≡ true) same parts.0 in
    bare_step t ts (no_adverb t ts (no_mark (codes ",") t.kind t.content t.at is_part) (first_no_arrow elements adverbs ts parts.1 fine h.1)) (no_mark (codes "(") t.kind t.content t.at is_part) is_part
    ∙ ap (add_element (Bare t)) (alternative_again elements adverbs ts parts.1 fine h.1)
    ∙ ap (λ x. Some (record { elements = Bare x ∷ elements; adverbs = adverbs })) (sym same)
alternative_again (Hidden parts ∷ elements) adverbs [] ok fine h = absurd h
alternative_again (Hidden parts ∷ elements) adverbs (t ∷ ts) ok fine h =
    let oks = and_parts (is_some parts && list_all (λ t. is_kind_of_part t.kind) parts) (list_all is_element elements) ok in
    let ins = and_parts (is_some parts) (list_all (λ t. is_kind_of_part t.kind) parts) oks.0 in
    let inside : Together PrintedAs ((map kept parts ++ mark (codes ")") ∷ []) ++ printed elements adverbs) ts =
    subst (λ l. Together PrintedAs l ts) (append_assoc (map kept parts ++ mark (codes ")") ∷ []) (flat_map tokens_of_element elements) (tokens_of_adverbs adverbs)) h.1 in
    open_step t ts (no_adverb t ts (other_mark (codes ",") (codes "(") t.kind t.content t.at refl h.0.0 h.0.1) (hidden_first parts (printed elements adverbs) ts ins.0 ins.1 inside)) (mark_is (codes "(") t.kind t.content t.at h.0.0 h.0.1)
    ∙ hidden_again parts [] elements adverbs ts _ ins.1 ins.0 inside (λ q g. alternative_again elements adverbs q oks.1 fine g)

-- WHAT IS READ, PRINTED, IS THE TOKENS

-- what was read after parts of a bracket, if one is open
abbrev Taken : Option (List Spelled) → List Spelled → Option Alternative → Type 0
Taken state tokens None = Unit {0}
Taken None tokens (Some a) = (list_all is_element a.elements ≡ true) × (list_all is_adverb a.adverbs ≡ true) × Together PrintedAs (printed a.elements a.adverbs) tokens
Taken (Some prefix) tokens (Some a) = (parts : List Spelled) × (elements : List Element) × (a.elements ≡ Hidden (prefix ++ parts) ∷ elements) × (list_all (λ t. is_kind_of_part t.kind) parts ≡ true) × (is_some (prefix ++ parts) ≡ true) × (list_all is_element elements ≡ true) × (list_all is_adverb a.adverbs ≡ true) × Together PrintedAs ((map kept parts ++ mark (codes ")") ∷ []) ++ printed elements a.adverbs) tokens

taken_if : (state : Option (List Spelled)) (tokens : List Spelled) (b : Bool) (x y : Option Alternative) → (b ≡ true → Taken state tokens x) → (b ≡ false → Taken state tokens y) → Taken state tokens (if b then x else y)
taken_if state tokens true x y f g = f refl
taken_if state tokens false x y f g = g refl

taken_adverbs : (tokens : List Spelled) (r : Option (List Adverb)) → adverbs_of tokens ≡ r → Taken None tokens (only_adverbs r)
taken_adverbs tokens None e = tt
taken_adverbs tokens (Some adverbs) e = let h = adverbs_takes tokens adverbs e in (refl, h.0, h.1)

taken_bare : (t : Spelled) (ts : List Spelled) (r : Option Alternative) → is_kind_of_part t.kind ≡ true → Taken None ts r → Taken None (t ∷ ts) (add_element (Bare t) r)
taken_bare t ts None part h = tt
taken_bare t ts (Some a) part h = (both_true part h.0, h.1, ((refl, refl, refl), h.2))

taken_part : (t : Spelled) (ts prefix : List Spelled) (r : Option Alternative) → is_kind_of_part t.kind ≡ true → Taken (Some (prefix ++ t ∷ [])) ts r → Taken (Some prefix) (t ∷ ts) r
taken_part t ts prefix None part h = tt
taken_part t ts prefix (Some a) part (parts, elements, is, ok, some, fine, adverbs_fine, rest) =
    let regroup = append_assoc prefix (t ∷ []) parts in
    (t ∷ parts, elements, is ∙ ap (λ l. Hidden l ∷ elements) regroup, both_true part ok, subst (λ l. is_some l ≡ true) regroup some, fine, adverbs_fine, ((refl, refl, refl), rest))

taken_close : (t : Spelled) (ts prefix : List Spelled) (r : Option Alternative) → is_mark (codes ")") t ≡ true → is_some prefix ≡ true → Taken None ts r → Taken (Some prefix) (t ∷ ts) (add_element (Hidden prefix) r)
taken_close t ts prefix None ends some h = tt
taken_close t ts prefix (Some a) ends some h =
    let m = mark_parts (codes ")") t.kind t.content t.at ends in
    ([], a.elements, ap (λ l. Hidden l ∷ a.elements) (sym (append-nil prefix)), refl, subst (λ l. is_some l ≡ true) (sym (append-nil prefix)) some, h.0, h.1, ((m.0, m.1, tt), h.2))

taken_open : (t : Spelled) (ts : List Spelled) (r : Option Alternative) → is_mark (codes "(") t ≡ true → Taken (Some []) ts r → Taken None (t ∷ ts) r
taken_open t ts None opens h = tt
taken_open t ts (Some a) opens (parts, elements, is, ok, some, fine, adverbs_fine, rest) =
    let m = mark_parts (codes "(") t.kind t.content t.at opens in
    let inside = subst (λ l. Together PrintedAs l ts) (sym (append_assoc (map kept parts ++ mark (codes ")") ∷ []) (flat_map tokens_of_element elements) (tokens_of_adverbs a.adverbs))) rest in
    let P : List Element → Type 0 = λ es. list_all is_element es ≡ true in
    let Q : List Element → Type 0 = λ es. Together PrintedAs (printed es a.adverbs) (t ∷ ts) in
    (subst P (sym is) (both_true (both_true some ok) fine), adverbs_fine, subst Q (sym is) ((m.0, m.1, tt), inside))

alternative_taken : (tokens : List Spelled) (state : Option (List Spelled)) → Taken state tokens (alternative_of tokens state)
unfolding alternative_of
alternative_taken [] None = (refl, refl, tt)
alternative_taken [] (Some prefix) = tt
alternative_taken (t ∷ ts) None =
    taken_if None (t ∷ ts) (begins_adverb (t ∷ ts)) (only_adverbs (adverbs_of (t ∷ ts))) (if is_mark (codes "(") t then alternative_of ts (Some []) else (if is_kind_of_part t.kind then add_element (Bare t) (alternative_of ts None) else None))
    (λ e. taken_adverbs (t ∷ ts) (adverbs_of (t ∷ ts)) refl)
    (λ e. taken_if None (t ∷ ts) (is_mark (codes "(") t) (alternative_of ts (Some [])) (if is_kind_of_part t.kind then add_element (Bare t) (alternative_of ts None) else None)
    (λ opens. taken_open t ts (alternative_of ts (Some [])) opens (alternative_taken ts (Some [])))
    (λ f. taken_if None (t ∷ ts) (is_kind_of_part t.kind) (add_element (Bare t) (alternative_of ts None)) None (λ part. taken_bare t ts (alternative_of ts None) part (alternative_taken ts None)) (λ g. tt)))
alternative_taken (t ∷ ts) (Some prefix) =
    taken_if (Some prefix) (t ∷ ts) (is_kind_of_part t.kind) (alternative_of ts (Some (prefix ++ t ∷ []))) (if is_mark (codes ")") t && is_some prefix then add_element (Hidden prefix) (alternative_of ts None) else None)
    (λ part. taken_part t ts prefix (alternative_of ts (Some (prefix ++ t ∷ []))) part (alternative_taken ts (Some (prefix ++ t ∷ []))))
    (λ e. taken_if (Some prefix) (t ∷ ts) (is_mark (codes ")") t && is_some prefix) (add_element (Hidden prefix) (alternative_of ts None)) None
    (λ both. let parts = and_parts (is_mark (codes ")") t) (is_some prefix) both in taken_close t ts prefix (alternative_of ts None) parts.0 parts.1 (alternative_taken ts None))
    (λ g. tt))

pub alternative_takes : (tokens : List Spelled) (a : Alternative) → alternative_of tokens None ≡ Some a → (list_all is_element a.elements ≡ true) × (list_all is_adverb a.adverbs ≡ true) × Together PrintedAs (printed a.elements a.adverbs) tokens
alternative_takes tokens a e = subst (Taken None tokens) e (alternative_taken tokens None)
