-- What a statement prints after its operator is quiet.
use Rattle.std.proofs.Common.{◌≡◌, ◌∙◌, sym, ap, subst, refl, ℕ, Bool, true, false, not, ◌&&◌, ◌||◌, List, [], ◌∷◌, ◌++◌, codes, bytes_eq, map}
use Rattle.std.specs.List.{list_all, flat_map}
use Rattle.std.proofs.lemmas.Bool.{and_parts}
use Rattle.std.proofs.lemmas.List.Folds.{list_all-append}
use Rattle.std.specs.Cmp.Derive.{both_true}
use Rattle.language_model.specs.declared.token.TokenKind.{TokenKind}
use Rattle.language_model.specs.declared.token.TokenKind.TheVariants.{Word, Angle, Quote, Bracket, Pseudo, Reserved, Signed, Mark}
use Rattle.language_model.specs.Tokens.{Spelled}
use Rattle.language_model.specs.Description.{Element, Bare, Hidden, Adverb, Comma, Pair, Alternative, is_adverb, is_element, is_alternative, is_group, is_adverb_name, is_kind_of_part, is_kind_of_value, is_some, Printed, kept, mark, joined, PrintedAs, Together, tokens_of_element, tokens_of_adverbs, tokens_of_alternative, tokens_of_groups}
use Rattle.dsl_reader.proofs.AdverbLemmas.{same_texts}
use Rattle.dsl_reader.proofs.CutLemmas.{IsQuiet, AllQuiet}

abbrev pub loud_marks : List ℕ → Bool
loud_marks c = bytes_eq c (codes "::=") || bytes_eq c (codes "~") || bytes_eq c (codes "=") || bytes_eq c (codes ";")

abbrev pub quiet : TokenKind → List ℕ → Bool
quiet Pseudo c = false
quiet Mark c = not (loud_marks c)
quiet _ c = true

not_or : (a b : Bool) → not (a || b) ≡ true → (a ≡ false) × (b ≡ false)
not_or true b h = (cc, cc)
not_or false true h = (refl, cc)
not_or false false h = (refl, refl)

is_quiet : (k : TokenKind) (c : List ℕ) (at : ℕ) → quiet k c ≡ true → IsQuiet (record { kind = k; content = c; at = at })
is_quiet Word c at h = record { pseudo = refl; rule = refl; lexical = refl; equals = refl; semicolon = refl }
is_quiet Angle c at h = record { pseudo = refl; rule = refl; lexical = refl; equals = refl; semicolon = refl }
is_quiet Quote c at h = record { pseudo = refl; rule = refl; lexical = refl; equals = refl; semicolon = refl }
is_quiet Bracket c at h = record { pseudo = refl; rule = refl; lexical = refl; equals = refl; semicolon = refl }
is_quiet Reserved c at h = record { pseudo = refl; rule = refl; lexical = refl; equals = refl; semicolon = refl }
is_quiet Signed c at h = record { pseudo = refl; rule = refl; lexical = refl; equals = refl; semicolon = refl }
is_quiet Pseudo c at h = record { pseudo = sym h; rule = refl; lexical = refl; equals = refl; semicolon = refl }
is_quiet Mark c at h =
    let last = not_or (bytes_eq c (codes "::=") || bytes_eq c (codes "~") || bytes_eq c (codes "=")) (bytes_eq c (codes ";")) h in
    let third = not_or (bytes_eq c (codes "::=") || bytes_eq c (codes "~")) (bytes_eq c (codes "=")) (ap not last.0) in
    let second = not_or (bytes_eq c (codes "::=")) (bytes_eq c (codes "~")) (ap not third.0) in
    record { pseudo = refl; rule = second.0; lexical = second.1; equals = third.1; semicolon = last.1 }

abbrev pub quiet_printed : Printed → Bool
quiet_printed p = quiet p.kind p.content

-- quiet tokens are printed as quiet tokens
pub printed_quiet : (ps : List Printed) (ts : List Spelled) → list_all quiet_printed ps ≡ true → Together PrintedAs ps ts → AllQuiet ts
printed_quiet [] [] ok h = tt
printed_quiet [] (t ∷ ts) ok h = absurd h
printed_quiet (p ∷ ps) [] ok h = absurd h
printed_quiet (p ∷ ps) (t ∷ ts) ok h =
    let parts = and_parts (quiet_printed p) (list_all quiet_printed ps) ok in
    let P : TokenKind → Type 0 = λ k. quiet k p.content ≡ true in
    let Q : List ℕ → Type 0 = λ c. quiet t.kind c ≡ true in
    (is_quiet t.kind t.content t.at (subst Q h.0.1 (subst P h.0.0 parts.0)), printed_quiet ps ts parts.1 h.1)

part_quiet : (k : TokenKind) (c : List ℕ) → is_kind_of_part k ≡ true → quiet k c ≡ true
part_quiet Word c h = refl
part_quiet Angle c h = refl
part_quiet Quote c h = refl
part_quiet Bracket c h = refl
part_quiet Reserved c h = refl
part_quiet Signed c h = refl
part_quiet Pseudo c h = cc
part_quiet Mark c h = cc

value_quiet : (k : TokenKind) (c : List ℕ) → is_kind_of_value k ≡ true → quiet k c ≡ true
value_quiet Word c h = refl
value_quiet Angle c h = refl
value_quiet Quote c h = refl
value_quiet Bracket c h = refl
value_quiet Reserved c h = refl
value_quiet Signed c h = refl
value_quiet Pseudo c h = cc
value_quiet Mark c h = cc

name_quiet : (k : TokenKind) (c : List ℕ) (at : ℕ) → is_adverb_name (record { kind = k; content = c; at = at }) ≡ true → quiet k c ≡ true
name_quiet Word c at h = refl
name_quiet Angle c at h = refl
name_quiet Quote c at h = refl
name_quiet Bracket c at h = refl
name_quiet Reserved c at h = refl
name_quiet Signed c at h = refl
name_quiet Pseudo c at h = cc
name_quiet Mark c at h = ap (λ d. not (loud_marks d)) (sym (same_texts c (codes "null-ranking") h))

pub adverbs_quiet : (adverbs : List Adverb) → list_all is_adverb adverbs ≡ true → list_all quiet_printed (tokens_of_adverbs adverbs) ≡ true
adverbs_quiet [] ok = refl
adverbs_quiet (Comma at ∷ adverbs) ok = adverbs_quiet adverbs ok
adverbs_quiet (Pair name value ∷ adverbs) ok =
    let parts = and_parts (is_adverb_name name && is_kind_of_value value.kind) (list_all is_adverb adverbs) ok in
    let both = and_parts (is_adverb_name name) (is_kind_of_value value.kind) parts.0 in
    both_true (name_quiet name.kind name.content name.at both.0) (both_true (value_quiet value.kind value.content both.1) (adverbs_quiet adverbs parts.1))

parts_quiet : (parts : List Spelled) → list_all (λ t. is_kind_of_part t.kind) parts ≡ true → list_all quiet_printed (map kept parts) ≡ true
parts_quiet [] ok = refl
parts_quiet (t ∷ ts) ok = let both = and_parts (is_kind_of_part t.kind) _ ok in both_true (part_quiet t.kind t.content both.0) (parts_quiet ts both.1)

append_quiet : (xs ys : List Printed) → list_all quiet_printed xs ≡ true → list_all quiet_printed ys ≡ true → list_all quiet_printed (xs ++ ys) ≡ true
append_quiet xs ys h k = list_all-append quiet_printed xs ys ∙ both_true h k

elements_quiet : (elements : List Element) → list_all is_element elements ≡ true → list_all quiet_printed (flat_map tokens_of_element elements) ≡ true
elements_quiet [] ok = refl
elements_quiet (Bare part ∷ elements) ok = let both = and_parts (is_kind_of_part part.kind) _ ok in both_true (part_quiet part.kind part.content both.0) (elements_quiet elements both.1)
elements_quiet (Hidden parts ∷ elements) ok =
    let both = and_parts (is_some parts && list_all (λ t. is_kind_of_part t.kind) parts) (list_all is_element elements) ok in
    let ins = and_parts (is_some parts) _ both.0 in
    append_quiet (map kept parts ++ mark (codes ")") ∷ []) (flat_map tokens_of_element elements) (append_quiet (map kept parts) (mark (codes ")") ∷ []) (parts_quiet parts ins.1) refl) (elements_quiet elements both.1)

alternative_quiet : (a : Alternative) → is_alternative a ≡ true → list_all quiet_printed (tokens_of_alternative a) ≡ true
alternative_quiet a ok =
    let both = and_parts (is_some a.elements && list_all is_element a.elements) (list_all is_adverb a.adverbs) ok in
    let ins = and_parts (is_some a.elements) (list_all is_element a.elements) both.0 in
    append_quiet (flat_map tokens_of_element a.elements) (tokens_of_adverbs a.adverbs) (elements_quiet a.elements ins.1) (adverbs_quiet a.adverbs both.1)

joined_quiet : (m : Printed) (pss : List (List Printed)) → quiet_printed m ≡ true → list_all (λ ps. list_all quiet_printed ps) pss ≡ true → list_all quiet_printed (joined m pss) ≡ true
joined_quiet m [] e ok = refl
joined_quiet m (ps ∷ []) e ok = (and_parts (list_all quiet_printed ps) true ok).0
joined_quiet m (ps ∷ qs ∷ rest) e ok =
    let both = and_parts (list_all quiet_printed ps) (list_all (λ ps. list_all quiet_printed ps) (qs ∷ rest)) ok in
    append_quiet ps (m ∷ joined m (qs ∷ rest)) both.0 (both_true e (joined_quiet m (qs ∷ rest) e both.1))

group_quiet : (g : List Alternative) → list_all is_alternative g ≡ true → list_all (λ ps. list_all quiet_printed ps) (map tokens_of_alternative g) ≡ true
group_quiet [] ok = refl
group_quiet (a ∷ g) ok = let both = and_parts (is_alternative a) (list_all is_alternative g) ok in both_true (alternative_quiet a both.0) (group_quiet g both.1)

groups_list_quiet : (groups : List (List Alternative)) → list_all is_group groups ≡ true → list_all (λ ps. list_all quiet_printed ps) (map (λ g. joined (mark (codes "|")) (map tokens_of_alternative g)) groups) ≡ true
groups_list_quiet [] ok = refl
groups_list_quiet (g ∷ groups) ok =
    let both = and_parts (is_some g && list_all is_alternative g) (list_all is_group groups) ok in
    let ins = and_parts (is_some g) (list_all is_alternative g) both.0 in
    both_true (joined_quiet (mark (codes "|")) (map tokens_of_alternative g) refl (group_quiet g ins.1)) (groups_list_quiet groups both.1)

-- all that alternatives print is quiet
pub groups_quiet : (groups : List (List Alternative)) → list_all is_group groups ≡ true → list_all quiet_printed (tokens_of_groups groups) ≡ true
groups_quiet groups ok = joined_quiet (mark (codes "||")) (map (λ g. joined (mark (codes "|")) (map tokens_of_alternative g)) groups) refl (groups_list_quiet groups ok)
