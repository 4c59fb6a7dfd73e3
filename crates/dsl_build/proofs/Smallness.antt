-- Ranks and priorities are small where a description has no fault.
use Rattle.std.proofs.Common.{◌≡◌, ℕ, ◌<◌, ◌≤◌, ◌==◌, Bool, true, false, cond, List, [], ◌∷◌, ◌++◌, Some, refl, sym, ap, ◌∙◌, subst, arith, ltb-false, pos, neg_ℤ, ◌⊎◌, inl, inr, ⊎_elim}
use Rattle.std.specs.Prelude.{flat_map, filter, not, ◌&&◌, bytes_eq, codes, nat_lt, option_map, unwrap_or, encode_utf8_all, ℤ}
use Rattle.std.specs.List.{AllByRecursion, list_all}
use Rattle.std.specs.Char.{is_ascii_digit}
use Rattle.std.proofs.lemmas.Int.{ints}
use Rattle.std.proofs.lemmas.Bool.{true≢false, eqb-true, not-false}
use Rattle.std.proofs.lemmas.Bool.Decides.{nat_tests}
use Rattle.std.proofs.lemmas.Slice.Eq.{bytes_eq-Decides}
use Rattle.std.proofs.lemmas.Str.{encode_ascii}
use Rattle.finite_sets.proofs.Lists.{prefix_empty, back_empty}
use Rattle.finite_sets.proofs.Clauses.{and_right}
use Rattle.language_model.specs.declared.token.TokenKind.{TokenKind}
use Rattle.language_model.specs.declared.token.TokenKind.TheVariants.{Word, Angle, Quote, Bracket, Pseudo, Reserved, Signed, Mark}
use Rattle.language_model.specs.Tokens.{Spelled}
use Rattle.language_model.specs.Description.{Adverb, Comma, Pair, Statement}
use Rattle.language_model.specs.Building.{AdverbPlace, Fault, fault_at, at_most, is_one_of, is_number, names_at, fits_adverb, pairs_of, adverb_lists, value_of, number_of, digits_number, rank_of}
use Rattle.dsl_build.specs.Ready.{IsSmall}
use Rattle.dsl_build.specs.Tables.{priority_of}
use Rattle.dsl_build.proofs.Few.{bad_pair, bad_of}
use Rattle.dsl_build.proofs.Alls.{all_empty}
use Rattle.dsl_build.proofs.Contents.{both_left}
use Rattle.dsl_build.proofs.Spellings.{IsSpelt, Spelt, PairsSpelt}
use Rattle.language_model.proofs.Short.{none_of}

-- NUMBERS

pub small_pos : (n : ℕ) → n ≤ 1000000 → IsSmall (pos n)
small_pos n le = (omega (arith, ints), omega (arith, ints, le))

small_neg : (n : ℕ) → n ≤ 1000000 → IsSmall (neg_ℤ (pos n))
small_neg n le = (omega (arith, ints, le), omega (arith, ints))

digits_all : (ds : List ℕ) → list_all is_ascii_digit ds ≡ true → filter is_ascii_digit ds ≡ ds
digits_all [] e = refl
digits_all (d ∷ ds) e = ap (λ b. cond b (d ∷ filter is_ascii_digit ds) (filter is_ascii_digit ds)) (both_left (is_ascii_digit d) (list_all is_ascii_digit ds) e) ∙ ap (λ xs. d ∷ xs) (digits_all ds (and_right (is_ascii_digit d) (list_all is_ascii_digit ds) e))

digits_bytes : (ds : List ℕ) → list_all is_ascii_digit ds ≡ true → encode_utf8_all ds ≡ ds
digits_bytes [] e = refl
digits_bytes (d ∷ ds) e =
    let digit : is_ascii_digit d ≡ true = both_left (is_ascii_digit d) (list_all is_ascii_digit ds) e in
    ap (λ bs. bs ++ encode_utf8_all ds) (encode_ascii d (below d digit)) ∙ ap (λ xs. d ∷ xs) (digits_bytes ds (and_right (is_ascii_digit d) (list_all is_ascii_digit ds) e))
  where
    below : (c : ℕ) → is_ascii_digit c ≡ true → c < 128
    below c h = grind (arith, nat_tests)

digits_few : (content ds : List ℕ) → filter is_ascii_digit content ≡ ds → nat_lt 1000000 (digits_number (filter is_ascii_digit content)) ≡ false → digits_number ds ≤ 1000000
digits_few content ds e f = ltb-false 1000000 (digits_number ds) (ap (λ xs. nat_lt 1000000 (digits_number xs)) (sym e) ∙ f)

-- a digit is no sign
no_sign : (c s : ℕ) → is_ascii_digit s ≡ false → is_ascii_digit c ≡ true → (c == s) ≡ false
no_sign c s other digit = go (c == s) refl
  where
    go : (b : Bool) → (c == s) ≡ b → b ≡ false
    go true e = absurd (true≢false (sym digit ∙ ap is_ascii_digit (eqb-true c s e) ∙ other))
    go false e = refl

word_small : (content : List ℕ) → list_all is_ascii_digit content ≡ true → nat_lt 1000000 (digits_number (filter is_ascii_digit content)) ≡ false → IsSmall (number_of content)
word_small [] all f = small_pos 0 (omega arith)
word_small (c ∷ cs) all f =
    let digit : is_ascii_digit c ≡ true = both_left (is_ascii_digit c) (list_all is_ascii_digit cs) all in
    let minus = no_sign c 45 refl digit in
    let plus = no_sign c 43 refl digit in
    let is : number_of (c ∷ cs) ≡ pos (digits_number (c ∷ cs)) =
    ap (λ b. cond b (neg_ℤ (pos (digits_number cs))) (cond (c == 43) (pos (digits_number cs)) (pos (digits_number (c ∷ cs))))) minus ∙ ap (λ b. cond b (pos (digits_number cs)) (pos (digits_number (c ∷ cs)))) plus in
    subst IsSmall (sym is) (small_pos (digits_number (c ∷ cs)) (digits_few (c ∷ cs) (c ∷ cs) (digits_all (c ∷ cs) all) f))

signed_small : (sign : ℕ) (ds : List ℕ) → (sign ≡ 45) ⊎ (sign ≡ 43) → list_all is_ascii_digit ds ≡ true → nat_lt 1000000 (digits_number (filter is_ascii_digit (sign ∷ ds))) ≡ false → IsSmall (number_of (sign ∷ ds))
signed_small sign ds is all f =
    ⊎_elim (λ (e : sign ≡ 45). subst (λ s. nat_lt 1000000 (digits_number (filter is_ascii_digit (s ∷ ds))) ≡ false → IsSmall (number_of (s ∷ ds))) (sym e) (λ (g : nat_lt 1000000 (digits_number (filter is_ascii_digit ds)) ≡ false). small_neg (digits_number ds) (digits_few ds ds (digits_all ds all) g)) f)
    (λ (e : sign ≡ 43). subst (λ s. nat_lt 1000000 (digits_number (filter is_ascii_digit (s ∷ ds))) ≡ false → IsSmall (number_of (s ∷ ds))) (sym e) (λ (g : nat_lt 1000000 (digits_number (filter is_ascii_digit ds)) ≡ false). small_pos (digits_number ds) (digits_few ds ds (digits_all ds all) g)) f) is

abbrev IsFine : List ℕ → Type 0
IsFine content = nat_lt 1000000 (digits_number (filter is_ascii_digit content)) ≡ false → IsSmall (number_of content)

sign_bytes : (sign : ℕ) (ds : List ℕ) → (sign ≡ 43) ⊎ (sign ≡ 45) → list_all is_ascii_digit ds ≡ true → encode_utf8_all (sign ∷ ds) ≡ sign ∷ ds
sign_bytes sign ds is all = ap (λ bs. bs ++ encode_utf8_all ds) (encode_ascii sign (⊎_elim (λ (e : sign ≡ 43). omega (arith, e)) (λ (e : sign ≡ 45). omega (arith, e)) is)) ∙ ap (λ xs. sign ∷ xs) (digits_bytes ds all)

turn : {A B : Type 0} → A ⊎ B → B ⊎ A
turn (inl a) = inr a
turn (inr b) = inl b

value_small : (k : TokenKind) (content : List ℕ) (at : ℕ) → is_number (record { kind = k; content = content; at = at }) ≡ true → IsSpelt k content → IsFine content
value_small Word content at n s = word_small content n
value_small Signed content at n (text, scalars, (sign, ds, same, is, run), e) =
    subst IsFine (sym (e ∙ ap encode_utf8_all same ∙ sign_bytes sign ds is run.1)) (signed_small sign ds (turn is) run.1)
value_small Angle content at n s = absurd (true≢false (sym n))
value_small Quote content at n s = absurd (true≢false (sym n))
value_small Bracket content at n s = absurd (true≢false (sym n))
value_small Pseudo content at n s = absurd (true≢false (sym n))
value_small Reserved content at n s = absurd (true≢false (sym n))
value_small Mark content at n s = absurd (true≢false (sym n))

-- ADVERBS

abbrev pub big_pair : Spelled × Spelled → List Fault
big_pair p = at_most (is_one_of (codes "rank" ∷ codes "priority" ∷ []) p.0.content && nat_lt 1000000 (digits_number (filter is_ascii_digit p.1.content))) (fault_at p.1)

abbrev told : List ℕ → List Adverb → ℤ
told name adverbs = unwrap_or (option_map (λ t. number_of t.content) (value_of name adverbs)) (pos 0)

and_false : (a b : Bool) → a ≡ true → (a && b) ≡ false → b ≡ false
and_false true b e f = f
and_false false b e f = absurd (true≢false (sym e))

told_small : (name : List ℕ) → is_one_of (codes "rank" ∷ codes "priority" ∷ []) name ≡ true → ((v : Spelled) → fits_adverb name v ≡ true → is_number v ≡ true) → (place : AdverbPlace) (adverbs : List Adverb) →
    flat_map (bad_pair place) (pairs_of adverbs) ≡ [] → flat_map big_pair (pairs_of adverbs) ≡ [] → AllByRecursion (λ p. Spelt p.1) (pairs_of adverbs) → IsSmall (told name adverbs)
told_small name numeral number place [] bad big spelt = small_pos 0 (omega arith)
told_small name numeral number place (Comma at ∷ adverbs) bad big spelt = told_small name numeral number place adverbs bad big spelt
told_small name numeral number place (Pair n v ∷ adverbs) bad big spelt =
    go (bytes_eq n.content name) refl (told_small name numeral number place adverbs (back_empty (bad_pair place (n, v)) (flat_map (bad_pair place) (pairs_of adverbs)) bad) (back_empty (big_pair (n, v)) (flat_map big_pair (pairs_of adverbs)) big) spelt.1)
  where
    fits : fits_adverb n.content v ≡ true
    fits = and_right (is_one_of (names_at place) n.content) (fits_adverb n.content v) (not-false (is_one_of (names_at place) n.content && fits_adverb n.content v)
        (none_of (not (is_one_of (names_at place) n.content && fits_adverb n.content v)) (fault_at n) (prefix_empty (bad_pair place (n, v)) (flat_map (bad_pair place) (pairs_of adverbs)) bad)))

    few : (is_one_of (codes "rank" ∷ codes "priority" ∷ []) n.content && nat_lt 1000000 (digits_number (filter is_ascii_digit v.content))) ≡ false
    few = none_of (is_one_of (codes "rank" ∷ codes "priority" ∷ []) n.content && nat_lt 1000000 (digits_number (filter is_ascii_digit v.content))) (fault_at v) (prefix_empty (big_pair (n, v)) (flat_map big_pair (pairs_of adverbs)) big)

    go : (b : Bool) → bytes_eq n.content name ≡ b → IsSmall (told name adverbs) → IsSmall (unwrap_or (option_map (λ t. number_of t.content) (cond b (Some v) (value_of name adverbs))) (pos 0))
    go true is rest =
        let same : n.content ≡ name = (bytes_eq-Decides n.content name).0 is in
        value_small v.kind v.content v.at (number v (subst (λ x. fits_adverb x v ≡ true) same fits)) spelt.0
        (and_false (is_one_of (codes "rank" ∷ codes "priority" ∷ []) n.content) (nat_lt 1000000 (digits_number (filter is_ascii_digit v.content))) (subst (λ x. is_one_of (codes "rank" ∷ codes "priority" ∷ []) x ≡ true) (sym same) numeral) few)
    go false is rest = rest

-- what a list of adverbs tells of ranks and priorities is small
abbrev pub TellsSmall : AdverbPlace × List Adverb → Type 0
TellsSmall l = IsSmall (rank_of l.1) × IsSmall (priority_of l.1)

list_small : (l : AdverbPlace × List Adverb) → flat_map (bad_pair l.0) (pairs_of l.1) ≡ [] → flat_map big_pair (pairs_of l.1) ≡ [] → PairsSpelt l → TellsSmall l
list_small l bad big spelt =
    (told_small (codes "rank") refl (λ (v : Spelled) (h : fits_adverb (codes "rank") v ≡ true). h) l.0 l.1 bad big spelt, told_small (codes "priority") refl (λ (v : Spelled) (h : fits_adverb (codes "priority") v ≡ true). h) l.0 l.1 bad big spelt)

abbrev pub big_of : Statement → List Fault
big_of s = flat_map (λ l. flat_map big_pair (pairs_of l.1)) (adverb_lists s)

lists_small : (ls : List (AdverbPlace × List Adverb)) → AllByRecursion (λ l. flat_map (bad_pair l.0) (pairs_of l.1) ≡ []) ls → AllByRecursion (λ l. flat_map big_pair (pairs_of l.1) ≡ []) ls → AllByRecursion PairsSpelt ls → AllByRecursion TellsSmall ls
lists_small [] a b c = tt
lists_small (l ∷ ls) a b c = (list_small l a.0 b.0 c.0, lists_small ls a.1 b.1 c.1)

pub statement_small : (s : Statement) → bad_of s ≡ [] → big_of s ≡ [] → AllByRecursion PairsSpelt (adverb_lists s) → AllByRecursion TellsSmall (adverb_lists s)
statement_small s bad big spelt =
    lists_small (adverb_lists s) (all_empty (λ (l : AdverbPlace × List Adverb). flat_map (bad_pair l.0) (pairs_of l.1)) (adverb_lists s) bad) (all_empty (λ (l : AdverbPlace × List Adverb). flat_map big_pair (pairs_of l.1)) (adverb_lists s) big) spelt
