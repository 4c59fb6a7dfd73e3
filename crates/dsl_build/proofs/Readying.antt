-- What a program asks of the description of a text that has no fault is so.
use Rattle.std.proofs.Common.{◌≡◌, ℕ, zero, suc, ◌+◌, ◌^◌, ◌<◌, ◌≤◌, Bool, true, false, cond, List, [], ◌∷◌, refl, sym, ap, subst, map, length, take, arith, length-append}
use Rattle.std.specs.Prelude.{flat_map, filter, not, ◌&&◌, ◌||◌, bytes_eq, IsTrue, decimal, All}
use Rattle.std.specs.List.{AllByRecursion, list_all}
use Rattle.std.proofs.lemmas.Bool.{true≢false}
use Rattle.std.proofs.lemmas.List.{length-map}
use Rattle.std.proofs.lemmas.List.Elements.{All-from_recursion}
use Rattle.std.proofs.lemmas.Slice.Eq.{bytes_eq-Decides}
use Rattle.std.proofs.lemmas.Fmt.{decimal_injective}
use Rattle.grammar_model.specs.declared.limits.TheConstants.{MOST_ENTRIES}
use Rattle.language_model.specs.declared.token.TokenKind.{TokenKind}
use Rattle.language_model.specs.declared.token.TokenKind.TheVariants.{Word, Angle, Quote, Bracket, Pseudo, Reserved, Signed, Mark}
use Rattle.language_model.specs.Tokens.{Spelled}
use Rattle.language_model.specs.Description.{Alternative, Adverb, Statement, Start, Default, LexemeDefault, Lexeme, Discard, Empty, Quantified, Rules, is_statement, is_name, is_kind_of_single, is_adverb, is_group, is_one, is_some as is_filled, tokens_of, pieces_of}
use Rattle.language_model.specs.Texts.{IsDescription, spelled}
use Rattle.language_model.specs.Building.{AdverbPlace, InOther, InAlternative, adverb_lists, is_one_of, place_in, parts_of, alternatives_of, separator_of, right_of, structural_names, lexical_tokens, placed_tokens, sets_l0, set_names, count_from, symbols_g1, left_names, lexemes, named_l0, texts_l0, start_of, start_texts, discarded, rules_of, is_of_level, added_rules, grammar_g1, grammar_l0, is_quote_or_bracket, rank_of, new_texts}
use Rattle.dsl_faults.specs.Texts.{AllNew}
use Rattle.dsl_build.specs.Tables.{lexeme_parts, priority_of}
use Rattle.dsl_build.specs.Lexical.{set_name}
use Rattle.dsl_build.specs.Ready.{IsSmall, IsNamed, IsReady, IsReadyAlternative, IsReadable, IsWritable}
use Rattle.dsl_build.proofs.Faultless.{Faultless}
use Rattle.dsl_build.proofs.Alls.{all_join, all_map, all_mapped, all_weaker, all_flat, all_pieces, all_filter, all_empty}
use Rattle.dsl_build.proofs.Few.{bad_of, and_prefix, statements_are, all_tokens, few_placed}
use Rattle.dsl_build.proofs.Known.{AllIn, names_in}
use Rattle.dsl_build.proofs.Differing.{symbols_new, named_new, append_new, apart_nothing, Apart}
use Rattle.dsl_build.proofs.Ranging.{structural_in, lexical_in, symbols_all, lexical_all, start_named, start_of_lexeme, start_of_discard, symbol_of_lexeme, names_long, g1_known, l0_known, all_in, contents}
use Rattle.dsl_build.proofs.Terminals.{rights_parts, IsPart}
use Rattle.dsl_build.proofs.Spellings.{IsSpelt, Spelt, PrintedSpelt, description_spelt, right_spelt, left_spelt, values_spelt}
use Rattle.dsl_build.proofs.Contents.{NoColon, IsQuoted, named_other, is_quoted, quoted_utf8}
use Rattle.dsl_build.proofs.Sizes.{weights_printed, weights_statements, description_weight, groups_count, modest}
use Rattle.dsl_build.proofs.Smallness.{TellsSmall, statement_small, big_of}

-- STATEMENTS

abbrev Kept : Statement → Type 0
Kept s = AllByRecursion PrintedSpelt (tokens_of s)

all_both : {A : Type 0} (P Q : A → Type 0) (xs : List A) → AllByRecursion P xs → AllByRecursion Q xs → AllByRecursion (λ x. P x × Q x) xs
all_both P Q [] a b = tt
all_both P Q (x ∷ xs) a b = ((a.0, b.0), all_both P Q xs a.1 b.1)

statements : (d : List Statement) → IsDescription d → AllByRecursion (λ s. IsTrue (is_statement s)) d
statements d h = statements_are d (pieces_of (spelled h.0 h.1.tokens)) h.1.described

-- each statement has at most so many tokens
counted : (n : ℕ) (d : List Statement) → weights_statements d ≤ n → AllByRecursion (λ s. weights_printed (tokens_of s) ≤ n) d
counted n [] le = tt
counted n (s ∷ ss) le = (omega (arith, le), counted n ss (omega (arith, le)))

pub all_small : (d : List Statement) → Faultless d → IsDescription d → AllByRecursion (λ s. AllByRecursion TellsSmall (adverb_lists s)) d
all_small d f h = go d (all_empty bad_of d f.adverbs) (all_empty big_of d f.numbers) (description_spelt d h)
  where
    go : (ss : List Statement) → AllByRecursion (λ s. bad_of s ≡ []) ss → AllByRecursion (λ s. big_of s ≡ []) ss → AllByRecursion Kept ss → AllByRecursion (λ s. AllByRecursion TellsSmall (adverb_lists s)) ss
    go [] a b c = tt
    go (s ∷ ss) a b c = (statement_small s a.0 b.0 (values_spelt s c.0), go ss a.1 b.1 c.1)

-- READY RULES

named_all : (names : List (List ℕ)) (ts : List Spelled) → AllIn names (contents ts) → All (IsNamed names) ts
named_all names ts a = All-from_recursion (IsNamed names) ts (all_mapped (λ t. is_one_of names t ≡ true) (λ (t : Spelled). t.content) ts a)

group_ready : (names : List (List ℕ)) (g : List Alternative) → AllByRecursion (λ a. AllByRecursion (IsNamed names) (parts_of a) × IsSmall (rank_of a.adverbs)) g → All (IsReadyAlternative names) g
group_ready names g a =
    All-from_recursion (IsReadyAlternative names) g
    (all_weaker (λ a. AllByRecursion (IsNamed names) (parts_of a) × IsSmall (rank_of a.adverbs)) (IsReadyAlternative names) g
    (λ (x : Alternative) (h : AllByRecursion (IsNamed names) (parts_of x) × IsSmall (rank_of x.adverbs)). (All-from_recursion (IsNamed names) (parts_of x) h.0, h.1)) a)

groups_ready : (names : List (List ℕ)) (place : AdverbPlace) (gs : List (List Alternative)) → AllIn names (contents (flat_map parts_of (alternatives_of gs))) → AllByRecursion TellsSmall (flat_map (λ g. map (λ a. (place, a.adverbs)) g) gs) →
    All (All (IsReadyAlternative names)) gs
groups_ready names place gs known small =
    let named = all_pieces (λ (a : Alternative). AllByRecursion (IsNamed names) (parts_of a)) (λ g. g) gs (all_pieces (IsNamed names) parts_of (alternatives_of gs) (all_mapped (λ t. is_one_of names t ≡ true) (λ (t : Spelled). t.content) (flat_map parts_of (alternatives_of gs)) known)) in
    let told = all_pieces TellsSmall (λ (g : List Alternative). map (λ a. (place, a.adverbs)) g) gs small in
    All-from_recursion (All (IsReadyAlternative names)) gs (go gs named told)
  where
    each : (g : List Alternative) → AllByRecursion (λ a. AllByRecursion (IsNamed names) (parts_of a)) g → AllByRecursion TellsSmall (map (λ a. (place, a.adverbs)) g) → AllByRecursion (λ a. AllByRecursion (IsNamed names) (parts_of a) × IsSmall (rank_of a.adverbs)) g
    each [] n t = tt
    each (a ∷ g) n t = ((n.0, t.0.0), each g n.1 t.1)

    go : (xs : List (List Alternative)) → AllByRecursion (λ g. AllByRecursion (λ a. AllByRecursion (IsNamed names) (parts_of a)) g) xs → AllByRecursion (λ g. AllByRecursion TellsSmall (map (λ a. (place, a.adverbs)) g)) xs → AllByRecursion (All (IsReadyAlternative names)) xs
    go [] n t = tt
    go (g ∷ xs) n t = (group_ready names g (each g n.0 t.0), go xs n.1 t.1)

statement_ready : (names : List (List ℕ)) (s : Statement) → AllIn names (names_in s) → AllByRecursion TellsSmall (adverb_lists s) → weights_printed (tokens_of s) ≤ 2097152 → IsReady names s
unfolding tokens_of
statement_ready names (Start at name) known small few = tt
statement_ready names (Default at adverbs) known small few = tt
statement_ready names (LexemeDefault at adverbs) known small few = tt
statement_ready names (Lexeme at name adverbs) known small few = tt
statement_ready names (Discard at item adverbs) known small few = tt
statement_ready names (Empty left lexical adverbs) known small few = (known.0, small.0.0)
statement_ready names (Quantified left lexical item plus adverbs) known small few = (known.0, known.1.0, named_all names (separator_of adverbs) known.1.1, small.0.0)
statement_ready names (Rules left lexical groups) known small few =
    let count = groups_count groups in
    (known.0, omega (arith, count, few), groups_ready names (cond lexical InOther InAlternative) groups known.1 small)

level_ready : (names : List (List ℕ)) (lexical : Bool) (ss : List Statement) → AllByRecursion (λ s. is_of_level lexical s ≡ true → AllIn names (names_in s)) ss → AllByRecursion (λ s. AllByRecursion TellsSmall (adverb_lists s)) ss → AllByRecursion (λ s. weights_printed (tokens_of s) ≤ 2097152) ss →
    AllByRecursion (λ s. is_of_level lexical s ≡ true → IsReady names s) ss
level_ready names lexical [] a b c = tt
level_ready names lexical (s ∷ ss) a b c = (λ e. statement_ready names s (a.0 e) b.0 c.0, level_ready names lexical ss a.1 b.1 c.1)

pub structural_ready : (d : List Statement) → Faultless d → IsDescription d → AllByRecursion (λ s. is_of_level false s ≡ true → IsReady (symbols_g1 d) s) d
structural_ready d f h =
    let names = symbols_g1 d in
    level_ready names false d (all_weaker (λ s. AllIn names (structural_names s)) (λ s. is_of_level false s ≡ true → AllIn names (names_in s)) d (structural_in names) (symbols_all d)) (all_small d f h) (counted 2097152 d (description_weight d h))

pub lexical_ready : (d : List Statement) → Faultless d → IsDescription d → AllByRecursion (λ s. is_of_level true s ≡ true → IsReady (named_l0 d) s) d
lexical_ready d f h =
    let names = named_l0 d in
    level_ready names true d (all_weaker (λ s. AllIn names (contents (lexical_tokens s))) (λ s. is_of_level true s ≡ true → AllIn names (names_in s)) d (lexical_in names) (lexical_all d)) (all_small d f h) (counted 2097152 d (description_weight d h))

-- TOKENS WITH A PLACE

abbrev IsSound : Spelled → Type 0
IsSound t = IsPart t × Spelt t

name_part : (t : Spelled) → IsTrue (is_name t) → IsPart t
name_part t h = ap (λ b. b || is_quote_or_bracket t) h

kept_sound : (lexical : Bool) (ts : List Spelled) → AllByRecursion IsSound ts → AllByRecursion IsSound (map (λ (r : Bool × Spelled). r.1) (filter (λ r. r.0 || is_quote_or_bracket r.1) (map (λ t. (lexical, t)) ts)))
kept_sound lexical ts sound =
    all_map IsSound (λ (r : Bool × Spelled). r.1) (filter (λ r. r.0 || is_quote_or_bracket r.1) (map (λ t. (lexical, t)) ts))
    (all_filter (λ (r : Bool × Spelled). IsSound r.1) (λ r. r.0 || is_quote_or_bracket r.1) (map (λ t. (lexical, t)) ts)
    (all_map (λ (r : Bool × Spelled). (r.0 || is_quote_or_bracket r.1) ≡ true → IsSound r.1) (λ t. (lexical, t)) ts
    (all_weaker IsSound (λ t. (lexical || is_quote_or_bracket t) ≡ true → IsSound t) ts (λ (t : Spelled) (f : IsSound t) (e : (lexical || is_quote_or_bracket t) ≡ true). f) sound)))

rights_sound : (s : Statement) → IsTrue (is_statement s) → bad_of s ≡ [] → Kept s → AllByRecursion (λ r. IsSound r.1) (right_of s)
rights_sound s h bad kept = all_both (λ (r : Bool × Spelled). IsPart r.1) (λ r. Spelt r.1) (right_of s) (rights_parts s h bad) (right_spelt s kept)

tokens_sound : (s : Statement) → IsTrue (is_statement s) → bad_of s ≡ [] → Kept s → AllByRecursion IsSound (lexical_tokens s)
tokens_sound (Start at name) h bad kept = tt
tokens_sound (Default at adverbs) h bad kept = tt
tokens_sound (LexemeDefault at adverbs) h bad kept = tt
tokens_sound (Lexeme at name adverbs) h bad kept = tt
tokens_sound (Discard at item adverbs) h bad kept = rights_sound (Discard at item adverbs) h bad kept
tokens_sound (Empty left true adverbs) h bad kept = ((name_part left (and_prefix (is_name left) (list_all is_adverb adverbs) h), (left_spelt (Empty left true adverbs) kept).0), tt)
tokens_sound (Empty left false adverbs) h bad kept = tt
tokens_sound (Quantified left true item plus adverbs) h bad kept =
    let prefix = and_prefix (is_name left && is_kind_of_single item.kind) (list_all is_adverb adverbs) h in
    let rights = all_mapped (λ (r : Bool × Spelled). IsSound r.1) (λ t. (true, t)) (item ∷ separator_of adverbs) (rights_sound (Quantified left true item plus adverbs) h bad kept) in
    ((name_part left (and_prefix (is_name left) (is_kind_of_single item.kind) prefix), (left_spelt (Quantified left true item plus adverbs) kept).0), kept_sound true (item ∷ separator_of adverbs) rights)
tokens_sound (Quantified left false item plus adverbs) h bad kept =
    kept_sound false (item ∷ separator_of adverbs) (all_mapped (λ (r : Bool × Spelled). IsSound r.1) (λ t. (false, t)) (item ∷ separator_of adverbs) (rights_sound (Quantified left false item plus adverbs) h bad kept))
tokens_sound (Rules left true groups) h bad kept =
    let prefix = and_prefix (is_name left && list_all is_group groups) (is_one groups) h in
    let rights = all_mapped (λ (r : Bool × Spelled). IsSound r.1) (λ t. (true, t)) (flat_map parts_of (alternatives_of groups)) (rights_sound (Rules left true groups) h bad kept) in
    ((name_part left (and_prefix (is_name left) (list_all is_group groups) prefix), (left_spelt (Rules left true groups) kept).0), kept_sound true (flat_map parts_of (alternatives_of groups)) rights)
tokens_sound (Rules left false groups) h bad kept =
    kept_sound false (flat_map parts_of (alternatives_of groups)) (all_mapped (λ (r : Bool × Spelled). IsSound r.1) (λ t. (false, t)) (flat_map parts_of (alternatives_of groups)) (rights_sound (Rules left false groups) h bad kept))

placed_sound : (d : List Statement) → Faultless d → IsDescription d → AllByRecursion IsSound (placed_tokens d)
placed_sound d f h = all_tokens IsSound [] (flat_map lexical_tokens d) (all_flat IsSound lexical_tokens d (go d (statements d h) (all_empty bad_of d f.adverbs) (description_spelt d h)))
  where
    go : (ss : List Statement) → AllByRecursion (λ s. IsTrue (is_statement s)) ss → AllByRecursion (λ s. bad_of s ≡ []) ss → AllByRecursion Kept ss → AllByRecursion (λ s. AllByRecursion IsSound (lexical_tokens s)) ss
    go [] a b c = tt
    go (s ∷ ss) a b c = (tokens_sound s a.0 b.0 c.0, go ss a.1 b.1 c.1)

-- a quoted text can be read
readable_kind : (k : TokenKind) (c : List ℕ) (at : ℕ) → IsSpelt k c → IsReadable (record { kind = k; content = c; at = at })
readable_kind Quote c at (text, scalars, spelling, e) = λ q. let is = is_quoted text scalars spelling in quoted_utf8 c is.0 (subst (λ b. IsQuoted b is.0) (sym e) is.1)
readable_kind Word c at s = λ q. absurd (true≢false (sym q))
readable_kind Angle c at s = λ q. absurd (true≢false (sym q))
readable_kind Bracket c at s = λ q. absurd (true≢false (sym q))
readable_kind Pseudo c at s = λ q. absurd (true≢false (sym q))
readable_kind Reserved c at s = λ q. absurd (true≢false (sym q))
readable_kind Signed c at s = λ q. absurd (true≢false (sym q))
readable_kind Mark c at s = λ q. absurd (true≢false (sym q))

pub placed_readable : (d : List Statement) → Faultless d → IsDescription d → AllByRecursion IsReadable (placed_tokens d)
placed_readable d f h = all_weaker IsSound IsReadable (placed_tokens d) (λ (t : Spelled) (s : IsSound t). readable_kind t.kind t.content t.at s.1) (placed_sound d f h)

-- NO SYMBOL HAS THE NAME OF A SET

colon_kind : (k : TokenKind) (c : List ℕ) (at : ℕ) → IsPart (record { kind = k; content = c; at = at }) → IsSpelt k c → NoColon c
colon_kind Word c at p (text, scalars, spelling, e) = subst NoColon (sym e) (named_other Word text refl scalars spelling)
colon_kind Angle c at p (text, scalars, spelling, e) = subst NoColon (sym e) (named_other Angle text refl scalars spelling)
colon_kind Quote c at p (text, scalars, spelling, e) = subst NoColon (sym e) (named_other Quote text refl scalars spelling)
colon_kind Bracket c at p (text, scalars, spelling, e) = subst NoColon (sym e) (named_other Bracket text refl scalars spelling)
colon_kind Pseudo c at p s = absurd (true≢false (sym p))
colon_kind Reserved c at p s = absurd (true≢false (sym p))
colon_kind Signed c at p s = absurd (true≢false (sym p))
colon_kind Mark c at p s = absurd (true≢false (sym p))

sound_named : (t : Spelled) → IsSound t → NoColon t.content
sound_named t s = colon_kind t.kind t.content t.at s.0 s.1

rights_named : (ts : List Spelled) → AllByRecursion IsSound ts → AllByRecursion NoColon (contents ts)
rights_named ts a = all_map NoColon (λ (t : Spelled). t.content) ts (all_weaker IsSound (λ t. NoColon t.content) ts sound_named a)

start_sound : (at : ℕ) (name : Spelled) → IsTrue (is_name name) → Kept (Start at name) → NoColon name.content
unfolding tokens_of
start_sound at name h kept = sound_named name (name_part name h, kept.1.1.0)

structural_named : (s : Statement) → IsTrue (is_statement s) → bad_of s ≡ [] → Kept s → AllByRecursion NoColon (structural_names s)
structural_named (Start at name) h bad kept = (start_sound at name h kept, tt)
structural_named (Default at adverbs) h bad kept = tt
structural_named (LexemeDefault at adverbs) h bad kept = tt
structural_named (Lexeme at name adverbs) h bad kept = tt
structural_named (Discard at item adverbs) h bad kept = tt
structural_named (Empty left true adverbs) h bad kept = tt
structural_named (Empty left false adverbs) h bad kept = (sound_named left (name_part left (and_prefix (is_name left) (list_all is_adverb adverbs) h), (left_spelt (Empty left false adverbs) kept).0), tt)
structural_named (Quantified left true item plus adverbs) h bad kept = tt
structural_named (Quantified left false item plus adverbs) h bad kept =
    let prefix = and_prefix (is_name left && is_kind_of_single item.kind) (list_all is_adverb adverbs) h in
    let rights = all_mapped (λ (r : Bool × Spelled). IsSound r.1) (λ t. (false, t)) (item ∷ separator_of adverbs) (rights_sound (Quantified left false item plus adverbs) h bad kept) in
    (sound_named left (name_part left (and_prefix (is_name left) (is_kind_of_single item.kind) prefix), (left_spelt (Quantified left false item plus adverbs) kept).0), rights_named (item ∷ separator_of adverbs) rights)
structural_named (Rules left true groups) h bad kept = tt
structural_named (Rules left false groups) h bad kept =
    let prefix = and_prefix (is_name left && list_all is_group groups) (is_filled groups) h in
    let rights = all_mapped (λ (r : Bool × Spelled). IsSound r.1) (λ t. (false, t)) (flat_map parts_of (alternatives_of groups)) (rights_sound (Rules left false groups) h bad kept) in
    (sound_named left (name_part left (and_prefix (is_name left) (list_all is_group groups) prefix), (left_spelt (Rules left false groups) kept).0), rights_named (flat_map parts_of (alternatives_of groups)) rights)

new_named : (seen ts : List (List ℕ)) → AllByRecursion NoColon ts → AllByRecursion NoColon (new_texts seen ts)
new_named seen [] a = tt
new_named seen (t ∷ ts) a = go (is_one_of seen t) (new_named seen ts a.1) (new_named (t ∷ seen) ts a.1)
  where
    go : (b : Bool) → AllByRecursion NoColon (new_texts seen ts) → AllByRecursion NoColon (new_texts (t ∷ seen) ts) → AllByRecursion NoColon (cond b (new_texts seen ts) (t ∷ new_texts (t ∷ seen) ts))
    go true here behind = here
    go false here behind = (a.0, behind)

filter_all : {A : Type 0} (P : A → Type 0) (p : A → Bool) (xs : List A) → AllByRecursion P xs → AllByRecursion P (filter p xs)
filter_all P p xs a = all_filter P p xs (all_weaker P (λ x. p x ≡ true → P x) xs (λ x h e. h) a)

symbols_named : (d : List Statement) → Faultless d → IsDescription d → AllByRecursion NoColon (symbols_g1 d)
symbols_named d f h = new_named [] (flat_map structural_names d) (all_flat NoColon structural_names d (go d (statements d h) (all_empty bad_of d f.adverbs) (description_spelt d h)))
  where
    go : (ss : List Statement) → AllByRecursion (λ s. IsTrue (is_statement s)) ss → AllByRecursion (λ s. bad_of s ≡ []) ss → AllByRecursion Kept ss → AllByRecursion (λ s. AllByRecursion NoColon (structural_names s)) ss
    go [] a b c = tt
    go (s ∷ ss) a b c = (structural_named s a.0 b.0 c.0, go ss a.1 b.1 c.1)

names_named : (d : List Statement) → Faultless d → IsDescription d → AllByRecursion NoColon (named_l0 d)
names_named d f h =
    let others = filter (λ t. not (is_one_of (texts_l0 d) t)) (lexemes d) in
    all_join NoColon (texts_l0 d) others
    (all_map NoColon (λ (t : Spelled). t.content) (placed_tokens d) (all_weaker IsSound (λ t. NoColon t.content) (placed_tokens d) sound_named (placed_sound d f h)))
    (filter_all NoColon (λ t. not (is_one_of (texts_l0 d) t)) (lexemes d) (filter_all NoColon (λ t. not (is_one_of (left_names false d) t)) (symbols_g1 d) (symbols_named d f h)))

absent_name : (names : List (List ℕ)) (k : ℕ) → AllByRecursion NoColon names → is_one_of names (set_name k) ≡ false
absent_name [] k a = refl
absent_name (n ∷ ns) k a = go (bytes_eq n (set_name k)) refl (absent_name ns k a.1)
  where
    go : (b : Bool) → bytes_eq n (set_name k) ≡ b → is_one_of ns (set_name k) ≡ false → (b || is_one_of ns (set_name k)) ≡ false
    go true e rest = absurd (a.0 (decimal k) ((bytes_eq-Decides n (set_name k)).0 e))
    go false e rest = rest

-- the names of sets from one number on are none of those seen
abbrev AreUnseen : ℕ → List (List ℕ) → Type 0
AreUnseen a seen = (k : ℕ) → a ≤ k → k < 2 ^ 64 → is_one_of seen (set_name k) ≡ false

tail_same : (x : ℕ) (xs ys : List ℕ) → x ∷ xs ≡ x ∷ ys → xs ≡ ys
tail_same x xs ys e = cc

sets_new : (a n : ℕ) (seen : List (List ℕ)) → a + n ≤ 2 ^ 64 → AreUnseen a seen → AllNew seen (map set_name (count_from a n))
sets_new a zero seen le unseen = tt
sets_new a (suc n) seen le unseen = (
  unseen a (omega arith) (omega (arith, le)),
  sets_new (a + 1) n (set_name a ∷ seen) (omega (arith, le)) (λ (k : ℕ) (more : a + 1 ≤ k) (lt : k < 2 ^ 64). go k more lt (bytes_eq (set_name a) (set_name k)) refl),
)
  where
    go : (k : ℕ) → a + 1 ≤ k → k < 2 ^ 64 → (b : Bool) → bytes_eq (set_name a) (set_name k) ≡ b → (b || is_one_of seen (set_name k)) ≡ false
    go k more lt true e =
        let same : a ≡ k = decimal_injective a k (omega (arith, le)) lt (tail_same 58 (decimal a) (decimal k) ((bytes_eq-Decides (set_name a) (set_name k)).0 e)) in
        absurd (omega (arith, same, more))
    go k more lt false e = unseen k (omega (arith, more)) lt

sets_apart : (names : List (List ℕ)) (a n : ℕ) → AllByRecursion NoColon names → Apart names (map set_name (count_from a n))
sets_apart names a zero h = tt
sets_apart names a (suc n) h = (absent_name names a h, sets_apart names (a + 1) n h)

all_symbols_new : (d : List Statement) → Faultless d → IsDescription d → length (sets_l0 d) ≤ MOST_ENTRIES → AllNew [] (grammar_l0 d).names
all_symbols_new d f h le =
    let sets = set_names (length (sets_l0 d)) in
    append_new [] (named_l0 d) sets (named_new d) (sets_new 0 (length (sets_l0 d)) [] (omega (arith, le)) (λ (k : ℕ) (a : 0 ≤ k) (lt : k < 2 ^ 64). refl)) (apart_nothing sets) (sets_apart (named_l0 d) 0 (length (sets_l0 d)) (names_named d f h))

-- BOTH GRAMMARS CAN BE WRITTEN

start_few : (xs : List (List ℕ)) → length (take 1 xs) ≤ 1
start_few [] = omega arith
start_few (x ∷ xs) = omega arith

pub g1_writable : (d : List Statement) → Faultless d → IsDescription d → IsWritable (grammar_g1 d)
g1_writable d f h =
    let few = modest d h in
    let known = g1_known d f in
    let a = few.symbols in
    let b = few.rules in
    let long = length-map (start_of d) (place_in (symbols_g1 d)) in
    let one : length (start_of d) ≤ 1 = start_few _ in
    record {
      differ = symbols_new d;
      symbols = omega (arith, a);
      good = known.rules;
      rules = omega (arith, b);
      known = known.starts;
      starts = omega (arith, long, one);
    }

pub l0_writable : (d : List Statement) → Faultless d → IsDescription d → IsWritable (grammar_l0 d)
l0_writable d f h =
    let few = modest d h in
    let known = l0_known d f (few_placed d f h) in
    let a = few.named in
    let b = few.lexical in
    let c = few.added in
    let e = few.starts in
    let names = names_long d in
    let own = flat_map (rules_of (named_l0 d)) (filter (is_of_level true) d) in
    let added = added_rules 0 (length (named_l0 d)) (placed_tokens d) in
    let both = length-append own added in
    let long = length-map (start_texts d) (place_in (named_l0 d)) in
    record {
      differ = all_symbols_new d f h (omega (arith, a));
      symbols = omega (arith, a, names);
      good = known.rules;
      rules = omega (arith, b, c, both);
      known = known.starts;
      starts = omega (arith, e, long);
    }

-- THE TABLES

pub lexemes_small : (d : List Statement) → Faultless d → IsDescription d → AllByRecursion (λ p. IsSmall (priority_of p.1)) (flat_map lexeme_parts d)
lexemes_small d f h =
    all_flat (λ (p : (List ℕ) × List Adverb). IsSmall (priority_of p.1)) lexeme_parts d (all_weaker (λ s. AllByRecursion TellsSmall (adverb_lists s)) (λ s. AllByRecursion (λ p. IsSmall (priority_of p.1)) (lexeme_parts s)) d each (all_small d f h))
  where
    each : (s : Statement) → AllByRecursion TellsSmall (adverb_lists s) → AllByRecursion (λ p. IsSmall (priority_of p.1)) (lexeme_parts s)
    each (Lexeme at name adverbs) a = (a.0.1, tt)
    each (Start at name) a = tt
    each (Default at adverbs) a = tt
    each (LexemeDefault at adverbs) a = tt
    each (Discard at item adverbs) a = tt
    each (Empty left lexical adverbs) a = tt
    each (Quantified left lexical item plus adverbs) a = tt
    each (Rules left lexical groups) a = tt

pub lexemes_known : (d : List Statement) → AllIn (symbols_g1 d) (lexemes d)
lexemes_known d = all_in (symbols_g1 d) (lexemes d) (symbol_of_lexeme d)

pub lexemes_started : (d : List Statement) → AllIn (start_texts d) (lexemes d)
lexemes_started d = all_in (start_texts d) (lexemes d) (start_of_lexeme d)

pub discards_started : (d : List Statement) → AllIn (start_texts d) (discarded d)
discards_started d = all_in (start_texts d) (discarded d) (start_of_discard d)

pub starts_named : (d : List Statement) → AllIn (named_l0 d) (start_texts d)
starts_named d = all_in (named_l0 d) (start_texts d) (start_named d)
