-- Lexemes by the names between commas, one after another.
use Rattle.std.proofs.Common.{◌≡◌, ◌∙◌, ℕ, List, [], ◌∷◌, ◌++◌, All, Contains, Option, Some, None, map, refl, sym, ap, subst, append_assoc, append-nil, Bor, eqb, inl, Bool, true≢false, ◌+◌, ◌<◌, ◌≤◌, ◌↔◌, length, arith}
use Rattle.std.specs.Prelude.{IsTrue, is_some}
use Rattle.std.specs.List.{slice_split, count_by}
use Rattle.std.specs.Iterator.{AlwaysYields}
use Rattle.std.specs.Str.Iter.{split_steps}
use Rattle.std.specs.Str.Pattern.{FindsChar}
use Rattle.std.specs.declared.str.Split.{Split}
use Rattle.std.proofs.lemmas.List.{map-append, length-map}
use Rattle.std.proofs.lemmas.List.Splits.{length-slice_split}
use Rattle.std.proofs.lemmas.List.Elements.{All-append, Contains-append_right}
use Rattle.finite_sets.proofs.Lists.{Contains-none}
use Rattle.finite_sets.proofs.Members.{contains_from}
use Rattle.grammar_model.specs.Values.{name_of}
use Rattle.language_model.specs.Building.{Built}
use Rattle.reading_model.specs.First.{IsFirstWith}
use Rattle.words_model.specs.Words.{names_between}
use Rattle.run_model.specs.Given.{IsLexeme, NamesLexeme, NamesNoLexeme, AreGiven}
use Rattle.command_line.specs.Jobs.{names_told}
use Rattle.run_model.proofs.Given.{all_none, all_cons, all_at, given_named}

pub first_among : {A : Type 0} {P : A → Type 0} {xs : List A} {x : A} → IsFirstWith P xs x → Contains xs x
first_among {A} {P} {xs} {x} f =
    subst (λ (l : List A). Contains l x) (sym f.split) (Contains-append_right f.before (x ∷ f.after) x (contains_from (x ∷ f.after) x (inl refl)))

-- ---- the pieces that are left

abbrev pub Cuts : Split ℕ → Option (Bor (List ℕ)) → Split ℕ → Type 0
Cuts = split_steps FindsChar (λ a b. b ≡ a)

abbrev pub Yields : Split ℕ → List (List ℕ) → Type 0
Yields s left = AlwaysYields Cuts (λ (x : Bor (List ℕ)). x.now) s left

pub record IsTurn (t : Split ℕ) (piece : List ℕ) (left : List (List ℕ)) : Type 0 where
  pub rest : List (List ℕ)
  pub is : left ≡ piece ∷ rest
  pub yields : Yields t rest

pub turned : (s t : Split ℕ) (r : Option (Bor (List ℕ))) (x : Bor (List ℕ)) (left : List (List ℕ)) → Yields s left → Cuts s r t → r ≡ Some x → IsTurn t x.now left
turned s t r x [] y k e = absurd (y x t (subst (λ o. Cuts s o t) e k))
turned s t r x (p ∷ rest) y k e =
    let h = y.1 x t (subst (λ o. Cuts s o t) e k) in
    record { rest = rest; is = ap (λ q. q ∷ rest) (sym h.0); yields = h.1 }

pub ended : (s t : Split ℕ) (r : Option (Bor (List ℕ))) (left : List (List ℕ)) → Yields s left → Cuts s r t → r ≡ None → left ≡ []
ended s t r [] y k e = refl
ended s t r (p ∷ rest) y k e = absurd (y.0 t (subst (λ o. Cuts s o t) e k))

-- ---- the lexemes so far

-- the lexemes of the names before those that are left
pub record AreSoFar (b : Built) (text : List ℕ) (lexemes : List ℕ) (left : List (List ℕ)) : Type 0 where
  pub is : names_between text ≡ map (name_of b.g1) lexemes ++ left
  pub each : All (IsLexeme b) lexemes

module _ (b : Built) (text : List ℕ) where
  pub none_so_far : AreSoFar b text [] (slice_split (λ c. eqb c 44) text)
  none_so_far = record { is = refl; each = all_none (IsLexeme b) }

  pub one_more : (lexemes : List ℕ) (left rest : List (List ℕ)) (name : List ℕ) (symbol : ℕ) → AreSoFar b text lexemes left → left ≡ name ∷ rest → IsLexeme b symbol → name_of b.g1 symbol ≡ name
      → AreSoFar b text (lexemes ++ symbol ∷ []) rest
  one_more lexemes left rest name symbol so e lexeme named =
      let names = map (name_of b.g1) lexemes in
      let more : map (name_of b.g1) (lexemes ++ symbol ∷ []) ≡ names ++ name ∷ [] = map-append (name_of b.g1) lexemes (symbol ∷ []) ∙ ap (λ n. names ++ n ∷ []) named in
      record {
        is = so.is ∙ ap (λ l. names ++ l) e ∙ sym (append_assoc names (name ∷ []) rest) ∙ ap (λ l. l ++ rest) (sym more);
        each = All-append (IsLexeme b) lexemes (symbol ∷ []) so.each (all_cons (IsLexeme b) symbol [] lexeme (all_none (IsLexeme b)));
      }

  pub all_so_far : (lexemes : List ℕ) (left : List (List ℕ)) → AreSoFar b text lexemes left → left ≡ [] → AreGiven b (names_between text) lexemes
  all_so_far lexemes left so e =
      record { named = sym (so.is ∙ ap (λ l. map (name_of b.g1) lexemes ++ l) e ∙ append-nil (map (name_of b.g1) lexemes)); lexemes = so.each }

  -- the next name is the first that is no lexeme's
  pub first_unnamed : (lexemes : List ℕ) (left rest : List (List ℕ)) (name : List ℕ) → AreSoFar b text lexemes left → left ≡ name ∷ rest → NamesNoLexeme b name
      → IsFirstWith (NamesNoLexeme b) (names_between text) name
  first_unnamed lexemes left rest name so e none = record {
    before = map (name_of b.g1) lexemes;
    after = rest;
    split = so.is ∙ ap (λ l. map (name_of b.g1) lexemes ++ l) e;
    has = none;
    none_before = λ other among no. no (all_at (NamesLexeme b) (map (name_of b.g1) lexemes) other
        (given_named b (map (name_of b.g1) lexemes) lexemes (record { named = refl; lexemes = so.each })) among);
  }

-- ---- how many there are

module _ (b : Built) where
  -- no name, no lexeme
  pub none_named : AreGiven b [] []
  none_named = record { named = refl; lexemes = all_none (IsLexeme b) }

  pub as_many : (names : List (List ℕ)) (lexemes : List ℕ) → AreGiven b names lexemes → length lexemes ≡ length names
  as_many names lexemes are = sym (length-map lexemes (name_of b.g1)) ∙ ap (λ (l : List (List ℕ)). length l) are.named

  pub few_given : (names : List (List ℕ)) (lexemes : List ℕ) → AreGiven b names lexemes → length names ≤ 8 → length lexemes ≤ 8
  few_given names lexemes are few = let same = as_many names lexemes are in omega (arith, same, few)

  -- there are lexemes where a supplier is kept
  pub both_given : (names : Option (Bor (List ℕ))) (supplied : Bool) (lexemes : List ℕ) → supplied ≡ is_some names → AreGiven b (names_told names) lexemes → IsTrue supplied ↔ (0 < length lexemes)
  both_given None supplied lexemes e are =
      let none : length lexemes ≡ 0 = as_many [] lexemes are in
      (λ some. absurd (true≢false (sym some ∙ e)), λ lt. absurd (omega (arith, none, lt)))
  both_given (Some text) supplied lexemes e are =
      let same = as_many (names_between text.now) lexemes are in
      let some : length (names_between text.now) ≡ count_by (λ c. eqb c 44) text.now + 1 = length-slice_split (λ c. eqb c 44) text.now in
      (λ _. omega (arith, same, some), λ _. e)
