-- Lexemes by their names: each name is a lexeme's, or the first that is none's is told; and these are the lexemes of one list.
use Rattle.std.proofs.Common.{◌≡◌, ℕ, zero, suc, List, [], ◌∷◌, map, All, Contains, Bool, true, false, ◌⊎◌, inl, inr, refl, sym, ap, ap₂, subst, ◌∙◌, arith, bytes_eq, true≢false}
use Rattle.std.proofs.lemmas.Slice.Eq.{bytes_eq-Decides}
use Rattle.finite_sets.proofs.Members.{among_from, contains_from}
use Rattle.finite_sets.proofs.Lists.{Contains-none}
use Rattle.grammar_model.specs.Grammar.{Grammar}
use Rattle.grammar_model.specs.Values.{name_of}
use Rattle.language_model.specs.Building.{Built, LexemeRow}
use Rattle.reading_model.specs.First.{IsFirstWith}
use Rattle.run_model.specs.Given.{IsLexeme, NamesLexeme, NamesNoLexeme, AreGiven}
use Rattle.run_model.specs.Inputs.{input_limit}

pub all_none : {A : Type 0} (P : A → Type 0) → All P []
all_none P k d lt = absurd (omega (arith, lt))

pub all_cons : {A : Type 0} (P : A → Type 0) (x : A) (xs : List A) → P x → All P xs → All P (x ∷ xs)
all_cons P x xs p all zero d lt = p
all_cons P x xs p all (suc k) d lt = all k d (omega (arith, lt))

pub all_head : {A : Type 0} (P : A → Type 0) (x : A) (xs : List A) → All P (x ∷ xs) → P x
all_head P x xs all = all 0 x (omega arith)

pub all_tail : {A : Type 0} (P : A → Type 0) (x : A) (xs : List A) → All P (x ∷ xs) → All P xs
all_tail P x xs all k d lt = all (suc k) d (omega (arith, lt))

pub all_at : {A : Type 0} (P : A → Type 0) (xs : List A) (x : A) → All P xs → Contains xs x → P x
all_at P xs x all (k, lt, e) = subst P e (all k x lt)

-- EACH NAME IS DECIDED

module _ (g : Grammar) (name : List ℕ) where
  abbrev IsNamed : List LexemeRow → Type 0
  IsNamed rows = (symbol : ℕ) × ((l : LexemeRow) × Contains rows l × (l.symbol ≡ symbol)) × (name_of g symbol ≡ name)

  further : (l : LexemeRow) (rows : List LexemeRow) → IsNamed rows → IsNamed (l ∷ rows)
  further l rows (symbol, (m, among, is), named) = (symbol, (m, contains_from (l ∷ rows) m (inr (among_from rows m among)), is), named)

  neither : (l : LexemeRow) (rows : List LexemeRow) → (name_of g l.symbol ≡ name → ⊥) → (IsNamed rows → ⊥) → IsNamed (l ∷ rows) → ⊥
  neither l rows other none (symbol, (m, among, is), named) = elim (among_from (l ∷ rows) m among) [
    | inl same ↦ other (ap (λ (r : LexemeRow). name_of g r.symbol) same ∙ ap (name_of g) is ∙ named)
    | inr later ↦ none (symbol, (m, contains_from rows m later, is), named)
  ]

  named_or_not : (rows : List LexemeRow) → IsNamed rows ⊎ (IsNamed rows → ⊥)
  named_or_not [] = inr (λ (symbol, (l, among, is), named). Contains-none l among)
  named_or_not (l ∷ rows) = by (bytes_eq (name_of g l.symbol) name) refl (named_or_not rows)
    where
      by : (same : Bool) → bytes_eq (name_of g l.symbol) name ≡ same → IsNamed rows ⊎ (IsNamed rows → ⊥) → IsNamed (l ∷ rows) ⊎ (IsNamed (l ∷ rows) → ⊥)
      by true e rest = inl (l.symbol, (l, contains_from (l ∷ rows) l (inl refl), refl), (bytes_eq-Decides (name_of g l.symbol) name).0 e)
      by false e (inl found) = inl (further l rows found)
      by false e (inr none) = inr (neither l rows (λ is. true≢false (sym ((bytes_eq-Decides (name_of g l.symbol) name).1 is) ∙ e)) none)

module _ (b : Built) where
  pub lexeme_or_not : (name : List ℕ) → NamesLexeme b name ⊎ NamesNoLexeme b name
  lexeme_or_not name = named_or_not b.g1 name b.lexemes

  pub all_or_first : (names : List (List ℕ)) → All (NamesLexeme b) names ⊎ ((name : List ℕ) × IsFirstWith (NamesNoLexeme b) names name)
  all_or_first [] = inl (all_none (NamesLexeme b))
  all_or_first (name ∷ names) = by (lexeme_or_not name) (all_or_first names)
    where
      by : NamesLexeme b name ⊎ NamesNoLexeme b name → All (NamesLexeme b) names ⊎ ((first : List ℕ) × IsFirstWith (NamesNoLexeme b) names first) →
          All (NamesLexeme b) (name ∷ names) ⊎ ((first : List ℕ) × IsFirstWith (NamesNoLexeme b) (name ∷ names) first)
      by (inr none) rest = inr (name, record { before = []; after = names; split = refl; has = none; none_before = λ n among not. Contains-none n among })
      by (inl found) (inl all) = inl (all_cons (NamesLexeme b) name names found all)
      by (inl found) (inr (first, is)) = inr (
        first,
        record {
          before = name ∷ is.before;
          after = is.after;
          split = ap (λ ns. name ∷ ns) is.split;
          has = is.has;
          none_before = λ n among not. elim (among_from (name ∷ is.before) n among) [
            | inl same ↦ subst (NamesNoLexeme b) (sym same) not found
            | inr later ↦ is.none_before n (contains_from is.before n later) not
          ];
        },
      )

  -- THEY ARE THE LEXEMES OF ONE LIST

  pub none_given : AreGiven b [] []
  none_given = record { named = refl; lexemes = all_none (IsLexeme b) }

  pub some_given : (names : List (List ℕ)) → All (NamesLexeme b) names → (given : List ℕ) × AreGiven b names given
  some_given [] all = ([], none_given)
  some_given (name ∷ names) all =
      let (symbol, lexeme, named) = all_head (NamesLexeme b) name names all in
      let (given, are) = some_given names (all_tail (NamesLexeme b) name names all) in
      (symbol ∷ given, record { named = ap₂ (λ n ns. n ∷ ns) named are.named; lexemes = all_cons (IsLexeme b) symbol given lexeme are.lexemes })

  -- lexemes with the same name are the same symbol
  abbrev pub LexemesDiffer : Type 0
  LexemesDiffer = (l m : LexemeRow) → Contains b.lexemes l → Contains b.lexemes m → name_of b.g1 l.symbol ≡ name_of b.g1 m.symbol → l.symbol ≡ m.symbol

  one_list : LexemesDiffer → (xs ys : List ℕ) → map (name_of b.g1) xs ≡ map (name_of b.g1) ys → All (IsLexeme b) xs → All (IsLexeme b) ys → xs ≡ ys
  one_list differ [] [] e these those = refl
  one_list differ [] (y ∷ ys) e these those = absurd (cc e)
  one_list differ (x ∷ xs) [] e these those = absurd (cc e)
  one_list differ (x ∷ xs) (y ∷ ys) e these those =
      let head : name_of b.g1 x ≡ name_of b.g1 y = cc e in
      let tail : map (name_of b.g1) xs ≡ map (name_of b.g1) ys = cc e in
      let (l, in_l, is_l) = all_head (IsLexeme b) x xs these in
      let (m, in_m, is_m) = all_head (IsLexeme b) y ys those in
      let same = differ l m in_l in_m (ap (name_of b.g1) is_l ∙ head ∙ sym (ap (name_of b.g1) is_m)) in
      ap₂ (λ z zs. z ∷ zs) (sym is_l ∙ same ∙ is_m) (one_list differ xs ys tail (all_tail (IsLexeme b) x xs these) (all_tail (IsLexeme b) y ys those))

  pub one_given : LexemesDiffer → (names : List (List ℕ)) (xs ys : List ℕ) → AreGiven b names xs → AreGiven b names ys → xs ≡ ys
  one_given differ names xs ys these those = one_list differ xs ys (these.named ∙ sym those.named) these.lexemes those.lexemes

  pub given_named : (names : List (List ℕ)) (given : List ℕ) → AreGiven b names given → All (NamesLexeme b) names
  given_named names given are = subst (All (NamesLexeme b)) are.named (go given are.lexemes)
    where
      go : (xs : List ℕ) → All (IsLexeme b) xs → All (NamesLexeme b) (map (name_of b.g1) xs)
      go [] all = all_none (NamesLexeme b)
      go (x ∷ xs) all = all_cons (NamesLexeme b) (name_of b.g1 x) (map (name_of b.g1) xs) (x, all_head (IsLexeme b) x xs all, refl) (go xs (all_tail (IsLexeme b) x xs all))

  -- so both have the same limit
  pub same_limit : (names : List (List ℕ)) (given : List ℕ) → AreGiven b names given → input_limit given ≡ input_limit names
  same_limit names given are = by given ∙ ap (λ (ns : List (List ℕ)). input_limit ns) are.named
    where
      by : (xs : List ℕ) → input_limit xs ≡ input_limit (map (name_of b.g1) xs)
      by [] = refl
      by (x ∷ xs) = refl
