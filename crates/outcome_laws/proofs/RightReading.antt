-- Letters are read by the grammar of right recursion into a token each.
use Rattle.std.proofs.Common.{◌≡◌, ◌↔◌, inl, inr, ℕ, zero, suc, ◌+◌, ◌<◌, ◌≤◌, ◌≤ℤ◌, pos, List, [], ◌∷◌, ◌++◌, length, replicate, slice_get, Contains, Some, false, IsAscii, refl, sym, ◌∙◌, ap, subst, arith, lit<, lit≤}
use Rattle.std.specs.List.Sorted.{IsStrictlySortedBy}
use Rattle.std.specs.Int.Signed.{≤ℤ_refl}
use Rattle.std.proofs.lemmas.List.{length-replicate}
use Rattle.std.proofs.lemmas.Str.{chars-IsAscii, IsUtf8-from_ascii}
use Rattle.std.proofs.lemmas.Str.Ascii.{IsAscii-nil, IsAscii-cons}
use Rattle.finite_sets.proofs.Lists.{Contains-none}
use Rattle.grammar_model.specs.Acceptable.{Spells}
use Rattle.grammar_model.specs.declared.limits.TheConstants.{LONGEST_INPUT}
use Rattle.grammar_model.specs.Grammar.{IsPlain, Grammar, rule_at, slot_count, slot_of, IsTerminal}
use Rattle.grammar_model.specs.Trees.{Tree, Leaf, Nulled, Node, NoChild, Child}
use Rattle.grammar_model.specs.Derives.{Held, Line, Derives}
use Rattle.language_model.specs.Building.{LexemeRow}
use Rattle.reading_model.specs.Matches.{IsInSet, CharacterEdges, Matches}
use Rattle.reading_model.specs.Reading.{Piece, Token, edges_of, IsNext, IsCandidate, ADiscard, ALexeme, IsLongest, IsKept, Reads, Begin, Take, IsReading, End, HasEnded}
use Rattle.run_model.specs.Inputs.{IsRead}
use Rattle.work_laws.proofs.Plain.{IsSolid, none_nullable}
use Rattle.outcome_laws.specs.Figures.{right_g1, right_built, row, tree}
use Rattle.outcome_laws.proofs.RightSets.{tokens_place}
use Rattle.outcome_laws.proofs.RightTrees.{derives, held_in}

abbrev letters : ℕ → List ℕ
letters n = replicate n 97

-- ---- what the lexeme matches

abbrev pub l0 : Grammar
l0 = right_built.l0

pub l0_plain : (i : ℕ) → IsPlain (rule_at l0 i)
l0_plain zero = tt
l0_plain (suc i) = tt

pub l0_solid : IsSolid l0
l0_solid = record { plain = l0_plain; parts = parts }
  where
    parts : (i : ℕ) → i < 1 → 0 < slot_count (rule_at l0 i)
    parts zero lt = lit< tt
    parts (suc i) lt = absurd (omega (arith, lt))

pub l0_terminal : IsTerminal l0 1
l0_terminal zero lt e = omega (arith, e)
l0_terminal (suc i) lt e = omega (arith, lt)

pub l0_no_terminal : IsTerminal l0 0 → ⊥
l0_no_terminal h = h 0 (lit< tt) refl

in_set : IsInSet right_built 1 97
in_set = record { set = _; is_set = (0, lit< tt, refl); member = refl }

module _ (text : List ℕ) where
  matches : (from : ℕ) → slice_get text from ≡ Some 97 → Matches right_built text 0 from (suc from)
  matches from c = (
    Node 0 (Child NoChild (Leaf 1 from (suc from))) from (suc from),
    record {
      from_is = refl;
      to_is = refl;
      spans = omega arith;
      in_range = lit< tt;
      fits = (refl, lit≤ tt);
      complete = refl;
      prefix = (from, refl, record { symbol_is = refl; from_is = refl; to_is = refl; terminal = l0_terminal; held = (refl, (97, c, in_set)) });
    },
  )

  part_matched : (p q : ℕ) (t : Tree) → Derives l0 (CharacterEdges right_built text) (slot_of 1) p q t → suc p ≡ q
  part_matched p q (Leaf s from to) d = ap suc (sym d.from_is) ∙ sym d.held.0 ∙ d.to_is
  part_matched p q (Nulled s at) d = absurd (none_nullable l0 l0_solid (slot_of 1) d.nullable)
  part_matched p q (Node i children from to) d = absurd (l0_terminal i d.in_range d.fits.0)

  tree_matched : (p q : ℕ) (t : Tree) → Derives l0 (CharacterEdges right_built text) (slot_of 0) p q t → suc p ≡ q
  tree_matched p q (Leaf s from to) d = absurd (l0_no_terminal (subst (IsTerminal l0) d.symbol_is d.terminal))
  tree_matched p q (Nulled s at) d = absurd (none_nullable l0 l0_solid (slot_of 0) d.nullable)
  tree_matched p q (Node zero NoChild from to) d = absurd (let c = d.complete in omega (arith, c))
  tree_matched p q (Node zero (Child NoChild t) from to) d = let (r, here, dt) = d.prefix in ap suc here ∙ part_matched r q t dt
  tree_matched p q (Node zero (Child (Child prefix u) t) from to) d = absurd (let c = d.complete in omega (arith, c))
  tree_matched p q (Node (suc i) children from to) d = absurd (let lt = d.in_range in omega (arith, lt))

  matched : (from to : ℕ) → Matches right_built text 0 from to → suc from ≡ to
  matched from to (t, d) = tree_matched from to t d

-- ---- one token

abbrev lexeme : LexemeRow
lexeme = record { symbol = 1; start = 0; priority = pos 0; latm = false }

is_lexeme : (l : LexemeRow) → Contains right_built.lexemes l → lexeme ≡ l
is_lexeme l (zero, lt, e) = e
is_lexeme l (suc k, lt, e) = absurd (omega (arith, lt))

candidate_is : (pieces : List Piece) (start : ℕ) → IsCandidate right_built pieces start → start ≡ 0
candidate_is pieces start (ADiscard (k, lt, e)) = absurd (omega (arith, lt))
candidate_is pieces start (ALexeme l has is why) = let number = ap (λ (r : LexemeRow). r.start) (is_lexeme l has) in omega (arith, number, is)

module _ (text : List ℕ) (pieces : List Piece) (at : ℕ) (here : slice_get text at ≡ Some 97) (next : IsNext right_built pieces 1) where
  match : Matches right_built text 0 at (at + 1)
  match = subst (Matches right_built text 0 at) (let e : suc at ≡ at + 1 = omega arith in e) (matches text at here)

  longest : IsLongest right_built text pieces at 1
  longest = record {
    some = lit< tt;
    start = 0;
    candidate = ALexeme lexeme (0, lit< tt, refl) refl (inl refl);
    matches = match;
    longest = λ other m c h. (let e = matched text at (at + m) (subst (λ z. Matches right_built text z at (at + m)) (candidate_is pieces other c) h) in omega (arith, e));
  }

  kept : IsKept right_built text pieces at 1 1
  kept = record {
    row = lexeme;
    symbol_is = refl;
    fitting = record { lexeme = (0, lit< tt, refl); next = next; matches = match };
    highest = λ other f. subst (λ (l : LexemeRow). l.priority ≤ℤ pos 0) (is_lexeme other f.lexeme) (≤ℤ_refl (pos 0));
  }

  only_kept : (symbol : ℕ) → Contains (1 ∷ []) symbol ↔ IsKept right_built text pieces at 1 symbol
  only_kept symbol = (to, λ k. (0, lit< tt, ap (λ (r : LexemeRow). r.symbol) (is_lexeme k.row k.fitting.lexeme) ∙ k.symbol_is))
    where
      to : Contains (1 ∷ []) symbol → IsKept right_built text pieces at 1 symbol
      to (zero, lt, e) = subst (IsKept right_built text pieces at 1) e kept
      to (suc k, lt, e) = absurd (omega (arith, lt))

  taken : Reads right_built text at pieces → at < length text → Reads right_built text (at + 1) (pieces ++ Token 1 (1 ∷ []) ∷ [])
  unfolding IsStrictlySortedBy
  taken reads within = Take 1 [] reads within longest (tt, tt) only_kept

-- ---- all of them

copy_at : (c n k : ℕ) → k < n → slice_get (replicate n c) k ≡ Some c
copy_at c zero k lt = absurd (omega (arith, lt))
copy_at c (suc n) zero lt = refl
copy_at c (suc n) (suc k) lt = copy_at c n k (omega (arith, lt))

copy_more : (c n : ℕ) → c ∷ replicate n c ≡ replicate n c ++ c ∷ []
copy_more c zero = refl
copy_more c (suc n) = ap (λ l. c ∷ l) (copy_more c n)

row_more : (n : ℕ) → row (suc n) ≡ row n ++ Token 1 (1 ∷ []) ∷ []
row_more zero = refl
row_more (suc n) = ap (λ l. Token 1 (1 ∷ []) ∷ l) (row_more n)

spelled : (k more p : ℕ) → p + more ≡ k → Spells (Held (edges_of (row k))) p k (replicate more 1)
spelled k zero p e = omega (arith, e)
spelled k (suc more) p e = (suc p, held_in k p (omega (arith, e)), spelled k more (suc p) (omega (arith, e)))

next_one : (k : ℕ) → IsNext right_built (row k) 1
next_one k = record {
  before = replicate k 1;
  after = [];
  tree = tree k 0 (suc k);
  spelled = subst (λ z. Spells (Held (edges_of (row k))) 0 z (replicate k 1)) (sym (tokens_place k)) (spelled k k 0 (omega arith));
  derived = subst (λ w. Derives right_g1 (Line w) (slot_of 0) 0 (length w) (tree k 0 (suc k))) (copy_more 1 k)
      (subst (λ z. Derives right_g1 (Line (replicate (suc k) 1)) (slot_of 0) 0 z (tree k 0 (suc k))) (sym (length-replicate {A = ℕ} (suc k) 1))
      (derives (Line (replicate (suc k) 1)) (suc k) (λ p lt. (copy_at 1 (suc k) p lt, refl)) k 0 (suc k) (omega arith) (omega arith)));
}

module _ (n : ℕ) where
  reads : (k : ℕ) → k ≤ n → Reads right_built (letters n) k (row k)
  reads zero le = Begin
  reads (suc k) le =
      let long = length-replicate {A = ℕ} n 97 in
      subst (λ z. Reads right_built (letters n) z (row (suc k))) (let e : k + 1 ≡ suc k = omega arith in e)
      (subst (Reads right_built (letters n) (k + 1)) (sym (row_more k)) (taken (letters n) (row k) k (copy_at 97 n k le) (next_one k) (reads k (omega (arith, le))) (omega (arith, le, long))))

  reading : IsReading right_built (letters n) (row n) End
  reading = HasEnded (subst (λ z. Reads right_built (letters n) z (row n)) (sym (length-replicate {A = ℕ} n 97)) (reads n (omega arith))) (inr (λ symbol c may. Contains-none symbol c))

  letters_ascii : IsAscii (letters n)
  letters_ascii = by n
    where
      by : (k : ℕ) → IsAscii (replicate k 97)
      by zero = IsAscii-nil
      by (suc k) = IsAscii-cons 97 (replicate k 97) (lit< tt) (by k)

  pub is_read : n ≤ LONGEST_INPUT → IsRead right_built [] (letters n) (row n)
  is_read few =
      let long = length-replicate {A = ℕ} n 97 in
      record {
        text = record { within = omega (arith, few, long); utf8 = IsUtf8-from_ascii (letters n) letters_ascii };
        reading = subst (λ cs. IsReading right_built cs (row n) End) (sym (chars-IsAscii (letters n) letters_ascii)) reading;
      }
