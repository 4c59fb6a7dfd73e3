-- What a program gathers from the rows of lexemes and the starts that are marked is what reading takes.
use Rattle.std.proofs.Common.{arith, ◌≡◌, ◌↔◌, inr, ℕ, ◌+◌, ◌<◌, ◌≤◌, ◌≤ℤ◌, List, [], ◌∷◌, zero, suc, length, map, get_or, Contains, Some, None, refl, sym, ◌∙◌, ap, subst}
use Rattle.std.proofs.lemmas.List.Elements.{Contains-get_or}
use Rattle.std.specs.List.Sorted.{IsStrictlySortedBy}
use Rattle.std.specs.Ordering.{nat_cmp}
use Rattle.std.specs.Prelude.{slice_get, slice_index_or, option_map}
use Rattle.std.proofs.lemmas.Option.{slice_get-map, slice_get-get_or}
use Rattle.std.proofs.lemmas.Simd.{map-map}
use Rattle.finite_sets.proofs.Deciding.{most_itself, most_twice}
use Rattle.finite_sets.proofs.Lists.{Contains-none, Contains-map}
use Rattle.language_model.specs.Building.{Built, LexemeRow}
use Rattle.dsl_build.specs.declared.built.LexemeRow.{LexemeRow as HeldRow}
use Rattle.dsl_build.specs.Tables.{row_of}
use Rattle.reading_model.specs.Matches.{Matches}
use Rattle.reading_model.specs.Reading.{Piece, IsNext, IsCandidate, ADiscard, ALexeme, IsLongest, IsFitting, IsKept, IsSkipped, IsFound, AreFound, AreSorted, AreExpected}
use Rattle.reading_model.proofs.Within.{match_within}
use Rattle.earley_sets.specs.Recognizer.{Recognizer, IsExpected}
use Rattle.earley_sets.proofs.Membership.{Contains-map_from}
use Rattle.prepared_grammars.specs.Gathered.{Gathers}
use Rattle.prepared_grammars.specs.Prepared.{AreInOrder}
use Rattle.scanless.specs.Pieces.{AreCandidates, ArePlaced, AreMatched, IsLongestBy, IsHighestOf, IsFit, AreLexemes}

-- ---- the longest match

module _ (b : Built) (text : List ℕ) (pieces : List Piece) (at : ℕ) (starts : List ℕ) (are : AreCandidates b pieces starts) where
  pub longest_by : (n : ℕ) (matched : List ℕ) → AreMatched b text at starts n matched → IsLongestBy b text pieces at n matched
  longest_by n matched m =
      let first = (m.exact (get_or matched 0 0)).0 (Contains-get_or matched 0 0 m.found) in
      record {
        longest = record {
          some = m.some;
          start = get_or matched 0 0;
          candidate = (are (get_or matched 0 0)).0 first.0;
          matches = first.1;
          longest = λ other k c h. m.longest other k ((are other).1 c) h;
        };
        exact = λ start. (
          (λ mk. (let (c, h) = (m.exact start).0 mk in ((are start).0 c, h))),
          (λ (c, h). (m.exact start).1 ((are start).1 c, h)),
        );
      }

  pub none_longest : ((k m : ℕ) → Contains starts k → 0 < m → Matches b text k at (at + m) → ⊥) → (n : ℕ) → IsLongest b text pieces at n → ⊥
  none_longest none n l = none l.start n ((are l.start).1 l.candidate) l.some l.matches

pub matched_within : (b : Built) (text : List ℕ) (at : ℕ) (starts : List ℕ) (n : ℕ) (matched : List ℕ) → AreMatched b text at starts n matched → at + n ≤ length text
matched_within b text at starts n matched m = match_within b text (get_or matched 0 0) at n m.some ((m.exact (get_or matched 0 0)).0 (Contains-get_or matched 0 0 m.found)).1

one_longest : (b : Built) (text : List ℕ) (pieces : List Piece) (at m n : ℕ) → IsLongest b text pieces at m → IsLongest b text pieces at n → m ≡ n
one_longest b text pieces at m n l k = let x = l.longest k.start n k.candidate k.matches in let y = k.longest l.start m l.candidate l.matches in omega (arith, x, y)

pub skipped_is : (b : Built) (text : List ℕ) (pieces : List Piece) (at n : ℕ) (matched : List ℕ) → IsLongestBy b text pieces at n matched → ((k : ℕ) × Contains b.discards k × Contains matched k) ↔ IsSkipped b text pieces at n
skipped_is b text pieces at n matched by = ((λ (k, c, mk). (k, c, ((by.exact k).0 mk).1)), (λ (k, c, h). (k, c, (by.exact k).1 (ADiscard c, h))))

-- ---- a start alone, and its only row

pub alone : (starts : List ℕ) → length starts ≡ 1 → starts ≡ slice_index_or starts 0 0 ∷ []
alone [] one = absurd (omega arith)
alone (x ∷ []) one = refl
alone (x ∷ (y ∷ more)) one = absurd (omega arith)

one_start : (start j k : ℕ) → Contains (start ∷ []) j → Contains (start ∷ []) k → j ≡ k
one_start start j k (zero, a, e) (zero, b, f) = sym e ∙ f
one_start start j k (zero, a, e) (suc i, b, f) = absurd (omega arith)
one_start start j k (suc i, a, e) c = absurd (omega arith)

row_of_place : (rows : List HeldRow) → ArePlaced rows → (q r : HeldRow) → Contains rows q → Contains rows r → q.start ≡ r.start → q ≡ r
row_of_place rows placed q r (i, a, e) (j, b, f) same =
    let x : slice_get rows i ≡ Some q = slice_get-get_or rows i q a ∙ ap Some e in
    let y : slice_get rows j ≡ Some r = slice_get-get_or rows j r b ∙ ap Some f in
    let k : i ≡ j = sym (placed i q x) ∙ (same ∙ placed j r y) in
    let z : Some q ≡ Some r = sym x ∙ (ap (slice_get rows) k ∙ y) in
    cc

-- ---- the rows are those of the lexemes

module _ (b : Built) (rows : List HeldRow) (rows_are : map row_of rows ≡ b.lexemes) where
  pub in_lexemes : (r : HeldRow) → Contains rows r → Contains b.lexemes (row_of r)
  in_lexemes r m = subst (λ ls. Contains ls (row_of r)) rows_are (Contains-map row_of rows r m)

  pub from_lexemes : (l : LexemeRow) → Contains b.lexemes l → (r : HeldRow) × Contains rows r × (l ≡ row_of r)
  from_lexemes l c = Contains-map_from row_of rows l (subst (λ ls. Contains ls l) (sym rows_are) c)

  pub rows_ascend : AreInOrder b → IsStrictlySortedBy nat_cmp (map (λ (r : HeldRow). r.symbol) rows)
  rows_ascend order =
      subst (IsStrictlySortedBy nat_cmp) (map-map (λ (l : LexemeRow). l.symbol) row_of rows) (subst (λ ls. IsStrictlySortedBy nat_cmp (map (λ (l : LexemeRow). l.symbol) ls)) (sym rows_are) order.ascend)

  pub rows_placed : AreInOrder b → ArePlaced rows
  rows_placed order k r e = order.places k (row_of r) (subst (λ ls. slice_get ls k ≡ Some (row_of r)) rows_are (slice_get-map row_of rows k ∙ ap (option_map row_of) e))

  pub gathered_lexemes : (P : HeldRow → Type 0) (xs : List ℕ) → Gathers P (λ (r : HeldRow). r.symbol) rows xs → AreLexemes b xs
  gathered_lexemes P xs g s c = let (r, m, p, is) = (g s).0 c in (row_of r, in_lexemes r m, is)

  module _ (pieces : List Piece) (recce : Recognizer) (next : (t : ℕ) → IsExpected recce t ↔ IsNext b pieces t) where
    pub expected_are : (xs ys : List ℕ) → Gathers (λ (r : HeldRow). IsExpected recce r.symbol) (λ (r : HeldRow). r.symbol) rows xs → AreSorted b ys → ((s : ℕ) → Contains ys s ↔ Contains xs s) → AreExpected b pieces ys
    expected_are xs ys g sorted same = record { sorted = sorted; exact = λ symbol. (there symbol, back symbol) }
      where
        there : (symbol : ℕ) → Contains ys symbol → (l : LexemeRow) × Contains b.lexemes l × (l.symbol ≡ symbol) × IsNext b pieces symbol
        there symbol c =
            let (r, m, h, is) = (g symbol).0 ((same symbol).0 c) in
            (row_of r, in_lexemes r m, is, subst (IsNext b pieces) is ((next r.symbol).0 h))

        back : (symbol : ℕ) → (l : LexemeRow) × Contains b.lexemes l × (l.symbol ≡ symbol) × IsNext b pieces symbol → Contains ys symbol
        back symbol (l, c, is, n) =
            let (r, m, e) = from_lexemes l c in
            let s : r.symbol ≡ symbol = subst (λ (k : LexemeRow). k.symbol ≡ symbol) e is in
            (same symbol).1 ((g symbol).1 (r, m, (next r.symbol).1 (subst (IsNext b pieces) (sym s) n), s))

  module _ (text : List ℕ) (pieces : List Piece) (at n : ℕ) (matched : List ℕ) (by : IsLongestBy b text pieces at n matched) where
    pub found_are : (xs ys : List ℕ) → Gathers (λ (r : HeldRow). Contains matched r.start) (λ (r : HeldRow). r.symbol) rows xs → AreSorted b ys → ((s : ℕ) → Contains ys s ↔ Contains xs s) → AreFound b text pieces at ys
    found_are xs ys g sorted same = record { sorted = sorted; exact = λ symbol. (there symbol, back symbol) }
      where
        there : (symbol : ℕ) → Contains ys symbol → IsFound b text pieces at symbol
        there symbol c =
            let (r, m, mk, is) = (g symbol).0 ((same symbol).0 c) in
            let (candidate, matches) = (by.exact r.start).0 mk in
            record { row = row_of r; lexeme = in_lexemes r m; symbol_is = is; candidate = candidate; count = n; longest = by.longest; matches = matches }

        back : (symbol : ℕ) → IsFound b text pieces at symbol → Contains ys symbol
        back symbol f =
            let (r, m, e) = from_lexemes f.row f.lexeme in
            let s : r.symbol ≡ symbol = subst (λ (k : LexemeRow). k.symbol ≡ symbol) e f.symbol_is in
            let count_is : f.count ≡ n = one_longest b text pieces at f.count n f.longest by.longest in
            let candidate : IsCandidate b pieces r.start = subst (λ (k : LexemeRow). IsCandidate b pieces k.start) e f.candidate in
            let matches : Matches b text r.start at (at + f.count) = subst (λ (k : LexemeRow). Matches b text k.start at (at + f.count)) e f.matches in
            (same symbol).1 ((g symbol).1 (r, m, (by.exact r.start).1 (candidate, subst (λ k. Matches b text r.start at (at + k)) count_is matches), s))

    module _ (recce : Recognizer) (next : (t : ℕ) → IsExpected recce t ↔ IsNext b pieces t) where
      fit_is : (r : HeldRow) → Contains rows r → IsFit recce matched r → IsFitting b text pieces at n (row_of r)
      fit_is r m fit = record { lexeme = in_lexemes r m; next = (next r.symbol).0 fit.1; matches = ((by.exact r.start).0 fit.0).1 }

      is_fit : (l : LexemeRow) → IsFitting b text pieces at n l → (r : HeldRow) × Contains rows r × (l ≡ row_of r) × IsFit recce matched r
      is_fit l f =
          let (r, m, e) = from_lexemes l f.lexeme in
          let g : IsFitting b text pieces at n (row_of r) = subst (IsFitting b text pieces at n) e f in
          (r, m, e, ((by.exact r.start).1 (ALexeme (row_of r) (in_lexemes r m) refl (inr g.next), g.matches), (next r.symbol).1 g.next))

      pub none_kept : IsHighestOf (IsFit recce matched) rows None → (symbol : ℕ) → Contains [] symbol ↔ IsKept b text pieces at n symbol
      none_kept none symbol = ((λ c. absurd (Contains-none symbol c)), (λ k. (let (r, m, e, fit) = is_fit k.row k.fitting in absurd (none r m fit))))

      pub kept_are : (h : HeldRow) (kept : List ℕ) → IsHighestOf (IsFit recce matched) rows (Some h) → Gathers (λ (r : HeldRow). IsFit recce matched r × (r.priority ≡ h.priority)) (λ (r : HeldRow). r.symbol) rows kept →
          (symbol : ℕ) → Contains kept symbol ↔ IsKept b text pieces at n symbol
      kept_are h kept (h_in, h_fit, most) g symbol = (there, back)
        where
          there : Contains kept symbol → IsKept b text pieces at n symbol
          there c =
              let (r, m, (fit, e), is) = (g symbol).0 c in
              record {
                row = row_of r;
                symbol_is = is;
                fitting = fit_is r m fit;
                highest = λ other f. (let (q, k, same, fits) = is_fit other f in subst (λ (z : LexemeRow). z.priority ≤ℤ r.priority) (sym same) (subst (λ z. q.priority ≤ℤ z) (sym e) (most q k fits)));
              }

          back : IsKept b text pieces at n symbol → Contains kept symbol
          back k =
              let (r, m, same, fit) = is_fit k.row k.fitting in
              let s : r.symbol ≡ symbol = subst (λ (z : LexemeRow). z.symbol ≡ symbol) same k.symbol_is in
              let above : h.priority ≤ℤ r.priority = subst (λ (z : LexemeRow). h.priority ≤ℤ z.priority) same (k.highest (row_of h) (fit_is h h_in h_fit)) in
              (g symbol).1 (r, m, (fit, most_twice r.priority h.priority (most r m fit) above), s)

      -- one start alone has the match, and the rows have their places
      pub one_kept : (start : ℕ) (kept : List ℕ) → matched ≡ start ∷ [] → ArePlaced rows → Gathers (IsFit recce (start ∷ [])) (λ (r : HeldRow). r.symbol) rows kept → (symbol : ℕ) → Contains kept symbol ↔ IsKept b text pieces at n symbol
      one_kept start kept is_one placed g symbol = (there, back)
        where
          fits : (r : HeldRow) → IsFit recce matched r → IsFit recce (start ∷ []) r
          fits r f = subst (λ starts. IsFit recce starts r) is_one f

          there : Contains kept symbol → IsKept b text pieces at n symbol
          there c =
              let (r, m, fit, is) = (g symbol).0 c in
              record {
                row = row_of r;
                symbol_is = is;
                fitting = fit_is r m (subst (λ starts. IsFit recce starts r) (sym is_one) fit);
                highest = λ other f. (
                    let (q, k, same, o) = is_fit other f in
                    let one : q ≡ r = row_of_place rows placed q r k m (one_start start q.start r.start (fits q o).0 fit.0) in
                    subst (λ (z : LexemeRow). z.priority ≤ℤ r.priority) (sym same) (subst (λ (z : HeldRow). z.priority ≤ℤ r.priority) (sym one) (most_itself r.priority)));
              }

          back : IsKept b text pieces at n symbol → Contains kept symbol
          back k =
              let (r, m, same, fit) = is_fit k.row k.fitting in
              (g symbol).1 (r, m, fits r fit, subst (λ (z : LexemeRow). z.symbol ≡ symbol) same k.symbol_is)
