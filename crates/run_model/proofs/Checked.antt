-- The lines of job `check`: there are some, and one list of them.
use Rattle.std.proofs.Common.{◌≡◌, ℕ, suc, List, [], ◌∷◌, refl, sym, ap, ◌∙◌, subst, map, Bool, true, false, ◌↔◌, IsTrue, All, arith}
use Rattle.std.proofs.lemmas.Bool.{true≢false}
use Rattle.std.proofs.lemmas.List.Elements.{All-cons, All-nil}
use Rattle.grammar_model.specs.Grammar.{Grammar}
use Rattle.language_model.specs.Building.{Built}
use Rattle.run_model.specs.Checking.{SymbolRow, IsRowOf, AreCheckLines, left_sides, head_line, row_line}
use Rattle.run_model.specs.Outcome.{Outcome, IsCheckOutcome, done}
use Rattle.run_model.proofs.Texts.{RunLaws}

one_test : {P : Type 0} (x y : Bool) → (IsTrue x ↔ P) → (IsTrue y ↔ P) → x ≡ y
one_test true true p q = refl
one_test true false p q = absurd (true≢false (sym (q.1 (p.0 refl))))
one_test false true p q = absurd (true≢false (sym (p.1 (q.0 refl))))
one_test false false p q = refl

abbrev row_with : ℕ → Bool → Bool → Bool → SymbolRow
row_with s nullable productive accessible = record { symbol = s; nullable = nullable; productive = productive; accessible = accessible }

one_row : (g : Grammar) (a b : SymbolRow) → a.symbol ≡ b.symbol → IsRowOf g a → IsRowOf g b → a ≡ b
one_row g a b same p q =
    let at_a : IsRowOf g (row_with a.symbol b.nullable b.productive b.accessible) =
    subst (λ (s : ℕ). IsRowOf g (row_with s b.nullable b.productive b.accessible)) (sym same) q in
    let nullable : a.nullable ≡ b.nullable = one_test a.nullable b.nullable p.nullable at_a.nullable in
    let productive : a.productive ≡ b.productive = one_test a.productive b.productive p.productive at_a.productive in
    let accessible : a.accessible ≡ b.accessible = one_test a.accessible b.accessible p.accessible at_a.accessible in
    ap (λ (s : ℕ). row_with s a.nullable a.productive a.accessible) same
    ∙ ap (λ (x : Bool). row_with b.symbol x a.productive a.accessible) nullable
    ∙ ap (λ (x : Bool). row_with b.symbol b.nullable x a.accessible) productive
    ∙ ap (λ (x : Bool). row_with b.symbol b.nullable b.productive x) accessible

one_list : (g : Grammar) (xs ys : List SymbolRow) → map (λ r. r.symbol) xs ≡ map (λ r. r.symbol) ys → All (IsRowOf g) xs → All (IsRowOf g) ys → xs ≡ ys
one_list g [] [] same p q = refl
one_list g [] (y ∷ ys) same p q = absurd (cc same)
one_list g (x ∷ xs) [] same p q = absurd (cc same)
one_list g (x ∷ xs) (y ∷ ys) same p q =
    let first : x ≡ y = one_row g x y (cc same) (p 0 x (omega arith)) (q 0 y (omega arith)) in
    let others : xs ≡ ys = one_list g xs ys (cc same) (λ k d lt. p (suc k) d (omega (arith, lt))) (λ k d lt. q (suc k) d (omega (arith, lt))) in
    cc (first, others)

one_lines : (b : Built) (xs ys : List (List ℕ)) → AreCheckLines b xs → AreCheckLines b ys → xs ≡ ys
one_lines b xs ys p q =
    let same : p.rows ≡ q.rows = one_list b.g1 p.rows q.rows (p.are_rows.symbols ∙ sym q.are_rows.symbols) p.are_rows.each q.are_rows.each in
    p.lines_are ∙ ap (λ (rows : List SymbolRow). head_line b ∷ map (row_line b.g1) rows) same ∙ sym q.lines_are

pub one_check : (b : Built) (x y : Outcome) → IsCheckOutcome b x → IsCheckOutcome b y → x ≡ y
one_check b x y p q = p.is ∙ ap done (one_lines b p.lines q.lines p.are q.are) ∙ sym q.is

module _ (laws : RunLaws) where
  rows_of : (g : Grammar) (symbols : List ℕ) → (rows : List SymbolRow) × (map (λ r. r.symbol) rows ≡ symbols) × All (IsRowOf g) rows
  rows_of g [] = ([], refl, All-nil (IsRowOf g))
  rows_of g (s ∷ ss) =
      let (row, is, told) = laws.row g s in
      let (rows, are, each) = rows_of g ss in
      (row ∷ rows, cc (is, are), All-cons (IsRowOf g) row rows told each)

  pub check_outcome : (b : Built) → (outcome : Outcome) × IsCheckOutcome b outcome
  check_outcome b =
      let (rows, symbols, each) = rows_of b.g1 (left_sides [] b.g1.rules) in
      let lines = head_line b ∷ map (row_line b.g1) rows in
      (done lines, record { lines = lines; are = record { rows = rows; are_rows = record { symbols = symbols; each = each }; lines_are = refl }; is = refl })
