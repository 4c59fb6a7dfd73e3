use Rattle.std.proofs.Common.{arith, ◌≡◌, ◌↔◌, ◌<◌, ◌∙◌, ◌+◌, ◌++◌, ◌∷◌, [], ℕ, List, Contains, length, length-append, ap, sym, subst}
use Rattle.jagged.specs.Rows.{row_at}
use Rattle.horn_clauses.specs.Gathered.{HasFrom}
use Rattle.horn_clauses.proofs.RowLemmas.{each_more}
use Rattle.horn_clauses.proofs.Gathering.{collected_rows}
use Rattle.horn_clauses.proofs.gathered.rows_of.Goals as goal

abbrev IsRow : List (ℕ × ℕ) → ℕ → List ℕ → Type 0
IsRow pairs x row = (n : ℕ) → Contains row n ↔ HasFrom pairs x 0 n

pub loop-x-preserved : goal.loop-x-preserved
loop-x-preserved c =
    let row = c.collect.new.row.items in
    let grown = c.in_ok-push.ensures.ok ∙ ap (λ (l : List ℕ). c.loop-x.rows ++ l ∷ []) c.deref.ensures.value in
    let long = ap length grown ∙ length-append c.loop-x.rows (row ∷ []) in (
      omega (arith, long, c.loop-x.invariant.0),
      subst (λ (rows : List (List ℕ)). (y : ℕ) → y < c.loop-x.x + 1 → IsRow c.args.pairs.now y (row_at rows y)) (sym grown)
          (each_more (IsRow c.args.pairs.now) c.loop-x.rows row c.loop-x.x c.loop-x.invariant.0 c.loop-x.invariant.1 c.in_ok-collect.ensures),
    )

pub returns : goal.returns
returns c =
    let end : c.loop-x.x ≡ c.args.count = omega (arith, c.loop-x-test.false, c.loop-x.auto.x-end) in
    collected_rows c.args.count c.args.pairs.now c.loop-x.rows (c.loop-x.invariant.0 ∙ end) (λ y lt. c.loop-x.invariant.1 y (omega (arith, lt, end)))
