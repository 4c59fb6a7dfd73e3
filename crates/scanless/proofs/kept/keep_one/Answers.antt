use Rattle.std.proofs.Common.{◌++◌, ◌∷◌, [], ℕ, List, refl, sym, subst, ap, ◌∙◌}
use Rattle.std.specs.List.Sorted.{IsStrictlySortedBy}
use Rattle.std.specs.Ordering.{nat_cmp}
use Rattle.finite_sets.proofs.Lists.{Contains-none}
use Rattle.dsl_build.specs.declared.built.LexemeRow.{LexemeRow as HeldRow}
use Rattle.earley_sets.specs.Recognizer.{Recognizer}
use Rattle.prepared_grammars.specs.Gathered.{Gathers}
use Rattle.scanless.specs.Pieces.{IsFit}
use Rattle.prepared_grammars.proofs.Gathering.{gathers_never, gathers_same, gathers_with}
use Rattle.lexer.proofs.Sorted.{sorted_none}
use Rattle.scanless.proofs.Highest.{fit_still, fit_same, fit_row, fit_more}
use Rattle.scanless.proofs.Inserting.{one_sorted, one_exact}
use Rattle.scanless.proofs.Results.{when_ok}
use Rattle.scanless.proofs.kept.keep_one.Goals as goal

never : (recce : Recognizer) (rows : List HeldRow) → Gathers (IsFit recce []) (λ (r : HeldRow). r.symbol) rows []
never recce rows = gathers_never (λ (r : HeldRow). r.symbol) rows (IsFit recce []) (λ r f. Contains-none r.start f.0)

pub returns-in-Some-clause-sorted : goal.returns-in-Some-clause-sorted
returns-in-Some-clause-sorted c =
    let x = c.in-Some.row.now.symbol in
    when_ok c.push.result (c.args.kept.now.items ++ x ∷ []) c.args.kept.now.items c.push.new.self.items (IsStrictlySortedBy nat_cmp c.push.new.self.items) c.push.ensures.items
    (λ e. one_sorted x c.push.new.self.items (e ∙ ap (λ (l : List ℕ). l ++ x ∷ []) c.requires.none))

pub returns-in-Some-clause-exact : goal.returns-in-Some-clause-exact
returns-in-Some-clause-exact c =
    let x = c.in-Some.row.now.symbol in
    let recce = c.args.recce.now in
    let rows = c.args.rows.now in
    let start = c.args.start in
    let row = c.in-Some.row.now in
    let ys = c.push.new.self.items in
    when_ok c.push.result (c.args.kept.now.items ++ x ∷ []) c.args.kept.now.items ys (Gathers (IsFit recce (start ∷ [])) (λ (r : HeldRow). r.symbol) rows ys) c.push.ensures.items
    (λ e. gathers_with (λ (r : HeldRow). r.symbol) rows (IsFit recce []) (IsFit recce (start ∷ [])) [] (never recce rows) (λ r m f. fit_still recce rows [] start r f) row ys c.in-Some.ensures.some.0.0
    (fit_row recce rows [] start row c.in-Some.ensures.some.0 c.in-Some.ensures.some.1) (λ r m f. fit_more recce rows [] start row c.in-Some.ensures.some.0 c.in-Some.ensures.some.1 r m f)
    (one_exact x ys (e ∙ ap (λ (l : List ℕ). l ++ x ∷ []) c.requires.none)))

pub returns-in-None-clause-sorted : goal.returns-in-None-clause-sorted
returns-in-None-clause-sorted c = subst (IsStrictlySortedBy nat_cmp) (sym c.requires.none) sorted_none

pub returns-in-None-clause-exact : goal.returns-in-None-clause-exact
returns-in-None-clause-exact c =
    let recce = c.args.recce.now in
    let rows = c.args.rows.now in
    let start = c.args.start in
    subst (Gathers (IsFit recce (start ∷ [])) (λ (r : HeldRow). r.symbol) rows) (sym c.requires.none)
    (gathers_same (λ (r : HeldRow). r.symbol) rows (IsFit recce []) (IsFit recce (start ∷ [])) [] (never recce rows) (λ r m f. fit_still recce rows [] start r f)
    (λ r m f. fit_same recce rows [] start (c.in-None.ensures.none refl) r m f))
