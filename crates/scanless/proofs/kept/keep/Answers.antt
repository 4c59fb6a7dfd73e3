use Rattle.std.proofs.Common.{◌≡◌, true, ◌++◌, ◌∷◌, [], inl, inr, sym, ◌∙◌, ap}
use Rattle.std.proofs.lemmas.Result.{on_ok_weaker}
use Rattle.dsl_build.specs.declared.built.LexemeRow.{LexemeRow as HeldRow}
use Rattle.scanless.specs.Pieces.{IsBest}
use Rattle.prepared_grammars.proofs.Gathering.{gathers_same, gathers_with}
use Rattle.scanless.proofs.Highest.{fit_still, fit_same, fit_row, fit_more}
use Rattle.scanless.proofs.Results.{is_none}
use Rattle.scanless.proofs.kept.keep.Goals as goal

pub returns-in_default-clause-exact : goal.returns-in_default-clause-exact
returns-in_default-clause-exact c = λ starts g.
    let none = c.fitting.ensures.none (is_none c.fitting.result c.in_default.is) in
    gathers_same (λ (r : HeldRow). r.symbol) c.args.rows.now (IsBest c.args.recce.now starts c.args.highest.now) (IsBest c.args.recce.now (starts ++ c.args.start ∷ []) c.args.highest.now) c.args.kept.now.items g
    (λ r m (f, e). (fit_still c.args.recce.now c.args.rows.now starts c.args.start r f, e)) (λ r m (f, e). (fit_same c.args.recce.now c.args.rows.now starts c.args.start none r m f, e))

pub returns-then-not-is_as_high-clause-exact : goal.returns-then-not-is_as_high-clause-exact
returns-then-not-is_as_high-clause-exact c = λ starts g.
    gathers_same (λ (r : HeldRow). r.symbol) c.args.rows.now (IsBest c.args.recce.now starts c.args.highest.now) (IsBest c.args.recce.now (starts ++ c.args.start ∷ []) c.args.highest.now) c.args.kept.now.items g
    (λ r m (f, e). (fit_still c.args.recce.now c.args.rows.now starts c.args.start r f, e)) (λ r m (f, e).
    elim (fit_more c.args.recce.now c.args.rows.now starts c.args.start c.in-Some.row.now c.in-Some.ensures.some.0 c.in-Some.ensures.some.1 r m f) [
      | inl o ↦ (o, e)
      | inr s ↦ (let t = c.is_as_high.ensures.1 (sym (ap (λ (z : HeldRow). z.priority) s) ∙ e) in let f = c.if-not-is_as_high.true in absurd (cc))
    ])

pub returns-clause-exact : goal.returns-clause-exact
returns-clause-exact c =
    on_ok_weaker c.insert.result
    (λ same starts g.
    gathers_with (λ (r : HeldRow). r.symbol) c.args.rows.now (IsBest c.args.recce.now starts c.args.highest.now) (IsBest c.args.recce.now (starts ++ c.args.start ∷ []) c.args.highest.now) c.args.kept.now.items g
    (λ r m (f, e). (fit_still c.args.recce.now c.args.rows.now starts c.args.start r f, e)) c.in-Some.row.now c.insert.new.symbols.items c.in-Some.ensures.some.0.0
    (fit_row c.args.recce.now c.args.rows.now starts c.args.start c.in-Some.row.now c.in-Some.ensures.some.0 c.in-Some.ensures.some.1, c.is_as_high.ensures.0 (let f = c.if-not-is_as_high.false in let t : c.is_as_high.result ≡ true = cc in t))
    (λ r m (f, e). elim (fit_more c.args.recce.now c.args.rows.now starts c.args.start c.in-Some.row.now c.in-Some.ensures.some.0 c.in-Some.ensures.some.1 r m f) [ inl o ↦ inl (o, e) | inr s ↦ inr s ]) same)
    c.insert.ensures.exact
