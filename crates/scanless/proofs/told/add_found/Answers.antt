use Rattle.std.proofs.Common.{◌++◌, ◌∷◌, [], inl, inr, Contains, sym, subst}
use Rattle.std.proofs.lemmas.List.Elements.{Contains-append_left, Contains-push, Contains-push_cases}
use Rattle.std.proofs.lemmas.Result.{on_ok_weaker}
use Rattle.dsl_build.specs.declared.built.LexemeRow.{LexemeRow as HeldRow}
use Rattle.prepared_grammars.proofs.Gathering.{gathers_same, gathers_with}
use Rattle.scanless.proofs.Results.{is_none}
use Rattle.scanless.proofs.told.add_found.Goals as goal

pub returns-in-Some-clause-exact : goal.returns-in-Some-clause-exact
returns-in-Some-clause-exact c =
    on_ok_weaker c.insert.result
    (λ same starts g.
    gathers_with (λ (r : HeldRow). r.symbol) c.args.rows.now (λ (r : HeldRow). Contains starts r.start) (λ (r : HeldRow). Contains (starts ++ c.args.start ∷ []) r.start) c.args.symbols.now.items g
    (λ r m h. Contains-append_left starts (c.args.start ∷ []) r.start h) c.in-Some.row.now c.insert.new.symbols.items c.in-Some.ensures.some.0
    (subst (Contains (starts ++ c.args.start ∷ [])) (sym c.in-Some.ensures.some.1) (Contains-push starts c.args.start))
    (λ r m h. elim (Contains-push_cases starts c.args.start r.start h) [ inl o ↦ inl o | inr e ↦ inr (c.in-Some.ensures.some.2 r m (sym e)) ]) same)
    c.insert.ensures.exact

pub returns-in-None-clause-exact : goal.returns-in-None-clause-exact
returns-in-None-clause-exact c = λ starts g.
    let none = c.row_at.ensures.none (is_none c.row_at.result c.in-None.is) in
    gathers_same (λ (r : HeldRow). r.symbol) c.args.rows.now (λ (r : HeldRow). Contains starts r.start) (λ (r : HeldRow). Contains (starts ++ c.args.start ∷ []) r.start) c.args.symbols.now.items g
    (λ r m h. Contains-append_left starts (c.args.start ∷ []) r.start h) (λ r m h. elim (Contains-push_cases starts c.args.start r.start h) [ inl o ↦ o | inr e ↦ absurd (none r m (sym e)) ])
