use Rattle.std.proofs.Common.{sym, ◌∙◌, ap, rules, tests}
use Rattle.std.specs.Prelude.{option_map}
use Rattle.std.specs.Borrow.{Bor}
use Rattle.std.proofs.lemmas.Iterator.{YieldsList-from_slice}
use Rattle.std.proofs.lemmas.Iterator.Search.{find_from_yields_List}
use Rattle.std.proofs.lemmas.List.Folds.{flat_map-map}
use Rattle.language_model.specs.Tokens.{Spelled}
use Rattle.dsl_faults.specs.Uses.{used_of, is_asked, texts_asked}
use Rattle.dsl_faults.specs.Found.{first_of}
use Rattle.dsl_faults.specs.declared.uses.Use.{Use}
use Rattle.dsl_faults.proofs.UseLemmas.{found_use}
use Rattle.dsl_faults.proofs.uses.first_asked.Goals as goal

pub returns-in_err-used : goal.returns-in_err-used
returns-in_err-used c =
    let us = c.args.uses.now in
    let content = λ (u : Bor Use). u.now.token.now.content in
    let found = find_from_yields_List (λ (u : Use). is_asked c.args.which (used_of u)) _ _ _ c.find.ensures.ran (YieldsList-from_slice us cc) (λ x b q k. search (rules, tests)) in
    ap (option_map (λ (t : Bor Spelled). t.now.content)) c.from_residual.ensures ∙ ap (option_map content) (sym c.in_err-used.was) ∙ found_use c.args.which us c.find.result found ∙ ap first_of (sym (flat_map-map (texts_asked c.args.which) used_of us))

pub returns : goal.returns
returns c =
    let us = c.args.uses.now in
    let content = λ (u : Bor Use). u.now.token.now.content in
    let found = find_from_yields_List (λ (u : Use). is_asked c.args.which (used_of u)) _ _ _ c.find.ensures.ran (YieldsList-from_slice us cc) (λ x b q k. search (rules, tests)) in
    ap (option_map content) (sym c.in_ok-used.was) ∙ found_use c.args.which us c.find.result found ∙ ap first_of (sym (flat_map-map (texts_asked c.args.which) used_of us))
