use Rattle.std.proofs.Common.{◌≡◌, ◌++◌, ◌∷◌, [], arith, sym, ◌∙◌, ap, length, take, List, ℕ, false, append_assoc, length-append}
use Rattle.grammar_model.specs.Grammar.{Grammar}
use Rattle.language_model.specs.Building.{is_one_of, set_names}
use Rattle.dsl_build.specs.Lexical.{set_name}
use Rattle.dsl_build.specs.Rules.{with_names}
use Rattle.dsl_build.proofs.Differing.{unseen_behind}
use Rattle.dsl_build.proofs.SetNames.{sets_get, sets_take, sets_more, sets_long}
use Rattle.dsl_build.proofs.writing.add_sets.Goals as goal

pub add_symbol-requires-clause-new : goal.add_symbol-requires-clause-new
add_symbol-requires-clause-new c =
    let prefix = c.args.w.now.names in
    let k = c.loop-number.number in
    let free : is_one_of (prefix ++ take k (set_names c.args.count)) (set_name k) ≡ false = unseen_behind [] prefix (set_names c.args.count) k (set_name k) c.requires.differ (sets_get c.args.count k (omega arith)) in
    let text : c.as_str.result.now ≡ set_name k = c.as_str.ensures.value ∙ c.in_ok-write_set_name.ensures in
    ap (λ (w : Grammar). is_one_of w.names c.as_str.result.now) c.loop-number.invariant ∙ ap (λ t. is_one_of (prefix ++ set_names k) t) text ∙ ap (λ ns. is_one_of (prefix ++ ns) (set_name k)) (sym (sets_take c.args.count k (omega arith))) ∙ free

pub add_symbol-requires-clause-room : goal.add_symbol-requires-clause-room
add_symbol-requires-clause-room c =
    let prefix = c.args.w.now.names in
    let k = c.loop-number.number in
    let long : length c.loop-number.w.names ≡ length (prefix ++ set_names k) = ap (λ (w : Grammar). length w.names) c.loop-number.invariant in
    let both = length-append prefix (set_names k) in
    let count = sets_long k in
    omega (arith, long, both, count, c.requires.room)

pub loop-number-preserved : goal.loop-number-preserved
loop-number-preserved c =
    let prefix = c.args.w.now.names in
    let k = c.loop-number.number in
    let text : c.as_str.result.now ≡ set_name k = c.as_str.ensures.value ∙ c.in_ok-write_set_name.ensures in
    c.in_ok-add_symbol.ensures ∙ ap (λ (w : Grammar). with_names w (c.as_str.result.now ∷ [])) c.loop-number.invariant
    ∙ ap (λ t. with_names (with_names c.args.w.now (set_names k)) (t ∷ [])) text
    ∙ ap (λ (ns : List (List ℕ)). record { names = ns; rules = c.args.w.now.rules; starts = c.args.w.now.starts }) (append_assoc prefix (set_names k) (set_name k ∷ []) ∙ ap (λ ns. prefix ++ ns) (sym (sets_more k)))
