use Rattle.std.proofs.Common.{[], ◌∷◌, ◌++◌, arith, sym, ◌∙◌, ap, map, Bor, cond, append-nil, Vec, Global, ◌≡◌, Bool, true, false, refl}
use Rattle.std.specs.Prelude.{flat_map, not, ◌&&◌}
use Rattle.std.proofs.lemmas.Bool.{true≢false}
use Rattle.std.proofs.lemmas.List.{map-append, take_all}
use Rattle.std.proofs.lemmas.List.Folds.{flat_map-map}
use Rattle.language_model.specs.Tokens.{Spelled}
use Rattle.language_model.specs.Building.{new_tokens, is_one_of}
use Rattle.dsl_faults.specs.declared.uses.Use.{Use}
use Rattle.dsl_faults.specs.Uses.{used_of}
use Rattle.dsl_build.specs.Lexical.{placed_part, is_placed}
use Rattle.dsl_build.proofs.PlacedLemmas.{placed_to, placed_on}
use Rattle.dsl_build.proofs.placed.placed_tokens.Goals as goal
use Rattle.dsl_build.proofs.placed.placed_tokens.Goals.{then-is_new+in_ok-add_new+in_ok-push, else-is_new}

taken : (a b : Bool) → (a && not b) ≡ true → b ≡ false
taken true false e = refl
taken true true e = absurd (true≢false (sym e))
taken false b e = absurd (true≢false (sym e))

pub add_new-requires : goal.add_new-requires
add_new-requires c =
    let u = used_of c.used-item.result in
    ap (λ t. is_one_of c.loop-used.names t) c.text_of.ensures ∙ taken (is_placed u) (is_one_of c.loop-used.names u.token.content) (sym c.is_new.ensures ∙ c.if-is_new.true)

pub loop-used-preserved : goal.loop-used-preserved
loop-used-preserved c =
    let now = λ (t : Bor Spelled). t.now in
    let us = c.args.uses.now in
    let i = c.loop-used.used-index in
    let token = c.used-item.result.token.now in
    let more = placed_on us i c.used-item.result c.loop-used.names c.is_new.result (omega arith) c.used-item.is c.loop-used.invariant.names c.is_new.ensures in
    elim c.if-is_new.branch [
      | then-is_new+in_ok-add_new+in_ok-push w ↦ record {
        tokens = ap (λ (v : Vec (Bor Spelled) Global). map now v.items) w.tokens-is ∙ ap (map now) w.in_ok-push.ensures.items ∙ map-append now c.loop-used.tokens.items (c.used-item.result.token ∷ []) ∙ ap (λ ts. ts ++ token ∷ []) c.loop-used.invariant.tokens
            ∙ sym (more ∙ ap (λ b. placed_to us i ++ cond b (token ∷ []) []) w.if-is_new.true);
        names = w.names-is ∙ w.in_ok-add_new.ensures.ok ∙ ap (λ ns. ns ++ w.text_of.result.now ∷ []) c.loop-used.invariant.names ∙ ap (λ t. map (λ (x : Spelled). x.content) (placed_to us i) ++ t ∷ []) w.text_of.ensures
            ∙ sym (ap (map (λ (x : Spelled). x.content)) (more ∙ ap (λ b. placed_to us i ++ cond b (token ∷ []) []) w.if-is_new.true) ∙ map-append (λ (x : Spelled). x.content) (placed_to us i) (token ∷ []));
      }
      | else-is_new w ↦ record {
        tokens = ap (λ (v : Vec (Bor Spelled) Global). map now v.items) w.tokens-is ∙ c.loop-used.invariant.tokens ∙ sym (more ∙ ap (λ b. placed_to us i ++ cond b (token ∷ []) []) w.if-is_new.false ∙ append-nil (placed_to us i));
        names = w.names-is ∙ c.loop-used.invariant.names ∙ sym (ap (map (λ (x : Spelled). x.content)) (more ∙ ap (λ b. placed_to us i ++ cond b (token ∷ []) []) w.if-is_new.false ∙ append-nil (placed_to us i)));
      }
    ]

pub returns-clause-tokens : goal.returns-clause-tokens
returns-clause-tokens c =
    let g = λ (u : Use). placed_part (used_of u) in
    c.loop-used.invariant.tokens ∙ ap (λ us. new_tokens [] (flat_map g us)) (take_all c.loop-used.used-index c.args.uses.now (omega arith)) ∙ ap (new_tokens []) (sym (flat_map-map placed_part used_of c.args.uses.now))

pub returns-clause-names : goal.returns-clause-names
returns-clause-names c =
    let g = λ (u : Use). placed_part (used_of u) in
    c.loop-used.invariant.names ∙ ap (λ us. map (λ (t : Spelled). t.content) (new_tokens [] (flat_map g us))) (take_all c.loop-used.used-index c.args.uses.now (omega arith)) ∙ ap (λ ts. map (λ (t : Spelled). t.content) (new_tokens [] ts)) (sym (flat_map-map placed_part used_of c.args.uses.now))
