use Rattle.std.proofs.Common.{◌+◌, ◌++◌, arith, sym, ◌∙◌, ap, Bor, map, length, length-append, take, append-nil}
use Rattle.std.specs.Prelude.{flat_map}
use Rattle.std.proofs.lemmas.List.{drop_all}
use Rattle.grammar_core.specs.Written.{rule_of}
use Rattle.language_model.specs.Tokens.{Spelled}
use Rattle.language_model.specs.Building.{sets_of, added_rules}
use Rattle.dsl_faults.proofs.Lists.{flat_more}
use Rattle.dsl_build.proofs.LexicalLemmas.{rules_on, sets_all, sets_within}
use Rattle.dsl_build.proofs.lexical.push_tokens.Goals as goal

pub push_token-requires-clause-room : goal.push_token-requires-clause-room
push_token-requires-clause-room c =
    let tokens = c.args.tokens.now in
    let i = c.loop-i.i in
    let x = c.index-tokens-i.result in
    let g = λ (t : Bor Spelled). sets_of t.now in
    let before = ap length c.loop-i.invariant.sets in
    let more = ap length (flat_more g tokens i x (omega arith) c.index-tokens-i.is) in
    let both = length-append (flat_map g (take i tokens)) (sets_of x.now) in
    let all = sets_within tokens (i + 1) in
    omega (arith, before, more, both, all, c.requires.room)

pub loop-i-preserved : goal.loop-i-preserved
loop-i-preserved c =
    let tokens = c.args.tokens.now in
    let i = c.loop-i.i in
    let x = c.index-tokens-i.result in
    let sets = c.loop-i.sets.items in
    let after = c.push_token.new.sets.items in
    let grown = c.in_ok-push_token.ensures.sets in
    record {
      sets = grown ∙ ap (λ ss. ss ++ sets_of x.now) c.loop-i.invariant.sets ∙ sym (flat_more (λ (t : Bor Spelled). sets_of t.now) tokens i x (omega arith) c.index-tokens-i.is);
      rules = rules_on tokens i x c.args.first sets after _ (map rule_of c.push_token.new.out.items) (map rule_of c.loop-i.out.items) (omega arith) c.index-tokens-i.is grown c.loop-i.invariant.rules c.in_ok-push_token.ensures.rules;
    }

pub returns-clause-sets : goal.returns-clause-sets
returns-clause-sets c = sets_all c.args.tokens.now c.loop-i.i c.loop-i.sets.items (omega arith) c.loop-i.invariant.sets

pub returns-clause-rules : goal.returns-clause-rules
returns-clause-rules c =
    let tokens = c.args.tokens.now in
    sym (append-nil (map rule_of c.loop-i.out.items)) ∙ ap (λ ts. map rule_of c.loop-i.out.items ++ added_rules c.loop-i.i (c.args.first + length c.loop-i.sets.items) (map (λ (t : Bor Spelled). t.now) ts)) (sym (drop_all c.loop-i.i tokens (omega arith))) ∙ c.loop-i.invariant.rules
