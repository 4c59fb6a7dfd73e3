use Rattle.std.proofs.Common.{◌≡◌, take, drop, map, Bor, ◌++◌, ◌+◌, length}
use Rattle.std.specs.Prelude.{flat_map}
use Rattle.grammar_core.specs.Written.{rule_of}
use Rattle.language_model.specs.Tokens.{Spelled}
use Rattle.language_model.specs.Building.{sets_of, added_rules}
use Rattle.dsl_build.proofs.lexical.push_tokens.Given as goal

abbrev pub invariant-loop-i : goal.invariant-loop-i
invariant-loop-i l = record {
  sets : l.sets.items ≡ flat_map (λ (t : Bor Spelled). sets_of t.now) (take l.i l.tokens);
  rules : map rule_of l.out.items ++ added_rules l.i (l.first + length l.sets.items) (map (λ (t : Bor Spelled). t.now) (drop l.i l.tokens)) ≡ map rule_of l.fn.out.items ++ added_rules 0 l.first (map (λ (t : Bor Spelled). t.now) l.tokens);
}
