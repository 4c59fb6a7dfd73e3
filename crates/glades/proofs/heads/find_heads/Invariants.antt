use Rattle.std.proofs.Common.{◌<◌, ℕ, Contains}
use Rattle.grammar_model.specs.Grammar.{Slot}
use Rattle.glades.specs.declared.heads.Head.{Head}
use Rattle.glades.specs.Links.{AreKnown}
use Rattle.glades.specs.Heads.{IsHead, IsTwo, HasHead}
use Rattle.glades.proofs.heads.find_heads.Given as goal

abbrev pub invariant-loop-node : goal.invariant-loop-node
invariant-loop-node l = record {
  each : (head : Head) → Contains l.heads.items head → IsHead l.forest head;
  all : (n : ℕ) (slot : Slot) (p q : ℕ) → IsTwo l.forest n slot p q → n < l.node → HasHead l.heads.items n;
  known : AreKnown l.forest l.seconds;
}
