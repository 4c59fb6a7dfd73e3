use Rattle.std.proofs.Common.{take, Contains}
use Rattle.recognizer_model.specs.declared.NodeKey.{NodeKey}
use Rattle.bocage.specs.Walk.{whole_keys, AddsWholes, GrowsBy}
use Rattle.bocage.proofs.walk.put_wholes.Given as goal

abbrev pub invariant-loop-part : goal.invariant-loop-part
invariant-loop-part l = record {
  numbers : AddsWholes l.keys.keys (whole_keys l.flat (take l.part-index l.parts)) l.initial.wholes.items l.wholes.items;
  grows : GrowsBy (λ (k : NodeKey). Contains (whole_keys l.flat (take l.part-index l.parts)) k) l.initial.keys.keys l.keys.keys;
}
