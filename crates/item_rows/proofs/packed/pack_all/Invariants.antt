use Rattle.std.proofs.Common.{◌≡◌, ◌/◌, ◌<◌, ℕ, length, map, take, Contains}
use Rattle.item_rows.specs.Dotted.{unpacked}
use Rattle.item_rows.proofs.packed.pack_all.Given as goal

abbrev pub invariant-loop-item : goal.invariant-loop-item
invariant-loop-item l = record {
  items : map (unpacked l.dotted.rules) l.packed.items ≡ take l.item-index l.items;
  within : (n : ℕ) → Contains l.packed.items n → n / 4294967296 < length l.dotted.rules;
}
