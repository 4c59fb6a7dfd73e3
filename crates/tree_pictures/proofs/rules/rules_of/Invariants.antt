use Rattle.std.proofs.Common.{◌≡◌, ◌≤◌, ◌++◌, [], drop, string_bytes}
use denote.Shadow.{shadow}
use denote.Text.{Utf8}
use Rattle.tree_pictures.specs.Rules.{lines_from}
use Rattle.tree_pictures.proofs.rules.rules_of.Given as goal

abbrev pub invariant-loop-i : goal.invariant-loop-i
invariant-loop-i l = record {
  utf8 : shadow (Utf8 l.left);
  few : l.number ≤ l.i;
  written : string_bytes l.text ++ lines_from l.number l.left (drop l.i l.nodes) ≡ lines_from 0 [] l.nodes;
}
