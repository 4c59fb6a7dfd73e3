use Rattle.std.proofs.Common.{length, chars, string_bytes}
use denote.Text.{Utf8}
use denote.Shadow.{shadow}
use Rattle.tree_text.proofs.Quoted.{Reads}
use Rattle.tree_text.proofs.read.read_quoted.Given as goal

abbrev pub invariant-loop-c : goal.invariant-loop-c
invariant-loop-c l = record {
  utf8 : shadow (Utf8 l.rest);
  reads : Reads l.fn.text (chars (string_bytes l.quoted)) l.rest;
}

abbrev pub decreases-loop-c : goal.decreases-loop-c
decreases-loop-c l = length l.rest
