-- Each checked grammar has its flat grammar.
use Rattle.std.proofs.Common.{◌≡◌, ℕ, ◌<◌, length, Some, ap, ◌∙◌, arith, lit<}
use Rattle.std.specs.Prelude.{◌^◌}
use Rattle.std.proofs.lemmas.List.{length-map}
use Rattle.grammar_model.specs.Grammar.{Grammar}
use Rattle.grammar_model.specs.Checked.{IsChecked}
use Rattle.recognizer_model.specs.Flat.{FlatGrammar, IsRule, lhs_of, rhs_of, part_of}
use Rattle.recognizer_model.specs.FlatForm.{NamedRule, IsRuleOf, OfPlain, OfList, OfTrailing, OfItem, OfItems, OfSeparated, OfTop}
use Rattle.flat_model.specs.Flatten
use Rattle.flat_model.specs.Flatten.{Decided}
use Rattle.flat_rules.proofs.Symbols.{in_symbols}
use Rattle.flat_rules.proofs.Numbered.{numbered_in}
use Rattle.flat_rules.proofs.FlatOf.{is_flat_of}
use Rattle.recognizer_model.specs.Invariant.{IsFlat, IsInRange}
use Rattle.flat_model.specs.Flatten.{AreFew, FlatGrammarsExist}
use Rattle.flat_rules.proofs.Named.{name_of, is_rule, left_in, lhs_is, rhs_is, part_is, differ, part_in}
use Rattle.flat_rules.proofs.Ranges.{no_rules, some, sources, tops, all_tops}
use Rattle.flat_rules.proofs.Heights.{marks, terminals_span, lists_span, heights}
use Rattle.flat_rules.proofs.Reach.{productive, accessible}
use Rattle.flat_rules.proofs.Arranged.{arranged}

module _ (w : Grammar) (d : Decided w) (c : IsChecked w) (few : AreFew w (Flatten.flat_of w d)) where
  abbrev f : FlatGrammar
  f = Flatten.flat_of w d

  short_name : (n : NamedRule) → IsRuleOf w n → length n.right < 2 ^ 32
  short_name n (OfPlain i s k r right lt is some live fits used len all) = let less = few.short i r lt is in omega arith
  short_name n (OfList i r symbol is) = lit< tt
  short_name n (OfTrailing i b r s symbol is sep proper prod st) = lit< tt
  short_name n (OfItem i r b symbol is st) = lit< tt
  short_name n (OfItems i r b symbol is sep st) = lit< tt
  short_name n (OfSeparated i b r s u symbol is sep prod st st') = lit< tt
  short_name n (OfTop k start s e' st) = lit< tt

  short : (r : ℕ) → IsRule f r → length (rhs_of f r) < 2 ^ 32
  short r lt =
      let less = short_name (name_of w d r) (is_rule w d r lt) in
      let len : length (rhs_of f r) ≡ length (name_of w d r).right = ap length (rhs_is w d r lt) ∙ length-map (name_of w d r).right (Flatten.number_of w d) in
      omega arith

  left : (r : ℕ) → IsRule f r → lhs_of f r < length f.symbols
  left r lt =
      let e = lhs_is w d r lt in
      let less = numbered_in w d (name_of w d r).left (in_symbols w d (name_of w d r).left (left_in w d r lt)) in
      omega arith

  parts : (r position x : ℕ) → IsRule f r → part_of f r position ≡ Some x → x < length f.symbols
  parts r position x lt e =
      let (s, at, same) = part_is w d r position x lt e in
      let less = numbered_in w d s (in_symbols w d s (part_in w d c r position s lt at)) in
      omega arith

  in_range : IsInRange f
  in_range = record {
    marks = length-map f.symbols (Flatten.is_marked w d);
    symbols = few.symbols;
    rules = few.rules;
    tops = let e = (is_flat_of w d c).tops_all in let lt = few.starts in omega arith;
    short = short;
    left = left;
    parts = parts;
  }

  pub is_flat : IsFlat f
  is_flat = record {
    in_range = in_range;
    differ = differ w d;
    no_rules = no_rules w d;
    some = some w d;
    tops = tops w d c;
    all_tops = all_tops w d c;
    sources = sources w d;
    marks = marks w d c;
    terminals_span = terminals_span w d c;
    lists_span = lists_span w d c;
    heights = heights w d c;
    productive = productive w d c;
    accessible = accessible w d c;
  }

pub flat_grammars_exist : FlatGrammarsExist
flat_grammars_exist w d c few = (is_flat_of w d c, is_flat w d c few, arranged w d)
