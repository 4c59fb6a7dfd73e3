use Rattle.std.proofs.Common.{◌<◌, ◌≤◌, ℕ, sym, ap, subst, length, arith, refl, Contains, List}
use Rattle.std.specs.Prelude.{◌≢◌}
use Rattle.std.specs.List.{AllPairs}
use Rattle.recognizer_model.specs.declared.Item.{Item}
use Rattle.recognizer_model.specs.Flat.{rhs_of}
use Rattle.item_rows.specs.Dotted.{dotted_at, AreNumbers, AreSpans, IsWholeSpan, IsTerminalSpan}
use Rattle.item_rows.proofs.Listed.{rules_differ, dots_within, all_numbered, each_numbered}
use Rattle.item_rows.proofs.dotted.DottedRules.new.Goals as goal

abbrev OnceIn : List Item → Type 0
OnceIn items = AllPairs (λ x y. x ≢ y) items

pub list_numbers-requires-clause-all : goal.list_numbers-requires-clause-all
list_numbers-requires-clause-all c item h =
    subst (λ (l : List Item). Contains l item) (sym c.deref-4.ensures.value)
    ((c.in_ok-list_sorted.ensures.same item).1 (subst (λ (l : List Item). Contains l item) (sym c.deref-2.ensures.value) (subst (λ (l : List Item). Contains l item) c.deref-3.ensures.value h)))

pub find_whole-whole-requires-clause-dots : goal.find_whole-whole-requires-clause-dots
find_whole-whole-requires-clause-dots c =
    let same = λ (item : Item) (h : Contains c.list_sorted.new.row.items item). subst (λ (l : List Item). Contains l item) c.deref-2.ensures.value ((c.in_ok-list_sorted.ensures.same item).0 h) in
    let once = subst (λ (l : List Item). OnceIn l → OnceIn c.list_sorted.new.row.items) c.deref-2.ensures.value c.in_ok-list_sorted.ensures.once in
    subst (λ (r : List Item). (k : ℕ) → k < length r → (dotted_at r k).dot ≤ length (rhs_of c.args.flat.now (dotted_at r k).rule)) (sym c.deref-6.ensures.value)
    (dots_within c.args.flat.now c.list_all.new.listed.items c.list_all.new.firsts.items (length c.args.flat.now.rules) c.in_ok-list_all.ensures c.list_sorted.new.row.items same once)

pub invariant_of-result : goal.invariant_of-result
invariant_of-result c =
    let g = c.args.flat.now in
    let listed = c.list_all.new.listed.items in
    let firsts = c.list_all.new.firsts.items in
    let rules = c.list_sorted.new.row.items in
    let n = length c.args.flat.now.rules in
    let same = λ (item : Item) (h : Contains c.list_sorted.new.row.items item). subst (λ (l : List Item). Contains l item) c.deref-2.ensures.value ((c.in_ok-list_sorted.ensures.same item).0 h) in
    let once = subst (λ (l : List Item). OnceIn l → OnceIn c.list_sorted.new.row.items) c.deref-2.ensures.value c.in_ok-list_sorted.ensures.once in
    let numbers = subst (λ (l : List Item). AreNumbers l c.list_sorted.new.row.items c.in_ok-numbers.numbers.items) c.deref-3.ensures.value
    (subst (λ (r : List Item). AreNumbers c.deref-3.result.now r c.in_ok-numbers.numbers.items) c.deref-4.ensures.value c.in_ok-numbers.ensures) in
    record {
      few = (
          let size = c.in_ok-list_sorted.ensures.length in
          let a = ap (λ (l : List Item). length l) c.deref-2.ensures.value in
          let b = ap (λ (l : List Item). length l) c.deref.ensures.value in
          let counted = c.in_ok-_count.ensures.ok in
          omega arith);
      differ = rules_differ g listed firsts n c.in_ok-list_all.ensures rules same once;
      all = all_numbered g listed firsts n c.in_ok-list_all.ensures rules same once c.in_ok-numbers.numbers.items numbers refl;
      each = each_numbered g listed firsts n c.in_ok-list_all.ensures rules same once c.in_ok-numbers.numbers.items numbers;
      by_symbol = subst (λ (r : List Item). AreSpans c.args.flat.now r c.in_ok-spans.spans.items (length c.args.flat.now.symbols)) c.deref-5.ensures.value c.in_ok-spans.ensures;
      at_end = subst (λ (r : List Item). IsWholeSpan c.args.flat.now r c.find_whole-whole.result) c.deref-6.ensures.value c.find_whole-whole.ensures;
      first = subst (λ (r : List Item). IsTerminalSpan c.args.flat.now r c.find_scanned-scanned.result) c.deref-7.ensures.value c.find_scanned-scanned.ensures;
    }
