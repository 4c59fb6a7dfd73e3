-- A place's items are finitely many, so their lines are sorted, each once; and a report at a grammar of lists.
use Rattle.std.proofs.Common.{arith, ◌≡◌, ℕ, ◌<◌, List, [], ◌∷◌, flat_map, inl, inr, Option, Some, None, refl, sym, ap, subst, lit<}
use Rattle.std.specs.Prelude.{◌↔◌, slice_index_or, Contains}
use Rattle.std.specs.List.Sorted.{IsStrictlySortedBy}
use Rattle.std.proofs.lemmas.Option.{slice_get-get_or}
use Rattle.grammar_model.specs.Grammar.{Grammar}
use Rattle.grammar_model.specs.Derives.{Held}
use Rattle.grammar_model.specs.declared.Edge.{Edge}
use Rattle.recognizer_model.specs.declared.Item.{Item}
use Rattle.recognizer_model.specs.declared.ReportLine.{ReportLine}
use Rattle.recognizer_model.specs.Flat.{FlatGrammar}
use Rattle.recognizer_model.specs.FlatForm.{FlatEdges}
use Rattle.recognizer_model.specs.Items.{InSet, Start, Predict, Scan, Complete}
use Rattle.recognizer_model.specs.Report.{line_of, IsLine}
use Rattle.finite_sets.proofs.Members.{Among, among_from, contains_from, among_flat_map, among_flat_map_from}
use Rattle.finite_sets.proofs.Sorting.{sorted_listed}
use Rattle.flat_model.specs.Lists.{lists, flat_lists}
use Rattle.flat_rules.proofs.ListsChecked.{lists_have_flat_grammar}
use Rattle.grammar_laws.specs.Laws.{GoForward}
use Rattle.grammar_laws.specs.Applied.{tokens}
use Rattle.grammar_laws.proofs.ItemSets.{item_sets_exist}
use Rattle.report_model.specs.Report.{line_cmp}
use Rattle.report_laws.proofs.Flat.{report_of_flat}
use Rattle.report_laws.specs.Laws.{ReportsExist, ReportsApply}
use Rattle.report_model.proofs.Order.{lines_total, line_three}
use Rattle.grammar_laws.proofs.Applied.{forward}

-- ---- what an option holds

abbrev held : Option ReportLine → List ReportLine
held None = []
held (Some line) = line ∷ []

held_to : (o : Option ReportLine) (line : ReportLine) → o ≡ Some line → Among line (held o)
held_to o line e = subst (λ z. Among line (held z)) (sym e) (inl refl)

held_from : (o : Option ReportLine) (line : ReportLine) → Among line (held o) → o ≡ Some line
held_from None line m = absurd m
held_from (Some other) line (inl e) = ap Some e
held_from (Some other) line (inr m) = absurd m

-- ---- the lines of a place

sorted_lines : (xs : List ReportLine) → (ys : List ReportLine) × IsStrictlySortedBy line_cmp ys × ((line : ReportLine) → Contains ys line ↔ Among line xs)
sorted_lines xs =
    let (ys, (s, is, all)) = sorted_listed line_cmp (λ x. Unit {0}) (λ x y a b. line_three x y) lines_total.trans (λ x. Unit {0}) xs (λ x m. tt) (λ x m. inl tt) in
    (ys, s, λ line. (λ c. (is line (among_from ys line c)).0, λ m. contains_from ys line (all line m tt)))

placed : (w : Grammar) (f : FlatGrammar) (edges : List Edge) (top place : ℕ) → GoForward (Held edges) →
    (lines : List ReportLine) × IsStrictlySortedBy line_cmp lines × ((line : ReportLine) → Contains lines line ↔ IsLine w f (FlatEdges f (Held edges)) top place line)
placed w f edges top place forward =
    let (items, are) = item_sets_exist f edges top place forward in
    let told : Item → List ReportLine = λ item. held (line_of w f item) in
    let (lines, s, exact) = sorted_lines (flat_map told items) in (
      lines,
      s,
      λ line. (
        λ c. let (item, a, m) = among_flat_map_from told line items ((exact line).0 c) in (item, (are.exact item).0 (contains_from items item a), held_from (line_of w f item) line m),
        λ (item, i, e). (exact line).1 (among_flat_map told item line items (among_from items item ((are.exact item).1 i)) (held_to (line_of w f item) line e)),
      ),
    )

pub reports_exist : ReportsExist
reports_exist w f edges start place is_flat form checked forward lt =
    let top = slice_index_or f.tops start 0 in
    let count = form.tops_all in
    let top_is = slice_get-get_or f.tops start 0 (omega (arith, lt, count)) in
    let (lines, s, exact) = placed w f edges top place forward in
    (lines, report_of_flat w f edges start place lines is_flat form checked forward (record { top = top; top_is = top_is; sorted = s; exact = exact }))

-- ---- a list of two, after its first item and the separator

abbrev At : (place rule dot : ℕ) → Type 0
At place rule dot = InSet flat_lists (FlatEdges flat_lists (Held tokens)) 13 place (record { rule = rule; dot = dot; origin = 0 })

begun : At 0 2 0
begun =
    let start : At 0 13 0 = Start in
    let star : At 0 0 0 = Predict {x = 4} {r = 0} start refl (lit< tt) refl in
    let first : At 0 10 0 = Predict {x = 9} {r = 10} star refl (lit< tt) refl in
    Predict {x = 5} {r = 2} first refl (lit< tt) refl

one_item : At 1 12 1
one_item =
    let list : At 0 12 0 = Predict {x = 10} {r = 12} begun refl (lit< tt) refl in
    let item : At 0 3 0 = Predict {x = 6} {r = 3} list refl (lit< tt) refl in
    let number : At 1 3 1 = Scan {x = 0} item refl (3, refl, (0, lit< tt, refl)) in
    Complete number refl (lit< tt) list refl

separated : At 2 2 2
separated =
    let listed : At 1 2 1 = Complete one_item refl (lit< tt) begun refl in
    Scan {x = 1} listed refl (4, refl, (1, lit< tt, refl))

pub reports_apply : ReportsApply
reports_apply =
    let (lines, s, exact) = placed lists flat_lists tokens 13 2 forward in (
      lines,
      report_of_flat lists flat_lists tokens 0 2 lines lists_have_flat_grammar.flat lists_have_flat_grammar.made lists_have_flat_grammar.checked forward (record { top = 13; top_is = refl; sorted = s; exact = exact }),
      (exact (record { rule = 1; dot = 2; origin = 0 })).1 (record { rule = 2; dot = 2; origin = 0 }, separated, refl),
    )
