use Rattle.std.proofs.Common.{◌↔◌, ◌<◌, ◌-◌, ℕ, List, length, sym, subst}
use Rattle.std.specs.List.{AllPairs}
use Rattle.item_rows.specs.Rows.{row_at}
use Rattle.expected_terminals.specs.Marks.{IsAwaitedTerminal}
use Rattle.earley_sets.specs.Recognizer.{Recognizer, IsExpected}
use Rattle.expected_terminals.proofs.Expecting.{expected_of}
use Rattle.earley_sets.proofs.Recognizing.{listed_expected}
use Rattle.earley_sets.proofs.recce.Recce.is_expected.Goals as goal

pub terminals-requires : goal.terminals-requires
terminals-requires c note e = (c.self.invariant.4.note note e).list

pub has_terminal-requires : goal.has_terminal-requires
has_terminal-requires c = subst (λ (l : List ℕ). AllPairs (λ s t. s < t) l) (sym c.terminals.ensures) c.self.invariant.4.last.order

pub returns : goal.returns
returns c =
    let law : (t : ℕ) → IsAwaitedTerminal c.self.inside.flat.now (row_at c.self.inside.rows.sets (length c.self.inside.rows.sets - 1)) t ↔ IsExpected c.args.self.now t =
    λ t. subst (λ (r : Recognizer). IsAwaitedTerminal c.self.inside.flat.now (row_at c.self.inside.rows.sets (length c.self.inside.rows.sets - 1)) t ↔ IsExpected r t) c.self.view_is
    (listed_expected c.self.inside.flat.now c.self.inside.start c.self.inside.edges c.self.inside.rows.sets c.self.inside.top c.self.inside.memo c.self.invariant.0 t) in
    let told = expected_of c.self.inside.flat.now (row_at c.self.inside.rows.sets (length c.self.inside.rows.sets - 1)) _ c.terminals.result.now (IsExpected c.args.self.now) c.self.invariant.4.last c.terminals.ensures law c.args.t in
    ((λ h. told.0 (c.has_terminal.ensures.0 h)), (λ h. c.has_terminal.ensures.1 (told.1 h)))
