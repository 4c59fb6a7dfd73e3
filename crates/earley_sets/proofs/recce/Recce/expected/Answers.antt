use Rattle.std.proofs.Common.{◌↔◌, ◌<◌, ◌-◌, ℕ, List, length, sym, ◌∙◌, subst}
use Rattle.std.specs.List.{AllPairs}
use Rattle.item_rows.specs.Rows.{row_at}
use Rattle.expected_terminals.specs.Marks.{IsAwaitedTerminal}
use Rattle.earley_sets.specs.Recognizer.{Recognizer, IsExpected}
use Rattle.expected_terminals.proofs.Expecting.{expected_of}
use Rattle.earley_sets.proofs.Recognizing.{listed_expected}
use Rattle.std.proofs.lemmas.Result.{IfOk-weaker}
use Rattle.std.specs.declared.vec.Vec.{Vec}
use Rattle.std.specs.declared.alloc.Global.{Global}
use Rattle.earley_sets.proofs.recce.Recce.expected.Goals as goal

pub terminals-requires : goal.terminals-requires
terminals-requires c note e = (c.self.invariant.4.note note e).list

pub returns-clause-order : goal.returns-clause-order
returns-clause-order c =
    IfOk-weaker c.copy_of.result _ _ (λ (ts : Vec ℕ Global) same. subst (λ (l : List ℕ). AllPairs (λ s t. s < t) l) (sym (same ∙ c.terminals.ensures)) c.self.invariant.4.last.order) c.copy_of.ensures

pub returns-clause-exact : goal.returns-clause-exact
returns-clause-exact c =
    let law : (t : ℕ) → IsAwaitedTerminal c.self.inside.flat.now (row_at c.self.inside.rows.sets (length c.self.inside.rows.sets - 1)) t ↔ IsExpected c.args.self.now t =
    λ t. subst (λ (r : Recognizer). IsAwaitedTerminal c.self.inside.flat.now (row_at c.self.inside.rows.sets (length c.self.inside.rows.sets - 1)) t ↔ IsExpected r t) c.self.view_is
    (listed_expected c.self.inside.flat.now c.self.inside.start c.self.inside.edges c.self.inside.rows.sets c.self.inside.top c.self.inside.memo c.self.invariant.0 t) in
    IfOk-weaker c.copy_of.result _ _ (λ (ts : Vec ℕ Global) same. expected_of c.self.inside.flat.now (row_at c.self.inside.rows.sets (length c.self.inside.rows.sets - 1)) _ ts.items (IsExpected c.args.self.now) c.self.invariant.4.last (same ∙ c.terminals.ensures) law) c.copy_of.ensures
