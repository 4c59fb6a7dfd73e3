use Rattle.std.proofs.Common.{rules, of_calls, ◌≡◌, ◌≤◌, true, false, length, sym, ap, ◌∙◌, subst, arith}
use Rattle.std.specs.List.Sorted.{IsPartitionPoint, IsPartitionedBy}
use Rattle.std.proofs.lemmas.Fn.{always_returns_same}
use Rattle.finite_sets.proofs.Lists.{get_index}
use Rattle.recognizer_model.specs.Flat.{FlatGrammar}
use Rattle.recognizer_model.specs.declared.flat.FlatSymbol.TheVariants.{Top}
use Rattle.recognizer_model.specs.Invariant.{IsFlat, IsArranged}
use Rattle.grammar_core.specs.Flat.{terminal_below}
use Rattle.grammar_core.proofs.Halving.{terminals_partitioned}
use Rattle.grammar_core.proofs.flat.Flat.terminals_below.Goals as goal

pub returns : goal.returns
returns c =
    let same : c.deref.result.now ≡ c.args.self.now.symbols = c.deref.ensures.value ∙ ap (λ (g : FlatGrammar). g.symbols) c.self.view_is in
    let arranged : IsArranged c.args.self.now = subst IsArranged c.self.view_is c.self.invariant.1 in
    let parted : IsPartitionedBy (terminal_below c.args.t) c.deref.result.now = subst (IsPartitionedBy (terminal_below c.args.t)) (sym same) (terminals_partitioned c.args.self.now arranged c.args.t) in
    let point = c.partition_point.ensures.partitioned (terminal_below c.args.t) (always_returns_same _ _ _ (λ a r f k. search (rules, of_calls))) parted in
    let point' = subst (λ l. IsPartitionPoint (λ s. terminal_below c.args.t s ≡ true) (λ s. terminal_below c.args.t s ≡ false) l c.partition_point.result) same point in
    let bound = c.partition_point.ensures.bound in
    let flat : IsFlat c.args.self.now = subst IsFlat c.self.view_is c.self.invariant.0 in
    let few = flat.in_range.symbols in
    let bound' : c.partition_point.result ≤ length c.args.self.now.symbols = subst (λ l. c.partition_point.result ≤ length l) same bound in
    record {
      bound = bound';
      fits = omega arith;
      arranged = arranged;
      below = λ x s lt e. (let h = get_index c.args.self.now.symbols x (Top 0) s e in subst (λ z. terminal_below c.args.t z ≡ true) h.1 (point'.0 x (Top 0) (omega arith) lt));
      above = λ x s le e. (let h = get_index c.args.self.now.symbols x (Top 0) s e in subst (λ z. terminal_below c.args.t z ≡ false) h.1 (point'.1 x (Top 0) le h.0));
    }
