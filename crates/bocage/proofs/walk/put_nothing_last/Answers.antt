use Rattle.std.proofs.Common.{rules, ◌≡◌, ℕ, false, inl, inr}
use Rattle.std.proofs.lemmas.Result.{on_ok_weaker}
use Rattle.recognizer_model.specs.Flat.{IsNullable}
use Rattle.bocage.specs.Walk.{BeginsIn, MayBegin, is_high}
use Rattle.bocage.proofs.Growing.{lists_then}
use Rattle.bocage.proofs.Joining.{may_begin, nothing_last}
use Rattle.bocage.proofs.walk.put_nothing_last.Goals as goal

pub put_nothing-requires-clause-noted : goal.put_nothing-requires-clause-noted
put_nothing-requires-clause-noted c = c.in_ok-put_alternatives.ensures.noted

pub returns : goal.returns
returns c =
    let h : is_high c.args.known.now c.args.predecessor ≡ false = search rules in
    on_ok_weaker c.put_nothing.result
    (λ g. lists_then c.args.known.now c.args.predecessor c.args.symbol (BeginsIn c.args.known.now c.args.joins.now) (λ (m : ℕ). (m ≡ c.args.known.now.end) × IsNullable c.args.known.now.recce.now.flat c.args.symbol) (MayBegin c.args.known.now c.args.symbol)
    c.args.found.now c.put_alternatives.new.found c.put_nothing.new.found c.in_ok-put_alternatives.ensures g
    (λ m n b d. nothing_last c.args.known.now c.requires.knows c.args.predecessor c.args.symbol c.requires.next c.args.joins.now c.requires.joins (is_high c.args.known.now c.args.predecessor) h m n b d.0)
    (λ m t. let i = may_begin c.args.known.now c.requires.knows c.args.predecessor c.args.symbol c.requires.next c.args.joins.now c.requires.joins m t in
    ((λ x. elim (i.0 x) [ inl a ↦ inr a | inr b ↦ inl b ]), (λ x. i.1 (elim x [ inl a ↦ inr a | inr b ↦ inl b ])))))
    c.put_nothing.ensures
