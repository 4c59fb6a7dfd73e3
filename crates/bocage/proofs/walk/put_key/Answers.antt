use Rattle.std.proofs.Common.{◌∙◌, ◌-◌, ◌<◌, ℕ, List, length, get_or, sym, ap, subst, arith}
use Rattle.std.proofs.lemmas.Result.{on_ok_weaker}
use Rattle.recognizer_model.specs.Flat.{FlatGrammar, rhs_of}
use Rattle.bocage.proofs.Splits.{used_within, read_of}
use Rattle.bocage.proofs.Finishing.{next_of_key}
use Rattle.bocage.proofs.walk.put_key.Goals as goal

pub rhs-requires : goal.rhs-requires
rhs-requires c = subst (λ (g : FlatGrammar). c.args.key.rule < length g.rules) (sym c.flat.ensures) (used_within c.args.known.now.written.now c.args.known.now.ranking c.args.known.now.recce.now (read_of c.args.known.now c.requires.knows) c.args.key c.requires.used).is_rule

pub bounds-rhs-predecessor : goal.bounds-rhs-predecessor
bounds-rhs-predecessor c =
    let w = used_within c.args.known.now.written.now c.args.known.now.ranking c.args.known.now.recce.now (read_of c.args.known.now c.requires.knows) c.args.key c.requires.used in
    let a = w.some in
    let b = w.parts in
    let e = ap (λ (l : List ℕ). length l) (c.rhs.ensures ∙ ap (λ (g : FlatGrammar). rhs_of g c.args.key.rule) c.flat.ensures) in
    omega arith

pub put_node-requires-clause-rule : goal.put_node-requires-clause-rule
put_node-requires-clause-rule c = (used_within c.args.known.now.written.now c.args.known.now.ranking c.args.known.now.recce.now (read_of c.args.known.now c.requires.knows) c.args.key c.requires.used).is_rule

pub put_node-requires-clause-next : goal.put_node-requires-clause-next
put_node-requires-clause-next c =
    let e = c.rhs.ensures ∙ ap (λ (g : FlatGrammar). rhs_of g c.args.key.rule) c.flat.ensures in
    next_of_key c.args.known.now c.requires.knows c.args.key c.requires.used c.requires.end c.requires.least (get_or c.rhs.result.now (c.args.key.dot - 1) 0) (ap (λ (l : List ℕ). get_or l (c.args.key.dot - 1) 0) e)

pub returns : goal.returns
returns c =
    let w = used_within c.args.known.now.written.now c.args.known.now.ranking c.args.known.now.recce.now (read_of c.args.known.now c.requires.knows) c.args.key c.requires.used in
    let e = c.rhs.ensures ∙ ap (λ (g : FlatGrammar). rhs_of g c.args.key.rule) c.flat.ensures in
    let next = next_of_key c.args.known.now c.requires.knows c.args.key c.requires.used c.requires.end c.requires.least (get_or c.rhs.result.now (c.args.key.dot - 1) 0) (ap (λ (l : List ℕ). get_or l (c.args.key.dot - 1) 0) e) in
    on_ok_weaker c.put_node.result (λ h. record { symbol = get_or c.rhs.result.now (c.args.key.dot - 1) 0; some = w.some; part = next.part; next = next; lists = h }) c.put_node.ensures
