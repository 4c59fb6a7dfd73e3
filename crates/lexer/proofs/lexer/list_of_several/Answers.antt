use Rattle.std.proofs.Common.{ℕ, ◌+◌, take, sym, subst, arith}
use Rattle.std.specs.declared.vec.Vec.{Vec}
use Rattle.std.specs.declared.alloc.Global.{Global}
use Rattle.std.proofs.lemmas.List.Elements.{Contains-get_or}
use Rattle.std.proofs.lemmas.List.{take_all}
use Rattle.lexer.proofs.Done.{MatchedTo, matched_none, matched_more, matched_skip}
use Rattle.lexer.proofs.lexer.list_of_several.Goals.{then-is_done+in_ok-push, else-is_done}
use Rattle.lexer.proofs.lexer.list_of_several.Goals as goal

pub is_done-requires : goal.is_done-requires
is_done-requires c = c.requires.candidates _ (Contains-get_or c.args.candidates.now c.loop-candidate.candidate-index 0 (omega arith))

pub loop-candidate-init : goal.loop-candidate-init
loop-candidate-init c = matched_none c.args.flat.now c.args.done.now c.args.matched.now.items c.requires.empty

pub loop-candidate-preserved : goal.loop-candidate-preserved
loop-candidate-preserved c =
    let g = c.args.flat.now in
    let done = c.args.done.now in
    let cs = c.args.candidates.now in
    let i = c.loop-candidate.candidate-index in
    let mid = c.loop-candidate.matched.items in
    let lt = c.loop-candidate-test.true in
    elim c.if-is_done.branch [
      | then-is_done+in_ok-push w ↦
          subst (λ (v : Vec ℕ Global). MatchedTo g done (take (i + 1) cs) v.items) (sym w.matched-is)
          (matched_more g done cs i lt mid c.loop-candidate.invariant (c.is_done.ensures.0 w.if-is_done.true) w.push.new.self.items w.in_ok-push.ensures.items)
      | else-is_done w ↦
          subst (λ (v : Vec ℕ Global). MatchedTo g done (take (i + 1) cs) v.items) (sym w.matched-is)
          (matched_skip g done cs i lt mid c.loop-candidate.invariant (λ d. let t = c.is_done.ensures.1 d in let f = w.if-is_done.false in absurd (cc)))
    ]

pub returns-clause-exact : goal.returns-clause-exact
returns-clause-exact c = (subst (λ l. MatchedTo c.args.flat.now c.args.done.now l c.loop-candidate.matched.items) (take_all c.loop-candidate.candidate-index c.args.candidates.now c.loop-candidate-test.false) c.loop-candidate.invariant).exact

pub returns-clause-sorted : goal.returns-clause-sorted
returns-clause-sorted c = (subst (λ l. MatchedTo c.args.flat.now c.args.done.now l c.loop-candidate.matched.items) (take_all c.loop-candidate.candidate-index c.args.candidates.now c.loop-candidate-test.false) c.loop-candidate.invariant).order
