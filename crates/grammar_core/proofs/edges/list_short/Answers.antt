use Rattle.std.proofs.Common.{◌≡◌, ◌≢◌, ◌+◌, ◌-◌, ◌++◌, ◌∷◌, [], slice_get, Some, ap, sym, subst, ◌∙◌, arith}
use Rattle.std.specs.Prelude.{AllPairs}
use Rattle.std.specs.declared.vec.Vec.{Vec}
use Rattle.std.specs.declared.alloc.Global.{Global}
use Rattle.std.proofs.lemmas.Option.{slice_get-get_or}
use Rattle.grammar_model.specs.declared.Edge.{Edge as HeldEdge}
use Rattle.grammar_core.specs.declared.edges.Edge.{Edge}
use Rattle.grammar_core.specs.Edges.{placed}
use Rattle.grammar_core.proofs.Listing.{AreShortTo, no_short, one_short, one_short_once, no_more_short, all_short}
use Rattle.grammar_core.proofs.edges.list_short.Goals.{then-edge-eq1+in_ok-push, else-edge-eq1}
use Rattle.grammar_core.proofs.edges.list_short.Goals as goal

pub loop-edge-init : goal.loop-edge-init
loop-edge-init c = record { listed = no_short c.args.begun.now c.args.place c.args.edges.now.items; once = c.requires.once }

pub loop-edge-preserved : goal.loop-edge-preserved
loop-edge-preserved c =
    let begun = c.args.begun.now in
    let k = c.loop-edge.edge-index in
    let start = c.args.edges.now.items in
    let x = c.edge-item.result in
    let at : slice_get begun k ≡ Some x = slice_get-get_or begun k x c.loop-edge-test.true ∙ ap Some (sym c.edge-item.is) in
    let size = ap (λ (z : Edge). z.length) c.edge.view_is in
    let symbol = ap (λ (z : Edge). z.symbol) c.edge.view_is in
    elim c.if-edge-eq1.branch [
      | then-edge-eq1+in_ok-push w ↦
          let one : x.length ≡ 1 = sym size ∙ w.if-edge-eq1.true in
          let to : c.args.place ≡ (c.args.place - 1) + x.length = (let r = c.requires.place in omega arith) in
          let same : _ ≡ placed (c.args.place - 1) x = λ i. record { symbol = symbol i; from = c.args.place - 1; to = to i } in
          let is : w.push.new.self.items ≡ c.loop-edge.edges.items ++ placed (c.args.place - 1) x ∷ [] = w.in_ok-push.ensures.items ∙ ap (λ (z : HeldEdge). c.loop-edge.edges.items ++ z ∷ []) same in
          record {
            listed = subst (λ (v : Vec HeldEdge Global). AreShortTo begun c.args.place start v.items (k + 1)) (sym w.edges-is)
                (one_short begun c.args.place start c.loop-edge.edges.items w.push.new.self.items k x at one c.loop-edge.invariant.listed is);
            once = subst (λ (v : Vec HeldEdge Global). AllPairs (λ (d e : HeldEdge). d ≢ e) v.items) (sym w.edges-is)
                (one_short_once begun c.args.place start c.loop-edge.edges.items w.push.new.self.items k x c.requires.begun c.requires.apart at one c.loop-edge.invariant.listed is c.loop-edge.invariant.once);
          }
      | else-edge-eq1 w ↦ record {
        listed = subst (λ (v : Vec HeldEdge Global). AreShortTo begun c.args.place start v.items (k + 1)) (sym w.edges-is)
            (no_more_short begun c.args.place start c.loop-edge.edges.items k x at (λ e. w.if-edge-eq1.false (size ∙ e)) c.loop-edge.invariant.listed);
        once = subst (λ (v : Vec HeldEdge Global). AllPairs (λ (d e : HeldEdge). d ≢ e) v.items) (sym w.edges-is) c.loop-edge.invariant.once;
      }
    ]

pub returns-clause-listed : goal.returns-clause-listed
returns-clause-listed c = all_short c.args.begun.now c.args.place c.args.edges.now.items c.loop-edge.edges.items c.loop-edge.edge-index (let f = c.loop-edge-test.false in omega arith) c.loop-edge.invariant.listed
