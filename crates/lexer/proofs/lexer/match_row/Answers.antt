use Rattle.std.proofs.Common.{◌↔◌, ℕ, List, Contains, subst}
use Rattle.lexer.proofs.Done.{DoneTo, IsDoneBy, done_in, done_rules}
use Rattle.lexer.proofs.lexer.match_row.Goals as goal

pub list_matched-requires-clause-rules : goal.list_matched-requires-clause-rules
list_matched-requires-clause-rules c = λ r h.
    let done = c.list_done.new.done.items in
    done_rules c.args.flat.now c.args.row.now done (subst (λ (l : List ℕ). DoneTo c.args.flat.now l c.args.row.now done) c.clear.ensures.items c.in_ok-list_done.ensures) c.requires.row r
    (subst (λ (l : List ℕ). Contains l r) c.deref.ensures.value h)

pub returns-clause-exact : goal.returns-clause-exact
returns-clause-exact c = λ k.
    let done = c.list_done.new.done.items in
    let both = subst (λ (l : List ℕ). (j : ℕ) → Contains c.list_matched.new.matched.items j ↔ (Contains c.args.candidates.now j × IsDoneBy c.args.flat.now l j)) c.deref.ensures.value c.in_ok-list_matched.ensures.exact k in
    let in_row = done_in c.args.flat.now c.args.row.now done (subst (λ (l : List ℕ). DoneTo c.args.flat.now l c.args.row.now done) c.clear.ensures.items c.in_ok-list_done.ensures) k in
    ((λ h. (let (a, b) = both.0 h in (a, in_row.0 b))), (λ (a, b). both.1 (a, in_row.1 b)))
