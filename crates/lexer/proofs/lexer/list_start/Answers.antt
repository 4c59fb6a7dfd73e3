use Rattle.std.proofs.Common.{◌≡◌, ◌∙◌, ◌++◌, ◌∷◌, ℕ, List, [], Contains, get_or, arith, ap, sym, subst}
use Rattle.std.specs.List.Sorted.{IsStrictlySortedBy}
use Rattle.std.specs.Ordering.{nat_cmp}
use Rattle.std.proofs.lemmas.List.Elements.{Contains-get_or}
use Rattle.finite_sets.proofs.Lists.{Contains-none}
use Rattle.lexer.proofs.Done.{no_start, one_start, start_done}
use Rattle.lexer.proofs.Sorted.{sorted_none, sorted_push}
use Rattle.lexer.proofs.lexer.list_start.Goals as goal

pub start_of-requires-clause-rule : goal.start_of-requires-clause-rule
start_of-requires-clause-rule c = (c.requires.rules _ (Contains-get_or c.args.done.now 0 0 (let e = c.requires.one in omega arith))).0

pub start_of-requires-clause-top : goal.start_of-requires-clause-top
start_of-requires-clause-top c = (c.requires.rules _ (Contains-get_or c.args.done.now 0 0 (let e = c.requires.one in omega arith))).1

pub returns-in_default-clause-exact : goal.returns-in_default-clause-exact
returns-in_default-clause-exact c = start_done c.args.flat.now c.args.done.now c.args.candidates.now c.args.matched.now.items c.requires.one (no_start c.args.flat.now (get_or c.args.done.now 0 0) c.args.candidates.now c.args.matched.now.items c.requires.empty (λ k h top. let e = (c.start_of.ensures k).0 top in let n = c.in_default.ensures in absurd (cc)))

pub returns-in_default-clause-sorted : goal.returns-in_default-clause-sorted
returns-in_default-clause-sorted c = subst (IsStrictlySortedBy nat_cmp) (sym c.requires.empty) sorted_none

pub returns-then-not-is_one_of-clause-exact : goal.returns-then-not-is_one_of-clause-exact
returns-then-not-is_one_of-clause-exact c = start_done c.args.flat.now c.args.done.now c.args.candidates.now c.args.matched.now.items c.requires.one (no_start c.args.flat.now (get_or c.args.done.now 0 0) c.args.candidates.now c.args.matched.now.items c.requires.empty (λ k h top.
    let e = (c.start_of.ensures k).0 top in
    let n = c.in-Some.ensures in
    let same : k ≡ c.in-Some.start = cc in
    let t = c.is_one_of.ensures.1 (subst (Contains c.args.candidates.now) same h) in
    let f = c.if-not-is_one_of.true in
    absurd (cc)))

pub returns-then-not-is_one_of-clause-sorted : goal.returns-then-not-is_one_of-clause-sorted
returns-then-not-is_one_of-clause-sorted c = subst (IsStrictlySortedBy nat_cmp) (sym c.requires.empty) sorted_none

pub returns-clause-exact : goal.returns-clause-exact
returns-clause-exact c =
    start_done c.args.flat.now c.args.done.now c.args.candidates.now c.push.new.self.items c.requires.one (one_start c.args.flat.now (get_or c.args.done.now 0 0) c.args.candidates.now c.push.new.self.items c.in-Some.start (c.in_ok-push.ensures.items ∙ ap (λ (l : List ℕ). l ++ c.in-Some.start ∷ []) c.requires.empty)
    (c.is_one_of.ensures.0 (let f = c.if-not-is_one_of.false in cc))
    c.in-Some.ensures)

pub returns-clause-sorted : goal.returns-clause-sorted
returns-clause-sorted c =
    subst (IsStrictlySortedBy nat_cmp) (sym (c.in_ok-push.ensures.items ∙ ap (λ (l : List ℕ). l ++ c.in-Some.start ∷ []) c.requires.empty)) (sorted_push [] c.in-Some.start sorted_none (λ x h. absurd (Contains-none x h)))
