use Rattle.std.proofs.Common.{◌↔◌, ◌<◌, ◌∙◌, ℕ, List, length, Contains, sym, subst, arith}
use Rattle.recognizer_model.specs.declared.thread.Thread.{Thread}
use Rattle.threads.specs.Lists.{list_at}
use Rattle.lexer.specs.Lexical.{LexicalForm, IsLongestMatch, IsUnmatched}
use Rattle.lexer.specs.Machines.{form_of}
use Rattle.lexer.specs.Reading.{IsDoneIn}
use Rattle.lexer.proofs.ReadOn.{best_unmatched, best_matched}
use Rattle.lexer.proofs.lexer.longest_by.Goals as goal

pub begin-requires-clause-starts : goal.begin-requires-clause-starts
begin-requires-clause-starts c = subst (λ (f : LexicalForm). (k : ℕ) → Contains c.args.candidates.now k → k < length f.flat.tops) (sym c.forget_if_full.ensures.form) c.requires.starts

pub read-requires-clause-starts : goal.read-requires-clause-starts
read-requires-clause-starts c =
    subst (λ (f : LexicalForm). (k : ℕ) → Contains c.args.candidates.now k → k < length f.flat.tops) (sym (c.in_ok-first.ensures.goes.form ∙ c.forget_if_full.ensures.form)) c.requires.starts

pub match_row-requires-clause-candidates : goal.match_row-requires-clause-candidates
match_row-requires-clause-candidates c =
    subst (λ (f : LexicalForm). (k : ℕ) → Contains c.args.candidates.now k → k < length f.flat.tops) (sym (c.in_ok-best.ensures.goes.form ∙ (c.in_ok-first.ensures.goes.form ∙ c.forget_if_full.ensures.form))) c.requires.starts

pub match_row-requires-clause-row : goal.match_row-requires-clause-row
match_row-requires-clause-row c = λ th h. (c.in_ok-best.ensures.goes.is.rows c.in_ok-best.best.state th (subst (λ (l : List Thread). Contains l th) c.list-row.ensures h)).is_rule

pub returns-then-best-eq0-clause-none : goal.returns-then-best-eq0-clause-none
returns-then-best-eq0-clause-none c = λ none.
    subst (λ f. IsUnmatched f c.args.chars.now c.args.at c.args.candidates.now) (c.in_ok-best.ensures.goes.form ∙ (c.in_ok-first.ensures.goes.form ∙ c.forget_if_full.ensures.form))
    (best_unmatched (form_of c.read.new.machine) c.args.chars.now c.args.at c.args.candidates.now (list_at c.read.new.machine.rows c.in_ok-best.best.state) c.in_ok-best.best.length c.in_ok-best.ensures.best c.if-best-eq0.true)

pub returns-clause-some : goal.returns-clause-some
returns-clause-some c =
    subst (λ f. IsLongestMatch f c.args.chars.now c.args.at c.args.candidates.now c.in_ok-best.best.length c.match_row.new.matched.items) (c.in_ok-best.ensures.goes.form ∙ (c.in_ok-first.ensures.goes.form ∙ c.forget_if_full.ensures.form))
    (best_matched (form_of c.read.new.machine) c.args.chars.now c.args.at c.args.candidates.now (list_at c.read.new.machine.rows c.in_ok-best.best.state) c.in_ok-best.best.length c.in_ok-best.ensures.best
    (let n = c.if-best-eq0.false in omega arith) c.match_row.new.matched.items
    (subst (λ (l : List Thread). (k : ℕ) → Contains c.match_row.new.matched.items k ↔ (Contains c.args.candidates.now k × IsDoneIn c.read.new.machine.flat.now l k)) c.list-row.ensures c.in_ok-match_row.ensures.exact)
    c.in_ok-match_row.ensures.sorted)
