use Rattle.std.proofs.Common.{◌++◌, ap, ◌∙◌}
use Rattle.earley_sets.specs.Recognizer.{IsExpected}
use Rattle.scanless.specs.Noted.{AreSought}
use Rattle.scanless.proofs.Noting.{gathered_sought}
use Rattle.scanless.proofs.Results.{appended}
use Rattle.scanless.proofs.candidates.list_candidates.Goals as goal

pub returns : goal.returns
returns c =
    appended c.extend_from_slice.result c.list_lexemes.new.starts.items c.discards.result.now c.extend_from_slice.new.self.items (AreSought c.args.p.now (IsExpected c.args.recce.now) c.extend_from_slice.new.self.items) c.extend_from_slice.ensures.items
    (λ e. gathered_sought c.args.p.now (IsExpected c.args.recce.now) c.list_lexemes.new.starts.items c.extend_from_slice.new.self.items c.in_ok-list_lexemes.ensures (e ∙ ap (λ ds. c.list_lexemes.new.starts.items ++ ds) c.discards.ensures))
