use Rattle.std.proofs.Common.{◌++◌, ◌∷◌, [], List, map, ap, sym, subst, ◌∙◌}
use Rattle.std.proofs.lemmas.List.{map-append}
use Rattle.std.proofs.lemmas.Result.{on_ok_weaker}
use Rattle.std.specs.List.Sorted.{IsStrictlySortedBy}
use Rattle.grammar_core.specs.declared.steps.Span.{Span}
use Rattle.reading_model.specs.First.{IsFirstWith}
use Rattle.reading_model.specs.Reading.{IsStuck, MaySupply, supplied}
use Rattle.scanless.specs.Reading.{span_of, ReadSoFar, HasRead, IsReader}
use Rattle.scanless.proofs.Holding.{holds_begun}
use Rattle.scanless.proofs.Noting.{noted_later}
use Rattle.scanless.proofs.Steps.{reads_supplied}
use Rattle.scanless.proofs.reading.Reader.supply.Goals as goal

pub take_token-requires-clause-order : goal.take_token-requires-clause-order
unfolding IsStrictlySortedBy
take_token-requires-clause-order g c = (tt, tt)

pub take_token-requires-clause-begun : goal.take_token-requires-clause-begun
take_token-requires-clause-begun g c =
    let (given, text, few, is) = c.requires.reader in
    let reader = subst (IsReader given text) (sym c.self.view_is) is in
    holds_begun c.self.inside.prepared.now reader.pieces c.self.inside.recce reader.has_read.holds

pub returns-clause-supplied : goal.returns-clause-supplied
returns-clause-supplied g c =
    on_ok_weaker c.take_token.result
    (λ takes given text pieces.
    subst
    (λ (r : ReadSoFar). HasRead r.grammar given text pieces r.at r.recce r.spans → IsStuck r.grammar text pieces r.at → IsFirstWith (MaySupply r.grammar pieces) given c.args.symbol →
    HasRead r.grammar given text (pieces ++ supplied c.args.symbol ∷ []) c.self.inside.at c.take_token.new.recce c.push.new.self.items) c.self.view_is
    (λ read stuck first.
    reads_supplied c.self.inside.prepared.now given text pieces c.self.inside.at c.self.inside.recce c.self.inside.spans.items read c.args.symbol c.take_token.new.recce c.push.new.self.items stuck first takes
    (ap (λ (l : List Span). map span_of l) c.in_ok-push.ensures.items ∙ map-append span_of c.self.inside.spans.items _)))
    c.take_token.ensures.takes

pub invariant_of-self-2 : goal.invariant_of-self-2
invariant_of-self-2 g c = (
  c.self.invariant.0,
  noted_later c.self.inside.prepared.now c.self.inside.recce c.take_token.new.recce c.self.inside.work.value.notes c.take_token.ensures.grows c.self.invariant.1,
)
