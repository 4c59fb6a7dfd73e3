use Rattle.std.specs.Prelude.{ℕ}
use Rattle.grammar_model.specs.Derives.{Edges}
use Rattle.recognizer_model.specs.Flat.{FlatGrammar}
use Rattle.recognizer_model.specs.FlatForm.{FlatEdges}
use Rattle.recognizer_model.specs.Laws.{IsSound, EarleyLaws}
use Rattle.recognizer_model.specs.Acceptable.{OnlyTerminals}
use Rattle.recognizer_model.specs.Leo.{GoesForward}
use Rattle.grammar_model.specs.Derives.{Held}
use Rattle.recognizer_model.proofs.Earley.{items_are_found}
use Rattle.recognizer_model.proofs.Leo.{keeps_waiting, expands_to_all}
use Rattle.recognizer_model.proofs.Paths.{acceptable_are_awaited}
use Rattle.recognizer_model.proofs.Views.{symbol_viewed, symbol_back}
use Rattle.grammar_model.specs.Grammar.{slot_of}
use Rattle.recognizer_model.specs.Chosen.{allowed_by}
use Rattle.recognizer_model.proofs.Nodes.{used_are_met}
use Rattle.recognizer_model.proofs.earley_laws.Goals as goal

laws_over : (g : FlatGrammar) (E : Edges) (top : ℕ) → IsSound g top → OnlyTerminals g E → GoesForward E → EarleyLaws g E top
laws_over g E top sound only forward = record {
  found = items_are_found g E top sound.is_top;
  keeps = keeps_waiting g E top sound.is_top forward;
  expands = expands_to_all g E top sound.is_top forward;
  acceptable = acceptable_are_awaited g E top sound.is_top forward only sound.no_rules sound.marks sound.productive sound.spans;
  same = λ x p q t. ((λ d. symbol_viewed g sound.marks E only sound.no_rules sound.spans d), (λ d. symbol_back g sound.marks E only sound.no_rules sound.spans t (slot_of x) p q d));
  used = λ w ranking leaves. used_are_met g E (allowed_by w ranking g E) top sound.is_top only sound.no_rules leaves;
}

pub returns : goal.returns
returns c = λ g edges top sound. record {
  flat = λ tokens. laws_over g (Held edges) top sound (λ x p q e. tokens.terminal (record { symbol = x; from = p; to = q }) e) (λ x p q e. tokens.forward (record { symbol = x; from = p; to = q }) e);
  written = λ forward. laws_over g (FlatEdges g (Held edges)) top sound (λ x p q e. (e.0, e.1)) (λ x p q e. forward e.0 p q e.2);
}
