use Rattle.std.proofs.Common.{◌≡◌, ◌<◌, ◌∙◌, length, map, All, ap, sym, subst}
use Rattle.std.specs.Prelude.{IsFalse}
use Rattle.std.specs.List.Sorted.{IsStrictlySortedBy}
use Rattle.std.specs.Ordering.{nat_cmp}
use Rattle.language_model.specs.Building.{Built, LexemeRow}
use Rattle.dsl_build.specs.Tables.{row_of}
use Rattle.dsl_build.proofs.Ranging.{built_ranges}
use Rattle.prepared_grammars.specs.Gathered.{Gathers}
use Rattle.prepared_grammars.specs.Lookups.{AreStarts}
use Rattle.prepared_grammars.proofs.Ordered.{in_order}
use Rattle.prepared_grammars.proofs.lookups.lookups_of.Goals as goal

pub list_starts-requires-clause-known : goal.list_starts-requires-clause-known
list_starts-requires-clause-known c =
    let lexemes : c.args.built.now.lexemes ≡ map row_of c.as_slice-rows.result.now = ap (λ (b : Built). b.lexemes) (sym c.built.view_is) ∙ ap (map row_of) (sym c.as_slice-rows.ensures.value) in
    let names : length c.args.built.now.g1.names ≡ c.symbol_count.result = ap (λ (b : Built). length b.g1.names) (sym c.built.view_is) ∙ sym c.symbol_count.ensures.count in
    subst (λ n. All (λ (l : LexemeRow). l.symbol < n) (map row_of c.as_slice-rows.result.now)) names
    (subst (All (λ (l : LexemeRow). l.symbol < length c.args.built.now.g1.names)) lexemes (built_ranges c.requires.0 c.args.built.now c.requires.1).symbols)

pub list_starts-requires-clause-order : goal.list_starts-requires-clause-order
list_starts-requires-clause-order c =
    let lexemes : c.args.built.now.lexemes ≡ map row_of c.as_slice-rows.result.now = ap (λ (b : Built). b.lexemes) (sym c.built.view_is) ∙ ap (map row_of) (sym c.as_slice-rows.ensures.value) in
    subst (λ ls. IsStrictlySortedBy nat_cmp (map (λ (l : LexemeRow). l.symbol) ls)) lexemes (in_order c.args.built.now c.requires).ascend

pub returns : goal.returns
returns c =
    let lexemes : map row_of c.as_slice-rows.result.now ≡ c.args.built.now.lexemes = ap (map row_of) c.as_slice-rows.ensures.value ∙ ap (λ (b : Built). b.lexemes) c.built.view_is in
    record {
      are_always = subst (λ ls. Gathers (λ (l : LexemeRow). IsFalse l.latm) (λ (l : LexemeRow). l.start) ls c.in_ok-list_always.field-0.items) lexemes c.in_ok-list_always.ensures;
      are_starts = subst (λ ls. AreStarts ls c.in_ok-list_starts.field-0.items) lexemes c.in_ok-list_starts.ensures;
    }
