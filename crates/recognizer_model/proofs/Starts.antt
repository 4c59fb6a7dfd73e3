-- The one part of a top's rule stands for its start.
use Rattle.std.proofs.Common.{◌≡◌, ℕ, ◌<◌, List, [], ◌∷◌, map, length, Some, slice_get, refl, sym, subst, arith}
use Rattle.std.specs.Prelude.{slice_index, slice_index_or}
use Rattle.grammar_model.specs.Grammar.{Grammar, slot_of}
use Rattle.recognizer_model.specs.Flat.{FlatGrammar, IsRule, rhs_of, no_rule}
use Rattle.recognizer_model.specs.declared.flat.FlatSymbol.{FlatSymbol}
use Rattle.recognizer_model.specs.declared.flat.FlatSymbol.TheVariants.{Top}
use Rattle.recognizer_model.specs.Invariant.{IsFlat}
use Rattle.recognizer_model.specs.FlatForm.{IsFlatOf, IsRuleOf, NamedRule, OfPlain, OfList, OfTrailing, OfItem, OfItems, OfSeparated, OfTop, Stands, AsTerminal, AsSlot, StandsFor, symbol_at, named}
use Rattle.std.proofs.lemmas.Option.{slice_get-get_or}
use Rattle.finite_sets.proofs.Lists.{Contains-map, get_item}

stands_for : (w : Grammar) (start : ℕ) (s : FlatSymbol) → Stands w (slot_of start) s → StandsFor w s (slot_of start)
stands_for w start s (AsTerminal t) = refl
stands_for w start s (AsSlot other) = refl

record TopRight (w : Grammar) (k : ℕ) (name : NamedRule) : Type 0 where
  start : ℕ
  symbol : FlatSymbol
  right : name.right ≡ symbol ∷ []
  at : slice_get w.starts k ≡ Some start
  stands : Stands w (slot_of start) symbol

top_right : (w : Grammar) (k : ℕ) (name : NamedRule) → IsRuleOf w name → name.left ≡ Top k → TopRight w k name
top_right w k name (OfPlain i s l r right lt is some live fits used len stand) e = cc
top_right w k name (OfList i r s is) e = cc
top_right w k name (OfTrailing i x r c s is sep proper prod st) e = cc
top_right w k name (OfItem i r b s is st) e = cc
top_right w k name (OfItems i r b s is none st) e = cc
top_right w k name (OfSeparated i x r b c s is sep prod st st') e = cc
top_right w k name (OfTop l start s at st) e =
    let same : l ≡ k = cc in record { start = start; symbol = s; right = refl; at = subst (λ z. slice_get w.starts z ≡ Some start) same at; stands = st }

first_mapped : (g : ℕ → FlatSymbol) (xs : List ℕ) (s : FlatSymbol) → map g xs ≡ s ∷ [] → g (slice_index xs 0) ≡ s
first_mapped g [] s e = cc
first_mapped g (x ∷ xs) s e = cc

module _ (f : FlatGrammar) (w : Grammar) (flat : IsFlat f) (made : IsFlatOf f w) (k start r : ℕ) (at : slice_get w.starts k ≡ Some start) (top : slice_get f.tops k ≡ Some r) where
  is_rule : IsRule f r
  is_rule = (made.tops k r top).0

  of : TopRight w k (named f (slice_index_or f.rules r no_rule))
  of =
      top_right w k (named f (slice_index_or f.rules r no_rule))
      ((made.rules.exact (named f (slice_index_or f.rules r no_rule))).0 (Contains-map (named f) f.rules (slice_index_or f.rules r no_rule) (get_item f.rules r (slice_index_or f.rules r no_rule) (slice_get-get_or f.rules r no_rule is_rule))))
      (made.tops k r top).1

  pub part_in_range : slice_index (rhs_of f r) 0 < length f.symbols
  part_in_range = flat.in_range.parts r 0 (slice_index (rhs_of f r) 0) is_rule (slice_get-get_or (rhs_of f r) 0 0 (let one = (flat.tops k r top).one in omega (arith, one)))

  pub part_stands : StandsFor w (symbol_at f (slice_index (rhs_of f r) 0)) (slot_of start)
  part_stands =
      let here = of.at in
      let same : of.start ≡ start = cc in
      subst (λ z. StandsFor w z (slot_of start)) (sym (first_mapped (symbol_at f) (rhs_of f r) of.symbol of.right))
      (subst (λ z. StandsFor w of.symbol (slot_of z)) same (stands_for w of.start of.symbol of.stands))
