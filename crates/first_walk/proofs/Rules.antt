-- The order of flat rules, and of the keys that parts go by.
use Rattle.std.proofs.Common.{◌≡◌, ℕ, List, Option, length, refl, sym, ◌∙◌, ap}
use Rattle.std.specs.declared.cmp.Ordering.{Ordering}
use Rattle.std.specs.declared.cmp.Ordering.TheVariants.{Less, Equal, Greater}
use Rattle.std.specs.Cmp.{nat_cmp_is}
use Rattle.std.specs.Ordering.{ordering_then, ordering_reverse, nat_cmp, int_cmp, bool_cmp}
use Rattle.grammar_model.specs.declared.Ranking.{Ranking}
use Rattle.grammar_model.specs.declared.Ranking.TheVariants.{None as NoRanks, Rule as RuleRanks, High as HighRanks}
use Rattle.grammar_model.specs.Grammar.{Grammar}
use Rattle.recognizer_model.specs.Flat.{lhs_of, rhs_of}
use Rattle.recognizer_model.proofs.FlatKeeps.{flat_order_laws}
use Rattle.earley_sets.specs.Recognizer.{Recognizer}
use Rattle.forest_model.specs.Forest.{Forest, ForestNode, rules_cmp}
use Rattle.forest_laws.specs.Laws.{with_nodes}
use Rattle.forest_parts.specs.declared.parts.Part.{Part}
use Rattle.forest_parts.specs.declared.parts.RuleKey.{RuleKey}
use Rattle.forest_parts.specs.Groups.{IsKept}
use Rattle.forest_parts.specs.Parts.{key_cmp, rule_key_of}
use Rattle.first_walk.specs.Place.{reading_of}

then_assoc : (a b c : Ordering) → ordering_then (ordering_then a b) c ≡ ordering_then a (ordering_then b c)
then_assoc Less b c = refl
then_assoc Equal b c = refl
then_assoc Greater b c = refl

pub kept_itself : (ranking : Ranking) (p : Part) → IsKept ranking p p
kept_itself NoRanks p = tt
kept_itself RuleRanks p = tt
kept_itself HighRanks p = refl

module _ (w : Grammar) (ranking : Ranking) (r : Recognizer) (nodes : List ForestNode) (root : Option ℕ) where
  abbrev pub F : Forest
  F = with_nodes (reading_of w ranking r) nodes root

  -- keys compare as the rules of one left side
  pub keys_compare : (s t : ℕ) → lhs_of r.flat s ≡ lhs_of r.flat t → key_cmp (rule_key_of w ranking r.flat s) (rule_key_of w ranking r.flat t) ≡ rules_cmp F s t
  keys_compare s t same =
      let a : RuleKey = rule_key_of w ranking r.flat s in
      let b : RuleKey = rule_key_of w ranking r.flat t in
      let e = nat_cmp_is (lhs_of r.flat s) (lhs_of r.flat t) Equal same in
      ap (ordering_then (nat_cmp (b.length).0 (a.length).0))
      (ap (ordering_then (int_cmp (b.rank).0 (a.rank).0)) (sym (then_assoc (nat_cmp a.source b.source) (bool_cmp a.trailing b.trailing) (nat_cmp s t)))
      ∙ sym (then_assoc (int_cmp (b.rank).0 (a.rank).0) (ordering_then (nat_cmp a.source b.source) (bool_cmp a.trailing b.trailing)) (nat_cmp s t)))
      ∙ ap (λ o. ordering_then o (ordering_then (nat_cmp (b.length).0 (a.length).0) (ordering_then (ordering_then (int_cmp (b.rank).0 (a.rank).0) (ordering_then (nat_cmp a.source b.source) (bool_cmp a.trailing b.trailing))) (nat_cmp s t)))) e

  pub never : (s t : ℕ) → rules_cmp F s t ≡ Less → rules_cmp F t s ≡ Less → ⊥
  never s t a b =
      let c = (flat_order_laws w ranking r.flat).total.antisymm (s, length (rhs_of r.flat s)) (t, length (rhs_of r.flat t)) in
      let f : Less ≡ Greater = sym a ∙ c ∙ ap ordering_reverse b in
      cc
