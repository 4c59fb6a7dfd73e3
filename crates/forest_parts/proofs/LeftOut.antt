-- An item that the ranking leaves out stands in no chosen derivation where it does.
use Rattle.std.proofs.Common.{ℕ, ℤ, ◌≤◌, ◌≤ℤ◌, ◌<ℤ◌, length, arith}
use Rattle.std.proofs.lemmas.Int.{ints}
use Rattle.grammar_model.specs.declared.Ranking.{Ranking}
use Rattle.grammar_model.specs.declared.Ranking.TheVariants.{None as NoRanks, Rule as RuleRanks, High as HighRanks}
use Rattle.grammar_model.specs.Grammar.{Grammar}
use Rattle.recognizer_model.specs.declared.Item.{Item}
use Rattle.recognizer_model.specs.Flat.{rhs_of}
use Rattle.recognizer_model.specs.Chosen.{flat_rank, allowed_by}
use Rattle.earley_sets.specs.Recognizer.{Recognizer, IsRecognizer, earleme_of, edges_of}
use Rattle.forest_parts.specs.Unasked.{IsOutranked}
use Rattle.forest_parts.proofs.Sets.{kept_inside, in_full}

pub not_higher : (x y : ℤ) → x <ℤ y → y ≤ℤ x → ⊥
not_higher x y lt le = omega (arith, ints)

module _ (w : Grammar) (r : Recognizer) (is : IsRecognizer r) (end : ℕ) (le : end ≤ earleme_of r) (item : Item) where
  pub not_outranked : (ranking : Ranking) → allowed_by w ranking r.flat (edges_of r) item.rule item.origin end → ¬ IsOutranked w ranking r end item
  not_outranked NoRanks best none = none
  not_outranked RuleRanks best none = none
  not_outranked HighRanks best (rule, (is_rule, same), (higher, kept)) =
      let whole : Item = record { rule = rule; dot = length (rhs_of r.flat rule); origin = item.origin } in
      let found = (in_full r is end whole).0 (kept_inside r is end whole le kept) in
      not_higher (flat_rank w HighRanks r.flat item.rule) (flat_rank w HighRanks r.flat rule) higher (best rule found.children is_rule same found.spans)
