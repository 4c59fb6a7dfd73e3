-- The law of starts at the grammar of lists.
use Rattle.std.proofs.Common.{arith, ◌≡◌, ℕ, zero, suc, ◌<◌, ◌≤◌, length, map, refl, ap, lit≤}
use Rattle.grammar_model.specs.declared.Ranking.TheVariants.{Rule as RuleRanks}
use Rattle.grammar_model.specs.Grammar.{WrittenRule, Plain, Sequence, rule_at}
use Rattle.recognizer_model.specs.FlatForm.{named}
use Rattle.flat_model.specs.Lists.{lists, flat_lists}
use Rattle.flat_rules.proofs.ListsChecked.{lists_have_flat_grammar}
use Rattle.reading_model.specs.Accepted.{HasFewRules}
use Rattle.reading_model.specs.Reading.{edges_of}
use Rattle.reading_laws.specs.Lists.{HasShortRules, commas, ListingApplies}
use Rattle.reading_laws.proofs.Candidates.{pieces_forward}
use Rattle.reading_laws.proofs.Lists.{starts_listed}

few : HasFewRules lists
few = record { count = 14; counted = (map (named flat_lists) flat_lists.rules, lists_have_flat_grammar.made.rules, refl); few = lit≤ tt }

abbrev size : WrittenRule → ℕ
size (Plain rule) = length rule.rhs
size (Sequence rule) = 0

small : (i : ℕ) → i < 5 → size (rule_at lists i) ≤ 1000
small zero lt = lit≤ tt
small (suc zero) lt = lit≤ tt
small (suc (suc zero)) lt = lit≤ tt
small (suc (suc (suc zero))) lt = lit≤ tt
small (suc (suc (suc (suc zero)))) lt = lit≤ tt
small (suc (suc (suc (suc (suc i))))) lt = absurd (omega (arith, lt))

short : HasShortRules lists
short i rule lt is =
    let le = small i lt in
    let same : size (rule_at lists i) ≡ length rule.rhs = ap size is in
    omega (arith, le, same)

pub listing_applies : ListingApplies
listing_applies = record {
  checked = lists_have_flat_grammar.checked;
  few = few;
  short = short;
  forward = pieces_forward commas;
  listed = starts_listed lists RuleRanks (edges_of commas) 0 3 lists_have_flat_grammar.checked few short (pieces_forward commas);
}
