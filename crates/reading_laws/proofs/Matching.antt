-- What a start of the lexical grammar matches is decided.
use Rattle.std.proofs.Common.{arith, ◌≡◌, ℕ, suc, List, slice_get, slice_index, refl, subst}
use Rattle.grammar_model.specs.Grammar.{slot_of}
use Rattle.language_model.specs.Classes.{Class, HasMember}
use Rattle.language_model.specs.Building.{Built}
use Rattle.reading_model.specs.Matches.{IsInSet, CharacterEdges, Matches}
use Rattle.char_class.specs.Members.{class_has}
use Rattle.char_class.proofs.MembersLemmas.{class_has_iff}
use Rattle.finite_sets.specs.Decided.{IsDecided}
use Rattle.finite_sets.proofs.Deciding.{both, moved, equal, is_true}
use Rattle.finite_sets.proofs.Members.{Among, among_from, contains_from, some_among}
use Rattle.grammar_laws.proofs.Options.{some_held}
use Rattle.grammar_laws.proofs.Spans.{tree_decided}
use Rattle.reading_laws.specs.Laws.{MatchesAreDecided}

-- ---- matches

module _ (b : Built) where
  member_decided : (k : Class) (c : ℕ) → IsDecided (HasMember k c)
  member_decided k c = moved (class_has_iff k c).0 (class_has_iff k c).1 (is_true (class_has k c))

  in_set_decided : (symbol c : ℕ) → IsDecided (IsInSet b symbol c)
  in_set_decided symbol c =
      moved to (λ r. ((symbol, r.set), among_from b.sets (symbol, r.set) r.is_set, (refl, r.member)))
      (some_among (λ (row : ℕ × Class). (row.0 ≡ symbol) × HasMember row.1 c) b.sets (λ row m. both (equal row.0 symbol) (member_decided row.1 c)))
    where
      to : (row : ℕ × Class) × Among row b.sets × ((row.0 ≡ symbol) × HasMember row.1 c) → IsInSet b symbol c
      to (row, m, (e, h)) = record { set = row.1; is_set = contains_from b.sets (symbol, row.1) (subst (λ s. Among (s, row.1) b.sets) e m); member = h }

  module _ (text : List ℕ) where
    character_decided : (s p q : ℕ) → IsDecided (CharacterEdges b text s p q)
    character_decided s p q = both (equal q (suc p)) (some_held (slice_get text p) (IsInSet b s) (in_set_decided s))

    pub matches_decided : (start from to : ℕ) → IsDecided (Matches b text start from to)
    matches_decided start from to = tree_decided b.l0 (CharacterEdges b text) character_decided (λ s p q h. let e = h.0 in omega (arith, e)) (slot_of (slice_index b.l0.starts start)) from to

pub matches_are_decided : MatchesAreDecided
matches_are_decided b text start from to = matches_decided b text start from to
