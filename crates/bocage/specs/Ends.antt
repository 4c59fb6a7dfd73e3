-- The walk over the places where nodes end.
use Rattle.std.specs.Prelude.{◌≡◌, ◌≢◌, ℕ, ◌<◌, ◌≤◌, ◌⊎◌, List, Some, length, map, slice_get, Contains}
use Rattle.grammar_model.specs.declared.Ranking.{Ranking}
use Rattle.grammar_model.specs.Grammar.{Grammar}
use Rattle.recognizer_model.specs.declared.NodeKey.{NodeKey}
use Rattle.recognizer_model.specs.Flat.{rhs_of}
use Rattle.earley_sets.specs.Recognizer.{Recognizer, earleme_of}
use Rattle.forest_model.specs.Forest.{AreAlternatives}
use Rattle.bocage.specs.declared.rows.AlternativeRow.{AlternativeRow}
use Rattle.bocage.specs.declared.walk.Known.{Known}
use Rattle.bocage.specs.declared.walk.Found.{Found}
use Rattle.bocage.specs.Rows.{alternative_of, AreWithin}
use Rattle.bocage.specs.Walk.{seen, AreNoted, GrowsBy, IsNew, IsUsedIn, top_key}

-- one node gets these alternatives, and no other changes
pub record SetsRow (old new : List (List AlternativeRow)) (n : ℕ) (rows : List AlternativeRow) : Type 0 where
  pub same : (m : ℕ) (held : List AlternativeRow) → m ≢ n → slice_get old m ≡ Some held → slice_get new m ≡ Some held
  pub sets : slice_get new n ≡ Some rows

-- the node has its alternatives
pub record HasRow (w : Grammar) (ranking : Ranking) (r : Recognizer) (keys : List NodeKey) (wholes : List ℕ) (table : List (List AlternativeRow)) (n : ℕ) (key : NodeKey) : Type 0 where
  pub rows : List AlternativeRow
  pub at : slice_get table n ≡ Some rows
  pub are : AreAlternatives (seen w ranking r keys) key (map (alternative_of wholes) rows)
  pub within : AreWithin rows wholes

-- nodes are met, and none loses its alternatives
pub record Goes (k : Known) (old new : Found) (before behind : List (List AlternativeRow)) : Type 0 where
  pub keys : GrowsBy (IsNew k) old.keys.keys new.keys.keys
  pub keeps : (n : ℕ) (key : NodeKey) → slice_get old.keys.keys n ≡ Some key → HasRow k.written.now k.ranking k.recce.now old.keys.keys old.wholes.items before n key →
      HasRow k.written.now k.ranking k.recce.now new.keys.keys new.wholes.items behind n key
  pub noted : AreNoted k new

-- and this one gets them
pub record Visits (k : Known) (n : ℕ) (old new : Found) (before behind : List (List AlternativeRow)) : Type 0 where
  pub goes : Goes k old new before behind
  pub has : (key : NodeKey) → slice_get old.keys.keys n ≡ Some key → HasRow k.written.now k.ranking k.recce.now new.keys.keys new.wholes.items behind n key

-- the node ends here and does not begin too early
pub record IsReady (k : Known) (keys : List NodeKey) (n : ℕ) : Type 0 where
  pub key : NodeKey
  pub at : slice_get keys n ≡ Some key
  pub used : IsUsedIn k.written.now k.ranking k.recce.now key
  pub end : key.end ≡ k.end
  pub least : k.least ≤ key.origin

-- before the nodes that end at a place are visited: those that end after it have their alternatives, and the first that end there wait
pub record IsGoing (w : Grammar) (ranking : Ranking) (r : Recognizer) (end first : ℕ) (f : Found) (table : List (List AlternativeRow)) : Type 0 where
  pub few : first ≤ length f.keys.keys
  pub visited : (n : ℕ) (key : NodeKey) → slice_get f.keys.keys n ≡ Some key → end < key.end → HasRow w ranking r f.keys.keys f.wholes.items table n key
  pub used : (key : NodeKey) → Contains f.keys.keys key → IsUsedIn w ranking r key
  pub waits : (n : ℕ) (key : NodeKey) → slice_get f.keys.keys n ≡ Some key → (n < first) ⊎ (key.end < end) → key.end ≤ end → key.dot < length (rhs_of r.flat key.rule)
  pub begun : (n : ℕ) (key : NodeKey) → slice_get f.keys.keys n ≡ Some key → first ≤ n → key.end ≡ end → end ≡ earleme_of r
  pub top : 0 < earleme_of r → Contains f.keys.keys (top_key r)

-- after the nodes that end at a place or after it were visited: they have their alternatives, and those that end before it wait
pub record AreVisited (w : Grammar) (ranking : Ranking) (r : Recognizer) (end : ℕ) (f : Found) (table : List (List AlternativeRow)) : Type 0 where
  pub visited : (n : ℕ) (key : NodeKey) → slice_get f.keys.keys n ≡ Some key → end ≤ key.end → HasRow w ranking r f.keys.keys f.wholes.items table n key
  pub used : (key : NodeKey) → Contains f.keys.keys key → IsUsedIn w ranking r key
  pub waits : (n : ℕ) (key : NodeKey) → slice_get f.keys.keys n ≡ Some key → key.end < end → key.dot < length (rhs_of r.flat key.rule)
  pub top : 0 < earleme_of r → Contains f.keys.keys (top_key r)
