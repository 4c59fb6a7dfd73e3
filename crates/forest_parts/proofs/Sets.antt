-- What the sets of a recognizer have of the full sets.
use Rattle.std.proofs.Common.{◌≡◌, ℕ, ◌≤◌, ◌↔◌, Contains, Some, length, refl, arith}
use Rattle.std.proofs.lemmas.Option.{slice_get_within}
use Rattle.grammar_model.specs.Trees.{Children}
use Rattle.grammar_model.specs.Derives.{Edges}
use Rattle.recognizer_model.specs.declared.Item.{Item}
use Rattle.recognizer_model.specs.Flat.{FlatGrammar, rhs_of}
use Rattle.recognizer_model.specs.FlatDerives.{Spans, Nothing, More}
use Rattle.recognizer_model.specs.Contexts.{IsTop, IsFound}
use Rattle.recognizer_model.specs.Items.{InSet, after}
use Rattle.recognizer_model.specs.Leo.{IsHidden, GoesForward}
use Rattle.recognizer_model.proofs.Earley.{items_are_found}
use Rattle.recognizer_model.proofs.Leo.{reduced_inside, expanded_inside}
use Rattle.earley_sets.specs.Kept.{IsItem}
use Rattle.earley_sets.specs.Recognizer.{Recognizer, IsRecognizer, earleme_of, set_at, edges_of, top_of}
use Rattle.earley_sets.proofs.ByRows.{goes_forward}
use Rattle.earley_sets.proofs.Exact as exact
use Rattle.earley_sets.proofs.Recognizing.{top_is_top}

pub spans_within : {g : FlatGrammar} {E : Edges} {r d p q : ℕ} {cs : Children} → Spans g E r d p q cs → d ≤ length (rhs_of g r)
spans_within Nothing = omega arith
spans_within {g = g} {r = r} (More {d = d} {x = x} s e t) = let l = slice_get_within (rhs_of g r) d x e in omega arith

module _ (r : Recognizer) (is : IsRecognizer r) where
  pub at_top : IsTop r.flat (top_of r)
  at_top = top_is_top r.flat r.start (top_of r) is.flat is.start refl

  pub goes : GoesForward (edges_of r)
  goes = goes_forward r.flat r.edges (top_of r) at_top is.forward

  -- an item that waits for a symbol is in its set exactly where it is in the full set
  pub waits_exact : (j : ℕ) (item : Item) (x : ℕ) → j ≤ earleme_of r → after r.flat item ≡ Some x → Contains (set_at r j) item ↔ InSet r.flat (edges_of r) (top_of r) j item
  waits_exact j item x le e = let s = is.some in exact.waits_exact r is j x item (omega arith) e

  -- each item of a set is one of the full set
  pub kept_inside : (j : ℕ) (item : Item) → j ≤ earleme_of r → Contains (set_at r j) item → InSet r.flat (edges_of r) (top_of r) j item
  kept_inside j item le h = let s = is.some in reduced_inside r.flat (edges_of r) (top_of r) at_top goes (((is.exact j (omega arith)).exact item).0 h)

  -- and so is each hidden one
  pub hidden_inside : (j : ℕ) (item : Item) → IsHidden r.flat (edges_of r) (top_of r) j item → InSet r.flat (edges_of r) (top_of r) j item
  hidden_inside j item h = expanded_inside r.flat (edges_of r) (top_of r) at_top goes h.0

  -- an item is in the full set exactly where it was found
  pub in_full : (j : ℕ) (item : Item) → InSet r.flat (edges_of r) (top_of r) j item ↔ IsFound r.flat (edges_of r) (top_of r) j item
  in_full j item = items_are_found r.flat (edges_of r) (top_of r) at_top j item

  pub found_item : (j : ℕ) (item : Item) → InSet r.flat (edges_of r) (top_of r) j item → IsItem r.flat item
  found_item j item h = let f = (in_full j item).0 h in record { is_rule = f.is_rule; within = spans_within f.spans }
