-- The used nodes of a reading have a list: those of its forest, or none where it has no derivation.
use Rattle.std.proofs.Common.{arith, ◌⊎◌, inl, inr, ℕ, ◌<◌, List, [], ◌∷◌, map, None, refl}
use Rattle.std.specs.Prelude.{slice_index_or}
use Rattle.grammar_model.specs.declared.Edge.{Edge}
use Rattle.grammar_model.specs.declared.Ranking.{Ranking}
use Rattle.grammar_model.specs.Grammar.{Grammar, slot_of}
use Rattle.grammar_model.specs.Trees.{Tree}
use Rattle.grammar_model.specs.Derives.{Edges, Held}
use Rattle.grammar_model.specs.All.{IsAll}
use Rattle.grammar_model.specs.Checked.{IsChecked}
use Rattle.recognizer_model.specs.declared.NodeKey.{NodeKey}
use Rattle.recognizer_model.specs.Flat.{FlatGrammar, lhs_of}
use Rattle.recognizer_model.specs.FlatForm.{IsFlatOf, FlatEdges, flat_order}
use Rattle.recognizer_model.specs.View.{grammar_view}
use Rattle.recognizer_model.specs.Chosen.{allowed_by}
use Rattle.recognizer_model.specs.FlatDerives.{Derives}
use Rattle.recognizer_model.specs.Acceptable.{OnlyTerminals}
use Rattle.recognizer_model.specs.Invariant.{IsFlat}
use Rattle.recognizer_model.specs.Counts.{IsListOf}
use Rattle.recognizer_model.specs.Nodes.{IsUsed}
use Rattle.recognizer_model.proofs.Views.{symbol_viewed, symbol_back}
use Rattle.recognizer_model.proofs.FlatListed.{flat_list}
use Rattle.finite_sets.proofs.Members as sets
use Rattle.finite_sets.proofs.Members.{once_pairs, among_from, contains_from, Among}
use Rattle.forest_model.specs.Forest.{Forest, IsDerived}
use Rattle.forest_laws.proofs.Existing.{forests_exist}

module _ (w : Grammar) (checked : IsChecked w) (f : FlatGrammar) (flat : IsFlat f) (made : IsFlatOf f w) (edges : List Edge) (forward : (s p q : ℕ) → Held edges s p q → p < q) (ranking : Ranking) (place : ℕ) where
  abbrev E : Edges
  E = FlatEdges f (Held edges)

  abbrev top : ℕ
  top = slice_index_or f.tops 0 0

  abbrev IsDerivation : Tree → Type 0
  IsDerivation t = Derives f (FlatEdges f (Held edges)) (lhs_of f (slice_index_or f.tops 0 0)) 0 place t

  only : OnlyTerminals f (FlatEdges f (Held edges))
  only x p q e = (e.0, e.1)

  derived_or_none : ((t : Tree) × IsDerivation t) ⊎ ((t : Tree) → IsDerivation t → ⊥)
  derived_or_none = go listed.0 (λ t d. among_from listed.0 t ((listed.1.each t).1 (symbol_viewed f flat.marks E only flat.no_rules flat.terminals_span d)))
      (λ t m. symbol_back f flat.marks E only flat.no_rules flat.terminals_span t (slot_of (lhs_of f top)) 0 place ((listed.1.each t).0 (contains_from listed.0 t m)))
    where
      listed : (ts : List Tree) × IsAll (grammar_view f) (FlatEdges f (Held edges)) (flat_order w ranking f) (slot_of (lhs_of f (slice_index_or f.tops 0 0))) 0 place ts
      listed = flat_list f w flat ranking edges forward (slot_of (lhs_of f top)) 0 place

      go : (ts : List Tree) → ((t : Tree) → IsDerivation t → Among t ts) → ((t : Tree) → Among t ts → IsDerivation t) → ((t : Tree) × IsDerivation t) ⊎ ((t : Tree) → IsDerivation t → ⊥)
      go [] all is = inr (λ t d. all t d)
      go (t ∷ ts) all is = inl (t, is t (inl refl))

  abbrev reading : Forest
  reading = record { written = w; flat = f; start = 0; edges = edges; place = place; ranking = ranking; nodes = []; root = None }

  is_derived : (t : Tree) → IsDerivation t → IsDerived reading
  is_derived t d = record {
    checked = checked;
    flat = flat;
    flat_of = made;
    start = (let some = checked.some_start in let all = made.tops_all in omega (arith, some, all));
    forward = λ e c. forward e.symbol e.from e.to c;
    tree = t;
    derives = d;
  }

  abbrev Used : NodeKey → Type 0
  Used = IsUsed f (FlatEdges f (Held edges)) (allowed_by w ranking f (FlatEdges f (Held edges))) (slice_index_or f.tops 0 0) place

  pub used_list : (keys : List NodeKey) × IsListOf (IsUsed f (FlatEdges f (Held edges)) (allowed_by w ranking f (FlatEdges f (Held edges))) (slice_index_or f.tops 0 0) place) keys
  used_list = elim derived_or_none [
    | inl (t, d) ↦ (let (nodes, root, forest) = forests_exist reading (is_derived t d) in (map (λ n. n.key) nodes, forest.used))
    | inr none ↦ ([], record { once = once_pairs [] tt; exact = λ k. ((λ c. absurd (sets.among_from [] k c)), (λ u. absurd (none u.tree u.derives))) })
  ]
