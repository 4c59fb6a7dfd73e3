-- Matches of the flat form are those of the grammar: each derivation uses finitely many edges.
use Rattle.std.proofs.Common.{◌≡◌, inl, inr, ℕ, ◌<◌, ◌++◌, List, [], ◌∷◌, length, Some, Contains, slice_get, subst, arith}
use Rattle.std.specs.Prelude.{slice_index}
use Rattle.std.proofs.lemmas.List.Elements.{Contains-append_left, Contains-append_right, Contains-append_cases, Contains-push, Contains-push_cases}
use Rattle.std.proofs.lemmas.Option.{slice_get-get_or}
use Rattle.finite_sets.proofs.Lists.{Contains-none}
use Rattle.grammar_model.specs.declared.Edge.{Edge as HeldEdge}
use Rattle.grammar_model.specs.declared.Ranking.TheVariants.{None}
use Rattle.grammar_model.specs.Grammar.{Grammar, Slot, WrittenRule, slot_of, rule_at, child_slot}
use Rattle.grammar_model.specs.Trees.{Tree, Children, Leaf, Nulled, Node, NoChild, Child, child_count}
use Rattle.grammar_model.specs.Checked.{IsChecked}
use Rattle.grammar_model.specs.Derives.{Edges, Held, Derives, DerivesPrefix}
use Rattle.recognizer_model.specs.Flat.{FlatGrammar, rhs_of}
use Rattle.recognizer_model.specs.Invariant.{IsFlat}
use Rattle.recognizer_model.specs.FlatForm.{FlatEdges, IsFlatOf, IsFlatForm, FlatGrammarsAreFlatForms, tree_of}
use Rattle.recognizer_model.specs.View.{grammar_view}
use Rattle.language_model.specs.Building.{Built}
use Rattle.reading_model.specs.Matches.{CharacterEdges, Matches}
use Rattle.lexer.specs.Lexical.{SetEdges, HasMatch}
use Rattle.lexer.specs.Laws.{MatchesAreTheGrammars}
use Rattle.recognizer_model.proofs.Starts.{part_in_range, part_stands}

-- ---- the edges of a tree

mutual
  edges_of : Tree → List HeldEdge
  edges_of (Leaf s a b) = record { symbol = s; from = a; to = b } ∷ []
  edges_of (Nulled s a) = []
  edges_of (Node i cs a b) = edges_of_all cs

  edges_of_all : Children → List HeldEdge
  edges_of_all NoChild = []
  edges_of_all (Child prefix last) = edges_of_all prefix ++ edges_of last

abbrev AreAll : Edges → List HeldEdge → Type 0
AreAll E edges = (e : HeldEdge) → Contains edges e → E e.symbol e.from e.to

module _ (g : Grammar) (E : Edges) where
  mutual
    unfolding edges_of edges_of_all

    tree_edges : (t : Tree) (slot : Slot) (p q : ℕ) → Derives g E slot p q t → AreAll E (edges_of t)
    tree_edges (Leaf s a b) slot p q d e h = elim (Contains-push_cases [] (record { symbol = s; from = a; to = b }) e h) [
      | inl n ↦ absurd (Contains-none e n)
      | inr same ↦ subst (λ (z : HeldEdge). E z.symbol z.from z.to) same d.held
    ]
    tree_edges (Nulled s a) slot p q d e h = absurd (Contains-none e h)
    tree_edges (Node i cs a b) slot p q d e h = prefix_edges cs (rule_at g i) p q d.prefix e h

    prefix_edges : (cs : Children) (rule : WrittenRule) (p q : ℕ) → DerivesPrefix g E rule p q cs → AreAll E (edges_of_all cs)
    prefix_edges NoChild rule p q d e h = absurd (Contains-none e h)
    prefix_edges (Child prefix last) rule p q (r, f, d) e h = elim (Contains-append_cases (edges_of_all prefix) (edges_of last) e h) [
      | inl a ↦ prefix_edges prefix rule p r f e a
      | inr b ↦ tree_edges last (child_slot rule (child_count prefix)) r q d e b
    ]

-- a derivation holds over other edges that have those of its tree
module _ (g : Grammar) (E F : Edges) where
  mutual
    unfolding edges_of edges_of_all

    tree_over : (t : Tree) (slot : Slot) (p q : ℕ) → AreAll F (edges_of t) → Derives g E slot p q t → Derives g F slot p q t
    tree_over (Leaf s a b) slot p q has d = record {
      symbol_is = d.symbol_is;
      from_is = d.from_is;
      to_is = d.to_is;
      terminal = d.terminal;
      held = has (record { symbol = s; from = a; to = b }) (Contains-push [] (record { symbol = s; from = a; to = b }));
    }
    tree_over (Nulled s a) slot p q has d = record { symbol_is = d.symbol_is; from_is = d.from_is; to_is = d.to_is; nullable = d.nullable }
    tree_over (Node i cs a b) slot p q has d = record {
      from_is = d.from_is;
      to_is = d.to_is;
      spans = d.spans;
      in_range = d.in_range;
      fits = d.fits;
      complete = d.complete;
      prefix = prefix_over cs (rule_at g i) p q has d.prefix;
    }

    prefix_over : (cs : Children) (rule : WrittenRule) (p q : ℕ) → AreAll F (edges_of_all cs) → DerivesPrefix g E rule p q cs → DerivesPrefix g F rule p q cs
    prefix_over NoChild rule p q has d = d
    prefix_over (Child prefix last) rule p q has (r, f, d) = (
      r,
      prefix_over prefix rule p r (λ e h. has e (Contains-append_left (edges_of_all prefix) (edges_of last) e h)) f,
      tree_over last (child_slot rule (child_count prefix)) r q (λ e h. has e (Contains-append_right (edges_of_all prefix) (edges_of last) e h)) d,
    )

-- ---- edges of flat symbols are those of a list of terminals

module _ (f : FlatGrammar) (E : Edges) where
  record Terminals (edges : List HeldEdge) : Type 0 where
    held : List HeldEdge
    sound : AreAll E held
    whole : AreAll (FlatEdges f (Held held)) edges

  terminals_of : (edges : List HeldEdge) → AreAll (FlatEdges f E) edges → Terminals edges
  terminals_of [] all = record { held = []; sound = λ e h. absurd (Contains-none e h); whole = λ e h. absurd (Contains-none e h) }
  terminals_of (e ∷ edges) all =
      let (t, is, h) = all e (Contains-append_left (e ∷ []) edges e (Contains-push [] e)) in
      let rest = terminals_of edges (λ d i. all d (Contains-append_right (e ∷ []) edges d i)) in
      let here : HeldEdge = record { symbol = t; from = e.from; to = e.to } in
      record {
        held = rest.held ++ record { symbol = t; from = e.from; to = e.to } ∷ [];
        sound = λ d i. elim (Contains-push_cases rest.held (record { symbol = t; from = e.from; to = e.to }) d i) [
          | inl o ↦ rest.sound d o
          | inr same ↦ subst (λ (z : HeldEdge). E z.symbol z.from z.to) same h
        ];
        whole = λ d i. elim (Contains-append_cases (e ∷ []) edges d i) [
          | inl one ↦ elim (Contains-push_cases [] e d one) [
            | inl n ↦ absurd (Contains-none d n)
            | inr same ↦
                subst (λ (z : HeldEdge). FlatEdges f (Held (rest.held ++ record { symbol = t; from = e.from; to = e.to } ∷ [])) z.symbol z.from z.to) same
                (t, is, Contains-push rest.held (record { symbol = t; from = e.from; to = e.to }))
          ]
          | inr o ↦ let (s, k, m) = rest.whole d o in (s, k, Contains-append_left rest.held (record { symbol = t; from = e.from; to = e.to } ∷ []) (record { symbol = s; from = d.from; to = d.to }) m)
        ];
      }

-- ---- matches

module _ (forms : FlatGrammarsAreFlatForms) (b : Built) (f : FlatGrammar) (text : List ℕ) (checked : IsChecked b.l0) (flat : IsFlat f) (made : IsFlatOf f b.l0) (k from to : ℕ) (inside : k < length b.l0.starts) where
  -- the sets are those of the built grammar
  to_set : (s p q : ℕ) → CharacterEdges b text s p q → SetEdges b.sets text s p q
  to_set s p q (e, (c, get, i)) = (e, (c, get, (i.set, i.is_set, i.member)))

  from_set : (s p q : ℕ) → SetEdges b.sets text s p q → CharacterEdges b text s p q
  from_set s p q (e, (c, get, (set, i, m))) = (e, (c, get, record { set = set; is_set = i; member = m }))

  at : slice_get b.l0.starts k ≡ Some (slice_index b.l0.starts k)
  at = slice_get-get_or b.l0.starts k 0 inside

  -- the start has a top
  top : slice_get f.tops k ≡ Some (slice_index f.tops k)
  top = slice_get-get_or f.tops k 0 (let c = made.tops_all in omega arith)

  module _ (edges : List HeldEdge) (forward : (e : HeldEdge) → Contains edges e → e.from < e.to) where
    form : IsFlatForm f b.l0 (Held edges) None
    form = forms f b.l0 edges None flat made checked (λ s p q h. forward (record { symbol = s; from = p; to = q }) h)

    to_written : (t : Tree) → Derives (grammar_view f) (FlatEdges f (Held edges)) (slot_of (slice_index (rhs_of f (slice_index f.tops k)) 0)) from to t →
        Derives b.l0 (Held edges) (slot_of (slice_index b.l0.starts k)) from to (tree_of b.l0 f t)
    to_written t d =
        form.sound (slice_index (rhs_of f (slice_index f.tops k)) 0) from to (slot_of (slice_index b.l0.starts k)) t
        (part_in_range f b.l0 flat made k (slice_index b.l0.starts k) (slice_index f.tops k) at top) (part_stands f b.l0 flat made k (slice_index b.l0.starts k) (slice_index f.tops k) at top) d

    to_flat : (t : Tree) → Derives b.l0 (Held edges) (slot_of (slice_index b.l0.starts k)) from to t →
        (u : Tree) × Derives (grammar_view f) (FlatEdges f (Held edges)) (slot_of (slice_index (rhs_of f (slice_index f.tops k)) 0)) from to u
    to_flat t d =
        let (u, h, e) = form.whole (slice_index (rhs_of f (slice_index f.tops k)) 0) from to (slot_of (slice_index b.l0.starts k)) t
        (part_in_range f b.l0 flat made k (slice_index b.l0.starts k) (slice_index f.tops k) at top) (part_stands f b.l0 flat made k (slice_index b.l0.starts k) (slice_index f.tops k) at top) d in
        (u, h)

  pub match_of_flat : HasMatch (record { flat = f; sets = b.sets }) text k from to → Matches b text k from to
  match_of_flat (t, d) =
      let slot = slot_of (slice_index (rhs_of f (slice_index f.tops k)) 0) in
      let ts = terminals_of f (SetEdges b.sets text) (edges_of t) (tree_edges (grammar_view f) (FlatEdges f (SetEdges b.sets text)) t slot from to d) in
      let forward = λ (e : HeldEdge) (h : Contains ts.held e). (let s = (ts.sound e h).0 in let lt : e.from < e.to = omega arith in lt) in
      let d' = tree_over (grammar_view f) (FlatEdges f (SetEdges b.sets text)) (FlatEdges f (Held ts.held)) t slot from to ts.whole d in
      let u = to_written ts.held forward t d' in (
        tree_of b.l0 f t,
        tree_over b.l0 (Held ts.held) (CharacterEdges b text) (tree_of b.l0 f t) (slot_of (slice_index b.l0.starts k)) from to
            (λ e h. from_set e.symbol e.from e.to (ts.sound e (tree_edges b.l0 (Held ts.held) (tree_of b.l0 f t) (slot_of (slice_index b.l0.starts k)) from to u e h))) u,
      )

  pub flat_of_match : Matches b text k from to → HasMatch (record { flat = f; sets = b.sets }) text k from to
  flat_of_match (t, d) =
      let slot = slot_of (slice_index (rhs_of f (slice_index f.tops k)) 0) in
      let all = tree_edges b.l0 (CharacterEdges b text) t (slot_of (slice_index b.l0.starts k)) from to d in
      let forward = λ (e : HeldEdge) (h : Contains (edges_of t) e). (let s = (all e h).0 in let lt : e.from < e.to = omega arith in lt) in
      let d' = tree_over b.l0 (CharacterEdges b text) (Held (edges_of t)) t (slot_of (slice_index b.l0.starts k)) from to (λ e h. h) d in
      let (u, h) = to_flat (edges_of t) forward t d' in (
        u,
        tree_over (grammar_view f) (FlatEdges f (Held (edges_of t))) (FlatEdges f (SetEdges b.sets text)) u slot from to
            (λ e i. (let (s, is, c) = tree_edges (grammar_view f) (FlatEdges f (Held (edges_of t))) u slot from to h e i in
            (s, is, to_set s e.from e.to (all (record { symbol = s; from = e.from; to = e.to }) c)))) h,
      )

pub matches_are_the_grammars : FlatGrammarsAreFlatForms → MatchesAreTheGrammars
matches_are_the_grammars forms b f text k from to checked flat made inside =
    (match_of_flat forms b f text checked flat made k from to inside, flat_of_match forms b f text checked flat made k from to inside)
