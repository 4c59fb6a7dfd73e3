-- The laws at a reading with two derivations.
use Rattle.std.proofs.Common.{◌≡◌, ℕ, zero, suc, ◌<◌, [], ◌∷◌, length, refl, sym, ap, subst, arith, lit<}
use Rattle.std.specs.Prelude.{slice_get, Contains}
use Rattle.grammar_model.specs.declared.Edge.{Edge}
use Rattle.grammar_model.specs.Grammar.{slot_of}
use Rattle.grammar_model.specs.Trees.{Tree, Children, Leaf, Node, NoChild, Child}
use Rattle.grammar_model.specs.Derives.{Edges, Held}
use Rattle.grammar_model.specs.Derives
use Rattle.grammar_model.specs.declared.Ranking.TheVariants.{None as NoRanks}
use Rattle.recognizer_model.specs.Flat.{IsRule, lhs_of, rhs_of}
use Rattle.recognizer_model.specs.FlatForm.{FlatEdges, tree_of}
use Rattle.recognizer_model.specs.FlatDerives
use Rattle.recognizer_model.specs.FlatDerives.{Spans, Token, Rule, More}
use Rattle.recognizer_model.proofs.FlatFormLaw.{flat_form}
use Rattle.flat_model.specs.Lists.{lists, flat_lists}
use Rattle.flat_rules.proofs.ListsChecked.{lists_have_flat_grammar}
use Rattle.forest_model.specs.Forest.{IsDerived}
use Rattle.forest_laws.specs.Laws.{with_nodes}
use Rattle.forest_laws.specs.Applied.{tokens, reading, two_lists, one_list, ForestsApply}
use Rattle.forest_laws.proofs.Reading.{viewed}
use Rattle.forest_laws.proofs.Exact.{forests_have_lists}
use Rattle.forest_laws.proofs.Existing.{forests_exist}

abbrev E : Edges
E = FlatEdges flat_lists (Held tokens)

abbrev D : ℕ → ℕ → ℕ → Tree → Type 0
D = FlatDerives.Derives flat_lists E

forward : (e : Edge) → Contains tokens e → e.from < e.to
forward e (zero, lt, is) = subst (λ (t : Edge). t.from < t.to) is (lit< tt)
forward e (suc zero, lt, is) = subst (λ (t : Edge). t.from < t.to) is (lit< tt)
forward e (suc (suc zero), lt, is) = subst (λ (t : Edge). t.from < t.to) is (lit< tt)
forward e (suc (suc (suc k)), lt, is) = absurd (omega arith)

-- a node of a rule
by : (r x p q : ℕ) (cs : Children) → IsRule flat_lists r → lhs_of flat_lists r ≡ x → p < q → Spans flat_lists E r (length (rhs_of flat_lists r)) p q cs → D x p q (Node r cs p q)
by r x p q cs rule l lt s = Rule rule l lt s

first_number : D 0 0 1 (Leaf 0 0 1)
first_number = Token (3, refl, (0, lit< tt, refl))

a_comma : D 1 1 2 (Leaf 1 1 2)
a_comma = Token (4, refl, (1, lit< tt, refl))

last_number : D 0 2 3 (Leaf 0 2 3)
last_number = Token (3, refl, (2, lit< tt, refl))

one : (r x y p q : ℕ) (t : Tree) → IsRule flat_lists r → lhs_of flat_lists r ≡ x → p < q → rhs_of flat_lists r ≡ y ∷ [] → D y p q t → D x p q (Node r (Child NoChild t) p q)
one r x y p q t rule l lt e d =
    by r x p q (Child NoChild t) rule l lt (subst (λ n. Spans flat_lists E r n p q (Child NoChild t)) (sym (ap length e)) (More FlatDerives.Nothing (ap (λ l. slice_get l 0) e) d))

first : D 6 0 1 (Node 3 (Child NoChild (Leaf 0 0 1)) 0 1)
first = one 3 6 0 0 1 _ (lit< tt) refl (lit< tt) refl first_number

last : D 6 2 3 (Node 3 (Child NoChild (Leaf 0 2 3)) 2 3)
last = one 3 6 0 2 3 _ (lit< tt) refl (lit< tt) refl last_number

start_of : (t : Tree) → D 9 0 3 t → D 11 0 3 (Node 13 (Child NoChild (Node 0 (Child NoChild t) 0 3)) 0 3)
start_of t d = one 13 11 4 0 3 _ (lit< tt) refl (lit< tt) refl (one 0 4 9 0 3 t (lit< tt) refl (lit< tt) refl d)

begun : D 10 0 1 (Node 12 (Child NoChild (Node 3 (Child NoChild (Leaf 0 0 1)) 0 1)) 0 1)
begun = one 12 10 6 0 1 _ (lit< tt) refl (lit< tt) refl first

-- one list
abbrev flat_one : Tree
flat_one = Node 13 (Child NoChild (Node 0 (Child NoChild (Node 10 (Child NoChild (Node 1 (Child NoChild
    (Node 11 (Child (Child (Child NoChild (Node 12 (Child NoChild (Node 3 (Child NoChild (Leaf 0 0 1)) 0 1)) 0 1)) (Leaf 1 1 2)) (Node 3 (Child NoChild (Leaf 0 2 3)) 2 3)) 0 3)) 0 3)) 0 3)) 0 3)) 0 3

as_one : D 11 0 3 flat_one
as_one = start_of _ (one 10 9 5 0 3 _ (lit< tt) refl (lit< tt) refl (one 1 5 10 0 3 _ (lit< tt) refl (lit< tt) refl
    (by 11 10 0 3 _ (lit< tt) refl (lit< tt) (More (More (More FlatDerives.Nothing refl begun) refl a_comma) refl last))))

-- two lists
abbrev flat_two : Tree
flat_two = Node 13 (Child NoChild (Node 0 (Child NoChild (Node 9 (Child (Child NoChild
    (Node 10 (Child NoChild (Node 2 (Child (Child NoChild (Node 12 (Child NoChild (Node 3 (Child NoChild (Leaf 0 0 1)) 0 1)) 0 1)) (Leaf 1 1 2)) 0 2)) 0 2))
    (Node 1 (Child NoChild (Node 12 (Child NoChild (Node 3 (Child NoChild (Leaf 0 2 3)) 2 3)) 2 3)) 2 3)) 0 3)) 0 3)) 0 3

as_two : D 11 0 3 flat_two
as_two = start_of _ (by 9 9 0 3 _ (lit< tt) refl (lit< tt) (More (More FlatDerives.Nothing refl
    (one 10 9 5 0 2 _ (lit< tt) refl (lit< tt) refl (by 2 5 0 2 _ (lit< tt) refl (lit< tt) (More (More FlatDerives.Nothing refl begun) refl a_comma)))) refl
    (one 1 5 10 2 3 _ (lit< tt) refl (lit< tt) refl (one 12 10 6 2 3 _ (lit< tt) refl (lit< tt) refl last))))

is_derived : IsDerived reading
is_derived = record {
  checked = lists_have_flat_grammar.checked;
  flat = lists_have_flat_grammar.flat;
  flat_of = lists_have_flat_grammar.made;
  start = lit< tt;
  forward = forward;
  tree = flat_one;
  derives = as_one;
}

derived : (t : Tree) → D 11 0 3 t → Derives.Derives lists (Held tokens) (slot_of 0) 0 3 (tree_of lists flat_lists t)
derived t d =
    (flat_form flat_lists lists lists_have_flat_grammar.flat lists_have_flat_grammar.made lists_have_flat_grammar.checked (Held tokens) (λ s p q h. forward (record { symbol = s; from = p; to = q }) h) NoRanks).sound
    11 0 3 (slot_of 0) t (lit< tt) (0, refl, refl) (viewed reading is_derived d)

pub forests_apply : ForestsApply
forests_apply =
    let (nodes, root, forest) = forests_exist reading is_derived in
    let (found, all) = forests_have_lists (with_nodes reading nodes root) forest in
    record {
      derived = is_derived;
      nodes = nodes;
      root = root;
      forest = forest;
      lists = found;
      all = all;
      has_two = (all.listing.each two_lists).1 (derived flat_two as_two, tt);
      has_one = (all.listing.each one_list).1 (derived flat_one as_one, tt);
      before = refl;
    }
