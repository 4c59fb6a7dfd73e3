-- The numbers of a reading are one: each flat form of a grammar has the same, and there is one number of values with a property.
use Rattle.std.proofs.Common.{◌≡◌, ℕ, ◌≤◌, sym, ◌∙◌}
use Rattle.grammar_model.specs.Derives.{Edges, Held}
use Rattle.recognizer_model.specs.Flat.{FlatGrammar}
use Rattle.recognizer_model.specs.FlatForm.{FlatEdges}
use Rattle.recognizer_model.specs.Leo.{InReduced}
use Rattle.recognizer_model.specs.Chosen.{Allowed, allowed_by}
use Rattle.recognizer_model.specs.Nodes.{IsUsed, Placed, IsExpanded, IsStats}
use Rattle.reading_model.specs.Reading.{edges_of, earleme_after}
use Rattle.run_model.specs.Numbers.{Numbers}
use Rattle.number_laws.specs.Laws.{NumbersAreOne}
use Rattle.recognizer_model.proofs.Counting.{one_count}
use Rattle.renaming_laws.proofs.Alike.{numbers_of_any_form}

abbrev Tells : (g : FlatGrammar) (E : Edges) (allowed : Allowed) (top place : ℕ) → Numbers → Type 0
Tells g E allowed top place n = IsStats g E allowed top place n.tokens n.kept n.nodes n.expanded

one_told : (g : FlatGrammar) (E : Edges) (allowed : Allowed) (top place : ℕ) (m n : Numbers) → Tells g E allowed top place m → Tells g E allowed top place n → m ≡ n
one_told g E allowed top place m n x y =
    let tokens : m.tokens ≡ n.tokens = x.places ∙ sym y.places in
    let kept : m.kept ≡ n.kept = one_count (λ (p : Placed). (p.place ≤ place) × InReduced g E top p.place p.item) m.kept n.kept x.kept_items y.kept_items in
    let nodes : m.nodes ≡ n.nodes = one_count (IsUsed g E allowed top place) m.nodes n.nodes x.used_nodes y.used_nodes in
    let expanded : m.expanded ≡ n.expanded = one_count (IsExpanded g E allowed top place) m.expanded n.expanded x.hidden_items y.hidden_items in
    λ i. record { tokens = tokens i; kept = kept i; nodes = nodes i; expanded = expanded i }

pub numbers_are_one : NumbersAreOne
numbers_are_one b ranking pieces m n x y =
    let here = numbers_of_any_form b.g1 (edges_of pieces) ranking 0 (earleme_after pieces) m.tokens m.kept m.nodes m.expanded x.flat y.flat x.top y.top
    (record { flat = x.is; of = x.of; top_is = x.top_is; other_flat = y.is; other_of = y.of; other_is = y.top_is }) x.numbers in
    one_told y.flat (FlatEdges y.flat (Held (edges_of pieces))) (allowed_by b.g1 ranking y.flat (FlatEdges y.flat (Held (edges_of pieces)))) y.top (earleme_after pieces) m n here y.numbers
