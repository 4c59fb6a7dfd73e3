-- Nodes counted by the one right above them.
use Rattle.std.proofs.Common.{◌≡◌, ℕ, ◌<◌, ◌≤◌, List, length, get_or, take, zero-add, sym, ◌∙◌, subst, arith}
use Rattle.std.proofs.lemmas.List.{ext_get_or, take_all}
use Rattle.std.proofs.lemmas.List.FromFn.{length-map-range_with_len, get_or-map-range_with_len}
use Rattle.tree_text.specs.declared.nodes.Node.{Node}
use Rattle.tree_pictures.specs.Boxes.{count_below, counts_of}

-- at each place stands how many of some nodes are right below it
pub record AreCounted (nodes : List Node) (counts : List ℕ) (some : List Node) : Type 0 where
  pub each : length counts ≡ length nodes
  pub are : (k : ℕ) → k < length nodes → get_or counts k 0 ≡ count_below some k

counted_each : (nodes : List Node) (counts : List ℕ) → AreCounted nodes counts nodes → (k : ℕ) → k < length nodes →
    get_or counts k 0 ≡ get_or (counts_of nodes) k 0
counted_each nodes counts counted k within =
    counted.are k within ∙ sym (get_or-map-range_with_len (count_below nodes) 0 (length nodes) k k 0 within (zero-add k))

counted_whole : (nodes : List Node) (counts : List ℕ) → AreCounted nodes counts nodes → counts ≡ counts_of nodes
counted_whole nodes counts counted =
    ext_get_or 0 counts (counts_of nodes) (counted.each ∙ sym (length-map-range_with_len (count_below nodes) 0 (length nodes)))
    (λ k lt. let within : k < length nodes = omega (arith, counted.each) in counted_each nodes counts counted k within)

pub counted_all : (nodes : List Node) (counts : List ℕ) (i : ℕ) → length nodes ≤ i → AreCounted nodes counts (take i nodes) → counts ≡ counts_of nodes
counted_all nodes counts i all counted = counted_whole nodes counts (subst (λ some. AreCounted nodes counts some) (take_all i nodes all) counted)
