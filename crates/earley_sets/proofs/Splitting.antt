-- A set as its kernel, and a list of what begins at its place.
use Rattle.std.proofs.Common.{◌↔◌, ◌⊎◌, inl, inr, ℕ, List, Contains, sym, subst}
use Rattle.grammar_model.specs.declared.Edge.{Edge as HeldEdge}
use Rattle.grammar_model.specs.Derives.{Held}
use Rattle.recognizer_model.specs.declared.Item.{Item}
use Rattle.recognizer_model.specs.Flat.{FlatGrammar}
use Rattle.recognizer_model.specs.FlatForm.{FlatEdges}
use Rattle.recognizer_model.specs.Contexts.{IsTop}
use Rattle.recognizer_model.specs.Counts.{IsListOf}
use Rattle.recognizer_model.specs.Leo.{InReduced}
use Rattle.recognizer_model.specs.Links.{Link, Predicts, Skips, Scans, Completes, Leaps, IsLink}
use Rattle.recognizer_model.proofs.Leo.{origin_below, reduced_inside}
use Rattle.item_rows.specs.Rows.{IsBegunAt}
use Rattle.item_rows.specs.Kept.{IsAwaited, AreRows, IsRowOf}
use Rattle.begun_lists.specs.Begun.{AreBegun, IsBegun}
use Rattle.earley_sets.specs.Scanning.{GoForward, AreReduced, IsKernel}
use Rattle.begun_lists.specs.Tried.{RisesWithin, TriesList}
use Rattle.earley_sets.specs.Tried.{MakesKernel}
use Rattle.earley_sets.proofs.Parting.{splits, apart, begun_at_place}
use Rattle.earley_sets.proofs.ByRows.{goes_forward}
use Rattle.earley_sets.proofs.Making.{MakesBegun, list_tried}
use Rattle.begun_lists.proofs.Rising.{rises_on}
use Rattle.earley_sets.proofs.Scanning.{kernel_inside, reached_is_reduced, reduced_items}
use Rattle.earley_sets.proofs.Trying.{kernel_link}

module _ (g : FlatGrammar) (edges : List HeldEdge) (top : ℕ) (is_top : IsTop g top) (forward : GoForward edges) (rows : List (List Item)) (are_rows : AreRows g rows) (earleme : ℕ) (are : AreReduced g edges top rows earleme)
    (kernel : List Item) (is : IsKernel g rows top earleme edges kernel) (list : List Item) (begun : AreBegun g (IsAwaited g kernel) list) where
  pub kernel_apart : (item : Item) → Contains kernel item → ¬ IsBegunAt list earleme item
  kernel_apart item k = apart g rows are_rows top earleme is_top edges forward is.seeds kernel is.are is.exact list begun item k

  never_begun : (item : Item) → Contains kernel item → ¬ IsBegun g earleme kernel item
  never_begun item k (here, b) = kernel_apart item k (here, (begun (record item { origin = 0 })).1 b)

  in_kernel : (item : Item) → Contains kernel item → InReduced g (FlatEdges g (Held edges)) top earleme item
  in_kernel item k = kernel_inside g edges top is_top forward rows earleme are is.seeds is.are kernel is.exact item k

  in_begun : (item : Item) → IsBegun g earleme kernel item → InReduced g (FlatEdges g (Held edges)) top earleme item
  in_begun item b = (reached_is_reduced g edges top is_top forward rows earleme are is.seeds is.are item).0 (begun_at_place g rows earleme is.seeds kernel list is.exact begun item b)

  whole : (item : Item) → (Contains kernel item ⊎ IsBegunAt list earleme item) ↔ InReduced g (FlatEdges g (Held edges)) top earleme item
  whole item =
      let split = splits g rows earleme is.seeds kernel list is.exact begun item in
      let reduced = reached_is_reduced g edges top is_top forward rows earleme are is.seeds is.are item in
      ((λ h. reduced.0 (split.0 h)), (λ i. split.1 (reduced.1 i)))

  -- the row of the kernel and the list
  pub row_made : (row : List Item) → IsListOf (λ item. Contains kernel item ⊎ IsBegunAt list earleme item) row → IsRowOf g earleme row × IsListOf (InReduced g (FlatEdges g (Held edges)) top earleme) row
  row_made row lists = (
    record {
      items = λ item h. reduced_items g edges top is_top forward rows earleme are is.seeds is.are ((whole item).0 ((lists.exact item).0 h));
      begun = λ item h. origin_below g (FlatEdges g (Held edges)) top is_top (goes_forward g edges top is_top forward) (reduced_inside g (FlatEdges g (Held edges)) top is_top (goes_forward g edges top is_top forward) ((whole item).0 ((lists.exact item).0 h)));
    },
    record { once = lists.once; exact = λ item. ((λ h. (whole item).0 ((lists.exact item).0 h)), (λ i. (lists.exact item).1 ((whole item).1 i))) },
  )

  begun_link : (link : Link) → MakesBegun g earleme kernel link → IsLink g (FlatEdges g (Held edges)) top earleme link
  begun_link (Predicts before r) (from, (x, waits, rule, l)) = (x, elim from [ inl k ↦ in_kernel before k | inr b ↦ in_begun before b ], waits, rule, l)
  begun_link (Skips before) (b, (x, waits, n)) = (x, in_begun before b, waits, n)
  begun_link (Scans before from) m = absurd m
  begun_link (Completes done waiting) m = absurd m
  begun_link (Leaps done) m = absurd m

  links_apart : (link : Link) → MakesKernel g rows earleme edges kernel link → MakesBegun g earleme kernel link → ⊥
  links_apart (Predicts before r) (inl (edge, held, ends, (item, w, e))) m = absurd (cc)
  links_apart (Predicts before r) (inr (item, there, none)) m = absurd none
  links_apart (Skips before) (inl (edge, held, ends, (item, w, e))) m = absurd (cc)
  links_apart (Skips before) (inr (item, there, (e, more))) (b, waits) = never_begun before (subst (Contains kernel) (sym e) there) b
  links_apart (Scans before from) k m = absurd m
  links_apart (Completes done waiting) k m = absurd m
  links_apart (Leaps done) k m = absurd m

  -- the kernel's links, and then those of what begins
  pub set_links : (a b c : ℕ) → RisesWithin (MakesKernel g rows earleme edges kernel) a b → TriesList g kernel list b c → RisesWithin (IsLink g (FlatEdges g (Held edges)) top earleme) a c
  set_links a b c own tries =
      rises_on (IsLink g (FlatEdges g (Held edges)) top earleme) (kernel_link g edges top is_top forward rows earleme are kernel in_kernel) begun_link links_apart own (list_tried g earleme kernel list begun never_begun b c tries)
