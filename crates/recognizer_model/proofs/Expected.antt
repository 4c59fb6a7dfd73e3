-- What is acceptable over a flat grammar is so over the written one.
use Rattle.std.proofs.Common.{◌≡◌, ℕ, zero, suc, ◌<◌, ◌≤◌, ◌+◌, true, false, cond, List, [], ◌∷◌, ◌++◌, map, length, ◌⊎◌, inl, inr, ⊎_elim, Some, None, refl, sym, ap, ◌∙◌, subst, arith}
use Rattle.std.specs.Prelude.{◌==◌, slice_get}
use Rattle.std.proofs.lemmas.Bool.{cases_Bool, eqb-true, eq-eqb, cases_lt}
use Rattle.std.proofs.lemmas.List.{map-append, length-map}
use Rattle.std.proofs.lemmas.Option.{slice_get_within}
use Rattle.finite_sets.proofs.Lists.{get_map, get_left, get_index}
use Rattle.grammar_model.specs.Grammar.{WrittenRule, Grammar, Slot, slot_of, rule_at, child_slot}
use Rattle.grammar_model.specs.Grammar
use Rattle.grammar_model.specs.Trees.{Tree, Children, Leaf, Nulled, Node, NoChild, Child, child_count}
use Rattle.grammar_model.specs.Derives.{Edges, Line, Derives, DerivesPrefix}
use Rattle.grammar_model.specs.Acceptable.{Spells, IsAcceptable}
use Rattle.grammar_model.proofs.Compose.{GoForward}
use Rattle.recognizer_model.specs.Flat.{FlatGrammar, lhs_of}
use Rattle.recognizer_model.specs.declared.flat.FlatSymbol.{FlatSymbol}
use Rattle.recognizer_model.specs.declared.flat.FlatSymbol.TheVariants.{Terminal, Slot as AtLevel, Sequence, Top}
use Rattle.recognizer_model.specs.View.{grammar_view}
use Rattle.recognizer_model.specs.Invariant.{IsFlat}
use Rattle.recognizer_model.specs.Acceptable
use Rattle.recognizer_model.specs.FlatForm.{IsFlatForm, StandsFor, symbol_at, FlatEdges, tree_of}
use Rattle.recognizer_model.proofs.Moved.{moved, tree_moved}
use Rattle.recognizer_model.proofs.Words.{line_forward}
use Rattle.recognizer_model.proofs.Paths.{tree_covers}
use Rattle.recognizer_model.proofs.Views.{in_view, rule_viewed}

-- ---- the flat symbol of a terminal, by the first place where it stands

abbrev number_from : FlatSymbol → ℕ → ℕ → ℕ
number_from (Terminal t) s rest = cond (t == s) 0 (suc rest)
number_from (AtLevel x k) s rest = suc rest
number_from (Sequence i) s rest = suc rest
number_from (Top k) s rest = suc rest

abbrev number_in : List FlatSymbol → ℕ → ℕ
number_in [] s = 0
number_in (x ∷ xs) s = number_from x s (number_in xs s)

number_there : (xs : List FlatSymbol) (s y : ℕ) → slice_get xs y ≡ Some (Terminal s) → slice_get xs (number_in xs s) ≡ Some (Terminal s)
number_there [] s y e = cc
number_there (Terminal t ∷ xs) s zero e =
    let same : Some (Terminal t) ≡ Some (Terminal s) = e in
    let ts : t ≡ s = cc in
    ap (λ b. slice_get (Terminal t ∷ xs) (cond b 0 (suc (number_in xs s)))) (eq-eqb t s ts) ∙ e
number_there (Terminal t ∷ xs) s (suc y) e = go (number_there xs s y e) (cases_Bool (t == s))
  where
    go : slice_get xs (number_in xs s) ≡ Some (Terminal s) → ((t == s) ≡ true) ⊎ ((t == s) ≡ false) → slice_get (Terminal t ∷ xs) (cond (t == s) 0 (suc (number_in xs s))) ≡ Some (Terminal s)
    go later (inl b) = ap (λ b. slice_get (Terminal t ∷ xs) (cond b 0 (suc (number_in xs s)))) b ∙ ap (λ z. Some (Terminal z)) (eqb-true t s b)
    go later (inr b) = ap (λ b. slice_get (Terminal t ∷ xs) (cond b 0 (suc (number_in xs s)))) b ∙ later
number_there (AtLevel x k ∷ xs) s zero e = cc
number_there (AtLevel x k ∷ xs) s (suc y) e = number_there xs s y e
number_there (Sequence i ∷ xs) s zero e = cc
number_there (Sequence i ∷ xs) s (suc y) e = number_there xs s y e
number_there (Top k ∷ xs) s zero e = cc
number_there (Top k ∷ xs) s (suc y) e = number_there xs s y e

-- ---- lists

map_get : (g : ℕ → ℕ) (xs : List ℕ) (k y : ℕ) → slice_get (map g xs) k ≡ Some y → (x : ℕ) × (slice_get xs k ≡ Some x) × (g x ≡ y)
map_get g [] k y e = cc
map_get g (x ∷ xs) zero y e = let same : g x ≡ y = cc in (x, refl, same)
map_get g (x ∷ xs) (suc k) y e = map_get g xs k y e

some_at : (xs : List ℕ) (k : ℕ) → k < length xs → (x : ℕ) × (slice_get xs k ≡ Some x)
some_at [] k lt = absurd (omega arith)
some_at (x ∷ xs) zero lt = (x, refl)
some_at (x ∷ xs) (suc k) lt = some_at xs k (omega arith)

at_seam : (xs : List ℕ) (t : ℕ) (ys : List ℕ) → slice_get (xs ++ t ∷ ys) (length xs) ≡ Some t
at_seam [] t ys = refl
at_seam (x ∷ xs) t ys = at_seam xs t ys

-- a path whose symbols all have their like over other edges
path_mapped : (edge other : Edges) (g : ℕ → ℕ) (w : List ℕ) (p q : ℕ) → ((k s a b : ℕ) → slice_get w k ≡ Some s → edge s a b → other (g s) a b) → Spells edge p q w → Spells other p q (map g w)
path_mapped edge other g [] p q h s = s
path_mapped edge other g (x ∷ w) p q h (r, e, s) = (r, h 0 x p r refl e, path_mapped edge other g w r q (λ k s a b at. h (suc k) s a b at) s)

-- ---- each place of a derivation has an edge

module _ (g : Grammar) (edge : Edges) where
  mutual
    tree_edges : (t : Tree) (slot : Slot) (a b : ℕ) → Derives g edge slot a b t → (k : ℕ) → a ≤ k → k < b → (s : ℕ) × (c : ℕ) × (d : ℕ) × edge s c d × (c ≤ k) × (k < d)
    tree_edges (Leaf s c d) slot a b der k lo hi = let f = der.from_is in let f' = der.to_is in (s, c, d, der.held, omega arith, omega arith)
    tree_edges (Nulled s c) slot a b der k lo hi = let f = der.from_is in let f' = der.to_is in absurd (omega arith)
    tree_edges (Node i cs c d) slot a b der k lo hi = prefix_edges cs (rule_at g i) a b der.prefix k lo hi

    prefix_edges : (cs : Children) (rule : WrittenRule) (a b : ℕ) → DerivesPrefix g edge rule a b cs → (k : ℕ) → a ≤ k → k < b → (s : ℕ) × (c : ℕ) × (d : ℕ) × edge s c d × (c ≤ k) × (k < d)
    prefix_edges NoChild rule a b e k lo hi = absurd (omega arith)
    prefix_edges (Child prefix last) rule a b (m, f, d) k lo hi =
        ⊎_elim (λ before. prefix_edges prefix rule a m f k lo before) (λ after. tree_edges last (child_slot rule (child_count prefix)) m b d k after hi) (cases_lt k m)

-- ---- the law

module _ (f : FlatGrammar) (w : Grammar) (flat : IsFlat f) (edge : Edges) (forward : GoForward edge) (form_of : (words : List ℕ) → ((ranking : Rattle.grammar_model.specs.declared.Ranking.Ranking) → IsFlatForm f w (Line words) ranking)) where
  abbrev number : ℕ → ℕ
  number s = number_in f.symbols s

  module _ (k start r : ℕ) (at : slice_get w.starts k ≡ Some start) (top : slice_get f.tops k ≡ Some r) where
    top_symbol : symbol_at f (lhs_of f r) ≡ Top k
    top_symbol = (get_index f.symbols (lhs_of f r) (Top 0) (Top k) (flat.tops k r top).symbol).1

    left_in : lhs_of f r < length f.symbols
    left_in = (get_index f.symbols (lhs_of f r) (Top 0) (Top k) (flat.tops k r top).symbol).0

    stands : StandsFor w (symbol_at f (lhs_of f r)) (slot_of start)
    stands = subst (λ z. StandsFor w z (slot_of start)) (sym top_symbol) (start, at, refl)

    pub to_flat : (t place : ℕ) → IsAcceptable w edge start t place → (x : ℕ) × (slice_get f.symbols x ≡ Some (Terminal t)) × IsAcceptable (grammar_view f) (FlatEdges f edge) (lhs_of f r) x place
    to_flat t place a =
        let words = a.before ++ t ∷ a.after in
        let (u, d, e) = (form_of words Rattle.grammar_model.specs.declared.Ranking.TheVariants.None).whole (lhs_of f r) 0 (length words) (slot_of start) a.tree left_in stands a.derived in
        let there = numbered words u d in
        let mapped : map number words ≡ map number a.before ++ number t ∷ map number a.after = map-append number a.before (t ∷ a.after) in
        let len : length (map number words) ≡ length words = length-map words number in
        let over = tree_moved (grammar_view f) (FlatEdges f (Line words)) (Line (map number words)) (λ z. z) (length words) (flat_line words) (λ x y lt le. lt) (lines words there) u (slot_of (lhs_of f r)) 0 (length words) (omega arith) d in
        let over' = subst (λ z. Derives (grammar_view f) (Line (map number words)) (slot_of (lhs_of f r)) 0 z (moved (λ z. z) u)) (sym len) over in (
          number t,
          there (length a.before) t (at_seam a.before t a.after),
          record {
            before = map number a.before;
            after = map number a.after;
            tree = moved (λ z. z) u;
            spelled = path_mapped edge (FlatEdges f edge) number a.before 0 place (λ j s x y at' h. (s, there j s (get_left a.before (t ∷ a.after) j s at'), h)) a.spelled;
            derived = subst (λ z. Derives (grammar_view f) (Line z) (slot_of (lhs_of f r)) 0 (length z) (moved (λ z. z) u)) mapped over';
          },
        )
      where
        flat_line : (words : List ℕ) → GoForward (FlatEdges f (Line words))
        flat_line words s a b (t', is, l) = let z = l.1 in omega arith

        -- each of the words has its flat symbol
        numbered : (words : List ℕ) (u : Tree) → Derives (grammar_view f) (FlatEdges f (Line words)) (slot_of (lhs_of f r)) 0 (length words) u → (j s : ℕ) → slice_get words j ≡ Some s → slice_get f.symbols (number s) ≡ Some (Terminal s)
        numbered words u d j s at' =
            let (x, c, e, (s', is, l), lo, hi) = tree_edges (grammar_view f) (FlatEdges f (Line words)) u (slot_of (lhs_of f r)) 0 (length words) d j (omega arith) (slice_get_within words j s at') in
            let z = l.1 in
            let here : c ≡ j = omega arith in
            let both : Some s' ≡ Some s = sym l.0 ∙ ap (slice_get words) here ∙ at' in
            let same : s' ≡ s = cc in
            number_there f.symbols s x (is ∙ ap (λ z. Some (Terminal z)) same)

        lines : (words : List ℕ) → ((j s : ℕ) → slice_get words j ≡ Some s → slice_get f.symbols (number s) ≡ Some (Terminal s)) → (x a b : ℕ) → FlatEdges f (Line words) x a b → b ≤ length words → Line (map number words) x a b
        lines words there x a b (s, is, l) le =
            let same : number s ≡ x = flat.differ (number s) x (Terminal s) (there a s l.0) is in
            (get_map number words a s l.0 ∙ ap Some same, l.1)

    productive : Acceptable.PartsAreProductive f
    productive r position x rule e = flat.productive x (flat.in_range.parts r position x rule e)

    -- the terminal that a flat symbol stands for
    abbrev terminal_by : FlatSymbol → ℕ
    terminal_by (Terminal s) = s
    terminal_by (AtLevel s k) = 0
    terminal_by (Sequence i) = 0
    terminal_by (Top k) = 0

    abbrev terminal_at : ℕ → ℕ
    terminal_at x = terminal_by (symbol_at f x)

    terminal_is : (x s : ℕ) → slice_get f.symbols x ≡ Some (Terminal s) → terminal_at x ≡ s
    terminal_is x s e = ap terminal_by (get_index f.symbols x (Top 0) (Terminal s) e).1

    pub from_flat : (t place x : ℕ) → slice_get f.symbols x ≡ Some (Terminal t) → IsAcceptable (grammar_view f) (FlatEdges f edge) (lhs_of f r) x place → IsAcceptable w edge start t place
    from_flat t place x is a =
        let words = a.before ++ x ∷ a.after in
        let covers = tree_covers f flat.marks productive words a.tree (slot_of (lhs_of f r)) 0 (length words)
        (λ h. absurd (h r (in_view f r (flat.tops k r top).is_top.is_rule) (ap Grammar.lhs_of (rule_viewed f r (flat.tops k r top).is_top.is_rule)))) a.derived in
        let mapped : map terminal_at words ≡ map terminal_at a.before ++ t ∷ map terminal_at a.after = map-append terminal_at a.before (x ∷ a.after) ∙ ap (λ z. map terminal_at a.before ++ z ∷ map terminal_at a.after) (terminal_is x t is) in
        let len : length (map terminal_at words) ≡ length words = length-map words terminal_at in
        let over = tree_moved (grammar_view f) (Line words) (FlatEdges f (Line (map terminal_at words))) (λ z. z) (length words) (line_forward words) (λ x y lt le. lt)
        (λ s c d l le. (let (s', e) = covers c s (omega arith) (slice_get_within words c s l.0) l.0 in (s', e, (get_map terminal_at words c s l.0 ∙ ap Some (terminal_is s s' e), l.1))))
        a.tree (slot_of (lhs_of f r)) 0 (length words) (omega arith) a.derived in
        let sound = (form_of (map terminal_at words) Rattle.grammar_model.specs.declared.Ranking.TheVariants.None).sound (lhs_of f r) 0 (length words) (slot_of start) (moved (λ z. z) a.tree) left_in stands over in
        let sound' = subst (λ z. Derives w (Line (map terminal_at words)) (slot_of start) 0 z (tree_of w f (moved (λ z. z) a.tree))) (sym len) sound in
        record {
          before = map terminal_at a.before;
          after = map terminal_at a.after;
          tree = tree_of w f (moved (λ z. z) a.tree);
          spelled = path_mapped (FlatEdges f edge) edge terminal_at a.before 0 place (λ j s c d at' h. subst (λ z. edge z c d) (sym (terminal_is s h.0 h.1)) h.2) a.spelled;
          derived = subst (λ z. Derives w (Line z) (slot_of start) 0 (length z) (tree_of w f (moved (λ z. z) a.tree))) mapped sound';
        }
