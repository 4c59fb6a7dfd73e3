-- Acceptable, by a path of edges and a word, is the same as by terminals laid after the place.
use Rattle.std.proofs.Common.{◌≡◌, ℕ, zero, suc, ◌<◌, ◌≤◌, ◌+◌, List, [], ◌∷◌, ◌++◌, length, Some, ◌⊎◌, inl, inr, refl, sym, ap, ◌∙◌, subst, ⊎_elim, arith, length-append}
use Rattle.std.specs.Prelude.{slice_get, slice_index}
use Rattle.std.specs.List.{AllByRecursion}
use Rattle.std.proofs.lemmas.Bool.{cases_lt}
use Rattle.grammar_model.specs.Grammar.{Grammar, WrittenRule, Slot, slot_of, rule_at, child_slot}
use Rattle.grammar_model.specs.Grammar
use Rattle.grammar_model.specs.Trees.{Tree, Leaf, Nulled, Node, Children, NoChild, Child, child_count}
use Rattle.grammar_model.specs.Derives.{Edges, Line, DerivesPrefix}
use Rattle.grammar_model.specs.Derives
use Rattle.grammar_model.specs.Acceptable.{Spells, IsAcceptable}
use Rattle.grammar_model.proofs.Compose.{GoForward}
use Rattle.grammar_model.proofs.Total.{nullable_not_terminal}
use Rattle.recognizer_model.specs.Flat.{FlatGrammar, IsRule, lhs_of, rhs_of, part_of}
use Rattle.recognizer_model.specs.Leo.{GoesForward}
use Rattle.recognizer_model.specs.Contexts.{IsTop}
use Rattle.recognizer_model.specs.View.{plain_rule, grammar_view}
use Rattle.recognizer_model.specs.Acceptable.{IsTerminal, Laid, Continued, IsContinued, IsProductive, Itself, Marked, ByRule, MarksAreClosed, PartsAreProductive, OnlyTerminals, NoTerminalHasRules, TerminalsSpan, AcceptableAreAwaited}
use Rattle.recognizer_model.proofs.Moved.{moved, tree_moved, nodes, nodes-first, nodes-last, nodes-edge, get_some}
use Rattle.recognizer_model.proofs.Words.{spells-append, tree_word, line_forward}
use Rattle.recognizer_model.proofs.Views.{IsKindOf, kind_of, rule_viewed, in_view, nullable_viewed, index_get, symbol_viewed, symbol_back}
use Rattle.recognizer_model.proofs.Acceptable.{continued_are_awaited}

laid_from : (p : ℕ) (ts : List ℕ) (s a b : ℕ) → Laid p ts s a b → p ≤ a
laid_from p [] s a b l = absurd l
laid_from p (t ∷ ts) s a b (inl l) = let e = l.1 in omega arith
laid_from p (t ∷ ts) s a b (inr l) = let h = laid_from (suc p) ts s a b l in omega arith

laid_one : (p : ℕ) (ts : List ℕ) (s a b : ℕ) → Laid p ts s a b → b ≡ suc a
laid_one p [] s a b l = absurd l
laid_one p (t ∷ ts) s a b (inl l) = let e = l.1 in let e' = l.2 in omega arith
laid_one p (t ∷ ts) s a b (inr l) = laid_one (suc p) ts s a b l

-- a path over what is laid, from a place on
laid_path : (edge : Edges) (p : ℕ) (ts : List ℕ) → ((s a b : ℕ) → Laid p ts s a b → edge s a b) → Spells edge p (p + length ts) ts
laid_path edge p [] h = omega arith
laid_path edge p (t ∷ ts) h =
    let e : suc p + length ts ≡ p + suc (length ts) = omega arith in
    (suc p, h t p (suc p) (inl (refl, refl, refl)), subst (λ z. Spells edge (suc p) z ts) e (laid_path edge (suc p) ts (λ s a b l. h s a b (inr l))))

spells_ahead : (edge : Edges) → GoForward edge → (w : List ℕ) (a b : ℕ) → Spells edge a b w → a ≤ b
spells_ahead edge forward [] a b s = omega arith
spells_ahead edge forward (x ∷ w) a b (r, e, s) = let h = forward x a r e in let k = spells_ahead edge forward w r b s in omega arith

-- a path is one over other edges, if these have its edges
spells_over : (edge other : Edges) → GoForward edge → (w : List ℕ) (a b : ℕ) → ((s c d : ℕ) → a ≤ c → d ≤ b → edge s c d → other s c d) → Spells edge a b w → Spells other a b w
spells_over edge other forward [] a b h s = s
spells_over edge other forward (x ∷ w) a b h (r, e, s) =
    let later = spells_ahead edge forward w r b s in
    let first = forward x a r e in
    (r, h x a r (omega arith) (omega arith) e, spells_over edge other forward w r b (λ s c d lo hi. h s c d (omega arith) hi) s)

-- a path over what is laid spells just that
laid_spelled : (p : ℕ) (ts w : List ℕ) → Spells (Laid p ts) p (p + length ts) w → w ≡ ts
laid_spelled p [] [] s = refl
laid_spelled p [] (x ∷ w) (r, e, s) = absurd e
laid_spelled p (t ∷ ts) [] s = absurd (omega arith)
laid_spelled p (t ∷ ts) (x ∷ w) (r, inl e, s) =
    let end : p + suc (length ts) ≡ suc p + length ts = omega arith in
    let from_here : Spells (Laid p (t ∷ ts)) (suc p) (suc p + length ts) w = subst (λ z. Spells (Laid p (t ∷ ts)) z (suc p + length ts) w) e.2 (subst (λ z. Spells (Laid p (t ∷ ts)) r z w) end s) in
    let rest : w ≡ ts = laid_spelled (suc p) ts w (spells_over (Laid p (t ∷ ts)) (Laid (suc p) ts) (λ s a b l. (let h = laid_one p (t ∷ ts) s a b l in omega arith)) w (suc p) (suc p + length ts) behind from_here) in
    λ i. (e.0 i ∷ rest i)
  where
    behind : (s c d : ℕ) → suc p ≤ c → d ≤ suc p + length ts → Laid p (t ∷ ts) s c d → Laid (suc p) ts s c d
    behind s c d lo hi (inl l) = let z = l.1 in absurd (omega arith)
    behind s c d lo hi (inr l) = l
laid_spelled p (t ∷ ts) (x ∷ w) (r, inr e, s) = let h = laid_from (suc p) ts x p r e in absurd (omega arith)

module _ (E : Edges) (forward : GoForward E) (p t : ℕ) (more : List ℕ) where
  abbrev whole : Edges
  whole = Continued E p (t ∷ more)

  pub whole_forward : GoForward whole
  whole_forward s a b (inl e) = forward s a b e.0
  whole_forward s a b (inr l) = let h = laid_one p (t ∷ more) s a b l in omega arith

  -- a path to the place, and what is laid after it
  pub longer_path : (w : List ℕ) → Spells E 0 p w → Spells whole 0 (p + length (t ∷ more)) (w ++ t ∷ more)
  longer_path w s =
      spells-append whole 0 p (p + length (t ∷ more)) w (t ∷ more) (spells_over E whole forward w 0 p (λ s c d lo hi e. inl (e, hi)) s)
      (laid_path whole p (t ∷ more) (λ s a b l. inr l))

  -- and back: a path over both goes through the place
  pub path_through : (w : List ℕ) (a : ℕ) → a ≤ p → Spells whole a (p + length (t ∷ more)) w → (v : List ℕ) × Spells E a p v × (w ≡ v ++ t ∷ more)
  path_through [] a le s = absurd (omega arith)
  path_through (x ∷ w) a le (r, inl e, s) = let (v, sv, is) = path_through w r e.1 s in (x ∷ v, (r, e.0, sv), ap (λ z. x ∷ z) is)
  path_through (x ∷ w) a le (r, inr l, s) =
      let lo = laid_from p (t ∷ more) x a r l in
      let here : a ≡ p = omega arith in
      let all : Spells whole p (p + length (t ∷ more)) (x ∷ w) = subst (λ z. Spells whole z (p + length (t ∷ more)) (x ∷ w)) here (r, inr l, s) in
      ([], here, laid_spelled p (t ∷ more) (x ∷ w) (spells_over whole (Laid p (t ∷ more)) whole_forward (x ∷ w) p (p + length (t ∷ more)) behind all))
    where
      behind : (s c d : ℕ) → p ≤ c → d ≤ p + length (t ∷ more) → whole s c d → Laid p (t ∷ more) s c d
      behind s c d lo hi (inl e) = let h = forward s c d e.0 in let k = e.1 in absurd (omega arith)
      behind s c d lo hi (inr l) = l

get_behind : (w ts : List ℕ) (k : ℕ) → slice_get (w ++ ts) (length w + k) ≡ slice_get ts k
get_behind [] ts k = let e : 0 + k ≡ k = omega arith in ap (slice_get ts) e
get_behind (x ∷ w) ts k = let e : suc (length w) + k ≡ suc (length w + k) = omega arith in ap (slice_get (x ∷ (w ++ ts))) e ∙ get_behind w ts k

all_from : (P : ℕ → Type 0) (xs : List ℕ) → ((k x : ℕ) → slice_get xs k ≡ Some x → P x) → AllByRecursion P xs
all_from P [] h = tt
all_from P (x ∷ xs) h = (h 0 x refl, all_from P xs (λ k y e. h (suc k) y e))

all_at : (P : ℕ → Type 0) (xs : List ℕ) → AllByRecursion P xs → (k x : ℕ) → slice_get xs k ≡ Some x → P x
all_at P [] a k x e = cc
all_at P (y ∷ ys) a zero x e = let same : y ≡ x = cc in subst P same a.0
all_at P (y ∷ ys) a (suc k) x e = all_at P ys a.1 k x e

-- ---- what a derivation over a word covers

module _ (g : FlatGrammar) (marks : MarksAreClosed g) (productive : PartsAreProductive g) where
  terminal_of : (x : ℕ) → IsProductive g x → Grammar.IsTerminal (grammar_view g) x → IsTerminal g x
  terminal_of x (Itself t) h = t
  terminal_of x (Marked n) h = absurd (nullable_not_terminal (grammar_view g) (slot_of x) (nullable_viewed g x n) h)
  terminal_of x (ByRule {r = r} rule l parts) h = absurd (h r (in_view g r rule) (ap Grammar.lhs_of (rule_viewed g r rule) ∙ l))

  module _ (w : List ℕ) where
    -- the symbols at the places between are terminals
    abbrev Covers : ℕ → ℕ → Type 0
    Covers a b = (k s : ℕ) → a ≤ k → k < b → slice_get w k ≡ Some s → IsTerminal g s

    mutual
      pub tree_covers : (t : Tree) (slot : Slot) (a b : ℕ) → (Grammar.IsTerminal (grammar_view g) slot.symbol → IsTerminal g slot.symbol) → Derives.Derives (grammar_view g) (Line w) slot a b t → Covers a b
      tree_covers (Leaf s c d) slot a b h der k x lo hi e =
          let z = der.held.1 in
          let f = der.from_is in
          let f' = der.to_is in
          let here : c ≡ k = omega arith in
          let found : Some s ≡ Some x = sym der.held.0 ∙ ap (slice_get w) here ∙ e in
          let same : s ≡ x = cc in
          subst (IsTerminal g) (sym der.symbol_is ∙ same) (h (subst (Grammar.IsTerminal (grammar_view g)) der.symbol_is der.terminal))
      tree_covers (Nulled s c) slot a b h der k x lo hi e = let f = der.from_is in let f' = der.to_is in absurd (omega arith)
      tree_covers (Node i cs c d) slot a b h der k x lo hi e = go (λ rule le. prefix_covers cs i rule a b le der.prefix) (kind_of g i der.in_range) k x lo hi e
        where
          no_children : (cs : Children) → child_count cs ≡ 0 → DerivesPrefix (grammar_view g) (Line w) (rule_at (grammar_view g) i) a b cs → ⊥
          no_children NoChild count f = let lt = der.spans in omega arith
          no_children (Child prefix last) count f = omega arith

          go : ((rule : IsRule g i) → child_count cs ≤ length (rhs_of g i) → Covers a b) → IsKindOf g i → Covers a b
          go inside (inl rule) =
              let count : child_count cs ≡ length (rhs_of g i) = subst (λ z. Grammar.IsChildCount z (child_count cs)) (rule_viewed g i rule) der.complete in
              inside rule (omega (arith, count))
          go inside (inr (x, m, e)) =
              let count : child_count cs ≡ 0 = subst (λ z. Grammar.IsChildCount z (child_count cs)) e der.complete in
              absurd (no_children cs count der.prefix)

      pub prefix_covers : (cs : Children) (i : ℕ) (rule : IsRule g i) (a b : ℕ) → child_count cs ≤ length (rhs_of g i) → DerivesPrefix (grammar_view g) (Line w) (rule_at (grammar_view g) i) a b cs → Covers a b
      prefix_covers NoChild i rule a b le f k x lo hi e = absurd (omega arith)
      prefix_covers (Child prefix last) i rule a b le (m, f, d) k x lo hi e =
          let part : ℕ = slice_index (rhs_of g i) (child_count prefix) in
          let is : child_slot (rule_at (grammar_view g) i) (child_count prefix) ≡ slot_of part = ap (λ z. child_slot z (child_count prefix)) (rule_viewed g i rule) in
          let p = productive i (child_count prefix) part rule (index_get (rhs_of g i) (child_count prefix) (omega arith)) in
          ⊎_elim
          (λ before. prefix_covers prefix i rule a m (omega arith) f k x lo before e)
          (λ after. tree_covers last (slot_of part) m b (terminal_of part p) (subst (λ z. Derives.Derives (grammar_view g) (Line w) z m b last) is d) k x after hi e)
          (cases_lt k m)

-- ---- along a path places rise

module _ (edge : Edges) (forward : GoForward edge) (w : List ℕ) (p q : ℕ) (path : Spells edge p q w) where
  rises : (a b : ℕ) → a < b → b ≤ length w → nodes edge w p q path a < nodes edge w p q path b
  rises a zero lt le = absurd (omega arith)
  rises a (suc b) lt le = pick (λ h. rises a b h (omega arith)) (cases_lt a b)
    where
      step : nodes edge w p q path b < nodes edge w p q path (suc b)
      step = let x = get_some w b (omega arith) in forward x.0 (nodes edge w p q path b) (nodes edge w p q path (suc b)) (nodes-edge edge w p q path b x.0 x.1)

      pick : (a < b → nodes edge w p q path a < nodes edge w p q path b) → (a < b) ⊎ (b ≤ a) → nodes edge w p q path a < nodes edge w p q path (suc b)
      pick ih (inl h) = let x = ih h in let y = step in omega arith
      pick ih (inr h) = let same : b ≡ a = omega arith in subst (λ z. nodes edge w p q path z < nodes edge w p q path (suc b)) same step

  along : (s a b : ℕ) → Line w s a b → b ≤ length w → edge s (nodes edge w p q path a) (nodes edge w p q path b)
  along s a b e le =
      let z = e.1 in
      subst (λ c. edge s (nodes edge w p q path a) (nodes edge w p q path c)) (sym z) (nodes-edge edge w p q path a s e.0)

-- ---- the law

module _ (g : FlatGrammar) (E : Edges) (top : ℕ) (is_top : IsTop g top) (forward : GoesForward E) (only : OnlyTerminals g E)
    (no_rules : NoTerminalHasRules g) (marks : MarksAreClosed g) (productive : PartsAreProductive g) (quiet : TerminalsSpan g) where
  module _ (place t : ℕ) (terminal : IsTerminal g t) where
    only_whole : (more : List ℕ) → AllByRecursion (IsTerminal g) more → OnlyTerminals g (Continued E place (t ∷ more))
    only_whole more all x a b (inl e) = only x a b e.0
    only_whole more all x a b (inr l) = laid_terminal place (t ∷ more) (terminal, all) x a b l
      where
        laid_terminal : (p : ℕ) (ts : List ℕ) → AllByRecursion (IsTerminal g) ts → (x a b : ℕ) → Laid p ts x a b → IsTerminal g x
        laid_terminal p [] all x a b l = absurd l
        laid_terminal p (t ∷ ts) all x a b (inl l) = subst (IsTerminal g) (sym l.0) all.0
        laid_terminal p (t ∷ ts) all x a b (inr l) = laid_terminal (suc p) ts all.1 x a b l

    continued : IsAcceptable (grammar_view g) E (lhs_of g top) t place → IsContinued g E top place t
    continued a =
        let word = a.before ++ t ∷ a.after in
        let end = place + length (t ∷ a.after) in
        let whole = Continued E place (t ∷ a.after) in
        let whole_goes = whole_forward E forward place t a.after in
        let path = longer_path E forward place t a.after a.before a.spelled in
        let n = nodes whole word 0 end path in
        let covers = tree_covers g marks productive word a.tree (slot_of (lhs_of g top)) 0 (length word)
        (λ h. absurd (h top (in_view g top is_top.is_rule) (ap Grammar.lhs_of (rule_viewed g top is_top.is_rule)))) a.derived in
        let all : AllByRecursion (IsTerminal g) a.after = all_from (IsTerminal g) a.after
        (λ k x e. (let len = length-append a.before (t ∷ a.after) in
        let inside = got a.after k x e in
        covers (length a.before + suc k) x (omega arith) (omega arith) (get_behind a.before (t ∷ a.after) (suc k) ∙ e))) in
        let there = tree_moved (grammar_view g) (Line word) whole n (length word) (line_forward word)
        (rises whole whole_goes word 0 end path) (along whole whole_goes word 0 end path) a.tree (slot_of (lhs_of g top)) 0 (length word) (omega arith) a.derived in
        let there' = subst (λ z. Derives.Derives (grammar_view g) whole (slot_of (lhs_of g top)) z (n (length word)) (moved n a.tree)) (nodes-first whole word 0 end path) there in
        let there'' = subst (λ z. Derives.Derives (grammar_view g) whole (slot_of (lhs_of g top)) 0 z (moved n a.tree)) (nodes-last whole word 0 end path) there' in
        record {
          more = a.after;
          terminals = all;
          tree = moved n a.tree;
          derives = symbol_back g marks whole (only_whole a.after all) no_rules quiet (moved n a.tree) (slot_of (lhs_of g top)) 0 end there'';
        }
      where
        got : (xs : List ℕ) (k x : ℕ) → slice_get xs k ≡ Some x → k < length xs
        got [] k x e = cc
        got (y ∷ ys) zero x e = omega arith
        got (y ∷ ys) (suc k) x e = let h = got ys k x e in omega arith

    acceptable : IsContinued g E top place t → IsAcceptable (grammar_view g) E (lhs_of g top) t place
    acceptable c =
        let end = place + length (t ∷ c.more) in
        let whole = Continued E place (t ∷ c.more) in
        let viewed = symbol_viewed g marks whole (only_whole c.more c.terminals) no_rules quiet c.derives in
        let (w, spells, u, d) = tree_word (grammar_view g) whole (whole_forward E forward place t c.more) c.tree (slot_of (lhs_of g top)) 0 end viewed in
        let (v, sv, is) = path_through E forward place t c.more w 0 (omega arith) spells in
        record {
          before = v;
          after = c.more;
          tree = u;
          spelled = sv;
          derived = subst (λ z. Derives.Derives (grammar_view g) (Line z) (slot_of (lhs_of g top)) 0 (length z) u) is d;
        }

  pub acceptable_are_awaited : AcceptableAreAwaited g E top
  acceptable_are_awaited place t terminal =
      let law = continued_are_awaited g E top is_top forward only no_rules marks productive place t terminal in
      ((λ a. law.0 (continued place t terminal a)), (λ item. acceptable place t terminal (law.1 item)))
