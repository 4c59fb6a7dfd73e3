use Rattle.std.proofs.Common.{◌≡◌, ◌⊎◌, inl, inr, ℕ, zero, suc, ◌+◌, ◌-◌, ◌<◌, ◌≤◌, length, Option, Some, List, [], ◌∷◌, ◌++◌, slice_get, refl, sym, ◌∙◌, ap, subst, arith, length-append}
use Rattle.std.specs.List.{AllByRecursion}
use Rattle.std.proofs.lemmas.Option.{slice_get_within}
use Rattle.recognizer_model.specs.declared.Item.{Item}
use Rattle.grammar_model.specs.Trees.{Tree, Leaf, Nulled, Node, Children, NoChild, Child}
use Rattle.recognizer_model.specs.Flat.{FlatGrammar, IsRule, lhs_of, rhs_of, part_of, IsNullable}
use Rattle.grammar_model.specs.Derives.{Edges}
use Rattle.recognizer_model.specs.FlatDerives.{Derives, Token, Null, Rule, Spans, Nothing, More}
use Rattle.recognizer_model.specs.Items.{after, first_item, InSet}
use Rattle.recognizer_model.specs.Contexts.{IsTop, MayStand, AtStart, Next}
use Rattle.recognizer_model.specs.Leo.{GoesForward}
use Rattle.recognizer_model.specs.Acceptable.{IsTerminal, Laid, Continued, IsContinued, IsProductive, Itself, Marked, ByRule, AreProductive, Both, MarksAreClosed, PartsAreProductive, OnlyTerminals, NoTerminalHasRules, ContinuedAreAwaited}
use Rattle.recognizer_model.proofs.Earley.{found, over_parts}

le_or_above : (a b : ℕ) → (a ≤ b) ⊎ (b < a)
le_or_above a b = grind arith

module _ (g : FlatGrammar) (E : Edges) (forward : GoesForward E) where
  mutual
    pub symbol_forward : {x p q : ℕ} {t : Tree} → Derives g E x p q t → p ≤ q
    symbol_forward (Token {x = x} {p = p} {q = q} s) = let l = forward x p q s in omega arith
    symbol_forward (Null n) = omega arith
    symbol_forward (Rule rule l lt s) = omega arith

    pub parts_forward : {r d p q : ℕ} {cs : Children} → Spans g E r d p q cs → p ≤ q
    parts_forward Nothing = omega arith
    parts_forward (More s e t) = let a = parts_forward s in let b = symbol_forward t in omega arith

  -- a derivation holds over other edges, if these have the edges within its span
  module _ (F : Edges) where
    mutual
      pub symbol_over : {x p q : ℕ} {t : Tree} → Derives g E x p q t → ((y a b : ℕ) → p ≤ a → b ≤ q → E y a b → F y a b) → Derives g F x p q t
      symbol_over (Token s) has = Token (has _ _ _ (omega arith) (omega arith) s)
      symbol_over (Null n) has = Null n
      symbol_over (Rule rule l lt s) has = Rule rule l lt (parts_over s has)

      pub parts_over : {r d p q : ℕ} {cs : Children} → Spans g E r d p q cs → ((y a b : ℕ) → p ≤ a → b ≤ q → E y a b → F y a b) → Spans g F r d p q cs
      parts_over Nothing has = Nothing
      parts_over (More s e t) has =
          let k = parts_forward s in
          let l = symbol_forward t in
          More (parts_over s (λ y a b lo hi s'. has y a b lo (omega arith) s')) e (symbol_over t (λ y a b lo hi s'. has y a b (omega arith) hi s'))

    pub set_over : {top j : ℕ} {item : Item} → InSet g E top j item → ((y a b : ℕ) → b ≤ j → E y a b → F y a b) → InSet g F top j item
    set_over InSet.Start has = InSet.Start
    set_over (InSet.Predict i e rule l) has = InSet.Predict (set_over i has) e rule l
    set_over (InSet.Skip i e n) has = InSet.Skip (set_over i has) e n
    set_over (InSet.Scan {i = p} {j = j} {x = x} i e s) has =
        let l = forward x p j s in
        InSet.Scan (set_over i (λ y a b hi s'. has y a b (omega arith) s')) e (has x p j (omega arith) s)
    set_over (InSet.Complete w whole lt i e) has =
        InSet.Complete (set_over w has) whole lt (set_over i (λ y a b hi s'. has y a b (omega arith) s')) e

-- what is laid, is laid from the place on
laid_from : (p : ℕ) (ts : List ℕ) (x a b : ℕ) → Laid p ts x a b → p ≤ a
laid_from p [] x a b l = absurd l
laid_from p (t ∷ ts) x a b (inl (e, ea, eb)) = omega arith
laid_from p (t ∷ ts) x a b (inr l) = let k = laid_from (suc p) ts x a b l in omega arith

laid_forward : (p : ℕ) (ts : List ℕ) (x a b : ℕ) → Laid p ts x a b → a < b
laid_forward p [] x a b l = absurd l
laid_forward p (t ∷ ts) x a b (inl (e, ea, eb)) = omega arith
laid_forward p (t ∷ ts) x a b (inr l) = laid_forward (suc p) ts x a b l

-- the first of what is laid
laid_first : (p : ℕ) (t : ℕ) (ts : List ℕ) (x a b : ℕ) → Laid p (t ∷ ts) x a b → a ≤ p → (x ≡ t) × (a ≡ p)
laid_first p t ts x a b (inl (e, ea, eb)) le = (e, ea)
laid_first p t ts x a b (inr l) le = let k = laid_from (suc p) ts x a b l in absurd (omega arith)

laid_terminal : (P : ℕ → Type 0) (p : ℕ) (ts : List ℕ) (x a b : ℕ) → AllByRecursion P ts → Laid p ts x a b → P x
laid_terminal P p [] x a b all l = absurd l
laid_terminal P p (t ∷ ts) x a b all (inl (e, ea, eb)) = subst P (sym e) all.0
laid_terminal P p (t ∷ ts) x a b all (inr l) = laid_terminal P (suc p) ts x a b all.1 l

-- what is laid stays laid, when more is laid after it or before it
laid_more : (p : ℕ) (ts us : List ℕ) (x a b : ℕ) → Laid p ts x a b → Laid p (ts ++ us) x a b
laid_more p [] us x a b l = absurd l
laid_more p (t ∷ ts) us x a b (inl e) = inl e
laid_more p (t ∷ ts) us x a b (inr l) = inr (laid_more (suc p) ts us x a b l)

laid_behind : (p : ℕ) (ts us : List ℕ) (x a b : ℕ) → Laid (p + length ts) us x a b → Laid p (ts ++ us) x a b
laid_behind p [] us x a b l = subst (λ k. Laid k us x a b) (omega arith) l
laid_behind p (t ∷ ts) us x a b l = inr (laid_behind (suc p) ts us x a b (subst (λ k. Laid k us x a b) (omega arith) l))

AllByRecursion-append : (P : ℕ → Type 0) (ts us : List ℕ) → AllByRecursion P ts → AllByRecursion P us → AllByRecursion P (ts ++ us)
AllByRecursion-append P [] us a b = b
AllByRecursion-append P (t ∷ ts) us a b = (a.0, AllByRecursion-append P ts us a.1 b)

module _ (g : FlatGrammar) (E : Edges) (top : ℕ) (is_top : IsTop g top) (forward : GoesForward E) (only : OnlyTerminals g E) (no_rules : NoTerminalHasRules g) where
  module _ (p t : ℕ) (ts : List ℕ) (terminal : IsTerminal g t) (terminals : AllByRecursion (IsTerminal g) ts) where
    abbrev F : Edges
    F = Continued E p (t ∷ ts)

    abbrev Awaited : Type 0
    Awaited = (item : Item) × InSet g F top p item × (after g item ≡ Some t)

    continued_forward : GoesForward F
    continued_forward x a b (inl (s, le)) = forward x a b s
    continued_forward x a b (inr l) = laid_forward p (t ∷ ts) x a b l

    mutual
      -- a derivation that goes past the place has the terminal there, and an item waits for it
      crossing : {x a b : ℕ} {tree : Tree} → Derives g F x a b tree → a ≤ p → p < b → (item : Item) → InSet g F top a item → after g item ≡ Some x → Awaited
      crossing (Token {x = x} {p = a} {q = b} (inl (s, le))) lo hi item i e = absurd (omega arith)
      crossing (Token {x = x} {p = a} {q = b} (inr l)) lo hi item i e =
          let (same, here) = laid_first p t ts x a b l lo in (item, subst (λ k. InSet g F top k item) here i, e ∙ ap Some same)
      crossing (Null n) lo hi item i e = absurd (omega arith)
      crossing (Rule rule l lt s) lo hi item i e = crossing_parts s lo hi (InSet.Predict i e rule l)

      crossing_parts : {r d a b : ℕ} {cs : Children} → Spans g F r d a b cs → a ≤ p → p < b → InSet g F top a (first_item r a) → Awaited
      crossing_parts Nothing lo hi i = absurd (omega arith)
      crossing_parts (More {m = m} s e u) lo hi i =
          elim (le_or_above m p) [ inl le ↦ crossing u le hi _ (over_parts g F top is_top s i) e | inr gt ↦ crossing_parts s lo gt i ]

    awaited_in : {x a b : ℕ} {tree : Tree} → Derives g F x a b tree → x ≡ lhs_of g top → a ≡ 0 → p < b → Awaited
    awaited_in (Token {x = x} (inl (s, le))) same o lt = absurd (no_rules top is_top.is_rule (subst (IsTerminal g) same (only _ _ _ s)))
    awaited_in (Token {x = x} (inr l)) same o lt =
        absurd (no_rules top is_top.is_rule (subst (IsTerminal g) same (laid_terminal (IsTerminal g) p (t ∷ ts) x _ _ (terminal, terminals) l)))
    awaited_in (Null n) same o lt = absurd (omega arith)
    awaited_in (Rule {p = a} {q = b} {r = r} {cs = cs} rule l lt' s) same o lt =
        let is : r ≡ top = is_top.alone r rule (l ∙ same) in
        crossing_parts s (omega arith) lt (subst (λ k. InSet g F top k (first_item r k)) (sym o) (subst (λ k. InSet g F top 0 (first_item k 0)) (sym is) InSet.Start))

    -- the items of the place are those over the edges alone
    awaited_before : Awaited → (item : Item) × InSet g E top p item × (after g item ≡ Some t)
    awaited_before (item, i, e) = (item, set_over g F continued_forward E i back, e)
      where
        back : (y a b : ℕ) → b ≤ p → F y a b → E y a b
        back y a b le (inl (s, le')) = s
        back y a b le (inr l) = let k = laid_from p (t ∷ ts) y a b l in let k' = laid_forward p (t ∷ ts) y a b l in absurd (omega arith)

part_there : (xs : List ℕ) (k : ℕ) → k < length xs → (x : ℕ) × (slice_get xs k ≡ Some x)
part_there [] k l = absurd (omega arith)
part_there (y ∷ ys) zero l = (y, refl)
part_there (y ∷ ys) (suc k) l = part_there ys k (omega arith)

module _ (g : FlatGrammar) (closed : MarksAreClosed g) where
  module _ (E : Edges) (forward : GoesForward E) where
    -- what derives nothing is marked
    empty_symbol : {x p q : ℕ} {t : Tree} → Derives g E x p q t → q ≤ p → IsNullable g x
    empty_symbol (Token {x = x} {p = p} {q = q} s) le = let l = forward x p q s in absurd (omega arith)
    empty_symbol (Null n) le = n
    empty_symbol (Rule rule l lt s) le = absurd (omega arith)

    empty_parts : {r d p q : ℕ} {cs : Children} → Spans g E r d p q cs → q ≤ p → (k x : ℕ) → k < d → part_of g r k ≡ Some x → IsNullable g x
    empty_parts Nothing le k x lt e = absurd (omega arith)
    empty_parts (More {r = r} {d = d} {x = y} s e' t) le k x lt e =
        let a = parts_forward g E forward s in
        let b = symbol_forward g E forward t in
        elim (le_or_above d k) [
          | inl here ↦
              let same : k ≡ d = omega arith in
              let is : Path (Option ℕ) (Some y) (Some x) = sym e' ∙ subst (λ i. part_of g r i ≡ Some x) same e in
              subst (IsNullable g) (cc) (empty_symbol t (omega arith))
          | inr below ↦ empty_parts s (omega arith) k x below e
        ]

  -- terminals that the symbol derives, wherever they are laid
  record Lays (x : ℕ) : Type 0 where
    terms : List ℕ
    terminals : AllByRecursion (IsTerminal g) terms
    tree : ℕ → Tree
    derives : (q : ℕ) → Derives g (Laid q terms) x q (q + length terms) (tree q)

  record LaysParts (r d : ℕ) : Type 0 where
    terms : List ℕ
    terminals : AllByRecursion (IsTerminal g) terms
    children : ℕ → Children
    spans : (q : ℕ) → Spans g (Laid q terms) r d q (q + length terms) (children q)

  lays_rule : {x r : ℕ} → IsRule g r → lhs_of g r ≡ x → LaysParts r (length (rhs_of g r)) → Lays x
  lays_rule {x = x} {r = r} rule l parts = go parts.terms refl
    where
      go : (ts : List ℕ) → parts.terms ≡ ts → Lays x
      go [] e =
          let s : Spans g (Laid 0 []) r (length (rhs_of g r)) 0 0 (parts.children 0) = subst (λ us. Spans g (Laid 0 us) r (length (rhs_of g r)) 0 (0 + length us) (parts.children 0)) e (parts.spans 0) in
          let n : IsNullable g x = subst (IsNullable g) l (closed r rule (λ k y e'. empty_parts (Laid 0 []) (laid_forward 0 []) s (omega arith) k y (slice_get_within (rhs_of g r) k y e') e')) in
          record { terms = []; terminals = tt; tree = Nulled x; derives = λ q. subst (λ k. Derives g (Laid q []) x q k (Nulled x q)) (omega arith) (Null n) }
      go (t ∷ ts) e = record {
        terms = parts.terms;
        terminals = parts.terminals;
        tree = λ q. Node r (parts.children q) q (q + length parts.terms);
        derives = λ q. let k : length parts.terms ≡ suc (length ts) = ap length e in Rule rule l (omega arith) (parts.spans q);
      }

  lays_both : {r d x : ℕ} → LaysParts r d → part_of g r d ≡ Some x → Lays x → LaysParts r (suc d)
  lays_both {r = r} {d = d} {x = x} a e b =
      record {
        terms = a.terms ++ b.terms;
        terminals = AllByRecursion-append (IsTerminal g) a.terms b.terms a.terminals b.terminals;
        children = λ q. Child (a.children q) (b.tree (q + length a.terms));
        spans = λ q.
            let long : (q + length a.terms) + length b.terms ≡ q + length (a.terms ++ b.terms) = omega (arith, length-append a.terms b.terms) in
            subst (λ k. Spans g (Laid q (a.terms ++ b.terms)) r (suc d) q k (Child (a.children q) (b.tree (q + length a.terms)))) long
            (More (parts_over g (Laid q a.terms) (laid_forward q a.terms) (Laid q (a.terms ++ b.terms)) (a.spans q) (λ y m n lo hi l. laid_more q a.terms b.terms y m n l)) e
            (symbol_over g (Laid (q + length a.terms) b.terms) (laid_forward (q + length a.terms) b.terms) (Laid q (a.terms ++ b.terms)) (b.derives (q + length a.terms)) (λ y m n lo hi l. laid_behind q a.terms b.terms y m n l)));
      }

  mutual
    lays : {x : ℕ} → IsProductive g x → Lays x
    lays (Itself {x = x} terminal) = record { terms = x ∷ []; terminals = (terminal, tt); tree = λ q. Leaf x q (q + 1); derives = λ q. Token (inl (refl, refl, omega arith)) }
    lays (Marked {x = x} n) = record { terms = []; terminals = tt; tree = Nulled x; derives = λ q. subst (λ k. Derives g (Laid q []) x q k (Nulled x q)) (omega arith) (Null n) }
    lays (ByRule rule l parts) = lays_rule rule l (lays_parts parts)

    lays_parts : {r d : ℕ} → AreProductive g r d → LaysParts r d
    lays_parts {r = r} AreProductive.None = record {
      terms = [];
      terminals = tt;
      children = λ q. NoChild;
      spans = λ q. subst (λ k. Spans g (Laid q []) r 0 q k NoChild) (omega arith) Nothing;
    }
    lays_parts {r = r} (Both {d = d} {x = x} parts e productive) = lays_both (lays_parts parts) e (lays productive)

module _ (g : FlatGrammar) (E : Edges) (top : ℕ) (is_top : IsTop g top) (forward : GoesForward E) (closed : MarksAreClosed g)
    (productive : PartsAreProductive g) (p t : ℕ) where
  abbrev Word : List ℕ → Edges
  Word ws = Continued E p (t ∷ ws)

  word_forward : (ws : List ℕ) → GoesForward (Word ws)
  word_forward ws x a b (inl (s, le)) = forward x a b s
  word_forward ws x a b (inr l) = laid_forward p (t ∷ ws) x a b l

  abbrev end_of : List ℕ → ℕ
  end_of ws = p + length (t ∷ ws)

  record IsBegun (r d from : ℕ) : Type 0 where
    word : List ℕ
    terminals : AllByRecursion (IsTerminal g) word
    children : Children
    spans : Spans g (Word word) r d from (end_of word) children

  word_more : (ws us : List ℕ) (x a b : ℕ) → Word ws x a b → Word (ws ++ us) x a b
  word_more ws us x a b (inl s) = inl s
  word_more ws us x a b (inr l) = inr (laid_more p (t ∷ ws) us x a b l)

  -- one more part, laid after the word
  begun_more : {r d x from : ℕ} → (b : IsBegun r d from) → part_of g r d ≡ Some x → (y : Lays g closed x) → IsBegun r (suc d) from
  begun_more {r = r} {d = d} {x = x} {from = from} b e y =
      let long : end_of b.word + length y.terms ≡ end_of (b.word ++ y.terms) = omega (arith, length-append b.word y.terms) in
      record {
        word = b.word ++ y.terms;
        terminals = AllByRecursion-append (IsTerminal g) b.word y.terms b.terminals y.terminals;
        children = Child b.children (y.tree (end_of b.word));
        spans = subst (λ k. Spans g (Word (b.word ++ y.terms)) r (suc d) from k (Child b.children (y.tree (end_of b.word)))) long
            (More (parts_over g (Word b.word) (word_forward b.word) (Word (b.word ++ y.terms)) b.spans (λ z m n lo hi l. word_more b.word y.terms z m n l)) e
            (symbol_over g (Laid (end_of b.word) y.terms) (laid_forward (end_of b.word) y.terms) (Word (b.word ++ y.terms)) (y.derives (end_of b.word))
            (λ z m n lo hi l. inr (laid_behind p (t ∷ b.word) y.terms z m n l))));
      }

  -- the rest of a rule is laid after the word
  finished : (n : ℕ) {r d from : ℕ} → IsRule g r → IsBegun r d from → n + d ≡ length (rhs_of g r) → IsBegun r (length (rhs_of g r)) from
  finished zero {r = r} {from = from} rule b e = subst (λ k. IsBegun r k from) (omega arith) b
  finished (suc n) {r = r} {d = d} rule b e =
      let (x, e') = part_there (rhs_of g r) d (omega arith) in
      finished n rule (begun_more b e' (lays g closed (productive r d x rule e'))) (omega arith)

  finish : {r d from : ℕ} → IsRule g r → IsBegun r d from → d ≤ length (rhs_of g r) → IsBegun r (length (rhs_of g r)) from
  finish {r = r} {d = d} rule b le = finished (length (rhs_of g r) - d) rule b (omega arith)

  -- the rules around a symbol are finished, from the inside out
  close : {x from : ℕ} → MayStand g E top x from → from ≤ p → (ws : List ℕ) → AllByRecursion (IsTerminal g) ws → {tree : Tree} →
      Derives g (Word ws) x from (end_of ws) tree → IsContinued g E top p t
  close (AtStart e) le ws terminals {tree = tree} d = record { more = ws; terminals = terminals; tree = tree; derives = subst (λ x. Derives g (Word ws) x 0 (end_of ws) tree) (sym e) d }
  close (Next {y = y} {p = start} {r = r} {d = k} {q = from} {cs = cs} m rule l s e) le ws terminals {tree = tree} d =
      let before = parts_forward g E forward s in
      let within = slice_get_within (rhs_of g r) k _ e in
      let b : IsBegun r (suc k) start = record {
        word = ws;
        terminals = terminals;
        children = Child cs tree;
        spans = More (parts_over g E forward (Word ws) s (λ z a b lo hi s'. inl (s', omega arith))) e d;
      } in
      let f = finish rule b (omega arith) in
      close m (omega arith) f.word f.terminals (Rule rule l (omega arith) f.spans)

  acceptable : (item : Item) → InSet g E top p item → after g item ≡ Some t → IsContinued g E top p t
  acceptable item i e =
      let f = found g E top is_top i in
      let within = slice_get_within (rhs_of g item.rule) item.dot t e in
      let before = parts_forward g E forward f.spans in
      let b : IsBegun item.rule (suc item.dot) item.origin = record {
        word = [];
        terminals = tt;
        children = Child f.children (Leaf t p (suc p));
        spans = More (parts_over g E forward (Word []) f.spans (λ z a b lo hi s'. inl (s', hi))) e (subst (λ k. Derives g (Word []) t p k (Leaf t p (suc p))) (omega arith) (Token (inr (inl (refl, refl, refl)))));
      } in
      let c = finish f.is_rule b (omega arith) in
      close f.may_stand before c.word c.terminals (Rule f.is_rule refl (omega arith) c.spans)

pub continued_are_awaited : (g : FlatGrammar) (E : Edges) (top : ℕ) → IsTop g top → GoesForward E → OnlyTerminals g E → NoTerminalHasRules g →
    MarksAreClosed g → PartsAreProductive g → ContinuedAreAwaited g E top
continued_are_awaited g E top is_top forward only none closed productive place t terminal = (
  λ a. awaited_before g E top is_top forward only none place t a.more terminal a.terminals
      (awaited_in g E top is_top forward only none place t a.more terminal a.terminals a.derives refl refl (omega arith)),
  λ (item, i, e). acceptable g E top is_top forward closed productive place t item i e,
)
