-- Flat steps are written as the steps of what their tree stands for.
use Rattle.std.proofs.Common.{◌≡◌, ℕ, ◌+◌, Bool, true, false, cond, List, [], ◌∷◌, ◌++◌, length, Some, refl, sym, ap, ◌∙◌, subst, arith}
use Rattle.std.specs.Prelude.{slice_get, slice_index_or}
use Rattle.std.proofs.lemmas.List.{append_assoc, append-nil}
use Rattle.std.proofs.lemmas.Option.{slice_get-get_or}
use Rattle.finite_sets.proofs.Members.{contains_from, among_map}
use Rattle.finite_sets.proofs.Lists.{get_among}
use Rattle.grammar_model.specs.Grammar.{Grammar, slot_of}
use Rattle.grammar_model.specs.Grammar
use Rattle.grammar_model.specs.Trees.{Tree, Children, Leaf, Nulled, Node, NoChild, Child, child_count}
use Rattle.grammar_model.specs.Derives.{Edges}
use Rattle.grammar_model.specs.Steps.{Step, RuleStep, steps_of, steps_of_all}
use Rattle.recognizer_model.specs.declared.flat.FlatSymbol.{FlatSymbol}
use Rattle.recognizer_model.specs.declared.flat.FlatSymbol.TheVariants.{Terminal, Slot, Sequence, Top}
use Rattle.recognizer_model.specs.declared.flat.FlatSource.{FlatSource}
use Rattle.recognizer_model.specs.declared.flat.FlatSource.TheVariants.{Written, Top as OfStart}
use Rattle.recognizer_model.specs.Invariant.{IsFlat, IsTopOf, HasSource}
use Rattle.recognizer_model.specs.FlatDerives.{Derives, Spans, Token, Null, Rule, More}
use Rattle.recognizer_model.specs.FlatDerives
use Rattle.recognizer_model.specs.Flat.{FlatGrammar, FlatRule, no_rule, IsRule, lhs_of, rhs_of, source_of, part_of}
use Rattle.forest_model.specs.Forest.{Forest, edges_of, top_of, IsDerived}
use Rattle.recognizer_model.specs.FlatForm.{Stands, AsTerminal, AsSlot, NamedRule, named, IsRuleOf, OfPlain, OfList, OfTrailing, OfItem, OfItems, OfSeparated, OfTop, symbol_at, is_list, is_list_node, tree_of, children_of, inside, join, node_by}
use Rattle.forest_laws.specs.Written.{sum_newest, older, is_list_rule, rule_written, steps_written}

steps_join : (a b : Children) → steps_of_all (join a b) ≡ steps_of_all a ++ steps_of_all b
steps_join a NoChild = sym (append-nil (steps_of_all a))
steps_join a (Child b t) = ap (λ l. l ++ steps_of t) (steps_join a b) ∙ append_assoc (steps_of_all a) (steps_of_all b) (steps_of t)

pub count_join : (a b : Children) → child_count (join a b) ≡ child_count a + child_count b
count_join a NoChild = omega arith
count_join a (Child b t) = let h = count_join a b in omega arith

module _ (w : Grammar) (g : FlatGrammar) where
  abbrev W : List ℕ → List Step → List Step
  W = steps_written w g

  -- for how many children a tree counts, and what it is written as
  abbrev pub count : Tree → ℕ
  count t = cond (is_list_node g t) (child_count (inside w g t)) 1

  abbrev pub out : Tree → List Step
  out t = cond (is_list_node g t) (steps_of_all (inside w g t)) (steps_of (tree_of w g t))

  abbrev pub counts_of : Children → List ℕ → List ℕ
  counts_of NoChild counts = counts
  counts_of (Child prefix last) counts = count last ∷ counts_of prefix counts

  -- each node comes from a written rule
  abbrev mutual
    pub IsWritten : Tree → Type 0
    IsWritten (Leaf x p q) = Unit {0}
    IsWritten (Nulled x p) = Unit {0}
    IsWritten (Node r cs p q) = ((i : ℕ) × (source_of g r ≡ Written i)) × AreWritten cs

    pub AreWritten : Children → Type 0
    AreWritten NoChild = Unit {0}
    AreWritten (Child prefix last) = AreWritten prefix × IsWritten last

  out_more : (prefix : Children) (last : Tree) → steps_of_all (children_of w g (Child prefix last)) ≡ steps_of_all (children_of w g prefix) ++ out last
  out_more prefix last = go (is_list_node g last)
    where
      go : (b : Bool) → steps_of_all (cond b (join (children_of w g prefix) (inside w g last)) (Child (children_of w g prefix) (tree_of w g last)))
          ≡ steps_of_all (children_of w g prefix) ++ cond b (steps_of_all (inside w g last)) (steps_of (tree_of w g last))
      go true = steps_join (children_of w g prefix) (inside w g last)
      go false = refl

  count_more : (prefix : Children) (last : Tree) → child_count (children_of w g (Child prefix last)) ≡ child_count (children_of w g prefix) + count last
  count_more prefix last = go (is_list_node g last)
    where
      go : (b : Bool) → child_count (cond b (join (children_of w g prefix) (inside w g last)) (Child (children_of w g prefix) (tree_of w g last)))
          ≡ child_count (children_of w g prefix) + cond b (child_count (inside w g last)) 1
      go true = count_join (children_of w g prefix) (inside w g last)
      go false = omega arith

  sum_is : (cs : Children) (counts : List ℕ) → sum_newest (child_count cs) (counts_of cs counts) ≡ child_count (children_of w g cs)
  sum_is NoChild counts = refl
  sum_is (Child prefix last) counts = ap (λ n. n + count last) (sum_is prefix counts) ∙ sym (count_more prefix last)

  older_is : (cs : Children) (counts : List ℕ) → older (child_count cs) (counts_of cs counts) ≡ counts
  older_is NoChild counts = refl
  older_is (Child prefix last) counts = older_is prefix counts

  -- the rule of a node, after its children
  rule_step : (r : ℕ) (cs : Children) (p q i : ℕ) → source_of g r ≡ Written i → (counts : List ℕ) (rest : List Step) →
      steps_of_all (children_of w g cs) ++ W (counts_of cs counts) (RuleStep r (child_count cs) p q ∷ rest) ≡ out (Node r cs p q) ++ W (count (Node r cs p q) ∷ counts) rest
  rule_step r cs p q i source counts rest =
      ap (λ (n : ℕ). children ++ (rule_written (is_list_rule g r) (source_of g r) n p q ++ W (cond (is_list_rule g r) n 1 ∷ older (child_count cs) (counts_of cs counts)) rest)) (sum_is cs counts)
      ∙ ap (λ (l : List ℕ). children ++ (rule_written (is_list_rule g r) (source_of g r) n p q ++ W (cond (is_list_rule g r) n 1 ∷ l) rest)) (older_is cs counts)
      ∙ subst (λ (s : FlatSource). children ++ (rule_written (is_list_rule g r) s n p q ++ W (cond (is_list_rule g r) n 1 ∷ counts) rest)
      ≡ cond (is_list_rule g r) children (steps_of (node_by s (children_of w g cs) p q)) ++ W (cond (is_list_rule g r) n 1 ∷ counts) rest) (sym source) (go (is_list_rule g r))
    where
      children : List Step
      children = steps_of_all (children_of w g cs)

      n : ℕ
      n = child_count (children_of w g cs)

      go : (b : Bool) → steps_of_all (children_of w g cs) ++ (rule_written b (Written i) (child_count (children_of w g cs)) p q ++ W (cond b (child_count (children_of w g cs)) 1 ∷ counts) rest)
          ≡ cond b (steps_of_all (children_of w g cs)) (steps_of (Node i (children_of w g cs) p q)) ++ W (cond b (child_count (children_of w g cs)) 1 ∷ counts) rest
      go true = refl
      go false = sym (append_assoc (steps_of_all (children_of w g cs)) (RuleStep i (child_count (children_of w g cs)) p q ∷ []) (W (1 ∷ counts) rest))

  mutual
    pub tree_written : (t : Tree) → IsWritten t → (counts : List ℕ) (rest : List Step) → W counts (steps_of t ++ rest) ≡ out t ++ W (count t ∷ counts) rest
    tree_written (Leaf x p q) h counts rest = refl
    tree_written (Nulled x p) h counts rest = refl
    tree_written (Node r cs p q) h counts rest =
        ap (W counts) (append_assoc (steps_of_all cs) (RuleStep r (child_count cs) p q ∷ []) rest)
        ∙ children_written cs h.1 counts (RuleStep r (child_count cs) p q ∷ rest) ∙ rule_step r cs p q h.0.0 h.0.1 counts rest

    pub children_written : (cs : Children) → AreWritten cs → (counts : List ℕ) (rest : List Step) → W counts (steps_of_all cs ++ rest) ≡ steps_of_all (children_of w g cs) ++ W (counts_of cs counts) rest
    children_written NoChild h counts rest = refl
    children_written (Child prefix last) h counts rest =
        ap (W counts) (append_assoc (steps_of_all prefix) (steps_of last) rest)
        ∙ children_written prefix h.0 counts (steps_of last ++ rest)
        ∙ ap (λ l. steps_of_all (children_of w g prefix) ++ l) (tree_written last h.1 (counts_of prefix counts) rest)
        ∙ sym (append_assoc (steps_of_all (children_of w g prefix)) (out last) (W (count last ∷ counts_of prefix counts) rest))
        ∙ ap (λ l. l ++ W (count last ∷ counts_of prefix counts) rest) (sym (out_more prefix last))

first_is : (h : ℕ → FlatSymbol) (xs : List ℕ) (s : FlatSymbol) (x : ℕ) → Rattle.std.proofs.Common.map h xs ≡ s ∷ [] → slice_get xs 0 ≡ Some x → h x ≡ s
first_is h [] s x e e' = cc
first_is h (y ∷ ys) s x e e' = let a : h y ≡ s = cc in let b : y ≡ x = cc in ap h (sym b) ∙ a

pub no_list : (w : Grammar) (slot : Grammar.Slot) (s : FlatSymbol) → Stands w slot s → is_list s ≡ false
no_list w slot (Terminal t) (AsTerminal h) = refl
no_list w slot (Slot t k) (AsSlot h) = refl
no_list w slot (Sequence i) h = elim h [ ]
no_list w slot (Top k) h = elim h [ ]

-- a top has its start alone on its right side, and that is no list
abbrev HasStart : NamedRule → Type 0
HasStart n = (s : FlatSymbol) × (n.right ≡ s ∷ []) × (is_list s ≡ false)

start_only : (w : Grammar) (n : NamedRule) (k : ℕ) → IsRuleOf w n → n.source ≡ OfStart k → HasStart n
start_only w n k (OfPlain i s l r right a b c d e f h j) same = cc
start_only w n k (OfList i r a b) same = cc
start_only w n k (OfTrailing i separator r c a b d e f h) same = cc
start_only w n k (OfItem i r b a c d) same = cc
start_only w n k (OfItems i r b a c d e) same = cc
start_only w n k (OfSeparated i separator r b c a d e f h j) same = cc
start_only w n k (OfTop k' start s a st) same = (s, refl, no_list w (slot_of start) s st)

module _ (f : Forest) (derived : IsDerived f) where
  abbrev g : FlatGrammar
  g = f.flat

  abbrev E : Edges
  E = edges_of f

  abbrev flat : IsFlat f.flat
  flat = derived.flat

  abbrev pub IsNoTop : ℕ → Type 0
  IsNoTop x = (k : ℕ) → slice_get f.flat.symbols x ≡ Some (Top k) → ⊥

  pub part_no_top : (r d x : ℕ) → part_of g r d ≡ Some x → IsNoTop x
  part_no_top r d x part k at =
      let r' : ℕ = slice_index_or g.tops k 0 in
      let top = flat.tops k r' (slice_get-get_or g.tops k 0 (flat.all_tops x k at)) in
      let same : x ≡ lhs_of g r' = flat.differ x (lhs_of g r') (Top k) at top.symbol in
      top.is_top.outermost r d (part ∙ ap Some same)

  pub source_written : (r : ℕ) → IsRule g r → IsNoTop (lhs_of g r) → (i : ℕ) × (source_of g r ≡ Written i)
  source_written r rule other =
      let at = slice_get-get_or g.symbols (lhs_of g r) (Top 0) (flat.in_range.left r rule) in
      go (symbol_at g (lhs_of g r)) at (source_of g r) refl (flat.sources r (symbol_at g (lhs_of g r)) rule at)
    where
      go : (s : FlatSymbol) → slice_get f.flat.symbols (lhs_of f.flat r) ≡ Some s → (source : FlatSource) → source_of f.flat r ≡ source → HasSource s source → (i : ℕ) × (source_of f.flat r ≡ Written i)
      go (Terminal t) at (Written i) e h = absurd h
      go (Terminal t) at (OfStart k) e h = absurd h
      go (Slot t l) at (Written i) e h = (i, e)
      go (Slot t l) at (OfStart k) e h = absurd h
      go (Sequence j) at (Written i) e h = (i, e)
      go (Sequence j) at (OfStart k) e h = absurd h
      go (Top j) at (Written i) e h = absurd h
      go (Top j) at (OfStart k) e h = absurd (other j at)

  mutual
    pub tree_is : {x p q : ℕ} {t : Tree} → Derives g E x p q t → IsNoTop x → IsWritten f.written g t
    tree_is (Token e) other = tt
    tree_is (Null n) other = tt
    tree_is (Rule {r = r} rule l lt s) other = (source_written r rule (subst IsNoTop (sym l) other), children_are s)

    pub children_are : {r d p q : ℕ} {cs : Children} → Spans g E r d p q cs → AreWritten f.written g cs
    children_are FlatDerives.Nothing = tt
    children_are (More {r = r} {d = d} {x = x} s e t) = (children_are s, tree_is t (part_no_top r d x e))

  pub list_node : {x p q : ℕ} {t : Tree} → Derives g E x p q t → is_list (symbol_at g x) ≡ false → is_list_node g t ≡ false
  list_node (Token e) h = refl
  list_node (Null n) h = refl
  list_node (Rule rule l lt s) h = ap (λ y. is_list (symbol_at g y)) l ∙ h

  pub top_is : IsTopOf f.flat f.start (top_of f)
  top_is = flat.tops f.start (top_of f) (slice_get-get_or g.tops f.start 0 derived.start)

  pub start_is : (x : ℕ) → part_of g (top_of f) 0 ≡ Some x → is_list (symbol_at g x) ≡ false
  start_is x part =
      let rule : FlatRule = slice_index_or g.rules (top_of f) no_rule in
      let at = get_among g.rules (top_of f) rule (slice_get-get_or g.rules (top_of f) no_rule top_is.is_top.is_rule) in
      let named_is = (derived.flat_of.rules.exact (named g rule)).0 (contains_from (Rattle.std.proofs.Common.map (named g) g.rules) (named g rule) (among_map (named g) rule g.rules at)) in
      let (s, right, none) = start_only f.written (named g rule) f.start named_is top_is.source in
      ap is_list (first_is (symbol_at g) (rhs_of g (top_of f)) s x right part) ∙ none

  -- the tree of the only child
  pub only_child : {r n p q : ℕ} {cs : Children} → Spans g E r n p q cs → n ≡ 1 → (x : ℕ) × (m : ℕ) × (t : Tree) × (cs ≡ Child NoChild t) × (part_of g r 0 ≡ Some x) × Derives g E x m q t
  only_child FlatDerives.Nothing one = absurd (omega arith)
  only_child (More {m = m} {x = x} {t = t} FlatDerives.Nothing e d) one = (x, m, t, refl, e, d)
  only_child (More (More s e' d') e d) one = absurd (omega arith)

  abbrev AreSame : Tree → Type 0
  AreSame t = steps_written f.written f.flat [] (steps_of t) ≡ steps_of (tree_of f.written f.flat t)

  one_child : (r p q k : ℕ) (t : Tree) → source_of g r ≡ OfStart k → IsWritten f.written g t → is_list_node g t ≡ false → AreSame (Node r (Child NoChild t) p q)
  one_child r p q k t source is none =
      tree_written f.written g t is [] (RuleStep r 1 p q ∷ [])
      ∙ ap (λ s. out f.written g t ++ (rule_written (is_list_rule g r) s (sum_newest 1 (count f.written g t ∷ [])) p q ++ [])) source
      ∙ ap (λ l. out f.written g t ++ (l ++ [])) (nothing (is_list_rule g r))
      ∙ append-nil (out f.written g t)
      ∙ ap (λ b. cond b (steps_of_all (inside f.written g t)) (steps_of (tree_of f.written g t))) none
      ∙ sym (ap (λ s. steps_of (node_by s (children_of f.written g (Child NoChild t)) p q)) source
      ∙ ap (λ b. steps_of (node_by (OfStart k) (cond b (join NoChild (inside f.written g t)) (Child NoChild (tree_of f.written g t))) p q)) none)
    where
      nothing : (b : Bool) → rule_written b (OfStart k) (sum_newest 1 (count f.written g t ∷ [])) p q ≡ []
      nothing true = refl
      nothing false = refl

  same : {x p q : ℕ} {t : Tree} → Derives g E x p q t → x ≡ lhs_of g (top_of f) → AreSame t
  same (Token (t, at, e)) is = let bad : Some (Terminal t) ≡ Some (Top f.start) = sym at ∙ ap (slice_get g.symbols) is ∙ top_is.symbol in cc
  same (Null n) is = refl
  same (Rule {p = p} {q = q} {r = r} {cs = cs} rule l lt s) is =
      let top : r ≡ top_of f = top_is.is_top.alone r rule (l ∙ is) in
      let (x, m, t, only, part, d) = only_child s (ap (λ z. length (rhs_of g z)) top ∙ top_is.one) in
      let source : source_of g r ≡ OfStart f.start = ap (source_of g) top ∙ top_is.source in
      subst (λ c. AreSame (Node r c p q)) (sym only)
      (one_child r p q f.start t source (tree_is d (part_no_top r 0 x part)) (list_node d (start_is x (subst (λ z. part_of g z 0 ≡ Some x) top part))))

pub steps_are_written : Rattle.forest_laws.specs.Written.StepsAreWritten
steps_are_written f derived tree d = same f derived d refl
