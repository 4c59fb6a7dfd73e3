-- What is noted of all causes of a forest.
use Rattle.std.proofs.Common.{◌≡◌, ℕ, ◌+◌, ◌<◌, List, [], ◌∷◌, ◌++◌, take, length, inl, inr, Option, Some, None, Contains, refl, sym, ap, ◌∙◌, subst, arith}
use Rattle.std.specs.Prelude.{slice_get, slice_set, slice_index_or}
use Rattle.std.proofs.lemmas.List.{length-set, take_more}
use Rattle.finite_sets.specs.Decided.{IsDecided}
use Rattle.finite_sets.proofs.Deciding.{equal}
use Rattle.finite_sets.proofs.Lists.{get_index, get_among}
use Rattle.finite_sets.proofs.Members.{Among, among_from, contains_from}
use Rattle.recognizer_model.specs.declared.NodeKey.{NodeKey}
use Rattle.recognizer_model.specs.Flat.{lhs_of}
use Rattle.forest_model.specs.Forest.{Cause, AnEdge, Nothing, Wholes, Alternative, ForestNode, Forest, IsForest, IsNode, IsCause, AreWholes, AreAlternatives, whole_key}
use Rattle.bocage.specs.Readers.{alternative_at}
use Rattle.glade_laws.specs.Walks.{whole_nodes}
use Rattle.glade_laws.proofs.Alone.{one_wholes}
use Rattle.glades.specs.Links.{Notes, noted_by, noted, all_noted, nodes_noted, IsNote, AreNotes}
use Rattle.glades.proofs.Sets.{got_set, set_here, set_other}

-- ---- one after another

pub all_more : (xs ys : List Alternative) (s : Notes) → all_noted (xs ++ ys) s ≡ all_noted ys (all_noted xs s)
all_more [] ys s = refl
all_more (x ∷ xs) ys s = all_more xs ys (noted x.cause s)

pub nodes_more : (xs ys : List ForestNode) (s : Notes) → nodes_noted (xs ++ ys) s ≡ nodes_noted ys (nodes_noted xs s)
nodes_more [] ys s = refl
nodes_more (x ∷ xs) ys s = nodes_more xs ys (all_noted x.alternatives s)

pub noted_length : (first next : Option ℕ) (s : Notes) → length (noted_by first next s) ≡ length s
noted_length None next s = refl
noted_length (Some n) next s = length-set s n (Some next)

pub all_length : (xs : List Alternative) (s : Notes) → length (all_noted xs s) ≡ length s
all_length [] s = refl
all_length (x ∷ xs) s = all_length xs (noted x.cause s) ∙ noted_length (slice_get (whole_nodes x.cause) 0) (slice_get (whole_nodes x.cause) 1) s

pub nodes_length : (xs : List ForestNode) (s : Notes) → length (nodes_noted xs s) ≡ length s
nodes_length [] s = refl
nodes_length (x ∷ xs) s = nodes_length xs (all_noted x.alternatives s) ∙ all_length x.alternatives s

-- ---- what is noted

module _ (f : Forest) (is : IsForest f) where
  some_is : {X : Type 0} {x y : X} → Some x ≡ Some y → x ≡ y
  some_is e = cc

  none_some : {X : Type 0} {x : X} → None ≡ Some x → ⊥
  none_some e = cc

  pub record IsWholes (nodes : List ℕ) : Type 0 where
    pub symbol : ℕ
    pub from : ℕ
    pub to : ℕ
    pub wholes : AreWholes f symbol from to nodes

  abbrev pub wholes_of : (number : ℕ) (node : ForestNode) → slice_get f.nodes number ≡ Some node → (a : Alternative) → Contains node.alternatives a → (nodes : List ℕ) → a.cause ≡ Wholes nodes → IsWholes nodes
  wholes_of number node there a has nodes cause =
      let al : AreAlternatives f node.key node.alternatives = is.alternatives node (contains_from f.nodes node (get_among f.nodes number node there)) in
      record { symbol = al.symbol; from = a.start; to = node.key.end; wholes = subst (IsCause f al.symbol a.start node.key.end) cause (al.each a has).cause }

  pub record StandsFirst (n : ℕ) (h : ℕ) (p q : ℕ) : Type 0 where
    pub rule : ℕ
    pub left : lhs_of f.flat rule ≡ h
    pub is_node : IsNode f n (whole_key f rule p q)

  pub first_of : (n : ℕ) (more : List ℕ) (w : IsWholes (n ∷ more)) → StandsFirst n w.symbol w.from w.to
  first_of n more w =
      let all = w.wholes.all in
      let r : ℕ = slice_index_or w.wholes.rules 0 0 in
      let at = Rattle.std.proofs.lemmas.Option.slice_get-get_or w.wholes.rules 0 0 (omega (arith, all)) in
      record { rule = r; left = ((w.wholes.exact r).0 (contains_from w.wholes.rules r (get_among w.wholes.rules 0 r at))).0.left; is_node = w.wholes.each 0 n r refl at }

  -- a node begins one list of whole rules
  pub one_list : (n : ℕ) (xs ys : List ℕ) → IsWholes (n ∷ xs) → IsWholes (n ∷ ys) → xs ≡ ys
  one_list n xs ys v w =
      let a = first_of n xs v in
      let b = first_of n ys w in
      let (x, at, key) = a.is_node in
      let (y, at', key') = b.is_node in
      let same : x ≡ y = some_is (sym at ∙ at') in
      let keys : whole_key f a.rule v.from v.to ≡ whole_key f b.rule w.from w.to = sym key ∙ ap (λ (z : ForestNode). z.key) same ∙ key' in
      let rules : a.rule ≡ b.rule = ap (λ (k : NodeKey). k.rule) keys in
      let symbols : v.symbol ≡ w.symbol = sym a.left ∙ ap (lhs_of f.flat) rules ∙ b.left in
      let from : v.from ≡ w.from = ap (λ (k : NodeKey). k.origin) keys in
      let to : v.to ≡ w.to = ap (λ (k : NodeKey). k.end) keys in
      tail (one_wholes f is w.symbol w.from w.to (n ∷ xs) (n ∷ ys)
      (subst (λ s. AreWholes f s w.from w.to (n ∷ xs)) symbols (subst (λ p. AreWholes f v.symbol p w.to (n ∷ xs)) from (subst (λ q. AreWholes f v.symbol v.from q (n ∷ xs)) to v.wholes))) w.wholes)
    where
      tail : {x y : ℕ} {as' bs' : List ℕ} → x ∷ as' ≡ y ∷ bs' → as' ≡ bs'
      tail e = cc

  pub one_note : (n : ℕ) (a b : Option ℕ) → IsNote f n a → IsNote f n b → a ≡ b
  one_note n a b h k =
      sym h.next_is ∙ ap (λ (l : List ℕ). slice_get l 0) (one_list n h.more k.more (wholes_of h.number h.node h.there h.alternative h.has (n ∷ h.more) h.cause) (wholes_of k.number k.node k.there k.alternative k.has (n ∷ k.more) k.cause)) ∙ k.next_is

  abbrev HasNote : Notes → ℕ → Option ℕ → Type 0
  HasNote s n next = slice_get s n ≡ Some (Some next)

  abbrev pub AreSound : Notes → Type 0
  AreSound s = (n : ℕ) (next : Option ℕ) → slice_get s n ≡ Some (Some next) → IsNote f n next

  abbrev Held : Cause → Type 0
  Held cause = (number : ℕ) × (node : ForestNode) × (slice_get f.nodes number ≡ Some node) × (a : Alternative) × Contains node.alternatives a × (a.cause ≡ cause)

  note_by : (cause : Cause) → Held cause → (n : ℕ) (more : List ℕ) → cause ≡ Wholes (n ∷ more) → IsNote f n (slice_get more 0)
  note_by cause (number, node, there, a, has, e) n more is_wholes = record { number = number; node = node; there = there; alternative = a; has = has; more = more; cause = e ∙ is_wholes; next_is = refl }

  -- a step keeps what is sound, and what is there
  sound_step : (cause : Cause) → Held cause → (s : Notes) → AreSound s → AreSound (noted cause s)
  sound_step AnEdge held s h n next e = h n next e
  sound_step Nothing held s h n next e = h n next e
  sound_step (Wholes []) held s h n next e = h n next e
  sound_step (Wholes (m ∷ more)) held s h n next e = elim (got_set s m (Some (slice_get more 0)) n (Some next) e) [
    | inl (other, at) ↦ h n next at
    | inr (same, is_next) ↦ subst (λ k. IsNote f k next) (sym same) (subst (IsNote f m) (sym (some_is is_next)) (note_by (Wholes (m ∷ more)) held m more refl))
  ]

  keeps_step : (cause : Cause) → Held cause → (s : Notes) (n : ℕ) (next : Option ℕ) → IsNote f n next → n < length s → HasNote s n next → HasNote (noted cause s) n next
  keeps_step AnEdge held s n next note lt h = h
  keeps_step Nothing held s n next note lt h = h
  keeps_step (Wholes []) held s n next note lt h = h
  keeps_step (Wholes (m ∷ more)) held s n next note lt h = by (equal n m)
    where
      by : IsDecided (n ≡ m) → HasNote (slice_set s m (Some (slice_get more 0))) n next
      by (inl same) =
          let e = one_note n (slice_get more 0) next (subst (λ k. IsNote f k (slice_get more 0)) (sym same) (note_by (Wholes (m ∷ more)) held m more refl)) note in
          subst (λ k. slice_get (slice_set s k (Some (slice_get more 0))) n ≡ Some (Some next)) same (set_here s n (Some (slice_get more 0)) lt ∙ ap (λ z. Some (Some z)) e)
      by (inr other) = set_other s m (Some (slice_get more 0)) n other ∙ h

  makes_step : (cause : Cause) (s : Notes) (n : ℕ) (more : List ℕ) → cause ≡ Wholes (n ∷ more) → n < length s → HasNote (noted cause s) n (slice_get more 0)
  makes_step cause s n more e lt = subst (λ c. HasNote (noted c s) n (slice_get more 0)) (sym e) (set_here s n (Some (slice_get more 0)) lt)

  -- ---- one node

  module _ (number : ℕ) (node : ForestNode) (there : slice_get f.nodes number ≡ Some node) where
    abbrev AreOf : List Alternative → Type 0
    AreOf xs = (a : Alternative) → Among a xs → Contains node.alternatives a

    held_of : (a : Alternative) → Contains node.alternatives a → Held a.cause
    held_of a has = (number, node, there, a, has, refl)

    sound_all : (xs : List Alternative) → AreOf xs → (s : Notes) → AreSound s → AreSound (all_noted xs s)
    sound_all [] of s h = h
    sound_all (x ∷ xs) of s h = sound_all xs (λ a m. of a (inr m)) (noted x.cause s) (sound_step x.cause (held_of x (of x (inl refl))) s h)

    keeps_all : (xs : List Alternative) → AreOf xs → (s : Notes) (n : ℕ) (next : Option ℕ) → IsNote f n next → n < length s → HasNote s n next → HasNote (all_noted xs s) n next
    keeps_all [] of s n next note lt h = h
    keeps_all (x ∷ xs) of s n next note lt h =
        let same = noted_length (slice_get (whole_nodes x.cause) 0) (slice_get (whole_nodes x.cause) 1) s in
        keeps_all xs (λ a m. of a (inr m)) (noted x.cause s) n next note (subst (λ k. n < k) (sym same) lt) (keeps_step x.cause (held_of x (of x (inl refl))) s n next note lt h)

    makes_all : (xs : List Alternative) → AreOf xs → (s : Notes) (n : ℕ) (more : List ℕ) (a : Alternative) → Among a xs → a.cause ≡ Wholes (n ∷ more) → IsNote f n (slice_get more 0) → n < length s → HasNote (all_noted xs s) n (slice_get more 0)
    makes_all [] of s n more a m e note lt = absurd m
    makes_all (x ∷ xs) of s n more a (inl same) e note lt =
        let long = noted_length (slice_get (whole_nodes x.cause) 0) (slice_get (whole_nodes x.cause) 1) s in
        keeps_all xs (λ b m. of b (inr m)) (noted x.cause s) n (slice_get more 0) note (subst (λ k. n < k) (sym long) lt) (makes_step x.cause s n more (ap (λ (z : Alternative). z.cause) same ∙ e) lt)
    makes_all (x ∷ xs) of s n more a (inr m) e note lt =
        let long = noted_length (slice_get (whole_nodes x.cause) 0) (slice_get (whole_nodes x.cause) 1) s in
        makes_all xs (λ b k. of b (inr k)) (noted x.cause s) n more a m e note (subst (λ k. n < k) (sym long) lt)

  -- ---- all nodes

  abbrev AreThere : List ForestNode → Type 0
  AreThere xs = (node : ForestNode) → Among node xs → (number : ℕ) × (slice_get f.nodes number ≡ Some node)

  alternatives_there : (node : ForestNode) (a : Alternative) → Among a node.alternatives → Contains node.alternatives a
  alternatives_there node a m = contains_from node.alternatives a m

  sound_nodes : (xs : List ForestNode) → AreThere xs → (s : Notes) → AreSound s → AreSound (nodes_noted xs s)
  sound_nodes [] there s h = h
  sound_nodes (x ∷ xs) there s h =
      let (k, at) = there x (inl refl) in
      sound_nodes xs (λ y m. there y (inr m)) (all_noted x.alternatives s) (sound_all k x at x.alternatives (alternatives_there x) s h)

  keeps_nodes : (xs : List ForestNode) → AreThere xs → (s : Notes) (n : ℕ) (next : Option ℕ) → IsNote f n next → n < length s → HasNote s n next → HasNote (nodes_noted xs s) n next
  keeps_nodes [] there s n next note lt h = h
  keeps_nodes (x ∷ xs) there s n next note lt h =
      let (k, at) = there x (inl refl) in
      keeps_nodes xs (λ y m. there y (inr m)) (all_noted x.alternatives s) n next note (subst (λ j. n < j) (sym (all_length x.alternatives s)) lt) (keeps_all k x at x.alternatives (alternatives_there x) s n next note lt h)

  makes_nodes : (xs : List ForestNode) → AreThere xs → (s : Notes) (n : ℕ) (note : (next : Option ℕ) × IsNote f n next) → Among (note.1).node xs → n < length s → HasNote (nodes_noted xs s) n (slice_get (note.1).more 0)
  makes_nodes [] there s n note m lt = absurd m
  makes_nodes (x ∷ xs) there s n (next, note) (inl same) lt =
      let (k, at) = there x (inl refl) in
      let here : IsNote f n (slice_get note.more 0) = subst (IsNote f n) (sym note.next_is) note in
      keeps_nodes xs (λ y m. there y (inr m)) (all_noted x.alternatives s) n (slice_get note.more 0) here (subst (λ j. n < j) (sym (all_length x.alternatives s)) lt)
      (makes_all k x at x.alternatives (alternatives_there x) s n note.more note.alternative (subst (λ (y : ForestNode). Among note.alternative y.alternatives) (sym same) (among_from note.node.alternatives note.alternative note.has)) note.cause here lt)
  makes_nodes (x ∷ xs) there s n (next, note) (inr m) lt =
      makes_nodes xs (λ y k. there y (inr k)) (all_noted x.alternatives s) n (next, note) m (subst (λ j. n < j) (sym (all_length x.alternatives s)) lt)

  -- the first node of a note is a node
  pub note_within : (n : ℕ) (next : Option ℕ) → IsNote f n next → n < length f.nodes
  note_within n next note =
      let a = first_of n note.more (wholes_of note.number note.node note.there note.alternative note.has (n ∷ note.more) note.cause) in
      let (x, at, key) = a.is_node in (get_index f.nodes n x x at).0

  all_there : AreThere f.nodes
  all_there node m = Rattle.finite_sets.proofs.Lists.among_get f.nodes node m

  pub are_notes : (s : Notes) → length s ≡ length f.nodes → ((n : ℕ) (next : Option ℕ) → slice_get s n ≡ Some (Some next) → ⊥) → AreNotes f (nodes_noted f.nodes s)
  are_notes s long none = record {
    long = nodes_length f.nodes s ∙ long;
    sound = sound_nodes f.nodes all_there s (λ n next e. absurd (none n next e));
    all = λ n next note.
        (let lt : n < length s = subst (λ k. n < k) (sym long) (note_within n next note) in
        subst (λ z. HasNote (nodes_noted f.nodes s) n z) note.next_is (makes_nodes f.nodes all_there s n (next, note) (get_among f.nodes note.number note.node note.there) lt));
  }

  -- the first node of a cause is a node
  pub cause_within : (number : ℕ) (node : ForestNode) → slice_get f.nodes number ≡ Some node → (a : Alternative) → Contains node.alternatives a → (n : ℕ) → slice_get (whole_nodes a.cause) 0 ≡ Some n → n < length f.nodes
  cause_within number node there a has n e = by a.cause refl e
    where
      by : (cause : Cause) → a.cause ≡ cause → slice_get (whole_nodes cause) 0 ≡ Some n → n < length f.nodes
      by AnEdge is_cause e' = absurd (none_some e')
      by Nothing is_cause e' = absurd (none_some e')
      by (Wholes []) is_cause e' = absurd (none_some e')
      by (Wholes (m ∷ more)) is_cause e' =
          let (x, at, key) = (first_of m more (wholes_of number node there a has (m ∷ more) is_cause)).is_node in
          subst (λ k. k < length f.nodes) (some_is e') (get_index f.nodes m x x at).0

-- the next alternative, and the next node
pub all_next : (xs : List Alternative) (k : ℕ) (s : Notes) → k < length xs → all_noted (take (k + 1) xs) s ≡ noted (alternative_at xs k).cause (all_noted (take k xs) s)
all_next xs k s lt = ap (λ l. all_noted l s) (take_more xs k (record { start = 0; predecessor = None; cause = AnEdge }) lt) ∙ all_more (take k xs) (alternative_at xs k ∷ []) s

pub nodes_next : (f : Forest) (k : ℕ) (s : Notes) → k < length f.nodes → nodes_noted (take (k + 1) f.nodes) s ≡ all_noted (Rattle.bocage.specs.Readers.node_at f k).alternatives (nodes_noted (take k f.nodes) s)
nodes_next f k s lt = ap (λ l. nodes_noted l s) (take_more f.nodes k (record { key = record { rule = 0; dot = 0; origin = 0; end = 0 }; alternatives = [] }) lt) ∙ nodes_more (take k f.nodes) (Rattle.bocage.specs.Readers.node_at f k ∷ []) s
