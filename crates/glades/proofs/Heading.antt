-- Heads of groups: one for each, told by what is noted and by the key of its first node.
use Rattle.std.proofs.Common.{◌≡◌, ℕ, ◌+◌, ◌<◌, true, false, List, [], ◌∷◌, ◌++◌, length, inl, inr, Option, Some, None, refl, sym, ap, ◌∙◌, subst}
use Rattle.std.specs.Prelude.{slice_get}
use Rattle.std.proofs.lemmas.List.Elements.{Contains-append_left, Contains-push, Contains-push_cases}
use Rattle.grammar_model.specs.Grammar.{Slot}
use Rattle.grammar_model.specs.declared.Ranking.TheVariants.{Rule as RuleRanks}
use Rattle.recognizer_model.specs.declared.NodeKey.{NodeKey}
use Rattle.recognizer_model.specs.declared.flat.FlatSymbol.TheVariants.{Slot as AtLevel}
use Rattle.recognizer_model.specs.Flat.{lhs_of}
use Rattle.recognizer_model.specs.FlatForm.{symbol_at}
use Rattle.forest_model.specs.Forest.{ForestNode, Forest, IsForest, whole_key}
use Rattle.bocage.specs.Readers.{node_at}
use Rattle.glade_laws.specs.Walks.{HasSecond}
use Rattle.glade_laws.specs.Groups.{IsGroup}
use Rattle.glade_laws.proofs.Falling.{part_is}
use Rattle.finite_sets.proofs.Lists.{get_among}
use Rattle.finite_sets.proofs.Members.{contains_from}
use Rattle.glade_laws.proofs.Listed.{symbol_of, wholes}
use Rattle.glades.specs.declared.heads.Head.{Head}
use Rattle.glade_laws.proofs.Choosing.{only_or_second}
use Rattle.glades.specs.Links.{Notes, IsNote, AreNotes}
use Rattle.glades.specs.Heads.{last_place, IsTwo, IsHead, IsLeft, IsNoHead, IsNoteOf, PutsHead}
use Rattle.glades.proofs.Nodes.{there_node}
use Rattle.glades.proofs.Noting.{wholes_of, first_of, one_note, note_within}

module _ (f : Forest) (is : IsForest f) (rule : f.ranking ≡ RuleRanks) where
  some_is : {X : Type 0} {x y : X} → Some x ≡ Some y → x ≡ y
  some_is e = cc

  -- what the key of a group's first node says
  pub record IsKeyed (n : ℕ) (slot : Slot) (p q : ℕ) : Type 0 where
    pub origin : (node_at f n).key.origin ≡ p
    pub end : (node_at f n).key.end ≡ q
    pub left : symbol_at f.flat (lhs_of f.flat (node_at f n).key.rule) ≡ AtLevel slot.symbol slot.level

  pub keyed : (n : ℕ) (slot : Slot) (p q : ℕ) (more : List ℕ) → IsGroup f slot p q (n ∷ more) → IsKeyed n slot p q
  keyed n slot p q more group =
      let x = symbol_of f is rule slot p q (n ∷ more) group in
      let first = first_of f is n more (record { symbol = x; from = p; to = q; wholes = wholes f is rule slot p q (n ∷ more) group }) in
      let (node, at, key) = first.is_node in
      let here : (node_at f n).key ≡ whole_key f first.rule p q = ap (λ (m : ForestNode). m.key) (there_node f n node at).1 ∙ key in
      record {
        origin = ap (λ (z : NodeKey). z.origin) here;
        end = ap (λ (z : NodeKey). z.end) here;
        left = ap (λ (z : NodeKey). symbol_at f.flat (lhs_of f.flat z.rule)) here ∙ ap (symbol_at f.flat) first.left ∙ group.symbol;
      }

  slots : {s l s' l' : ℕ} → AtLevel s l ≡ AtLevel s' l' → (s ≡ s') × (l ≡ l')
  slots e = (cc, cc)

  -- a node begins the group of one slot over one span
  pub one_place : (n m : ℕ) (slot slot' : Slot) (p q p' q' : ℕ) → IsTwo f n slot p q → IsTwo f m slot' p' q' → n ≡ m → (slot ≡ slot') × (p ≡ p') × (q ≡ q')
  one_place n m slot slot' p q p' q' a b same =
      let x = keyed n slot p q a.more a.group in
      let y = keyed m slot' p' q' b.more b.group in
      let node : node_at f n ≡ node_at f m = ap (node_at f) same in
      let (symbol, level) = slots (sym x.left ∙ ap (λ (z : ForestNode). symbol_at f.flat (lhs_of f.flat z.key.rule)) node ∙ y.left) in
      ((λ i. record { symbol = symbol i; level = level i }), sym x.origin ∙ ap (λ (z : ForestNode). z.key.origin) node ∙ y.origin, sym x.end ∙ ap (λ (z : ForestNode). z.key.end) node ∙ y.end)

  pub note_of : (n : ℕ) (slot : Slot) (p q : ℕ) (k : IsTwo f n slot p q) → IsNote f n (slice_get k.more 0)
  note_of n slot p q k = record { number = k.group.number; node = k.group.node; there = k.group.there; alternative = k.group.alternative; has = k.group.has; more = k.more; cause = k.group.cause; next_is = refl }

  pub two_within : (n : ℕ) (slot : Slot) (p q : ℕ) → IsTwo f n slot p q → n < length f.nodes
  two_within n slot p q k = note_within f is n (slice_get k.more 0) (note_of n slot p q k)

  -- of a node that begins a group of a slot
  pub two_is : (n : ℕ) (next : Option ℕ) → IsNote f n next → (slot : Slot) → symbol_at f.flat (lhs_of f.flat (node_at f n).key.rule) ≡ AtLevel slot.symbol slot.level →
      (next ≡ None → HasSecond f n true) → IsTwo f n slot (node_at f n).key.origin (node_at f n).key.end
  two_is n next note slot left two =
      let w = wholes_of f is note.number note.node note.there note.alternative note.has (n ∷ note.more) note.cause in
      let first = first_of f is n note.more w in
      let (node, at, key) = first.is_node in
      let here : (node_at f n).key ≡ whole_key f first.rule w.from w.to = ap (λ (z : ForestNode). z.key) (there_node f n node at).1 ∙ key in
      let al = is.alternatives note.node (contains_from f.nodes note.node (get_among f.nodes note.number note.node note.there)) in
      record {
        more = note.more;
        group = record {
          number = note.number;
          node = note.node;
          there = note.there;
          alternative = note.alternative;
          has = note.has;
          symbol = ap (symbol_at f.flat) (part_is f is note.node al ∙ sym first.left ∙ ap (λ (z : NodeKey). lhs_of f.flat z.rule) (sym here)) ∙ left;
          start = ap (λ (z : NodeKey). z.origin) (sym here);
          end = ap (λ (z : NodeKey). z.end) (sym here);
          cause = note.cause;
        };
        two = λ e. two (sym note.next_is ∙ e);
      }

  pub head_is : (n : ℕ) (next : Option ℕ) → IsNote f n next → (s l back : ℕ) → IsLeft f n s l → (key : NodeKey) → key ≡ (node_at f n).key → back + key.end ≡ last_place →
      (next ≡ None → HasSecond f n true) → IsHead f (record { from = key.origin; back = back; symbol = s; level = l; node = n })
  head_is n next note s l back left key same sum two =
      subst (λ (k : NodeKey). back + k.end ≡ last_place → IsHead f (record { from = k.origin; back = back; symbol = s; level = l; node = n })) (sym same)
      (λ h. record { to = (node_at f n).key.end; back = h; is_two = two_is n next note (record { symbol = s; level = l }) left two }) sum

  -- and of another there is none
  pub no_slot : (n : ℕ) → ((s l : ℕ) → IsLeft f n s l → ⊥) → IsNoHead f n
  no_slot n other slot p q k = other slot.symbol slot.level (keyed n slot p q k.more k.group).left

  pub no_second : (n : ℕ) (next : Option ℕ) → IsNote f n next → next ≡ None → HasSecond f n false → IsNoHead f n
  no_second n next note none (s, only) slot p q k =
      let (t, u, second) = k.two (one_note f is n (slice_get k.more 0) next (note_of n slot p q k) note ∙ none) in only_or_second f n s t u only second

  pub not_noted : (notes : Notes) → AreNotes f notes → (n : ℕ) (note : Option (Option ℕ)) → slice_get notes n ≡ Some note → IsNoteOf f n note
  not_noted notes are n None at = λ slot p q k. none_some (some_is (sym at ∙ are.all n (slice_get k.more 0) (note_of n slot p q k)))
    where
      none_some : {x : Option ℕ} → None ≡ Some x → ⊥
      none_some e = cc
  not_noted notes are n (Some next) at = are.sound n next at

-- ---- heads one after another

module _ (f : Forest) (n : ℕ) (heads : List Head) where
  pub puts_none : IsNoHead f n → PutsHead f n heads heads
  puts_none none = record { each = λ h c. inl c; kept = λ h c. c; all = λ slot p q k. absurd (none slot p q k) }

  pub puts_one : (head : Head) → IsHead f head → head.node ≡ n → PutsHead f n heads (heads ++ head ∷ [])
  puts_one head is same = record {
    each = λ h c. elim (Contains-push_cases heads head h c) [ inl o ↦ inl o | inr e ↦ inr (subst (IsHead f) e is) ];
    kept = λ h c. Contains-append_left heads (head ∷ []) h c;
    all = λ slot p q k. (head, Contains-push heads head, same);
  }
