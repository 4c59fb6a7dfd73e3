-- What the starts of the lexical grammar match: the start of a quoted character matches that character alone.
use Rattle.std.proofs.Common.{◌≡◌, ℕ, zero, suc, ◌+◌, ◌<◌, ◌&&◌, nat_le, ◌||◌, Bool, true, false, IsTrue, List, slice_get, slice_index, slice_index_or, Some, refl, sym, ◌∙◌, ap, subst, arith, le-leb, leb-true}
use Rattle.std.proofs.lemmas.Bool.{and_parts}
use Rattle.grammar_model.specs.Grammar.{WrittenRule, Plain, Sequence, IsPlain, slot_of, rule_at, slot_count, IsChildCount, IsTerminal}
use Rattle.grammar_model.specs.Trees.{Tree, Children, Leaf, Nulled, Node, NoChild, Child, child_count}
use Rattle.grammar_model.specs.Derives.{Derives, DerivesPrefix}
use Rattle.language_model.specs.Classes.{Class, HasMember}
use Rattle.reading_model.specs.Matches.{IsInSet, CharacterEdges, Matches}
use Rattle.work_laws.proofs.Building.{work_l0, work_built, character}
use Rattle.work_laws.proofs.Plain.{none_nullable}
use Rattle.work_laws.proofs.Lexical.{solid, plain, one_part, left_is, part_is, terminal, no_terminal, fits}

-- the character of a lexeme, by its number among the starts
abbrev pub spelling : ℕ → ℕ
spelling zero = 97
spelling (suc zero) = 40
spelling (suc (suc n)) = 41

pub one_spelling : (m n : ℕ) → m < 3 → n < 3 → spelling m ≡ spelling n → m ≡ n
one_spelling zero zero lt lt' e = refl
one_spelling zero (suc zero) lt lt' e = omega (arith, e)
one_spelling zero (suc (suc n)) lt lt' e = omega (arith, e)
one_spelling (suc zero) zero lt lt' e = omega (arith, e)
one_spelling (suc zero) (suc zero) lt lt' e = refl
one_spelling (suc zero) (suc (suc n)) lt lt' e = omega (arith, e)
one_spelling (suc (suc m)) zero lt lt' e = omega (arith, e)
one_spelling (suc (suc m)) (suc zero) lt lt' e = omega (arith, e)
one_spelling (suc (suc m)) (suc (suc n)) lt lt' e = omega (arith, lt, lt')

-- ---- sets

member : (m : ℕ) → HasMember (character m) m
member m = rw (le-leb m m (omega arith)) refl

is_member : (m c : ℕ) → HasMember (character m) c → c ≡ m
is_member m c h = first (nat_le m c && nat_le c m) refl h
  where
    first : (b : Bool) → (nat_le m c && nat_le c m) ≡ b → IsTrue (b || false) → c ≡ m
    first true e t = let (low, high) = and_parts (nat_le m c) (nat_le c m) e in let a = leb-true m c low in let b = leb-true c m high in omega (arith, a, b)
    first false e t = absurd (let clash : false ≡ true = t in cc)

set_is : (n : ℕ) (d : ℕ × Class) → n < 3 → slice_index_or work_built.sets n d ≡ (3 + n, character (spelling n))
set_is zero d lt = refl
set_is (suc zero) d lt = refl
set_is (suc (suc zero)) d lt = refl
set_is (suc (suc (suc n))) d lt = absurd (omega arith)

in_set : (n : ℕ) → n < 3 → IsInSet work_built (3 + n) (spelling n)
in_set n lt = record { set = character (spelling n); is_set = (n, lt, set_is n _ lt); member = member (spelling n) }

same_set : (k n c : ℕ) (x y : ℕ × Class) → x ≡ y → (3 + k) ≡ x.0 → x.1 ≡ character (spelling k) → y.0 ≡ 3 + n → HasMember y.1 c → c ≡ spelling n
same_set k n c x y e number is number' h =
    let first = ap (λ (z : ℕ × Class). z.0) e in
    let same : k ≡ n = omega (arith, number, number', first) in
    is_member (spelling k) c (subst (λ s. HasMember s c) (sym (ap (λ (z : ℕ × Class). z.1) e) ∙ is) h) ∙ ap spelling same

is_in_set : (n c : ℕ) → IsInSet work_built (3 + n) c → c ≡ spelling n
is_in_set n c h =
    let (k, lt, e) = h.is_set in
    same_set k n c (3 + k, character (spelling k)) (3 + n, h.set) (sym (set_is k (3 + n, h.set) lt) ∙ e) refl refl refl h.member

-- ---- matches

start_number : (n : ℕ) → n < 3 → slice_index work_l0.starts n ≡ n
start_number zero lt = refl
start_number (suc zero) lt = refl
start_number (suc (suc zero)) lt = refl
start_number (suc (suc (suc n))) lt = absurd (omega arith)

child_number : (rule : WrittenRule) (n : ℕ) → IsPlain rule → IsChildCount rule n → n ≡ slot_count rule
child_number (Plain r) n p c = c
child_number (Sequence r) n p c = absurd p

number_child : (rule : WrittenRule) (n : ℕ) → IsPlain rule → n ≡ slot_count rule → IsChildCount rule n
number_child (Plain r) n p e = e
number_child (Sequence r) n p e = absurd p

module _ (text : List ℕ) where
  pub matches : (n from to : ℕ) → n < 3 → slice_get text from ≡ Some (spelling n) → suc from ≡ to → Matches work_built text n from to
  matches n from to lt c e = (
    Node n (Child NoChild (Leaf (3 + n) from to)) from to,
    subst (λ s. Derives work_l0 (CharacterEdges work_built text) (slot_of s) from to (Node n (Child NoChild (Leaf (3 + n) from to)) from to)) (sym (start_number n lt))
        record {
          from_is = refl;
          to_is = refl;
          spans = omega (arith, e);
          in_range = lt;
          fits = fits n lt;
          complete = number_child (rule_at work_l0 n) 1 (plain n) (sym (one_part n lt));
          prefix = (from, refl, subst (λ s. Derives work_l0 (CharacterEdges work_built text) s from to (Leaf (3 + n) from to)) (sym (part_is n lt)) leaf);
        },
  )
    where
      leaf : Derives work_l0 (CharacterEdges work_built text) (slot_of (3 + n)) from to (Leaf (3 + n) from to)
      leaf = record { symbol_is = refl; from_is = refl; to_is = refl; terminal = terminal (3 + n) (omega arith); held = (sym e, (spelling n, c, in_set n lt)) }

  -- the derivation of a set's symbol is its character
  part_matched : (n p q : ℕ) (t : Tree) → Derives work_l0 (CharacterEdges work_built text) (slot_of (3 + n)) p q t → (suc p ≡ q) × (slice_get text p ≡ Some (spelling n))
  part_matched n p q (Leaf s from to) d =
      let (next, (c, at, set)) = subst (λ z. CharacterEdges work_built text z from to) d.symbol_is d.held in
      (ap suc (sym d.from_is) ∙ sym next ∙ d.to_is, ap (slice_get text) (sym d.from_is) ∙ at ∙ ap Some (is_in_set n c set))
  part_matched n p q (Nulled s at) d = absurd (none_nullable work_l0 solid (slot_of (3 + n)) d.nullable)
  part_matched n p q (Node i children from to) d = absurd (terminal (3 + n) (omega arith) i d.in_range d.fits.0)

  prefix_matched : (n p q : ℕ) (children : Children) → n < 3 → child_count children ≡ 1 → DerivesPrefix work_l0 (CharacterEdges work_built text) (rule_at work_l0 n) p q children → (suc p ≡ q) × (slice_get text p ≡ Some (spelling n))
  prefix_matched n p q NoChild lt e d = absurd (omega (arith, e))
  prefix_matched n p q (Child NoChild t) lt e (r, here, d) =
      part_matched n p q t (subst (λ z. Derives work_l0 (CharacterEdges work_built text) (slot_of (3 + n)) z q t) (sym here) (subst (λ s. Derives work_l0 (CharacterEdges work_built text) s r q t) (part_is n lt) d))
  prefix_matched n p q (Child (Child prefix u) t) lt e d = absurd (omega (arith, e))

  tree_matched : (n p q : ℕ) (t : Tree) → n < 3 → Derives work_l0 (CharacterEdges work_built text) (slot_of n) p q t → (suc p ≡ q) × (slice_get text p ≡ Some (spelling n))
  tree_matched n p q (Leaf s from to) lt d = absurd (no_terminal n lt (subst (IsTerminal work_l0) d.symbol_is d.terminal))
  tree_matched n p q (Nulled s at) lt d = absurd (none_nullable work_l0 solid (slot_of n) d.nullable)
  tree_matched n p q (Node i children from to) lt d =
      let same : i ≡ n = sym (left_is i d.in_range) ∙ d.fits.0 in
      let count = child_number (rule_at work_l0 i) (child_count children) (plain i) d.complete ∙ one_part i d.in_range in
      prefix_matched n p q children lt count (subst (λ z. DerivesPrefix work_l0 (CharacterEdges work_built text) (rule_at work_l0 z) p q children) same d.prefix)

  pub matched : (n from to : ℕ) → n < 3 → Matches work_built text n from to → (suc from ≡ to) × (slice_get text from ≡ Some (spelling n))
  matched n from to lt (t, d) = tree_matched n from to t lt (subst (λ s. Derives work_l0 (CharacterEdges work_built text) (slot_of s) from to t) (start_number n lt) d)
