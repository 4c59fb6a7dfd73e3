-- The derivations of an input of single characters: listed over a simple grammar by the plain lister, and one list.
use Rattle.std.proofs.Common.{◌≡◌, ℕ, suc, ◌<◌, List, length, Bool, true, false, Option, None, Some, refl, sym, ap, ◌∙◌, subst, arith}
use Rattle.std.specs.Prelude.{◌&&◌, ◌==◌, slice_get}
use Rattle.std.proofs.lemmas.Bool.{and_parts, and_from, eqb-true, eq-eqb, true≢false}
use Rattle.std.proofs.lemmas.Slice.Eq.{bytes_eq-Decides}
use Rattle.std.specs.Str.{bytes_eq}
use Rattle.grammar_model.specs.Grammar.{Grammar, WrittenRule, Slot, rule_at, slot_of, child_slot}
use Rattle.grammar_model.specs.Trees.{Tree, Children, Leaf, Nulled, Node, NoChild, Child, child_count}
use Rattle.grammar_model.specs.Derives.{Edges, Derives, DerivesPrefix}
use Rattle.grammar_model.specs.Order.{RuleOrder, RuleRanks, rank_order}
use Rattle.grammar_model.specs.All.{IsAll}
use Rattle.grammar_model.specs.Simple.{IsSimple, Tested, simple_trees}
use Rattle.grammar_model.specs.Characters.{IsQuoted, Quoted, IsAllOfCharacters, quoted_name, is_named, is_quoted}
use Rattle.grammar_model.proofs.Sorting.{ranks_order}
use Rattle.grammar_model.proofs.Total.{all_unique}
use Rattle.grammar_model.proofs.Simple.{trees_all}

-- edges that hold where others do give the derivations that those give
module _ (g : Grammar) (e f : Edges) (holds : (s i j : ℕ) → e s i j → f s i j) where
  mutual
    pub derives_so : (slot : Slot) (p q : ℕ) (t : Tree) → Derives g e slot p q t → Derives g f slot p q t
    derives_so slot p q (Leaf s i j) d = record { symbol_is = d.symbol_is; from_is = d.from_is; to_is = d.to_is; terminal = d.terminal; held = holds s i j d.held }
    derives_so slot p q (Nulled s at) d = d
    derives_so slot p q (Node i children from to) d = record {
      from_is = d.from_is;
      to_is = d.to_is;
      spans = d.spans;
      in_range = d.in_range;
      fits = d.fits;
      complete = d.complete;
      prefix = prefix_so (rule_at g i) p q children d.prefix;
    }

    prefix_so : (rule : WrittenRule) (p q : ℕ) (children : Children) → DerivesPrefix g e rule p q children → DerivesPrefix g f rule p q children
    prefix_so rule p q NoChild d = d
    prefix_so rule p q (Child prefix last) d = (d.0, prefix_so rule p d.0 prefix d.1, derives_so (child_slot rule (child_count prefix)) d.0 q last d.2)

pub all_so : (g : Grammar) (e f : Edges) (order : RuleOrder) (slot : Slot) (p q : ℕ) (trees : List Tree)
    → ((s i j : ℕ) → e s i j → f s i j) → ((s i j : ℕ) → f s i j → e s i j) → IsAll g e order slot p q trees → IsAll g f order slot p q trees
all_so g e f order slot p q trees forth back all = record {
  sorted = all.sorted;
  each = λ t. (λ c. derives_so g e f forth slot p q t ((all.each t).0 c), λ d. (all.each t).1 (derives_so g f e back slot p q t d));
}

named_from : (byte : Option ℕ) (name : Option (List ℕ)) → is_named byte name ≡ true → (c : ℕ) × (byte ≡ Some c) × (name ≡ Some (quoted_name c))
named_from (Some c) (Some name) e = (c, refl, ap Some ((bytes_eq-Decides name (quoted_name c)).0 e))
named_from (Some c) None e = absurd (true≢false (sym e))
named_from None name e = absurd (true≢false (sym e))

from_named : (byte : Option ℕ) (name : Option (List ℕ)) (c : ℕ) → byte ≡ Some c → name ≡ Some (quoted_name c) → is_named byte name ≡ true
from_named byte name c e f = ap (λ b. is_named b name) e ∙ ap (is_named (Some c)) f ∙ (bytes_eq-Decides (quoted_name c) (quoted_name c)).1 refl

module _ (g : Grammar) (input : List ℕ) where
  pub quoted_from : (s i j : ℕ) → Tested (is_quoted g input) s i j → Quoted g input s i j
  quoted_from s i j e =
      let parts = and_parts (is_named (slice_get input i) (slice_get g.names s)) (j == suc i) e in
      let named = named_from (slice_get input i) (slice_get g.names s) parts.0 in
      record { character = named.0; at_place = named.1; named = named.2; one_long = eqb-true j (suc i) parts.1 }

  pub from_quoted : (s i j : ℕ) → Quoted g input s i j → Tested (is_quoted g input) s i j
  from_quoted s i j q =
      and_from (is_named (slice_get input i) (slice_get g.names s)) (j == suc i)
      (from_named (slice_get input i) (slice_get g.names s) q.character q.at_place q.named) (eq-eqb j (suc i) q.one_long)

  pub quoted_forward : (s i j : ℕ) → Tested (is_quoted g input) s i j → i < j
  quoted_forward s i j e = let q = quoted_from s i j e in omega (arith, q.one_long)

  -- what the plain lister lists from the start
  abbrev pub listed_from : ℕ → List Tree
  listed_from start = simple_trees g (is_quoted g input) (suc (length input)) (slot_of start) 0 (length input)

  pub characters_listed : IsSimple g → (start : ℕ) → slice_get g.starts 0 ≡ Some start → IsAllOfCharacters g input (listed_from start)
  characters_listed simple start first = (
    start,
    first,
    all_so g (Tested (is_quoted g input)) (Quoted g input) (rank_order g RuleRanks) (slot_of start) 0 (length input) _ quoted_from from_quoted
        (trees_all g (is_quoted g input) RuleRanks simple quoted_forward (suc (length input)) (slot_of start) 0 (length input) (omega arith)),
  )

  pub characters_unique : (ts us : List Tree) → IsAllOfCharacters g input ts → IsAllOfCharacters g input us → us ≡ ts
  characters_unique ts us (s, first, a) (s', first', b) =
      let same : s' ≡ s = cc in
      all_unique g (Quoted g input) (rank_order g RuleRanks) (ranks_order g RuleRanks) (slot_of s) 0 (length input) us ts
      (subst (λ z. IsAll g (Quoted g input) (rank_order g RuleRanks) (slot_of z) 0 (length input) us) same b) a
