-- The definitions at grammars of a few rules.
use Rattle.std.proofs.Common.{◌≡◌, ℕ, zero, suc, ◌<◌, Bool, true, false, List, [], ◌∷◌, ◌++◌, ◌⊎◌, inl, inr, Some, None, refl, sym, ap, ◌∙◌, subst, arith, lit<, lit≤, ◌≤ℤ◌}
use Rattle.std.specs.Prelude.{pos, codes, slice_get}
use Rattle.std.specs.Int.Signed.{le_z_yes}
use Rattle.std.specs.List.Sorted.{IsStrictlySortedBy}
use Rattle.std.specs.Str.{chars}
use Rattle.std.specs.Char.{encode_utf8}
use Rattle.std.specs.Fmt.{digits}
use Rattle.std.specs.declared.cmp.Ordering.TheVariants.{Greater}
use Rattle.finite_sets.proofs.Members.{among_from, contains_from, Among}
use Rattle.grammar_model.specs.Grammar.{Assoc, Left, Right, Group, SequenceRule, WrittenRule, Plain, Sequence, Grammar, Slot, slot_of, rule_at, rank_of, lhs_of, child_slot, IsTerminal, IsChildCount}
use Rattle.grammar_model.specs.Trees.{Tree, Children, Leaf, Nulled, Node, NoChild, Child, child_count}
use Rattle.grammar_model.specs.Derives.{Edges, Line, Derives, DerivesPrefix}
use Rattle.grammar_model.specs.declared.Ranking.TheVariants.{None as NoRanks, Rule as RuleRanks, High as HighRanks}
use Rattle.grammar_model.specs.declared.DescItem.TheVariants.{Name as ItemName, Symbol as ItemSymbol, Start as ItemStart, Length as ItemLength, G1Start as ItemG1Start, G1Length as ItemG1Length, Values as ItemValues}
use Rattle.grammar_model.specs.declared.Show.TheVariants.{Array as ShowArray, Tree as ShowTree}
use Rattle.grammar_model.specs.Order.{rank_order, tree_cmp, Before}
use Rattle.grammar_model.specs.All.{IsAll}
use Rattle.grammar_model.specs.Chosen.{IsBest, AreBest, AreChosen}
use Rattle.grammar_model.specs.Values.{Text, value_of, Meaning, RuleMeaning, MakeArray, MakeItems, Token}
use Rattle.grammar_model.specs.Text.{text_of}
use Rattle.grammar_model.specs.Analysis.{IsProductive, IsAccessible}
use Rattle.grammar_model.specs.Cycles.{IsCycle}

abbrev pub rule : (lhs : ℕ) (rhs : List ℕ) (level groups : ℕ) → Assoc → WrittenRule
rule lhs rhs level groups assoc = Plain (record { lhs = lhs; rhs = rhs; level = level; groups = groups; assoc = assoc; rank = pos 0; null_high = false })

-- E ::= E plus E | N; N is a digit
abbrev sums : Grammar
sums = record { names = codes "E" ∷ codes "+" ∷ codes "N" ∷ []; rules = rule 0 (0 ∷ 1 ∷ 0 ∷ []) 0 1 Left ∷ rule 0 (2 ∷ []) 0 1 Left ∷ []; starts = 0 ∷ [] }

-- the children, in order
abbrev three : Tree → Tree → Tree → Children
three a b c = Child (Child (Child NoChild a) b) c

abbrev digit : ℕ → Tree
digit p = Node 1 (Child NoChild (Leaf 2 p (suc p))) p (suc p)

abbrev plus_at : ℕ → Tree
plus_at p = Leaf 1 p (suc p)

abbrev to_the_left : Tree
to_the_left = Node 0 (three (Node 0 (three (digit 0) (plus_at 1) (digit 2)) 0 3) (plus_at 3) (digit 4)) 0 5

abbrev to_the_right : Tree
to_the_right = Node 0 (three (digit 0) (plus_at 1) (Node 0 (three (digit 2) (plus_at 3) (digit 4)) 2 5)) 0 5

left_first : Before (rank_order sums RuleRanks) to_the_left to_the_right
left_first = refl

right_after : tree_cmp (rank_order sums RuleRanks) to_the_right to_the_left ≡ Greater
right_after = refl

-- S ::= B B; B ::= 'a'; B ::=
abbrev nulls : Bool → Grammar
nulls high = record {
  names = codes "S" ∷ codes "B" ∷ codes "'a'" ∷ [];
  rules = Plain (record { lhs = 0; rhs = 1 ∷ 1 ∷ []; level = 0; groups = 1; assoc = Left; rank = pos 0; null_high = high }) ∷ rule 1 (2 ∷ []) 0 1 Left ∷ rule 1 [] 0 1 Left ∷ [];
  starts = 0 ∷ [];
}

abbrev letter : Tree
letter = Node 1 (Child NoChild (Leaf 2 0 1)) 0 1

abbrev nulled_then_letter : Tree
nulled_then_letter = Node 0 (Child (Child NoChild (Nulled 1 0)) letter) 0 1

abbrev letter_then_nulled : Tree
letter_then_nulled = Node 0 (Child (Child NoChild letter) (Nulled 1 1)) 0 1

low_nulls_last : Before (rank_order (nulls false) RuleRanks) nulled_then_letter letter_then_nulled
low_nulls_last = refl

high_nulls_first : Before (rank_order (nulls true) RuleRanks) letter_then_nulled nulled_then_letter
high_nulls_first = refl

-- E ::= N | '(' E ')' assoc => group || E '**' E assoc => right || E '*' E || E '+' E, with the numbers 0 E, 1 N, 2 (, 3 ), 4 **, 5 *, 6 +
abbrev calculator : Grammar
calculator = record {
  names = codes "E" ∷ codes "N" ∷ codes "'('" ∷ codes "')'" ∷ codes "'**'" ∷ codes "'*'" ∷ codes "'+'" ∷ [];
  rules = rule 0 (1 ∷ []) 3 4 Left ∷ rule 0 (2 ∷ 0 ∷ 3 ∷ []) 3 4 Group ∷ rule 0 (0 ∷ 4 ∷ 0 ∷ []) 2 4 Right ∷ rule 0 (0 ∷ 5 ∷ 0 ∷ []) 1 4 Left ∷ rule 0 (0 ∷ 6 ∷ 0 ∷ []) 0 4 Left ∷ [];
  starts = 0 ∷ [];
}

abbrev at_level : ℕ → ℕ → Slot
at_level symbol level = record { symbol = symbol; level = level }

inside_brackets : child_slot (rule_at calculator 1) 1 ≡ at_level 0 0
inside_brackets = refl

power_left : child_slot (rule_at calculator 2) 0 ≡ at_level 0 3
power_left = refl

power_right : child_slot (rule_at calculator 2) 2 ≡ at_level 0 2
power_right = refl

times_left : child_slot (rule_at calculator 3) 0 ≡ at_level 0 1
times_left = refl

times_right : child_slot (rule_at calculator 3) 2 ≡ at_level 0 2
times_right = refl

sum_left : child_slot (rule_at calculator 4) 0 ≡ at_level 0 0
sum_left = refl

sum_right : child_slot (rule_at calculator 4) 2 ≡ at_level 0 1
sum_right = refl

-- S ::= 'a' over a
abbrev one_letter : Grammar
one_letter = record { names = codes "S" ∷ codes "'a'" ∷ []; rules = rule 0 (1 ∷ []) 0 1 Left ∷ []; starts = 0 ∷ [] }

abbrev arrays : Meaning
arrays = record { rules = record { action = MakeArray; shown = true ∷ []; sequence = false; separated = false } ∷ []; lexeme = None }

abbrev a_token : List Token
a_token = record { start = 0; length = 1; text = codes "a" } ∷ []

one_line : text_of (value_of ShowArray one_letter arrays a_token (Node 0 (Child NoChild (Leaf 1 0 1)) 0 1)) ≡ codes "[\"a\"]"
unfolding chars encode_utf8
one_line = refl

one_tree : text_of (value_of ShowTree one_letter arrays a_token (Node 0 (Child NoChild (Leaf 1 0 1)) 0 1)) ≡ codes "[\"S\",0,[\"'a'\",\"a\"]]"
unfolding chars encode_utf8 digits
one_tree = refl

escapes : text_of (Text (codes "\"$@\\" ++ 10 ∷ 0 ∷ 194 ∷ 133 ∷ 195 ∷ 164 ∷ [])) ≡ codes "\"\\\"\\$\\@\\\\\\n\\x{00}\\x{85}" ++ 195 ∷ 164 ∷ 34 ∷ []
unfolding chars encode_utf8
escapes = refl

-- S ::= P | Q rank => 5; the higher rank first, and without ranks the lower number
abbrev ranked : Grammar
ranked = record {
  names = codes "S" ∷ codes "P" ∷ codes "Q" ∷ codes "x" ∷ [];
  rules = rule 0 (1 ∷ []) 0 1 Left ∷ Plain (record { lhs = 0; rhs = 2 ∷ []; level = 0; groups = 1; assoc = Left; rank = pos 5; null_high = false }) ∷ rule 1 (3 ∷ []) 0 1 Left ∷ rule 2 (3 ∷ []) 0 1 Left ∷ [];
  starts = 0 ∷ [];
}

abbrev by_rule : (i j : ℕ) → Tree
by_rule i j = Node i (Child NoChild (Node j (Child NoChild (Leaf 3 0 1)) 0 1)) 0 1

rank_first : Before (rank_order ranked RuleRanks) (by_rule 1 3) (by_rule 0 2)
rank_first = refl

number_first : Before (rank_order ranked NoRanks) (by_rule 0 2) (by_rule 1 3)
number_first = refl

-- over one x it has two derivations, and under `high` that of the higher rank is chosen
abbrev one_x : Edges
one_x = Line (3 ∷ [])

x_terminal : IsTerminal ranked 3
x_terminal zero lt = grind arith
x_terminal (suc zero) lt = grind arith
x_terminal (suc (suc zero)) lt = grind arith
x_terminal (suc (suc (suc zero))) lt = grind arith
x_terminal (suc (suc (suc (suc i)))) lt = absurd (omega arith)

-- each rule has one part
data Unary (s : ℕ) : Tree → Type 0 where
  ALeaf : s ≡ 3 → Unary s (Leaf 3 0 1)
  ByRule : (i x : ℕ) (u : Tree) → lhs_of (rule_at ranked i) ≡ s → i < 4 → child_slot (rule_at ranked i) 0 ≡ slot_of x → Derives ranked one_x (slot_of x) 0 1 u → Unary s (Node i (Child NoChild u) 0 1)

part_at : (i : ℕ) → i < 4 → (x : ℕ) × (child_slot (rule_at ranked i) 0 ≡ slot_of x) × ((n : ℕ) → IsChildCount (rule_at ranked i) n → n ≡ 1)
part_at zero lt = (1, refl, λ n e. e)
part_at (suc zero) lt = (2, refl, λ n e. e)
part_at (suc (suc zero)) lt = (3, refl, λ n e. e)
part_at (suc (suc (suc zero))) lt = (3, refl, λ n e. e)
part_at (suc (suc (suc (suc i)))) lt = absurd (omega arith)

unary : (t : Tree) (s : ℕ) → Derives ranked one_x (slot_of s) 0 1 t → Unary s t
unary (Leaf y a b) s d =
    let from : a ≡ 0 = d.from_is in
    let to : b ≡ 1 = d.to_is in
    let held : slice_get {X = ℕ} (3 ∷ []) 0 ≡ Some y = subst (λ k. slice_get {X = ℕ} (3 ∷ []) k ≡ Some y) from d.held.0 in
    let is : 3 ≡ y = cc in
    subst (Unary s) (λ i. Leaf (is i) (sym from i) (sym to i)) (ALeaf (sym d.symbol_is ∙ sym is))
unary (Nulled y a) s d = let e = d.from_is in let e' = d.to_is in absurd (omega arith)
unary (Node i cs a b) s d =
    let (x, slot, one) = part_at i d.in_range in
    go cs x slot (one (child_count cs) d.complete) d.prefix
  where
    go : (cs : Children) (x : ℕ) → child_slot (rule_at ranked i) 0 ≡ slot_of x → child_count cs ≡ 1 → DerivesPrefix ranked one_x (rule_at ranked i) 0 1 cs → Unary s (Node i cs a b)
    go NoChild x slot c fr = absurd (omega arith)
    go (Child (Child prefix v) u) x slot c fr = absurd (omega arith)
    go (Child NoChild u) x slot c (m, e, fr) =
        let under : Derives ranked one_x (slot_of x) 0 1 u = subst (λ z. Derives ranked one_x z 0 1 u) slot (subst (λ z. Derives ranked one_x (child_slot (rule_at ranked i) 0) z 1 u) (sym e) fr) in
        subst (Unary s) (λ k. Node i (Child NoChild u) (sym d.from_is k) (sym d.to_is k)) (ByRule i x u d.fits.0 d.in_range slot under)

-- of P and Q there is one derivation each
abbrev one_part : ℕ → Tree
one_part j = Node j (Child NoChild (Leaf 3 0 1)) 0 1

x_alone : (u : Tree) → Unary 3 u → u ≡ Leaf 3 0 1
x_alone u (ALeaf e) = refl
x_alone u (ByRule i x v l lt slot d) = absurd (x_terminal i (omega (arith, lt)) l)

p_alone : (u : Tree) → Unary 1 u → u ≡ one_part 2
p_alone u (ALeaf e) = absurd (omega arith)
p_alone u (ByRule zero x v l lt slot d) = absurd (omega arith)
p_alone u (ByRule (suc zero) x v l lt slot d) = absurd (omega arith)
p_alone u (ByRule (suc (suc zero)) x v l lt slot d) = let is : x ≡ 3 = sym (ap (λ (z : Slot). z.symbol) slot) in ap (λ w. Node 2 (Child NoChild w) 0 1) (x_alone v (unary v 3 (subst (λ z. Derives ranked one_x (slot_of z) 0 1 v) is d)))
p_alone u (ByRule (suc (suc (suc zero))) x v l lt slot d) = absurd (omega arith)
p_alone u (ByRule (suc (suc (suc (suc i)))) x v l lt slot d) = absurd (omega arith)

q_alone : (u : Tree) → Unary 2 u → u ≡ one_part 3
q_alone u (ALeaf e) = absurd (omega arith)
q_alone u (ByRule zero x v l lt slot d) = absurd (omega arith)
q_alone u (ByRule (suc zero) x v l lt slot d) = absurd (omega arith)
q_alone u (ByRule (suc (suc zero)) x v l lt slot d) = absurd (omega arith)
q_alone u (ByRule (suc (suc (suc zero))) x v l lt slot d) = let is : x ≡ 3 = sym (ap (λ (z : Slot). z.symbol) slot) in ap (λ w. Node 3 (Child NoChild w) 0 1) (x_alone v (unary v 3 (subst (λ z. Derives ranked one_x (slot_of z) 0 1 v) is d)))
q_alone u (ByRule (suc (suc (suc (suc i)))) x v l lt slot d) = absurd (omega arith)

two_derive : (t : Tree) → Unary 0 t → (t ≡ by_rule 0 2) ⊎ (t ≡ by_rule 1 3)
two_derive t (ALeaf e) = absurd (omega arith)
two_derive t (ByRule zero x v l lt slot d) = let is : x ≡ 1 = sym (ap (λ (z : Slot). z.symbol) slot) in inl (ap (λ w. Node 0 (Child NoChild w) 0 1) (p_alone v (unary v 1 (subst (λ z. Derives ranked one_x (slot_of z) 0 1 v) is d))))
two_derive t (ByRule (suc zero) x v l lt slot d) = let is : x ≡ 2 = sym (ap (λ (z : Slot). z.symbol) slot) in inr (ap (λ w. Node 1 (Child NoChild w) 0 1) (q_alone v (unary v 2 (subst (λ z. Derives ranked one_x (slot_of z) 0 1 v) is d))))
two_derive t (ByRule (suc (suc zero)) x v l lt slot d) = absurd (omega arith)
two_derive t (ByRule (suc (suc (suc zero))) x v l lt slot d) = absurd (omega arith)
two_derive t (ByRule (suc (suc (suc (suc i)))) x v l lt slot d) = absurd (omega arith)

x_derives : Derives ranked one_x (slot_of 3) 0 1 (Leaf 3 0 1)
x_derives = record { symbol_is = refl; from_is = refl; to_is = refl; terminal = x_terminal; held = (refl, refl) }

by_low : Derives ranked one_x (slot_of 0) 0 1 (by_rule 0 2)
by_low = record { from_is = refl; to_is = refl; spans = lit< tt; in_range = lit< tt; fits = (refl, lit≤ tt); complete = refl; prefix = (0, refl, under) }
  where
    under : Derives ranked one_x (slot_of 1) 0 1 (one_part 2)
    under = record { from_is = refl; to_is = refl; spans = lit< tt; in_range = lit< tt; fits = (refl, lit≤ tt); complete = refl; prefix = (0, refl, x_derives) }

by_high : Derives ranked one_x (slot_of 0) 0 1 (by_rule 1 3)
by_high = record { from_is = refl; to_is = refl; spans = lit< tt; in_range = lit< tt; fits = (refl, lit≤ tt); complete = refl; prefix = (0, refl, under) }
  where
    under : Derives ranked one_x (slot_of 2) 0 1 (one_part 3)
    under = record { from_is = refl; to_is = refl; spans = lit< tt; in_range = lit< tt; fits = (refl, lit≤ tt); complete = refl; prefix = (0, refl, x_derives) }

both_listed : IsAll ranked one_x (rank_order ranked HighRanks) (slot_of 0) 0 1 (by_rule 1 3 ∷ by_rule 0 2 ∷ [])
unfolding IsStrictlySortedBy
both_listed = record {
  sorted = ((refl, tt), (tt, tt));
  each = λ t. ((λ c. in_list t (among_from (by_rule 1 3 ∷ by_rule 0 2 ∷ []) t c)), (λ d. contains_from (by_rule 1 3 ∷ by_rule 0 2 ∷ []) t (listed t (two_derive t (unary t 0 d)))));
}
  where
    in_list : (t : Tree) → Among t (by_rule 1 3 ∷ by_rule 0 2 ∷ []) → Derives ranked one_x (slot_of 0) 0 1 t
    in_list t (inl e) = subst (Derives ranked one_x (slot_of 0) 0 1) e by_high
    in_list t (inr (inl e)) = subst (Derives ranked one_x (slot_of 0) 0 1) e by_low
    in_list t (inr (inr b)) = absurd b

    listed : (t : Tree) → (t ≡ by_rule 0 2) ⊎ (t ≡ by_rule 1 3) → Among t (by_rule 1 3 ∷ by_rule 0 2 ∷ [])
    listed t (inl e) = inr (inl (sym e))
    listed t (inr e) = inl (sym e)

not_higher : pos 5 ≤ℤ pos 0 → ⊥
not_higher h = h.le

one_chosen : AreChosen ranked one_x HighRanks (slot_of 0) 0 1 (by_rule 1 3 ∷ [])
unfolding IsStrictlySortedBy
one_chosen = record {
  sorted = (tt, tt);
  each = λ t. ((λ c. in_list t (among_from (by_rule 1 3 ∷ []) t c)), (λ (d, c). contains_from (by_rule 1 3 ∷ []) t (listed t (two_derive t (unary t 0 d)) c)));
}
  where
    highest : IsBest ranked one_x (slot_of 0) 0 1 1
    highest other children d = go other d.in_range
      where
        go : (i : ℕ) → i < 4 → rank_of (rule_at ranked i) ≤ℤ pos 5
        go zero lt = le_z_yes tt
        go (suc zero) lt = le_z_yes tt
        go (suc (suc zero)) lt = le_z_yes tt
        go (suc (suc (suc zero))) lt = le_z_yes tt
        go (suc (suc (suc (suc i)))) lt = absurd (omega arith)

    alone : IsBest ranked one_x (slot_of 2) 0 1 3
    alone other children d = go other d.in_range d.fits.0
      where
        go : (i : ℕ) → i < 4 → lhs_of (rule_at ranked i) ≡ 2 → rank_of (rule_at ranked i) ≤ℤ pos 0
        go zero lt l = absurd (omega arith)
        go (suc zero) lt l = absurd (omega arith)
        go (suc (suc zero)) lt l = absurd (omega arith)
        go (suc (suc (suc zero))) lt l = le_z_yes tt
        go (suc (suc (suc (suc i)))) lt l = absurd (omega arith)

    in_list : (t : Tree) → Among t (by_rule 1 3 ∷ []) → Derives ranked one_x (slot_of 0) 0 1 t × AreBest ranked one_x (slot_of 0) t
    in_list t (inl e) = subst (λ z. Derives ranked one_x (slot_of 0) 0 1 z × AreBest ranked one_x (slot_of 0) z) e (by_high, (highest, (tt, (alone, (tt, tt)))))
    in_list t (inr b) = absurd b

    listed : (t : Tree) → (t ≡ by_rule 0 2) ⊎ (t ≡ by_rule 1 3) → AreBest ranked one_x (slot_of 0) t → Among t (by_rule 1 3 ∷ [])
    listed t (inl e) c = let low = (subst (AreBest ranked one_x (slot_of 0)) e c).0 1 (Child NoChild (one_part 3)) by_high in absurd (not_higher low)
    listed t (inr e) c = inl (sym e)

-- L ::= N+ separator => comma, over 1,2, with a last separator
abbrev list_rule : SequenceRule
list_rule = record { lhs = 0; item = 1; plus = true; separator = Some 2; proper = false; rank = pos 0; null_high = false }

abbrev commas : Grammar
commas = record { names = codes "L" ∷ codes "N" ∷ codes "comma" ∷ []; rules = Sequence list_rule ∷ []; starts = 0 ∷ [] }

abbrev two_and_last : Tree
two_and_last = Node 0 (Child (three (Leaf 1 0 1) (Leaf 2 1 2) (Leaf 1 2 3)) (Leaf 2 3 4)) 0 4

abbrev comma_tokens : List Token
comma_tokens = record { start = 0; length = 1; text = codes "1" } ∷ record { start = 1; length = 1; text = codes "," } ∷ record { start = 2; length = 1; text = codes "2" } ∷ record { start = 3; length = 1; text = codes "," } ∷ []

separators_hidden : text_of (value_of ShowArray commas arrays comma_tokens two_and_last) ≡ codes "[\"1\",\"2\"]"
unfolding chars encode_utf8
separators_hidden = refl

terminal_one : IsTerminal commas 1
terminal_one zero lt = grind arith
terminal_one (suc i) lt = absurd (omega arith)

terminal_two : IsTerminal commas 2
terminal_two zero lt = grind arith
terminal_two (suc i) lt = absurd (omega arith)

last_separator_derives : Derives commas (Line (1 ∷ 2 ∷ 1 ∷ 2 ∷ [])) (slot_of 0) 0 4 two_and_last
last_separator_derives = record {
  from_is = refl;
  to_is = refl;
  spans = omega arith;
  in_range = omega arith;
  fits = (refl, omega arith);
  complete = (omega arith, λ e. refl);
  prefix = (3, (2, (1, (0, refl, item 0 refl), comma 1 refl), item 2 refl), comma 3 refl);
}
  where
    item : (p : ℕ) → Rattle.std.specs.Prelude.slice_get {X = ℕ} (1 ∷ 2 ∷ 1 ∷ 2 ∷ []) p ≡ Some 1 → Derives commas (Line (1 ∷ 2 ∷ 1 ∷ 2 ∷ [])) (slot_of 1) p (suc p) (Leaf 1 p (suc p))
    item p e = record { symbol_is = refl; from_is = refl; to_is = refl; terminal = terminal_one; held = (e, refl) }

    comma : (p : ℕ) → Rattle.std.specs.Prelude.slice_get {X = ℕ} (1 ∷ 2 ∷ 1 ∷ 2 ∷ []) p ≡ Some 2 → Derives commas (Line (1 ∷ 2 ∷ 1 ∷ 2 ∷ [])) (slot_of 2) p (suc p) (Leaf 2 p (suc p))
    comma p e = record { symbol_is = refl; from_is = refl; to_is = refl; terminal = terminal_two; held = (e, refl) }

-- S ::= B C; B ::= x; C ::=, over a blank, x and a blank, with descriptors
abbrev described : Grammar
described = record {
  names = codes "S" ∷ codes "B" ∷ codes "C" ∷ codes "x" ∷ [];
  rules = rule 0 (1 ∷ 2 ∷ []) 0 1 Left ∷ rule 1 (3 ∷ []) 0 1 Left ∷ rule 2 [] 0 1 Left ∷ [];
  starts = 0 ∷ [];
}

abbrev with_spans : RuleMeaning
with_spans = record { action = MakeItems (ItemName ∷ ItemStart ∷ ItemLength ∷ ItemG1Start ∷ ItemG1Length ∷ ItemValues ∷ []); shown = true ∷ true ∷ []; sequence = false; separated = false }

abbrev descriptors : Meaning
descriptors = record { rules = with_spans ∷ with_spans ∷ with_spans ∷ []; lexeme = Some (MakeItems (ItemSymbol ∷ ItemStart ∷ ItemLength ∷ ItemValues ∷ [])) }

described_line : text_of (value_of ShowArray described descriptors (record { start = 1; length = 1; text = codes "x" } ∷ []) (Node 0 (Child (Child NoChild (Node 1 (Child NoChild (Leaf 3 0 1)) 0 1)) (Nulled 2 1)) 0 1))
    ≡ codes "[\"S\",1,1,0,1,[\"B\",1,1,0,1,[\"x\",1,1,\"x\"]],[\"C\",2,0,1,0]]"
unfolding chars encode_utf8 digits
described_line = refl

-- the tree with a nulled leaf, shown as a tree
nulled_tree : text_of (value_of ShowTree (nulls false) arrays a_token nulled_then_letter) ≡ codes "[\"S\",0,[\"B\"],[\"B\",1,[\"'a'\",\"a\"]]]"
unfolding chars encode_utf8 digits
nulled_tree = refl

-- P ::= Q; Q ::= P | 'b' has the cycle P, Q, P
abbrev loop : Grammar
loop = record { names = codes "P" ∷ codes "Q" ∷ codes "'b'" ∷ []; rules = rule 0 (1 ∷ []) 0 1 Left ∷ rule 1 (0 ∷ []) 0 1 Left ∷ rule 1 (2 ∷ []) 0 1 Left ∷ []; starts = 0 ∷ [] }

b_terminal : IsTerminal loop 2
b_terminal zero lt = grind arith
b_terminal (suc zero) lt = grind arith
b_terminal (suc (suc zero)) lt = grind arith
b_terminal (suc (suc (suc i))) lt = absurd (omega arith)

only_part : (P : Slot → Type 0) (lhs part : ℕ) → P (slot_of part) → (k : ℕ) → k < 1 → P (child_slot (rule lhs (part ∷ []) 0 1 Left) k)
only_part P lhs part h zero lt = h
only_part P lhs part h (suc k) lt = absurd (omega arith)

abbrev q_productive : IsProductive loop (slot_of 1)
q_productive = (1, Rattle.std.proofs.Common.inr (2, omega arith, (refl, omega arith), Rattle.std.proofs.Common.inr (only_part (Rattle.grammar_model.specs.Analysis.IsProductiveIn 0 loop) 1 2 b_terminal)))

p_productive : IsProductive loop (slot_of 0)
p_productive = (2, Rattle.std.proofs.Common.inr (0, omega arith, (refl, omega arith), Rattle.std.proofs.Common.inr (only_part (Rattle.grammar_model.specs.Analysis.IsProductiveIn 1 loop) 0 1 q_productive.1)))

abbrev p_accessible : IsAccessible loop (slot_of 0)
p_accessible = (0, (0, (0, omega arith, refl), refl))

q_accessible : IsAccessible loop (slot_of 1)
q_accessible = (1, (slot_of 0, p_accessible.1, q_productive, (0, omega arith, (refl, omega arith), (only_part (IsProductive loop) 0 1 q_productive, (0, omega arith, refl)))))

shown_cycle : IsCycle loop (slot_of 0 ∷ slot_of 1 ∷ slot_of 0 ∷ [])
shown_cycle = record {
  long = omega arith;
  walk = (
    p_accessible,
    p_productive,
    (0, omega arith, (refl, omega arith), (0, omega arith, refl, λ j lt ne. absurd (alone j lt ne))),
    (q_accessible, q_productive, (1, omega arith, (refl, omega arith), (0, omega arith, refl, λ j lt ne. absurd (alone j lt ne))), (p_accessible, p_productive)),
  );
  closed = refl;
}
  where
    alone : (j : ℕ) → j < 1 → (j ≡ 0 → ⊥) → ⊥
    alone j lt ne = ne (omega arith)

-- no sum is an operand of a product, and on the right no product either
no_sum_in_product : (edge : Edges) (p q : ℕ) (cs : Children) (a b : ℕ) → Derives calculator edge (child_slot (rule_at calculator 3) 0) p q (Node 4 cs a b) → ⊥
no_sum_in_product edge p q cs a b d = let h = d.fits.1 in omega arith

no_product_on_the_right : (edge : Edges) (p q : ℕ) (cs : Children) (a b : ℕ) → Derives calculator edge (child_slot (rule_at calculator 3) 2) p q (Node 3 cs a b) → ⊥
no_product_on_the_right edge p q cs a b d = let h = d.fits.1 in omega arith
