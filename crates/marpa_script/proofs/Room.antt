-- A line that adds a name or a rule has five bytes or more, so that a text has room for them.
use Rattle.std.proofs.Common.{◌≡◌, ◌∙◌, ℕ, ◌+◌, ◌*◌, ◌<◌, ◌≤◌, ◌++◌, Bool, true, false, nat_lt, List, [], ◌∷◌, Option, length, map, refl, sym, ap, subst, arith, length-append}
use Rattle.std.specs.Prelude.{codes, if◌then◌else◌, option_to_list}
use Rattle.std.specs.List.{list_all, join_with_byte}
use Rattle.std.proofs.lemmas.List.{length_push}
use Rattle.std.proofs.lemmas.List.Splits.{join_with_byte-slice_split}
use Rattle.grammar_model.specs.Grammar.{WrittenRule, Grammar}
use Rattle.grammar_model.specs.Growth.{has_name, number_of, with_name, with_rule, with_start}
use Rattle.script_model.specs.Commands.{Command, Symbol, Rule, Sequence, Start, Precompute, Alternative, Complete, Expected, Report, Trees, Building, phase_of, kind_word, Spells, words_of}
use Rattle.script_model.specs.Machine.{Machine, blank}
use Rattle.script_model.specs.Replies.{Reply, says, if_known, longest_rule, adds_rule, sequence_rule, symbol_reply, rule_reply, sequence_reply, start_reply, PrecomputeReplies, Refused, TooManyRules, Ready, CommandReplies, Replies, BadLine, NotNow, Played}
use Rattle.marpa_script.specs.Machines.{building}
use Rattle.marpa_script.specs.Written.{Replied}

-- each name and each rule took five bytes of a text, of which so many are left
pub record HasRoom (g : Grammar) (left all : ℕ) : Type 0 where
  pub names : 5 * length g.names + left ≤ all
  pub rules : 5 * length g.rules + left ≤ all

-- the second grammar has no more than the first and what so many bytes may add
pub record GrowsBy (g h : Grammar) (n : ℕ) : Type 0 where
  pub names : 5 * length h.names ≤ 5 * length g.names + n
  pub rules : 5 * length h.rules ≤ 5 * length g.rules + n

-- a line is longer than its first word, where there is a second one
longer : (line first second : List ℕ) (more : List (List ℕ)) → words_of line ≡ first ∷ second ∷ more → length first < length line
longer line first second more is =
    let joined : first ++ (32 ∷ join_with_byte 32 (second ∷ more)) ≡ line = sym (ap (join_with_byte 32) is) ∙ join_with_byte-slice_split 32 line in
    let long : length (first ++ (32 ∷ join_with_byte 32 (second ∷ more))) ≡ length line = ap length joined in
    omega (arith, long, length-append first (32 ∷ join_with_byte 32 (second ∷ more)))

five : (line first second : List ℕ) (more : List (List ℕ)) (k : ℕ) → length first ≡ k → 4 ≤ k → words_of line ≡ first ∷ second ∷ more → 5 ≤ length line
five line first second more k size some is = let lt = longer line first second more is in omega (arith, lt, size, some)

module _ (g : Grammar) (n : ℕ) where
  same : GrowsBy g g n
  same = record { names = omega arith; rules = omega arith }

  moved : (x y : Reply) → x ≡ y → GrowsBy g x.after.grammar n → GrowsBy g y.after.grammar n
  moved x y e p = subst (λ (r : Reply). GrowsBy g r.after.grammar n) e p

  by_test : (b : Bool) (x y : Reply) → GrowsBy g x.after.grammar n → GrowsBy g y.after.grammar n → GrowsBy g (if b then x else y).after.grammar n
  by_test true x y p q = p
  by_test false x y p q = q

  known : (names : List (List ℕ)) (x : Reply) → GrowsBy g x.after.grammar n → GrowsBy g (if_known (building g) names x).after.grammar n
  known names x p = by_test (list_all (has_name g) names) x (says (building g) (codes "bad name")) p same

  module _ (some : 5 ≤ n) where
    name_more : (name : List ℕ) → GrowsBy g (with_name g name) n
    name_more name = record { names = by_known (has_name g name); rules = omega arith }
      where
        by_known : (b : Bool) → 5 * length (if b then g.names else g.names ++ name ∷ []) ≤ 5 * length g.names + n
        by_known true = omega arith
        by_known false = omega (arith, some, length_push g.names name)

    rule_more : (rule : WrittenRule) → GrowsBy g (with_rule g rule) n
    rule_more rule = record { names = omega arith; rules = omega (arith, some, length_push g.rules rule) }

-- what a line with a command adds
module _ (g : Grammar) (line : List ℕ) where
  precompute_adds : (reply : Reply) → PrecomputeReplies (building g) reply → GrowsBy g reply.after.grammar (length line)
  precompute_adds reply (Refused refusal refuses is) = moved g (length line) _ reply (sym is) (same g (length line))
  precompute_adds reply (TooManyRules checked many is) = moved g (length line) _ reply (sym is) (same g (length line))
  precompute_adds reply (Ready checked few is) = moved g (length line) _ reply (sym is) (same g (length line))

  command_adds : (c : Command) (reply : Reply) → phase_of c ≡ Building → Spells c (words_of line) → CommandReplies (building g) c reply → GrowsBy g reply.after.grammar (length line)
  command_adds (Symbol name) reply now spelled is =
      moved g (length line) (symbol_reply (building g) name) reply (sym is) (name_more g (length line) (five line (codes "symbol") name [] 6 refl (omega arith) spelled) name)
  command_adds (Rule lhs rhs) reply now spelled is =
      moved g (length line) (rule_reply (building g) lhs rhs) reply (sym is)
      (known g (length line) (lhs ∷ rhs) _
      (by_test g (length line) (nat_lt longest_rule (length rhs)) (says (building g) (codes "too long")) _ (same g (length line))
      (rule_more g (length line) (five line (codes "rule") lhs rhs 4 refl (omega arith) spelled) _)))
  command_adds (Sequence lhs item plus separator proper) reply now (more, separated, spelled) is =
      moved g (length line) (sequence_reply (building g) lhs item plus separator proper) reply (sym is)
      (known g (length line) (lhs ∷ item ∷ option_to_list separator) (adds_rule (building g) (sequence_rule g lhs item plus separator proper))
      (rule_more g (length line) (five line (codes "sequence") lhs (item ∷ kind_word plus ∷ more) 8 refl (omega arith) spelled) (sequence_rule g lhs item plus separator proper)))
  command_adds (Start name) reply now spelled is =
      moved g (length line) (start_reply (building g) name) reply (sym is)
      (known g (length line) (name ∷ []) _
      (by_test g (length line) (nat_lt 0 (length g.starts)) (says (building g) (codes "second start")) _ (same g (length line)) (record { names = omega arith; rules = omega arith })))
  command_adds Precompute reply now spelled is = precompute_adds reply is
  command_adds (Alternative name count) reply now spelled is = absurd (cc now)
  command_adds Complete reply now spelled is = absurd (cc now)
  command_adds Expected reply now spelled is = absurd (cc now)
  command_adds (Report at) reply now spelled is = absurd (cc now)
  command_adds (Trees count) reply now spelled is = absurd (cc now)

  line_adds : (reply : Reply) → Replies (building g) line reply → GrowsBy g reply.after.grammar (length line)
  line_adds reply (BadLine none is) = moved g (length line) _ reply (sym is) (same g (length line))
  line_adds reply (NotNow c command later is) = moved g (length line) _ reply (sym is) (same g (length line))
  line_adds reply (Played c command now is) = command_adds c reply now command.spells is

pub room_begun : (g : Grammar) (n : ℕ) → g ≡ blank.grammar → HasRoom g n n
room_begun g n none = subst (λ (k : Grammar). HasRoom k n n) (sym none) (record { names = omega arith; rules = omega arith })

-- after a line there is still room for what the rest may add
pub room_kept : (g h : Grammar) (line : List ℕ) (left rest all : ℕ) (old new : Option (List ℕ)) → HasRoom g left all → rest + length line ≤ left →
    Replied (Replies (building g) line) (building h) old new → HasRoom h rest all
room_kept g h line left rest all old new room less r =
    let adds : GrowsBy g h (length line) = subst (λ (m : Machine). GrowsBy g m.grammar (length line)) r.after_is (line_adds g line r.reply r.is) in
    record { names = omega (arith, room.names, less, adds.names); rules = omega (arith, room.rules, less, adds.rules) }
