-- The command that is found is the one that the words spell.
use Rattle.std.proofs.Common.{◌≡◌, ◌∙◌, ℕ, ◌<◌, Bool, true, false, ◌&&◌, nat_lt, nat_le, List, [], ◌∷◌, length, Option, Some, None, refl, sym, ap, subst, arith}
use Rattle.std.specs.Prelude.{if◌then◌else◌, option_map, bytes_eq, codes}
use Rattle.std.specs.Char.{is_ascii_digit}
use Rattle.std.specs.List.{list_all}
use Rattle.std.proofs.lemmas.Bool.Decides.{nat_tests}
use Rattle.std.proofs.lemmas.Slice.Eq.{bytes_eq-Decides}
use Rattle.grammar_model.specs.Limits.{digits_number}
use Rattle.script_model.specs.Commands.{Command, Symbol, Rule, Sequence, Start, Precompute, Alternative, Complete, Expected, Report, Trees, SpellsNumber, kind_word, SpellsSeparator, Spells, IsCommand, words_of}
use Rattle.script_model.specs.Parsing.{number_in, alone, with_name, with_number, alternative_in, rule_in, kind_in, separator_in, sequence_by, sequence_in, command_by, CommandsAreParsed}

-- ---- NUMBERS

number_parts : (a b c d : Bool) (n m : ℕ) → (if a && (b && (c && d)) then Some n else None) ≡ Some m → (a ≡ true) × (b ≡ true) × (c ≡ true) × (d ≡ true) × (n ≡ m)
number_parts true true true true n m e = (refl, refl, refl, refl, cc e)
number_parts true true true false n m e = absurd (cc e)
number_parts true true false d n m e = absurd (cc e)
number_parts true false c d n m e = absurd (cc e)
number_parts false b c d n m e = absurd (cc e)

number_spelled : (digits : List ℕ) (n : ℕ) → number_in digits ≡ Some n → SpellsNumber digits n
number_spelled digits n e =
    let (a, b, c, d, is) = number_parts (nat_lt 0 (length digits)) (nat_le (length digits) 10) (list_all is_ascii_digit digits) (nat_lt (digits_number digits) 4294967296) (digits_number digits) n e in
    record {
      some = grind (arith, nat_tests, a);
      few = grind (arith, nat_tests, b);
      all = c;
      is = sym is;
      within = subst (λ m. m < 4294967296) is (grind (arith, nat_tests, d));
    }

number_found : (digits : List ℕ) (n : ℕ) → SpellsNumber digits n → number_in digits ≡ Some n
number_found digits n s =
    let some = s.some in
    let few = s.few in
    let small : digits_number digits < 4294967296 = subst (λ m. m < 4294967296) s.is s.within in
    let a : nat_lt 0 (length digits) ≡ true = grind (arith, nat_tests) in
    let b : nat_le (length digits) 10 ≡ true = grind (arith, nat_tests) in
    let d : nat_lt (digits_number digits) 4294967296 ≡ true = grind (arith, nat_tests) in
    rw (a, b, s.all, d) (ap Some (sym s.is))

-- ---- WHAT IS SPELLED IS FOUND

by_number : (make : ℕ → Command) (digits : List ℕ) (n : ℕ) → SpellsNumber digits n → option_map make (number_in digits) ≡ Some (make n)
by_number make digits n s = ap (option_map make) (number_found digits n s)

separator_found : (separator : Option (List ℕ)) (proper : Bool) (words : List (List ℕ)) → SpellsSeparator separator proper words → separator_in words ≡ Some (separator, proper)
separator_found None proper words (none, plain) = ap separator_in none ∙ ap (λ p. Some (None, p)) (sym plain)
separator_found (Some name) true words is = ap separator_in is
separator_found (Some name) false words is = ap separator_in is

kind_found : (plus : Bool) → kind_in (kind_word plus) ≡ Some plus
kind_found true = refl
kind_found false = refl

found : (c : Command) (words : List (List ℕ)) → Spells c words → command_by words ≡ Some c
found (Symbol name) words is = ap command_by is
found (Rule lhs rhs) words is = ap command_by is
found (Sequence lhs item plus separator proper) words (more, s, is) =
    ap command_by is ∙ ap (λ k. sequence_by lhs item k (separator_in more)) (kind_found plus) ∙ ap (sequence_by lhs item (Some plus)) (separator_found separator proper more s)
found (Start name) words is = ap command_by is
found Precompute words is = ap command_by is
found (Alternative name n) words (digits, s, is) = ap command_by is ∙ by_number (Alternative name) digits n s
found Complete words is = ap command_by is
found Expected words is = ap command_by is
found (Report place) words (digits, s, is) = ap command_by is ∙ by_number Report digits place s
found (Trees count) words (digits, s, is) = ap command_by is ∙ by_number Trees digits count s

-- ---- WHAT IS FOUND IS SPELLED

module _ (P : Command → Type 0) where
  of_alone : (c d : Command) (words : List (List ℕ)) → (words ≡ [] → P c) → alone c words ≡ Some d → P d
  of_alone c d [] p e = let same : c ≡ d = cc e in subst P same (p refl)
  of_alone c d (word ∷ words) p e = absurd (cc e)

  of_name : (make : List ℕ → Command) (d : Command) (words : List (List ℕ)) → ((name : List ℕ) → words ≡ name ∷ [] → P (make name)) → with_name make words ≡ Some d → P d
  of_name make d [] p e = absurd (cc e)
  of_name make d (name ∷ []) p e = let same : make name ≡ d = cc e in subst P same (p name refl)
  of_name make d (name ∷ word ∷ words) p e = absurd (cc e)

  of_option : (make : ℕ → Command) (d : Command) (o : Option ℕ) → ((n : ℕ) → o ≡ Some n → P (make n)) → option_map make o ≡ Some d → P d
  of_option make d None p e = absurd (cc e)
  of_option make d (Some n) p e = let same : make n ≡ d = cc e in subst P same (p n refl)

  of_number : (make : ℕ → Command) (d : Command) (words : List (List ℕ)) → ((digits : List ℕ) (n : ℕ) → SpellsNumber digits n → words ≡ digits ∷ [] → P (make n)) → with_number make words ≡ Some d → P d
  of_number make d [] p e = absurd (cc e)
  of_number make d (digits ∷ []) p e = of_option make d (number_in digits) (λ n is. p digits n (number_spelled digits n is) refl) e
  of_number make d (digits ∷ word ∷ words) p e = absurd (cc e)

  of_alternative : (d : Command) (words : List (List ℕ)) → ((name digits : List ℕ) (n : ℕ) → SpellsNumber digits n → words ≡ name ∷ digits ∷ [] → P (Alternative name n)) → alternative_in words ≡ Some d → P d
  of_alternative d [] p e = absurd (cc e)
  of_alternative d (name ∷ words) p e = of_number (Alternative name) d words (λ digits n s is. p name digits n s (ap (λ ws. name ∷ ws) is)) e

  of_rule : (d : Command) (words : List (List ℕ)) → ((lhs : List ℕ) (rhs : List (List ℕ)) → words ≡ lhs ∷ rhs → P (Rule lhs rhs)) → rule_in words ≡ Some d → P d
  of_rule d [] p e = absurd (cc e)
  of_rule d (lhs ∷ rhs) p e = let same : Rule lhs rhs ≡ d = cc e in subst P same (p lhs rhs refl)

same_bytes : (xs ys : List ℕ) → bytes_eq xs ys ≡ true → xs ≡ ys
same_bytes xs ys e = (bytes_eq-Decides xs ys).0 e

kind_spelled : (kind : List ℕ) (plus : Bool) → kind_in kind ≡ Some plus → kind ≡ kind_word plus
kind_spelled kind plus e = by (bytes_eq kind (codes "plus")) (bytes_eq kind (codes "star")) refl refl e
  where
    by : (a b : Bool) → bytes_eq kind (codes "plus") ≡ a → bytes_eq kind (codes "star") ≡ b → (if a then Some true else (if b then Some false else None)) ≡ Some plus → kind ≡ kind_word plus
    by true b p q e = let is : true ≡ plus = cc e in same_bytes kind (codes "plus") p ∙ ap kind_word is
    by false true p q e = let is : false ≡ plus = cc e in same_bytes kind (codes "star") q ∙ ap kind_word is
    by false false p q e = absurd (cc e)

separator_spelled : (words : List (List ℕ)) (s : Option (List ℕ) × Bool) → separator_in words ≡ Some s → SpellsSeparator s.0 s.1 words
separator_spelled [] s e = let is : (None, false) ≡ s = cc e in subst (λ (z : Option (List ℕ) × Bool). SpellsSeparator z.0 z.1 []) is (refl, refl)
separator_spelled (b ∷ []) s e = absurd (cc e)
separator_spelled (b ∷ name ∷ []) s e = by (bytes_eq b (codes "by")) refl e
  where
    by : (t : Bool) → bytes_eq b (codes "by") ≡ t → (if t then Some (Some name, false) else None) ≡ Some s → SpellsSeparator s.0 s.1 (b ∷ name ∷ [])
    by true p e =
        let is : (Some name, false) ≡ s = cc e in
        subst (λ (z : Option (List ℕ) × Bool). SpellsSeparator z.0 z.1 (b ∷ name ∷ [])) is (ap (λ w. w ∷ name ∷ []) (same_bytes b (codes "by") p))
    by false p e = absurd (cc e)
separator_spelled (b ∷ name ∷ proper ∷ []) s e = by (bytes_eq b (codes "by")) (bytes_eq proper (codes "proper")) refl refl e
  where
    by : (t u : Bool) → bytes_eq b (codes "by") ≡ t → bytes_eq proper (codes "proper") ≡ u → (if t && u then Some (Some name, true) else None) ≡ Some s → SpellsSeparator s.0 s.1 (b ∷ name ∷ proper ∷ [])
    by true true p q e =
        let is : (Some name, true) ≡ s = cc e in
        subst (λ (z : Option (List ℕ) × Bool). SpellsSeparator z.0 z.1 (b ∷ name ∷ proper ∷ [])) is
        (ap (λ w. w ∷ name ∷ proper ∷ []) (same_bytes b (codes "by") p) ∙ ap (λ w. codes "by" ∷ name ∷ w ∷ []) (same_bytes proper (codes "proper") q))
    by true false p q e = absurd (cc e)
    by false u p q e = absurd (cc e)
separator_spelled (b ∷ name ∷ proper ∷ word ∷ words) s e = absurd (cc e)

module _ (first : List ℕ) (is_first : first ≡ codes "sequence") (d : Command) where
  of_sequence_by : (lhs item kind : List ℕ) (words : List (List ℕ)) (k : Option Bool) (s : Option (Option (List ℕ) × Bool)) → kind_in kind ≡ k → separator_in words ≡ s →
      sequence_by lhs item k s ≡ Some d → Spells d (first ∷ lhs ∷ item ∷ kind ∷ words)
  of_sequence_by lhs item kind words None s p q e = absurd (cc e)
  of_sequence_by lhs item kind words (Some plus) None p q e = absurd (cc e)
  of_sequence_by lhs item kind words (Some plus) (Some s) p q e =
      let same : Sequence lhs item plus s.0 s.1 ≡ d = cc e in
      subst (λ c. Spells c (first ∷ lhs ∷ item ∷ kind ∷ words)) same (
        words,
        separator_spelled words s q,
        ap (λ w. w ∷ lhs ∷ item ∷ kind ∷ words) is_first ∙ ap (λ w. codes "sequence" ∷ lhs ∷ item ∷ w ∷ words) (kind_spelled kind plus p),
      )

  of_sequence : (words : List (List ℕ)) → sequence_in words ≡ Some d → Spells d (first ∷ words)
  of_sequence [] e = absurd (cc e)
  of_sequence (lhs ∷ []) e = absurd (cc e)
  of_sequence (lhs ∷ item ∷ []) e = absurd (cc e)
  of_sequence (lhs ∷ item ∷ kind ∷ words) e = of_sequence_by lhs item kind words (kind_in kind) (separator_in words) refl refl e

-- the words spell a command
abbrev AreOf : List (List ℕ) → Command → Type 0
AreOf words d = Spells d words

spelled : (words : List (List ℕ)) (c : Command) → command_by words ≡ Some c → Spells c words
spelled [] c e = absurd (cc e)
spelled (word ∷ words) c e =
    by (bytes_eq word (codes "symbol")) (bytes_eq word (codes "rule")) (bytes_eq word (codes "sequence")) (bytes_eq word (codes "start")) (bytes_eq word (codes "precompute"))
    (bytes_eq word (codes "alternative")) (bytes_eq word (codes "complete")) (bytes_eq word (codes "expected")) (bytes_eq word (codes "report")) (bytes_eq word (codes "trees"))
    (same_bytes word (codes "symbol")) (same_bytes word (codes "rule")) (same_bytes word (codes "sequence")) (same_bytes word (codes "start")) (same_bytes word (codes "precompute"))
    (same_bytes word (codes "alternative")) (same_bytes word (codes "complete")) (same_bytes word (codes "expected")) (same_bytes word (codes "report")) (same_bytes word (codes "trees")) e
  where
    both : (first : List ℕ) (rest : List (List ℕ)) → word ≡ first → words ≡ rest → word ∷ words ≡ first ∷ rest
    both first rest p q = cc (p, q)

    by : (s r q t p a o x g n : Bool) → (s ≡ true → word ≡ codes "symbol") → (r ≡ true → word ≡ codes "rule") → (q ≡ true → word ≡ codes "sequence") → (t ≡ true → word ≡ codes "start")
        → (p ≡ true → word ≡ codes "precompute") → (a ≡ true → word ≡ codes "alternative") → (o ≡ true → word ≡ codes "complete") → (x ≡ true → word ≡ codes "expected")
        → (g ≡ true → word ≡ codes "report") → (n ≡ true → word ≡ codes "trees")
        → (if s then with_name Symbol words else (if r then rule_in words else (if q then sequence_in words else (if t then with_name Start words else (if p then alone Precompute words
        else (if a then alternative_in words else (if o then alone Complete words else (if x then alone Expected words else (if g then with_number Report words else (if n then with_number Trees words else None)))))))))) ≡ Some c → Spells c (word ∷ words)
    by true r q t p a o x g n is is_r is_q is_t is_p is_a is_o is_x is_g is_n e = of_name (AreOf (word ∷ words)) Symbol c words (λ name w. both (codes "symbol") (name ∷ []) (is refl) w) e
    by false true q t p a o x g n is_s is is_q is_t is_p is_a is_o is_x is_g is_n e = of_rule (AreOf (word ∷ words)) c words (λ lhs rhs w. both (codes "rule") (lhs ∷ rhs) (is refl) w) e
    by false false true t p a o x g n is_s is_r is is_t is_p is_a is_o is_x is_g is_n e = of_sequence word (is refl) c words e
    by false false false true p a o x g n is_s is_r is_q is is_p is_a is_o is_x is_g is_n e = of_name (AreOf (word ∷ words)) Start c words (λ name w. both (codes "start") (name ∷ []) (is refl) w) e
    by false false false false true a o x g n is_s is_r is_q is_t is is_a is_o is_x is_g is_n e = of_alone (AreOf (word ∷ words)) Precompute c words (λ w. both (codes "precompute") [] (is refl) w) e
    by false false false false false true o x g n is_s is_r is_q is_t is_p is is_o is_x is_g is_n e =
        of_alternative (AreOf (word ∷ words)) c words (λ name digits m s w. (digits, s, both (codes "alternative") (name ∷ digits ∷ []) (is refl) w)) e
    by false false false false false false true x g n is_s is_r is_q is_t is_p is_a is is_x is_g is_n e = of_alone (AreOf (word ∷ words)) Complete c words (λ w. both (codes "complete") [] (is refl) w) e
    by false false false false false false false true g n is_s is_r is_q is_t is_p is_a is_o is is_g is_n e = of_alone (AreOf (word ∷ words)) Expected c words (λ w. both (codes "expected") [] (is refl) w) e
    by false false false false false false false false true n is_s is_r is_q is_t is_p is_a is_o is_x is is_n e =
        of_number (AreOf (word ∷ words)) Report c words (λ digits m s w. (digits, s, both (codes "report") (digits ∷ []) (is refl) w)) e
    by false false false false false false false false false true is_s is_r is_q is_t is_p is_a is_o is_x is_g is e =
        of_number (AreOf (word ∷ words)) Trees c words (λ digits m s w. (digits, s, both (codes "trees") (digits ∷ []) (is refl) w)) e
    by false false false false false false false false false false is_s is_r is_q is_t is_p is_a is_o is_x is_g is_n e = absurd (cc e)

-- ---- THE LAW

pub commands_are_parsed : CommandsAreParsed
commands_are_parsed line c = (parsed (list_all (λ w. nat_lt 0 (length w)) (words_of line)) refl, λ is. rw is.words (found c (words_of line) is.spells))
  where
    parsed : (t : Bool) → list_all (λ w. nat_lt 0 (length w)) (words_of line) ≡ t → (if t then command_by (words_of line) else None) ≡ Some c → IsCommand line c
    parsed true p e = record { words = p; spells = spelled (words_of line) c e }
    parsed false p e = absurd (cc e)
