-- What the program finds by its causes is so: names that it has a cause for can span nothing, and that comes from there.
use Rattle.std.proofs.Common.{◌≡◌, ℕ, zero, suc, Bool, true, false, cond, ◌&&◌, ◌||◌, ◌==◌, List, [], ◌∷◌, ap, refl, subst, arith, bytes_eq, IsTrue, Option, Some, None, is_some}
use Rattle.std.proofs.lemmas.Bool.{false≢true}
use Rattle.std.proofs.lemmas.Bool.Decides.{Decides-eqb}
use Rattle.std.proofs.lemmas.Slice.Eq.{bytes_eq-Decides}
use Rattle.std.specs.List.{list_all, list_any, slice_get}
use Rattle.std.specs.Option.{option_or, option_and_then}
use Rattle.language_model.specs.Tokens.{Spelled}
use Rattle.language_model.specs.Description.{Element, Alternative, Statement, Start, Default, LexemeDefault, Lexeme, Discard, Empty, Quantified, Rules, is_name}
use Rattle.language_model.specs.Building.{parts_of_element}
use Rattle.lint_hints.specs.Hints.{last_of, last_part}
use Rattle.lint_hints.specs.Nullable.{Cause, spans_part, spans_element, spans_alternative, spans_group, spans_right, comes_last, comes_alternative, comes_group, comes_item, comes_right, is_cause, cause_of_part}
use Rattle.lint_hints.specs.Found.{knows, own, found_last, found_alternative, found_group, found_groups, found_item, found}

-- TESTS

both : (a b : Bool) → IsTrue a → IsTrue b → IsTrue (a && b)
both true b p q = q
both false b p q = absurd (false≢true p)

first : (a b : Bool) → IsTrue (a && b) → IsTrue a
first true b p = refl
first false b p = p

second : (a b : Bool) → IsTrue (a && b) → IsTrue b
second true b p = p
second false b p = absurd (false≢true p)

or_left : (a b : Bool) → IsTrue a → IsTrue (a || b)
or_left true b p = refl
or_left false b p = absurd (false≢true p)

or_right : (a b : Bool) → IsTrue b → IsTrue (a || b)
or_right true b p = refl
or_right false b p = p

either_kept : (a b c d : Bool) → (IsTrue a → IsTrue c) → (IsTrue b → IsTrue d) → IsTrue (a || b) → IsTrue (c || d)
either_kept true b c d f g p = or_left c d (f refl)
either_kept false b c d f g p = or_right c d (g p)

all_kept : {X : Type 0} (p q : X → Bool) → ((x : X) → IsTrue (p x) → IsTrue (q x)) → (xs : List X) → IsTrue (list_all p xs) → IsTrue (list_all q xs)
all_kept p q h [] t = refl
all_kept p q h (x ∷ xs) t = both (q x) (list_all q xs) (h x (first (p x) (list_all p xs) t)) (all_kept p q h xs (second (p x) (list_all p xs) t))

any_kept : {X : Type 0} (p q : X → Bool) → ((x : X) → IsTrue (p x) → IsTrue (q x)) → (xs : List X) → IsTrue (list_any p xs) → IsTrue (list_any q xs)
any_kept p q h [] t = t
any_kept p q h (x ∷ xs) t = either_kept (p x) (list_any p xs) (q x) (list_any q xs) (h x) (any_kept p q h xs) t

all_at : {X : Type 0} (p : X → Bool) (xs : List X) (n : ℕ) (x : X) → IsTrue (list_all p xs) → slice_get xs n ≡ Some x → IsTrue (p x)
all_at p [] n x t e = absurd (grind arith)
all_at p (y ∷ xs) zero x t e = subst (λ o. IsTrue (elim o as (λ o. Bool) [ None ↦ true | Some z ↦ p z ])) e (first (p y) (list_all p xs) t)
all_at p (y ∷ xs) (suc n) x t e = all_at p xs n x (second (p y) (list_all p xs) t) e

-- MORE NAMES, MORE THAT SPANS NOTHING

-- all that the one set has the other has
abbrev pub Includes : (some all : List ℕ → Bool) → Type 0
Includes some all = (q : List ℕ) → IsTrue (some q) → IsTrue (all q)

more_part : (some all : List ℕ → Bool) → Includes some all → (t : Spelled) → IsTrue (spans_part some t) → IsTrue (spans_part all t)
more_part some all h t p = both (is_name t) (all t.content) (first (is_name t) (some t.content) p) (h t.content (second (is_name t) (some t.content) p))

more_element : (some all : List ℕ → Bool) → Includes some all → (e : Element) → IsTrue (spans_element some e) → IsTrue (spans_element all e)
more_element some all h e p = all_kept (spans_part some) (spans_part all) (more_part some all h) (parts_of_element e) p

more_alternative : (some all : List ℕ → Bool) → Includes some all → (a : Alternative) → IsTrue (spans_alternative some a) → IsTrue (spans_alternative all a)
more_alternative some all h a p = all_kept (spans_element some) (spans_element all) (more_element some all h) a.elements p

more_group : (some all : List ℕ → Bool) → Includes some all → (g : List Alternative) → IsTrue (spans_group some g) → IsTrue (spans_group all g)
more_group some all h g p = any_kept (spans_alternative some) (spans_alternative all) (more_alternative some all h) g p

pub more_right : (some all : List ℕ → Bool) → Includes some all → (s : Statement) → IsTrue (spans_right some s) → IsTrue (spans_right all s)
more_right some all h (Start at name) p = p
more_right some all h (Default at adverbs) p = p
more_right some all h (LexemeDefault at adverbs) p = p
more_right some all h (Lexeme at name adverbs) p = p
more_right some all h (Discard at item adverbs) p = p
more_right some all h (Empty left lexical adverbs) p = p
more_right some all h (Quantified left lexical item true adverbs) p = more_part some all h item p
more_right some all h (Quantified left lexical item false adverbs) p = p
more_right some all h (Rules left lexical groups) p = any_kept (spans_group some) (spans_group all) (more_group some all h) groups p

module _ (some all : List ℕ → Bool) (h : Includes some all) (from : List ℕ → Cause → Bool) (c : Cause) where
  more_comes_alternative : (left : Spelled) (a : Alternative) → IsTrue (comes_alternative some from left c a) → IsTrue (comes_alternative all from left c a)
  more_comes_alternative left a p =
      both (spans_alternative all a) (comes_last from left c (last_of a)) (more_alternative some all h a (first (spans_alternative some a) (comes_last from left c (last_of a)) p)) (second (spans_alternative some a) (comes_last from left c (last_of a)) p)

  more_comes_group : (left : Spelled) (g : List Alternative) → IsTrue (comes_group some from left c g) → IsTrue (comes_group all from left c g)
  more_comes_group left g p = any_kept (comes_alternative some from left c) (comes_alternative all from left c) (more_comes_alternative left) g p

  pub more_comes : (s : Statement) → IsTrue (comes_right some from c s) → IsTrue (comes_right all from c s)
  more_comes (Start at name) p = p
  more_comes (Default at adverbs) p = p
  more_comes (LexemeDefault at adverbs) p = p
  more_comes (Lexeme at name adverbs) p = p
  more_comes (Discard at item adverbs) p = p
  more_comes (Empty left lexical adverbs) p = p
  more_comes (Quantified left lexical item plus adverbs) p = p
  more_comes (Rules left lexical groups) p = any_kept (comes_group some from left c) (comes_group all from left c) (more_comes_group left) groups p

-- WHAT IS FOUND SPANS NOTHING

if_some : (b : Bool) (o : Option Cause) (c : Cause) → cond b o None ≡ Some c → IsTrue b × (o ≡ Some c)
if_some true o c e = (refl, e)
if_some false o c e = absurd (grind arith)

is_own : (left : Spelled) (c : Cause) → Some (own left) ≡ Some c → IsTrue (is_cause left c)
is_own left c e = subst (λ o. IsTrue (elim o as (λ o. Bool) [ None ↦ true | Some d ↦ is_cause left d ])) e (both (bytes_eq left.content left.content) (left.at == left.at) ((bytes_eq-Decides left.content left.content).1 refl) ((Decides-eqb left.at left.at).1 refl))

module _ (causes : List ℕ → Option Cause) (c : Cause) where
  or_some : (o : Option Cause) (rest : Option Cause) (p q : Bool) → (o ≡ Some c → IsTrue p) → (rest ≡ Some c → IsTrue q) → option_or o rest ≡ Some c → IsTrue (p || q)
  or_some None rest p q f g e = or_right p q (g e)
  or_some (Some d) rest p q f g e = or_left p q (f e)

  spans_found_part : (t : Spelled) → cause_of_part causes t ≡ Some c → IsTrue (spans_part (knows causes) t)
  spans_found_part t e =
      let w = if_some (is_name t) (causes t.content) c e in
      both (is_name t) (knows causes t.content) w.0 (ap (λ (o : Option Cause). is_some o) w.1)

  spans_found_group : (left : Spelled) (g : List Alternative) → found_group causes left g ≡ Some c → IsTrue (spans_group (knows causes) g)
  spans_found_group left [] e = absurd (grind arith)
  spans_found_group left (a ∷ g) e =
      or_some (found_alternative causes left a) (found_group causes left g) (spans_alternative (knows causes) a) (spans_group (knows causes) g) (λ d. (if_some (spans_alternative (knows causes) a) (found_last causes left (last_of a)) c d).0) (spans_found_group left g) e

  spans_found_groups : (left : Spelled) (gs : List (List Alternative)) → found_groups causes left gs ≡ Some c → IsTrue (list_any (spans_group (knows causes)) gs)
  spans_found_groups left [] e = absurd (grind arith)
  spans_found_groups left (g ∷ gs) e =
      or_some (found_group causes left g) (found_groups causes left gs) (spans_group (knows causes) g) (list_any (spans_group (knows causes)) gs) (spans_found_group left g) (spans_found_groups left gs) e

  pub spans_found : (s : Statement) → found causes s ≡ Some c → IsTrue (spans_right (knows causes) s)
  spans_found (Start at name) e = absurd (grind arith)
  spans_found (Default at adverbs) e = absurd (grind arith)
  spans_found (LexemeDefault at adverbs) e = absurd (grind arith)
  spans_found (Lexeme at name adverbs) e = absurd (grind arith)
  spans_found (Discard at item adverbs) e = absurd (grind arith)
  spans_found (Empty left lexical adverbs) e = refl
  spans_found (Quantified left lexical item true adverbs) e = spans_found_part item e
  spans_found (Quantified left lexical item false adverbs) e = refl
  spans_found (Rules left lexical groups) e = spans_found_groups left groups e

  -- IT COMES FROM THERE

  module _ (from : List ℕ → Cause → Bool) (has : (q : List ℕ) → causes q ≡ Some c → IsTrue (from q c)) where
    comes_found_last : (left : Spelled) (o : Option Spelled) → found_last causes left o ≡ Some c → IsTrue (comes_last from left c o)
    comes_found_last left None e = is_own left c e
    comes_found_last left (Some t) e = has t.content (if_some (is_name t) (causes t.content) c e).1

    comes_found_alternative : (left : Spelled) (a : Alternative) → found_alternative causes left a ≡ Some c → IsTrue (comes_alternative (knows causes) from left c a)
    comes_found_alternative left a e =
        let w = if_some (spans_alternative (knows causes) a) (found_last causes left (last_of a)) c e in
        both (spans_alternative (knows causes) a) (comes_last from left c (last_of a)) w.0 (comes_found_last left (last_of a) w.1)

    comes_found_group : (left : Spelled) (g : List Alternative) → found_group causes left g ≡ Some c → IsTrue (comes_group (knows causes) from left c g)
    comes_found_group left [] e = absurd (grind arith)
    comes_found_group left (a ∷ g) e =
        or_some (found_alternative causes left a) (found_group causes left g) (comes_alternative (knows causes) from left c a) (comes_group (knows causes) from left c g) (comes_found_alternative left a) (comes_found_group left g) e

    comes_found_groups : (left : Spelled) (gs : List (List Alternative)) → found_groups causes left gs ≡ Some c → IsTrue (list_any (comes_group (knows causes) from left c) gs)
    comes_found_groups left [] e = absurd (grind arith)
    comes_found_groups left (g ∷ gs) e =
        or_some (found_group causes left g) (found_groups causes left gs) (comes_group (knows causes) from left c g) (list_any (comes_group (knows causes) from left c) gs) (comes_found_group left g) (comes_found_groups left gs) e

    comes_found_item : (left : Spelled) (plus : Bool) (item : Spelled) → found_item causes left plus item ≡ Some c → IsTrue (comes_item from left c plus item)
    comes_found_item left true item e =
        let w = if_some (is_name item) (causes item.content) c e in
        both (is_name item) (from item.content c) w.0 (has item.content w.1)
    comes_found_item left false item e = is_own left c e

    pub comes_found : (s : Statement) → found causes s ≡ Some c → IsTrue (comes_right (knows causes) from c s)
    comes_found (Start at name) e = absurd (grind arith)
    comes_found (Default at adverbs) e = absurd (grind arith)
    comes_found (LexemeDefault at adverbs) e = absurd (grind arith)
    comes_found (Lexeme at name adverbs) e = absurd (grind arith)
    comes_found (Discard at item adverbs) e = absurd (grind arith)
    comes_found (Empty left lexical adverbs) e = is_own left c e
    comes_found (Quantified left lexical item plus adverbs) e = comes_found_item left plus item e
    comes_found (Rules left lexical groups) e = comes_found_groups left groups e

-- WHAT SPANS NOTHING IS FOUND

module _ (causes : List ℕ → Option Cause) where
  some_if : (b : Bool) (o : Option Cause) → IsTrue (b && is_some o) → IsTrue (is_some (cond b o None))
  some_if true o p = p
  some_if false o p = p

  found_by_last : (left : Spelled) (es : List Element) (n : ℕ) → IsTrue (list_all (spans_element (knows causes)) es) → IsTrue (is_some (found_last causes left (option_and_then last_part (slice_get es n))))
  found_by_last left es n p = by (slice_get es n) refl
    where
      by_part : (e : Element) → IsTrue (spans_element (knows causes) e) → (o : Option Spelled) → last_part e ≡ o → IsTrue (is_some (found_last causes left o))
      by_part e t None q = refl
      by_part e t (Some u) q = some_if (is_name u) (causes u.content) (all_at (spans_part (knows causes)) (parts_of_element e) _ u t q)

      by : (o : Option Element) → slice_get es n ≡ o → IsTrue (is_some (found_last causes left (option_and_then last_part o)))
      by None q = refl
      by (Some e) q = by_part e (all_at (spans_element (knows causes)) es n e p q) (last_part e) refl

  found_by_alternative : (left : Spelled) (a : Alternative) → IsTrue (spans_alternative (knows causes) a) → IsTrue (is_some (found_alternative causes left a))
  found_by_alternative left a p =
      some_if (spans_alternative (knows causes) a) (found_last causes left (last_of a)) (both (spans_alternative (knows causes) a) (is_some (found_last causes left (last_of a))) p (found_by_last left a.elements _ p))

  some_or : (o rest : Option Cause) (a b : Bool) → (IsTrue a → IsTrue (is_some o)) → (IsTrue b → IsTrue (is_some rest)) → IsTrue (a || b) → IsTrue (is_some (option_or o rest))
  some_or (Some c) rest a b f g p = refl
  some_or None rest true b f g p = absurd (false≢true (f refl))
  some_or None rest false b f g p = g p

  found_by_group : (left : Spelled) (g : List Alternative) → IsTrue (spans_group (knows causes) g) → IsTrue (is_some (found_group causes left g))
  found_by_group left [] p = p
  found_by_group left (a ∷ g) p =
      some_or (found_alternative causes left a) (found_group causes left g) (spans_alternative (knows causes) a) (spans_group (knows causes) g) (found_by_alternative left a) (found_by_group left g) p

  found_by_groups : (left : Spelled) (gs : List (List Alternative)) → IsTrue (list_any (spans_group (knows causes)) gs) → IsTrue (is_some (found_groups causes left gs))
  found_by_groups left [] p = p
  found_by_groups left (g ∷ gs) p =
      some_or (found_group causes left g) (found_groups causes left gs) (spans_group (knows causes) g) (list_any (spans_group (knows causes)) gs) (found_by_group left g) (found_by_groups left gs) p

  pub found_by_right : (s : Statement) → IsTrue (spans_right (knows causes) s) → IsTrue (is_some (found causes s))
  found_by_right (Start at name) p = p
  found_by_right (Default at adverbs) p = p
  found_by_right (LexemeDefault at adverbs) p = p
  found_by_right (Lexeme at name adverbs) p = p
  found_by_right (Discard at item adverbs) p = p
  found_by_right (Empty left lexical adverbs) p = refl
  found_by_right (Quantified left lexical item true adverbs) p = some_if (is_name item) (causes item.content) p
  found_by_right (Quantified left lexical item false adverbs) p = refl
  found_by_right (Rules left lexical groups) p = found_by_groups left groups p
