-- Rounds over the statements: each but the last has a new name, and after the last each name has its cause, or cannot span nothing.
use Rattle.std.proofs.Common.{◌≡◌, ℕ, zero, suc, ◌<◌, ◌≤◌, ◌+◌, Bool, true, false, cond, ◌||◌, not, List, [], ◌∷◌, ◌++◌, length, get_or, sym, ap, ◌∙◌, refl, subst, arith, bytes_eq, IsTrue, Option, Some, None, is_some, option_map, map, take}
use Rattle.std.specs.List.{count_by}
use Rattle.std.proofs.lemmas.Bool.{false≢true}
use Rattle.std.proofs.lemmas.List.Sums.{sum_by-cons}
use Rattle.std.proofs.lemmas.Slice.Eq.{bytes_eq-Decides}
use Rattle.std.proofs.lemmas.List.Elements.{All-push}
use Rattle.language_model.specs.Description.{Statement}
use Rattle.std.proofs.lemmas.List.{take_more, take_all, get_or-map, map-append, length-map}
use Rattle.std.proofs.lemmas.Map.Text.{hash_map_updates_str}
use Rattle.std.specs.HashMap.{UpdatesBy, get_by}
use Rattle.std.specs.Map.{lookup}
use Rattle.lint_hints.specs.declared.nullable.Cause.{Cause as HeldCause}
use Rattle.lint_hints.specs.declared.nullable.Nullable.{Nullable as HeldNullable}
use Rattle.lint_hints.specs.Uses.{left_name}
use Rattle.lint_hints.specs.Nullable.{Cause, spans_right, comes_right, IsClosed, SpansNothing, ComesFrom, IsCauseOf}
use Rattle.lint_hints.specs.Found.{cause_of, causes_of, knows, found, Updates, IsAdded, AreSound, AreEnough, open_count, IsRound}
use Rattle.lint_hints.proofs.Sound.{Includes, more_right, more_comes, spans_found, comes_found, found_by_right}

-- SOUND

some_of : (o : Option Cause) → IsTrue (is_some o) → (c : Cause) × (o ≡ Some c)
some_of (Some c) t = (c, refl)
some_of None t = absurd (false≢true t)

module _ (d : List Statement) (k : ℕ) (s : Statement) (within : k < length d) (at : get_or d k s ≡ s) (old : List ℕ → Option Cause) (sound : AreSound d old) (c : Cause) (is : found old s ≡ Some c) where
  in_closed : (spans : List ℕ → Bool) → IsClosed d spans → Includes (knows old) spans
  in_closed spans closed q t = let w = some_of (old q) t in (sound q w.0 w.1).0 spans closed

  new_spans : SpansNothing d (left_name s)
  new_spans = λ spans closed. subst (λ (x : Statement). IsTrue (spans_right spans x) → IsTrue (spans (left_name x))) at (closed k s within) (more_right (knows old) spans (in_closed spans closed) s (spans_found old c s is))

  new_comes : ComesFrom d (left_name s) c
  new_comes = λ spans from closed are. subst (λ (x : Statement). (c : Cause) → IsTrue (comes_right spans from c x) → IsTrue (from (left_name x) c)) at (are k s within) c
      (more_comes (knows old) spans (in_closed spans closed) from c s (comes_found old c from (λ q e. (sound q c e).1 spans from closed are) s is))

  sound_updated : (new : List ℕ → Option Cause) → Updates (left_name s) c old new → AreSound d new
  sound_updated new updates name c' e = by (bytes_eq (left_name s) name) refl (sym (updates name) ∙ e)
    where
      by : (b : Bool) → bytes_eq (left_name s) name ≡ b → cond b (Some c) (old name) ≡ Some c' → SpansNothing d name × ComesFrom d name c'
      by true same e =
          let n : left_name s ≡ name = (bytes_eq-Decides (left_name s) name).0 same in
          let m : c ≡ c' = grind arith in
          (subst (λ n. SpansNothing d n) n new_spans, subst (λ c. ComesFrom d name c) m (subst (λ n. ComesFrom d n c) n new_comes))
      by false same e = sound name c' e

pub sound_added : (d : List Statement) (k : ℕ) (s : Statement) (old new : List ℕ → Option Cause) (grew : Bool) → k < length d → get_or d k s ≡ s → IsAdded s old new grew → AreSound d old → AreSound d new
sound_added d k s old new true within at added sound = sound_updated d k s within at old sound added.0 added.2 new added.3
sound_added d k s old new false within at added sound = λ name c e. sound name c (sym (added.0 name) ∙ e)

-- FEWER

step : (a b : Bool) (m n : ℕ) → (IsTrue b → IsTrue a) → m ≤ n → cond b 1 0 + m ≤ cond a 1 0 + n
step true true m n h e = omega arith
step true false m n h e = omega arith
step false true m n h e = absurd (false≢true (h refl))
step false false m n h e = omega arith

strict : (a b : Bool) (m n : ℕ) → (IsTrue b → IsTrue a) → m < n → cond b 1 0 + m < cond a 1 0 + n
strict true true m n h e = omega arith
strict true false m n h e = omega arith
strict false true m n h e = absurd (false≢true (h refl))
strict false false m n h e = omega arith

here : (a b : Bool) (m n : ℕ) → a ≡ true → b ≡ false → m ≤ n → cond b 1 0 + m < cond a 1 0 + n
here true false m n p q e = omega arith
here true true m n p q e = absurd (grind arith)
here false b m n p q e = absurd (grind arith)

fewer : {X : Type 0} (p q : X → Bool) → ((x : X) → IsTrue (q x) → IsTrue (p x)) → (xs : List X) → count_by q xs ≤ count_by p xs
fewer p q h [] = omega arith
fewer p q h (x ∷ xs) =
    let e = step (p x) (q x) (count_by q xs) (count_by p xs) (h x) (fewer p q h xs) in
    omega (arith, e, sum_by-cons (λ x. cond (p x) 1 0) x xs, sum_by-cons (λ x. cond (q x) 1 0) x xs)

one_fewer : {X : Type 0} (p q : X → Bool) → ((x : X) → IsTrue (q x) → IsTrue (p x)) → (xs : List X) (k : ℕ) (x : X) → k < length xs → p (get_or xs k x) ≡ true → q (get_or xs k x) ≡ false → count_by q xs < count_by p xs
one_fewer p q h [] k x w a b = absurd (omega arith)
one_fewer p q h (y ∷ ys) zero x w a b =
    let e = here (p y) (q y) (count_by q ys) (count_by p ys) a b (fewer p q h ys) in
    omega (arith, e, sum_by-cons (λ x. cond (p x) 1 0) y ys, sum_by-cons (λ x. cond (q x) 1 0) y ys)
one_fewer p q h (y ∷ ys) (suc k) x w a b =
    let e = strict (p y) (q y) (count_by q ys) (count_by p ys) (h y) (one_fewer p q h ys k x (omega arith) a b) in
    omega (arith, e, sum_by-cons (λ x. cond (p x) 1 0) y ys, sum_by-cons (λ x. cond (q x) 1 0) y ys)

still_open : (b : Bool) (c : Cause) (o : Option Cause) → IsTrue (not (is_some (cond b (Some c) o))) → IsTrue (not (is_some o))
still_open true c o t = absurd (false≢true t)
still_open false c o t = t

open_fewer : (d : List Statement) (k : ℕ) (s : Statement) (old new : List ℕ → Option Cause) (c : Cause) → k < length d → get_or d k s ≡ s → old (left_name s) ≡ None → Updates (left_name s) c old new → open_count d new < open_count d old
open_fewer d k s old new c within at absent updates =
    one_fewer (λ x. not (knows old (left_name x))) (λ x. not (knows new (left_name x)))
    (λ x t. still_open (bytes_eq (left_name s) (left_name x)) c (old (left_name x)) (subst (λ o. IsTrue (not (is_some o))) (updates (left_name x)) t))
    d k s within
    (ap (λ (x : Statement). not (knows old (left_name x))) at ∙ ap (λ (o : Option Cause). not (is_some o)) absent)
    (ap (λ (x : Statement). not (knows new (left_name x))) at ∙ ap (λ (o : Option Cause). not (is_some o)) (updates (left_name s) ∙ ap (λ b. cond b (Some c) (old (left_name s))) ((bytes_eq-Decides (left_name s) (left_name s)).1 refl)))

-- PROGRESS

-- a round has come over the statements before
abbrev pub State : (d before : List Statement) (old now : List ℕ → Option Cause) (grew : Bool) → Type 0
State d before old now true = open_count d now < open_count d old
State d before old now false = ((q : List ℕ) → now q ≡ old q) × AreEnough before old

pub record Progress (d before : List Statement) (old now : List ℕ → Option Cause) (grew : Bool) : Type 0 where
  pub small : open_count d now ≤ open_count d old
  pub state : State d before old now grew

pub progress_start : (d : List Statement) (old : List ℕ → Option Cause) → Progress d [] old old false
progress_start d old = record { small = omega arith; state = (λ q. refl, λ k x w. absurd (omega arith)) }

pub progress_more : (d before : List Statement) (k : ℕ) (s : Statement) (old middle new : List ℕ → Option Cause) (grew more : Bool) → k < length d → get_or d k s ≡ s → Progress d before old middle grew → IsAdded s middle new more → Progress d (before ++ s ∷ []) old new (grew || more)
progress_more d before k s old middle new true true within at p added =
    let less = open_fewer d k s middle new added.0 within at added.1 added.3 in
    record { small = omega (arith, less, p.small); state = omega (arith, less, p.state) }
progress_more d before k s old middle new true false within at p added =
    let same : new ≡ middle = λ i q. added.0 q i in
    let count : open_count d new ≡ open_count d middle = ap (open_count d) same in
    record { small = omega (arith, count, p.small); state = omega (arith, count, p.state) }
progress_more d before k s old middle new false true within at p added =
    let less = open_fewer d k s middle new added.0 within at added.1 added.3 in
    record { small = omega (arith, less, p.small); state = omega (arith, less, p.small) }
progress_more d before k s old middle new false false within at p added =
    let same : new ≡ middle = λ i q. added.0 q i in
    let count : open_count d new ≡ open_count d middle = ap (open_count d) same in
    let was : middle ≡ old = λ i q. p.state.0 q i in
    record {
      small = omega (arith, count, p.small);
      state = (λ q. added.0 q ∙ p.state.0 q, enough_more before s old p.state.1 (subst (λ f. IsTrue (is_some (found f s)) → IsTrue (is_some (f (left_name s)))) was added.1));
    }
  where
    enough_more : (before : List Statement) (s : Statement) (f : List ℕ → Option Cause) → AreEnough before f → (IsTrue (is_some (found f s)) → IsTrue (knows f (left_name s))) → AreEnough (before ++ s ∷ []) f
    enough_more before s f all this = All-push (λ s. IsTrue (is_some (found f s)) → IsTrue (knows f (left_name s))) before s all this

pub progress_end : (d : List Statement) (old now : List ℕ → Option Cause) (grew : Bool) → Progress d d old now grew → IsRound d old now grew
progress_end d old now true p = p.state
progress_end d old now false p = p.state

-- after the last round
pub causes_are : (d : List Statement) (causes : List ℕ → Option Cause) → AreSound d causes → AreEnough d causes → (name : List ℕ) → IsCauseOf d name (causes name)
causes_are d causes sound enough name = by (causes name) refl
  where
    by : (o : Option Cause) → causes name ≡ o → IsCauseOf d name o
    by (Some c) e = sound name c e
    by None e = λ spans. false≢true (subst (λ o. IsTrue (is_some o)) e (spans (knows causes) (λ k x w t. enough k x w (found_by_right causes (get_or d k x) t))))

-- THE MAP

cond_cause : (b : Bool) (c : HeldCause) (o : Option HeldCause) → option_map cause_of (cond b (Some c) o) ≡ cond b (Some (cause_of c)) (option_map cause_of o)
cond_cause true c o = refl
cond_cause false c o = refl

pub put_updates : (name : List ℕ) (cause : HeldCause) (old new : HeldNullable) → UpdatesBy (λ x y. bytes_eq x.now y.now) (λ k. bytes_eq name k.now) old.causes new.causes (Some cause) → Updates name (cause_of cause) (causes_of old) (causes_of new)
put_updates name cause old new updates q =
    ap (λ (o : Option HeldCause). option_map cause_of o) (hash_map_updates_str name old.causes new.causes (Some cause) updates q) ∙ cond_cause (bytes_eq name q) cause (get_by (λ k. bytes_eq q k.now) old.causes)

none_of : (o : Option Cause) → is_some o ≡ false → o ≡ None
none_of None e = refl
none_of (Some c) e = absurd (false≢true (sym e))

pub added_new : (s : Statement) (old new : List ℕ → Option Cause) (left : List ℕ) (c : Cause) → left ≡ left_name s → Some c ≡ found old s → knows old left ≡ false → Updates left c old new → IsAdded s old new true
added_new s old new left c is f k u = (c, none_of (old (left_name s)) (subst (λ l. knows old l ≡ false) is k), sym f, subst (λ l. Updates l c old new) is u)

pub empty_sound : (d : List Statement) (n : HeldNullable) → n.causes.entries ≡ [] → AreSound d (causes_of n)
empty_sound d n none name c e =
    let no : None ≡ Some c = sym (ap (λ es. option_map cause_of (lookup (λ k. bytes_eq name k.now) es)) none) ∙ e in
    absurd (grind arith)

-- STEPS

module _ {V : Type 0} (f : V → Statement) (held : List V) (i : ℕ) where
  pub round_more : (x : V) (old middle new : List ℕ → Option Cause) (grew more all : Bool) → i < length held → x ≡ get_or held i x → Progress (map f held) (map f (take i held)) old middle grew → IsAdded (f x) middle new more → all ≡ (grew || more) → Progress (map f held) (map f (take (i + 1) held)) old new all
  round_more x old middle new grew more all w is p added same =
      let before : map f (take i held) ++ f x ∷ [] ≡ map f (take (i + 1) held) = sym (ap (λ xs. map f xs) (take_more held i x w) ∙ (map-append f (take i held) (get_or held i x ∷ []) ∙ ap (λ y. map f (take i held) ++ f y ∷ []) (sym is))) in
      subst (λ b. Progress (map f held) (map f (take (i + 1) held)) old new b) (sym same)
      (subst (λ xs. Progress (map f held) xs old new (grew || more)) before
      (progress_more (map f held) (map f (take i held)) i (f x) old middle new grew more (omega (arith, length-map held f)) (get_or-map f held i x (f x) w ∙ ap f (sym is)) p added))

  pub sound_more : (x : V) (old new : List ℕ → Option Cause) (more : Bool) → i < length held → x ≡ get_or held i x → IsAdded (f x) old new more → AreSound (map f held) old → AreSound (map f held) new
  sound_more x old new more w is added sound =
      sound_added (map f held) i (f x) old new more (omega (arith, length-map held f)) (get_or-map f held i x (f x) w ∙ ap f (sym is)) added sound

  pub round_end : (old now : List ℕ → Option Cause) (grew : Bool) → length held ≤ i → Progress (map f held) (map f (take i held)) old now grew → IsRound (map f held) old now grew
  round_end old now grew w p = progress_end (map f held) old now grew (subst (λ xs. Progress (map f held) (map f xs) old now grew) (take_all i held w) p)

pub round_less : (d : List Statement) (old new : List ℕ → Option Cause) (grew : Bool) → grew ≡ true → IsRound d old new grew → open_count d new < open_count d old
round_less d old new true e r = r
round_less d old new false e r = absurd (false≢true e)

pub last_round : (d : List Statement) (old new : List ℕ → Option Cause) (grew : Bool) → grew ≡ false → IsRound d old new grew → AreSound d new → (name : List ℕ) → IsCauseOf d name (new name)
last_round d old new true e r sound = absurd (false≢true (sym e))
last_round d old new false e r sound =
    let was : old ≡ new = λ i q. sym (r.0 q) i in
    causes_are d new sound (subst (λ f. AreEnough d f) was r.1)
