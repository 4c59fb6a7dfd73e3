-- Flat rules that are added, one part of a list after another.
use Rattle.std.proofs.Common.{◌≡◌, ℕ, ◌+◌, ◌<◌, ◌≤◌, Bool, true, cond, List, [], ◌∷◌, ◌++◌, length, map, take, drop, get_or, Result, Ok, Err, sym, ap, ◌∙◌, subst, arith, append_assoc, length-append}
use Rattle.std.specs.List.{flat_map}
use Rattle.std.specs.declared.vec.Vec.{Vec}
use Rattle.std.specs.declared.alloc.Global.{Global}
use Rattle.std.specs.Prelude.{slice_get, Some}
use Rattle.std.specs.Result.{IsErrAnd}
use Rattle.std.proofs.lemmas.Grind.{flat_map-append}
use Rattle.std.proofs.lemmas.List.{map-append, take_more, take-append-drop, append-nil, length-map, take_all}
use Rattle.finite_sets.proofs.Lists.{get_index}
use Rattle.grammar_model.specs.Simple.{numbers}
use Rattle.recognizer_model.specs.Flat.{FlatRule}
use Rattle.flat_rules.specs.declared.refusal.FlatRefusal.{FlatRefusal}
use Rattle.flat_rules.specs.declared.refusal.FlatRefusal.TheVariants.{TooManyRules, NoMemory}
use Rattle.grammar_model.specs.Grammar.{WrittenRule}
use Rattle.grammar_model.specs.declared.limits.TheConstants.{MOST_FLAT_RULES}
use Rattle.recognizer_model.specs.declared.flat.FlatSymbol.TheVariants.{Sequence, Top}
use Rattle.recognizer_model.proofs.FlatNamed.{map_at}
use Rattle.flat_rules.specs.Tables.{Numbering, number_in}
use Rattle.flat_rules.specs.Added.{Adds, AreAll, rule_by, part_in, longer_by, has_separator_rule}
use Rattle.flat_rules.proofs.FlatOf.{numbers_length, numbers_at}
use Rattle.flat_rules.proofs.Rows.{numbers_next}

pub map_next : {X : Type 0} (g : ℕ → X) (n : ℕ) → map g (numbers (n + 1)) ≡ map g (numbers n) ++ g n ∷ []
map_next g n = ap (map g) (numbers_next n) ∙ map-append g (numbers n) (n ∷ [])

pub adds_none : {T : Type 0} (old : List FlatRule) (x : T) → Adds old old [] (Ok x)
adds_none old x = (sym (append-nil old), (λ le. le))

pub adds_two : {T U : Type 0} (old mid new a b : List FlatRule) (x : T) (r : Result U FlatRefusal) → Adds old mid a (Ok x) → Adds mid new b r → Adds old new (a ++ b) r
adds_two old mid new a b x (Ok y) h k = (k.0 ∙ ap (λ l. l ++ b) h.0 ∙ append_assoc old a b, (λ le. k.1 (h.1 le)))
adds_two old mid new a b x (Err TooManyRules) h k =
    let e = ap length h.0 ∙ length-append old a in
    let f = length-append a b in
    omega (arith, e, f, k)
adds_two old mid new a b x (Err NoMemory) h k = tt

-- what comes after makes no difference to a refusal
pub adds_err : (T U : Type 0) (old new other a b : List FlatRule) (e : FlatRefusal) → Adds {T = T} old new a (Err e) → Adds {T = U} old other (a ++ b) (Err e)
adds_err T U old new other a b TooManyRules h = let f = length-append a b in omega (arith, f, h)
adds_err T U old new other a b NoMemory h = tt

-- a refusal that is handed on
pub adds_given : (T U : Type 0) (old new other a b : List FlatRule) (e : FlatRefusal) (r : Result U FlatRefusal) → IsErrAnd r (λ x. x ≡ e) → Adds {T = T} old new a (Err e) → Adds {T = U} old other (a ++ b) r
adds_given T U old new other a b e (Ok x) is h = absurd is
adds_given T U old new other a b e (Err x) is h = subst (λ z. Adds {T = U} old other (a ++ b) (Err z)) (sym is) (adds_err T U old new other a b e h)

pub adds_to : {T : Type 0} (old new a b : List FlatRule) (r : Result T FlatRefusal) → a ≡ b → Adds old new a r → Adds old new b r
adds_to old new a b r e h = subst (λ l. Adds old new l r) e h

-- ---- one part after another

part_more : {X : Type 0} (g : X → List FlatRule) (xs : List X) (n : ℕ) (x : X) → n < length xs → x ≡ get_or xs n x → flat_map g (take n xs) ++ g x ≡ flat_map g (take (n + 1) xs)
part_more g xs n x lt is =
    let more : take (n + 1) xs ≡ take n xs ++ get_or xs n x ∷ [] = grind (arith, take_more) in
    sym (ap (flat_map g) (more ∙ ap (λ y. take n xs ++ y ∷ []) (sym is)) ∙ flat_map-append g (take n xs) (x ∷ []) ∙ ap (λ l. flat_map g (take n xs) ++ l) (append-nil (g x)))

parts_all : {X : Type 0} (g : X → List FlatRule) (xs : List X) (n : ℕ) → flat_map g (take n xs) ++ flat_map g (drop n xs) ≡ flat_map g xs
parts_all g xs n = sym (flat_map-append g (take n xs) (drop n xs)) ∙ ap (flat_map g) (take-append-drop n xs)

pub adds_next : {X T U : Type 0} (g : X → List FlatRule) (xs : List X) (n : ℕ) (x : X) (start mid new : List FlatRule) (u : T) (v : U) → n < length xs → x ≡ get_or xs n x →
    Adds start mid (flat_map g (take n xs)) (Ok u) → Adds mid new (g x) (Ok v) → Adds start new (flat_map g (take (n + 1) xs)) (Ok v)
adds_next g xs n x start mid new u v lt is h k =
    adds_to start new (flat_map g (take n xs) ++ g x) (flat_map g (take (n + 1) xs)) (Ok v) (part_more g xs n x lt is) (adds_two start mid new (flat_map g (take n xs)) (g x) u (Ok v) h k)

pub adds_stop : {X T : Type 0} (U V : Type 0) (g : X → List FlatRule) (xs : List X) (n : ℕ) (x : X) (start mid new other : List FlatRule) (u : T) (e : FlatRefusal) → n < length xs → x ≡ get_or xs n x →
    Adds start mid (flat_map g (take n xs)) (Ok u) → Adds {T = U} mid new (g x) (Err e) → Adds {T = V} start other (flat_map g xs) (Err e)
adds_stop {X} {T} U V g xs n x start mid new other u e lt is h k =
    let stop : Adds {T = U} start new (flat_map g (take n xs) ++ g x) (Err e) = adds_two {T = T} {U = U} start mid new (flat_map g (take n xs)) (g x) u (Err e) h k in
    let more : Adds {T = V} start other ((flat_map g (take n xs) ++ g x) ++ flat_map g (drop (n + 1) xs)) (Err e) = adds_err U V start new other (flat_map g (take n xs) ++ g x) (flat_map g (drop (n + 1) xs)) e stop in
    adds_to {T = V} start other ((flat_map g (take n xs) ++ g x) ++ flat_map g (drop (n + 1) xs)) (flat_map g xs) (Err e)
    (ap (λ l. l ++ flat_map g (drop (n + 1) xs)) (part_more g xs n x lt is) ∙ parts_all g xs (n + 1)) more

-- ---- the steps of a loop

abbrev Done : Type 0
Done = Unit {0}

pub loop_stop : {X : Type 0} (g : X → List FlatRule) (xs : List X) (n : ℕ) (x : X) (start mid new other : List FlatRule) (e : FlatRefusal) (r : Result Done FlatRefusal) → n < length xs → x ≡ get_or xs n x → IsErrAnd r (λ z. z ≡ e) →
    Adds {T = Done} start mid (flat_map g (take n xs)) (Ok tt) → Adds {T = Done} mid new (g x) (Err e) → Adds {T = Done} start other (flat_map g xs) r
loop_stop g xs n x start mid new other e (Ok u) lt is given h k = absurd given
loop_stop g xs n x start mid new other e (Err z) lt is given h k =
    subst (λ z. Adds {T = Done} start other (flat_map g xs) (Err z)) (sym given) (adds_stop {T = Done} Done Done g xs n x start mid new other tt e lt is h k)

pub loop_next : {X : Type 0} (g : X → List FlatRule) (xs : List X) (n : ℕ) (x : X) (start mid new : List FlatRule) → n < length xs → x ≡ get_or xs n x →
    Adds {T = Done} start mid (flat_map g (take n xs)) (Ok tt) → Adds {T = Done} mid new (g x) (Ok tt) → Adds {T = Done} start new (flat_map g (take (n + 1) xs)) (Ok tt)
loop_next g xs n x start mid new lt is h k = adds_next {T = Done} {U = Done} g xs n x start mid new tt tt lt is h k

pub loop_end : {X : Type 0} (g : X → List FlatRule) (xs : List X) (n : ℕ) (start new : List FlatRule) → length xs ≤ n → Adds {T = Done} start new (flat_map g (take n xs)) (Ok tt) → Adds {T = Done} start new (flat_map g xs) (Ok tt)
loop_end g xs n start new le h = adds_to {T = Done} start new (flat_map g (take n xs)) (flat_map g xs) (Ok tt) (ap (flat_map g) (take_all n xs le)) h

-- what stands at a place of a list that is made of another
pub at_map : {A B : Type 0} (g : A → B) (xs : List A) (k : ℕ) (d : A) → k < length xs → (k < length (map g xs)) × (g (get_or xs k d) ≡ get_or (map g xs) k (g (get_or xs k d)))
at_map g xs k d lt = let long = length-map xs g in (omega (arith, long, lt), sym (map_at g xs k d (g (get_or xs k d)) lt))

pub take_step : {A B : Type 0} (g : A → B) (xs : List A) (n : ℕ) (x : A) (y : B) (start old new : List B) → n < length xs → x ≡ get_or xs n x → old ≡ start ++ map g (take n xs) → new ≡ old ++ y ∷ [] → y ≡ g x → new ≡ start ++ map g (take (n + 1) xs)
take_step g xs n x y start old new lt is h e same =
    let more : take (n + 1) xs ≡ take n xs ++ get_or xs n x ∷ [] = grind (arith, take_more) in
    e ∙ (λ i. h i ++ same i ∷ []) ∙ append_assoc start (map g (take n xs)) (g x ∷ [])
    ∙ ap (λ l. start ++ l) (sym (map-append g (take n xs) (x ∷ [])) ∙ ap (λ z. map g (take n xs ++ z ∷ [])) is ∙ ap (map g) (sym more))

pub numbers_step : {B : Type 0} (g : ℕ → B) (n : ℕ) (y : B) (start old new : List B) → old ≡ start ++ map g (numbers n) → new ≡ old ++ y ∷ [] → y ≡ g n → new ≡ start ++ map g (numbers (n + 1))
numbers_step g n y start old new h e same = e ∙ (λ i. h i ++ same i ∷ []) ∙ append_assoc start (map g (numbers n)) (g n ∷ []) ∙ ap (λ l. start ++ l) (sym (map_next g n))

-- ---- all of them

pub all_err : (T : Type 0) (start new a b all : List FlatRule) (e : FlatRefusal) (r : Result (Vec FlatRule Global) FlatRefusal) → start ≡ [] → all ≡ a ++ b → IsErrAnd r (λ z. z ≡ e) → Adds {T = T} start new a (Err e) → AreAll all r
all_err T start new a b all e (Ok v) none is given h = absurd given
all_err T start new a b all e (Err z) none is given h = go e z given h
  where
    go : (e z : FlatRefusal) → z ≡ e → Adds {T = T} start new a (Err e) → AreAll all (Err z)
    go e TooManyRules same h =
        let many : Adds {T = T} start new a (Err TooManyRules) = subst (λ x. Adds {T = T} start new a (Err x)) (sym same) h in
        let long = ap length is ∙ length-append a b in
        let empty = ap length none in
        omega (arith, many, long, empty)
    go e NoMemory same h = tt

pub all_ok : {T : Type 0} (start new a all : List FlatRule) (x : T) → start ≡ [] → all ≡ a → Adds start new a (Ok x) → (new ≡ all) × (length all ≤ MOST_FLAT_RULES)
all_ok start new a all x none is h =
    let same : new ≡ all = h.0 ∙ ap (λ l. l ++ a) none ∙ sym is in
    let empty = ap length none in
    (same, subst (λ l. length l ≤ MOST_FLAT_RULES) same (h.1 (omega (arith, empty))))

pub at_slot : {A B : Type 0} (g : A → B) (xs : List A) (k : ℕ) (x : A) → slice_get xs k ≡ Some x → (k < length (map g xs)) × (g x ≡ get_or (map g xs) k (g x))
at_slot g xs k x e =
    let (lt, is) = get_index xs k x x e in
    let (less, same) = at_map g xs k x lt in
    (less, subst (λ y. g y ≡ get_or (map g xs) k (g y)) is same)

pub at_top : (n k : ℕ) → k < n → (k < length (map Top (numbers n))) × (Top k ≡ get_or (map Top (numbers n)) k (Top k))
at_top n k lt =
    let count = numbers_length n in
    let (less, is) = at_map Top (numbers n) k 0 (omega (arith, count, lt)) in
    (less, subst (λ z. Top z ≡ get_or (map Top (numbers n)) k (Top z)) (numbers_at n k 0 lt) is)

pub longer_three : (t : Numbering) (i : ℕ) (counts : Bool) (rule : WrittenRule) (list separator item : ℕ) → has_separator_rule rule ≡ true → counts ≡ true → list ≡ number_in t (Sequence i) → separator ≡ part_in t rule 1 → item ≡ part_in t rule 0 →
    rule_by i list (list ∷ separator ∷ item ∷ []) ∷ [] ≡ longer_by t i counts rule
longer_three t i counts rule list separator item has so a b e =
    (λ z. rule_by i (a z) (a z ∷ b z ∷ e z ∷ []) ∷ [])
    ∙ (λ z. cond (sym has z) (cond (sym so z) (rule_by i (number_in t (Sequence i)) (number_in t (Sequence i) ∷ part_in t rule 1 ∷ part_in t rule 0 ∷ []) ∷ []) []) (rule_by i (number_in t (Sequence i)) (number_in t (Sequence i) ∷ part_in t rule 0 ∷ []) ∷ []))
