-- What stands twice in a list of adverbs, up to a place and after it.
use Rattle.std.proofs.Common.{◌≡◌, ℕ, ◌+◌, Bool, true, false, cond, List, [], ◌∷◌, ◌++◌, length, take, Option, Some, None, refl, sym, ap, ◌∙◌, map, append_assoc, Bor}
use Rattle.std.specs.Prelude.{flat_map, option_copied, option_map, is_some, bytes_eq, ◌||◌}
use Rattle.std.proofs.lemmas.List.{map-append, length-append}
use Rattle.std.proofs.lemmas.List.Folds.{list_any-append}
use Rattle.std.specs.Bool.{then_some}
use Rattle.std.specs.List.{slice_get, range_with_len}
use Rattle.std.proofs.Math.Seq.{take-append_seam}
use Rattle.language_model.specs.Tokens.{Spelled}
use Rattle.language_model.specs.Description as description
use Rattle.language_model.specs.Description.{Adverb}
use Rattle.language_model.specs.Building.{value_of, pairs_of, repeated_in, is_one_of, at_most, fault_at}
use Rattle.dsl_statement.specs.declared.statement.Adverb.{Adverb as HeldAdverb}
use Rattle.dsl_statement.specs.declared.statement.Adverb.TheVariants.{Comma, Pair}
use Rattle.dsl_statement.specs.Statements.{adverb_of, adverbs_of}
use Rattle.dsl_faults.specs.Found.{fault_of, first_of}
use Rattle.dsl_faults.specs.declared.found.Found.{Found}
use Rattle.dsl_faults.specs.Adverbs.{names_of, repeat_of}

abbrev names_before : List (List ℕ) → List (Spelled × Spelled) → List (List ℕ)
names_before before [] = before
names_before before (p ∷ ps) = names_before (p.0.content ∷ before) ps

repeated_append : (before : List (List ℕ)) (ps qs : List (Spelled × Spelled)) → repeated_in before (ps ++ qs) ≡ repeated_in before ps ++ repeated_in (names_before before ps) qs
repeated_append before [] qs = refl
repeated_append before (p ∷ ps) qs =
    let here = at_most (is_one_of before p.0.content) (fault_at p.0) in
    ap (λ xs. here ++ xs) (repeated_append (p.0.content ∷ before) ps qs) ∙ sym (append_assoc here (repeated_in (p.0.content ∷ before) ps) (repeated_in (names_before (p.0.content ∷ before) ps) qs))

or_moves : (a b c : Bool) → ((a || b) || c) ≡ (b || (a || c))
or_moves true true c = refl
or_moves true false c = refl
or_moves false true c = refl
or_moves false false c = refl

among_before : (before : List (List ℕ)) (ps : List (Spelled × Spelled)) (t : List ℕ) → is_one_of (names_before before ps) t ≡ is_one_of before t || is_one_of (map (λ p. p.0.content) ps) t
among_before before [] t = or_false (is_one_of before t)
  where
    or_false : (b : Bool) → b ≡ b || false
    or_false true = refl
    or_false false = refl
among_before before (p ∷ ps) t = among_before (p.0.content ∷ before) ps t ∙ or_moves (bytes_eq p.0.content t) (is_one_of before t) (is_one_of (map (λ q. q.0.content) ps) t)

repeated_same : (before other : List (List ℕ)) (ps : List (Spelled × Spelled)) → ((t : List ℕ) → is_one_of before t ≡ is_one_of other t) → repeated_in before ps ≡ repeated_in other ps
repeated_same before other [] same = refl
repeated_same before other (p ∷ ps) same =
    let next = repeated_same (p.0.content ∷ before) (p.0.content ∷ other) ps (λ (t : List ℕ). ap (λ b. bytes_eq p.0.content t || b) (same t)) in
    ap (λ b. at_most b (fault_at p.0) ++ repeated_in (p.0.content ∷ before) ps) (same p.0.content) ∙ ap (λ xs. at_most (is_one_of other p.0.content) (fault_at p.0) ++ xs) next

pairs_append : (xs ys : List Adverb) → pairs_of (xs ++ ys) ≡ pairs_of xs ++ pairs_of ys
pairs_append [] ys = refl
pairs_append (description.Comma at ∷ xs) ys = pairs_append xs ys
pairs_append (description.Pair n v ∷ xs) ys = ap (λ ps. (n, v) ∷ ps) (pairs_append xs ys)

held_append : (xs ys : List HeldAdverb) → pairs_of (adverbs_of (xs ++ ys)) ≡ pairs_of (adverbs_of xs) ++ pairs_of (adverbs_of ys)
held_append xs ys = ap pairs_of (map-append adverb_of xs ys) ∙ pairs_append (adverbs_of xs) (adverbs_of ys)

-- the repeats of adverbs and of more after them
repeated_behind : (xs ys : List HeldAdverb) → repeated_in [] (pairs_of (adverbs_of (xs ++ ys))) ≡ repeated_in [] (pairs_of (adverbs_of xs)) ++ repeated_in (names_of xs) (pairs_of (adverbs_of ys))
repeated_behind xs ys =
    let ps = pairs_of (adverbs_of xs) in
    let qs = pairs_of (adverbs_of ys) in
    ap (repeated_in []) (held_append xs ys) ∙ repeated_append [] ps qs
    ∙ ap (λ fs. repeated_in [] ps ++ fs) (repeated_same (names_before [] ps) (names_of xs) qs (λ (t : List ℕ). among_before [] ps t))

named_more : (before : List HeldAdverb) (x : HeldAdverb) (t : List ℕ) → is_one_of (names_of (before ++ x ∷ [])) t ≡ (is_one_of (names_of before) t || is_one_of (map (λ p. p.0.content) (pairs_of (adverb_of x ∷ []))) t)
named_more before x t =
    ap (λ ps. is_one_of (map (λ p. p.0.content) ps) t) (held_append before (x ∷ []))
    ∙ ap (λ ns. is_one_of ns t) (map-append (λ p. p.0.content) (pairs_of (adverbs_of before)) (pairs_of (adverb_of x ∷ [])))
    ∙ list_any-append (λ n. bytes_eq n t) (names_of before) (map (λ p. p.0.content) (pairs_of (adverb_of x ∷ [])))

get_behind : {A : Type 0} (before : List A) (x : A) (xs : List A) → slice_get (before ++ x ∷ xs) (length before) ≡ Some x
get_behind [] x xs = refl
get_behind (y ∷ before) x xs = get_behind before x xs

-- the repeats, place by place
repeats_from : (before xs : List HeldAdverb) → repeated_in (names_of before) (pairs_of (adverbs_of xs)) ≡ flat_map (λ i. repeat_of (take i (before ++ xs)) (slice_get (before ++ xs) i)) (range_with_len (length before) (length xs))
repeats_from before [] = refl
repeats_from before (x ∷ xs) =
    let p = pairs_of (adverb_of x ∷ []) in
    let more = pairs_of (adverbs_of xs) in
    let here : repeat_of (take (length before) (before ++ x ∷ xs)) (slice_get (before ++ x ∷ xs) (length before)) ≡ repeated_in (names_of before) p = ap (λ ys. repeat_of ys (slice_get (before ++ x ∷ xs) (length before))) (take-append_seam before (x ∷ xs)) ∙ ap (repeat_of before) (get_behind before x xs) in
    let known : (t : List ℕ) → is_one_of (names_before (names_of before) p) t ≡ is_one_of (names_of (before ++ x ∷ [])) t = λ t. among_before (names_of before) p t ∙ sym (named_more before x t) in
    let long : length (before ++ x ∷ []) ≡ length before + 1 = length-append before (x ∷ []) in
    let next = repeats_from (before ++ x ∷ []) xs in
    ap (repeated_in (names_of before)) (pairs_append (adverb_of x ∷ []) (adverbs_of xs)) ∙ repeated_append (names_of before) p more
    ∙ ap (λ fs. repeated_in (names_of before) p ++ fs) (repeated_same (names_before (names_of before) p) (names_of (before ++ x ∷ [])) more known ∙ next
    ∙ ap (λ ys. flat_map (λ i. repeat_of (take i ys) (slice_get ys i)) (range_with_len (length (before ++ x ∷ [])) (length xs))) (append_assoc before (x ∷ []) xs)
    ∙ ap (λ n. flat_map (λ i. repeat_of (take i (before ++ x ∷ xs)) (slice_get (before ++ x ∷ xs) i)) (range_with_len n (length xs))) long)
    ∙ ap (λ fs. fs ++ flat_map (λ i. repeat_of (take i (before ++ x ∷ xs)) (slice_get (before ++ x ∷ xs) i)) (range_with_len (length before + 1) (length xs))) (sym here)

pub repeats_by_place : (xs : List HeldAdverb) → repeated_in [] (pairs_of (adverbs_of xs)) ≡ flat_map (λ i. repeat_of (take i xs) (slice_get xs i)) (range_with_len 0 (length xs))
repeats_by_place xs = repeats_from [] xs

-- an adverb with the name stands among them
pub value_named : (name : List ℕ) (held : List HeldAdverb) → is_some (value_of name (adverbs_of held)) ≡ is_one_of (names_of held) name
value_named name [] = refl
value_named name (Comma at ∷ held) = value_named name held
value_named name (Pair n v ∷ held) = go (bytes_eq n.content name) (value_named name held)
  where
    go : (b : Bool) → is_some (value_of name (adverbs_of held)) ≡ is_one_of (names_of held) name → is_some (cond b (Some v) (value_of name (adverbs_of held))) ≡ b || is_one_of (names_of held) name
    go true e = refl
    go false e = e

pub copied_some : {A : Type 0} (o : Option (Bor A)) → is_some o ≡ is_some (option_copied o)
copied_some None = refl
copied_some (Some x) = refl

pub repeat_told : (before : List HeldAdverb) (a : HeldAdverb) (n v : Spelled) (x : Found) (b : Bool) → a ≡ Pair n v → b ≡ is_one_of (names_of before) n.content → fault_of x ≡ fault_at n → option_map fault_of (then_some b x) ≡ first_of (repeated_in (names_of before) (pairs_of (adverb_of a ∷ [])))
repeat_told before a n v x b is e same =
    go b ∙ ap (λ f. first_of (at_most b f ++ [])) same ∙ ap (λ y. first_of (at_most y (fault_at n) ++ [])) e ∙ sym (ap (λ y. first_of (repeated_in (names_of before) (pairs_of (adverb_of y ∷ [])))) is)
  where
    go : (b : Bool) → option_map fault_of (then_some b x) ≡ first_of (at_most b (fault_of x) ++ [])
    go true = refl
    go false = refl
