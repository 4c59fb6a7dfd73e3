-- Steps that are written one after another, with dots between them.
use Rattle.std.proofs.Common.{◌≡◌, ℕ, zero, suc, ◌+◌, ◌<◌, ◌≤◌, List, [], ◌∷◌, ◌++◌, map, length, take, get_or, refl, sym, ap, ◌∙◌, append_assoc, append-nil, arith}
use Rattle.std.proofs.lemmas.List.{map-append, take_more}
use Rattle.grammar_model.specs.Steps.{Step}
use Rattle.grammar_core.specs.declared.steps.TreeStep.{TreeStep}
use Rattle.grammar_core.specs.Steps.{step_of}
use Rattle.cursor_model.specs.Cursor.{step_text, cursor_text}

joined_more : (x : Step) (xs : List Step) (y : Step) → cursor_text ((x ∷ xs) ++ y ∷ []) ≡ cursor_text (x ∷ xs) ++ 46 ∷ step_text y
joined_more x [] y = refl
joined_more x (z ∷ xs) y = ap (λ l. step_text x ++ 46 ∷ l) (joined_more z xs y) ∙ sym (append_assoc (step_text x) (46 ∷ cursor_text (z ∷ xs)) (46 ∷ step_text y))

pub one_more : (xs : List Step) (y : Step) → 0 < length xs → cursor_text (xs ++ y ∷ []) ≡ cursor_text xs ++ 46 ∷ step_text y
one_more [] y some = absurd (omega (arith, some))
one_more (x ∷ xs) y some = joined_more x xs y

some_taken : (list : List TreeStep) (k : ℕ) → 0 < k → k < length list → 0 < length (map step_of (take k list))
some_taken [] k some lt = absurd (omega (arith, lt))
some_taken (x ∷ list) zero some lt = absurd (omega (arith, some))
some_taken (x ∷ list) (suc k) some lt = omega arith

taken_more : (list : List TreeStep) (k : ℕ) (x : TreeStep) → k < length list → get_or list k x ≡ x → map step_of (take (k + 1) list) ≡ map step_of (take k list) ++ step_of x ∷ []
taken_more list k x lt is =
    ap (map step_of) (take_more list k x lt ∙ ap (λ y. take k list ++ y ∷ []) is) ∙ map-append step_of (take k list) (x ∷ [])

-- a step was written after a dot
pub dotted : (list : List TreeStep) (k : ℕ) (x : TreeStep) (start before dot after : List ℕ) → 0 < k → k < length list → get_or list k x ≡ x → before ≡ start ++ cursor_text (map step_of (take k list)) →
    dot ≡ before ++ 46 ∷ [] → after ≡ dot ++ step_text (step_of x) → after ≡ start ++ cursor_text (map step_of (take (k + 1) list))
dotted list k x start before dot after some lt is a b c =
    c ∙ ap (λ l. l ++ step_text (step_of x)) (b ∙ ap (λ l. l ++ 46 ∷ []) a)
    ∙ append_assoc (start ++ cursor_text (map step_of (take k list))) (46 ∷ []) (step_text (step_of x))
    ∙ append_assoc start (cursor_text (map step_of (take k list))) (46 ∷ step_text (step_of x))
    ∙ ap (λ l. start ++ l) (sym (one_more (map step_of (take k list)) (step_of x) (some_taken list k some lt)) ∙ ap cursor_text (sym (taken_more list k x lt is)))

-- the first step was written
pub begun : (list : List TreeStep) (k : ℕ) (x : TreeStep) (start before same after : List ℕ) → k ≤ 0 → k < length list → get_or list k x ≡ x → before ≡ start ++ cursor_text (map step_of (take k list)) →
    same ≡ before → after ≡ same ++ step_text (step_of x) → after ≡ start ++ cursor_text (map step_of (take (k + 1) list))
begun list k x start before same after none lt is a b c =
    let zero_is : k ≡ 0 = omega (arith, none) in
    let empty : same ≡ start = b ∙ a ∙ ap (λ n. start ++ cursor_text (map step_of (take n list))) zero_is ∙ append-nil start in
    c ∙ ap (λ l. l ++ step_text (step_of x)) empty
    ∙ ap (λ l. start ++ cursor_text l) (ap (λ n. map step_of (take n list) ++ step_of x ∷ []) (sym zero_is) ∙ sym (taken_more list k x lt is))
