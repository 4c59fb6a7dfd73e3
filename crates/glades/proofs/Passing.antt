-- What is passed on a walk, from the right.
use Rattle.std.proofs.Common.{◌≡◌, ℕ, Bool, true, false, cond, List, [], ◌∷◌, ◌++◌, refl, sym, ap, ◌∙◌, append_assoc}
use Rattle.std.specs.Prelude.{reverse, slice_get}
use Rattle.std.proofs.lemmas.List.{reverse-append, reverse-reverse, append-nil}
use Rattle.forest_model.specs.Forest.{ForestNode, Forest}
use Rattle.glade_laws.specs.Walks.{is_list_part, end_of, passed}
use Rattle.glades.specs.Shapes.{passed_here}

passed_by : (b : Bool) (s : List ℕ) (x : ℕ) → cond b s (s ++ x ∷ []) ≡ s ++ cond b [] (x ∷ [])
passed_by true s x = sym (append-nil s)
passed_by false s x = refl

reversed_by : (b : Bool) (x : ℕ) → reverse (cond b [] (x ∷ [])) ≡ cond b [] (x ∷ [])
reversed_by true x = refl
reversed_by false x = refl

-- with what was passed after it, from the right
pub passed_back : (f : Forest) (node : ForestNode) (next : ℕ) (s w : List ℕ) → passed f node next s ++ reverse w ≡ s ++ reverse (w ++ passed_here f node next)
passed_back f node next s w =
    let b = is_list_part f node.key in
    let x = end_of (slice_get f.nodes next) in
    ap (λ l. l ++ reverse w) (passed_by b s x) ∙ append_assoc s (passed_here f node next) (reverse w)
    ∙ ap (λ l. s ++ l) (ap (λ l. l ++ reverse w) (sym (reversed_by b x)) ∙ sym (reverse-append w (passed_here f node next)))

-- and before it
pub back_passed : (f : Forest) (node : ForestNode) (next : ℕ) (s : List ℕ) → passed_here f node next ++ reverse s ≡ reverse (passed f node next s)
back_passed f node next s =
    let b = is_list_part f node.key in
    let x = end_of (slice_get f.nodes next) in
    sym (ap reverse (passed_by b s x) ∙ reverse-append s (passed_here f node next) ∙ ap (λ l. l ++ reverse s) (reversed_by b x))

-- what is written where the walk goes over to a second choice
pub over_items : (f : Forest) (node : ForestNode) (fork : ℕ) (init w starts : List ℕ) → ((init ++ w) ++ passed_here f node fork) ++ reverse starts ≡ init ++ reverse (passed f node fork starts ++ reverse w)
over_items f node fork init w starts =
    append_assoc (init ++ w) (passed_here f node fork) (reverse starts) ∙ append_assoc init w (passed_here f node fork ++ reverse starts)
    ∙ ap (λ l. init ++ l) ((λ i. sym (reverse-reverse w) i ++ back_passed f node fork starts i) ∙ sym (reverse-append (passed f node fork starts) (reverse w)))

pub first_items : (init w : List ℕ) (x : ℕ) → (init ++ w) ++ x ∷ [] ≡ init ++ reverse ((x ∷ []) ++ reverse w)
first_items init w x = append_assoc init w (x ∷ []) ∙ ap (λ l. init ++ l) (ap (λ l. l ++ x ∷ []) (sym (reverse-reverse w)) ∙ sym (reverse-append (x ∷ []) (reverse w)))
