-- A text to which pieces are appended, and the boxes that are written one after the other.
use Rattle.std.proofs.Common.{◌≡◌, ℕ, ◌+◌, Bool, true, false, Option, List, [], ◌∷◌, ◌++◌, length, refl, ap, ◌∙◌, subst, append_assoc, arith}
use Rattle.std.specs.Prelude.{if◌then◌else◌}
use Rattle.tree_text.specs.declared.nodes.Node.{Node}
use Rattle.tree_pictures.specs.declared.places.Tile.{Tile}
use Rattle.tree_pictures.specs.Boxes.{shares, labels_from, aboves_from}
use Rattle.tree_pictures.specs.Pictures.{IsPicture}

pub three : (old a b c one two new : List ℕ) → one ≡ old ++ a → two ≡ one ++ b → new ≡ two ++ c → new ≡ old ++ (a ++ (b ++ c))
three old a b c one two new first second third =
    third ∙ ap (λ t. t ++ c) second ∙ append_assoc one b c ∙ ap (λ t. t ++ (b ++ c)) first ∙ append_assoc old a (b ++ c)

pub four : (old a b c d one two thrice new : List ℕ) → one ≡ old ++ a → two ≡ one ++ b → thrice ≡ two ++ c → new ≡ thrice ++ d → new ≡ old ++ (a ++ (b ++ (c ++ d)))
four old a b c d one two thrice new first second third fourth =
    three one b c d two thrice new second third fourth ∙ ap (λ t. t ++ (b ++ (c ++ d))) first ∙ append_assoc old a (b ++ (c ++ d))

pub five : (old a b c d e one two thrice last new : List ℕ) → one ≡ old ++ a → two ≡ one ++ b → thrice ≡ two ++ c → last ≡ thrice ++ d → new ≡ last ++ e → new ≡ old ++ (a ++ (b ++ (c ++ (d ++ e))))
five old a b c d e one two thrice last new first second third fourth fifth =
    four one b c d e two thrice last new second third fourth fifth ∙ ap (λ t. t ++ (b ++ (c ++ (d ++ e)))) first ∙ append_assoc old a (b ++ (c ++ (d ++ e)))

-- the same four, from nothing on
pub four_alone : (old a b c d one two thrice new : List ℕ) → old ≡ [] → one ≡ old ++ a → two ≡ one ++ b → thrice ≡ two ++ c → new ≡ thrice ++ d → new ≡ a ++ (b ++ (c ++ d))
four_alone old a b c d one two thrice new none first second third fourth =
    four old a b c d one two thrice new first second third fourth ∙ ap (λ t. t ++ (a ++ (b ++ (c ++ d)))) none

pub same_picture : (tiles tiles' : List Tile) (labels labels' : List (List ℕ)) (aboves aboves' : List (Option ℕ)) (text : List ℕ) → tiles ≡ tiles' → labels ≡ labels' → aboves ≡ aboves' → IsPicture tiles labels aboves text → IsPicture tiles' labels' aboves' text
same_picture tiles tiles' labels labels' aboves aboves' text t l a is =
    subst (λ ts. IsPicture ts labels' aboves' text) t (subst (λ ls. IsPicture tiles ls aboves' text) l (subst (λ os. IsPicture tiles labels os text) a is))

same_if : (b : Bool) (x : List ℕ) (y : Option ℕ) (xs : List (List ℕ)) (ys : List (Option ℕ)) → length xs ≡ length ys → length (if b then xs else (x ∷ xs)) ≡ length (if b then ys else (y ∷ ys))
same_if true x y xs ys e = e
same_if false x y xs ys e = omega (arith, e)

-- each box has a text and a box above it, or none
pub same_length : (counts places : List ℕ) (i : ℕ) (nodes : List Node) → length (labels_from counts i nodes) ≡ length (aboves_from counts places i nodes)
same_length counts places i [] = refl
same_length counts places i (node ∷ nodes) = same_if (shares counts i node) _ _ _ _ (same_length counts places (i + 1) nodes)
