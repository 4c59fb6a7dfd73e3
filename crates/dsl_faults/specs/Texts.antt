-- Texts in order, each once.
use Rattle.std.specs.Prelude.{◌≡◌, ℕ, false, List, [], ◌∷◌, ◌++◌, if◌then◌else◌}
use Rattle.language_model.specs.Building.{is_one_of}

abbrev pub with_text : List (List ℕ) → List ℕ → List (List ℕ)
with_text names t = if is_one_of names t then names else names ++ t ∷ []

-- no text stands twice, and none is one of those seen
abbrev pub AllNew : (seen : List (List ℕ)) → List (List ℕ) → Type 0
AllNew seen [] = Unit {0}
AllNew seen (t ∷ ts) = (is_one_of seen t ≡ false) × AllNew (t ∷ seen) ts
