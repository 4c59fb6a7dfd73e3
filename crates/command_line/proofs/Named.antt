-- A name among names.
use Rattle.std.proofs.Common.{◌≡◌, ℕ, Bool, true, false, refl, List, [], ◌∷◌, Bor, bytes_eq}
use Rattle.std.specs.Prelude.{◌||◌}
use Rattle.std.specs.List.{list_any}
use Rattle.language_model.specs.Building.{is_one_of}
use Rattle.command_line.specs.Jobs.{names_of}

pub named : (names : List (Bor (List ℕ))) (name : List ℕ) → list_any (λ other. bytes_eq other.now name) names ≡ is_one_of (names_of names) name
named [] name = refl
named (n ∷ ns) name = go (bytes_eq n.now name) (named ns name)
  where
    go : (b : Bool) → list_any (λ other. bytes_eq other.now name) ns ≡ is_one_of (names_of ns) name → (b || list_any (λ other. bytes_eq other.now name) ns) ≡ (b || is_one_of (names_of ns) name)
    go true e = refl
    go false e = e
