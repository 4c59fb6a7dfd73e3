-- Walks that take a later option at once.
use Rattle.std.proofs.Common.{◌≡◌, List, [], ◌∷◌, ◌++◌, map, refl, sym, ap, ◌∙◌}
use Rattle.std.specs.List.{flat_map}
use Rattle.std.proofs.lemmas.List.{append_assoc, map-append}
use Rattle.grammar_model.specs.Steps.{Step}
use Rattle.forest_model.specs.Forest.{Forest}
use Rattle.forest_laws.specs.Lists.{Lists}
use Rattle.forest_laws.specs.Goals.{Goal, Write, Done, written, options, steps_from, later_steps, to_come, stands}
use Rattle.forest_laws.specs.Skips.{WalksSkip}
use Rattle.forest_laws.proofs.Walked.{opened}

flat_both : {X Y : Type 0} (f : X → List Y) (xs ys : List X) → flat_map f (xs ++ ys) ≡ flat_map f xs ++ flat_map f ys
flat_both f [] ys = refl
flat_both f (x ∷ xs) ys = ap (λ l. f x ++ l) (flat_both f xs ys) ∙ sym (append_assoc (f x) (flat_map f xs) (flat_map f ys))

module _ (f : Forest) (lists : Lists) where
  no_options : (goal : Goal) (earlier later : List (List Goal)) (option : List Goal) → options f goal ≡ earlier ++ option ∷ later → (step : Step) → goal ≡ Write step → ⊥
  no_options goal [] later option e step same = let h : [] ≡ option ∷ later = sym (ap (options f) same) ∙ e in cc
  no_options goal (x ∷ earlier) later option e step same = let h : [] ≡ x ∷ (earlier ++ option ∷ later) = sym (ap (options f) same) ∙ e in cc

pub walks_skip : WalksSkip
walks_skip f lists choices done goal left option earlier later is e =
    let skipped : List (List Step) = later_steps f lists left earlier in
    let rest : List (List Step) = steps_from f lists (option ++ left) ++ later_steps f lists left later in
    let all : steps_from f lists (goal ∷ left) ≡ later_steps f lists left earlier ++ (steps_from f lists (option ++ left) ++ later_steps f lists left later) =
    choices.chosen goal left is (no_options f lists goal earlier later option e) ∙ ap (later_steps f lists left) e
    ∙ flat_both (λ o. steps_from f lists (o ++ left)) earlier (option ∷ later) in
    ap (λ l. map (λ r. written done ++ r) l ++ to_come f lists done) all
    ∙ ap (λ l. l ++ to_come f lists done) (map-append (λ r. written done ++ r) skipped rest)
    ∙ append_assoc (map (λ r. written done ++ r) skipped) (map (λ r. written done ++ r) rest) (to_come f lists done)
    ∙ ap (λ l. map (λ r. written done ++ r) skipped ++ l) (opened f lists done option left later)
