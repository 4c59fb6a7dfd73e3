-- Steps of symbols, as those items tell them that wait for one in a set.
-- Source: Leo 1991 (a general context-free parsing algorithm running in linear time on every LR(k) grammar).
use Rattle.std.specs.Prelude.{◌≡◌, ℕ, List, [], ◌∷◌, Option, Some, None}
use Rattle.grammar_model.specs.declared.Edge.{Edge}
use Rattle.grammar_model.specs.Derives.{Held}
use Rattle.recognizer_model.specs.declared.Item.{Item}
use Rattle.recognizer_model.specs.Flat.{FlatGrammar}
use Rattle.recognizer_model.specs.FlatForm.{FlatEdges}
use Rattle.recognizer_model.specs.Items.{after, IsWhole, advanced, InSet}
use Rattle.recognizer_model.specs.Leo.{IsLeo, IsNotLeo}
use Rattle.recognizer_model.specs.Counts.{IsListOf}

-- the only item that waits, with its dot advanced, if it waits for nothing after that
abbrev pub IsStep : FlatGrammar → List Item → Option Item → Type 0
IsStep g waiting (Some step) = (item : Item) × (waiting ≡ item ∷ []) × IsWhole g (advanced item) × (step ≡ advanced item)
IsStep g waiting None = (item : Item) → waiting ≡ item ∷ [] → ¬ IsWhole g (advanced item)

-- the step is the Leo item of the set and the symbol with its dot advanced; where there is none, neither is a Leo item
abbrev pub IsLeoStep : FlatGrammar → List Edge → (top earleme symbol : ℕ) → Option Item → Type 0
IsLeoStep g edges top earleme symbol (Some step) = (item : Item) × IsLeo g (FlatEdges g (Held edges)) top earleme symbol item × (step ≡ advanced item)
IsLeoStep g edges top earleme symbol None = IsNotLeo g (FlatEdges g (Held edges)) top earleme symbol

abbrev pub StepsAreLeo : Type 0
StepsAreLeo = (g : FlatGrammar) (edges : List Edge) (top earleme symbol : ℕ) (waiting : List Item) (step : Option Item) →
    IsListOf (λ item. InSet g (FlatEdges g (Held edges)) top earleme item × (after g item ≡ Some symbol)) waiting →
    IsStep g waiting step → IsLeoStep g edges top earleme symbol step
