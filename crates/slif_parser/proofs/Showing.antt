-- One teller alone.
use Rattle.std.proofs.Common.{◌≡◌, ◌∙◌, List, [], ◌∷◌, ◌++◌, ap}
use Rattle.grammar_model.specs.Values.{Value}
use Rattle.grammar_model.specs.declared.Show.{Show}
use Rattle.valuator.specs.Told.{states}

pub alone : {X : Type 0} (shows : X → Show) (held : X → List Value) (tellers before : List X) (t : X) → tellers ≡ before ++ t ∷ [] → before ≡ [] → held t ≡ [] → (show : Show) → shows t ≡ show → states tellers shows held ≡ (show, []) ∷ []
alone shows held tellers before t is none empty show kind = ap (λ l. states l shows held) (is ∙ ap (λ l. l ++ t ∷ []) none) ∙ ap (λ (v : List Value). (shows t, v) ∷ []) empty ∙ ap (λ (s : Show). (s, []) ∷ []) kind
