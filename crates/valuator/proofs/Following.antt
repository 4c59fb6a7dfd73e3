-- Steps that are told one after another.
use Rattle.std.proofs.Common.{◌≡◌, ℕ, suc, ◌+◌, ◌-◌, ◌<◌, List, [], ◌∷◌, ◌++◌, length, map, take, drop, get_or, refl, sym, ap, ◌∙◌, arith, subst, length-append}
use Rattle.std.proofs.lemmas.List.{take_more, map-append, get_or-map, length-map, length-take-le}
use Rattle.std.proofs.Math.Seq.{drop-cons}
use Rattle.grammar_model.specs.declared.Show.{Show}
use Rattle.grammar_model.specs.Grammar.{Grammar}
use Rattle.grammar_model.specs.Steps.{Step, TokenStep, NulledStep, RuleStep}
use Rattle.grammar_model.specs.Values.{Value, Meaning, Token, told, told_all, value_of_token, value_of_nulled, value_of_rule}
use Rattle.grammar_core.specs.declared.steps.TreeStep.{TreeStep}
use Rattle.grammar_core.specs.Steps.{step_of}
use Rattle.valuator.specs.Told.{advanced}
use Rattle.valuator.specs.Play.{CanTellAll, held_after, EachCanTell, EachCanTellAll}

module _ (g : Grammar) (m : Meaning) (tokens : List Token) where
  pub length-told : (show : Show) (values : List Value) (step : Step) → length (told show g m tokens values step) ≡ held_after (length values) step
  length-told show values (TokenStep symbol from to) = omega (arith, length-append values (value_of_token show g m tokens symbol from ∷ []))
  length-told show values (NulledStep symbol at) = omega (arith, length-append values (value_of_nulled show g m tokens symbol at ∷ []))
  length-told show values (RuleStep i n from to) =
      let prefix : length (take (length values - n) values) ≡ length values - n = length-take-le (length values - n) values (omega arith) in
      omega (arith, prefix, length-append (take (length values - n) values) (value_of_rule show g m tokens i n from to (drop (length values - n) values) ∷ []))

  told_all-push : (show : Show) (values : List Value) (steps : List Step) (step : Step) → told_all show g m tokens values (steps ++ step ∷ []) ≡ told show g m tokens (told_all show g m tokens values steps) step
  told_all-push show values [] step = refl
  told_all-push show values (s ∷ steps) step = told_all-push show (told show g m tokens values s) steps step

  advanced_push : (ss : List (Show × List Value)) (steps : List Step) (step : Step) →
      advanced (λ show values. told show g m tokens values step) (advanced (λ show values. told_all show g m tokens values steps) ss) ≡ advanced (λ show values. told_all show g m tokens values (steps ++ step ∷ [])) ss
  advanced_push [] steps step = refl
  advanced_push (s ∷ ss) steps step = (λ k. (s.0, sym (told_all-push s.0 s.1 steps step) k) ∷ advanced_push ss steps step k)

  pub advanced_none : (ss : List (Show × List Value)) → ss ≡ advanced (λ show values. told_all show g m tokens values []) ss
  advanced_none [] = refl
  advanced_none (s ∷ ss) = (λ k. s ∷ advanced_none ss k)

  pub advanced_more : (first before now : List (Show × List Value)) (list : List TreeStep) (i : ℕ) (d : TreeStep) → i < length list →
      before ≡ advanced (λ show values. told_all show g m tokens values (map step_of (take i list))) first →
      now ≡ advanced (λ show values. told show g m tokens values (step_of (get_or list i d))) before →
      now ≡ advanced (λ show values. told_all show g m tokens values (map step_of (take (i + 1) list))) first
  advanced_more first before now list i d b e f =
      let steps : map step_of (take (i + 1) list) ≡ map step_of (take i list) ++ step_of (get_or list i d) ∷ [] =
      ap (map step_of) (take_more list i d b) ∙ map-append step_of (take i list) (get_or list i d ∷ []) in
      f ∙ ap (advanced (λ show values. told show g m tokens values (step_of (get_or list i d)))) e
      ∙ advanced_push first (map step_of (take i list)) (step_of (get_or list i d))
      ∙ ap (λ (xs : List Step). advanced (λ show values. told_all show g m tokens values xs) first) (sym steps)

  -- the next step can be told, and the others after it
  next_steps : (list : List TreeStep) (i : ℕ) (d : TreeStep) → i < length list → map step_of (drop i list) ≡ step_of (get_or list i d) ∷ map step_of (drop (i + 1) list)
  next_steps list i d b = let at : i + 1 ≡ suc i = omega arith in ap (map step_of) (drop-cons list i d b) ∙ ap (λ k. step_of (get_or list i d) ∷ map step_of (drop k list)) (sym at)

  pub can_next : (places : ℕ) (ss : List (Show × List Value)) (list : List TreeStep) (i : ℕ) (d : TreeStep) → i < length list → EachCanTellAll g places ss (map step_of (drop i list)) → EachCanTell g places ss (step_of (get_or list i d))
  can_next places ss list i d b each k e inside =
      (subst (CanTellAll g places (length (get_or ss k e).1)) (next_steps list i d b) (each k e inside)).0

  pub can_rest : (places : ℕ) (before now : List (Show × List Value)) (list : List TreeStep) (i : ℕ) (d : TreeStep) → i < length list → EachCanTellAll g places before (map step_of (drop i list)) →
      now ≡ advanced (λ show values. told show g m tokens values (step_of (get_or list i d))) before → EachCanTellAll g places now (map step_of (drop (i + 1) list))
  can_rest places before now list i d b each f =
      let step = step_of (get_or list i d) in
      subst (λ (xs : List (Show × List Value)). EachCanTellAll g places xs (map step_of (drop (i + 1) list))) (sym f)
      (λ k e inside.
      let inside2 : k < length before = omega (arith, inside, length-map {B = Show × List Value} before (λ (s : Show × List Value). (s.0, told s.0 g m tokens s.1 step))) in
      let s = get_or before k e in
      let rest = (subst (CanTellAll g places (length s.1)) (next_steps list i d b) (each k e inside2)).1 in
      subst (λ (t : Show × List Value). CanTellAll g places (length t.1) (map step_of (drop (i + 1) list))) (sym (get_or-map {Y = Show × List Value} (λ (s : Show × List Value). (s.0, told s.0 g m tokens s.1 step)) before k e e inside2))
      (subst (λ n. CanTellAll g places n (map step_of (drop (i + 1) list))) (sym (length-told s.0 s.1 step)) rest))

  pub advanced_more_at : (first before now : List (Show × List Value)) (list : List TreeStep) (i : ℕ) (s : TreeStep) → i < length list → s ≡ get_or list i s →
      before ≡ advanced (λ show values. told_all show g m tokens values (map step_of (take i list))) first →
      now ≡ advanced (λ show values. told show g m tokens values (step_of s)) before →
      now ≡ advanced (λ show values. told_all show g m tokens values (map step_of (take (i + 1) list))) first
  advanced_more_at first before now list i s b at e f = advanced_more first before now list i s b e (f ∙ ap (λ (x : TreeStep). advanced (λ show values. told show g m tokens values (step_of x)) before) at)

  pub can_next_at : (places : ℕ) (ss : List (Show × List Value)) (list : List TreeStep) (i : ℕ) (s : TreeStep) → i < length list → s ≡ get_or list i s → EachCanTellAll g places ss (map step_of (drop i list)) → EachCanTell g places ss (step_of s)
  can_next_at places ss list i s b at each = subst (λ (x : TreeStep). EachCanTell g places ss (step_of x)) (sym at) (can_next places ss list i s b each)

  pub can_rest_at : (places : ℕ) (before now : List (Show × List Value)) (list : List TreeStep) (i : ℕ) (s : TreeStep) → i < length list → s ≡ get_or list i s → EachCanTellAll g places before (map step_of (drop i list)) →
      now ≡ advanced (λ show values. told show g m tokens values (step_of s)) before → EachCanTellAll g places now (map step_of (drop (i + 1) list))
  can_rest_at places before now list i s b at each f = can_rest places before now list i s b each (f ∙ ap (λ (x : TreeStep). advanced (λ show values. told show g m tokens values (step_of x)) before) at)
