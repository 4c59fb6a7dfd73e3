-- What is held while the steps of a derivation are folded.
use Rattle.std.proofs.Common.{◌≡◌, ℕ, zero, suc, ◌+◌, ◌-◌, ◌<◌, ◌≤◌, List, [], ◌∷◌, ◌++◌, Result, Ok, Err, length, map, take, drop, get_or, refl, sym, ap, ◌∙◌, arith, subst, length-append}
use Rattle.std.specs.Prelude.{IfOk, IfErr, OnOk, IsErrAnd, MatchResult}
use Rattle.std.proofs.lemmas.List.{take_more, take_all, take-append-le, drop-append-le, take-append-drop, map-append, length-take-le}
use Rattle.std.proofs.Math.Seq.{drop-cons}
use Rattle.grammar_model.specs.declared.Show.TheVariants.{Array as ShowArray}
use Rattle.grammar_model.specs.Grammar.{Grammar}
use Rattle.grammar_model.specs.Trees.{Tree, Children, NoChild, Child}
use Rattle.grammar_model.specs.Steps.{Step, TokenStep, NulledStep, RuleStep, steps_of, below_newest, newest, after_step, after_steps}
use Rattle.grammar_model.specs.Values.{Token}
use Rattle.grammar_model.proofs.Steps.{steps_make}
use Rattle.grammar_core.specs.declared.steps.TreeStep.{TreeStep}
use Rattle.grammar_core.specs.Steps.{step_of}
use Rattle.grammar_core.specs.Written.{IsWritten}
use Rattle.valuator.specs.Play.{AreSteps, CanTell, CanTellAll, held_after}
use Rattle.valuator.proofs.Derived.{each_can_tell}
use Rattle.tree_fold.specs.declared.semantics.FoldError.{FoldError}
use Rattle.tree_fold.specs.declared.semantics.FoldError.TheVariants.{Semantics, NoMemory}
use Rattle.tree_fold.specs.Values.{HasValue, HaveValues, Gives, Fails, IsAsked, left_of}
use Rattle.tree_fold.specs.Failing.{IsFailure}

pub failure_weaker : {E : Type 0} (P Q : E → Type 0) (R T : Type 0) → ((e : E) → P e → Q e) → (R → T) → (e : FoldError E) → IsFailure P R e → IsFailure Q T e
failure_weaker P Q R T f h (Semantics e) p = f e p
failure_weaker P Q R T f h NoMemory p = h p

-- what is so of what a semantics made is so of a value, and of an error as the failure that it is
pub value_kept : {V E D : Type 0} (made : Result V E) (result : Result V D) (post : E → D → Type 0) (P : Result V E → Type 0) → MatchResult made (λ v. result ≡ Ok v) (λ e. IsErrAnd result (post e)) → P made → IfOk result (λ v. P (Ok v))
value_kept (Ok v) result post P told p = subst (λ r. IfOk r (λ v. P (Ok v))) (sym told) p
value_kept (Err e) (Ok v) post P told p = absurd told
value_kept (Err e) (Err d) post P told p = tt

pub failure_kept : {V E : Type 0} (made : Result V E) (result : Result V (FoldError E)) (P : Result V E → Type 0) (Q : Type 0) → MatchResult made (λ v. result ≡ Ok v) (λ e. IsErrAnd result (λ d. d ≡ Semantics e)) → P made → IfErr result (IsFailure (λ e. P (Err e)) Q)
failure_kept (Ok v) result P Q told p = subst (λ r. IfErr r (IsFailure (λ e. P (Err e)) Q)) (sym told) tt
failure_kept (Err e) (Ok v) P Q told p = absurd told
failure_kept (Err e) (Err d) P Q told p = subst (IsFailure (λ e. P (Err e)) Q) (sym told) p

-- there was no memory, and this is so
pub no_memory : {V E : Type 0} (result : Result V (FoldError E)) (P : E → Type 0) (Q : Type 0) → IsErrAnd result (λ d. d ≡ NoMemory) → Q → IfErr result (IsFailure P Q)
no_memory (Ok v) P Q told q = tt
no_memory (Err d) P Q told q = subst (IsFailure P Q) (sym told) q

pub left_kept : {V D : Type 0} (result : Result V D) (P : Type 0) → P → OnOk result P
left_kept (Ok v) P p = p
left_kept (Err d) P p = tt

-- THE STEPS THAT ARE LEFT

next_steps : (list : List TreeStep) (i : ℕ) (s : TreeStep) → i < length list → s ≡ get_or list i s → map step_of (drop i list) ≡ step_of s ∷ map step_of (drop (i + 1) list)
next_steps list i s b at =
    let same : i + 1 ≡ suc i = omega arith in
    ap (map step_of) (drop-cons list i s b) ∙ ap (λ x. step_of x ∷ map step_of (drop (suc i) list)) (sym at) ∙ ap (λ k. step_of s ∷ map step_of (drop k list)) (sym same)

steps_more : (list : List TreeStep) (i : ℕ) (s : TreeStep) → i < length list → s ≡ get_or list i s → map step_of (take (i + 1) list) ≡ map step_of (take i list) ++ step_of s ∷ []
steps_more list i s b at =
    ap (map step_of) (take_more list i s b) ∙ map-append step_of (take i list) (get_or list i s ∷ []) ∙ ap (λ x. map step_of (take i list) ++ step_of x ∷ []) (sym at)

split_at : (list : List TreeStep) (i : ℕ) (s : TreeStep) → i < length list → s ≡ get_or list i s → map step_of list ≡ map step_of (take i list) ++ step_of s ∷ map step_of (drop (i + 1) list)
split_at list i s b at =
    ap (map step_of) (sym (take-append-drop i list)) ∙ map-append step_of (take i list) (drop i list) ∙ ap (λ xs. map step_of (take i list) ++ xs) (next_steps list i s b at)

after_push : (stack : Children) (steps : List Step) (step : Step) → after_steps stack (steps ++ step ∷ []) ≡ after_step (after_steps stack steps) step
after_push stack [] step = refl
after_push stack (s ∷ steps) step = after_push (after_step stack s) steps step

module _ (g : Grammar) (places : ℕ) where
  pub can_begin : IsWritten g → (steps : List Step) → AreSteps g places steps → CanTellAll g places 0 steps
  can_begin written steps are = each_can_tell g written places steps ((ShowArray, []) ∷ []) are 0 (ShowArray, []) (omega arith)

  pub can_next : (held : ℕ) (list : List TreeStep) (i : ℕ) (s : TreeStep) → i < length list → s ≡ get_or list i s → CanTellAll g places held (map step_of (drop i list)) → CanTell g places held (step_of s)
  can_next held list i s b at can = (subst (CanTellAll g places held) (next_steps list i s b at) can).0

  can_rest : (held : ℕ) (list : List TreeStep) (i : ℕ) (s : TreeStep) → i < length list → s ≡ get_or list i s → CanTellAll g places held (map step_of (drop i list)) →
      CanTellAll g places (held_after held (step_of s)) (map step_of (drop (i + 1) list))
  can_rest held list i s b at can = (subst (CanTellAll g places held) (next_steps list i s b at) can).1

  length_behind : {V : Type 0} (held : List V) (step : Step) (v : V) → CanTell g places (length held) step → length (left_of held step ++ v ∷ []) ≡ held_after (length held) step
  length_behind held (TokenStep symbol from to) v can = omega (arith, length-append held (v ∷ []))
  length_behind held (NulledStep symbol at) v can = omega (arith, length-append held (v ∷ []))
  length_behind held (RuleStep rule n from to) v can =
      let prefix : length (take (length held - n) held) ≡ length held - n = length-take-le (length held - n) held (omega arith) in
      omega (arith, prefix, length-append (take (length held - n) held) (v ∷ []))

  pub can_go_on : {V : Type 0} (held left new : List V) (v : V) (list : List TreeStep) (i : ℕ) (s : TreeStep) → i < length list → s ≡ get_or list i s → CanTellAll g places (length held) (map step_of (drop i list)) →
      left ≡ left_of held (step_of s) → new ≡ left ++ v ∷ [] → CanTellAll g places (length new) (map step_of (drop (i + 1) list))
  can_go_on held left new v list i s b at can is_left is =
      let count : length new ≡ held_after (length held) (step_of s) =
      ap length is ∙ ap (λ (ws : List _). length (ws ++ v ∷ [])) is_left ∙ length_behind held (step_of s) v (can_next (length held) list i s b at can) in
      subst (λ n. CanTellAll g places n (map step_of (drop (i + 1) list))) (sym count) (can_rest (length held) list i s b at can)

-- THE VALUES THAT ARE HELD

module _ {S V E : Type 0} (token_gives : S → S → ℕ → List ℕ → Token → Result V E → Type 0) (nulled_gives : S → S → ℕ → List ℕ → Result V E → Type 0)
    (rule_gives : S → S → ℕ → List ℕ → List V → Result V E → Type 0) (g : Grammar) (tokens : List Token) where
  abbrev Have : Children → S → List V → S → Type 0
  Have = HaveValues token_gives nulled_gives rule_gives g tokens

  abbrev Has : Tree → S → V → S → Type 0
  Has = HasValue token_gives nulled_gives rule_gives g tokens

  abbrev Given : S → List V → Step → Result V E → S → Type 0
  Given = Gives token_gives nulled_gives rule_gives g tokens

  newest_have : (n : ℕ) (stack : Children) (before : S) (vs : List V) (after : S) → n ≤ length vs → Have stack before vs after →
      (between : S) × Have (below_newest n stack) before (take (length vs - n) vs) between × Have (newest n stack) between (drop (length vs - n) vs) after
  newest_have zero stack before vs after le h =
      (after, subst (λ xs. Have stack before xs after) (sym (take_all (length vs - 0) vs (omega arith))) h, (none_left (length vs - 0) vs (omega arith), refl))
    where
      none_left : (k : ℕ) (xs : List V) → length xs ≤ k → drop k xs ≡ []
      none_left zero [] b = refl
      none_left zero (x ∷ xs) b = absurd (omega (arith, b))
      none_left (suc k) [] b = refl
      none_left (suc k) (x ∷ xs) b = none_left k xs (omega (arith, b))
  newest_have (suc n) NoChild before vs after le h = absurd (omega (arith, le, ap length h.0))
  newest_have (suc n) (Child prefix last) before vs after le (middle, ws, v, e, h, has) =
      let count : length vs ≡ suc (length ws) = ap length e ∙ omega (arith, length-append ws (v ∷ [])) in
      let at : length vs - suc n ≡ length ws - n = omega (arith, count) in
      let (between, below, top) = newest_have n prefix before ws middle (omega (arith, le, count)) h in
      let kept : take (length vs - suc n) vs ≡ take (length ws - n) ws =
      ap (λ k. take k vs) at ∙ ap (take (length ws - n)) e ∙ take-append-le (length ws - n) ws (v ∷ []) (omega arith) in
      let taken : drop (length vs - suc n) vs ≡ drop (length ws - n) ws ++ v ∷ [] =
      ap (λ k. drop k vs) at ∙ ap (drop (length ws - n)) e ∙ drop-append-le (length ws - n) ws (v ∷ []) (omega arith) in
      (between, subst (λ xs. Have (below_newest n prefix) before xs between) (sym kept) below, (middle, drop (length ws - n) ws, v, taken, top, has))

  have_behind : (places : ℕ) (stack : Children) (start before : S) (held left new : List V) (step : Step) (v : V) (after : S) → CanTell g places (length held) step →
      Have stack start held before → Given before held step (Ok v) after → left ≡ left_of held step → new ≡ left ++ v ∷ [] → Have (after_step stack step) start new after
  have_behind places stack start before held left new (TokenStep symbol from to) v after can h gives l n = (before, left, v, n, subst (λ xs. Have stack start xs before) (sym l) h, gives)
  have_behind places stack start before held left new (NulledStep symbol at) v after can h gives l n = (before, left, v, n, subst (λ xs. Have stack start xs before) (sym l) h, gives)
  have_behind places stack start before held left new (RuleStep rule count from to) v after can h gives l n =
      let (between, below, top) = newest_have count stack start held before can.5 h in
      (between, left, v, n, subst (λ xs. Have (below_newest count stack) start xs between) (sym l) below, (before, drop (length held - count) held, top, gives))

  abbrev pub Holds : List TreeStep → ℕ → (start : S) → List V → (now : S) → Type 0
  Holds list i start held now = Have (after_steps NoChild (map step_of (take i list))) start held now

  pub holds_none : (list : List TreeStep) (start : S) (held : List V) → held ≡ [] → Holds list 0 start held start
  holds_none list start held e = (e, refl)

  pub holds_more : (places : ℕ) (list : List TreeStep) (i : ℕ) (s : TreeStep) (start before : S) (held left new : List V) (v : V) (after : S) → i < length list → s ≡ get_or list i s →
      CanTellAll g places (length held) (map step_of (drop i list)) → Holds list i start held before → Given before held (step_of s) (Ok v) after → left ≡ left_of held (step_of s) → new ≡ left ++ v ∷ [] →
      Holds list (i + 1) start new after
  holds_more places list i s start before held left new v after b at can h gives l n =
      let stack = after_steps NoChild (map step_of (take i list)) in
      let same : after_steps NoChild (map step_of (take (i + 1) list)) ≡ after_step stack (step_of s) = ap (after_steps NoChild) (steps_more list i s b at) ∙ after_push NoChild (map step_of (take i list)) (step_of s) in
      subst (λ (cs : Children). Have cs start new after) (sym same) (have_behind places stack start before held left new (step_of s) v after (can_next g places (length held) list i s b at can) h gives l n)

  -- all steps are done
  whole : (list : List TreeStep) (i : ℕ) (start : S) (held : List V) (now : S) → length list ≤ i → Holds list i start held now → (t : Tree) → map step_of list ≡ steps_of t → (v : V) × (held ≡ v ∷ []) × Has t start v now
  whole list i start held now b h t e =
      let all : after_steps NoChild (map step_of (take i list)) ≡ Child NoChild t = ap (λ xs. after_steps NoChild (map step_of xs)) (take_all i list b) ∙ ap (after_steps NoChild) e ∙ steps_make t NoChild in
      let (between, ws, v, is, none, has) = subst (λ (cs : Children). Have cs start held now) all h in
      (v, is ∙ ap (λ (xs : List V). xs ++ v ∷ []) none.0, subst (λ z. Has t z v now) none.1 has)

  last_one : (rest : List V) (x v : V) → v ∷ [] ≡ rest ++ x ∷ [] → v ≡ x
  last_one [] x v e = cc e
  last_one (r ∷ rest) x v e = absurd (omega (arith, ap length e, length-append rest (x ∷ [])))

  pub folded : (list : List TreeStep) (i : ℕ) (start : S) (held rest : List V) (x : V) (now : S) → length list ≤ i → Holds list i start held now → held ≡ rest ++ x ∷ [] → (t : Tree) → map step_of list ≡ steps_of t → Has t start x now
  folded list i start held rest x now b h popped t e =
      let (v, is, has) = whole list i start held now b h t e in
      subst (λ z. Has t start z now) (last_one rest x v (sym is ∙ popped)) has

  pub some_held : (places : ℕ) (list : List TreeStep) (i : ℕ) (start : S) (held : List V) (now : S) → length list ≤ i → Holds list i start held now → AreSteps g places (map step_of list) → 0 < length held
  some_held places list i start held now b h are = let (v, is, has) = whole list i start held now b h are.tree are.are in omega (arith, ap length is)

  -- a step fails
  pub failed : (list : List TreeStep) (i : ℕ) (s : TreeStep) (start before : S) (held : List V) (after : S) → i < length list → s ≡ get_or list i s → Holds list i start held before → (e : E) → Given before held (step_of s) (Err e) after →
      Fails token_gives nulled_gives rule_gives g tokens (map step_of list) start e after
  failed list i s start before held after b at h e gives = record {
    first = map step_of (take i list);
    step = step_of s;
    rest = map step_of (drop (i + 1) list);
    steps_are = split_at list i s b at;
    held = held;
    between = before;
    have = h;
    gives = gives;
  }

  -- the first steps are done
  pub asked : (list : List TreeStep) (i : ℕ) (start : S) (held : List V) (now : S) → Holds list i start held now → IsAsked token_gives nulled_gives rule_gives g tokens (map step_of list) start now
  asked list i start held now h = record {
    first = map step_of (take i list);
    rest = map step_of (drop i list);
    steps_are = ap (map step_of) (sym (take-append-drop i list)) ∙ map-append step_of (take i list) (drop i list);
    held = held;
    have = h;
  }
