-- What begins where some symbols are awaited.
use Rattle.std.proofs.Common.{◌≡◌, ℕ, ◌↔◌, List, [], Contains, refl, sym, subst, arith}
use Rattle.std.proofs.lemmas.Option.{slice_get_within}
use Rattle.finite_sets.proofs.Lists.{Contains-none}
use Rattle.recognizer_model.specs.declared.Item.{Item}
use Rattle.recognizer_model.specs.Flat.{FlatGrammar, rhs_of}
use Rattle.recognizer_model.specs.Items.{first_item}
use Rattle.item_rows.specs.Kept.{IsItem, IsAwaited}
use Rattle.begun_lists.specs.Closing.{Follows, IsReached, Seed, Step}
use Rattle.begun_lists.specs.Closing as closing
use Rattle.begun_lists.specs.Begun.{HasRule, AreAwaited, Begins, AreBegun, IsFirst}
use Rattle.begun_lists.specs.Begun as begun

pub begins_item : {g : FlatGrammar} {A : ℕ → Type 0} {item : Item} → Begins g A item → IsItem g item × (item.origin ≡ 0)
begins_item (begun.First a rule l) = (record { is_rule = rule; within = omega arith }, refl)
begins_item (begun.Predicts b e rule l) = (record { is_rule = rule; within = omega arith }, refl)
begins_item {g = g} (begun.Skips {x = x} {item = before} b e n) =
    let (is, zero) = begins_item b in (record { is_rule = is.is_rule; within = slice_get_within (rhs_of g before.rule) before.dot x e }, zero)

-- symbols with rules alone count
pub begins_over : {g : FlatGrammar} {A B : ℕ → Type 0} {item : Item} → ((x : ℕ) → A x → HasRule g x → B x) → Begins g A item → Begins g B item
begins_over to (begun.First {x = x} {r = r} a rule l) = begun.First (to x a (r, rule, l)) rule l
begins_over to (begun.Predicts b e rule l) = begun.Predicts (begins_over to b) e rule l
begins_over to (begun.Skips b e n) = begun.Skips (begins_over to b) e n

nothing_begins : {g : FlatGrammar} {A : ℕ → Type 0} {item : Item} → ((x : ℕ) → ¬ A x) → Begins g A item → ⊥
nothing_begins none (begun.First {x = x} a rule l) = none x a
nothing_begins none (begun.Predicts b e rule l) = nothing_begins none b
nothing_begins none (begun.Skips b e n) = nothing_begins none b

module _ (g : FlatGrammar) (items : List Item) (symbols : List ℕ) (exact : AreAwaited g items symbols) where
  -- the same by the symbols that items wait for
  pub begun_awaited : (list : List Item) → AreBegun g (Contains symbols) list → AreBegun g (IsAwaited g items) list
  begun_awaited list are item = (
    λ c. begins_over (λ x s has. ((exact x).0 s).0) ((are item).0 c),
    λ b. (are item).1 (begins_over (λ x a has. (exact x).1 (a, has)) b),
  )

  pub none_begun : symbols ≡ [] → AreBegun g (IsAwaited g items) []
  none_begun none item = (
    λ c. absurd (Contains-none item c),
    λ b. absurd (nothing_begins (λ x s. Contains-none x (subst (λ l. Contains l x) none s)) (begins_over (λ x a has. (exact x).1 (a, has)) b)),
  )

-- what the first items lead to
module _ (g : FlatGrammar) (symbols : List ℕ) (firsts : List Item) (listed : (item : Item) → Contains firsts item ↔ IsFirst g symbols item) where
  step_begins : (item other : Item) → Begins g (Contains symbols) item → Follows g [] 0 item other → Begins g (Contains symbols) other
  step_begins item other b (closing.Predicts e rule l) = begun.Predicts b e rule l
  step_begins item other b (closing.Skips e n) = begun.Skips b e n
  step_begins item other b (closing.Completes whole lt none w e) = absurd (omega (arith, lt))
  step_begins item other b (closing.Leaps whole lt leads) = absurd (omega (arith, lt))

  reached_begins : (item : Item) → IsReached (Follows g [] 0) firsts item → Begins g (Contains symbols) item
  reached_begins item (Seed h) = let (x, s, (r, rule, l, e)) = (listed item).0 h in subst (Begins g (Contains symbols)) (sym e) (begun.First (subst (Contains symbols) (sym l) s) rule refl)
  reached_begins item (Step {item = before} r f) = step_begins before item (reached_begins before r) f

  begins_reached : {item : Item} → Begins g (Contains symbols) item → IsReached (Follows g [] 0) firsts item
  begins_reached (begun.First {x = x} {r = r} s rule l) = Seed ((listed (first_item r 0)).1 (x, s, (r, rule, l, refl)))
  begins_reached (begun.Predicts {r = r} {item = before} b e rule l) =
      Step (begins_reached b) (subst (λ (t : Item). Follows g [] 0 before t) refl (closing.Predicts e rule l))
  begins_reached (begun.Skips b e n) = Step (begins_reached b) (closing.Skips e n)

  pub closed_begins : (keys : List Item) → ((item : Item) → Contains keys item ↔ IsReached (Follows g [] 0) firsts item) → AreBegun g (Contains symbols) keys
  closed_begins keys h item = (λ c. reached_begins item ((h item).0 c), λ b. (h item).1 (begins_reached b))
