-- Ways on from steps grow with each step, and notes are found again.
use Rattle.std.proofs.Common.{◌≡◌, ◌⊎◌, inl, inr, ℕ, ◌+◌, ◌++◌, Bool, true, false, List, [], ◌∷◌, Option, Some, None, refl, sym, ◌∙◌, ap, subst, arith}
use Rattle.std.specs.Prelude.{cond}
use Rattle.std.specs.Option.{is_some}
use Rattle.recognizer_model.specs.declared.Item.{Item}
use Rattle.recognizer_model.specs.declared.Pair.{Pair}
use Rattle.recognizer_model.specs.Flat.{FlatGrammar, lhs_of}
use Rattle.leo_items.specs.Memo.{Note, same_pair, noted}
use Rattle.leo_items.specs.ByRows.{IsNotLeoIn, LeadsIn, IsStepIn, IsMemo, pair_of}
use Rattle.leo_items.specs.Ways.{IsWay, On}
use Rattle.leo_items.proofs.Chains.{has_leo, leads_one, same_pair-laws}

module _ (g : FlatGrammar) (rows : List (List Item)) (notes : List Note) (first : Item) where
  -- a way from an item is one from the first step, so many steps longer
  abbrev pub LeadsFrom : (walked : ℕ) (step : Item) → Type 0
  LeadsFrom walked step = (k : ℕ) (top : Item) → IsWay g rows notes k step top → IsWay g rows notes (walked + k) first top

  pub from_first : LeadsFrom 0 first
  from_first k top way = subst (λ n. IsWay g rows notes n first top) (omega arith) way

  pub from_next : (walked : ℕ) (step next : Item) → LeadsFrom walked step → noted notes (pair_of g step) ≡ None → IsStepIn g rows step.origin (lhs_of g step.rule) (Some next) → LeadsFrom (walked + 1) next
  from_next walked step next from none is k top way = subst (λ n. IsWay g rows notes n first top) (omega arith) (from (k + 1) top (On none is way))

  pub from_last : (walked : ℕ) (step top : Item) → LeadsFrom walked step → IsWay g rows notes 0 step top → IsWay g rows notes walked first top
  from_last walked step top from way = subst (λ n. IsWay g rows notes n first top) (omega arith) (from 0 top way)

noted_stays : (notes : List Note) (p q : Pair) (t u : Item) → noted notes q ≡ Some u → noted (notes ++ (p, t) ∷ []) q ≡ Some u
noted_stays [] p q t u e = absurd (cc)
noted_stays (n ∷ ns) p q t u e = by (same_pair q n.0) refl e (noted_stays ns p q t u)
  where
    by : (b : Bool) → same_pair q n.0 ≡ b → cond b (Some n.1) (noted ns q) ≡ Some u → (noted ns q ≡ Some u → noted (ns ++ (p, t) ∷ []) q ≡ Some u) → noted ((n ∷ ns) ++ (p, t) ∷ []) q ≡ Some u
    by true h e' rest = ap (λ b. cond b (Some n.1) (noted (ns ++ (p, t) ∷ []) q)) h ∙ e'
    by false h e' rest = ap (λ b. cond b (Some n.1) (noted (ns ++ (p, t) ∷ []) q)) h ∙ rest e'

noted_put : (notes : List Note) (p : Pair) (t : Item) → noted notes p ≡ None → noted (notes ++ (p, t) ∷ []) p ≡ Some t
noted_put [] p t none = ap (λ b. cond b (Some t) None) (same_pair-laws.refl p)
noted_put (n ∷ ns) p t none = by (same_pair p n.0) refl none (noted_put ns p t)
  where
    by : (b : Bool) → same_pair p n.0 ≡ b → cond b (Some n.1) (noted ns p) ≡ None → (noted ns p ≡ None → noted (ns ++ (p, t) ∷ []) p ≡ Some t) → noted ((n ∷ ns) ++ (p, t) ∷ []) p ≡ Some t
    by true h e rest = absurd (cc)
    by false h e rest = ap (λ b. cond b (Some n.1) (noted (ns ++ (p, t) ∷ []) p)) h ∙ rest e

-- the first pair is at hand, or noted
abbrev pub IsAtOrNoted : (notes : List Note) (pair first : Pair) (top : Item) → Type 0
IsAtOrNoted notes pair first top = (pair ≡ first) ⊎ (noted notes first ≡ Some top)

pub noted_next : (notes new : List Note) (pair above first : Pair) (top : Item) → new ≡ notes ++ (pair, top) ∷ [] → noted notes pair ≡ None → IsAtOrNoted notes pair first top → IsAtOrNoted new above first top
noted_next notes new pair above first top is none (inl e) = inr (ap (λ l. noted l first) is ∙ subst (λ p. noted (notes ++ (pair, top) ∷ []) p ≡ Some top) e (noted_put notes pair top none))
noted_next notes new pair above first top is none (inr e) = inr (ap (λ l. noted l first) is ∙ noted_stays notes pair first top top e)

module _ (g : FlatGrammar) (rows : List (List Item)) (notes : List Note) (pair first : Pair) (top : Item) (leads : LeadsIn g rows first.set first.symbol top) where
  -- what is noted of the first pair is where it leads
  pub noted_found : (found : Option Item) → IsMemo g rows notes → IsAtOrNoted notes pair first top → found ≡ noted notes pair → true ≡ is_some found → noted notes first ≡ Some top
  noted_found found memo (inr e) is some = e
  noted_found None memo (inl e) is some = absurd (cc)
  noted_found (Some t) memo (inl e) is some =
      let there : noted notes first ≡ Some t = subst (λ p. noted notes p ≡ Some t) e (sym is) in
      there ∙ ap Some (leads_one g rows (memo.leads first t there).1 leads)

  pub noted_end : IsAtOrNoted notes pair first top → IsNotLeoIn g rows pair.set pair.symbol → noted notes first ≡ Some top
  noted_end (inr e) none = e
  noted_end (inl e) none = let (item, leo) = has_leo g rows leads in absurd (subst (λ (p : Pair). IsNotLeoIn g rows p.set p.symbol) e none item leo)
