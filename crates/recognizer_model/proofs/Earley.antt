use Rattle.std.proofs.Common.{◌≡◌, ℕ, Some, refl, sym, ◌∙◌, ap, subst}
use Rattle.recognizer_model.specs.declared.Item.{Item}
use Rattle.grammar_model.specs.Trees.{Tree, Children, NoChild, Child}
use Rattle.recognizer_model.specs.Flat.{FlatGrammar, IsRule, lhs_of}
use Rattle.grammar_model.specs.Derives.{Edges}
use Rattle.recognizer_model.specs.FlatDerives.{Derives, Token, Null, Rule, Spans, Nothing, More}
use Rattle.recognizer_model.specs.Items.{after, first_item, advanced, InSet, Start, Predict, Skip, Scan, Complete}
use Rattle.recognizer_model.specs.Contexts.{MayStand, AtStart, Next, IsFound, IsTop, ItemsAreFound}

module _ (g : FlatGrammar) (E : Edges) (top : ℕ) (is_top : IsTop g top) where
  found_advanced : {p q x : ℕ} {item : Item} {t : Tree} → IsFound g E top p item → after g item ≡ Some x →
      Derives g E x p q t → IsFound g E top q (advanced item)
  found_advanced {t = t} f e d = record { is_rule = f.is_rule; may_stand = f.may_stand; children = Child f.children t; spans = More f.spans e d }

  -- each item was found
  pub found : {j : ℕ} {item : Item} → InSet g E top j item → IsFound g E top j item
  found Start = record { is_rule = is_top.is_rule; may_stand = AtStart refl; children = NoChild; spans = Nothing }
  found (Predict i e rule l) =
      let f = found i in
      record { is_rule = rule; may_stand = Next f.may_stand f.is_rule refl f.spans (e ∙ ap Some (sym l)); children = NoChild; spans = Nothing }
  found (Skip i e n) = found_advanced (found i) e (Null n)
  found (Scan i e s) = found_advanced (found i) e (Token s)
  found (Complete {j = j} {whole = w} w_in whole lt i e) =
      let f = found w_in in
      found_advanced (found i) e (Rule f.is_rule refl lt (subst (λ d. Spans g E w.rule d w.origin j f.children) whole f.spans))

  mutual
    -- over what a symbol derives, an item that waits for it is advanced
    pub over_symbol : {x p q : ℕ} {t : Tree} → Derives g E x p q t → (item : Item) → InSet g E top p item → after g item ≡ Some x →
        InSet g E top q (advanced item)
    over_symbol (Token s) item i e = Scan i e s
    over_symbol (Null n) item i e = Skip i e n
    over_symbol (Rule rule l lt s) item i e =
        Complete (over_parts s (Predict i e rule l)) refl lt i (e ∙ ap Some (sym l))

    -- over what the first parts of a rule derive, its first item is advanced
    pub over_parts : {r d p q : ℕ} {cs : Children} → Spans g E r d p q cs → InSet g E top p (first_item r p) →
        InSet g E top q (record { rule = r; dot = d; origin = p })
    over_parts Nothing i = i
    over_parts (More s e t) i = over_symbol t _ (over_parts s i) e

  -- what may stand is predicted
  predicted : {x p r : ℕ} → MayStand g E top x p → IsRule g r → lhs_of g r ≡ x → InSet g E top p (first_item r p)
  predicted {r = r} (AtStart e) rule l = subst (λ k. InSet g E top 0 (first_item k 0)) (sym (is_top.alone r rule (l ∙ sym e))) Start
  predicted (Next m rule' l' s e) rule l = Predict (over_parts s (predicted m rule' l')) e rule l

  pub items_are_found : ItemsAreFound g E top
  items_are_found place item = (found, λ f. over_parts f.spans (predicted f.may_stand f.is_rule refl))
