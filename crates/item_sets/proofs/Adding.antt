use Rattle.std.proofs.Common.{◌≡◌, Bool, true, false, List, [], ◌∷◌, ◌++◌, refl, sym, ◌∙◌, ap, ◌↔◌, ◌⊎◌, inl, inr, Contains, true≢false, if◌then◌else◌}
use Rattle.std.specs.List.{list_any}
use Rattle.std.proofs.lemmas.Map.Views.{Contains-from_any, list_any-from_Contains}
use Rattle.indexmap.specs.IndexSet.{insert_key}
use Rattle.recognizer_model.specs.declared.Item.{Item}
use Rattle.item_rows.proofs.Items.{item_eq, item_eq-true, item_eq-laws}
use Rattle.item_sets.specs.Adding.{Adds}

pub adds_key : (ks new : List Item) (k : Item) → new ≡ insert_key item_eq ks k → Adds ks new k
adds_key ks new k e = by (list_any (item_eq k) ks) refl
  where
    by : (b : Bool) → list_any (item_eq k) ks ≡ b → Adds ks new k
    by true h = inl (e ∙ ap (λ c. if c then ks else ks ++ k ∷ []) h, Contains-from_any item_eq-true k ks h)
    by false h = inr (e ∙ ap (λ c. if c then ks else ks ++ k ∷ []) h, λ there. true≢false (sym (list_any-from_Contains item_eq-laws k ks there) ∙ h))

-- what a look-up of an item tells
pub tells_there : (xs : List Item) (x : Item) (b : Bool) → b ≡ list_any (item_eq x) xs → (b ≡ true) ↔ Contains xs x
tells_there xs x b e = (λ t. Contains-from_any item_eq-true x xs (sym e ∙ t), λ there. e ∙ list_any-from_Contains item_eq-laws x xs there)

-- an item is in a list or not
pub decide : (xs : List Item) (x : Item) → Contains xs x ⊎ (¬ Contains xs x)
decide xs x = by (list_any (item_eq x) xs) refl
  where
    by : (b : Bool) → list_any (item_eq x) xs ≡ b → Contains xs x ⊎ (¬ Contains xs x)
    by true e = inl (Contains-from_any item_eq-true x xs e)
    by false e = inr (λ there. true≢false (sym (list_any-from_Contains item_eq-laws x xs there) ∙ e))
