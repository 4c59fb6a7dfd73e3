use Rattle.std.proofs.Common.{◌≡◌, ℕ, ◌+◌, ◌<◌, ◌++◌, ◌↔◌, ◌⊎◌, inl, inr, List, [], ◌∷◌, length, take, get_or, Contains, sym, ◌∙◌, ap, subst, append_assoc, append-nil}
use Rattle.std.proofs.lemmas.List.{take_more}
use Rattle.std.proofs.lemmas.List.Elements.{Contains-append_left, Contains-push, Contains-push_cases}
use Rattle.recognizer_model.specs.declared.Item.{Item}
use Rattle.item_sets.specs.Adding.{Adds}
use Rattle.item_sets.specs.Adding.{Grows}

pub Adds-begins : (old new : List Item) (item : Item) → Adds old new item → (more : List Item) × (new ≡ old ++ more)
Adds-begins old new item (inl (e, there)) = ([], e ∙ sym (append-nil old))
Adds-begins old new item (inr (e, not_there)) = (item ∷ [], e)

pub Adds-has : (old new : List Item) (item k : Item) → Adds old new item → Contains new k ↔ (Contains old k ⊎ (item ≡ k))
Adds-has old new item k (inl (e, there)) = (λ h. inl (subst (λ l. Contains l k) e h), λ h. elim h [ inl a ↦ subst (λ l. Contains l k) (sym e) a | inr b ↦ subst (λ l. Contains l k) (sym e) (subst (Contains old) b there) ])
Adds-has old new item k (inr (e, not_there)) = (
  λ h. Contains-push_cases old item k (subst (λ l. Contains l k) e h),
  λ h. subst (λ l. Contains l k) (sym e) (elim h [ inl a ↦ Contains-append_left old (item ∷ []) k a | inr b ↦ subst (Contains (old ++ item ∷ [])) b (Contains-push old item) ]),
)

pub Grows-more : (old mid new items : List Item) (i : ℕ) (d : Item) → i < length items → Grows old mid (take i items) → Adds mid new (get_or items i d) → Grows old new (take (i + 1) items)
Grows-more old mid new items i d lt g a =
    let item = get_or items i d in
    let (more, e) = g.begins in
    let (more', e') = Adds-begins mid new item a in
    record {
      begins = (more ++ more', e' ∙ ap (λ l. l ++ more') e ∙ append_assoc old more more');
      has = λ k. subst (λ l. Contains new k ↔ (Contains old k ⊎ Contains l k)) (sym (take_more items i d lt)) (
        λ h. elim ((Adds-has mid new item k a).0 h) [
          | inl b ↦ elim ((g.has k).0 b) [ inl o ↦ inl o | inr o ↦ inr (Contains-append_left (take i items) (item ∷ []) k o) ]
          | inr same ↦ inr (subst (Contains (take i items ++ item ∷ [])) same (Contains-push (take i items) item))
        ],
        λ h. (Adds-has mid new item k a).1 (elim h [
          | inl o ↦ inl ((g.has k).1 (inl o))
          | inr o ↦ elim (Contains-push_cases (take i items) item k o) [ inl o' ↦ inl ((g.has k).1 (inr o')) | inr same ↦ inr same ]
        ]),
      );
    }
