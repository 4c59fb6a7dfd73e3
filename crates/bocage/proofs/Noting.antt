-- What is noted of groups.
use Rattle.std.proofs.Common.{◌≡◌, ◌⊎◌, inl, inr, ℕ, ◌++◌, Contains, List, [], Some, length, slice_get, refl, sym, ◌∙◌, ap, subst, arith}
use Rattle.std.proofs.lemmas.List.{append-nil, length-append}
use Rattle.recognizer_model.specs.declared.NodeKey.{NodeKey}
use Rattle.recognizer_model.specs.Flat.{FlatGrammar}
use Rattle.forest_parts.specs.declared.groups.Group.{Group}
use Rattle.forest_parts.specs.declared.parts.Part.{Part}
use Rattle.forest_parts.specs.Lists.{between}
use Rattle.bocage.specs.declared.rows.CauseRow.{CauseRow}
use Rattle.bocage.specs.declared.rows.CauseRow.TheVariants as row
use Rattle.bocage.specs.declared.walk.Known.{Known}
use Rattle.bocage.specs.declared.walk.Found.{Found}
use Rattle.bocage.specs.Walk.{GrowsBy, whole_keys, AreNumbers, IsCauseFound, IsCauseHeld, parts_of_group, AreNoted, IsCauseNoted}
use Rattle.bocage.proofs.Growing.{grows_none, numbers_more, between_more, length_more}
use Rattle.bocage.proofs.Wholes.{between_all}

last_held : (g : FlatGrammar) (parts : List Part) (keys : List NodeKey) (old new : List ℕ) (cause : CauseRow) → IsCauseFound g parts keys old new cause → IsCauseHeld g parts keys new cause × ((more : List ℕ) × (new ≡ old ++ more))
last_held g parts keys old new row.Edge (none, e) = (none, ([], e ∙ sym (append-nil old)))
last_held g parts keys old new row.Nothing h = absurd h
last_held g parts keys old new (row.Wholes first' end') (key, whole, a, b, (ns, e, h)) =
    let is : between first' end' new ≡ ns = (λ i. between (a i) (b i) (e i)) ∙ ap (λ n. between (length old) n (old ++ ns)) (ap (λ (l : List ℕ). length l) e) ∙ between_all old ns in
    let l = length-append old ns in
    let l' = ap (λ (z : List ℕ). length z) e in
    ((key, whole, omega arith, omega arith, subst (λ z. AreNumbers keys z (whole_keys g parts)) (sym is) h), (ns, e))

held_more : (g : FlatGrammar) (parts : List Part) (keys mk : List NodeKey) (wholes mw : List ℕ) (cause : CauseRow) → IsCauseHeld g parts keys wholes cause → IsCauseHeld g parts (keys ++ mk) (wholes ++ mw) cause
held_more g parts keys mk wholes mw row.Edge h = h
held_more g parts keys mk wholes mw row.Nothing h = h
held_more g parts keys mk wholes mw (row.Wholes first' end') (key, whole, a, b, h) =
    let l = length_more wholes mw in
    (key, whole, a, omega arith, subst (λ z. AreNumbers (keys ++ mk) z (whole_keys g parts)) (sym (between_more first' end' wholes mw a b)) (numbers_more keys mk (between first' end' wholes) (whole_keys g parts) h))

held_grown : (g : FlatGrammar) (parts : List Part) (keys keys' mk : List NodeKey) (wholes wholes' mw : List ℕ) (cause : CauseRow) → keys' ≡ keys ++ mk → wholes' ≡ wholes ++ mw → IsCauseHeld g parts keys wholes cause → IsCauseHeld g parts keys' wholes' cause
held_grown g parts keys keys' mk wholes wholes' mw cause ek ew h =
    subst (λ z. IsCauseHeld g parts z wholes' cause) (sym ek) (subst (λ z. IsCauseHeld g parts (keys ++ mk) z cause) (sym ew) (held_more g parts keys mk wholes mw cause h))

module _ (k : Known) where
  -- what is noted stays so where more is found
  pub noted_more : (old new : Found) (mk : List NodeKey) (mw : List ℕ) → new.keys.keys ≡ old.keys.keys ++ mk → new.wholes.items ≡ old.wholes.items ++ mw → new.causes ≡ old.causes → AreNoted k old → AreNoted k new
  noted_more old new mk mw ek ew el noted = record {
    long = (λ i. length (el i).items) ∙ noted.long;
    each = λ n g cause at e. held_grown k.recce.now.flat (parts_of_group k g) old.keys.keys new.keys.keys mk old.wholes.items new.wholes.items mw cause ek ew (noted.each n g cause at ((λ i. slice_get ((sym el i).items) n) ∙ e));
  }

  module _ (g : Group) (at : ℕ) (old : Found) (group : slice_get k.groups.now at ≡ Some g) (noted : AreNoted k old) (cause : CauseRow) where
    pub was_noted : slice_get old.causes.items at ≡ Some (Some cause) → IsCauseNoted k g old old cause
    was_noted e = record {
      held = noted.each at g cause group e;
      keys = grows_none (λ z. Contains (whole_keys k.recce.now.flat (parts_of_group k g)) z) old.keys.keys;
      alternatives = refl;
      more = [];
      wholes = sym (append-nil old.wholes.items);
      noted = noted;
    }

    pub is_noted : (new : Found) → new.alternatives ≡ old.alternatives → GrowsBy (λ z. Contains (whole_keys k.recce.now.flat (parts_of_group k g)) z) old.keys.keys new.keys.keys →
        IsCauseFound k.recce.now.flat (parts_of_group k g) new.keys.keys old.wholes.items new.wholes.items cause → length new.causes.items ≡ length old.causes.items →
        ((n : ℕ) (held : CauseRow) → slice_get new.causes.items n ≡ Some (Some held) → (slice_get old.causes.items n ≡ Some (Some held)) ⊎ ((n ≡ at) × (held ≡ cause))) → IsCauseNoted k g old new cause
    is_noted new same grown found long put =
        let (held, (more, e)) = last_held k.recce.now.flat (parts_of_group k g) new.keys.keys old.wholes.items new.wholes.items cause found in
        record {
          held = held;
          keys = grown;
          alternatives = same;
          more = more;
          wholes = e;
          noted = record {
            long = long ∙ noted.long;
            each = λ n h other group' e'. elim (put n other e') [
              | inl before ↦ held_grown k.recce.now.flat (parts_of_group k h) old.keys.keys new.keys.keys (grown).0 old.wholes.items new.wholes.items more other (grown).1 e (noted.each n h other group' before)
              | inr (here, is) ↦
                  let one : Some g ≡ Some h = sym group ∙ ap (slice_get k.groups.now) (sym here) ∙ group' in
                  let q : g ≡ h = cc in
                  subst (λ z. IsCauseHeld k.recce.now.flat (parts_of_group k z) new.keys.keys new.wholes.items other) q (subst (λ z. IsCauseHeld k.recce.now.flat (parts_of_group k g) new.keys.keys new.wholes.items z) (sym is) held)
            ];
          };
        }
