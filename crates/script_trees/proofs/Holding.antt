-- Ids that stand for values, where a value more is put in.
use Rattle.std.proofs.Common.{◌≡◌, ◌∙◌, ℕ, ◌-◌, ◌++◌, List, [], ◌∷◌, Result, length, map, take, drop, refl, sym, ap, subst}
use Rattle.std.specs.Prelude.{IfOk}
use Rattle.std.proofs.lemmas.List.{map-append}
use Rattle.std.proofs.lemmas.Result.{IfOk-weaker}
use Rattle.grammar_model.specs.Values.{Value, list_of}
use Rattle.value_text.specs.Nodes.{value_at}
use Rattle.value_text.specs.Pool.{IsPut, AreIds}
use Rattle.valuator.specs.Made.{values_at, IsGrown}
use Rattle.valuator.specs.Told.{replace_newest}
use Rattle.valuator.proofs.Grown.{grown_put, grown_through, stands_put, stands_as, are_ids-grown, values_at-grown, ids_none, ids_both, ids_more, values_at-push, held_replaced, ids_replaced}
use Rattle.script_trees.specs.Stack.{IsAdded, Holds}

-- ---- THE PARTS OF A LIST

pub none_held : (pool : List Value) (ids : List ℕ) → ids ≡ [] → Holds pool ids []
none_held pool ids none = subst (λ l. Holds pool l []) (sym none) (record { inside = ids_none pool; are = refl })

-- a value is put in, and its id stands at the end
pub part_put : (old new : List Value) (ids more : List ℕ) (id : ℕ) (values : List Value) (v : Value) → Holds old ids values → IsPut old new id v → more ≡ ids ++ id ∷ [] → Holds new more (values ++ v ∷ [])
part_put old new ids more id values v holds put is =
    let grown = grown_put old new id v put in
    let stands = stands_put old new id v put in
    record { inside = ids_more old new ids more id v grown holds.inside stands is; are = values_at-push old new ids more id v stands grown holds.inside is ∙ ap (λ vs. vs ++ v ∷ []) holds.are }

-- the list of the parts
pub list_put : (first old new : List Value) (ids : List ℕ) (id : ℕ) (values : List Value) → IsGrown first old → Holds old ids values → IsPut old new id (list_of (map (value_at old) ids)) → IsAdded first new id (list_of values)
list_put first old new ids id values grown holds put = record {
  grown = grown_through first old new grown (grown_put old new id (list_of (map (value_at old) ids)) put);
  stands = stands_as new id (list_of (map (value_at old) ids)) (list_of values) (stands_put old new id (list_of (map (value_at old) ids)) put) (ap list_of holds.are);
}

pub list_result : {E : Type 0} (r : Result ℕ E) (first old new : List Value) (ids : List ℕ) (values : List Value) → IsGrown first old → Holds old ids values →
    IfOk r (λ id. IsPut old new id (list_of (map (value_at old) ids))) → IfOk r (λ id. IsAdded first new id (list_of values))
list_result r first old new ids values grown holds put = IfOk-weaker r _ _ (λ id p. list_put first old new ids id values grown holds p) put

-- ids of before stand after others
pub parts_and : (first old : List Value) (ids children all : List ℕ) (values : List Value) → IsGrown first old → Holds old ids values → AreIds first children → all ≡ ids ++ children → Holds old all (values ++ values_at first children)
parts_and first old ids children all values grown holds are is = record {
  inside = ids_both old ids children all holds.inside (are_ids-grown first old children grown are) is;
  are = ap (values_at old) is ∙ map-append (value_at old) ids children ∙ (λ i. holds.are i ++ values_at-grown first old children grown are i);
}

-- ---- WHAT IS HELD

module _ (old new : List Value) (ids more : List ℕ) (id : ℕ) (v : Value) (added : IsAdded old new id v) (are : AreIds old ids) where
  pub one_more_held : more ≡ ids ++ id ∷ [] → Holds new more (values_at old ids ++ v ∷ [])
  one_more_held is = record { inside = ids_more old new ids more id v added.grown are added.stands is; are = values_at-push old new ids more id v added.stands added.grown are is }

  pub newest_replaced : (n : ℕ) (make : List Value → Value) → more ≡ take (length ids - n) ids ++ id ∷ [] → v ≡ make (values_at old (drop (length ids - n) ids)) → Holds new more (replace_newest n make (values_at old ids))
  newest_replaced n make is made = record { inside = ids_replaced old new ids more n id v added.grown are added.stands is; are = held_replaced old new ids more n id v make added.grown are added.stands is made }
