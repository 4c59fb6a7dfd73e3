-- Ids stand for the same values in a pool that has grown.
use Rattle.std.proofs.Common.{◌≡◌, ℕ, suc, ◌<◌, List, [], ◌∷◌, ◌++◌, length, take, drop, ◌+◌, ◌-◌, ◌≤◌, Bool, true, false, get_or, refl, sym, ap, ◌∙◌, arith, append_assoc, append-nil, length-append, subst, Result, Ok, Err, IfOk, OnErr}
use Rattle.std.proofs.Math.ListN.{get_or-append}
use Rattle.std.proofs.Math.Seq.{get_or-append_seam}
use Rattle.std.proofs.lemmas.List.{map-append, flat_map_more, take_more, take-map, drop-map, length-map}
use Rattle.std.proofs.lemmas.List.Elements.{All-take, All-drop, All-push, All-append}
use Rattle.std.proofs.lemmas.Grind.{elements, get_or_picked}
use Rattle.std.specs.List.{flat_map, items_where_true}
use Rattle.grammar_model.specs.Values.{Value, Undefined, Text, Number, item_values}
use Rattle.grammar_model.specs.declared.DescItem.{DescItem}
use Rattle.value_text.specs.Nodes.{value_at}
use Rattle.value_text.specs.Pool.{IsPut, AreIds}
use Rattle.valuator.specs.declared.make.Parts.{Parts}
use Rattle.valuator.specs.Told.{replace_newest}
use Rattle.valuator.specs.Made.{made_of, values_at, IsGrown, StandsFor}

pub grown_same : (values : List Value) → IsGrown values values
grown_same values = record { more = []; is = sym (append-nil values) }

pub grown_through : (xs ys zs : List Value) → IsGrown xs ys → IsGrown ys zs → IsGrown xs zs
grown_through xs ys zs p q = record { more = p.more ++ q.more; is = q.is ∙ ap (λ b. b ++ q.more) p.is ∙ append_assoc xs p.more q.more }

pub grown_put : (old new : List Value) (id : ℕ) (v : Value) → IsPut old new id v → IsGrown old new
grown_put old new id v p = record { more = v ∷ []; is = p.values }

-- the pool is as it was
pub grown_kept : (old new : List Value) → new ≡ old → IsGrown old new
grown_kept old new e = record { more = []; is = e ∙ sym (append-nil old) }

-- a value was put in, or the pool is as it was
pub grown_tried : {E : Type 0} (old new : List Value) (v : Value) (r : Result ℕ E) → IfOk r (λ id. IsPut old new id v) → OnErr r (new ≡ old) → IsGrown old new
grown_tried old new v (Ok id) put kept = grown_put old new id v put
grown_tried old new v (Err e) put kept = grown_kept old new kept

pub stands_put : (old new : List Value) (id : ℕ) (v : Value) → IsPut old new id v → StandsFor new id v
stands_put old new id v p = record {
  inside = omega (arith, p.place, ap length p.values, length-append old (v ∷ []));
  is = (λ i. value_at (p.values i) (p.place i)) ∙ get_or-append_seam old v [] Undefined;
}

pub value_at-grown : (old new : List Value) (id : ℕ) → IsGrown old new → id < length old → value_at new id ≡ value_at old id
value_at-grown old new id g b = ap (λ vs. value_at vs id) g.is ∙ get_or-append old g.more Undefined id b

pub stands_grown : (old new : List Value) (id : ℕ) (v : Value) → IsGrown old new → StandsFor old id v → StandsFor new id v
stands_grown old new id v g s = record {
  inside = omega (arith, s.inside, ap length g.is, length-append old g.more);
  is = value_at-grown old new id g s.inside ∙ s.is;
}

pub are_ids-grown : (old new : List Value) (ids : List ℕ) → IsGrown old new → AreIds old ids → AreIds new ids
are_ids-grown old new ids g are k d b = omega (arith, are k d b, ap length g.is, length-append old g.more)

pub values_at-grown : (old new : List Value) (ids : List ℕ) → IsGrown old new → AreIds old ids → values_at new ids ≡ values_at old ids
values_at-grown old new [] g are = refl
values_at-grown old new (id ∷ ids) g are =
    let first : id < length old = are 0 0 (omega arith) in
    (λ i. value_at-grown old new id g first i ∷ values_at-grown old new ids g (λ k d b. are (suc k) d (omega arith)) i)

pub are_ids-push : (values : List Value) (ids ids' : List ℕ) (id : ℕ) (v : Value) → StandsFor values id v → AreIds values ids → ids' ≡ ids ++ id ∷ [] → AreIds values ids'
are_ids-push values ids ids' id v s are e = subst (AreIds values) (sym e) (λ k d b. let inside = s.inside in grind (arith, elements, are k d))

pub values_at-push : (old new : List Value) (ids ids' : List ℕ) (id : ℕ) (v : Value) → StandsFor new id v → IsGrown old new → AreIds old ids → ids' ≡ ids ++ id ∷ [] →
    values_at new ids' ≡ values_at old ids ++ v ∷ []
values_at-push old new ids ids' id v s g are e =
    ap (values_at new) e ∙ map-append (value_at new) ids (id ∷ []) ∙ (λ i. values_at-grown old new ids g are i ++ s.is i ∷ [])

-- a value that was put in, and whose id was added
pub values_at_put : (old new : List Value) (ids ids' : List ℕ) (id : ℕ) (v : Value) → IsPut old new id v → AreIds old ids → ids' ≡ ids ++ id ∷ [] →
    values_at new ids' ≡ values_at old ids ++ v ∷ []
values_at_put old new ids ids' id v p are e = values_at-push old new ids ids' id v (stands_put old new id v p) (grown_put old new id v p) are e

pub made_same : (old new : List Value) (p : Parts) → IsGrown old new → AreIds old p.children.now → made_of new p ≡ made_of old p
made_same old new p g are =
    ap (λ (vs : List Value). record { name = p.name.now; start = p.start; length = p.length; g1start = p.g1start; g1length = p.g1length; children = vs }) (values_at-grown old new p.children.now g are)

-- one item more
pub items_more : (old now : List Value) (p : Parts) (items : List DescItem) (i : ℕ) (d : DescItem) (a b c : List Value) → i < length items → IsGrown old now → AreIds old p.children.now →
    b ≡ a ++ flat_map (item_values (made_of old p)) (take i items) → c ≡ b ++ item_values (made_of now p) (get_or items i d) →
    c ≡ a ++ flat_map (item_values (made_of old p)) (take (i + 1) items)
items_more old now p items i d a b c inside g are e step =
    step ∙ (λ j. e j ++ item_values (made_same old now p g are j) (get_or items i d))
    ∙ flat_map_more (item_values (made_of old p)) a (take i items) (get_or items i d)
    ∙ ap (λ xs. a ++ flat_map (item_values (made_of old p)) xs) (sym (take_more items i d inside))

-- what is held, where the pool has grown and the ids are the same
pub held_stays : (old new : List Value) (ids ids' : List ℕ) → IsGrown old new → AreIds old ids → ids' ≡ ids → values_at new ids' ≡ values_at old ids
held_stays old new ids ids' g are e = ap (values_at new) e ∙ values_at-grown old new ids g are

-- one value more is held
pub held_more : (old new : List Value) (ids ids' : List ℕ) (id : ℕ) (v w : Value) → IsGrown old new → AreIds old ids → StandsFor new id v → ids' ≡ ids ++ id ∷ [] → v ≡ w →
    values_at new ids' ≡ values_at old ids ++ w ∷ []
held_more old new ids ids' id v w g are s e same = values_at-push old new ids ids' id v s g are e ∙ ap (λ u. values_at old ids ++ u ∷ []) same

pub ids_more : (old new : List Value) (ids ids' : List ℕ) (id : ℕ) (v : Value) → IsGrown old new → AreIds old ids → StandsFor new id v → ids' ≡ ids ++ id ∷ [] → AreIds new ids'
ids_more old new ids ids' id v g are s e = are_ids-push new ids ids' id v s (are_ids-grown old new ids g are) e

-- the ids are the same
pub ids_kept : (old new : List Value) (ids ids' : List ℕ) → IsGrown old new → AreIds old ids → ids' ≡ ids → AreIds new ids'
ids_kept old new ids ids' g are e = subst (AreIds new) (sym e) (are_ids-grown old new ids g are)

pub ids_none : (values : List Value) → AreIds values []
ids_none values k d b = absurd (omega arith)

pub ids_one : (values : List Value) (id : ℕ) (v : Value) → StandsFor values id v → AreIds values (id ∷ [])
ids_one values id v s = All-push (λ k. k < length values) [] id (ids_none values) s.inside

pub ids_both : (values : List Value) (ids more all : List ℕ) → AreIds values ids → AreIds values more → all ≡ ids ++ more → AreIds values all
ids_both values ids more all p q e = subst (AreIds values) (sym e) (All-append (λ id. id < length values) ids more p q)

are_ids-take : (values : List Value) (ids : List ℕ) (n : ℕ) → AreIds values ids → AreIds values (take n ids)
are_ids-take values ids n are = All-take (λ id. id < length values) n ids are

pub are_ids-drop : (values : List Value) (ids ids' : List ℕ) (n : ℕ) → AreIds values ids → ids' ≡ drop n ids → AreIds values ids'
are_ids-drop values ids ids' n are e = subst (AreIds values) (sym e) (All-drop (λ id. id < length values) n ids are)

-- the newest ids gave way to one
pub held_replaced : (old new : List Value) (ids ids' : List ℕ) (n id : ℕ) (v : Value) (make : List Value → Value) → IsGrown old new → AreIds old ids → StandsFor new id v →
    ids' ≡ take (length ids - n) ids ++ id ∷ [] → v ≡ make (values_at old (drop (length ids - n) ids)) → values_at new ids' ≡ replace_newest n make (values_at old ids)
held_replaced old new ids ids' n id v make g are s e m =
    let long : length (values_at old ids) ≡ length ids = length-map ids (value_at old) in
    values_at-push old new (take (length ids - n) ids) ids' id v s g (are_ids-take old ids (length ids - n) are) e
    ∙ (λ i. sym (take-map (value_at old) (length ids - n) ids) i ++ (m ∙ ap make (sym (drop-map (value_at old) (length ids - n) ids))) i ∷ [])
    ∙ (λ i. take (sym long i - n) (values_at old ids) ++ make (drop (sym long i - n) (values_at old ids)) ∷ [])

pub ids_replaced : (old new : List Value) (ids ids' : List ℕ) (n id : ℕ) (v : Value) → IsGrown old new → AreIds old ids → StandsFor new id v →
    ids' ≡ take (length ids - n) ids ++ id ∷ [] → AreIds new ids'
ids_replaced old new ids ids' n id v g are s e =
    are_ids-push new (take (length ids - n) ids) ids' id v s (are_ids-grown old new (take (length ids - n) ids) g (are_ids-take old ids (length ids - n) are)) e

-- the ids that are shown
values_at-shown : (values : List Value) (shown : List Bool) (ids : List ℕ) → values_at values (items_where_true shown ids) ≡ items_where_true shown (values_at values ids)
values_at-shown values [] ids = refl
values_at-shown values (b ∷ shown) [] = refl
values_at-shown values (true ∷ shown) (id ∷ ids) = ap (λ vs. value_at values id ∷ vs) (values_at-shown values shown ids)
values_at-shown values (false ∷ shown) (id ∷ ids) = values_at-shown values shown ids

pub shown_values : (values : List Value) (shown : List Bool) (ids held seen : List ℕ) (n : ℕ) → seen ≡ items_where_true shown held → held ≡ drop n ids →
    values_at values seen ≡ items_where_true shown (values_at values (drop n ids))
shown_values values shown ids held seen n e f = ap (values_at values) e ∙ values_at-shown values shown held ∙ ap (λ xs. items_where_true shown (values_at values xs)) f

picked_ids : (values : List Value) (shown : List Bool) (ids : List ℕ) → AreIds values ids → AreIds values (items_where_true shown ids)
picked_ids values shown ids are k d b =
    let at = (get_or_picked shown ids k d b).1 in
    omega (arith, are at.0 d at.1, at.2)

pub shown_ids : (values : List Value) (shown : List Bool) (ids held seen : List ℕ) (n : ℕ) → AreIds values ids → seen ≡ items_where_true shown held → held ≡ drop n ids → AreIds values seen
shown_ids values shown ids held seen n are e f = subst (AreIds values) (sym e) (picked_ids values shown held (are_ids-drop values ids held n are f))

pub held_long : (old : List Value) (ids : List ℕ) (values : List Value) (n : ℕ) → values_at old ids ≡ values → n ≤ length values → n ≤ length ids
held_long old ids values n e b = omega (arith, b, ap length e, length-map ids (value_at old))

pub stands_as : (values : List Value) (id : ℕ) (v w : Value) → StandsFor values id v → v ≡ w → StandsFor values id w
stands_as values id v w s e = record { inside = s.inside; is = s.is ∙ e }

-- the parts of a node's list
pub node_parts : (p0 p1 p2 : List Value) (ids1 ids2 ids3 children : List ℕ) (name : List ℕ) (rule : ℕ) → IsGrown p0 p1 → IsGrown p1 p2 → AreIds p0 children →
    values_at p1 ids1 ≡ Text name ∷ [] → values_at p2 ids2 ≡ values_at p1 ids1 ++ Number rule ∷ [] → ids3 ≡ ids2 ++ children →
    values_at p2 ids3 ≡ Text name ∷ Number rule ∷ values_at p0 children
node_parts p0 p1 p2 ids1 ids2 ids3 children name rule g h are e f k =
    ap (values_at p2) k ∙ map-append (value_at p2) ids2 children
    ∙ (λ i. (f ∙ ap (λ vs. vs ++ Number rule ∷ []) e) i ++ values_at-grown p0 p2 children (grown_through p0 p1 p2 g h) are i)
