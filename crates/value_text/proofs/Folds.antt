-- The values of a pool's nodes go from left to right, and stay as they are when nodes, items or bytes are added.
use Rattle.std.proofs.Common.{◌≡◌, ℕ, zero, suc, ◌+◌, ◌-◌, ◌<◌, ◌≤◌, List, [], ◌∷◌, ◌++◌, length, map, take, drop, get_or, refl, sym, ap, ◌∙◌, arith, length-append, length-drop, subst, inl, inr}
use Rattle.std.proofs.Math.Nat.{eq-or-lt_of_le}
use Rattle.std.proofs.Math.ListN.{get_or-append}
use Rattle.std.proofs.Math.Seq.{drop-append_seam, get_or-append_seam}
use Rattle.std.proofs.lemmas.List.{take-append-le, drop-append-le, take_all, get_or-append-add, get_or_default}
use Rattle.std.proofs.lemmas.Str.{IsCharBoundary-at_seam, IsCharBoundary-end}
use Rattle.std.proofs.lemmas.Grind.{common_steps, elements}
use Rattle.std.specs.List.{slice_range}
use Rattle.std.specs.Str.{IsUtf8, IsCharBoundary}
use Rattle.value_text.specs.declared.pool.Node.{Node}
use Rattle.value_text.specs.declared.pool.Node.TheVariants.{Undefined as UndefinedNode, Number as NumberNode, Text as TextNode, List as ListNode}
use Rattle.value_text.specs.Nodes.{value_at, value_of_node, values_from, IsNode, IsPool}
use Rattle.value_text.specs.Pool.{IsPut, AreIds}
use Rattle.grammar_model.specs.Values.{Value, Undefined, Text, list_of}

-- a part of a prefix
pub slice_range-append : {X : Type 0} (xs ys : List X) (from to : ℕ) → from ≤ to → to ≤ length xs → slice_range (xs ++ ys) from to ≡ slice_range xs from to
slice_range-append xs ys from to h l =
    let from_in : from ≤ length xs = omega arith in
    let to_in : to - from ≤ length (drop from xs) = omega (arith, length-drop from xs) in
    ap (take (to - from)) (drop-append-le from xs ys from_in) ∙ take-append-le (to - from) (drop from xs) ys to_in

-- all that was added
pub slice_range-added : {X : Type 0} (xs ys : List X) → slice_range (xs ++ ys) (length xs) (length (xs ++ ys)) ≡ ys
slice_range-added xs ys =
    let e : length (xs ++ ys) - length xs ≡ length ys = omega (arith, length-append xs ys) in
    (λ i. take (e i) (drop-append_seam xs ys i)) ∙ take_all (length ys) ys (omega arith)

pub get_or-slice_range : (xs : List ℕ) (from to i : ℕ) → from ≤ to → to ≤ length xs → i < length (slice_range xs from to) → (from + i < to) × (get_or (slice_range xs from to) i 0 ≡ get_or xs (from + i) 0)
get_or-slice_range xs from to i h l b = grind (arith, common_steps, elements)

pub map-same : (f g : ℕ → Value) (xs : List ℕ) → ((i : ℕ) → i < length xs → f (get_or xs i 0) ≡ g (get_or xs i 0)) → map f xs ≡ map g xs
map-same f g [] h = refl
map-same f g (x ∷ xs) h = (λ i. h 0 (omega arith) i ∷ map-same f g xs (λ j b. h (suc j) (omega arith)) i)

pub values_from-push : (items bytes : List ℕ) (vs : List Value) (ns : List Node) (n : Node) →
    values_from items bytes vs (ns ++ n ∷ []) ≡ values_from items bytes vs ns ++ value_of_node items bytes (values_from items bytes vs ns) n ∷ []
values_from-push items bytes vs [] n = refl
values_from-push items bytes vs (m ∷ ns) n = values_from-push items bytes (vs ++ value_of_node items bytes vs m ∷ []) ns n

pub length-values_from : (items bytes : List ℕ) (vs : List Value) (ns : List Node) → length (values_from items bytes vs ns) ≡ length vs + length ns
length-values_from items bytes vs [] = omega arith
length-values_from items bytes vs (n ∷ ns) =
    let e = length-values_from items bytes (vs ++ value_of_node items bytes vs n ∷ []) ns in
    omega (arith, e, length-append vs (value_of_node items bytes vs n ∷ []))

-- the parts of one list are those of the other
pub record HasParts (xs ys : List ℕ) : Type 0 where
  pub same : (from to : ℕ) → from ≤ to → to ≤ length xs → slice_range ys from to ≡ slice_range xs from to

pub parts_same : (xs : List ℕ) → HasParts xs xs
parts_same xs = record { same = λ from to h l. refl }

pub parts_more : (xs ys : List ℕ) → HasParts xs (xs ++ ys)
parts_more xs ys = record { same = λ from to h l. slice_range-append xs ys from to h l }

node_more : (items items' bytes bytes' : List ℕ) → HasParts items items' → HasParts bytes bytes' → (k : ℕ) (vs : List Value) (n : Node) → IsNode items bytes k n →
    value_of_node items' bytes' vs n ≡ value_of_node items bytes vs n
node_more items items' bytes bytes' hi hb k vs UndefinedNode is = refl
node_more items items' bytes bytes' hi hb k vs (NumberNode n) is = refl
node_more items items' bytes bytes' hi hb k vs (TextNode from to) is = ap Text (hb.same from to is.0 is.2.0)
node_more items items' bytes bytes' hi hb k vs (ListNode from to) is = ap (λ ids. list_of (map (value_at vs) ids)) (hi.same from to is.0 is.1)

-- nodes from place k on
abbrev pub AreNodes : List ℕ → List ℕ → ℕ → List Node → Type 0
AreNodes items bytes k ns = (j : ℕ) → j < length ns → IsNode items bytes (k + j) (get_or ns j UndefinedNode)

later_nodes : (items bytes : List ℕ) (k l : ℕ) (n : Node) (ns : List Node) → l ≡ suc k → AreNodes items bytes k (n ∷ ns) → AreNodes items bytes l ns
later_nodes items bytes k l n ns e are j b =
    let at : IsNode items bytes (k + suc j) (get_or ns j UndefinedNode) = are (suc j) (omega arith) in
    let same : k + suc j ≡ l + j = omega arith in
    subst (λ p. IsNode items bytes p (get_or ns j UndefinedNode)) same at

first_node : (items bytes : List ℕ) (k : ℕ) (n : Node) (ns : List Node) → AreNodes items bytes k (n ∷ ns) → IsNode items bytes k n
first_node items bytes k n ns are =
    let at : IsNode items bytes (k + 0) n = are 0 (omega arith) in
    let same : k + 0 ≡ k = omega arith in
    subst (λ p. IsNode items bytes p n) same at

pub values_from-more : (items items' bytes bytes' : List ℕ) → HasParts items items' → HasParts bytes bytes' → (k : ℕ) (vs : List Value) (ns : List Node) → AreNodes items bytes k ns →
    values_from items' bytes' vs ns ≡ values_from items bytes vs ns
values_from-more items items' bytes bytes' hi hb k vs [] are = refl
values_from-more items items' bytes bytes' hi hb k vs (n ∷ ns) are =
    ap (λ v. values_from items' bytes' (vs ++ v ∷ []) ns) (node_more items items' bytes bytes' hi hb k vs n (first_node items bytes k n ns are))
    ∙ values_from-more items items' bytes bytes' hi hb (suc k) (vs ++ value_of_node items bytes vs n ∷ []) ns (later_nodes items bytes k (suc k) n ns refl are)

pub are_nodes : (items bytes : List ℕ) (ns : List Node) → IsPool ns items bytes → AreNodes items bytes 0 ns
are_nodes items bytes ns is j b =
    let same : j ≡ 0 + j = omega arith in
    subst (λ p. IsNode items bytes p (get_or ns j UndefinedNode)) same (is j b)

-- the values of a pool with more items and more bytes
pub values_stay : (items items' bytes bytes' : List ℕ) → HasParts items items' → HasParts bytes bytes' → (ns : List Node) → IsPool ns items bytes →
    values_from items' bytes' [] ns ≡ values_from items bytes [] ns
values_stay items items' bytes bytes' hi hb ns is = values_from-more items items' bytes bytes' hi hb 0 [] ns (are_nodes items bytes ns is)

-- earlier values stay
value_at-values_from : (items bytes : List ℕ) (vs : List Value) (ns : List Node) (j : ℕ) → j < length vs → value_at (values_from items bytes vs ns) j ≡ value_at vs j
value_at-values_from items bytes vs [] j b = refl
value_at-values_from items bytes vs (n ∷ ns) j b =
    let more : j < length (vs ++ value_of_node items bytes vs n ∷ []) = omega (arith, length-append vs (value_of_node items bytes vs n ∷ [])) in
    value_at-values_from items bytes (vs ++ value_of_node items bytes vs n ∷ []) ns j more
    ∙ get_or-append vs (value_of_node items bytes vs n ∷ []) Undefined j b

-- a node's value rests on the values before it
node_same : (items bytes : List ℕ) (k : ℕ) (vs us : List Value) (n : Node) → IsNode items bytes k n → ((j : ℕ) → j < k → value_at us j ≡ value_at vs j) →
    value_of_node items bytes us n ≡ value_of_node items bytes vs n
node_same items bytes k vs us UndefinedNode is same = refl
node_same items bytes k vs us (NumberNode n) is same = refl
node_same items bytes k vs us (TextNode from to) is same = refl
node_same items bytes k vs us (ListNode from to) is same =
    ap list_of (map-same (value_at us) (value_at vs) (slice_range items from to)
    (λ i b. let at = get_or-slice_range items from to i is.0 is.1 b in
    let below : get_or items (from + i) 0 < k = is.2 (from + i) (omega arith) at.0 in
    same (get_or (slice_range items from to) i 0) (subst (λ x. x < k) (sym at.1) below)))

pub value_at-node : (items bytes : List ℕ) (vs : List Value) (ns : List Node) (j : ℕ) → AreNodes items bytes (length vs) ns → j < length ns →
    value_at (values_from items bytes vs ns) (length vs + j) ≡ value_of_node items bytes (values_from items bytes vs ns) (get_or ns j UndefinedNode)
value_at-node items bytes vs [] j are b = absurd (omega arith)
value_at-node items bytes vs (n ∷ ns) zero are b =
    let w = value_of_node items bytes vs n in
    let long : length (vs ++ w ∷ []) ≡ suc (length vs) = omega (arith, length-append vs (w ∷ [])) in
    let at : length vs + 0 ≡ length vs = omega arith in
    ap (value_at (values_from items bytes (vs ++ w ∷ []) ns)) at
    ∙ value_at-values_from items bytes (vs ++ w ∷ []) ns (length vs) (omega arith)
    ∙ get_or-append_seam vs w [] Undefined
    ∙ sym (node_same items bytes (length vs) vs (values_from items bytes (vs ++ w ∷ []) ns) n (first_node items bytes (length vs) n ns are)
    (λ i h. value_at-values_from items bytes (vs ++ w ∷ []) ns i (omega arith) ∙ get_or-append vs (w ∷ []) Undefined i h))
value_at-node items bytes vs (n ∷ ns) (suc j) are b =
    let w = value_of_node items bytes vs n in
    let long : length (vs ++ w ∷ []) ≡ suc (length vs) = omega (arith, length-append vs (w ∷ [])) in
    let at : length vs + suc j ≡ length (vs ++ w ∷ []) + j = omega arith in
    ap (value_at (values_from items bytes (vs ++ w ∷ []) ns)) at
    ∙ value_at-node items bytes (vs ++ w ∷ []) ns j (later_nodes items bytes (length vs) (length (vs ++ w ∷ [])) n ns long are) (omega arith)

-- the value of an id is that of its node
pub value_at-pool : (items bytes : List ℕ) (ns : List Node) (k : ℕ) → IsPool ns items bytes → k < length ns →
    value_at (values_from items bytes [] ns) k ≡ value_of_node items bytes (values_from items bytes [] ns) (get_or ns k UndefinedNode)
value_at-pool items bytes ns k is b =
    let at : k ≡ 0 + k = omega arith in
    ap (value_at (values_from items bytes [] ns)) at ∙ value_at-node items bytes [] ns k (are_nodes items bytes ns is) b

-- what a new node puts in, where items and bytes may have been added before
pub is_put : (items items' bytes bytes' : List ℕ) → HasParts items items' → HasParts bytes bytes' → (ns ns' : List Node) (n : Node) (value : Value) (id : ℕ) →
    IsPool ns items bytes → id ≡ length ns → value_of_node items' bytes' (values_from items bytes [] ns) n ≡ value → ns' ≡ ns ++ n ∷ [] →
    IsPut (values_from items bytes [] ns) (values_from items' bytes' [] ns') id value
is_put items items' bytes bytes' hi hb ns ns' n value id is e v more =
    let stay = values_stay items items' bytes bytes' hi hb ns is in
    let long = length-values_from items bytes [] ns in
    record {
      place = omega (arith, e, long);
      values =
          ap (values_from items' bytes' []) more ∙ values_from-push items' bytes' [] ns n
          ∙ (λ i. stay i ++ value_of_node items' bytes' (stay i) n ∷ [])
          ∙ ap (λ w. values_from items bytes [] ns ++ w ∷ []) v;
    }

-- a node stays in a pool with more bytes, or with more items
boundary_more : (bytes more : List ℕ) (i : ℕ) → IsUtf8 more → IsCharBoundary bytes i → IsCharBoundary (bytes ++ more) i
boundary_more bytes more i utf8 at =
    elim (eq-or-lt_of_le at.0) [
      | inl e ↦ subst (λ k. IsCharBoundary (bytes ++ more) k) (sym e) (IsCharBoundary-at_seam (bytes ++ more) bytes more refl utf8)
      | inr l ↦ (
        omega (arith, length-append bytes more),
        subst (λ b. i < length (bytes ++ more) → 128 ≤ b → 192 ≤ b) (sym (get_or-append bytes more 0 i l)) (λ h. at.1 l),
      )
    ]

pub node_in_more_bytes : (items bytes more : List ℕ) → IsUtf8 more → (k : ℕ) (n : Node) → IsNode items bytes k n → IsNode items (bytes ++ more) k n
node_in_more_bytes items bytes more utf8 k UndefinedNode is = is
node_in_more_bytes items bytes more utf8 k (NumberNode n) is = is
node_in_more_bytes items bytes more utf8 k (TextNode from to) is = (is.0, boundary_more bytes more from utf8 is.1, boundary_more bytes more to utf8 is.2)
node_in_more_bytes items bytes more utf8 k (ListNode from to) is = is

pub node_in_more_items : (items more bytes : List ℕ) (k : ℕ) (n : Node) → IsNode items bytes k n → IsNode (items ++ more) bytes k n
node_in_more_items items more bytes k UndefinedNode is = is
node_in_more_items items more bytes k (NumberNode n) is = is
node_in_more_items items more bytes k (TextNode from to) is = is
node_in_more_items items more bytes k (ListNode from to) is = (
  is.0,
  omega (arith, is.1, length-append items more),
  λ j low high. let inside : j < length items = omega (arith, is.1) in subst (λ x. x < k) (sym (get_or-append items more 0 j inside)) (is.2 j low high),
)

-- one node more
pub pool_push : (items bytes : List ℕ) (ns ns' : List Node) (n : Node) → IsPool ns items bytes → IsNode items bytes (length ns) n → ns' ≡ ns ++ n ∷ [] → IsPool ns' items bytes
pool_push items bytes ns ns' n is at e = subst (λ ms. IsPool ms items bytes) (sym e)
    (λ k b. let inside : k ≤ length ns = omega (arith, length-append ns (n ∷ [])) in
    elim (eq-or-lt_of_le inside) [
      | inl e ↦ subst (λ j. IsNode items bytes j (get_or (ns ++ n ∷ []) j UndefinedNode)) (sym e)
          (subst (λ m. IsNode items bytes (length ns) m) (sym (get_or-append_seam ns n [] UndefinedNode)) at)
      | inr l ↦ subst (λ m. IsNode items bytes k m) (sym (get_or-append ns (n ∷ []) UndefinedNode k l)) (is k l)
    ])

parts_by : (xs more ys : List ℕ) → ys ≡ xs ++ more → HasParts xs ys
parts_by xs more ys e = subst (λ zs. HasParts xs zs) (sym e) (parts_more xs more)

-- a pool with more bytes
pub more_bytes_pool : (items bytes more bytes' : List ℕ) (ns : List Node) → IsUtf8 more → bytes' ≡ bytes ++ more → IsPool ns items bytes → IsPool ns items bytes'
more_bytes_pool items bytes more bytes' ns utf8 e is k b =
    subst (λ zs. IsNode items zs k (get_or ns k UndefinedNode)) (sym e) (node_in_more_bytes items bytes more utf8 k (get_or ns k UndefinedNode) (is k b))

pub more_bytes_stay : (items bytes more bytes' : List ℕ) (ns ns' : List Node) → bytes' ≡ bytes ++ more → IsPool ns items bytes → ns' ≡ ns →
    values_from items bytes' [] ns' ≡ values_from items bytes [] ns
more_bytes_stay items bytes more bytes' ns ns' e is n =
    ap (values_from items bytes' []) n ∙ values_stay items items bytes bytes' (parts_same items) (parts_by bytes more bytes' e) ns is

-- a pool with one more text
pub text_pool : (items bytes more bytes' : List ℕ) (ns ns' : List Node) (from to : ℕ) → IsUtf8 more → bytes' ≡ bytes ++ more → from ≡ length bytes → to ≡ length bytes' →
    IsPool ns items bytes → ns' ≡ ns ++ TextNode from to ∷ [] → IsPool ns' items bytes'
text_pool items bytes more bytes' ns ns' from to utf8 e f t is n =
    pool_push items bytes' ns ns' (TextNode from to) (more_bytes_pool items bytes more bytes' ns utf8 e is) (
      omega (arith, ap length e, length-append bytes more),
      subst (λ k. IsCharBoundary bytes' k) (sym f) (IsCharBoundary-at_seam bytes' bytes more e utf8),
      subst (λ k. IsCharBoundary bytes' k) (sym t) (IsCharBoundary-end bytes'),
    ) n

pub text_put : (items bytes more bytes' : List ℕ) (ns ns' : List Node) (from to id : ℕ) → bytes' ≡ bytes ++ more → from ≡ length bytes → to ≡ length bytes' →
    IsPool ns items bytes → id ≡ length ns → ns' ≡ ns ++ TextNode from to ∷ [] → IsPut (values_from items bytes [] ns) (values_from items bytes' [] ns') id (Text more)
text_put items bytes more bytes' ns ns' from to id e f t is at n =
    is_put items items bytes bytes' (parts_same items) (parts_by bytes more bytes' e) ns ns' (TextNode from to) (Text more) id is at
    (ap Text ((λ i. slice_range (e i) (f i) ((t ∙ ap length e) i)) ∙ slice_range-added bytes more)) n

-- a pool with more items
pub more_items_stay : (items more items' bytes : List ℕ) (ns ns' : List Node) → items' ≡ items ++ more → IsPool ns items bytes → ns' ≡ ns →
    values_from items' bytes [] ns' ≡ values_from items bytes [] ns
more_items_stay items more items' bytes ns ns' e is n =
    ap (values_from items' bytes []) n ∙ values_stay items items' bytes bytes (parts_by items more items' e) (parts_same bytes) ns is

more_items_pool : (items more items' bytes : List ℕ) (ns : List Node) → items' ≡ items ++ more → IsPool ns items bytes → IsPool ns items' bytes
more_items_pool items more items' bytes ns e is k b =
    subst (λ zs. IsNode zs bytes k (get_or ns k UndefinedNode)) (sym e) (node_in_more_items items more bytes k (get_or ns k UndefinedNode) (is k b))

-- a pool with one more list
pub list_pool : (items more items' bytes : List ℕ) (ns ns' : List Node) (from to : ℕ) → AreIds (values_from items bytes [] ns) more → items' ≡ items ++ more → from ≡ length items → to ≡ length items' →
    IsPool ns items bytes → ns' ≡ ns ++ ListNode from to ∷ [] → IsPool ns' items' bytes
list_pool items more items' bytes ns ns' from to ids e f t is n =
    pool_push items' bytes ns ns' (ListNode from to) (more_items_pool items more items' bytes ns e is) (
      omega (arith, ap length e, length-append items more),
      omega arith,
      λ j low high.
          let past : j ≡ length items + (j - length items) = omega arith in
          let inside : j - length items < length more = omega (arith, ap length e, length-append items more) in
          let id : get_or more (j - length items) 0 < length (values_from items bytes [] ns) = ids (j - length items) 0 inside in
          let at : get_or items' j 0 ≡ get_or more (j - length items) 0 = (λ i. get_or (e i) (past i) 0) ∙ get_or-append-add items more (j - length items) 0 in
          omega (arith, at, id, length-values_from items bytes [] ns),
    ) n

pub list_put : (items more items' bytes : List ℕ) (ns ns' : List Node) (from to id : ℕ) → items' ≡ items ++ more → from ≡ length items → to ≡ length items' →
    IsPool ns items bytes → id ≡ length ns → ns' ≡ ns ++ ListNode from to ∷ [] →
    IsPut (values_from items bytes [] ns) (values_from items' bytes [] ns') id (list_of (map (value_at (values_from items bytes [] ns)) more))
list_put items more items' bytes ns ns' from to id e f t is at n =
    let vs = values_from items bytes [] ns in
    is_put items items' bytes bytes (parts_by items more items' e) (parts_same bytes) ns ns' (ListNode from to) (list_of (map (value_at vs) more)) id is at
    (ap (λ ids. list_of (map (value_at vs) ids)) ((λ i. slice_range (e i) (f i) ((t ∙ ap length e) i)) ∙ slice_range-added items more)) n

-- the node of an id
pub found_node : (items bytes : List ℕ) (ns : List Node) (k : ℕ) (m node : Node) → IsPool ns items bytes → k < length ns → m ≡ get_or ns k m → m ≡ node → IsNode items bytes k node
found_node items bytes ns k m node is b at e =
    subst (λ n. IsNode items bytes k n) (get_or_default ns k UndefinedNode m b ∙ sym at ∙ e) (is k b)

pub found_value : (items bytes : List ℕ) (ns : List Node) (k : ℕ) (m node : Node) → IsPool ns items bytes → k < length ns → m ≡ get_or ns k m → m ≡ node →
    value_of_node items bytes (values_from items bytes [] ns) node ≡ value_at (values_from items bytes [] ns) k
found_value items bytes ns k m node is b at e =
    sym (value_at-pool items bytes ns k is b ∙ ap (value_of_node items bytes (values_from items bytes [] ns)) (get_or_default ns k UndefinedNode m b ∙ sym at ∙ e))

-- a list's ids stand for values
pub found_ids : (items bytes : List ℕ) (ns : List Node) (k from to : ℕ) (ids : List ℕ) → IsNode items bytes k (ListNode from to) → k < length ns → ids ≡ slice_range items from to →
    AreIds (values_from items bytes [] ns) ids
found_ids items bytes ns k from to ids is b e j d inside =
    let within : j < length (slice_range items from to) = omega (arith, inside, ap length e) in
    let at = get_or-slice_range items from to j is.0 is.1 within in
    let low : get_or items (from + j) 0 < k = is.2 (from + j) (omega arith) at.0 in
    let same : get_or ids j d ≡ get_or items (from + j) 0 = get_or_default ids j d 0 inside ∙ (λ i. get_or (e i) j 0) ∙ at.1 in
    omega (arith, same, low, length-values_from items bytes [] ns)

-- an id of the pool is the place of a node
pub id_in : (items bytes : List ℕ) (ns : List Node) (values : List Value) (k id : ℕ) → values_from items bytes [] ns ≡ values → k ≡ id → id < length values → k < length ns
id_in items bytes ns values k id e same b = omega (arith, ap length e, same, b, length-values_from items bytes [] ns)
