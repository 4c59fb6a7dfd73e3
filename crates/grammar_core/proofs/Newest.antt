-- The last places of edges, where one more is pushed.
use Rattle.std.proofs.Common.{◌≡◌, ◌≢◌, ℕ, ◌+◌, ◌<◌, ◌≤◌, ◌++◌, ◌↔◌, ◌⊎◌, inl, inr, Bool, true, false, List, [], ◌∷◌, Option, None, Some, Contains, refl, sym, ap, ◌∙◌, subst, arith}
use Rattle.std.specs.Prelude.{nat_eq, nat_lt, if◌then◌else◌, IsTrue}
use Rattle.std.proofs.lemmas.Bool.{cases_eq, eqb-true, eq-eqb, ltb-true, ltb-false, true≢false}
use Rattle.std.proofs.lemmas.List.Elements.{Contains-append_left, Contains-push, Contains-push_cases}
use Rattle.grammar_model.specs.declared.Edge.{Edge as HeldEdge}
use Rattle.grammar_model.specs.declared.limits.TheConstants.{LAST_PLACE, LONGEST_EDGE}
use Rattle.grammar_core.specs.declared.edges.Edge.{Edge}
use Rattle.grammar_core.specs.Edges.{all_placed, ArePlaced, AreLongOf, AreLatest, GoFrom}
use Rattle.grammar_core.proofs.Placed.{placed_more, are_more_as, long_more, long_same}

abbrev pub edge_from : (symbol at length : ℕ) → HeldEdge
edge_from symbol at length = record { symbol = symbol; from = at; to = at + length }

pub none_latest : (edges : List HeldEdge) (latest : ℕ → ℕ → Option ℕ) → edges ≡ [] → ((s m : ℕ) → latest s m ≡ None) → AreLatest edges latest
none_latest edges latest none nowhere t n at small from = (
  λ e. absurd (let f = nowhere t n in cc),
  λ h. absurd (let (k, lt, e) = subst (λ l. Contains l (edge_from t at n)) none h in omega arith),
)

-- the same edges and the same places
pub latest_as : (edges held : List HeldEdge) (latest newer : ℕ → ℕ → Option ℕ) → edges ≡ held → ((s m : ℕ) → newer s m ≡ latest s m) → AreLatest edges latest → AreLatest held newer
latest_as edges held latest newer same is are t n at small from =
    let (there, back) = are t n at small (subst (λ l. GoFrom l at) (sym same) from) in (
      λ e. subst (λ l. Contains l (edge_from t at n)) same (there (sym (is t n) ∙ e)),
      λ h. is t n ∙ back (subst (λ l. Contains l (edge_from t at n)) (sym same) h),
    )

module _ (edges : List HeldEdge) (latest : ℕ → ℕ → Option ℕ) (are : AreLatest edges latest) (s at m : ℕ) (last : GoFrom edges at) (small : m < 4294967296) where
  pub latest_more : (newer : ℕ → ℕ → Option ℕ) → newer s m ≡ Some at → ((a b : ℕ) → b < 4294967296 → (a ≢ s) ⊎ (b ≢ m) → newer a b ≡ latest a b) → AreLatest (edges ++ edge_from s at m ∷ []) newer
  latest_more newer here others t n place short from = go (cases_eq t s) (cases_eq n m)
    where
      e : HeldEdge
      e = edge_from s at m

      x : HeldEdge
      x = edge_from t place n

      from_before : GoFrom edges place
      from_before y h = from y (Contains-append_left edges (e ∷ []) y h)

      apart : newer t n ≡ latest t n → (e ≢ x) → (newer t n ≡ Some place) ↔ Contains (edges ++ e ∷ []) x
      apart same differ = (
        λ h. Contains-append_left edges (e ∷ []) x ((are t n place short from_before).0 (sym same ∙ h)),
        λ h. same ∙ elim (Contains-push_cases edges e x h) [
          | inl c ↦ (are t n place short from_before).1 c
          | inr is ↦ absurd (differ is)
        ],
      )

      go : (t ≡ s) ⊎ (t ≢ s) → (n ≡ m) ⊎ (n ≢ m) → (newer t n ≡ Some place) ↔ Contains (edges ++ e ∷ []) x
      go (inr symbols) lengths = apart (others t n short (inl symbols)) (λ is. symbols (sym (ap (λ (z : HeldEdge). z.symbol) is)))
      go (inl symbols) (inr lengths) = apart (others t n short (inr lengths)) (λ is. lengths (longer is))
        where
          longer : e ≡ x → n ≡ m
          longer is =
              let b : at ≡ place = ap (λ (z : HeldEdge). z.from) is in
              let d : at + m ≡ place + n = ap (λ (z : HeldEdge). z.to) is in
              omega arith
      go (inl symbols) (inl lengths) = (there, back)
        where
          same : newer s m ≡ newer t n
          same = ap (λ z. newer z m) (sym symbols) ∙ ap (newer t) (sym lengths)

          there : newer t n ≡ Some place → Contains (edges ++ e ∷ []) x
          there h =
              let is : Some at ≡ Some place = sym here ∙ (same ∙ h) in
              let places : at ≡ place = cc in
              let one : e ≡ x = ap (λ z. edge_from z at m) (sym symbols) ∙ (ap (λ z. edge_from t z m) places ∙ ap (edge_from t place) (sym lengths)) in
              subst (Contains (edges ++ e ∷ [])) one (Contains-push edges e)

          back : Contains (edges ++ e ∷ []) x → newer t n ≡ Some place
          back h =
              let places : at ≡ place = elim (Contains-push_cases edges e x h) [
                | inl c ↦ (let le' = last x c in let le = from e (Contains-push edges e) in omega arith)
                | inr is ↦ ap (λ (z : HeldEdge). z.from) is
              ] in
              sym same ∙ (here ∙ ap Some places)

-- what is told of an edge that begins no earlier than another
module _ (edges held : List HeldEdge) (latest : ℕ → ℕ → Option ℕ) (same : edges ≡ held) (are : AreLatest edges latest) (t n at : ℕ) (small : n < 4294967296) (from : GoFrom held at) where
  told : (latest t n ≡ Some at) ↔ Contains held (edge_from t at n)
  told = subst (λ l. (latest t n ≡ Some at) ↔ Contains l (edge_from t at n)) same (are t n at small (subst (λ l. GoFrom l at) (sym same) from))

  pub told_some : (place : ℕ) → latest t n ≡ Some place → IsTrue (nat_eq place at) ↔ Contains held (edge_from t at n)
  told_some place e = (
    λ b. told.0 (e ∙ ap Some (eqb-true place at b)),
    λ h. (let there : Some place ≡ Some at = sym e ∙ told.1 h in let one : place ≡ at = cc in eq-eqb place at one),
  )

  pub told_none : latest t n ≡ None → IsTrue false ↔ Contains held (edge_from t at n)
  told_none e = (λ b. absurd (true≢false (sym b)), λ h. absurd (let there : None ≡ Some at = sym e ∙ told.1 h in cc))

pub all_kept : (ps qs : List ℕ) (es fs : List Edge) (l m : List HeldEdge) (latest newer : ℕ → ℕ → Option ℕ) → qs ≡ ps → fs ≡ es → m ≡ l → ((s m : ℕ) → newer s m ≡ latest s m) →
    ArePlaced ps es l × AreLatest (all_placed ps es) latest → ArePlaced qs fs m × AreLatest (all_placed qs fs) newer
all_kept ps qs es fs l m latest newer a b c d (p, q) = (
  subst (λ x. ArePlaced x fs m) (sym a) (subst (λ x. ArePlaced ps x m) (sym b) (subst (ArePlaced ps es) (sym c) p)),
  latest_as (all_placed ps es) (all_placed qs fs) latest newer (sym (ap (λ x. all_placed x fs) a ∙ ap (all_placed ps) b)) d q,
)

-- one more
module _ (places : List ℕ) (edges : List Edge) (long held : List HeldEdge) (latest : ℕ → ℕ → Option ℕ) (view : all_placed places edges ≡ held)
    (are : ArePlaced places edges long × AreLatest (all_placed places edges) latest) (t at n : ℕ) (ps : List ℕ) (es : List Edge)
    (more_places : ps ≡ places ++ at ∷ []) (more_edges : es ≡ edges ++ record { symbol = t; length = n } ∷ []) where
  x : HeldEdge
  x = edge_from t at n

  pub view_more : all_placed ps es ≡ held ++ edge_from t at n ∷ []
  view_more =
      ap (λ l. all_placed l es) more_places ∙ (ap (all_placed (places ++ at ∷ [])) more_edges
      ∙ (placed_more places edges at (record { symbol = t; length = n }) are.0.same ∙ ap (λ l. l ++ edge_from t at n ∷ []) view))

  long_of : AreLongOf held long
  long_of = subst (λ h. AreLongOf h long) view are.0.long

  long_grown : AreLongOf (held ++ edge_from t at n ∷ []) (if nat_lt 1 n then long ++ edge_from t at n ∷ [] else long)
  long_grown = go (nat_lt 1 n) refl
    where
      go : (b : Bool) → nat_lt 1 n ≡ b → AreLongOf (held ++ edge_from t at n ∷ []) (if b then long ++ edge_from t at n ∷ [] else long)
      go true e = long_more held long long_of (edge_from t at n) (let lt = ltb-true 1 n e in omega arith)
      go false e = long_same held long long_of (edge_from t at n) (let le = ltb-false 1 n e in omega arith)

  pub one_more : (longer : List HeldEdge) (newer : ℕ → ℕ → Option ℕ) → longer ≡ (if nat_lt 1 n then long ++ edge_from t at n ∷ [] else long) → newer t n ≡ Some at →
      ((a b : ℕ) → b < 4294967296 → (a ≢ t) ⊎ (b ≢ n) → newer a b ≡ latest a b) → GoFrom held at → at ≤ LAST_PLACE → 0 < n → n ≤ LONGEST_EDGE → (Contains held (edge_from t at n) → ⊥) →
      ArePlaced ps es longer × AreLatest (all_placed ps es) newer
  one_more longer newer is here others from low some up new = (
    are_more_as places edges long are.0 at (record { symbol = t; length = n }) longer held ps es view more_places more_edges from low some up new
        (subst (AreLongOf (held ++ edge_from t at n ∷ [])) (sym is) long_grown),
    subst (λ l. AreLatest l newer) (sym view_more)
        (latest_more held latest (subst (λ l. AreLatest l latest) view are.1) t at n from (omega arith) newer here others),
  )
