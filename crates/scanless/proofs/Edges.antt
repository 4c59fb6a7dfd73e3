-- A recognizer that takes the edges of a token goes on expecting what it expected.
use Rattle.std.proofs.Common.{arith, ◌≡◌, ◌≢◌, inl, inr, ℕ, suc, ◌+◌, ◌-◌, ◌<◌, ◌++◌, List, [], ◌∷◌, length, take, get_or, Contains, sym, ◌∙◌, ap, subst}
use Rattle.std.specs.List.{AllPairs}
use Rattle.std.specs.List.Sorted.{IsStrictlySortedBy}
use Rattle.std.specs.Ordering.{nat_cmp}
use Rattle.std.proofs.lemmas.List.{get_or-take, get_or_default, length-take-le, map_more, append_assoc, append-nil, length-append}
use Rattle.std.proofs.lemmas.List.Elements.{Contains-append_left, Contains-append_cases}
use Rattle.std.proofs.lemmas.Map.Keys.{below_from_sorted}
use Rattle.grammar_model.specs.declared.Edge.{Edge}
use Rattle.grammar_model.specs.Derives.{Edges}
use Rattle.grammar_model.specs.Acceptable.{Spells}
use Rattle.recognizer_model.specs.declared.Item.{Item}
use Rattle.recognizer_model.specs.Links.{Link, IsLink}
use Rattle.earley_sets.specs.Recognizer.{Recognizer, IsRecognizer, IsExpected, earleme_of, edges_of, top_of, made, new_edge}
use Rattle.earley_sets.specs.Counted.{CountsFrom}
use Rattle.earley_sets.proofs.Counting.{counts_set, counts_more}
use Rattle.earley_sets.proofs.Membership.{Contains-map_from}
use Rattle.scanless.specs.Taking.{token_edges, Keeps}

spells_more : (E F : Edges) → ((s p q : ℕ) → E s p q → F s p q) → (p q : ℕ) (ss : List ℕ) → Spells E p q ss → Spells F p q ss
spells_more E F more p q [] e = e
spells_more E F more p q (s ∷ ss) (r, edge, rest) = (r, more s p r edge, spells_more E F more r q ss rest)

module _ (old new : Recognizer) (keeps : Keeps old new) where
  pub same_place : earleme_of new ≡ earleme_of old
  same_place = ap (λ (sets : List (List Item)). length sets - 1) keeps.sets

  with_edges : Recognizer
  with_edges = record { flat = old.flat; start = old.start; edges = new.edges; sets = old.sets; noted = old.noted }

  is_new : Path Recognizer with_edges new
  unfolding with_edges
  is_new = λ i. record { flat = (sym keeps.flat) i; start = (sym keeps.start) i; edges = new.edges; sets = (sym keeps.sets) i; noted = (sym keeps.noted) i }

  module _ (more : List Edge) (edges_are : new.edges ≡ old.edges ++ more) where
    more_edges : (x p q : ℕ) → edges_of old x p q → edges_of with_edges x p q
    unfolding with_edges
    more_edges x p q (t, is, held) =
        (t, is, subst (λ es. Contains es (record { symbol = t; from = p; to = q })) (sym edges_are) (Contains-append_left old.edges more (record { symbol = t; from = p; to = q }) held))

    pub expected_more : (t : ℕ) → IsExpected old t → IsExpected new t
    expected_more t (x, is, a) = subst (λ r. IsExpected r t) is_new (unfold with_edges in (
      x,
      is,
      record { before = a.before; after = a.after; tree = a.tree; spelled = spells_more (edges_of old) (edges_of with_edges) more_edges 0 (earleme_of old) a.before a.spelled; derived = a.derived },
    ))

  module _ (symbols : List ℕ) (ascend : IsStrictlySortedBy nat_cmp symbols) (i : ℕ) (s : ℕ) (lt : i < length symbols) (is : s ≡ get_or symbols i s) (edges_are : new.edges ≡ old.edges ++ token_edges (earleme_of old) (take i symbols)) where
    earlier : (x : ℕ) → Contains (take i symbols) x → x < s
    earlier x (k, k_lt, e) =
        let short = length-take-le i symbols (omega (arith, lt)) in
        let k_lt_i : k < i = omega (arith, k_lt, short) in
        let x_is : get_or symbols k x ≡ x = sym (get_or-take i symbols k x k_lt_i) ∙ e in
        let rises = below_from_sorted symbols k i s ascend k_lt_i lt in
        let same = get_or_default symbols k s x (omega (arith, k_lt_i, lt)) in
        omega (arith, rises, x_is, same, is)

    pub fresh : ((e : Edge) → Contains old.edges e → e.from < earleme_of old) → Contains new.edges (new_edge new s 1) → ⊥
    fresh begun c = elim (Contains-append_cases old.edges (token_edges (earleme_of old) (take i symbols)) (new_edge new s 1) (subst (λ es. Contains es (new_edge new s 1)) edges_are c)) [
      | inl o ↦ (let b = begun (new_edge new s 1) o in let p = same_place in omega (arith, b, p))
      | inr t ↦ (
          let (x, m, edge) = Contains-map_from (λ x. record { symbol = x; from = earleme_of old; to = suc (earleme_of old) }) (take i symbols) (new_edge new s 1) t in
          let s_is : s ≡ x = ap (λ (e : Edge). e.symbol) edge in
          let before = earlier x m in
          omega (arith, s_is, before))
    ]

    pub edges_more : (next : Recognizer) → next.edges ≡ new.edges ++ new_edge new s 1 ∷ [] → next.edges ≡ old.edges ++ token_edges (earleme_of old) (take (i + 1) symbols)
    edges_more next e =
        let place = same_place in
        let to : earleme_of new + 1 ≡ suc (earleme_of old) = omega (arith, place) in
        let edge_is : Path Edge (new_edge new s 1) (record { symbol = s; from = earleme_of old; to = suc (earleme_of old) }) = λ j. record { symbol = s; from = place j; to = to j } in
        e ∙ (ap (λ es. es ++ new_edge new s 1 ∷ []) edges_are
        ∙ (ap (λ (x : Edge). (old.edges ++ token_edges (earleme_of old) (take i symbols)) ++ x ∷ []) edge_is
        ∙ (append_assoc old.edges (token_edges (earleme_of old) (take i symbols)) (record { symbol = s; from = earleme_of old; to = suc (earleme_of old) } ∷ [])
        ∙ ap (λ es. old.edges ++ es) (sym (subst (λ z. token_edges (earleme_of old) (take (i + 1) symbols) ≡ token_edges (earleme_of old) (take i symbols) ++ record { symbol = z; from = earleme_of old; to = suc (earleme_of old) } ∷ []) (sym is) (map_more (λ x. record { symbol = x; from = earleme_of old; to = suc (earleme_of old) }) symbols i s lt))))))

pub no_edges : (r : Recognizer) → r.edges ≡ r.edges ++ []
no_edges r = sym (append-nil r.edges)

pub place_more : (old new : List (List Item)) (set : List Item) → 0 < length old → new ≡ old ++ set ∷ [] → length new - 1 ≡ suc (length old - 1)
place_more old new set some e = let l = length-append old (set ∷ []) in let k = ap (λ (s : List (List Item)). length s) e in omega (arith, some, l, k)

pub keeps_through : (a b c : Recognizer) → Keeps a b → Keeps b c → Keeps a c
keeps_through a b c k l = record { flat = l.flat ∙ k.flat; start = l.start ∙ k.start; sets = l.sets ∙ k.sets; noted = l.noted ∙ k.noted }

-- the edges of a token end after the place
behind : (place : ℕ) (symbols : List ℕ) (e : Edge) → Contains (token_edges place symbols) e → place < e.to
behind place symbols e c =
    let (s, there, is) = Contains-map_from (λ s. record { symbol = s; from = place; to = suc place }) symbols e c in
    let to_is : e.to ≡ suc place = ap (λ (d : Edge). d.to) is in
    omega (arith, to_is)

-- the steps of a token are those of its set
module _ (old mid new : Recognizer) (symbols : List ℕ) (is : IsRecognizer mid) (keeps : Keeps old mid) (edges : mid.edges ≡ old.edges ++ token_edges (earleme_of old) symbols)
    (flat : new.flat ≡ mid.flat) (start : new.start ≡ mid.start) (same : new.edges ≡ mid.edges) (set : List Item) (sets : new.sets ≡ mid.sets ++ set ∷ []) where
  pub counts_token : (middle after : ℕ) (tried : List Link) → AllPairs (λ a b. a ≢ b) tried → ((l : Link) → Contains tried l → IsLink mid.flat (edges_of mid) (top_of mid) (length mid.sets) l) →
      after + made mid ≡ middle + length tried + made new → (before : ℕ) → CountsFrom old before middle → CountsFrom new before after
  counts_token middle after tried once are count before counts =
      counts_set mid new flat start same is.some set sets before middle after tried once are count
      (counts_more old mid is keeps.flat keeps.start keeps.sets keeps.noted (token_edges (earleme_of old) symbols) edges (behind (earleme_of old) symbols) before middle counts)
