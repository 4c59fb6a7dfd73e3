-- Before the dot of an item that begins in its own set stand nullable symbols alone.
use Rattle.std.proofs.Common.{◌≡◌, inl, inr, ℕ, ◌<◌, List, [], length, Some, Contains, sym, ◌∙◌, ap, subst, arith}
use Rattle.std.proofs.lemmas.Bool.{cases_lt}
use Rattle.std.proofs.lemmas.List.{get_or_past}
use Rattle.std.proofs.lemmas.Option.{same_Some}
use Rattle.finite_sets.proofs.Lists.{Contains-none}
use Rattle.grammar_model.specs.declared.Edge.{Edge as HeldEdge}
use Rattle.grammar_model.specs.Trees.{Tree, Children}
use Rattle.grammar_model.specs.Derives.{Edges, Held}
use Rattle.recognizer_model.specs.declared.Item.{Item}
use Rattle.recognizer_model.specs.Flat.{FlatGrammar, part_of, IsNullable}
use Rattle.recognizer_model.specs.FlatForm.{FlatEdges}
use Rattle.recognizer_model.specs.FlatDerives.{Derives, Token, Null, Rule, Spans, Nothing, More}
use Rattle.recognizer_model.specs.Contexts.{IsTop}
use Rattle.recognizer_model.specs.Leo.{GoesForward}
use Rattle.recognizer_model.proofs.Acceptable.{symbol_forward, parts_forward}
use Rattle.recognizer_model.proofs.Earley.{found}
use Rattle.recognizer_model.proofs.Leo.{reduced_inside}
use Rattle.leo_items.specs.ByRows.{AreNulled}
use Rattle.earley_sets.specs.Scanning.{GoForward, AreReduced}
use Rattle.earley_sets.proofs.ByRows.{goes_forward}

module _ (g : FlatGrammar) (E : Edges) (forward : GoesForward E) where
  null_there : {x p q : ℕ} {t : Tree} → Derives g E x p q t → p ≡ q → IsNullable g x
  null_there (Token {x = x} {p = p} {q = q} s) e = absurd (let l = forward x p q s in omega (arith, l, e))
  null_there (Null n) e = n
  null_there (Rule rule l lt s) e = absurd (omega (arith, lt, e))

  -- what spans nothing has nullable symbols alone
  spans_nothing : {r d p q : ℕ} {cs : Children} → Spans g E r d p q cs → p ≡ q → (k x : ℕ) → k < d → part_of g r k ≡ Some x → IsNullable g x
  spans_nothing Nothing e k x lt at = absurd (omega (arith, lt))
  spans_nothing (More {r = r} {d = d} {p = p} {m = m} {q = q} {x = y} s part t) e k x lt at =
      let a = parts_forward g E forward s in
      let b = symbol_forward g E forward t in
      elim (cases_lt k d) [
        | inl before ↦ spans_nothing s (omega (arith, a, b, e)) k x before at
        | inr le ↦
            let here : k ≡ d = omega (arith, le, lt) in
            subst (IsNullable g) (sym (same_Some _ _ (sym at ∙ (ap (part_of g r) here ∙ part)))) (null_there t (omega (arith, a, b, e)))
      ]

module _ (g : FlatGrammar) (edges : List HeldEdge) (top : ℕ) (is_top : IsTop g top) (forward : GoForward edges) (rows : List (List Item)) (earleme : ℕ) (are : AreReduced g edges top rows earleme) where
  pub nulled_rows : earleme ≡ length rows → AreNulled g rows
  nulled_rows all i item there here d x lt at = elim (cases_lt i earleme) [
    | inl inside ↦
        let goes = goes_forward g edges top is_top forward in
        let f = found g (FlatEdges g (Held edges)) top is_top (reduced_inside g (FlatEdges g (Held edges)) top is_top goes ((are i inside item).0 there)) in
        spans_nothing g (FlatEdges g (Held edges)) goes f.spans here d x lt at
    | inr le ↦ absurd (Contains-none item (subst (λ l. Contains l item) (get_or_past rows i [] (omega (arith, le, all))) there))
  ]
