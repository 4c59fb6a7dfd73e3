-- The laws at small grammars.
use Rattle.std.proofs.Common.{arith, ◌≡◌, ◌≢◌, inl, inr, ℕ, zero, suc, ◌<◌, ◌==◌, List, [], ◌∷◌, length, map, slice_index, refl, ap, subst, lit<, eqb-true}
use Rattle.std.proofs.lemmas.Bool.{and_parts}
use Rattle.grammar_model.specs.declared.Edge.{Edge}
use Rattle.grammar_model.specs.Grammar.{slot_of, lhs_of, rule_at, IsTerminal, child_slot}
use Rattle.grammar_model.specs.Analysis.{IsAccessible, IsProductive, LeadsTo}
use Rattle.grammar_model.specs.Cycles.{IsCycle}
use Rattle.grammar_model.specs.Checked.{Refusal, Refuses}
use Rattle.grammar_model.specs.Derives.{Held}
use Rattle.recognizer_model.specs.Flat.{FlatGrammar}
use Rattle.recognizer_model.specs.FlatForm.{IsRuleOf, named}
use Rattle.recognizer_model.specs.Counts.{IsCountOf}
use Rattle.flat_model.specs.Flattened.{IsFlattened, HasTooMany}
use Rattle.flat_model.specs.Flatten.{flat_of}
use Rattle.flat_model.specs.Lists.{lists, flat_lists}
use Rattle.flat_rules.proofs.ListsChecked.{lists_have_flat_grammar, checked}
use Rattle.grammar_laws.specs.Laws.{GoForward, Told}
use Rattle.grammar_laws.specs.Applied.{sums, loops, is_at, tokens, LawsApply}
use Rattle.grammar_laws.proofs.Checks.{checks_decide}
use Rattle.grammar_laws.proofs.Flattening.{flattening_decides}
use Rattle.grammar_laws.proofs.ItemSets.{item_sets_exist}
use Rattle.grammar_laws.proofs.Acceptance.{acceptable_are_decided}
use Rattle.grammar_laws.proofs.Spans.{trees_are_decided, told_trees_are_decided}

-- ---- S ::= S | a

fits : IsAccessible loops (slot_of 0) × IsProductive loops (slot_of 0)
fits = ((0, (0, (0, lit< tt, refl), refl)), (1, inr (1, lit< tt, (refl, omega arith), inr a_part)))
  where
    a_terminal : (i : ℕ) → i < 2 → lhs_of (rule_at loops i) ≢ 1
    a_terminal zero lt e = omega arith
    a_terminal (suc zero) lt e = omega arith
    a_terminal (suc (suc i)) lt e = omega arith

    a_part : (k : ℕ) → k < 1 → IsTerminal loops (child_slot (rule_at loops 1) k).symbol
    a_part zero lt = a_terminal
    a_part (suc k) lt = absurd (omega arith)

over_itself : LeadsTo loops (slot_of 0) (slot_of 0)
over_itself = (0, lit< tt, (refl, omega arith), (0, lit< tt, refl, (λ j jl ne. absurd (omega arith))))

loop : IsCycle loops (slot_of 0 ∷ slot_of 0 ∷ [])
loop = record { long = omega arith; walk = (fits.0, fits.1, over_itself, fits); closed = refl }

refused : (r : Refusal) × Refuses loops r
refused = elim (checks_decide loops) [ inl checked ↦ absurd (checked.acyclic (slot_of 0 ∷ slot_of 0 ∷ [], loop)) | inr r ↦ r ]

-- ---- lists

counted : IsCountOf (IsRuleOf lists) 14
counted = (map (named flat_lists) flat_lists.rules, lists_have_flat_grammar.made.rules, refl)

flattened : (f : FlatGrammar) × IsFlattened lists f
flattened = elim (flattening_decides lists checked) [ inl f ↦ f | inr many ↦ absurd (too_many many) ]
  where
    too_many : HasTooMany lists → ⊥
    too_many m =
        let lt = m.many lists_have_flat_grammar.decided in
        let few : length (flat_of lists lists_have_flat_grammar.decided).rules ≡ 14 = ap (λ (f : FlatGrammar). length f.rules) lists_have_flat_grammar.listed in
        omega (arith, lt, few)

pub forward : GoForward (Held tokens)
forward s p q (zero, lt, e) = subst (λ (t : Edge). t.from < t.to) e (lit< tt)
forward s p q (suc zero, lt, e) = subst (λ (t : Edge). t.from < t.to) e (lit< tt)
forward s p q (suc (suc zero), lt, e) = subst (λ (t : Edge). t.from < t.to) e (lit< tt)
forward s p q (suc (suc (suc k)), lt, e) = absurd (omega arith)

-- ---- sums

told_forward : (input : List ℕ) → GoForward (Told (is_at input))
told_forward input s p q t = let next = eqb-true q (suc p) (and_parts (q == suc p) (slice_index input p == s) t).0 in omega (arith, next)

pub laws_apply : LawsApply
laws_apply = record {
  loops_refused = refused;
  lists_pass = checked;
  lists_counted = counted;
  lists_flattened = flattened;
  lists_placed = item_sets_exist flat_lists tokens 13 3 forward;
  lists_acceptable = acceptable_are_decided lists tokens 0 4 3 checked forward;
  lists_spanned = trees_are_decided lists tokens (slot_of 0) 0 3 forward;
  sums_spanned = told_trees_are_decided sums (is_at (2 ∷ 1 ∷ 2 ∷ 1 ∷ 2 ∷ [])) (slot_of 0) 0 5 (told_forward (2 ∷ 1 ∷ 2 ∷ 1 ∷ 2 ∷ []));
}
