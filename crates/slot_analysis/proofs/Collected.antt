-- All clauses of a grammar, and what their least set tells.
use Rattle.std.proofs.Common.{arith, ◌≡◌, ◌↔◌, inl, inr, ℕ, zero, suc, ◌+◌, ◌<◌, Bool, true, false, List, [], ◌∷◌, ◌++◌, length, map, All, Contains, slice_index, slice_index_or, refl, sym, ◌∙◌, ap, subst, true≢false}
use Rattle.std.proofs.lemmas.List.{get_or-map, length-map}
use Rattle.std.proofs.lemmas.List.Elements.{Contains-get_or}
use Rattle.std.specs.Bool.{IsTrue}
use Rattle.grammar_model.specs.Grammar.{Grammar, Slot, no_rule, rule_at, lhs_of, level_of, child_slot, IsTerminal}
use Rattle.grammar_model.specs.Checked.{IsLeft}
use Rattle.grammar_core.specs.Written.{IsWritten}
use Rattle.horn_clauses.specs.Least.{Clause, clause_at, AreBelow, IsLeastSet}
use Rattle.slot_analysis.specs.Slots.{number, end_of, IsNumbering, body_count, rule_clause, chain_clause, HasLevels, HasTerminals}
use Rattle.slot_analysis.specs.Clauses.{IsFact, HasClauses, IsOfRule, Can, IsAnalysis}
use Rattle.grammar_core.proofs.Known.{lhs_known}
use Rattle.slot_analysis.proofs.Known.{head_numbered, child_numbered, body_small}
use Rattle.slot_analysis.proofs.Rounds.{CanIn, from_nullable, to_nullable, from_productive, to_productive, sound, complete, bases_rise, part_is, body_length}

module _ (seps : Bool) (g : Grammar) (bases : List ℕ) where
  in_rules : (c : Clause) → Contains (map (rule_clause seps bases) g.rules) c → IsOfRule seps g bases c
  in_rules c (i, lt, e) =
      let il : i < length g.rules = omega (arith, lt, length-map g.rules (rule_clause seps bases)) in
      (i, il, sym e ∙ get_or-map (rule_clause seps bases) g.rules i no_rule c il)

  rule_in : (i : ℕ) → i < length g.rules → Contains (map (rule_clause seps bases) g.rules) (rule_clause seps bases (rule_at g i))
  rule_in i lt = (i, omega (arith, lt, length-map g.rules (rule_clause seps bases)), get_or-map (rule_clause seps bases) g.rules i no_rule (rule_clause seps bases (rule_at g i)) lt)

pub without_terminals : (seps : Bool) (g : Grammar) (bases : List ℕ) (none first cs : List Clause) → seps ≡ true → none ≡ [] → first ≡ none ++ map (rule_clause seps bases) g.rules → HasLevels bases (length g.names) first cs → HasClauses seps g bases cs
without_terminals seps g bases none first cs flag empty e levels =
    let is : first ≡ map (rule_clause seps bases) g.rules = e ∙ ap (λ l. l ++ map (rule_clause seps bases) g.rules) empty in
    record {
      real = λ c h. elim (levels.only c h) [
        | inl o ↦ inl (in_rules seps g bases c (subst (λ l. Contains l c) is o))
        | inr l ↦ inr (inl l)
      ];
      rules = λ i lt. levels.keeps (rule_clause seps bases (rule_at g i)) (subst (λ l. Contains l (rule_clause seps bases (rule_at g i))) (sym is) (rule_in seps g bases i lt));
      levels = levels.has;
      terminals = λ s x a b c fact. absurd (subst (λ b. IsFact b g s) flag fact);
    }

pub with_terminals : (seps : Bool) (g : Grammar) (bases : List ℕ) (none first mid cs : List Clause) (lefts : List Bool) → seps ≡ false → ((s : ℕ) → IsTrue (slice_index_or lefts s false) ↔ IsLeft g s) →
    none ≡ [] → first ≡ none ++ map (rule_clause seps bases) g.rules → HasLevels bases (length g.names) first mid → HasTerminals bases lefts (length g.names) mid cs → HasClauses seps g bases cs
with_terminals seps g bases none first mid cs lefts flag left empty e levels terminals =
    let is : first ≡ map (rule_clause seps bases) g.rules = e ∙ ap (λ l. l ++ map (rule_clause seps bases) g.rules) empty in
    record {
      real = λ c h. elim (terminals.only c h) [
        | inl m ↦ elim (levels.only c m) [
          | inl o ↦ inl (in_rules seps g bases c (subst (λ l. Contains l c) is o))
          | inr l ↦ inr (inl l)
        ]
        | inr (s, x, a, b, d, f, e') ↦ inr (inr (s, x, a, b, d, subst (λ b. IsFact b g s) (sym flag) (λ i lt same. true≢false (sym ((left s).1 (i, lt, same)) ∙ f)), e'))
      ];
      rules = λ i lt. terminals.keeps (rule_clause seps bases (rule_at g i)) (levels.keeps (rule_clause seps bases (rule_at g i)) (subst (λ l. Contains l (rule_clause seps bases (rule_at g i))) (sym is) (rule_in seps g bases i lt)));
      levels = λ s x a b c. terminals.keeps (chain_clause x) (levels.has s x a b c);
      terminals = λ s x a b c fact. terminals.has s x a b c (by s (slice_index_or lefts s false) refl (subst (λ b. IsFact b g s) flag fact));
    }
  where
    by : (s : ℕ) (b : Bool) → slice_index_or lefts s false ≡ b → IsTerminal g s → slice_index_or lefts s false ≡ false
    by s true e t = let (i, lt, same) = (left s).0 e in absurd (t i lt same)
    by s false e t = e

module _ (seps : Bool) (g : Grammar) (bases : List ℕ) (cs : List Clause) (w : IsWritten g) (n : IsNumbering g bases) (has : HasClauses seps g bases cs) where
  below_end : (s x : ℕ) → s < length g.names → x < end_of bases s → x < slice_index bases (length g.names)
  below_end s x known lt = let h = bases_rise g bases s (length g.names) n known (omega arith) in omega (arith, h, lt)

  pub below : AreBelow (slice_index bases (length g.names)) cs
  below j jl = elim (has.real (clause_at cs j) (Contains-get_or cs j (record { head = 0; body = [] }) jl)) [
    | inl (i, il, is) ↦ subst (λ c. (c.head < slice_index bases (length g.names)) × All (λ x. x < slice_index bases (length g.names)) c.body) (sym is) (
      (below_end (lhs_of (rule_at g i)) (slice_index bases (lhs_of (rule_at g i)) + level_of (rule_at g i)) (lhs_known g i w il) (head_numbered g bases i w n il)),
      (λ k d lt.
          let kl : k < body_count seps (rule_at g i) = subst (λ m. k < m) (body_length seps bases (rule_at g i)) lt in
          let num = child_numbered g bases i k w n il (body_small seps (rule_at g i) k kl) in
          subst (λ x. x < slice_index bases (length g.names)) (sym (part_is seps bases (rule_at g i) k d kl)) (below_end (child_slot (rule_at g i) k).symbol (number bases (child_slot (rule_at g i) k)) num.0 num.1)),
    )
    | inr (inl (s, x, known, from, to, is)) ↦ subst (λ c. (c.head < slice_index bases (length g.names)) × All (λ x. x < slice_index bases (length g.names)) c.body) (sym is)
        (below_end s x known (omega (arith, to)), one (suc x) (below_end s (suc x) known to))
    | inr (inr (s, x, known, from, to, fact, is)) ↦ subst (λ c. (c.head < slice_index bases (length g.names)) × All (λ x. x < slice_index bases (length g.names)) c.body) (sym is)
        (below_end s x known to, (λ k d lt. absurd (omega (arith, lt))))
  ]
    where
      one : (x : ℕ) → x < slice_index bases (length g.names) → All (λ x. x < slice_index bases (length g.names)) (x ∷ [])
      one x h zero d lt = h
      one x h (suc k) d lt = absurd (omega (arith, lt))

  pub analysed : (keys : List ℕ) → IsLeastSet cs keys → IsAnalysis seps g bases keys
  analysed keys least = record {
    exact = λ slot numbered. (
      λ h.
          let (r, d) = least.derived (number bases slot) h in
          to seps r slot (sound seps g bases cs w n has r (number bases slot) slot.symbol slot.level numbered refl d),
      λ h. let (r, can) = from seps slot h in complete seps g bases cs w n has keys least.closed r slot.symbol slot.level numbered can,
    );
  }
    where
      to : (seps : Bool) (r : ℕ) (slot : Slot) → CanIn seps r g slot → Can seps g slot
      to true r slot h = (r, to_nullable r g slot h)
      to false r slot h = (r, to_productive r g slot h)

      from : (seps : Bool) (slot : Slot) → Can seps g slot → (r : ℕ) × CanIn seps r g slot
      from true slot (r, h) = (r, from_nullable r g slot h)
      from false slot (r, h) = (r, from_productive r g slot h)
