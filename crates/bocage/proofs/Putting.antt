-- One alternative more.
use Rattle.std.proofs.Common.{◌≡◌, ℕ, ◌<◌, ◌≤◌, ◌++◌, inl, inr, Contains, List, [], ◌∷◌, Option, Some, None, length, refl, sym, ◌∙◌, ap, subst, arith}
use Rattle.std.specs.List.Sorted.{IsStrictlySortedBy}
use Rattle.std.proofs.lemmas.Option.{slice_get_within}
use Rattle.finite_sets.proofs.Lists.{Contains-none}
use Rattle.grammar_model.specs.Trees.{Tree, Children}
use Rattle.grammar_model.specs.Derives.{Edges}
use Rattle.recognizer_model.specs.declared.Item.{Item}
use Rattle.recognizer_model.specs.declared.NodeKey.{NodeKey}
use Rattle.recognizer_model.specs.Flat.{FlatGrammar, IsRule, lhs_of, rhs_of}
use Rattle.recognizer_model.specs.FlatDerives.{Derives, Spans, Nothing, More}
use Rattle.recognizer_model.specs.Chosen.{allowed_by}
use Rattle.recognizer_model.specs.Nodes.{Before, Last}
use Rattle.recognizer_model.specs.Contexts.{IsFound}
use Rattle.earley_sets.specs.Recognizer.{set_at, edges_of, top_of}
use Rattle.earley_sets.proofs.Membership.{Contains-first, Contains-cons_cases}
use Rattle.forest_model.specs.Forest.{IsPredecessor, IsCause, IsAlternative}
use Rattle.bocage.specs.declared.rows.AlternativeRow.{AlternativeRow}
use Rattle.bocage.specs.declared.rows.CauseRow.{CauseRow}
use Rattle.bocage.specs.declared.walk.Known.{Known}
use Rattle.bocage.specs.declared.walk.Found.{Found}
use Rattle.bocage.specs.Rows.{cause_of, alternative_of, IsCauseWithin}
use Rattle.bocage.specs.Walk.{seen_by, GrowsBy, IsUsedIn, IsNew, AreNoted, node_of_item, node_after, IsPredecessorFound, Lists, IsNext, Knows}
use Rattle.bocage.proofs.Growing.{node_seen}
use Rattle.bocage.proofs.Splits.{waits_in, used_met, read_of}

pub spans_nothing : {g : FlatGrammar} {E : Edges} {r d p q : ℕ} {cs : Children} → Spans g E r d p q cs → d ≡ 0 → q ≡ p
spans_nothing Nothing e = refl
spans_nothing (More s part t) e = absurd (omega arith)

module _ (k : Known) (knows : Knows k) (predecessor : Item) (symbol m : ℕ) (le : m ≤ k.end) (there : Contains (set_at k.recce.now m) predecessor) (next : IsNext k predecessor symbol) where
  -- the predecessor
  pub found_predecessor : IsFound k.recce.now.flat (edges_of k.recce.now) (top_of k.recce.now) m predecessor
  found_predecessor = let e = knows.end in (waits_in k.recce.now knows.is m predecessor symbol (omega arith) next.part).0 there

  prefix_is : (keys : List NodeKey) (o : Option ℕ) → IsPredecessorFound keys predecessor m o → IsPredecessor (seen_by k keys) predecessor.rule predecessor.dot predecessor.origin m o
  prefix_is keys None h = (h, spans_nothing found_predecessor.spans h)
  prefix_is keys (Some n) (lt, h) = (lt, node_seen k.written.now k.ranking k.recce.now keys n (node_of_item predecessor m) h)

  module _ (tree : Tree) (derives : Derives k.recce.now.flat (edges_of k.recce.now) symbol m k.end tree) where
    pub predecessor_used : 0 < predecessor.dot → IsUsedIn k.written.now k.ranking k.recce.now (node_of_item predecessor m)
    predecessor_used lt =
        let met = ((used_met k.written.now k.ranking k.recce.now (read_of k knows) (node_after predecessor k.end)).0 next.used).1 in
        (used_met k.written.now k.ranking k.recce.now (read_of k knows) (node_of_item predecessor m)).1 (lt, Before met found_predecessor.spans next.part derives)

    pub prefix_new : 0 < predecessor.dot → IsNew k (node_of_item predecessor m)
    prefix_new lt = record { used = predecessor_used lt; before = le; least = λ e. next.least; waits = λ below. slice_get_within (rhs_of k.recce.now.flat predecessor.rule) predecessor.dot symbol next.part }

    pub whole_used : (rule : ℕ) (cs : Children) → IsRule k.recce.now.flat rule → symbol ≡ lhs_of k.recce.now.flat rule → m < k.end → Spans k.recce.now.flat (edges_of k.recce.now) rule (length (rhs_of k.recce.now.flat rule)) m k.end cs →
        allowed_by k.written.now k.ranking k.recce.now.flat (edges_of k.recce.now) rule m k.end →
        IsUsedIn k.written.now k.ranking k.recce.now (record { rule = rule; dot = length (rhs_of k.recce.now.flat rule); origin = m; end = k.end })
    whole_used rule cs is same lt s best =
        let met = ((used_met k.written.now k.ranking k.recce.now (read_of k knows) (node_after predecessor k.end)).0 next.used).1 in
        let some = knows.is.flat.some rule is in
        (used_met k.written.now k.ranking k.recce.now (read_of k knows) (record { rule = rule; dot = length (rhs_of k.recce.now.flat rule); origin = m; end = k.end })).1
        (some, Last met found_predecessor.spans (next.part ∙ ap Some same) is lt s best)

    -- the alternative goes last
    pub put_one : (D : ℕ → Type 0) (old new : Found) (o : Option ℕ) (cause : CauseRow) (more : List ℕ) → D m → ((n : ℕ) → D n → n ≡ m) →
        new.alternatives.items ≡ old.alternatives.items ++ record { start = m; predecessor = o; cause = cause } ∷ [] → new.wholes.items ≡ old.wholes.items ++ more → GrowsBy (IsNew k) old.keys.keys new.keys.keys →
        IsPredecessorFound new.keys.keys predecessor m o → IsCause (seen_by k new.keys.keys) symbol m k.end (cause_of new.wholes.items cause) → IsCauseWithin new.wholes.items cause → AreNoted k new → Lists k predecessor symbol D old new
    unfolding IsStrictlySortedBy
    put_one D old new o cause more d one is wholes keys found is_last within noted = record {
      rows = record { start = m; predecessor = o; cause = cause } ∷ [];
      is = is;
      listed = record {
        exact = λ n. (
          λ h. elim (Contains-cons_cases m [] n h) [ inl e ↦ (subst D e d, subst (λ z. Contains (set_at k.recce.now z) predecessor) e there) | inr t ↦ absurd (Contains-none n t) ],
          λ (a, b). subst (λ z. Contains (m ∷ []) z) (sym (one n a)) (Contains-first m []),
        );
        sorted = (tt, tt);
        each = λ a h. elim (Contains-cons_cases (record { start = m; predecessor = o; cause = cause }) [] a h) [
          | inl e ↦ subst (λ (z : AlternativeRow). IsAlternative (seen_by k new.keys.keys) predecessor.rule predecessor.dot predecessor.origin symbol k.end (alternative_of new.wholes.items z) × IsCauseWithin new.wholes.items z.cause) e
              (record { predecessor = prefix_is new.keys.keys o found; cause = is_last }, within)
          | inr t ↦ absurd (Contains-none a t)
        ];
      };
      keys = keys;
      more = more;
      wholes = wholes;
      noted = noted;
    }
