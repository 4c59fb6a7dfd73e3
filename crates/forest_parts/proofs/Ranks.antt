-- Ranks of parts: over one span those of a higher rank come first.
use Rattle.std.proofs.Common.{◌≡◌, ℕ, ℤ, ◌≤ℤ◌, ◌<ℤ◌, inl, inr, false, cond, Contains, List, Some, length, slice_get, refl, sym, ◌∙◌, ap, subst, arith}
use Rattle.std.proofs.lemmas.Int.{ints}
use Rattle.std.proofs.lemmas.Cmp.{int_ranked}
use Rattle.std.proofs.lemmas.Map.Keys.{Less-from_sorted}
use Rattle.std.specs.declared.cmp.Ordering.{Ordering}
use Rattle.std.specs.declared.cmp.Ordering.TheVariants.{Less, Equal, Greater}
use Rattle.std.specs.Int.Signed.{≤ℤ_refl}
use Rattle.std.specs.Ordering.{ordering_then, int_cmp}
use Rattle.std.specs.Option.{option_cmp}
use Rattle.std.specs.List.Sorted.{IsStrictlySortedBy}
use Rattle.std.proofs.lemmas.List.Elements.{Contains-get_or}
use Rattle.std.proofs.lemmas.Option.{slice_get-get_or}
use Rattle.grammar_model.specs.declared.Ranking.{Ranking}
use Rattle.grammar_model.specs.declared.Ranking.TheVariants.{None as NoRanks, Rule as RuleRanks, High as HighRanks}
use Rattle.grammar_model.specs.Derives.{Edges}
use Rattle.grammar_model.specs.Grammar.{Grammar, rule_at}
use Rattle.grammar_model.specs.Order.{rank_by}
use Rattle.recognizer_model.specs.declared.flat.FlatSymbol.{FlatSymbol}
use Rattle.recognizer_model.specs.declared.flat.FlatSymbol.TheVariants.{Terminal, Slot, Sequence, Top}
use Rattle.recognizer_model.specs.declared.flat.FlatSource.{FlatSource}
use Rattle.recognizer_model.specs.declared.flat.FlatSource.TheVariants.{Written, Top as OfStart}
use Rattle.recognizer_model.specs.Flat.{FlatGrammar, IsRule, lhs_of, rhs_of, source_of}
use Rattle.recognizer_model.specs.FlatForm.{symbol_at, is_list, list_length, source_number}
use Rattle.recognizer_model.specs.Invariant.{IsFlat, HasSource}
use Rattle.recognizer_model.specs.Chosen.{flat_rank, IsBestRule, allowed_by}
use Rattle.earley_sets.specs.Recognizer.{Recognizer, IsRecognizer}
use Rattle.forest_parts.specs.declared.parts.Part.{Part}
use Rattle.forest_parts.specs.Parts.{part_cmp, key_cmp, part_at, no_part, rule_key_of, IsPart, IsPartAt}
use Rattle.forest_parts.specs.Groups.{rank_in, IsKept, RanksFall}
use Rattle.forest_parts.proofs.InOrder.{then_rest}
use Rattle.forest_parts.proofs.Sets.{in_full}

then_rank : (x y : ℤ) (o : Ordering) → ordering_then (int_cmp x y) o ≡ Less → x ≤ℤ y
then_rank x y o e = go (int_cmp x y) refl
  where
    go : (c : Ordering) → c ≡ int_cmp x y → x ≤ℤ y
    go Less is = let lt : x <ℤ y = int_ranked x y Less is in omega (arith, ints)
    go Equal is = let same : x ≡ y = int_ranked x y Equal is in omega (arith, ints)
    go Greater is = let f : ordering_then Greater o ≡ Less = ap (λ c. ordering_then c o) is ∙ e in absurd (cc)

module _ (w : Grammar) (ranking : Ranking) (g : FlatGrammar) (flat : IsFlat g) where
  -- all rules of a list come from one written rule
  one_source : (i r : ℕ) → IsRule g r → symbol_at g (lhs_of g r) ≡ Sequence i → source_of g r ≡ Written i
  one_source i r is e = go (source_of g r) (flat.sources r (Sequence i) is (slice_get-get_or g.symbols (lhs_of g r) (Top 0) (flat.in_range.left r is) ∙ ap Some e))
    where
      go : (s : FlatSource) → HasSource (Sequence i) s → s ≡ Written i
      go (Written j) same = ap Written same
      go (OfStart k) h = absurd h

  -- of the rules of one left side the first has the highest rank
  rank_falls : (r s : ℕ) → IsRule g r → IsRule g s → lhs_of g r ≡ lhs_of g s → key_cmp (rule_key_of w ranking g r) (rule_key_of w ranking g s) ≡ Less → flat_rank w ranking g s ≤ℤ flat_rank w ranking g r
  rank_falls r s is is' same less = go (symbol_at g (lhs_of g r)) refl
    where
      no_list : (x : FlatSymbol) → symbol_at g (lhs_of g r) ≡ x → is_list x ≡ false → flat_rank w ranking g s ≤ℤ flat_rank w ranking g r
      no_list x e none =
          let a : list_length g r ≡ 0 = ap (λ z. cond (is_list z) (length (rhs_of g r)) 0) e ∙ ap (λ b. cond b (length (rhs_of g r)) 0) none in
          let b : list_length g s ≡ 0 = ap (λ z. cond (is_list z) (length (rhs_of g s)) 0) (ap (symbol_at g) (sym same) ∙ e) ∙ ap (λ b. cond b (length (rhs_of g s)) 0) none in
          then_rank (flat_rank w ranking g s) (flat_rank w ranking g r) _ (then_rest (list_length g s) (list_length g r) _ less (b ∙ sym a))

      go : (x : FlatSymbol) → symbol_at g (lhs_of g r) ≡ x → flat_rank w ranking g s ≤ℤ flat_rank w ranking g r
      go (Terminal t) e = no_list (Terminal t) e refl
      go (Slot t k) e = no_list (Slot t k) e refl
      go (Top k) e = no_list (Top k) e refl
      go (Sequence i) e =
          subst (λ z. flat_rank w ranking g s ≤ℤ z) (ap (λ z. rank_by ranking (rule_at w (source_number w z))) (one_source i s is' (ap (symbol_at g) (sym same) ∙ e) ∙ sym (one_source i r is e)))
          (≤ℤ_refl (flat_rank w ranking g s))

-- the parts that end at a place
pub ranks_fall : (w : Grammar) (ranking : Ranking) (r : Recognizer) → IsRecognizer r → (end least : ℕ) (all : List Part) → ((p : Part) → Contains all p → IsPartAt w ranking r end least p) → IsStrictlySortedBy part_cmp all → RanksFall all
ranks_fall w ranking r known end least all are sorted i j lt below (symbol, long) =
    let (a, here, _) = are (part_at all i) (Contains-get_or all i no_part (omega arith)) in
    let (b, here', _) = are (part_at all j) (Contains-get_or all j no_part below) in
    go a b (then_rest _ _ _ (then_rest _ _ _ (then_rest _ _ _ (Less-from_sorted part_cmp all i j no_part sorted lt below) (here ∙ sym here')) symbol) long)
  where
    go : IsPart w ranking r (part_at all i) → IsPart w ranking r (part_at all j) → option_cmp key_cmp (part_at all i).whole (part_at all j).whole ≡ Less → rank_in (part_at all j).whole ≤ℤ rank_in (part_at all i).whole
    go (inl (e, h, is)) (inl (e', h', is')) less = let f : Equal ≡ Less = (λ n. option_cmp key_cmp (sym is.whole n) (sym is'.whole n)) ∙ less in absurd (cc)
    go (inl (e, h, is)) (inr (earleme, item, le, h', is')) less =
        absurd (known.flat.no_rules item.rule ((in_full r known earleme item).0 h').is_rule (e.symbol, ap (slice_get r.flat.symbols) (sym is'.symbol ∙ sym symbol) ∙ is.symbol))
    go (inr (earleme, item, le, h, is)) (inl (e, h', is')) less = let f : Greater ≡ Less = (λ n. option_cmp key_cmp (sym is.whole n) (sym is'.whole n)) ∙ less in absurd (cc)
    go (inr (earleme, item, le, h, is)) (inr (earleme', item', le', h', is')) less =
        let k : key_cmp (rule_key_of w ranking r.flat item.rule) (rule_key_of w ranking r.flat item'.rule) ≡ Less = (λ n. option_cmp key_cmp (sym is.whole n) (sym is'.whole n)) ∙ less in
        let falls = rank_falls w ranking r.flat known.flat item.rule item'.rule ((in_full r known earleme item).0 h).is_rule ((in_full r known earleme' item').0 h').is_rule (sym is.symbol ∙ symbol ∙ is'.symbol) k in
        subst (λ z. rank_in (part_at all j).whole ≤ℤ rank_in z) (sym is.whole) (subst (λ z. rank_in z ≤ℤ flat_rank w ranking r.flat item.rule) (sym is'.whole) falls)

-- what the ranking keeps is what it allows
module _ (w : Grammar) (g : FlatGrammar) (E : Edges) (r p q : ℕ) (part first : Part) where
  pub kept_allowed : (ranking : Ranking) → IsKept ranking part first → (rank_in part.whole ≡ rank_in first.whole → IsBestRule w ranking g E r p q) → allowed_by w ranking g E r p q
  kept_allowed NoRanks kept best = tt
  kept_allowed RuleRanks kept best = tt
  kept_allowed HighRanks kept best = best kept

  pub allowed_kept : (ranking : Ranking) → allowed_by w ranking g E r p q → (IsBestRule w ranking g E r p q → rank_in part.whole ≡ rank_in first.whole) → IsKept ranking part first
  allowed_kept NoRanks allowed same = tt
  allowed_kept RuleRanks allowed same = tt
  allowed_kept HighRanks allowed same = same allowed
