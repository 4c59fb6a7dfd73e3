-- What is kept while derivations are given one after another.
use Rattle.std.proofs.Common.{◌≡◌, ℕ, zero, suc, ◌+◌, ◌<◌, ◌≤◌, ◌↔◌, ◌⊎◌, inl, inr, not, Bool, true, false, List, [], ◌∷◌, ◌++◌, Option, Some, None, length, map, take, drop, refl, sym, ap, ◌∙◌, subst, arith}
use Rattle.std.specs.Prelude.{IsTrue}
use Rattle.std.proofs.lemmas.Bool.{both_ways}
use Rattle.std.proofs.lemmas.List.{append_assoc, length_push, length-append, map_push, drop_at, take_all, take_at, drop_all}
use Rattle.grammar_model.specs.Trees.{Tree}
use Rattle.grammar_model.specs.Steps.{steps_of}
use Rattle.grammar_model.specs.declared.Ranking.{Ranking}
use Rattle.grammar_model.specs.declared.Show.{Show}
use Rattle.tree_iter.specs.Iteration.{Iteration, AreGiven}
use Rattle.slif_parser.specs.Views.{Read, ForestOf, FirstOf, DerivationsOf}
use Rattle.slif_parser.specs.Readings.{AreAll, AreAllOf, IsFirst, IsForestAs, IsNext, IsPrefixOfAll}
use Rattle.slif_parser.specs.Shown.{shown_line}
use Rattle.c_handles.specs.declared.parse.Parse.{Parse}
use Rattle.c_handles.specs.declared.steps.Step.{Step}
use Rattle.c_handles.specs.Kept.{AreSome, IsOne, laid_tree, lines_of}

-- ONE AFTER ANOTHER

-- so many are given
abbrev pub AreSoMany : Iteration → ℕ → Type 0
AreSoMany it n = (given : List Tree) × AreGiven it given × (length given ≡ n)

pub one_given : (it : Iteration) (new : DerivationsOf) (n : ℕ) → AreSoMany it n → (more : Bool) → more ≡ true → ((g : List Tree) → AreGiven it g → IsNext new g more) → AreSoMany new.iteration (n + 1)
one_given it new n (given, are, many) more found answer =
    let next = subst (IsNext new given) found (answer given are) in
    (given ++ next.0 ∷ [], next.1, length_push given next.0 ∙ ap (λ m. m + 1) many)

no_lines : (r : Read) (shown : Option Show) → lines_of r shown [] ≡ []
no_lines r None = refl
no_lines r (Some show) = refl

one_line : (r : Read) (shown : Option Show) (l : List Tree) (t : Tree) → lines_of r shown (l ++ t ∷ []) ≡ lines_of r shown l ++ lines_of r shown (t ∷ [])
one_line r None l t = refl
one_line r (Some show) l t = map_push (shown_line r show) l t

-- behind those that were given, so many more are given, and kept
pub record AreKept (r : Read) (shown : Option Show) (given : List Tree) (it : Iteration) (n : ℕ) (rows : List (List Step)) (lines : List (List ℕ)) : Type 0 where
  pub kept : List Tree
  pub are : AreGiven it (given ++ kept)
  pub many : length kept ≡ n
  pub rows_are : rows ≡ map (laid_tree r) kept
  pub lines_are : lines ≡ lines_of r shown kept

pub one_kept : (r s : Read) → s ≡ r → (shown : Option Show) (given : List Tree) (it : Iteration) (new : DerivationsOf) (n : ℕ) (rows both : List (List Step)) (lines told : List (List ℕ)) → AreKept r shown given it n rows lines →
    (more : Bool) → more ≡ true → ((g : List Tree) → AreGiven it g → IsNext new g more) → ((t : Tree) → new.iteration.current ≡ Some (steps_of t) → both ≡ rows ++ laid_tree r t ∷ []) →
    ((t : Tree) → new.iteration.current ≡ Some (steps_of t) → told ≡ lines ++ lines_of s shown (t ∷ [])) → AreKept r shown given new.iteration (n + 1) both told
one_kept r s same shown given it new n rows both lines told k more found answer are_both are_told =
    let next = subst (IsNext new (given ++ k.kept)) found (answer (given ++ k.kept) k.are) in let tree = next.0 in
    record {
      kept = k.kept ++ tree ∷ [];
      are = subst (AreGiven new.iteration) (append_assoc given k.kept (tree ∷ [])) next.1;
      many = length_push k.kept tree ∙ ap (λ m. m + 1) k.many;
      rows_are = are_both tree next.2 ∙ (ap (λ l. l ++ laid_tree r tree ∷ []) k.rows_are ∙ sym (map_push (laid_tree r) k.kept tree));
      lines_are = are_told tree next.2 ∙ (ap (λ l. l ++ lines_of s shown (tree ∷ [])) k.lines_are ∙
          (ap (λ (q : Read). lines_of r shown k.kept ++ lines_of q shown (tree ∷ [])) same ∙ sym (one_line r shown k.kept tree)));
    }

-- THE END

pub take_none : (n : ℕ) (l : List Tree) → l ≡ [] → take n l ≡ []
take_none zero l e = refl
take_none (suc n) l e = ap (take (suc n)) e

pub all_of : (r : Read) (ranking : Ranking) (d : DerivationsOf) (trees : List Tree) → d.read ≡ r → d.iteration.forest.ranking ≡ ranking → AreAll d trees → AreAllOf r ranking trees
all_of r ranking d trees same ranked all = subst (λ (read : Read). AreAllOf read ranking trees) same (subst (λ k. AreAllOf d.read k trees) ranked all)

module _ (r : Read) (ranking : Ranking) (shown : Option Show) (d : DerivationsOf) (same : d.read ≡ r) (ranked : d.iteration.forest.ranking ≡ ranking) (given : List Tree) (most : ℕ) (p : Parse) where
  abbrev rows : List (List Step)
  rows = map (λ steps. steps.items) p.derivations.items

  abbrev lines : List (List ℕ)
  lines = map (λ line. line.items) p.lines.items

  -- those that are kept are the last
  pub no_more : (it : Iteration) (n : ℕ) → AreKept r shown given it n rows lines → n ≤ most → p.more ≡ false → ((g : List Tree) → AreGiven it g → IsNext d g false) → AreSome r ranking shown (length given) most p
  no_more it n k few none answer =
      let long = length-append given k.kept in
      let front : k.kept ≡ take most (drop (length given) (given ++ k.kept)) = sym (ap (take most) (drop_at given k.kept (length given) refl) ∙ take_all most k.kept (omega (arith, k.many, few))) in
      record {
        trees = given ++ k.kept;
        all = all_of r ranking d (given ++ k.kept) same ranked (answer (given ++ k.kept) k.are);
        kept = k.rows_are ∙ ap (map (laid_tree r)) front;
        lines = k.lines_are ∙ ap (lines_of r shown) front;
        more = (λ is. absurd (both_ways p.more none is), λ lt. absurd (omega (arith, lt, long, k.many, few)));
      }

  -- there is one more
  pub some_more : (it : Iteration) → AreKept r shown given it most rows lines → p.more ≡ true → ((g : List Tree) → AreGiven it g → IsNext d g true) → ((g : List Tree) → AreGiven d.iteration g → IsPrefixOfAll d g) → AreSome r ranking shown (length given) most p
  some_more it k told answer known =
      let next = answer (given ++ k.kept) k.are in let prefix = known (given ++ k.kept ++ next.0 ∷ []) next.1 in
      let trees = given ++ k.kept ++ next.0 ∷ [] ++ prefix.0 in
      let behind : trees ≡ given ++ (k.kept ++ next.0 ∷ prefix.0) = append_assoc (given ++ k.kept) (next.0 ∷ []) prefix.0 ∙ append_assoc given k.kept (next.0 ∷ prefix.0) in
      let long = ap length behind ∙ length-append given (k.kept ++ next.0 ∷ prefix.0) in let longer = length-append k.kept (next.0 ∷ prefix.0) in
      let front : k.kept ≡ take most (drop (length given) trees) =
      sym (ap (λ l. take most (drop (length given) l)) behind ∙ (ap (take most) (drop_at given (k.kept ++ next.0 ∷ prefix.0) (length given) refl) ∙ take_at k.kept (next.0 ∷ prefix.0) most k.many)) in
      record {
        trees = trees;
        all = all_of r ranking d trees same ranked prefix.1;
        kept = k.rows_are ∙ ap (map (laid_tree r)) front;
        lines = k.lines_are ∙ ap (lines_of r shown) front;
        more = (λ is. omega (arith, long, longer, k.many), λ lt. told);
      }

  pub ended : (it : Iteration) (n : ℕ) → AreKept r shown given it n rows lines → n ≡ most → (more : Bool) → p.more ≡ more → ((g : List Tree) → AreGiven it g → IsNext d g more) → ((g : List Tree) → AreGiven d.iteration g → IsPrefixOfAll d g) → AreSome r ranking shown (length given) most p
  ended it n k all true told answer known = some_more it (subst (λ m. AreKept r shown given it m rows lines) all k) told answer known
  ended it n k all false told answer known = no_more it n k (omega (arith, all)) told answer

-- there are not so many
none_kept : (r : Read) (ranking : Ranking) (shown : Option Show) (skip most : ℕ) (p : Parse) (trees : List Tree) → AreAllOf r ranking trees → length trees ≤ skip → p.derivations.items ≡ [] → p.lines.items ≡ [] → p.more ≡ false →
    AreSome r ranking shown skip most p
none_kept r ranking shown skip most p trees all few no_rows none_told none =
    let front : [] ≡ take most (drop skip trees) = sym (take_none most (drop skip trees) (drop_all skip trees few)) in
    record {
      trees = trees;
      all = all;
      kept = ap (map (λ steps. steps.items)) no_rows ∙ ap (map (laid_tree r)) front;
      lines = ap (map (λ line. line.items)) none_told ∙ (sym (no_lines r shown) ∙ ap (lines_of r shown) front);
      more = (λ is. absurd (both_ways p.more none is), λ lt. absurd (omega (arith, lt, few)));
    }

pub too_few : (r : Read) (ranking : Ranking) (shown : Option Show) (d : DerivationsOf) (skip most : ℕ) (p : Parse) → d.read ≡ r → d.iteration.forest.ranking ≡ ranking → (trees : List Tree) × AreAll d trees × (length trees < skip) →
    p.derivations.items ≡ [] → p.lines.items ≡ [] → p.more ≡ false → AreSome r ranking shown skip most p
too_few r ranking shown d skip most p same ranked (trees, all, few) = none_kept r ranking shown skip most p trees (all_of r ranking d trees same ranked all) (omega (arith, few))

-- what holds of a forest of the reading holds of the reading
pub of_forest : (r : Read) (ranking : Ranking) (shown : Option Show) (f : ForestOf) (skip most : ℕ) (p : Parse) → IsForestAs r ranking f → AreSome r f.forest.ranking shown skip most p → AreSome r ranking shown skip most p
of_forest r ranking shown f skip most p has some = subst (λ k. AreSome r k shown skip most p) has.has.ranking_is some

-- THE FIRST ALONE

front_is : (most : ℕ) (tree : Tree) (others : List Tree) → 0 < most → (most ≡ 1) ⊎ (others ≡ []) → take most (tree ∷ others) ≡ tree ∷ []
front_is zero tree others some few = absurd (omega (arith, some))
front_is (suc n) tree others some (inl one) = ap (λ m. take m (tree ∷ others)) one
front_is (suc n) tree others some (inr none) = ap (λ l. tree ∷ l) (take_none n others none)

more_is : (only more : Bool) (most : ℕ) (others : List Tree) → 0 < most → (most ≡ 1) ⊎ (others ≡ []) → IsTrue only ↔ (others ≡ []) → more ≡ not only → IsTrue more ↔ (most < suc (length others))
more_is only more most [] some few o is = (λ told. absurd (both_ways more (is ∙ ap not (o.1 refl)) told), λ lt. absurd (omega (arith, lt, some)))
more_is only more most (t ∷ ts) some (inr none) o is = absurd (cc none)
more_is true more most (t ∷ ts) some (inl one) o is = absurd (cc (o.0 refl))
more_is false more most (t ∷ ts) some (inl one) o is = (λ told. omega (arith, one), λ lt. is)

pub one_some : (r : Read) (ranking : Ranking) (shown : Option Show) (f : FirstOf) (skip most : ℕ) (p : Parse) → IsFirst r ranking f → IsOne r shown f p → skip ≡ 0 → 0 < most → (most ≡ 1) ⊎ IsTrue f.only → AreSome r ranking shown skip most p
one_some r ranking shown f skip most p first one none some few =
    let last : (most ≡ 1) ⊎ (first.others ≡ []) = elim few [ inl is ↦ inl is | inr only ↦ inr (first.only.0 only) ] in
    let front = front_is most first.tree first.others some last in
    let beyond = more_is f.only p.more most first.others some last first.only one.more in
    subst (λ n. AreSome r ranking shown n most p) (sym none) (record {
      trees = first.tree ∷ first.others;
      all = first.all;
      kept = one.kept first.tree first.steps_are ∙ ap (map (laid_tree r)) (sym front);
      lines = one.lines first.tree first.steps_are ∙ ap (lines_of r shown) (sym front);
      more = (λ is. omega (arith, beyond.0 is), λ lt. beyond.1 (omega (arith, lt)));
    })

-- the only one is passed over
pub only_passed : (r : Read) (ranking : Ranking) (shown : Option Show) (f : FirstOf) (skip most : ℕ) (p : Parse) → IsFirst r ranking f → IsTrue f.only → 0 < skip → p.derivations.items ≡ [] → p.lines.items ≡ [] → p.more ≡ false →
    AreSome r ranking shown skip most p
only_passed r ranking shown f skip most p first only some =
    none_kept r ranking shown skip most p (first.tree ∷ first.others) first.all (omega (arith, some, ap length (first.only.0 only)))

-- none is asked for
pub none_asked : (r : Read) (ranking : Ranking) (shown : Option Show) (f : FirstOf) (skip most : ℕ) (p : Parse) → IsFirst r ranking f → skip ≡ 0 → most ≡ 0 → p.derivations.items ≡ [] → p.lines.items ≡ [] → p.more ≡ true → AreSome r ranking shown skip most p
none_asked r ranking shown f skip most p first none zero_is no_rows none_told told =
    subst (λ n. AreSome r ranking shown n most p) (sym none) (subst (λ n. AreSome r ranking shown 0 n p) (sym zero_is) (record {
      trees = first.tree ∷ first.others;
      all = first.all;
      kept = ap (map (λ steps. steps.items)) no_rows;
      lines = ap (map (λ line. line.items)) none_told ∙ sym (no_lines r shown);
      more = (λ is. omega arith, λ lt. told);
    }))
