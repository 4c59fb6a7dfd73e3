-- The pieces of a text, one after another, and the trees that their steps tell.
use Rattle.std.proofs.Common.{◌≡◌, ℕ, suc, ◌+◌, ◌<◌, ◌≤◌, false, eqb, List, [], ◌∷◌, ◌++◌, map, length, Option, Some, None, refl, sym, ap, ◌∙◌, subst, append_assoc, append-nil, length-append, arith}
use Rattle.std.proofs.Common.{Bor}
use Rattle.std.specs.List.{slice_split, join_with_byte, All}
use Rattle.std.specs.Iterator.{AlwaysYields}
use Rattle.std.specs.Str.Iter.{split_steps}
use Rattle.std.specs.Str.Pattern.{FindsChar}
use Rattle.std.specs.declared.str.Split.{Split}
use Rattle.std.proofs.lemmas.List.{length-map, map-append}
use Rattle.std.proofs.lemmas.List.Elements.{All-nil, All-cons}
use Rattle.std.proofs.lemmas.List.Splits.{slice_split_none, slice_split_at, length-slice_split, join_with_byte-slice_split}
use Rattle.std.proofs.lemmas.List.Sums.{count_by-le-length}
use Rattle.std.proofs.lemmas.Bool.{ne_eqb}
use Rattle.grammar_model.specs.Trees.{Tree, Children, NoChild, Child, child_count}
use Rattle.grammar_model.specs.Steps.{Step, TokenStep, NulledStep, RuleStep, steps_of, steps_of_all, after_step}
use Rattle.grammar_model.specs.declared.limits.TheConstants.{LONGEST_CURSOR}
use Rattle.grammar_core.specs.declared.steps.TreeStep.{TreeStep}
use Rattle.grammar_core.specs.Steps.{step_of}
use Rattle.cursor_model.specs.Cursor.{step_text, cursor_text}
use Rattle.cursor_model.specs.Laid.{IsSmall, AreSmall, IsLaid, AreLaid, Spells}
use Rattle.cursor_model.proofs.Texts.{Lacks, AllLack, steps_lack, bare_step, step_told}
use Rattle.cursor_model.proofs.Bare.{has_first}
use Rattle.tree_cursor.specs.declared.stack.Stack.{Stack}
use Rattle.tree_cursor.specs.Told.{IsDone, TakesWrong}
use Rattle.tree_cursor.specs.Reading.{AreRead}
use Rattle.tree_cursor.proofs.Stacks.{starts_count}
use Rattle.tree_cursor.proofs.Depths.{counts, counts_told, wrong_told, tree_leaves_one, trees_leave, tree_takes_right}

-- ---- the pieces that are left

abbrev pub Cuts : Split ℕ → Option (Bor (List ℕ)) → Split ℕ → Type 0
Cuts = split_steps FindsChar (λ a b. b ≡ a)

abbrev pub Yields : Split ℕ → List (List ℕ) → Type 0
Yields s left = AlwaysYields Cuts (λ (x : Bor (List ℕ)). x.now) s left

pub record IsTurn (t : Split ℕ) (piece : List ℕ) (left : List (List ℕ)) : Type 0 where
  pub rest : List (List ℕ)
  pub is : left ≡ piece ∷ rest
  pub yields : Yields t rest

pub turned : (s t : Split ℕ) (r : Option (Bor (List ℕ))) (x : Bor (List ℕ)) (left : List (List ℕ)) → Yields s left → Cuts s r t → r ≡ Some x → IsTurn t x.now left
turned s t r x [] y k e = absurd (y x t (subst (λ o. Cuts s o t) e k))
turned s t r x (p ∷ rest) y k e =
    let h = y.1 x t (subst (λ o. Cuts s o t) e k) in
    record { rest = rest; is = ap (λ q. q ∷ rest) (sym h.0); yields = h.1 }

pub ended : (s t : Split ℕ) (r : Option (Bor (List ℕ))) (left : List (List ℕ)) → Yields s left → Cuts s r t → r ≡ None → left ≡ []
ended s t r [] y k e = refl
ended s t r (p ∷ rest) y k e = absurd (y.0 t (subst (λ o. Cuts s o t) e k))

-- ---- the pieces of what a text spells

lacks_all : (xs : List ℕ) → Lacks 46 xs → All (λ b. eqb b 46 ≡ false) xs
lacks_all [] h = All-nil (λ b. eqb b 46 ≡ false)
lacks_all (x ∷ xs) h = All-cons (λ b. eqb b 46 ≡ false) x xs (ne_eqb x 46 h.0) (lacks_all xs h.1)

split_joined : (x : List ℕ) (xs : List (List ℕ)) → AllLack 46 (x ∷ xs) → slice_split (λ b. eqb b 46) (join_with_byte 46 (x ∷ xs)) ≡ x ∷ xs
split_joined x [] h = slice_split_none (λ b. eqb b 46) x (lacks_all x h.0)
split_joined x (y ∷ xs) h =
    slice_split_at (λ b. eqb b 46) x 46 (join_with_byte 46 (y ∷ xs)) (lacks_all x h.0) refl
    ∙ ap (λ l. x ∷ l) (split_joined y xs h.1)

pub split_spelled : (text : List ℕ) (t : Tree) → Spells text t → slice_split (λ b. eqb b 46) text ≡ map step_text (steps_of t)
split_spelled text t s =
    let f = has_first t in
    let is : text ≡ cursor_text (f.first ∷ f.others) = s.is ∙ ap cursor_text f.is in
    ap (slice_split (λ b. eqb b 46)) is ∙ split_joined (step_text f.first) (map step_text f.others) (steps_lack (f.first ∷ f.others)) ∙ ap (map step_text) (sym f.is)

-- a piece of it is one of its steps
record IsAmong (steps : List Step) (before : List (List ℕ)) (piece : List ℕ) : Type 0 where
  earlier : List Step
  step : Step
  later : List Step
  is : steps ≡ earlier ++ step ∷ later
  before_is : before ≡ map step_text earlier
  piece_is : piece ≡ step_text step

among : (steps : List Step) (before : List (List ℕ)) (piece : List ℕ) (rest : List (List ℕ)) → map step_text steps ≡ before ++ piece ∷ rest → IsAmong steps before piece
among [] [] piece rest e = absurd (cc e)
among [] (b ∷ before) piece rest e = absurd (cc e)
among (s ∷ ss) [] piece rest e =
    let heads : step_text s ≡ piece = cc in
    record { earlier = []; step = s; later = ss; is = refl; before_is = refl; piece_is = sym heads }
among (s ∷ ss) (b ∷ before) piece rest e =
    let heads : step_text s ≡ b = cc in
    let tails : map step_text ss ≡ before ++ piece ∷ rest = cc in
    let r = among ss before piece rest tails in
    let others = r.before_is in
    record {
      earlier = s ∷ r.earlier;
      step = r.step;
      later = r.later;
      is = ap (λ l. s ∷ l) r.is;
      before_is = ap (λ b. b ∷ before) (sym heads) ∙ ap (λ l. step_text s ∷ l) others;
      piece_is = r.piece_is;
    }

small_at : (xs ys : List Step) (s : Step) → AreSmall (xs ++ s ∷ ys) → IsSmall s
small_at [] ys s h = h.0
small_at (x ∷ xs) ys s h = small_at xs ys s h.1

module _ (text : List ℕ) (stack : Stack) (steps : List TreeStep) (piece : List ℕ) (rest left : List (List ℕ)) (left_is : left ≡ piece ∷ rest) (r : AreRead text stack steps left) (t : Tree) (s : Spells text t) where
  step_among : IsAmong (steps_of t) (map step_text (map step_of steps)) piece
  step_among = among (steps_of t) (map step_text (map step_of steps)) piece rest (sym (split_spelled text t s) ∙ r.pieces ∙ ap (λ l. map step_text (map step_of steps) ++ l) left_is)

  -- no small step has this text, so the text spells no tree
  pub no_step : ((step : Step) → IsSmall step → piece ≡ step_text step → ⊥) → ⊥
  no_step none = let a = step_among in none a.step (small_at a.earlier a.later a.step (subst AreSmall a.is s.small)) a.piece_is

  -- the step takes trees that are not there
  pub takes_wrong : (step : Step) → piece ≡ step_text step → TakesWrong (length stack.starts.items) step → ⊥
  takes_wrong step is wrong =
      let a = step_among in
      let count : length stack.starts.items ≡ counts 0 a.earlier =
      ap length r.told.starts ∙ starts_count r.trees ∙ sym (trees_leave r.trees stack.end r.told.laid) ∙ ap (counts 0) (sym r.steps_are) ∙ counts_told (map step_of steps) a.earlier a.before_is in
      tree_takes_right t s.end s.laid a.earlier a.later a.step a.is
      (wrong_told (counts 0 a.earlier) step a.step (sym is ∙ a.piece_is) (subst (λ n. TakesWrong n step) count wrong))

-- not one tree is left
pub leaves_other : (text : List ℕ) (stack : Stack) (steps : List TreeStep) (left : List (List ℕ)) → left ≡ [] → AreRead text stack steps left → (t : Tree) → Spells text t → length stack.starts.items ≡ 1
leaves_other text stack steps left none r t s =
    let all : map step_text (steps_of t) ≡ map step_text (map step_of steps) =
    sym (split_spelled text t s) ∙ r.pieces ∙ ap (λ l. map step_text (map step_of steps) ++ l) none ∙ append-nil (map step_text (map step_of steps)) in
    ap length r.told.starts ∙ starts_count r.trees ∙ sym (trees_leave r.trees stack.end r.told.laid) ∙ ap (counts 0) (sym r.steps_are)
    ∙ counts_told (map step_of steps) (steps_of t) (sym all) ∙ tree_leaves_one t s.end s.laid

-- the one tree that is left
record IsOne (cs : Children) : Type 0 where
  tree : Tree
  is : cs ≡ Child NoChild tree

one_child : (cs : Children) → child_count cs ≡ 1 → IsOne cs
one_child NoChild e = absurd (omega (arith, e))
one_child (Child NoChild t) e = record { tree = t; is = refl }
one_child (Child (Child cs u) t) e = absurd (omega (arith, e))

laid_one : (t : Tree) (q : ℕ) → AreLaid 0 q (Child NoChild t) → IsLaid 0 q t
laid_one t q (m, h, k) = subst (λ p. IsLaid p q t) (sym h) k

pub spelled : (text : List ℕ) (stack : Stack) (steps : List TreeStep) (left : List (List ℕ)) → left ≡ [] → AreRead text stack steps left → length text ≤ LONGEST_CURSOR → length stack.starts.items ≡ 1 →
    (t : Tree) × Spells text t × (map step_of steps ≡ steps_of t)
spelled text stack steps left none r within count =
    let one = one_child r.trees (sym (starts_count r.trees) ∙ ap length (sym r.told.starts) ∙ count) in
    let same : map step_of steps ≡ steps_of one.tree = r.steps_are ∙ ap steps_of_all one.is in
    let all : slice_split (λ b. eqb b 46) text ≡ map step_text (steps_of one.tree) =
    r.pieces ∙ ap (λ l. map step_text (map step_of steps) ++ l) none ∙ append-nil (map step_text (map step_of steps)) ∙ ap (map step_text) same in (
      one.tree,
      record {
        within = within;
        end = stack.end;
        laid = laid_one one.tree stack.end (subst (AreLaid 0 stack.end) one.is r.told.laid);
        small = subst AreSmall same r.small;
        is = sym (join_with_byte-slice_split 46 text) ∙ ap (join_with_byte 46) all;
      },
      same,
    )

-- ---- going on

pub none_read : (text : List ℕ) (stack : Stack) (steps : List TreeStep) → stack.starts.items ≡ [] → stack.end ≡ 0 → steps ≡ [] → AreRead text stack steps (slice_split (λ b. eqb b 46) text)
none_read text stack steps starts end none = record {
  trees = NoChild;
  told = record { laid = sym end; starts = starts };
  steps_are = ap (map step_of) none;
  small = subst (λ l. AreSmall (map step_of l)) (sym none) tt;
  pieces = ap (λ l. map step_text (map step_of l) ++ slice_split (λ b. eqb b 46) text) (sym none);
  end = omega (arith, end);
}

small_bare : (s : Step) → IsSmall s → IsSmall (bare_step s)
small_bare (TokenStep x a b) h = h
small_bare (NulledStep x a) h = h
small_bare (RuleStep r k a b) h = h

bare_small : (s : Step) → IsSmall (bare_step s) → IsSmall s
bare_small (TokenStep x a b) h = h
bare_small (NulledStep x a) h = h
bare_small (RuleStep r k a b) h = h

small_more : (xs : List Step) (s : Step) → AreSmall xs → IsSmall s → AreSmall (xs ++ s ∷ [])
small_more [] s h k = (k, tt)
small_more (x ∷ xs) s h k = (h.0, small_more xs s h.1 k)

pub one_read : (text : List ℕ) (old new : Stack) (steps longer : List TreeStep) (step done : TreeStep) (piece : List ℕ) (rest left : List (List ℕ)) → left ≡ piece ∷ rest → AreRead text old steps left →
    piece ≡ step_text (step_of step) → IsSmall (step_of step) → IsDone old new (step_of step) (step_of done) → new.end ≤ old.end + 1 → longer ≡ steps ++ done ∷ [] → AreRead text new longer rest
one_read text old new steps longer step done piece rest left left_is r is small d end more =
    let s = d.stands r.trees r.told in
    let mapped : map step_of longer ≡ map step_of steps ++ step_of done ∷ [] = ap (map step_of) more ∙ map-append step_of steps (done ∷ []) in
    record {
      trees = after_step r.trees (step_of done);
      told = s.0;
      steps_are = mapped ∙ ap (λ l. l ++ step_of done ∷ []) r.steps_are ∙ sym s.1;
      small = subst AreSmall (sym mapped) (small_more (map step_of steps) (step_of done) r.small (bare_small (step_of done) (subst IsSmall (sym (step_told (step_of done) (step_of step) d.same_text)) (small_bare (step_of step) small))));
      pieces =
          r.pieces ∙ ap (λ l. map step_text (map step_of steps) ++ l) (left_is ∙ ap (λ p. p ∷ rest) (is ∙ sym d.same_text))
          ∙ sym (append_assoc (map step_text (map step_of steps)) (step_text (step_of done) ∷ []) rest)
          ∙ ap (λ l. l ++ rest) (sym (map-append step_text (map step_of steps) (step_of done ∷ [])) ∙ ap (map step_text) (sym mapped));
      end = (let a = r.end in let b = ap (λ (l : List TreeStep). length l) more in let c = length-append steps (done ∷ []) in omega (arith, a, b, c, end));
    }

-- there is room for one more place
pub has_room : (text : List ℕ) (stack : Stack) (steps : List TreeStep) (piece : List ℕ) (rest left : List (List ℕ)) → left ≡ piece ∷ rest → AreRead text stack steps left → length text ≤ LONGEST_CURSOR → stack.end < 4294967295
has_room text stack steps piece rest left left_is r within =
    let a = length-slice_split (λ b. eqb b 46) text in
    let b = count_by-le-length (λ b. eqb b 46) text in
    let c : length (slice_split (λ b. eqb b 46) text) ≡ length (map step_text (map step_of steps) ++ left) = ap (λ (l : List (List ℕ)). length l) r.pieces in
    let d = length-append (map step_text (map step_of steps)) left in
    let e : length left ≡ suc (length rest) = ap (λ (l : List (List ℕ)). length l) left_is in
    let f = length-map (map step_of steps) step_text in
    let g = length-map steps step_of in
    let h = r.end in
    omega (arith, a, b, c, d, e, f, g, h, within)
