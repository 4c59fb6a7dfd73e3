-- What job `more` tells is one, is there, and is what is left after a place.
use Rattle.std.proofs.Common.{◌≡◌, ℕ, ◌≤◌, List, [], ◌∷◌, ◌++◌, map, take, drop, length, Option, Some, None, refl, sym, ap, ◌∙◌, subst, slice_index_or, inl, inr, codes}
use Rattle.std.specs.List.{concat}
use Rattle.std.proofs.lemmas.List.{append_assoc, append-nil, map-append}
use Rattle.std.proofs.lemmas.List.Folds.{concat-append}
use Rattle.std.proofs.Math.Seq.{take-append_seam}
use Rattle.grammar_model.specs.declared.Ranking.{Ranking}
use Rattle.grammar_model.specs.Grammar.{slot_of}
use Rattle.grammar_model.specs.Trees.{Tree}
use Rattle.grammar_model.specs.declared.Show.{Show}
use Rattle.grammar_model.specs.declared.limits.TheConstants.{LONGEST_CURSOR}
use Rattle.cursor_model.specs.Rest.{start_text, place_after, IsPlaceOf, IsRest}
use Rattle.cursor_model.proofs.Going.{rest_is_one, places_follow}
use Rattle.cursor_model.proofs.Deciding.{places_are_decided}
use Rattle.language_model.specs.Building.{Built}
use Rattle.reading_model.specs.Reading.{Piece, AreExpected, edges_of, earleme_after}
use Rattle.words_model.specs.Words.{MoreAsked}
use Rattle.run_model.specs.Listing.{AreDerivations, line_of, first_of}
use Rattle.run_model.specs.More.{end_line, last_line, page_lines}
use Rattle.run_model.specs.Telling.{Outcome, refused, done, no_derivation_text, TellsMore, Tells}
use Rattle.run_model.specs.Telling.TellsMore.{Ungiven, NoPlace, GoesOn}
use Rattle.run_model.specs.Telling.TellsValues.{NoDerivation, Derived}
use Rattle.run_model.specs.Laws.{GoingOnIsWhole, PagesFollow, values_first, from_place}
use Rattle.run_model.proofs.Listed.{same_trees, no_tree}
use Rattle.run_model.proofs.Units.{units}

one_rest : (b : Built) (ranking : Ranking) (pieces : List Piece) (trees : List Tree) → AreDerivations b ranking pieces trees → (text : List ℕ) (xs ys : List Tree)
    → IsRest trees text xs → IsRest trees text ys → xs ≡ ys
one_rest b ranking pieces trees are text xs ys p q =
    rest_is_one b.g1 (edges_of pieces) ranking (slot_of (slice_index_or b.g1.starts 0 0)) 0 (earleme_after pieces) trees (units pieces) are text xs ys p q

-- ---- one of each, and some of all

module _ (b : Built) (asked : MoreAsked) (cs : List ℕ) (pieces : List Piece) where
  -- a text that names a place of the derivations does not name none
  placed : (t : Tree) (ts : List Tree) (u : Tree) (us rest : List Tree) → AreDerivations b asked.ranking pieces (t ∷ ts) → ((before rest : List Tree) → IsPlaceOf asked.after (t ∷ ts) before rest → ⊥)
      → AreDerivations b asked.ranking pieces (u ∷ us) → IsRest (u ∷ us) asked.after rest → ⊥
  placed t ts u us rest all none all' left =
      let same = same_trees b asked.ranking pieces (u ∷ us) (t ∷ ts) all' all in
      none left.0 rest (subst (λ l. IsPlaceOf asked.after l left.0 rest) same left.1)

  pub one_more : ((xs ys : List ℕ) → AreExpected b pieces xs → AreExpected b pieces ys → xs ≡ ys) → (x y : Outcome) → TellsMore asked b cs pieces x → TellsMore asked b cs pieces y → x ≡ y
  one_more one x y (Ungiven xs none are is) (Ungiven ys none' are' is') = is ∙ ap (λ s. refused 1 (no_derivation_text b.g1 s)) (one xs ys are are') ∙ sym is'
  one_more one x y (Ungiven xs none are is) (NoPlace t ts all names is') = absurd (no_tree b asked.ranking pieces t ts none all)
  one_more one x y (Ungiven xs none are is) (GoesOn t ts rest all left is') = absurd (no_tree b asked.ranking pieces t ts none all)
  one_more one x y (NoPlace t ts all names is) (Ungiven ys none are is') = absurd (no_tree b asked.ranking pieces t ts none all)
  one_more one x y (NoPlace t ts all names is) (NoPlace u us all' names' is') = is ∙ sym is'
  one_more one x y (NoPlace t ts all names is) (GoesOn u us rest all' left is') = absurd (placed t ts u us rest all names all' left)
  one_more one x y (GoesOn t ts rest all left is) (Ungiven ys none are is') = absurd (no_tree b asked.ranking pieces t ts none all)
  one_more one x y (GoesOn t ts rest all left is) (NoPlace u us all' names is') = absurd (placed u us t ts rest all' names all left)
  one_more one x y (GoesOn t ts rest all left is) (GoesOn u us others all' left' is') =
      let same = same_trees b asked.ranking pieces (u ∷ us) (t ∷ ts) all' all in
      let rests = one_rest b asked.ranking pieces (t ∷ ts) all asked.after rest others left (subst (λ l. IsRest l asked.after others) same left') in
      is ∙ ap (λ l. done (page_lines b asked.show asked.first asked.after cs pieces l)) rests ∙ sym is'

  pub some_more : (trees : List Tree) (expected : List ℕ) → AreDerivations b asked.ranking pieces trees → AreExpected b pieces expected → (outcome : Outcome) × TellsMore asked b cs pieces outcome
  some_more [] expected are e = (refused 1 (no_derivation_text b.g1 expected), Ungiven expected are e refl)
  some_more (t ∷ ts) expected are e = elim (places_are_decided (t ∷ ts) asked.after) [
    | inl (rest, left) ↦ (done (page_lines b asked.show asked.first asked.after cs pieces rest), GoesOn t ts rest are left refl)
    | inr none ↦ (refused 1 (codes "the cursor names no derivation"), NoPlace t ts are none refl)
  ]

-- ---- laws

by_left : (after text : List ℕ) (given all left : List Tree) → place_after after given ≡ place_after text all → last_line after given left ≡ last_line text all left
by_left after text given all [] e = refl
by_left after text given all (t ∷ left) e = ap (λ p. codes "cursor: " ++ (p ++ 10 ∷ [])) e

pub pages_follow : PagesFollow
pages_follow after before rest n place =
    ap (λ a. last_line a (take n rest) (drop n rest)) place
    ∙ by_left (place_after start_text before) start_text (take n rest) (before ++ take n rest) (drop n rest) (places_follow start_text before (take n rest))

module _ (b : Built) (show : Show) (ranking : Ranking) (cs : List ℕ) (pieces : List Piece) (tree : Tree) (trees before rest : List Tree) (are : AreDerivations b ranking pieces (tree ∷ trees))
    (parts : tree ∷ trees ≡ before ++ rest) (within : length (place_after start_text before) ≤ LONGEST_CURSOR) where
  abbrev lines : List Tree → List ℕ
  lines ts = concat (map (line_of b show cs pieces) ts)

  place : IsPlaceOf (place_after start_text before) (tree ∷ trees) before rest
  place = record { parts = parts; within = within; is = refl }

  all_told : (first : Option ℕ) (x : Outcome) → Tells (values_first show ranking first) b cs pieces x → x.out ≡ lines (first_of first (tree ∷ trees))
  all_told first x (NoDerivation expected none e is) = absurd (no_tree b ranking pieces tree trees none are)
  all_told first x (Derived t ts n all has is) =
      ap (λ (o : Outcome). o.out) is ∙ ap concat (append-nil (map (line_of b show cs pieces) (first_of first (t ∷ ts))))
      ∙ ap (λ l. lines (first_of first l)) (same_trees b ranking pieces (t ∷ ts) (tree ∷ trees) all are)

  rest_told : (x : Outcome) → Tells (from_place show ranking before) b cs pieces x → x.out ≡ lines rest ++ end_line
  rest_told x (Ungiven expected none e is) = absurd (no_tree b ranking pieces tree trees none are)
  rest_told x (NoPlace t ts all names is) =
      absurd (names before rest (subst (λ l. IsPlaceOf (place_after start_text before) l before rest) (same_trees b ranking pieces (tree ∷ trees) (t ∷ ts) are all) place))
  rest_told x (GoesOn t ts others all left is) =
      let same = same_trees b ranking pieces (t ∷ ts) (tree ∷ trees) all are in
      let rests : others ≡ rest =
      one_rest b ranking pieces (tree ∷ trees) are (place_after start_text before) others rest (subst (λ l. IsRest l (place_after start_text before) others) same left) (before, place) in
      ap (λ (o : Outcome). o.out) is ∙ concat-append (map (line_of b show cs pieces) others) (end_line ∷ [])
      ∙ ap (λ l. lines others ++ l) (append-nil end_line) ∙ ap (λ l. lines l ++ end_line) rests

  all_are : lines before ++ (lines rest ++ end_line) ≡ lines (tree ∷ trees) ++ end_line
  all_are =
      sym (append_assoc (lines before) (lines rest) end_line)
      ∙ ap (λ l. l ++ end_line) (sym (concat-append (map (line_of b show cs pieces) before) (map (line_of b show cs pieces) rest))
      ∙ ap concat (sym (map-append (line_of b show cs pieces) before rest)) ∙ ap lines (sym parts))

pub going_on_is_whole : GoingOnIsWhole
going_on_is_whole b show ranking cs pieces tree trees before rest are parts within first more all told_first told_more told_all =
    let up_to = all_told b show ranking cs pieces tree trees before rest are parts within (Some (length before)) first told_first in
    let left = rest_told b show ranking cs pieces tree trees before rest are parts within more told_more in
    let whole = all_told b show ranking cs pieces tree trees before rest are parts within None all told_all in
    let cut : take (length before) (tree ∷ trees) ≡ before = ap (take (length before)) parts ∙ take-append_seam before rest in
    ap (λ l. l ++ more.out) (up_to ∙ ap (λ l. concat (map (line_of b show cs pieces) l)) cut)
    ∙ ap (λ l. concat (map (line_of b show cs pieces) before) ++ l) left
    ∙ all_are b show ranking cs pieces tree trees before rest are parts within
    ∙ ap (λ l. l ++ end_line) (sym whole)
