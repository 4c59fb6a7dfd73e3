-- The derivation at which an iterator stands can be played, and its line is that of the definition.
use Rattle.std.proofs.Common.{◌≡◌, ℕ, ◌<◌, ◌++◌, [], ◌∷◌, List, Bool, true, false, Option, Some, IfSome, length, Contains, refl, sym, ap, subst, ◌∙◌, slice_index_or, arith, Result, Ok, Err, OnOk}
use Rattle.std.proofs.lemmas.List.Elements.{Contains-append_right, Contains-append_left}
use Rattle.grammar_model.specs.Grammar.{Grammar, slot_of}
use Rattle.grammar_model.specs.Trees.{Tree}
use Rattle.grammar_model.specs.Derives.{Held, Derives}
use Rattle.grammar_model.specs.Steps.{Step, steps_of}
use Rattle.grammar_model.specs.Text.{text_of}
use Rattle.grammar_model.specs.Values.{Value, Meaning, value_of}
use Rattle.grammar_model.specs.declared.Show.{Show}
use Rattle.grammar_model.specs.Checked.{IsChecked}
use Rattle.grammar_core.specs.declared.steps.Span.{Span}
use Rattle.language_model.specs.Building.{Built}
use Rattle.dsl_build.specs.Ranges.{IsInRange}
use Rattle.reading_model.specs.Reading.{Piece, edges_of, earleme_after}
use Rattle.forest_model.specs.Forest.{Forest}
use Rattle.forest_model.specs.Listing.{IsListing}
use Rattle.run_model.specs.Listing.{line_of}
use Rattle.tree_iter.specs.Iteration.{Iteration, AreGiven, IsAnswer}
use Rattle.valuator.specs.Play.{AreSteps, AreSpans, tokens_of}
use Rattle.valuator.specs.Player.{Score}
use Rattle.valuator.specs.Told.{advanced}
use Rattle.value_lines.specs.Lines.{IsForestOf, IsLineOf}
use Rattle.value_lines.specs.Writing.{IsAllAsked}
use Rattle.value_lines.proofs.Playing.{spans_fit, tokens_fit, steps_fit}

-- a teller that held nothing holds what it is told
pub told_one : (f : Show → List Value → List Value) (show : Show) (old new : List (Show × List Value)) → old ≡ (show, []) ∷ [] → new ≡ advanced f old → new ≡ (show, f show []) ∷ []
told_one f show old new e p = p ∙ ap (advanced f) e

pub back_on_ok : {T E : Type 0} (r : Result T E) (old new now : List (Show × List Value)) → old ≡ now → OnOk r (new ≡ now) → OnOk r (new ≡ old)
back_on_ok (Ok x) old new now e p = p ∙ sym e
back_on_ok (Err x) old new now e p = p

-- the line of a player that is the same as before
pub line_played : (b : Built) (show : Show) (p q : Score) (f h : Forest) (pieces : List Piece) (new : Iteration) (given : List Tree) (line : List ℕ) (more : Bool) → p ≡ q → f ≡ h → IsForestOf b q.chars q.spans h pieces →
    (IsForestOf b p.chars p.spans f pieces → IsLineOf b show p.chars pieces new given line more) → IsLineOf b show q.chars pieces new given line more
line_played b show p q f h pieces new given line more e same of told =
    let of_f = subst (λ (x : Forest). IsForestOf b q.chars q.spans x pieces) (sym same) of in
    subst (λ (s : Score). IsLineOf b show s.chars pieces new given line more) e (told (subst (λ (s : Score). IsForestOf b s.chars s.spans f pieces) (sym e) of_f))

-- one more was given
abbrev Given : Iteration → List Tree → Type 0
Given new given = (tree : Tree) × AreGiven new (given ++ tree ∷ []) × (new.current ≡ Some (steps_of tree))

pub one_more : (b : Bool) (new : Iteration) (given : List Tree) → b ≡ true → IsAnswer new given b → Given new given
one_more true new given e answer = answer
one_more false new given e answer = absurd (cc e)

pub none_more : (b : Bool) (new : Iteration) (given : List Tree) → b ≡ false → IsAnswer new given b → IsAnswer new given false
none_more true new given e answer = absurd (cc e)
none_more false new given e answer = answer

module _ (b : Built) (checked : IsChecked b.g1) (ranges : IsInRange b) (cs : List ℕ) (spans : List Span) (f : Forest) (pieces : List Piece) (of : IsForestOf b cs spans f pieces) where
  start : ℕ
  start = slice_index_or b.g1.starts 0 0

  start_known : start < length b.g1.names
  unfolding start
  start_known = ranges.g1.starts 0 0 checked.some_start

  last_in : (given rest : List Tree) (tree : Tree) → Contains ((given ++ tree ∷ []) ++ rest) tree
  last_in given rest tree = Contains-append_left (given ++ tree ∷ []) rest tree (Contains-append_right given (tree ∷ []) tree (0, omega arith, refl))

  -- one of the forest's list
  listed_derived : (trees : List Tree) → IsListing f trees → (tree : Tree) → Contains trees tree → Derives b.g1 (Held (edges_of pieces)) (slot_of start) 0 (earleme_after pieces) tree
  unfolding start
  listed_derived trees listing tree among =
      subst (λ n. Derives b.g1 (Held (edges_of pieces)) (slot_of (slice_index_or b.g1.starts n 0)) 0 (earleme_after pieces) tree) of.start
      (subst (λ n. Derives b.g1 (Held (edges_of pieces)) (slot_of (slice_index_or b.g1.starts f.start 0)) 0 n tree) of.place
      (subst (λ es. Derives b.g1 (Held es) (slot_of (slice_index_or b.g1.starts f.start 0)) 0 f.place tree) of.edges
      (subst (λ (g : Grammar). Derives g (Held f.edges) (slot_of (slice_index_or g.starts f.start 0)) 0 f.place tree) of.written ((listing.each tree).0 among).0)))

  derived : (new : Iteration) → new.forest ≡ f → (given : List Tree) (tree : Tree) → AreGiven new (given ++ tree ∷ []) → Derives b.g1 (Held (edges_of pieces)) (slot_of start) 0 (earleme_after pieces) tree
  derived new same given tree are =
      listed_derived ((given ++ tree ∷ []) ++ are.first.rest)
      (subst (λ (g : Forest). IsListing g ((given ++ tree ∷ []) ++ are.first.rest)) same are.first.listing) tree (last_in given are.first.rest tree)

  pub spans_are : AreSpans (length cs) spans
  spans_are = (spans_fit b of.given cs pieces spans of.few of.reading of.spans_are).0

  steps_derived : (tree : Tree) → Derives b.g1 (Held (edges_of pieces)) (slot_of start) 0 (earleme_after pieces) tree → AreSteps b.g1 (length spans) (steps_of tree)
  steps_derived tree d =
      let count = (spans_fit b of.given cs pieces spans of.few of.reading of.spans_are).1 in
      steps_fit b pieces start (earleme_after pieces) (length spans) tree start_known (omega (arith, count)) d

  steps_are : (new : Iteration) → new.forest ≡ f → (given : List Tree) (tree : Tree) → AreGiven new (given ++ tree ∷ []) → AreSteps b.g1 (length spans) (steps_of tree)
  steps_are new same given tree are = steps_derived tree (derived new same given tree are)

  -- the one that is asked for can be played
  pub asked_fits : (first : Option ℕ) (list : List Step) → IsAllAsked f first list → AreSteps b.g1 (length spans) list
  asked_fits first list asked =
      subst (AreSteps b.g1 (length spans)) (sym asked.steps_are)
      (steps_derived asked.tree (listed_derived (asked.tree ∷ asked.others) asked.listing asked.tree (0, omega arith, refl)))

  -- what the iterator told of where it stands
  told : (new : Iteration) (given : List Tree) (more : Given new given) (list : List Step) → IfSome new.current (λ steps. list ≡ steps) → list ≡ steps_of more.0
  told new given more list is = subst (λ o. IfSome o (λ steps. list ≡ steps)) more.2 is

  pub can_play : (new : Iteration) → new.forest ≡ f → (given : List Tree) (more : Given new given) (list : List Step) → IfSome new.current (λ steps. list ≡ steps) → AreSteps b.g1 (length spans) list
  can_play new same given more list is = subst (AreSteps b.g1 (length spans)) (sym (told new given more list is)) (steps_are new same given more.0 more.1)

  -- what was appended is the line of the derivation
  pub line_is : (show : Show) (tree : Tree) (w : Grammar) (m : Meaning) (before line : List ℕ) → w ≡ b.g1 → m ≡ b.meaning → before ≡ [] →
      line ≡ before ++ (text_of (value_of show w m (tokens_of cs spans) tree) ++ 10 ∷ []) → line ≡ line_of b show cs pieces tree
  line_is show tree w m before line same_w same_m empty is =
      is
      ∙ ap (λ xs. xs ++ (text_of (value_of show w m (tokens_of cs spans) tree) ++ 10 ∷ [])) empty
      ∙ ap (λ (g : Grammar). text_of (value_of show g m (tokens_of cs spans) tree) ++ 10 ∷ []) same_w
      ∙ ap (λ (n : Meaning). text_of (value_of show b.g1 n (tokens_of cs spans) tree) ++ 10 ∷ []) same_m
      ∙ ap (λ ts. text_of (value_of show b.g1 b.meaning ts tree) ++ 10 ∷ []) (tokens_fit cs spans pieces of.spans_are)

  pub the_line : (show : Show) (new : Iteration) (given : List Tree) (more : Given new given) (list : List Step) → IfSome new.current (λ steps. list ≡ steps) → (w : Grammar) (m : Meaning) (before line : List ℕ) →
      w ≡ b.g1 → m ≡ b.meaning → before ≡ [] → ((t : Tree) → list ≡ steps_of t → line ≡ before ++ (text_of (value_of show w m (tokens_of cs spans) t) ++ 10 ∷ [])) → IsLineOf b show cs pieces new given line true
  the_line show new given more list is w m before line same_w same_m empty each =
      (more.0, more.1, line_is show more.0 w m before line same_w same_m empty (each more.0 (told new given more list is)))
