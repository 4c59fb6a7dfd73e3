-- Derivations by their cursors.
use Rattle.std.proofs.Common.{◌≡◌, ℕ, suc, ◌+◌, ◌-◌, ◌<◌, ◌≤◌, inl, inr, List, [], ◌∷◌, ◌++◌, Bool, true, false, Result, Ok, Err, Contains, length, refl, sym, ap, ◌∙◌, subst, arith, slice_index_or}
use Rattle.std.specs.Prelude.{IfOk, OnErr, IsFalse, IsTrue}
use Rattle.std.proofs.lemmas.List.{length-append}
use Rattle.finite_sets.proofs.Members.{Among, among_from}
use Rattle.grammar_model.specs.Grammar.{Grammar, slot_of}
use Rattle.grammar_model.specs.Trees.{Tree}
use Rattle.grammar_model.specs.Steps.{Step, TokenStep, NulledStep, RuleStep, steps_of}
use Rattle.grammar_model.specs.Checked.{IsChecked}
use Rattle.grammar_model.specs.declared.Show.TheVariants as show
use Rattle.grammar_core.specs.Written.{IsWritten}
use Rattle.grammar_core.specs.declared.steps.Span.{Span}
use Rattle.cursor_model.specs.Cursor.{step_text, cursor_text}
use Rattle.cursor_model.specs.Laid.{AreSmall, IsLaid, Spells}
use Rattle.cursor_model.proofs.Bare.{cursors_tell_trees, derivations_are_laid}
use Rattle.language_model.specs.Building.{Built}
use Rattle.dsl_build.specs.Ranges.{IsInRange}
use Rattle.forest_model.specs.Forest.{Forest}
use Rattle.forest_model.specs.Listing.{IsListing}
use Rattle.tree_iter.specs.Iteration.{Iteration, AreGiven, EndsAt, HasNone, at_steps}
use Rattle.valuator.specs.Play.{AreSteps, CanTellAll}
use Rattle.valuator.proofs.Derived.{each_can_tell}
use Rattle.value_lines.proofs.Fitting as fitting
use Rattle.value_lines.proofs.Pages.{edges_one}
use Rattle.text_reading.specs.Parts.{HasForest}
use Rattle.slif_parser.specs.Views.{IsUnderWay}
use Rattle.slif_parser.specs.Readings.{IsCursorOf, LacksCursor}
use Rattle.slif_parser.proofs.Going.{seen, all_of}

-- A CURSOR OF STEPS

step_long : (s : Step) → 0 < length (step_text s)
step_long (TokenStep symbol from to) = omega arith
step_long (NulledStep symbol at) = omega arith
step_long (RuleStep rule children from to) = omega arith

-- a byte for each step at least
cursor_long : (ss : List Step) → length ss ≤ length (cursor_text ss)
cursor_long [] = omega arith
cursor_long (s ∷ []) = step_long s
cursor_long (s ∷ t ∷ ss) =
    let own = step_long s in
    let rest = cursor_long (t ∷ ss) in
    let all = length-append (step_text s) (46 ∷ cursor_text (t ∷ ss)) in
    omega (arith, own, rest, all)

-- the numbers of steps that can be told are not too great
small_all : (g : Grammar) → IsWritten g → (places held : ℕ) (steps : List Step) → held + length steps ≤ 4294967295 → CanTellAll g places held steps → AreSmall steps
small_all g written places held [] few can = tt
small_all g written places held (TokenStep s a b ∷ steps) few (can, rest) =
    let names = written.few_names in
    let known = can.0 in
    (omega (arith, names, known), small_all g written places (suc held) steps (omega (arith, few)) rest)
small_all g written places held (NulledStep s a ∷ steps) few (can, rest) =
    let names = written.few_names in
    let known = can.0 in
    (omega (arith, names, known), small_all g written places (suc held) steps (omega (arith, few)) rest)
small_all g written places held (RuleStep i n a b ∷ steps) few ((in_range, lhs, complete, order, inside, enough), rest) =
    let rules = written.few_rules in
    ((omega (arith, rules, in_range), omega (arith, few, enough)), small_all g written places (suc (held - n)) steps (omega (arith, few)) rest)

-- A DERIVATION OF A LIST

record IsParted (trees : List Tree) (tree : Tree) : Type 0 where
  front : List Tree
  rest : List Tree
  is : trees ≡ (front ++ tree ∷ []) ++ rest

parted : (trees : List Tree) (tree : Tree) → Among tree trees → IsParted trees tree
parted [] tree m = absurd m
parted (t ∷ ts) tree (inl e) = record { front = []; rest = ts; is = ap (λ x. x ∷ ts) e }
parted (t ∷ ts) tree (inr m) = let r = parted ts tree m in record { front = t ∷ r.front; rest = r.rest; is = ap (λ l. t ∷ l) r.is }

module _ (b : Built) (checked : IsChecked b.g1) (ranges : IsInRange b) (lexemes cs : List ℕ) (spans : List Span) (f : Forest) (has : HasForest b lexemes f.ranking cs spans f) where
  can_play : (front rest : List Tree) (tree : Tree) → IsListing f ((front ++ tree ∷ []) ++ rest) → AreSteps b.g1 (length spans) (steps_of tree)
  can_play front rest tree listing =
      let are : AreGiven (at_steps f (steps_of tree)) (front ++ tree ∷ []) =
      record { first = record { rest = rest; listing = listing }; are_before = record { front = front; last = tree; is = refl; steps_are = refl } } in
      fitting.can_play b checked ranges cs spans f has.pieces has.of (at_steps f (steps_of tree)) refl front (tree, are, refl) (steps_of tree) refl

  way_at : (steps : List Step) (given : List Tree) → AreGiven (at_steps f steps) given → IsUnderWay b lexemes cs spans (at_steps f steps)
  way_at steps given are =
      let ends : EndsAt given steps = are.are_before in
      let listing : IsListing f ((ends.front ++ ends.last ∷ []) ++ are.first.rest) = subst (λ ts. IsListing f (ts ++ are.first.rest)) ends.is are.first.listing in
      record {
        has = has;
        given = given;
        are = are;
        steps = subst (AreSteps b.g1 (length spans)) ends.steps_are (can_play ends.front are.first.rest ends.last listing);
      }

  laid : (trees : List Tree) → IsListing f trees → (tree : Tree) → Contains trees tree → IsLaid 0 f.place tree
  laid trees listing tree among =
      derivations_are_laid f.written f.edges (slot_of (slice_index_or f.written.starts f.start 0)) 0 f.place tree (edges_one b cs spans f has.pieces has.of) ((listing.each tree).0 among).0

  -- a cursor spells its derivation
  spelled : IsWritten b.g1 → (trees : List Tree) → IsListing f trees → (tree : Tree) → Contains trees tree → (text : List ℕ) → IsCursorOf text tree → Spells text tree
  spelled written trees listing tree among text is =
      let p = parted trees tree (among_from trees tree among) in
      let steps = can_play p.front p.rest tree (subst (λ ts. IsListing f ts) p.is listing) in
      let told : CanTellAll b.g1 (length spans) 0 (steps_of tree) = each_can_tell b.g1 written (length spans) (steps_of tree) ((show.Tree, []) ∷ []) steps 0 (show.Tree, []) (omega arith) in
      let long = cursor_long (steps_of tree) in
      let within = is.within in
      let same = ap length is.is in
      record {
        within = is.within;
        end = f.place;
        laid = laid trees listing tree among;
        small = small_all b.g1 written (length spans) 0 (steps_of tree) (omega (arith, long, within, same)) told;
        is = is.is;
      }

  -- the derivations that are given have no such cursor
  abbrev pub NoneHas : List ℕ → Type 0
  NoneHas text = (trees : List Tree) → IsListing f trees → (tree : Tree) → Contains trees tree → IsCursorOf text tree → ⊥

  pub none_spelled : IsWritten b.g1 → (text : List ℕ) → ((tree : Tree) → Spells text tree → ⊥) → NoneHas text
  none_spelled written text none trees listing tree among is = none tree (spelled written trees listing tree among text is)

  pub none_stepped : (text : List ℕ) (steps : List Step) (tree : Tree) → Spells text tree → steps ≡ steps_of tree → HasNone f steps → NoneHas text
  none_stepped text steps tree spells are none trees listing other among is =
      let same : tree ≡ other = cursors_tell_trees tree other 0 spells.end f.place spells.laid (laid trees listing other among) (sym spells.is ∙ is.is) in
      none trees listing other among (ap steps_of (sym same) ∙ sym are)

-- GOING TO ONE

module _ (b : Built) (checked : IsChecked b.g1) (ranges : IsInRange b) (lexemes cs : List ℕ) (spans : List Span) (old new : Iteration) (way : IsUnderWay b lexemes cs spans old) (steps : List Step) where
  abbrev Found : Type 0
  Found = (new ≡ at_steps old.forest steps) × ((given : List Tree) × AreGiven new given)

  found_way : Found → IsUnderWay b lexemes cs spans new
  found_way (is, (given, are)) =
      subst (IsUnderWay b lexemes cs spans) (sym is) (way_at b checked ranges lexemes cs spans old.forest way.has steps given (subst (λ (i : Iteration). AreGiven i given) is are))

  pub goes_to : {E : Type 0} (r : Result Bool E) → IfOk r (λ found. IsTrue found → Found) → IfOk r (λ found. IsFalse found → (new ≡ old) × HasNone old.forest steps) → OnErr r (new ≡ old) →
      IsUnderWay b lexemes cs spans new
  goes_to (Ok true) found missed err = found_way (found refl)
  goes_to (Ok false) found missed err = subst (IsUnderWay b lexemes cs spans) (sym (missed refl).0) way
  goes_to (Err e) found missed err = subst (IsUnderWay b lexemes cs spans) (sym err) way

-- none of all derivations has a cursor
pub lacks : (b : Built) (checked : IsChecked b.g1) (ranges : IsInRange b) (lexemes cs : List ℕ) (spans : List Span) (it : Iteration) (way : IsUnderWay b lexemes cs spans it) (text : List ℕ) →
    NoneHas b checked ranges lexemes cs spans it.forest way.has text → LacksCursor (seen b lexemes cs spans it way) text
lacks b checked ranges lexemes cs spans it way text none = record {
  trees = way.given ++ way.are.first.rest;
  all = all_of b lexemes cs spans it way (way.given ++ way.are.first.rest) way.are.first.listing;
  none = none (way.given ++ way.are.first.rest) way.are.first.listing;
}

pub missed_told : {E : Type 0} (b : Built) (checked : IsChecked b.g1) (ranges : IsInRange b) (lexemes cs : List ℕ) (spans : List Span) (old new : Iteration) (way : IsUnderWay b lexemes cs spans old) (text : List ℕ) (steps : List Step) →
    ((tree : Tree) × Spells text tree × (steps ≡ steps_of tree)) → (r : Result Bool E) → IfOk r (λ found. IsFalse found → (new ≡ old) × HasNone old.forest steps) →
    IfOk r (λ found. IsFalse found → LacksCursor (seen b lexemes cs spans old way) text)
missed_told b checked ranges lexemes cs spans old new way text steps (tree, spells, are) (Ok found) missed = λ no.
    lacks b checked ranges lexemes cs spans old way text (none_stepped b checked ranges lexemes cs spans old.forest way.has text steps tree spells are (missed no).1)
missed_told b checked ranges lexemes cs spans old new way text steps told (Err e) missed = missed
