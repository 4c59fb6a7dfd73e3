-- Pages: places in the list of derivations by their texts, and the text of a page.
use Rattle.std.proofs.Common.{◌≡◌, ℕ, ◌+◌, ◌*◌, ◌<◌, ◌≤◌, inr, List, [], ◌∷◌, ◌++◌, Option, Some, None, true, false, Result, Ok, Err, Contains, map, take, length, refl, sym, ap, ◌∙◌, subst, append_assoc, append-nil, slice_index_or, arith, lit≤}
use Rattle.std.specs.Prelude.{IsSome, IfSome, IfErr, IsErrAnd}
use Rattle.std.specs.List.{concat, sum_by}
use Rattle.std.specs.Io.KnownBytes.{Appends}
use Rattle.std.proofs.lemmas.List.{append_cancel_left}
use Rattle.std.proofs.lemmas.List.Folds.{concat-append}
use Rattle.std.proofs.lemmas.List.Sums.{sum_by-append}
use Rattle.std.proofs.lemmas.List.Elements.{Contains-append_right, Contains-append_left}
use Rattle.outside_model.specs.Told.{AppendsPrefix}
use Rattle.slif_base.proofs.Bytes.{appends_none, appends_twice, rose_before}
use Rattle.grammar_model.specs.Grammar.{slot_of}
use Rattle.grammar_model.specs.Trees.{Tree}
use Rattle.grammar_model.specs.Steps.{Step, steps_of}
use Rattle.grammar_model.specs.declared.Show.{Show}
use Rattle.grammar_core.specs.declared.steps.Span.{Span}
use Rattle.grammar_model.specs.declared.limits.TheConstants.{LONGEST_CURSOR}
use Rattle.cursor_model.specs.Cursor.{cursor_of, cursor_text}
use Rattle.cursor_model.specs.Laid.{IsLaid}
use Rattle.cursor_model.specs.Laws.{AreUnits}
use Rattle.cursor_model.specs.Rest.{start_text, place_after, IsPlaceOf, NamesNone}
use Rattle.cursor_model.proofs.Bare.{has_first, cursors_tell_trees, derivations_are_laid}
use Rattle.cursor_model.proofs.Texts.{first_letter}
use Rattle.recognizer_model.specs.Links.{choices}
use Rattle.language_model.specs.Building.{Built}
use Rattle.reading_model.specs.Reading.{Piece}
use Rattle.forest_model.specs.Forest.{Forest}
use Rattle.forest_model.specs.Listing.{IsListing}
use Rattle.run_model.specs.Listing.{line_of, first_of, beyond}
use Rattle.run_model.specs.More.{last_line, last_steps, page_lines}
use Rattle.run_model.specs.Outside.{Stream}
use Rattle.run_model.proofs.Units.{units}
use Rattle.tree_iter.specs.Iteration.{Iteration, EndsAt, AreBefore, AreGiven, IsAnswer}
use Rattle.value_lines.specs.declared.writing.WriteRefusal.{WriteRefusal}
use Rattle.value_lines.specs.declared.writing.WriteRefusal.TheVariants.{WriteFault, NoMemory}
use Rattle.value_lines.specs.Paging.{count_at, at_place, page_refusal, IsPlaceTold, LacksPlace, PageHas, PageStops}
use Rattle.value_lines.specs.Lines.{IsForestOf}
use Rattle.value_lines.specs.Writing.{RestHas, TextStops}
use Rattle.value_lines.proofs.Texts.{HasLeft, one_list}

pub passed_on : {T X : Type 0} (P : X → Type 0) (r : Result T X) (e : X) → IsErrAnd r (λ x. x ≡ e) → P e → IfErr r P
passed_on P (Ok x) e is holds = tt
passed_on P (Err x) e is holds = subst P (sym is) holds

-- ---- the text of a place

last_place : (text : List ℕ) (front : List Tree) (last : Tree) → place_after text (front ++ last ∷ []) ≡ cursor_of last
last_place text [] last = refl
last_place text (t ∷ front) last = last_place (cursor_of t) front last

pub place_ends : (text : List ℕ) (given : List Tree) (steps : List Step) → EndsAt given steps → place_after text given ≡ cursor_text steps
place_ends text given steps e = ap (place_after text) e.is ∙ last_place text e.front e.last ∙ ap cursor_text e.steps_are

-- with none given, the text is the one that is handed in
pub place_stays : (text : List ℕ) (first : Option ℕ) (given : List Tree) → first ≡ Some 0 → first ≡ Some (length given) → place_after text given ≡ text
place_stays text first [] none count = refl
place_stays text first (t ∷ given) none count = let e : Some 0 ≡ Some (length (t ∷ given)) = sym none ∙ count in let n : 0 ≡ length (t ∷ given) = cc in absurd (omega (arith, n))

pub some_given : (first : Option ℕ) (given : List Tree) → (first ≡ Some 0 → ⊥) → first ≡ Some (length given) → 0 < length given
some_given first [] some count = absurd (some count)
some_given first (t ∷ given) some count = omega arith

-- the iterator stands at the last of those given
abbrev StandsSo : Iteration → List Tree → Type 0
StandsSo it given = (steps : List Step) × (it.current ≡ Some steps) × EndsAt given steps

pub current_known : (it : Iteration) (given : List Tree) → StandsSo it given → IsSome it.current
current_known it given (steps, is, ends) = subst IsSome (sym is) refl

pub place_shown : (it : Iteration) (text : List ℕ) (given : List Tree) (shown : List Step) → StandsSo it given → IfSome it.current (λ steps. shown ≡ steps) → place_after text given ≡ cursor_text shown
place_shown it text given shown (steps, is, ends) same =
    let are : shown ≡ steps = subst (λ o. IfSome o (λ ss. shown ≡ ss)) is same in
    place_ends text given steps ends ∙ ap cursor_text (sym are)

steps_last : (front : List Tree) (last : Tree) → last_steps (front ++ last ∷ []) ≡ length (steps_of last)
steps_last [] last = refl
steps_last (t ∷ []) last = refl
steps_last (t ∷ u ∷ front) last = steps_last (u ∷ front) last

pub count_is : (f : Forest) (to : Option (List Step)) (given : List Tree) → AreBefore f false to given → count_at to ≡ last_steps given
count_is f None given e = sym (ap last_steps e)
count_is f (Some steps) given e = sym (ap length e.steps_are) ∙ sym (steps_last e.front e.last) ∙ sym (ap last_steps e.is)

place_is : (f : Forest) (after : List ℕ) (to : Option (List Step)) (given : List Tree) → IsPlaceTold after to → AreBefore f false to given → after ≡ place_after start_text given
place_is f after None given told e = told ∙ ap (place_after start_text) (sym e)
place_is f after (Some steps) given (tree, spells, is) e = spells.is ∙ ap cursor_text (sym is) ∙ sym (place_ends start_text given steps e)

place_within : (after : List ℕ) (to : Option (List Step)) → IsPlaceTold after to → length after ≤ LONGEST_CURSOR
place_within after None told = subst (λ (a : List ℕ). length a ≤ LONGEST_CURSOR) (sym told) (lit≤ tt)
place_within after (Some steps) (tree, spells, is) = spells.within

pub place_named : (f : Forest) (after : List ℕ) (to : Option (List Step)) (given rest : List Tree) → IsPlaceTold after to → AreBefore f false to given → IsPlaceOf after (given ++ rest) given rest
place_named f after to given rest told e = record { parts = refl; within = place_within after to told; is = place_is f after to given told e }

-- ---- what a text names

no_start : (t : Tree) → cursor_of t ≡ start_text → ⊥
no_start t e =
    let x = has_first t in
    first_letter x.first x.others 48 [] (omega arith) (ap cursor_text (sym x.is) ∙ e)

record HasLast (ts : List Tree) : Type 0 where
  front : List Tree
  last : Tree
  is : ts ≡ front ++ last ∷ []

has_last : (t : Tree) (ts : List Tree) → HasLast (t ∷ ts)
has_last t [] = record { front = []; last = t; is = refl }
has_last t (u ∷ ts) = let r = has_last u ts in record { front = t ∷ r.front; last = r.last; is = ap (λ l. t ∷ l) r.is }

place_of_last : (text : List ℕ) (ts : List Tree) (l : HasLast ts) → place_after text ts ≡ cursor_of l.last
place_of_last text ts l = ap (place_after text) l.is ∙ last_place text l.front l.last

last_in : (front rest trees : List Tree) (last : Tree) → trees ≡ (front ++ last ∷ []) ++ rest → Contains trees last
last_in front rest trees last e = subst (λ (ts : List Tree). Contains ts last) (sym e) (Contains-append_left (front ++ last ∷ []) rest last (Contains-append_right front (last ∷ []) last (0, omega arith, refl)))

module _ (f : Forest) (one : AreUnits f.edges) (trees : List Tree) (listing : IsListing f trees) where
  laid : (t : Tree) → Contains trees t → IsLaid 0 f.place t
  laid t c = derivations_are_laid f.written f.edges (slot_of (slice_index_or f.written.starts f.start 0)) 0 f.place t one ((listing.each t).0 c).0

  -- the place that the text names is the one at these steps
  pub named_at : (after : List ℕ) (to : Option (List Step)) (given rest : List Tree) → IsPlaceTold after to → IsPlaceOf after trees given rest → AreBefore f false to given
  named_at after None [] rest told place = refl
  named_at after None (t ∷ given) rest told place = absurd (let l = has_last t given in no_start l.last (sym (place_of_last start_text (t ∷ given) l) ∙ sym place.is ∙ told))
  named_at after (Some steps) [] rest (tree, spells, is) place = absurd (no_start tree (sym spells.is ∙ place.is))
  named_at after (Some steps) (t ∷ given) rest (tree, spells, is) place =
      let l = has_last t given in
      let among = last_in l.front rest trees l.last (place.parts ∙ ap (λ ts. ts ++ rest) l.is) in
      let same : tree ≡ l.last = cursors_tell_trees tree l.last 0 spells.end f.place spells.laid (laid l.last among) (sym spells.is ∙ place.is ∙ place_of_last start_text (t ∷ given) l) in
      record { front = l.front; last = l.last; is = l.is; steps_are = ap steps_of (sym same) ∙ sym is }

  pub names_none : (after : List ℕ) (to : Option (List Step)) → IsPlaceTold after to → LacksPlace f to → NamesNone trees after
  names_none after None told lacks = absurd lacks
  names_none after (Some steps) told lacks = λ given rest place.
      let e = named_at after (Some steps) given rest told place in
      lacks trees listing e.last (last_in e.front rest trees e.last (place.parts ∙ ap (λ ts. ts ++ rest) e.is)) e.steps_are

-- ---- the last line

-- one more was given, and those after it are left
pub left_more : (f : Forest) (prior : List Tree) (new : Iteration) → new.forest ≡ f → (answer : IsAnswer new prior true) → IsListing f (prior ++ (answer.0 ∷ answer.1.first.rest))
left_more f prior new same (tree, are, stands) =
    subst (λ ts. IsListing f ts) (append_assoc prior (tree ∷ []) are.first.rest) (subst (λ (g : Forest). IsListing g ((prior ++ tree ∷ []) ++ are.first.rest)) same are.first.listing)

-- those were all
pub left_end : (f : Forest) (prior : List Tree) (new : Iteration) → new.forest ≡ f → IsAnswer new prior false → IsListing f (prior ++ [])
left_end f prior new same all = subst (λ ts. IsListing f ts) (sym (append-nil prior)) (subst (λ (g : Forest). IsListing g prior) same all)

-- ---- the text of a page

module _ (b : Built) (show : Show) (first : Option ℕ) (after cs : List ℕ) (pieces : List Piece) where
  abbrev lines : List Tree → List ℕ
  lines trees = concat (map (line_of b show cs pieces) trees)

  abbrev page : List Tree → List ℕ
  page rest = concat (page_lines b show first after cs pieces rest)

  page_parts : (rest : List Tree) → page rest ≡ lines (first_of first rest) ++ last_line after (first_of first rest) (beyond first rest)
  page_parts rest =
      concat-append (map (line_of b show cs pieces) (first_of first rest)) (last_line after (first_of first rest) (beyond first rest) ∷ [])
      ∙ ap (λ l. lines (first_of first rest) ++ l) (append-nil (last_line after (first_of first rest) (beyond first rest)))

  page_is : (rest given left : List Tree) → first_of first rest ≡ given → beyond first rest ≡ left → page rest ≡ lines given ++ last_line after given left
  page_is rest given left x y = page_parts rest ∙ ap (λ g. lines g ++ last_line after g (beyond first rest)) x ∙ ap (λ l. lines given ++ last_line after given l) y

  -- a prefix of the lines is one of the page
  pub lines_stop : (f : Forest) (prior : List Tree) (old new : Stream) (refusal : WriteRefusal) → RestHas f prior (λ rest. TextStops old new refusal (lines (first_of first rest))) →
      RestHas f prior (λ rest. TextStops old new refusal (page rest))
  lines_stop f prior old new refusal (rest, listing, stops) = (rest, listing, by refusal stops)
    where
      longer : AppendsPrefix old.bytes new.bytes (lines (first_of first rest)) → AppendsPrefix old.bytes new.bytes (page rest)
      longer part = record {
        bytes = part.bytes;
        rest = part.rest ++ last_line after (first_of first rest) (beyond first rest);
        split = page_parts rest ∙ ap (λ l. l ++ last_line after (first_of first rest) (beyond first rest)) part.split ∙ append_assoc part.bytes part.rest (last_line after (first_of first rest) (beyond first rest));
        appends = part.appends;
      }

      by : (r : WriteRefusal) → TextStops old new r (lines (first_of first rest)) → TextStops old new r (page rest)
      by WriteFault (rose, part) = (rose, longer part)
      by NoMemory part = longer part

  module _ (f : Forest) (prior given left : List Tree) (has : HasLeft f prior first given left) (old middle new : Stream) (wrote : Appends old.bytes middle.bytes (lines given)) where
    -- the last line was written behind the lines
    pub page_ends : Appends middle.bytes new.bytes (last_line after given left) → Appends old.bytes new.bytes (page (given ++ left))
    page_ends last = subst (Appends old.bytes new.bytes) (sym (page_is (given ++ left) given left has.first_is has.beyond_is)) (appends_twice old.bytes middle.bytes new.bytes (lines given) (last_line after given left) wrote last)

    behind : AppendsPrefix middle.bytes new.bytes (last_line after given left) → AppendsPrefix old.bytes new.bytes (page (given ++ left))
    behind part = record {
      bytes = lines given ++ part.bytes;
      rest = part.rest;
      split = page_is (given ++ left) given left has.first_is has.beyond_is ∙ ap (λ l. lines given ++ l) part.split ∙ sym (append_assoc (lines given) part.bytes part.rest);
      appends = appends_twice old.bytes middle.bytes new.bytes (lines given) part.bytes wrote part.appends;
    }

    -- or not all of it
    pub page_stops : (refusal : WriteRefusal) → old.faults ≤ middle.faults → TextStops middle new refusal (last_line after given left) → TextStops old new refusal (page (given ++ left))
    page_stops WriteFault later (rose, part) = (rose_before old.faults middle.faults new.faults later rose, behind part)
    page_stops NoMemory later part = behind part

    -- in at most as many steps as those given have choices, and the one after them
    pub page_few : (start between end : ℕ) → between ≤ start + sum_by choices given → end ≤ between + sum_by choices (take 1 left) →
        end ≤ start + sum_by choices (first_of first (given ++ left) ++ take 1 (beyond first (given ++ left)))
    page_few start between end lines last =
        let both = sum_by-append choices given (take 1 left) in
        let here : end ≤ start + sum_by choices (given ++ take 1 left) = omega (arith, both, lines, last) in
        subst (λ (ts : List Tree). end ≤ start + sum_by choices (first_of first (given ++ left) ++ take 1 ts)) (sym has.beyond_is)
        (subst (λ (ts : List Tree). end ≤ start + sum_by choices (ts ++ take 1 left)) (sym has.first_is) here)

-- a text before anything of it was written
pub none_yet : (out : Option (List ℕ)) (text : List ℕ) → AppendsPrefix out out text
none_yet out text = record { bytes = []; rest = text; split = refl; appends = appends_none out }

pub one_few : (before after : ℕ) (tree : Tree) (left : List Tree) → after ≤ before + choices tree → after ≤ before + sum_by choices (take 1 (tree ∷ left))
one_few before after tree left few = let s : sum_by choices (take 1 (tree ∷ left)) ≡ choices tree = omega arith in omega (arith, s, few)

-- ---- pages of a forest

pub edges_one : (b : Built) (cs : List ℕ) (spans : List Span) (f : Forest) (pieces : List Piece) → IsForestOf b cs spans f pieces → AreUnits f.edges
edges_one b cs spans f pieces of = subst AreUnits (sym of.edges) (units pieces)

module _ (b : Built) (show : Show) (first : Option ℕ) (after cs : List ℕ) (spans : List Span) (f : Forest) (to : Option (List Step)) (told : IsPlaceTold after to) where
  pub page_has : (P : List ℕ → Type 0) (it : Iteration) (before : List Tree) → it ≡ at_place f to → AreGiven it before →
      ((pieces : List Piece) → IsForestOf b cs spans f pieces → RestHas f before (λ rest. P (concat (page_lines b show first after cs pieces rest)))) → PageHas b show first after cs spans f P
  page_has P it before is are each = λ pieces of.
      let (rest, listing, holds) = each pieces of in
      let at = (subst (λ (i : Iteration). AreGiven i before) is are).are_before in
      (before ++ rest, before, rest, listing, place_named f after to before rest told at, holds)

  pub page_refused : (old new : Stream) (why : WriteRefusal) → PageHas b show first after cs spans f (λ text. TextStops old new why text) →
      PageStops b show first after cs spans f old new (page_refusal why)
  page_refused old new WriteFault has = has
  page_refused old new NoMemory has = inr has

  pub page_counted : (pieces : List Piece) → IsForestOf b cs spans f pieces → (it : Iteration) → it ≡ at_place f to → (cost : List Tree → ℕ) (start between end : ℕ) → between ≤ start + 7 * count_at to →
      ((before : List Tree) → AreGiven it before → RestHas f before (λ rest. end ≤ between + cost rest)) →
      (trees given rest : List Tree) → IsListing f trees → IsPlaceOf after trees given rest → end ≤ start + 7 * last_steps given + cost rest
  page_counted pieces of it is cost start between end few each trees given rest listing place =
      let at = named_at f (edges_one b cs spans f pieces of) trees listing after to given rest told place in
      let parted : IsListing f (given ++ rest) = subst (λ ts. IsListing f ts) place.parts listing in
      let are : AreGiven it given = subst (λ (i : Iteration). AreGiven i given) (sym is) (record { first = record { rest = rest; listing = parted }; are_before = at }) in
      let (others, also, within) = each given are in
      let same : others ≡ rest = append_cancel_left given others rest (one_list f (given ++ others) (given ++ rest) also parted) in
      let costs : end ≤ between + cost rest = subst (λ ts. end ≤ between + cost ts) same within in
      let count = count_is f to given at in
      omega (arith, few, costs, count)
