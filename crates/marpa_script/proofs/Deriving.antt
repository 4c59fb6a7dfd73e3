-- The lines of derivations that are written one after the other.
use Rattle.std.proofs.Common.{◌≡◌, ◌∙◌, ℕ, zero, suc, ◌+◌, ◌<◌, ◌≤◌, ◌++◌, List, [], ◌∷◌, Bool, true, false, Option, Some, None, IfSome, Contains, length, map, take, refl, sym, ap, subst, arith, length-append, append_assoc, append-nil, slice_index_or}
use Rattle.std.specs.Prelude.{codes, decimal}
use Rattle.std.specs.List.{concat}
use Rattle.std.specs.Io.KnownBytes.{Appends}
use Rattle.std.proofs.lemmas.List.{take_at, take_all, map-append}
use Rattle.std.proofs.lemmas.List.Elements.{Contains-append_right, Contains-append_left}
use Rattle.std.proofs.lemmas.List.Folds.{concat-append}
use Rattle.outside_model.specs.Told.{AppendsPrefix}
use Rattle.slif_base.proofs.Bytes.{appends_none, appends_twice}
use Rattle.grammar_model.specs.Grammar.{Grammar, slot_of}
use Rattle.grammar_model.specs.Trees.{Tree}
use Rattle.grammar_model.specs.Derives.{Held, Derives}
use Rattle.grammar_model.specs.Steps.{Step, steps_of}
use Rattle.forest_model.specs.Forest.{Forest, IsForest}
use Rattle.forest_model.specs.Listing.{IsListing}
use Rattle.forest_laws.specs.Lists.{trees_by}
use Rattle.forest_laws.proofs.Exact.{forests_have_lists}
use Rattle.tree_iter.specs.Iteration.{Iteration, AreGiven, IsAnswer}
use Rattle.script_model.specs.Replies.{as_line, tree_line}
use Rattle.script_trees.specs.Stack.{AreStepsOf}
use Rattle.marpa_script.specs.Listed.{IsOver, IsTreeLine, TellsTrees, TellsAll}
use Rattle.marpa_script.proofs.Following.{nothing_of, then_written, then_broken, broken_before}

-- ---- THE NEXT DERIVATION

abbrev Given : Iteration → List Tree → Type 0
Given new given = (tree : Tree) × AreGiven new (given ++ tree ∷ []) × (new.current ≡ Some (steps_of tree))

pub one_more : (b : Bool) (new : Iteration) (given : List Tree) → b ≡ true → IsAnswer new given b → Given new given
one_more true new given e answer = answer
one_more false new given e answer = absurd (cc e)

module _ (g : Grammar) (f : Forest) (over : IsOver g f) where
  last_in : (given rest : List Tree) (tree : Tree) → Contains ((given ++ tree ∷ []) ++ rest) tree
  last_in given rest tree = Contains-append_left (given ++ tree ∷ []) rest tree (Contains-append_right given (tree ∷ []) tree (0, omega arith, refl))

  derived : (new : Iteration) → new.forest ≡ f → (given : List Tree) (tree : Tree) → AreGiven new (given ++ tree ∷ []) → Derives g (Held f.edges) (slot_of (slice_index_or g.starts f.start 0)) 0 f.place tree
  derived new same given tree are =
      let d = ((are.first.listing.each tree).0 (last_in given are.first.rest tree)).0 in
      let of_f : Derives f.written (Held f.edges) (slot_of (slice_index_or f.written.starts f.start 0)) 0 f.place tree =
      subst (λ (h : Forest). Derives h.written (Held h.edges) (slot_of (slice_index_or h.written.starts h.start 0)) 0 h.place tree) same d in
      subst (λ (h : Grammar). Derives h (Held f.edges) (slot_of (slice_index_or h.starts f.start 0)) 0 f.place tree) over.written of_f

  -- what the iterator told of where it stands
  told : (new : Iteration) (given : List Tree) (more : Given new given) (list : List Step) → IfSome new.current (λ steps. list ≡ steps) → list ≡ steps_of more.0
  told new given more list is = subst (λ o. IfSome o (λ steps. list ≡ steps)) more.2 is

  pub steps_are : (new : Iteration) → new.forest ≡ f → (given : List Tree) (more : Given new given) (list : List Step) → IfSome new.current (λ steps. list ≡ steps) → AreStepsOf g list
  steps_are new same given more list is = record {
    tree = more.0;
    edges = f.edges;
    slot = slot_of (slice_index_or g.starts f.start 0);
    from = 0;
    to = f.place;
    known = over.known;
    derived = derived new same given more.0 more.1;
    are = told new given more list is;
  }

  pub the_line : (new : Iteration) (given : List Tree) (more : Given new given) (list : List Step) → IfSome new.current (λ steps. list ≡ steps) → (line : List ℕ) →
      ((t : Tree) → list ≡ steps_of t → line ≡ tree_line g t) → IsTreeLine g new given line true
  the_line new given more list is line each = (more.0, more.1, each more.0 (told new given more list is))

-- ---- WHAT WAS WRITTEN

-- so many lines were written, those of the derivations that the iterator gave
pub record HasTold (g : Grammar) (it : Iteration) (count : ℕ) (before after : Option (List ℕ)) : Type 0 where
  pub given : List Tree
  pub are : AreGiven it given
  pub count_is : length given ≡ count
  pub appends : Appends before after (concat (map (tree_line g) given))

prefix_of_take : {X : Type 0} (m : ℕ) (xs rest : List X) → length xs ≤ m → (tail : List X) × (take m (xs ++ rest) ≡ xs ++ tail)
prefix_of_take m [] rest le = (take m rest, refl)
prefix_of_take zero (x ∷ xs) rest le = absurd (omega (arith, le))
prefix_of_take (suc m) (x ∷ xs) rest le = let r = prefix_of_take m xs rest (omega (arith, le)) in (r.0, ap (λ l. x ∷ l) r.1)

pub none_told : (g : Grammar) (it : Iteration) (before : Option (List ℕ)) → AreGiven it [] → HasTold g it 0 before before
none_told g it before are = record { given = []; are = are; count_is = refl; appends = appends_none before }

module _ (g : Grammar) (f : Forest) (count : ℕ) where
  abbrev text : List Tree → List ℕ
  text trees = concat (map (tree_line g) trees)

  text_of_both : (xs ys : List Tree) → text (xs ++ ys) ≡ text xs ++ text ys
  text_of_both xs ys = ap concat (map-append (tree_line g) xs ys) ∙ concat-append (map (tree_line g) xs) (map (tree_line g) ys)

  text_of_one : (xs : List Tree) (tree : Tree) → text (xs ++ tree ∷ []) ≡ text xs ++ tree_line g tree
  text_of_one xs tree = text_of_both xs (tree ∷ []) ∙ ap (λ l. text xs ++ l) (append-nil (tree_line g tree))

  -- a prefix of the text of the first ones
  prefix_of : (given rest : List Tree) → length given ≤ count → (tail : List ℕ) × (text (take count (given ++ rest)) ≡ text given ++ tail)
  prefix_of given rest within =
      let r = prefix_of_take count given rest within in
      (text r.0, ap text r.1 ∙ text_of_both given r.0)

  module _ (it : Iteration) (same : it.forest ≡ f) (k : ℕ) (before after : Option (List ℕ)) (told : HasTold g it k before after) where
    listed : IsListing f (told.given ++ told.are.first.rest)
    listed = subst (λ (h : Forest). IsListing h (told.given ++ told.are.first.rest)) same told.are.first.listing

    pub stopped : k < count → TellsTrees g f count (λ n text. AppendsPrefix before after text)
    stopped lt =
        let size = told.count_is in
        let r = prefix_of told.given told.are.first.rest (omega (arith, lt, size)) in
        record { trees = told.given ++ told.are.first.rest; listing = listed; has = record { bytes = text told.given; rest = r.0; split = r.1; appends = told.appends } }

    pub enough_told : count ≤ k → k ≤ count → TellsTrees g f count (λ n text. (count ≡ n) × Appends before after text)
    enough_told ge le =
        let size = told.count_is in
        let so_many : length told.given ≡ count = omega (arith, size, ge, le) in
        record {
          trees = told.given ++ told.are.first.rest;
          listing = listed;
          has = subst (λ (ts : List Tree). (count ≡ length ts) × Appends before after (text ts)) (sym (take_at told.given told.are.first.rest count so_many)) (sym so_many, told.appends);
        }

  module _ (new : Iteration) (same : new.forest ≡ f) (given : List Tree) (k : ℕ) (before middle : Option (List ℕ)) (size : length given ≡ k) (lt : k < count) (appends : Appends before middle (text given)) where
    pub all_given : IsListing new.forest given → TellsTrees g f count (λ n text. (k ≡ n) × Appends before middle text)
    all_given listing = record {
      trees = given;
      listing = subst (λ (h : Forest). IsListing h given) same listing;
      has = subst (λ (ts : List Tree). (k ≡ length ts) × Appends before middle (text ts)) (sym (take_all count given (omega (arith, size, lt)))) (sym size, appends);
    }

    module _ (line : List ℕ) (after : Option (List ℕ)) (more : IsTreeLine g new given line true) where
      pub one_more_told : Appends middle after line → HasTold g new (k + 1) before after
      one_more_told l = record {
        given = given ++ more.0 ∷ [];
        are = more.1;
        count_is = length-append given (more.0 ∷ []) ∙ ap (λ n. n + 1) size;
        appends = subst (Appends before after) (ap (λ x. text given ++ x) more.2 ∙ sym (text_of_one given more.0)) (appends_twice before middle after (text given) line appends l);
      }

      pub broken_line : AppendsPrefix middle after line → TellsTrees g f count (λ n text. AppendsPrefix before after text)
      broken_line part =
          let longer : length (given ++ more.0 ∷ []) ≡ k + 1 = length-append given (more.0 ∷ []) ∙ ap (λ n. n + 1) size in
          let rest = more.1.first.rest in
          let r = prefix_of (given ++ more.0 ∷ []) rest (omega (arith, longer, lt)) in
          let line_split : text (given ++ more.0 ∷ []) ≡ (text given ++ part.bytes) ++ part.rest =
          text_of_one given more.0 ∙ ap (λ l. text given ++ l) (sym more.2 ∙ part.split) ∙ sym (append_assoc (text given) part.bytes part.rest) in
          record {
            trees = (given ++ more.0 ∷ []) ++ rest;
            listing = subst (λ (h : Forest). IsListing h ((given ++ more.0 ∷ []) ++ rest)) same more.1.first.listing;
            has = record {
              bytes = text given ++ part.bytes;
              rest = part.rest ++ r.0;
              split = r.1 ∙ ap (λ l. l ++ r.0) line_split ∙ append_assoc (text given ++ part.bytes) part.rest r.0;
              appends = appends_twice before middle after (text given) part.bytes appends part.appends;
            };
          }

-- ---- AND HOW MANY THERE ARE

module _ (g : Grammar) (f : Forest) (count : ℕ) (old mid new : Option (List ℕ)) where
  abbrev count_line : ℕ → List ℕ
  count_line n = as_line (codes "trees " ++ decimal n)

  module _ (k : ℕ) (t : TellsTrees g f count (λ n text. (k ≡ n) × Appends old mid text)) where
    pub told_all : Appends mid new (count_line k) → TellsAll g f count (Appends old new)
    told_all more = record {
      trees = t.trees;
      listing = t.listing;
      has = then_written (map (tree_line g) (take count t.trees)) (count_line (length (take count t.trees))) old mid new t.has.1 (subst (λ n. Appends mid new (count_line n)) t.has.0 more);
    }

    pub broken_count : AppendsPrefix mid new (count_line k) → TellsAll g f count (AppendsPrefix old new)
    broken_count part = record {
      trees = t.trees;
      listing = t.listing;
      has = then_broken (map (tree_line g) (take count t.trees)) (count_line (length (take count t.trees))) old mid new t.has.1 (subst (λ n. AppendsPrefix mid new (count_line n)) t.has.0 part);
    }

pub broken_trees : (g : Grammar) (f : Forest) (count : ℕ) (old new : Option (List ℕ)) → TellsTrees g f count (λ n text. AppendsPrefix old new text) → TellsAll g f count (AppendsPrefix old new)
broken_trees g f count old new t = record {
  trees = t.trees;
  listing = t.listing;
  has = broken_before (map (tree_line g) (take count t.trees)) (as_line (codes "trees " ++ decimal (length (take count t.trees))) ∷ []) old new t.has;
}

-- nothing was written
pub nothing_told : (g : Grammar) (f : Forest) (count : ℕ) (old : Option (List ℕ)) → IsForest f → TellsAll g f count (AppendsPrefix old old)
nothing_told g f count old is =
    let trees = trees_by f (forests_have_lists f is).0 in
    record {
      trees = trees;
      listing = (forests_have_lists f is).1.listing;
      has = nothing_of (concat (map (tree_line g) (take count trees) ++ as_line (codes "trees " ++ decimal (length (take count trees))) ∷ [])) old;
    }
