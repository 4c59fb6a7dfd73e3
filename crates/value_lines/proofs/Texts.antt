-- The text of lines that are written one after the other.
use Rattle.std.proofs.Common.{◌≡◌, ℕ, zero, suc, ◌+◌, ◌<◌, ◌≤◌, List, [], ◌∷◌, ◌++◌, Option, Some, None, Bool, true, false, map, take, length, refl, sym, ap, ◌∙◌, subst, append_assoc, append-nil, length-append, slice_index_or, arith}
use Rattle.std.specs.Prelude.{IfSome}
use Rattle.std.specs.List.{concat, sum_by}
use Rattle.std.specs.Io.KnownBytes.{Appends}
use Rattle.std.proofs.lemmas.List.{take_at, take_all, drop_all, map-append}
use Rattle.std.proofs.lemmas.List.Sums.{sum_by_push}
use Rattle.std.proofs.Math.Seq.{drop-append_seam}
use Rattle.std.proofs.lemmas.List.Folds.{concat-append}
use Rattle.outside_model.specs.Told.{AppendsPrefix}
use Rattle.slif_base.proofs.Bytes.{appends_none, appends_twice}
use Rattle.grammar_model.specs.Trees.{Tree}
use Rattle.grammar_model.specs.Steps.{Step, steps_of}
use Rattle.grammar_model.specs.Grammar.{slot_of}
use Rattle.grammar_model.specs.Derives.{Held}
use Rattle.grammar_model.proofs.ChosenOnce.{chosen_unique}
use Rattle.grammar_model.specs.Text.{text_of}
use Rattle.grammar_model.specs.Values.{value_of}
use Rattle.grammar_model.specs.declared.Show.{Show}
use Rattle.language_model.specs.Building.{Built}
use Rattle.reading_model.specs.Reading.{Piece}
use Rattle.forest_model.specs.Forest.{Forest, IsForest}
use Rattle.forest_model.specs.Listing.{IsListing}
use Rattle.forest_laws.specs.Lists.{trees_by}
use Rattle.forest_laws.proofs.Exact.{forests_have_lists}
use Rattle.recognizer_model.specs.Links.{choices}
use Rattle.run_model.specs.Listing.{line_of, first_of, beyond, tokens_in}
use Rattle.tree_iter.specs.Iteration.{Iteration, AreGiven, IsAnswer, AreFew}
use Rattle.value_lines.specs.Lines.{IsLineOf}
use Rattle.value_lines.specs.Writing.{IsAllAsked, IsWholeLine, IsWithin, StandsAt, AreEnough, AreRest, HaveCome, RestHas, WroteLines}

-- a forest's list is one
pub one_list : (f : Forest) (xs ys : List Tree) → IsListing f xs → IsListing f ys → xs ≡ ys
one_list f xs ys p q = chosen_unique f.written (Held f.edges) f.ranking (slot_of (slice_index_or f.written.starts f.start 0)) 0 f.place xs ys p q

-- ---- of a list, so many of the first

pub within_next : (first : Option ℕ) (limit n : ℕ) → IfSome first (λ m. limit ≡ m) → n < limit → IsWithin first (n + 1)
within_next None limit n is lt = tt
within_next (Some m) limit n is lt = omega (arith, is, lt)

pub within_less : (first : Option ℕ) (n : ℕ) → IsWithin first (n + 1) → IsWithin first n
within_less None n within = tt
within_less (Some m) n within = omega (arith, within)

pub so_many_is : (first : Option ℕ) (m limit n : ℕ) → first ≡ Some m → IfSome first (λ k. limit ≡ k) → limit ≤ n → n ≤ limit → first ≡ Some n
so_many_is None m limit n e is le ge = absurd (cc e)
so_many_is (Some k) m limit n e is le ge = let same : k ≡ n = omega (arith, is, le, ge) in ap Some same

prefix_of_take : {X : Type 0} (m : ℕ) (xs rest : List X) → length xs ≤ m → (tail : List X) × (take m (xs ++ rest) ≡ xs ++ tail)
prefix_of_take m [] rest le = (take m rest, refl)
prefix_of_take zero (x ∷ xs) rest le = absurd (omega (arith, le))
prefix_of_take (suc m) (x ∷ xs) rest le = let r = prefix_of_take m xs rest (omega (arith, le)) in (r.0, ap (λ l. x ∷ l) r.1)

prefix_of_first : {X : Type 0} (first : Option ℕ) (xs rest : List X) → IsWithin first (length xs) → (tail : List X) × (first_of first (xs ++ rest) ≡ xs ++ tail)
prefix_of_first None xs rest within = (rest, refl)
prefix_of_first (Some m) xs rest within = prefix_of_take m xs rest within

pub all_of_first : {X : Type 0} (first : Option ℕ) (xs : List X) → IsWithin first (length xs) → first_of first xs ≡ xs
all_of_first None xs within = refl
all_of_first (Some m) xs within = take_all m xs within

-- ---- what was written

-- the line of a derivation is a whole one
pub whole_line : (b : Built) (show : Show) (cs : List ℕ) (pieces : List Piece) (new : Iteration) (given : List Tree) (line : List ℕ) → IsLineOf b show cs pieces new given line true → IsWholeLine line
whole_line b show cs pieces new given line more = record { text = text_of (value_of show b.g1 b.meaning (tokens_in cs pieces) more.0); ended = more.2 }

-- after those before, so many were given, and their lines were written
pub record HasWritten (b : Built) (show : Show) (cs : List ℕ) (pieces : List Piece) (prior : List Tree) (it : Iteration) (count : ℕ) (old new : Option (List ℕ)) (before after : ℕ) : Type 0 where
  pub given : List Tree
  pub are : AreGiven it (prior ++ given)
  pub count_is : length given ≡ count
  pub stands : StandsAt it given
  pub wrote : WroteLines b show cs pieces given old new before after

pub none_has_written : (b : Built) (show : Show) (cs : List ℕ) (pieces : List Piece) (prior : List Tree) (it : Iteration) (out : Option (List ℕ)) (steps : ℕ) → AreGiven it prior →
    HasWritten b show cs pieces prior it 0 out out steps steps
none_has_written b show cs pieces prior it out steps are = record {
  given = [];
  are = subst (AreGiven it) (sym (append-nil prior)) are;
  count_is = refl;
  stands = λ lt. absurd (omega (arith, lt));
  wrote = record { appends = appends_none out; few = omega arith };
}

-- after some, one is next
next_one : (xs us vs : List Tree) (t u : Tree) → (xs ++ t ∷ []) ++ us ≡ (xs ++ u ∷ []) ++ vs → t ≡ u
next_one [] us vs t u e = cc
next_one (x ∷ xs) us vs t u e = let tails : (xs ++ t ∷ []) ++ us ≡ (xs ++ u ∷ []) ++ vs = cc in next_one xs us vs t u tails

-- the one at which the iterator stands is the one of the line
stands_at : (new : Iteration) (prior given : List Tree) (tree : Tree) → AreGiven new ((prior ++ given) ++ tree ∷ []) → IsAnswer new (prior ++ given) true → StandsAt new (given ++ tree ∷ [])
stands_at new prior given tree are (other, also, stands) lt =
    let same : other ≡ tree = next_one (prior ++ given) also.first.rest are.first.rest other tree (one_list new.forest _ _ also.first.listing are.first.listing) in
    (steps_of tree, stands ∙ ap (λ t. Some (steps_of t)) same, record { front = given; last = tree; is = refl; steps_are = refl })

module _ (b : Built) (show : Show) (cs : List ℕ) (pieces : List Piece) (prior : List Tree) (f : Forest) (first : Option ℕ) where
  abbrev text : List Tree → List ℕ
  text trees = concat (map (line_of b show cs pieces) trees)

  text_of_both : (xs ys : List Tree) → text (xs ++ ys) ≡ text xs ++ text ys
  text_of_both xs ys = ap concat (map-append (line_of b show cs pieces) xs ys) ∙ concat-append (map (line_of b show cs pieces) xs) (map (line_of b show cs pieces) ys)

  text_of_one : (xs : List Tree) (tree : Tree) → text (xs ++ tree ∷ []) ≡ text xs ++ line_of b show cs pieces tree
  text_of_one xs tree = text_of_both xs (tree ∷ []) ∙ ap (λ l. text xs ++ l) (append-nil (line_of b show cs pieces tree))

  -- a prefix of the text of those that were given, and perhaps of others
  prefix_of : (given rest : List Tree) → IsWithin first (length given) → (tail : List ℕ) × (text (first_of first (given ++ rest)) ≡ text given ++ tail)
  prefix_of given rest within =
      let r = prefix_of_first first given rest within in
      (text r.0, ap text r.1 ∙ text_of_both given r.0)

  -- those given, and the others, after those before
  listed : (it : Iteration) → it.forest ≡ f → (given : List Tree) (are : AreGiven it (prior ++ given)) → IsListing f (prior ++ (given ++ are.first.rest))
  listed it same given are =
      subst (λ ts. IsListing f ts) (append_assoc prior given are.first.rest) (subst (λ (g : Forest). IsListing g ((prior ++ given) ++ are.first.rest)) same are.first.listing)

  module _ (it : Iteration) (same : it.forest ≡ f) (count : ℕ) (old new : Option (List ℕ)) (before after : ℕ) (w : HasWritten b show cs pieces prior it count old new before after) where
    pub prefix_written : IsWithin first count → RestHas f prior (λ rest. AppendsPrefix old new (text (first_of first rest)))
    prefix_written within =
        let r = prefix_of w.given w.are.first.rest (subst (IsWithin first) (sym w.count_is) within) in (
          w.given ++ w.are.first.rest,
          listed it same w.given w.are,
          record { bytes = text w.given; rest = r.0; split = r.1; appends = w.wrote.appends },
        )

    pub enough_written : first ≡ Some count → (given : List Tree) × AreEnough prior first it given × WroteLines b show cs pieces given old new before after
    enough_written is = (w.given, record { are = w.are; count = is ∙ ap Some (sym w.count_is); stands = w.stands }, w.wrote)

    pub rest_written : (next : Iteration) (steps : ℕ) → IsListing next.forest (prior ++ w.given) → IsWithin first count → steps ≡ after →
        (given : List Tree) × AreRest prior first next given × WroteLines b show cs pieces given old new before steps
    rest_written next steps listing within none = (
      w.given,
      record { listing = listing; within = subst (IsWithin first) (sym w.count_is) within },
      record { appends = w.wrote.appends; few = subst (λ n. n ≤ before + sum_by choices w.given) (sym none) w.wrote.few },
    )

    module _ (next : Iteration) (line : List ℕ) (more : IsLineOf b show cs pieces next (prior ++ w.given) line true) where
      abbrev tree : Tree
      tree = more.0

      pub one_more_written : IsAnswer next (prior ++ w.given) true → (later : Option (List ℕ)) (steps : ℕ) → AreFew next (prior ++ w.given) true after steps → Appends new later line →
          HasWritten b show cs pieces prior next (count + 1) old later before steps
      one_more_written answer later steps few appends = record {
        given = w.given ++ tree ∷ [];
        are = subst (AreGiven next) (append_assoc prior w.given (more.0 ∷ [])) more.1;
        count_is = length-append w.given (tree ∷ []) ∙ ap (λ n. n + 1) w.count_is;
        stands = stands_at next prior w.given more.0 more.1 answer;
        wrote = record {
          appends = subst (Appends old later) (ap (λ x. text w.given ++ x) more.2 ∙ sym (text_of_one w.given more.0)) (appends_twice old new later (text w.given) line w.wrote.appends appends);
          few = let s = sum_by_push choices w.given more.0 in let was = w.wrote.few in let now = few more.0 more.1 in omega (arith, s, was, now);
        };
      }

      pub line_in_prefix : next.forest ≡ f → IsWithin first (count + 1) → (later : Option (List ℕ)) → AppendsPrefix new later line → RestHas f prior (λ rest. AppendsPrefix old later (text (first_of first rest)))
      line_in_prefix same_next within later part =
          let longer : length (w.given ++ tree ∷ []) ≡ count + 1 = length-append w.given (tree ∷ []) ∙ ap (λ n. n + 1) w.count_is in
          let are : AreGiven next (prior ++ (w.given ++ tree ∷ [])) = subst (AreGiven next) (append_assoc prior w.given (more.0 ∷ [])) more.1 in
          let rest = are.first.rest in
          let r = prefix_of (w.given ++ tree ∷ []) rest (subst (IsWithin first) (sym longer) within) in
          let line_split : text (w.given ++ tree ∷ []) ≡ (text w.given ++ part.bytes) ++ part.rest =
          text_of_one w.given tree ∙ ap (λ l. text w.given ++ l) (sym more.2 ∙ part.split) ∙ sym (append_assoc (text w.given) part.bytes part.rest) in (
            (w.given ++ tree ∷ []) ++ rest,
            listed next same_next (w.given ++ tree ∷ []) are,
            record {
              bytes = text w.given ++ part.bytes;
              rest = part.rest ++ r.0;
              split = r.1 ∙ ap (λ l. l ++ r.0) line_split ∙ append_assoc (text w.given ++ part.bytes) part.rest r.0;
              appends = appends_twice old new later (text w.given) part.bytes w.wrote.appends part.appends;
            },
          )

-- one line is all the text
pub only_text : (b : Built) (show : Show) (cs : List ℕ) (pieces : List Piece) (f : Forest) (first : Option ℕ) (list : List Step) (asked : IsAllAsked f first list) →
    concat (map (line_of b show cs pieces) (first_of first (asked.tree ∷ asked.others))) ≡ line_of b show cs pieces asked.tree
only_text b show cs pieces f first list asked =
    ap (λ ts. concat (map (line_of b show cs pieces) ts)) asked.alone ∙ append-nil (line_of b show cs pieces asked.tree)

-- ---- from the first on

module _ (b : Built) (show : Show) (cs : List ℕ) (pieces : List Piece) (f : Forest) (first : Option ℕ) where
  -- the text of the first derivations of the forest has P
  abbrev pub Has : (List ℕ → Type 0) → Type 0
  Has P = (trees : List Tree) × IsListing f trees × P (concat (map (line_of b show cs pieces) (first_of first trees)))

  pub none_written : IsForest f → (before : Option (List ℕ)) → Has (AppendsPrefix before before)
  none_written is before =
      let listing = (forests_have_lists f is).1.listing in
      let trees = trees_by f (forests_have_lists f is).0 in
      (trees, listing, record { bytes = []; rest = concat (map (line_of b show cs pieces) (first_of first trees)); split = refl; appends = appends_none before })

-- these have come after those before, and these are left: the former are the first of the rest
pub record HasLeft (f : Forest) (prior : List Tree) (first : Option ℕ) (given left : List Tree) : Type 0 where
  pub listing : IsListing f (prior ++ (given ++ left))
  pub first_is : first_of first (given ++ left) ≡ given
  pub beyond_is : beyond first (given ++ left) ≡ left

beyond_all : {X : Type 0} (first : Option ℕ) (xs : List X) → IsWithin first (length xs) → beyond first xs ≡ []
beyond_all None xs within = refl
beyond_all (Some n) xs within = drop_all n xs within

pub left_none : (f : Forest) (prior : List Tree) (first : Option ℕ) (it : Iteration) → it.forest ≡ f → (given : List Tree) → AreRest prior first it given → HasLeft f prior first given []
left_none f prior first it same given are = record {
  listing = subst (λ ts. IsListing f (prior ++ ts)) (sym (append-nil given)) (subst (λ (g : Forest). IsListing g (prior ++ given)) same are.listing);
  first_is = ap (first_of first) (append-nil given) ∙ all_of_first first given are.within;
  beyond_is = ap (beyond first) (append-nil given) ∙ beyond_all first given are.within;
}

pub left_some : (f : Forest) (prior : List Tree) (first : Option ℕ) (given left : List Tree) → first ≡ Some (length given) → IsListing f ((prior ++ given) ++ left) → HasLeft f prior first given left
left_some f prior first given left is listing = record {
  listing = subst (λ ts. IsListing f ts) (append_assoc prior given left) listing;
  first_is = ap (λ o. first_of o (given ++ left)) is ∙ take_at given left (length given) refl;
  beyond_is = ap (λ o. beyond o (given ++ left)) is ∙ drop-append_seam given left;
}

pub come_first : (f : Forest) (first : Option ℕ) (it : Iteration) → it.forest ≡ f → (given : List Tree) (enough : Bool) → HaveCome [] first it given enough → (left : List Tree) × HasLeft f [] first given left
come_first f first it same given true e =
    (e.are.first.rest, left_some f [] first given e.are.first.rest e.count (subst (λ (g : Forest). IsListing g (given ++ e.are.first.rest)) same e.are.first.listing))
come_first f first it same given false e = ([], left_none f [] first it same given e)

module _ (b : Built) (show : Show) (cs : List ℕ) (pieces : List Piece) (f : Forest) (first : Option ℕ) (it : Iteration) (same : it.forest ≡ f) (given : List Tree) (enough : Bool)
    (come : HaveCome [] first it given enough) (old new : Option (List ℕ)) (before after : ℕ) (wrote : WroteLines b show cs pieces given old new before after) where
  pub first_written : Has b show cs pieces f first (Appends old new)
  first_written =
      let (left, has) = come_first f first it same given enough come in
      (given ++ left, has.listing, subst (λ (ts : List Tree). Appends old new (concat (map (line_of b show cs pieces) ts))) (sym has.first_is) wrote.appends)

  pub first_counted : (trees : List Tree) → IsListing f trees → after ≤ before + sum_by choices (first_of first trees)
  first_counted trees listing =
      let (left, has) = come_first f first it same given enough come in
      let are : given ++ left ≡ trees = one_list f (given ++ left) trees has.listing listing in
      subst (λ (ts : List Tree). after ≤ before + sum_by choices (first_of first ts)) are
      (subst (λ (ts : List Tree). after ≤ before + sum_by choices ts) (sym has.first_is) wrote.few)
