-- The derivations of a start have a list: of their flat grammar they have one, and that stands for theirs.
use Rattle.std.proofs.Common.{arith, inl, inr, ℕ, ◌*◌, ◌<◌, ◌≤◌, ◌^◌, List, [], ◌∷◌, length, map, slice_index_or, refl, sym, ap, subst}
use Rattle.std.specs.Prelude.{flat_map}
use Rattle.std.proofs.lemmas.List.{length-map, length-append}
use Rattle.std.proofs.lemmas.Option.{slice_get-get_or}
use Rattle.finite_sets.proofs.Members.{among_from, contains_from, among_map_from, among_flat_map, among_at, Among}
use Rattle.finite_sets.proofs.Lists.{get_among, get_index}
use Rattle.grammar_model.specs.declared.Edge.{Edge}
use Rattle.grammar_model.specs.declared.Ranking.{Ranking}
use Rattle.grammar_model.specs.Grammar.{Grammar, slot_of}
use Rattle.grammar_model.specs.Simple.{numbers}
use Rattle.grammar_model.specs.Trees.{Tree}
use Rattle.grammar_model.specs.Derives.{Held}
use Rattle.grammar_model.specs.Chosen.{AreChosen}
use Rattle.grammar_model.specs.Checked.{IsChecked}
use Rattle.recognizer_model.specs.Flat.{FlatGrammar, FlatRule, lhs_of, rhs_of, no_rule}
use Rattle.recognizer_model.specs.declared.flat.FlatSymbol.TheVariants.{Top}
use Rattle.recognizer_model.specs.FlatForm.{NamedRule, IsRuleOf, OfPlain, OfList, OfTrailing, OfItem, OfItems, OfSeparated, OfTop, IsFlatOf, StandsFor, symbol_at, tree_of}
use Rattle.recognizer_model.specs.Invariant.{IsFlat, IsTopOf, IsAccessible, Outermost, Below}
use Rattle.recognizer_model.proofs.ChosenListed.{chosen_list}
use Rattle.recognizer_model.proofs.FlatChosen.{written_chosen}
use Rattle.flat_model.specs.Flatten.{Decided, AreFew, flat_of, named_rules, number_of, numbered}
use Rattle.flat_rules.proofs.FlatOf.{numbers_length, rules_length, split, prefix, top_made, is_flat_of}
use Rattle.flat_rules.proofs.Law.{flat_grammars_exist}
use Rattle.flat_rules.proofs.Named.{differ}
use Rattle.flat_rules.proofs.Once.{once_numbers}
use Rattle.flat_rules.proofs.Ranges.{tops, all_tops}
use Rattle.flat_rules.proofs.Reach.{accessible}
use Rattle.flat_rules.proofs.Rules.{named_in}
use Rattle.finite_sets.proofs.Members as sets
use Rattle.grammar_laws.specs.Laws.{GoForward}
use Rattle.grammar_laws.proofs.Flats.{decisions_exist, named_rules_are_all, rule_count_is_one}
use Rattle.recognizer_model.specs.FewRules.{HasFewRules}
use Rattle.grammar_laws.specs.Lists.{HasShortRules, StartsAreListed}
use Rattle.grammar_model.proofs.Simple.{among_numbers_from}
use Rattle.grammar_model.specs.declared.limits.TheConstants.{MOST_FLAT_RULES}

-- ---- lengths

flat_most : {X Y : Type 0} (f : X → List Y) (xs : List X) → ((x : X) → Among x xs → length (f x) ≤ 1001) → length (flat_map f xs) ≤ 1001 * length xs
flat_most f [] short = omega arith
flat_most f (x ∷ xs) short =
    let here = short x (inl refl) in
    let rest = flat_most f xs (λ y m. short y (inr m)) in
    let both = length-append (f x) (flat_map f xs) in
    omega (arith, here, rest, both)

-- numbers that are each in a list are no more than it has
numbers_most : (n : ℕ) (xs : List ℕ) → ((x : ℕ) → x < n → Among x xs) → n ≤ length xs
numbers_most n xs inside =
    let le = sets.once_most (numbers n) xs (sets.pairs_once (numbers n) (sets.once_pairs (numbers n) (once_numbers n)))
    (λ x m. sets.among_from xs x (contains_from xs x (inside x (number_below x m)))) in
    let same = numbers_length n in
    omega (arith, le, same)
  where
    number_below : (x : ℕ) → sets.Among x (numbers n) → x < n
    number_below x m = among_numbers_from n x (among_from (numbers n) x (sets.contains_from (numbers n) x m))

-- the symbols of a flat rule
abbrev symbols_in : FlatRule → List ℕ
symbols_in rule = rule.lhs ∷ rule.rhs

module _ (w : Grammar) (checked : IsChecked w) (few : HasFewRules w) (short : HasShortRules w) where
  -- ---- the flat grammar is small

  d : Decided w
  d = decisions_exist w

  abbrev f : FlatGrammar
  f = flat_of w d

  few_named : length (named_rules w d) ≤ MOST_FLAT_RULES
  few_named = let same = rule_count_is_one w (length (named_rules w d)) few.count (named_rules w d, named_rules_are_all w d, refl) few.counted in let le = few.few in omega (arith, same, le)

  few_rules : length f.rules ≤ MOST_FLAT_RULES
  few_rules = let same = rules_length w d in let le = few_named in omega (arith, same, le)

  short_named : (n : NamedRule) → IsRuleOf w n → length n.right ≤ 1000
  short_named n (OfPlain i s k r right lt is some live fits used len all) = let less = short i r lt is in omega (arith, less, len)
  short_named n (OfList i r symbol is) = omega arith
  short_named n (OfTrailing i b r s symbol is sep proper prod st) = omega arith
  short_named n (OfItem i r b symbol is st) = omega arith
  short_named n (OfItems i r b symbol is sep st) = omega arith
  short_named n (OfSeparated i b r s u symbol is sep prod st st') = omega arith
  short_named n (OfTop k start s e st) = omega arith

  short_rule : (r : FlatRule) → Among r f.rules → length (symbols_in r) ≤ 1001
  short_rule r m =
      let (n, among, is) = among_map_from (numbered w d) r (named_rules w d) m in
      let le = short_named n (named_in w d n among).0 in
      let same = ap (λ (z : FlatRule). length z.rhs) is in
      let all = length-map n.right (number_of w d) in
      omega (arith, le, same, all)

  -- each symbol stands in a rule
  in_rule : (x : ℕ) → IsAccessible f x → Among x (flat_map symbols_in f.rules)
  in_rule x (Outermost {k = k} at) =
      let r = slice_index_or f.tops k 0 in
      let top : IsTopOf f k r = tops w d checked k r (slice_get-get_or f.tops k 0 (all_tops w d checked x k at)) in
      among_flat_map symbols_in (slice_index_or f.rules r no_rule) x f.rules (among_at f.rules r no_rule top.is_top.is_rule) (inl (differ w d (lhs_of f r) x (Top k) top.symbol at))
  in_rule x (Below {r = r} position rule above part) =
      among_flat_map symbols_in (slice_index_or f.rules r no_rule) x f.rules (among_at f.rules r no_rule rule) (inr (get_among (rhs_of f r) position x part))

  few_symbols : length f.symbols < 2 ^ 32
  few_symbols =
      let le = numbers_most (length f.symbols) (flat_map symbols_in f.rules) (λ x lt. in_rule x (accessible w d checked x lt)) in
      let most = flat_most symbols_in f.rules short_rule in
      let rules = few_rules in
      omega (arith, le, most, rules)

  few_starts : length w.starts < 2 ^ 32
  few_starts =
      let all = ap length (split w d) in
      let parts = length-append (prefix w d) (map (top_made w d) (numbers (length w.starts))) in
      let made = length-map (numbers (length w.starts)) (top_made w d) in
      let count = numbers_length (length w.starts) in
      let le = few_named in
      omega (arith, all, parts, made, count, le)

  are_few : AreFew w f
  are_few = record {
    symbols = few_symbols;
    rules = let le = few_rules in omega (arith, le);
    starts = few_starts;
    short = λ i r lt is. (let le = short i r lt is in omega (arith, le));
  }

  -- ---- the list

  made : IsFlatOf f w
  made = is_flat_of w d checked

  flat : IsFlat f
  flat = (flat_grammars_exist w d checked are_few).1

  some_top : 0 < length f.tops
  some_top = let some = checked.some_start in let same = made.tops_all in omega (arith, some, same)

  abbrev top : ℕ
  top = slice_index_or f.tops 0 0

  is_top : IsTopOf f 0 top
  is_top = flat.tops 0 top (slice_get-get_or f.tops 0 0 some_top)

  abbrev first : ℕ
  first = slice_index_or w.starts 0 0

  -- the first top's symbol stands for the first start
  stands : StandsFor w (symbol_at f (lhs_of f top)) (slot_of first)
  stands =
      subst (λ s. StandsFor w s (slot_of first)) (sym (get_index f.symbols (lhs_of f top) (Top 0) (Top 0) is_top.symbol).1)
      (first, slice_get-get_or w.starts 0 0 checked.some_start, refl)

  pub first_listed : (ranking : Ranking) (edges : List Edge) (p q : ℕ) → GoForward (Held edges) → (trees : List Tree) × AreChosen w (Held edges) ranking (slot_of first) p q trees
  first_listed ranking edges p q forward =
      let (trees, sorted, each) = chosen_list f w flat edges forward ranking (lhs_of f top) p q in (
        map (tree_of w f) trees,
        written_chosen f w flat made checked (Held edges) forward ranking (lhs_of f top) p q (slot_of first) trees
            (flat.in_range.left top is_top.is_top.is_rule) stands sorted each,
      )

-- such a grammar has a flat form
pub flat_form_exists : (g : Grammar) → IsChecked g → HasFewRules g → HasShortRules g → (f : FlatGrammar) × IsFlat f × IsFlatOf f g
flat_form_exists g checked few short = (f g checked few short, flat g checked few short, made g checked few short)

pub starts_listed : StartsAreListed
starts_listed g ranking edges p q checked few short forward = first_listed g checked few short ranking edges p q forward
