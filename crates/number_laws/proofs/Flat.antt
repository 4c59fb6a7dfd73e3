-- An accepted grammar is flattened, and its flat grammar is numbered by few numbers.
use Rattle.std.proofs.Common.{arith, ◌≡◌, length, map, inl, inr, refl, sym, subst}
use Rattle.std.proofs.lemmas.List.{length-map}
use Rattle.grammar_model.specs.Grammar.{Grammar}
use Rattle.grammar_model.specs.Checked.{IsChecked}
use Rattle.recognizer_model.specs.Flat.{FlatGrammar}
use Rattle.recognizer_model.specs.FlatForm.{IsSymbolOf, named}
use Rattle.recognizer_model.specs.Invariant.{IsFlat}
use Rattle.flat_model.specs.Flatten.{AreFew, flat_of}
use Rattle.flat_model.specs.Flattened.{IsFlattened, HasTooMany}
use Rattle.flat_rules.proofs.FlatOf.{is_flat_of}
use Rattle.flat_rules.proofs.Law.{flat_grammars_exist}
use Rattle.grammar_laws.proofs.Flats.{rule_count_is_one}
use Rattle.grammar_laws.proofs.Flattening.{flattening_decides}
use Rattle.reading_model.specs.Accepted.{HasFewRules}
use Rattle.reading_laws.specs.Lists.{HasShortRules}
use Rattle.reading_laws.proofs.Lists.{flat_form_exists}
use Rattle.recognizer_model.proofs.Counting.{one_count}

module _ (g : Grammar) (checked : IsChecked g) (few : HasFewRules g) where
  too_many : HasTooMany g → ⊥
  too_many many =
      let d = many.decided in
      let f = flat_of g d in
      let same = rule_count_is_one g few.count (length f.rules) few.counted (map (named f) f.rules, (is_flat_of g d checked).rules, length-map f.rules (named f)) in
      let most = few.few in
      let less = many.many d in
      omega (arith, same, most, less)

  pub flattened : (f : FlatGrammar) × IsFlattened g f
  flattened = elim (flattening_decides g checked) [ inl f ↦ f | inr many ↦ absurd (too_many many) ]

  module _ (short : HasShortRules g) (f : FlatGrammar) (is : IsFlattened g f) where
    -- as few as another flat form has
    are_few : AreFew g f
    are_few =
        let (other, flat, made) = flat_form_exists g checked few short in
        let symbols : length f.symbols ≡ length other.symbols = one_count (IsSymbolOf g) (length f.symbols) (length other.symbols) (f.symbols, is.made.symbols, refl) (other.symbols, made.symbols, refl) in
        let within = flat.in_range.symbols in
        let tops = flat.in_range.tops in
        let all = made.tops_all in
        let rules = is.few in
        record {
          symbols = omega (arith, symbols, within);
          rules = omega (arith, rules);
          starts = omega (arith, tops, all);
          short = λ i r lt e. (let le = short i r lt e in omega (arith, le));
        }

    pub is_flat : IsFlat f
    is_flat =
        let same = is.listed is.decided in
        subst IsFlat (sym same) (flat_grammars_exist g is.decided checked (subst (AreFew g) same are_few)).1
