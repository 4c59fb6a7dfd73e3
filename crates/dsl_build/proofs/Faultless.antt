-- What a description without faults has not.
use Rattle.std.proofs.Common.{◌≡◌, List, [], ◌++◌, map}
use Rattle.finite_sets.proofs.Lists.{map_empty, prefix_empty, back_empty}
use Rattle.language_model.specs.Description.{Statement}
use Rattle.language_model.specs.Building.{BadAdverb, RepeatedAdverb, LexemeNotDefined, InBoth, NotALexeme, BadClass, TwoStarts, NumberRange, TooLong, faults_of, bad_adverbs, repeated, not_defined, in_both, lefts, not_lexemes, bad_classes, second_starts, big_numbers, too_long}

pub record Faultless (d : List Statement) : Type 0 where
  pub adverbs : bad_adverbs d ≡ []
  pub repeats : repeated [] d ≡ []
  pub defined : not_defined d ≡ []
  pub levels : in_both [] (lefts d) ≡ []
  pub lexemes : not_lexemes d ≡ []
  pub classes : bad_classes d ≡ []
  pub starts : second_starts d ≡ []
  pub numbers : big_numbers d ≡ []
  pub lengths : too_long d ≡ []

pub faultless : (d : List Statement) → faults_of d ≡ [] → Faultless d
faultless d e =
    let a = map BadAdverb (bad_adverbs d) in
    let r = map RepeatedAdverb (repeated [] d) in
    let n = map LexemeNotDefined (not_defined d) in
    let b = map InBoth (in_both [] (lefts d)) in
    let x = map NotALexeme (not_lexemes d) in
    let c = map BadClass (bad_classes d) in
    let s = map TwoStarts (second_starts d) in
    let u = map NumberRange (big_numbers d) in
    let t = map TooLong (too_long d) in
    let e1 = prefix_empty (a ++ r ++ n ++ b ++ x ++ c ++ s ++ u) t e in
    let e2 = prefix_empty (a ++ r ++ n ++ b ++ x ++ c ++ s) u e1 in
    let e3 = prefix_empty (a ++ r ++ n ++ b ++ x ++ c) s e2 in
    let e4 = prefix_empty (a ++ r ++ n ++ b ++ x) c e3 in
    let e5 = prefix_empty (a ++ r ++ n ++ b) x e4 in
    let e6 = prefix_empty (a ++ r ++ n) b e5 in
    let e7 = prefix_empty (a ++ r) n e6 in
    record {
      adverbs = map_empty BadAdverb (bad_adverbs d) (prefix_empty a r e7);
      repeats = map_empty RepeatedAdverb (repeated [] d) (back_empty a r e7);
      defined = map_empty LexemeNotDefined (not_defined d) (back_empty (a ++ r) n e6);
      levels = map_empty InBoth (in_both [] (lefts d)) (back_empty (a ++ r ++ n) b e5);
      lexemes = map_empty NotALexeme (not_lexemes d) (back_empty (a ++ r ++ n ++ b) x e4);
      classes = map_empty BadClass (bad_classes d) (back_empty (a ++ r ++ n ++ b ++ x) c e3);
      starts = map_empty TwoStarts (second_starts d) (back_empty (a ++ r ++ n ++ b ++ x ++ c) s e2);
      numbers = map_empty NumberRange (big_numbers d) (back_empty (a ++ r ++ n ++ b ++ x ++ c ++ s) u e1);
      lengths = map_empty TooLong (too_long d) (back_empty (a ++ r ++ n ++ b ++ x ++ c ++ s ++ u) t e);
    }
