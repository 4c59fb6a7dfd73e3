-- What bounds the steps of a run, in figures: letters that are read by right recursion, where hidden items are brought back.
-- Source: Leo 1991 (linear work on right recursion).
use Rattle.std.specs.Prelude.{◌≡◌, ℕ, zero, suc, ◌+◌, ◌*◌, ◌≤◌, true, false, List, [], ◌∷◌, Option, Some, None, pos, codes, replicate}
use Rattle.grammar_model.specs.declared.Assoc.TheVariants.{Left}
use Rattle.grammar_model.specs.declared.Ranking.TheVariants.{Rule as RuleRanks}
use Rattle.grammar_model.specs.Grammar.{WrittenRule, Plain, Grammar}
use Rattle.grammar_model.specs.Trees.{Tree, Leaf, Node, NoChild, Child}
use Rattle.grammar_model.specs.Values.{MakeUndefined}
use Rattle.grammar_model.specs.declared.limits.TheConstants.{LONGEST_INPUT}
use Rattle.outside_model.specs.Told.{ToldFile, Told}
use Rattle.language_model.specs.declared.class.ClassItem.TheVariants.{Span}
use Rattle.language_model.specs.Building.{Built}
use Rattle.reading_model.specs.Reading.{Piece, Token}
use Rattle.recognizer_model.specs.Links.{choices}
use Rattle.run_model.specs.Listing.{AreDerivations}
use Rattle.run_model.specs.Refused.{Accepted}
use Rattle.run_model.specs.Inputs.{IsRead}
use Rattle.run_model.specs.Outcome.{IsOutcome, done}
use Rattle.run_model.specs.Laws.{run_words}
use Rattle.run_model.specs.Steps.{IsWithinSteps}
use Rattle.run_model.specs.Within.{RunsWithin}
use Rattle.number_laws.specs.Counts.{HasCounts}

abbrev pub right_grammar : List ℕ
right_grammar = codes "S ::= 'a' S | 'a'\n"

abbrev pub rule : ℕ → List ℕ → WrittenRule
rule lhs rhs = Plain (record { lhs = lhs; rhs = rhs; level = 0; groups = 1; assoc = Left; rank = pos 0; null_high = false })

-- with the numbers 0 S and 1 'a'
abbrev pub right_g1 : Grammar
right_g1 = record { names = codes "S" ∷ codes "'a'" ∷ []; rules = rule 0 (1 ∷ 0 ∷ []) ∷ rule 0 (1 ∷ []) ∷ []; starts = 0 ∷ [] }

abbrev pub right_built : Built
right_built = record {
  g1 = right_g1;
  l0 = record { names = codes "'a'" ∷ codes ":0" ∷ []; rules = rule 0 (1 ∷ []) ∷ []; starts = 0 ∷ [] };
  sets = (1, record { negated = false; caseless = false; items = Span 97 97 ∷ [] }) ∷ [];
  lexemes = record { symbol = 1; start = 0; priority = pos 0; latm = false } ∷ [];
  discards = [];
  meaning = record {
    rules =
        record { action = MakeUndefined; shown = true ∷ true ∷ []; sequence = false; separated = false }
        ∷ record { action = MakeUndefined; shown = true ∷ []; sequence = false; separated = false } ∷ [];
    lexeme = None;
  };
}

-- so many tokens, of one character each
abbrev pub row : ℕ → List Piece
row zero = []
row (suc n) = Token 1 (1 ∷ []) ∷ row n

-- the derivation of so many tokens and one more
abbrev pub tree : (more from to : ℕ) → Tree
tree zero p q = Node 1 (Child NoChild (Leaf 1 p (suc p))) p q
tree (suc n) p q = Node 0 (Child (Child NoChild (Leaf 1 p (suc p))) (tree n (suc p) q)) p q

-- `run --grammar g`, where g has the grammar and so many letters stand on the standard input, takes at most so many steps
abbrev pub RunsIn : (letters most : ℕ) → Type 0
RunsIn letters most =
    (file : List ℕ → ToldFile) (out out_after : Option (List ℕ)) (after : ℕ) → file (codes "g") ≡ Told right_grammar →
    RunsWithin run_words file (Some (replicate letters 97)) out out_after 0 after → after ≤ most

-- so many letters and one more are read into a token each; so many links, Leo pairs and hidden items of either kind are counted, and the
-- choices of the only derivation; and a reading that gives it takes at most so many steps, as does a run
pub record HasFigures (more links pairs hidden looks most : ℕ) : Type 0 where
  pub read : suc more ≤ LONGEST_INPUT → IsRead right_built [] (replicate (suc more) 97) (row (suc more))
  pub counts : HasCounts right_built RuleRanks (row (suc more)) (record { links = links; pairs = pairs; expanded = hidden; hidden = hidden })
  pub derived : AreDerivations right_built RuleRanks (row (suc more)) (tree more 0 (suc more) ∷ [])
  pub chosen : choices (tree more 0 (suc more)) ≡ looks
  pub steps : (after : ℕ) → IsWithinSteps right_built RuleRanks (row (suc more)) (tree more 0 (suc more) ∷ []) 0 after → after ≤ most
  pub run : suc more ≤ LONGEST_INPUT → RunsIn (suc more) most

-- a token has 5 links, a place one Leo pair, and all lists that end at the end but the last are hidden; so two tokens take at most 33
-- steps: 10 links, 3 pairs, 1 hidden item and 19 choices
pub record StepsHaveFigures : Type 0 where
  pub accepted : Accepted right_grammar right_built
  pub told : IsOutcome run_words right_grammar (codes "aa") (done (codes "undef\n" ∷ []))
  pub any : (n : ℕ) → HasFigures n (5 * n + 5) (n + 2) n (11 * n + 8) (18 * n + 15)
  pub two : HasFigures 1 10 3 1 19 33
  pub many : HasFigures 9999 50000 10001 9999 109997 179997
