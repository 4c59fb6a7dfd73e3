-- The input `(aa)` as the library has it: read, listed and folded.
use Rattle.std.proofs.Common.{◌≡◌, ℕ, zero, suc, ◌+◌, ◌<◌, List, [], ◌∷◌, Contains, Some, None, false, IsAscii, inr, pos, slice_get, refl, sym, subst, arith, lit<, lit≤}
use Rattle.std.specs.Prelude.{codes}
use Rattle.std.specs.Str.{chars}
use Rattle.std.specs.List.Sorted.{IsStrictlySortedBy}
use Rattle.std.proofs.lemmas.Option.{same_Some}
use Rattle.std.proofs.lemmas.Str.{chars-IsAscii, IsUtf8-from_ascii}
use Rattle.finite_sets.proofs.Lists.{Contains-none}
use Rattle.grammar_model.specs.declared.Ranking.TheVariants.{Rule as RuleRanks}
use Rattle.grammar_model.specs.Grammar.{slot_of}
use Rattle.grammar_model.specs.Trees.{Tree, Leaf, Node, NoChild, Child}
use Rattle.grammar_model.specs.Derives.{Held, Line, Derives}
use Rattle.grammar_model.proofs.ChosenOnce.{alike_chosen}
use Rattle.reading_model.specs.Reading.{End, HasEnded, IsReading, edges_of}
use Rattle.forest_model.specs.Forest.{Forest}
use Rattle.run_model.specs.Inputs.{IsRead}
use Rattle.run_model.specs.Listing.{AreDerivations}
use Rattle.slif_parser.specs.Views.{Read, DerivationsOf}
use Rattle.work_laws.proofs.Text.{ascii_of}
use Rattle.work_laws.proofs.Building.{work_g1, work_built}
use Rattle.work_laws.proofs.Working.{work_accepted, no_ranks}
use Rattle.work_laws.proofs.Shapes.{At, IsRun, Last, More, Letter, Bracket, Stops, run_derives, run_of, same_run}
use Rattle.work_laws.proofs.Lines.{get_past}
use Rattle.work_laws.proofs.Matching.{spelling}
use Rattle.work_laws.proofs.Pieces.{ones, edges_of_ones, line_edges}
use Rattle.work_laws.proofs.Reading.{AreSpelled, all_read}
use Rattle.tree_fold.specs.Values.{HasValue}
use Rattle.valuator.specs.Play.{tokens_of}
use Rattle.outcome_laws.specs.Library.{token_gives, nulled_gives, rule_gives, LibraryOccurs}

abbrev text : List ℕ
text = codes "(aa)"

abbrev word : List ℕ
word = 3 ∷ 2 ∷ 2 ∷ 4 ∷ []

-- ---- it is read

spelled_at : (i s : ℕ) → At word i s → (n : ℕ) × (n < 3) × (2 + n ≡ s) × (slice_get text i ≡ Some (spelling n))
spelled_at zero s e = (1, lit< tt, same_Some _ _ e, refl)
spelled_at (suc zero) s e = (0, lit< tt, same_Some _ _ e, refl)
spelled_at (suc (suc zero)) s e = (0, lit< tt, same_Some _ _ e, refl)
spelled_at (suc (suc (suc zero))) s e = (2, lit< tt, same_Some _ _ e, refl)
spelled_at (suc (suc (suc (suc i)))) s e = absurd (get_past word (suc (suc (suc (suc i)))) s (omega arith) e)

spelled : AreSpelled word text
spelled = record { long = refl; each = spelled_at }

abbrev tree : Tree
tree =
    Node 1 (Child NoChild
    (Node 3 (Child (Child (Child NoChild (Leaf 3 0 1))
    (Node 0 (Child (Child NoChild (Node 2 (Child NoChild (Leaf 2 1 2)) 1 2)) (Node 1 (Child NoChild (Node 2 (Child NoChild (Leaf 2 2 3)) 2 3)) 2 3)) 1 3))
    (Leaf 4 3 4)) 0 4)) 0 4

run : IsRun word 0 4 tree
run = Last (Bracket refl (More (Letter refl) (Last (Letter refl))) refl)

text_ascii : IsAscii text
text_ascii = ascii_of text refl

reading : IsReading work_built (chars text) (ones word) End
reading =
    subst (λ cs. IsReading work_built cs (ones word) End) (sym (chars-IsAscii text text_ascii))
    (HasEnded (all_read word text spelled (tree, run_derives word (Line word) (line_edges word) run)) (inr (λ symbol c may. Contains-none symbol c)))

is_read : IsRead work_built [] text (ones word)
is_read = record { text = record { within = lit≤ tt; utf8 = IsUtf8-from_ascii text text_ascii }; reading = reading }

-- ---- its only derivation

abbrev D : Tree → Type 0
D = Derives work_g1 (Held (edges_of (ones word))) (slot_of 0) 0 4

stops : Stops word 4
stops = record { letter = get_past word 4 2 (omega arith); bracket = get_past word 4 3 (omega arith) }

all : AreDerivations work_built RuleRanks (ones word) (tree ∷ [])
unfolding IsStrictlySortedBy
all = record { sorted = (tt, tt); each = λ u. ((λ c. (to u c, alike_chosen work_g1 (Held (edges_of (ones word))) (pos 0) no_ranks RuleRanks (slot_of 0) u)), (λ (d, c). from u d)) }
  where
    to : (u : Tree) → Contains (tree ∷ []) u → D u
    to u (zero, lt, e) = subst D e (run_derives word (Held (edges_of (ones word))) (edges_of_ones word) run)
    to u (suc k, lt, e) = absurd (omega (arith, lt))

    from : (u : Tree) → D u → Contains (tree ∷ []) u
    from u d = (0, lit< tt, (same_run run (run_of word (Held (edges_of (ones word))) (edges_of_ones word) u 0 4 d) stops stops).1)

-- ---- as the library has it

abbrev read : Read
read = record {
  grammar = work_built;
  lexemes = [];
  characters = chars text;
  spans = record { start = 0; length = 1 } ∷ record { start = 1; length = 1 } ∷ record { start = 2; length = 1 } ∷ record { start = 3; length = 1 } ∷ [];
}

abbrev no_nodes : Forest
no_nodes = record {
  written = work_g1;
  flat = record { symbols = []; nullable = []; rules = []; tops = [] };
  start = 0;
  edges = edges_of (ones word);
  place = 4;
  ranking = RuleRanks;
  nodes = [];
  root = None;
}

abbrev derivations : DerivationsOf
derivations = record { read = read; iteration = record { forest = no_nodes; ended = false; current = None } }

-- ---- its value: the tokens are 1, 2, 3 and 4

abbrev Value : Tree → (before value after : ℕ) → Type 0
Value = HasValue token_gives nulled_gives rule_gives work_g1 (tokens_of (chars text) read.spans)

second : Value (Node 2 (Child NoChild (Leaf 2 1 2)) 1 2) 1 2 2
second = (2, 2 ∷ [], (1, [], 2, refl, (refl, refl), (refl, refl)), (refl, refl))

third : Value (Node 2 (Child NoChild (Leaf 2 2 3)) 2 3) 2 3 3
third = (3, 3 ∷ [], (2, [], 3, refl, (refl, refl), (refl, refl)), (refl, refl))

rest : Value (Node 1 (Child NoChild (Node 2 (Child NoChild (Leaf 2 2 3)) 2 3)) 2 3) 2 3 3
rest = (3, 3 ∷ [], (2, [], 3, refl, (refl, refl), third), (refl, refl))

both : Value (Node 0 (Child (Child NoChild (Node 2 (Child NoChild (Leaf 2 1 2)) 1 2)) (Node 1 (Child NoChild (Node 2 (Child NoChild (Leaf 2 2 3)) 2 3)) 2 3)) 1 3) 1 5 3
both = (3, 2 ∷ 3 ∷ [], (2, 2 ∷ [], 3, refl, (1, [], 2, refl, (refl, refl), second), rest), (refl, refl))

bracket : Value
    (Node 3 (Child (Child (Child NoChild (Leaf 3 0 1))
    (Node 0 (Child (Child NoChild (Node 2 (Child NoChild (Leaf 2 1 2)) 1 2)) (Node 1 (Child NoChild (Node 2 (Child NoChild (Leaf 2 2 3)) 2 3)) 2 3)) 1 3))
    (Leaf 4 3 4)) 0 4) 0 10 4
bracket = (4, 1 ∷ 5 ∷ 4 ∷ [], (3, 1 ∷ 5 ∷ [], 4, refl, (1, 1 ∷ [], 5, refl, (0, [], 1, refl, (refl, refl), (refl, refl)), both), (refl, refl)), (refl, refl))

pub library_occurs : LibraryOccurs
library_occurs = record {
  grammar = work_built;
  accepted = work_accepted;
  derivations = derivations;
  read = record { grammar_is = refl; lexemes_are = refl; characters_are = refl; pieces = ones word; is = is_read; spans_are = refl };
  tree = tree;
  all = record { pieces = ones word; reading = reading; all = all };
  folded = (4, 10 ∷ [], (0, [], 10, refl, (refl, refl), bracket), (refl, refl));
}
