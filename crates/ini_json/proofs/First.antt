-- The JSON of the fold is that of the first derivation.
use Rattle.std.proofs.Common.{◌≡◌, Bool, true, List, [], ◌∷◌, map, Some, String, string_bytes, ◌∙◌, ap, subst}
use Rattle.std.specs.declared.alloc.Global.{Global}
use Rattle.grammar_model.specs.declared.Ranking.TheVariants.{Rule}
use Rattle.grammar_model.specs.Trees.{Tree}
use Rattle.grammar_model.specs.Steps.{steps_of}
use Rattle.valuator.specs.Play.{tokens_of}
use Rattle.reading_model.specs.Reading.{End, IsReadingWith}
use Rattle.run_model.specs.Listing.{AreDerivations}
use Rattle.tree_iter.specs.Iteration.{AreGiven}
use Rattle.slif_parser.specs.Views.{Read, ForestOf, DerivationsOf}
use Rattle.slif_parser.specs.Readings.{IsBegun, IsNext, IsPrefixOfAll, AreAll, ValueBy}
use Rattle.ini_json.specs.Settings.{Blank, Word, groups_of, part_by, part_at}
use Rattle.ini_json.specs.Json.{file_json}
use Rattle.ini_json.specs.Nodes.{Gives, part_of}
use Rattle.ini_json.specs.Texts.{IsFirstJson}
use Rattle.ini_json.specs.declared.node.Node.{Node as Made}
use Rattle.ini_json.specs.declared.tree.TreeMaker.{TreeMaker}
use Rattle.ini_json.proofs.Parts.{stands_for}

-- the derivations stand at their first
pub record AreAtFirst (read : Read) (d : DerivationsOf) : Type 0 where
  pub of : d.read ≡ read
  pub ranked : d.iteration.forest.ranking ≡ Rule
  pub first : Tree
  pub others : List Tree
  pub all : AreAll d (first ∷ others)
  pub stands : d.iteration.current ≡ Some (steps_of first)

pub at_first : (f : ForestOf) (begun d : DerivationsOf) → f.forest.ranking ≡ Rule → IsBegun f begun → d.read ≡ begun.read → d.iteration.forest ≡ begun.iteration.forest →
    (more : Bool) → more ≡ true → ((given : List Tree) → AreGiven begun.iteration given → IsNext d given more) →
    ((given : List Tree) → AreGiven d.iteration given → IsPrefixOfAll d given) → AreAtFirst f.read d
at_first f begun d ranked is_begun same same_forest more is_true next known =
    let (tree, given, stands) = subst (λ z. IsNext d [] z) is_true (next [] is_begun.none) in
    let (rest, all) = known (tree ∷ []) given in
    record {
      of = same ∙ is_begun.read_is;
      ranked = cc (same_forest, is_begun.is, ranked);
      first = tree;
      others = rest;
      all = all;
      stands = stands;
    }

pub first_json : (read : Read) (d : DerivationsOf) → AreAtFirst read d → (before after : TreeMaker) (v : Made) (json : String Global) →
    ValueBy (λ s t symbol name token r. Gives (Word token.text) r) (λ s t symbol name r. Gives Blank r) (λ s t rule name children r. Gives (part_by rule (map part_of children)) r) d before v after →
    string_bytes json ≡ file_json (groups_of (part_of v)) → IsFirstJson read json
first_json read d at before after v json value is = record {
  pieces = at.all.pieces;
  reading = subst (λ (r : Read). IsReadingWith r.grammar r.lexemes r.characters at.all.pieces End) at.of at.all.reading;
  first = at.first;
  others = at.others;
  all = subst (λ (r : Read). AreDerivations r.grammar Rule at.all.pieces (at.first ∷ at.others)) at.of
      (subst (λ ranking. AreDerivations d.read.grammar ranking at.all.pieces (at.first ∷ at.others)) at.ranked at.all.all);
  is = is ∙ ap (λ part. file_json (groups_of part)) (stands_for d.read.grammar.g1 (tokens_of d.read.characters d.read.spans) at.first before after v (value at.first at.stands))
      ∙ ap (λ (r : Read). file_json (groups_of (part_at (tokens_of r.characters r.spans) at.first))) at.of;
}
