-- What the fold makes of a tree stands for what the tree sets.
use Rattle.std.proofs.Common.{◌≡◌, List, [], ◌∷◌, ◌++◌, map, Ok, refl, ◌∙◌, ap}
use Rattle.std.proofs.lemmas.List.{map-append}
use Rattle.grammar_model.specs.Grammar.{Grammar}
use Rattle.grammar_model.specs.Trees.{Tree, Children, Leaf, Nulled, Node, NoChild, Child}
use Rattle.grammar_model.specs.Values.{Token}
use Rattle.tree_fold.specs.Values.{HasValue, HaveValues}
use Rattle.ini_json.specs.Settings.{Blank, Word, part_by, part_at, parts_at}
use Rattle.ini_json.specs.Nodes.{Gives, part_of}
use Rattle.ini_json.specs.declared.node.Node.{Node as Made}
use Rattle.ini_json.specs.declared.tree.TreeMaker.{TreeMaker}

module _ (g : Grammar) (tokens : List Token) where
  abbrev Has : Tree → TreeMaker → Made → TreeMaker → Type 0
  Has = HasValue (λ s t symbol name token r. Gives (Word token.text) r) (λ s t symbol name r. Gives Blank r) (λ s t rule name children r. Gives (part_by rule (map part_of children)) r) g tokens

  abbrev Have : Children → TreeMaker → List Made → TreeMaker → Type 0
  Have = HaveValues (λ s t symbol name token r. Gives (Word token.text) r) (λ s t symbol name r. Gives Blank r) (λ s t rule name children r. Gives (part_by rule (map part_of children)) r) g tokens

  mutual
    pub stands_for : (t : Tree) (before after : TreeMaker) (v : Made) → Has t before v after → part_of v ≡ part_at tokens t
    stands_for (Leaf symbol from to) before after v has = has
    stands_for (Nulled symbol at) before after v has = has
    stands_for (Node rule children from to) before after v (between, vs, have, gives) = gives ∙ ap (part_by rule) (stand_for children before between vs have)

    stand_for : (ts : Children) (before after : TreeMaker) (vs : List Made) → Have ts before vs after → map part_of vs ≡ parts_at tokens ts
    stand_for NoChild before after vs (none, same) = ap (map part_of) none
    stand_for (Child prefix last) before after vs (between, ws, v, is, have, has) =
        ap (map part_of) is ∙ map-append part_of ws (v ∷ []) ∙ cc (stand_for prefix before between ws have, stands_for last between after v has)
