-- Rows without the flat grammar that they are of.
use Rattle.recognizer_model.specs.Flat.{FlatGrammar}
use Rattle.item_rows.specs.Dotted.{IsTable}
use Rattle.item_rows.specs.Held.{rows_from, lists_from, kinds_of, AreHeld}
use Rattle.item_rows.specs.Noted.{ArePlacesNoted}
use Rattle.item_rows.specs.Rows.{ItemRows}
use Rattle.item_rows.specs.declared.dotted.UnboundDots.{UnboundDots}
use Rattle.item_rows.specs.declared.rows.UnboundRows.{UnboundRows}

-- the dotted rules are those of the grammar
abbrev pub AreDotsOf : FlatGrammar → UnboundDots → Type 0
AreDotsOf g d = IsTable g d.rules.items d.firsts.items d.numbers.items d.spans.items d.whole d.scanned

-- the rows are rows over the grammar
pub record AreRowsOf (g : FlatGrammar) (r : UnboundRows) : Type 0 where
  pub dots : AreDotsOf g r.dots
  pub held : AreHeld r.dots.rules.items r.lists r.kernels r.count
  pub noted : ArePlacesNoted g r.dots.rules.items r.lists r.kernels r.noted.blocks.items

-- what they are seen as with the grammar
abbrev pub rows_with : FlatGrammar → UnboundRows → ItemRows
rows_with g r = record {
  flat = g;
  sets = rows_from r.dots.rules.items r.lists 0 r.kernels;
  shared = lists_from r.dots.rules.items r.lists;
  kinds = kinds_of r.kernels;
}
