-- What the items of a row wait for: their postdot symbols.
pub use Rattle.item_rows.specs.Kept.{IsItem, AreItems, IsAwaited, IsRowOf, AreRows, HasRows}
