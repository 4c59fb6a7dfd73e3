pub use Rattle.item_sets.proofs.Growing.{Adds-begins, Adds-has, Grows-more}
