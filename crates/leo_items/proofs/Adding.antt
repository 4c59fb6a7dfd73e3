pub use Rattle.item_sets.proofs.Adding.{adds_key, tells_there, decide}
