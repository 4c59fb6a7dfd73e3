use Rattle.words_model.proofs.Orders.{orders}
use Rattle.words_model.proofs.parts_change_places.Goals as goal

pub returns : goal.returns
returns c = orders
