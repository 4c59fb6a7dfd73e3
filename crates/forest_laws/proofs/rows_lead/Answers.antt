use Rattle.forest_laws.proofs.Guide.{rows_lead}
use Rattle.forest_laws.proofs.rows_lead.Goals as goal

pub returns : goal.returns
returns c = rows_lead
