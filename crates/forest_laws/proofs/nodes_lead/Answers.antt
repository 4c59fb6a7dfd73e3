use Rattle.forest_laws.proofs.Leads.{nodes_lead}
use Rattle.forest_laws.proofs.nodes_lead.Goals as goal

pub returns : goal.returns
returns c = nodes_lead
