use Rattle.fleet_laws.proofs.Begins.{embeds}
use Rattle.fleet_laws.proofs.laws.embed.Goals as goal

pub returns : goal.returns
returns c = embeds
