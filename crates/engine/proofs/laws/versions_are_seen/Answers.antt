use Rattle.engine.proofs.SeenVersions.{where_it_fits}
use Rattle.engine.proofs.laws.versions_are_seen.Goals as goal

pub returns : goal.returns
returns c = where_it_fits
