use Rattle.face.proofs.Meanings.{opens_where_it_stands}
use Rattle.face.proofs.laws.opens_where_it_stands.Goals as goal

pub returns : goal.returns
returns c = opens_where_it_stands
