use Rattle.log_records.proofs.WritesLemmas.{writes_then}
use Rattle.log_records.proofs.codec.write_place.Goals as goal

pub returns : goal.returns
returns c = writes_then c.write_u32-next.ensures c.write_octets.ensures
