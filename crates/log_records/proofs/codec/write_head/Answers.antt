use Rattle.log_records.proofs.WritesLemmas.{writes_then}
use Rattle.log_records.proofs.codec.write_head.Goals as goal

pub returns : goal.returns
returns c = writes_then c.write_octets-next.ensures c.write_u64.ensures
