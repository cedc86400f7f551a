use Rattle.log_archive.proofs.OneStream.{one_stream}
use Rattle.log_archive.proofs.laws.one_stream.Goals as goal

pub returns : goal.returns
returns c = one_stream
