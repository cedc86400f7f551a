use Rattle.std.proofs.Common.{refl}
use Rattle.std.specs.Fmt.{digits}
use Rattle.hex.specs.Hex.{decode_pairs, encode_with}
use Rattle.shell_text.proofs.rows.rows_of_lists.Goals as goal

pub returns-clause-scan_among_writes : goal.returns-clause-scan_among_writes
unfolding digits decode_pairs encode_with
returns-clause-scan_among_writes c = refl

pub returns-clause-cache_listed : goal.returns-clause-cache_listed
unfolding digits decode_pairs encode_with
returns-clause-cache_listed c = refl
