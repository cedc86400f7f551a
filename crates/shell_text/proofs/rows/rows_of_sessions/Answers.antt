use Rattle.std.proofs.Common.{refl}
use Rattle.std.specs.Fmt.{digits}
use Rattle.hex.specs.Hex.{decode_pairs, encode_with}
use Rattle.shell_text.proofs.rows.rows_of_sessions.Goals as goal

pub returns-clause-three_sessions : goal.returns-clause-three_sessions
unfolding digits decode_pairs encode_with
returns-clause-three_sessions c = refl

pub returns-clause-last_alone : goal.returns-clause-last_alone
unfolding digits decode_pairs encode_with
returns-clause-last_alone c = refl

pub returns-clause-going_back : goal.returns-clause-going_back
unfolding digits decode_pairs encode_with
returns-clause-going_back c = refl
