use Rattle.std.proofs.Common.{refl}
use Rattle.std.specs.Fmt.{digits}
use Rattle.hex.specs.Hex.{decode_pairs, encode_with}
use Rattle.shell_text.proofs.rows.rows_of_values.Goals as goal

pub returns-clause-longest_value : goal.returns-clause-longest_value
unfolding digits decode_pairs encode_with
returns-clause-longest_value c = refl

pub returns-clause-upper_case : goal.returns-clause-upper_case
unfolding digits decode_pairs encode_with
returns-clause-upper_case c = refl
