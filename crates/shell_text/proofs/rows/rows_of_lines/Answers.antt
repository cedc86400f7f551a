use Rattle.std.proofs.Common.{refl}
use Rattle.std.specs.Fmt.{digits}
use Rattle.hex.specs.Hex.{decode_pairs, encode_with}
use Rattle.shell_text.proofs.rows.rows_of_lines.Goals as goal

pub returns-clause-wrong_lines : goal.returns-clause-wrong_lines
unfolding digits decode_pairs encode_with
returns-clause-wrong_lines c = refl

pub returns-clause-longest_line : goal.returns-clause-longest_line
unfolding digits decode_pairs encode_with
returns-clause-longest_line c = refl

pub returns-clause-last_line : goal.returns-clause-last_line
unfolding digits decode_pairs encode_with
returns-clause-last_line c = refl

pub returns-clause-quit_ends : goal.returns-clause-quit_ends
unfolding digits decode_pairs encode_with
returns-clause-quit_ends c = refl
