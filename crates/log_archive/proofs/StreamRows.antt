-- Streams by hand: each is computed.
use Rattle.std.proofs.Common.{refl}
use Rattle.log_records.specs.Spelling.{spelling}
use Rattle.log_archive.specs.Rows.{OfThreeBlocks, OfWrongBlocks}

pub of_three_blocks : OfThreeBlocks
unfolding spelling
of_three_blocks = record { accepted = refl; after_none = refl; after_one = refl; after_both = refl }

pub of_wrong_blocks : OfWrongBlocks
unfolding spelling
of_wrong_blocks = record { a_gap = refl; twice = refl; another_before = refl; no_page = refl; too_early = refl }
