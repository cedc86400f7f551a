-- Streams by hand.
use Rattle.std.specs.Prelude.{◌≡◌, ℕ, List, [], ◌∷◌, ◌++◌, replicate, slice_set, Some, None, Option, option_and_then}
use Rattle.record_model.specs.State.{Content}
use Rattle.log_records.specs.declared.log_record.LogRecord.{LogRecord}
use Rattle.log_records.specs.declared.log_record.LogRecord.TheVariants.{Begin, Update, Clr, Commit, End}
use Rattle.log_archive.specs.Accepted.{Stream, after_block, archive_table, blank_stream}

-- Block 0 is a transaction that sets record 5. Block 1 is one that writes record 5; it goes on in block 2 with records
-- 6 and 5, undoes the last of these, and commits.
abbrev pub first : List LogRecord
first = Begin ∷ Update 2 2 0 5 None (Some (10 ∷ 11 ∷ [])) ∷ Commit 2 1 ∷ []

abbrev pub second : List LogRecord
second = Begin ∷ Update 514 514 0 5 (Some (10 ∷ 11 ∷ [])) (Some (1 ∷ [])) ∷ []

abbrev pub third : List LogRecord
third = Update 514 515 0 6 None (Some (7 ∷ [])) ∷ Update 514 1026 0 5 (Some (1 ∷ [])) None
    ∷ Clr 514 1051 1026 0 5 (Some (1 ∷ [])) ∷ Commit 514 2 ∷ []

abbrev pub behind : List (List LogRecord) → Stream → Option Stream
behind [] s = Some s
behind (records ∷ blocks) s = option_and_then (behind blocks) (after_block 1 records s)

abbrev pub written : List Content
written = slice_set (replicate 32 None) 5 (Some (10 ∷ 11 ∷ []))

abbrev pub nets : List (List (ℕ × Content))
nets = ((5, Some (10 ∷ 11 ∷ [])) ∷ []) ∷ ((5, Some (1 ∷ [])) ∷ (6, Some (7 ∷ [])) ∷ []) ∷ []

-- Of three blocks that follow the nets are these, with CLRs counted.
pub record OfThreeBlocks : Type 0 where
  pub accepted : behind (first ∷ second ∷ third ∷ []) (blank_stream 1)
      ≡ Some (record {
        next = 3;
        shown = slice_set (slice_set (replicate 32 None) 5 (Some (1 ∷ []))) 6 (Some (7 ∷ []));
        before = 0;
        nets = nets;
        unclosed = [];
      })
  pub after_none : archive_table (replicate 32 None) nets 0 ≡ replicate 32 None
  pub after_one : archive_table (replicate 32 None) nets 1 ≡ written
  pub after_both : archive_table (replicate 32 None) nets 2
      ≡ slice_set (slice_set (replicate 32 None) 5 (Some (1 ∷ []))) 6 (Some (7 ∷ []))

-- What doesn't follow is refused.
pub record OfWrongBlocks : Type 0 where
  -- a block is missing, so its transaction isn't open
  pub a_gap : behind (first ∷ third ∷ []) (blank_stream 1) ≡ None
  -- a second commit with the number of the first, though the first of the block follows
  pub twice : behind ((first ++ Begin ∷ Commit 46 1 ∷ []) ∷ []) (blank_stream 1) ≡ None
  -- what stood before isn't what it says
  pub another_before : behind ((Begin ∷ Update 2 2 0 5 (Some []) None ∷ []) ∷ []) (blank_stream 1) ≡ None
  -- a page that there isn't
  pub no_page : behind ((Begin ∷ Update 2 2 1 5 None None ∷ []) ∷ []) (blank_stream 1) ≡ None
  -- an End while an Update stands
  pub too_early : behind ((Begin ∷ Update 2 2 0 5 None (Some []) ∷ End 2 ∷ []) ∷ []) (blank_stream 1) ≡ None
