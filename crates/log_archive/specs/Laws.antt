-- Laws on archives.
use Rattle.std.specs.Prelude.{◌≡◌, ℕ, ◌+◌, ◌^◌, ◌≤◌, List, [], ◌∷◌, ◌++◌, length, Option, Some, option_and_then, ⊤}
use Rattle.hex.specs.Hex.{IsBytes}
use Rattle.log_records.specs.declared.log_record.LogRecord.{LogRecord}
use Rattle.log_records.specs.declared.TheConstants.{BLOCK_LEN}
use Rattle.log_records.specs.Spelling.{IsBlock}
use Rattle.log_archive.specs.Lines.{block_text, end_text}
use Rattle.log_archive.specs.Accepted.{Accepted, Stream, after_block}

-- an archive behind another is one of both
abbrev pub ArchivesJoin : Type 0
ArchivesJoin = (pages : ℕ) (first second : List (List ℕ)) (s mid now : Stream) → Accepted pages first s mid
    → Accepted pages second mid now → Accepted pages (first ++ second) s now

-- lines lead to one stream
abbrev pub OneStream : Type 0
OneStream = (pages : ℕ) (lines : List (List ℕ)) (s now other : Stream) → Accepted pages lines s now
    → Accepted pages lines s other → now ≡ other

-- the texts of blocks, numbered on by one
abbrev pub block_texts : ℕ → List (List ℕ) → List (List ℕ)
block_texts number [] = []
block_texts number (content ∷ contents) = block_text number content ∷ block_texts (number + 1) contents

-- the content of a block in octets, with these records
pub record HoldsBlock (content : List ℕ) (records : List LogRecord) : Type 0 where
  pub block : IsBlock content records
  pub len : length content ≡ BLOCK_LEN
  pub octets : IsBytes content

-- contents of blocks, each with its records
abbrev pub HoldBlocks : List (List ℕ) → List (List LogRecord) → Type 0
HoldBlocks [] [] = ⊤
HoldBlocks [] (records ∷ blocks) = ⊥
HoldBlocks (content ∷ contents) [] = ⊥
HoldBlocks (content ∷ contents) (records ∷ blocks) = HoldsBlock content records × HoldBlocks contents blocks

-- the stream behind blocks
abbrev pub after_blocks : ℕ → List (List LogRecord) → Stream → Option Stream
after_blocks pages [] s = Some s
after_blocks pages (records ∷ blocks) s = option_and_then (after_blocks pages blocks) (after_block pages records s)

-- blocks that follow are accepted as they are told, with their end line
abbrev pub FollowersAreAccepted : Type 0
FollowersAreAccepted = (pages : ℕ) (contents : List (List ℕ)) (blocks : List (List LogRecord)) (s now : Stream)
    → HoldBlocks contents blocks → after_blocks pages blocks s ≡ Some now → s.next + length contents ≤ 2 ^ 40
    → Accepted pages (block_texts s.next contents ++ end_text (s.next + length contents) ∷ []) s now
