-- What contracts say of a site over files: lengths and counts. Of content nothing is said.
use Rattle.std.specs.Prelude.{◌≡◌, ℕ, ◌+◌, ◌-◌, ◌/◌, ◌^◌, ◌≤◌, min, false, [], replicate}
use Rattle.site.specs.declared.outside.Dev.{Dev}
use Rattle.site.specs.declared.outside.Dev.TheVariants.{Log, Flash, Disk}
use Rattle.site.specs.State.{State, no_loose, no_input, faults_of, reads_of}
use Rattle.file_site.specs.declared.book.Tally.{Tally}
use Rattle.file_site.specs.declared.book.Book.{Book}

-- one more; a count stays at its end
abbrev pub raised : ℕ → ℕ
raised count = min (count + 1) (2 ^ 64 - 1)

-- a read of n octets counts once for each 4,096 that it begins
abbrev pub reads_after : ℕ → ℕ → ℕ
reads_after n count = min (count + (n + 4095) / 4096) (2 ^ 64 - 1)

-- the length stays, and no count falls
pub record Grows (old new : Tally) : Type 0 where
  pub len : new.len ≡ old.len
  pub faults : old.faults ≤ new.faults
  pub reads : old.reads ≤ new.reads

abbrev pub tally_of : Dev → Book → Tally
tally_of Log book = book.log
tally_of Flash book = book.flash
tally_of Disk book = book.disk

abbrev pub with_tally : Dev → Tally → Book → Book
with_tally Log tally book = record book { log = tally }
with_tally Flash tally book = record book { flash = tally }
with_tally Disk tally book = record book { disk = tally }

-- the device's count of faults one higher
abbrev pub faulted : Dev → Book → Book
faulted dev book = with_tally dev (record (tally_of dev book) { faults = raised (tally_of dev book).faults }) book

-- Not honest, so that no clause on content holds of it; the contents have the lengths of the files, and nothing else is
-- meant by them.
abbrev pub state_of : Book → State
state_of book = record {
  honest = false;
  kept = [];
  image = record {
    log = replicate book.log.len 0;
    flash = replicate book.flash.len 0;
    disk = replicate book.disk.len 0;
  };
  loose = no_loose;
  told = [];
  input = no_input;
  past = [];
  log_faults = book.log.faults;
  flash_faults = book.flash.faults;
  disk_faults = book.disk.faults;
  input_faults = book.input_faults;
  output_faults = book.output_faults;
  log_reads = book.log.reads;
  flash_reads = book.flash.reads;
  disk_reads = book.disk.reads;
}

-- nothing is counted yet
pub record IsFresh (s : State) : Type 0 where
  pub honest : s.honest ≡ false
  pub faults : (d : Dev) → faults_of d s ≡ 0
  pub input_faults : s.input_faults ≡ 0
  pub output_faults : s.output_faults ≡ 0
  pub reads : (d : Dev) → reads_of d s ≡ 0

-- no device has an octet
pub record IsBare (s : State) : Type 0 where
  pub log : s.image.log ≡ []
  pub flash : s.image.flash ≡ []
  pub disk : s.image.disk ≡ []
