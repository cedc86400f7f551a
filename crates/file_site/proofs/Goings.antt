-- A tally that only grows keeps what every call of a site keeps.
use Rattle.std.proofs.Common.{◌≡◌, ◌≤◌, ℕ, refl, ap, arith, replicate}
use Rattle.std.specs.Prelude.{length}
use Rattle.site.specs.declared.outside.Dev.{Dev}
use Rattle.site.specs.declared.outside.Dev.TheVariants.{Log, Flash, Disk}
use Rattle.site.specs.State.{content_of, faults_of, reads_of}
use Rattle.site.specs.Calls.{Preserves}
use Rattle.file_site.specs.Counting.{state_of, tally_of, with_tally, Grows}
use Rattle.file_site.specs.declared.book.Tally.{Tally}
use Rattle.file_site.specs.declared.book.Book.{Book}

record At (d : Dev) (old new : Book) : Type 0 where
  size : length (content_of d (state_of new).image) ≡ length (content_of d (state_of old).image)
  faults : faults_of d (state_of old) ≤ faults_of d (state_of new)
  reads : reads_of d (state_of old) ≤ reads_of d (state_of new)

stays : (n : ℕ) → n ≤ n
stays n = omega arith

at : (dev d : Dev) (book : Book) (tally : Tally) → Grows (tally_of dev book) tally → At d book (with_tally dev tally book)
at Log Log book tally grows = record { size = ap (λ n. length {A = ℕ} (replicate n 0)) grows.len; faults = grows.faults; reads = grows.reads }
at Log Flash book tally grows = record { size = refl; faults = stays _; reads = stays _ }
at Log Disk book tally grows = record { size = refl; faults = stays _; reads = stays _ }
at Flash Log book tally grows = record { size = refl; faults = stays _; reads = stays _ }
at Flash Flash book tally grows = record { size = ap (λ n. length {A = ℕ} (replicate n 0)) grows.len; faults = grows.faults; reads = grows.reads }
at Flash Disk book tally grows = record { size = refl; faults = stays _; reads = stays _ }
at Disk Log book tally grows = record { size = refl; faults = stays _; reads = stays _ }
at Disk Flash book tally grows = record { size = refl; faults = stays _; reads = stays _ }
at Disk Disk book tally grows = record { size = ap (λ n. length {A = ℕ} (replicate n 0)) grows.len; faults = grows.faults; reads = grows.reads }

same_honest : (dev : Dev) (book : Book) (tally : Tally) → (state_of (with_tally dev tally book)).honest ≡ (state_of book).honest
same_honest Log book tally = refl
same_honest Flash book tally = refl
same_honest Disk book tally = refl

streams : (dev : Dev) (book : Book) (tally : Tally) → ((with_tally dev tally book).input_faults ≡ book.input_faults) × ((with_tally dev tally book).output_faults ≡ book.output_faults)
streams Log book tally = (refl, refl)
streams Flash book tally = (refl, refl)
streams Disk book tally = (refl, refl)

at_most : (a b : ℕ) → b ≡ a → a ≤ b
at_most a b same = omega arith

pub goes_at : (dev : Dev) (book : Book) (tally : Tally) → Grows (tally_of dev book) tally → Preserves (state_of book) (state_of (with_tally dev tally book))
goes_at dev book tally grows = record {
  honest = same_honest dev book tally;
  kept = refl;
  sizes = λ d. (at dev d book tally grows).size;
  faults = λ d. (at dev d book tally grows).faults;
  input_faults = at_most _ _ (streams dev book tally).0;
  output_faults = at_most _ _ (streams dev book tally).1;
  reads = λ d. (at dev d book tally grows).reads;
}
