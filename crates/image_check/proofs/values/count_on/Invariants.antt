use Rattle.image_check.proofs.Names.{◌≡◌, ◌*◌, ◌≤◌, List, AreWritten, version_in, Entry, Version, version_at, value_of}
use Rattle.image_check.proofs.ValuesCounted.{values_among}
use Rattle.image_check.proofs.values.count_on.Given as goal

abbrev pub invariant-loop-slot : goal.invariant-loop-slot
invariant-loop-slot l = record {
  counted : (log : List Entry) (pages : List Version) → AreWritten log log l.written → version_at pages l.page ≡ version_in l.version → l.count ≡ values_among (value_of log pages) (32 * l.page) l.slot;
  few : l.count ≤ l.slot;
}
