-- The lines of the live blocks, one after the other.
use Rattle.archive_report.proofs.Names.{◌≡◌, ℕ, ◌+◌, ◌-◌, ◌≤◌, ◌<◌, min, List, [], ◌∷◌, ◌++◌, length, take, drop, sym, ◌∙◌, ap, subst, arith, drop_more, drop_all, take-take, codes, block_lines, blocks_from, oldest_in, IsLogRing, block_text, Finds, units_in, IsLive, IsRing, units_of, unit_at, hi_of, Ring, Shape, lengths_later, Preserves, State, Image, content_of}
use Rattle.sealed_ring.proofs.Heads.{unit_is}
use Rattle.sealed_ring.proofs.Stays.{usable_later}
use Rattle.sealed_ring.proofs.Units.{live_count}

-- a live unit has no more octets than a slot has room for
pub unit_whole : (s : Shape) (hi n : ℕ) (c : List ℕ) → 3 ≤ s.slots → hi ≡ hi_of s c → IsLive s hi n → take s.room (unit_at s (units_of s c) n) ≡ unit_at s (units_of s c) n
unit_whole s hi n c slots is live = grind (arith, unit_is, take-take)

-- the line of a live block comes before those of the blocks behind it
pub block_first : (s : Shape) (c : List ℕ) (n : ℕ) → let units = units_of s c in oldest_in s units ≤ n → n < units.hi
    → blocks_from s units n ≡ (block_text n (unit_at s units n) ++ codes "\n") ∷ blocks_from s units (n + 1)
block_first s c n old less =
    let units = units_of s c in
    let few : length units.live ≡ min units.hi (s.slots - 1) = live_count s c in
    let place : ℕ = n - oldest_in s units in
    let inside : place < length units.live = omega (arith, few, old, less) in
    let next : n + 1 - oldest_in s units ≡ place + 1 = omega (arith, old) in
    ap (block_lines n) (drop_more units.live place [] inside)
    ∙ ap (λ (k : ℕ). (block_text n (unit_at s units n) ++ codes "\n") ∷ block_lines (n + 1) (drop k units.live)) (sym next)

-- and behind the last one there is none
pub no_blocks : (s : Shape) (c : List ℕ) (n : ℕ) → let units = units_of s c in n ≡ units.hi → blocks_from s units n ≡ []
no_blocks s c n is =
    let units = units_of s c in
    let few : length units.live ≡ min units.hi (s.slots - 1) = live_count s c in
    ap (block_lines n) (drop_all (n - oldest_in s units) units.live (omega (arith, few, is)))

-- the ring is the same while the devices are
pub finds_later : (ring : Ring) (old now : State) → now.image ≡ old.image → Finds ring old → Finds ring now
finds_later ring old now same finds = record { form = subst (λ (i : Image). IsRing ring.shape (content_of ring.shape.dev i)) (sym same) finds.form; hi = finds.hi ∙ ap (λ (i : Image). hi_of ring.shape (content_of ring.shape.dev i)) (sym same) }

pub units_later : (s : Shape) (old now : State) → now.image ≡ old.image → units_in s now ≡ units_in s old
units_later s old now same = ap (λ (i : Image). units_of s (content_of s.dev i)) same

pub log_ring_later : (ring : Ring) (old new : State) → Preserves old new → IsLogRing ring old → IsLogRing ring new
log_ring_later ring old new goes log = record {
  g = log.g;
  limits = log.limits;
  lengths = lengths_later log.g old new goes log.lengths;
  shape = log.shape;
  usable = usable_later ring old new goes log.usable;
}
