-- The names, which have their values in the upper half of the records.
use Rattle.std.specs.Prelude.{◌≡◌, ◌≢◌, ℕ, zero, suc, ◌+◌, ◌/◌, ◌%◌, ◌^◌, ◌<◌, nat_le, Bool, ◌&&◌, List, [], ◌∷◌, ◌++◌}
use Rattle.std.specs.Prelude.{length, take, drop, fold, bit_xor, Option, Some, None, if◌then◌else◌}
use Rattle.std.specs.Option.{option_or}
use Rattle.std.specs.Str.{bytes_eq}
use Rattle.record_model.specs.declared.names.Bucket.{Bucket}
use Rattle.record_model.specs.declared.names.Bucket.TheVariants.{Free, Tombstone, Entry, Strange}
use Rattle.record_model.specs.State.{Content, content_at}
use Rattle.record_model.specs.Numbers.{following}

-- the octets of an entry: one with the length of the name, the name, then the value
abbrev pub entry : List ℕ → List ℕ → List ℕ
entry name value = length name ∷ name ++ value

-- a name has 1 to 32 octets, and its value has at most 100
abbrev pub has_name : ℕ → List ℕ → Bool
has_name size octets =
    nat_le 1 size && nat_le size 32 && nat_le size (length octets) && nat_le (length octets) (size + 100)

-- what a bucket is by what its record has
abbrev pub bucket_of : Content → Bucket
bucket_of None = Free
bucket_of (Some []) = Tombstone
bucket_of (Some (size ∷ octets)) =
    if has_name size octets then Entry (take size octets) (drop size octets) else Strange

-- the bucket, of so many, where the probing for a name begins
abbrev pub home : List ℕ → ℕ → ℕ
home name buckets = (fold (λ x octet. following (bit_xor x octet)) 0 name / 2 ^ 33) % buckets

-- the bucket so many steps up from there, from the last one on to the first
abbrev pub probed : List ℕ → ℕ → ℕ → ℕ
probed name buckets steps = (home name buckets + steps) % buckets

-- There are half as many buckets as records, and they are the upper half of them.
abbrev pub bucket_count : List Content → ℕ
bucket_count table = length table / 2

abbrev pub bucket_at : List Content → ℕ → Bucket
bucket_at table place = bucket_of (content_at table (bucket_count table + place))

-- Names: under a name stands the value of its entry among these buckets
abbrev pub value_under : List ℕ → Bucket → Option (List ℕ)
value_under name (Entry other value) = if bytes_eq other name then Some value else None
value_under name Free = None
value_under name Tombstone = None
value_under name Strange = None

abbrev pub value_among : (ℕ → Bucket) → List ℕ → ℕ → Option (List ℕ)
value_among bucket name zero = None
value_among bucket name (suc place) = option_or (value_under name (bucket place)) (value_among bucket name place)

abbrev pub names : List Content → List ℕ → Option (List ℕ)
names table name = value_among (bucket_at table) name (bucket_count table)

-- Buckets are well formed: each is free, a tombstone or an entry; the names of entries differ; and on the way from an
-- entry's home to its place no bucket is free.
pub record AreWellFormed (bucket : ℕ → Bucket) (buckets : ℕ) : Type 0 where
  pub formed : (place : ℕ) → place < buckets → bucket place ≢ Strange
  pub differ : (place other : ℕ) (name value more : List ℕ) → place < buckets → other < buckets →
      bucket place ≡ Entry name value → bucket other ≡ Entry name more → place ≡ other
  pub reached : (name value : List ℕ) (steps fewer : ℕ) → steps < buckets → fewer < steps →
      bucket (probed name buckets steps) ≡ Entry name value → bucket (probed name buckets fewer) ≢ Free

abbrev pub IsWellFormed : List Content → Type 0
IsWellFormed table = AreWellFormed (bucket_at table) (bucket_count table)
