-- The index of the pages that a push may take, kept beside the entries of the pool.
use Rattle.std.specs.Prelude.{◌≡◌, ℕ, ◌<◌, Bool, true, not, ◌||◌, List, [], ◌∷◌, ◌++◌, ⊤, if◌then◌else◌}
use Rattle.std.specs.Map.{remove_entry}
use Rattle.std.specs.Ordering.{nat_cmp}
use Rattle.std.specs.BTreeMap.{insert_entry, is_at}
use Rattle.buffer_pool.specs.declared.pool_entry.PoolEntry.{PoolEntry}
use Rattle.buffer_pool.specs.declared.index.Index.{Index}

-- whether a page is listed: it is changed, or has no frame in the queue
abbrev pub is_listed : PoolEntry → Bool
is_listed kept = kept.changed || not kept.framed

-- The pages that are listed, each with the number of its last touch and whether it is changed: the coldest in front.
abbrev pub if_listed : ℕ × PoolEntry → List (ℕ × (ℕ × Bool))
if_listed e = if is_listed e.1 then (e.1.stamp, (e.0, e.1.changed)) ∷ [] else []

abbrev pub listed_of : List (ℕ × PoolEntry) → List (ℕ × (ℕ × Bool))
listed_of [] = []
listed_of (e ∷ es) = listed_of es ++ if_listed e

-- the numbers of the last touches fall from the front on, and are below this
abbrev pub AreStamped : ℕ → List (ℕ × PoolEntry) → Type 0
AreStamped bound [] = ⊤
AreStamped bound (e ∷ es) = (e.1.stamp < bound) × AreStamped e.1.stamp es

-- where the index is whole it lists these pages
pub record IsIndex (index : Index) (entries : List (ℕ × PoolEntry)) : Type 0 where
  pub listed : index.whole ≡ true → index.listed.entries ≡ listed_of entries
  pub stamped : index.whole ≡ true → AreStamped index.next entries

-- a list without what has this number, where that is wanted
abbrev pub struck : ℕ → Bool → List (ℕ × (ℕ × Bool)) → List (ℕ × (ℕ × Bool))
struck stamp wanted listed = if wanted then remove_entry (is_at (nat_cmp stamp)) listed else listed

-- and with a page under it
abbrev pub enlisted : ℕ → ℕ × Bool → Bool → List (ℕ × (ℕ × Bool)) → List (ℕ × (ℕ × Bool))
enlisted stamp mark wanted listed = if wanted then insert_entry nat_cmp listed stamp mark else listed
