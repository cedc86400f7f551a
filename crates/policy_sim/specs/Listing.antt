-- The list of the pages that a push may take, kept beside the pool.
use Rattle.std.specs.Prelude.{◌≡◌, ℕ, ◌-◌, ◌^◌, ◌<◌, ◌==◌, ◌&&◌, ◌||◌, Bool, false, not, List, [], ◌∷◌, ◌++◌, nat_eq, ⊤}
use Rattle.std.specs.Prelude.{if◌then◌else◌}
use Rattle.std.specs.Prelude.{unwrap_or}
use Rattle.std.specs.List.{AllByRecursion, list_any}
use Rattle.std.specs.Map.{lookup, remove_entry}
use Rattle.std.specs.Ordering.{nat_cmp}
use Rattle.std.specs.BTreeMap.{insert_entry, is_at}
use Rattle.byte_fields.specs.declared.frame_head.Mark.{Mark}
use Rattle.second_chance.specs.Queue.{Queue, has_frame}
use Rattle.policy_sim.specs.declared.entry.Entry.{Entry}
use Rattle.policy_sim.specs.declared.entry.Kept.{Kept}
use Rattle.policy_sim.specs.declared.pool.Pool.{Pool}

-- The pages that are listed, each with the number of its last touch: the coldest in front.

abbrev pub if_listed : ℕ × Kept → List (ℕ × Entry)
if_listed e = if e.1.listed then (e.1.stamp, record { page = e.0; changed = e.1.changed }) ∷ [] else []

abbrev pub listed_of : List (ℕ × Kept) → List (ℕ × Entry)
listed_of [] = []
listed_of (e ∷ es) = listed_of es ++ if_listed e

-- the numbers of the last touches fall from the front on, and are below this
abbrev pub AreStamped : ℕ → List (ℕ × Kept) → Type 0
AreStamped bound [] = ⊤
AreStamped bound (e ∷ es) = (e.1.stamp < bound) × AreStamped e.1.stamp es

pub record IsPool (pool : Pool) : Type 0 where
  pub cap : pool.pages.cap ≡ 2 ^ 64 - 1
  pub listed : pool.listed.entries ≡ listed_of pool.pages.entries
  pub stamped : AreStamped pool.next pool.pages.entries

-- A page is listed exactly where it is changed or has no frame, by a test for frames.
abbrev pub IsListedBy : (ℕ → Bool) → List (ℕ × Kept) → Type 0
IsListedBy framed es = AllByRecursion (λ e. e.1.listed ≡ (e.1.changed || not (framed e.0))) es

abbrev pub IsListed : Queue → Pool → Type 0
IsListed queue pool = IsListedBy (has_frame queue) pool.pages.entries

-- the test where one page has no frame
abbrev pub but : ℕ → (ℕ → Bool) → ℕ → Bool
but page framed n = framed n && not (n == page)

-- the test where the pages of these marks have frames as in this queue
abbrev pub unless : List Mark → Queue → (ℕ → Bool) → ℕ → Bool
unless front queue framed n = framed n && (not (list_any (λ mark. n == mark.page) front) || has_frame queue n)

-- what is kept of a page
abbrev pub none_kept : Kept
none_kept = record { changed = false; listed = false; stamp = 0 }

abbrev pub kept_of : ℕ → List (ℕ × Kept) → Kept
kept_of page es = unwrap_or (lookup (nat_eq page) es) none_kept

-- a list without the page of which this is kept
abbrev pub struck : Kept → List (ℕ × Entry) → List (ℕ × Entry)
struck kept listed = if kept.listed then remove_entry (is_at (nat_cmp kept.stamp)) listed else listed

-- and with it
abbrev pub enlisted : ℕ → Kept → List (ℕ × Entry) → List (ℕ × Entry)
enlisted page kept listed = if kept.listed then insert_entry nat_cmp listed kept.stamp
    (record { page = page; changed = kept.changed }) else listed
