-- The last frame of a page, where the directory says that it stands.
use Rattle.flash_cache.proofs.Names.{◌≡◌, ℕ, ◌+◌, ◌*◌, ◌<◌, true, false, List, [], length, get_or, map, take, drop, Option, Some, None, option_map, arith, refl, sym, ap, subst, ◌∙◌, none-some, same_Some, HasGroups, AreSaved, Represents, Invariant, group_on, disk_on, version_on, AllTogether, Shows, FlashCache, last_place, newest, pages_stand, Frame, group, frames_of, last_frame, version_by, Queue, with_read, lengths_later, Preserves, State, Image, Geometry, stands}
use Rattle.flash_directory.specs.declared.place.Place.{Place}
use Rattle.flash_directory.proofs.Newest.{placed, last_among-place, place_bound, last_bound}
use Rattle.flash_directory.proofs.Reading.{sizes_read}
use Rattle.flash_cache.proofs.Queues.{last_of_groups, frames_of_groups, has_at, groups_shown, exist_read, together_length, together_at}
use Rattle.flash_cache.proofs.Standing.{rings_later}
use Rattle.second_chance.proofs.Unread.{length-groups_read}

-- where the newest frame of a page stands
pub record IsAt (queue : Queue) (page : ℕ) (place : Place) (k : ℕ) : Type 0 where
  pub number : place.group ≡ queue.first + k
  pub found : last_place queue.groups page ≡ Some (k, place.index)
  pub below : k < length queue.groups
  pub within : place.index < length (get_or queue.groups k [])

pub newest_at : (queue : Queue) (page : ℕ) (place : Place) → Some place ≡ newest queue page → (k : ℕ) × IsAt queue page place k
newest_at queue page place is = by (last_place queue.groups page) refl (is ∙ last_among-place queue.first queue.groups page)
  where
    by : (o : Option (ℕ × ℕ)) → last_place queue.groups page ≡ o → Some place ≡ option_map (placed queue.first) o → (k : ℕ) × IsAt queue page place k
    by None here same = absurd (none-some place (sym same))
    by (Some p) here same =
        let is : place ≡ placed queue.first p = same_Some place (placed queue.first p) same in
        let index : p.1 ≡ place.index = sym (ap (λ (q : Place). q.index) is) in
        let found : last_place queue.groups page ≡ Some (p.0, place.index) = here ∙ ap (λ (i : ℕ). Some (p.0, i)) index in
        let bound = place_bound queue.groups page p.0 place.index [] found in
        let last = last_bound 0 (get_or queue.groups p.0 []) page place.index bound.frame in
        (p.0, record { number = ap (λ (q : Place). q.group) is; found = found; below = bound.group; within = let high = last.1 in omega (arith, high) })

none : Frame
none = record { page = 0; dirty = false; octets = [] }

module _ (g : Geometry) (queue : Queue) (groups : List (List Frame)) (image : Image) (page : ℕ) (place : Place) (has : HasGroups g queue.first groups image) (shown : AllTogether (AllTogether Shows) queue.groups groups) (is : Some place ≡ newest queue page) where
  pub page_fetched : take 4096 (drop (128 + 4096 * place.index) (group_on g image place.group)) ≡ version_on g image page
  page_fetched =
      let found = newest_at queue page place is in
      let k = found.0 in
      let at = found.1 in
      let many = together_length (AllTogether Shows) queue.groups groups shown in
      let below : k < length groups = let low = at.below in omega (arith, low, many) in
      let together = together_at (AllTogether Shows) queue.groups groups k [] [] shown at.below in
      let long = together_length Shows (get_or queue.groups k []) (get_or groups k []) together in
      let within : place.index < length (get_or groups k []) = let low = at.within in omega (arith, low, long) in
      let frame = get_or (get_or groups k []) place.index none in
      let last : last_frame page (frames_of (map group groups)) ≡ Some frame =
      ap (last_frame page) (frames_of_groups g groups has.are_groups) ∙ last_of_groups queue.groups groups page none shown
      ∙ ap (option_map (λ (p : ℕ × ℕ). get_or (get_or groups p.0 []) p.1 none)) at.found in
      ap (λ (c : List ℕ). take 4096 (drop (128 + 4096 * place.index) c)) (stands g queue.first groups image has place.group k at.number below)
      ∙ pages_stand (group (get_or groups k [])) (get_or groups k []) place.index none (has_at g groups k has.are_groups below).is_group within
      ∙ sym (ap (λ (o : Option Frame). version_by o (disk_on image page)) (ap (λ (l : List (List ℕ)). last_frame page (frames_of l)) has.live ∙ last))

-- the cache after a read

pub goes_on_marked : (cache : FlashCache) (page : ℕ) (queue : Queue) (old new : State) → Invariant cache old → Preserves old new → queue ≡ with_read page cache.directory → Invariant (record cache { directory = queue }) new
goes_on_marked cache page queue old new going goes is =
    let many = length-groups_read page cache.directory.groups in
    subst (λ (q : Queue). Invariant (record cache { directory = q }) new) (sym is) (record {
      limits = going.limits;
      lengths = lengths_later cache.geometry old new goes going.lengths;
      rings = rings_later cache.geometry cache.ring cache.segments old new goes going.rings;
      next = let next = going.next in omega (arith, next, many);
      few = let few = going.few in omega (arith, few, many);
      sizes = sizes_read page cache.directory.groups going.sizes;
      exist = exist_read cache.geometry.pages page cache.directory.groups going.exist;
    })

pub goes_on_ended : (cache : FlashCache) (old new : State) → Invariant cache old → Preserves old new → Invariant (record cache { ended = true }) new
goes_on_ended cache old new going goes = record {
  limits = going.limits;
  lengths = lengths_later cache.geometry old new goes going.lengths;
  rings = rings_later cache.geometry cache.ring cache.segments old new goes going.rings;
  next = going.next;
  few = going.few;
  sizes = going.sizes;
  exist = going.exist;
}

pub holds_marked : (cache : FlashCache) (page : ℕ) (queue : Queue) (old new : Image) (groups : List (List Frame)) → Represents cache old groups → new ≡ old → queue ≡ with_read page cache.directory → Represents (record cache { directory = queue }) new groups
holds_marked cache page queue old new groups holds same is =
    subst (λ (q : Queue). Represents (record cache { directory = q }) new groups) (sym is) (record {
      has = subst (HasGroups cache.geometry cache.directory.first groups) (sym same) holds.has;
      saved = subst (AreSaved cache.geometry groups) (sym same) holds.saved;
      shown = groups_shown page cache.directory.groups groups holds.shown;
    })
