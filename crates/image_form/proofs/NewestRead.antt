-- The queue of the live groups' frames, and the versions that it leads to.
use Rattle.std.proofs.lemmas.Grind.{common_steps}
use Rattle.image_form.proofs.Names.{◌≡◌, ℕ, zero, suc, ◌+◌, ◌-◌, ◌*◌, ◌%◌, ◌≤◌, ◌<◌, List, [], ◌∷◌, ◌++◌, length, get_or, map, take, drop, None, option_map, refl, sym, ap, subst, ◌∙◌, arith, length-map, length-append, map-append, get_or-map, none-some, IfSome, AreGroupHeads, FrameHead, AllTogether, Shows, disk_on, groups_on, frames_on, version_on, last_place, newest, known_in, frames_are_in, pages_stand, Frame, heads_of, frames_in, IsGroup, group_shape, units_on, ShowsFrames, AreGroups, unit_is, live_count, IsLive, hi_of, content_at, units_from, Queue, Image, Geometry, group_on}
use Rattle.std.proofs.Common.{Option, Some}
use Rattle.std.specs.Prelude.{All}
use Rattle.frame_group.specs.Versions.{frames_of, last_frame, version_by}
use Rattle.flash_directory.specs.declared.place.Place.{Place}
use Rattle.flash_directory.proofs.Newest.{placed, last_among-place}
use Rattle.flash_cache.proofs.Fetching.{newest_at}
use Rattle.flash_cache.proofs.Queues.{joined, last_of_groups, together_length, together_at}
use Rattle.flash_cache.proofs.Standing.{known_groups, all_shown}
use Rattle.image_form.proofs.GroupsRead.{no_frame}
use Rattle.sealed_ring.proofs.Alters.{units_push}

-- The heads of all groups, one after the other.

pub some_formed : (o : Option (List FrameHead)) (heads : List FrameHead) → o ≡ Some heads → IfSome o (λ found. AreGroupHeads found) → AreGroupHeads heads
some_formed o heads is formed = subst (λ (x : Option (List FrameHead)). IfSome x (λ found. AreGroupHeads found)) is formed

pub all_pushed : (list : List (List FrameHead)) (heads : List FrameHead) → All (λ x. AreGroupHeads x) list → AreGroupHeads heads → All (λ x. AreGroupHeads x) (list ++ heads ∷ [])
all_pushed [] heads all here zero d less = here
all_pushed [] heads all here (suc k) d less = absurd (omega (arith, less))
all_pushed (x ∷ list) heads all here zero d less = all 0 d (omega arith)
all_pushed (x ∷ list) heads all here (suc k) d less = all_pushed list heads (λ i e l. all (suc i) e (omega (arith, l))) here k d (omega (arith, less))

-- these are the heads of the groups from a number on
abbrev pub AreHeadsFrom : Geometry → Image → ℕ → List (List FrameHead) → Type 0
AreHeadsFrom g image first list = list ≡ map heads_of (map frames_in (units_from (group_shape g) image.flash first (length list)))

-- the content of a live group, and its frames
pub group_stands : (g : Geometry) (image : Image) (n : ℕ) → 3 ≤ g.groups → IsLive (group_shape g) (hi_of (group_shape g) image.flash) n → group_on g image n ≡ content_at (group_shape g) image.flash (n % g.groups)
group_stands g image n slots live = unit_is (group_shape g) (hi_of (group_shape g) image.flash) n image.flash slots refl live

pub one_group_more : (g : Geometry) (image : Image) (first n : ℕ) (list : List (List FrameHead)) (heads : List FrameHead) (frames : List Frame) → 3 ≤ g.groups →
    IsLive (group_shape g) (hi_of (group_shape g) image.flash) n → first + length list ≡ n → IsGroup (group_on g image n) frames → heads ≡ heads_of frames → AreHeadsFrom g image first list → AreHeadsFrom g image first (list ++ heads ∷ [])
one_group_more g image first n list heads frames slots live at group is are =
    let s = group_shape g in
    let c = image.flash in
    let long : length (list ++ heads ∷ []) ≡ suc (length list) = let more = length-append list (heads ∷ []) in omega (arith, more) in
    let content : group_on g image n ≡ content_at s c ((first + length list) % s.slots) = group_stands g image n slots live ∙ ap (λ (k : ℕ). content_at s c (k % s.slots)) (sym at) in
    let own : heads ≡ heads_of (frames_in (content_at s c ((first + length list) % s.slots))) = is ∙ ap heads_of (sym (frames_are_in (group_on g image n) frames group)) ∙ ap (λ (x : List ℕ). heads_of (frames_in x)) content in
    (λ i. are i ++ own i ∷ [])
    ∙ sym (map-append heads_of (map frames_in (units_from s c first (length list))) (frames_in (content_at s c ((first + length list) % s.slots)) ∷ []))
    ∙ ap (map heads_of) (sym (map-append frames_in (units_from s c first (length list)) (content_at s c ((first + length list) % s.slots) ∷ [])))
    ∙ ap (λ (l : List (List ℕ)). map heads_of (map frames_in l)) (sym (units_push s c first (length list)))
    ∙ ap (λ (k : ℕ). map heads_of (map frames_in (units_from s c first k))) (sym long)

-- with all of them the queue shows the live groups
pub all_groups : (g : Geometry) (image : Image) (first : ℕ) (list : List (List FrameHead)) (frames : Queue) → 3 ≤ g.groups → first ≡ hi_of (group_shape g) image.flash - (g.groups - 1) →
    first + length list ≡ hi_of (group_shape g) image.flash → AreHeadsFrom g image first list → frames ≡ record { first = first; groups = map known_in list } → ShowsFrames g image frames
all_groups g image first list frames slots at end are is = grind (arith, common_steps, length-map, known_groups)

pub shown_some : (g : Geometry) (image : Image) (o : Option Queue) (frames : Queue) → o ≡ Some frames → IfSome o (λ found. ShowsFrames g image found) → ShowsFrames g image frames
shown_some g image o frames is shown = subst (λ (x : Option Queue). IfSome x (λ found. ShowsFrames g image found)) is shown

-- The version of a page.

frames_joined : (contents : List (List ℕ)) → frames_of contents ≡ joined (map frames_in contents)
frames_joined [] = refl
frames_joined (content ∷ contents) = ap (λ (l : List Frame). frames_in content ++ l) (frames_joined contents)

module _ (g : Geometry) (image : Image) (queue : Queue) (page : ℕ) (slots : 3 ≤ g.groups) (are : AreGroups g image) (shows : ShowsFrames g image queue) where
  known : AllTogether (AllTogether Shows) queue.groups (groups_on g image)
  known = subst (λ l. AllTogether (AllTogether Shows) l (groups_on g image)) (sym (ap (λ (q : Queue). q.groups) shows.shown)) (all_shown (groups_on g image))

  many : length queue.groups ≡ length (groups_on g image)
  many = together_length (AllTogether Shows) queue.groups (groups_on g image) known

  last_is : last_frame page (frames_on g image) ≡ option_map (λ (p : ℕ × ℕ). get_or (get_or (groups_on g image) p.0 []) p.1 no_frame) (last_place queue.groups page)
  last_is = ap (last_frame page) (frames_joined (units_on (group_shape g) image).live) ∙ last_of_groups queue.groups (groups_on g image) page no_frame known

  -- a page without a frame
  pub no_newest : None ≡ newest queue page → last_frame page (frames_on g image) ≡ None
  no_newest none = grind (arith, common_steps, last_among-place, option_map, placed, last_is, none-some)

  pub disk_version : None ≡ newest queue page → disk_on image page ≡ version_on g image page
  disk_version none = ap (λ (o : Option Frame). version_by o (disk_on image page)) (sym (no_newest none))

  -- one with a frame: where the last one stands
  pub record StandsNewest (place : Place) : Type 0 where
    pub live : IsLive (group_shape g) (hi_of (group_shape g) image.flash) place.group
    pub within : place.index < length (frames_in (group_on g image place.group))
    pub last : last_frame page (frames_on g image) ≡ Some (get_or (frames_in (group_on g image place.group)) place.index no_frame)

  pub stands_newest : (place : Place) → Some place ≡ newest queue page → StandsNewest place
  stands_newest place is =
      let s = group_shape g in
      let hi : ℕ = hi_of (group_shape g) image.flash in
      let live_list : List (List ℕ) = (units_on s image).live in
      let found = newest_at queue page place is in
      let k = found.0 in
      let at = found.1 in
      let next = shows.next in
      let count = live_count s image.flash in
      let all = length-map live_list frames_in in
      let number = at.number in
      let low = at.below in
      let same = many in
      let below : k < length live_list = omega (arith, low, same, all) in
      let index : place.group - (hi - (g.groups - 1)) ≡ k = omega (arith, number, next, same, all, count) in
      let content : group_on g image place.group ≡ get_or live_list k [] = ap (λ (i : ℕ). get_or live_list i []) index in
      let own : get_or (groups_on g image) k [] ≡ frames_in (group_on g image place.group) = get_or-map frames_in live_list k [] [] below ∙ ap frames_in (sym content) in
      let together = together_at (AllTogether Shows) queue.groups (groups_on g image) k [] [] known at.below in
      let long = together_length Shows (get_or queue.groups k []) (get_or (groups_on g image) k []) together in
      let size : length (get_or (groups_on g image) k []) ≡ length (frames_in (group_on g image place.group)) = ap length own in
      let inside = at.within in
      record {
        live = record { below = omega (arith, number, next, low); near = omega (arith, number, next, low, same, all, count, slots) };
        within = omega (arith, inside, long, size);
        last = last_is ∙ ap (option_map (λ (p : ℕ × ℕ). get_or (get_or (groups_on g image) p.0 []) p.1 no_frame)) at.found ∙ ap (λ (l : List Frame). Some (get_or l place.index no_frame)) own;
      }

  pub frame_version : (place : Place) → Some place ≡ newest queue page → take 4096 (drop (128 + 4096 * place.index) (group_on g image place.group)) ≡ version_on g image page
  frame_version place is =
      let stands = stands_newest place is in
      let group = are place.group stands.live in
      let within = stands.within in
      let last = stands.last in
      let own : frames_in (group_on g image place.group) ≡ group.0 = frames_are_in (group_on g image place.group) group.0 group.1.group in
      pages_stand (group_on g image place.group) group.0 place.index no_frame group.1.group (subst (λ (l : List Frame). place.index < length l) own within)
      ∙ ap (λ (l : List Frame). (get_or l place.index no_frame).octets) (sym own) ∙ sym (ap (λ (o : Option Frame). version_by o (disk_on image page)) last)
