-- What a push appends: its group, and a segment before it where one is due.
use Rattle.page_store.proofs.Names.{◌≡◌, ◌≢◌, ℕ, ◌+◌, ◌-◌, ◌<◌, ◌≤◌, Bool, true, false, cond, List, [], ◌∷◌, ◌++◌, length, drop, Some, ap, ◌∙◌, arith, append_assoc, leb-true, leb-false, length-map, drop-append-le, AllByRecursion, nat_le, Frame, Stored, ring_kept, Change, AppendsGroup, ring_of, Reaches, RingName, Groups, Segments, group_shape, segment_shape, units_on, LogList, changes_if, LogStore, Standing, is_forced, staged_at, save_changes, group_at, push_changes, standing, AreReady, PageStore, Units, hi_of, appended, State, Image, Geometry, changes_of, changes_of_save}
use Rattle.std.proofs.lemmas.List.{length-append}
use Rattle.site.specs.Geometry.{HasLimits}
use Rattle.image_meaning.proofs.WholePushes.{reaches_parts}
use Rattle.page_store.proofs.Changing.{HasPushed}
use Rattle.std.proofs.lemmas.Grind.{common_steps}
use Rattle.flash_cache.specs.Representation as flash_cache

-- these changes append nothing to a ring
abbrev NoneTo : RingName → List Change → Type 0
NoneTo ring changes = AllByRecursion (λ change. ring_of change ≢ Some ring) changes

none_both : (ring : RingName) (first second : List Change) → NoneTo ring first → NoneTo ring second → NoneTo ring (first ++ second)
none_both ring [] second none more = more
none_both ring (change ∷ first) second none more = (none.0, none_both ring first second none.1 more)

none_sealing : (sealing : Bool) (list : LogList) → NoneTo Groups (changes_if sealing list) × NoneTo Segments (changes_if sealing list)
none_sealing sealing list = grind (arith, common_steps)

none_saving : (due : Bool) (groups : List (List Stored)) → NoneTo Groups (changes_of_save due groups)
none_saving true groups = ((λ same. cc), tt)
none_saving false groups = tt

none_staging : (pages : List ℕ) → NoneTo Groups (changes_of pages) × NoneTo Segments (changes_of pages)
none_staging pages = grind (arith, common_steps)

none_pushing : (pages content : List ℕ) → NoneTo Segments (changes_of pages ++ AppendsGroup content ∷ [])
none_pushing pages content = none_both Segments (changes_of pages) (AppendsGroup content ∷ []) (none_staging pages).1 ((λ same. cc), tt)

-- the groups behind changes of which the last alone appends one
groups_then : (g : Geometry) (first : List Change) (content : List ℕ) (old new : Image) → NoneTo Groups first → Reaches g (first ++ AppendsGroup content ∷ []) old new →
    units_on (group_shape g) new ≡ appended (group_shape g) (units_on (group_shape g) old) content
groups_then g first content old new none reached =
    let parts = reaches_parts g first (AppendsGroup content ∷ []) old new reached in
    let last = parts.2 in
    (last.2.rings Groups).units ∙ last.1.units ∙ ap (λ (u : Units). appended (group_shape g) u content) (ring_kept g Groups first old parts.0 none parts.1).units

-- the number of the next segment behind changes of which one alone may append one
segments_then : (g : Geometry) (due : Bool) (groups : List (List Stored)) (first rest : List Change) (old new : Image) → NoneTo Segments first → NoneTo Segments rest → Reaches g (first ++ (changes_of_save due groups ++ rest)) old new →
    hi_of (segment_shape g) new.flash ≡ cond due (hi_of (segment_shape g) old.flash + 1) (hi_of (segment_shape g) old.flash)
segments_then g true groups first rest old new none later reached =
    let parts = reaches_parts g first (changes_of_save true groups ++ rest) old new reached in
    let more = parts.2 in
    ap (λ (u : Units). u.hi) (ring_kept g Segments rest more.0 new later more.2).units
    ∙ ap (λ (u : Units). u.hi) more.1.units
    ∙ ap (λ (u : Units). u.hi + 1) (ring_kept g Segments first old parts.0 none parts.1).units
segments_then g false groups first rest old new none later reached =
    ap (λ (u : Units). u.hi) (ring_kept g Segments (first ++ rest) old new (none_both Segments first rest none later) reached).units

-- as many groups live as can
live_then : (live : List (List ℕ)) (content : List ℕ) (groups count : ℕ) → length live ≡ count → count < groups → 2 ≤ groups →
    drop (length (live ++ content ∷ []) - (groups - 1)) (live ++ content ∷ []) ≡ cond (nat_le (groups - 1) count) (drop 1 live) live ++ content ∷ []
live_then live content groups count long few some = grind (arith, common_steps, length-append, leb-true, drop-append-le, leb-false)

module _ (log : LogStore) (list : LogList) (store store' : PageStore) (mid new : State) (ready : AreReady store log list mid) (fits : flash_cache.Matches store'.flash new) (geometry : store'.flash.geometry ≡ store.flash.geometry)
    (next : store.flash.directory.first + length store.flash.directory.groups ≡ store.flash.ring.hi) (limits : HasLimits store.flash.geometry) (few : length store.flash.directory.groups < store.flash.geometry.groups) (frames : List Frame)
    (reached : Reaches store.flash.geometry (push_changes (standing log list store mid.image) frames) mid.image new.image) where
  abbrev g : Geometry
  g = store.flash.geometry

  abbrev s : Standing
  s = standing log list store mid.image

  abbrev seal : List Change
  seal = changes_if (is_forced s frames) list

  apart : push_changes s frames ≡ (seal ++ (save_changes s ++ changes_of (staged_at s))) ++ AppendsGroup (group_at s frames) ∷ []
  apart = grind (arith, common_steps, append_assoc)

  grown : units_on (group_shape g) new.image ≡ appended (group_shape g) (units_on (group_shape g) mid.image) (group_at s frames)
  grown = grind (arith, common_steps, groups_then, none_both, none_sealing, none_saving, none_staging, apart)

  count : length (units_on (group_shape g) mid.image).live ≡ length store.flash.directory.groups
  count = grind (arith, common_steps, length-map)

  pub has_pushed : HasPushed s frames store' new.image
  has_pushed = grind (arith, common_steps, grown, live_then, count, segments_then, none_sealing, none_pushing)
