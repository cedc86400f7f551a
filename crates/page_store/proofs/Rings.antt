-- The rings stay sound at each moment.
use Rattle.page_store.proofs.Names.{◌≡◌, ℕ, ◌+◌, ◌<◌, Bool, List, [], ◌∷◌, ◌++◌, map, sym, ap, subst, Option, arith, cases_lt, eqb-true, eqb-false, AllByRecursion, chance_marks, chance_given, frames_given, frames_pushed, changes_of_push, changes_of_group, version_on, FlashCache, Stored, group, IsGroup, Change, AppendsSegment, Makes, IsReached, IsFrontOf, LeavesFront, Groups, Segments, group_shape, segment_shape, KeepsUnits, AreRingsSoundUnder, KeepsRingsAll, RingsKeptUnder, LogList, changes_if, LeavesRings, Units, hi_of, Placed, leaves_weaker, no_call, quiet_leaves, Leaves, LeavesOnly, State, Image, IsQuiet, Geometry, IsSound}
use Rattle.checkpoint.specs.declared.master.Master.{Master}
use Rattle.image_meaning.specs.Meaning.{IsFrameOf}
use Rattle.image_meaning.specs.Changes.{SegmentIsDue, NoSegmentIsDue}
use Rattle.std.proofs.lemmas.Grind.{common_steps}
use Rattle.flash_cache.specs.Representation as flash_cache

pub all_front : (g : Geometry) (image : Image) (front left : List Change) → KeepsRingsAll g image (front ++ left) → KeepsRingsAll g image front
all_front g image [] left all = tt
all_front g image (change ∷ front) left all = (all.0, λ mid made. all_front g mid front left (all.1 mid made))

pub sealing_keeps : (g : Geometry) (image : Image) (sealing : Bool) (list : LogList) → KeepsRingsAll g image (changes_if sealing list)
sealing_keeps g image sealing list = grind (arith, common_steps)

sound_frames : (g : Geometry) (pages : List ℕ) (changed : List Bool) (contents : List (List ℕ)) → AllByRecursion IsSound contents → AllByRecursion (λ frame. frame.page < g.pages) (frames_given pages changed contents)
    → AllByRecursion (IsFrameOf g) (frames_given pages changed contents)
sound_frames g [] changed contents sound exist = tt
sound_frames g (page ∷ pages) [] contents sound exist = tt
sound_frames g (page ∷ pages) (mark ∷ changed) [] sound exist = tt
sound_frames g (page ∷ pages) (mark ∷ changed) (content ∷ contents) sound exist = (record { exists = exist.0; sound = sound.0 }, sound_frames g pages changed contents sound.1 exist.1)

-- the second chances are sound where the pages' versions are
pub sound_pushed : (cache : FlashCache) (image : Image) (pages : List ℕ) (changed : List Bool) (contents : List (List ℕ)) → ((page : ℕ) → page < cache.geometry.pages → IsSound (version_on cache.geometry image page)) →
    AllByRecursion IsSound contents → AllByRecursion (λ frame. frame.page < cache.geometry.pages) (frames_pushed cache image pages changed contents) →
    AllByRecursion (IsFrameOf cache.geometry) (frames_pushed cache image pages changed contents)
sound_pushed cache image pages changed contents versions sound = each (chance_marks cache)
  where
    each : (xs : List Placed) → AllByRecursion (λ frame. frame.page < cache.geometry.pages) (map (chance_given (version_on cache.geometry image)) xs ++ frames_given pages changed contents)
        → AllByRecursion (IsFrameOf cache.geometry) (map (chance_given (version_on cache.geometry image)) xs ++ frames_given pages changed contents)
    each [] exist = sound_frames cache.geometry pages changed contents sound exist
    each (x ∷ xs) exist = (record { exists = exist.0; sound = versions x.1.page exist.0 }, each xs exist.1)

-- where no segment is due none is behind changes of other rings, nor behind a segment that was due
none_due_stays : (g : Geometry) (old new : Image) → KeepsUnits (group_shape g) old new → KeepsUnits (segment_shape g) old new → NoSegmentIsDue g old → NoSegmentIsDue g new
none_due_stays g old new groups segments none = grind (arith, common_steps)

none_due_then : (g : Geometry) (old new : Image) (content : List ℕ) → SegmentIsDue g old → Makes g (AppendsSegment content) old new → NoSegmentIsDue g new
none_due_then g old new content due made =
    let h : hi_of (group_shape g) new.flash ≡ hi_of (group_shape g) old.flash = ap (λ (u : Units). u.hi) (made.others Groups (λ same. cc)).units in
    let k : hi_of (segment_shape g) new.flash ≡ hi_of (segment_shape g) old.flash + 1 = ap (λ (u : Units). u.hi) made.units in
    omega (arith, due, h, k)

push_keeps : (g : Geometry) (image : Image) (staged : List ℕ) (frames : List Stored) → NoSegmentIsDue g image → AllByRecursion (IsFrameOf g) frames → IsGroup (group frames) frames → KeepsRingsAll g image (changes_of_push staged (group frames))
push_keeps g image [] frames none sound is = ((none, frames, is, sound), λ mid made. tt)
push_keeps g image (page ∷ staged) frames none sound is = (tt, λ mid made. ((none_due_stays g image mid (made.rings Groups) (made.rings Segments) none, frames, is, sound), λ last pushed. tt))

-- All changes of a push keep the rings: a segment is saved first where one is due.
pub pushing_keeps : (cache : FlashCache) (site : State) (groups : List (List Stored)) (pages : List ℕ) (changed : List Bool) (contents : List (List ℕ)) → flash_cache.Matches cache site → flash_cache.Represents cache site.image groups →
    AllByRecursion (IsFrameOf cache.geometry) (frames_pushed cache site.image pages changed contents) → IsGroup (group (frames_pushed cache site.image pages changed contents)) (frames_pushed cache site.image pages changed contents) →
    KeepsRingsAll cache.geometry site.image (changes_of_group cache site.image pages changed contents)
pushing_keeps cache site groups pages changed contents fits holds sound is = grind (arith, common_steps, eqb-true, push_keeps, none_due_then, eqb-false, cases_lt)

pub rings_front : (newest : Option Master) → RingsKeptUnder newest → (g : Geometry) (changes : List Change) (old new : State) → AreRingsSoundUnder newest g old.image → KeepsRingsAll g old.image changes → LeavesFront g changes old new → LeavesOnly old new (LeavesRings newest g)
rings_front newest kept g changes old new sound all leaves =
    leaves_weaker old new (IsReached g (IsFrontOf changes) old) (LeavesRings newest g)
    (λ s is. kept g is.changes old.image s.image sound (all_front g old.image is.changes is.made.0 (subst (KeepsRingsAll g old.image) is.made.1 all)) is.reaches) leaves

-- a site that stays as it is
pub stays_rings : (newest : Option Master) (g : Geometry) (site : State) → IsQuiet site → AreRingsSoundUnder newest g site.image → LeavesOnly site site (LeavesRings newest g)
stays_rings newest g site quiet sound = no_call site (Leaves (LeavesRings newest g)) (λ snapshot left. subst (LeavesRings newest g) (sym (quiet_leaves site snapshot quiet left)) sound)
