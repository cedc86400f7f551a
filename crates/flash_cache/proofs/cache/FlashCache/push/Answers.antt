use Rattle.flash_cache.proofs.Names.{rules, refl, [], length, ◌≡◌, ◌≢◌, ◌≤◌, ◌<◌, ◌++◌, ℕ, List, map, ◌∙◌, sym, ap, subst, arith, on_ok_weaker, All, AllPairs, AllByRecursion, Ok, IsTrue, AreGroupHeads, again, page_at, frames_with, IsMadeOf, staged_marks, staged_pages, staged_contents, frames_given, frames_pushed, pushed_queue, changes_of_push, LeavesPush, PagesExist, Matches, Represents, HasFrames, FlashCache, DepartingFrames, heads_are_group, Frame, IsFrame, heads_of, group as spelled, Reaches, units_in, RingFits, unit_at, stays_honest, untouched_in_sequence, no_error, LeavesOnly, SameAt, State, Image, Loose, Flash, Disk, HasStaged, calls_of, unsynced_in, gaps_unchanged, gaps_then, group_exists}
use Rattle.flash_cache.specs.declared.making.NewGroup.{NewGroup}
use Rattle.flash_cache.specs.declared.making.PagesToPush.{PagesToPush}
use Rattle.flash_cache.proofs.Heads.{heads_make}
use Rattle.flash_cache.proofs.NextSegments.{next_elsewhere, next_then}
use Rattle.flash_cache.proofs.Staging.{goes_on_later, fits_read, pages_read, read_untouched, pages_in_sequence, none_pushed, pushed_since}
use Rattle.flash_cache.proofs.StagedMarks.{places_inside, reads_few, leaving_few, front_live, leaving_some, staged_numbered, staged_among, chances_among, pages_apart, marks_exist}
use Rattle.flash_cache.proofs.StagedContents.{pages_are, contents_are, dirty_long, contents_long, all_long, again_is, group_has, group_known, pushed_has, with_parts}
use Rattle.flash_cache.proofs.Pushing.{ring_found}
use Rattle.flash_cache.proofs.SomeMoments.{some_after_reads, some_weaker}
use Rattle.flash_cache.proofs.cache.FlashCache.push.Given.{Over}
use Rattle.flash_cache.proofs.cache.FlashCache.push.Goals.{In-Ok}
use Rattle.flash_cache.proofs.cache.FlashCache.push.Goals as goal

-- What leaves.

pub frames_leaving-requires-clause-live : goal.frames_leaving-requires-clause-live
frames_leaving-requires-clause-live g c some =
    let least = leaving_some c.args.self.now c.args.plan.now.front.now c.requires.plan.front some in
    front_live c.args.self.now (g.S.Site.state c.args.site.now) c.requires.going c.first.result c.first.ensures.first least

pub frames_leaving-requires-clause-few : goal.frames_leaving-requires-clause-few
frames_leaving-requires-clause-few g c = leaving_few c.args.self.now c.args.plan.now.front.now c.requires.plan.front c.requires.going.sizes

pub frames_leaving-requires-clause-staged : goal.frames_leaving-requires-clause-staged
frames_leaving-requires-clause-staged g c = places_inside _ _ (staged_among c.args.self.now c.args.plan.now c.requires.plan) c.args.plan.now.plan.staged c.requires.plan.staged

pub frames_leaving-requires-clause-chances : goal.frames_leaving-requires-clause-chances
frames_leaving-requires-clause-chances g c = places_inside _ _ (chances_among c.args.self.now c.args.plan.now c.requires.plan) c.args.plan.now.plan.chances c.requires.plan.chances

-- It can't be read.

pub returns-in-Err-clause-any_moment : goal.returns-in-Err-clause-any_moment
returns-in-Err-clause-any_moment g c groups fits holds quiet =
    none_pushed c.args.self.now.geometry _ _ _ (g.S.Site.state c.args.site.now) (g.S.Site.state c.frames_leaving.new.site) quiet (c.frames_leaving.ensures.reads.same fits.honest)

pub returns-in-Err-clause-frames : goal.returns-in-Err-clause-frames
returns-in-Err-clause-frames g c groups fits holds =
    pushed_has c.args.self.now (g.S.Site.state c.args.site.now) groups c.requires.going holds c.args.given.now.pages.now c.args.given.now.changed.now c.args.given.now.contents.now
    c.requires.marks c.requires.lists c.requires.some c.requires.few c.requires.exist c.requires.are_frames

pub returns-in-Err-clause-gaps : goal.returns-in-Err-clause-gaps
returns-in-Err-clause-gaps g c fits quiet =
    gaps_unchanged c.args.self.now.geometry (g.S.Site.state c.args.site.now) (g.S.Site.state c.frames_leaving.new.site) quiet (c.frames_leaving.ensures.reads.same fits.honest)

pub returns-in-Err-clause-reads : goal.returns-in-Err-clause-reads
returns-in-Err-clause-reads g c =
    let few = reads_few c.args.self.now c.args.plan.now.plan.staged c.args.plan.now.plan.chances c.requires.going.sizes c.requires.plan.staged c.requires.plan.chances in
    omega (arith, few, c.frames_leaving.ensures.reads.reads)

pub returns-in-Err-clause-keeps : goal.returns-in-Err-clause-keeps
returns-in-Err-clause-keeps g c = record {
  ends = search rules;
  fits = λ fits. tt;
  next_segment = λ honest. record { next = λ is. tt; worn = search rules };
  going = goes_on_later c.args.self.now (g.S.Site.state c.args.site.now) (g.S.Site.state c.frames_leaving.new.site) c.requires.going c.frames_leaving.ensures.reads.preserves;
  worn_end = λ fits says. search rules;
}

-- It was read.

module _ (g : Over) (c : In-Ok g) where
  abbrev cache : FlashCache
  cache = c.args.self.now

  abbrev given : PagesToPush
  given = c.args.given.now

  abbrev old : State
  old = g.S.Site.state c.args.site.now

  abbrev mid : State
  mid = g.S.Site.state c.frames_leaving.new.site

  abbrev chances : DepartingFrames
  chances = c.in-Ok.both.1

  abbrev frames : List Frame
  frames = again chances ++ frames_given given.pages.now given.changed.now given.contents.now

  made_again : frames_with given.heads given.contents.now ≡ frames_given given.pages.now given.changed.now given.contents.now
  made_again = heads_make given.pages.now given.changed.now given.contents.now given.heads c.requires.marks c.requires.lists c.requires.heads

  numbers : c.in-Ok.both.0.pages.items ≡ staged_pages cache
  numbers = pages_are cache c.args.plan.now c.in-Ok.both.0 c.requires.plan c.in-Ok.ensures.staged

  still_honest : IsTrue old.honest → IsTrue mid.honest
  still_honest = stays_honest old mid c.frames_leaving.ensures.reads.preserves

  still_fits : Matches cache old → Matches cache mid
  still_fits fits = fits_read cache old mid fits c.frames_leaving.ensures.reads.preserves (c.frames_leaving.ensures.reads.same fits.honest)

  -- the group that is made
  module _ (group : NewGroup) (is : IsMadeOf group (again chances ++ frames_with given.heads given.contents.now)) (are : AllByRecursion IsFrame (again chances ++ frames_with given.heads given.contents.now)) where
    made : IsMadeOf group frames
    made = subst (λ (l : List Frame). IsMadeOf group (again chances ++ l)) made_again is

    has : HasFrames cache.geometry frames group.content
    has = group_has cache c.args.plan.now chances c.requires.plan c.in-Ok.ensures.chances given.pages.now given.changed.now given.contents.now c.requires.marks c.requires.lists c.requires.some c.requires.few
        group.content c.requires.going.exist c.requires.exist (subst (λ (l : List Frame). AllByRecursion IsFrame (again chances ++ l)) made_again are) made.content

    module _ (groups : List (List Frame)) (fits : Matches cache old) (holds : Represents cache old.image groups) where
      abbrev hi_found : RingFits cache.ring old
      hi_found = (ring_found cache old c.requires.going.rings.groups_shape fits).hi

      at_first : (places : List ℕ) → map (page_at (unit_at cache.ring.shape (units_in cache.ring.shape old) c.first.result)) places ≡ map (page_at (unit_at cache.ring.shape (units_in cache.ring.shape old) cache.directory.first)) places
      at_first places = ap (λ (n : ℕ). map (page_at (unit_at cache.ring.shape (units_in cache.ring.shape old) n)) places) c.first.ensures.first

      staged_are : c.in-Ok.both.0.contents.items ≡ staged_contents cache groups
      staged_are = c.in-Ok.ensures.staged_contents fits.honest hi_found ∙ at_first c.args.plan.now.plan.staged
          ∙ contents_are cache old groups c.requires.going holds (staged_marks cache) c.args.plan.now.plan.staged (staged_numbered cache) c.requires.plan.staged

      group_is : group.content ≡ spelled (frames_pushed cache old.image given.pages.now given.changed.now given.contents.now)
      group_is = made.content ∙ ap (λ (l : List Frame). spelled (l ++ frames_given given.pages.now given.changed.now given.contents.now))
          (again_is cache c.args.plan.now chances c.requires.plan c.in-Ok.ensures.chances old groups c.requires.going holds (c.in-Ok.ensures.chances_contents fits.honest hi_found ∙ at_first c.args.plan.now.plan.chances))

-- The group.

pub new_group-group-requires-clause-marks : goal.new_group-group-requires-clause-marks
new_group-group-requires-clause-marks g c = dirty_long c.args.self.now c.args.plan.now c.in-Ok.both.1 c.requires.plan c.in-Ok.ensures.chances

pub new_group-group-requires-clause-lists : goal.new_group-group-requires-clause-lists
new_group-group-requires-clause-lists g c = contents_long c.args.self.now c.args.plan.now c.in-Ok.both.1 c.requires.plan c.in-Ok.ensures.chances

pub new_group-group-requires-clause-few : goal.new_group-group-requires-clause-few
new_group-group-requires-clause-few g c =
    let all = all_long c.args.self.now c.args.plan.now c.in-Ok.both.1 c.requires.plan c.in-Ok.ensures.chances c.args.given.now.pages.now in
    omega (arith, all, c.requires.few, c.requires.lists)

pub new_group-group-requires-clause-heads : goal.new_group-group-requires-clause-heads
new_group-group-requires-clause-heads g c = c.requires.heads ∙ ap heads_of (sym (made_again g (goal.at.new_group-group-requires-clause-heads g c).In-Ok))

-- It is written.

pub write-requires-clause-going : goal.write-requires-clause-going
write-requires-clause-going g c = goes_on_later c.args.self.now (g.S.Site.state c.args.site.now) (g.S.Site.state c.frames_leaving.new.site) c.requires.going c.frames_leaving.ensures.reads.preserves

pub write-requires-clause-once : goal.write-requires-clause-once
write-requires-clause-once g c =
    let items : c.as_slice-pages.result.now ≡ c.in-Ok.both.0.pages.items = search rules in
    subst (AllPairs (λ a b. a ≢ b)) (sym (items ∙ numbers g (goal.at.write-requires-clause-once g c).In-Ok)) (pages_apart c.args.self.now)

pub write-requires-clause-pages : goal.write-requires-clause-pages
write-requires-clause-pages g c =
    let cache = c.args.self.now in
    let items : c.as_slice-pages.result.now ≡ c.in-Ok.both.0.pages.items = search rules in
    subst (All (λ (page : ℕ). page < cache.geometry.pages)) (sym (items ∙ numbers g (goal.at.write-requires-clause-pages g c).In-Ok))
    (marks_exist cache.geometry.pages cache.directory.groups (staged_marks cache) (staged_numbered cache) c.requires.going.exist)

pub write-requires-clause-heads : goal.write-requires-clause-heads
write-requires-clause-heads g c =
    let s = (goal.at.write-requires-clause-heads g c).In-Ok in
    let m = c.new_group-group.ensures in
    let has = has g s c.new_group-group.result m.content m.are_frames in
    subst AreGroupHeads (sym (made g s c.new_group-group.result m.content m.are_frames).heads) (heads_are_group (frames g s) has.is_group.some has.is_group.room)

pub write-requires-clause-exist : goal.write-requires-clause-exist
write-requires-clause-exist g c =
    let s = (goal.at.write-requires-clause-exist g c).In-Ok in
    let m = c.new_group-group.ensures in
    subst (PagesExist c.args.self.now.geometry.pages) (sym (made g s c.new_group-group.result m.content m.are_frames).heads)
    (group_exists c.args.self.now.geometry (frames g s) c.new_group-group.result.content (has g s c.new_group-group.result m.content m.are_frames))

pub returns-clause-frames : goal.returns-clause-frames
returns-clause-frames g c groups fits holds =
    pushed_has c.args.self.now (g.S.Site.state c.args.site.now) groups c.requires.going holds c.args.given.now.pages.now c.args.given.now.changed.now c.args.given.now.contents.now
    c.requires.marks c.requires.lists c.requires.some c.requires.few c.requires.exist c.requires.are_frames

pub returns-clause-reads : goal.returns-clause-reads
returns-clause-reads g c =
    let few = reads_few c.args.self.now c.args.plan.now.plan.staged c.args.plan.now.plan.chances c.requires.going.sizes c.requires.plan.staged c.requires.plan.chances in
    omega (arith, few, c.frames_leaving.ensures.reads.reads, c.write.ensures.reads Flash)

pub returns-clause-directory : goal.returns-clause-directory
returns-clause-directory g c =
    let given = c.args.given.now in
    let s = (goal.at.returns-clause-directory g c).In-Ok in
    let m = c.new_group-group.ensures in
    let known = group_known c.args.self.now c.args.plan.now c.in-Ok.both.1 c.requires.plan c.in-Ok.ensures.chances given.pages.now given.changed.now given.contents.now c.requires.marks c.requires.lists c.requires.some c.requires.few
    c.new_group-group.result.heads (made g s c.new_group-group.result m.content m.are_frames).heads in
    on_ok_weaker c.write.result (λ is. is ∙ ap (pushed_queue c.args.self.now) known) c.write.ensures.ok

pub returns-clause-any_moment : goal.returns-clause-any_moment
returns-clause-any_moment g c groups fits holds quiet =
    let s = (goal.at.returns-clause-any_moment g c).In-Ok in
    let m = c.new_group-group.ensures in
    let cache = c.args.self.now in
    let old = g.S.Site.state c.args.site.now in
    let mid = g.S.Site.state c.frames_leaving.new.site in
    let new = g.S.Site.state c.write.new.site in
    let same = c.frames_leaving.ensures.reads.same fits.honest in
    let items : c.as_slice-pages.result.now ≡ c.in-Ok.both.0.pages.items = search rules in
    let octets : c.as_slice-octets.result.now ≡ c.in-Ok.both.0.contents.items = search rules in
    with_parts (λ a b d. LeavesOnly old new (LeavesPush cache.geometry a b d old)) _ _ _ _ _ _ (items ∙ numbers g s) (octets ∙ staged_are g s c.new_group-group.result m.content m.are_frames groups fits holds)
    (group_is g s c.new_group-group.result m.content m.are_frames groups fits holds)
    (pushed_since cache.geometry c.as_slice-pages.result.now c.as_slice-octets.result.now c.new_group-group.result.content old mid new same
    (c.write.ensures.any_moment (still_fits g s fits) (same.loose ∙ quiet)))

pub returns-clause-reaches : goal.returns-clause-reaches
returns-clause-reaches g c groups fits holds =
    let s = (goal.at.returns-clause-reaches g c).In-Ok in
    let m = c.new_group-group.ensures in
    let cache = c.args.self.now in
    let old = g.S.Site.state c.args.site.now in
    let new = g.S.Site.state c.write.new.site in
    let same = c.frames_leaving.ensures.reads.same fits.honest in
    let items : c.as_slice-pages.result.now ≡ c.in-Ok.both.0.pages.items = search rules in
    on_ok_weaker c.write.result (λ reaches.
    with_parts (λ a b d. Reaches cache.geometry (changes_of_push a d) old.image new.image) _ _ [] [] _ _ (items ∙ numbers g s) refl (group_is g s c.new_group-group.result m.content m.are_frames groups fits holds)
    (subst (λ (i : Image). Reaches cache.geometry (changes_of_push c.as_slice-pages.result.now c.new_group-group.result.content) i new.image) same.image reaches))
    (c.write.ensures.reaches (still_fits g s fits))

pub returns-clause-staged : goal.returns-clause-staged
returns-clause-staged g c groups fits holds =
    let s = (goal.at.returns-clause-staged g c).In-Ok in
    let m = c.new_group-group.ensures in
    let old = g.S.Site.state c.args.site.now in
    let new = g.S.Site.state c.write.new.site in
    let same = c.frames_leaving.ensures.reads.same fits.honest in
    let items : c.as_slice-pages.result.now ≡ c.in-Ok.both.0.pages.items = search rules in
    let octets : c.as_slice-octets.result.now ≡ c.in-Ok.both.0.contents.items = search rules in
    on_ok_weaker c.write.result (λ has.
    with_parts (λ a b d. HasStaged a b old.image.disk new.image.disk) _ _ _ _ [] [] (items ∙ numbers g s) (octets ∙ staged_are g s c.new_group-group.result m.content m.are_frames groups fits holds) refl
    (subst (λ (i : Image). HasStaged c.as_slice-pages.result.now c.as_slice-octets.result.now i.disk new.image.disk) same.image has))
    (c.write.ensures.staged (still_fits g s fits))

pub returns-clause-changes : goal.returns-clause-changes
returns-clause-changes g c honest =
    let old = g.S.Site.state c.args.site.now in
    let mid = g.S.Site.state c.frames_leaving.new.site in
    pages_in_sequence old mid (g.S.Site.state c.write.new.site) (pages_read old mid (c.frames_leaving.ensures.reads.same honest)) (c.write.ensures.changes (still_honest g (goal.at.returns-clause-changes g c).In-Ok honest))

pub returns-clause-alone : goal.returns-clause-alone
returns-clause-alone g c honest none =
    let s = (goal.at.returns-clause-alone g c).In-Ok in
    let old = g.S.Site.state c.args.site.now in
    let mid = g.S.Site.state c.frames_leaving.new.site in
    let items : c.as_slice-pages.result.now ≡ c.in-Ok.both.0.pages.items = search rules in
    untouched_in_sequence Disk old mid (g.S.Site.state c.write.new.site) (read_untouched Disk old mid (c.frames_leaving.ensures.reads.same honest))
    (c.write.ensures.alone (still_honest g s honest) (items ∙ numbers g s ∙ none))

pub returns-clause-shown : goal.returns-clause-shown
returns-clause-shown g c honest some =
    let s = (goal.at.returns-clause-shown g c).In-Ok in
    let old = g.S.Site.state c.args.site.now in
    let mid = g.S.Site.state c.frames_leaving.new.site in
    let new = g.S.Site.state c.write.new.site in
    let same = c.frames_leaving.ensures.reads.same honest in
    let items : c.as_slice-pages.result.now ≡ c.in-Ok.both.0.pages.items = search rules in
    on_ok_weaker c.write.result (λ shown. some_after_reads old mid new (SameAt Flash old) same.past
    (some_weaker mid new (SameAt Flash mid) (SameAt Flash old) (λ m is. record { content = is.content ∙ ap (λ (i : Image). i.flash) same.image; loose = is.loose ∙ ap (λ (l : Loose). l.flash) same.loose }) shown))
    (c.write.ensures.shown (still_honest g s honest) (subst (λ (l : List ℕ). 1 ≤ length l) (sym (items ∙ numbers g s)) some))

pub returns-clause-gaps : goal.returns-clause-gaps
returns-clause-gaps g c fits quiet =
    let s = (goal.at.returns-clause-gaps g c).In-Ok in
    let old = g.S.Site.state c.args.site.now in
    let mid = g.S.Site.state c.frames_leaving.new.site in
    let same = c.frames_leaving.ensures.reads.same fits.honest in
    gaps_then c.args.self.now.geometry old mid (g.S.Site.state c.write.new.site) (gaps_unchanged c.args.self.now.geometry old mid quiet same)
    (c.write.ensures.gaps (still_fits g s fits) (same.loose ∙ quiet))

pub returns-clause-device_calls : goal.returns-clause-device_calls
returns-clause-device_calls g c honest =
    let s = (goal.at.returns-clause-device_calls g c).In-Ok in
    let same = ap length (c.frames_leaving.ensures.reads.same honest).past in
    let items : c.as_slice-pages.result.now ≡ c.in-Ok.both.0.pages.items = search rules in
    let calls = ap calls_of (items ∙ numbers g s) in
    on_ok_weaker c.write.result (λ wrote. omega (arith, same, calls, wrote)) (c.write.ensures.device_calls (still_honest g s honest))

pub returns-clause-unsynced : goal.returns-clause-unsynced
returns-clause-unsynced g c honest settled =
    let s = (goal.at.returns-clause-unsynced g c).In-Ok in
    let same = c.frames_leaving.ensures.reads.same honest in
    let items : c.as_slice-pages.result.now ≡ c.in-Ok.both.0.pages.items = search rules in
    let calls = ap calls_of (items ∙ numbers g s) in
    let before = ap unsynced_in same.past in
    on_ok_weaker c.write.result (λ wrote. omega (arith, before, calls, wrote)) (c.write.ensures.unsynced (still_honest g s honest) (ap (λ (l : Loose). l.disk) same.loose ∙ settled))

pub returns-clause-keeps : goal.returns-clause-keeps
returns-clause-keeps g c =
    let s = (goal.at.returns-clause-keeps g c).In-Ok in
    let cache = c.args.self.now in
    let old = g.S.Site.state c.args.site.now in
    let mid = g.S.Site.state c.frames_leaving.new.site in
    record {
      ends = search rules;
      fits = λ fits. c.write.ensures.keeps.fits (still_fits g s fits);
      next_segment = λ honest. next_then refl (next_elsewhere {T = Unit {0}} (Ok tt) cache cache old mid refl refl (ap (λ (i : Image). i.flash) (c.frames_leaving.ensures.reads.same honest).image) (λ says. no_error says))
          (c.write.ensures.keeps.next_segment (still_honest g s honest));
      going = c.write.ensures.keeps.going;
      worn_end = λ fits says. c.write.ensures.keeps.worn_end (still_fits g s fits) says;
    }
