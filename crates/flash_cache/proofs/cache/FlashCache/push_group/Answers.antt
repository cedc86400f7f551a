use Rattle.flash_cache.proofs.Names.{List, true, arith, refl, rules, ◌∙◌, frames_pushed, HasGroups, HasFrames, Matches, Represents, FlashCache, Frame, group, others_untouched, untouched_in_sequence, stays_honest, err_again, Leaves, SameAt, State, IsQuiet, Flash, Disk, unsynced_untouched, gaps_then, LeavesGaps}
use Rattle.flash_cache.proofs.StagedContents.{pushed_has, given_few}
use Rattle.flash_cache.proofs.Staging.{pages_changed, pages_in_sequence}
use Rattle.flash_cache.proofs.Pushing.{ring_found}
use Rattle.flash_cache.proofs.NextSegments.{next_answered, next_then, next_saved}
use Rattle.flash_cache.proofs.SavedFirst.{IsBehind, stands_there, goes_on_saved, segments_found, fits_behind, is_behind, moment_behind, reaches_behind, staged_behind, failed_moment}
use Rattle.flash_cache.proofs.PushedOutcome.{pushes_group}
use Rattle.flash_cache.proofs.LastStaged.{leaves_groups, staged_last}
use Rattle.flash_cache.proofs.SomeMoments.{some_behind, some_weaker}
use Rattle.flash_cache.proofs.cache.FlashCache.push_group.Given.{Over}
use Rattle.flash_cache.proofs.cache.FlashCache.push_group.Goals.{After-heads_given-heads, In_default}
use Rattle.flash_cache.proofs.cache.FlashCache.push_group.Goals as goal

pub heads_given-heads-requires-clause-few : goal.heads_given-heads-requires-clause-few
heads_given-heads-requires-clause-few g c = given_few c.args.self.now c.args.pages.now c.requires.few

own : (g : Over) (c : After-heads_given-heads g) (groups : List (List Frame)) → Represents c.args.self.now (g.S.Site.state c.args.site.now).image groups →
    HasFrames c.args.self.now.geometry (frames_pushed c.args.self.now (g.S.Site.state c.args.site.now).image c.args.pages.now c.args.changed.now c.args.contents.now)
    (group (frames_pushed c.args.self.now (g.S.Site.state c.args.site.now).image c.args.pages.now c.args.changed.now c.args.contents.now))
own g c groups holds =
    pushed_has c.args.self.now (g.S.Site.state c.args.site.now) groups c.requires.going holds c.args.pages.now c.args.changed.now c.args.contents.now
    c.requires.marks c.requires.lists c.requires.some c.requires.few c.requires.exist c.heads_given-heads.ensures.are_frames

-- The save fails.

pub returns-in-Err-clause-pushes : goal.returns-in-Err-clause-pushes
returns-in-Err-clause-pushes g c groups fits holds =
    let cache = c.args.self.now in
    let old = g.S.Site.state c.args.site.now in
    let new = g.S.Site.state c.save_due.new.site in
    let pages = c.args.pages.now in
    let changed = c.args.changed.now in
    let contents = c.args.contents.now in
    let stands = stands_there cache groups old c.requires.going fits holds in
    let saves = c.save_due.ensures.saves cache.directory.first groups holds.saved.segments stands in
    pushes_group cache groups old c.requires.going fits holds pages changed contents c.requires.marks c.requires.lists c.requires.apart
    (own g (goal.at.returns-in-Err-clause-pushes g c).After-heads_given-heads groups holds) _ _ new
    (λ quiet. failed_moment cache groups old new (group (frames_pushed cache old.image pages changed contents)) holds (saves.any_moment quiet)) saves.gaps
    tt tt (λ quiet. tt) tt refl (λ says. c.in-Err.ensures.foreign (err_again _ _ says) cache.directory.first groups holds.saved.segments stands)

pub returns-in-Err-clause-changes : goal.returns-in-Err-clause-changes
returns-in-Err-clause-changes g c honest = pages_changed Flash (g.S.Site.state c.args.site.now) (g.S.Site.state c.save_due.new.site) (λ h. cc) (c.save_due.ensures.changes honest)

pub returns-in-Err-clause-alone : goal.returns-in-Err-clause-alone
returns-in-Err-clause-alone g c honest none = others_untouched Flash Disk (g.S.Site.state c.args.site.now) (g.S.Site.state c.save_due.new.site) (λ h. cc) (c.save_due.ensures.changes honest).only

-- The push behind it.

pub push-requires-clause-going : goal.push-requires-clause-going
push-requires-clause-going g c =
    goes_on_saved c.args.self.now c.save_due.new.segments c.args.self.now.ended (g.S.Site.state c.args.site.now) (g.S.Site.state c.save_due.new.site) c.requires.going c.save_due.ensures.preserves c.save_due.ensures.rings

module _ (g : Over) (c : In_default g) where
  abbrev cache : FlashCache
  cache = c.args.self.now

  abbrev old : State
  old = g.S.Site.state c.args.site.now

  abbrev mid : State
  mid = g.S.Site.state c.save_due.new.site

  behind : (groups : List (List Frame)) → Matches cache old → Represents cache old.image groups → IsBehind cache groups c.save_due.new.segments old mid
  behind groups fits holds =
      is_behind cache groups c.save_due.new.segments old mid holds c.save_due.ensures.rings (c.save_due.ensures.changes fits.honest)
      (c.in_default.ensures.saves cache.directory.first groups holds.saved.segments (stands_there cache groups old c.requires.going fits holds))

  fits_saved : Matches cache old → Matches (record cache { segments = c.save_due.new.segments }) mid
  fits_saved fits =
      let rings = c.requires.going.rings in
      let found = c.in_default.ensures.fits fits.honest (ring_found cache old rings.groups_shape fits) (segments_found cache old rings.segments_shape fits) in
      fits_behind cache c.save_due.new.segments mid c.save_due.ensures.rings (stays_honest old mid c.save_due.ensures.preserves fits.honest) found.0 found.1

  pushed_gaps : (new : State) (groups : List (List Frame)) → (fits : Matches cache old) → (holds : Represents cache old.image groups)
      → (Matches (record cache { segments = c.save_due.new.segments }) mid → IsQuiet mid → LeavesGaps cache.geometry mid new) → IsQuiet old → LeavesGaps cache.geometry old new
  pushed_gaps new groups fits holds later quiet =
      let saves = c.in_default.ensures.saves cache.directory.first groups holds.saved.segments (stands_there cache groups old c.requires.going fits holds) in
      gaps_then cache.geometry old mid new (saves.gaps quiet) (later (fits_saved fits) (c.in_default.ensures.quiet fits.honest quiet))

pub returns-in-Err-push-clause-pushes : goal.returns-in-Err-push-clause-pushes
returns-in-Err-push-clause-pushes g c groups fits holds =
    let cache = c.args.self.now in
    let old = g.S.Site.state c.args.site.now in
    let mid = g.S.Site.state c.save_due.new.site in
    let new = g.S.Site.state c.push.new.site in
    let pages = c.args.pages.now in
    let changed = c.args.changed.now in
    let contents = c.args.contents.now in
    let b = behind g (goal.at.returns-in-Err-push-clause-pushes g c).In_default groups fits holds in
    pushes_group cache groups old c.requires.going fits holds pages changed contents c.requires.marks c.requires.lists c.requires.apart
    (own g (goal.at.returns-in-Err-push-clause-pushes g c).After-heads_given-heads groups holds) _ _ new
    (λ quiet. moment_behind cache groups c.save_due.new.segments old mid holds b pages changed contents new quiet (c.push.ensures.any_moment groups b.fits b.holds (c.in_default.ensures.quiet fits.honest quiet)))
    (pushed_gaps g (goal.at.returns-in-Err-push-clause-pushes g c).In_default new groups fits holds c.push.ensures.gaps)
    tt tt (λ quiet. tt) tt c.push.ensures.keeps.geometry (search rules)

pub returns-in-Err-push-clause-changes : goal.returns-in-Err-push-clause-changes
returns-in-Err-push-clause-changes g c honest =
    let old = g.S.Site.state c.args.site.now in
    let mid = g.S.Site.state c.save_due.new.site in
    pages_in_sequence old mid (g.S.Site.state c.push.new.site) (pages_changed Flash old mid (λ h. cc) (c.save_due.ensures.changes honest)) (c.push.ensures.changes (stays_honest old mid c.save_due.ensures.preserves honest))

pub returns-in-Err-push-clause-alone : goal.returns-in-Err-push-clause-alone
returns-in-Err-push-clause-alone g c honest none =
    let old = g.S.Site.state c.args.site.now in
    let mid = g.S.Site.state c.save_due.new.site in
    untouched_in_sequence Disk old mid (g.S.Site.state c.push.new.site) (others_untouched Flash Disk old mid (λ h. cc) (c.save_due.ensures.changes honest).only)
    (c.push.ensures.alone (stays_honest old mid c.save_due.ensures.preserves honest) none)

pub returns-clause-pushes : goal.returns-clause-pushes
returns-clause-pushes g c groups fits holds =
    let cache = c.args.self.now in
    let old = g.S.Site.state c.args.site.now in
    let mid = g.S.Site.state c.save_due.new.site in
    let new = g.S.Site.state c.push.new.site in
    let pages = c.args.pages.now in
    let changed = c.args.changed.now in
    let contents = c.args.contents.now in
    let b = behind g (goal.at.returns-clause-pushes g c).In_default groups fits holds in
    let honest = stays_honest old mid c.save_due.ensures.preserves fits.honest in
    let staged = staged_behind cache groups c.save_due.new.segments old mid holds b pages changed contents new.image (c.in_default-push.ensures.staged groups b.fits b.holds) in
    pushes_group cache groups old c.requires.going fits holds pages changed contents c.requires.marks c.requires.lists c.requires.apart
    (own g (goal.at.returns-clause-pushes g c).After-heads_given-heads groups holds) _ _ new
    (λ quiet. moment_behind cache groups c.save_due.new.segments old mid holds b pages changed contents new quiet (c.push.ensures.any_moment groups b.fits b.holds (c.in_default.ensures.quiet fits.honest quiet)))
    (pushed_gaps g (goal.at.returns-clause-pushes g c).In_default new groups fits holds c.push.ensures.gaps)
    (reaches_behind cache groups c.save_due.new.segments old mid holds b pages changed contents new.image (c.in_default-push.ensures.reaches groups b.fits b.holds)) staged
    (λ quiet. staged_last cache old groups c.requires.going holds new (λ some.
    some_behind old mid new (c.save_due.ensures.changes fits.honest).only.grown (c.push.ensures.changes honest).log.grown (Leaves (λ s. HasGroups cache.geometry cache.directory.first groups s.image))
    (some_weaker mid new (SameAt Flash mid) (Leaves (λ s. HasGroups cache.geometry cache.directory.first groups s.image))
    (leaves_groups cache.geometry cache.directory.first groups mid (c.in_default.ensures.quiet fits.honest quiet) b.holds.has)
    (c.in_default-push.ensures.shown honest some))) staged)
    c.in_default-push.ensures.directory c.push.ensures.keeps.geometry (search rules)

pub returns-clause-changes : goal.returns-clause-changes
returns-clause-changes g c honest =
    let old = g.S.Site.state c.args.site.now in
    let mid = g.S.Site.state c.save_due.new.site in
    pages_in_sequence old mid (g.S.Site.state c.push.new.site) (pages_changed Flash old mid (λ h. cc) (c.save_due.ensures.changes honest)) (c.push.ensures.changes (stays_honest old mid c.save_due.ensures.preserves honest))

pub returns-clause-alone : goal.returns-clause-alone
returns-clause-alone g c honest none =
    let old = g.S.Site.state c.args.site.now in
    let mid = g.S.Site.state c.save_due.new.site in
    untouched_in_sequence Disk old mid (g.S.Site.state c.push.new.site) (others_untouched Flash Disk old mid (λ h. cc) (c.save_due.ensures.changes honest).only)
    (c.push.ensures.alone (stays_honest old mid c.save_due.ensures.preserves honest) none)

pub returns-clause-device_calls : goal.returns-clause-device_calls
returns-clause-device_calls g c honest =
    let saved = c.in_default.ensures.device_calls honest in
    let pushed = c.in_default-push.ensures.device_calls (stays_honest (g.S.Site.state c.args.site.now) (g.S.Site.state c.save_due.new.site) c.save_due.ensures.preserves honest) in
    omega (arith, saved, pushed)

pub returns-clause-unsynced : goal.returns-clause-unsynced
returns-clause-unsynced g c honest settled =
    let old = g.S.Site.state c.args.site.now in
    let mid = g.S.Site.state c.save_due.new.site in
    let same = others_untouched Flash Disk old mid (λ h. cc) (c.save_due.ensures.changes honest).only in
    let still = unsynced_untouched old mid settled same in
    let pushed = c.in_default-push.ensures.unsynced (stays_honest old mid c.save_due.ensures.preserves honest) (same.now.loose ∙ settled) in
    omega (arith, still, pushed)

pub returns-in-Err-clause-keeps : goal.returns-in-Err-clause-keeps
returns-in-Err-clause-keeps g c = record {
  ends = search rules;
  fits = λ fits. tt;
  next_segment = λ honest. record { next = λ is. tt; worn = search rules };
  going = goes_on_saved c.args.self.now c.save_due.new.segments true (g.S.Site.state c.args.site.now) (g.S.Site.state c.save_due.new.site) c.requires.going c.save_due.ensures.preserves c.save_due.ensures.rings;
  worn_end = λ fits says. search rules;
}

pub returns-in-Err-push-clause-keeps : goal.returns-in-Err-push-clause-keeps
returns-in-Err-push-clause-keeps g c =
    let cache = c.args.self.now in
    let old = g.S.Site.state c.args.site.now in
    let mid = g.S.Site.state c.save_due.new.site in
    let rings = c.requires.going.rings in
    let goes = c.save_due.ensures.preserves in
    let keeps = c.in-Err-push.ensures.keeps in
    record {
      ends = search rules;
      fits = λ fits. tt;
      next_segment = λ honest.
          let saved = next_saved cache c.save_due.new.segments old mid rings c.save_due.ensures.rings (c.in_default.ensures.segments honest) in
          record { next = λ is. tt; worn = λ is says. (next_then refl saved (keeps.next_segment (stays_honest old mid goes honest))).worn is (err_again _ _ says) };
      going = search rules;
      worn_end = λ fits says. keeps.worn_end (fits_saved g (goal.at.returns-in-Err-push-clause-keeps g c).In_default fits) (err_again _ _ says);
    }

pub returns-clause-keeps : goal.returns-clause-keeps
returns-clause-keeps g c =
    let cache = c.args.self.now in
    let old = g.S.Site.state c.args.site.now in
    let mid = g.S.Site.state c.save_due.new.site in
    let rings = c.requires.going.rings in
    let goes = c.save_due.ensures.preserves in
    let keeps = c.in_default-push.ensures.keeps in
    record {
      ends = search rules;
      fits = λ fits. keeps.fits (fits_saved g (goal.at.returns-clause-keeps g c).In_default fits);
      next_segment = λ honest.
          let saved = next_saved cache c.save_due.new.segments old mid rings c.save_due.ensures.rings (c.in_default.ensures.segments honest) in
          next_answered (next_then refl saved (keeps.next_segment (stays_honest old mid goes honest)));
      going = keeps.going;
      worn_end = λ fits says. search rules;
    }
