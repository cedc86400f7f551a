use Rattle.flash_cache.proofs.Names.{inl, rules, refl, ◌≡◌, ◌∙◌, ◌≤◌, ◌∷◌, List, [], ℕ, length, arith, sym, ap, subst, on_ok_weaker, Ok, slice_index, each_weaker, leaves_weaker, untouched_leaves, settled_is, stays_honest, others_untouched, quiet_settled, no_error, lengths_later, ok_as, OnlyDevice, SameAt, SameBut, Untouched, State, IsQuiet, MayStand, Geometry, Flash, Disk, unsynced_untouched, HasStaged, calls_of, on_ok, gaps_then, gaps_appended, LeavesGaps}
use Rattle.flash_cache.proofs.PushLaws.{push_leaves, stage_only}
use Rattle.flash_cache.proofs.NextSegments.{next_elsewhere, next_then}
use Rattle.flash_cache.proofs.Staging.{goes_on_later, fits_on, pages_changed, pages_in_sequence, all_made}
use Rattle.flash_cache.proofs.SomeMoments.{some_first, some_of}
use Rattle.flash_cache.proofs.cache.FlashCache.write.Goals as goal

calls_some : (pages : List ℕ) → 1 ≤ length pages → 1 ≤ calls_of pages
calls_some [] some = absurd (omega (arith, some))
calls_some (page ∷ pages) some = omega arith

pub returns-in-Err-clause-any_moment : goal.returns-in-Err-clause-any_moment
returns-in-Err-clause-any_moment g c fits quiet =
    let cache = c.args.self.now in
    stage_only cache.geometry c.args.staged.now c.args.octets.now c.args.content.now (g.S.Site.state c.args.site.now) (g.S.Site.state c.stage.new.site)
    (c.stage.ensures.front cache.geometry fits.honest c.requires.going.lengths quiet)

pub returns-in-Err-clause-changes : goal.returns-in-Err-clause-changes
returns-in-Err-clause-changes g c honest = pages_changed Disk (g.S.Site.state c.args.site.now) (g.S.Site.state c.stage.new.site) (λ h. cc) (c.stage.ensures.changes honest)

-- staging leaves the flash
staged_gaps : (g : Geometry) (old mid : State) → IsQuiet old → OnlyDevice Disk old mid → LeavesGaps g old mid
staged_gaps g old mid quiet only =
    leaves_weaker old mid _ _ (λ s stands p groups segments. ap (λ (c : List ℕ). slice_index c p) (settled_is old.image.flash s.image.flash
    (subst (λ rs. MayStand rs old.image.flash s.image.flash) (quiet_settled Flash old quiet) stands)))
    (untouched_leaves Flash old mid (others_untouched Disk Flash old mid (λ h. cc) only))

pub returns-in-Err-clause-gaps : goal.returns-in-Err-clause-gaps
returns-in-Err-clause-gaps g c fits quiet =
    staged_gaps c.args.self.now.geometry (g.S.Site.state c.args.site.now) (g.S.Site.state c.stage.new.site) quiet (c.stage.ensures.changes fits.honest).only

pub returns-clause-gaps : goal.returns-clause-gaps
returns-clause-gaps g c fits quiet =
    let cache = c.args.self.now in
    let old = g.S.Site.state c.args.site.now in
    let mid = g.S.Site.state c.stage.new.site in
    let new = g.S.Site.state c.append.new.site in
    let changes = c.stage.ensures.changes fits.honest in
    gaps_then cache.geometry old mid new (staged_gaps cache.geometry old mid quiet changes.only)
    (gaps_appended cache.geometry c.args.content.now mid new (inl (c.append.ensures.any_moment (fits_on cache old mid fits c.stage.ensures.writes.preserves changes)
    (quiet_settled Flash mid (c.in_default.ensures.quiet fits.honest quiet)))))

pub append-requires-clause-going : goal.append-requires-clause-going
append-requires-clause-going g c = goes_on_later c.args.self.now (g.S.Site.state c.args.site.now) (g.S.Site.state c.stage.new.site) c.requires.going c.stage.ensures.writes.preserves

pub returns-clause-any_moment : goal.returns-clause-any_moment
returns-clause-any_moment g c fits quiet =
    let cache = c.args.self.now in
    let old = g.S.Site.state c.args.site.now in
    let mid = g.S.Site.state c.stage.new.site in
    let new = g.S.Site.state c.append.new.site in
    let fits_mid = fits_on cache old mid fits c.stage.ensures.writes.preserves (c.stage.ensures.changes fits.honest) in
    push_leaves cache.geometry c.args.staged.now c.args.octets.now c.args.content.now old mid new c.requires.going.limits
    (lengths_later cache.geometry old mid c.stage.ensures.writes.preserves c.requires.going.lengths) (c.in_default.ensures.quiet fits.honest quiet) c.requires.room
    (c.stage.ensures.front cache.geometry fits.honest c.requires.going.lengths quiet) (c.in_default.ensures.reaches cache.geometry fits.honest c.requires.going.lengths)
    (c.in_default.ensures.staged fits.honest) (c.stage.ensures.changes fits.honest).only.now.told (c.append.ensures.any_moment fits_mid (quiet_settled Flash mid (c.in_default.ensures.quiet fits.honest quiet))) (c.append.ensures.changes fits_mid.honest).only

pub returns-clause-reaches : goal.returns-clause-reaches
returns-clause-reaches g c fits =
    let cache = c.args.self.now in
    let old = g.S.Site.state c.args.site.now in
    let mid = g.S.Site.state c.stage.new.site in
    let new = g.S.Site.state c.append.new.site in
    let fits_mid = fits_on cache old mid fits c.stage.ensures.writes.preserves (c.stage.ensures.changes fits.honest) in
    on_ok_weaker c.append.result (all_made cache.geometry c.args.staged.now c.args.content.now old.image mid.image new.image (c.in_default.ensures.reaches cache.geometry fits.honest c.requires.going.lengths))
    (c.append.ensures.appends fits_mid)

pub returns-clause-staged : goal.returns-clause-staged
returns-clause-staged g c fits =
    let old = g.S.Site.state c.args.site.now in
    let mid = g.S.Site.state c.stage.new.site in
    let honest_mid = stays_honest old mid c.stage.ensures.writes.preserves fits.honest in
    on_ok c.append.result _ (subst (HasStaged c.args.staged.now c.args.octets.now old.image.disk) (sym ((c.append.ensures.changes honest_mid).only.now.content Disk (λ h. cc))) (c.in_default.ensures.staged fits.honest))

pub returns-clause-changes : goal.returns-clause-changes
returns-clause-changes g c honest =
    let old = g.S.Site.state c.args.site.now in
    let mid = g.S.Site.state c.stage.new.site in
    let new = g.S.Site.state c.append.new.site in
    pages_in_sequence old mid new (pages_changed Disk old mid (λ h. cc) (c.stage.ensures.changes honest))
    (pages_changed Flash mid new (λ h. cc) (c.append.ensures.changes (stays_honest old mid c.stage.ensures.writes.preserves honest)))

pub returns-clause-alone : goal.returns-clause-alone
returns-clause-alone g c honest none =
    let old = g.S.Site.state c.args.site.now in
    let mid = g.S.Site.state c.stage.new.site in
    let new = g.S.Site.state c.append.new.site in
    let same : mid ≡ old = ap g.S.Site.state (c.stage.ensures.none none).0 in
    subst (λ (s : State). Untouched Disk s new) same
    (others_untouched Flash Disk mid new (λ h. cc) (c.append.ensures.changes (stays_honest old mid c.stage.ensures.writes.preserves honest)).only)

pub returns-clause-shown : goal.returns-clause-shown
returns-clause-shown g c honest some =
    let old = g.S.Site.state c.args.site.now in
    let mid = g.S.Site.state c.stage.new.site in
    let new = g.S.Site.state c.append.new.site in
    let changes = c.stage.ensures.changes honest in
    let later = c.append.ensures.changes (stays_honest old mid c.stage.ensures.writes.preserves honest) in
    let calls = c.in_default.ensures.calls honest in
    let one = calls_some c.args.staged.now some in
    on_ok c.append.result _ (some_first old mid new changes.only.grown later.only.grown (SameAt Flash old)
    (some_of old mid (SameAt Flash old)
    (each_weaker old mid (SameBut Disk old) (SameAt Flash old) (λ m same. record { content = same.content Flash (λ h. cc); loose = same.loose Flash (λ h. cc) }) changes.only)
    (omega (arith, calls, one))))

pub returns-clause-device_calls : goal.returns-clause-device_calls
returns-clause-device_calls g c honest =
    let first = c.in_default.ensures.calls honest in
    ok_as c.append.result _ _ (λ more. omega (arith, first, more)) (c.append.ensures.device_calls (stays_honest (g.S.Site.state c.args.site.now) (g.S.Site.state c.stage.new.site) c.stage.ensures.writes.preserves honest))

pub returns-clause-unsynced : goal.returns-clause-unsynced
returns-clause-unsynced g c honest settled =
    let mid = g.S.Site.state c.stage.new.site in
    let new = g.S.Site.state c.append.new.site in
    let later = stays_honest (g.S.Site.state c.args.site.now) mid c.stage.ensures.writes.preserves honest in
    let still = unsynced_untouched mid new (c.in_default.ensures.settled honest settled) (others_untouched Flash Disk mid new (λ h. cc) (c.append.ensures.changes later).only) in
    on_ok c.append.result _ (still ∙ c.in_default.ensures.unsynced honest)

pub returns-in-Err-clause-keeps : goal.returns-in-Err-clause-keeps
returns-in-Err-clause-keeps g c = record {
  ends = search rules;
  fits = λ fits. tt;
  next_segment = λ honest. record { next = λ is. tt; worn = search rules };
  going = goes_on_later c.args.self.now (g.S.Site.state c.args.site.now) (g.S.Site.state c.stage.new.site) c.requires.going c.stage.ensures.writes.preserves;
  worn_end = λ fits says. search rules;
}

pub returns-clause-keeps : goal.returns-clause-keeps
returns-clause-keeps g c =
    let cache = c.args.self.now in
    let old = g.S.Site.state c.args.site.now in
    let mid = g.S.Site.state c.stage.new.site in
    let goes = c.stage.ensures.writes.preserves in
    record {
      ends = search rules;
      fits = λ fits. c.append.ensures.keeps.fits (fits_on cache old mid fits goes (c.stage.ensures.changes fits.honest));
      next_segment = λ honest. next_then refl (next_elsewhere {T = Unit {0}} (Ok tt) cache cache old mid refl refl ((c.stage.ensures.changes honest).only.now.content Flash (λ h. cc)) (λ says. no_error says))
          (c.append.ensures.keeps.next_segment (stays_honest old mid goes honest));
      going = c.append.ensures.keeps.going;
      worn_end = λ fits says. c.append.ensures.keeps.worn_end (fits_on cache old mid fits goes (c.stage.ensures.changes fits.honest)) says;
    }
