use Rattle.std.proofs.Common.{◌-◌, ◌*◌, ◌≡◌, inl, inr, List, [], ℕ, length, refl, sym, ◌∙◌, ap, subst, arith, IsTrue}
use Rattle.site.specs.State.{Image}
use Rattle.engine.specs.Image.{Stands}
use Rattle.face.specs.Image.{blank_table}
use Rattle.std.specs.Prelude.{replicate}
use Rattle.std.proofs.lemmas.List.{length-replicate}
use Rattle.site.specs.Faults.{Faults, faults_in}
use Rattle.front_end.specs.Faults.{after_halt}
use Rattle.site.proofs.Laws.{goes_in_sequence, stays_honest}
use Rattle.site.specs.declared.geometry.Geometry.{Geometry}
use Rattle.log_archive.specs.Accepted.{blank_stream}
use Rattle.log_replay.specs.Stands.{StandsFor}
use Rattle.archive_restore.specs.declared.fault.Fault.{Fault}
use Rattle.archive_restore.specs.Progress.{EndsEarly, NeverRestores}
use Rattle.archive_restore.specs.Restores.{HasFaultCause}
use Rattle.archive_restore.proofs.Starts.{blank_stand, cause_since, ends_first, fit_none, heard_none, lengths_then, one_geometry, still_target, never_remembers, stops_at_restart, stops_untouched, written_none}
use Rattle.archive_restore.proofs.Writes.{ends_halt, halt_cause, not_between}
use Rattle.archive_restore.specs.Faults.{after_fault}
use Rattle.archive_restore.proofs.restoring.Restoring.start.Goals as goal

pub returns-in_default-clause-early : goal.returns-in_default-clause-early
returns-in_default-clause-early g c geometry behind s count limits lengths honest =
    let old = g.S.Site.state c.args.site.now in
    let mid = g.S.Site.state c.blank_sizes.new.site in
    subst (λ (f : Fault). EndsEarly geometry [] behind s count old mid f) (sym c.lacks_memory.ensures) (ends_first geometry s old mid behind count _ tt (λ is. absurd is))

pub returns-in_default-blank-clause-early : goal.returns-in_default-blank-clause-early
returns-in_default-blank-clause-early g c geometry behind s count limits lengths honest =
    let old = g.S.Site.state c.args.site.now in
    let mid = g.S.Site.state c.blank_sizes.new.site in
    subst (λ (f : Fault). EndsEarly geometry [] behind s count old mid f) (sym c.lacks_memory-in_default-blank.ensures) (ends_first geometry s old mid behind count _ tt (λ is. absurd is))

pub returns-in-Err-clause-early : goal.returns-in-Err-clause-early
returns-in-Err-clause-early g c geometry behind s count limits lengths honest = c.in-Err.ensures.early geometry behind s count limits lengths

pub returns-in-Err-begin-clause-early : goal.returns-in-Err-begin-clause-early
returns-in-Err-begin-clause-early g c geometry behind s count limits lengths honest =
    let old = g.S.Site.state c.args.site.now in
    let mid = g.S.Site.state c.blank_sizes.new.site in
    let new = g.S.Site.state c.begin.new.site in
    let ne = c.in-Err-begin.ensures.halts in
    ends_first geometry s old new behind count _
    (ends_halt c.in-Err-begin.halt geometry [] behind s 0 old new ne (cause_since c.in-Err-begin.halt old mid new c.blank_sizes.ensures.same c.blank_sizes.ensures.preserves c.in-Err-begin.ensures.ends.cause))
    (λ is. not_between c.in-Err-begin.halt ne is)

pub returns-in_default-clause-cause : goal.returns-in_default-clause-cause
returns-in_default-clause-cause g c = subst (λ (f : Fault). HasFaultCause f (g.S.Site.state c.args.site.now) (g.S.Site.state c.blank_sizes.new.site)) (sym c.lacks_memory.ensures) tt

pub returns-in_default-blank-clause-cause : goal.returns-in_default-blank-clause-cause
returns-in_default-blank-clause-cause g c = subst (λ (f : Fault). HasFaultCause f (g.S.Site.state c.args.site.now) (g.S.Site.state c.blank_sizes.new.site)) (sym c.lacks_memory-in_default-blank.ensures) tt

pub returns-in-Err-begin-clause-cause : goal.returns-in-Err-begin-clause-cause
returns-in-Err-begin-clause-cause g c =
    let old = g.S.Site.state c.args.site.now in
    let mid = g.S.Site.state c.blank_sizes.new.site in
    let new = g.S.Site.state c.begin.new.site in
    let sizes = c.in-Ok.ensures.sizes in
    halt_cause c.in-Err-begin.halt old new c.in-Err-begin.ensures.halts (cause_since c.in-Err-begin.halt old mid new c.blank_sizes.ensures.same c.blank_sizes.ensures.preserves c.in-Err-begin.ensures.ends.cause)
    (λ honest. (c.in-Ok.geometry, blank_stand c.blank_stands.ensures c.in-Ok.geometry old.image sizes.0 sizes.1 (c.in-Ok.ensures.blank honest)))

pub returns-in_default-clause-never : goal.returns-in_default-clause-never
returns-in_default-clause-never g c geometry behind count t =
    let old = g.S.Site.state c.args.site.now in
    let mid = g.S.Site.state c.blank_sizes.new.site in
    subst (λ (f : Fault). NeverRestores c.args.pool geometry behind count old mid f) (sym c.lacks_memory.ensures)
    (never_remembers c.args.pool geometry old mid behind count (stops_untouched c.blank_stands.ensures geometry old mid (blank_stream geometry.pages) t (c.blank_sizes.ensures.same t.honest) behind count _ tt (λ is. absurd is)) (c.blank_sizes.ensures.same t.honest) c.blank_sizes.ensures.read)

pub returns-in_default-blank-clause-never : goal.returns-in_default-blank-clause-never
returns-in_default-blank-clause-never g c geometry behind count t =
    let old = g.S.Site.state c.args.site.now in
    let mid = g.S.Site.state c.blank_sizes.new.site in
    subst (λ (f : Fault). NeverRestores c.args.pool geometry behind count old mid f) (sym c.lacks_memory-in_default-blank.ensures)
    (never_remembers c.args.pool geometry old mid behind count (stops_untouched c.blank_stands.ensures geometry old mid (blank_stream geometry.pages) t (c.blank_sizes.ensures.same t.honest) behind count _ tt (λ is. absurd is)) (c.blank_sizes.ensures.same t.honest) c.blank_sizes.ensures.read)

pub returns-in-Err-clause-never : goal.returns-in-Err-clause-never
returns-in-Err-clause-never g c geometry behind count t =
    let never = c.in-Err.ensures.never geometry behind (blank_stream geometry.pages) count t in
    record { stops = never.0; asks = inl never.1 }

pub returns-in-Ok-begin-clause-going : goal.returns-in-Ok-begin-clause-going
returns-in-Ok-begin-clause-going g c =
    let old = g.S.Site.state c.args.site.now in
    let mid = g.S.Site.state c.blank_sizes.new.site in
    let sizes = c.in-Ok.ensures.sizes in
    let keeps = c.blank_sizes.ensures.preserves in (
      mid,
      keeps,
      c.in-Ok.ensures.faults,
      record {
        database = c.in-Ok-begin.ensures.going;
        source = c.new.ensures.source;
        g = c.in-Ok.geometry;
        limits = sizes.0;
        lengths = lengths_then c.in-Ok.geometry old mid sizes.1 keeps;
        lines = [];
        long = refl;
        s = blank_stream c.in-Ok.geometry.pages;
        accepted = refl;
        archived = fit_none c.in-Ok.geometry _ refl c.in-Ok-start.ensures.stands refl c.in-Ok-blank.ensures;
        room = ap (λ (l : List ℕ). length l) c.in-Ok-blank.ensures ∙ length-replicate (32 * c.in-Ok.geometry.pages) 0;
        cap = let blocks = sizes.0.blocks in omega (arith, blocks);
        heard = λ honest. heard_none c.in-Ok.geometry mid (g.S.Site.state c.begin.new.site) _ c.new.ensures.empty c.new.ensures.taken c.new.ensures.going (c.begin.ensures.left honest);
        stands = λ honest.
            let was : IsTrue old.honest = subst (λ b. IsTrue b) keeps.honest honest in
            subst (λ (x : Image). Stands c.in-Ok.geometry x (blank_table c.in-Ok.geometry) 0) (sym (c.blank_sizes.ensures.same was).image) (blank_stand c.blank_stands.ensures c.in-Ok.geometry old.image sizes.0 sizes.1 (c.in-Ok.ensures.blank was));
      },
      c.blank_sizes.ensures.same,
    )

pub returns-in-Ok-begin-clause-begins : goal.returns-in-Ok-begin-clause-begins
unfolding returns-in-Ok-begin-clause-going
returns-in-Ok-begin-clause-begins g c geometry t =
    let old = g.S.Site.state c.args.site.now in
    let mid = g.S.Site.state c.blank_sizes.new.site in
    let new = g.S.Site.state c.begin.new.site in
    let same = c.blank_sizes.ensures.same t.honest in
    let sizes = c.in-Ok.ensures.sizes in
    let is = one_geometry c.in-Ok.geometry geometry old.image sizes.0 sizes.1 t.limits t.lengths in
    let there = still_target geometry old mid t same c.blank_sizes.ensures.preserves in (
      mid,
      same,
      c.blank_sizes.ensures.preserves,
      (returns-in-Ok-begin-clause-going g c).3,
      written_none c.args.pool geometry mid new _ refl (subst (λ (x : Geometry). StandsFor x.pages (blank_stream x.pages) [] c.in-Ok-start.replay) is c.in-Ok-start.ensures.stands) (c.in-Ok-begin.ensures.begins geometry there)
          (ap (λ (x : Geometry). x.blocks - 1) is) (c.in-Ok-blank.ensures ∙ ap (λ (x : Geometry). replicate (32 * x.pages) 0) is),
      heard_none geometry mid new _ c.new.ensures.empty c.new.ensures.taken c.new.ensures.going (c.begin.ensures.left there.honest),
      c.blank_sizes.ensures.read,
    )

pub returns-in-Err-begin-clause-never : goal.returns-in-Err-begin-clause-never
returns-in-Err-begin-clause-never g c geometry behind count t =
    let old = g.S.Site.state c.args.site.now in
    let mid = g.S.Site.state c.blank_sizes.new.site in
    let new = g.S.Site.state c.begin.new.site in
    let same = c.blank_sizes.ensures.same t.honest in
    let there = still_target geometry old mid t same c.blank_sizes.ensures.preserves in
    let never = c.in-Err-begin.ensures.never geometry there in
    let ne = c.in-Err-begin.ensures.halts in
    record {
      stops = stops_at_restart c.blank_stands.ensures geometry old mid new (blank_stream geometry.pages) t same never.moments behind count _
          (ends_halt c.in-Err-begin.halt geometry [] behind (blank_stream geometry.pages) 0 old new ne (cause_since c.in-Err-begin.halt old mid new c.blank_sizes.ensures.same c.blank_sizes.ensures.preserves c.in-Err-begin.ensures.ends.cause))
          (λ is. not_between c.in-Err-begin.halt ne is) never.quiet;
      asks = inr (record { tested = mid; same = same; read = c.blank_sizes.ensures.read; holds = never.asks });
    }

pub returns-in-Ok-begin-clause-preserves : goal.returns-in-Ok-begin-clause-preserves
returns-in-Ok-begin-clause-preserves g c = goes_in_sequence (g.S.Site.state c.args.site.now) (g.S.Site.state c.blank_sizes.new.site) (g.S.Site.state c.begin.new.site) c.blank_sizes.ensures.preserves c.begin.ensures.ends.preserves

pub returns-in-Err-begin-clause-preserves : goal.returns-in-Err-begin-clause-preserves
returns-in-Err-begin-clause-preserves g c = goes_in_sequence (g.S.Site.state c.args.site.now) (g.S.Site.state c.blank_sizes.new.site) (g.S.Site.state c.begin.new.site) c.blank_sizes.ensures.preserves c.begin.ensures.ends.preserves

pub returns-in_default-clause-refuses : goal.returns-in_default-clause-refuses
returns-in_default-clause-refuses g c none = absurd (c.in-Ok.ensures.refuses none)

pub returns-in_default-clause-unfit : goal.returns-in_default-clause-unfit
returns-in_default-clause-unfit g c honest w = absurd (c.in-Ok.ensures.unfit honest w)

pub returns-in_default-blank-clause-refuses : goal.returns-in_default-blank-clause-refuses
returns-in_default-blank-clause-refuses g c none = absurd (c.in-Ok.ensures.refuses none)

pub returns-in_default-blank-clause-unfit : goal.returns-in_default-blank-clause-unfit
returns-in_default-blank-clause-unfit g c honest w = absurd (c.in-Ok.ensures.unfit honest w)

pub returns-in-Ok-begin-clause-refuses : goal.returns-in-Ok-begin-clause-refuses
returns-in-Ok-begin-clause-refuses g c none = absurd (c.in-Ok.ensures.refuses none)

pub returns-in-Ok-begin-clause-unfit : goal.returns-in-Ok-begin-clause-unfit
returns-in-Ok-begin-clause-unfit g c honest w = absurd (c.in-Ok.ensures.unfit honest w)

pub returns-in-Err-begin-clause-refuses : goal.returns-in-Err-begin-clause-refuses
returns-in-Err-begin-clause-refuses g c none = absurd (c.in-Ok.ensures.refuses none)

pub returns-in-Err-begin-clause-unfit : goal.returns-in-Err-begin-clause-unfit
returns-in-Err-begin-clause-unfit g c honest w = absurd (c.in-Ok.ensures.unfit honest w)

pub returns-in_default-clause-faults : goal.returns-in_default-clause-faults
returns-in_default-clause-faults g c = subst (λ (f : Fault). faults_in (g.S.Site.state c.blank_sizes.new.site) ≡ after_fault f (faults_in (g.S.Site.state c.args.site.now))) (sym c.lacks_memory.ensures) c.in-Ok.ensures.faults

pub returns-in_default-blank-clause-faults : goal.returns-in_default-blank-clause-faults
returns-in_default-blank-clause-faults g c = subst (λ (f : Fault). faults_in (g.S.Site.state c.blank_sizes.new.site) ≡ after_fault f (faults_in (g.S.Site.state c.args.site.now))) (sym c.lacks_memory-in_default-blank.ensures) c.in-Ok.ensures.faults

pub returns-in-Ok-begin-clause-faults : goal.returns-in-Ok-begin-clause-faults
returns-in-Ok-begin-clause-faults g c = c.in-Ok-begin.ensures.ends.faults ∙ c.in-Ok.ensures.faults

pub returns-in-Err-begin-clause-faults : goal.returns-in-Err-begin-clause-faults
returns-in-Err-begin-clause-faults g c = c.in-Err-begin.ensures.ends.faults ∙ ap (λ (f : Faults). after_halt c.in-Err-begin.halt f) c.in-Ok.ensures.faults

pub returns-in_default-clause-left : goal.returns-in_default-clause-left
returns-in_default-clause-left g c honest = (c.blank_sizes.ensures.same honest).left

pub returns-in_default-blank-clause-left : goal.returns-in_default-blank-clause-left
returns-in_default-blank-clause-left g c honest = (c.blank_sizes.ensures.same honest).left

pub returns-in-Err-clause-left : goal.returns-in-Err-clause-left
returns-in-Err-clause-left g c honest = (c.blank_sizes.ensures.same honest).left

pub returns-in-Ok-begin-clause-left : goal.returns-in-Ok-begin-clause-left
returns-in-Ok-begin-clause-left g c honest =
    let mid = g.S.Site.state c.blank_sizes.new.site in
    c.begin.ensures.left (stays_honest (g.S.Site.state c.args.site.now) mid c.blank_sizes.ensures.preserves honest) ∙ (c.blank_sizes.ensures.same honest).left

pub returns-in-Err-begin-clause-left : goal.returns-in-Err-begin-clause-left
returns-in-Err-begin-clause-left g c honest =
    let mid = g.S.Site.state c.blank_sizes.new.site in
    c.begin.ensures.left (stays_honest (g.S.Site.state c.args.site.now) mid c.blank_sizes.ensures.preserves honest) ∙ (c.blank_sizes.ensures.same honest).left
