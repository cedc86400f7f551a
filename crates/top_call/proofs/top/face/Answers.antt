use Rattle.std.proofs.Common.{ap, arith, inl, inr, rules, subst, ℕ, List, [], ◌∷◌}
use Rattle.site.specs.State.{Input}
use Rattle.site.specs.declared.geometry.Geometry.{Geometry}
use Rattle.face.specs.TopCall.{LoadContract, NewContract, RunContract}
use Rattle.command_line.specs.declared.request.Load.{Load}
use Rattle.command_line.specs.declared.request.Restoring.{Restoring}
use Rattle.command_line.specs.declared.request.Simulation.{Simulation}
use Rattle.command_line.specs.declared.request.TrialSizes.{TrialSizes}
use Rattle.face.specs.Trial.{TrialContract}
use Rattle.trace_report.specs.Contract.{SimulateContract}
use Rattle.command_line.specs.Words.{IsArchive, IsLoad, IsNew, IsRestore, IsRight, IsSimulate, IsTrial, IsVerify, words_of, IsRun}
use Rattle.front_end.proofs.Endings.{only_tells}
use Rattle.command_line.proofs.WordLaws.{one_archive_size, one_from, one_geometry, one_load, one_pool, one_restore, one_simulation, one_trial}
use Rattle.front_end.proofs.Firsts.{first_line}
use Rattle.archive_report.specs.Contract.{ArchiveContract}
use Rattle.top_call.proofs.Archived.{first_archived, lacked_archive, not_two}
use Rattle.top_call.proofs.Simulated.{first_simulated}
use Rattle.stream_report.specs.Contract.{VerifyContract}
use Rattle.archive_restore.specs.Contract.{RestoreContract}
use Rattle.top_call.proofs.Verified.{first_verified, lacked_verify, never_two}
use Rattle.top_call.proofs.top.face.Goals as goal

pub returns-in-Ok-Run-clause-run : goal.returns-in-Ok-Run-clause-run
returns-in-Ok-Run-clause-run g c pool is_run =
    let found : IsRun (words_of c.args.words.now) c.in-Ok-Run.pool = search rules in
    subst (λ (n : ℕ). RunContract n (g.S.Site.state c.args.site.now) (g.S.Site.state c.serve.new.site) c.serve.result) (one_pool (words_of c.args.words.now) _ pool found is_run) c.serve.ensures.run

pub returns-in-Ok-New-clause-new : goal.returns-in-Ok-New-clause-new
returns-in-Ok-New-clause-new g c sizes is_new =
    let found : IsNew (words_of c.args.words.now) c.in-Ok-New.geometry = search rules in
    subst (λ (s : Geometry). NewContract s (g.S.Site.state c.args.site.now) (g.S.Site.state c.make_new.new.site) c.make_new.result) (one_geometry (words_of c.args.words.now) _ sizes found is_new)
    (record { does = c.make_new.ensures.new; causes = c.make_new.ensures.causes })

pub returns-in-Ok-Load-clause-load : goal.returns-in-Ok-Load-clause-load
returns-in-Ok-Load-clause-load g c load is_load =
    let found : IsLoad (words_of c.args.words.now) c.in-Ok-Load.load = search rules in
    subst (λ (l : Load). LoadContract l (g.S.Site.state c.args.site.now) (g.S.Site.state c.serve_load.new.site) c.serve_load.result) (one_load (words_of c.args.words.now) _ load found is_load) c.serve_load.ensures.load

pub returns-in-Ok-Simulate-clause-simulate : goal.returns-in-Ok-Simulate-clause-simulate
returns-in-Ok-Simulate-clause-simulate g c caches is_simulate =
    let found : IsSimulate (words_of c.args.words.now) c.in-Ok-Simulate.caches = search rules in
    subst (λ (s : Simulation). SimulateContract s.groups s.pool (g.S.Site.state c.args.site.now) (g.S.Site.state c.simulate.new.site) c.simulate.result) (one_simulation (words_of c.args.words.now) _ caches found is_simulate) c.simulate.ensures.simulate

pub returns-in-Ok-Trial-clause-trial : goal.returns-in-Ok-Trial-clause-trial
returns-in-Ok-Trial-clause-trial g c t is_trial =
    let found : IsTrial (words_of c.args.words.now) c.in-Ok-Trial.sizes = search rules in
    subst (λ (x : TrialSizes). (numbers : List ℕ) × TrialContract x.geometry x.pool (g.S.Site.state c.args.site.now) (g.S.Site.state c.serve_trial.new.site) c.serve_trial.result numbers) (one_trial (words_of c.args.words.now) _ t found is_trial) c.serve_trial.ensures.trial

pub returns-in-Ok-Check-clause-check : goal.returns-in-Ok-Check-clause-check
returns-in-Ok-Check-clause-check g c is_check = c.serve_check.ensures.check

pub returns-in-Ok-Archive-clause-archive : goal.returns-in-Ok-Archive-clause-archive
returns-in-Ok-Archive-clause-archive g c from is_archive =
    let found : IsArchive (words_of c.args.words.now) c.in-Ok-Archive.from = search rules in
    subst (λ (n : ℕ). ArchiveContract n (g.S.Site.state c.args.site.now) (g.S.Site.state c.archive.new.site) c.archive.result) (one_from (words_of c.args.words.now) _ from found is_archive) c.archive.ensures.archive

pub returns-in-Err-Memory-clause-archive : goal.returns-in-Err-Memory-clause-archive
returns-in-Err-Memory-clause-archive g c from is_archive = lacked_archive from c.lack_memory.result (g.S.Site.state c.args.site.now) (g.S.Site.state c.lack_memory.new.site) c.lack_memory.ensures.lacks

pub returns-in-Ok-Archive-clause-first : goal.returns-in-Ok-Archive-clause-first
returns-in-Ok-Archive-clause-first g c =
    first_archived c.archive.result (g.S.Site.state c.args.site.now) (g.S.Site.state c.archive.new.site) c.archive.ensures.first c.archive.ensures.archive.causes.others

pub returns-in-Ok-Archive-clause-words : goal.returns-in-Ok-Archive-clause-words
returns-in-Ok-Archive-clause-words g c =
    let found : IsArchive (words_of c.args.words.now) c.in-Ok-Archive.from = search rules in
    inr (inl (inr (inr (inr (inr (inr (inr (inl (c.in-Ok-Archive.from, found)))))))))

pub returns-in-Ok-Archive-clause-wrong : goal.returns-in-Ok-Archive-clause-wrong
returns-in-Ok-Archive-clause-wrong g c two right = not_two c.archive.result c.archive.ensures.archive.causes.others two

pub returns-in-Ok-Archive-clause-refused : goal.returns-in-Ok-Archive-clause-refused
returns-in-Ok-Archive-clause-refused g c two = absurd (not_two c.archive.result c.archive.ensures.archive.causes.others two)

pub returns-in-Err-Words-clause-archive : goal.returns-in-Err-Words-clause-archive
returns-in-Err-Words-clause-archive g c from is_archive =
    let never : IsRight (words_of c.args.words.now) → ⊥ = search rules in
    absurd (never (inr (inr (inr (inr (inr (inr (inl (from, is_archive)))))))))

pub returns-in-Ok-Verify-clause-verify : goal.returns-in-Ok-Verify-clause-verify
returns-in-Ok-Verify-clause-verify g c pages is_verify =
    let found : IsVerify (words_of c.args.words.now) c.in-Ok-Verify.pages = search rules in
    subst (λ (n : ℕ). VerifyContract n (g.S.Site.state c.args.site.now) (g.S.Site.state c.verify.new.site) c.verify.result) (one_archive_size (words_of c.args.words.now) _ pages found is_verify) c.verify.ensures.verify

pub returns-in-Err-Memory-clause-verify : goal.returns-in-Err-Memory-clause-verify
returns-in-Err-Memory-clause-verify g c pages is_verify = lacked_verify pages c.lack_memory.result (g.S.Site.state c.args.site.now) (g.S.Site.state c.lack_memory.new.site) c.lack_memory.ensures.lacks

pub returns-in-Ok-Verify-clause-first : goal.returns-in-Ok-Verify-clause-first
returns-in-Ok-Verify-clause-first g c =
    first_verified c.verify.result (g.S.Site.state c.args.site.now) (g.S.Site.state c.verify.new.site) c.verify.ensures.first c.verify.ensures.verify.others

pub returns-in-Ok-Verify-clause-words : goal.returns-in-Ok-Verify-clause-words
returns-in-Ok-Verify-clause-words g c =
    let found : IsVerify (words_of c.args.words.now) c.in-Ok-Verify.pages = search rules in
    inr (inl (inr (inr (inr (inr (inr (inr (inr (inl (c.in-Ok-Verify.pages, found))))))))))

pub returns-in-Ok-Verify-clause-wrong : goal.returns-in-Ok-Verify-clause-wrong
returns-in-Ok-Verify-clause-wrong g c two right = never_two c.verify.result c.verify.ensures.verify.others two

pub returns-in-Ok-Verify-clause-refused : goal.returns-in-Ok-Verify-clause-refused
returns-in-Ok-Verify-clause-refused g c two = absurd (never_two c.verify.result c.verify.ensures.verify.others two)

pub returns-in-Err-Words-clause-verify : goal.returns-in-Err-Words-clause-verify
returns-in-Err-Words-clause-verify g c pages is_verify =
    let never : IsRight (words_of c.args.words.now) → ⊥ = search rules in
    absurd (never (inr (inr (inr (inr (inr (inr (inr (inl (pages, is_verify))))))))))

pub returns-in-Ok-Restore-clause-restore : goal.returns-in-Ok-Restore-clause-restore
returns-in-Ok-Restore-clause-restore g c r is_restore =
    let found : IsRestore (words_of c.args.words.now) c.in-Ok-Restore.to = search rules in
    inl (subst (λ (x : Restoring). RestoreContract x.commits x.pool (g.S.Site.state c.args.site.now) (g.S.Site.state c.restore.new.site) c.restore.result) (one_restore (words_of c.args.words.now) _ r found is_restore) c.restore.ensures.restore)

pub returns-in-Ok-Restore-clause-restore_sizes : goal.returns-in-Ok-Restore-clause-restore_sizes
returns-in-Ok-Restore-clause-restore_sizes g c is_restore none = inl (c.restore.ensures.sizes none)

pub returns-in-Ok-Restore-clause-unfit : goal.returns-in-Ok-Restore-clause-unfit
returns-in-Ok-Restore-clause-unfit g c is_restore honest written = inl (c.restore.ensures.unfit honest written)

pub returns-in-Ok-Restore-clause-words : goal.returns-in-Ok-Restore-clause-words
returns-in-Ok-Restore-clause-words g c =
    let found : IsRestore (words_of c.args.words.now) c.in-Ok-Restore.to = search rules in
    inr (inl (inr (inr (inr (inr (inr (inr (inr (inr (c.in-Ok-Restore.to, found))))))))))

pub returns-in-Ok-Restore-clause-wrong : goal.returns-in-Ok-Restore-clause-wrong
returns-in-Ok-Restore-clause-wrong g c two right = c.restore.ensures.never two

pub returns-in-Ok-Restore-clause-refused : goal.returns-in-Ok-Restore-clause-refused
returns-in-Ok-Restore-clause-refused g c two = absurd (c.restore.ensures.never two)

pub returns-in-Err-Memory-clause-restore : goal.returns-in-Err-Memory-clause-restore
returns-in-Err-Memory-clause-restore g c r is_restore = inr c.lack_memory.ensures.lacks

pub returns-in-Err-Memory-clause-restore_sizes : goal.returns-in-Err-Memory-clause-restore_sizes
returns-in-Err-Memory-clause-restore_sizes g c is_restore none = inr c.lack_memory.ensures.lacks

pub returns-in-Err-Memory-clause-unfit : goal.returns-in-Err-Memory-clause-unfit
returns-in-Err-Memory-clause-unfit g c is_restore honest written = inr c.lack_memory.ensures.lacks

pub returns-in-Err-Words-clause-restore : goal.returns-in-Err-Words-clause-restore
returns-in-Err-Words-clause-restore g c r is_restore =
    let never : IsRight (words_of c.args.words.now) → ⊥ = search rules in
    absurd (never (inr (inr (inr (inr (inr (inr (inr (inr (r, is_restore))))))))))

pub returns-in-Err-Words-clause-restore_sizes : goal.returns-in-Err-Words-clause-restore_sizes
returns-in-Err-Words-clause-restore_sizes g c is_restore none =
    let never : IsRight (words_of c.args.words.now) → ⊥ = search rules in
    absurd (never (inr (inr (inr (inr (inr (inr (inr (inr is_restore)))))))))

pub returns-in-Err-Words-clause-unfit : goal.returns-in-Err-Words-clause-unfit
returns-in-Err-Words-clause-unfit g c is_restore honest written =
    let never : IsRight (words_of c.args.words.now) → ⊥ = search rules in
    absurd (never (inr (inr (inr (inr (inr (inr (inr (inr is_restore)))))))))

pub returns-in-Err-Words-clause-refused : goal.returns-in-Err-Words-clause-refused
returns-in-Err-Words-clause-refused g c two = only_tells _ (g.S.Site.state c.args.site.now) (g.S.Site.state c.tell_words.new.site) c.tell_words.result c.tell_words.ensures

pub returns-in-Err-Memory-clause-run : goal.returns-in-Err-Memory-clause-run
returns-in-Err-Memory-clause-run g c pool is_run = c.lack_memory.ensures.run pool

pub returns-in-Err-Memory-clause-load : goal.returns-in-Err-Memory-clause-load
returns-in-Err-Memory-clause-load g c load is_load = c.lack_memory.ensures.load load

pub returns-in-Err-Memory-clause-new : goal.returns-in-Err-Memory-clause-new
returns-in-Err-Memory-clause-new g c sizes is_new = c.lack_memory.ensures.new sizes

pub returns-in-Err-Memory-clause-simulate : goal.returns-in-Err-Memory-clause-simulate
returns-in-Err-Memory-clause-simulate g c caches is_simulate = c.lack_memory.ensures.simulate caches

pub returns-in-Err-Memory-clause-trial : goal.returns-in-Err-Memory-clause-trial
returns-in-Err-Memory-clause-trial g c t is_trial = (0 ∷ [], c.lack_memory.ensures.trial t.geometry t.pool)

pub returns-in-Err-Memory-clause-check : goal.returns-in-Err-Memory-clause-check
returns-in-Err-Memory-clause-check g c is_check = c.lack_memory.ensures.check

pub returns-in-Err-Words-clause-run : goal.returns-in-Err-Words-clause-run
returns-in-Err-Words-clause-run g c pool is_run =
    let never : IsRight (words_of c.args.words.now) → ⊥ = search rules in
    absurd (never (inl (pool, is_run)))

pub returns-in-Ok-Simulate-clause-first : goal.returns-in-Ok-Simulate-clause-first
returns-in-Ok-Simulate-clause-first g c =
    first_simulated c.simulate.result (g.S.Site.state c.args.site.now) (g.S.Site.state c.simulate.new.site) c.simulate.ensures.first c.simulate.ensures.simulate.others

pub returns-in-Err-Words-clause-first : goal.returns-in-Err-Words-clause-first
returns-in-Err-Words-clause-first g c =
    first_line 2 (g.S.Site.state c.args.site.now) (g.S.Site.state c.tell_words.new.site) c.tell_words.result (λ e. omega (arith, e), λ e. omega (arith, e), λ e. omega (arith, e)) c.tell_words.ensures.faults

pub returns-in-Ok-Run-clause-hears : goal.returns-in-Ok-Run-clause-hears
returns-in-Ok-Run-clause-hears g c is_run honest = c.serve.ensures.hears honest

pub returns-in-Err-Memory-clause-hears : goal.returns-in-Err-Memory-clause-hears
returns-in-Err-Memory-clause-hears g c is_run honest = c.lack_memory.ensures.hears honest

pub returns-in-Err-Words-clause-hears : goal.returns-in-Err-Words-clause-hears
returns-in-Err-Words-clause-hears g c is_run honest =
    let never : IsRight (words_of c.args.words.now) → ⊥ = search rules in
    absurd (never (inl is_run))

pub returns-in-Ok-Run-clause-judged : goal.returns-in-Ok-Run-clause-judged
returns-in-Ok-Run-clause-judged g c is_run honest = c.serve.ensures.judged honest

pub returns-in-Err-Memory-clause-judged : goal.returns-in-Err-Memory-clause-judged
returns-in-Err-Memory-clause-judged g c is_run honest =
    let lacks = c.lack_memory.ensures.lacks in
    record {
      done = λ zero. absurd (omega (arith, lacks.0, zero));
      taken = λ ne. absurd (ne (ap (λ (i : Input). i.left) (lacks.1.devices honest).left));
    }

pub returns-in-Err-Words-clause-judged : goal.returns-in-Err-Words-clause-judged
returns-in-Err-Words-clause-judged g c is_run honest =
    let never : IsRight (words_of c.args.words.now) → ⊥ = search rules in
    absurd (never (inl is_run))

pub returns-in-Ok-Load-clause-load_judged : goal.returns-in-Ok-Load-clause-load_judged
returns-in-Ok-Load-clause-load_judged g c is_load honest zero = c.serve_load.ensures.judged honest zero

pub returns-in-Err-Memory-clause-load_judged : goal.returns-in-Err-Memory-clause-load_judged
returns-in-Err-Memory-clause-load_judged g c is_load honest zero =
    let lacks = c.lack_memory.ensures.lacks in
    absurd (omega (arith, lacks.0, zero))

pub returns-in-Err-Words-clause-load_judged : goal.returns-in-Err-Words-clause-load_judged
returns-in-Err-Words-clause-load_judged g c is_load honest zero =
    let never : IsRight (words_of c.args.words.now) → ⊥ = search rules in
    absurd (never (inr (inr (inl is_load))))
