use Rattle.std.proofs.Common.{inl, inr, refl, ◌∙◌, ap, arith}
use Rattle.site.specs.Faults.{with_output_fault}
use Rattle.site.proofs.Laws.{goes_in_sequence, rose_since, stays_honest}
use Rattle.front_end.proofs.Firsts.{first_none, first_untold}
use Rattle.archive_restore.proofs.Faults.{first_stopped, status_from}
use Rattle.archive_restore.proofs.Endings.{causes_none, causes_stopped, causes_untold, filled_told, headline_lost, headline_stopped, headline_told, refuses_told, tells_done, tells_stopped}
use Rattle.archive_restore.proofs.restored.restore.Goals as goal

pub returns-in-Ok-tell_restored-clause-restore : goal.returns-in-Ok-tell_restored-clause-restore
returns-in-Ok-tell_restored-clause-restore g c = record {
  headline = λ geometry t.
      let old = g.S.Site.state c.args.site.now in
      let mid = g.S.Site.state c.restore_commits.new.site in
      let goes = c.restore_commits.ensures.preserves in
      let honest = stays_honest old mid goes t.honest in
      headline_told c.args.count c.args.pool geometry old mid (g.S.Site.state c.tell_restored.new.site) _ (c.in-Ok.ensures.restores geometry t) c.tell_restored.result c.tell_restored.ensures.tells honest goes (c.in-Ok-tell_restored.ensures.tells.told honest) (c.in-Ok-tell_restored.ensures.only honest);
  line = λ honest geometry limits lengths.
      let old = g.S.Site.state c.args.site.now in
      let mid = g.S.Site.state c.restore_commits.new.site in
      let goes = c.restore_commits.ensures.preserves in
      tells_done c.args.count geometry old mid (g.S.Site.state c.tell_restored.new.site) goes (stays_honest old mid goes honest) _ (c.in-Ok.ensures.known honest geometry limits lengths) c.tell_restored.result c.tell_restored.ensures.tells 0 (inl refl);
  causes = causes_none (g.S.Site.state c.args.site.now) (g.S.Site.state c.tell_restored.new.site);
}

pub returns-in-Err-tell_restored-clause-restore : goal.returns-in-Err-tell_restored-clause-restore
returns-in-Err-tell_restored-clause-restore g c = record {
  headline = λ geometry t.
      let old = g.S.Site.state c.args.site.now in
      let mid = g.S.Site.state c.restore_commits.new.site in
      let goes = c.restore_commits.ensures.preserves in
      headline_lost c.args.count c.args.pool geometry old mid (g.S.Site.state c.tell_restored.new.site) _ (c.in-Ok.ensures.restores geometry t) c.tell_restored.result c.tell_restored.ensures.tells (stays_honest old mid goes t.honest) goes;
  line = λ honest geometry limits lengths.
      let old = g.S.Site.state c.args.site.now in
      let mid = g.S.Site.state c.restore_commits.new.site in
      let goes = c.restore_commits.ensures.preserves in
      tells_done c.args.count geometry old mid (g.S.Site.state c.tell_restored.new.site) goes (stays_honest old mid goes honest) _ (c.in-Ok.ensures.known honest geometry limits lengths) c.tell_restored.result c.tell_restored.ensures.tells 6 (inr refl);
  causes = causes_untold (g.S.Site.state c.args.site.now) (g.S.Site.state c.tell_restored.new.site) (rose_since _ _ _ c.restore_commits.ensures.preserves.output_faults c.in-Err-tell_restored.ensures.tells.cause);
}

pub returns-in-Err-clause-restore : goal.returns-in-Err-clause-restore
returns-in-Err-clause-restore g c = record {
  headline = λ geometry t.
      let old = g.S.Site.state c.args.site.now in
      let mid = g.S.Site.state c.restore_commits.new.site in
      let goes = c.restore_commits.ensures.preserves in
      headline_stopped c.args.count c.args.pool c.status.result geometry old mid (g.S.Site.state c.tell_fault.new.site) c.in-Err.fault (c.in-Err.ensures.restores geometry t) c.tell_fault.result c.tell_fault.ensures (stays_honest old mid goes t.honest) goes c.status.ensures;
  line = λ honest geometry limits lengths.
      let old = g.S.Site.state c.args.site.now in
      let mid = g.S.Site.state c.restore_commits.new.site in
      let goes = c.restore_commits.ensures.preserves in
      tells_stopped c.args.count geometry old mid (g.S.Site.state c.tell_fault.new.site) goes (stays_honest old mid goes honest) c.in-Err.fault (c.in-Err.ensures.known honest geometry limits lengths) c.tell_fault.result c.tell_fault.ensures c.status.result c.status.ensures;
  causes =
      let old = g.S.Site.state c.args.site.now in
      let mid = g.S.Site.state c.restore_commits.new.site in
      causes_stopped c.in-Err.fault c.status.result old mid (g.S.Site.state c.tell_fault.new.site) c.status.ensures c.in-Err.ensures.cause c.tell_fault.ensures.preserves
      (λ honest. c.tell_fault.ensures.devices (stays_honest old mid c.restore_commits.ensures.preserves honest));
}

pub returns-in-Ok-tell_restored-clause-sizes : goal.returns-in-Ok-tell_restored-clause-sizes
returns-in-Ok-tell_restored-clause-sizes g c none = absurd (c.in-Ok.ensures.refuses none)

pub returns-in-Err-tell_restored-clause-sizes : goal.returns-in-Err-tell_restored-clause-sizes
returns-in-Err-tell_restored-clause-sizes g c none = absurd (c.in-Ok.ensures.refuses none)

pub returns-in-Err-clause-sizes : goal.returns-in-Err-clause-sizes
returns-in-Err-clause-sizes g c none =
    refuses_told c.in-Err.fault c.status.result (g.S.Site.state c.args.site.now) (g.S.Site.state c.restore_commits.new.site) (g.S.Site.state c.tell_fault.new.site) c.tell_fault.result c.status.ensures (c.in-Err.ensures.refuses none) c.tell_fault.ensures

pub returns-in-Ok-tell_restored-clause-unfit : goal.returns-in-Ok-tell_restored-clause-unfit
returns-in-Ok-tell_restored-clause-unfit g c honest w = absurd (c.in-Ok.ensures.unfit honest w)

pub returns-in-Err-tell_restored-clause-unfit : goal.returns-in-Err-tell_restored-clause-unfit
returns-in-Err-tell_restored-clause-unfit g c honest w = absurd (c.in-Ok.ensures.unfit honest w)

pub returns-in-Err-clause-unfit : goal.returns-in-Err-clause-unfit
returns-in-Err-clause-unfit g c honest w =
    filled_told c.in-Err.fault c.status.result (g.S.Site.state c.args.site.now) (g.S.Site.state c.restore_commits.new.site) (g.S.Site.state c.tell_fault.new.site) c.tell_fault.result c.restore_commits.ensures.preserves honest c.status.ensures (c.in-Err.ensures.unfit honest w) c.tell_fault.ensures

pub returns-in-Ok-tell_restored-clause-preserves : goal.returns-in-Ok-tell_restored-clause-preserves
returns-in-Ok-tell_restored-clause-preserves g c = goes_in_sequence _ _ _ c.restore_commits.ensures.preserves c.tell_restored.ensures.tells.preserves

pub returns-in-Err-tell_restored-clause-preserves : goal.returns-in-Err-tell_restored-clause-preserves
returns-in-Err-tell_restored-clause-preserves g c = goes_in_sequence _ _ _ c.restore_commits.ensures.preserves c.tell_restored.ensures.tells.preserves

pub returns-in-Err-clause-preserves : goal.returns-in-Err-clause-preserves
returns-in-Err-clause-preserves g c = goes_in_sequence _ _ _ c.restore_commits.ensures.preserves c.tell_fault.ensures.preserves

pub returns-in-Ok-tell_restored-clause-first : goal.returns-in-Ok-tell_restored-clause-first
returns-in-Ok-tell_restored-clause-first g c =
    first_none (g.S.Site.state c.args.site.now) (g.S.Site.state c.tell_restored.new.site) (c.in-Ok-tell_restored.ensures.tells.faults ∙ c.in-Ok.ensures.faults)

pub returns-in-Ok-tell_restored-clause-faults : goal.returns-in-Ok-tell_restored-clause-faults
returns-in-Ok-tell_restored-clause-faults g c is = c.in-Ok-tell_restored.ensures.tells.faults ∙ c.in-Ok.ensures.faults

pub returns-in-Err-tell_restored-clause-first : goal.returns-in-Err-tell_restored-clause-first
returns-in-Err-tell_restored-clause-first g c =
    first_untold (g.S.Site.state c.args.site.now) (g.S.Site.state c.tell_restored.new.site) (c.in-Err-tell_restored.ensures.tells.faults ∙ ap with_output_fault c.in-Ok.ensures.faults)

pub returns-in-Err-clause-first : goal.returns-in-Err-clause-first
returns-in-Err-clause-first g c =
    first_stopped c.in-Err.fault c.status.result (g.S.Site.state c.args.site.now) (g.S.Site.state c.restore_commits.new.site) (g.S.Site.state c.tell_fault.new.site) c.tell_fault.result c.status.ensures c.in-Err.ensures.faults c.tell_fault.ensures.faults

pub returns-in-Err-clause-faults : goal.returns-in-Err-clause-faults
returns-in-Err-clause-faults g c is = let from = status_from c.in-Err.fault c.status.result c.status.ensures in absurd (omega (arith, from, is))

pub returns-in-Err-clause-never : goal.returns-in-Err-clause-never
returns-in-Err-clause-never g c is = let from = status_from c.in-Err.fault c.status.result c.status.ensures in omega (arith, from, is)
