use Rattle.image_check.proofs.Names.{length, ◌∙◌, ap, arith, ◌+◌, version_on, few_then, looks_then, looks_answered, State, Image, Geometry, lsn_of}
use Rattle.std.proofs.Common.{length-append}
use Rattle.image_check.proofs.ShownOnes.{versions_later, first_lsns, lsns_more}
use Rattle.image_check.proofs.Walking.{may_later}
use Rattle.image_check.proofs.showing.version_lsns.Goals as goal

pub loop-page-preserved : goal.loop-page-preserved
loop-page-preserved g c = record {
  may = may_later c.in-Ok.ensures.reads c.loop-page.invariant.may;
  many = let before = c.loop-page.invariant.many in let more = simp length-append at (ap length c.in-Ok-push.ensures.items) in omega (arith, before, more);
  lsns = λ finds.
      let geometry = c.args.found.now.log.geometry in
      let old : State = g.S.Site.state c.args.site.now in
      let reads = c.loop-page.invariant.reads in
      let version = c.in-Ok.ensures.version (versions_later reads finds) ∙ ap (λ (image : Image). version_on geometry image c.loop-page.page) (reads.same finds.honest).image in
      lsns_more geometry old.image c.loop-page.page c.lsn.result c.loop-page.lsns.items c.push.new.self.items (c.loop-page.invariant.lsns finds) (c.lsn.ensures ∙ ap lsn_of version) c.in-Ok-push.ensures.items;
  looks = few_then 0 c.loop-page.page 0 1 0 (c.loop-page.page + 1) (g.S.Site.state c.args.site.now) (g.S.Site.state c.loop-page.site) (g.S.Site.state c.version_of.new.site) (omega arith) (omega arith) c.loop-page.invariant.looks c.in-Ok.ensures.looks;
  reads = looks_then tt _ (g.S.Site.state c.args.site.now) (g.S.Site.state c.loop-page.site) (g.S.Site.state c.version_of.new.site) c.loop-page.invariant.reads
      (looks_answered c.in-Ok.version tt (g.S.Site.state c.loop-page.site) (g.S.Site.state c.version_of.new.site) c.in-Ok.ensures.reads);
}

pub returns-clause-lsns : goal.returns-clause-lsns
returns-clause-lsns g c finds =
    c.loop-page.invariant.lsns finds
    ∙ ap (first_lsns c.args.found.now.log.geometry (g.S.Site.state c.args.site.now).image) (omega (arith, ap (λ (k : Geometry). k.pages) c.geometry-page-end.ensures, c.loop-page.auto.page-end, c.loop-page-test.false))

pub returns-clause-many : goal.returns-clause-many
returns-clause-many g c = let so_far = c.loop-page.invariant.many in omega (arith, so_far, ap (λ (k : Geometry). k.pages) c.geometry-page-end.ensures, c.loop-page.auto.page-end, c.loop-page-test.false)
