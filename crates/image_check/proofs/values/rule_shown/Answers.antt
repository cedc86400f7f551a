use Rattle.image_check.proofs.Names.{rules, IsTrue, sym, subst, ◌+◌, ◌*◌, ap, arith, IfSome, IfNone, kept_blocks, reading_of, FindsVersions, ShowsLog, few_more, few_then, shown_some, AreFound, ShowsFrames, AreGroups, AreVersions, logical_image_of, looks_then, looks_failed, State, Image, Geometry}
use Rattle.image_check.proofs.ShownOnes.{versions_later}
use Rattle.image_check.proofs.ValuesCounted.{none_found}
use Rattle.image_check.proofs.Walking.{may_later, sees_later}
use Rattle.image_check.proofs.values.rule_shown.Goals as goal

pub returns-in-Ok-None : goal.returns-in-Ok-None
returns-in-Ok-None g c = record {
  says = λ blocks sees rings formed.
      let old : State = g.S.Site.state c.args.site.now in
      let none = subst (λ (k : Geometry). IsTrue old.honest → AreFound c.args.found.now.rings old → AreGroups k old.image → IfNone c.in-Ok-None.field-0 ⊥) c.geometry.ensures c.in-Ok-None.ensures.formed sees.log.honest rings formed.groups in
      absurd (none_found c.in-Ok-None.field-0 c.in-Ok-None.field-0-is none);
  reads = search rules;
  few = few_more 0 c.geometry.result.groups (1 * kept_blocks c.args.found.now) (c.args.found.now.log.geometry.groups + 2 * c.args.found.now.log.geometry.pages) (g.S.Site.state c.args.site.now) (g.S.Site.state c.find_frames.new.site) (omega arith) (omega (arith, ap (λ (k : Geometry). k.groups) c.geometry.ensures)) c.in-Ok-None.ensures.looks;
}

pub show_log-requires-clause-may : goal.show_log-requires-clause-may
show_log-requires-clause-may g c = may_later c.in-Ok-Some.ensures.reads c.requires

pub returns-in-Ok : goal.returns-in-Ok
returns-in-Ok g c = record {
  says = λ blocks sees rings formed.
      let found = c.args.found.now in
      let sizes : Geometry = found.log.geometry in
      let old : State = g.S.Site.state c.args.site.now in
      let reads = c.in-Ok-Some.ensures.reads in
      let same = (reads.same sees.log.honest).image in
      let some = subst (λ (k : Geometry). IsTrue old.honest → AreFound found.rings old → AreGroups k old.image → IfSome c.in-Ok-Some.field-0 (λ queue. ShowsFrames k old.image queue)) c.geometry.ensures c.in-Ok-Some.ensures.shown sees.log.honest rings formed.groups in
      let there : FindsVersions found c.in-Ok-Some.frames old = record { honest = sees.log.honest; rings = rings; groups = formed.groups; shown = shown_some sizes old.image c.in-Ok-Some.field-0 c.in-Ok-Some.frames c.in-Ok-Some.field-0-is some } in
      subst (λ (image : Image). ShowsLog (logical_image_of (reading_of found blocks) image) c.in-Ok.answer) same
      (c.in-Ok.ensures.says blocks (sees_later reads sees) (versions_later reads there) (subst (AreVersions sizes) (sym same) formed.versions));
  reads = looks_then c.in-Ok-Some.field-0 _ (g.S.Site.state c.args.site.now) (g.S.Site.state c.find_frames.new.site) (g.S.Site.state c.show_log.new.site) c.in-Ok-Some.ensures.reads c.in-Ok.ensures.reads;
  few = few_then 0 c.geometry.result.groups (1 * kept_blocks c.args.found.now) (2 * c.args.found.now.log.geometry.pages) (1 * kept_blocks c.args.found.now) (c.args.found.now.log.geometry.groups + 2 * c.args.found.now.log.geometry.pages) (g.S.Site.state c.args.site.now) (g.S.Site.state c.find_frames.new.site) (g.S.Site.state c.show_log.new.site) (omega arith) (omega (arith, ap (λ (k : Geometry). k.groups) c.geometry.ensures)) c.in-Ok-Some.ensures.looks c.in-Ok.ensures.few;
}

pub returns : goal.returns
returns g c = record {
  says = tt;
  reads = looks_then c.in-Ok-Some.field-0 _ (g.S.Site.state c.args.site.now) (g.S.Site.state c.find_frames.new.site) (g.S.Site.state c.show_log.new.site) c.in-Ok-Some.ensures.reads c.in-Err-show_log.ensures.reads;
  few = few_then 0 c.geometry.result.groups (1 * kept_blocks c.args.found.now) (2 * c.args.found.now.log.geometry.pages) (1 * kept_blocks c.args.found.now) (c.args.found.now.log.geometry.groups + 2 * c.args.found.now.log.geometry.pages) (g.S.Site.state c.args.site.now) (g.S.Site.state c.find_frames.new.site) (g.S.Site.state c.show_log.new.site) (omega arith) (omega (arith, ap (λ (k : Geometry). k.groups) c.geometry.ensures)) c.in-Ok-Some.ensures.looks c.in-Err-show_log.ensures.few;
}

pub returns-in-Err : goal.returns-in-Err
returns-in-Err g c = record {
  says = tt;
  reads = looks_failed c.in-Err.stop _ _ c.in-Err.ensures.reads;
  few = few_more 0 c.geometry.result.groups (1 * kept_blocks c.args.found.now) (c.args.found.now.log.geometry.groups + 2 * c.args.found.now.log.geometry.pages) (g.S.Site.state c.args.site.now) (g.S.Site.state c.find_frames.new.site) (omega arith) (omega (arith, ap (λ (k : Geometry). k.groups) c.geometry.ensures)) c.in-Err.ensures.looks;
}
