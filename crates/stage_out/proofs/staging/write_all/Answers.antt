use Rattle.std.proofs.Common.{◌≡◌, ◌*◌, ℕ, List, [], length, get_or, subst, arith, rules}
use Rattle.std.specs.Prelude.{Ok}
use Rattle.site.specs.declared.outside.Dev.TheVariants.{Disk}
use Rattle.site.specs.Calls.{Lies}
use Rattle.site.proofs.Laws.{stays_honest}
use Rattle.disk_pages.proofs.Calling.{writes_then}
use Rattle.stage_out.proofs.Steps.{nothing_left, nothing_written, write_leaves, write_done}
use Rattle.stage_out.proofs.staging.write_all.Goals as goal

pub loop-place-init : goal.loop-place-init
loop-place-init g c = record {
  left = λ honest. nothing_left c.args.pages.now (g.S.Site.state c.args.site.now);
  written = λ honest. nothing_written c.args.pages.now c.args.contents.now (g.S.Site.state c.args.site.now);
  writes = search rules;
}

pub write_page-requires-clause-lies : goal.write_page-requires-clause-lies
write_page-requires-clause-lies g c =
    let there = c.requires.lie c.loop-place.place 0 c.loop-place-test.true in
    let size = c.loop-place.invariant.writes.preserves.sizes Disk in
    omega (arith, there, size)

pub returns-in-Err-clause-left : goal.returns-in-Err-clause-left
returns-in-Err-clause-left g c honest =
    let old = g.S.Site.state c.args.site.now in
    let mid = g.S.Site.state c.loop-place.site in
    let new = g.S.Site.state c.write_page.new.site in
    let later = stays_honest old mid c.loop-place.invariant.writes.preserves honest in
    write_leaves c.args.pages.now c.args.contents.now c.loop-place.place old mid new c.loop-place-test.true (c.loop-place.invariant.written honest) (c.loop-place.invariant.left honest)
    (c.write_page.ensures.changes later) (c.write_page.ensures.any_moment later)

pub returns-in-Err-clause-writes : goal.returns-in-Err-clause-writes
returns-in-Err-clause-writes g c =
    writes_then tt _ (g.S.Site.state c.args.site.now) (g.S.Site.state c.loop-place.site) (g.S.Site.state c.write_page.new.site) c.loop-place.invariant.writes c.in-Err.ensures.writes

pub loop-place-preserved : goal.loop-place-preserved
loop-place-preserved g c =
    let old = g.S.Site.state c.args.site.now in
    let mid = g.S.Site.state c.loop-place.site in
    let new = g.S.Site.state c.write_page.new.site in
    let pages = c.args.pages.now in
    let contents = c.args.contents.now in
    let place = c.loop-place.place in
    let is : c.octets_at.result.now ≡ get_or contents place [] = c.octets_at.ensures.octets in
    record {
      left = λ honest.
          let later = stays_honest old mid c.loop-place.invariant.writes.preserves honest in
          write_leaves pages contents place old mid new c.loop-place-test.true (c.loop-place.invariant.written honest) (c.loop-place.invariant.left honest)
          (c.write_page.ensures.changes later) (c.write_page.ensures.any_moment later);
      written = λ honest.
          let later = stays_honest old mid c.loop-place.invariant.writes.preserves honest in
          write_done pages contents place old mid new c.loop-place-test.true (c.loop-place.invariant.written honest) c.requires.once c.requires.lie
          (subst (λ (b : List ℕ). length b ≡ 4096) is c.octets_at.ensures.size)
          (subst (λ (b : List ℕ). Lies Disk (4096 * get_or pages place 0) b mid new) is (c.in-Ok.ensures.written later))
          (c.in-Ok.ensures.calls later);
      writes = writes_then tt (Ok tt) old mid new c.loop-place.invariant.writes c.in-Ok.ensures.writes;
    }
