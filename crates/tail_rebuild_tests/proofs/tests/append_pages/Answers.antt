use Rattle.std.proofs.Common.{◌≡◌, length, ap, sym, ◌∙◌}
use Rattle.mem_site.specs.MemState.{state_of}
use Rattle.tail_rebuild_tests.proofs.Tries.{may_try}
use Rattle.tail_rebuild_tests.proofs.tests.append_pages.Goals as goal

pub returns-in_err-append : goal.returns-in_err-append
returns-in_err-append c = may_try c.loop-page.groups c.append.new.self (state_of c.loop-page.site) (state_of c.append.new.site) c.append.ensures.preserves c.append.ensures.usable c.append.ensures.shape c.loop-page.invariant

pub loop-page-preserved : goal.loop-page-preserved
loop-page-preserved c = may_try c.loop-page.groups c.append.new.self (state_of c.loop-page.site) (state_of c.append.new.site) c.append.ensures.preserves c.append.ensures.usable c.append.ensures.shape c.loop-page.invariant
