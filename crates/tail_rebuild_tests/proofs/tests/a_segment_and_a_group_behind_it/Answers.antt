use Rattle.site.proofs.Working.{lengths_later}
use Rattle.mem_site.specs.MemState.{state_of}
use Rattle.tail_rebuild_tests.proofs.tests.a_segment_and_a_group_behind_it.Goals as goal

pub rebuild-requires-clause-lengths : goal.rebuild-requires-clause-lengths
rebuild-requires-clause-lengths g c =
    lengths_later _ (state_of c.scan.new.site) (state_of c.append.new.site) c.append.ensures.preserves (lengths_later _ (state_of c.in_ok-site.site) (state_of c.scan.new.site) c.scan.ensures.reads.preserves c.in_ok-site.ensures)
