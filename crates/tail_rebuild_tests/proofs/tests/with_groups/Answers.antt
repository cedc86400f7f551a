use Rattle.site.proofs.Working.{lengths_later}
use Rattle.mem_site.specs.MemState.{state_of}
use Rattle.tail_rebuild_tests.proofs.tests.with_groups.Goals as goal

pub append_pages-requires : goal.append_pages-requires
append_pages-requires c = record {
  lengths = lengths_later _ (state_of c.in_ok-site.site) (state_of c.scan.new.site) c.scan.ensures.reads.preserves c.in_ok-site.ensures.lengths;
  usable = c.in_ok-groups.ensures.usable;
  shape = c.in_ok-groups.ensures.shape;
}
