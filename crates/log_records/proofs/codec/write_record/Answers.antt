-- Each piece stands behind the ones before it.
use Rattle.log_records.specs.Spelling.{spelling}
use Rattle.log_records.proofs.WritesLemmas.{writes_then}
use Rattle.log_records.proofs.codec.write_record.Goals as goal

pub returns-in-Commit : goal.returns-in-Commit
unfolding spelling
returns-in-Commit c = rw c.in-Commit.is (writes_then c.write_head-next-in-Commit.ensures c.write_u64.ensures)

pub returns-in-Update : goal.returns-in-Update
unfolding spelling
returns-in-Update c = rw c.in-Update.is
    (writes_then (writes_then (writes_then (writes_then c.write_head-next.ensures c.write_u64-next.ensures) c.write_place-next.ensures)
    c.write_content-next.ensures) c.write_content.ensures)

pub returns-in-Clr : goal.returns-in-Clr
unfolding spelling
returns-in-Clr c = rw c.in-Clr.is
    (writes_then (writes_then (writes_then (writes_then c.write_head-next-in-Clr.ensures c.write_u64-next-in-Clr.ensures) c.write_u64-next-in-Clr-2.ensures)
    c.write_place-next-in-Clr.ensures) c.write_content-in-Clr.ensures)
