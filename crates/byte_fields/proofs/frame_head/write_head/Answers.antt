use Rattle.std.proofs.Common.{◌+◌, arith, refl}
use Rattle.std.specs.Int.{w16, w32, w64, to_be_bytes}
use Rattle.byte_fields.specs.FrameHeads.{spelling}
use Rattle.byte_fields.proofs.Texts.{writes_then, writes_put}
use Rattle.byte_fields.proofs.HeadParts.{written_head}
use Rattle.byte_fields.proofs.frame_head.write_head.Goals as goal

pub returns-clause-written : goal.returns-clause-written
unfolding spelling
returns-clause-written c =
    let at = c.args.at in
    let head = c.args.head.now in
    let zeros = writes_put c.write_flag-2.new.bytes c.put_u16.new.bytes (at + 2) (to_be_bytes w16 0) (omega arith) c.put_u16.ensures.written in
    let page = writes_put c.put_u16.new.bytes c.put_u32.new.bytes (at + 4) (to_be_bytes w32 head.page) (omega arith) c.put_u32.ensures.written in
    let lsn = writes_put c.put_u32.new.bytes c.put_u64.new.bytes (at + 8) (to_be_bytes w64 head.lsn) (omega arith) c.put_u64.ensures.written in
    writes_then (writes_then (writes_then (writes_then c.write_flag.ensures c.write_flag-2.ensures refl) zeros (omega arith)) page (omega arith)) lsn (omega arith)

pub returns-clause-spelled : goal.returns-clause-spelled
returns-clause-spelled c = written_head c.args.bytes.now c.put_u64.new.bytes c.args.at c.args.head.now (returns-clause-written c) c.requires.form (omega arith, omega arith)
