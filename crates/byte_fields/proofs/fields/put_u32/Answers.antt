use Rattle.std.specs.Int.{w32, to_be_bytes}
use Rattle.byte_fields.proofs.Parts.{written_from}
use Rattle.byte_fields.proofs.fields.put_u32.Goals as goal

pub returns-clause-written : goal.returns-clause-written
returns-clause-written c = written_from c.args.at 4 c.args.bytes.now c.write_u32.new.buf (to_be_bytes w32 c.args.value) c.write_u32.ensures
