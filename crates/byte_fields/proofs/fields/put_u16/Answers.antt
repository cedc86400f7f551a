use Rattle.std.specs.Int.{w16, to_be_bytes}
use Rattle.byte_fields.proofs.Parts.{written_from}
use Rattle.byte_fields.proofs.fields.put_u16.Goals as goal

pub returns-clause-written : goal.returns-clause-written
returns-clause-written c = written_from c.args.at 2 c.args.bytes.now c.write_u16.new.buf (to_be_bytes w16 c.args.value) c.write_u16.ensures
