use Rattle.checkpoint.proofs.Names.{arith, refl, [], ◌∷◌, length, replicate, subst, set, w64, to_be_bytes, writes_then, Writes}
use Rattle.checkpoint.specs.Units.{spelling}
use Rattle.checkpoint.proofs.Texts.{length-written}
use Rattle.checkpoint.proofs.UnitParts.{octet_written, written_unit}
use Rattle.checkpoint.proofs.codec.write_master.Goals as goal

pub returns-clause-written : goal.returns-clause-written
unfolding spelling
returns-clause-written c =
    let m = c.args.master.now in
    let blank = replicate 503 0 in
    let one : Writes blank c.put_u64.new.bytes 0 (to_be_bytes w64 m.redo) = record { inside = omega arith; written = c.put_u64.ensures.written } in
    let two : Writes c.put_u64.new.bytes c.put_u64-2.new.bytes 8 (to_be_bytes w64 m.kept) = record { inside = omega (arith, length-written one); written = c.put_u64-2.ensures.written } in
    let both = writes_then one two refl in
    let three : Writes c.put_u64-2.new.bytes c.put_u64-3.new.bytes 16 (to_be_bytes w64 m.commits) = record { inside = omega (arith, length-written both); written = c.put_u64-3.ensures.written } in
    let numbers = writes_then both three refl in
    let four : Writes c.put_u64-3.new.bytes (set c.put_u64-3.new.bytes 24 c.len.result) 24 (length m.active ∷ []) =
    subst (λ n. Writes c.put_u64-3.new.bytes (set c.put_u64-3.new.bytes 24 c.len.result) 24 (n ∷ [])) c.len.ensures.len (octet_written c.put_u64-3.new.bytes 24 c.len.result (omega (arith, length-written numbers))) in
    let counted = writes_then numbers four refl in
    written_unit m c.write_pairs.new.content (writes_then counted (c.write_pairs.ensures.written) refl)

pub returns-clause-spelled : goal.returns-clause-spelled
returns-clause-spelled c ascend = record {
  spelled = returns-clause-written c;
  few = omega (arith, c.len.ensures.len, c.len.ensures.few);
  ascend = ascend;
  redo = omega arith;
  kept = omega arith;
  commits = omega arith;
  fit = c.write_pairs.ensures.fit;
}
