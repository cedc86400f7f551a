-- The turns that the first octets have made.
use Rattle.name_table.proofs.Names.{◌≡◌, fold, bit_xor}
use Rattle.std.proofs.Common.{take}
use Rattle.record_model.specs.Numbers.{following}
use Rattle.name_table.proofs.buckets.home_of.Given as goal

abbrev pub invariant-loop-octet : goal.invariant-loop-octet
invariant-loop-octet l = l.x ≡ fold (λ x octet. following (bit_xor x octet)) 0 (take l.octet-index l.name)
