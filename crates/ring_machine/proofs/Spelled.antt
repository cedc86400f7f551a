-- The octets of records.
use Rattle.std.proofs.Common.{◌≡◌, length, Some, None, refl, arith, length-append}
use Rattle.record_model.specs.State.{Content}
use Rattle.log_records.specs.declared.log_record.LogRecord.TheVariants.{Begin, Update, Clr, Commit, End}
use Rattle.log_records.specs.Spelling.{spelling, content_spelling}
use Rattle.ring_machine.specs.Octets.{content_octets}
use Rattle.ring_machine.specs.Laws.{OctetsAreSpelled}

content_spelled : (content : Content) → length (content_spelling content) ≡ content_octets content
content_spelled None = refl
content_spelled (Some value) = omega arith

pub octets_spelled : OctetsAreSpelled
unfolding spelling
octets_spelled Begin = refl
octets_spelled (Update txn prev page slot before after) =
    omega (arith, content_spelled before, content_spelled after, length-append (content_spelling before) (content_spelling after))
octets_spelled (Clr txn prev undo_next page slot after) = omega (arith, content_spelled after)
octets_spelled (Commit txn number) = refl
octets_spelled (End txn) = refl
