use Rattle.std.proofs.Common.{None, arith, ◌∙◌, ap, Some}
use Rattle.std.proofs.lemmas.Option.{slice_get-get_or}
use Rattle.slotted_page.specs.Layout.{slots_of}
use Rattle.slotted_page.proofs.Slots.{length-slots_of, get_or-slots_of}
use Rattle.slotted_page.proofs.Lengths.{short_content}
use Rattle.slotted_page.proofs.laws.slots_of_a_page.Goals as goal

pub returns-clause-slots : goal.returns-clause-slots
returns-clause-slots c = λ octets. record {
  count = length-slots_of octets;
  each = λ slot below. slice_get-get_or (slots_of octets) slot None (omega (arith, below, length-slots_of octets)) ∙ ap Some (get_or-slots_of octets slot None below);
}

pub returns-clause-short : goal.returns-clause-short
returns-clause-short c = short_content
