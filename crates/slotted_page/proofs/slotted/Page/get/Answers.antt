use Rattle.std.proofs.Common.{◌∙◌, ap, sym, None, ℕ, List}
use Rattle.slotted_page.specs.Layout.{content_of}
use Rattle.slotted_page.proofs.Slots.{get_or-slots_of}
use Rattle.slotted_page.proofs.slotted.Page.get.Goals as goal

pub returns-clause-content : goal.returns-clause-content
returns-clause-content c =
    c.content_of.ensures ∙ ap (λ (octets : List ℕ). content_of octets c.args.slot) c.self.view_is ∙ sym (get_or-slots_of c.args.self.now c.args.slot None c.requires.slot)
