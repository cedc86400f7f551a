use Rattle.image_check.proofs.Names.{◌+◌, ◌*◌, ◌<◌, ℕ, nat_eq, IsAs, get, content_at, slots_of}
use Rattle.image_check.proofs.showing.Expected.is_on_page.Given as goal

abbrev pub invariant-loop-slot : goal.invariant-loop-slot
invariant-loop-slot l = (slot : ℕ) → slot < l.slot → IsAs (content_at (slots_of l.page) slot) (get nat_eq l.self.contents (32 * l.number + slot))
