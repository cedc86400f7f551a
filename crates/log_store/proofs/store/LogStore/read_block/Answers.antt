use Rattle.log_store.proofs.Names.{ℕ, List, ◌∙◌, sym, subst, arith, used_low, IsBlock, sealed_block}
use Rattle.log_store.proofs.Standing.{ring_found, unit_read, held_block, one_end}
use Rattle.log_store.proofs.store.LogStore.read_block.Goals as goal

pub returns-in_default-clause-foreign : goal.returns-in_default-clause-foreign
returns-in_default-clause-foreign g c says found records is =
    let store = c.args.self.now in
    let site = g.S.Site.state c.args.site.now in
    let read = unit_read store site c.args.block _ _ c.requires.going found c.requires.live c.copy_from_slice.ensures.after
    (c.in_ok-read_unit.ensures.unit found.honest (ring_found store site c.requires.going found)) in
    c.in_default.ensures.bad records (subst (λ (l : List ℕ). IsBlock l records) (sym read) is)

pub returns-in_default-clause-readable : goal.returns-in_default-clause-readable
returns-in_default-clause-readable g c log found holds from says =
    let store = c.args.self.now in
    let site = g.S.Site.state c.args.site.now in
    let read = unit_read store site c.args.block _ _ c.requires.going found c.requires.live c.copy_from_slice.ensures.after
    (c.in_ok-read_unit.ensures.unit found.honest (ring_found store site c.requires.going found)) in
    c.in_default.ensures.bad (sealed_block log c.args.block)
    (subst (λ (l : List ℕ). IsBlock l (sealed_block log c.args.block)) (sym read) (held_block store site log c.args.block found holds from c.requires.live.below))

pub returns-clause-block : goal.returns-clause-block
returns-clause-block g c found =
    let store = c.args.self.now in
    let site = g.S.Site.state c.args.site.now in
    unit_read store site c.args.block _ _ c.requires.going found c.requires.live c.copy_from_slice.ensures.after
    (c.in_ok-read_unit.ensures.unit found.honest (ring_found store site c.requires.going found))

pub returns-clause-holds : goal.returns-clause-holds
returns-clause-holds g c log found holds from =
    let store = c.args.self.now in
    let site = g.S.Site.state c.args.site.now in
    let read = unit_read store site c.args.block _ _ c.requires.going found c.requires.live c.copy_from_slice.ensures.after
    (c.in_ok-read_unit.ensures.unit found.honest (ring_found store site c.requires.going found)) in
    let is = subst (λ (l : List ℕ). IsBlock l (sealed_block log c.args.block)) (sym read) (held_block store site log c.args.block found holds from c.requires.live.below) in
    let checked = c.in-Ok.ensures.found in
    (is, checked.2 ∙ one_end _ checked.0 (sealed_block log c.args.block) checked.1 is)

pub returns-clause-within : goal.returns-clause-within
returns-clause-within g c =
    let found = c.in-Ok.ensures.found in
    let low = used_low found.0 found.1.are_block in
    let high = found.1.are_block.room in
    let is = found.2 in
    (omega (arith, low, is), omega (arith, high, is))
