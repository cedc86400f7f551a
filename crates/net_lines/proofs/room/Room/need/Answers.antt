use Rattle.std.proofs.Common.{◌≡◌, ◌+◌, ◌*◌, ◌/◌, ◌<◌, ◌==◌, max, cond, sum_by, length, refl, sym, arith, ap, subst, ◌∙◌}
use Rattle.std.specs.List.{range_with_len}
use Rattle.std.specs.Prelude.{slice_index_or}
use Rattle.std.proofs.lemmas.List.{get_or_read_under}
use Rattle.net_lines.specs.Nets.{needed_in}
use Rattle.net_lines.proofs.Rooms.{needed_more}
use Rattle.net_lines.proofs.room.Room.need.Goals as goal

pub loop-slot-preserved : goal.loop-slot-preserved
loop-slot-preserved c =
    let first = 32 * (c.args.number / 32) in
    let place = first + c.loop-slot.slot in
    let size : length c.args.self.now ≡ 32 * c.self.inside.pages = ap length (sym c.self.view_is) ∙ c.self.invariant.0 in
    let inside : place < length c.args.self.now = omega (arith, size, c.requires, c.loop-slot-test.true, c.loop-slot.auto.slot-end) in
    let there : c.index.result.now ≡ slice_index_or c.args.self.now place 0 =
    get_or_read_under c.args.self.now place (length c.args.self.now) c.index.result.now 0 (c.index.ensures ∙ ap (λ l. slice_index_or l place c.index.result.now) c.self.view_is) inside refl in
    let more = needed_more c.args.self.now c.args.number c.args.octets first c.loop-slot.slot in
    let one : c.from-need.result ≡ needed_in c.args.self.now c.args.number c.args.octets place =
    c.from-need.ensures ∙ c.with_written.ensures ∙ ap (λ n. cond (c.args.number == place) (max n c.args.octets) n) there in
    record {
      first_is = refl;
      so_far = let so_far = c.loop-slot.invariant.so_far in omega (arith, more, one, so_far);
      small = let small = c.loop-slot.invariant.small in omega (arith, small);
    }

pub returns-clause-need : goal.returns-clause-need
returns-clause-need c =
    let all : c.loop-slot.slot ≡ 32 = omega (arith, c.loop-slot-test.false, c.loop-slot.auto.slot-end) in
    c.loop-slot.invariant.so_far
    ∙ ap (λ n. sum_by (needed_in c.args.self.now c.args.number c.args.octets) (range_with_len (32 * (c.args.number / 32)) n)) all

pub returns-clause-whole : goal.returns-clause-whole
returns-clause-whole c = (c.self.inside.pages, ap length (sym c.self.view_is) ∙ c.self.invariant.0)
