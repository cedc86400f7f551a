use Rattle.std.proofs.Common.{◌≡◌, ◌+◌, ◌<◌, length, refl, sym, ap, subst, ◌∙◌, arith}
use Rattle.std.specs.Prelude.{slice_index_or, take, None}
use Rattle.std.proofs.lemmas.List.{take_all, length-set}
use Rattle.net_lines.proofs.Rooms.{all_closed, closed_at, closed_there, take_more, writable_there}
use Rattle.net_lines.proofs.room.Room.close.Goals as goal

pub set-requires : goal.set-requires
set-requires c =
    (writable_there _ _ c.args.net.now c.loop-place.place _ _ c.requires (subst (λ n. c.loop-place.place < n) c.len-place-end.ensures c.loop-place-test.true) c.loop-place.invariant.size c.number.ensures c.value.ensures).inside

pub loop-place-preserved : goal.loop-place-preserved
loop-place-preserved c =
    let i = c.loop-place.place in
    let net = c.args.net.now in
    let w = slice_index_or net i (0, None) in
    let less = subst (λ n. i < n) c.len-place-end.ensures c.loop-place-test.true in
    let inside = (writable_there _ _ net i _ _ c.requires less c.loop-place.invariant.size c.number.ensures c.value.ensures).inside in
    record {
      size = ap length c.set.ensures ∙ length-set _ _ _ ∙ c.loop-place.invariant.size;
      each = λ r few. closed_there c.args.self.now c.loop-place.self c.set.new.self (take i net) w _ c.octets_of.result r _ inside c.number.ensures c.value.ensures c.octets_of.ensures c.set.ensures (c.loop-place.invariant.each r few)
          ∙ ap (λ l. closed_at c.args.self.now l r) (sym (take_more net i less));
    }

pub returns-clause-lengths : goal.returns-clause-lengths
returns-clause-lengths c table are =
    let net = c.args.net.now in
    let many = c.len-place-end.ensures in
    all_closed table net c.args.self.now c.loop-place.self are c.loop-place.invariant.size
    (λ r less. c.loop-place.invariant.each r less ∙ ap (λ l. closed_at c.args.self.now l r) (take_all c.loop-place.place net (omega (arith, many, c.loop-place-test.false))))
