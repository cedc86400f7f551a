use Rattle.std.proofs.Common.{◌≡◌, ◌+◌, ◌<◌, ◌++◌, [], ◌∷◌, List, length, refl, sym, ap, subst, ◌∙◌, arith, false, true, true≢false}
use Rattle.std.specs.Prelude.{option_copied, slice_index_or, take, None}
use Rattle.std.proofs.lemmas.List.{length-set}
use Rattle.record_model.specs.State.{Content, Write}
use Rattle.net_lines.specs.Nets.{AreLengths, HaveRoomAfter, while_writing}
use Rattle.net_lines.proofs.Rooms.{grown_there, room_back, room_of, room_push, room_there, take_more, writable_there}
use Rattle.net_lines.proofs.room.Room.judge.Goals as goal

pub has_room-requires : goal.has_room-requires
has_room-requires c =
    writable_there _ _ c.args.net.now c.loop-place.place _ _ c.requires (subst (λ n. c.loop-place.place < n) c.len-place-end.ensures c.loop-place-test.true) c.loop-place.invariant.size c.number-number.ensures c.value-value.ensures

pub grow-requires : goal.grow-requires
grow-requires c =
    (writable_there _ _ c.args.net.now c.loop-place.place _ _ c.requires (subst (λ n. c.loop-place.place < n) c.len-place-end.ensures c.loop-place-test.true) c.loop-place.invariant.size c.number-number.ensures c.value-value.ensures).inside

pub returns-then-not-has_room-clause-room : goal.returns-then-not-has_room-clause-room
returns-then-not-has_room-clause-room c table are =
    let i = c.loop-place.place in
    let net = c.args.net.now in
    let less = subst (λ n. i < n) c.len-place-end.ensures c.loop-place-test.true in (
      λ bad. absurd (true≢false (sym bad)),
      λ room. absurd (true≢false (sym ((c.has_room.ensures table (take i net) (c.loop-place.invariant.lengths table are)).1
          (room_back table (take i net) _ _ (slice_index_or net i (0, None)) c.number-number.ensures c.value-value.ensures (room_of table net i room less))) ∙ c.if-not-has_room.true)),
    )

pub loop-place-preserved : goal.loop-place-preserved
loop-place-preserved c =
    let i = c.loop-place.place in
    let net = c.args.net.now in
    let w = slice_index_or net i (0, None) in
    let less = subst (λ n. i < n) c.len-place-end.ensures c.loop-place-test.true in
    let inside = (writable_there _ _ net i _ _ c.requires less c.loop-place.invariant.size c.number-number.ensures c.value-value.ensures).inside in
    record {
      size = ap length c.grow.ensures ∙ length-set _ _ _ ∙ c.loop-place.invariant.size;
      room = λ table are. subst (HaveRoomAfter table []) (sym (take_more net i less))
          (room_push table [] (take i net) w (c.loop-place.invariant.room table are)
          (room_there table (take i net) _ _ w c.number-number.ensures c.value-value.ensures ((c.has_room.ensures table (take i net) (c.loop-place.invariant.lengths table are)).0 c.if-not-has_room.false)));
      lengths = λ table are. subst (λ l. AreLengths (while_writing table l) c.grow.new.self) (sym (take_more net i less))
          (grown_there table (take i net) _ _ w c.number-number.ensures c.value-value.ensures c.loop-place.self c.grow.new.self c.octets_of.result (c.loop-place.invariant.lengths table are) inside c.octets_of.ensures c.grow.ensures);
    }
