use Rattle.std.proofs.Common.{◌≡◌, ap}
use Rattle.std.specs.Prelude.{option_copied}
use Rattle.net_lines.proofs.Rooms.{room_decided}
use Rattle.net_lines.proofs.room.Room.has_room.Goals as goal

pub returns-in-Some : goal.returns-in-Some
returns-in-Some c table before are =
    room_decided table before c.args.self.now c.need.ensures.whole.0 c.args.number c.in-Some.octets.now (option_copied c.args.value) c.need.result are c.need.ensures.whole.1 c.requires.inside (ap option_copied c.in-Some.is) c.need.ensures.need
