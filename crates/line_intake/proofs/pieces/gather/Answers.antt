use Rattle.std.specs.Prelude.{min}
use Rattle.std.proofs.Common.{◌≡◌, ◌++◌, ◌-◌, List, ℕ, length, take, ap, ◌∙◌, arith}
use Rattle.line_intake.proofs.Gathered.{gathered}
use Rattle.line_intake.proofs.pieces.gather.Goals as goal

pub returns : goal.returns
returns g c =
    let piece = c.args.piece.now in
    let old = c.args.line.now.items in
    let count = c.min-count.result in
    let room = c.remaining_capacity.ensures in
    let least = c.min-count.ensures in
    let fewest : count ≡ min (length (take c.unwrap_or.result piece)) (g.row.ROOM - length old) = omega (arith, room, least) in
    gathered g.row.ROOM piece c.memchr-newline.result old c.try_extend_from_slice.new.self.items count c.memchr-newline.ensures (omega (arith, room))
    (fewest ∙ ap (λ n. min (length (take n piece)) (g.row.ROOM - length old)) c.unwrap_or.ensures)
    (c.in-Ok.ensures.ok ∙ ap (λ n. old ++ take count (take n piece)) c.unwrap_or.ensures)
