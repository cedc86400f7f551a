use Rattle.redo_undo.proofs.Names.{length, true≢false, refl, sym, ap, ◌∙◌, arith, [], listed, Unfinished, top_lsn, left_open, Geometry}
use Rattle.redo_undo.proofs.UndoCalls.{undoes_beside}
use Rattle.redo_undo.proofs.Found.{unfinished_of, room_to_end, end_may, owes_end}
use Rattle.redo_undo.proofs.LeftUpdates.{none_of}
use Rattle.redo_undo.proofs.Opens.{left_same}
use Rattle.redo_undo.proofs.UndoneUpdates.{end_updates}
use Rattle.redo_undo.proofs.undo_losers.end_one.Goals as goal

pub returns-clause-updates : goal.returns-clause-updates
returns-clause-updates g c pages newest records history known sizes h =
    let n = c.requires.none in
    let found = unfinished_of c.table_of_records.ensures.active _ pages _ newest records history c.args.found.now h.holds h.analysis c.args.txn n.x n.there in
    let x : Unfinished = record { txn = c.args.txn; last = n.x.last; next = top_lsn c.args.txn (left_open records c.args.txn); remaining = length n.x.updates; chain = found.0 } in
    let u = found.1 in
    end_updates c.log_record.new.log pages _ newest records history c.finished.new.self c.args.txn _
    (none_of (left_open records c.args.txn) (sym (ap length n.none) ∙ u.remaining_is))
    (c.in-Ok.ensures.holds pages newest records history sizes h.holds refl (end_may _ pages _ newest records history h.holds x u (ap length n.none) _))
    (c.finished.ensures.table [] records _ h.analysis)
    (owes_end _ pages _ newest records history h.holds x u (ap length n.none) _)
    (c.in-Ok.ensures.orderly pages newest records history sizes h.holds (end_may _ pages _ newest records history h.holds x u (ap length n.none) _))

pub returns-then-not-has_room-clause-does : goal.returns-then-not-has_room-clause-does
returns-then-not-has_room-clause-does g c pages newest records history known going h =
    let n = c.requires.none in
    let found = unfinished_of c.table_of_records.ensures.active _ pages _ newest records history c.args.found.now h.holds h.analysis c.args.txn n.x n.there in
    let x : Unfinished = record { txn = c.args.txn; last = n.x.last; next = top_lsn c.args.txn (left_open records c.args.txn); remaining = length n.x.updates; chain = found.0 } in
    let u = found.1 in
    let room = room_to_end _ pages _ newest records history h.holds x u (ap length n.none) in
    absurd (true≢false (sym (c.has_room.ensures.1 (omega (arith, room, ap (λ (k : Geometry). k.blocks) going.sizes, c.requires.going.limits.blocks))) ∙ c.if-not-has_room.true))

pub returns-in-Err-clause-does : goal.returns-in-Err-clause-does
returns-in-Err-clause-does g c pages newest records history known going h =
    undoes_beside going c.in-Err.ensures.stops c.in-Err.ensures.works (c.in-Err.ensures.keeps pages newest records history h.holds) (c.in-Err.ensures.performs pages newest records history going h.holds)

pub returns-clause-does : goal.returns-clause-does
returns-clause-does g c pages newest records history known going h =
    undoes_beside going tt c.in-Ok.ensures.works (c.in-Ok.ensures.keeps pages newest records history h.holds) (c.in-Ok.ensures.performs pages newest records history going h.holds)

pub returns-clause-left : goal.returns-clause-left
returns-clause-left g c = left_same (listed c.args.found.now.table) (listed c.finished.new.self.table) c.args.txn c.requires.found c.requires.none c.finished.ensures.takes
