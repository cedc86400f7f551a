use Rattle.log_store.proofs.Names.{rules, ◌≡◌, ◌+◌, ◌∙◌, ◌++◌, ◌∷◌, [], ℕ, List, Bool, ap, subst, arith, sym, nat_lt, if◌then◌else◌, Result, Err, some_octet, Entry, block_len, sealed_if, entries, with_record, overflows, SealsTail, LogStore, IsUsable, Ring, goes_nowhere, Stop}
use Rattle.log_store.proofs.TailLaws.{spelling_short, full_tail, room_made, end_rises}
use Rattle.log_store.proofs.EntryLaws.{sealing_keeps, one_more, next_place}
use Rattle.log_store.proofs.GoingOn.{goes_on}
use Rattle.log_store.proofs.SealingCalls.{seals_failed, seals_placed}
use Rattle.log_store.proofs.store.LogStore.append.Goals as goal

pub overflow_add-wanted : goal.overflow_add-wanted
overflow_add-wanted g c =
    let short = spelling_short c.args.rec.now c.requires.form in
    let high = c.requires.going.high in
    let is = c.length.ensures in
    omega (arith, short, high, is)

pub seal_if-requires-clause-some : goal.seal_if-requires-clause-some
seal_if-requires-clause-some g c over =
    let short = spelling_short c.args.rec.now c.requires.form in
    let is = c.length.ensures in
    full_tail c.args.self.now.used c.length.result (omega (arith, short, is)) over

pub place-requires-clause-room : goal.place-requires-clause-room
place-requires-clause-room g c =
    room_made c.args.self.now.used _ _ (spelling_short c.args.rec.now c.requires.form)
    (c.in_ok-seal_if.ensures.used ∙ ap (λ (n : ℕ). if nat_lt block_len (c.args.self.now.used + n) then 2 else c.args.self.now.used) c.length.ensures)

pub returns-clause-listed : goal.returns-clause-listed
returns-clause-listed g c log fits holds =
    let now = g.S.Site.state c.seal_if.new.site in
    let sealing : Bool = nat_lt block_len (c.args.self.now.used + c.length.result) in
    let mid = c.seal_if.new.self in
    let is = next_place mid now (sealed_if sealing log) c.place.result (c.in_ok-seal_if.ensures.seals.finds fits) (c.in_ok-seal_if.ensures.holds log fits holds) c.place.ensures.lsn in
    let kept : Bool = overflows c.args.self.now c.args.rec.now in
    let same : sealing ≡ kept = ap (λ (n : ℕ). nat_lt block_len (c.args.self.now.used + n)) c.length.ensures in
    subst (λ (b : Bool). entries (with_record c.args.rec.now (sealed_if b log)) ≡ entries log ++ record { lsn = c.place.result; rec = c.args.rec.now } ∷ []) same
    (one_more c.args.rec.now (sealed_if sealing log) c.place.result is
    ∙ ap (λ (l : List Entry). l ++ record { lsn = c.place.result; rec = c.args.rec.now } ∷ []) (sealing_keeps sealing log))

pub returns-clause-rises : goal.returns-clause-rises
returns-clause-rises g c =
    let mid = c.seal_if.new.self in
    let store = c.args.self.now in
    let past = end_rises (nat_lt block_len (store.used + c.length.result)) store.ring.hi store.used mid.ring.hi mid.used c.requires.going.high c.in_ok-seal_if.ensures.seals.next c.in_ok-seal_if.ensures.used in
    let hi = ap (λ (s : LogStore). s.ring.hi) c.place.ensures.rest in
    let used = c.place.ensures.used in
    let lsn = c.place.ensures.lsn in
    let some = some_octet c.args.rec.now in
    (omega (arith, past, lsn), omega (arith, lsn, hi, used, some))

pub returns-in_err-seal_if-clause-seals : goal.returns-in_err-seal_if-clause-seals
returns-in_err-seal_if-clause-seals g c =
    let failed : c.from_residual.result ≡ Err c.in_err-seal_if.field-0.0 = search rules in
    let same = ap (λ (n : ℕ). nat_lt block_len (c.args.self.now.used + n)) c.length.ensures in
    subst (λ (r : Result ℕ Stop). SealsTail r (overflows c.args.self.now c.args.rec.now) c.args.self.now c.seal_if.new.self (g.S.Site.state c.args.site.now) (g.S.Site.state c.seal_if.new.site)) (sym failed)
    (seals_failed same c.in_err-seal_if.ensures.seals)

pub returns-clause-seals : goal.returns-clause-seals
returns-clause-seals g c =
    let now = g.S.Site.state c.seal_if.new.site in
    let mid = c.seal_if.new.self in
    let going = c.seal_if.ensures.seals.going in
    let hi = ap (λ (s : LogStore). s.ring.hi) c.place.ensures.rest in
    let kept = ap (λ (s : LogStore). s.kept) c.place.ensures.rest in
    let used = c.place.ensures.used in
    let room = room_made c.args.self.now.used _ mid.used (spelling_short c.args.rec.now c.requires.form)
    (c.in_ok-seal_if.ensures.used ∙ ap (λ (n : ℕ). if nat_lt block_len (c.args.self.now.used + n) then 2 else c.args.self.now.used) c.length.ensures) in
    let same = ap (λ (n : ℕ). nat_lt block_len (c.args.self.now.used + n)) c.length.ensures in
    seals_placed same c.place.ensures.rest
    (goes_on mid c.place.new.self now now going (goes_nowhere now) (ap (λ (s : LogStore). s.geometry) c.place.ensures.rest)
    (subst (λ (r : Ring). IsUsable r now) (sym (ap (λ (s : LogStore). s.ring) c.place.ensures.rest)) going.usable)
    (ap (λ (s : LogStore). s.ring.shape) c.place.ensures.rest)
    (let below = going.kept in omega (arith, hi, kept, below)) (let live = going.live in omega (arith, hi, kept, live))
    (let low = going.low in omega (arith, low, used)) (omega (arith, used, room)))
    c.in_ok-seal_if.ensures.seals
