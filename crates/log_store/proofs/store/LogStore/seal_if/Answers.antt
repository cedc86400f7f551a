use Rattle.log_store.proofs.Names.{◌≡◌, ◌∙◌, ◌+◌, [], Bool, ap, arith, refl, true, sym, subst, rules, if◌then◌else◌, region, IsRing, SameOutside, hi_of, Ring, Shape, stays_honest, no_error, ChangesOnly, loose_of}
use Rattle.std.proofs.Common.{◌^◌}
use Rattle.log_store.proofs.GoingOn.{goes_on}
use Rattle.log_store.proofs.NextBlocks.{at_end, masters_beside}
use Rattle.log_store.proofs.SealLaws.{seal_beside, ring_ready, ring_finds, seal_left, seal_front, seal_reaches, seal_holds}
use Rattle.log_store.proofs.SealingCalls.{seals_nothing}
use Rattle.log_store.proofs.Standing.{finds}
use Rattle.log_store.proofs.store.LogStore.seal_if.Goals as goal

pub returns-then-not-wanted-clause-seals : goal.returns-then-not-wanted-clause-seals
returns-then-not-wanted-clause-seals g c = seals_nothing c.args.self.now (g.S.Site.state c.args.site.now) (search rules) c.requires.going

pub returns-in_err-append-clause-seals : goal.returns-in_err-append-clause-seals
returns-in_err-append-clause-seals g c =
    let old = g.S.Site.state c.args.site.now in
    let new = g.S.Site.state c.append.new.site in
    let store = c.args.self.now in
    let going = c.requires.going in
    let wants : c.args.wanted ≡ true = search rules in
    let same = ap (λ (r : Ring). r.hi) c.in_err-append.ensures.err in
    record {
      keeps = search rules;
      any_moment = λ log fits holds.
          seal_left store old new log c.tail_block-content.result going (finds store old fits) holds c.requires.room (c.requires.some wants) (c.tail_block-content.ensures log.tail holds.tail)
          (c.append.ensures.changes fits.honest).only (c.append.ensures.any_moment fits.honest (ring_ready store old going fits)) c.args.wanted wants;
      front = λ log fits holds quiet.
          seal_front store old new log c.tail_block-content.result going (finds store old fits) holds c.requires.room (c.requires.some wants) (c.tail_block-content.ensures log.tail holds.tail)
          (c.append.ensures.changes fits.honest).only (c.append.ensures.any_moment fits.honest (ring_ready store old going fits)) quiet c.args.wanted wants;
      reaches = λ log found holds. search rules;
      next_block = λ honest. record {
        next = λ is. search rules;
        masters = search rules;
        worn = λ is says. let full : store.ring.hi ≡ 2 ^ 40 = search rules in at_end store old new is full (ap g.S.Site.state (c.append.ensures.unchanged full));
      };
      outside = λ honest. search rules;
      beside = λ fits. seal_beside store old new c.tail_block-content.result going (c.append.ensures.any_moment fits.honest (ring_ready store old going fits));
      device_calls = λ honest. search rules;
      going =
          goes_on store _ old new going c.append.ensures.preserves refl c.append.ensures.usable c.append.ensures.shape
          (let kept = going.kept in omega (arith, kept, same)) (let live = going.live in omega (arith, live, same)) going.low going.high;
    }

pub returns-clause-seals : goal.returns-clause-seals
returns-clause-seals g c =
    let old = g.S.Site.state c.args.site.now in
    let new = g.S.Site.state c.append.new.site in
    let store = c.args.self.now in
    let going = c.requires.going in
    let wants : c.args.wanted ≡ true = search rules in
    let more = ap (λ (r : Ring). r.hi) c.in_ok-append.ensures.ok in
    let shape = c.append.ensures.shape ∙ going.shape in
    let goes = c.append.ensures.preserves in
    record {
      keeps = record {
        finds = λ found.
            let ready = c.in_ok-append.ensures.ready found.honest (ring_finds store old going found) in
            record { honest = stays_honest old new goes found.honest; form = subst (λ (s : Shape). IsRing s (region s new)) shape ready.form; hi = ready.hi ∙ ap (λ (s : Shape). hi_of s (region s new)) shape };
        fits = λ fits.
            let ready = c.in_ok-append.ensures.ready fits.honest (ring_finds store old going (finds store old fits)) in
            record {
              honest = stays_honest old new goes fits.honest;
              settled = subst (λ (s : Shape). loose_of s.dev new.loose ≡ []) shape ready.settled;
              form = subst (λ (s : Shape). IsRing s (region s new)) shape ready.form;
              hi = ready.hi ∙ ap (λ (s : Shape). hi_of s (region s new)) shape;
            };
        changes = λ honest. subst (λ (s : Shape). ChangesOnly s.dev old new) going.shape (c.append.ensures.changes honest);
        quiet = c.in_ok-append.ensures.quiet;
        next = more ∙ ap (λ (b : Bool). if b then store.ring.hi + 1 else store.ring.hi) (sym wants);
        at_most_one = (omega (arith, more), omega (arith, more));
        ended = ap (λ (r : Ring). r.ended) c.in_ok-append.ensures.ok;
        err = tt;
        kept = refl;
        geometry = refl;
        preserves = goes;
        faults = c.in_ok-append.ensures.faults;
        reads = c.append.ensures.reads;
        worn = (λ says. absurd (no_error says), λ both. absurd (no_error (c.in_ok-append.ensures.worn.1 both.1)));
        device = λ says. absurd (no_error says);
        stops = tt;
      };
      any_moment = λ log fits holds.
          seal_left store old new log c.tail_block-content.result going (finds store old fits) holds c.requires.room (c.requires.some wants) (c.tail_block-content.ensures log.tail holds.tail)
          (c.append.ensures.changes fits.honest).only (c.append.ensures.any_moment fits.honest (ring_ready store old going fits)) c.args.wanted wants;
      front = λ log fits holds quiet.
          seal_front store old new log c.tail_block-content.result going (finds store old fits) holds c.requires.room (c.requires.some wants) (c.tail_block-content.ensures log.tail holds.tail)
          (c.append.ensures.changes fits.honest).only (c.append.ensures.any_moment fits.honest (ring_ready store old going fits)) quiet c.args.wanted wants;
      reaches = λ log found holds.
          let there = ring_finds store old going found in
          seal_reaches store old new log c.tail_block-content.result going found holds c.requires.room (c.requires.some wants) (c.tail_block-content.ensures log.tail holds.tail) (c.append.ensures.changes found.honest).only
          c.append.ensures.preserves c.append.new.self (c.in_ok-append.ensures.ready found.honest there) c.append.ensures.shape (c.in_ok-append.ensures.outside found.honest)
          (c.in_ok-append.ensures.stands found.honest there) c.args.wanted wants;
      next_block = λ honest. record {
        next = λ is. subst (λ (s : Shape). c.append.new.self.hi ≡ hi_of s (region s new)) (c.append.ensures.shape ∙ going.shape)
            (c.in_ok-append.ensures.fits honest (subst (λ (s : Shape). store.ring.hi ≡ hi_of s (region s old)) (sym going.shape) is));
        masters = masters_beside store.geometry old new going.limits going.lengths c.append.ensures.preserves
            (subst (λ (s : Shape). SameOutside s (region s old) (region s new)) going.shape (c.in_ok-append.ensures.outside honest));
        worn = λ is says. absurd (no_error says);
      };
      outside = λ honest. subst (λ (s : Shape). SameOutside s (region s old) (region s new)) going.shape (c.in_ok-append.ensures.outside honest);
      beside = λ fits. seal_beside store old new c.tail_block-content.result going (c.append.ensures.any_moment fits.honest (ring_ready store old going fits));
      device_calls = λ honest. let five = c.in_ok-append.ensures.device_calls honest in omega (arith, more, five);
      going =
          goes_on store _ old new going c.append.ensures.preserves refl c.append.ensures.usable c.append.ensures.shape
          (let kept = going.kept in omega (arith, kept, more)) (let room = c.requires.room in let kept = going.kept in omega (arith, room, more, kept)) (omega arith) (omega arith);
    }

pub returns-clause-holds : goal.returns-clause-holds
returns-clause-holds g c log found holds =
    let old = g.S.Site.state c.args.site.now in
    let new = g.S.Site.state c.append.new.site in
    let store = c.args.self.now in
    let wants : c.args.wanted ≡ true = search rules in
    let there = ring_finds store old c.requires.going found in
    seal_holds store old new log c.tail_block-content.result c.requires.going found holds c.requires.room (c.requires.some wants) (c.tail_block-content.ensures log.tail holds.tail) (c.append.ensures.changes found.honest).only
    c.append.ensures.preserves c.append.new.self (c.in_ok-append.ensures.ready found.honest there) c.append.ensures.shape (c.in_ok-append.ensures.outside found.honest)
    (c.in_ok-append.ensures.stands found.honest there) c.args.wanted wants c.append.new.self
