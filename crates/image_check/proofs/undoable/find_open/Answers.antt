use Rattle.image_check.proofs.Names.{rules, ◌≡◌, ◌==◌, ◌&&◌, ℕ, Bool, true, false, true≢false, not, nat_eq, cond, refl, sym, ap, ◌∙◌, and_parts, not-true, err_from_is_err_and, is_some, records_of, get, Entry, txn_of, is_closed, is_closing, looks_then, looks_failed, and_true}
use Rattle.image_check.proofs.StrayOnes.{closing_more}
use Rattle.image_check.proofs.Walking.{walk_begins, walk_goes_on, judged_end, walk_few}
use Rattle.image_check.proofs.undoable.find_open.Goals as goal

pub loop-strays-init : goal.loop-strays-init
loop-strays-init g c = walk_begins c.requires c.start-walk.ensures.walk c.start-walk.ensures.first c.start-walk.ensures.stands _ (λ blocks sees t. sym (and_true (is_some (get nat_eq c.args.strays.txns t)))) (search rules)

pub returns-in_err-lsn : goal.returns-in_err-lsn
returns-in_err-lsn g c =
    let p = err_from_is_err_and c.from_residual.result c.from_residual.ensures.1 in
    let now = g.S.Site.state c.loop-strays.site in
    record { says = search rules; reads = rw (p.1, p.2) (looks_then tt _ _ now _ c.loop-strays.invariant.reads (looks_failed c.in_err-lsn.field-0.0 now _ c.in_err-lsn.ensures.reads)); few = walk_few c.loop-strays.invariant c.in_err-lsn.ensures.ends }

stays : (q k b : Bool) → k ≡ false → b ≡ cond (q && k) false b
stays q k b off = by q ∙ ap (λ (x : Bool). cond (q && x) false b) (sym off)
  where
    by : (p : Bool) → b ≡ cond (p && false) false b
    by true = refl
    by false = refl

pub loop-strays-preserved-then-closes : goal.loop-strays-preserved-then-closes
loop-strays-preserved-then-closes g c = walk_goes_on c.loop-strays.invariant c.in_ok-lsn.field-0 c.next.new.self c.in_ok-lsn.ensures.next c.in-Some.lsn c.in-Some.rec c.in-Some.is c.in_ok-lsn.ensures.walk c.in_ok-lsn.ensures.reads c.in_ok-lsn.ensures.few c.in_ok-lsn.ensures.ends _ (λ blocks sees at t.
    let e : Entry = record { lsn = c.in-Some.lsn; rec = c.in-Some.rec } in
    let some : Bool = is_some (get nat_eq c.args.strays.txns t) in
    let left : Bool = some && not (is_closed at.front t) in
    let closing : is_closing e.rec ≡ true = sym c.closes.ensures ∙ c.if-closes.true in
    c.close.ensures t
    ∙ (λ i. cond (c.txn_of.ensures i == t) false (at.holds t i))
    ∙ ap (λ (b : Bool). cond b false left) (sym (and_true (txn_of e == t)))
    ∙ ap (λ (k : Bool). cond (txn_of e == t && k) false left) (sym closing)
    ∙ closing_more at.front e t some)

pub loop-strays-preserved : goal.loop-strays-preserved
loop-strays-preserved g c = walk_goes_on c.loop-strays.invariant c.in_ok-lsn.field-0 c.next.new.self c.in_ok-lsn.ensures.next c.in-Some.lsn c.in-Some.rec c.in-Some.is c.in_ok-lsn.ensures.walk c.in_ok-lsn.ensures.reads c.in_ok-lsn.ensures.few c.in_ok-lsn.ensures.ends _ (λ blocks sees at t.
    let e : Entry = record { lsn = c.in-Some.lsn; rec = c.in-Some.rec } in
    let some : Bool = is_some (get nat_eq c.args.strays.txns t) in
    at.holds t ∙ stays (txn_of e == t) (is_closing e.rec) (some && not (is_closed at.front t)) (sym c.closes.ensures ∙ c.if-closes.false) ∙ closing_more at.front e t some)

pub returns-in-Some-first : goal.returns-in-Some-first
returns-in-Some-first g c = judged_end c.loop-strays.invariant c.in_ok-lsn.field-0 c.next.new.self c.in_ok-lsn.ensures.next _ _ c.in_default.is c.in_ok-lsn.ensures.reads c.in_ok-lsn.ensures.ends (λ blocks sees all. (
  λ wrong. absurd (true≢false (sym wrong)),
  λ closed.
      let t : ℕ = c.in-Some-first.txn in
      let log = records_of c.args.found.now blocks in
      let both = and_parts (is_some (get nat_eq c.args.strays.txns t)) (not (is_closed log t)) (sym (all t) ∙ c.in-Some-first.ensures.one) in
      absurd (true≢false (sym (closed t both.0) ∙ not-true (is_closed log t) both.1)),
))

pub returns : goal.returns
returns g c = judged_end c.loop-strays.invariant c.in_ok-lsn.field-0 c.next.new.self c.in_ok-lsn.ensures.next _ _ c.in_default.is c.in_ok-lsn.ensures.reads c.in_ok-lsn.ensures.ends (λ blocks sees all. (
  λ there t some.
      closed_there (is_closed (records_of c.args.found.now blocks) t) (ap (λ (b : Bool). b && not (is_closed (records_of c.args.found.now blocks) t)) (sym some) ∙ sym (all t) ∙ c.in-None.ensures.none t),
  λ closed. refl,
))
  where
    closed_there : (b : Bool) → (true && not b) ≡ false → b ≡ true
    closed_there true h = refl
    closed_there false h = absurd (true≢false h)
