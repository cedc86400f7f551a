use Rattle.image_check.proofs.Names.{◌≡◌, ◌/◌, ℕ, nat_eq, nat_le, false, Option, Some, None, cond, sym, ap, ◌∙◌, arith, nat_tests, slice_get, get, goes_well, Entry, number_of, Content}
use Rattle.image_check.proofs.ShownOnes.{is_known, expected_same, expected_more, on_none, on_unknown}
use Rattle.image_check.proofs.showing.Expected.hear.Goals as goal

pub returns-in_default : goal.returns-in_default
returns-in_default c = goes_well (λ records is.
    let e : Entry = record { lsn = c.args.lsn; rec = c.args.rec } in
    expected_same c.args.lsns.now records e c.args.self.now.contents (on_none c.args.lsns.now e (sym c.number_of.ensures ∙ c.in_default.is)) is)

pub returns-in_default-lsn_for : goal.returns-in_default-lsn_for
returns-in_default-lsn_for c = goes_well (λ records is.
    let e : Entry = record { lsn = c.args.lsn; rec = c.args.rec } in
    let on : number_of c.args.rec ≡ Some c.in-Some.number = sym c.number_of.ensures ∙ c.in-Some.is in
    let none : slice_get c.args.lsns.now (c.in-Some.number / 32) ≡ None = sym c.lsn_for.ensures ∙ c.in_default-lsn_for.is in
    expected_same c.args.lsns.now records e c.args.self.now.contents (on_unknown c.args.lsns.now e c.in-Some.number on (ap (λ (o : Option ℕ). is_known o c.args.lsn) none)) is)

pub returns-then-lsn-known : goal.returns-then-lsn-known
returns-then-lsn-known c = goes_well (λ records is.
    let e : Entry = record { lsn = c.args.lsn; rec = c.args.rec } in
    let on : number_of c.args.rec ≡ Some c.in-Some.number = sym c.number_of.ensures ∙ c.in-Some.is in
    let at : slice_get c.args.lsns.now (c.in-Some.number / 32) ≡ Some c.in-Some-lsn_for.known = sym c.lsn_for.ensures ∙ c.in-Some-lsn_for.is in
    let later = c.if-lsn-known.true in
    let off : nat_le c.args.lsn c.in-Some-lsn_for.known ≡ false = grind (arith, nat_tests, later) in
    expected_same c.args.lsns.now records e c.args.self.now.contents (on_unknown c.args.lsns.now e c.in-Some.number on (ap (λ (o : Option ℕ). is_known o c.args.lsn) at ∙ off)) is)

pub returns : goal.returns
returns c = goes_well (λ records is.
    let e : Entry = record { lsn = c.args.lsn; rec = c.args.rec } in
    let m : ℕ = c.in-Some.number in
    let on : number_of c.args.rec ≡ Some m = sym c.number_of.ensures ∙ c.in-Some.is in
    let at : slice_get c.args.lsns.now (m / 32) ≡ Some c.in-Some-lsn_for.known = sym c.lsn_for.ensures ∙ c.in-Some-lsn_for.is in
    let low = c.if-lsn-known.false in
    expected_more c.args.lsns.now records e m c.in-Some-lsn_for.known c.args.self.now.contents c.insert.new.self on at (omega (arith, low))
    (λ number. c.in-Ok.ensures.updates.0 number ∙ ap (λ (o : Content). cond (nat_eq m number) (Some o) (get nat_eq c.args.self.now.contents number)) c.after_of.ensures) is)
