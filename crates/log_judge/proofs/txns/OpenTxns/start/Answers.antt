use Rattle.log_judge.proofs.Names.{◌≡◌, ◌==◌, ◌||◌, Bool, true, false, cond, List, take, refl, sym, ap, ◌∙◌, arith, take_all, list_any_more, get_or_from_slice_get, list_any, seen, Pair}
use Rattle.log_judge.proofs.OpenOnes.{open_first}
use Rattle.log_judge.proofs.Outcomes.{goes_well}
use Rattle.log_judge.proofs.txns.OpenTxns.start.Goals as goal

pub loop-place-preserved : goal.loop-place-preserved
loop-place-preserved c = λ t.
    let a : Pair = record { begin = c.at-begin.result.0; last = c.at-begin.result.1 } in
    let named : List Pair = c.args.master.now.active in
    c.in-Ok.ensures.held t
    ∙ ap (λ (b : Bool). cond (a.begin == t) true b) (c.loop-place.invariant t)
    ∙ by (a.begin == t) (list_any (λ (pair : Pair). pair.begin == t) (take c.loop-place.place named))
    ∙ ap (λ (pair : Pair). list_any (λ (p : Pair). p.begin == t) (take c.loop-place.place named) || (pair.begin == t)) (sym (get_or_from_slice_get named c.loop-place.place a a c.at-begin.ensures))
    ∙ sym (list_any_more (λ (pair : Pair). pair.begin == t) named c.loop-place.place a (omega (arith, c.loop-place-test.true, c.len-place-end.ensures.len)))
  where
    by : (q b : Bool) → cond q true b ≡ (b || q)
    by true true = refl
    by true false = refl
    by false true = refl
    by false false = refl

pub returns : goal.returns
returns c =
    let named : List Pair = c.args.master.now.active in
    let all : take c.loop-place.place named ≡ named = take_all c.loop-place.place named (omega (arith, c.len-place-end.ensures.len, c.loop-place-test.false)) in
    goes_well (open_first (seen c.args.master.now) named c.loop-place.txns refl (λ t. c.loop-place.invariant t ∙ ap (list_any (λ (pair : Pair). pair.begin == t)) all))
