use Rattle.log_judge.proofs.Names.{◌≡◌, ◌==◌, ℕ, Bool, true, false, true≢false, cond, nat_eq, Option, Some, None, sym, ap, ◌∙◌, refl, option_map, contains, Kept, kept_by, kept_of, Entry}
use Rattle.log_judge.proofs.ChainSteps.{chains_unknown, chains_break, chains_go_on, kept_there}
use Rattle.log_judge.proofs.Outcomes.{goes_well, memory_as}
use Rattle.log_judge.proofs.chains.Chains.go_on.Goals as goal

pub returns-in_default : goal.returns-in_default
returns-in_default c = goes_well (λ records own old goes_on is.
    let e : Entry = record { lsn = c.args.lsn; rec = c.args.rec.now } in
    chains_unknown records e c.args.self.now c.take.new.self old goes_on is
    (ap (kept_of c.args.self.now) (sym own) ∙ sym c.take.ensures.taken ∙ ap (option_map kept_by) c.in_default.is)
    (λ s. c.take.ensures.others s ∙ ap (λ n. cond (n == s) None (kept_of c.args.self.now s)) own) c.take.ensures.broken)

pub returns-then-not-continues : goal.returns-then-not-continues
returns-then-not-continues c = memory_as c.breaks.result (λ x marks records own old goes_on is.
    let e : Entry = record { lsn = c.args.lsn; rec = c.args.rec.now } in
    let there = ap (kept_of c.args.self.now) (sym own) ∙ sym c.take.ensures.taken ∙ ap (option_map kept_by) c.in-Some.is in
    let kept = (kept_there records e c.args.self.now c.breaks.new.self old goes_on is (kept_by c.in-Some.chain) there).2 in
    chains_break records e c.args.self.now c.breaks.new.self old goes_on is (kept_by c.in-Some.chain) there
    (λ goes. true≢false (sym ((c.continues.ensures _ _ c.args.lsn kept).1 goes) ∙ c.if-not-continues.true))
    (λ s. marks.1 s ∙ c.take.ensures.others s ∙ ap (λ n. cond (n == s) None (kept_of c.args.self.now s)) own)
    (λ s. marks.0 s ∙ (λ i. cond (own i == s) true (contains nat_eq (c.take.ensures.broken i) s)))) c.breaks.ensures

put_back : (q : Bool) (x : Kept) (o : Option Kept) → cond q (Some x) (cond q None o) ≡ cond q (Some x) o
put_back true x o = refl
put_back false x o = refl

pub returns : goal.returns
returns c = memory_as c.put.result (λ x put records own old goes_on is.
    let e : Entry = record { lsn = c.args.lsn; rec = c.args.rec.now } in
    let there = ap (kept_of c.args.self.now) (sym own) ∙ sym c.take.ensures.taken ∙ ap (option_map kept_by) c.in-Some.is in
    let kept = (kept_there records e c.args.self.now c.put.new.self old goes_on is (kept_by c.in-Some.chain) there).2 in
    chains_go_on records e c.args.self.now c.put.new.self old goes_on is (kept_by c.in-Some.chain) there (kept_by c.add.new.self)
    (c.in_default-add.ensures.done _ _ kept ((c.continues.ensures _ _ c.args.lsn kept).0 c.if-not-continues.false))
    (λ s. put.0 s ∙ ap (λ (o : Option Kept). cond (c.args.txn == s) (Some (kept_by c.add.new.self)) o) (c.take.ensures.others s) ∙ put_back (c.args.txn == s) (kept_by c.add.new.self) (kept_of c.args.self.now s)
    ∙ ap (λ (n : ℕ). cond (n == s) (Some (kept_by c.add.new.self)) (kept_of c.args.self.now s)) own) (put.1 ∙ c.take.ensures.broken)) c.put.ensures
