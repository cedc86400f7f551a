use Rattle.log_judge.proofs.Names.{true≢false, length, sym, ap, arith, Pair}
use Rattle.log_judge.proofs.LeftOnes.{named_more, named_not}
use Rattle.log_judge.proofs.unfinished.LeftTxns.are_those.Goals as goal

pub returns-then-begin-txn : goal.returns-then-begin-txn
returns-then-begin-txn c = (
  λ wrong. absurd (true≢false (sym wrong)),
  λ whole. absurd (named_not c.loop-txn.txn-iterator c.next.new.self c.args.self.now.left.entries (c.in-Some.txn.now, c.in-Some.left.now) c.args.master.now.active c.loop-txn.place
      (record { begin = c.at-begin.result.0; last = c.at-begin.result.1 }) c.in-Some.ensures.steps c.loop-txn.invariant.len c.at-begin.ensures c.loop-txn.invariant.same
      (λ same. c.if-begin-txn.true (sym (ap (λ (p : Pair). p.begin) same))) whole),
)

pub returns-then-last-left : goal.returns-then-last-left
returns-then-last-left c = (
  λ wrong. absurd (true≢false (sym wrong)),
  λ whole. absurd (named_not c.loop-txn.txn-iterator c.next.new.self c.args.self.now.left.entries (c.in-Some.txn.now, c.in-Some.left.now) c.args.master.now.active c.loop-txn.place
      (record { begin = c.at-begin.result.0; last = c.at-begin.result.1 }) c.in-Some.ensures.steps c.loop-txn.invariant.len c.at-begin.ensures c.loop-txn.invariant.same
      (λ same. c.if-last-left.true (sym (ap (λ (p : Pair). p.last) same))) whole),
)

pub loop-txn-preserved : goal.loop-txn-preserved
loop-txn-preserved c =
    let len = c.loop-txn.invariant.len in
    let long = ap length c.in-Some.ensures.steps in
    record {
      same = named_more c.loop-txn.txn-iterator c.next.new.self c.args.self.now.left.entries (c.in-Some.txn.now, c.in-Some.left.now) c.args.master.now.active c.loop-txn.place
          (record { begin = c.at-begin.result.0; last = c.at-begin.result.1 }) c.in-Some.ensures.steps len c.at-begin.ensures c.loop-txn.invariant.same
          (λ i. record { begin = sym c.if-begin-txn.false i; last = sym c.if-last-left.false i });
      len = omega (arith, len, long);
    }
