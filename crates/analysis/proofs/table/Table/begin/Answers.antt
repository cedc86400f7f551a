use Rattle.analysis.proofs.Names.{Some, refl, sym, ap, ◌∙◌, subst, arith, map, [], option_copied_mut, Open, Changes, begun, open_of, listed, Transaction}
use Rattle.analysis.proofs.Maps.{found_at, opened, written, becomes_written, put_in, begins_new, ascends}
use Rattle.analysis.proofs.Tables.{owed_replaced, owed_begun}
use Rattle.analysis.proofs.table.Table.begin.Goals as goal

pub returns-in-Some-clause-begun : goal.returns-in-Some-clause-begun
returns-in-Some-clause-begun c =
    let v : Transaction = c.in-Some.transaction.now in
    let w : Transaction = record v { last = c.args.lsn } in
    let found = sym c.get_mut.ensures.value ∙ ap option_copied_mut c.in-Some.is in
    subst (λ o. Changes (listed c.args.self.now) (map open_of (c.get_mut.follows.lender w).entries) c.args.lsn (Some (begun c.args.lsn o))) (sym (found_at c.args.self.now.transactions.entries c.args.lsn ∙ ap (opened c.args.lsn) found))
    (written c.args.self.now.transactions (c.get_mut.follows.lender w) c.args.lsn v w found (c.get_mut.follows.holds w))

pub returns-in-Some-clause-owed : goal.returns-in-Some-clause-owed
returns-in-Some-clause-owed c =
    let v : Transaction = c.in-Some.transaction.now in
    let w : Transaction = record v { last = c.args.lsn } in
    let after : Open → Open = λ x. record x { last = c.args.lsn } in
    let more = becomes_written c.args.self.now.transactions (c.get_mut.follows.lender w) c.args.lsn v w after (ascends c.args.self.now.transactions.entries c.get_mut.ensures.ordered) (sym c.get_mut.ensures.value ∙ ap option_copied_mut c.in-Some.is) (c.get_mut.follows.holds w) refl in
    omega (arith, owed_replaced (listed c.args.self.now) (map open_of (c.get_mut.follows.lender w).entries) c.args.lsn after more.replaces)

pub returns-clause-begun : goal.returns-clause-begun
returns-clause-begun c =
    begins_new c.args.self.now.transactions c.get_mut.follows.lender-at-none c.insert.new.self c.args.lsn (record { last = c.args.lsn; updates = c.new.result }) c.get_mut.follows.holds-at-none refl c.new.ensures.items
    c.insert.ensures.ordered c.in-Ok.ensures.updates (sym c.get_mut.ensures.value ∙ ap option_copied_mut c.in_default.is)

pub returns-clause-owed : goal.returns-clause-owed
returns-clause-owed c =
    let none = sym c.get_mut.ensures.value ∙ ap option_copied_mut c.in_default.is in
    omega (
      arith,
      owed_begun (listed c.args.self.now) (map open_of c.insert.new.self.entries) c.args.lsn (record { txn = c.args.lsn; last = c.args.lsn; updates = [] }) (ascends c.args.self.now.transactions.entries c.get_mut.ensures.ordered) (found_at c.args.self.now.transactions.entries c.args.lsn ∙ ap (opened c.args.lsn) none)
          (put_in c.args.self.now.transactions c.get_mut.follows.lender-at-none c.insert.new.self c.args.lsn (record { last = c.args.lsn; updates = c.new.result }) c.get_mut.follows.holds-at-none refl c.new.ensures.items c.insert.ensures.ordered c.in-Ok.ensures.updates),
    )
