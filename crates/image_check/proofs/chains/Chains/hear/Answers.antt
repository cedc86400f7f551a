use Rattle.image_check.proofs.Names.{◌≡◌, ◌⊎◌, ◌==◌, inl, inr, Bool, true, false, ℕ, nat_eq, cond, drop, Option, Some, None, List, refl, sym, ap, ◌∙◌, subst, Keeps, HearsOwn, Chain, Chains, get, goes_well, memory_as, Entry, txn_of, entries_of}
use Rattle.image_check.proofs.StrayOnes.{chains_begin, chains_go_on, chains_break}
use Rattle.image_check.proofs.chains.Chains.hear.Goals.{In-Ok}
use Rattle.image_check.proofs.chains.Chains.hear.Goals as goal

module _ (c : In-Ok) (records : List Entry) where
  abbrev e : Entry
  e = record { lsn = c.args.lsn; rec = c.args.rec }

  hears : Keeps (txn_of e) (get nat_eq c.args.self.now.chains (txn_of e)) (drop 1 (entries_of (txn_of e) records)) → HearsOwn (txn_of e) c.hear.new.self records e c.in-Ok.goes_on
  hears = subst (λ (n : ℕ). Keeps n (get nat_eq c.args.self.now.chains n) (drop 1 (entries_of n records)) → HearsOwn n c.hear.new.self records e c.in-Ok.goes_on) c.txn_of-txn.ensures
      (λ keeps. c.in-Ok.ensures.done records (c.take-chain.ensures.taken (drop 1 (entries_of c.txn_of-txn.result records)) keeps))

  others : (t : ℕ) → get nat_eq c.take-chain.new.self.chains t ≡ cond (txn_of e == t) None (get nat_eq c.args.self.now.chains t)
  others t = c.take-chain.ensures.others t ∙ ap (λ (n : ℕ). cond (n == t) None (get nat_eq c.args.self.now.chains t)) c.txn_of-txn.ensures

pub returns-then-lsn-txn : goal.returns-then-lsn-txn
returns-then-lsn-txn c = goes_well (λ log records at own is.
    chains_begin log records (record { lsn = c.args.lsn; rec = c.args.rec }) at c.args.self.now (c.if-lsn-txn.true ∙ c.txn_of-txn.ensures) is)

put_back : (q : Bool) (x : Chain) (o : Option Chain) → cond q (Some x) (cond q None o) ≡ cond q (Some x) o
put_back true x o = refl
put_back false x o = refl

pub returns-then-not-goes_on : goal.returns-then-not-goes_on
returns-then-not-goes_on c = goes_well (λ log records at own is.
    let place : In-Ok = (goal.at.returns-then-not-goes_on c).In-Ok in
    let one : Entry = record { lsn = c.args.lsn; rec = c.args.rec } in
    let old : Chains = c.args.self.now in
    let new : Chains = record { alloc = c.take-chain.new.self.alloc; chains = c.take-chain.new.self.chains; broken = Some c.lesser.result } in
    let which : (c.lesser.result ≡ txn_of one) ⊎ (old.broken ≡ Some c.lesser.result) = elim c.lesser.ensures [
      | inl same ↦ inl (same ∙ c.txn_of-txn.ensures)
      | inr before ↦ inr (sym c.take-chain.ensures.broken ∙ before)
    ] in
    chains_break log records one at old new c.hear.new.self c.in-Ok.goes_on own is (hears place records) c.if-not-goes_on.true (others place records) c.lesser.result which refl)

pub returns : goal.returns
returns c = memory_as c.put.result (λ x put log records at own is.
    let place : In-Ok = (goal.at.returns c).In-Ok in
    let one : Entry = record { lsn = c.args.lsn; rec = c.args.rec } in
    let old : Chains = c.args.self.now in
    chains_go_on log records one at old c.put.new.self c.hear.new.self c.in-Ok.goes_on own is (hears place records) c.if-not-goes_on.false
    (λ t. put.0 t ∙ (λ i. cond (c.txn_of-txn.ensures i == t) (Some c.hear.new.self) (others place records t i)) ∙ put_back (txn_of one == t) c.hear.new.self (get nat_eq old.chains t))
    (put.1 ∙ c.take-chain.ensures.broken)) c.put.ensures
