use Rattle.engine.proofs.Names.{◌≡◌, Bool, true, false, refl, sym, subst, rules, arith, ap, Ok, Err, if◌then◌else◌, CommandEffect, sizes_of, LeavesTable, checkpointed_if, StepsMachine, checkpoint_works, performs_as, performs_answered, performs_failed, saves}
use Rattle.std.specs.Prelude.{[]}
use Rattle.engine.proofs.Calling.{does_nothing, does_answered, does_failed, serves_nothing, still, asks_rest}
use Rattle.engine.proofs.Performing.{performs_rest}
use Rattle.engine.proofs.engine.Engine.checkpoint_if.Goals as goal

pub returns-then-not-wanted : goal.returns-then-not-wanted
returns-then-not-wanted g c =
    let is : c.args.wanted ≡ false = search rules in
    let old = g.S.Site.state c.args.site.now in
    let pages = c.args.self.now.store.pages in
    record {
      does = λ s fits.
          subst (λ (b : Bool). CommandEffect {T = Unit {0}} (Ok tt) c.args.self.now c.args.self.now old old s (checkpointed_if b s) (LeavesTable (sizes_of c.args.self.now.store) s.table s.commits old.told) (if b then 1 else 0)) (sym is)
          (does_nothing fits c.requires.going (still fits c.requires.going));
      serves = serves_nothing c.requires.going;
      locks = refl;
      absent = λ n none. none;
      ended = search rules;
      asks = subst (λ (b : Bool). StepsMachine {T = Unit {0}} (Ok tt) (if b then checkpoint_works else []) pages pages old old) (sym is) asks_rest;
      performs = λ s fits. performs_rest (ap (λ (b : Bool). if b then saves else []) is);
    }

pub returns-in-Ok-clause-does : goal.returns-in-Ok-clause-does
returns-in-Ok-clause-does g c s fits =
    let is : c.args.wanted ≡ true = search rules in
    let old = g.S.Site.state c.args.site.now in
    subst (λ (b : Bool). CommandEffect {T = Unit {0}} (Ok tt) c.args.self.now c.carry_out_checkpoint.new.self old (g.S.Site.state c.carry_out_checkpoint.new.site) s (checkpointed_if b s) (LeavesTable (sizes_of c.args.self.now.store) s.table s.commits old.told) (if b then 1 else 0)) (sym is)
    (does_answered (c.in-Ok.ensures.does s fits))

pub returns-in-Err-clause-does : goal.returns-in-Err-clause-does
returns-in-Err-clause-does g c s fits =
    let is : c.args.wanted ≡ true = search rules in
    let old = g.S.Site.state c.args.site.now in
    subst (λ (b : Bool). CommandEffect {T = Unit {0}} (Err c.in-Err.stop) c.args.self.now (record c.carry_out_checkpoint.new.self { ended = true }) old (g.S.Site.state c.carry_out_checkpoint.new.site) s (checkpointed_if b s) (LeavesTable (sizes_of c.args.self.now.store) s.table s.commits old.told) (if b then 1 else 0)) (sym is)
    (does_failed (omega arith) (c.in-Err.ensures.does s fits))

pub returns-in-Ok-clause-performs : goal.returns-in-Ok-clause-performs
returns-in-Ok-clause-performs g c s fits =
    let is : c.args.wanted ≡ true = search rules in
    performs_as (ap (λ (b : Bool). if b then saves else []) is) (performs_answered (c.in-Ok.ensures.performs s fits))

pub returns-in-Err-clause-performs : goal.returns-in-Err-clause-performs
returns-in-Err-clause-performs g c s fits =
    let is : c.args.wanted ≡ true = search rules in
    performs_as (ap (λ (b : Bool). if b then saves else []) is) (performs_failed (c.in-Err.ensures.performs s fits))

pub returns-in-Ok-clause-asks : goal.returns-in-Ok-clause-asks
returns-in-Ok-clause-asks g c =
    let is : c.args.wanted ≡ true = search rules in
    subst (λ (b : Bool). StepsMachine {T = Unit {0}} (Ok tt) (if b then checkpoint_works else []) c.args.self.now.store.pages c.carry_out_checkpoint.new.self.store.pages (g.S.Site.state c.args.site.now) (g.S.Site.state c.carry_out_checkpoint.new.site)) (sym is)
    c.in-Ok.ensures.asks
