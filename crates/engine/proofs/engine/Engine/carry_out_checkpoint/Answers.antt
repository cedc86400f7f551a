use Rattle.engine.proofs.Names.{◌≤◌, ◌+◌, ◌∙◌, List, refl, sym, ap, subst, arith, ℕ, Ok, option_map, Pair, sizes_of, LeavesTable, first_block, asks_ok, MayBeMade, begins_of, blocks_to, checkpoint_works, next_answered, keeps_answered, keeps_failed, Keeps, HasCheckpoint, performs_answered, stays_honest, calls_answered, counted_from}
use Rattle.redo_laws.specs.Running.{settled}
use Rattle.std.proofs.Common.{Err}
use Rattle.engine.proofs.Keeping.{LetsGo, lets_go}
use Rattle.engine.proofs.Checkpoints.{may_be_made, goes_on, fits_after}
use Rattle.engine.proofs.Calling.{does_of}
use Rattle.redo_laws.specs.Holding as both
use Rattle.engine.proofs.engine.Engine.carry_out_checkpoint.Goals as goal

pub checkpoint-requires-clause-first : goal.checkpoint-requires-clause-first
checkpoint-requires-clause-first g c =
    let go = subst (LetsGo c.args.self.now) (sym c.unwrap_or-first.ensures) (lets_go c.args.self.now (g.S.Site.state c.args.site.now) c.oldest_born.result c.requires.going c.oldest_born.ensures) in
    go.made

pub checkpoint-requires-clause-begun : goal.checkpoint-requires-clause-begun
checkpoint-requires-clause-begun g c =
    let engine = c.args.self.now in
    let go = subst (LetsGo engine) (sym c.unwrap_or-first.ensures) (lets_go engine (g.S.Site.state c.args.site.now) c.oldest_born.result c.requires.going c.oldest_born.ensures) in
    subst (λ (ps : List Pair). first_block (blocks_to engine.store.log) (begins_of ps) ≤ blocks_to engine.store.log) (sym c.named-named.ensures.named) go.begun

pub checkpoint-requires-clause-enough : goal.checkpoint-requires-clause-enough
checkpoint-requires-clause-enough g c =
    let engine = c.args.self.now in
    let go = subst (LetsGo engine) (sym c.unwrap_or-first.ensures) (lets_go engine (g.S.Site.state c.args.site.now) c.oldest_born.result c.requires.going c.oldest_born.ensures) in
    subst (λ (ps : List Pair). blocks_to engine.store.log + c.unwrap_or-first.result ≤ first_block (blocks_to engine.store.log) (begins_of ps) + engine.store.made) (sym c.named-named.ensures.named) go.enough

pub count_from-requires : goal.count_from-requires
count_from-requires g c =
    let go = subst (LetsGo c.args.self.now) (sym c.unwrap_or-first.ensures) (lets_go c.args.self.now (g.S.Site.state c.args.site.now) c.oldest_born.result c.requires.going c.oldest_born.ensures) in
    record { born = go.early }

pub returns-in-Ok : goal.returns-in-Ok
returns-in-Ok g c =
    let engine = c.args.self.now in
    let old = g.S.Site.state c.args.site.now in
    let new = g.S.Site.state c.checkpoint.new.site in
    let go = subst (LetsGo engine) (sym c.unwrap_or-first.ensures) (lets_go engine old c.oldest_born.result c.requires.going c.oldest_born.ensures) in
    record {
      locks = refl;
      absent = λ n none. c.count_from.ensures.entries n ∙ ap (option_map (counted_from c.unwrap_or-first.result)) none;
      does = λ s fits.
          let holds = subst (λ (n : ℕ). both.Represents engine.store.log engine.store.pages old fits.newest fits.records (settled s.table n)) (sym fits.counts.commits) fits.holds.both in
          let may = subst (MayBeMade engine.store.masters old fits.records) (sym c.named-named.ensures.named) (may_be_made engine old s fits c.requires.going.table) in
          let made = c.in-Ok.ensures.checkpoint fits.newest fits.records s.table holds may in
          let has = subst (λ (n : ℕ). HasCheckpoint c.checkpoint.new.self new fits.records s.table n c.named-named.result) fits.counts.commits made in
          does_of (omega arith)
          (fits_after engine _ old new s c.unwrap_or-first.result fits c.requires.going.table go (stays_honest old new c.checkpoint.ensures.calls.preserves fits.honest)
          (subst (HasCheckpoint c.checkpoint.new.self new fits.records s.table s.commits) c.named-named.ensures.named has) c.count_from.ensures.entries c.count_from.ensures.owed c.in-Ok.ensures.made refl refl refl refl)
          (keeps_answered (subst (λ (n : ℕ). Keeps {T = Unit {0}} (Ok c.in-Ok.field-0) engine.store c.checkpoint.new.self old new (LeavesTable (sizes_of engine.store) s.table n old.told) 0 1) fits.counts.commits (c.in-Ok.ensures.keeps fits.newest fits.records s.table holds may)));
      serves =
          record {
            keeps = record {
              calls = calls_answered c.in-Ok.ensures.calls;
              going = goes_on engine _ old new c.unwrap_or-first.result c.requires.going go c.in-Ok.ensures.going c.requires.going.going refl c.checkpoint.ensures.sizes c.count_from.ensures.table
                  c.count_from.ensures.entries c.count_from.ensures.owed c.in-Ok.ensures.made c.in-Ok.ensures.blocks c.in-Ok.ensures.kept c.in-Ok.ensures.end
                  refl c.requires.going.footprints;
              sizes = c.checkpoint.ensures.sizes;
              stops = tt;
              next = λ honest. next_answered (c.in-Ok.ensures.next honest);
            };
            log_reads = c.checkpoint.ensures.log_reads;
          };
      asks = asks_ok c.in-Ok.field-0 _ checkpoint_works _ _ _ _ c.in-Ok.ensures.asks;
      performs = λ s fits.
          performs_answered (c.in-Ok.ensures.performs fits.newest fits.records s.table (subst (λ (n : ℕ). both.Represents engine.store.log engine.store.pages old fits.newest fits.records (settled s.table n)) (sym fits.counts.commits) fits.holds.both));
    }

pub returns-in-Err-clause-does : goal.returns-in-Err-clause-does
returns-in-Err-clause-does g c s fits =
    let engine = c.args.self.now in
    let old = g.S.Site.state c.args.site.now in
    let new = g.S.Site.state c.checkpoint.new.site in
    let holds = subst (λ (n : ℕ). both.Represents engine.store.log engine.store.pages old fits.newest fits.records (settled s.table n)) (sym fits.counts.commits) fits.holds.both in
    let may = subst (MayBeMade engine.store.masters old fits.records) (sym c.named-named.ensures.named) (may_be_made engine old s fits c.requires.going.table) in
    does_of (omega arith) tt
    (keeps_failed (subst (λ (n : ℕ). Keeps {T = Unit {0}} (Err c.in-Err.stop) engine.store c.checkpoint.new.self old new (LeavesTable (sizes_of engine.store) s.table n old.told) 0 1) fits.counts.commits (c.in-Err.ensures.keeps fits.newest fits.records s.table holds may)))

pub returns-in-Err-clause-performs : goal.returns-in-Err-clause-performs
returns-in-Err-clause-performs g c s fits =
    let engine = c.args.self.now in
    let old = g.S.Site.state c.args.site.now in
    c.in-Err.ensures.performs fits.newest fits.records s.table (subst (λ (n : ℕ). both.Represents engine.store.log engine.store.pages old fits.newest fits.records (settled s.table n)) (sym fits.counts.commits) fits.holds.both)
