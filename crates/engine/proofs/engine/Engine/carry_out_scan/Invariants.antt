use Rattle.engine.proofs.Names.{map, ◌≡◌, ℕ, Some, range_with_len, Ok, KeepsUnread, CommandEffect, sizes_of, LeavesTable, Matches, with_reads, items_seen, busy_read, State, read_touch, StepsMachine, PerformsStore, reads}
use Rattle.std.specs.Prelude.{flat_map}
use Rattle.engine.proofs.engine.Engine.carry_out_scan.Given as goal

abbrev pub invariant-loop-offset : goal.invariant-loop-offset
invariant-loop-offset g l =
    let old = g.S.Site.state l.fn.site in
    let now = g.S.Site.state l.site in
    record {
      serves : KeepsUnread {T = Unit {0}} (Ok tt) l.fn.self l.self old now;
      does : (s : State) → Matches l.fn.self old s → CommandEffect {T = Unit {0}} (Ok tt) l.fn.self l.self old now s (with_reads s l.session (range_with_len l.number l.offset)) (LeavesTable (sizes_of l.fn.self.store) s.table s.commits old.told) 0;
      active : l.self.active ≡ l.fn.self.active;
      busy : (r : ℕ) → busy_read l.self.locks (Some l.session) r ≡ busy_read l.fn.self.locks (Some l.session) r;
      kept : l.self.store.log.kept ≡ l.fn.self.store.log.kept;
      items : (s : State) → Matches l.fn.self old s → l.items ≡ items_seen s l.session (range_with_len l.number l.offset);
      asks : StepsMachine {T = Unit {0}} (Ok tt) (map read_touch (range_with_len l.number l.offset)) l.fn.self.store.pages l.self.store.pages old now;
      performs : (s : State) → Matches l.fn.self old s → PerformsStore {T = Unit {0}} (Ok tt) (flat_map reads (range_with_len l.number l.offset)) l.fn.self.store l.self.store old now;
    }
