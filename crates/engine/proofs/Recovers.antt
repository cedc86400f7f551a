-- What redo, undo and a checkpoint make of an opened log.
use Rattle.redo_laws.proofs.Runs.{means_settled}
use Rattle.redo_laws.specs.Running.{settled}
use Rattle.engine.proofs.Names.{Option, Some, ◌≡◌, inr, ℕ, ◌+◌, ◌-◌, ◌*◌, ◌^◌, ◌≤◌, min, Bool, true, false, List, [], length, refl, sym, ap, subst, ◌∙◌, arith, true≢false, min-eq_left, Err, owed_for, listed, Master, Pair, IsSound, log_under, IsReady, RestartedAs, Restarts, Opened, Restarted, next_block_is, logical_image_under, next_block_under, master_of, Entry, is_loser, commit_numbers, from_block, owed, LogRecord, has_tail, LogStore, MayStop, PageStore, Content, tail_blocks, MayBeMade, blocks_to, HasCheckpoint, Finds, Ring, Site as State, Image, Calls, Geometry, Stop}
use Rattle.std.proofs.Common.{nat_lt}
use Rattle.analysis.specs.declared.analysis.Analysis.{Analysis}
use Rattle.analysis.specs.Read.{IsTable, IsAnalysis}
use Rattle.analysis.specs.Taken.{taken, TakenCommits}
use Rattle.analysis.specs.Laws.{OneTable, TableOfUnfinished, OwedOfUnfinished}
use Rattle.redo_laws.specs.Holding.{Represents}

-- a log that has as many blocks, and had no tail, has none still
pub no_tail_still : (log log' : LogStore) → log.used ≡ 2 → blocks_to log' ≡ blocks_to log → log.ring.hi ≤ log'.ring.hi → has_tail log' ≡ false
no_tail_still log log' empty same more = by (has_tail log') refl
  where
    none : tail_blocks (has_tail log) ≡ 0
    none = ap tail_blocks (ap (nat_lt 2) empty)

    by : (b : Bool) → has_tail log' ≡ b → has_tail log' ≡ false
    by false is = is
    by true is =
        let one : tail_blocks (has_tail log') ≡ 1 = ap tail_blocks is in
        absurd (omega (arith, same, more, none, one))

-- what analysis owes is what the records owe
pub owed_found : OneTable → TableOfUnfinished → OwedOfUnfinished → (newest : Option Master) (g : Geometry) (image : Image) (blocks : List (List LogRecord)) (found : Analysis) → IsSound newest g image blocks → IsTable [] (log_under newest blocks) (listed found.table) →
    owed_for (listed found.table) ≡ owed (log_under newest blocks)
owed_found one unfinished all newest g image blocks found sound read =
    let log = log_under newest blocks in
    let p = logical_image_under newest g image blocks in
    ap owed_for (one [] log (listed found.table) _ read (unfinished [] log (512 * p.master.kept) (512 * p.hi) tt sound.records.in_order)) ∙ all [] log

-- the blocks of an opened log are those of the ring
pub next_of : (opened : Opened) (site : State) (newest : Option Master) (blocks : List (List LogRecord)) (table : List Content) (commits : ℕ) → IsReady opened site newest blocks table commits →
    opened.log.ring.hi ≡ next_block_under newest blocks
next_of opened site newest blocks table commits h =
    omega (arith, h.opened_is.ready.blocks.hi, h.opened_is.ready.records.blocks.next, next_block_is newest blocks)

-- and it keeps these
pub kept_of : (opened : Opened) (site : State) (newest : Option Master) (blocks : List (List LogRecord)) (table : List Content) (commits : ℕ) → IsReady opened site newest blocks table commits →
    opened.log.ring.hi - opened.log.kept ≡ length blocks
kept_of opened site newest blocks table commits h = omega (arith, h.opened_is.ready.blocks.hi, h.opened_is.ready.records.blocks.next, h.opened_is.kept)

-- the commits that it stands for are no more than the octets of the sealed blocks
pub few_commits : (opened : Opened) (site : State) (newest : Option Master) (blocks : List (List LogRecord)) (table : List Content) (commits : ℕ) → IsReady opened site newest blocks table commits → commits ≤ 512 * opened.log.ring.hi
few_commits opened site newest blocks table commits h =
    omega (arith, h.opened_is.means.count_is, h.opened_is.sound.records.commits.fit, next_of opened site newest blocks table commits h)

-- so it is of a log and pages that hold together
pub commits_fit : (log : LogStore) (pages : PageStore) (site : State) (newest : Option Master) (records : List Entry) (table : List Content) (commits : ℕ) → Represents log pages site newest records (settled table commits) → commits ≤ 512 * log.ring.hi
commits_fit log pages site newest records table commits h =
    let held = h.log_holds in
    let last = next_block_is newest held.blocks in
    let means = means_settled (logical_image_under newest pages.flash.geometry site.image held.blocks) held.tail records table commits held.runs_on in
    omega (arith, means.count_is, held.runs_on.carries.sound.commits.fit, held.ready.blocks.hi, held.ready.records.blocks.next, last)

-- analysis counts them
pub commits_found : TakenCommits → (opened : Opened) (site : State) (newest : Option Master) (blocks : List (List LogRecord)) (table : List Content) (commits : ℕ) (found : Analysis) → IsReady opened site newest blocks table commits →
    IsAnalysis (master_of newest) (taken (logical_image_under newest opened.pages.flash.geometry site.image blocks)) found → opened.log.ring.hi ≤ 2 ^ 40 → found.commits ≡ commits
commits_found law opened site newest blocks table commits found h read bounded =
    let p = logical_image_under newest opened.pages.flash.geometry site.image blocks in
    let few = few_commits opened site newest blocks table commits h in
    let count = h.opened_is.means.count_is in
    let all = law p h.opened_is.sound.records in
    let is : found.commits ≡ min (p.master.commits + length (commit_numbers (taken p))) (2 ^ 64 - 1) = read.commits in
    let least : min (p.master.commits + length (commit_numbers (taken p))) (2 ^ 64 - 1) ≡ p.master.commits + length (commit_numbers (taken p)) = min-eq_left (omega (arith, few, count, all, bounded)) in
    omega (arith, is, least, count, all)

-- where nothing is unfinished, a checkpoint that names no transaction may be made
pub may_be_made : (masters : Ring) (site : State) (records : List Entry) (active : List Pair) → Finds masters site → ((t : ℕ) → is_loser records t ≡ false) → active ≡ [] → MayBeMade masters site records active
may_be_made masters site records active ring none empty = subst (MayBeMade masters site records) (sym empty) (record {
  ring = ring;
  unfinished = record { each = tt; all = λ t loser. absurd (true≢false (sym loser ∙ none t)) };
  orderly = inr refl;
})

-- what is left under it is what the records of before stood for, and no record counts
pub restarted_as : (restarted : Restarted) (new : State) (records : List Entry) (table : List Content) (commits made : ℕ) → ((t : ℕ) → is_loser records t ≡ false) → HasCheckpoint restarted.store new records table commits [] →
    restarted.store.made + made ≡ made → restarted.commits ≡ commits → RestartedAs restarted new table commits
restarted_as restarted new records table commits made none checkpoint least are = record {
  newest = Some checkpoint.master;
  records = from_block checkpoint.master.kept records;
  holds = checkpoint.holds;
  finished = λ t. checkpoint.keeps.losers t ∙ none t;
  made = omega (arith, least);
  commits_are = are;
}

-- a restart that stops
pub restarts_stopped : {stop : Stop} {size : ℕ} {before now : State} → Calls {T = Restarted} (Err stop) before now → MayStop stop → Restarts (Err stop) size before now
restarts_stopped calls stops = record { calls = calls; going = tt; blocks = tt; room = tt; commits = tt; made = tt; pool = tt; stops = stops }
