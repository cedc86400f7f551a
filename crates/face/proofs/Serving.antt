-- What a run asks of the devices, one line after the other.
use Rattle.face.proofs.Names.{◌≡◌, ℕ, suc, ◌+◌, ◌≤◌, List, [], ◌∷◌, ◌++◌, drop, IsErrOf, OnOk, refl, sym, ◌∙◌, ap, subst, arith, Option, Result, Ok, Err, Some, ⊤, Master, IsSound, log_under, Invariant, sizes_of, QueueIsOnFlash, HasStagedFrom, WritesFrom, cache_on, Matches, machine_on, WhereItFits, Engine, CarriesOut, DoesLine, HasDone, AsksFew, Run, answered, first_lines, listing_at, state_at, turns_of, HasServed, IsPaged, AsksNoMore, GivesNumbers, Demands, asked_after, log_reads_after, IsMirrored, WearsNone, WearsNoneBefore, rings_by, worn_by, start_reads, HearsOnly, Halt, LogRecord, calls_then, cache_of, rules, HasQueueOn, Line, State, CacheOp, line_touches, ops_compose, reads_add_up, ReadsFor, MirrorsStore, performs_as, performs_by, performs_then, first_then, line_work, RingOp, after_all, first_worn, Performs, Rules, after_works, rules_of, Cache, ok_as, Preserves, Site, Image, Geometry, Dev, Worn}
use Rattle.face.proofs.CallCounts.{calls_heard}
use Rattle.face.proofs.Counted.{counts_next, next_counted}
use Rattle.face.proofs.Demanded.{demands_err, demands_ok}
use Rattle.face.proofs.Logs.{goes_on, still_fits}
use Rattle.face.proofs.Pagings.{after_same, asked_next, few_heard, log_reads_next, paged_queue, paged_versions}
use Rattle.face.proofs.Runs.{below, state_next}
use Rattle.face.proofs.WornFronts.{none_first}
use Rattle.face.proofs.WornRuns.{none_mirrored, rings_left, rings_next}
use Rattle.face.proofs.Writings.{engine_queue, images_heard, last_heard, last_works, writes_then}
use Rattle.front_end.specs.declared.halt.Halt.TheVariants as halt

-- where the page cache and the machine of the rings have done the work of so many lines, the devices have it
pub done_by : (pool : ℕ) (run : Run) (entry mid : Site) (engine : Engine) (i : ℕ) → QueueIsOnFlash → WhereItFits → Matches engine mid (state_at run i) → Invariant engine mid → sizes_of engine.store ≡ run.geometry
    → ((newest : Option Master) (blocks : List (List LogRecord)) → IsSound newest run.geometry entry.image blocks → IsPaged pool run newest entry.image blocks engine i)
    → ((newest : Option Master) (blocks : List (List LogRecord)) → IsSound newest run.geometry entry.image blocks → IsMirrored pool run newest entry.image blocks engine mid i) → AsksNoMore pool (first_lines run i) entry mid → HasDone pool (first_lines run i) entry.image mid.image
done_by pool run entry mid engine i queue seen fits going geometry paged mirrored reads newest blocks sound = record {
  frames = paged_queue pool run newest entry.image blocks queue engine mid (state_at run i) i fits geometry (paged newest blocks sound);
  versions = paged_versions pool run newest entry.image blocks seen engine mid i fits geometry (paged newest blocks sound);
  rings = rings_left pool run newest blocks i engine entry mid mid.image (state_at run i) sound (paged newest blocks sound) reads (mirrored newest blocks sound) fits going geometry refl;
}

-- So many lines were carried out.
module _ (pool : ℕ) (run : Run) (entry mid : Site) (engine : Engine) (i : ℕ) (so_far : HasServed pool run entry mid engine i) where
  abbrev r : Rules
  r = rules_of pool run.geometry.groups

  abbrev start : Cache
  start = cache_on run.geometry entry.image

  -- they have found no ring at its end
  pub none_worn : WearsNone pool (first_lines run i) entry.image
  none_worn newest blocks sound = none_mirrored pool run newest entry.image blocks engine mid i (so_far.mirrored newest blocks sound)

  -- nor has any of those before them
  pub none_before : (n : ℕ) → n ≤ i + 1 → WearsNoneBefore pool run n entry.image
  none_before n few lines less = none_first pool run lines i entry.image (omega (arith, few, less)) none_worn

  -- something is heard
  pub served_heard : (new : Site) → Preserves mid new → HearsOnly mid new → HasServed pool run entry new engine i
  served_heard new goes same = record {
    opens = so_far.opens;
    fits = still_fits engine mid new (state_at run i) so_far.fits goes same.image;
    quiet = same.loose ∙ so_far.quiet;
    going = goes_on engine mid new so_far.going goes;
    geometry = so_far.geometry;
    few = so_far.few;
    paged = so_far.paged;
    mirrored = λ newest blocks sound. subst (λ (x : Image). Performs {T = ⊤} (Ok tt) r (rings_by run (turns_of (first_lines run i)) newest entry.image blocks) (λ m. m ≡ machine_on run.geometry entry.image) (MirrorsStore engine.store x)) (sym same.image) (so_far.mirrored newest blocks sound);
    counted = λ newest blocks sound. let c = so_far.counted newest blocks sound in record {
      log = c.log;
      numbers = images_heard (GivesNumbers (first_lines run i) (log_under newest blocks) entry.image) entry mid new c.numbers same;
      calls = calls_then run.geometry entry mid new c.calls (calls_heard run.geometry mid new same);
    };
    reads = λ newest blocks sound. few_heard _ _ _ _ entry mid new same (so_far.reads newest blocks sound);
    staged = λ newest blocks sound. last_heard run.geometry r (asked_after run newest entry.image blocks i) start entry mid new same (so_far.staged newest blocks sound);
  }

  -- their work is done
  pub served_done : QueueIsOnFlash → WhereItFits → HasDone pool (first_lines run i) entry.image mid.image
  served_done queue seen = done_by pool run entry mid engine i queue seen so_far.fits so_far.going so_far.geometry so_far.paged so_far.mirrored so_far.reads

  -- they are all
  pub served_all : {T : Type 0} → QueueIsOnFlash → WhereItFits → (x : T) → Demands pool (first_lines run i) entry mid (Ok x)
  served_all queue seen x = demands_ok pool (first_lines run i) entry mid x none_worn (served_done queue seen) so_far.staged
      (so_far.counted so_far.opens.newest so_far.opens.blocks so_far.opens.sound).calls
      (λ newest blocks sound. (so_far.counted newest blocks sound).numbers) so_far.reads

  -- it stops behind them, and not by a ring
  pub served_so_far : {T : Type 0} (h : Halt) → ((dev : Dev) → h ≡ halt.Stop (Worn dev) → ⊥) → Demands {T = T} pool (first_lines run i) entry mid (Err h)
  served_so_far h never = demands_err pool (first_lines run i) entry mid h (λ dev e. absurd (never dev e)) (λ newest blocks sound. (so_far.counted newest blocks sound).numbers) so_far.reads

  -- A line more.
  module _ (line : Line) (rest : List Line) (is : drop i (answered run) ≡ line ∷ rest) (engine' : Engine) (new : Site) {T : Type 0} (result : Result T Halt) (c : CarriesOut result line engine engine' mid new) where
    abbrev s : State
    s = state_at run i

    abbrev own : List CacheOp
    own = line_touches s line

    does : DoesLine result s line engine engine' mid new
    does = c.does s so_far.fits

    queue_is : HasQueueOn engine.store.pages mid
    queue_is = engine_queue engine mid s so_far.going so_far.fits

    module _ (newest : Option Master) (blocks : List (List LogRecord)) (sound : IsSound newest run.geometry entry.image blocks) where
      abbrev first : List CacheOp
      first = asked_after run newest entry.image blocks i

      more : asked_after run newest entry.image blocks (suc i) ≡ first ++ own
      more = asked_next run newest entry.image blocks i line rest is

      -- what holds of the pages holds of the machine behind what was asked so far
      behind : (F : Geometry → Rules → Cache → Type 0) → F engine.store.pages.flash.geometry (rules engine.store.pages) (cache_of engine.store.pages) → F run.geometry r (after_works r first start)
      behind F x = grind arith

      own_writes : WritesFrom run.geometry r own (after_works r first start) mid new
      own_writes = behind (λ g y z. WritesFrom g y own z mid new) (does.asks.writes queue_is so_far.quiet)

      line_reads : AsksFew pool run.geometry (asked_after run newest entry.image blocks (suc i)) (log_reads_after run newest blocks (suc i)) entry new
      line_reads =
          let few = so_far.reads newest blocks sound in
          subst (λ (w : List CacheOp). AsksFew pool run.geometry w (log_reads_after run newest blocks (suc i)) entry new) (sym more) (record {
            reads = reads_add_up r first own start (record entry { flash_reads = entry.flash_reads + start_reads run.geometry }) mid new few.reads (behind (λ g y z. ReadsFor y own z mid new) does.asks.reads);
            log_reads = let so_far = few.log_reads in let its = does.asks.log_reads in let all = log_reads_next run newest blocks i line rest is in omega (arith, so_far, its, all);
            writes = writes_then run.geometry r first own start entry mid new (let least = sound.octets.limits.groups in omega (arith, least)) few.writes own_writes;
          })

      line_staged : OnOk result (HasStagedFrom run.geometry r (asked_after run newest entry.image blocks (suc i)) start entry new)
      line_staged = ok_as result _ _ (λ last. subst (λ (w : List CacheOp). HasStagedFrom run.geometry r w start entry new) (sym more)
          (last_works run.geometry r first own start entry mid new (so_far.reads newest blocks sound).writes own_writes (so_far.staged newest blocks sound) (behind (λ g y z. HasStagedFrom g y own z mid new) last))) (does.asks.last queue_is so_far.quiet)

      line_paged : OnOk result (IsPaged pool run newest entry.image blocks engine' (suc i))
      line_paged = grind (arith, behind, ok_as, ops_compose, more, does)

      line_mirrored : OnOk result (IsMirrored pool run newest entry.image blocks engine' new (suc i))
      line_mirrored = ok_as result _ _ (λ done. performs_as (rings_next run newest entry.image blocks i line rest is)
          (performs_then (so_far.mirrored newest blocks sound) (performs_by (sym (so_far.paged newest blocks sound).rules_are) done))) does.performs.done

      line_wears : (dev : Dev) → IsErrOf result (halt.Stop (Worn dev)) → worn_by pool run (turns_of (first_lines run (suc i))) newest entry.image blocks ≡ Some dev
      line_wears dev says =
          let at = machine_on run.geometry entry.image in
          let so_far_asked = rings_by run (turns_of (first_lines run i)) newest entry.image blocks in
          let d = (so_far.mirrored newest blocks sound).done at refl in
          ap (λ (w : List RingOp). first_worn r w at) (rings_next run newest entry.image blocks i line rest is)
          ∙ first_then r so_far_asked (line_work s line) at d.0
          ∙ ap (λ (x : Rules). first_worn x (line_work s line) (after_all r so_far_asked at)) (sym (so_far.paged newest blocks sound).rules_are)
          ∙ does.performs.worn (after_all r so_far_asked at) d.1 dev says

    -- however it ends
    pub line_asks : AsksNoMore pool (first_lines run (suc i)) entry new
    line_asks = line_reads

    pub line_fails : {U : Type 0} (h : Halt) → result ≡ Err h → Demands {T = U} pool (first_lines run (suc i)) entry new (Err h)
    line_fails h failed = demands_err pool (first_lines run (suc i)) entry new h (λ dev e newest blocks sound. line_wears newest blocks sound dev (failed ∙ ap Err e))
        (λ newest blocks sound. counts_next run (log_under newest blocks) entry mid new engine engine' i line rest is so_far.geometry (so_far.counted newest blocks sound) result (does.numbers so_far.quiet)) line_asks

  -- it was carried out
  pub served_next : (line : Line) (rest : List Line) (is : drop i (answered run) ≡ line ∷ rest) (engine' : Engine) (new : Site) {T : Type 0} (x : T) → CarriesOut {T = T} (Ok x) line engine engine' mid new → HasServed pool run entry new engine' (suc i)
  served_next line rest is engine' new {T} x c = record {
    opens = so_far.opens;
    fits = subst (Matches engine' new) (after_same (state_at run i) line [] (listing_at run i) ∙ sym (state_next run i line rest is)) (c.does (state_at run i) so_far.fits).fits;
    quiet = c.stays_quiet so_far.fits.honest so_far.quiet;
    going = c.going;
    geometry = c.sizes ∙ so_far.geometry;
    few = below (answered run) i line rest is;
    paged = line_paged line rest is engine' new (Ok x) c;
    mirrored = line_mirrored line rest is engine' new (Ok x) c;
    counted = λ newest blocks sound. next_counted run (log_under newest blocks) entry mid new engine engine' i line rest is so_far.geometry (so_far.counted newest blocks sound) x ((c.does (state_at run i) so_far.fits).numbers so_far.quiet);
    reads = line_reads line rest is engine' new (Ok x) c;
    staged = line_staged line rest is engine' new (Ok x) c;
  }
