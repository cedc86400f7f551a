-- What a run writes, one line after the other.
use Rattle.face.proofs.Names.{◌≡◌, ◌≤◌, ℕ, List, [], ◌++◌, arith, refl, sym, ap, subst, ◌∙◌, Invariant, HasStagedFrom, WritesFrom, Matches, Engine, HearsOnly, staged_counts_none, staged_counts_then, unsynced_untouched, cache_of, rules, CallsForStaged, unsynced_in, WritesOnly, HasQueueOn, PageStore, State, CacheOp, ops_compose, staged_add_up, more_next, Rules, Staged, after_works, staged_by_works, Cache, in_sequence, leaves_weaker, holds_now, tell_leaves, calm, now_same, unchanged, each_weaker, quiet_settled, EachMoment, Leaves, LeavesOnly, since, SameAt, Site, Snapshot, Image, IsQuiet, Loose, TellsPart, Geometry, Disk}
use Rattle.flash_cache.specs.OnDisk.{HasLastStaged}
use Rattle.page_store.proofs.StagingLaws.{last_still, last_none, last_then, last_unmoved, among_first, written_weaker, written_then, fits_queue, still_leaves}
use Rattle.page_store.specs.Caching.{next_group}

-- the queue of a database that fits is the one on flash
pub engine_queue : (engine : Engine) (site : Site) (s : State) → Invariant engine site → Matches engine site s → HasQueueOn engine.store.pages site
engine_queue engine site s may fits = fits_queue engine.store.pages site may.store.both.pages_going fits.holds.both.log_holds.ready.pages

-- What holds of each image that a crash leaves, holds still

-- where something is told behind it
pub images_told : (Q : Image → Type 0) (piece : List ℕ) (old mid new : Site) → LeavesOnly old mid (λ s. Q s.image) → EachMoment mid new (TellsPart piece mid) → LeavesOnly old new (λ s. Q s.image)
images_told Q piece old mid new first tells =
    let P = λ (s : Snapshot). Q s.image in
    in_sequence old mid new (Leaves P) first (leaves_weaker mid new _ P (λ s both. both.1) (tell_leaves Q piece mid new (λ s left. first.now s left) tells))

-- or heard
pub images_heard : (Q : Image → Type 0) (old mid new : Site) → LeavesOnly old mid (λ s. Q s.image) → HearsOnly mid new → LeavesOnly old new (λ s. Q s.image)
images_heard Q old mid new first same = calm old mid new (Leaves (λ (s : Snapshot). Q s.image)) first same.past (now_same mid new same.told same.image same.loose)

pub writes_told : (g : Geometry) (r : Rules) (works : List CacheOp) (start : Cache) (piece : List ℕ) (old mid new : Site) → WritesFrom g r works start old mid → EachMoment mid new (TellsPart piece mid) → WritesFrom g r works start old new
writes_told g r works start piece old mid new = images_told (λ (i : Image). WritesOnly g (staged_by_works r works start) (next_group (after_works r works start)) old.image i) piece old mid new

pub writes_heard : (g : Geometry) (r : Rules) (works : List CacheOp) (start : Cache) (old mid new : Site) → WritesFrom g r works start old mid → HearsOnly mid new → WritesFrom g r works start old new
writes_heard g r works start old mid new = images_heard (λ (i : Image). WritesOnly g (staged_by_works r works start) (next_group (after_works r works start)) old.image i) old mid new

-- work behind work
pub writes_then : (g : Geometry) (r : Rules) (first later : List CacheOp) (start : Cache) (old mid new : Site) → 1 ≤ r.groups → WritesFrom g r first start old mid → WritesFrom g r later (after_works r first start) mid new →
    WritesFrom g r (first ++ later) start old new
writes_then g r first later start old mid new some one two =
    let staged = staged_by_works r first start in
    let more = staged_by_works r later (after_works r first start) in
    let next = next_group (after_works r first start) in
    let next' = next_group (after_works r later (after_works r first start)) in
    let all = ap next_group (ops_compose r first later start) in
    let only = λ (s : Snapshot). WritesOnly g staged next old.image s.image in
    let P = λ (s : Snapshot). WritesOnly g (staged ++ more) next' old.image s.image in
    let up : next ≤ next' = omega (arith, all, more_next r first later start some) in
    let stands : WritesOnly g staged next old.image mid.image = holds_now old mid only one in
    let joined : LeavesOnly old new P =
    in_sequence old mid new (Leaves P)
    (leaves_weaker old mid only P (λ s is. written_weaker g staged (staged ++ more) next next' old.image s.image (among_first staged more) up is) one)
    (leaves_weaker mid new (λ s. WritesOnly g more next' mid.image s.image) P (λ s is. written_then g staged more next next' old.image mid.image s.image up stands is) two) in
    subst (λ (n : ℕ). LeavesOnly old new (λ (s : Snapshot). WritesOnly g (staged_by_works r (first ++ later) start) n old.image s.image)) (sym all)
    (subst (λ (l : List Staged). LeavesOnly old new (λ (s : Snapshot). WritesOnly g l next' old.image s.image)) (sym (staged_add_up r first later start)) joined)

-- What the disk has of the frames that were staged last, and the calls that staged them.

-- behind them are no more
counted_still : (staged : List Staged) (a b : ℕ) (old mid new : Site) → unsynced_in new.past ≡ unsynced_in mid.past → CallsForStaged staged a b old mid → CallsForStaged staged a b old new
counted_still staged a b old mid new same counted = record { calls = same ∙ counted.calls; rises = counted.rises; within = counted.within }

-- of a site of which nothing is loose, while something is told
pub told_synced : (piece : List ℕ) (mid new : Site) → IsQuiet mid → EachMoment mid new (TellsPart piece mid) → unsynced_in new.past ≡ unsynced_in mid.past
told_synced piece mid new quiet tells = unsynced_untouched mid new (quiet_settled Disk mid quiet)
    (each_weaker mid new (TellsPart piece mid) (SameAt Disk mid) (λ m part. record { content = ap (λ (i : Image). i.disk) part.image; loose = ap (λ (l : Loose). l.disk) part.loose }) tells)

-- behind it something is told
pub last_told : (g : Geometry) (r : Rules) (works : List CacheOp) (start : Cache) (piece : List ℕ) (old mid new : Site) → mid.past ≡ old.past ++ since old mid → EachMoment mid new (TellsPart piece mid) → unsynced_in new.past ≡ unsynced_in mid.past → HasStagedFrom g r works start old mid → HasStagedFrom g r works start old new
last_told g r works start piece old mid new grown tells same has = record {
  last = last_still g (staged_by_works r works start) old mid new grown tells.grown (ap (λ (i : Image). i.disk) tells.now.image) has.last;
  counted = counted_still (staged_by_works r works start) _ _ old mid new same has.counted;
}

-- or heard
pub last_heard : (g : Geometry) (r : Rules) (works : List CacheOp) (start : Cache) (old mid new : Site) → HearsOnly mid new → HasStagedFrom g r works start old mid → HasStagedFrom g r works start old new
last_heard g r works start old mid new same has = record {
  last = last_unmoved g (staged_by_works r works start) old mid new same.past (ap (λ (i : Image). i.disk) same.image) has.last;
  counted = counted_still (staged_by_works r works start) _ _ old mid new (ap unsynced_in same.past) has.counted;
}

-- work behind work
pub last_works : (g : Geometry) (r : Rules) (first later : List CacheOp) (start : Cache) (old mid new : Site) → WritesFrom g r first start old mid → WritesFrom g r later (after_works r first start) mid new → HasStagedFrom g r first start old mid → HasStagedFrom g r later (after_works r first start) mid new →
    HasStagedFrom g r (first ++ later) start old new
last_works g r first later start old mid new one two has more =
    let staged = staged_by_works r first start in
    let others = staged_by_works r later (after_works r first start) in
    let next = next_group (after_works r later (after_works r first start)) in
    let written : WritesOnly g others next mid.image new.image = holds_now mid new (λ (s : Snapshot). WritesOnly g others next mid.image s.image) two in
    let all = ap (λ (c : Cache). c.queue.first) (ops_compose r first later start) in
    record {
      last = subst (λ (l : List Staged). HasLastStaged g l old new) (sym (staged_add_up r first later start)) (last_then g staged others old mid new one.grown two.grown written.disk has.last more.last);
      counted = subst (λ (l : List Staged). CallsForStaged l start.queue.first (after_works r (first ++ later) start).queue.first old new) (sym (staged_add_up r first later start))
          (subst (λ (n : ℕ). CallsForStaged (staged ++ others) start.queue.first n old new) (sym all) (staged_counts_then staged others _ _ _ old mid new has.counted more.counted));
    }

-- no work
pub staged_nothing : (g : Geometry) (r : Rules) (start : Cache) (site : Site) → HasStagedFrom g r [] start site site
staged_nothing g r start site = record { last = last_none g [] site site refl; counted = staged_counts_none [] start.queue.first start.queue.first site site (omega arith) refl refl }

-- no work
pub writes_nothing : (pages : PageStore) (site : Site) → HasQueueOn pages site → IsQuiet site → WritesFrom pages.flash.geometry (rules pages) [] (cache_of pages) site site
writes_nothing pages site has quiet = (let is = has.next in still_leaves pages.flash.geometry [] (next_group (cache_of pages)) site site (omega (arith, is)) quiet (unchanged site))
