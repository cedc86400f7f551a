-- What calls on pages write, one after the other.
use Rattle.page_store.proofs.Names.{◌≡◌, ◌≢◌, ◌⊎◌, inl, inr, ⊎_elim, IsTrue, ℕ, zero, suc, ◌+◌, ◌*◌, ◌<◌, ◌≤◌, List, [], ◌∷◌, ◌++◌, length, drop, map, reverse, Bool, true, false, append_assoc, append-nil, arith, refl, sym, ap, subst, ◌∙◌, eqb-true, map-append, Contains-append_left, Contains-append_right, AllByRecursion, Result, Ok, Err, OnOk, if◌then◌else◌, slice_index, Frame, page_on, wrote, rewritten, groups_by, segments_by, front_rewritten, front_sum, push_rewrites, push_groups, push_segments, save_rewrites, save_groups, save_segments, staged_pages, staged_marks, changes_of_push, sum_of, front_leaves, pushed_queue, disk_on, FlashCache, Stored, Change, LeavesFront, IsReached, IsFrontOf, group_shape, segment_shape, pool_page, cache_of, rules_for as rules, next_group, first_pushed, is_pushed, staging_calls, CallsForStaged, Invariant, Matches, pages_staged, staged_by_eviction, SavesBefore, WritesOnly, HasQueueOn, Stages, PageStore, flush, hi_of, FlushGoesOn, FlushEnds, Rules, Cache, Staged, must_be_pushed, staged_in_push, staged_by, push_changed, wants_flush, Placed, Queue, Known, in_sequence, leaves_weaker, untouched_leaves, others_untouched, each_both, each_weaker, settled_is, quiet_settled, quiet_leaves, no_call, unchanged_calm, holds_now, stays_honest, unchanged, ok_as, ok_always, IsUnchanged, Leaves, LeavesOnly, ChangesOnly, since, State, Image, Moment, Snapshot, MayStand, loose_of, content_of, IsQuiet, Calls, Geometry, Dev, Log, Flash, Disk, Stop, calls_of, unsynced_in, IsInNoSlot, LeavesGaps, is_due, changes_of_save}
use Rattle.std.specs.List.{Contains}
use Rattle.flash_cache.specs.OnDisk.{HasFrameAt, HasLastStaged, SomeMoment}
use Rattle.flash_cache.proofs.SomeMoments.{some_after_reads, some_behind, some_first}
use Rattle.page_store.proofs.Counting.{staged_counts_none, staged_counts_then, unsynced_logged}
use Rattle.page_store.proofs.PushLaws.{flash_fits_same, flash_holds_same}
use Rattle.page_store.proofs.Evictions.{reverse_last}
use Rattle.std.proofs.lemmas.Grind.{common_steps}
use Rattle.flash_cache.specs.Representation as flash_cache

-- Images.

-- where flash and disk are as they were nothing is written
pub nothing_written : (g : Geometry) (staged : List Staged) (next : ℕ) (old now : Image) → hi_of (group_shape g) old.flash ≤ next → now.flash ≡ old.flash → now.disk ≡ old.disk → WritesOnly g staged next old now
nothing_written g staged next old now low flash disk = grind (arith, common_steps)

saves_up : (next next' old now : ℕ) → next ≤ next' → SavesBefore next old now → SavesBefore next' old now
saves_up next next' old now h h2 = grind (arith, common_steps)

saves_then : (next a b c : ℕ) → SavesBefore next a b → SavesBefore next b c → SavesBefore next a c
saves_then next a b c h h2 = grind (arith, common_steps)

pub written_weaker : (g : Geometry) (staged more : List Staged) (next next' : ℕ) (old now : Image) → ((page : ℕ) → Contains (pages_staged staged) page → Contains (pages_staged more) page) → next ≤ next' →
    WritesOnly g staged next old now → WritesOnly g more next' old now
written_weaker g staged more next next' old now among up only = record { groups = (let low = only.groups in omega (arith, low, up)); segments = saves_up next next' _ _ up only.segments; gaps = only.gaps; disk = λ page out. only.disk page (λ is. out (among page is)) }

pub among_first : (staged more : List Staged) (page : ℕ) → Contains (pages_staged staged) page → Contains (pages_staged (staged ++ more)) page
among_first staged more page is = subst (λ (l : List ℕ). Contains l page) (sym (map-append (λ (f : Staged). f.page) staged more)) (Contains-append_left (pages_staged staged) (pages_staged more) page is)

pub among_later : (staged more : List Staged) (page : ℕ) → Contains (pages_staged more) page → Contains (pages_staged (staged ++ more)) page
among_later staged more page is = subst (λ (l : List ℕ). Contains l page) (sym (map-append (λ (f : Staged). f.page) staged more)) (Contains-append_right (pages_staged staged) (pages_staged more) page is)

-- one after the other
pub written_then : (g : Geometry) (staged more : List Staged) (next next' : ℕ) (a b c : Image) → next ≤ next' → WritesOnly g staged next a b → WritesOnly g more next' b c → WritesOnly g (staged ++ more) next' a c
written_then g staged more next next' a b c up one two = record {
  groups = two.groups;
  segments = saves_then next' _ _ _ (saves_up next next' _ _ up one.segments) two.segments;
  gaps = λ p beside other. two.gaps p beside other ∙ one.gaps p beside other;
  disk = λ page out. two.disk page (λ is. out (among_later staged more page is)) ∙ one.disk page (λ is. out (among_first staged more page is));
}

-- What was staged last.

-- none is staged
no_split : (before later : List Staged) (f : Staged) → [] ≡ before ++ f ∷ later → ⊥
no_split [] later f is = cc
no_split (b ∷ before) later f is = cc

pub last_none : (g : Geometry) (staged : List Staged) (old now : State) → staged ≡ [] → HasLastStaged g staged old now
last_none g staged old now none before later f is out = absurd (no_split before later f (sym none ∙ is))

-- one of two lists, one behind the other
split_of : (xs ys before later : List Staged) (f : Staged) → xs ++ ys ≡ before ++ f ∷ later →
    ((rest : List Staged) × (xs ≡ before ++ f ∷ rest) × (later ≡ rest ++ ys)) ⊎ ((rest : List Staged) × (before ≡ xs ++ rest) × (ys ≡ rest ++ f ∷ later))
split_of [] ys before later f is = inr (before, refl, is)
split_of (x ∷ xs) ys [] later f is = grind (arith, common_steps)
split_of (x ∷ xs) ys (b ∷ before) later f is = grind (arith, common_steps, (split_of xs ys before later f))

-- calls one after the other: the second leaves what it doesn't stage
pub last_then : (g : Geometry) (staged more : List Staged) (a b c : State) → b.past ≡ a.past ++ since a b → c.past ≡ b.past ++ since b c → ((page : ℕ) → (Contains (pages_staged more) page → ⊥) → disk_on c.image page ≡ disk_on b.image page) →
    HasLastStaged g staged a b → HasLastStaged g more b c → HasLastStaged g (staged ++ more) a c
last_then g staged more a b c first second same one two before later f is out = ⊎_elim
    (λ early.
    let in_later = λ (listed : Contains (pages_staged (early.0 ++ more)) f.page). out (subst (λ (l : List Staged). Contains (pages_staged l) f.page) (sym early.2) listed) in
    let own = one before early.0 f early.1 (λ listed. in_later (among_first early.0 more f.page listed)) in
    let still = same f.page (λ listed. in_later (among_later early.0 more f.page listed)) in
    subst (λ (o : List ℕ). SomeMoment a c (Leaves (λ s. HasFrameAt g f o s.image))) (sym still) (some_first a b c first second (Leaves (λ s. HasFrameAt g f (disk_on b.image f.page) s.image)) own))
    (λ late. some_behind a b c first second (Leaves (λ s. HasFrameAt g f (disk_on c.image f.page) s.image)) (two late.0 later f late.2 out))
    (split_of staged more before later f is)

-- calls that only read before it
pub last_after_reads : (g : Geometry) (staged : List Staged) (old mid new : State) → mid.past ≡ old.past → HasLastStaged g staged mid new → HasLastStaged g staged old new
last_after_reads g staged old mid new same last before later f is out = some_after_reads old mid new (Leaves (λ s. HasFrameAt g f (disk_on new.image f.page) s.image)) same (last before later f is out)

-- and calls behind it that write no disk page
pub last_still : (g : Geometry) (staged : List Staged) (old mid new : State) → mid.past ≡ old.past ++ since old mid → new.past ≡ mid.past ++ since mid new → new.image.disk ≡ mid.image.disk → HasLastStaged g staged old mid → HasLastStaged g staged old new
last_still g staged old mid new first second same last before later f is out =
    subst (λ (o : List ℕ). SomeMoment old new (Leaves (λ s. HasFrameAt g f o s.image))) (ap (page_on f.page) (sym same))
    (some_first old mid new first second (Leaves (λ s. HasFrameAt g f (disk_on mid.image f.page) s.image)) (last before later f is out))

-- or that write nothing at all
pub last_unmoved : (g : Geometry) (staged : List Staged) (old mid new : State) → new.past ≡ mid.past → new.image.disk ≡ mid.image.disk → HasLastStaged g staged old mid → HasLastStaged g staged old new
last_unmoved g staged old mid new past same last before later f is out =
    let some = last before later f is out in
    record {
      moment = some.moment;
      within = subst (λ (l : List Moment). Contains (drop (length old.past) l) some.moment) (sym past) some.within;
      has = subst (λ (o : List ℕ). Leaves (λ s. HasFrameAt g f o s.image) some.moment) (ap (page_on f.page) (sym same)) some.has;
    }

-- Stores.

-- what fits has its queue on flash
pub fits_queue : (store : PageStore) (site : State) → Invariant store site → Matches store site → HasQueueOn store site
fits_queue store site going fits = record { fits = fits.flash; groups = fits.groups; holds = fits.holds; next = going.flash.next ∙ fits.flash.hi; room = (let least = going.flash.limits.groups in omega (arith, least)) }

-- so does another store with the same cache, on a site with the same flash
pub queue_same : (store other : PageStore) (old new : State) → other.flash ≡ store.flash → new.image.flash ≡ old.image.flash → IsTrue new.honest → HasQueueOn store old → HasQueueOn other new
queue_same store other old new same flash honest has = grind (arith, common_steps, flash_fits_same, flash_holds_same)

-- What a crash leaves.

abbrev pub Leaving : Geometry → List Staged → ℕ → State → State → Type 0
Leaving g staged next old now = LeavesOnly old now (λ s. WritesOnly g staged next old.image s.image)

-- what a push leaves of the gaps in a snapshot
abbrev KeepsGaps : Geometry → State → Snapshot → Type 0
KeepsGaps g old s = (p : ℕ) → IsInNoSlot (group_shape g) p → IsInNoSlot (segment_shape g) p → slice_index s.image.flash p ≡ slice_index old.image.flash p

-- of the first ones of some changes, beside which the gaps stay
front_writes : (g : Geometry) (changes : List Change) (staged : List Staged) (next : ℕ) (old now : State) → hi_of (group_shape g) old.image.flash + sum_of groups_by changes ≤ next → (1 ≤ sum_of segments_by changes → 4 * (hi_of (segment_shape g) old.image.flash + sum_of segments_by changes) < next) →
    ((page : ℕ) → Contains (rewritten changes) page → Contains (pages_staged staged) page) → LeavesFront g changes old now → LeavesGaps g old now → Leaving g staged next old now
front_writes g changes staged next old now low early among front gaps =
    each_weaker old now (λ m. Leaves (IsReached g (IsFrontOf changes) old) m × Leaves (KeepsGaps g old) m) (Leaves (λ s. WritesOnly g staged next old.image s.image)) (λ m both s left. within s (both.0 s left) (both.1 s left))
    (each_both old now (Leaves (IsReached g (IsFrontOf changes) old)) (Leaves (KeepsGaps g old)) front gaps)
  where
    -- those of the first changes are none, or no more than all
    by : (s : Snapshot) (n : ℕ) → hi_of (segment_shape g) s.image.flash ≡ hi_of (segment_shape g) old.image.flash + n → n ≤ sum_of segments_by changes → SavesBefore next (hi_of (segment_shape g) old.image.flash) (hi_of (segment_shape g) s.image.flash)
    by s zero are few = inl (omega (arith, are))
    by s (suc n) are few = let low = early (omega (arith, few)) in inr (omega (arith, are), omega (arith, are, few, low))

    within : (s : Snapshot) → IsReached g (IsFrontOf changes) old s → KeepsGaps g old s → WritesOnly g staged next old.image s.image
    within s is gaps =
        let made = wrote g is.changes old.image s.image is.reaches in
        record {
          groups = omega (arith, made.groups_are, front_sum groups_by changes is.changes is.made, low);
          segments = by s (sum_of segments_by is.changes) made.segments_are (front_sum segments_by changes is.changes is.made);
          gaps = gaps;
          disk = λ page out. made.disk page (λ listed. out (among page (front_rewritten changes is.changes is.made page listed)));
        }

-- of a site that stays as it is
pub still_leaves : (g : Geometry) (staged : List Staged) (next : ℕ) (old now : State) → hi_of (group_shape g) old.image.flash ≤ next → IsQuiet old → IsUnchanged old now → Leaving g staged next old now
still_leaves g staged next old now low quiet same =
    unchanged_calm old old now (Leaves (λ s. WritesOnly g staged next old.image s.image)) (no_call old (Leaves (λ s. WritesOnly g staged next old.image s.image)) (λ s left.
    subst (λ (t : Snapshot). WritesOnly g staged next old.image t.image) (sym (quiet_leaves old s quiet left)) (nothing_written g staged next old.image old.image low refl refl))) same

-- of calls on the log alone
pub log_leaves : (g : Geometry) (staged : List Staged) (next : ℕ) (old now : State) → hi_of (group_shape g) old.image.flash ≤ next → IsQuiet old → ChangesOnly Log old now → Leaving g staged next old now
log_leaves g staged next old now low quiet changes =
    let stands = λ (d : Dev). λ (s : Snapshot). MayStand (loose_of d old.loose) (content_of d old.image) (content_of d s.image) in
    let one = λ (d : Dev). λ (ne : d ≢ Log). untouched_leaves d old now (others_untouched Log d old now ne changes.only) in
    each_weaker old now (λ m. Leaves (stands Flash) m × Leaves (stands Disk) m) (Leaves (λ s. WritesOnly g staged next old.image s.image))
    (λ m both s left. nothing_written g staged next old.image s.image low (settled Flash s (both.0 s left)) (settled Disk s (both.1 s left)))
    (each_both old now (Leaves (stands Flash)) (Leaves (stands Disk)) (one Flash (λ h. cc)) (one Disk (λ h. cc)))
  where
    settled : (d : Dev) (s : Snapshot) → MayStand (loose_of d old.loose) (content_of d old.image) (content_of d s.image) → content_of d s.image ≡ content_of d old.image
    settled d s stands = settled_is (content_of d old.image) (content_of d s.image) (subst (λ rs. MayStand rs (content_of d old.image) (content_of d s.image)) (quiet_settled d old quiet) stands)

-- Calls, each by its result.

-- another answer, which is Ok where the first one is
pub stages_result : {A B : Type 0} {r : Result A Stop} {s : Result B Stop} {staged : List Staged} {next : ℕ} {old new : PageStore} {before now : State} → ((P : Type 0) → OnOk r P → OnOk s P) →
    Stages r staged next old new before now → Stages s staged next old new before now
stages_result turns stages = record {
  holds = λ has. turns _ (stages.holds has);
  quiet = λ has quiet. turns _ (stages.quiet has quiet);
  writes = stages.writes;
  last = λ has quiet. turns _ (stages.last has quiet);
  counted = λ has quiet. turns _ (stages.counted has quiet);
  sizes = stages.sizes;
}

pub stages_ok : {A B : Type 0} {a : A} {b : B} {staged : List Staged} {next : ℕ} {old new : PageStore} {before now : State} → Stages {T = A} (Ok a) staged next old new before now → Stages {T = B} (Ok b) staged next old new before now
stages_ok {A} {B} {a} {b} stages = stages_result {r = Ok a} {s = Ok b} (λ P p. p) stages

pub stages_err : {A B : Type 0} {r : Result A Stop} {stop : Stop} {staged : List Staged} {next : ℕ} {old new : PageStore} {before now : State} → Stages r staged next old new before now → Stages {T = B} (Err stop) staged next old new before now
stages_err {A} {B} {r} {stop} stages = stages_result {r = r} {s = Err stop} (λ P p. tt) stages

-- where more may be written
pub stages_up : {T : Type 0} {r : Result T Stop} {staged : List Staged} {next next' : ℕ} {old new : PageStore} {before now : State} → next ≤ next' → Stages r staged next old new before now → Stages r staged next' old new before now
stages_up {staged = staged} {next = next} {next' = next'} {old = old} {before = before} {now = now} up stages = record {
  holds = stages.holds;
  quiet = stages.quiet;
  writes = λ has quiet. leaves_weaker before now (λ s. WritesOnly old.flash.geometry staged next before.image s.image) (λ s. WritesOnly old.flash.geometry staged next' before.image s.image)
      (λ s only. written_weaker old.flash.geometry staged staged next next' before.image s.image (λ page is. is) up only) (stages.writes has quiet);
  last = stages.last;
  counted = stages.counted;
  sizes = stages.sizes;
}

pub stages_weaker : {T : Type 0} {stop : Stop} {staged more : List Staged} {next next' : ℕ} {old new : PageStore} {before now : State} →
    ((page : ℕ) → Contains (pages_staged staged) page → Contains (pages_staged more) page) → next ≤ next' → Stages {T = T} (Err stop) staged next old new before now → Stages {T = T} (Err stop) more next' old new before now
stages_weaker {staged = staged} {more = more} {next = next} {next' = next'} {old = old} {before = before} {now = now} among up stages = record {
  holds = stages.holds;
  quiet = stages.quiet;
  writes = λ has quiet. leaves_weaker before now (λ s. WritesOnly old.flash.geometry staged next before.image s.image) (λ s. WritesOnly old.flash.geometry more next' before.image s.image)
      (λ s only. written_weaker old.flash.geometry staged more next next' before.image s.image among up only) (stages.writes has quiet);
  last = λ has quiet. tt;
  counted = λ has quiet. tt;
  sizes = stages.sizes;
}

pub stages_as : {T : Type 0} {r : Result T Stop} {staged more : List Staged} {next next' : ℕ} {old new : PageStore} {before now : State} → staged ≡ more → next ≡ next' → Stages r staged next old new before now → Stages r more next' old new before now
stages_as {r = r} {next = next} {next' = next'} {old = old} {new = new} {before = before} {now = now} same up stages = subst (λ (l : List Staged). Stages r l next' old new before now) same (stages_up (omega (arith, up)) stages)

-- stores whose caches are the same
pub stages_between : {T : Type 0} {r : Result T Stop} {staged : List Staged} {next : ℕ} {old mid new after : PageStore} {before now : State} → mid.flash ≡ old.flash → after.flash ≡ new.flash → Stages r staged next mid new before now → Stages r staged next old after before now
stages_between {r = r} {staged = staged} {next = next} {old = old} {mid = mid} {new = new} {after = after} {before = before} {now = now} first last stages =
    let there = λ (has : HasQueueOn old before). queue_same old mid before before first refl has.fits.honest has in
    record {
      holds = λ has. ok_as r _ _ (λ (is : HasQueueOn new now). queue_same new after now now last refl is.fits.honest is) (stages.holds (there has));
      quiet = λ has quiet. stages.quiet (there has) quiet;
      writes = λ has quiet. subst (λ (f : FlashCache). Leaving f.geometry staged next before now) first (stages.writes (there has) quiet);
      last = λ has quiet. subst (λ (f : FlashCache). OnOk r (HasLastStaged f.geometry staged before now)) first (stages.last (there has) quiet);
      counted = λ has quiet. subst (λ (f : FlashCache). OnOk r (CallsForStaged staged f.directory.first after.flash.directory.first before now)) first
          (subst (λ (f : FlashCache). OnOk r (CallsForStaged staged mid.flash.directory.first f.directory.first before now)) (sym last) (stages.counted (there has) quiet));
      sizes = ap (λ (f : FlashCache). f.geometry) last ∙ stages.sizes ∙ ap (λ (f : FlashCache). f.geometry) first;
    }

-- no calls of the disk
pub counted_none : {T : Type 0} (r : Result T Stop) (staged : List Staged) (old new : PageStore) (before now : State) → unsynced_in now.past ≡ unsynced_in before.past → OnOk r (old.flash.directory.first ≤ new.flash.directory.first) → OnOk r (staged ≡ [])
    → OnOk r (CallsForStaged staged old.flash.directory.first new.flash.directory.first before now)
counted_none (Ok x) staged old new before now same rises none = staged_counts_none staged old.flash.directory.first new.flash.directory.first before now rises same none
counted_none (Err stop) staged old new before now same rises none = tt

-- a call that writes nothing
pub stages_still : {T : Type 0} {r : Result T Stop} {staged : List Staged} {next : ℕ} {old new : PageStore} {before now : State} → OnOk r (staged ≡ []) → next_group (cache_of old) ≤ next → (IsTrue before.honest → IsUnchanged before now) →
    new.flash.geometry ≡ old.flash.geometry → OnOk r (old.flash.directory.first ≤ new.flash.directory.first) → (HasQueueOn old before → OnOk r (HasQueueOn new now)) → Stages r staged next old new before now
stages_still {r = r} {staged = staged} {next = next} {old = old} {new = new} {before = before} {now = now} none low same sizes rises holds = record {
  holds = holds;
  quiet = λ has quiet. ok_always r (IsQuiet now) ((same has.fits.honest).loose ∙ quiet);
  writes = λ has quiet. (let is = has.next in still_leaves old.flash.geometry staged next before now (omega (arith, is, low)) quiet (same has.fits.honest));
  last = λ has quiet. ok_as r (staged ≡ []) (HasLastStaged old.flash.geometry staged before now) (last_none old.flash.geometry staged before now) none;
  counted = λ has quiet. counted_none r staged old new before now (ap unsynced_in (same has.fits.honest).past) rises none;
  sizes = sizes;
}

-- a call on the log alone
pub stages_beside : {T : Type 0} {r : Result T Stop} {staged : List Staged} {next : ℕ} {old new : PageStore} {before now : State} → OnOk r (staged ≡ []) → next_group (cache_of old) ≤ next → (IsTrue before.honest → ChangesOnly Log before now) → Calls r before now →
    new.flash ≡ old.flash → Stages r staged next old new before now
stages_beside {r = r} {staged = staged} {next = next} {old = old} {new = new} {before = before} {now = now} none low changes calls same = record {
  holds = λ has. ok_always r (HasQueueOn new now) (queue_same old new before now same ((changes has.fits.honest).only.now.content Flash (λ h. cc)) (stays_honest before now calls.preserves has.fits.honest) has);
  quiet = λ has quiet. calls.stays_quiet has.fits.honest quiet;
  writes = λ has quiet. (let is = has.next in log_leaves old.flash.geometry staged next before now (omega (arith, is, low)) quiet (changes has.fits.honest));
  last = λ has quiet. ok_as r (staged ≡ []) (HasLastStaged old.flash.geometry staged before now) (last_none old.flash.geometry staged before now) none;
  counted = λ has quiet. counted_none r staged old new before now (unsynced_logged before now quiet (changes has.fits.honest)) (ok_always r (old.flash.directory.first ≤ new.flash.directory.first) (omega (arith, ap (λ (f : FlashCache). f.directory.first) same))) none;
  sizes = ap (λ (f : FlashCache). f.geometry) same;
}

-- no call
pub stages_none : {T : Type 0} {r : Result T Stop} {staged : List Staged} {next : ℕ} {old new : PageStore} {now : State} → OnOk r (staged ≡ []) → next_group (cache_of old) ≤ next → new.flash ≡ old.flash → Stages r staged next old new now now
stages_none {T} {r} {old = old} {new = new} {now = now} none low same =
    stages_still none low (λ honest. unchanged now) (ap (λ (f : FlashCache). f.geometry) same) (ok_always r (old.flash.directory.first ≤ new.flash.directory.first) (omega (arith, ap (λ (f : FlashCache). f.directory.first) same))) (λ has. ok_always r (HasQueueOn new now) (queue_same old new now now same refl has.fits.honest has))

-- a call behind one that was Ok
pub stages_then : {A B : Type 0} {a : A} {r : Result B Stop} {staged more : List Staged} {next next' : ℕ} {old mid new : PageStore} {before between now : State} → (HasQueueOn old before → next ≤ next') →
    Stages {T = A} (Ok a) staged next old mid before between → Stages r more next' mid new between now → Stages r (staged ++ more) next' old new before now
stages_then {r = r} {staged = staged} {more = more} {next = next} {next' = next'} {old = old} {mid = mid} {new = new} {before = before} {between = between} {now = now} up one two =
    let g = old.flash.geometry in
    let only = λ (s : Snapshot). WritesOnly g staged next before.image s.image in
    let all = λ (s : Snapshot). WritesOnly g (staged ++ more) next' before.image s.image in
    record {
      holds = λ has. two.holds (one.holds has);
      quiet = λ has quiet. two.quiet (one.holds has) (one.quiet has quiet);
      writes = λ has quiet.
          let first : Leaving g staged next before between = one.writes has quiet in
          let stands : WritesOnly g staged next before.image between.image = holds_now before between only first in
          let second : Leaving g more next' between now = subst (λ (h : Geometry). Leaving h more next' between now) one.sizes (two.writes (one.holds has) (one.quiet has quiet)) in
          in_sequence before between now (Leaves all)
          (leaves_weaker before between only all (λ s is. written_weaker g staged (staged ++ more) next next' before.image s.image (among_first staged more) (up has) is) first)
          (leaves_weaker between now (λ s. WritesOnly g more next' between.image s.image) all (λ s is. written_then g staged more next next' before.image between.image s.image (up has) stands is) second);
      last = λ has quiet.
          let first : Leaving g staged next before between = one.writes has quiet in
          let second : Leaving g more next' between now = subst (λ (h : Geometry). Leaving h more next' between now) one.sizes (two.writes (one.holds has) (one.quiet has quiet)) in
          let written : WritesOnly g more next' between.image now.image = holds_now between now (λ s. WritesOnly g more next' between.image s.image) second in
          ok_as r (HasLastStaged g more between now) (HasLastStaged g (staged ++ more) before now)
          (last_then g staged more before between now first.grown second.grown written.disk (one.last has quiet))
          (subst (λ (h : Geometry). OnOk r (HasLastStaged h more between now)) one.sizes (two.last (one.holds has) (one.quiet has quiet)));
      counted = λ has quiet. ok_as r _ _ (staged_counts_then staged more old.flash.directory.first mid.flash.directory.first new.flash.directory.first before between now (one.counted has quiet)) (two.counted (one.holds has) (one.quiet has quiet));
      sizes = two.sizes ∙ one.sizes;
    }

-- A push of a group.

-- the pages that it stages are those of the machine's frames
staged_are : (queue : Queue) (frames : List Placed) → map (λ f. f.1.page) frames ≡ pages_staged (map (λ f. record { group = queue.first; index = f.0; page = f.1.page }) frames)
staged_are queue [] = refl
staged_are queue (frame ∷ frames) = ap (λ (l : List ℕ). frame.1.page ∷ l) (staged_are queue frames)

pub pages_are : (store : PageStore) → staged_pages store.flash ≡ pages_staged (staged_in_push (rules store) store.flash.directory)
pages_are store = staged_are store.flash.directory (staged_marks store.flash)

pub push_leaves : (store : PageStore) (saved : List (List Stored)) (group : List ℕ) (old now : State) → HasQueueOn store old →
    LeavesFront store.flash.geometry (changes_of_save (is_due store.flash.ring.hi store.flash.segments.hi) saved ++ changes_of_push (staged_pages store.flash) group) old now → LeavesGaps store.flash.geometry old now →
    Leaving store.flash.geometry (staged_in_push (rules store) store.flash.directory) (next_group (cache_of store) + 1) old now
push_leaves store saved group old now has front gaps =
    let due : Bool = is_due store.flash.ring.hi store.flash.segments.hi in
    let pushed = changes_of_push (staged_pages store.flash) group in
    let one = push_groups (staged_pages store.flash) group in
    let none = save_groups due saved pushed in
    let segments = save_segments due saved pushed in
    let no_more = push_segments (staged_pages store.flash) group in
    front_writes store.flash.geometry (changes_of_save due saved ++ pushed) (staged_in_push (rules store) store.flash.directory) (next_group (cache_of store) + 1) old now (omega (arith, has.next, one, none))
    (λ some. early due refl (omega (arith, segments, no_more, some)) (omega (arith, segments, no_more)))
    (λ page listed. subst (λ (l : List ℕ). Contains l page) (pages_are store)
    (push_rewrites (staged_pages store.flash) group page (subst (λ (l : List ℕ). Contains l page) (save_rewrites due saved pushed) listed))) front gaps
  where
    early : (due : Bool) → is_due store.flash.ring.hi store.flash.segments.hi ≡ due → 1 ≤ (if due then 1 else 0) → {n : ℕ} → n ≡ (if due then 1 else 0) → 4 * (hi_of (segment_shape store.flash.geometry) old.image.flash + n) < next_group (cache_of store) + 1
    early true is some are =
        let four : store.flash.ring.hi ≡ 4 * store.flash.segments.hi + 4 = eqb-true store.flash.ring.hi (4 * store.flash.segments.hi + 4) is in
        omega (arith, four, are, has.next, has.fits.hi, has.fits.segments_hi)
    early false is some are = absurd (omega (arith, some))

-- its calls of the disk are those of staging
one_group : (queue : Queue) (frames : List Placed) → staging_calls (map (λ f. record { group = queue.first; index = f.0; page = f.1.page }) frames) ≡ calls_of (map (λ f. f.1.page) frames)
one_group queue [] = refl
one_group queue (frame ∷ []) = refl
one_group queue (frame ∷ next ∷ frames) = let more = one_group queue (next ∷ frames) in grind (arith, common_steps)

in_group_first : (first next : ℕ) (queue : Queue) (frames : List Placed) → first ≤ queue.first → queue.first < next → AllByRecursion (λ (f : Staged). (first ≤ f.group) × (f.group < next)) (map (λ f. record { group = queue.first; index = f.0; page = f.1.page }) frames)
in_group_first first next queue [] low high = tt
in_group_first first next queue (frame ∷ frames) low high = ((low, high), in_group_first first next queue frames low high)

pub push_counted : {T : Type 0} (r : Result T Stop) (store : PageStore) (flash : FlashCache) (known : List Known) (old now : State) → OnOk r (flash.directory ≡ pushed_queue store.flash known)
    → OnOk r (unsynced_in now.past ≡ unsynced_in old.past + calls_of (staged_pages store.flash)) → OnOk r (CallsForStaged (staged_in_push (rules store) store.flash.directory) store.flash.directory.first flash.directory.first old now)
push_counted (Err stop) store flash known old now is calls = tt
push_counted (Ok x) store flash known old now is calls = by (front_leaves store.flash) refl
  where
    queue : Queue
    queue = store.flash.directory

    same : staging_calls (staged_in_push (rules store) queue) ≡ calls_of (staged_pages store.flash)
    same = one_group queue (staged_marks store.flash)

    by : (leaves : Bool) → front_leaves store.flash ≡ leaves → CallsForStaged (staged_in_push (rules store) queue) queue.first flash.directory.first old now
    by true full =
        let next : flash.directory.first ≡ queue.first + 1 = ap (λ (q : Queue). q.first) is ∙ ap (λ (b : Bool). if b then queue.first + 1 else queue.first) full in
        record { calls = omega (arith, calls, same); rises = omega (arith, next); within = in_group_first queue.first flash.directory.first queue (staged_marks store.flash) (omega arith) (omega (arith, next)) }
    by false full =
        let next : flash.directory.first ≡ queue.first = ap (λ (q : Queue). q.first) is ∙ ap (λ (b : Bool). if b then queue.first + 1 else queue.first) full in
        let none : staged_in_push (rules store) queue ≡ [] = grind (arith, common_steps) in
        let no_calls = ap staging_calls none in
        staged_counts_none _ queue.first flash.directory.first old now (omega (arith, next)) (omega (arith, calls, same, no_calls)) none

pub queue_pushed : {T : Type 0} (r : Result T Stop) (flash : FlashCache) (store : PageStore) (groups : List (List Stored)) (now : State) → flash_cache.Invariant flash now → OnOk r (flash_cache.Matches flash now) → OnOk r (flash_cache.Represents flash now.image groups) →
    OnOk r (HasQueueOn (record store { flash = flash }) now)
queue_pushed r flash store groups now h h2 h3 = grind (arith, common_steps)

-- An eviction.

module _ (store : PageStore) (frames : List Frame) (last : Frame) (is : store.pool.frames ≡ frames ++ last ∷ []) where
  turned : reverse (cache_of store).pool ≡ pool_page last ∷ reverse (map pool_page frames)
  turned = ap (λ (l : List Frame). reverse (map pool_page l)) is ∙ ap reverse (map-append pool_page frames (last ∷ [])) ∙ reverse_last (map pool_page frames) (pool_page last)

  pub evicted_staged : must_be_pushed store.flash.directory (pool_page last) ≡ true → staged_in_push (rules store) store.flash.directory ≡ staged_by_eviction (rules store) (cache_of store)
  evicted_staged must = grind (arith, common_steps, turned)

  pub evicted_none : must_be_pushed store.flash.directory (pool_page last) ≡ false → staged_by_eviction (rules store) (cache_of store) ≡ []
  evicted_none must = grind (arith, common_steps, turned)

  pub evicted_next : must_be_pushed store.flash.directory (pool_page last) ≡ true → next_group (cache_of store) + 1 ≡ next_group (cache_of store) + (if is_pushed (cache_of store) then 1 else 0)
  evicted_next must = ap (λ (b : Bool). next_group (cache_of store) + (if b then 1 else 0)) (sym (ap (first_pushed store.flash.directory) turned ∙ must))

-- A flush that goes on: these frames are staged so far, and the others come.
pub record IsFlushing (first store : PageStore) (old now : State) : Type 0 where
  pub staged : List Staged
  pub split : staged_by (rules first) flush (cache_of first) ≡ staged ++ staged_by (rules first) flush (cache_of store)
  pub stages : Stages {T = Unit {0}} (Ok tt) staged (next_group (cache_of store)) first store old now

-- one push more
pub flushing_more : FlushGoesOn → {x : Unit {0}} (first store after : PageStore) (old mid new : State) → rules store ≡ rules first → wants_flush (cache_of store) ≡ true → cache_of after ≡ push_changed (rules store) (cache_of store) →
    next_group (cache_of store) + 1 ≡ next_group (cache_of after) → IsFlushing first store old mid → Stages {T = Unit {0}} (Ok x) (staged_in_push (rules store) store.flash.directory) (next_group (cache_of store) + 1) store after mid new → IsFlushing first after old new
flushing_more goes_on first store after old mid new same wants machine next so_far push =
    let one : List Staged = staged_in_push (rules first) store.flash.directory in
    let turned : staged_in_push (rules store) store.flash.directory ≡ one = ap (λ (r : Rules). staged_in_push r store.flash.directory) same in
    let there : cache_of after ≡ push_changed (rules first) (cache_of store) = machine ∙ ap (λ (r : Rules). push_changed r (cache_of store)) same in
    record {
      staged = so_far.staged ++ one;
      split = so_far.split ∙ ap (λ (l : List Staged). so_far.staged ++ l) ((goes_on (rules first) (cache_of store) wants).1 ∙ ap (λ (k : Cache). one ++ staged_by (rules first) flush k) (sym there))
          ∙ sym (append_assoc so_far.staged one (staged_by (rules first) flush (cache_of after)));
      stages = stages_then (λ has. omega (arith, next)) so_far.stages (stages_ok (stages_as turned next push));
    }

-- a push that stops
pub flushing_stopped : FlushGoesOn → {T : Type 0} (stop : Stop) (first store after : PageStore) (old mid new : State) (next : ℕ) → rules store ≡ rules first → wants_flush (cache_of store) ≡ true → next_group (cache_of store) + 1 ≤ next →
    IsFlushing first store old mid → Stages {T = T} (Err stop) (staged_in_push (rules store) store.flash.directory) (next_group (cache_of store) + 1) store after mid new →
    Stages {T = T} (Err stop) (staged_by (rules first) flush (cache_of first)) next first after old new
flushing_stopped goes_on stop first store after old mid new next same wants up so_far push =
    let one : List Staged = staged_in_push (rules first) store.flash.directory in
    let turned : staged_in_push (rules store) store.flash.directory ≡ one = ap (λ (r : Rules). staged_in_push r store.flash.directory) same in
    let rest : List Staged = staged_by (rules first) flush (push_changed (rules first) (cache_of store)) in
    let all : staged_by (rules first) flush (cache_of first) ≡ (so_far.staged ++ one) ++ rest =
    so_far.split ∙ ap (λ (l : List Staged). so_far.staged ++ l) (goes_on (rules first) (cache_of store) wants).1 ∙ sym (append_assoc so_far.staged one rest) in
    stages_weaker (λ page is. subst (λ (l : List Staged). Contains (pages_staged l) page) (sym all) (among_first (so_far.staged ++ one) rest page is)) up (stages_then (λ has. omega arith) so_far.stages (stages_as turned refl push))

-- the last one
pub flushing_done : FlushEnds → {T : Type 0} {x : T} (first store : PageStore) (old now : State) (next : ℕ) → wants_flush (cache_of store) ≡ false → next_group (cache_of store) ≡ next → IsFlushing first store old now →
    Stages {T = T} (Ok x) (staged_by (rules first) flush (cache_of first)) next first store old now
flushing_done ends first store old now next none up so_far =
    let all : staged_by (rules first) flush (cache_of first) ≡ so_far.staged = so_far.split ∙ ap (λ (l : List Staged). so_far.staged ++ l) (ends (rules first) (cache_of store) none).1 ∙ append-nil so_far.staged in
    stages_as (sym all) up (stages_ok so_far.stages)
