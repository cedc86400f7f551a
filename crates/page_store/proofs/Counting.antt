-- Calls are counted by the units that are appended, and by the frames that are staged.
use Rattle.page_store.proofs.Names.{◌≡◌, ℕ, ◌+◌, ◌*◌, ◌≤◌, ◌<◌, Bool, true, false, List, [], ◌∷◌, ◌++◌, length, map, drop, arith, refl, sym, ap, subst, ◌∙◌, count_by-le-length, AllByRecursion, Change, SealsBlock, RewritesPages, AppendsGroup, AppendsSegment, AppendsMaster, ReadsAs, Makes, Reaches, Masters, Blocks, Groups, Segments, log_shape, master_shape, group_shape, segment_shape, cost_of, CallsForUnits, staging_calls, CallsForStaged, hi_of, Units, Staged, others_untouched, quiet_settled, each_weaker, works_join, works_rise, IsUnchanged, Leaves, LeavesOnly, EachMoment, SameBut, ChangesOnly, since, works_in, State, Image, Moment, Snapshot, MayLeave, MayStand, IsQuiet, IsSettled, now_of, Geometry, Dev, Log, Disk, is_unsynced, unsynced_in}
use Rattle.std.specs.Prelude.{◌==◌, ◌&&◌, not, cond, take}
use Rattle.std.proofs.lemmas.Grind.{common_steps}
use Rattle.std.proofs.lemmas.List.{length-append}
use Rattle.stage_out.proofs.Unsynced.{unsynced_join}
pub use Rattle.stage_out.proofs.Unsynced.{unsynced_untouched}

pub calls_none : (g : Geometry) (s : State) → CallsForUnits g s s
calls_none g s = record { works = omega arith; tells = omega arith }

pub calls_then : (g : Geometry) (a b c : State) → CallsForUnits g a b → CallsForUnits g b c → CallsForUnits g a c
calls_then g a b c first second = grind arith

-- nothing but counts changed
pub calls_unchanged : (g : Geometry) (old new : State) → IsUnchanged old new → CallsForUnits g old new
calls_unchanged g old new same = grind arith

-- Calls that tell nothing are all writes and syncs.

abbrev pub IsSilent : Moment → Type 0
IsSilent m = m.telling ≡ []

all_work : (moments : List Moment) → AllByRecursion IsSilent moments → length moments ≤ works_in moments
all_work [] all = omega arith
all_work (m ∷ moments) all = grind (arith, common_steps, (all_work moments))

pub silent_works : (old new : State) → EachMoment old new IsSilent → works_in new.past + length old.past ≡ works_in old.past + length new.past
silent_works old new each =
    let works = ap works_in each.grown ∙ works_join old.past (since old new) in
    let calls = ap length each.grown ∙ length-append old.past (since old new) in
    omega (arith, works_rise old new each.grown, all_work (since old new) each.each, works, calls)

-- where all that a crash may leave tells the same
no_text : (so_far telling told : List ℕ) → so_far ++ take 0 telling ≡ told → so_far ++ take 1 telling ≡ told → telling ≡ []
no_text so_far [] told none one = refl
no_text so_far (x ∷ telling) told none one =
    let same : length (so_far ++ x ∷ []) ≡ length (so_far ++ []) = ap length (one ∙ sym none) in
    absurd (omega (arith, same, length-append so_far (x ∷ []), length-append so_far []))

told_none : (told : List ℕ) (m : Moment) → Leaves (λ s. s.told ≡ told) m → IsSilent m
told_none told m leaves =
    let front = λ (k : ℕ). leaves (record { told = m.told ++ take k m.telling; image = m.image }) (record { told = (k, refl); content = λ dev. record { size = refl; kept = λ place stable. refl } }) in
    no_text m.told m.telling told (front 0) (front 1)

pub silent_leaves : (old new : State) → LeavesOnly old new (λ s. s.told ≡ old.told) → EachMoment old new IsSilent
silent_leaves old new leaves = each_weaker old new (Leaves (λ s. s.told ≡ old.told)) IsSilent (told_none old.told) leaves

-- each call that finds something of the disk loose is a write or a sync
one_few : (a b : Bool) → 0 + cond (a && b) 1 0 ≤ 0 + cond a 1 0
one_few true true = omega arith
one_few true false = omega arith
one_few false b = omega arith

unsynced_few : (moments : List Moment) → unsynced_in moments ≤ works_in moments
unsynced_few [] = omega arith
unsynced_few (m ∷ moments) =
    let one : unsynced_in (m ∷ []) ≤ works_in (m ∷ []) = one_few (length m.telling == 0) (not (length m.loose.disk == 0)) in
    omega (arith, unsynced_join (m ∷ []) moments, works_join (m ∷ []) moments, one, unsynced_few moments)

-- calls that neither write nor sync
pub unsynced_told : (old new : State) → new.past ≡ old.past ++ since old new → works_in new.past ≡ works_in old.past → unsynced_in new.past ≡ unsynced_in old.past
unsynced_told old new grown same =
    let works = ap works_in grown ∙ works_join old.past (since old new) in
    let all = ap unsynced_in grown ∙ unsynced_join old.past (since old new) in
    let few = unsynced_few (since old new) in
    omega (arith, works, all, few, same)

-- calls on the log alone, all of which its units cost
pub calls_logged : (g : Geometry) (old new : State) → IsQuiet old → ChangesOnly Log old new → length new.past + cost_of g old.image ≡ length old.past + cost_of g new.image → CallsForUnits g old new
calls_logged g old new quiet changes paid =
    let works = silent_works old new (each_weaker old new (SameBut Log old) IsSilent (λ m same. same.telling) changes.only) in
    let still = unsynced_untouched old new (quiet_settled Disk old quiet) (others_untouched Log Disk old new (λ h. cc) changes.only) in
    let told = ap length changes.only.now.told in
    record { works = omega (arith, works, still, paid); tells = omega (arith, works, told) }

-- what the units of changes cost
abbrev pub paid_by : Change → ℕ
paid_by (RewritesPages pages) = 0
paid_by (SealsBlock records) = 5
paid_by (AppendsGroup content) = 5
paid_by (AppendsSegment content) = 5
paid_by (AppendsMaster content) = 5

abbrev pub paid : List Change → ℕ
paid [] = 0
paid (change ∷ changes) = paid_by change + paid changes

pub paid_append : (first later : List Change) → paid (first ++ later) ≡ paid first + paid later
paid_append [] later = omega arith
paid_append (change ∷ first) later = let more = paid_append first later in omega (arith, more)

module _ (g : Geometry) where
  -- so many more numbers has each of the four rings
  record Numbers (blocks masters groups segments : ℕ) (old new : Image) : Type 0 where
    pub blocks_are : hi_of (log_shape g) new.log ≡ hi_of (log_shape g) old.log + blocks
    pub masters_are : hi_of master_shape new.log ≡ hi_of master_shape old.log + masters
    pub groups_are : hi_of (group_shape g) new.flash ≡ hi_of (group_shape g) old.flash + groups
    pub segments_are : hi_of (segment_shape g) new.flash ≡ hi_of (segment_shape g) old.flash + segments

  more_hi : (old new : Units) → new ≡ old → new.hi ≡ old.hi + 0
  more_hi old new same = let hi = ap (λ (u : Units). u.hi) same in omega (arith, hi)

  costs : (blocks masters groups segments : ℕ) (old new : Image) → Numbers blocks masters groups segments old new → cost_of g new ≡ cost_of g old + 5 * (blocks + masters + (groups + segments))
  costs blocks masters groups segments old new numbers = grind arith

  cost_read : (old new : Image) → ReadsAs g old new → cost_of g new ≡ cost_of g old
  cost_read old new reads =
      costs 0 0 0 0 old new (record { blocks_are = more_hi _ _ (reads.rings Blocks).units; masters_are = more_hi _ _ (reads.rings Masters).units; groups_are = more_hi _ _ (reads.rings Groups).units; segments_are = more_hi _ _ (reads.rings Segments).units })
      ∙ omega arith

  cost_made : (change : Change) (old new : Image) → Makes g change old new → cost_of g new ≡ cost_of g old + paid_by change
  cost_made (SealsBlock records) old new makes =
      costs 1 0 0 0 old new (record { blocks_are = ap (λ (u : Units). u.hi) makes.1.units; masters_are = more_hi _ _ (makes.1.others Masters (λ is. cc)).units; groups_are = more_hi _ _ (makes.1.others Groups (λ is. cc)).units; segments_are = more_hi _ _ (makes.1.others Segments (λ is. cc)).units })
  cost_made (RewritesPages pages) old new makes =
      costs 0 0 0 0 old new (record { blocks_are = more_hi _ _ (makes.rings Blocks).units; masters_are = more_hi _ _ (makes.rings Masters).units; groups_are = more_hi _ _ (makes.rings Groups).units; segments_are = more_hi _ _ (makes.rings Segments).units })
  cost_made (AppendsGroup content) old new makes =
      costs 0 0 1 0 old new (record { blocks_are = more_hi _ _ (makes.others Blocks (λ is. cc)).units; masters_are = more_hi _ _ (makes.others Masters (λ is. cc)).units; groups_are = ap (λ (u : Units). u.hi) makes.units; segments_are = more_hi _ _ (makes.others Segments (λ is. cc)).units })
  cost_made (AppendsSegment content) old new makes =
      costs 0 0 0 1 old new (record { blocks_are = more_hi _ _ (makes.others Blocks (λ is. cc)).units; masters_are = more_hi _ _ (makes.others Masters (λ is. cc)).units; groups_are = more_hi _ _ (makes.others Groups (λ is. cc)).units; segments_are = ap (λ (u : Units). u.hi) makes.units })
  cost_made (AppendsMaster content) old new makes =
      costs 0 1 0 0 old new (record { blocks_are = more_hi _ _ (makes.others Blocks (λ is. cc)).units; masters_are = ap (λ (u : Units). u.hi) makes.units; groups_are = more_hi _ _ (makes.others Groups (λ is. cc)).units; segments_are = more_hi _ _ (makes.others Segments (λ is. cc)).units })

  -- so much more an image has cost that changes have led to
  pub cost_reached : (changes : List Change) (old new : Image) → Reaches g changes old new → cost_of g new ≡ cost_of g old + paid changes
  cost_reached [] old new reads = let same = cost_read old new reads in omega (arith, same)
  cost_reached (change ∷ changes) old new reaches = grind (arith, cost_made, (cost_reached changes reaches.0 new reaches.2))

-- Frames that are staged, one after the other.

staging_joined : (m : ℕ) (first later : List Staged) → AllByRecursion (λ f. f.group < m) first → AllByRecursion (λ f. m ≤ f.group) later → staging_calls (first ++ later) ≡ staging_calls first + staging_calls later
staging_joined m [] later low high = omega arith
staging_joined m (f ∷ []) [] low high = omega arith
staging_joined m (f ∷ []) (next ∷ later) low high = grind (arith, common_steps)
staging_joined m (f ∷ next ∷ first) later low high = let more = staging_joined m (next ∷ first) later low.1 high in omega (arith, more)

within_low : (a b : ℕ) (staged : List Staged) → AllByRecursion (λ f. (a ≤ f.group) × (f.group < b)) staged → AllByRecursion (λ f. f.group < b) staged
within_low a b [] all = tt
within_low a b (f ∷ staged) all = (all.0.1, within_low a b staged all.1)

within_high : (a b : ℕ) (staged : List Staged) → AllByRecursion (λ f. (a ≤ f.group) × (f.group < b)) staged → AllByRecursion (λ f. a ≤ f.group) staged
within_high a b [] all = tt
within_high a b (f ∷ staged) all = (all.0.0, within_high a b staged all.1)

within_joined : (a b c : ℕ) (first later : List Staged) → a ≤ b → b ≤ c → AllByRecursion (λ f. (a ≤ f.group) × (f.group < b)) first → AllByRecursion (λ f. (b ≤ f.group) × (f.group < c)) later → AllByRecursion (λ f. (a ≤ f.group) × (f.group < c)) (first ++ later)
within_joined a b c [] [] up more one two = tt
within_joined a b c [] (f ∷ later) up more one two = ((let low = two.0.0 in omega (arith, low, up), two.0.1), within_joined a b c [] later up more tt two.1)
within_joined a b c (f ∷ first) later up more one two = ((one.0.0, (let high = one.0.1 in omega (arith, high, more))), within_joined a b c first later up more one.1 two)

pub staged_counts_then : (staged more : List Staged) (a b c : ℕ) (old mid new : State) → CallsForStaged staged a b old mid → CallsForStaged more b c mid new → CallsForStaged (staged ++ more) a c old new
staged_counts_then staged more a b c old mid new one two = record {
  calls = (let first = one.calls in let second = two.calls in let joined = staging_joined b staged more (within_low a b staged one.within) (within_high b c more two.within) in omega (arith, first, second, joined));
  rises = (let first = one.rises in let second = two.rises in omega (arith, first, second));
  within = within_joined a b c staged more one.rises two.rises one.within two.within;
}

-- none is staged
pub staged_counts_none : (staged : List Staged) (a b : ℕ) (old new : State) → a ≤ b → unsynced_in new.past ≡ unsynced_in old.past → staged ≡ [] → CallsForStaged staged a b old new
staged_counts_none staged a b old new up same none = subst (λ (l : List Staged). CallsForStaged l a b old new) (sym none) (record { calls = omega (arith, same); rises = up; within = tt })

pub unsynced_logged : (old new : State) → IsQuiet old → ChangesOnly Log old new → unsynced_in new.past ≡ unsynced_in old.past
unsynced_logged old new quiet changes = unsynced_untouched old new (quiet_settled Disk old quiet) (others_untouched Log Disk old new (λ h. cc) changes.only)
