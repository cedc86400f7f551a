-- Runs as work of the machine of the rings.
use Rattle.std.proofs.lemmas.Grind.{flat_map-append}
use Rattle.face.proofs.Names.{◌≡◌, ℕ, suc, ◌+◌, ◌-◌, ◌*◌, ◌==◌, ◌≤◌, arith, Bool, true, false, List, [], ◌∷◌, ◌++◌, length, drop, take, append_assoc, Option, Some, None, refl, sym, ap, subst, ◌∙◌, Ok, if◌then◌else◌, ◌/◌, eqb_tells, length-map, ⊤, Master, IsSound, Invariant, sizes_of, cache_on, Matches, machine_on, Engine, Run, after_lines, answered, first_lines, state_at, step, turns_of, IsPaged, AsksNoMore, works_by, IsMirrored, WearsNone, rings_by, rings_of, worn_by, HasRings, machine_by, up_to_quit, group_shape, segment_shape, logical_image_under, AreSegments, LogRecord, WritesOnly, SavesBefore, Line, Turn, turns, next_listing, later_listings, State, is_accepted, is_page_full, CacheLine, numbers_rise, hi_on, MirrorsStore, performs_as, performs_answered, first_stopped, line_work, run_work, Machine, RingOp, first_worn, Performs, restart_work, hi_of, Rules, Staged, rules_of, after_works, staged_by_works, holds_now, Site, Image, Snapshot, Geometry}
use Rattle.record_model.specs.declared.words.Command.TheVariants.{Stat, Quit, Cache, Mark}
use Rattle.std.proofs.Common.{append-nil}
use Rattle.second_chance.specs.Machine.{next_group}
use Rattle.sealed_ring.specs.declared.slots.Shape.{Shape}
use Rattle.sealed_ring.specs.Ready.{region}
use Rattle.sealed_ring.proofs.Units.{live_count}
use Rattle.face.proofs.Fronts.{whole_turns}
use Rattle.face.proofs.LinesBeforeQuit.{after_cons}
use Rattle.face.proofs.Pagings.{after_same}
use Rattle.face.proofs.Turns.{first_answered}
use Rattle.face.proofs.Runs.{turn_at, turns_next}

-- Lines that log nothing and touch no page.

idle : (b : Bool) → ◌≡◌ {A = List RingOp} (if b then [] else []) []
idle true = refl
idle false = refl

-- nor where neither is the case
pub neither : {T : Type 0} (b c : Bool) → ◌≡◌ {A = List T} (if b then [] else (if c then [] else [])) []
neither true c = refl
neither false true = refl
neither false false = refl

pub stat_work : (s : State) → line_work s (Some Stat) ≡ []
stat_work s = idle (is_accepted s Stat)

pub quit_work : (s : State) → line_work s (Some Quit) ≡ []
quit_work s = idle (is_accepted s Quit)

pub cache_work : (s : State) → line_work s (Some Cache) ≡ []
cache_work s = idle (is_accepted s Cache)

pub mark_work : (n : ℕ) (s : State) → line_work s (Some (Mark n)) ≡ []
mark_work n s = neither (is_accepted s (Mark n)) (is_page_full s (Mark n))

-- A line more does its own work behind that of the others.

pub rings_next : (run : Run) (newest : Option Master) (image : Image) (blocks : List (List LogRecord)) (i : ℕ) (line : Line) (rest : List Line) → drop i (answered run) ≡ line ∷ rest →
    rings_by run (turns_of (first_lines run (suc i))) newest image blocks ≡ rings_by run (turns_of (first_lines run i)) newest image blocks ++ line_work (state_at run i) line
rings_next run newest image blocks i line rest is =
    let restart = restart_work (logical_image_under newest run.geometry image blocks) in
    let first = turns_of (first_lines run i) in
    let own = line_work (state_at run i) line in
    ap (λ (l : List Turn). restart ++ run_work l) (turns_next run i line rest is)
    ∙ ap (λ (w : List RingOp). restart ++ w) (flat_map-append (λ (t : Turn). line_work t.before t.line) first (turn_at run i line rest is ∷ []) ∙ ap (λ (w : List RingOp). run_work first ++ w) (append-nil own))
    ∙ sym (append_assoc restart (run_work first) own)

-- The opening's line changes no device either, and nothing is asked before the first line.
pub opened_performs : (run : Run) (newest : Option Master) (image : Image) (blocks : List (List LogRecord)) (engine : Engine) {r : Rules} {start : Machine} {mid now : Image} → now ≡ mid →
    Performs {T = Engine} (Ok engine) r (restart_work (logical_image_under newest run.geometry image blocks)) (λ m. m ≡ start) (MirrorsStore engine.store mid) → Performs {T = ⊤} (Ok tt) r (rings_by run (turns_of (first_lines run 0)) newest image blocks) (λ m. m ≡ start) (MirrorsStore engine.store now)
opened_performs run newest image blocks engine {r} {start} same performs = grind (arith, performs_as, append-nil, performs_answered)

-- The work of a run, by its lines: whatever the cache lists.
pub turns_work : (s : State) (lines : List Line) (listings : List (List CacheLine)) → run_work (turns s lines listings) ≡ rings_of s (up_to_quit lines)
turns_work s [] listings = grind arith
turns_work s (line ∷ lines) listings = grind (arith, after_same, (turns_work (step s line (next_listing listings)).after lines (later_listings line listings)))

first_work : (n : ℕ) (s : State) (lines : List Line) (listings : List (List CacheLine)) → run_work (turns s (take n lines) listings) ≡ rings_of s (take n (up_to_quit lines))
first_work n s lines listings = turns_work s (take n lines) listings ∙ ap (rings_of s) (first_answered n lines)

-- by lines
pub rings_are : (run : Run) (newest : Option Master) (image : Image) (blocks : List (List LogRecord)) (n : ℕ) → rings_by run (turns_of (first_lines run n)) newest image blocks ≡ restart_work (logical_image_under newest run.geometry image blocks) ++ rings_of run.opening (take n (answered run))
rings_are run newest image blocks n = ap (λ (w : List RingOp). restart_work (logical_image_under newest run.geometry image blocks) ++ w) (first_work n run.opening run.lines run.listings)

-- lines behind others
pub rings_join : (s : State) (first later : List Line) → rings_of s (first ++ later) ≡ rings_of s first ++ rings_of (after_lines s first []) later
rings_join s [] later = grind arith
rings_join s (line ∷ first) later = grind (arith, append_assoc, after_cons, (rings_join (step s line []).after first later))

-- where some work finds none, no front of it does
pub none_prefix : (r : Rules) (first later : List RingOp) (m : Machine) → first_worn r (first ++ later) m ≡ None → first_worn r first m ≡ None
none_prefix r first later m none = grind (arith, first_stopped)

-- Whole runs.

-- a run begins with the number that flash has
pub number_at_entry : (g : Geometry) (image : Image) → next_group (cache_on g image) ≡ hi_of (group_shape g) image.flash
number_at_entry g image = grind (arith, length-map, live_count)

-- The segments behind an image, by numbers: at most four groups aren't in segments, and a segment that was saved stands before a group that was pushed.
segments_are : (groups segments groups' segments' : ℕ) → 4 * segments ≤ groups → groups ≤ 4 * segments + 4 → groups' ≤ 4 * segments' + 4 → groups ≤ groups' → SavesBefore groups' segments segments'
    → segments' ≡ (if groups' == groups then segments else (groups' - 1) / 4)
segments_are groups segments groups' segments' low high high' up either = grind (arith, eqb_tells)

-- what stands there is the machine's
pub rings_of_store : (g : Geometry) (engine : Engine) (site : Site) (s : State) (m : Machine) (staged : List Staged) (old : Image) → AreSegments g old → hi_of (group_shape g) old.flash ≤ next_group m.cache → WritesOnly g staged (next_group m.cache) old site.image →
    MirrorsStore engine.store site.image m → Matches engine site s → Invariant engine site → sizes_of engine.store ≡ g → HasRings g m old site.image
rings_of_store g engine site s m staged old saved up only mirrors fits may sizes =
    let pages = engine.store.pages in
    let flash = may.store.both.pages_going.flash in
    let fit = fits.holds.both.log_holds.ready.pages.flash in
    let next = ap next_group mirrors.both.cache in
    let groups : hi_of (group_shape g) site.image.flash ≡ next_group m.cache = omega (arith, next, flash.next, fit.hi, ap (λ (k : Geometry). hi_of (group_shape k) site.image.flash) sizes) in
    let segments : pages.flash.segments.hi ≡ hi_of (segment_shape g) site.image.flash = fit.segments_hi ∙ ap (λ (k : Geometry). hi_of (segment_shape k) site.image.flash) sizes in
    record {
      blocks = sym (hi_on engine.store.log.geometry g engine.store.log site.image (may.store.both.sizes ∙ sizes) fits.holds.both.log_holds.ready.blocks.hi) ∙ sym mirrors.both.next;
      masters = sym (subst (λ (x : Shape). engine.store.masters.hi ≡ hi_of x (region x site)) may.store.shape fits.holds.masters.hi) ∙ sym mirrors.masters;
      groups = groups;
      segments = segments_are (hi_of (group_shape g) old.flash) (hi_of (segment_shape g) old.flash) (next_group m.cache) (hi_of (segment_shape g) site.image.flash) saved.follow.follow.low saved.follow.follow.high
          (let high = flash.rings.high in omega (arith, high, segments, next, flash.next)) up only.segments;
    }

pub rings_left : (pool : ℕ) (run : Run) (newest : Option Master) (blocks : List (List LogRecord)) (i : ℕ) (engine : Engine) (entry site : Site) (now : Image) (s : State) → IsSound newest run.geometry entry.image blocks → IsPaged pool run newest entry.image blocks engine i → AsksNoMore pool (first_lines run i) entry site →
    IsMirrored pool run newest entry.image blocks engine site i → Matches engine site s → Invariant engine site → sizes_of engine.store ≡ run.geometry → now ≡ site.image →
    HasRings run.geometry (machine_by pool run (turns_of (first_lines run i)) newest entry.image blocks) entry.image now
rings_left pool run newest blocks i engine entry site now s sound paged asks mirrored fits may sizes same =
    let g = run.geometry in
    let r = rules_of pool g.groups in
    let works = works_by run (turns_of (first_lines run i)) newest entry.image blocks in
    let m = machine_by pool run (turns_of (first_lines run i)) newest entry.image blocks in
    let mirrors = (mirrored.done (machine_on g entry.image) refl).1 in
    let next : next_group (after_works r works (cache_on g entry.image)) ≡ next_group m.cache = ap next_group (sym paged.machine ∙ sym mirrors.both.cache) in
    let some : 1 ≤ r.groups = (let least = sound.octets.limits.groups in omega (arith, least)) in
    let up = numbers_rise r works (cache_on g entry.image) some in
    let only = λ (s : Snapshot). WritesOnly g (staged_by_works r works (cache_on g entry.image)) (next_group (after_works r works (cache_on g entry.image))) entry.image s.image in
    let wrote = holds_now entry site only (asks newest blocks sound).writes in
    subst (λ (x : Image). HasRings g m entry.image x) (sym same)
    (rings_of_store g engine site s m _ entry.image sound.octets.segments (omega (arith, number_at_entry g entry.image, up, next))
    (subst (λ (n : ℕ). WritesOnly g (staged_by_works r works (cache_on g entry.image)) n entry.image site.image) next wrote) mirrors fits may sizes)

-- and has found no ring at its end
pub none_mirrored : (pool : ℕ) (run : Run) (newest : Option Master) (image : Image) (blocks : List (List LogRecord)) (engine : Engine) (site : Site) (i : ℕ) → IsMirrored pool run newest image blocks engine site i → worn_by pool run (turns_of (first_lines run i)) newest image blocks ≡ None
none_mirrored pool run newest image blocks engine site i mirrored = (mirrored.done (machine_on run.geometry image) refl).0

pub wears_none : (pool : ℕ) (run : Run) (n : ℕ) → length (answered run) ≤ n → (image : Image) → WearsNone pool (first_lines run n) image → WearsNone pool run image
wears_none pool run n few image none newest blocks sound = subst (λ (l : List Turn). worn_by pool run l newest image blocks ≡ None) (whole_turns run n few) (none newest blocks sound)
