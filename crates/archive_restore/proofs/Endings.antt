-- The last line is told.
use Rattle.std.proofs.Common.{◌≡◌, ◌≢◌, ◌⊎◌, inl, inr, ⊎_elim, ℕ, zero, suc, List, [], ◌++◌, length, take, refl, sym, ◌∙◌, ap, subst, arith, append-nil, IsTrue, Result, Ok, Err}
use Rattle.std.specs.Prelude.{⊤}
use Rattle.site.specs.State.{State as Site, Image, Snapshot, no_loose, now_of}
use Rattle.site.specs.Calls.{Preserves, Rose}
use Rattle.site.specs.Moments.{Leaves, LeavesOnly}
use Rattle.site.specs.Telling.{SameDevices, TellsOnly}
use Rattle.site.specs.declared.outside.Dev.{Dev}
use Rattle.site.specs.declared.outside.Failed.{Failed}
use Rattle.site.specs.declared.geometry.Geometry.{Geometry}
use Rattle.site.proofs.Laws.{image_is, in_sequence, leaves_weaker, rose_then, stays_honest, tell_leaves}
use Rattle.log_archive.specs.Accepted.{Stream}
use Rattle.site.specs.declared.outside.Stop.TheVariants.{Device, Foreign, Memory, Worn}
use Rattle.front_end.specs.New.{IsNotBlank, ReadsOnce, unfit_line}
use Rattle.front_end.specs.Refusals.{RefusesDevices}
use Rattle.front_end.specs.Tells.{Tells}
use Rattle.front_end.specs.declared.halt.Halt.TheVariants as halt
use Rattle.front_end.specs.declared.new_database.Unfit.{Unfit}
use Rattle.front_end.specs.declared.new_database.Unfit.TheVariants as unfit
use Rattle.front_end.proofs.Endings.{ends_with, refuses_devices}
use Rattle.engine.specs.Leaves.{HasNoSizes}
use Rattle.front_end.specs.declared.halt.Halt.{Halt}
use Rattle.face.specs.Causes.{HasCause, IsForeign}
use Rattle.page_store.proofs.Counting.{unsynced_told}
use Rattle.face.specs.Headline.{Resources}
use Rattle.face.specs.Working.{Demands}
use Rattle.face.specs.Run.{Run, first_lines}
use Rattle.face.proofs.CallCounts.{calls_told}
use Rattle.face.proofs.Demanded.{asked_done, demands_done, demands_failed, demands_lost}
use Rattle.archive_restore.specs.Progress.{AsksForNets, IsUntouched, halt_in, nets_lines}
use Rattle.archive_restore.specs.Writing.{blank_state, run_over}
use Rattle.archive_restore.proofs.Faults.{status_from}
use Rattle.archive_restore.proofs.Nets.{lines_rise}
use Rattle.face.proofs.CauseLaws.{cause_then, no_causes, status_causes}
use Rattle.archive_restore.proofs.Taken.{asks_still}
use Rattle.archive_restore.specs.declared.fault.Fault.{Fault}
use Rattle.archive_restore.specs.declared.fault.Fault.TheVariants as fault
use Rattle.archive_restore.specs.Contract.{AsksAsLines, EndsSo, EndsUntouched, HasAsked, IsKnown, RestoreCauses, RestoreHeadline, RestoreOutcome, RestoreTells}
use Rattle.archive_restore.specs.Refusing.{RefusesFilled, RefusesSizes, RefusesWritten}
use Rattle.archive_restore.specs.Restores.{EndsBy, HasFaultCause, HasFewCommits, HasSealed, HasTested, IsBetween, IsLeft, StandsAfter, StandsNear, TellsBehind}
use Rattle.archive_restore.specs.Texts.{fault_line, fault_status, restored_line}

unfit_then : (u : Unfit) (a b c : Site) → IsNotBlank u a b → Preserves b c → IsNotBlank u a c
unfit_then unfit.Foreign a b c is goes = is
unfit_then (unfit.Failed dev) a b c is goes = rose_then _ _ _ is (goes.faults dev)
unfit_then (unfit.NotBlank dev place) a b c is goes = is

-- why it ends holds still when that is told
ends_then : (f : Fault) (g : Geometry) (lines behind : List (List ℕ)) (s : Stream) (begun : ℕ) (a b c : Site) → EndsBy f g lines behind s begun a b → Preserves b c → (IsTrue a.honest → SameDevices b c) → EndsBy f g lines behind s begun a c
ends_then (fault.Unfit u) g lines behind s begun a b c is goes same = unfit_then u a b c is goes
ends_then (fault.Halt (halt.Stop stop)) g lines behind s begun a b c is goes same = cause_then (halt.Stop stop) a b c is goes same
ends_then (fault.Halt halt.Input) g lines behind s begun a b c is goes same = (cause_then halt.Input a b c is.0 goes same, is.1)
ends_then (fault.Halt halt.Output) g lines behind s begun a b c is goes same = cause_then halt.Output a b c is goes same
ends_then (fault.Halt halt.Limit) g lines behind s begun a b c is goes same = (cause_then halt.Limit a b c is.0 goes same, is.1)
ends_then (fault.Stream number) g lines behind s begun a b c is goes same = is
ends_then (fault.Short commits) g lines behind s begun a b c is goes same = is
ends_then fault.Full g lines behind s begun a b c is goes same = is

-- with 8 a device is worn
worn_fault : (f : Fault) → fault_status f ≡ 8 → (dev : Dev) × (f ≡ fault.Halt (halt.Stop (Worn dev)))
worn_fault (fault.Unfit unfit.Foreign) e = absurd (omega (arith, e))
worn_fault (fault.Unfit (unfit.Failed dev)) e = absurd (omega (arith, e))
worn_fault (fault.Unfit (unfit.NotBlank dev place)) e = absurd (omega (arith, e))
worn_fault (fault.Halt (halt.Stop (Device dev))) e = absurd (omega (arith, e))
worn_fault (fault.Halt (halt.Stop Memory)) e = absurd (omega (arith, e))
worn_fault (fault.Halt (halt.Stop (Worn dev))) e = (dev, refl)
worn_fault (fault.Halt (halt.Stop Foreign)) e = absurd (omega (arith, e))
worn_fault (fault.Halt halt.Input) e = absurd (omega (arith, e))
worn_fault (fault.Halt halt.Output) e = absurd (omega (arith, e))
worn_fault (fault.Halt halt.Limit) e = absurd (omega (arith, e))
worn_fault (fault.Stream number) e = absurd (omega (arith, e))
worn_fault (fault.Short commits) e = absurd (omega (arith, e))
worn_fault fault.Full e = absurd (omega (arith, e))

-- What is left while a line is told behind the work.
module _ (count pool : ℕ) (g : Geometry) (old mid new : Site) {T : Type 0} (result : Result T Fault) (o : RestoreOutcome count pool g old mid result) (line : List ℕ) {U : Type 0} (told : Result U Failed) (tells : Tells line mid new told) (honest : IsTrue mid.honest) where
  left_told : (snapshot : Snapshot) → IsLeft g o.s o.begun [] old.told snapshot → snapshot.told ≡ old.told
  left_told snapshot l = ⊎_elim (λ same. same) (λ some. some.1 ∙ ap (λ (t : List ℕ). old.told ++ t) (none_taken some.0) ∙ append-nil old.told) l.told
    where
      none_taken : (n : ℕ) → take {A = ℕ} n [] ≡ []
      none_taken zero = refl
      none_taken (suc n) = refl

  left_first : (snapshot : Snapshot) → IsLeft g o.s o.begun [] old.told snapshot → IsLeft g o.s o.begun line old.told snapshot
  left_first snapshot l = record { k = l.k; few = l.few; stands = l.stands; told = inl (left_told snapshot l) }

  left_then : (snapshot : Snapshot) → ((k : ℕ) × (snapshot.told ≡ mid.told ++ take k line)) × StandsNear g o.s o.begun snapshot.image → IsLeft g o.s o.begun line old.told snapshot
  left_then snapshot p = record {
    k = p.1.0;
    few = p.1.1;
    stands = p.1.3;
    told = inr (p.0.0, p.0.1 ∙ ap (λ (t : List ℕ). t ++ take p.0.0 line) o.told, p.1.2);
  }

  moments_told : LeavesOnly old new (IsLeft g o.s o.begun line old.told)
  moments_told = in_sequence old mid new (Leaves (IsLeft g o.s o.begun line old.told)) (leaves_weaker old mid (IsLeft g o.s o.begun [] old.told) (IsLeft g o.s o.begun line old.told) left_first o.moments)
      (leaves_weaker mid new (λ snapshot. ((k : ℕ) × (snapshot.told ≡ mid.told ++ take k line)) × StandsNear g o.s o.begun snapshot.image) (IsLeft g o.s o.begun line old.told) left_then
      (tell_leaves (StandsNear g o.s o.begun) line mid new (λ snapshot left. o.near snapshot left) (tells.any_moment honest)))

  same : SameDevices mid new
  same = tells.devices honest

  -- the devices stood so before it was told
  pub sealed_told : (k : ℕ) → mid.loose ≡ no_loose → StandsAfter g o.s k mid.image → HasSealed g o.s k old new
  sealed_told k quiet stands = record {
    stands = subst (λ (x : Image). StandsAfter g o.s k x) (sym same.image) stands;
    behind = in_sequence old mid new (Leaves (TellsBehind g o.s k old.told)) (leaves_weaker old mid (IsLeft g o.s o.begun [] old.told) (TellsBehind g o.s k old.told) (λ snapshot l. inl (left_told snapshot l)) o.moments)
        (leaves_weaker mid new (λ snapshot. ((n : ℕ) × (snapshot.told ≡ mid.told ++ take n line)) × StandsAfter g o.s k snapshot.image) (TellsBehind g o.s k old.told) (λ snapshot p. inr p.1)
        (tell_leaves (StandsAfter g o.s k) line mid new (λ snapshot left. subst (λ (x : Image). StandsAfter g o.s k x) (sym (image_is (now_of mid) snapshot quiet left)) stands) (tells.any_moment honest)));
  }

  pub headline_by : (status : ℕ) → Preserves old mid → EndsSo status line count g o.lines o.behind o.s o.begun old new (HasSealed g o.s o.begun old new) → (status ≢ 3 → mid.loose ≡ no_loose) → EndsUntouched old new status ⊎ HasTested old (AsksAsLines pool g o.s o.begun line new status) → RestoreHeadline count pool g old new status
  headline_by status goes so quiet resources = record {
    line = line;
    ended = record { lines = o.lines; behind = o.behind; s = o.s; heard = o.heard; begun = o.begun; few = o.few; most = o.most; fit = o.fit; so = so };
    ends = ends_with old.told line old mid new told goes honest o.told tells;
    moments = moments_told;
    quiet = λ ne. same.loose ∙ quiet ne;
    asks = asks_still (HasFewCommits g.pages count) old mid new o.asks same.left;
    resources = resources;
  }

  still_read : ReadsOnce old mid → ReadsOnce old new
  still_read read dev = let more = tells.reads dev in let once = read dev in omega (arith, more, once)

  -- the devices were only read
  pub untouched_told : (f : Fault) (status : ℕ) → status ≡ fault_status f → IsUntouched old mid f → EndsUntouched old new status
  untouched_told f status is u = record {
    early = subst (λ n. (n ≡ 3) ⊎ ((n ≡ 4) ⊎ (n ≡ 10))) (sym is) u.early;
    devices = record { image = same.image ∙ u.same.image; loose = same.loose ∙ u.same.loose; left = same.left ∙ u.same.left };
    read = still_read u.read;
  }

  -- its lines ask for no more where it is told that they fail
  pub asks_told : (f : Fault) (status : ℕ) → line ≡ fault_line f → status ≡ fault_status f → (tested : Site) → AsksForNets pool g o.s o.begun tested mid (halt_in f) → AsksAsLines pool g o.s o.begun line new status tested
  asks_told f status is_line is tested a =
      let run = run_over g (nets_lines g o.s o.begun) in
      let d = demands_failed pool (first_lines run a.begun) tested mid new same.image tells.reads (tells.any_moment honest) (halt_in f) a.demands in
      let some : status ≡ 0 → ⊥ = (λ zero. let from = status_from f status is in omega (arith, from, zero)) in
      record {
        begun = a.begun;
        few = a.few;
        enough = a.enough;
        asked = record {
          worn = λ eight. let w = worn_fault f (sym is ∙ eight) in (w.0, is_line ∙ ap fault_line w.1, d.worn w.0 (ap Err (ap halt_in w.1)));
          room = λ zero. absurd (some zero);
          earlier = a.earlier;
          done = λ zero. absurd (some zero);
          staged = λ zero. absurd (some zero);
          calls = λ zero. absurd (some zero);
          numbers = d.numbers;
          reads = d.reads;
        };
      }

  -- nor where it is told that all is restored
  module _ (tested : Site) (a : HasAsked pool g o.s o.begun tested mid) where
    abbrev run : Run
    run = run_over g (nets_lines g o.s o.begun)

    abbrev all : ℕ
    all = length (nets_lines g o.s o.begun)

    pub asks_done : new.told ≡ mid.told ++ line → TellsOnly (length line) mid new → AsksAsLines pool g o.s o.begun line new 0 tested
    asks_done is only =
        let each = tells.any_moment honest in
        let d : Demands {T = ⊤} pool (first_lines run all) tested new (Ok tt) = demands_done pool (first_lines run all) tested mid new same.image tells.reads each {T = ⊤} {U = ⊤} tt tt (calls_told g line mid new same.image is each.grown only) (unsynced_told mid new each.grown only.works) a.demands in
        let r : Resources pool run all [] tested new 0 = asked_done pool run all tested new {T = ⊤} tt a.all a.earlier d in
        record {
          begun = all;
          few = omega arith;
          enough = lines_rise (blank_state g) o.s.nets o.begun;
          asked = record { worn = λ eight. absurd (omega (arith, eight)); room = r.room; earlier = r.earlier; done = r.done; staged = r.staged; calls = r.calls; numbers = r.numbers; reads = r.reads };
        }

    -- or was to be told
    pub asks_lost : AsksAsLines pool g o.s o.begun line new 6 tested
    asks_lost =
        let d : Demands {T = ⊤} pool (first_lines run all) tested new (Err halt.Output) = demands_lost pool (first_lines run all) tested mid new same.image tells.reads (tells.any_moment honest) {T = ⊤} {U = ⊤} tt a.demands in
        record {
          begun = all;
          few = omega arith;
          enough = lines_rise (blank_state g) o.s.nets o.begun;
          asked = record {
            worn = λ eight. absurd (omega (arith, eight));
            room = λ zero. absurd (omega (arith, zero));
            earlier = a.earlier;
            done = λ zero. absurd (omega (arith, zero));
            staged = λ zero. absurd (omega (arith, zero));
            calls = λ zero. absurd (omega (arith, zero));
            numbers = d.numbers;
            reads = d.reads;
          };
        }

-- it is all restored
pub headline_done : (count pool status : ℕ) (g : Geometry) (old mid new : Site) {T : Type 0} (x : T) (o : RestoreOutcome count pool g old mid (Ok x)) {U : Type 0} (told : Result U Failed) (tells : Tells (restored_line count) mid new told) → IsTrue mid.honest → Preserves old mid → (status ≡ 0) ⊎ (status ≡ 6)
    → HasTested old (AsksAsLines pool g o.s o.begun (restored_line count) new status) → RestoreHeadline count pool g old new status
headline_done count pool status g old mid new x o told tells honest goes is resources =
    headline_by count pool g old mid new (Ok x) o (restored_line count) told tells honest status goes
    (inl (is, refl, o.done.0, sealed_told count pool g old mid new (Ok x) o (restored_line count) told tells honest o.begun o.done.2 (subst (λ n. StandsAfter g o.s n mid.image) (sym o.done.0) o.done.1))) (λ ne. o.done.2) (inr resources)

-- and told
pub headline_told : (count pool : ℕ) (g : Geometry) (old mid new : Site) {T : Type 0} (x : T) (o : RestoreOutcome count pool g old mid (Ok x)) {U : Type 0} (told : Result U Failed) (tells : Tells (restored_line count) mid new told) → IsTrue mid.honest → Preserves old mid → new.told ≡ mid.told ++ restored_line count → TellsOnly (length (restored_line count)) mid new
    → RestoreHeadline count pool g old new 0
headline_told count pool g old mid new x o told tells honest goes is only =
    headline_done count pool 0 g old mid new x o told tells honest goes (inl refl)
    (record { tested = o.asks_all.tested; same = o.asks_all.same; read = o.asks_all.read; holds = asks_done count pool g old mid new (Ok x) o (restored_line count) told tells honest o.asks_all.tested o.asks_all.holds is only })

pub headline_lost : (count pool : ℕ) (g : Geometry) (old mid new : Site) {T : Type 0} (x : T) (o : RestoreOutcome count pool g old mid (Ok x)) {U : Type 0} (told : Result U Failed) (tells : Tells (restored_line count) mid new told) → IsTrue mid.honest → Preserves old mid → RestoreHeadline count pool g old new 6
headline_lost count pool g old mid new x o told tells honest goes =
    headline_done count pool 6 g old mid new x o told tells honest goes (inr refl)
    (record { tested = o.asks_all.tested; same = o.asks_all.same; read = o.asks_all.read; holds = asks_lost count pool g old mid new (Ok x) o (restored_line count) told tells honest o.asks_all.tested o.asks_all.holds })

-- no device failed where all that were begun are written
between_settled : (f : Fault) → IsBetween f → fault_status f ≢ 3
between_settled (fault.Stream number) is e = omega (arith, e)
between_settled (fault.Short commits) is e = omega (arith, e)
between_settled fault.Full is e = omega (arith, e)
between_settled (fault.Halt (halt.Stop stop)) is e = absurd is
between_settled (fault.Halt halt.Input) is e = omega (arith, e)
between_settled (fault.Halt halt.Output) is e = absurd is
between_settled (fault.Halt halt.Limit) is e = omega (arith, e)
between_settled (fault.Unfit unfit) is e = absurd is

-- or it ends before
pub headline_stopped : (count pool status : ℕ) (g : Geometry) (old mid new : Site) {T : Type 0} (f : Fault) (o : RestoreOutcome {T = T} count pool g old mid (Err f)) {U : Type 0} (told : Result U Failed) (tells : Tells (fault_line f) mid new told) → IsTrue mid.honest → Preserves old mid → status ≡ fault_status f → RestoreHeadline count pool g old new status
headline_stopped count pool status g old mid new f o told tells honest goes is =
    headline_by count pool g old mid new (Err f) o (fault_line f) told tells honest status goes
    (inr (
      f,
      is,
      refl,
      ends_then f g o.lines o.behind o.s o.begun old mid new o.stops.0 tells.preserves (λ h. tells.devices honest),
      λ between. let b = o.stops.1 between in (b.0, sealed_told count pool g old mid new (Err f) o (fault_line f) told tells honest o.begun (o.stops.2 (between_settled f between)) b.1),
    )) (λ ne. o.stops.2 (λ e. ne (is ∙ e)))
    (⊎_elim (λ untouched. inl (untouched_told count pool g old mid new (Err f) o (fault_line f) told tells honest f status is untouched))
    (λ some. inr (record { tested = some.tested; same = some.same; read = some.read; holds = asks_told count pool g old mid new (Err f) o (fault_line f) told tells honest f status refl is some.tested some.holds })) o.asks_early)

-- Over any honest site the line comes last.
module _ {T : Type 0} (count : ℕ) (g : Geometry) (old mid new : Site) (goes : Preserves old mid) (honest : IsTrue mid.honest) where
  tells_by : (result : Result T Fault) (k : IsKnown count g old mid result) (line : List ℕ) {U : Type 0} (told : Result U Failed) → Tells line mid new told → (status : ℕ) → EndsSo status line count g k.lines k.behind k.s k.begun old new (Unit {0}) → RestoreTells count g old new status
  tells_by result k line told tells status so = record {
    line = line;
    ended = record { lines = k.lines; behind = k.behind; s = k.s; heard = k.heard; begun = k.begun; few = k.few; most = k.most; fit = k.fit; so = so };
    before = mid.told;
    ends = ends_with mid.told line old mid new told goes honest refl tells;
  }

  pub tells_done : (x : T) → IsKnown count g old mid (Ok x) → {U : Type 0} (told : Result U Failed) → Tells (restored_line count) mid new told → (status : ℕ) → (status ≡ 0) ⊎ (status ≡ 6) → RestoreTells count g old new status
  tells_done x k told tells status is = tells_by (Ok x) k (restored_line count) told tells status (inl (is, refl, k.done, tt))

  pub tells_stopped : (f : Fault) → IsKnown {T = T} count g old mid (Err f) → {U : Type 0} (told : Result U Failed) → Tells (fault_line f) mid new told → (status : ℕ) → status ≡ fault_status f → RestoreTells count g old new status
  tells_stopped f k told tells status is = tells_by (Err f) k (fault_line f) told tells status
      (inr (f, is, refl, ends_then f g k.lines k.behind k.s k.begun old mid new k.stops.0 tells.preserves (λ h. tells.devices honest), λ between. (k.stops.1 between, tt)))

-- When each status comes, on every site.

foreign_now : (site : Site) → (IsTrue site.honest → HasNoSizes site) → IsForeign site
foreign_now site none = λ honest g table commits stands. none honest g stands.stands.sound.octets.limits stands.stands.sound.octets.lengths

halt_causes : (h : Halt) (status : ℕ) (old mid new : Site) → status ≡ fault_status (fault.Halt h) → (status ≢ 9) → HasCause h old mid → Preserves mid new → (IsTrue old.honest → SameDevices mid new) → RestoreCauses old new status
halt_causes h status old mid new is other cause goes same = record { others = inl (status_causes h status old new is (cause_then h old mid new cause goes same)); foreign = λ nine. absurd (other nine) }

other_causes : (status : ℕ) (old new : Site) → (status ≡ 10) ⊎ ((status ≡ 13) ⊎ ((status ≡ 14) ⊎ (status ≡ 15))) → status ≢ 9 → RestoreCauses old new status
other_causes status old new is other = record { others = inr is; foreign = λ nine. absurd (other nine) }

pub causes_stopped : (f : Fault) (status : ℕ) (old mid new : Site) → status ≡ fault_status f → HasFaultCause f old mid → Preserves mid new → (IsTrue old.honest → SameDevices mid new) → RestoreCauses old new status
causes_stopped (fault.Unfit unfit.Foreign) status old mid new is cause goes same = absurd cause
causes_stopped (fault.Unfit (unfit.Failed dev)) status old mid new is cause goes same = halt_causes (halt.Stop (Device dev)) status old mid new is (λ nine. omega (arith, is, nine)) cause goes same
causes_stopped (fault.Unfit (unfit.NotBlank dev place)) status old mid new is cause goes same = other_causes status old new (inl is) (λ nine. omega (arith, is, nine))
causes_stopped (fault.Halt (halt.Stop (Device dev))) status old mid new is cause goes same = halt_causes (halt.Stop (Device dev)) status old mid new is (λ nine. omega (arith, is, nine)) cause goes same
causes_stopped (fault.Halt (halt.Stop Memory)) status old mid new is cause goes same = halt_causes (halt.Stop Memory) status old mid new is (λ nine. omega (arith, is, nine)) tt goes same
causes_stopped (fault.Halt (halt.Stop (Worn dev))) status old mid new is cause goes same = halt_causes (halt.Stop (Worn dev)) status old mid new is (λ nine. omega (arith, is, nine)) cause goes same
causes_stopped (fault.Halt (halt.Stop Foreign)) status old mid new is cause goes same = record { others = inl (status_causes (halt.Stop Foreign) status old new is (foreign_now old cause)); foreign = λ nine. cause }
causes_stopped (fault.Halt halt.Input) status old mid new is cause goes same = halt_causes halt.Input status old mid new is (λ nine. omega (arith, is, nine)) cause goes same
causes_stopped (fault.Halt halt.Output) status old mid new is cause goes same = halt_causes halt.Output status old mid new is (λ nine. omega (arith, is, nine)) cause goes same
causes_stopped (fault.Halt halt.Limit) status old mid new is cause goes same = halt_causes halt.Limit status old mid new is (λ nine. omega (arith, is, nine)) cause goes same
causes_stopped (fault.Stream number) status old mid new is cause goes same = other_causes status old new (inr (inl is)) (λ nine. omega (arith, is, nine))
causes_stopped (fault.Short commits) status old mid new is cause goes same = other_causes status old new (inr (inr (inl is))) (λ nine. omega (arith, is, nine))
causes_stopped fault.Full status old mid new is cause goes same = other_causes status old new (inr (inr (inr is))) (λ nine. omega (arith, is, nine))

pub causes_none : (old new : Site) → RestoreCauses old new 0
causes_none old new = record { others = inl (no_causes old new); foreign = λ nine. absurd (omega (arith, nine)) }

pub causes_untold : (old new : Site) → Rose old.output_faults new.output_faults → RestoreCauses old new 6
causes_untold old new rose = record { others = inl (status_causes halt.Output 6 old new refl rose); foreign = λ nine. absurd (omega (arith, nine)) }

-- Devices that are refused.

pub refuses_told : {U : Type 0} (f : Fault) (status : ℕ) (old mid new : Site) (told : Result U Failed) → status ≡ fault_status f → RefusesSizes {T = ⊤} (Err f) old mid → Tells (fault_line f) mid new told → RefusesDevices status old new
refuses_told f status old mid new told is refused tells =
    refuses_devices (halt.Stop Foreign) status old mid new told (is ∙ ap fault_status refused.0) (refl, refused.1) (subst (λ (x : Fault). Tells (fault_line x) mid new told) refused.0 tells)

pub filled_told : {U : Type 0} (f : Fault) (status : ℕ) (old mid new : Site) (told : Result U Failed) → Preserves old mid → IsTrue old.honest → status ≡ fault_status f → RefusesWritten {T = ⊤} (Err f) old mid → Tells (fault_line f) mid new told → RefusesFilled status old new
filled_told f status old mid new told goes honest is (u, same_fault, why, still) tells =
    let there = stays_honest old mid goes honest in
    let devices = tells.devices there in
    record {
      unfit = u;
      is = is ∙ ap fault_status same_fault;
      why = unfit_then u old mid new why tells.preserves;
      line = ends_with old.told (unfit_line u) old mid new told goes there still.told (subst (λ (x : Fault). Tells (fault_line x) mid new told) same_fault tells);
      devices = record { image = devices.image ∙ still.image; loose = devices.loose ∙ still.loose; left = devices.left ∙ still.left };
    }
