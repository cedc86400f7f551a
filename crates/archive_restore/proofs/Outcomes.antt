-- What comes of a restore, since the devices were tested.
use Rattle.std.proofs.Common.{◌≡◌, inl, inr, ⊎_elim, ℕ, zero, suc, ◌+◌, ◌-◌, ◌^◌, ◌<◌, List, [], ◌++◌, length, take, drop, true, refl, sym, ◌∙◌, ap, subst, arith, IsTrue, Ok, Err}
use Rattle.std.specs.List.{AllByRecursion}
use Rattle.site.specs.State.{State as Site, Image, Input, Moment, now_of}
use Rattle.site.specs.Calls.{IsUnchanged, Preserves}
use Rattle.site.specs.Moments.{EachMoment, Leaves, LeavesOnly}
use Rattle.site.specs.Geometry.{HasLengths, HasLimits}
use Rattle.site.specs.declared.outside.Stop.TheVariants.{Device, Foreign, Memory, Worn}
use Rattle.site.proofs.Laws.{image_is, rose_since, stays_honest}
use Rattle.site.specs.declared.geometry.Geometry.{Geometry}
use Rattle.shell_text.specs.Runs.{lines_of}
use Rattle.stream_lines.specs.Lines.{AsksFor, IsSource, to_hear}
use Rattle.stream_lines.proofs.Asked.{asks_none}
use Rattle.log_archive.specs.Accepted.{Accepted, Stream, blank_stream}
use Rattle.front_end.specs.New.{IsFirstOfAll, IsNotBlank, ReadsOnce}
use Rattle.front_end.specs.declared.halt.Halt.TheVariants as halt
use Rattle.front_end.specs.declared.new_database.Unfit.{Unfit}
use Rattle.front_end.specs.declared.new_database.Unfit.TheVariants as unfit
use Rattle.archive_restore.specs.declared.fault.Fault.{Fault}
use Rattle.archive_restore.specs.declared.fault.Fault.TheVariants as fault
use Rattle.archive_restore.specs.declared.restoring.Restoring.{Restoring}
use Rattle.archive_restore.specs.Contract.{IsKnown, RestoreOutcome}
use Rattle.archive_restore.specs.Progress.{EndsEarly, EndsOnSite, GoesOnRestoring, HasHeard, HasWritten, IsUnderWay, NeverRestores, StopsAsking, halt_in}
use Rattle.archive_restore.specs.Restores.{EndsBy, HasFaultCause, HasFewCommits, HaveFit, IsHeard, IsLeft, StandsAfter, lines_of_nets}
use Rattle.archive_restore.specs.Writing.{AsksSome, blank_state}
use Rattle.record_model.specs.State.{Write}
use Rattle.record_model.specs.Run.{Line}
use Rattle.engine.specs.Listings.{QueueIsOnFlash}
use Rattle.engine.specs.SeenVersions.{WhereItFits}
use Rattle.archive_restore.proofs.Carried.{carried_all, carried_earlier, carried_quiet, carried_stands, carried_whole}
use Rattle.archive_restore.proofs.Starts.{cause_since, one_geometry}
use Rattle.archive_restore.proofs.Taken.{asks_since, asks_still}

moments_since : (a b c : Site) (Q : Moment → Type 0) → b.past ≡ a.past → EachMoment b c Q → EachMoment a c Q
moments_since a b c Q same e = record {
  grown = subst (λ (p : List Moment). c.past ≡ p ++ drop (length p) c.past) same e.grown;
  each = subst (λ (p : List Moment). AllByRecursion Q (drop (length p) c.past)) same e.each;
  now = e.now;
}

unfit_since : (u : Unfit) (a b c : Site) → (IsTrue a.honest → IsUnchanged a b) → Preserves a b → IsNotBlank u b c → IsNotBlank u a c
unfit_since unfit.Foreign a b c same goes is = absurd is
unfit_since (unfit.Failed dev) a b c same goes is = rose_since _ _ _ (goes.faults dev) is
unfit_since (unfit.NotBlank dev place) a b c same goes is = λ h. subst (λ (x : Image). IsFirstOfAll dev place x) (same h).image (is (stays_honest a b goes h))

ends_since : (f : Fault) (g : Geometry) (lines behind : List (List ℕ)) (s : Stream) (begun : ℕ) (a b c : Site) → (IsTrue a.honest → IsUnchanged a b) → Preserves a b → EndsBy f g lines behind s begun b c → EndsBy f g lines behind s begun a c
ends_since (fault.Unfit u) g lines behind s begun a b c same goes is = unfit_since u a b c same goes is
ends_since (fault.Halt (halt.Stop stop)) g lines behind s begun a b c same goes is = cause_since (halt.Stop stop) a b c same goes is
ends_since (fault.Halt halt.Input) g lines behind s begun a b c same goes is = (cause_since halt.Input a b c same goes is.0, is.1)
ends_since (fault.Halt halt.Output) g lines behind s begun a b c same goes is = cause_since halt.Output a b c same goes is
ends_since (fault.Halt halt.Limit) g lines behind s begun a b c same goes is = (cause_since halt.Limit a b c same goes is.0, is.1)
ends_since (fault.Stream number) g lines behind s begun a b c same goes is = is
ends_since (fault.Short commits) g lines behind s begun a b c same goes is = is
ends_since fault.Full g lines behind s begun a b c same goes is = is

lines_since : (a b : Site) (lines : List (List ℕ)) → IsUnchanged a b → lines_of true b.input.left ≡ lines → lines_of true a.input.left ≡ lines
lines_since a b lines same is = ap (λ (x : Input). lines_of true x.left) (sym same.left) ∙ is

-- it ends before its last commit
pub outcome_stopped : {T : Type 0} (count pool : ℕ) (g : Geometry) (old tested new : Site) (lines behind : List (List ℕ)) (s : Stream) (f : Fault) → IsUnchanged old tested → ReadsOnce old tested → Preserves old tested → Accepted g.pages lines (blank_stream g.pages) s → lines_of true tested.input.left ≡ lines ++ behind
    → AsksFor (HasFewCommits g.pages count) tested new → StopsAsking pool g lines behind s count tested new f → RestoreOutcome {T = T} count pool g old new (Err f)
outcome_stopped count pool g old tested new lines behind s f same read goes accepted all asks stops = record {
  lines = lines;
  behind = behind;
  s = s;
  heard = record { all = lines_since old tested (lines ++ behind) same all; accepted = accepted };
  begun = stops.begun;
  few = stops.few;
  most = stops.most;
  fit = stops.fit;
  moments = moments_since old tested new (Leaves (IsLeft g s stops.begun [] old.told)) same.past (subst (λ t. LeavesOnly tested new (IsLeft g s stops.begun [] t)) same.told stops.moments);
  told = stops.told ∙ same.told;
  asks = asks_since (HasFewCommits g.pages count) old tested new same asks;
  near = stops.near;
  stops = (ends_since f g lines behind s stops.begun old tested new (λ h. same) goes stops.ends, λ is. (stops.less is, stops.between is), stops.quiet);
  done = tt;
  asks_early = inr (record { tested = tested; same = same; read = read; holds = stops.asks });
  asks_all = tt;
}

none_taken : (n : ℕ) → take {A = List Write} n [] ≡ []
none_taken zero = refl
none_taken (suc n) = refl

-- so it ends before a line was heard
pub outcome_never : {T : Type 0} (count pool : ℕ) (g : Geometry) (old new : Site) (f : Fault) → new.input ≡ old.input → NeverRestores pool g (lines_of true old.input.left) count old new f → RestoreOutcome {T = T} count pool g old new (Err f)
outcome_never count pool g old new f left never =
    let s = blank_stream g.pages in
    let stops = never.stops in
    let lines : (n : ℕ) → lines_of_nets (blank_state g) (take n s.nets) ≡ [] = (λ n. ap (lines_of_nets (blank_state g)) (none_taken n)) in
    record {
      lines = [];
      behind = lines_of true old.input.left;
      s = s;
      heard = record { all = refl; accepted = refl };
      begun = stops.begun;
      few = stops.few;
      most = stops.most;
      fit = stops.fit;
      moments = stops.moments;
      told = stops.told;
      asks = asks_none (HasFewCommits g.pages count) old new left;
      near = stops.near;
      stops = (stops.ends, λ is. (stops.less is, stops.between is), stops.quiet);
      done = tt;
      asks_early = ⊎_elim (λ untouched. inl untouched)
          (λ begins. inr (record {
            tested = begins.tested;
            same = begins.same;
            read = begins.read;
            holds = subst (λ n. AsksSome pool g n (lines_of_nets (blank_state g) (take stops.begun s.nets)) begins.tested new (halt_in f)) (sym (ap (λ (l : List Line). length l) (lines (stops.begun - 1))))
                (subst (λ (l : List Line). AsksSome pool g 0 l begins.tested new (halt_in f)) (sym (lines stops.begun)) begins.holds);
          })) never.asks;
      asks_all = tt;
    }

-- all commits are written
pub outcome_done : {T : Type 0} (count pool : ℕ) (g : Geometry) (old mid new : Site) (r r' : Restoring) (number : ℕ) (u : IsUnderWay pool count g old mid r number) → HasWritten pool g u.s u.tested new r' → r'.written ≡ count → new.input ≡ mid.input → QueueIsOnFlash → WhereItFits → (x : T) → RestoreOutcome {T = T} count pool g old new (Ok x)
outcome_done count pool g old mid new r r' number u h all input queue seen x =
    let lines = u.lines in
    let behind = lines_of true (to_hear r.source mid) in
    record {
      lines = lines;
      behind = behind;
      s = u.s;
      heard = record { all = lines_since old u.tested (lines ++ behind) u.same u.heard.all; accepted = u.heard.accepted };
      begun = r'.written;
      few = h.few;
      most = omega (arith, all);
      fit = h.fit;
      moments = moments_since old u.tested new (Leaves (IsLeft g u.s r'.written [] old.told)) u.same.past (subst (λ t. LeavesOnly u.tested new (IsLeft g u.s r'.written [] t)) u.same.told h.moments);
      told = h.told ∙ u.same.told;
      asks = asks_since (HasFewCommits g.pages count) old u.tested new u.same (asks_still (HasFewCommits g.pages count) u.tested mid new u.asks input);
      near = λ snapshot left. (r'.written, omega arith, omega arith, subst (λ (x : Image). StandsAfter g u.s r'.written x) (sym (image_is (now_of new) snapshot (carried_quiet pool g u.tested new r'.engine _ _ h.carried) left)) (carried_stands pool g u.tested new r'.engine _ _ h.carried));
      stops = tt;
      done = (all, subst (λ n. StandsAfter g u.s n new.image) all (carried_stands pool g u.tested new r'.engine _ _ h.carried), carried_quiet pool g u.tested new r'.engine _ _ h.carried);
      asks_early = tt;
      asks_all = record {
        tested = u.tested;
        same = u.same;
        read = u.read;
        holds = record {
          demands = carried_all pool g u.tested new r'.engine _ _ h.carried queue seen;
          earlier = carried_earlier pool g u.tested new r'.engine _ _ h.carried;
          all = carried_whole pool g u.tested new r'.engine _ _ h.carried;
        };
      };
    }

-- no more lines are heard than octets were taken
pub too_many : (g : Geometry) (lines : List (List ℕ)) (s : Stream) (entry now : Site) (r : Restoring) → HasHeard g lines s entry now r → IsSource r.source → length lines < 2 ^ 40 + 1
too_many g lines s entry now r h source =
    let each = h.each in
    let few = source.few in
    omega (arith, each, few)

-- What is known of it over any honest site.

pub cause_known : (f : Fault) (a b c : Site) → (IsTrue a.honest → IsUnchanged a b) → Preserves a b → HasFaultCause f b c → HasFaultCause f a c
cause_known (fault.Unfit u) a b c same goes is = unfit_since u a b c same goes is
cause_known (fault.Halt (halt.Stop (Device dev))) a b c same goes is = cause_since (halt.Stop (Device dev)) a b c same goes is
cause_known (fault.Halt (halt.Stop Memory)) a b c same goes is = tt
cause_known (fault.Halt (halt.Stop (Worn dev))) a b c same goes is = cause_since (halt.Stop (Worn dev)) a b c same goes is
cause_known (fault.Halt (halt.Stop Foreign)) a b c same goes is = λ h g limits lengths. is (stays_honest a b goes h) g limits (subst (λ (x : Image). HasLengths g x) (sym (same h).image) lengths)
cause_known (fault.Halt halt.Input) a b c same goes is = cause_since halt.Input a b c same goes is
cause_known (fault.Halt halt.Output) a b c same goes is = cause_since halt.Output a b c same goes is
cause_known (fault.Halt halt.Limit) a b c same goes is = cause_since halt.Limit a b c same goes is
cause_known (fault.Stream number) a b c same goes is = tt
cause_known (fault.Short commits) a b c same goes is = tt
cause_known fault.Full a b c same goes is = tt

module _ {T : Type 0} (count : ℕ) (g : Geometry) (old tested new : Site) (honest : IsTrue old.honest) (same : IsTrue old.honest → IsUnchanged old tested) (goes : Preserves old tested) (limits : HasLimits g) (lengths : HasLengths g old.image) where
  -- it ends before its last commit
  pub known_stopped : (f : Fault) → EndsOnSite count tested new f → IsKnown {T = T} count g old new (Err f)
  known_stopped f e =
      let is : e.g ≡ g = one_geometry e.g g old.image e.limits (subst (λ (x : Image). HasLengths e.g x) (same honest).image e.lengths) limits lengths in
      let early = subst (λ (x : Geometry). IsHeard x.pages e.lines e.behind e.s tested × EndsEarly x e.lines e.behind e.s count tested new f) is (e.early (stays_honest old tested goes honest)) in
      record {
        lines = e.lines;
        behind = e.behind;
        s = e.s;
        heard = record { all = lines_since old tested (e.lines ++ e.behind) (same honest) early.0.all; accepted = early.0.accepted };
        begun = early.1.begun;
        few = early.1.few;
        most = early.1.most;
        fit = early.1.fit;
        stops = (ends_since f g e.lines e.behind e.s early.1.begun old tested new same goes early.1.ends, early.1.less);
        done = tt;
      }

  -- all commits are written
  pub known_done : (number : ℕ) (r : Restoring) → GoesOnRestoring number tested new r → r.written ≡ count → (x : T) → IsKnown {T = T} count g old new (Ok x)
  known_done number r e all x =
      let is : e.g ≡ g = one_geometry e.g g old.image e.limits (subst (λ (x : Image). HasLengths e.g x) (same honest).image e.lengths) limits lengths in
      let accepted = subst (λ (x : Geometry). Accepted x.pages e.lines (blank_stream x.pages) e.s) is e.accepted in
      record {
        lines = e.lines;
        behind = lines_of true (to_hear r.source new);
        s = e.s;
        heard = record { all = lines_since old tested (e.lines ++ lines_of true (to_hear r.source new)) (same honest) (e.heard (stays_honest old tested goes honest)).all; accepted = accepted };
        begun = r.written;
        few = e.archived.few;
        most = omega (arith, all);
        fit = subst (λ (x : Geometry). HaveFit x e.s r.written) is e.archived.fit;
        stops = tt;
        done = all;
      }

-- it ends before a line was heard
pub known_never : {T : Type 0} (count : ℕ) (g : Geometry) (old new : Site) (f : Fault) → EndsEarly g [] (lines_of true old.input.left) (blank_stream g.pages) count old new f → IsKnown {T = T} count g old new (Err f)
known_never count g old new f e = record {
  lines = [];
  behind = lines_of true old.input.left;
  s = blank_stream g.pages;
  heard = record { all = refl; accepted = refl };
  begun = e.begun;
  few = e.few;
  most = e.most;
  fit = e.fit;
  stops = (e.ends, e.less);
  done = tt;
}
