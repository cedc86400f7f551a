-- A restore has written one commit more, or ends at it.
use Rattle.std.proofs.Common.{◌≡◌, ◌≢◌, ⊎_elim, ℕ, zero, suc, ◌+◌, ◌-◌, ◌*◌, ◌<◌, ◌≤◌, List, [], ◌∷◌, ◌++◌, length, take, true, refl, sym, ◌∙◌, ap, subst, arith, IsTrue}
use Rattle.std.specs.Prelude.{slice_index_or}
use Rattle.std.specs.List.{AllByRecursion}
use Rattle.std.proofs.lemmas.Bool.{cases_lt}
use Rattle.std.proofs.lemmas.List.{length-take-le}
use Rattle.std_lemmas.proofs.AllOf.{all_between}
use Rattle.site.specs.State.{State as Site, Image, Snapshot, now_of, no_loose}
use Rattle.site.proofs.Laws.{holds_now, image_is, stays_honest}
use Rattle.site.specs.declared.outside.Stop.TheVariants.{Device, Foreign, Memory, Worn}
use Rattle.shell_text.specs.Runs.{lines_of}
use Rattle.site.specs.declared.geometry.Geometry.{Geometry}
use Rattle.record_model.specs.State.{Content, State, Write, table_with}
use Rattle.record_model.specs.Run.{Line}
use Rattle.log_archive.specs.Accepted.{Stream, archive_table, blank_stream}
use Rattle.log_replay.specs.declared.replay.Replay.{Replay}
use Rattle.log_replay.specs.Stands.{StandsFor}
use Rattle.net_lines.specs.Nets.{AreLengths, AreWritable, Fits, idle, net_lines, while_writing}
use Rattle.net_lines.proofs.Writable.{blank_sober, sober_lines}
use Rattle.engine.specs.declared.engine.Engine.{Engine}
use Rattle.engine.specs.Image.{Stands}
use Rattle.front_end.specs.declared.halt.Halt.{Halt}
use Rattle.front_end.specs.declared.halt.Halt.TheVariants as halt
use Rattle.face.specs.Causes.{HasCause}
use Rattle.face.specs.Image.{blank_table}
use Rattle.face.specs.RunInProgress.{GoesOn}
use Rattle.stream_lines.specs.Lines.{IsSource, to_hear}
use Rattle.stream_lines.specs.declared.source.Source.{Source}
use Rattle.archive_restore.specs.declared.fault.Fault.TheVariants as fault
use Rattle.archive_restore.specs.declared.restoring.Restoring.{Restoring}
use Rattle.archive_restore.specs.Progress.{EndsEarly, EndsOnSite, GoesOnRestoring, HasFit, HasWritten, IsPopped, AsksForNets, StopsAsking}
use Rattle.archive_restore.specs.Restores.{EndsBy, FitsAt, HasFaultCause, HaveFit, IsBetween, IsHeard, StandsAfter, StandsNear, lines_of_nets, net_at}
use Rattle.archive_restore.specs.Writing.{AsksSome, FailsToWrite, HasCarried, HasWrittenNet, LeavesNet, blank_state}
use Rattle.archive_restore.proofs.Carried.{carried_quiet, carried_so_far, carried_stands}
use Rattle.archive_restore.proofs.Stills.{heard_still}
use Rattle.archive_restore.proofs.Nets.{lines_push, lines_rise, moments_more, one_more_there, split_there, table_there, take_there}

at_place : (front : List (List Write)) (x : List Write) (rest : List (List Write)) (k : ℕ) → length front ≡ k → slice_index_or (front ++ x ∷ rest) k [] ≡ x
at_place [] x rest zero is = refl
at_place [] x rest (suc k) is = absurd (omega (arith, is))
at_place (y ∷ front) x rest zero is = absurd (omega (arith, is))
at_place (y ∷ front) x rest (suc k) is = at_place front x rest k (omega (arith, is))

-- the cause of a halt in which nothing was taken
pub ends_halt : (h : Halt) (g : Geometry) (lines behind : List (List ℕ)) (s : Stream) (begun : ℕ) (old new : Site) → (h ≢ halt.Input) × (h ≢ halt.Limit) → HasCause h old new → EndsBy (fault.Halt h) g lines behind s begun old new
ends_halt (halt.Stop stop) g lines behind s begun old new ne cause = cause
ends_halt halt.Input g lines behind s begun old new ne cause = absurd (ne.0 refl)
ends_halt halt.Output g lines behind s begun old new ne cause = cause
ends_halt halt.Limit g lines behind s begun old new ne cause = absurd (ne.1 refl)

pub not_between : (h : Halt) → (h ≢ halt.Input) × (h ≢ halt.Limit) → {A : Type 0} → IsBetween (fault.Halt h) → A
not_between (halt.Stop stop) ne is = absurd is
not_between halt.Input ne is = absurd (ne.0 refl)
not_between halt.Output ne is = absurd is
not_between halt.Limit ne is = absurd (ne.1 refl)

-- nor does a device turn out to be foreign
pub halt_cause : (h : Halt) (entry now : Site) → (h ≢ halt.Input) × (h ≢ halt.Limit) → HasCause h entry now → (IsTrue entry.honest → (g : Geometry) × Stands g entry.image (blank_table g) 0) → HasFaultCause (fault.Halt h) entry now
halt_cause (halt.Stop (Device dev)) entry now ne cause stands = cause
halt_cause (halt.Stop Memory) entry now ne cause stands = cause
halt_cause (halt.Stop (Worn dev)) entry now ne cause stands = cause
halt_cause (halt.Stop Foreign) entry now ne cause stands = λ honest. let at = stands honest in absurd (cause honest at.0 (blank_table at.0) 0 at.1)
halt_cause halt.Input entry now ne cause stands = absurd (ne.0 refl)
halt_cause halt.Output entry now ne cause stands = cause
halt_cause halt.Limit entry now ne cause stands = absurd (ne.1 refl)

-- The net of the next commit is popped.
module _ (g : Geometry) (s : Stream) (before r : Restoring) (net : List Write) (a : HasFit g s before) (p : IsPopped net before r) where
  abbrev at : List Content
  at = archive_table (blank_table g) s.nets before.written

  pub replay_now : StandsFor g.pages s (take before.written s.nets ++ net ∷ []) r.replay
  replay_now = p.replay g.pages s (take before.written s.nets) a.replay

  net_is : net_at s before.written ≡ net
  net_is =
      ap (λ (l : List (List Write)). slice_index_or l before.written []) (split_there s.nets before.written net _ a.few replay_now.ledger.nets)
      ∙ at_place (take before.written s.nets) net _ before.written (length-take-le before.written s.nets a.few)

  pub one_more : before.written + 1 ≤ length s.nets
  one_more = one_more_there s.nets before.written net _ a.few replay_now.ledger.nets

  pub take_is : take (before.written + 1) s.nets ≡ take before.written s.nets ++ net ∷ []
  take_is = take_there s.nets before.written net _ a.few replay_now.ledger.nets

  pub cap_is : r.cap ≡ g.blocks - 1
  cap_is = p.cap ∙ a.cap

  pub room_now : AreLengths (while_writing at []) r.room
  room_now = subst (AreLengths (while_writing at [])) (sym p.room) a.room

  pub fits_now : Fits r.cap at net → FitsAt g s before.written
  fits_now fits = subst (Fits (g.blocks - 1) at) (sym net_is) (subst (λ n. Fits n at net) cap_is fits)

  pub fits_back : FitsAt g s before.written → Fits r.cap at net
  fits_back fits = subst (λ n. Fits n at net) (sym cap_is) (subst (Fits (g.blocks - 1) at) net_is fits)

  pub table_is : archive_table (blank_table g) s.nets (before.written + 1) ≡ table_with at net
  table_is = table_there s.nets before.written net _ a.few replay_now.ledger.nets (blank_table g)

  pub fit_more : Fits r.cap at net → HaveFit g s (before.written + 1)
  fit_more fits j less = ⊎_elim (λ earlier. a.fit j earlier)
      (λ late. let same : before.written ≡ j = omega (arith, less, late) in subst (FitsAt g s) same (fits_now fits)) (cases_lt j before.written)

  -- it is written
  pub fit_then : (engine : Engine) (room : List ℕ) → Fits r.cap at net → AreLengths (while_writing (table_with at net) []) room → HasFit g s (record r { engine = engine; room = room; written = r.written + 1 })
  fit_then engine room fits lengths =
      let more : r.written + 1 ≡ before.written + 1 = ap (λ n. n + 1) p.written in
      subst (λ n. HasFit g s (record r { engine = engine; room = room; written = n })) (sym more) (record {
        replay = subst (λ l. StandsFor g.pages s l r.replay) (sym take_is) replay_now;
        few = one_more;
        cap = cap_is;
        room = subst (λ t. AreLengths (while_writing t []) room) (sym table_is) lengths;
        fit = fit_more fits;
      })

  -- Why it isn't.
  module _ (lines behind : List (List ℕ)) (count : ℕ) (less : r.written < count) (entry now : Site) where
    pub full_here : (Fits r.cap at net → ⊥) → EndsEarly g lines behind s count entry now fault.Full
    full_here full =
        let written = p.written in
        record {
          begun = before.written;
          few = a.few;
          most = omega (arith, less, written);
          ends = (let more = one_more in omega (arith, more), λ fits. full (fits_back fits));
          fit = a.fit;
          less = λ is. omega (arith, less, written);
        }

    pub halts_here : Fits r.cap at net → (x : Halt) → (x ≢ halt.Input) × (x ≢ halt.Limit) → HasCause x entry now → EndsEarly g lines behind s count entry now (fault.Halt x)
    halts_here fits x ne cause =
        let written = p.written in
        record {
          begun = before.written + 1;
          few = one_more;
          most = omega (arith, less, written);
          ends = ends_halt x g lines behind s (before.written + 1) entry now ne cause;
          fit = fit_more fits;
          less = λ is. not_between x ne is;
        }

-- the net that is popped can be written, whatever site it is
module _ (number : ℕ) (entry now : Site) (before r : Restoring) (net : List Write) (goes : GoesOnRestoring number entry now before) (p : IsPopped net before r) where
  pub popped_writable : AreWritable (length r.room) net
  popped_writable =
      let sober = sober_lines goes.g.pages goes.lines (blank_stream goes.g.pages) goes.s (blank_sober goes.g.pages) goes.accepted in
      let are = split_there goes.s.nets before.written net _ goes.archived.few (replay_now goes.g goes.s before r net goes.archived p).ledger.nets in
      subst (λ n. AreWritable n net) (sym (ap (λ (l : List ℕ). length l) p.room ∙ goes.room))
      (all_between (AreWritable (32 * goes.g.pages)) (take before.written goes.s.nets) net _ (subst (AllByRecursion (AreWritable (32 * goes.g.pages))) are sober.nets))

  pub popped_goes : GoesOn entry now r.engine
  popped_goes = subst (λ (e : Engine). GoesOn entry now e) (sym p.engine) goes.database

  pub popped_cap : 2 ≤ r.cap
  popped_cap = subst (λ n. 2 ≤ n) (sym p.cap) goes.cap

  abbrev pub table : List Content
  table = archive_table (blank_table goes.g) goes.s.nets before.written

  pub room_goes : AreLengths (while_writing table []) r.room
  room_goes = room_now goes.g goes.s before r net goes.archived p

  -- and when it is written the restore goes on
  pub goes_more : (new : Site) (engine : Engine) (room : List ℕ) → GoesOn entry new engine → length room ≡ length r.room → (IsTrue now.honest → new.input ≡ now.input) → Fits r.cap table net → AreLengths (while_writing (table_with table net) []) room
      → GoesOnRestoring number entry new (record r { engine = engine; room = room; written = r.written + 1 })
  goes_more new engine room database size left fits lengths = record {
    database = database;
    source = subst (λ (x : Source). IsSource x) (sym p.source) goes.source;
    g = goes.g;
    limits = goes.limits;
    lengths = goes.lengths;
    lines = goes.lines;
    long = goes.long;
    s = goes.s;
    accepted = goes.accepted;
    archived = fit_then goes.g goes.s before r net goes.archived p engine room fits lengths;
    room = size ∙ ap (λ (l : List ℕ). length l) p.room ∙ goes.room;
    cap = popped_cap;
    heard = λ honest. heard_still goes.g goes.lines goes.s entry now new before (record r { engine = engine; room = room; written = r.written + 1 }) (goes.heard honest) p.source (left (stays_honest entry now goes.database.preserves honest));
    stands = goes.stands;
  }

  -- or why not
  module _ (count : ℕ) (less : r.written < count) (new : Site) where
    abbrev behind : List (List ℕ)
    behind = lines_of true (to_hear before.source now)

    heard_goes : IsTrue entry.honest → IsHeard goes.g.pages goes.lines behind goes.s entry
    heard_goes honest = record { all = (goes.heard honest).all; accepted = goes.accepted }

    pub full_on_site : (Fits r.cap table net → ⊥) → EndsOnSite count entry new fault.Full
    full_on_site full = record {
      g = goes.g;
      limits = goes.limits;
      lengths = goes.lengths;
      lines = goes.lines;
      behind = behind;
      s = goes.s;
      early = λ honest. (heard_goes honest, full_here goes.g goes.s before r net goes.archived p goes.lines behind count less entry new full);
      cause = tt;
    }

    pub halts_on_site : Fits r.cap table net → (x : Halt) → (x ≢ halt.Input) × (x ≢ halt.Limit) → HasCause x entry new → EndsOnSite count entry new (fault.Halt x)
    halts_on_site fits x ne cause = record {
      g = goes.g;
      limits = goes.limits;
      lengths = goes.lengths;
      lines = goes.lines;
      behind = behind;
      s = goes.s;
      early = λ honest. (heard_goes honest, halts_here goes.g goes.s before r net goes.archived p goes.lines behind count less entry new fits x ne cause);
      cause = halt_cause x entry new ne cause (λ honest. (goes.g, goes.stands honest));
    }

-- So many commits are written, and the net of the next one is popped.
module _ (pool : ℕ) (g : Geometry) (s : Stream) (entry mid : Site) (before r : Restoring) (net : List Write) (h : HasWritten pool g s entry mid before) (p : IsPopped net before r) where
  abbrev k : ℕ
  k = before.written

  abbrev here : List Content
  here = archive_table (blank_table g) s.nets k

  abbrev pub first : List Line
  first = lines_of_nets (blank_state g) (take k s.nets)

  caps : r.cap ≡ g.blocks - 1
  caps = cap_is g s before r net h.archived p

  more_is : archive_table (blank_table g) s.nets (k + 1) ≡ table_with here net
  more_is = table_is g s before r net h.archived p

  pub carried_now : HasCarried pool g entry mid r.engine first (idle here k h.made h.kept r.cap)
  carried_now = subst (λ n. HasCarried pool g entry mid r.engine first (idle here k h.made h.kept n)) (sym caps)
      (subst (λ (e : Engine). HasCarried pool g entry mid e first (idle here k h.made h.kept (g.blocks - 1))) (sym p.engine) h.carried)

  stands_now : StandsAfter g s k mid.image
  stands_now = carried_stands pool g entry mid before.engine first _ h.carried

  quiet_now : mid.loose ≡ no_loose
  quiet_now = carried_quiet pool g entry mid before.engine first _ h.carried

  lines_are : first ++ net_lines (idle here k h.made h.kept r.cap) net ≡ lines_of_nets (blank_state g) (take (k + 1) s.nets)
  lines_are =
      ap (λ n. first ++ net_lines (idle here k h.made h.kept n) net) caps
      ∙ ap (λ (t : State). first ++ net_lines t net) (sym h.carried.state)
      ∙ sym (ap (lines_of_nets (blank_state g)) (take_is g s before r net h.archived p) ∙ lines_push (blank_state g) (take k s.nets) net)

  -- the database has no room for it
  pub stops_full : (lines behind : List (List ℕ)) (count : ℕ) → r.written < count → (Fits r.cap here net → ⊥) → StopsAsking pool g lines behind s count entry mid fault.Full
  stops_full lines behind count less full =
      let written = p.written in
      let more = one_more g s before r net h.archived p in
      record {
        stops = record {
          early = record {
            begun = k;
            few = h.few;
            most = omega (arith, less, written);
            ends = (omega (arith, more), λ fits. full (fits_back g s before r net h.archived p fits));
            fit = h.fit;
            less = λ is. omega (arith, less, written);
          };
          told = h.told;
          moments = h.moments;
          near = λ snapshot left. (k, omega arith, omega arith, subst (λ (x : Image). StandsAfter g s k x) (sym (image_is (now_of mid) snapshot quiet_now left)) stands_now);
          between = λ is. stands_now;
          quiet = λ ne. quiet_now;
        };
        asks = carried_so_far pool g entry mid before.engine first _ h.carried halt.Output (length (lines_of_nets (blank_state g) (take (k - 1) s.nets))) (λ dev e. cc) (lines_rise (blank_state g) s.nets k);
      }

  -- Its lines were begun.
  module _ (fits : Fits r.cap here net) (new : Site) where
    -- they fail
    pub stops_halted : (lines behind : List (List ℕ)) (count : ℕ) (x : Halt) → r.written < count → (x ≢ halt.Input) × (x ≢ halt.Limit) → HasCause x entry new → FailsToWrite pool g entry (length first) (first ++ net_lines (idle here k h.made h.kept r.cap) net) here k net mid new x → StopsAsking pool g lines behind s count entry new (fault.Halt x)
    stops_halted lines behind count x less ne cause f =
        let written = p.written in
        let now = holds_now mid new (LeavesNet g here k net mid.told) f.moments in
        record {
          stops = record {
            early = record {
              begun = k + 1;
              few = one_more g s before r net h.archived p;
              most = omega (arith, less, written);
              ends = ends_halt x g lines behind s (k + 1) entry new ne cause;
              fit = fit_more g s before r net h.archived p fits;
              less = λ is. not_between x ne is;
            };
            told = now.told ∙ h.told;
            moments = moments_more g s entry.told k net entry mid new more_is h.told h.moments f.moments;
            near = λ snapshot left. near_of snapshot (f.moments.now snapshot left);
            between = λ is. not_between x ne is;
            quiet = λ other. f.quiet other;
          };
          asks = asks_here;
        }
      where
        near_of : (snapshot : Snapshot) → LeavesNet g here k net mid.told snapshot → StandsNear g s (k + 1) snapshot.image
        near_of snapshot l = ⊎_elim (λ stands. (k, omega arith, omega arith, stands)) (λ stands. (k + 1, omega arith, omega arith, subst (λ (t : List Content). Stands g snapshot.image t (k + 1)) (sym more_is) stands)) l.stands

        asks_here : AsksForNets pool g s (k + 1) entry new x
        asks_here =
            let back : k + 1 - 1 ≡ k = omega arith in
            subst (λ n. AsksSome pool g (length (lines_of_nets (blank_state g) (take n s.nets))) (lines_of_nets (blank_state g) (take (k + 1) s.nets)) entry new x) (sym back)
            (subst (λ (l : List Line). AsksSome pool g (length first) l entry new x) lines_are f.asks)

    -- or they are written
    pub written_more : (engine : Engine) (room : List ℕ) → AreLengths (while_writing (table_with here net) []) room → HasWrittenNet pool g entry mid new engine (first ++ net_lines (idle here k h.made h.kept r.cap) net) here k r.cap net
        → HasWritten pool g s entry new (record r { engine = engine; room = room; written = r.written + 1 })
    written_more engine room lengths w =
        let more : r.written + 1 ≡ k + 1 = ap (λ n. n + 1) p.written in
        let now = holds_now mid new (LeavesNet g here k net mid.told) w.moments in
        subst (λ n. HasWritten pool g s entry new (record r { engine = engine; room = room; written = n })) (sym more) (record {
          archived = subst (λ n. HasFit g s (record r { engine = engine; room = room; written = n })) more (fit_then g s before r net h.archived p engine room fits lengths);
          made = w.made;
          kept = w.kept;
          carried = carried_more engine w;
          told = now.told ∙ h.told;
          moments = moments_more g s entry.told k net entry mid new more_is h.told h.moments w.moments;
        })
      where
        carried_more : (engine : Engine) (w : HasWrittenNet pool g entry mid new engine (first ++ net_lines (idle here k h.made h.kept r.cap) net) here k r.cap net)
            → HasCarried pool g entry new engine (lines_of_nets (blank_state g) (take (k + 1) s.nets)) (idle (archive_table (blank_table g) s.nets (k + 1)) (k + 1) w.made w.kept (g.blocks - 1))
        carried_more engine w =
            subst (λ l. HasCarried pool g entry new engine l (idle (archive_table (blank_table g) s.nets (k + 1)) (k + 1) w.made w.kept (g.blocks - 1))) lines_are
            (subst (λ t. HasCarried pool g entry new engine (first ++ net_lines (idle here k h.made h.kept r.cap) net) (idle t (k + 1) w.made w.kept (g.blocks - 1))) (sym more_is)
            (subst (λ n. HasCarried pool g entry new engine (first ++ net_lines (idle here k h.made h.kept r.cap) net) (idle (table_with here net) (k + 1) w.made w.kept n)) caps w.carried))

-- a net was popped from what waits
pub popped_next : (net : List Write) (before : Restoring) (replay : Replay) → ((pages : ℕ) (s : Stream) (popped : List (List Write)) → StandsFor pages s popped before.replay → StandsFor pages s (popped ++ net ∷ []) replay)
    → IsPopped net before (record before { replay = replay })
popped_next net before replay pops = record { engine = refl; room = refl; source = refl; cap = refl; written = refl; replay = pops }

none_fits : (g : Geometry) (s : Stream) (r : Restoring) (replay : Replay) → HasFit g s r → StandsFor g.pages s (take r.written s.nets) replay → HasFit g s (record r { replay = replay })
none_fits g s r replay a stands = record { replay = stands; few = a.few; cap = a.cap; room = a.room; fit = a.fit }

-- none waits: all commits of the stream are written
pub all_written : (k : ℕ) (nets : List (List Write)) → k ≤ length nets → take k nets ≡ nets → k ≡ length nets
all_written k nets few all = let long = length-take-le k nets few in let same = ap length all in omega (arith, long, same)

pub none_popped : (pool : ℕ) (g : Geometry) (s : Stream) (entry mid : Site) (r : Restoring) (replay : Replay) → HasWritten pool g s entry mid r → StandsFor g.pages s (take r.written s.nets) replay → HasWritten pool g s entry mid (record r { replay = replay })
none_popped pool g s entry mid r replay h stands = record {
  archived = none_fits g s r replay h.archived stands;
  made = h.made;
  kept = h.kept;
  carried = h.carried;
  told = h.told;
  moments = h.moments;
}

pub none_popped_goes : (number : ℕ) (entry mid : Site) (r : Restoring) (replay : Replay) (goes : GoesOnRestoring number entry mid r) → StandsFor goes.g.pages goes.s (take r.written goes.s.nets) replay → GoesOnRestoring number entry mid (record r { replay = replay })
none_popped_goes number entry mid r replay goes stands = record {
  database = goes.database;
  source = goes.source;
  g = goes.g;
  limits = goes.limits;
  lengths = goes.lengths;
  lines = goes.lines;
  long = goes.long;
  s = goes.s;
  accepted = goes.accepted;
  archived = none_fits goes.g goes.s r replay goes.archived stands;
  room = goes.room;
  cap = goes.cap;
  heard = λ honest. heard_still goes.g goes.lines goes.s entry mid mid r (record r { replay = replay }) (goes.heard honest) refl refl;
  stands = goes.stands;
}

-- and so it is on every site
pub none_waits : (number count : ℕ) (entry mid : Site) (r : Restoring) (replay : Replay) (goes : GoesOnRestoring number entry mid r) → (take r.written goes.s.nets ≡ goes.s.nets) × StandsFor goes.g.pages goes.s (take r.written goes.s.nets) replay → r.written < count
    → (now : GoesOnRestoring number entry mid (record r { replay = replay })) × (r.written ≡ length now.s.nets) × (r.written < count)
unfolding none_popped_goes
none_waits number count entry mid r replay goes all less = (none_popped_goes number entry mid r replay goes all.1, all_written r.written goes.s.nets goes.archived.few all.0, less)
