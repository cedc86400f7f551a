-- A restore begins: the devices are blank.
use Rattle.std.proofs.Common.{◌≡◌, ◌≢◌, inl, inr, ℕ, zero, suc, ◌*◌, ◌-◌, ◌<◌, max, List, [], ◌∷◌, ◌++◌, length, take, drop, None, true, false, true≢false, refl, sym, ◌∙◌, ap, subst, arith, IsTrue}
use Rattle.std.specs.Prelude.{replicate, slice_index_or}
use Rattle.std.proofs.lemmas.List.{length-replicate}
use Rattle.site.specs.State.{State as Site, Image, Input, Snapshot, MayLeave, now_of, no_loose}
use Rattle.site.specs.declared.outside.Dev.TheVariants.{Log, Flash, Disk}
use Rattle.site.specs.declared.geometry.Geometry.{Geometry}
use Rattle.site.specs.Geometry.{HasLengths, HasLimits, blank_image}
use Rattle.site.specs.declared.outside.Stop.TheVariants.{Device, Foreign, Memory, Worn}
use Rattle.shell_text.specs.Runs.{lines_of}
use Rattle.stream_lines.specs.Lines.{pending}
use Rattle.stream_lines.proofs.Asked.{cut_none}
use Rattle.front_end.specs.declared.halt.Halt.{Halt}
use Rattle.front_end.specs.declared.halt.Halt.TheVariants as halt
use Rattle.face.specs.Causes.{HasCause}
use Rattle.archive_restore.specs.Beginning.{HasBegun}
use Rattle.site.specs.Moments.{Leaves, LeavesOnly}
use Rattle.site.specs.Calls.{IsUnchanged, Preserves}
use Rattle.site.proofs.Laws.{holds_now, image_is, in_sequence, leaves_weaker, no_call, rose_since, stays_honest, told_is, unchanged_calm}
use Rattle.record_model.specs.State.{Content, content_at, length_of}
use Rattle.log_archive.specs.Accepted.{Stream, blank_stream}
use Rattle.log_replay.specs.Stands.{StandsFor}
use Rattle.net_lines.specs.Nets.{AreLengths, while_writing}
use Rattle.engine.specs.Image.{Opens, Stands}
use Rattle.site.specs.Telling.{TellsPart}
use Rattle.engine.specs.Leaves.{LeavesTable}
use Rattle.front_end.specs.New.{IsBlank, IsNotBlank, ReadsOnce}
use Rattle.front_end.specs.declared.new_database.Unfit.{Unfit}
use Rattle.front_end.specs.declared.new_database.Unfit.TheVariants as unfit
use Rattle.face.specs.Image.{BlankLaw, blank_table}
use Rattle.archive_restore.specs.declared.fault.Fault.{Fault}
use Rattle.archive_restore.specs.declared.fault.Fault.TheVariants as fault
use Rattle.archive_restore.specs.declared.restoring.Restoring.{Restoring}
use Rattle.archive_restore.specs.Progress.{EndsEarly, HasFit, HasHeard, HasWritten, IsUntouched, NeverRestores, StopsRestoring}
use Rattle.archive_restore.specs.Restores.{EndsBy, IsBetween, IsLeft, IsTarget, StandsAfter}
use Rattle.archive_restore.specs.Texts.{fault_status}
use Rattle.archive_restore.specs.Writing.{blank_state}

zeros : (xs : List ℕ) → ((i : ℕ) → i < length xs → slice_index_or xs i 0 ≡ 0) → xs ≡ replicate (length xs) 0
zeros [] h = refl
zeros (x ∷ xs) h = λ i. h 0 (omega arith) i ∷ zeros xs (λ k less. h (suc k) (omega (arith, less))) i

zeros_to : (n : ℕ) (xs : List ℕ) → length xs ≡ n → ((i : ℕ) → i < length xs → slice_index_or xs i 0 ≡ 0) → xs ≡ replicate n 0
zeros_to n xs long h = zeros xs h ∙ ap (λ k. replicate k 0) long

image_blank : (g : Geometry) (image : Image) → HasLengths g image → IsBlank image → image ≡ blank_image g
image_blank g image lengths blank = λ i. record {
  log = zeros_to _ image.log lengths.log (λ k less. blank.log k (omega arith) less) i;
  flash = zeros_to _ image.flash lengths.flash (λ k less. blank.flash k (omega arith) less) i;
  disk = zeros_to _ image.disk lengths.disk (λ k less. blank.disk k (omega arith) less) i;
}

pub target_image : (g : Geometry) (site : Site) → IsTarget g site → site.image ≡ blank_image g
target_image g site t = image_blank g site.image t.lengths t.blank

pub blank_stand : BlankLaw → (g : Geometry) (image : Image) → HasLimits g → HasLengths g image → IsBlank image → Stands g image (blank_table g) 0
blank_stand law g image limits lengths blank = subst (λ (x : Image). Stands g x (blank_table g) 0) (sym (image_blank g image lengths blank)) (law g limits).0

-- a call keeps the lengths
pub lengths_then : (g : Geometry) (a b : Site) → HasLengths g a.image → Preserves a b → HasLengths g b.image
lengths_then g a b l goes = record { log = goes.sizes Log ∙ l.log; flash = goes.sizes Flash ∙ l.flash; disk = goes.sizes Disk ∙ l.disk }

-- the devices stand for the table without values
pub target_stands : BlankLaw → (g : Geometry) (site : Site) (s : Stream) → IsTarget g site → StandsAfter g s 0 site.image
target_stands law g site s t = subst (λ (x : Image). Stands g x (blank_table g) 0) (sym (target_image g site t)) (law g t.limits).0

-- it ends before the first commit
pub ends_first : (g : Geometry) (s : Stream) (old new : Site) (behind : List (List ℕ)) (count : ℕ) (f : Fault) → EndsBy f g [] behind s 0 old new → (IsBetween f → 0 < count) → EndsEarly g [] behind s count old new f
ends_first g s old new behind count f ends some = record {
  begun = 0;
  few = omega arith;
  most = omega arith;
  ends = ends;
  fit = λ j less. absurd (omega (arith, less));
  less = some;
}

module _ (law : BlankLaw) (g : Geometry) (old new : Site) (s : Stream) (t : IsTarget g old) (same : IsUnchanged old new) where
  quiet_still : new.loose ≡ no_loose
  quiet_still = same.loose ∙ t.quiet

  stands_still : StandsAfter g s 0 new.image
  stands_still = subst (λ (x : Image). StandsAfter g s 0 x) (sym same.image) (target_stands law g old s t)

  left_now : (snapshot : Snapshot) → MayLeave (now_of old) snapshot → IsLeft g s 0 [] old.told snapshot
  left_now snapshot left = record {
    k = 0;
    few = omega arith;
    stands = subst (λ (x : Image). StandsAfter g s 0 x) (sym (image_is (now_of old) snapshot t.quiet left)) (target_stands law g old s t);
    told = inl (told_is old snapshot left);
  }

  -- it ends where nothing was changed
  pub stops_untouched : (behind : List (List ℕ)) (count : ℕ) (f : Fault) → EndsBy f g [] behind s 0 old new → (IsBetween f → 0 < count) → StopsRestoring g [] behind s count old new f
  unfolding ends_first
  stops_untouched behind count f ends some = record {
    early = ends_first g s old new behind count f ends some;
    told = same.told;
    moments = unchanged_calm old old new (Leaves (IsLeft g s 0 [] old.told)) (no_call old (Leaves (IsLeft g s 0 [] old.told)) left_now) same;
    near = λ snapshot left. (0, omega arith, omega arith, subst (λ (x : Image). StandsAfter g s 0 x) (sym (image_is (now_of new) snapshot quiet_still left)) stands_still);
    between = λ is. stands_still;
    quiet = λ ne. quiet_still;
  }

-- the test ends it
pub untouched_unfit : (u : Unfit) (old new : Site) → IsNotBlank u old new → IsUnchanged old new → ReadsOnce old new → IsUntouched old new (fault.Unfit u)
untouched_unfit unfit.Foreign old new is same read = absurd is
untouched_unfit (unfit.Failed dev) old new is same read = record { early = inl refl; same = same; read = read }
untouched_unfit (unfit.NotBlank dev place) old new is same read = record { early = inr (inr refl); same = same; read = read }

-- or want of memory
pub never_remembers : (pool : ℕ) (g : Geometry) (old new : Site) (behind : List (List ℕ)) (count : ℕ) → StopsRestoring g [] behind (blank_stream g.pages) count old new (fault.Halt (halt.Stop Memory)) → IsUnchanged old new → ReadsOnce old new → NeverRestores pool g behind count old new (fault.Halt (halt.Stop Memory))
never_remembers pool g old new behind count stops same read = record { stops = stops; asks = inl (record { early = inr (inl refl); same = same; read = read }) }

-- no record has a value
none_there : (n i : ℕ) → content_at (replicate n None) i ≡ None
none_there zero i = refl
none_there (suc n) zero = refl
none_there (suc n) (suc i) = none_there n i

abbrev read_zero : ℕ → ℕ → ℕ
read_zero n i = slice_index_or (replicate n 0) i 0

zero_there : (n i : ℕ) → read_zero n i ≡ 0
zero_there zero i = refl
zero_there (suc n) zero = refl
zero_there (suc n) (suc i) = zero_there n i

pub blank_lengths : (g : Geometry) (room : List ℕ) → room ≡ replicate (32 * g.pages) 0 → AreLengths (while_writing (blank_table g) []) room
blank_lengths g room is = subst (AreLengths (while_writing (blank_table g) [])) (sym is) (record {
  size = length-replicate (32 * g.pages) 0 ∙ sym (length-replicate (32 * g.pages) None);
  each = λ i less. zero_there (32 * g.pages) i ∙ sym (ap (λ (c : Content). max (length_of c) 0) (none_there (32 * g.pages) i));
})

-- a run over them opens so
pub target_opens : BlankLaw → (g : Geometry) (site : Site) → IsTarget g site → Opens g site.image (blank_state g)
target_opens law g site t = subst (λ (x : Image). Opens g x (blank_state g)) (sym (target_image g site t)) (law g t.limits).1

pub tells_nothing : (site : Site) → TellsPart [] site (now_of site)
tells_nothing site = record { image = refl; loose = refl; told = λ j. (0, ap (λ (l : List ℕ). site.told ++ l) (none_taken j)) }
  where
    none_taken : (n : ℕ) → take {A = ℕ} n [] ≡ []
    none_taken zero = refl
    none_taken (suc n) = refl

-- The restart leaves the table without values.

module _ (law : BlankLaw) (g : Geometry) (old mid new : Site) (s : Stream) (t : IsTarget g old) (same : IsUnchanged old mid) (moments : LeavesOnly mid new (LeavesTable g (blank_table g) 0 mid.told)) where
  left_table : (snapshot : Snapshot) → LeavesTable g (blank_table g) 0 mid.told snapshot → IsLeft g s 0 [] old.told snapshot
  left_table snapshot l = record { k = 0; few = omega arith; stands = l.stands; told = inl (l.told ∙ same.told) }

  pub restart_moments : LeavesOnly old new (IsLeft g s 0 [] old.told)
  restart_moments = in_sequence old mid new (Leaves (IsLeft g s 0 [] old.told))
      (unchanged_calm old old mid (Leaves (IsLeft g s 0 [] old.told)) (no_call old (Leaves (IsLeft g s 0 [] old.told)) (left_now law g old mid s t same)) same)
      (leaves_weaker mid new (LeavesTable g (blank_table g) 0 mid.told) (IsLeft g s 0 [] old.told) left_table moments)

  pub restart_told : new.told ≡ old.told
  restart_told = (holds_now mid new (LeavesTable g (blank_table g) 0 mid.told) moments).told ∙ same.told

  pub stops_at_restart : (behind : List (List ℕ)) (count : ℕ) (f : Fault) → EndsBy f g [] behind s 0 old new → (IsBetween f → ⊥) → (fault_status f ≢ 3 → new.loose ≡ no_loose) → StopsRestoring g [] behind s count old new f
  unfolding ends_first
  stops_at_restart behind count f ends never quiet = record {
    early = ends_first g s old new behind count f ends (λ is. absurd (never is));
    told = restart_told;
    moments = restart_moments;
    near = λ snapshot left. (0, omega arith, omega arith, (moments.now snapshot left).stands);
    between = λ is. absurd (never is);
    quiet = quiet;
  }

-- a target that was only read is one
pub still_target : (g : Geometry) (old mid : Site) → IsTarget g old → IsUnchanged old mid → Preserves old mid → IsTarget g mid
still_target g old mid t same goes = record {
  honest = stays_honest old mid goes t.honest;
  quiet = same.loose ∙ t.quiet;
  limits = t.limits;
  lengths = subst (λ (x : Image). HasLengths g x) (sym same.image) t.lengths;
  blank = subst (λ (x : Image). IsBlank x) (sym same.image) t.blank;
}

-- devices have one geometry
pub one_geometry : (a b : Geometry) (image : Image) → HasLimits a → HasLengths a image → HasLimits b → HasLengths b image → a ≡ b
one_geometry a b image la ha lb hb =
    let log = sym ha.log ∙ hb.log in
    let flash = sym ha.flash ∙ hb.flash in
    let disk = sym ha.disk ∙ hb.disk in
    let afours = la.fours in
    let bfours = lb.fours in
    let pages : a.pages ≡ b.pages = omega (arith, disk) in
    let groups : a.groups ≡ b.groups = omega (arith, flash, afours, bfours) in
    let blocks : a.blocks ≡ b.blocks = omega (arith, log) in
    λ i. record { pages = pages i; groups = groups i; blocks = blocks i }

-- a cause since devices were only read
pub cause_since : (h : Halt) (a b c : Site) → (IsTrue a.honest → IsUnchanged a b) → Preserves a b → HasCause h b c → HasCause h a c
cause_since (halt.Stop (Device dev)) a b c same goes cause = rose_since _ _ _ (goes.faults dev) cause
cause_since (halt.Stop Memory) a b c same goes cause = tt
cause_since (halt.Stop (Worn Log)) a b c same goes cause = λ h g limits lengths.
    let worn = cause (stays_honest a b goes h) g limits (subst (λ (x : Image). HasLengths g x) (sym (same h).image) lengths) in
    (worn.0, λ table commits stands. worn.1 table commits (subst (λ (x : Image). Stands g x table commits) (sym (same h).image) stands))
cause_since (halt.Stop (Worn Flash)) a b c same goes cause = λ h g limits lengths.
    let worn = cause (stays_honest a b goes h) g limits (subst (λ (x : Image). HasLengths g x) (sym (same h).image) lengths) in
    (worn.0, λ table commits stands. worn.1 table commits (subst (λ (x : Image). Stands g x table commits) (sym (same h).image) stands))
cause_since (halt.Stop (Worn Disk)) a b c same goes cause = absurd cause
cause_since (halt.Stop Foreign) a b c same goes cause = λ h g table commits stands. cause (stays_honest a b goes h) g table commits (subst (λ (x : Image). Stands g x table commits) (sym (same h).image) stands)
cause_since halt.Input a b c same goes cause = rose_since _ _ _ goes.input_faults cause
cause_since halt.Output a b c same goes cause = rose_since _ _ _ goes.output_faults cause
cause_since halt.Limit a b c same goes cause = λ h. let over = cause (stays_honest a b goes h) in let left : length b.input.left ≡ length a.input.left = ap (λ (x : Input). length x.left) (same h).left in omega (arith, over, left)

-- no commit is written yet
pub fit_none : (g : Geometry) (r : Restoring) → r.written ≡ 0 → StandsFor g.pages (blank_stream g.pages) [] r.replay → r.cap ≡ g.blocks - 1 → r.room ≡ replicate (32 * g.pages) 0 → HasFit g (blank_stream g.pages) r
fit_none g r none replay cap room = subst (λ n. HasFit g (blank_stream g.pages) (record r { written = n })) (sym none) (record {
  replay = replay;
  few = omega arith;
  cap = cap;
  room = blank_lengths g r.room room;
  fit = λ j less. absurd (omega (arith, less));
})

pub written_none : (pool : ℕ) (g : Geometry) (entry now : Site) (r : Restoring) → r.written ≡ 0 → StandsFor g.pages (blank_stream g.pages) [] r.replay → HasBegun pool g entry now r.engine → r.cap ≡ g.blocks - 1 → r.room ≡ replicate (32 * g.pages) 0
    → HasWritten pool g (blank_stream g.pages) entry now r
written_none pool g entry now r none replay begun cap room = subst (λ n. HasWritten pool g (blank_stream g.pages) entry now (record r { written = n })) (sym none) (record {
  archived = subst (λ n. HasFit g (blank_stream g.pages) (record r { written = n })) none (fit_none g r none replay cap room);
  made = 0;
  kept = 0;
  carried = begun.carried;
  told = (holds_now entry now (LeavesTable g (blank_table g) 0 entry.told) begun.moments).told;
  moments = leaves_weaker entry now (LeavesTable g (blank_table g) 0 entry.told) (IsLeft g (blank_stream g.pages) 0 [] entry.told) (λ snapshot l. record { k = 0; few = omega arith; stands = l.stands; told = inl l.told }) begun.moments;
})

-- no line is heard yet
pub heard_none : (g : Geometry) (entry now : Site) (r : Restoring) → r.source.from ≡ r.source.to → r.source.taken ≡ 0 → r.source.ended ≡ false → now.input ≡ entry.input → HasHeard g [] (blank_stream g.pages) entry now r
heard_none g entry now r empty taken going same =
    let none : r.source.to - r.source.from ≡ 0 = omega (arith, empty) in
    record {
      all = sym (ap (lines_of true) ((λ i. take (none i) (drop r.source.from r.source.buffer) ++ (same i).left)));
      accepted = refl;
      ended = λ over. absurd (true≢false (sym over ∙ going));
      cut = cut_none r.source entry now empty same;
      count = let left : length now.input.left ≡ length entry.input.left = ap (λ (x : Input). length x.left) same in omega (arith, taken, left);
      each = let long : length (pending r.source) ≡ 0 = (λ i. length (take (none i) (drop r.source.from r.source.buffer))) in omega (arith, long);
    }
