-- Laws on what a crash may leave, and on the moments of calls.
use Rattle.std.proofs.Common.{arith}
use Rattle.std.proofs.lemmas.Grind.{common_steps}
use Rattle.std.proofs.Common.{IsTrue, ◌≡◌, ◌≢◌, ◌⊎◌, inl, inr, ℕ, zero, ◌+◌, ◌≤◌, ◌<◌, Bool, true, false}
use Rattle.std.proofs.Common.{true≢false, List, [], ◌∷◌, ◌++◌, length, take, drop, get_or, refl, sym, ◌∙◌, ap, subst}
use Rattle.std.proofs.Common.{append_assoc}
use Rattle.std.proofs.Common.{zero-le, le_trans, le_refl, le-add_right, add_assoc, add-sub_of_le, add-le-add}
use Rattle.std.proofs.Math.Nat.{min-le_left, min-le_right, le-min}
use Rattle.std.proofs.Math.ListN.{get_or-append}
use Rattle.std.proofs.lemmas.List.{same_lists, get_or_default, get_or-append-add, get_or-take, get_or-drop}
use Rattle.std.proofs.lemmas.List.{length-append, length-take-le, length-drop, drop_at, append-nil, take_all}
use Rattle.std.proofs.lemmas.Bool.{cases_lt, or_parts, and_from, and_left, and_right, lt-leb, le-leb, lt-ltb, le-ltb}
use Rattle.std.specs.List.{AllByRecursion}
use Rattle.std.specs.Prelude.{Result, Ok, Err, OnOk}
use Rattle.site.specs.declared.outside.Dev.{Dev}
use Rattle.site.specs.declared.outside.Dev.TheVariants.{Log, Flash, Disk}
use Rattle.site.specs.declared.outside.Failed.{Failed}
use Rattle.site.specs.State.{State, Image, Loose, Range, Moment, Snapshot, MayStand, MayLeave, content_of, with_content}
use Rattle.site.specs.State.{loose_of, with_loose, is_loose, is_within, faults_of, now_of, snapshot_of}
use Rattle.site.specs.State.{IsSettled, IsQuiet, no_loose}
use Rattle.site.specs.Calls.{IsUnchanged, Preserves, Rose, put, range, within_write, Adds, Lies}
use Rattle.site.specs.Calls.{Stays, Wrote, Synced}
use Rattle.site.specs.Moments.{Leaves, since, EachMoment, LeavesOnly, SameBut, OnlyDevice, ChangesOnly, SameAt}
use Rattle.site.specs.Moments.{Untouched}
use Rattle.site.specs.Telling.{TellsPart, SameDevices}

-- one device's content and loose ranges

pub content_of-same : (dev : Dev) (c : List ℕ) (image : Image) → content_of dev (with_content dev c image) ≡ c
content_of-same Log c image = refl
content_of-same Flash c image = refl
content_of-same Disk c image = refl

pub content_of-other : (dev d : Dev) (c : List ℕ) (image : Image) → d ≢ dev
    → content_of d (with_content dev c image) ≡ content_of d image
content_of-other Log Log c image ne = absurd (ne refl)
content_of-other Log Flash c image ne = refl
content_of-other Log Disk c image ne = refl
content_of-other Flash Log c image ne = refl
content_of-other Flash Flash c image ne = absurd (ne refl)
content_of-other Flash Disk c image ne = refl
content_of-other Disk Log c image ne = refl
content_of-other Disk Flash c image ne = refl
content_of-other Disk Disk c image ne = absurd (ne refl)

pub loose_of-same : (dev : Dev) (rs : List Range) (loose : Loose) → loose_of dev (with_loose dev rs loose) ≡ rs
loose_of-same Log rs loose = refl
loose_of-same Flash rs loose = refl
loose_of-same Disk rs loose = refl

pub loose_of-other : (dev d : Dev) (rs : List Range) (loose : Loose) → d ≢ dev
    → loose_of d (with_loose dev rs loose) ≡ loose_of d loose
loose_of-other Log Log rs loose ne = absurd (ne refl)
loose_of-other Log Flash rs loose ne = refl
loose_of-other Log Disk rs loose ne = refl
loose_of-other Flash Log rs loose ne = refl
loose_of-other Flash Flash rs loose ne = absurd (ne refl)
loose_of-other Flash Disk rs loose ne = refl
loose_of-other Disk Log rs loose ne = refl
loose_of-other Disk Flash rs loose ne = refl
loose_of-other Disk Disk rs loose ne = absurd (ne refl)

abbrev is_log : Dev → Bool
is_log Log = true
is_log Flash = false
is_log Disk = false

abbrev is_flash : Dev → Bool
is_flash Log = false
is_flash Flash = true
is_flash Disk = false

-- a device is this one or another
pub cases_dev : (d dev : Dev) → (d ≡ dev) ⊎ (d ≢ dev)
cases_dev Log Log = inl refl
cases_dev Log Flash = inr (λ same. true≢false (ap is_log same))
cases_dev Log Disk = inr (λ same. true≢false (ap is_log same))
cases_dev Flash Log = inr (λ same. true≢false (sym (ap is_log same)))
cases_dev Flash Flash = inl refl
cases_dev Flash Disk = inr (λ same. true≢false (ap is_flash same))
cases_dev Disk Log = inr (λ same. true≢false (sym (ap is_log same)))
cases_dev Disk Flash = inr (λ same. true≢false (sym (ap is_flash same)))
cases_dev Disk Disk = inl refl

-- moments

-- one call more, with one moment within it
pub one_call : (old new : State) (m : Moment) (Q : Moment → Type 0) → Adds m old new ⊎ Stays old new → Q m
    → Q (now_of new) → EachMoment old new Q
one_call old new m Q (inl past) within now =
    let is : since old new ≡ m ∷ [] =
    ap (λ (l : List Moment). drop (length old.past) l) past ∙ drop_at old.past (m ∷ []) (length old.past) refl in
    record {
      grown = past ∙ ap (λ (l : List Moment). old.past ++ l) (sym is);
      each = subst (AllByRecursion Q) (sym is) (within, tt);
      now = now;
    }
one_call old new m Q (inr stays) within now =
    let past : new.past ≡ old.past ++ [] = stays.past ∙ sym (append-nil old.past) in
    let is : since old new ≡ [] = ap (λ (l : List Moment). drop (length old.past) l) past ∙ drop_at old.past []
    (length old.past) refl in
    record {
      grown = past ∙ ap (λ (l : List Moment). old.past ++ l) (sym is);
      each = subst (AllByRecursion Q) (sym is) tt;
      now = now;
    }

all_append : (Q : Moment → Type 0) (xs ys : List Moment) → AllByRecursion Q xs → AllByRecursion Q ys
    → AllByRecursion Q (xs ++ ys)
all_append Q [] ys a b = b
all_append Q (x ∷ xs) ys a b = (a.0, all_append Q xs ys a.1 b)

-- one run after another
pub in_sequence : (a b c : State) (Q : Moment → Type 0) → EachMoment a b Q → EachMoment b c Q → EachMoment a c Q
in_sequence a b c Q first second = grind (arith, common_steps, append_assoc, drop_at, all_append)

all_weaker : (Q R : Moment → Type 0) → ((m : Moment) → Q m → R m) → (xs : List Moment) → AllByRecursion Q xs
    → AllByRecursion R xs
all_weaker Q R f [] a = a
all_weaker Q R f (x ∷ xs) a = (f x a.0, all_weaker Q R f xs a.1)

pub each_weaker : (a b : State) (Q R : Moment → Type 0) → ((m : Moment) → Q m → R m) → EachMoment a b Q
    → EachMoment a b R
each_weaker a b Q R f e = grind (arith, common_steps, all_weaker)

pub leaves_weaker : (a b : State) (P R : Snapshot → Type 0) → ((s : Snapshot) → P s → R s) → LeavesOnly a b P
    → LeavesOnly a b R
leaves_weaker a b P R f e = each_weaker a b (Leaves P) (Leaves R) (λ m q s l. f s (q s l)) e

-- a write into a content

front : (c : List ℕ) (at : ℕ) (bytes : List ℕ) → at + length bytes ≤ length c → length (take at c) ≡ at
front c at bytes fits = length-take-le at c (le_trans (le-add_right at (length bytes)) fits)

-- what stands from the place of the write on
put_from : (c : List ℕ) (at : ℕ) (bytes : List ℕ) (k : ℕ) → at + length bytes ≤ length c
    → get_or (put c at bytes) (at + k) 0 ≡ get_or (bytes ++ drop (at + length bytes) c) k 0
put_from c at bytes k fits = ap (λ (j : ℕ). get_or (put c at bytes) (j + k) 0) (sym (front c at bytes fits)) ∙
    get_or-append-add (take at c) (bytes ++ drop (at + length bytes) c) k 0

pub length-put : (c : List ℕ) (at : ℕ) (bytes : List ℕ) → at + length bytes ≤ length c
    → length (put c at bytes) ≡ length c
length-put c at bytes fits = grind (arith, common_steps, length-append, front, length-drop, add_assoc, add-sub_of_le)

pub put_below : (c : List ℕ) (at : ℕ) (bytes : List ℕ) (place : ℕ) → at + length bytes ≤ length c → place < at
    → get_or (put c at bytes) place 0 ≡ get_or c place 0
put_below c at bytes place fits lt = grind (arith, common_steps, get_or-append, front, get_or-take)

pub put_behind : (c : List ℕ) (at : ℕ) (bytes : List ℕ) (place : ℕ) → at + length bytes ≤ length c
    → at + length bytes ≤ place → get_or (put c at bytes) place 0 ≡ get_or c place 0
put_behind c at bytes place fits le = grind (arith, common_steps, add-sub_of_le, add_assoc, put_from, get_or-append-add, get_or-drop)

pub put_here : (c : List ℕ) (at : ℕ) (bytes : List ℕ) (k : ℕ) → at + length bytes ≤ length c → k < length bytes
    → get_or (put c at bytes) (at + k) 0 ≡ get_or bytes k 0
put_here c at bytes k fits lt = put_from c at bytes k fits ∙ get_or-append bytes (drop (at + length bytes) c) 0 k lt

-- a place that isn't in a range lies before it or behind it
pub not_within : (at n place : ℕ) → is_within (range at n) place ≡ false → (place < at) ⊎ (at + n ≤ place)
not_within at n place out = grind (arith, common_steps, cases_lt, and_from, le-leb, lt-ltb)

pub within_not : (at n place : ℕ) → (place < at) ⊎ (at + n ≤ place) → is_within (range at n) place ≡ false
within_not at n place (inl below) = and_left _ _ (lt-leb at place below)
within_not at n place (inr behind) = and_right _ _ (le-ltb place (at + n) behind)

-- what may stand after a step may stand before it, where what was loose stays loose
pub stands_back : (rs rs' : List Range) (b b' now : List ℕ) → MayStand rs' b' now → length b' ≡ length b
    → ((place : ℕ) → is_loose rs place ≡ false → (is_loose rs' place ≡ false) × (get_or b' place 0 ≡ get_or b place 0))
    → MayStand rs b now
stands_back rs rs' b b' now m size kept = grind (arith, common_steps)

-- the same of a device, known by its loose ranges and its content
stands_at : (rs rs' : List Range) (b b' now : List ℕ) → rs ≡ rs' → b ≡ b' → MayStand rs b now → MayStand rs' b' now
stands_at rs rs' b b' now r c m =
    subst (λ (x : List ℕ). MayStand rs' x now) c (subst (λ (x : List Range). MayStand x b now) r m)

-- what may stand after a write may stand within it
pub put_stands : (rs : List Range) (b now : List ℕ) (at n : ℕ) (bytes : List ℕ) → length bytes ≡ n → at + n ≤ length b
    → MayStand (range at n ∷ rs) (put b at bytes) now → MayStand (range at n ∷ rs) b now
put_stands rs b now at n bytes is fits m = grind (arith, common_steps, stands_back, length-put, or_parts, not_within, put_below, put_behind)

-- what may stand may stand where one range more is loose
pub more_loose : (r : Range) (rs : List Range) (b now : List ℕ) → MayStand rs b now → MayStand (r ∷ rs) b now
more_loose r rs b now m = stands_back (r ∷ rs) rs b b now m refl
    (λ place out. ((or_parts (is_within r place) (is_loose rs place) out).1, refl))

-- what is left after a write, the moment within it might have left
lies_leaves : (dev : Dev) (at : ℕ) (bytes : List ℕ) (old new : State) (n : ℕ) (s : Snapshot) → length bytes ≡ n
    → at + n ≤ length (content_of dev old.image) → Lies dev at bytes old new → new.told ≡ old.told
    → MayLeave (now_of new) s → MayLeave (within_write dev at n old) s
lies_leaves dev at bytes old new n s is fits lies told m = record {
  told = (m.told.0, m.told.1 ∙ ap (λ (l : List ℕ). l ++ take m.told.0 []) told);
  content = λ d. elim (cases_dev d dev) [
    | inl same ↦ subst (λ (x : Dev). MayStand
        (loose_of x (with_loose dev (range at n ∷ loose_of dev old.loose) old.loose)) (content_of x old.image)
        (content_of x s.image)) (sym same) here
    | inr other ↦ stands_at (loose_of d new.loose)
        (loose_of d (with_loose dev (range at n ∷ loose_of dev old.loose) old.loose)) (content_of d new.image)
        (content_of d old.image) (content_of d s.image)
        (ap (loose_of d) lies.loose ∙ loose_of-other dev d (range at (length bytes) ∷ loose_of dev old.loose) old.loose
        other ∙ sym (loose_of-other dev d (range at n ∷ loose_of dev old.loose) old.loose other))
        (ap (content_of d) lies.image ∙ content_of-other dev d (put (content_of dev old.image) at bytes)
        old.image other)
        (m.content d)
  ];
}
  where
    ranges : loose_of dev new.loose ≡ range at n ∷ loose_of dev old.loose
    ranges = ap (loose_of dev) lies.loose ∙ loose_of-same dev (range at (length bytes) ∷ loose_of dev old.loose)
        old.loose ∙ ap (λ (k : ℕ). range at k ∷ loose_of dev old.loose) is

    here : MayStand (loose_of dev (with_loose dev (range at n ∷ loose_of dev old.loose) old.loose))
        (content_of dev old.image) (content_of dev s.image)
    here = stands_at _ _ _ _ _ (sym (loose_of-same dev (range at n ∷ loose_of dev old.loose) old.loose)) refl
        (put_stands (loose_of dev old.loose) (content_of dev old.image) (content_of dev s.image) at n bytes is fits
        (stands_at _ _ _ _ _ ranges (ap (content_of dev) lies.image ∙ content_of-same dev
        (put (content_of dev old.image) at bytes) old.image) (m.content dev)))

stays_leaves : (dev : Dev) (at n : ℕ) (old new : State) (s : Snapshot) → Stays old new → new.told ≡ old.told
    → MayLeave (now_of new) s → MayLeave (within_write dev at n old) s
stays_leaves dev at n old new s stays told m = grind (arith, common_steps, cases_dev, stands_at, loose_of-same, more_loose, loose_of-other)

pub wrote_leaves : {T : Type 0} (dev : Dev) (at : ℕ) (bytes : List ℕ) (old new : State) (result : Result T Failed)
    (s : Snapshot) → at + length bytes ≤ length (content_of dev old.image) → Wrote dev at bytes old new result
    → MayLeave (now_of new) s → MayLeave (within_write dev at (length bytes) old) s
wrote_leaves dev at bytes old new (Ok x) s fits w m =
    lies_leaves dev at bytes old new (length bytes) s refl fits w.written w.told m
wrote_leaves dev at bytes old new (Err e) s fits w m = elim w.failed [
  | inl stays ↦ stays_leaves dev at (length bytes) old new s stays w.told m
  | inr lost ↦ lies_leaves dev at lost.0 old new (length bytes) s lost.1 fits lost.2 w.told m
]

-- what is left after a sync might have been left before it
pub synced_leaves : {T : Type 0} (dev : Dev) (old new : State) (result : Result T Failed) (s : Snapshot)
    → Synced dev old new result → MayLeave (now_of new) s → MayLeave (now_of old) s
synced_leaves dev old new (Ok x) s w m = record {
  told = (m.told.0, m.told.1 ∙ ap (λ (l : List ℕ). l ++ take m.told.0 []) w.told);
  content = λ d. elim (cases_dev d dev) [
    | inl same ↦ subst (λ (x : Dev). MayStand (loose_of x old.loose) (content_of x old.image)
        (content_of x s.image)) (sym same)
        (stands_back (loose_of dev old.loose) [] _ _ _
        (stands_at _ _ _ _ _ (ap (loose_of dev) w.settled ∙ loose_of-same dev [] old.loose)
        (ap (content_of dev) w.image) (m.content dev)) refl (λ place out. (refl, refl)))
    | inr other ↦ stands_at _ _ _ _ _ (ap (loose_of d) w.settled ∙ loose_of-other dev d [] old.loose other)
        (ap (content_of d) w.image) (m.content d)
  ];
}
synced_leaves dev old new (Err e) s w m = record {
  told = (m.told.0, m.told.1 ∙ ap (λ (l : List ℕ). l ++ take m.told.0 []) w.told);
  content = λ d. stands_at _ _ _ _ _ (ap (loose_of d) w.failed) (ap (content_of d) w.image) (m.content d);
}

-- a write goes on: what the moment within it leaves is all that has to be shown
pub write_leaves_only : {T : Type 0} (dev : Dev) (at : ℕ) (bytes : List ℕ) (old new : State) (result : Result T Failed)
    (P : Snapshot → Type 0) → at + length bytes ≤ length (content_of dev old.image) → Wrote dev at bytes old new result
    → Leaves P (within_write dev at (length bytes) old) → LeavesOnly old new P
write_leaves_only dev at bytes old new result P fits w leaves =
    one_call old new (within_write dev at (length bytes) old) (Leaves P) w.past leaves
    (λ s m. leaves s (wrote_leaves dev at bytes old new result s fits w m))

-- and a sync leaves what might have been left before it
pub sync_leaves_only : {T : Type 0} (dev : Dev) (old new : State) (result : Result T Failed) (P : Snapshot → Type 0)
    → Synced dev old new result → Leaves P (now_of old) → LeavesOnly old new P
sync_leaves_only dev old new result P w leaves =
    one_call old new (now_of old) (Leaves P) w.past leaves (λ s m. leaves s (synced_leaves dev old new result s w m))

-- only one device

lies_but : (dev : Dev) (at : ℕ) (bytes : List ℕ) (old new : State) → Lies dev at bytes old new → new.told ≡ old.told
    → SameBut dev old (now_of new)
lies_but dev at bytes old new lies told = grind (arith, common_steps, content_of-other, loose_of-other)

wrote_but : {T : Type 0} (dev : Dev) (at : ℕ) (bytes : List ℕ) (old new : State) (result : Result T Failed)
    → Wrote dev at bytes old new result → SameBut dev old (now_of new)
wrote_but dev at bytes old new (Ok x) w = lies_but dev at bytes old new w.written w.told
wrote_but dev at bytes old new (Err e) w = elim w.failed [
  | inl stays ↦ record {
    told = w.told;
    telling = refl;
    content = λ d ne. ap (content_of d) stays.image;
    loose = λ d ne. ap (loose_of d) stays.loose;
  }
  | inr lost ↦ lies_but dev at lost.0 old new lost.2 w.told
]

synced_but : {T : Type 0} (dev : Dev) (old new : State) (result : Result T Failed) → Synced dev old new result
    → SameBut dev old (now_of new)
synced_but dev old new (Ok x) w = record {
  told = w.told;
  telling = refl;
  content = λ d ne. ap (content_of d) w.image;
  loose = λ d ne. ap (loose_of d) w.settled ∙ loose_of-other dev d [] old.loose ne;
}
synced_but dev old new (Err e) w = record {
  told = w.told;
  telling = refl;
  content = λ d ne. ap (content_of d) w.image;
  loose = λ d ne. ap (loose_of d) w.failed;
}

pub write_only : {T : Type 0} (dev : Dev) (at : ℕ) (bytes : List ℕ) (old new : State) (result : Result T Failed)
    → Wrote dev at bytes old new result → OnlyDevice dev old new
write_only dev at bytes old new result w = grind (arith, common_steps, one_call, loose_of-other, wrote_but)

pub sync_only : {T : Type 0} (dev : Dev) (old new : State) (result : Result T Failed) → Synced dev old new result
    → OnlyDevice dev old new
sync_only dev old new result w = grind (arith, common_steps, one_call, synced_but)

pub only_in_sequence : (dev : Dev) (a b c : State) → OnlyDevice dev a b → OnlyDevice dev b c → OnlyDevice dev a c
only_in_sequence dev a b c first second =
    in_sequence a b c (SameBut dev a) first (each_weaker b c (SameBut dev b) (SameBut dev a) (λ m s. record {
      told = s.told ∙ first.now.told;
      telling = s.telling;
      content = λ d ne. s.content d ne ∙ first.now.content d ne;
      loose = λ d ne. s.loose d ne ∙ first.now.loose d ne;
    }) second)

pub goes_in_sequence : (a b c : State) → Preserves a b → Preserves b c → Preserves a c
goes_in_sequence a b c f s = grind (arith, common_steps, le_trans)

-- before any call
pub no_call : (s : State) (Q : Moment → Type 0) → Q (now_of s) → EachMoment s s Q
no_call s Q now = grind (arith, common_steps, append-nil, drop_at)

pub stays_honest : (a b : State) → Preserves a b → IsTrue a.honest → IsTrue b.honest
stays_honest a b goes honest = subst IsTrue (sym goes.honest) honest

-- one write more
pub then_write : {T : Type 0} (old mid new : State) (P : Snapshot
    → Type 0) (dev : Dev) (at : ℕ) (bytes : List ℕ) (result : Result T Failed) → LeavesOnly old mid P
    → at + length bytes ≤ length (content_of dev mid.image)
    → Leaves P (within_write dev at (length bytes) mid) → Wrote dev at bytes mid new result → LeavesOnly old new P
then_write old mid new P dev at bytes result so_far fits leaves w =
    in_sequence old mid new (Leaves P) so_far (write_leaves_only dev at bytes mid new result P fits w leaves)

-- one sync more, of which nothing has to be shown
pub then_sync : {T : Type 0} (old mid new : State) (P : Snapshot → Type 0) (dev : Dev) (result : Result T Failed)
    → LeavesOnly old mid P → Synced dev mid new result → LeavesOnly old new P
then_sync old mid new P dev result so_far w =
    in_sequence old mid new (Leaves P) so_far (sync_leaves_only dev mid new result P w so_far.now)

-- reads

pub unchanged : (a : State) → IsUnchanged a a
unchanged a = record { image = refl; loose = refl; told = refl; left = refl; past = refl }

pub unchanged_in_sequence : (a b c : State) → IsUnchanged a b → IsUnchanged b c → IsUnchanged a c
unchanged_in_sequence a b c f s = grind (arith, common_steps)

pub goes_nowhere : (a : State) → Preserves a a
goes_nowhere a = grind (arith, common_steps, le_refl)

-- what is there now may be left
pub now_leaves : (s : State) → MayLeave (now_of s) (snapshot_of s)
now_leaves s = grind (arith, common_steps, append-nil)

-- so what each crash leaves holds of what is there
pub holds_now : (old new : State) (P : Snapshot → Type 0) → LeavesOnly old new P → P (snapshot_of new)
holds_now old new P so_far = so_far.now (snapshot_of new) (now_leaves new)

-- two facts of each moment

all_both : (Q R : Moment → Type 0) (xs : List Moment) → AllByRecursion Q xs → AllByRecursion R xs
    → AllByRecursion (λ m. Q m × R m) xs
all_both Q R [] q r = tt
all_both Q R (x ∷ xs) q r = ((q.0, r.0), all_both Q R xs q.1 r.1)

pub each_both : (a b : State) (Q R : Moment → Type 0) → EachMoment a b Q → EachMoment a b R
    → EachMoment a b (λ m. Q m × R m)
each_both a b Q R q r = record { grown = q.grown; each = all_both Q R (since a b) q.each r.each; now = (q.now, r.now) }

-- where only one device changes, a crash leaves what was told, and of the other devices what it might have left before
pub leaves_others_too : (dev : Dev) (old new : State) (P : Snapshot → Type 0) → LeavesOnly old new P
    → OnlyDevice dev old new
    → LeavesOnly old new (λ s. P s × (s.told ≡ old.told)
    × ((d : Dev) → d ≢ dev → MayStand (loose_of d old.loose) (content_of d old.image) (content_of d s.image)))
leaves_others_too dev old new P leaves only =
    each_weaker old new (λ m. Leaves P m
    × SameBut dev old m) (Leaves (λ s. P s × (s.told ≡ old.told)
    × ((d : Dev) → d ≢ dev → MayStand (loose_of d old.loose) (content_of d old.image) (content_of d s.image))))
    (λ m q s left. (
      q.0 s left,
      told_is m q.1 s left,
      λ d ne. stands_at _ _ _ _ _ (q.1.loose d ne) (q.1.content d ne) (left.content d),
    ))
    (each_both old new (Leaves P) (SameBut dev old) leaves only)
  where
    nothing_more : (k : ℕ) → old.told ++ take k [] ≡ old.told
    nothing_more k = ap (λ (l : List ℕ). old.told ++ l) (take_all k [] zero-le) ∙ append-nil old.told

    told_is : (m : Moment) → SameBut dev old m → (s : Snapshot) → MayLeave m s → s.told ≡ old.told
    told_is m q s left = left.told.1 ∙ (λ i. q.told i ++ take left.told.0 (q.telling i)) ∙ nothing_more left.told.0

-- a device that stays as it is

pub others_untouched : (dev d : Dev) (old new : State) → d ≢ dev → OnlyDevice dev old new → Untouched d old new
others_untouched dev d old new ne only =
    each_weaker old new (SameBut dev old) (SameAt d old) (λ m same. record {
      content = same.content d ne;
      loose = same.loose d ne;
    }) only

pub untouched_in_sequence : (d : Dev) (a b c : State) → Untouched d a b → Untouched d b c → Untouched d a c
untouched_in_sequence d a b c first second =
    in_sequence a b c (SameAt d a) first (each_weaker b c (SameAt d b) (SameAt d a) (λ m same. record {
      content = same.content ∙ first.now.content;
      loose = same.loose ∙ first.now.loose;
    }) second)

-- on it a crash leaves exactly what it might have left before
pub untouched_leaves : (d : Dev) (old new : State) → Untouched d old new
    → LeavesOnly old new (λ s. MayStand (loose_of d old.loose) (content_of d old.image) (content_of d s.image))
untouched_leaves d old new same =
    each_weaker old new (SameAt d old)
    (Leaves (λ s. MayStand (loose_of d old.loose) (content_of d old.image) (content_of d s.image)))
    (λ m at s left. stands_at _ _ _ _ _ at.loose at.content (left.content d)) same

-- with no loose range, what may stand is what stands
pub settled_is : (c now : List ℕ) → MayStand [] c now → now ≡ c
settled_is c now m = same_lists now c m.size
    (λ k d lt. get_or_default now k d 0 lt ∙ m.kept k refl ∙ get_or_default c k 0 d
    (subst (λ (n : ℕ). k < n) m.size lt))

-- of a settled device a crash between two calls leaves what stands there
pub settled_leaves : (dev : Dev) (s : State) (snapshot : Snapshot) → IsSettled dev s → MayLeave (now_of s) snapshot
    → content_of dev snapshot.image ≡ content_of dev s.image
settled_leaves dev s snapshot settled m = grind (arith, common_steps, settled_is)

-- quiet sites

pub quiet_settled : (dev : Dev) (s : State) → IsQuiet s → IsSettled dev s
quiet_settled Log s quiet = ap (loose_of Log) quiet
quiet_settled Flash s quiet = ap (loose_of Flash) quiet
quiet_settled Disk s quiet = ap (loose_of Disk) quiet

pub settled_quiet : (s : State) → ((dev : Dev) → IsSettled dev s) → IsQuiet s
settled_quiet s settled = λ i. record { log = settled Log i; flash = settled Flash i; disk = settled Disk i }

-- an image is its three contents
pub same_image : (a b : Image) → ((dev : Dev) → content_of dev a ≡ content_of dev b) → a ≡ b
same_image a b same = λ i. record { log = same Log i; flash = same Flash i; disk = same Disk i }

-- where no range is loose, a crash leaves what stands there
pub image_is : (m : Moment) (snapshot : Snapshot) → m.loose ≡ no_loose → MayLeave m snapshot → snapshot.image ≡ m.image
image_is m snapshot quiet left = grind (arith, common_steps, same_image, settled_is)

-- between two calls, a crash leaves what was told
pub told_is : (s : State) (snapshot : Snapshot) → MayLeave (now_of s) snapshot → snapshot.told ≡ s.told
told_is s snapshot left = left.told.1 ∙ ap (λ (l : List ℕ). s.told ++ l) (take_all left.told.0 [] zero-le) ∙
    append-nil s.told

-- so of a quiet site a crash between two calls leaves one snapshot
pub quiet_leaves : (s : State) (snapshot : Snapshot) → IsQuiet s → MayLeave (now_of s) snapshot
    → snapshot ≡ snapshot_of s
quiet_leaves s snapshot quiet left =
    λ i. record { told = told_is s snapshot left i; image = image_is (now_of s) snapshot quiet left i }

-- calls that change nothing that a crash leaves

pub now_same : (a b : State) → b.told ≡ a.told → b.image ≡ a.image → b.loose ≡ a.loose → now_of b ≡ now_of a
now_same a b told image loose = grind (arith, common_steps)

pub calm : (a b c : State) (Q : Moment → Type 0) → EachMoment a b Q → c.past ≡ b.past → now_of c ≡ now_of b
    → EachMoment a c Q
calm a b c Q so_far past now = grind (arith, common_steps)

pub unchanged_calm : (a b c : State) (Q : Moment → Type 0) → EachMoment a b Q → IsUnchanged b c → EachMoment a c Q
unchanged_calm a b c Q so_far same = calm a b c Q so_far same.past (now_same b c same.told same.image same.loose)

pub unchanged_devices : (a b : State) → IsUnchanged a b → SameDevices a b
unchanged_devices a b same = record { image = same.image; loose = same.loose; left = same.left }

pub devices_in_sequence : (a b c : State) → SameDevices a b → SameDevices b c → SameDevices a c
devices_in_sequence a b c f s = record { image = s.image ∙ f.image; loose = s.loose ∙ f.loose; left = s.left ∙ f.left }

pub stays_quiet : (a b : State) → SameDevices a b → IsQuiet a → IsQuiet b
stays_quiet a b same quiet = same.loose ∙ quiet

-- a whole piece

-- what telling leaves on the devices might have been left before it, and some front of the piece is told
pub tell_leaves : (Q : Image → Type 0) (piece : List ℕ) (old new : State)
    → ((s : Snapshot) → MayLeave (now_of old) s → Q s.image) → EachMoment old new (TellsPart piece old)
    → LeavesOnly old new (λ s. ((k : ℕ) × (s.told ≡ old.told ++ take k piece)) × Q s.image)
tell_leaves Q piece old new before tells =
    each_weaker old new (TellsPart piece old) (Leaves (λ s. ((k : ℕ) × (s.told ≡ old.told ++ take k piece))
    × Q s.image)) (λ m part s left.
    let told = part.told left.told.0 in
    let as_before : Snapshot = record { told = old.told; image = s.image } in (
      (told.0, left.told.1 ∙ told.1),
      before as_before (record {
        told = (zero, sym (append-nil old.told));
        content = λ dev. stands_at _ _ _ _ _ (ap (loose_of dev) part.loose) (ap (content_of dev) part.image)
            (left.content dev);
      }),
    )) tells

-- counts of faults

-- a count that rose has risen after more calls too
pub rose_then : (a b c : ℕ) → Rose a b → b ≤ c → Rose a c
rose_then a b c rose more = le_trans rose more

-- and it has risen since an earlier call
pub rose_since : (a b c : ℕ) → a ≤ b → Rose b c → Rose a c
rose_since a b c more rose = grind (arith, common_steps, le_trans, le-min, min-le_left, add-le-add, le_refl, min-le_right)

-- the same of a device
pub fault_then : (dev : Dev) (a b c : State) → Rose (faults_of dev a) (faults_of dev b) → Preserves b c
    → Rose (faults_of dev a) (faults_of dev c)
fault_then dev a b c rose goes = rose_then (faults_of dev a) (faults_of dev b) (faults_of dev c) rose (goes.faults dev)

pub fault_since : (dev : Dev) (a b c : State) → Preserves a b → Rose (faults_of dev b) (faults_of dev c)
    → Rose (faults_of dev a) (faults_of dev c)
fault_since dev a b c goes rose =
    rose_since (faults_of dev a) (faults_of dev b) (faults_of dev c) (goes.faults dev) rose

-- one call changes only its device

pub wrote_changes : {T : Type 0} (dev : Dev) (at : ℕ) (bytes : List ℕ) (old new : State) (result : Result T Failed)
    → Wrote dev at bytes old new result → ChangesOnly dev old new
wrote_changes dev at bytes old new result w = record { only = write_only dev at bytes old new result w; left = w.left }

pub synced_changes : {T : Type 0} (dev : Dev) (old new : State) (result : Result T Failed) → Synced dev old new result
    → ChangesOnly dev old new
synced_changes dev old new result w = record { only = sync_only dev old new result w; left = w.left }

pub changes_in_sequence : (dev : Dev) (a b c : State) → ChangesOnly dev a b → ChangesOnly dev b c → ChangesOnly dev a c
changes_in_sequence dev a b c first second = record {
  only = only_in_sequence dev a b c first.only second.only;
  left = second.left ∙ first.left;
}

-- a sync leaves nothing loose
pub synced_settles : {T : Type 0} (dev : Dev) (old new : State) (result : Result T Failed) → Synced dev old new result
    → OnOk result (IsSettled dev new)
synced_settles dev old new (Ok x) w = ap (loose_of dev) w.settled ∙ loose_of-same dev [] old.loose
synced_settles dev old new (Err e) w = tt

-- a quiet site is quiet again once its changed device is settled
pub quiet_again : (dev : Dev) (old new : State) → ChangesOnly dev old new → IsQuiet old → IsSettled dev new
    → IsQuiet new
quiet_again dev old new changes quiet settled = settled_quiet new (λ d. elim (cases_dev d dev) [
  | inl same ↦ subst (λ (x : Dev). IsSettled x new) (sym same) settled
  | inr other ↦ changes.only.now.loose d other ∙ quiet_settled d old quiet
])

-- a call that comes of the site is one moment more
pub one_call_more : (moment : Moment) (old new : State) → Adds moment old new → length new.past ≡ length old.past + 1
one_call_more moment old new adds = ap length adds ∙ length-append old.past (moment ∷ [])
