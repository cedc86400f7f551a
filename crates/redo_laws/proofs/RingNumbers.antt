-- How the numbers of the rings add up over calls.
use Rattle.redo_laws.proofs.Citing.{◌≡◌, ◌+◌, ◌≤◌, refl, sym, subst, arith, ℕ, Result, Ok, Err, log_shape, master_shape, LogStore, calls_then, calls_unchanged, blocks_to, HasNumbers, SkipsNone, hi_of, holds_now, in_sequence, leaves_weaker, no_call, quiet_leaves, unchanged_calm, ok_as, ok_always, IsUnchanged, Leaves, LeavesOnly, State, Image, Snapshot, IsQuiet, snapshot_of, Geometry}

-- More numbers.

pub more_numbers : (g : Geometry) (b b' m m' : ℕ) → b ≤ b' → m ≤ m' → (image : Image) → HasNumbers g b m image → HasNumbers g b' m' image
more_numbers g b b' m m' fewer less image has = record { blocks = let is = has.blocks in omega (arith, is, fewer); masters = let is = has.masters in omega (arith, is, less) }

pub leaves_more : (g : Geometry) (before now : State) (b b' m m' : ℕ) → b ≤ b' → m ≤ m' → LeavesOnly before now (λ s. HasNumbers g b m s.image) → LeavesOnly before now (λ s. HasNumbers g b' m' s.image)
leaves_more g before now b b' m m' fewer less = leaves_weaker before now (λ s. HasNumbers g b m s.image) (λ s. HasNumbers g b' m' s.image) (λ s. more_numbers g b b' m m' fewer less s.image)

-- what is the case while nothing happens, a crash leaves
pub leaves_unchanged : (before now : State) (P : Snapshot → Type 0) → IsQuiet before → IsUnchanged before now → P (snapshot_of before) → LeavesOnly before now P
leaves_unchanged before now P quiet same here = unchanged_calm before before now (Leaves P) (no_call before (Leaves P) (λ s left. subst P (sym (quiet_leaves before s quiet left)) here)) same

pub unchanged : {site : State} → IsUnchanged site site
unchanged = record { image = refl; loose = refl; told = refl; left = refl; past = refl }

-- Calls.

-- a call behind one that was Ok
pub then_skips : {T E A B : Type 0} (r : Result T E) (x : A) (g : Geometry) (old mid new : LogStore) (before middle now : State) (n m n' m' k j : ℕ) → SkipsNone {T = A} {E = B} (Ok x) g old mid before middle n m
    → SkipsNone r g mid new middle now n' m' → n + n' ≤ k → m + m' ≡ j → SkipsNone r g old new before now k j
then_skips r x g old mid new before middle now n m n' m' k j first second few is =
    let made = first.log in
    let saved = (holds_now before middle (λ s. HasNumbers g (blocks_to old + n) (hi_of master_shape before.image.log + m) s.image) first.any_moment).masters in
    let blocks : blocks_to mid + n' ≤ blocks_to old + k = omega (arith, made, few) in
    let masters : hi_of master_shape middle.image.log + m' ≤ hi_of master_shape before.image.log + j = omega (arith, saved, is) in
    record {
      log = ok_as r _ _ (λ more. omega (arith, more, made, few)) second.log;
      any_moment = in_sequence before middle now (Leaves (λ s. HasNumbers g (blocks_to old + k) (hi_of master_shape before.image.log + j) s.image))
          (leaves_more g before middle (blocks_to old + n) (blocks_to old + k) (hi_of master_shape before.image.log + m) (hi_of master_shape before.image.log + j) (omega (arith, few)) (omega (arith, is)) first.any_moment)
          (leaves_more g middle now (blocks_to mid + n') (blocks_to old + k) (hi_of master_shape middle.image.log + m') (hi_of master_shape before.image.log + j) blocks masters second.any_moment);
      device_calls = ok_as r _ _ (λ more. calls_then g before middle now first.device_calls more) second.device_calls;
    }

-- the error of a call is the error of its caller
pub skips_again : {A B E : Type 0} (e : E) (g : Geometry) (old new : LogStore) (before now : State) (n m : ℕ) → SkipsNone {T = A} {E = E} (Err e) g old new before now n m → SkipsNone {T = B} {E = E} (Err e) g old new before now n m
skips_again e g old new before now n m first = record { log = tt; any_moment = first.any_moment; device_calls = tt }

-- a call that was Ok, and an error of its caller
pub skips_refused : {A B E F : Type 0} (x : A) (e : E) (g : Geometry) (old new : LogStore) (before now : State) (n m : ℕ) → SkipsNone {T = A} {E = F} (Ok x) g old new before now n m → SkipsNone {T = B} {E = E} (Err e) g old new before now n m
skips_refused x e g old new before now n m first = record { log = tt; any_moment = first.any_moment; device_calls = tt }

-- a call that was Ok, and another value of its caller
pub skips_answered : {A B E F : Type 0} (x : A) (y : B) (g : Geometry) (old new : LogStore) (before now : State) (n m : ℕ) → SkipsNone {T = A} {E = E} (Ok x) g old new before now n m → SkipsNone {T = B} {E = F} (Ok y) g old new before now n m
skips_answered x y g old new before now n m first = record { log = first.log; any_moment = first.any_moment; device_calls = first.device_calls }

-- more records may have been made
pub skips_weaker : {T E : Type 0} (r : Result T E) (g : Geometry) (old new : LogStore) (before now : State) (n k m : ℕ) → n ≤ k → SkipsNone r g old new before now n m → SkipsNone r g old new before now k m
skips_weaker r g old new before now n k m few first = record {
  log = ok_as r _ _ (λ more. omega (arith, more, few)) first.log;
  any_moment = leaves_more g before now (blocks_to old + n) (blocks_to old + k) _ _ (omega (arith, few)) (omega arith) first.any_moment;
  device_calls = first.device_calls;
}

-- a call that only reads the devices, under a ring that was found
pub skips_still : {T E : Type 0} (r : Result T E) (g : Geometry) (log : LogStore) (before now : State) (n : ℕ) → log.ring.hi ≡ hi_of (log_shape g) before.image.log → IsQuiet before → IsUnchanged before now → SkipsNone r g log log before now n 0
skips_still r g log before now n hi quiet same = record {
  log = ok_always r _ (omega (arith));
  any_moment = leaves_unchanged before now (λ s. HasNumbers g (blocks_to log + n) (hi_of master_shape before.image.log + 0) s.image) quiet same (record { blocks = omega (arith, hi); masters = omega arith });
  device_calls = ok_always r _ (calls_unchanged g before now same);
}

-- nothing happens
pub skips_nothing : {T E : Type 0} (r : Result T E) (g : Geometry) (log : LogStore) (s : State) (n : ℕ) → log.ring.hi ≡ hi_of (log_shape g) s.image.log → IsQuiet s → SkipsNone r g log log s s n 0
skips_nothing r g log s n hi quiet = skips_still r g log s s n hi quiet unchanged

-- the same ring under an equal geometry
pub skips_on : {T E : Type 0} (r : Result T E) (g g' : Geometry) (old new : LogStore) (before now : State) (n m : ℕ) → g ≡ g' → SkipsNone r g old new before now n m → SkipsNone r g' old new before now n m
skips_on r g g' old new before now n m same first = subst (λ (k : Geometry). SkipsNone r k old new before now n m) same first

pub hi_on : (g g' : Geometry) (log : LogStore) (image : Image) → g ≡ g' → log.ring.hi ≡ hi_of (log_shape g) image.log → log.ring.hi ≡ hi_of (log_shape g') image.log
hi_on g g' log image same hi = subst (λ (k : Geometry). log.ring.hi ≡ hi_of (log_shape k) image.log) same hi
