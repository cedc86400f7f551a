-- The number of the next segment over an honest site, whatever stands there: calls one after the other.
use Rattle.flash_cache.proofs.Names.{◌≡◌, inl, arith, refl, ap, ◌^◌, Result, Ok, Err, IsErrOf, Invariant, IsNext, IsSpent, KeepsNext, FlashCache, ring_fits, Groups, Segments, group_shape, segment_shape, RingFits, Units, SameOutside, hi_of, Ring, no_error, err_again, ok_always, Preserves, HasLimits, HasLengths, State, Geometry, Flash, Stop, Worn, AreRings}
use Rattle.sealed_ring.proofs.Others.{leaves_others}
use Rattle.std.proofs.lemmas.Grind.{common_steps}

-- the ring of the segments stays where it stands when a group is appended
pub segments_beside : (g : Geometry) (old new : State) → HasLimits g → HasLengths g old.image → Preserves old new → SameOutside (group_shape g) old.image.flash new.image.flash
    → hi_of (segment_shape g) new.image.flash ≡ hi_of (segment_shape g) old.image.flash
segments_beside g old new limits lengths goes outside =
    ap (λ (u : Units). u.hi) (leaves_others (group_shape g) (segment_shape g) old.image.flash new.image.flash (inl (omega arith)) (ring_fits g old.image Groups limits lengths) (ring_fits g old.image Segments limits lengths) (goes.sizes Flash) outside).0

-- where the ring of groups stands at its end, that of the segments has numbers for at most one more
pub spent_at_end : (cache : FlashCache) (old new : State) → Invariant cache old → IsNext cache old → cache.ring.hi ≡ 2 ^ 40 → new ≡ old → IsSpent cache.geometry new.image
spent_at_end cache old new going is full same = grind (arith, common_steps)

-- Calls.

-- one that leaves flash as it is, and the ring of segments as it was known
pub next_elsewhere : {T : Type 0} (r : Result T Stop) (old new : FlashCache) (before now : State) → new.segments ≡ old.segments → new.geometry ≡ old.geometry →
    now.image.flash ≡ before.image.flash → (IsErrOf r (Worn Flash) → ⊥) → KeepsNext r old new before now
next_elsewhere r old new before now segments sizes same never = grind (arith, common_steps, ok_always)

pub next_nothing : {T : Type 0} {x : T} {cache : FlashCache} {site : State} → KeepsNext {T = T} (Ok x) cache cache site site
next_nothing {cache = cache} {site = site} = next_elsewhere _ cache cache site site refl refl refl (λ says. no_error says)

pub next_then : {A B : Type 0} {a : A} {r : Result B Stop} {old mid new : FlashCache} {before between now : State} → mid.geometry ≡ old.geometry →
    KeepsNext {T = A} (Ok a) old mid before between → KeepsNext r mid new between now → KeepsNext r old new before now
next_then {now = now} sizes first second = grind (arith, common_steps)

pub next_failed : {A B : Type 0} {stop : Stop} {old new : FlashCache} {before now : State} → KeepsNext {T = A} (Err stop) old new before now → KeepsNext {T = B} (Err stop) old new before now
next_failed first = record { next = λ is. tt; worn = λ is says. first.worn is (err_again _ _ says) }

pub next_answered : {A B : Type 0} {a : A} {b : B} {old new : FlashCache} {before now : State} → KeepsNext {T = A} (Ok a) old new before now → KeepsNext {T = B} (Ok b) old new before now
next_answered first = record { next = first.next; worn = λ is says. absurd (no_error says) }

-- a segment that is saved
pub next_saved : (cache : FlashCache) (segments : Ring) (before now : State) → AreRings cache.geometry cache.ring cache.segments before → AreRings cache.geometry cache.ring segments now →
    (RingFits cache.segments before → RingFits segments now) → KeepsNext {T = Unit {0}} (Ok tt) cache (record cache { segments = segments }) before now
next_saved cache segments before now was is fits = grind (arith, common_steps, no_error)
