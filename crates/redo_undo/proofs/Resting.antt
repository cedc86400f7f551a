-- Work of the cache while a log is redone: its tail has no records, so no page waits for one, and no block is sealed.
use Rattle.redo_undo.proofs.Names.{◌≡◌, ◌≢◌, ℕ, ◌^◌, ◌≤◌, Bool, true, false, nat_lt, List, [], ◌∷◌, ◌++◌, map, Some, refl, sym, ap, ◌∙◌, arith, map-append, list_any, Result, Ok, Err, OnOk, IfErr, IsErrOf, if◌then◌else◌, cache_of, rules, next_group, pushes, with_change, MayStop, PageStore, CacheOp, touch, touched_next, touch_then_change, one_touch, one_change, resting, PerformsAtRest, never_past, flash_past, performs_answered, performs_as, performs_by, performs_nothing, performs_refused, performs_stopped, performs_then, first_of_one, Machine, cached, apply_op, pushed_by, past_end, first_worn, Rules, Cache, touched, err_again, no_error, of_error, ok_always, Dev, Log, Flash, Disk, Stop, Worn}
use Rattle.ring_machine.specs.Tail.{waits, empty_at, sealed_if}
use Rattle.second_chance.specs.Machine as cache

-- The machine rests.

none_wait : (n : ℕ) (pages : List ℕ) → list_any (waits (empty_at n)) pages ≡ false
none_wait n [] = refl
none_wait n (page ∷ pages) = none_wait n pages

module _ (r : Rules) (n k : ℕ) where
  rests : (work : CacheOp) (c : Cache) → apply_op r (cached work) (resting n k c) ≡ resting n k (cache.apply_op r work c)
  rests work c = ap (λ (b : Bool). record { cache = cache.apply_op r work c; tail = sealed_if b (empty_at n); masters = k }) (none_wait n (pushed_by r work c))

  -- one piece of work
  worked_on : (work : CacheOp) (c : Cache) (m : Machine) → m ≡ resting n k c → apply_op r (cached work) m ≡ resting n k (cache.apply_op r work c)
  worked_on work c m is = ap (apply_op r (cached work)) is ∙ rests work c

  first_on : (work : CacheOp) (c : Cache) (m : Machine) → m ≡ resting n k c → first_worn r (cached work ∷ []) m ≡ past_end (resting n k (cache.apply_op r work c))
  first_on work c m is = first_of_one r (cached work) m ∙ ap past_end (worked_on work c m is)

  -- a change of the page costs no more
  change_on : (page : ℕ) (c : Cache) (m : Machine) → 1 ≤ r.groups → m ≡ resting n k c → first_worn r (cached (touch page true) ∷ []) m ≡ first_worn r (cached (touch page false) ∷ []) m
  change_on page c m some is = grind (arith, touched_next, first_on, nat_lt)

-- A touch, which seals nothing.

pub rests_touched : {T : Type 0} (result : Result T Stop) (page : ℕ) (old new : PageStore) → 1 ≤ (rules old).groups → next_group (cache_of old) ≡ old.flash.ring.hi → (IsErrOf result (Worn Log) → ⊥) →
    (IsErrOf result (Worn Flash) → (pushes (rules old) page (cache_of old) ≡ true) × (old.flash.ring.hi ≡ 2 ^ 40)) → IfErr result (λ stop. MayStop stop) → OnOk result (cache_of new ≡ touched (rules old) page false (cache_of old)) → next_group (cache_of new) ≤ 2 ^ 40 → PerformsAtRest result (one_touch page) old new
rests_touched {T = T} (Err stop) page old new some counts no_log worn stops machine few = record {
  from = λ next masters most_blocks most_masters. record {
    done = λ m is. tt;
    worn = λ m is dev says. first_on (rules old) next masters (touch page false) (cache_of old) m is ∙ by next masters most_blocks most_masters dev says;
  };
}
  where
    by : (next masters : ℕ) → next ≤ 2 ^ 40 → masters ≤ 2 ^ 40 → (dev : Dev) → IsErrOf {T = T} (Err stop) (Worn dev) → past_end (resting next masters (touched (rules old) page false (cache_of old))) ≡ Some dev
    by next masters most_blocks most_masters Log says = absurd (no_log says)
    by next masters most_blocks most_masters Flash says =
        let full = worn says in
        let one : ◌≡◌ {A = ℕ} (if pushes (rules old) page (cache_of old) then 1 else 0) 1 = ap (λ (b : Bool). if b then 1 else 0) full.0 in
        flash_past (resting next masters (touched (rules old) page false (cache_of old))) most_blocks most_masters (omega (arith, touched_next (rules old) page false (cache_of old) some, one, counts, full.1))
    by next masters most_blocks most_masters Disk says = absurd (of_error {T = T} (Err stop) (λ s. MayStop s) (Worn Disk) stops says)
rests_touched (Ok x) page old new some counts no_log worn stops machine few = record {
  from = λ next masters most_blocks most_masters. record {
    done = λ m is. (
      first_on (rules old) next masters (touch page false) (cache_of old) m is
          ∙ never_past (resting next masters (touched (rules old) page false (cache_of old))) most_blocks most_masters (omega (arith, ap next_group machine, few)),
      worked_on (rules old) next masters (touch page false) (cache_of old) m is ∙ ap (resting next masters) (sym machine),
    );
    worn = λ m is dev says. absurd (no_error says);
  };
}

-- the same as a touch with a change: it stops
pub change_rests_stopped : {A B : Type 0} {stop : Stop} {page : ℕ} {old new new' : PageStore} → 1 ≤ (rules old).groups → PerformsAtRest {T = A} (Err stop) (one_touch page) old new → PerformsAtRest {T = B} (Err stop) (one_change page) old new'
change_rests_stopped {stop = stop} {page = page} {old = old} some one = record {
  from = λ next masters most_blocks most_masters. record {
    done = λ m is. tt;
    worn = λ m is dev says. change_on (rules old) next masters page (cache_of old) m some is ∙ (one.from next masters most_blocks most_masters).worn m is dev (err_again stop (Worn dev) says);
  };
}

-- or the page is changed behind it
pub change_rests : {A B : Type 0} {a : A} {b : B} {page : ℕ} {old mid new : PageStore} → 1 ≤ (rules old).groups → cache_of mid ≡ touched (rules old) page false (cache_of old) → cache_of new ≡ with_change (cache_of mid) →
    PerformsAtRest {T = A} (Ok a) (one_touch page) old mid → PerformsAtRest {T = B} (Ok b) (one_change page) old new
change_rests {page = page} {old = old} {new = new} some machine changed one = record {
  from = λ next masters most_blocks most_masters. record {
    done = λ m is. (
      change_on (rules old) next masters page (cache_of old) m some is ∙ ((one.from next masters most_blocks most_masters).done m is).0,
      worked_on (rules old) next masters (touch page true) (cache_of old) m is ∙ ap (resting next masters) (touch_then_change (rules old) page (cache_of old) ∙ ap with_change (sym machine) ∙ sym changed),
    );
    worn = λ m is dev says. absurd (no_error says);
  };
}

-- Calls one after the other.

pub rests_nothing : {T : Type 0} {result : Result T Stop} {pages : PageStore} → ((dev : Dev) → IsErrOf result (Worn dev) → ⊥) → PerformsAtRest result [] pages pages
rests_nothing {result = result} never = record { from = λ next masters most_blocks most_masters. performs_nothing (λ m is. ok_always result _ is) never }

pub rests_refused : {T : Type 0} {stop : Stop} {works : List CacheOp} {old new : PageStore} → ((dev : Dev) → stop ≢ Worn dev) → PerformsAtRest {T = T} (Err stop) works old new
rests_refused other = record { from = λ next masters most_blocks most_masters. performs_refused other }

pub rests_then : {A B : Type 0} {a : A} {result : Result B Stop} {first later : List CacheOp} {old mid new : PageStore} → rules mid ≡ rules old → PerformsAtRest {T = A} (Ok a) first old mid → PerformsAtRest result later mid new → PerformsAtRest result (first ++ later) old new
rests_then {first = first} {later = later} same one two =
    record { from = λ next masters most_blocks most_masters. performs_as (map-append cached first later) (performs_then (one.from next masters most_blocks most_masters) (performs_by (sym same) (two.from next masters most_blocks most_masters))) }

pub rests_stopped : {A B : Type 0} {stop : Stop} {first : List CacheOp} {old new new' : PageStore} (later : List CacheOp) → PerformsAtRest {T = A} (Err stop) first old new → PerformsAtRest {T = B} (Err stop) (first ++ later) old new'
rests_stopped {first = first} later one = record { from = λ next masters most_blocks most_masters. performs_as (map-append cached first later) (performs_stopped (map cached later) (one.from next masters most_blocks most_masters)) }

pub rests_answered : {A B : Type 0} {a : A} {b : B} {works : List CacheOp} {old new : PageStore} → PerformsAtRest {T = A} (Ok a) works old new → PerformsAtRest {T = B} (Ok b) works old new
rests_answered one = record { from = λ next masters most_blocks most_masters. performs_answered (one.from next masters most_blocks most_masters) }
