-- The coldest page leaves the pool.
use Rattle.page_store.proofs.Names.{◌≡◌, ◌≢◌, inl, ℕ, Bool, false, List, [], ◌∷◌, ◌++◌, reverse, refl, sym, subst, reverse-append, AllByRecursion, AreDistinct, Frame, LogList, has_tail, HasBlocks, LogStore, AreSealed, LeavesSealed, AreReady, LeavesPages, PageStore, no_call, quiet_leaves, Leaves, LeavesOnly, State, IsQuiet, snapshot_of, Geometry, and_false, forces}

-- a site that stays as it is
pub same_pages : (store : PageStore) (log : LogStore) (given : ℕ → List ℕ) (sealing : Bool) (list : LogList) (site : State) → log.geometry ≡ store.flash.geometry → AreReady store log list site
    → LeavesPages store.flash.geometry given sealing list site (snapshot_of site)
same_pages store log given sealing list site geometry ready = record {
  log = record { told = refl; blocks = inl (subst (λ (g : Geometry). HasBlocks g list.first list.blocks site.image) geometry ready.records.blocks) };
  masters = record { units = refl; form = λ form. form };
  queue = record { first = store.flash.directory.first; groups = ready.pages.groups; has = ready.pages.holds.has; saved = ready.pages.holds.saved };
  clean = ready.pages.clean;
  versions = λ page exists. inl refl;
}

pub stays_pages : (store : PageStore) (log : LogStore) (given : ℕ → List ℕ) (sealing : Bool) (list : LogList) (site : State) → log.geometry ≡ store.flash.geometry → AreReady store log list site → IsQuiet site
    → LeavesOnly site site (LeavesPages store.flash.geometry given sealing list site)
stays_pages store log given sealing list site geometry ready quiet =
    no_call site (Leaves (LeavesPages store.flash.geometry given sealing list site)) (λ snapshot left.
    subst (LeavesPages store.flash.geometry given sealing list site) (sym (quiet_leaves site snapshot quiet left)) (same_pages store log given sealing list site geometry ready))

pub stays_sealed : (g : Geometry) (site : State) → IsQuiet site → AreSealed g site.image → LeavesOnly site site (LeavesSealed g)
stays_sealed g site quiet sealed =
    no_call site (Leaves (LeavesSealed g)) (λ snapshot left. subst (LeavesSealed g) (sym (quiet_leaves site snapshot quiet left)) sealed)

-- lists with one more behind

pub all_front : {X : Type 0} (P : X → Type 0) (xs : List X) (x : X) → AllByRecursion P (xs ++ x ∷ []) → AllByRecursion P xs
all_front P [] x all = tt
all_front P (y ∷ xs) x all = (all.0, all_front P xs x all.1)

pub distinct_front : (xs : List Frame) (x : Frame) → AreDistinct (xs ++ x ∷ []) → AreDistinct xs
distinct_front [] x all = tt
distinct_front (y ∷ xs) x all = (all_front (λ other. y.page ≢ other.page) xs x all.0, distinct_front xs x all.1)

pub reverse_last : {X : Type 0} (xs : List X) (x : X) → reverse (xs ++ x ∷ []) ≡ x ∷ reverse xs
reverse_last xs x = reverse-append xs (x ∷ [])

-- what is pushed of these

pub not_forced : (log : LogStore) → forces log [] ≡ false
not_forced log = and_false (has_tail log)
