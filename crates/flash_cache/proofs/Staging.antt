-- A push, device by device: pages are staged, and then a group is appended.
use Rattle.flash_cache.proofs.Names.{arith, ◌≡◌, ◌≢◌, inl, ℕ, List, [], ◌∷◌, refl, sym, ap, subst, ◌∙◌, IsTrue, ChangesPages, LeavesPush, changes_of_push, Invariant, Matches, FlashCache, changes_add_up, reads_itself, AppendsGroup, Appends, Reaches, Groups, others_untouched, untouched_in_sequence, stays_honest, no_call, unchanged_calm, quiet_leaves, leaves_weaker, Preserves, IsUnchanged, Leaves, LeavesOnly, EachMoment, ChangesOnly, SameAt, Untouched, State, Image, Moment, Snapshot, IsQuiet, Geometry, Log, Flash, Disk, changes_of}
use Rattle.site.specs.declared.outside.Dev.{Dev}
use Rattle.flash_cache.proofs.Pushing.{goes_on_same}
use Rattle.std.proofs.lemmas.Grind.{common_steps}

pub goes_on_later : (cache : FlashCache) (old new : State) → Invariant cache old → Preserves old new → Invariant cache new
goes_on_later cache old new going goes = goes_on_same cache cache.ring cache.directory old new going goes refl refl refl

-- where the flash has what it had, the cache fits on
pub fits_same : (cache : FlashCache) (old new : State) → new.image.flash ≡ old.image.flash → IsTrue new.honest → Matches cache old → Matches cache new
fits_same cache old new flash honest fits = grind (arith, common_steps)

pub fits_on : (cache : FlashCache) (old mid : State) → Matches cache old → Preserves old mid → ChangesOnly Disk old mid → Matches cache mid
fits_on cache old mid fits goes changes = fits_same cache old mid (changes.only.now.content Flash (λ h. cc)) (stays_honest old mid goes fits.honest) fits

-- the log's device stays as it is

pub pages_changed : (dev : Dev) (old new : State) → Log ≢ dev → ChangesOnly dev old new → ChangesPages old new
pages_changed dev old new ne changes = record { log = others_untouched dev Log old new ne changes.only; told = changes.only.now.told; left = changes.left }

pub pages_in_sequence : (a b c : State) → ChangesPages a b → ChangesPages b c → ChangesPages a c
pages_in_sequence a b c first second = record { log = untouched_in_sequence Log a b c first.log second.log; told = second.told ∙ first.told; left = second.left ∙ first.left }

-- all changes of a push were made
pub all_made : (g : Geometry) (pages : List ℕ) (group : List ℕ) (old mid new : Image) → Reaches g (changes_of pages) old mid → Appends g Groups group mid new → Reaches g (changes_of_push pages group) old new
all_made g pages group old mid new made more = changes_add_up g (changes_of pages) (AppendsGroup group ∷ []) old mid new made (new, more, reads_itself g new)

-- Calls that only read come first.

pub fits_read : (cache : FlashCache) (old mid : State) → Matches cache old → Preserves old mid → IsUnchanged old mid → Matches cache mid
fits_read cache old mid fits goes same = fits_same cache old mid (ap (λ (i : Image). i.flash) same.image) (stays_honest old mid goes fits.honest) fits

pub read_untouched : (d : Dev) (old new : State) → IsUnchanged old new → Untouched d old new
read_untouched d old new same = unchanged_calm old old new (SameAt d old) (no_call old (SameAt d old) (record { content = refl; loose = refl })) same

pub pages_read : (old new : State) → IsUnchanged old new → ChangesPages old new
pages_read old new same = record { log = read_untouched Log old new same; told = same.told; left = same.left }

behind_reads : (a b c : State) (Q : Moment → Type 0) → IsUnchanged a b → EachMoment b c Q → EachMoment a c Q
behind_reads a b c Q same moments = grind (arith, common_steps)

module _ (g : Geometry) (pages : List ℕ) (contents : List (List ℕ)) (group : List ℕ) where
  -- where nothing was changed yet, no group was appended
  pub none_pushed : (old new : State) → IsQuiet old → IsUnchanged old new → LeavesOnly old new (LeavesPush g pages contents group old)
  none_pushed old new quiet same =
      unchanged_calm old old new (Leaves (LeavesPush g pages contents group old)) (no_call old (Leaves (LeavesPush g pages contents group old)) (λ s left.
      subst (LeavesPush g pages contents group old) (sym (quiet_leaves old s quiet left)) (record { told = refl; either = inl ([], (changes_of pages, refl), reads_itself g old.image) }))) same

  push_since : (old mid : State) (s : Snapshot) → IsUnchanged old mid → LeavesPush g pages contents group mid s → LeavesPush g pages contents group old s
  push_since old mid s same is = grind (arith, common_steps)

  pub pushed_since : (old mid new : State) → IsUnchanged old mid → LeavesOnly mid new (LeavesPush g pages contents group mid) → LeavesOnly old new (LeavesPush g pages contents group old)
  pushed_since old mid new same leaves =
      behind_reads old mid new (Leaves (LeavesPush g pages contents group old)) same
      (leaves_weaker mid new (LeavesPush g pages contents group mid) (LeavesPush g pages contents group old) (λ s is. push_since old mid s same is) leaves)
