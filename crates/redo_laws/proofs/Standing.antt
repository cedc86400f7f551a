-- What a crash leaves of log and pages that hold together.
use Rattle.redo_laws.proofs.Citing.{◌≡◌, ◌⊎◌, inl, inr, ℕ, zero, suc, ◌+◌, ◌*◌, ◌<◌, ◌==◌, ◌||◌, List, [], ◌∷◌, ◌++◌, None, Some, IsTrue, refl, sym, ap, subst, ◌∙◌, arith, lt-ltb, ne_eqb, length-append, none-some, AllByRecursion, frame_of, Frame, Master, version_on, IsCleanOn, sealed_page_replaces, version_replaces_itself, next_block_is, length-versions, version_is, AreRingsSoundUnder, ReplaceAll, logical_image_under, next_block_under, versions_on, version_in, StandsUnder, kept_by, ShowsAll, sealed, Entry, LogicalImage, LogRecord, HasBlocks, AreSealed, sealed_end, IsPage, IsStore, current, content_by, PageStore, History, RunsOn, Image, Geometry, lsn_of}
use Rattle.image_meaning.proofs.Replacing.{replace_all}
use Rattle.image_meaning.proofs.Seals.{blocks_sealed}
use Rattle.std.proofs.Common.{Option}
use Rattle.std.specs.Prelude.{nat_lt}
use Rattle.log_laws.specs.NewImage.{Replaces}
use Rattle.redo_laws.proofs.Runs.{reversioned, shows_still}
use Rattle.slotted_page.specs.Layout as page
use Rattle.write_ahead.specs.Forcing as ahead
use Rattle.image_meaning.specs.Redone as redone

-- A version's LSN is one of a sealed block.
logged_number : (n end : ℕ) → (0 < n → n < end) → IsTrue ((n == 0) || nat_lt n end)
logged_number zero end below = refl
logged_number (suc n) end below = ap (λ b. b || nat_lt (suc n) end) (ne_eqb (suc n) 0 (λ same. absurd (omega (arith, same)))) ∙ lt-ltb (suc n) end (below (omega arith))

pub logged_version : (p : LogicalImage) (end : ℕ) (content : List ℕ) → end ≡ 512 * p.hi → ahead.IsLogged end content → redone.IsLogged p (version_in content)
logged_version p end content is logged = logged_number (lsn_of content) (512 * p.hi) (λ some. subst (λ n. lsn_of content < n) is (logged.below some))

-- A page's content is sound.
frame_sound : (count : ℕ) (frames : List Frame) (number : ℕ) (frame : Frame) → AllByRecursion (IsPage count) frames → frame_of frames number ≡ Some frame → page.IsSound frame.content
frame_sound count [] number frame all found = grind (arith, none-some)
frame_sound count (first ∷ frames) number frame all found = grind (arith, (frame_sound count frames number frame all.1))

pub current_sound : (pages : PageStore) (image : Image) (number : ℕ) → IsStore pages → page.IsSound (version_on pages.flash.geometry image number) → page.IsSound (current pages image number)
current_sound pages image number own sound = by (frame_of pages.pool.frames number) refl
  where
    by : (o : Option Frame) → frame_of pages.pool.frames number ≡ o → page.IsSound (content_by o (version_on pages.flash.geometry image number))
    by None none = sound
    by (Some frame) found = frame_sound pages.flash.geometry.pages pages.pool.frames number frame own.pages found

pub last_of_all : {X : Type 0} (P : X → Type 0) (xs : List X) (x : X) → AllByRecursion P (xs ++ x ∷ []) → P x
last_of_all P [] x all = all.0
last_of_all P (y ∷ xs) x all = last_of_all P xs x all.1

-- the logical image of an image with one more block
pub more_blocks : (newest : Option Master) (g : Geometry) (image : Image) (blocks : List (List LogRecord)) (tail : List LogRecord) → sealed (logical_image_under newest g image blocks) tail ≡ logical_image_under newest g image (blocks ++ tail ∷ [])
more_blocks newest g image blocks tail = sym (blocks_sealed newest g image blocks tail)

-- the block behind these ones and one more
pub next_more : (newest : Option Master) (blocks : List (List LogRecord)) (tail : List LogRecord) → next_block_under newest (blocks ++ tail ∷ []) ≡ next_block_under newest blocks + 1
next_more newest blocks tail = let a = next_block_is newest (blocks ++ tail ∷ []) in let b = next_block_is newest blocks in omega (arith, a, b, length-append blocks (tail ∷ []))

-- An image with these blocks, whose versions are the old ones or the current contents of pages that show all records.
module _ (g : Geometry) (old now : Image) (given : ℕ → List ℕ) (blocks : List (List LogRecord)) (tail : List LogRecord) (newest : Option Master) (records : List Entry) (history : History)
    (runs : RunsOn (logical_image_under newest g old blocks) tail records history) (shows : (number : ℕ) → number < g.pages → ShowsAll records (versions_on g old) number (version_in (given number)))
    (held : HasBlocks g (kept_by newest) blocks now) (are_sealed : AreSealed g now)
    (versions : (number : ℕ) → number < g.pages → (version_on g now number ≡ version_on g old number) ⊎ (version_on g now number ≡ given number)) where
  end_is : sealed_end g now ≡ 512 * next_block_under newest blocks
  end_is = let next = held.next in let at = next_block_is newest blocks in omega (arith, next, at)

  by_version : (number : ℕ) → number < g.pages → (version_on g now number ≡ version_on g old number) ⊎ (version_on g now number ≡ given number) → Replaces (logical_image_under newest g old blocks) number (version_in (version_on g now number))
  by_version number exists (inl same) =
      subst (Replaces (logical_image_under newest g old blocks) number) (version_is g old number exists ∙ ap version_in (sym same))
      (version_replaces_itself (logical_image_under newest g old blocks) number runs.carries.sound (omega (arith, exists, length-versions g old)))
  by_version number exists (inr same) =
      subst (λ (c : List ℕ). Replaces (logical_image_under newest g old blocks) number (version_in c)) (sym same)
      (sealed_page_replaces (logical_image_under newest g old blocks) tail number (version_in (given number))
      (subst (λ (c : List ℕ). redone.IsLogged (logical_image_under newest g old blocks) (version_in c)) same (logged_version (logical_image_under newest g old blocks) (sealed_end g now) (version_on g now number) end_is (are_sealed.each number exists)))
      (subst (λ (l : List Entry). ShowsAll l (versions_on g old) number (version_in (given number))) (sym runs.records_are) (shows number exists)))

  pub replaced : ReplaceAll (logical_image_under newest g old blocks) (versions_on g now)
  replaced = replace_all newest g old now blocks (λ number exists. by_version number exists (versions number exists))

  pub runs_now : RunsOn (logical_image_under newest g now blocks) tail records history
  runs_now = reversioned g old now blocks tail newest records history replaced runs

  pub shows_now : (number : ℕ) → number < g.pages → ShowsAll records (versions_on g now) number (version_in (given number))
  shows_now number exists = shows_still g old now blocks tail newest records history number (version_in (given number)) replaced runs exists (shows number exists)

  pub stands_now : AreRingsSoundUnder newest g now → IsCleanOn g now → ((number : ℕ) → number < g.pages → page.IsSound (version_on g old number)) → ((number : ℕ) → number < g.pages → page.IsSound (given number)) → StandsUnder newest g now (history.tables runs.count) runs.count
  stands_now rings clean sound_old sound_given = grind (arith, runs_now)
