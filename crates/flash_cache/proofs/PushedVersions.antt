-- What a push makes of the versions of pages.
use Rattle.std.proofs.lemmas.Grind.{common_steps}
use Rattle.flash_cache.proofs.Names.{◌≡◌, ◌≢◌, ℕ, ◌+◌, ◌*◌, ◌<◌, ◌≤◌, true, false, true≢false, List, [], ◌++◌, length, get_or, drop, Option, Some, None, arith, refl, sym, ap, subst, ◌∙◌, cases_order, same_lists, get_or_default, get_or-take, get_or-drop, length-take, length-drop, Contains, option_or, IsBesidePage, page_on, last_of_both, drop_keeps_version, drop_keeps_clean, push_keeps_clean, Frame, last_frame, version, version_by, CleanAsDisk, IsBesideAll}

-- the octets of a disk beside some pages are as they were
pub record IsBeside (pages : List ℕ) (old new : List ℕ) : Type 0 where
  pub size : length new ≡ length old
  pub beside : (place : ℕ) → IsBesideAll pages place → get_or new place 0 ≡ get_or old place 0

-- so is each other page, whether it lies on the disk or not

pub within_disk : (page : ℕ) (disk : List ℕ) (k : ℕ) → k < length (page_on page disk) → (k < 4096) × (4096 * page + k < length disk)
within_disk page disk k lt = let a = length-take 4096 (drop (4096 * page) disk) in let b = length-drop (4096 * page) disk in (omega (arith, lt, a), omega (arith, lt, a, b))

pub octet_is : (page : ℕ) (disk : List ℕ) (k d : ℕ) → k < length (page_on page disk) → get_or (page_on page disk) k d ≡ get_or disk (4096 * page + k) 0
octet_is page disk k d lt =
    let w = within_disk page disk k lt in
    get_or-take 4096 (drop (4096 * page) disk) k d w.0 ∙ get_or-drop (4096 * page) disk k d ∙ get_or_default disk (4096 * page + k) d 0 w.1

pub size_is : (page : ℕ) (old new : List ℕ) → length new ≡ length old → length (page_on page new) ≡ length (page_on page old)
size_is page old new size =
    let a = length-take 4096 (drop (4096 * page) new) in let b = length-drop (4096 * page) new in
    let c = length-take 4096 (drop (4096 * page) old) in let e = length-drop (4096 * page) old in
    omega (arith, a, b, c, e, size)

pub apart : (page other place : ℕ) → other ≢ page → 4096 * page ≤ place → place < 4096 * page + 4096 → IsBesidePage other place
apart page other place ne from below = grind (arith, common_steps, cases_order)

pub page_beside : (pages : List ℕ) (old new : List ℕ) (page : ℕ) → IsBeside pages old new → (Contains pages page → ⊥) → page_on page new ≡ page_on page old
page_beside pages old new page is out =
    let size = size_is page old new is.size in
    same_lists (page_on page new) (page_on page old) size (λ k d lt.
    let w = within_disk page new k lt in
    let low = w.0 in
    let all : IsBesideAll pages (4096 * page + k) = λ other listed. apart page other (4096 * page + k) (λ same. out (subst (Contains pages) same listed)) (omega arith) (omega (arith, low)) in
    octet_is page new k d lt ∙ is.beside (4096 * page + k) all ∙ sym (octet_is page old k d (subst (λ (n : ℕ). k < n) size lt)))

-- Staged pages are pages of the front group's frames, and those that must be; of its second chances each is the last of its page.

pub record AreStaged (front rest chances : List Frame) (pages : List ℕ) (contents : List (List ℕ)) : Type 0 where
  -- each staged page has a last frame, which is dirty
  pub dirty : (page : ℕ) → Contains pages page → (frame : Frame) × (last_frame page (front ++ rest) ≡ Some frame) × (frame.dirty ≡ true)
  -- and each page whose last frame is in the front group and dirty and has no second chance is staged, with what that frame has
  pub found : (page : ℕ) (frame : Frame) → last_frame page rest ≡ None → last_frame page front ≡ Some frame → frame.dirty ≡ true → last_frame page chances ≡ None
      → (k : ℕ) × (k < length pages) × (get_or pages k 0 ≡ page) × (get_or contents k [] ≡ frame.octets)
  -- a second chance is the last frame of its page
  pub chosen : (page : ℕ) (frame : Frame) → last_frame page chances ≡ Some frame → last_frame page (front ++ rest) ≡ Some frame

pub some_is_some : (a b : Frame) (o : Option Frame) → o ≡ Some a → o ≡ Some b → a ≡ b
some_is_some a b o first second = cc

module _ (front rest chances : List Frame) (pages : List ℕ) (contents : List (List ℕ)) (are : AreStaged front rest chances pages contents) (old new : ℕ → List ℕ) (same : (page : ℕ) → (Contains pages page → ⊥) → new page ≡ old page) where
  abbrev frames : List Frame
  frames = front ++ rest

  -- a page without frames isn't staged, nor one whose last frame is clean
  pub unframed : (page : ℕ) → last_frame page frames ≡ None → Contains pages page → ⊥
  unframed page none listed = let d = are.dirty page listed in let some = d.1 in cc

  undirty : (page : ℕ) (frame : Frame) → last_frame page frames ≡ Some frame → frame.dirty ≡ false → Contains pages page → ⊥
  undirty page frame last clean listed =
      let d = are.dirty page listed in
      let is = some_is_some frame d.0 (last_frame page frames) last d.1 in
      true≢false (sym d.2 ∙ ap (λ (f : Frame). f.dirty) (sym is) ∙ clean)

  pub staged_versions : (page : ℕ) → version new frames page ≡ version old frames page
  staged_versions page = grind (arith, common_steps, unframed)

  pub staged_clean : CleanAsDisk old frames → CleanAsDisk new frames
  staged_clean before page frame last clean = before page frame last clean ∙ sym (same page (undirty page frame last clean))

  module _ (here : (k : ℕ) → k < length pages → new (get_or pages k 0) ≡ get_or contents k []) (before : CleanAsDisk old frames) where
    -- with the second chances behind the rest

    of_chance : (page : ℕ) → last_frame page (rest ++ chances) ≡ option_or (last_frame page chances) (last_frame page rest)
    of_chance page = last_of_both page rest chances

    pub dropped_version : (page : ℕ) → version new (rest ++ chances) page ≡ version old frames page
    dropped_version page = ap (λ (o : Option Frame). version_by o (new page)) (of_chance page) ∙ by (last_frame page chances) refl
      where
        by : (o : Option Frame) → last_frame page chances ≡ o → version_by (option_or o (last_frame page rest)) (new page) ≡ version old frames page
        by None unchosen =
            drop_keeps_version new front rest page (staged_clean before) (λ frame none last dirty.
            let f = are.found page frame none last dirty unchosen in ap new (sym f.2) ∙ here f.0 f.1 ∙ f.3)
            ∙ staged_versions page
        by (Some x) is = sym (ap (λ (o : Option Frame). version_by o (old page)) (are.chosen page x is))

    pub dropped_clean : CleanAsDisk new (rest ++ chances)
    dropped_clean = push_keeps_clean new rest chances (drop_keeps_clean new front rest (staged_clean before)) (λ page frame last clean. staged_clean before page frame (are.chosen page frame last) clean)
