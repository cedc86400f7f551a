-- What a page shows behind one more record.
use Rattle.std.proofs.lemmas.Grind.{common_steps}
use Rattle.redo_laws.proofs.Citing.{◌≡◌, ◌⊎◌, inl, inr, ℕ, ◌+◌, ◌*◌, ◌/◌, ◌≤◌, ◌<◌, false, List, [], ◌∷◌, ◌++◌, length, None, Some, refl, sym, ap, subst, ◌∙◌, arith, cases_eq, ne_eqb, eq-eqb, none-some, same_Some, front_of, Master, versions_on, version_in, Redoes, AreKnown, ShowsAll, Entry, Version, number_of, is_on, is_number, shown, LogRecord, end_of, LogStore, IsAhead, current, Matches, IsStore, PageStore, History, content_at, RepresentsLog, RepresentsIn, KeepsPages, Represents, State, Image, Geometry, lsn_of, slots_of}
use Rattle.page_store.proofs.Fitting.{front_exists}
use Rattle.log_laws.proofs.Shown.{shown_push}
use Rattle.std.proofs.Common.{◌≢◌, Option}
use Rattle.flash_cache.proofs.Given.{all_append}

pub known_more : (log : List Entry) (page from to : ℕ) → from ≤ to → AreKnown log page from → AreKnown log page to
known_more [] page from to more known = tt
known_more (e ∷ log) page from to more known = ((λ number is at. let known_e = known.0 number is at in omega (arith, known_e, more)), known_more log page from to more known.1)

module _ (records : List Entry) (e : Entry) (versions : List Version) (page : ℕ) where
  off_number : ((number : ℕ) → number_of e.rec ≡ Some number → number / 32 ≡ page → ⊥) → (slot : ℕ) → slot < 32 → is_on (32 * page + slot) e ≡ false
  off_number off slot less = by (number_of e.rec) refl
    where
      by : (o : Option ℕ) → number_of e.rec ≡ o → is_number (32 * page + slot) o ≡ false
      by None is = refl
      by (Some number) is = ne_eqb number (32 * page + slot) (λ same. off number is (omega (arith, same, less)))

  -- a record that isn't on it
  pub off_page : (v : Version) → ((number : ℕ) → number_of e.rec ≡ Some number → number / 32 ≡ page → ⊥) → ShowsAll records versions page v → ShowsAll (records ++ e ∷ []) versions page v
  off_page v off shows = grind (arith, all_append, shown_push, off_number)

  -- and one that is, once it is redone
  pub on_page : (number : ℕ) (v w : Version) → number_of e.rec ≡ Some number → v.lsn < e.lsn → Redoes page e number v w → ShowsAll records versions page v → ShowsAll (records ++ e ∷ []) versions page w
  on_page number v w is later redoes shows = grind (arith, all_append, known_more, shown_push, eq-eqb, ne_eqb)

-- The same pages, over images in which each page has the version and the content that it had.
module _ (g : Geometry) (log log' : LogStore) (pages : PageStore) (site new : State) (newest : Option Master) (records : List Entry) (history : History) (h : RepresentsIn g log pages site newest records history) (keeps : KeepsPages g pages site.image new.image) where
  pub shows_same : (number : ℕ) → number < g.pages → ShowsAll records (versions_on g new.image) number (version_in (current pages new.image number))
  shows_same number exists =
      subst (λ (versions : List Version). ShowsAll records versions number (version_in (current pages new.image number))) (sym keeps.versions)
      (subst (λ (c : List ℕ). ShowsAll records (versions_on g site.image) number (version_in c)) (sym (keeps.current number)) (h.shows.each number exists))

  -- a record on none of them
  pub holds_off : {history' : History} (rec : LogRecord) (lsn : ℕ) → number_of rec ≡ None → end_of log ≤ lsn → lsn < end_of log' →
      RepresentsLog g log' pages new newest (records ++ record { lsn = lsn; rec = rec } ∷ []) history' → RepresentsIn g log' pages new newest (records ++ record { lsn = lsn; rec = rec } ∷ []) history'
  holds_off rec lsn none behind below holds = record {
    log_holds = holds;
    shows = record {
      each = λ number exists. off_page records (record { lsn = lsn; rec = rec }) (versions_on g new.image) number (version_in (current pages new.image number))
          (λ own is at. none-some own (sym none ∙ is)) (shows_same number exists);
    };
    below = λ number exists.
        subst (λ (c : List ℕ). lsn_of c < end_of log') (sym (keeps.current number)) (omega (arith, h.below number exists, behind, below));
  }

  -- a record on the page in front, which is redone there
  pub holds_on : (pages' : PageStore) (rec : LogRecord) (lsn number front : ℕ) → number_of rec ≡ Some number → number / 32 ≡ front → lsn_of (current pages new.image front) < lsn →
      Redoes front (record { lsn = lsn; rec = rec }) number (version_in (current pages new.image front)) (version_in (current pages' new.image front)) →
      ((page : ℕ) → page ≢ front → current pages' new.image page ≡ current pages new.image page) → end_of log ≤ lsn → lsn < end_of log' →
      RepresentsLog g log' pages' new newest (records ++ record { lsn = lsn; rec = rec } ∷ []) history → RepresentsIn g log' pages' new newest (records ++ record { lsn = lsn; rec = rec } ∷ []) history
  holds_on pages' rec lsn number front is at later redoes others behind below holds = record {
    log_holds = holds;
    shows = record { each = λ page exists. shows_by page exists (cases_eq page front) };
    below = λ page exists. below_by page exists (cases_eq page front);
  }
    where
      e : Entry
      e = record { lsn = lsn; rec = rec }

      shows_by : (page : ℕ) → page < g.pages → (page ≡ front) ⊎ (page ≢ front) → ShowsAll (records ++ record { lsn = lsn; rec = rec } ∷ []) (versions_on g new.image) page (version_in (current pages' new.image page))
      shows_by page exists (inl same) =
          subst (λ n. ShowsAll (records ++ record { lsn = lsn; rec = rec } ∷ []) (versions_on g new.image) n (version_in (current pages' new.image n))) (sym same)
          (on_page records (record { lsn = lsn; rec = rec }) (versions_on g new.image) front number (version_in (current pages new.image front)) (version_in (current pages' new.image front)) is later redoes
          (shows_same front (subst (λ n. n < g.pages) same exists)))
      shows_by page exists (inr other) =
          subst (λ (c : List ℕ). ShowsAll (records ++ record { lsn = lsn; rec = rec } ∷ []) (versions_on g new.image) page (version_in c)) (sym (others page other))
          (off_page records (record { lsn = lsn; rec = rec }) (versions_on g new.image) page (version_in (current pages new.image page))
          (λ own found here. let same : own ≡ number = same_Some own number (sym found ∙ is) in other (sym here ∙ ap (λ n. n / 32) same ∙ at)) (shows_same page exists))

      below_by : (page : ℕ) → page < g.pages → (page ≡ front) ⊎ (page ≢ front) → lsn_of (current pages' new.image page) < end_of log'
      below_by page exists (inl same) =
          subst (λ n. lsn_of (current pages' new.image n) < end_of log') (sym same) (omega (arith, redoes.lsn, below))
      below_by page exists (inr other) =
          subst (λ (c : List ℕ). lsn_of c < end_of log') (sym (others page other ∙ keeps.current page)) (omega (arith, h.below page exists, behind, below))

-- other pages beside the same log
pub other_pages : (g : Geometry) (log : LogStore) (pages pages' : PageStore) (site : State) (newest : Option Master) (records : List Entry) (history : History) → Matches pages' site → IsAhead log pages' site.image → RepresentsLog g log pages site newest records history → RepresentsLog g log pages' site newest records history
other_pages g log pages pages' site newest records history fits are_ahead h = grind (arith)

pub front_is_current : (pages : PageStore) (image : Image) → 0 < length pages.pool.frames → current pages image (front_of pages.pool.frames).page ≡ (front_of pages.pool.frames).content
front_is_current pages image some = grind (arith, common_steps, eq-eqb)

-- a slot of the page in front has what the last record there has written
pub front_shows : (log : LogStore) (pages : PageStore) (site : State) (newest : Option Master) (records : List Entry) (history : History) (slot : ℕ) → IsStore pages → 0 < length pages.pool.frames → slot < 32 → Represents log pages site newest records history → content_at (slots_of (front_of pages.pool.frames).content) slot ≡ shown records (versions_on pages.flash.geometry site.image) (32 * (front_of pages.pool.frames).page + slot)
front_shows log pages site newest records history slot own some less h =
    let front = (front_of pages.pool.frames).page in
    ap (λ (o : List ℕ). content_at (slots_of o) slot) (sym (front_is_current pages site.image some))
    ∙ (h.shows.each front (front_exists pages.flash.geometry.pages pages.pool.frames some own.pages)).slots slot less
