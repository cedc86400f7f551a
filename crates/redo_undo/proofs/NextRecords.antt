-- The next record of an opened log is redone.
use Rattle.redo_undo.proofs.Names.{◌≡◌, ◌≢◌, ◌⊎◌, inl, inr, ℕ, ◌+◌, ◌-◌, ◌*◌, ◌/◌, ◌≤◌, ◌<◌, List, [], ◌∷◌, ◌++◌, length, map, Some, refl, sym, ap, subst, ◌∙◌, arith, true, Bool, cases_eq, lt-ltb, cond-true, filter-append, same_Some, AllByRecursion, filter, Steps, StepsOn, is_taken, front_of, all_append, next_is_redone, next_block_is, length-versions, versions_on, version_in, kept_by, next_block_under, IsRedone, AreKnown, Redoes, last_number_of, in_order_least, Entry, log_from, number_of, version_at, LogicalImage, IsInOrder, IsInTable, last_lsn, last_number, before_block, LogRecord, LogStore, IsAhead, current, Matches, PageStore, front_is_current, known_more, IsOnPage, Opening, opened, IsFrom, IsRedoing, heard_of, State, Image, lsn_of, all_between, end_forced}
use Rattle.std.specs.Prelude.{nat_lt}

pub filter_split : (test : Entry → Bool) (front : List Entry) (e : Entry) (rest : List Entry) → test e ≡ true → filter test (front ++ e ∷ rest) ≡ filter test front ++ e ∷ filter test rest
filter_split test front e rest here = filter-append test front (e ∷ rest) ∙ ap (λ (l : List Entry). filter test front ++ l) (cond-true (test e) (e ∷ filter test rest) (filter test rest) here)

-- a record of an ordered log stands before the log's end
pub order_ends : (from to : ℕ) (log : List Entry) → IsInOrder from log to → from ≤ to
order_ends from to [] ordered = ordered
order_ends from to (e ∷ log) ordered = let later = order_ends (e.lsn + 1) to log ordered.1 in let first = ordered.0 in omega (arith, later, first)

before_end : (from to : ℕ) (front : List Entry) (e : Entry) (rest : List Entry) → IsInOrder from (front ++ e ∷ rest) to → e.lsn < to
before_end from to [] e rest ordered = let later = order_ends (e.lsn + 1) to rest ordered.1 in omega (arith, later)
before_end from to (x ∷ front) e rest ordered = before_end (x.lsn + 1) to front e rest ordered.1

last_before : (from to n : ℕ) (front : List Entry) (e : Entry) (rest : List Entry) → IsInOrder from (front ++ e ∷ rest) to → n ≤ e.lsn - 1 → last_number n (map (λ x. x.lsn) front) ≤ e.lsn - 1
last_before from to n [] e rest ordered low = low
last_before from to n (x ∷ front) e rest ordered low =
    last_before (x.lsn + 1) to x.lsn front e rest ordered.1 (omega (arith, in_order_least (x.lsn + 1) to front e rest ordered.1))

from_more : (p : LogicalImage) (front : List Entry) (e : Entry) (page lsn : ℕ) → last_lsn front ≤ e.lsn - 1 → IsFrom p front page lsn → IsFrom p (front ++ e ∷ []) page lsn
from_more p front e page lsn low (inl same) = inl same
from_more p front e page lsn low (inr less) = let last : last_lsn (front ++ e ∷ []) ≡ e.lsn = last_number_of 0 front e in inr (omega (arith, low, less, last))

-- the page in front knows of a record on it
pub front_knows : (pages : PageStore) (image : Image) (rec : LogRecord) (lsn page : ℕ) → 0 < length pages.pool.frames → (front_of pages.pool.frames).page ≡ page → IsOnPage page rec → lsn ≤ lsn_of (front_of pages.pool.frames).content →
    (other number : ℕ) → number_of rec ≡ Some number → number / 32 ≡ other → lsn ≤ lsn_of (current pages image other)
front_knows pages image rec lsn page some is on least other number own at =
    let same_number : number ≡ on.0 = same_Some number on.0 (sym own ∙ on.1) in
    let same : (front_of pages.pool.frames).page ≡ other = is ∙ sym on.2 ∙ ap (λ n. n / 32) (sym same_number) ∙ at in
    subst (λ n. lsn ≤ lsn_of (current pages image n)) same (subst (λ (c : List ℕ). lsn ≤ lsn_of c) (sym (front_is_current pages image some)) least)

module _ (o : Opening) (log : LogStore) (pages : PageStore) (site : State) (front : List Entry) (h : IsRedoing o log pages site front)
    (e : Entry) (rest : List Entry) (is : log_from (kept_by o.newest) o.blocks ≡ front ++ e ∷ rest) where
  -- its page exists
  pub page_exists : (page number : ℕ) → number_of e.rec ≡ Some number → number / 32 ≡ page → page < o.sizes.pages
  page_exists page number own at =
      let within = all_between (IsInTable (versions_on o.sizes o.image)) front e rest (subst (AllByRecursion (IsInTable (versions_on o.sizes o.image))) is h.sound.in_table) in
      omega (arith, within number own, length-versions o.sizes o.image, at)

  hi_is : log.ring.hi ≡ next_block_under o.newest o.blocks
  hi_is = let hi = h.ready.blocks.hi in let next = h.ready.records.blocks.next in let at = next_block_is o.newest o.blocks in omega (arith, hi, next, at)

  -- its LSN is sealed
  pub lsn_sealed : e.lsn < end_forced log
  lsn_sealed =
      let below = before_end (512 * kept_by o.newest) (512 * next_block_under o.newest o.blocks) front e rest (subst (λ (l : List Entry). IsInOrder (512 * kept_by o.newest) l (512 * next_block_under o.newest o.blocks)) is h.sound.in_order) in
      omega (arith, below, hi_is)

  -- those before it have smaller ones
  pub last_below : last_lsn front ≤ e.lsn - 1
  last_below =
      last_before (512 * kept_by o.newest) (512 * next_block_under o.newest o.blocks) 0 front e rest
      (subst (λ (l : List Entry). IsInOrder (512 * kept_by o.newest) l (512 * next_block_under o.newest o.blocks)) is h.sound.in_order) (omega arith)

  from_still : (page : ℕ) → page < o.sizes.pages → IsFrom (opened o) (front ++ e ∷ []) page (lsn_of (current pages site.image page))
  from_still page exists = from_more (opened o) front e page (lsn_of (current pages site.image page)) last_below (h.from page exists)

  -- analysis may take it, where it hears of it
  pub may_step : StepsOn → is_taken (opened o).master e ≡ true → Steps (opened o).master.active (heard_of (opened o).master front) e
  may_step steps here =
      steps (opened o) (heard_of (opened o).master front) e (heard_of (opened o).master rest) h.sound
      (ap (heard_of (opened o).master) is ∙ filter_split (is_taken (opened o).master) front e rest here)

  -- before the block its page knows of it
  pub known_before : e.lsn < 512 * (opened o).master.redo → (page number : ℕ) → page < o.sizes.pages → number_of e.rec ≡ Some number → number / 32 ≡ page → e.lsn ≤ lsn_of (current pages site.image page)
  known_before early page number exists own at =
      let fits = h.sound.versions_fit page (omega (arith, exists, length-versions o.sizes o.image)) in
      let before : before_block (opened o).master.redo (opened o).log ≡ before_block (opened o).master.redo front ++ e ∷ before_block (opened o).master.redo rest =
      ap (before_block (opened o).master.redo) is ∙ filter_split (λ (x : Entry). nat_lt x.lsn (512 * (opened o).master.redo)) front e rest (lt-ltb e.lsn (512 * (opened o).master.redo) early) in
      let knows = all_between (λ (x : Entry). (n : ℕ) → number_of x.rec ≡ Some n → n / 32 ≡ page → x.lsn ≤ (version_at (opened o).pages page).lsn) (before_block (opened o).master.redo front) e (before_block (opened o).master.redo rest)
      (subst (AllByRecursion (λ (x : Entry). (n : ℕ) → number_of x.rec ≡ Some n → n / 32 ≡ page → x.lsn ≤ (version_at (opened o).pages page).lsn)) before fits.knows) number own at in
      omega (arith, knows, (h.redone page exists).later)

  with_known : (pages' : PageStore) → pages'.flash.geometry ≡ pages.flash.geometry → Matches pages' site → IsAhead log pages' site.image →
      ((page : ℕ) → page < o.sizes.pages → IsRedone (opened o) page (version_in (current pages' site.image page)) × AreKnown (front ++ e ∷ []) page (lsn_of (current pages' site.image page)) × IsFrom (opened o) (front ++ e ∷ []) page (lsn_of (current pages' site.image page))) →
      IsRedoing o log pages' site (front ++ e ∷ [])
  with_known pages' same fits are_ahead each = record {
    geometry = same ∙ h.geometry;
    kept = h.kept;
    sound = h.sound;
    means = h.means;
    ready = record { pages = fits; blocks = h.ready.blocks; records = h.ready.records };
    rings = h.rings;
    masters = h.masters;
    ahead = are_ahead;
    replace = h.replace;
    redone = λ page exists. (each page exists).0;
    known = λ page exists. (each page exists).1;
    from = λ page exists. (each page exists).2;
  }

  -- It is on no page, or its page knows of it.
  pub no_change : ((page number : ℕ) → page < o.sizes.pages → number_of e.rec ≡ Some number → number / 32 ≡ page → e.lsn ≤ lsn_of (current pages site.image page)) → IsRedoing o log pages site (front ++ e ∷ [])
  no_change knows =
      with_known pages refl h.ready.pages h.ahead
      (λ page exists. (
        h.redone page exists,
        all_append (λ (x : Entry). (number : ℕ) → number_of x.rec ≡ Some number → number / 32 ≡ page → x.lsn ≤ lsn_of (current pages site.image page)) front (e ∷ []) (h.known page exists)
            ((λ number own at. knows page number exists own at), tt),
        from_still page exists,
      ))

  -- it is on one page, whose LSN is smaller, and which is changed by it
  module _ (pages' : PageStore) (on number : ℕ) (own : number_of e.rec ≡ Some number) (at : number / 32 ≡ on) (later : lsn_of (current pages site.image on) < e.lsn)
      (redoes : Redoes on e number (version_in (current pages site.image on)) (version_in (current pages' site.image on)))
      (others : (page : ℕ) → page ≢ on → current pages' site.image page ≡ current pages site.image page) where
    each_page : (page : ℕ) → page < o.sizes.pages → (page ≡ on) ⊎ (page ≢ on) →
        IsRedone (opened o) page (version_in (current pages' site.image page)) × AreKnown (front ++ e ∷ []) page (lsn_of (current pages' site.image page)) × IsFrom (opened o) (front ++ e ∷ []) page (lsn_of (current pages' site.image page))
    each_page page exists (inl same) =
        let there = subst (λ n. n < o.sizes.pages) same exists in
        let set = redoes.lsn in
        let last : last_lsn (front ++ e ∷ []) ≡ e.lsn = last_number_of 0 front e in
        subst (λ n. IsRedone (opened o) n (version_in (current pages' site.image n)) × AreKnown (front ++ e ∷ []) n (lsn_of (current pages' site.image n)) × IsFrom (opened o) (front ++ e ∷ []) n (lsn_of (current pages' site.image n))) (sym same) (
          next_is_redone (opened o) on (version_in (current pages site.image on)) (version_in (current pages' site.image on)) front rest e number h.sound is own at later (h.known on there) (h.redone on there) redoes,
          all_append (λ (x : Entry). (n : ℕ) → number_of x.rec ≡ Some n → n / 32 ≡ on → x.lsn ≤ lsn_of (current pages' site.image on)) front (e ∷ [])
              (known_more front on (lsn_of (current pages site.image on)) (lsn_of (current pages' site.image on)) (omega (arith, later, set)) (h.known on there)) ((λ n of_n here. omega (arith, set)), tt),
          inr (omega (arith, set, last)),
        )
    each_page page exists (inr other) =
        subst (λ (c : List ℕ). IsRedone (opened o) page (version_in c) × AreKnown (front ++ e ∷ []) page (lsn_of c) × IsFrom (opened o) (front ++ e ∷ []) page (lsn_of c)) (sym (others page other)) (
          h.redone page exists,
          all_append (λ (x : Entry). (n : ℕ) → number_of x.rec ≡ Some n → n / 32 ≡ page → x.lsn ≤ lsn_of (current pages site.image page)) front (e ∷ []) (h.known page exists)
              ((λ n of_n here. let same : n ≡ number = same_Some n number (sym of_n ∙ own) in absurd (other (sym here ∙ ap (λ k. k / 32) same ∙ at))), tt),
          from_still page exists,
        )

    pub changed : pages'.flash.geometry ≡ pages.flash.geometry → Matches pages' site → IsAhead log pages' site.image → IsRedoing o log pages' site (front ++ e ∷ [])
    changed same fits are_ahead = with_known pages' same fits are_ahead (λ page exists. each_page page exists (cases_eq page on))
