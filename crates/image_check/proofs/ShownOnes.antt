-- What versions know of a log, record by record, and the sixth rule of it.
use Rattle.std.proofs.lemmas.Grind.{common_steps}
use Rattle.image_check.proofs.Names.{◌≡◌, ℕ, suc, ◌+◌, ◌*◌, ◌/◌, ◌≤◌, ◌<◌, ◌&&◌, Bool, true, false, true≢false, cond, nat_eq, nat_lt, nat_le, List, [], ◌∷◌, ◌++◌, length, map, Option, Some, None, option_map, refl, sym, ap, ◌∙◌, subst, arith, and_from, eqb-true, ne_eqb, nat_tests, map-append, list_all-map, list_all_at, get_or-map-range_with_len, length-map-range_with_len, map-range_with_len_more, slice_get-map, slice_get-get_or, slice_get_within, none-some, same_Some, AllByRecursion, list_all, range_with_len, slice_get, Ok, version_on, FindsVersions, AreExpected, IsKnownEarly, IsAs, HasContents, is_logged, written_by, ShowsFrames, AreGroups, VersionsFit, Found, version_in, versions_on, IndexMap, get, last_where-append, Entry, Version, blank_version, version_at, number_of, is_number, is_on, after_of, LogicalImage, ShowsLast, before_block, last_known, Content, content_at, Queue, State, Image, OnlyReads, Geometry, lsn_of}
use Rattle.site.proofs.Laws.{stays_honest}
use Rattle.image_form.proofs.Lasting.{found_later}

-- What was found stays after calls that only read.
pub versions_later : {T : Type 0} {x : T} {found : Found} {frames : Queue} {a b : State} → OnlyReads {T = T} (Ok x) a b → FindsVersions found frames a → FindsVersions found frames b
versions_later {found = found} {frames = frames} {a = a} {b = b} reads finds =
    let same : b.image ≡ a.image = (reads.same finds.honest).image in
    record {
      honest = stays_honest a b reads.preserves finds.honest;
      rings = found_later found.rings a b same finds.rings;
      groups = subst (AreGroups found.log.geometry) (sym same) finds.groups;
      shown = subst (λ (image : Image). ShowsFrames found.log.geometry image frames) (sym same) finds.shown;
    }

-- One record more.

-- whether a version with this LSN, if there is one, knows of a record
abbrev pub is_known : Option ℕ → ℕ → Bool
is_known None lsn = false
is_known (Some known) lsn = nat_le lsn known

-- of a number whose version doesn't know of it, or that it isn't on
pub written_same : (records : List Entry) (e : Entry) (number : ℕ) (o : Option ℕ) → (is_on number e && is_known o e.lsn) ≡ false → written_by (records ++ e ∷ []) number o ≡ written_by records number o
written_same records e number None none = grind (arith, common_steps)
written_same records e number (Some known) none = grind (arith, common_steps, nat_le, option_map, last_where-append)

-- and of the number that it is on
pub written_now : (records : List Entry) (e : Entry) (number known : ℕ) → (is_on number e && nat_le e.lsn known) ≡ true → written_by (records ++ e ∷ []) number (Some known) ≡ Some (after_of e.rec)
written_now records e number known here = grind (arith, common_steps, nat_le, option_map, last_where-append)

pub expected_same : {S : Type 0} (lsns : List ℕ) (records : List Entry) (e : Entry) (contents : IndexMap ℕ Content S) →
    ((number : ℕ) → (is_on number e && is_known (slice_get lsns (number / 32)) e.lsn) ≡ false) → AreExpected lsns records contents → AreExpected lsns (records ++ e ∷ []) contents
expected_same lsns records e contents none is = record { each = λ number. is.each number ∙ sym (written_same records e number (slice_get lsns (number / 32)) (none number)) }

-- a record on no number, or on one of which the version doesn't know it, is of no use
pub on_none : (lsns : List ℕ) (e : Entry) → number_of e.rec ≡ None → (number : ℕ) → (is_on number e && is_known (slice_get lsns (number / 32)) e.lsn) ≡ false
on_none lsns e none number = ap (λ (o : Option ℕ). is_number number o && is_known (slice_get lsns (number / 32)) e.lsn) none

pub on_unknown : (lsns : List ℕ) (e : Entry) (m : ℕ) → number_of e.rec ≡ Some m → is_known (slice_get lsns (m / 32)) e.lsn ≡ false → (number : ℕ) → (is_on number e && is_known (slice_get lsns (number / 32)) e.lsn) ≡ false
on_unknown lsns e m on none number = grind (arith, common_steps, ne_eqb)

pub expected_more : {S : Type 0} (lsns : List ℕ) (records : List Entry) (e : Entry) (m known : ℕ) (old new : IndexMap ℕ Content S) → number_of e.rec ≡ Some m → slice_get lsns (m / 32) ≡ Some known → e.lsn ≤ known →
    ((number : ℕ) → get nat_eq new number ≡ cond (nat_eq m number) (Some (after_of e.rec)) (get nat_eq old number)) → AreExpected lsns records old → AreExpected lsns (records ++ e ∷ []) new
expected_more lsns records e m known old new on at low updates is = grind (arith, common_steps, nat_eq, eqb-true, nat_le, nat_tests, written_now, and_from, written_same)

-- The LSNs of versions.

module _ (pages : List Version) (lsns : List ℕ) (are : lsns ≡ map (λ (v : Version). v.lsn) pages) where
  pub lsn_at : (page : ℕ) → page < length pages → slice_get lsns page ≡ Some (version_at pages page).lsn
  lsn_at page less = grind (arith, common_steps, slice_get-map, option_map, slice_get-get_or)

  pub page_of_lsn : (page known : ℕ) → slice_get lsns page ≡ Some known → page < length pages
  page_of_lsn page known at = grind (arith, common_steps, slice_get-map, option_map, none-some, slice_get_within)

-- none knows of a record that isn't sealed

pub logged_each : (end : ℕ) (pages : List Version) (lsns : List ℕ) → lsns ≡ map (λ (v : Version). v.lsn) pages → list_all (is_logged end) lsns ≡ true → (page : ℕ) → page < length pages → is_logged end (version_at pages page).lsn ≡ true
logged_each end pages lsns are all page less = grind (arith, common_steps, list_all-map, list_all_at)

each_passes : (test : Version → Bool) (pages : List Version) → ((page : ℕ) → page < length pages → test (version_at pages page) ≡ true) → list_all test pages ≡ true
each_passes test [] each = refl
each_passes test (v ∷ pages) each = and_from (test v) (list_all test pages) (each 0 (omega arith)) (each_passes test pages (λ page less. each (suc page) (omega (arith, less))))

pub each_logged : (end : ℕ) (pages : List Version) (lsns : List ℕ) → lsns ≡ map (λ (v : Version). v.lsn) pages → ((page : ℕ) → page < length pages → is_logged end (version_at pages page).lsn ≡ true) → list_all (is_logged end) lsns ≡ true
each_logged end pages lsns are each = grind (arith, common_steps, list_all-map, each_passes)

-- each knows of all records before the redo block

abbrev pub IsKnownOn : List Version → ℕ → Entry → Type 0
IsKnownOn pages page e = (number : ℕ) → number_of e.rec ≡ Some number → number / 32 ≡ page → e.lsn ≤ (version_at pages page).lsn

pub early_of : (redo : ℕ) (pages : List Version) (lsns : List ℕ) → lsns ≡ map (λ (v : Version). v.lsn) pages → (log : List Entry) →
    ((page : ℕ) → page < length pages → AllByRecursion (IsKnownOn pages page) (before_block redo log)) → AllByRecursion (IsKnownEarly redo lsns) log
early_of redo pages lsns are [] each = tt
early_of redo pages lsns are (e ∷ log) each = by (nat_lt e.lsn (512 * redo)) refl each (early_of redo pages lsns are log)
  where
    by : (b : Bool) → nat_lt e.lsn (512 * redo) ≡ b → ((page : ℕ) → page < length pages → AllByRecursion (IsKnownOn pages page) (cond b (e ∷ before_block redo log) (before_block redo log))) →
        (((page : ℕ) → page < length pages → AllByRecursion (IsKnownOn pages page) (before_block redo log)) → AllByRecursion (IsKnownEarly redo lsns) log) → IsKnownEarly redo lsns e × AllByRecursion (IsKnownEarly redo lsns) log
    by true early all again = (
      λ before number known on at.
          let less = page_of_lsn pages lsns are (number / 32) known at in
          let same : (version_at pages (number / 32)).lsn ≡ known = same_Some _ _ (sym (lsn_at pages lsns are (number / 32) less) ∙ at) in
          subst (λ (k : ℕ). e.lsn ≤ k) same ((all (number / 32) less).0 number on refl),
      again (λ page less. (all page less).1),
    )
    by false late all again = ((λ before number known on at. absurd (let early : nat_lt e.lsn (512 * redo) ≡ true = grind (arith, nat_tests, before) in true≢false (sym early ∙ late))), again all)

pub early_on : (redo : ℕ) (pages : List Version) (lsns : List ℕ) → lsns ≡ map (λ (v : Version). v.lsn) pages → (page : ℕ) → page < length pages → (log : List Entry) →
    AllByRecursion (IsKnownEarly redo lsns) log → AllByRecursion (IsKnownOn pages page) (before_block redo log)
early_on redo pages lsns are page less [] all = tt
early_on redo pages lsns are page less (e ∷ log) all = by (nat_lt e.lsn (512 * redo)) refl (early_on redo pages lsns are page less log all.1)
  where
    by : (b : Bool) → nat_lt e.lsn (512 * redo) ≡ b → AllByRecursion (IsKnownOn pages page) (before_block redo log) → AllByRecursion (IsKnownOn pages page) (cond b (e ∷ before_block redo log) (before_block redo log))
    by true early rest = (
      λ number on same.
          let before : e.lsn < 512 * redo = grind (arith, nat_tests, early) in
          all.0 before number (version_at pages page).lsn on (ap (slice_get lsns) same ∙ lsn_at pages lsns are page less),
      rest,
    )
    by false late rest = rest

-- and each shows what it knows of

pub as_last : (slot : Content) (o : Option Entry) → ShowsLast slot o → IsAs slot (option_map (λ (e : Entry). after_of e.rec) o)
as_last slot None shows = tt
as_last slot (Some e) shows = shows

pub last_as : (slot : Content) (o : Option Entry) → IsAs slot (option_map (λ (e : Entry). after_of e.rec) o) → ShowsLast slot o
last_as slot None is = tt
last_as slot (Some e) is = is

pub expected_at : {S : Type 0} (pages : List Version) (lsns : List ℕ) → lsns ≡ map (λ (v : Version). v.lsn) pages → (log : List Entry) (contents : IndexMap ℕ Content S) → AreExpected lsns log contents → (page slot : ℕ) → page < length pages → slot < 32 →
    get nat_eq contents (32 * page + slot) ≡ option_map (λ (e : Entry). after_of e.rec) (last_known log (version_at pages page).lsn (32 * page + slot))
expected_at pages lsns are log contents is page slot less low =
    let number : ℕ = 32 * page + slot in
    let place : number / 32 ≡ page = omega (arith, low) in
    is.each number ∙ ap (λ (n : ℕ). written_by log number (slice_get lsns n)) place ∙ ap (written_by log number) (lsn_at pages lsns are page less)

-- The sixth rule.

-- each version has what is expected of it
abbrev pub AllHave : {S : Type 0} → IndexMap ℕ Content S → Geometry → Image → Type 0
AllHave contents g image = (page : ℕ) → page < g.pages → HasContents contents page (version_on g image page)

module _ (p : LogicalImage) (g : Geometry) (image : Image) (pages_are : p.pages ≡ versions_on g image) (lsns : List ℕ) (are : lsns ≡ map (λ (v : Version). v.lsn) (versions_on g image)) where
  lsns_are : lsns ≡ map (λ (v : Version). v.lsn) p.pages
  lsns_are = are ∙ ap (map (λ (v : Version). v.lsn)) (sym pages_are)

  count : length p.pages ≡ g.pages
  count = ap length pages_are ∙ length-map-range_with_len (λ number. version_in (version_on g image number)) 0 g.pages

  version_is : (page : ℕ) → page < g.pages → version_at p.pages page ≡ version_in (version_on g image page)
  version_is page less = ap (λ (l : List Version). version_at l page) pages_are ∙ get_or-map-range_with_len (λ number. version_in (version_on g image number)) 0 g.pages page page blank_version less (omega arith)

  pub rule_logged : (end : ℕ) → end ≡ 512 * p.hi → VersionsFit p → list_all (is_logged end) lsns ≡ true
  rule_logged end is rule = each_logged end p.pages lsns lsns_are (λ page less. ap (λ (k : ℕ). is_logged k (version_at p.pages page).lsn) is ∙ (rule page less).logged)

  pub rule_early : VersionsFit p → AllByRecursion (IsKnownEarly p.master.redo lsns) p.log
  rule_early rule = early_of p.master.redo p.pages lsns lsns_are p.log (λ page less. (rule page less).knows)

  pub rule_contents : {S : Type 0} (contents : IndexMap ℕ Content S) → AreExpected lsns p.log contents → VersionsFit p → AllHave contents g image
  rule_contents contents is rule page less slot low =
      let there : page < length p.pages = let n = count in omega (arith, n, less) in
      let v = version_at p.pages page in
      let o = last_known p.log v.lsn (32 * page + slot) in
      let shown : IsAs (content_at v.slots slot) (get nat_eq contents (32 * page + slot)) = subst (IsAs (content_at v.slots slot)) (sym (expected_at p.pages lsns lsns_are p.log contents is page slot there low)) (as_last (content_at v.slots slot) o ((rule page there).shows slot low)) in
      subst (λ (x : Version). IsAs (content_at x.slots slot) (get nat_eq contents (32 * page + slot))) (version_is page less) shown

  pub rule_of : {S : Type 0} (end : ℕ) (contents : IndexMap ℕ Content S) → end ≡ 512 * p.hi → list_all (is_logged end) lsns ≡ true → AllByRecursion (IsKnownEarly p.master.redo lsns) p.log → AreExpected lsns p.log contents → AllHave contents g image → VersionsFit p
  rule_of end contents is logged early expected all page less = record {
    logged = ap (λ (k : ℕ). is_logged k (version_at p.pages page).lsn) (sym is) ∙ logged_each end p.pages lsns lsns_are logged page less;
    shows = λ slot low.
        let there : page < g.pages = let n = count in omega (arith, n, less) in
        let v = version_at p.pages page in
        let shown : IsAs (content_at v.slots slot) (get nat_eq contents (32 * page + slot)) = subst (λ (x : Version). IsAs (content_at x.slots slot) (get nat_eq contents (32 * page + slot))) (sym (version_is page there)) (all page there slot low) in
        last_as (content_at v.slots slot) (last_known p.log v.lsn (32 * page + slot)) (subst (IsAs (content_at v.slots slot)) (expected_at p.pages lsns lsns_are p.log contents expected page slot less low) shown);
    knows = early_on p.master.redo p.pages lsns lsns_are page less p.log early;
  }

-- Page by page.

abbrev pub first_lsns : Geometry → Image → ℕ → List ℕ
first_lsns g image n = map (λ (v : Version). v.lsn) (map (λ number. version_in (version_on g image number)) (range_with_len 0 n))

more_lsns : (g : Geometry) (image : Image) (n : ℕ) → first_lsns g image (n + 1) ≡ first_lsns g image n ++ lsn_of (version_on g image n) ∷ []
more_lsns g image n =
    let f : ℕ → Version = λ number. version_in (version_on g image number) in
    let lsn : Version → ℕ = λ v. v.lsn in
    ap (map lsn) (map-range_with_len_more f 0 n n (omega arith)) ∙ map-append lsn (map f (range_with_len 0 n)) (f n ∷ [])

pub lsns_more : (g : Geometry) (image : Image) (n lsn : ℕ) (old new : List ℕ) → old ≡ first_lsns g image n → lsn ≡ lsn_of (version_on g image n) → new ≡ old ++ lsn ∷ [] → new ≡ first_lsns g image (n + 1)
lsns_more g image n lsn old new so_far is more = more ∙ (λ i. so_far i ++ is i ∷ []) ∙ sym (more_lsns g image n)
