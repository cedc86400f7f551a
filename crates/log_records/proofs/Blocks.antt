-- The records of a block, read one after the other.
use Rattle.std.proofs.Common.{◌≡◌, ◌≢◌, ℕ, ◌+◌, ◌-◌, ◌≤◌, ◌<◌, List, [], ◌∷◌, ◌++◌, length, take, drop, replicate, refl, sym, ap, ◌∙◌, subst, append_assoc, arith}
use Rattle.std.specs.Prelude.{slice_range, flat_map}
use Rattle.std.specs.List.{AllByRecursion}
use Rattle.std.specs.Int.{w16, from_be_bytes}
use Rattle.std.proofs.lemmas.List.{take_at, drop_at, append-nil, length-append, length-take, length-take-le, length-drop, length-replicate, drop-drop, take-append-drop}
use Rattle.std.proofs.lemmas.List.Folds.{drop_split}
use Rattle.std.proofs.Math.Seq.{take-length}
use Rattle.std.proofs.lemmas.Grind.{flat_map-append}
use Rattle.std.proofs.lemmas.Nat.{be_bytes_2, from_be_bytes-to_be_bytes_2}
use Rattle.std_lemmas.proofs.AllOf.{all_push, all_between}
use Rattle.log_records.specs.declared.log_record.LogRecord.{LogRecord}
use Rattle.log_records.specs.declared.log_record.LogRecord.TheVariants.{Begin}
use Rattle.log_records.specs.Spelling.{spelling, used_by, block, block_len, HasForm, FitsFields, AreBlock, IsBlock, IsSpelledAt}
use Rattle.log_records.specs.Laws.{OneSpelled, WrittenIsSpelled}
use Rattle.log_records.proofs.Records.{spelling_is_one}
use Rattle.log_records.proofs.Fields.{IsBytes, IsBytes-take}

abbrev zeros : List LogRecord → List ℕ
zeros all = replicate (block_len - used_by all) 0

-- behind its first two octets a block has its records, and then zeros
pub behind : (content : List ℕ) (all : List LogRecord) → IsBlock content all → drop 2 content ≡ flat_map spelling all ++ zeros all
unfolding block
behind content all is = ap (drop 2) is.spelled

abbrev pub TellsUsed : List ℕ → ℕ → Type 0
TellsUsed content used = used ≡ from_be_bytes w16 (take 2 content)

-- the first two octets tell where the records end
pub used_is : (content : List ℕ) (all : List LogRecord) (used : ℕ) → IsBlock content all → TellsUsed content used → used ≡ used_by all
unfolding block
used_is content all used is e = grind (arith, from_be_bytes-to_be_bytes_2)

-- a record takes at least one octet
pub some_octet : (rec : LogRecord) → 1 ≤ length (spelling rec)
unfolding spelling
some_octet Begin = omega arith
some_octet _ = omega arith

pub used_low : (all : List LogRecord) → AreBlock all → 3 ≤ used_by all
used_low [] are = absurd (are.some refl)
used_low (rec ∷ all) are = omega (arith, some_octet rec, length-append (spelling rec) (flat_map spelling all))

-- the octets up to a place are these records, and each block that has this content begins with them
pub record ReadTo (content : List ℕ) (used at : ℕ) : Type 0 where
  pub records : List LogRecord
  pub have_form : AllByRecursion HasForm records
  pub fit_fields : AllByRecursion FitsFields records
  pub text : drop 2 content ≡ flat_map spelling records ++ drop at content
  pub place : at ≡ used_by records
  pub to : at ≤ used
  pub only : (all : List LogRecord) → IsBlock content all → (left : List LogRecord) × (all ≡ records ++ left)

-- what is left of a block with this content
rest_is : (content : List ℕ) (used at : ℕ) (r : ReadTo content used at) (all left : List LogRecord) → IsBlock content all → all ≡ r.records ++ left →
    drop at content ≡ flat_map spelling left ++ zeros all
rest_is content used at r all left is e =
    let done = flat_map spelling r.records in
    ap (λ n. drop n content) r.place ∙ sym (drop-drop (length done) 2 content) ∙ ap (drop (length done)) (behind content all is)
    ∙ ap (λ a. drop (length done) (flat_map spelling a ++ zeros all)) e
    ∙ ap (λ t. drop (length done) (t ++ zeros all)) (flat_map-append spelling r.records left)
    ∙ ap (drop (length done)) (append_assoc done (flat_map spelling left) (zeros all)) ∙ drop_at done _ _ refl

used_parts : (done left : List LogRecord) → used_by (done ++ left) ≡ used_by done + length (flat_map spelling left)
used_parts done left = omega (arith, ap length (flat_map-append spelling done left), length-append (flat_map spelling done) (flat_map spelling left))

pub spelled_next : (content : List ℕ) (used at : ℕ) (rec : LogRecord) (rest : List ℕ) → drop at content ≡ spelling rec ++ rest → at + length (spelling rec) ≤ used →
    HasForm rec → FitsFields rec → IsSpelledAt content at used rec (at + length (spelling rec))
spelled_next content used at rec rest e inside form fits = grind (arith, take_at)

-- where the place isn't the end, a block has a record there
next_of : (content : List ℕ) (used at : ℕ) (r : ReadTo content used at) → TellsUsed content used → at < used → (all left : List LogRecord) → IsBlock content all → all ≡ r.records ++ left →
    (rec : LogRecord) × (others : List LogRecord) × (left ≡ rec ∷ others)
next_of content used at r e before all [] is split =
    absurd (let end = used_is content all used is e in let parts = used_parts r.records [] in let same = ap used_by split in omega (arith, end, parts, same, r.place, before))
next_of content used at r e before all (rec ∷ others) is split = (rec, others, refl)

-- and it is spelled there
spelled_left : (content : List ℕ) (used at : ℕ) (r : ReadTo content used at) → TellsUsed content used → (all : List LogRecord) (rec : LogRecord) (others : List LogRecord) → IsBlock content all → all ≡ r.records ++ rec ∷ others →
    IsSpelledAt content at used rec (at + length (spelling rec))
spelled_left content used at r e all rec others is split =
    let rest : drop at content ≡ spelling rec ++ (flat_map spelling others ++ zeros all) =
    rest_is content used at r all (rec ∷ others) is split ∙ append_assoc (spelling rec) (flat_map spelling others) (zeros all) in
    let end = used_is content all used is e in
    let parts = used_parts r.records (rec ∷ others) in
    let same = ap used_by split in
    let both = length-append (spelling rec) (flat_map spelling others) in
    spelled_next content used at rec (flat_map spelling others ++ zeros all) rest (omega (arith, end, parts, same, r.place, both))
    (all_between HasForm r.records rec others (subst (AllByRecursion HasForm) split is.are_block.have_form))
    (all_between FitsFields r.records rec others (subst (AllByRecursion FitsFields) split is.are_block.fit_fields))

-- where no record is spelled, no block has this content
pub not_block : (content : List ℕ) (used at : ℕ) → ReadTo content used at → TellsUsed content used → at < used →
    ((rec : LogRecord) (stop : ℕ) → IsSpelledAt content at used rec stop → ⊥) → (all : List LogRecord) → IsBlock content all → ⊥
not_block content used at r e before none all is =
    let o = r.only all is in
    let next = next_of content used at r e before all o.0 is o.1 in
    none next.0 _ (spelled_left content used at r e all next.0 next.1 is (o.1 ∙ ap (λ (left : List LogRecord). r.records ++ left) next.2))

front_of : (content : List ℕ) (at used end : ℕ) (rec : LogRecord) → IsSpelledAt content at used rec end → drop at content ≡ spelling rec ++ drop end content
front_of content at used end rec s = drop_split content at end (omega (arith, s.length_is)) ∙ ap (λ (t : List ℕ). t ++ drop end content) s.text

-- at most one record is spelled at a place
pub one_spelled : OneSpelled
one_spelled octets from limit a b end stop first second =
    let one = spelling_is_one a b (drop end octets) (drop stop octets) first.has_form first.fits_fields second.has_form second.fits_fields
    (sym (front_of octets from limit end a first) ∙ front_of octets from limit stop b second) in
    (one.0, first.length_is ∙ ap (λ (rec : LogRecord). from + length (spelling rec)) one.0 ∙ sym second.length_is)

-- what was written is spelled there
pub written_is_spelled : WrittenIsSpelled
written_is_spelled old new from limit rec end form fits writes inside = grind (arith, append_assoc, drop_at, length-take-le, take_at)

same_next : (content : List ℕ) (used at end : ℕ) (r : ReadTo content used at) → TellsUsed content used → (rec : LogRecord) → IsSpelledAt content at used rec end →
    (all : List LogRecord) → IsBlock content all → (left : List LogRecord) × (all ≡ (r.records ++ rec ∷ []) ++ left)
same_next content used at end r e rec s all is =
    let o = r.only all is in
    let before : at < used = omega (arith, s.length_is, s.inside, some_octet rec) in
    let next = next_of content used at r e before all o.0 is o.1 in
    let split = o.1 ∙ ap (λ (left : List LogRecord). r.records ++ left) next.2 in
    let other = spelled_left content used at r e all next.0 next.1 is split in
    let same = spelling_is_one rec next.0 (drop end content) (drop (at + length (spelling next.0)) content) s.has_form s.fits_fields other.has_form other.fits_fields
    (sym (front_of content at used end rec s) ∙ front_of content at used _ next.0 other) in
    (next.1, split ∙ ap (λ (x : LogRecord). r.records ++ x ∷ next.1) (sym same.0) ∙ sym (append_assoc r.records (rec ∷ []) next.1))

pub read_more : (content : List ℕ) (used at end : ℕ) → ReadTo content used at → TellsUsed content used → (rec : LogRecord) → IsSpelledAt content at used rec end → ReadTo content used end
read_more content used at end r e rec s =
    let done = flat_map spelling r.records in
    let flat : flat_map spelling (r.records ++ rec ∷ []) ≡ done ++ spelling rec =
    flat_map-append spelling r.records (rec ∷ []) ∙ ap (λ (t : List ℕ). done ++ t) (append-nil (spelling rec)) in
    record {
      records = r.records ++ rec ∷ [];
      have_form = all_push HasForm r.records rec r.have_form s.has_form;
      fit_fields = all_push FitsFields r.records rec r.fit_fields s.fits_fields;
      text = r.text ∙ ap (λ (t : List ℕ). done ++ t) (front_of content at used end rec s) ∙ sym (append_assoc done (spelling rec) (drop end content))
          ∙ ap (λ (t : List ℕ). t ++ drop end content) (sym flat);
      place = omega (arith, s.length_is, r.place, ap length flat, length-append done (spelling rec));
      to = s.inside;
      only = same_next content used at end r e rec s;
    }

not_empty : (all : List LogRecord) → 3 ≤ used_by all → all ≢ []
not_empty [] low = absurd (omega (arith, low))
not_empty (rec ∷ all) low = λ e. cc

pub is_block : (content : List ℕ) (used : ℕ) (r : ReadTo content used used) → TellsUsed content used → IsBytes content → length content ≡ 503 → 3 ≤ used → used ≤ 503 →
    drop used content ≡ replicate (length (drop used content)) 0 → (records : List LogRecord) × IsBlock content records × (used ≡ used_by records)
unfolding block
is_block content used r e fits len low high rest = grind (arith, be_bytes_2, length-take, IsBytes-take, length-drop, not_empty, take-append-drop, append_assoc)

nothing_left : (left : List LogRecord) → length (flat_map spelling left) ≡ 0 → flat_map spelling left ≡ []
nothing_left [] e = refl
nothing_left (rec ∷ left) e = absurd (omega (arith, e, some_octet rec, length-append (spelling rec) (flat_map spelling left)))

-- behind its records a block has zeros alone
pub zeros_behind : (content : List ℕ) (used : ℕ) → ReadTo content used used → TellsUsed content used → (all : List LogRecord) → IsBlock content all →
    drop used content ≡ replicate (length (drop used content)) 0
zeros_behind content used r e all is =
    let o = r.only all is in
    let end = used_is content all used is e in
    let none : length (flat_map spelling o.0) ≡ 0 = omega (arith, end, used_parts r.records o.0, ap used_by o.1, r.place) in
    let tail : drop used content ≡ zeros all = rest_is content used used r all o.0 is o.1 ∙ ap (λ (t : List ℕ). t ++ zeros all) (nothing_left o.0 none) in
    tail ∙ ap (λ n. replicate n 0) (sym (ap length tail ∙ length-replicate (block_len - used_by all) 0))

-- the octets from a place to the end
pub to_the_end : (content : List ℕ) (from : ℕ) → slice_range content from (length content) ≡ drop from content
to_the_end content from = ap (λ n. take n (drop from content)) (sym (length-drop from content)) ∙ take-length (drop from content)

abbrev pub AreZero : List ℕ → Type 0
AreZero octets = octets ≡ replicate (length octets) 0

pub zero_to_the_end : (content : List ℕ) (from : ℕ) → AreZero (slice_range content from (length content)) → AreZero (drop from content)
zero_to_the_end content from h = subst AreZero (to_the_end content from) h

pub zero_from_the_end : (content : List ℕ) (from : ℕ) → AreZero (drop from content) → AreZero (slice_range content from (length content))
zero_from_the_end content from h = subst AreZero (sym (to_the_end content from)) h

-- A block's content as a whole.

pub length-block : (records : List LogRecord) → used_by records ≤ block_len → length (block records) ≡ block_len
unfolding block
length-block records room = grind (arith, length-append, length-replicate)
