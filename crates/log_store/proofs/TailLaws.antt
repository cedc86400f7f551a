-- The tail's octets.
use Rattle.std.proofs.lemmas.Grind.{flat_map-append}
use Rattle.log_store.proofs.Names.{◌*◌, Bool, true, false, ◌≡◌, IsTrue, ℕ, ◌+◌, ◌-◌, ◌≤◌, ◌<◌, List, [], ◌∷◌, ◌++◌, length, take, drop, replicate, refl, sym, ap, ◌∙◌, append_assoc, arith, cases_Bool, cond-true, cond-false, nat_tests, take_at, drop_at, append-nil, length-append, length-take-le, drop-drop, drop-replicate, take-append-drop, w16, to_be_bytes, flat_map, Some, None, nat_lt, if◌then◌else◌, content_spelling, IsShort, block_len, HasForm, FitsFields, AreBlock, LogRecord, HasTail, all_push}
use Rattle.record_model.specs.State.{Content}
use Rattle.log_records.specs.declared.log_record.LogRecord.TheVariants.{Begin, Update, Clr, Commit, End}
use Rattle.log_records.specs.Spelling.{spelling, block}
use Rattle.log_records.specs.Writes.{Writes}

-- behind the offset of their end, the tail's octets are the block of its records
pub tail_is_block : (octets : List ℕ) (used : ℕ) (records : List LogRecord) → HasTail octets used records → to_be_bytes w16 used ++ drop 2 octets ≡ block records
unfolding block
tail_is_block octets used records t = grind (arith, append_assoc)

-- which make a block, where there are some
pub tail_has_block : (octets : List ℕ) (used : ℕ) (records : List LogRecord) → HasTail octets used records → 2 + 1 ≤ used → used ≤ block_len → AreBlock records
tail_has_block octets used [] t low high = let end = t.end in absurd (omega (arith, end, low))
tail_has_block octets used (rec ∷ records) t low high = grind arith

-- a record written behind the last one is the tail's last one
pub tail_more : (old new : List ℕ) (used end : ℕ) (records : List LogRecord) (rec : LogRecord) → HasTail old used records → Writes old new used (spelling rec) end → HasForm rec → FitsFields rec → HasTail new end (records ++ rec ∷ [])
tail_more old new used end records rec t w form fits =
    let flat = flat_map spelling records in
    let text = spelling rec in
    let zeros : List ℕ = replicate (block_len - used) 0 in
    let rest = drop end old in
    let place = t.end in
    let len = w.length_is in
    let inside = w.inside in
    let two : length (take 2 old) ≡ 2 = length-take-le 2 old (omega (arith, place, len, inside)) in
    let parts : old ≡ (take 2 old ++ flat) ++ zeros = sym (take-append-drop 2 old) ∙ ap (λ (l : List ℕ). take 2 old ++ l) t.text ∙ sym (append_assoc (take 2 old) flat zeros) in
    let front : take used old ≡ take 2 old ++ flat = ap (take used) parts ∙ take_at (take 2 old ++ flat) zeros used (omega (arith, length-append (take 2 old) flat, two, place)) in
    let behind : rest ≡ replicate (block_len - end) 0 =
    ap (λ (n : ℕ). drop n old) (omega (arith, place, len)) ∙ sym (drop-drop (length flat + length text) 2 old) ∙ ap (drop (length flat + length text)) t.text
    ∙ sym (drop-drop (length text) (length flat) (flat ++ zeros)) ∙ ap (drop (length text)) (drop_at flat zeros (length flat) refl)
    ∙ drop-replicate (length text) (block_len - used) 0 ∙ ap (λ (n : ℕ). replicate n 0) (omega (arith, len)) in
    let more : flat_map spelling (records ++ rec ∷ []) ≡ flat ++ text = flat_map-append spelling records (rec ∷ []) ∙ ap (λ (l : List ℕ). flat ++ l) (append-nil text) in
    record {
      end = omega (arith, len, place, ap length more, length-append flat text);
      have_form = all_push HasForm records rec t.have_form form;
      fit_fields = all_push FitsFields records rec t.fit_fields fits;
      text =
          ap (drop 2) (w.written ∙ append_assoc (take used old) text rest ∙ ap (λ (l : List ℕ). l ++ (text ++ rest)) front ∙ append_assoc (take 2 old) flat (text ++ rest))
          ∙ drop_at (take 2 old) (flat ++ (text ++ rest)) 2 two
          ∙ sym (append_assoc flat text rest)
          ∙ (λ i. sym more i ++ behind i);
    }

-- a record has at most 424 octets
content_short : (content : Content) → IsShort content → length (content_spelling content) ≤ 201
content_short None short = omega arith
content_short (Some value) short = omega (arith, short)

pub spelling_short : (rec : LogRecord) → HasForm rec → length (spelling rec) ≤ 424
unfolding spelling
spelling_short Begin form = omega arith
spelling_short (Update txn prev page slot before after) form = grind (arith, content_short, length-append)
spelling_short (Clr txn prev undo_next page slot after) form = grind (arith, content_short)
spelling_short (Commit txn number) form = omega arith
spelling_short (End txn) form = omega arith

-- a tail that a record doesn't fit isn't empty
pub full_tail : (used len : ℕ) → len ≤ 424 → IsTrue (nat_lt block_len (used + len)) → 2 < used
full_tail used len short over = grind (arith, nat_tests)

-- once the tail was sealed where a record didn't fit, it fits
pub room_made : (used len left : ℕ) → len ≤ 424 → left ≡ (if nat_lt block_len (used + len) then 2 else used) → left + len ≤ block_len
room_made used len left short is = grind (arith, cases_Bool, cond-true, cond-false, nat_tests)

-- the end of a log doesn't fall where its tail is sealed
pub end_rises : (sealing : Bool) (hi used hi' used' : ℕ) → used ≤ block_len → hi' ≡ (if sealing then hi + 1 else hi) → used' ≡ (if sealing then 2 else used) → 512 * hi + used ≤ 512 * hi' + used'
end_rises true hi used hi' used' high next empty = omega (arith, high, next, empty)
end_rises false hi used hi' used' high next empty = omega (arith, next, empty)
