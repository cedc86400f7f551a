-- A block's records, heard one after the other.
use Rattle.log_replay.proofs.Names.{◌≡◌, ℕ, ◌+◌, ◌*◌, ◌<◌, ◌≤◌, List, [], ◌∷◌, ◌++◌, length, take, drop, refl, sym, ap, subst, ◌∙◌, arith, length-append, append_assoc, drop-drop, drop_at, AllByRecursion, Option, Some, None, Ok, Err, Result, flat_map, option_and_then, Stream, after_entries, after_record, behind, some_octet, one_spelled, spelled_next, used_is, Entry, entries_from, spelling, used_by, HasForm, FitsFields, IsBlock, IsSpelledAt, LogRecord, Hears, StandsAt, Ledger, ReplayFault, Write}
use Rattle.std.specs.Int.{w16, from_be_bytes}

-- from a place on these records are left of a block
pub record AreLeft (content : List ℕ) (used at : ℕ) (left : List LogRecord) : Type 0 where
  pub have_form : AllByRecursion HasForm left
  pub fit_fields : AllByRecursion FitsFields left
  pub text : drop at content ≡ flat_map spelling left ++ drop used content
  pub end : used ≡ at + length (flat_map spelling left)

-- where records end, the octets tell
pub same_end : (content : List ℕ) (a b : List LogRecord) → IsBlock content a → IsBlock content b → used_by a ≡ used_by b
same_end content a b first second =
    let used = from_be_bytes w16 (take 2 content) in
    sym (used_is content a used first refl) ∙ used_is content b used second refl

pub all_left : (content : List ℕ) (used : ℕ) (records : List LogRecord) → IsBlock content records → used ≡ used_by records → AreLeft content used 2 records
all_left content used records is end =
    let flat : List ℕ = flat_map spelling records in
    let text = behind content records is in
    let rest = ap (λ (n : ℕ). drop n content) end ∙ sym (drop-drop (length flat) 2 content) ∙ ap (drop (length flat)) text ∙ drop_at flat _ (length flat) refl in
    record {
      have_form = is.are_block.have_form;
      fit_fields = is.are_block.fit_fields;
      text = text ∙ ap (λ (l : List ℕ). flat ++ l) (sym rest);
      end = end;
    }

module _ (content : List ℕ) (used at : ℕ) (rec : LogRecord) (others : List LogRecord) (l : AreLeft content used at (rec ∷ others)) where
  size : length (flat_map spelling (rec ∷ others)) ≡ length (spelling rec) + length (flat_map spelling others)
  size = length-append (spelling rec) (flat_map spelling others)

  front : drop at content ≡ spelling rec ++ (flat_map spelling others ++ drop used content)
  front = l.text ∙ append_assoc (spelling rec) (flat_map spelling others) (drop used content)

  first_spelled : IsSpelledAt content at used rec (at + length (spelling rec))
  first_spelled = spelled_next content used at rec (flat_map spelling others ++ drop used content) front (let end = l.end in omega (arith, end, size)) l.have_form.0 l.fit_fields.0

  others_left : AreLeft content used (at + length (spelling rec)) others
  others_left = record {
    have_form = l.have_form.1;
    fit_fields = l.fit_fields.1;
    text = sym (drop-drop (length (spelling rec)) at content) ∙ ap (drop (length (spelling rec))) front ∙ drop_at (spelling rec) (flat_map spelling others ++ drop used content) (length (spelling rec)) refl;
    end = let end = l.end in omega (arith, end, size);
  }

one_left : (content : List ℕ) (used at : ℕ) (left : List LogRecord) → AreLeft content used at left → at < used → (rec : LogRecord) × (others : List LogRecord) × (left ≡ rec ∷ others)
one_left content used at [] l before = let end = l.end in absurd (omega (arith, end, before))
one_left content used at (rec ∷ others) l before = (rec, others, refl)

pub none_left : (content : List ℕ) (used at : ℕ) (left : List LogRecord) → AreLeft content used at left → used ≤ at → left ≡ []
none_left content used at [] l after = refl
none_left content used at (rec ∷ others) l after =
    let end = l.end in
    let more = size content used at rec others l in
    let some = some_octet rec in
    absurd (omega (arith, end, after, more, some))

-- what is read there is the first of them
pub reads_first : (content : List ℕ) (used at : ℕ) (left : List LogRecord) → AreLeft content used at left → at < used → (rec : LogRecord) (end : ℕ) → IsSpelledAt content at used rec end →
    (others : List LogRecord) × (left ≡ rec ∷ others) × AreLeft content used end others
reads_first content used at left l before rec end spelled =
    let one = one_left content used at left l before in
    let first : AreLeft content used at (one.0 ∷ one.1) = subst (AreLeft content used at) one.2 l in
    let same = one_spelled content at used one.0 rec (at + length (spelling one.0)) end (first_spelled content used at one.0 one.1 first) spelled in
    (one.1, one.2 ∙ ap (λ (x : LogRecord). x ∷ one.1) same.0, subst (λ (n : ℕ). AreLeft content used n one.1) same.1 (others_left content used at one.0 one.1 first))

-- and something is
pub some_spelled : (content : List ℕ) (used at : ℕ) (left : List LogRecord) → AreLeft content used at left → at < used → ((rec : LogRecord) (end : ℕ) → IsSpelledAt content at used rec end → ⊥) → ⊥
some_spelled content used at left l before none =
    let one = one_left content used at left l before in
    none one.0 _ (first_spelled content used at one.0 one.1 (subst (AreLeft content used at) one.2 l))

-- So many records of a block were heard: what is left leads on from here to where the whole block leads.
pub record HeardTo (content : List ℕ) (used at from pages : ℕ) (s : Stream) (popped : List (List Write)) (records : List LogRecord) (l : Ledger) : Type 0 where
  pub left : List LogRecord
  pub are_left : AreLeft content used at left
  pub now : Stream
  pub leads : after_entries pages (entries_from (from + 2) records) s ≡ after_entries pages (entries_from (from + at) left) now
  pub stands : StandsAt pages (from + at) now popped l

module _ (content : List ℕ) (used at from pages : ℕ) (s : Stream) (popped : List (List Write)) (records : List LogRecord) (old new : Ledger) (h : HeardTo content used at from pages s popped records old) where
  module _ (before : at < used) (rec : LogRecord) (end : ℕ) (spelled : IsSpelledAt content at used rec end) where
    reads : (others : List LogRecord) × (h.left ≡ rec ∷ others) × AreLeft content used end others
    reads = reads_first content used at h.left h.are_left before rec end spelled

    onward : after_entries pages (entries_from (from + 2) records) s
        ≡ option_and_then (after_entries pages (entries_from (from + end) reads.0)) (after_record pages (from + at) rec h.now)
    onward =
        h.leads ∙ ap (λ l. after_entries pages (entries_from (from + at) l) h.now) reads.1
        ∙ ap (λ n. option_and_then (after_entries pages (entries_from n reads.0)) (after_record pages (from + at) rec h.now)) (let is = spelled.length_is in omega (arith, is))

    pub heard_more : (now : Stream) → after_record pages (from + at) rec h.now ≡ Some now → StandsAt pages (from + end) now popped new → HeardTo content used end from pages s popped records new
    heard_more now is stands = record {
      left = reads.0;
      are_left = reads.2;
      now = now;
      leads = onward ∙ ap (option_and_then (after_entries pages (entries_from (from + end) reads.0))) is;
      stands = stands;
    }

    pub heard_bad : after_record pages (from + at) rec h.now ≡ None → after_entries pages (entries_from (from + 2) records) s ≡ None
    heard_bad none = onward ∙ ap (option_and_then (after_entries pages (entries_from (from + end) reads.0))) none

  pub heard_all : used ≤ at → after_entries pages (entries_from (from + 2) records) s ≡ Some h.now
  heard_all behind_all = h.leads ∙ ap (λ l. after_entries pages (entries_from (from + at) l) h.now) (none_left content used at h.left h.are_left behind_all)
