-- Versions of pages, and records that aren't sealed yet.
use Rattle.image_meaning.proofs.Names.{◌≡◌, ℕ, ◌+◌, ◌*◌, ◌/◌, ◌<◌, ◌≤◌, ◌==◌, ◌||◌, false, List, [], ◌∷◌, ◌++◌, length, Some, None, sym, ap, ◌∙◌, arith, inl, inr, cases_Bool, nat_tests, AllByRecursion, option_or, IsTrue, nat_lt, ReplaceAll, with_versions, IsLogged, AreKnown, IsCurrent, ShowsAll, or_is_none, all_from, none_passes, entries_in_order, total_within, is_number-Some, Follows, next_entries, Replaces, last_where-append, Entry, Version, number_of, is_on, last_on, shown, open_length, put_back, HasOpenRoom, LogicalImage, InTurn, LogRecord, content_at, all_left, all_right, all_both}
use Rattle.std.specs.Prelude.{Option}
use Rattle.log_laws.specs.Tail.{whole, Carries}
use Rattle.image_meaning.proofs.OtherVersions.{same_first, slot_same, sound_with}
use Rattle.image_meaning.proofs.Redos.{page_of_number, current_replaces}

-- The tail.

low : (lsn hi : ℕ) → IsTrue ((lsn == 0) || nat_lt lsn (512 * hi)) → lsn < 512 * hi + 2
low lsn hi logged = grind (arith, nat_tests)

module _ (p : LogicalImage) (tail : List LogRecord) (page : ℕ) (v : Version) (logged : IsLogged p v) (known : AreKnown (whole p tail) page v.lsn) where
  behind : AllByRecursion (λ e. 512 * p.hi + 2 ≤ e.lsn) (next_entries p tail)
  behind = all_from (512 * p.hi + 2) (next_entries p tail) _ (entries_in_order (512 * p.hi + 2) tail)

  -- none of the tail's records is on the page
  off : (slot : ℕ) → slot < 32 → AllByRecursion (λ e. is_on (32 * page + slot) e ≡ false) (next_entries p tail)
  off slot less =
      all_both (λ e. 512 * p.hi + 2 ≤ e.lsn) (λ e. (n : ℕ) → number_of e.rec ≡ Some n → n / 32 ≡ page → e.lsn ≤ v.lsn) (λ e. is_on (32 * page + slot) e ≡ false)
      (λ e late own. elim (cases_Bool (is_on (32 * page + slot) e)) [
        | inl here ↦
            let early = own (32 * page + slot) (is_number-Some (32 * page + slot) (number_of e.rec) here) (page_of_number page slot less) in
            let bound = low v.lsn p.hi logged in
            absurd (omega (arith, late, early, bound))
        | inr elsewhere ↦ elsewhere
      ])
      (next_entries p tail) behind (all_right (λ e. (n : ℕ) → number_of e.rec ≡ Some n → n / 32 ≡ page → e.lsn ≤ v.lsn) p.log (next_entries p tail) known)

  last_sealed : (slot : ℕ) → slot < 32 → last_on (whole p tail) (32 * page + slot) ≡ last_on p.log (32 * page + slot)
  last_sealed slot less =
      last_where-append (is_on (32 * page + slot)) p.log (next_entries p tail)
      ∙ ap (λ (o : Option Entry). option_or o (last_on p.log (32 * page + slot))) (none_passes (is_on (32 * page + slot)) (next_entries p tail) (off slot less))

  pub current : ((slot : ℕ) → slot < 32 → content_at v.slots slot ≡ shown (whole p tail) p.pages (32 * page + slot)) → IsCurrent p page v
  current slots = grind (arith, all_left, last_sealed)

-- A page with all records redone, those of the tail too, may replace its version as soon as its own LSN is one of a
-- sealed block:
-- none of the tail's records is on it.
pub sealed_page_replaces : (p : LogicalImage) (tail : List LogRecord) (page : ℕ) (v : Version) → IsLogged p v → ShowsAll (whole p tail) p.pages page v → Replaces p page v
sealed_page_replaces p tail page v logged all = current_replaces p page v (current p tail page v logged all.known all.slots)

-- New versions.

-- a log that has all records of the sealed one, and maybe more
Extends : LogicalImage → List Entry → Type 0
Extends p log = (number : ℕ) → last_on log number ≡ None → last_on p.log number ≡ None

extends_more : (p : LogicalImage) (log more : List Entry) → Extends p log → Extends p (log ++ more)
unfolding Extends
extends_more p log more extends number none =
    extends number (or_is_none (last_on more number) (last_on log number) (sym (last_where-append (is_on number) log more) ∙ none)).1

extends_all : (p : LogicalImage) → Extends p p.log
unfolding Extends
extends_all p number none = none

module _ (p : LogicalImage) (versions : List Version) (r : ReplaceAll p versions) where
  shown_by_last : (log : List Entry) → Extends p log → (number : ℕ) → number < 32 * length p.pages → shown log versions number ≡ shown log p.pages number
  unfolding Extends
  shown_by_last log extends number within = grind (arith, slot_same)

  room_still : (log : List Entry) → Extends p log → (page : ℕ) → page < length p.pages → HasOpenRoom log p.pages page → HasOpenRoom log versions page
  room_still log extends page exists room =
      let same = total_within page (open_length log versions) (open_length log p.pages)
      (λ slot less. same_first (put_back log (32 * page + slot)) (shown_by_last log extends (32 * page + slot) (omega (arith, exists, less)))) in
      omega (arith, same, room)

  follows_still : (log : List Entry) → Extends p log → (e : Entry) → Follows p.master p.pages log e → Follows p.master versions log e
  follows_still log extends e f = record {
    in_table = λ number on. let within = f.in_table number on in let count = r.count in omega (arith, within, count);
    of_open = f.of_open;
    can_be_undone = f.can_be_undone;
    held_off = f.held_off;
    from_shown = λ number update on. f.from_shown number update on ∙ sym (shown_by_last log extends number (f.in_table number on));
    ends_undone = f.ends_undone;
    room_in_page = λ number update on.
        room_still (log ++ e ∷ []) (extends_more p log (e ∷ []) extends) (number / 32) (let within = f.in_table number on in omega (arith, within)) (f.room_in_page number update on);
  }

  all_follow : (log entries : List Entry) → Extends p log → InTurn (Follows p.master p.pages) log entries → InTurn (Follows p.master versions) log entries
  all_follow log [] extends follow = tt
  all_follow log (e ∷ entries) extends follow =
      (follows_still log extends e follow.0, all_follow (log ++ e ∷ []) entries (extends_more p log (e ∷ []) extends) follow.1)

-- New versions change nothing of what slots show, nor of what counts, whatever stands behind the sealed records.
pub shown_stays : (p : LogicalImage) (versions : List Version) (more : List Entry) (number : ℕ) → ReplaceAll p versions → number < 32 * length p.pages → shown (p.log ++ more) versions number ≡ shown (p.log ++ more) p.pages number
shown_stays p versions more number r within = shown_by_last p versions r (p.log ++ more) (extends_more p p.log more (extends_all p)) number within

-- So a tail that followed follows still, and a block that went on goes on.
pub carries_still : (p : LogicalImage) (versions : List Version) (tail : List LogRecord) → ReplaceAll p versions → Carries p tail → Carries (with_versions p versions) tail
carries_still p versions tail r carries = grind (arith, sound_with, all_follow, extends_all)

-- New versions change nothing of what slots show and of what counts, and what followed or went on behind the log does
-- so still.
pub shows_still : (p : LogicalImage) (versions : List Version) (more : List Entry) (page : ℕ) (v : Version) → ReplaceAll p versions → page < length p.pages → ShowsAll (p.log ++ more) p.pages page v → ShowsAll (p.log ++ more) versions page v
shows_still p versions more page v r within all = grind (arith, shown_stays)
