-- What an archive writes are records that there are, and values that aren't too long.
use Rattle.std.proofs.Common.{◌≡◌, inl, inr, ⊎_elim, ℕ, ◌+◌, ◌*◌, ◌<◌, ◌≤◌, ◌==◌, Bool, true, false, cond, ◌&&◌, List, [], ◌∷◌, ◌++◌, length, refl, sym, ap, subst, ◌∙◌, arith}
use Rattle.std.specs.Prelude.{Option, Some, None, not, nat_lt, option_and_then}
use Rattle.std.specs.List.{AllByRecursion}
use Rattle.std.proofs.lemmas.Bool.{and_parts, eqb-true, ltb-true}
use Rattle.std.proofs.lemmas.Option.{same_Some}
use Rattle.std_lemmas.proofs.AllOf.{all_push}
use Rattle.byte_fields.specs.declared.TheConstants.{VALUE_MAX}
use Rattle.record_model.specs.State.{Content, Write, content_at, length_of}
use Rattle.log_records.specs.declared.log_record.LogRecord.{LogRecord}
use Rattle.log_records.specs.declared.log_record.LogRecord.TheVariants.{Begin, Update, Clr, Commit, End}
use Rattle.log_records.specs.Log.{Entry, entries_from}
use Rattle.log_records.specs.Spelling.{HasForm, IsShort, spelling}
use Rattle.log_archive.specs.Accepted.{Accepted, AfterLine, Standing, Stream, Unclosed, after_block, after_clr, after_commit, after_end, after_entries, after_record, after_update, blank_stream, commits_in, is_taken, put_in, same_content, unclosed_of, with_next, with_write, without}
use Rattle.log_replay.proofs.Opens.{all_without, found}
use Rattle.net_lines.specs.Nets.{AreWritable, IsWritable}

-- a standing Update is on a page that there is
pub record IsInside (pages : ℕ) (u : Standing) : Type 0 where
  pub page : u.page < pages
  pub slot : u.slot < 32

pub record IsSober (pages : ℕ) (t : Unclosed) : Type 0 where
  pub net : AreWritable (32 * pages) t.net
  pub standing : AllByRecursion (IsInside pages) t.standing

pub record IsSoberStream (pages : ℕ) (s : Stream) : Type 0 where
  pub nets : AllByRecursion (AreWritable (32 * pages)) s.nets
  pub unclosed : AllByRecursion (IsSober pages) s.unclosed

-- an open transaction is looked for first
looked : (txn : ℕ) (s now : Stream) (f : Unclosed → Option Stream) → option_and_then f (unclosed_of txn s) ≡ Some now → (t : Unclosed) × (unclosed_of txn s ≡ Some t) × (f t ≡ Some now)
looked txn s now f is = by (unclosed_of txn s) refl is
  where
    by : (o : Option Unclosed) → unclosed_of txn s ≡ o → option_and_then f o ≡ Some now → (t : Unclosed) × (unclosed_of txn s ≡ Some t) × (f t ≡ Some now)
    by None at is = let bad : None ≡ Some now = is in cc
    by (Some t) at is = (t, at, is)

-- what a test lets through
let_through : (b : Bool) (a now : Stream) → cond b (Some a) None ≡ Some now → (b ≡ true) × (now ≡ a)
let_through true a now is = (refl, sym (same_Some a now is))
let_through false a now is = let bad : None ≡ Some now = is in cc

put_writable : (records : ℕ) (w : Write) (net : List Write) → IsWritable records w → AreWritable records net → AreWritable records (put_in w net)
put_writable records w [] here all = (here, tt)
put_writable records w (x ∷ net) here all = by (nat_lt w.0 x.0) (w.0 == x.0) (put_writable records w net here all.1)
  where
    by : (b c : Bool) → AreWritable records (put_in w net) → AreWritable records (cond b (w ∷ x ∷ net) (cond c (w ∷ net) (x ∷ put_in w net)))
    by true c rest = (here, all)
    by false true rest = (here, all.1)
    by false false rest = (all.0, rest)

short : (content : Content) → IsShort content → length_of content ≤ VALUE_MAX
short None is = omega arith
short (Some value) is = is

module _ (pages lsn : ℕ) (s : Stream) (sober : IsSoberStream pages s) where
  open_one : (txn : ℕ) (t : Unclosed) → unclosed_of txn s ≡ Some t → IsSober pages t
  open_one txn t at = (found (IsSober pages) txn s.unclosed t sober.unclosed at).0

  writes : (txn : ℕ) (w : Write) (standing : List Standing) (t : Unclosed) (now : Stream) → IsSober pages t → IsWritable (32 * pages) w → AllByRecursion (IsInside pages) standing → now ≡ with_write lsn txn w standing t s → IsSoberStream pages now
  writes txn w standing t now is here inside same = subst (IsSoberStream pages) (sym same) (record {
    nets = sober.nets;
    unclosed = (record { net = put_writable (32 * pages) w t.net here is.net; standing = inside }, all_without (IsSober pages) txn s.unclosed sober.unclosed);
  })

  compensates : (txn prev undo_next page slot : ℕ) (after : Content) (t : Unclosed) (standing : List Standing) (now : Stream) → IsSober pages t → AllByRecursion (IsInside pages) standing → IsShort after
      → after_clr lsn txn prev undo_next page slot after s t standing ≡ Some now → IsSoberStream pages now
  compensates txn prev undo_next page slot after t [] now is inside small same = let bad : None ≡ Some now = same in cc
  compensates txn prev undo_next page slot after t (u ∷ others) now is inside small same =
      let through = let_through ((prev == t.last) && (undo_next == u.prev) && (page == u.page) && (slot == u.slot) && same_content after u.before) (with_write lsn txn (32 * page + slot, after) others t s) now same in
      let last = and_parts ((prev == t.last) && (undo_next == u.prev) && (page == u.page) && (slot == u.slot)) (same_content after u.before) through.0 in
      let in_slot = and_parts ((prev == t.last) && (undo_next == u.prev) && (page == u.page)) (slot == u.slot) last.0 in
      let on = and_parts ((prev == t.last) && (undo_next == u.prev)) (page == u.page) in_slot.0 in
      let page_is = eqb-true page u.page on.1 in
      let slot_is = eqb-true slot u.slot in_slot.1 in
      let page_in = inside.0.page in
      let slot_in = inside.0.slot in
      writes txn (32 * page + slot, after) others t now is (record { inside = omega (arith, page_is, slot_is, page_in, slot_in); short = short after small }) inside.1 through.1

  undone : (txn : ℕ) (standing : List Standing) (now : Stream) → after_end txn s standing ≡ Some now → IsSoberStream pages now
  undone txn [] now is = subst (IsSoberStream pages) (same_Some _ now is) (record { nets = sober.nets; unclosed = all_without (IsSober pages) txn s.unclosed sober.unclosed })
  undone txn (u ∷ standing) now is = let bad : None ≡ Some now = is in cc

  sober_record : (rec : LogRecord) (now : Stream) → HasForm rec → after_record pages lsn rec s ≡ Some now → IsSoberStream pages now
  sober_record Begin now form is = subst (IsSoberStream pages) (same_Some _ now is) (record { nets = sober.nets; unclosed = (record { net = tt; standing = tt }, sober.unclosed) })
  sober_record (Update txn prev page slot before after) now form is =
      let number : ℕ = 32 * page + slot in
      let u : Standing = record { prev = prev; page = page; slot = slot; before = before } in
      let look = looked txn s now (after_update pages lsn u txn after s) is in
      let t : Unclosed = look.0 in
      let through = let_through ((prev == t.last) && nat_lt page pages && not (is_taken txn number s.unclosed) && same_content before (content_at s.shown number)) (with_write lsn txn (number, after) (u ∷ t.standing) t s) now look.2 in
      let last = and_parts ((prev == t.last) && nat_lt page pages && not (is_taken txn number s.unclosed)) (same_content before (content_at s.shown number)) through.0 in
      let free = and_parts ((prev == t.last) && nat_lt page pages) (not (is_taken txn number s.unclosed)) last.0 in
      let inside = ltb-true page pages (and_parts (prev == t.last) (nat_lt page pages) free.0).1 in
      let slot_in = form.0 in
      let one = open_one txn t look.1 in
      writes txn (number, after) (u ∷ t.standing) t now one (record { inside = omega (arith, inside, slot_in); short = short after form.2 }) (record { page = inside; slot = slot_in }, one.standing) through.1
  sober_record (Clr txn prev undo_next page slot after) now form is =
      let look = looked txn s now (λ t. after_clr lsn txn prev undo_next page slot after s t t.standing) is in
      let one = open_one txn look.0 look.1 in
      compensates txn prev undo_next page slot after look.0 look.0.standing now one one.standing form.1 look.2
  sober_record (Commit txn number) now form is =
      let look = looked txn s now (after_commit txn number s) is in
      let through = let_through (number == (commits_in s + 1)) (record s { nets = s.nets ++ look.0.net ∷ []; unclosed = without txn s.unclosed }) now look.2 in
      subst (IsSoberStream pages) (sym through.1) (record { nets = all_push (AreWritable (32 * pages)) s.nets look.0.net sober.nets (open_one txn look.0 look.1).net; unclosed = all_without (IsSober pages) txn s.unclosed sober.unclosed })
  sober_record (End txn) now form is =
      let look = looked txn s now (λ t. after_end txn s t.standing) is in
      undone txn look.0.standing now look.2

then_some : (o : Option Stream) (f : Stream → Option Stream) (now : Stream) → option_and_then f o ≡ Some now → (mid : Stream) × (o ≡ Some mid) × (f mid ≡ Some now)
then_some None f now is = let bad : None ≡ Some now = is in cc
then_some (Some mid) f now is = (mid, refl, is)

sober_entries : (pages : ℕ) (records : List LogRecord) (from : ℕ) (s now : Stream) → AllByRecursion HasForm records → IsSoberStream pages s → after_entries pages (entries_from from records) s ≡ Some now → IsSoberStream pages now
sober_entries pages [] from s now form sober is = subst (IsSoberStream pages) (same_Some s now is) sober
sober_entries pages (rec ∷ records) from s now form sober is =
    let step = then_some (after_record pages from rec s) (after_entries pages (entries_from (from + length (spelling rec)) records)) now is in
    sober_entries pages records (from + length (spelling rec)) step.0 now form.1 (sober_record pages from s sober rec step.0 form.0 step.1) step.2

sober_line : (pages : ℕ) (line : List ℕ) (s now : Stream) → IsSoberStream pages s → AfterLine pages line s now → IsSoberStream pages now
sober_line pages line s now sober (inl (content, records, text, block, is)) =
    let step = then_some (after_entries pages (entries_from (512 * s.next + 2) records) s) (with_next (s.next + 1)) now is in
    let heard = sober_entries pages records (512 * s.next + 2) s step.0 block.are_block.have_form sober step.1 in
    subst (IsSoberStream pages) (same_Some _ now step.2) (record { nets = heard.nets; unclosed = heard.unclosed })
sober_line pages line s now sober (inr (text, is)) = subst (IsSoberStream pages) (sym is) sober

pub sober_lines : (pages : ℕ) (lines : List (List ℕ)) (s now : Stream) → IsSoberStream pages s → Accepted pages lines s now → IsSoberStream pages now
sober_lines pages [] s now sober is = subst (IsSoberStream pages) (sym is) sober
sober_lines pages (line ∷ lines) s now sober (mid, first, rest) = sober_lines pages lines mid now (sober_line pages line s mid sober first) rest

pub blank_sober : (pages : ℕ) → IsSoberStream pages (blank_stream pages)
blank_sober pages = record { nets = tt; unclosed = tt }
