-- What a stream is behind a record that follows.
use Rattle.std.proofs.Common.{◌≡◌, ℕ, ◌+◌, ◌*◌, ◌==◌, Bool, true, false, cond, ◌&&◌, List, [], ◌∷◌, ◌++◌, length, refl, sym, ap, ◌∙◌, append-nil, arith}
use Rattle.std.specs.Prelude.{Option, Some, None, not, nat_lt, option_and_then}
use Rattle.std.proofs.lemmas.List.{length-append, length-set, append_assoc}
use Rattle.std.proofs.lemmas.List.Elements.{filter_map-append}
use Rattle.std.proofs.lemmas.Bool.{and_parts, eqb-true}
use Rattle.std.proofs.lemmas.Option.{same_Some}
use Rattle.record_model.specs.State.{Write, content_at}
use Rattle.log_records.specs.declared.log_record.LogRecord.{LogRecord}
use Rattle.log_records.specs.declared.log_record.LogRecord.TheVariants.{Begin, Update, Clr, Commit, End}
use Rattle.log_records.specs.Log.{Entry}
use Rattle.log_records.specs.Sound.{commit_number, commit_numbers}
use Rattle.log_archive.specs.Accepted.{Standing, Stream, Unclosed, after_clr, after_commit, after_end, after_entries, after_record, after_update, commits_in, is_taken, same_content, unclosed_of, with_write, without}
use Rattle.log_archive.proofs.Following.{goes_on}

-- what follows, by the record
abbrev pub Behind : ℕ → LogRecord → Stream → Stream → Type 0
Behind lsn Begin s now = now ≡ record s { unclosed = record { begin = lsn; last = lsn; standing = []; net = [] } ∷ s.unclosed }
Behind lsn (Update txn prev page slot before after) s now =
    (t : Unclosed) × (unclosed_of txn s ≡ Some t) × (is_taken txn (32 * page + slot) s.unclosed ≡ false)
    × (same_content before (content_at s.shown (32 * page + slot)) ≡ true)
    × (now ≡ with_write lsn txn (32 * page + slot, after) (record { prev = prev; page = page; slot = slot; before = before } ∷ t.standing) t s)
Behind lsn (Clr txn prev undo_next page slot after) s now =
    (t : Unclosed) × (unclosed_of txn s ≡ Some t) × (u : Standing) × (standing : List Standing) × (t.standing ≡ u ∷ standing)
    × (32 * page + slot ≡ 32 * u.page + u.slot) × (same_content after u.before ≡ true)
    × (now ≡ with_write lsn txn (32 * page + slot, after) standing t s)
Behind lsn (Commit txn number) s now =
    (t : Unclosed) × (unclosed_of txn s ≡ Some t) × (now ≡ record s { nets = s.nets ++ t.net ∷ []; unclosed = without txn s.unclosed })
Behind lsn (End txn) s now =
    (t : Unclosed) × (unclosed_of txn s ≡ Some t) × (t.standing ≡ []) × (now ≡ record s { unclosed = without txn s.unclosed })

-- an open transaction is looked for first
looked : (txn : ℕ) (s now : Stream) (f : Unclosed → Option Stream) → option_and_then f (unclosed_of txn s) ≡ Some now → (t : Unclosed) × (unclosed_of txn s ≡ Some t) × (f t ≡ Some now)
looked txn s now f is = by (unclosed_of txn s) refl is
  where
    by : (o : Option Unclosed) → unclosed_of txn s ≡ o → option_and_then f o ≡ Some now → (t : Unclosed) × (unclosed_of txn s ≡ Some t) × (f t ≡ Some now)
    by None found is = let bad : None ≡ Some now = is in cc
    by (Some t) found is = (t, found, is)

-- what a test lets through
let_through : (b : Bool) (a now : Stream) → cond b (Some a) None ≡ Some now → (b ≡ true) × (now ≡ a)
let_through true a now is = (refl, sym (same_Some a now is))
let_through false a now is = let bad : None ≡ Some now = is in cc

negated : (b : Bool) → not b ≡ true → b ≡ false
negated true is = let bad : false ≡ true = is in cc
negated false is = refl

pub behind : (pages lsn : ℕ) (rec : LogRecord) (s now : Stream) → after_record pages lsn rec s ≡ Some now → Behind lsn rec s now
behind pages lsn Begin s now is = sym (same_Some _ now is)
behind pages lsn (Update txn prev page slot before after) s now is =
    let number : ℕ = 32 * page + slot in
    let u : Standing = record { prev = prev; page = page; slot = slot; before = before } in
    let look = looked txn s now (after_update pages lsn u txn after s) is in
    let t : Unclosed = look.0 in
    let through = let_through ((prev == t.last) && nat_lt page pages && not (is_taken txn number s.unclosed) && same_content before (content_at s.shown number)) (with_write lsn txn (number, after) (u ∷ t.standing) t s) now look.2 in
    let last = and_parts ((prev == t.last) && nat_lt page pages && not (is_taken txn number s.unclosed)) (same_content before (content_at s.shown number)) through.0 in
    let free = and_parts ((prev == t.last) && nat_lt page pages) (not (is_taken txn number s.unclosed)) last.0 in
    (t, look.1, negated (is_taken txn number s.unclosed) free.1, last.1, through.1)
behind pages lsn (Clr txn prev undo_next page slot after) s now is =
    let look = looked txn s now (λ t. after_clr lsn txn prev undo_next page slot after s t t.standing) is in
    let by = compensates look.0 look.0.standing look.2 in
    (look.0, look.1, by.0, by.1, by.2, by.3, by.4, by.5)
  where
    compensates : (t : Unclosed) (standing : List Standing) → after_clr lsn txn prev undo_next page slot after s t standing ≡ Some now →
        (u : Standing) × (others : List Standing) × (standing ≡ u ∷ others) × (32 * page + slot ≡ 32 * u.page + u.slot) × (same_content after u.before ≡ true)
        × (now ≡ with_write lsn txn (32 * page + slot, after) others t s)
    compensates t [] is = let bad : None ≡ Some now = is in cc
    compensates t (u ∷ others) is =
        let through = let_through ((prev == t.last) && (undo_next == u.prev) && (page == u.page) && (slot == u.slot) && same_content after u.before) (with_write lsn txn (32 * page + slot, after) others t s) now is in
        let last = and_parts ((prev == t.last) && (undo_next == u.prev) && (page == u.page) && (slot == u.slot)) (same_content after u.before) through.0 in
        let in_slot = and_parts ((prev == t.last) && (undo_next == u.prev) && (page == u.page)) (slot == u.slot) last.0 in
        let on = and_parts ((prev == t.last) && (undo_next == u.prev)) (page == u.page) in_slot.0 in
        (u, others, refl, (λ i. 32 * eqb-true page u.page on.1 i + eqb-true slot u.slot in_slot.1 i), last.1, through.1)
behind pages lsn (Commit txn number) s now is =
    let look = looked txn s now (after_commit txn number s) is in
    let through = let_through (number == (commits_in s + 1)) (record s { nets = s.nets ++ look.0.net ∷ []; unclosed = without txn s.unclosed }) now look.2 in
    (look.0, look.1, through.1)
behind pages lsn (End txn) s now is =
    let look = looked txn s now (λ t. after_end txn s t.standing) is in
    let by = undone look.0.standing look.2 in
    (look.0, look.1, by.0, by.1)
  where
    undone : (standing : List Standing) → after_end txn s standing ≡ Some now → (standing ≡ []) × (now ≡ record s { unclosed = without txn s.unclosed })
    undone [] is = (refl, sym (same_Some _ now is))
    undone (u ∷ standing) is = let bad : None ≡ Some now = is in cc

-- The nets of the commits, and how many there are; and the table stays as long as it is.

pub record Grows (entries : List Entry) (s now : Stream) : Type 0 where
  pub nets : List (List Write)
  pub nets_are : now.nets ≡ s.nets ++ nets
  pub count : length nets ≡ length (commit_numbers entries)
  pub size : length now.shown ≡ length s.shown

grows_none : (entries : List Entry) (s now : Stream) → commit_numbers entries ≡ [] → now.nets ≡ s.nets → length now.shown ≡ length s.shown → Grows entries s now
grows_none entries s now none same size = record { nets = []; nets_are = same ∙ sym (append-nil s.nets); count = ap length (sym none); size = size }

grown : (lsn : ℕ) (rec : LogRecord) (s now : Stream) → Behind lsn rec s now → Grows (record { lsn = lsn; rec = rec } ∷ []) s now
grown lsn Begin s now is = grows_none _ s now refl (ap (λ (x : Stream). x.nets) is) (ap (λ (x : Stream). length x.shown) is)
grown lsn (Update txn prev page slot before after) s now (t, found, free, stood, is) =
    grows_none _ s now refl (ap (λ (x : Stream). x.nets) is) (ap (λ (x : Stream). length x.shown) is ∙ length-set s.shown (32 * page + slot) after)
grown lsn (Clr txn prev undo_next page slot after) s now (t, found, u, standing, split, at, same, is) =
    grows_none _ s now refl (ap (λ (x : Stream). x.nets) is) (ap (λ (x : Stream). length x.shown) is ∙ length-set s.shown (32 * page + slot) after)
grown lsn (Commit txn number) s now (t, found, is) = record { nets = t.net ∷ []; nets_are = ap (λ (x : Stream). x.nets) is; count = refl; size = ap (λ (x : Stream). length x.shown) is }
grown lsn (End txn) s now (t, found, undone, is) = grows_none _ s now refl (ap (λ (x : Stream). x.nets) is) (ap (λ (x : Stream). length x.shown) is)

pub grows_then : (first second : List Entry) (s mid now : Stream) → Grows first s mid → Grows second mid now → Grows (first ++ second) s now
grows_then first second s mid now a b = record {
  nets = a.nets ++ b.nets;
  nets_are = b.nets_are ∙ ap (λ l. l ++ b.nets) a.nets_are ∙ append_assoc s.nets a.nets b.nets;
  count = omega (
    arith,
    length-append a.nets b.nets,
    a.count,
    b.count,
    ap length (filter_map-append commit_number first second),
    length-append (commit_numbers first) (commit_numbers second),
  );
  size = b.size ∙ a.size;
}

pub grows : (pages : ℕ) (entries : List Entry) (s now : Stream) → after_entries pages entries s ≡ Some now → Grows entries s now
grows pages [] s now is = grows_none [] s now refl (ap (λ (x : Stream). x.nets) (sym (same_Some s now is))) (ap (λ (x : Stream). length x.shown) (sym (same_Some s now is)))
grows pages (e ∷ entries) s now is =
    let step = goes_on (after_record pages e.lsn e.rec s) (after_entries pages entries) now is in
    grows_then (e ∷ []) entries s step.0 now (grown e.lsn e.rec s step.0 (behind pages e.lsn e.rec s step.0 step.1)) (grows pages entries step.0 now step.2)
