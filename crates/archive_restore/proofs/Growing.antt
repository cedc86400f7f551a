-- A line adds nets to a stream, and takes none away.
use Rattle.std.proofs.Common.{◌≡◌, inl, inr, ℕ, zero, suc, ◌+◌, ◌*◌, ◌<◌, ◌≤◌, ◌==◌, Bool, true, false, cond, ◌&&◌, List, [], ◌∷◌, ◌++◌, length, take, refl, sym, ◌∙◌, ap, arith, append_assoc, append-nil}
use Rattle.std.specs.Prelude.{Option, Some, None, not, nat_lt, option_and_then, slice_index_or, flat_map}
use Rattle.std.proofs.lemmas.Option.{same_Some}
use Rattle.record_model.specs.State.{Content, Write, content_at, table_with}
use Rattle.log_records.specs.declared.log_record.LogRecord.{LogRecord}
use Rattle.log_records.specs.declared.log_record.LogRecord.TheVariants.{Begin, Update, Clr, Commit, End}
use Rattle.log_records.specs.Log.{entries_from}
use Rattle.log_records.specs.Spelling.{spelling}
use Rattle.log_archive.specs.Accepted.{AfterLine, Standing, Stream, Unclosed, after_clr, after_commit, after_end, after_entries, after_record, after_update, archive_table, commits_in, is_taken, same_content, unclosed_of, with_next, with_write, without}

-- these nets stand in front of those
pub record Grows (s now : Stream) : Type 0 where
  pub more : List (List Write)
  pub is : now.nets ≡ s.nets ++ more

same : (s now : Stream) → now.nets ≡ s.nets → Grows s now
same s now is = record { more = []; is = is ∙ sym (append-nil s.nets) }

pub grows_then : (a b c : Stream) → Grows a b → Grows b c → Grows a c
grows_then a b c first second = record { more = first.more ++ second.more; is = second.is ∙ ap (λ (l : List (List Write)). l ++ second.more) first.is ∙ append_assoc a.nets first.more second.more }

found : {X : Type 0} (o : Option X) (f : X → Option Stream) (now : Stream) → option_and_then f o ≡ Some now → (x : X) × (o ≡ Some x) × (f x ≡ Some now)
found None f now is = let bad : None ≡ Some now = is in cc
found (Some x) f now is = (x, refl, is)

through : (b : Bool) (a now : Stream) → cond b (Some a) None ≡ Some now → now ≡ a
through true a now is = sym (same_Some a now is)
through false a now is = let bad : None ≡ Some now = is in cc

clr_grows : (lsn txn prev undo_next page slot : ℕ) (after : Content) (s : Stream) (t : Unclosed) (standing : List Standing) (now : Stream) → after_clr lsn txn prev undo_next page slot after s t standing ≡ Some now → Grows s now
clr_grows lsn txn prev undo_next page slot after s t [] now is = let bad : None ≡ Some now = is in cc
clr_grows lsn txn prev undo_next page slot after s t (u ∷ standing) now is =
    same s now (ap (λ (x : Stream). x.nets) (through ((prev == t.last) && (undo_next == u.prev) && (page == u.page) && (slot == u.slot) && same_content after u.before) (with_write lsn txn (32 * page + slot, after) standing t s) now is))

end_grows : (txn : ℕ) (s : Stream) (standing : List Standing) (now : Stream) → after_end txn s standing ≡ Some now → Grows s now
end_grows txn s [] now is = same s now (ap (λ (x : Stream). x.nets) (sym (same_Some _ now is)))
end_grows txn s (u ∷ standing) now is = let bad : None ≡ Some now = is in cc

record_grows : (pages lsn : ℕ) (rec : LogRecord) (s now : Stream) → after_record pages lsn rec s ≡ Some now → Grows s now
record_grows pages lsn Begin s now is = same s now (ap (λ (x : Stream). x.nets) (sym (same_Some _ now is)))
record_grows pages lsn (Update txn prev page slot before after) s now is =
    let u : Standing = record { prev = prev; page = page; slot = slot; before = before } in
    let at = found (unclosed_of txn s) (after_update pages lsn u txn after s) now is in
    same s now (ap (λ (x : Stream). x.nets) (through ((prev == at.0.last) && nat_lt page pages && not (is_taken txn (32 * page + slot) s.unclosed) && same_content before (content_at s.shown (32 * page + slot))) (with_write lsn txn (32 * page + slot, after) (u ∷ at.0.standing) at.0 s) now at.2))
record_grows pages lsn (Clr txn prev undo_next page slot after) s now is =
    let at = found (unclosed_of txn s) (λ (t : Unclosed). after_clr lsn txn prev undo_next page slot after s t t.standing) now is in
    clr_grows lsn txn prev undo_next page slot after s at.0 at.0.standing now at.2
record_grows pages lsn (Commit txn number) s now is =
    let at = found (unclosed_of txn s) (after_commit txn number s) now is in
    record { more = at.0.net ∷ []; is = ap (λ (x : Stream). x.nets) (through (number == (commits_in s + 1)) (record s { nets = s.nets ++ at.0.net ∷ []; unclosed = without txn s.unclosed }) now at.2) }
record_grows pages lsn (End txn) s now is =
    let at = found (unclosed_of txn s) (λ (t : Unclosed). after_end txn s t.standing) now is in
    end_grows txn s at.0.standing now at.2

entries_grow : (pages : ℕ) (records : List LogRecord) (from : ℕ) (s now : Stream) → after_entries pages (entries_from from records) s ≡ Some now → Grows s now
entries_grow pages [] from s now is = same s now (ap (λ (x : Stream). x.nets) (sym (same_Some s now is)))
entries_grow pages (rec ∷ records) from s now is =
    let step = found (after_record pages from rec s) (after_entries pages (entries_from (from + length (spelling rec)) records)) now is in
    grows_then s step.0 now (record_grows pages from rec s step.0 step.1) (entries_grow pages records (from + length (spelling rec)) step.0 now step.2)

pub line_grows : (pages : ℕ) (line : List ℕ) (s now : Stream) → AfterLine pages line s now → Grows s now
line_grows pages line s now (inl (content, records, text, block, is)) =
    let step = found (after_entries pages (entries_from (512 * s.next + 2) records) s) (with_next (s.next + 1)) now is in
    let heard = entries_grow pages records (512 * s.next + 2) s step.0 step.1 in
    record { more = heard.more; is = ap (λ (x : Stream). x.nets) (sym (same_Some _ now step.2)) ∙ heard.is }
line_grows pages line s now (inr (text, is)) = same s now (ap (λ (x : Stream). x.nets) is)

-- the first ones stay

take_front : (k : ℕ) (xs ys : List (List Write)) → k ≤ length xs → take k (xs ++ ys) ≡ take k xs
take_front zero xs ys few = refl
take_front (suc k) [] ys few = absurd (omega (arith, few))
take_front (suc k) (x ∷ xs) ys few = ap (λ (l : List (List Write)). x ∷ l) (take_front k xs ys (omega (arith, few)))

at_front : (k : ℕ) (xs ys : List (List Write)) → k < length xs → slice_index_or (xs ++ ys) k [] ≡ slice_index_or xs k []
at_front k [] ys less = absurd (omega (arith, less))
at_front zero (x ∷ xs) ys less = refl
at_front (suc k) (x ∷ xs) ys less = at_front k xs ys (omega (arith, less))

module _ (s now : Stream) (g : Grows s now) (k : ℕ) where
  pub take_stays : k ≤ length s.nets → take k now.nets ≡ take k s.nets
  take_stays few = ap (take k) g.is ∙ take_front k s.nets g.more few

  pub table_stays : (table : List Content) → k ≤ length s.nets → archive_table table now.nets k ≡ archive_table table s.nets k
  table_stays table few = ap (λ (l : List (List Write)). table_with table (flat_map (λ (net : List Write). net) l)) (take_stays few)

  pub net_stays : k < length s.nets → slice_index_or now.nets k [] ≡ slice_index_or s.nets k []
  net_stays less = ap (λ (l : List (List Write)). slice_index_or l k []) g.is ∙ at_front k s.nets g.more less
