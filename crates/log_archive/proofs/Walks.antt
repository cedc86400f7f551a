-- Along the records of a log, and along its blocks: what a number has behind each front of them.
use Rattle.std.proofs.Common.{◌≡◌, ◌⊎◌, inl, inr, ℕ, ◌+◌, ◌<◌, ◌≤◌, List, [], ◌∷◌, ◌++◌, length, refl, sym, ap, subst, ◌∙◌, append-nil, append_assoc, arith}
use Rattle.std.specs.Prelude.{Option, Some, None, flat_map, option_and_then, unwrap_or}
use Rattle.std.specs.Option.{option_or}
use Rattle.std.proofs.lemmas.Grind.{flat_map-append}
use Rattle.std.proofs.lemmas.List.{append_cancel_left}
use Rattle.std.proofs.lemmas.Option.{same_Some}
use Rattle.std_lemmas.proofs.AllOf.{all_weaker}
use Rattle.std_lemmas.proofs.Options.{option_or_assoc, option_or_none}
use Rattle.record_model.specs.State.{Content, Write, last_write}
use Rattle.log_records.specs.declared.log_record.LogRecord.{LogRecord}
use Rattle.log_records.specs.declared.log_record.LogRecord.TheVariants.{Begin, Update, Clr, Commit, End}
use Rattle.log_records.specs.Log.{Entry, Version, txn_of, value_of}
use Rattle.log_records.specs.Sound.{IsInOrder}
use Rattle.log_laws.proofs.Values.{with}
use Rattle.log_archive.specs.Accepted.{Stream, after_entries, after_record}
use Rattle.log_archive.specs.Values.{AgreesAt}
use Rattle.log_archive.proofs.Following.{goes_on}
use Rattle.log_archive.proofs.Behind.{Behind, Grows, behind, grows}
use Rattle.log_archive.proofs.Steps.{Goes, begins, updates, undoes, commits, ends}

-- What nets leave of a content.

abbrev pub left_by : ℕ → Content → List (List Write) → Content
left_by number content nets = unwrap_or (last_write (flat_map (λ net. net) nets) number) content

last_of_both : (a b : List Write) (number : ℕ) → last_write (a ++ b) number ≡ option_or (last_write b number) (last_write a number)
last_of_both [] b number = sym (option_or_none (last_write b number))
last_of_both (w ∷ a) b number = grind (arith, option_or_assoc, (last_of_both a b number))

pub left_then : (number : ℕ) (content : Content) (first second : List (List Write)) → left_by number content (first ++ second) ≡ left_by number (left_by number content first) second
left_then number content first second =
    ap (λ l. unwrap_or (last_write l number) content) (flat_map-append (λ (net : List Write). net) first second)
    ∙ ap (λ o. unwrap_or o content) (last_of_both (flat_map (λ net. net) first) (flat_map (λ net. net) second) number)
    ∙ either (last_write (flat_map (λ net. net) second) number) (last_write (flat_map (λ net. net) first) number)
  where
    either : (b a : Option Content) → unwrap_or (option_or b a) content ≡ unwrap_or b (unwrap_or a content)
    either None a = refl
    either (Some x) a = refl

-- Parts.

ends_behind : (from to : ℕ) (entries : List Entry) → IsInOrder from entries to → from ≤ to
ends_behind from to [] order = order
ends_behind from to (e ∷ entries) order = let rest = ends_behind (e.lsn + 1) to entries order.1 in let first = order.0 in omega (arith, rest, first)

pub front_in_order : (from to : ℕ) (front rest : List Entry) → IsInOrder from (front ++ rest) to → IsInOrder from front to
front_in_order from to [] rest order = ends_behind from to rest order
front_in_order from to (e ∷ front) rest order = (order.0, front_in_order (e.lsn + 1) to front rest order.1)

pub entries_part : (pages : ℕ) (front rest : List Entry) (s now : Stream) → after_entries pages (front ++ rest) s ≡ Some now → (mid : Stream) × (after_entries pages front s ≡ Some mid) × (after_entries pages rest mid ≡ Some now)
entries_part pages [] rest s now is = (s, refl, is)
entries_part pages (e ∷ front) rest s now is =
    let step = goes_on (after_record pages e.lsn e.rec s) (after_entries pages (front ++ rest)) now is in
    let part = entries_part pages front rest step.0 now step.2 in
    (part.0, ap (option_and_then (after_entries pages front)) step.1 ∙ part.1, part.2)

-- two cuts of one list
pub cuts : {X : Type 0} (a b front rest : List X) → a ++ b ≡ front ++ rest →
    ((extra : List X) × (front ≡ a ++ extra) × (b ≡ extra ++ rest)) ⊎ ((extra : List X) × (a ≡ front ++ extra) × (rest ≡ extra ++ b))
cuts [] b front rest is = inl (front, refl, is)
cuts (x ∷ a) b [] rest is = inr (x ∷ a, refl, sym is)
cuts (x ∷ a) b (y ∷ front) rest is =
    let head : x ≡ y = cc in
    let tails : a ++ b ≡ front ++ rest = cc in
    elim (cuts a b front rest tails) [
      | inl (extra, front_is, b_is) ↦ inl (extra, (λ i. sym head i ∷ front_is i), b_is)
      | inr (extra, a_is, rest_is) ↦ inr (extra, (λ i. head i ∷ a_is i), rest_is)
    ]

-- What is so behind records.
pub record Walks (log : List Entry) (versions : List Version) (number to : ℕ) (entries : List Entry) (s now : Stream) : Type 0 where
  pub agrees : AgreesAt (log ++ entries) versions number to now
  pub grows : Grows entries s now
  pub value : value_of (log ++ entries) versions number ≡ left_by number (value_of log versions number) grows.nets

module _ (versions : List Version) (number pages : ℕ) where
  agrees_later : (log : List Entry) (lsn next : ℕ) (s : Stream) → lsn ≤ next → AgreesAt log versions number lsn s → AgreesAt log versions number next s
  agrees_later log lsn next s later a = record {
    shows = a.shows;
    closed = a.closed;
    opened = a.opened;
    begun = all_weaker (λ x. txn_of x < lsn) (λ x. txn_of x < next) (λ x less. omega (arith, less, later)) log a.begun;
    early = all_weaker (λ t. t.begin < lsn) (λ t. t.begin < next) (λ t less. omega (arith, less, later)) s.unclosed a.early;
  }

  one : (log : List Entry) (lsn : ℕ) (rec : LogRecord) (s now : Stream) → AgreesAt log versions number lsn s → number < length s.shown → Behind lsn rec s now →
      (nets : List (List Write)) × Goes log versions number (lsn + 1) (record { lsn = lsn; rec = rec }) nets now × (now.nets ≡ s.nets ++ nets)
  one log lsn Begin s now a within is = ([], begins log versions number lsn (lsn + 1) s a (omega arith) now is, ap (λ (x : Stream). x.nets) is ∙ sym (append-nil s.nets))
  one log lsn (Update txn prev page slot before after) s now a within is =
      ([], updates log versions number lsn (lsn + 1) s a (omega arith) txn prev page slot before after now within is, ap (λ (x : Stream). x.nets) is.4 ∙ sym (append-nil s.nets))
  one log lsn (Clr txn prev undo_next page slot after) s now a within is =
      ([], undoes log versions number lsn (lsn + 1) s a (omega arith) txn prev undo_next page slot after now within is, ap (λ (x : Stream). x.nets) is.7 ∙ sym (append-nil s.nets))
  one log lsn (Commit txn n) s now a within is = commits log versions number lsn (lsn + 1) s a (omega arith) txn n now is
  one log lsn (End txn) s now a within is = ([], ends log versions number lsn (lsn + 1) s a (omega arith) txn now is, ap (λ (x : Stream). x.nets) is.3 ∙ sym (append-nil s.nets))

  pub walk : (log entries : List Entry) (lsn to : ℕ) (s now : Stream) → IsInOrder lsn entries to → AgreesAt log versions number lsn s → number < length s.shown → after_entries pages entries s ≡ Some now → Walks log versions number to entries s now
  walk log [] lsn to s now order a within is =
      let same : s ≡ now = same_Some s now is in
      let g = grows pages [] s now is in
      let none : g.nets ≡ [] = append_cancel_left s.nets g.nets [] (sym g.nets_are ∙ ap (λ (x : Stream). x.nets) (sym same) ∙ sym (append-nil s.nets)) in
      record {
        agrees = subst (λ l. AgreesAt l versions number to now) (sym (append-nil log)) (subst (AgreesAt log versions number to) same (agrees_later log lsn to s order a));
        grows = g;
        value = ap (λ l. value_of l versions number) (append-nil log) ∙ sym (ap (left_by number (value_of log versions number)) none);
      }
  walk log (e ∷ entries) lsn to s now order a within is =
      let step = goes_on (after_record pages e.lsn e.rec s) (after_entries pages entries) now is in
      let mid : Stream = step.0 in
      let b : Behind e.lsn e.rec s mid = behind pages e.lsn e.rec s mid step.1 in
      let o = one log e.lsn e.rec s mid (agrees_later log lsn e.lsn s order.0 a) within b in
      let g = grows pages (e ∷ entries) s now is in
      let g1 = grows pages (e ∷ []) s mid (ap (option_and_then (after_entries pages [])) step.1) in
      let rest = walk (with log e) entries (e.lsn + 1) to mid now order.1 o.1.agrees (subst (λ n. number < n) (sym g1.size) within) step.2 in
      let nets : g.nets ≡ o.0 ++ rest.grows.nets = append_cancel_left s.nets g.nets (o.0 ++ rest.grows.nets)
      (sym g.nets_are ∙ rest.grows.nets_are ∙ ap (λ l. l ++ rest.grows.nets) o.2 ∙ append_assoc s.nets o.0 rest.grows.nets) in
      record {
        agrees = subst (λ l. AgreesAt l versions number to now) (append_assoc log (e ∷ []) entries) rest.agrees;
        grows = g;
        value =
            ap (λ l. value_of l versions number) (sym (append_assoc log (e ∷ []) entries)) ∙ rest.value
            ∙ ap (λ c. left_by number c rest.grows.nets) o.1.value ∙ sym (left_then number (value_of log versions number) o.0 rest.grows.nets)
            ∙ sym (ap (left_by number (value_of log versions number)) nets);
      }
