-- A stream goes on agreeing with its log behind a record, and the value of a number changes by a commit alone.
use Rattle.std.proofs.lemmas.Grind.{common_steps}
use Rattle.std.proofs.Common.{◌≡◌, ℕ, ◌+◌, ◌*◌, ◌<◌, ◌==◌, Bool, true, false, cond, ◌&&◌, List, [], ◌∷◌, ◌++◌, length, refl, sym, ap, subst, ◌∙◌, arith}
use Rattle.std.specs.Prelude.{Option, Some, None, not, find, flat_map, unwrap_or}
use Rattle.std.specs.List.{AllByRecursion, list_any}
use Rattle.std.specs.Option.{option_or}
use Rattle.std.proofs.lemmas.Bool.{and_left, and_right, and_from, eqb-true, eq-eqb, ne_eqb, or_parts}
use Rattle.std.proofs.lemmas.Option.{same_Some}
use Rattle.std.proofs.lemmas.Slice.Eq.{bytes_eq-Decides}
use Rattle.std.proofs.lemmas.List.{append-nil}
use Rattle.std_lemmas.proofs.AllOf.{all_both, all_filter, all_passed, all_push, all_weaker}
use Rattle.record_model.specs.State.{Content, Write, content_at, last_write}
use Rattle.log_records.specs.declared.log_record.LogRecord.TheVariants.{Begin, Update, Clr, Commit, End}
use Rattle.log_records.specs.Log.{Entry, Version, after_of, before_first, before_of, first_update, is_closed, is_closing, is_number, is_of, is_on, is_update, last_on, number_of, shown_by, slot_at, txn_of, value_after, value_of}
use Rattle.log_records.proofs.Lists.{one}
use Rattle.log_laws.specs.Follow.{IsFresh}
use Rattle.log_laws.proofs.Appends.{fresh_open}
use Rattle.log_laws.proofs.Lists.{one_true}
use Rattle.log_laws.proofs.Tables.{content_with}
use Rattle.log_laws.proofs.Values.{with, closed_by, closed_same, first_push, first_same, last_new, last_same, updates_there, value_closed, value_open, value_same}
use Rattle.log_archive.specs.Accepted.{Standing, Stream, Unclosed, is_taken, is_unclosed, put_in, same_content, unclosed_of, with_write, without}
use Rattle.log_archive.specs.Values.{AgreesAt, Ascends, HasNotWritten, HasWritten, IsOpenAt, Wrote, is_at, undone}
use Rattle.log_archive.proofs.Ascending.{last_put, none_written, put_ascends}
use Rattle.log_archive.proofs.AtNumber.{found, no_first, not_last, not_written_push, open_off, open_other, undone_stays, value_off, value_shows, value_written, wrote_off}
use Rattle.log_archive.proofs.Behind.{Behind}

pub contents_same : (a b : Content) → same_content a b ≡ true → a ≡ b
contents_same None None is = refl
contents_same None (Some b) is = let bad : false ≡ true = is in cc
contents_same (Some a) None is = let bad : false ≡ true = is in cc
contents_same (Some a) (Some b) is = ap Some ((bytes_eq-Decides a b).0 is)

-- what is so behind a record
pub record Goes (log : List Entry) (versions : List Version) (number next : ℕ) (e : Entry) (nets : List (List Write)) (now : Stream) : Type 0 where
  pub agrees : AgreesAt (with log e) versions number next now
  pub value : value_of (with log e) versions number ≡ unwrap_or (last_write (flat_map (λ net. net) nets) number) (value_of log versions number)

-- those that are left when one is taken out have another Begin
left_others : (P : Unclosed → Type 0) (txn : ℕ) (ts : List Unclosed) → AllByRecursion P ts → AllByRecursion (λ t. P t × (is_unclosed txn t ≡ false)) (without txn ts)
left_others P txn ts all =
    all_both P (λ t. not (is_unclosed txn t) ≡ true) (λ t. P t × (is_unclosed txn t ≡ false)) (λ t p other. (p, negated (is_unclosed txn t) other)) (without txn ts)
    (all_filter P (λ t. not (is_unclosed txn t)) ts all) (all_passed (λ t. not (is_unclosed txn t)) ts)
  where
    negated : (b : Bool) → not b ≡ true → b ≡ false
    negated true is = let bad : false ≡ true = is in cc
    negated false is = refl

-- none but those is found
found_left : (txn x : ℕ) (ts : List Unclosed) → find (is_unclosed x) (without txn ts) ≡ cond (txn == x) None (find (is_unclosed x) ts)
found_left txn x [] = grind (arith, common_steps)
found_left txn x (t ∷ ts) = by (t.begin == txn) refl (t.begin == x) refl (txn == x) refl (found_left txn x ts)
  where
    by : (a : Bool) → (t.begin == txn) ≡ a → (b : Bool) → (t.begin == x) ≡ b → (c : Bool) → (txn == x) ≡ c → find (is_unclosed x) (without txn ts) ≡ cond c None (find (is_unclosed x) ts) →
        find (is_unclosed x) (cond (not a) (t ∷ without txn ts) (without txn ts)) ≡ cond c None (cond b (Some t) (find (is_unclosed x) ts))
    by true at true of true same rest = rest
    by true at true of false same rest = absurd (let bad : true ≡ false = sym (eq-eqb txn x (sym (eqb-true t.begin txn at) ∙ eqb-true t.begin x of)) ∙ same in cc)
    by true at false of true same rest = rest
    by true at false of false same rest = rest
    by false at true of true same rest = absurd (let bad : true ≡ false = sym (eq-eqb t.begin txn (eqb-true t.begin x of ∙ sym (eqb-true txn x same))) ∙ at in cc)
    by false at true of false same rest = ap (λ (b : Bool). cond b (Some t) (find (is_unclosed x) (without txn ts))) of
    by false at false of true same rest = ap (λ (b : Bool). cond b (Some t) (find (is_unclosed x) (without txn ts))) of ∙ rest
    by false at false of false same rest = ap (λ (b : Bool). cond b (Some t) (find (is_unclosed x) (without txn ts))) of ∙ rest

module _ (log : List Entry) (versions : List Version) (number lsn next : ℕ) (s : Stream) (agrees : AgreesAt log versions number lsn s) (later : lsn < next) where
  begun_push : (e : Entry) → txn_of e < next → AllByRecursion (λ x. txn_of x < next) (with log e)
  begun_push e less = all_push (λ x. txn_of x < next) log e (all_weaker (λ x. txn_of x < lsn) (λ x. txn_of x < next) (λ x early. omega (arith, early, later)) log agrees.begun) less

  earlier : AllByRecursion (λ t. t.begin < next) s.unclosed
  earlier = all_weaker (λ t. t.begin < lsn) (λ t. t.begin < next) (λ t early. omega (arith, early, later)) s.unclosed agrees.early

  fresh : IsFresh lsn log
  fresh = all_weaker (λ x. txn_of x < lsn) (λ x. is_of lsn x ≡ false) (λ x less. ne_eqb (txn_of x) lsn (λ is. omega (arith, less, is))) log agrees.begun

  -- A Begin.

  pub begins : (now : Stream) → Behind lsn Begin s now → Goes log versions number next (record { lsn = lsn; rec = Begin }) [] now
  begins now is = subst (λ (x : Stream). Goes log versions number next e [] x) (sym is) (record {
    agrees = record {
      shows = agrees.shows ∙ sym (ap (shown_by (slot_at versions number)) (last_same log e number refl));
      closed = λ x last none. closed_same log e (txn_of x) (and_right (is_of (txn_of x) e) false refl) ∙ agrees.closed x (sym (last_same log e number refl) ∙ last) (not_new x none);
      opened = (own, all_weaker (IsOpenAt log number) (IsOpenAt (with log e) number) (λ t o. open_off log number t e refl (and_right (is_of t.begin e) false refl) o) s.unclosed agrees.opened);
      begun = begun_push e later;
      early = (later, earlier);
    };
    value = value_off log versions e number refl refl;
  })
    where
      e : Entry
      e = record { lsn = lsn; rec = Begin }

      begun : Unclosed
      begun = record { begin = lsn; last = lsn; standing = []; net = [] }

      not_new : (x : Entry) → find (is_unclosed (txn_of x)) (begun ∷ s.unclosed) ≡ None → find (is_unclosed (txn_of x)) s.unclosed ≡ None
      not_new x none = by (lsn == txn_of x) none
        where
          by : (b : Bool) → cond b (Some begun) (find (is_unclosed (txn_of x)) s.unclosed) ≡ None → find (is_unclosed (txn_of x)) s.unclosed ≡ None
          by true bad = let never : Some begun ≡ None = bad in cc
          by false none = none

      own : IsOpenAt (with log e) number begun
      own = record {
        unclosed = closed_same log e lsn (and_right (is_of lsn e) false refl) ∙ fresh_open lsn log fresh;
        ascends = tt;
        wrote = record {
          none = all_push (λ x. (is_of lsn x && is_on number x) ≡ false) log e (all_weaker (λ x. is_of lsn x ≡ false) (λ x. (is_of lsn x && is_on number x) ≡ false) (λ x other. and_left (is_of lsn x) (is_on number x) other) log fresh) (and_right (is_of lsn e) false refl);
          stays = tt;
        };
      }

  -- A write of an open transaction.

  module _ (txn : ℕ) (t : Unclosed) (is : unclosed_of txn s ≡ Some t) (e : Entry) (own : txn_of e ≡ txn) (goes : is_closing e.rec ≡ false) (m : ℕ) (on : number_of e.rec ≡ Some m) (standing : List Standing) (within : number < length s.shown) where
    abbrev after : Content
    after = after_of e.rec

    abbrev new : Unclosed
    new = record { begin = t.begin; last = lsn; standing = standing; net = put_in (m, after) t.net }

    abbrev written : Stream
    written = with_write lsn txn (m, after) standing t s

    t_open : IsOpenAt log number t
    t_open = (found log versions number lsn s agrees txn t is).0

    t_begin : t.begin ≡ txn
    t_begin = (found log versions number lsn s agrees txn t is).1

    t_early : t.begin < lsn
    t_early = (found log versions number lsn s agrees txn t is).2

    mine : is_of t.begin e ≡ true
    mine = eq-eqb (txn_of e) t.begin (own ∙ sym t_begin)

    goes_for : (x : ℕ) → (is_of x e && is_closing e.rec) ≡ false
    goes_for x = and_right (is_of x e) (is_closing e.rec) goes

    content_now : content_at written.shown number ≡ unwrap_or (cond (m == number) (Some after) None) (content_at s.shown number)
    content_now = content_with s.shown ((m, after) ∷ []) number within

    is_there : is_on number e ≡ (m == number)
    is_there = ap (is_number number) on

    begun_now : AllByRecursion (λ x. txn_of x < next) (with log e)
    begun_now = begun_push e (let early = t_early in let begin = t_begin in omega (arith, own, begin, early, later))

    early_now : AllByRecursion (λ u. u.begin < next) written.unclosed
    early_now = (let early = t_early in omega (arith, early, later), all_filter (λ u. u.begin < next) (λ u. not (is_unclosed txn u)) s.unclosed earlier)

    -- the record of an open transaction isn't that of one which isn't found
    not_mine : (x : ℕ) → find (is_unclosed x) written.unclosed ≡ None → (txn == x) ≡ false
    not_mine x none = by (txn == x) refl none
      where
        by : (b : Bool) → (txn == x) ≡ b → cond (t.begin == x) (Some new) (find (is_unclosed x) (without txn s.unclosed)) ≡ None → (txn == x) ≡ false
        by false at none = at
        by true at none = let here : (t.begin == x) ≡ true = eq-eqb t.begin x (t_begin ∙ eqb-true txn x at) in
            let never : Some new ≡ None = sym (ap (λ b. cond b (Some new) (find (is_unclosed x) (without txn s.unclosed))) here) ∙ none in cc

    none_else : (x : ℕ) → find (is_unclosed x) written.unclosed ≡ None → find (is_unclosed x) s.unclosed ≡ None
    none_else x none =
        let other : (txn == x) ≡ false = not_mine x none in
        let not_new : (t.begin == x) ≡ false = ap (λ n. n == x) t_begin ∙ other in
        sym (ap (λ b. cond b None (find (is_unclosed x) s.unclosed)) other) ∙ sym (found_left txn x s.unclosed)
        ∙ sym (ap (λ b. cond b (Some new) (find (is_unclosed x) (without txn s.unclosed))) not_new) ∙ none

    unclosed_now : is_closed (with log e) t.begin ≡ false
    unclosed_now = closed_same log e t.begin (goes_for t.begin) ∙ (let o = t_open in o.unclosed)

    ascends_now : Ascends (put_in (m, after) t.net)
    ascends_now = put_ascends (m, after) t.net (let o = t_open in o.ascends)

    net_now : (b : Bool) → (m == number) ≡ b → last_write (put_in (m, after) t.net) number ≡ cond b (Some after) (last_write t.net number)
    net_now b at = last_put (m, after) t.net number (let o = t_open in o.ascends) ∙ ap (λ x. cond x (Some after) (last_write t.net number)) at

    -- On another number all stays.

    module _ (off : (m == number) ≡ false) (undone_same : (c : Content) → undone number c standing ≡ undone number c t.standing)
        (stays_same : AllByRecursion (λ u. is_at number u ≡ false) t.standing → AllByRecursion (λ u. is_at number u ≡ false) standing) where
      not_on : is_on number e ≡ false
      not_on = is_there ∙ off

      wrote_still : (o : Option Content) → Wrote log number t o → Wrote (with log e) number new o
      wrote_still None w = record { none = (not_written_push log number t e (and_right (is_of t.begin e) (is_on number e) not_on) w).none; stays = stays_same w.stays }
      wrote_still (Some left) w =
          let v : HasWritten (with log e) number t left = wrote_off log number t e (Some left) not_on w in
          record { last = v.last; last_is = v.last_is; own = v.own; leaves = v.leaves; first = v.first; first_is = v.first_is; leads_back = undone_same left ∙ v.leads_back }

      pub elsewhere : Goes log versions number next e [] written
      elsewhere = record {
        agrees = record {
          shows = content_now ∙ ap (λ b. unwrap_or (cond b (Some after) None) (content_at s.shown number)) off ∙ agrees.shows ∙ sym (ap (shown_by (slot_at versions number)) (last_same log e number not_on));
          closed = λ x last none. closed_same log e (txn_of x) (goes_for (txn_of x)) ∙ agrees.closed x (sym (last_same log e number not_on) ∙ last) (none_else (txn_of x) none);
          opened = (
            record {
              unclosed = unclosed_now;
              ascends = ascends_now;
              wrote = subst (Wrote (with log e) number new) (sym (net_now false off)) (wrote_still (last_write t.net number) (let o = t_open in o.wrote));
            },
            all_filter (IsOpenAt (with log e) number) (λ u. not (is_unclosed txn u)) s.unclosed
                (all_weaker (IsOpenAt log number) (IsOpenAt (with log e) number) (λ u o. open_off log number u e not_on (goes_for u.begin) o) s.unclosed agrees.opened),
          );
          begun = begun_now;
          early = early_now;
        };
        value = value_off log versions e number goes not_on;
      }

    -- On the number it is the last one.

    module _ (there : (m == number) ≡ true)
        (each_none : AllByRecursion (λ u. (is_unclosed txn u ≡ false) → last_write u.net number ≡ None) s.unclosed)
        (first : Entry) (first_is : first_update (with log e) txn number ≡ Some first) (leads_back : undone number after standing ≡ before_of first.rec)
        (value_was : value_of log versions number ≡ before_of first.rec) where
      is_on_it : is_on number e ≡ true
      is_on_it = is_there ∙ there

      last_now : last_on (with log e) number ≡ Some e
      last_now = last_new log e number is_on_it

      pub here : Goes log versions number next e [] written
      here = record {
        agrees = record {
          shows = content_now ∙ ap (λ b. unwrap_or (cond b (Some after) None) (content_at s.shown number)) there ∙ sym (ap (shown_by (slot_at versions number)) last_now);
          closed = λ x last none.
              let same : e ≡ x = same_Some e x (sym last_now ∙ last) in
              let other : (txn == txn_of x) ≡ false = not_mine (txn_of x) none in
              absurd (let bad : true ≡ false = sym (eq-eqb txn (txn_of x) (sym own ∙ ap txn_of same)) ∙ other in cc);
          opened = (
            record {
              unclosed = unclosed_now;
              ascends = ascends_now;
              wrote = subst (Wrote (with log e) number new) (sym (net_now true there))
                  (record { last = e; last_is = last_now; own = own ∙ sym t_begin; leaves = refl; first = first; first_is = ap (λ x. first_update (with log e) x number) t_begin ∙ first_is; leads_back = leads_back });
            },
            all_weaker (λ u. (IsOpenAt log number u × (is_unclosed txn u ≡ false → last_write u.net number ≡ None)) × (is_unclosed txn u ≡ false)) (IsOpenAt (with log e) number)
                (λ u o. open_other log number u e (ap (λ x. x == u.begin) own ∙ turned u.begin o.1) (o.0.1 o.1) o.0.0)
                (without txn s.unclosed)
                (left_others (λ u. IsOpenAt log number u × (is_unclosed txn u ≡ false → last_write u.net number ≡ None)) txn s.unclosed
                (all_both (IsOpenAt log number) (λ u. is_unclosed txn u ≡ false → last_write u.net number ≡ None) (λ u. IsOpenAt log number u × (is_unclosed txn u ≡ false → last_write u.net number ≡ None)) (λ u o f. (o, f)) s.unclosed agrees.opened each_none)),
          );
          begun = begun_now;
          early = early_now;
        };
        value =
            value_open (with log e) versions number e last_now (ap (is_closed (with log e)) (own ∙ sym t_begin) ∙ unclosed_now)
            ∙ ap before_first (ap (λ x. first_update (with log e) x number) own ∙ first_is) ∙ sym value_was;
      }
        where
          turned : (x : ℕ) → (x == txn) ≡ false → (txn == x) ≡ false
          turned x other = ne_eqb txn x (λ same. (let bad : true ≡ false = sym (eq-eqb x txn (sym same)) ∙ other in cc))

  -- Updates and CLRs.

  -- who has written a number is the only one
  one_writer : (a b : Unclosed) (x y : Content) → HasWritten log number a x → HasWritten log number b y → a.begin ≡ b.begin
  one_writer a b x y wa wb = sym wa.own ∙ ap txn_of (same_Some wa.last wb.last (sym wa.last_is ∙ wb.last_is)) ∙ wb.own

  -- so no other has written what one has
  none_beside : (t : Unclosed) (left : Content) → HasWritten log number t left → AllByRecursion (λ u. (is_unclosed t.begin u ≡ false) → last_write u.net number ≡ None) s.unclosed
  none_beside t left w = all_weaker (IsOpenAt log number) (λ u. (is_unclosed t.begin u ≡ false) → last_write u.net number ≡ None) (λ u o other. by u (last_write u.net number) o.wrote other) s.unclosed agrees.opened
    where
      by : (u : Unclosed) (o : Option Content) → Wrote log number u o → (u.begin == t.begin) ≡ false → o ≡ None
      by u None v other = refl
      by u (Some x) v other = absurd (let bad : true ≡ false = sym (eq-eqb u.begin t.begin (one_writer u t x left v w)) ∙ other in cc)

  -- nor has any other where the number isn't taken
  none_taken : (txn : ℕ) (ts : List Unclosed) → is_taken txn number ts ≡ false → AllByRecursion (λ u. (is_unclosed txn u ≡ false) → last_write u.net number ≡ None) ts
  none_taken txn [] free = tt
  none_taken txn (u ∷ ts) free =
      let parts = or_parts (not (is_unclosed txn u) && list_any (λ (w : Write). w.0 == number) u.net) (is_taken txn number ts) free in
      ((λ other. none_written u.net number (sym (ap (λ b. not b && list_any (λ (w : Write). w.0 == number) u.net) other) ∙ parts.0)), none_taken txn ts parts.1)

  found_of : (P : Unclosed → Type 0) (txn : ℕ) (ts : List Unclosed) (t : Unclosed) → AllByRecursion P ts → find (is_unclosed txn) ts ≡ Some t → P t
  found_of P txn [] t all is = let bad : None ≡ Some t = is in cc
  found_of P txn (u ∷ ts) t all is = by (is_unclosed txn u) is (found_of P txn ts t all.1)
    where
      by : (b : Bool) → cond b (Some u) (find (is_unclosed txn) ts) ≡ Some t → (find (is_unclosed txn) ts ≡ Some t → P t) → P t
      by true same later = subst P (same_Some u t same) all.0
      by false same later = later same

  pub updates : (txn prev page slot : ℕ) (before after : Content) (now : Stream) → number < length s.shown → Behind lsn (Update txn prev page slot before after) s now →
      Goes log versions number next (record { lsn = lsn; rec = Update txn prev page slot before after }) [] now
  updates txn prev page slot before after now within (t, is, free, stood, now_is) =
      subst (λ (x : Stream). Goes log versions number next e [] x) (sym now_is) (by (m == number) refl)
    where
      m : ℕ
      m = 32 * page + slot

      e : Entry
      e = record { lsn = lsn; rec = Update txn prev page slot before after }

      u : Standing
      u = record { prev = prev; page = page; slot = slot; before = before }

      f : IsOpenAt log number t × (t.begin ≡ txn) × (t.begin < lsn)
      f = found log versions number lsn s agrees txn t is

      by : (b : Bool) → (m == number) ≡ b → Goes log versions number next e [] (with_write lsn txn (m, after) (u ∷ t.standing) t s)
      by false off = elsewhere txn t is e refl refl m refl (u ∷ t.standing) within off (λ c. ap (λ b. undone number (cond b before c) t.standing) off) (λ stays. (off, stays))
      by true there = by_net (last_write t.net number) refl
        where
          same : m ≡ number
          same = eqb-true m number there

          stood_there : before ≡ content_at s.shown number
          stood_there = contents_same before (content_at s.shown m) stood ∙ ap (content_at s.shown) same

          each_none : AllByRecursion (λ v. (is_unclosed txn v ≡ false) → last_write v.net number ≡ None) s.unclosed
          each_none = none_taken txn s.unclosed (sym (ap (λ n. is_taken txn n s.unclosed) same) ∙ free)

          back : undone number after (u ∷ t.standing) ≡ undone number before t.standing
          back = ap (λ b. undone number (cond b before after) t.standing) there

          by_net : (o : Option Content) → last_write t.net number ≡ o → Goes log versions number next e [] (with_write lsn txn (m, after) (u ∷ t.standing) t s)
          by_net (Some left) net =
              let w : HasWritten log number t left = subst (Wrote log number t) net f.0.wrote in
              let shows : content_at s.shown number ≡ left = agrees.shows ∙ ap (shown_by (slot_at versions number)) w.last_is ∙ w.leaves in
              here txn t is e refl refl m refl (u ∷ t.standing) within there each_none w.first
              (first_push log e txn number ∙ ap (λ o. option_or o (one (updates_there txn number) e)) (ap (λ x. first_update log x number) (sym f.1) ∙ w.first_is))
              (back ∙ ap (λ c. undone number c t.standing) (stood_there ∙ shows) ∙ w.leads_back)
              (value_written log versions number t left (let o = f.0 in o.unclosed) w)
          by_net None net =
              let w : HasNotWritten log number t = subst (Wrote log number t) net f.0.wrote in
              here txn t is e refl refl m refl (u ∷ t.standing) within there each_none e
              (first_push log e txn number ∙ ap (λ o. option_or o (one (updates_there txn number) e)) (ap (λ x. first_update log x number) (sym f.1) ∙ no_first log t.begin number w.none)
              ∙ one_true (updates_there txn number) e (and_from (txn == txn) (true && (m == number)) (eq-eqb txn txn refl) there))
              (back ∙ undone_stays number before t.standing w.stays)
              (value_shows log versions number lsn s agrees (λ x v v_is. none_of x v v_is) ∙ sym agrees.shows ∙ sym stood_there)
            where
              none_of : (x : ℕ) (v : Unclosed) → find (is_unclosed x) s.unclosed ≡ Some v → last_write v.net number ≡ None
              none_of x v v_is = by_own (is_unclosed txn v) refl
                where
                  by_own : (b : Bool) → is_unclosed txn v ≡ b → last_write v.net number ≡ None
                  by_own false other = found_of (λ w. (is_unclosed txn w ≡ false) → last_write w.net number ≡ None) x s.unclosed v each_none v_is other
                  by_own true own =
                      let g = found log versions number lsn s agrees x v v_is in
                      let same_txn : x ≡ txn = sym g.1 ∙ eqb-true v.begin txn own in
                      ap (λ (w : Unclosed). last_write w.net number) (same_Some v t (sym v_is ∙ ap (λ y. find (is_unclosed y) s.unclosed) same_txn ∙ is)) ∙ net

  pub undoes : (txn prev undo_next page slot : ℕ) (after : Content) (now : Stream) → number < length s.shown → Behind lsn (Clr txn prev undo_next page slot after) s now →
      Goes log versions number next (record { lsn = lsn; rec = Clr txn prev undo_next page slot after }) [] now
  undoes txn prev undo_next page slot after now within (t, is, u, standing, split, at, puts_back, now_is) =
      subst (λ (x : Stream). Goes log versions number next e [] x) (sym now_is) (by (m == number) refl)
    where
      m : ℕ
      m = 32 * page + slot

      e : Entry
      e = record { lsn = lsn; rec = Clr txn prev undo_next page slot after }

      f : IsOpenAt log number t × (t.begin ≡ txn) × (t.begin < lsn)
      f = found log versions number lsn s agrees txn t is

      at_it : is_at number u ≡ (m == number)
      at_it = ap (λ n. n == number) (sym at)

      by : (b : Bool) → (m == number) ≡ b → Goes log versions number next e [] (with_write lsn txn (m, after) standing t s)
      by false off = elsewhere txn t is e refl refl m refl standing within off
          (λ c. sym (ap (undone number c) split ∙ ap (λ b. undone number (cond b u.before c) standing) (at_it ∙ off)))
          (λ stays. (subst (AllByRecursion (λ v. is_at number v ≡ false)) split stays).1)
      by true there = by_net (last_write t.net number) refl
        where
          by_net : (o : Option Content) → last_write t.net number ≡ o → Goes log versions number next e [] (with_write lsn txn (m, after) standing t s)
          by_net None net =
              let w : HasNotWritten log number t = subst (Wrote log number t) net f.0.wrote in
              absurd (let bad : true ≡ false = sym (at_it ∙ there) ∙ (subst (AllByRecursion (λ v. is_at number v ≡ false)) split w.stays).0 in cc)
          by_net (Some left) net =
              let w : HasWritten log number t left = subst (Wrote log number t) net f.0.wrote in
              here txn t is e refl refl m refl standing within there
              (subst (λ x. AllByRecursion (λ v. (is_unclosed x v ≡ false) → last_write v.net number ≡ None) s.unclosed) f.1 (none_beside t left w)) w.first
              (first_same log e txn number refl ∙ ap (λ x. first_update log x number) (sym f.1) ∙ w.first_is)
              (ap (λ c. undone number c standing) (contents_same after u.before puts_back)
              ∙ sym (ap (undone number left) split ∙ ap (λ b. undone number (cond b u.before left) standing) (at_it ∙ there)) ∙ w.leads_back)
              (value_written log versions number t left (let o = f.0 in o.unclosed) w)

  -- What closes a transaction.

  module _ (txn : ℕ) (t : Unclosed) (is : unclosed_of txn s ≡ Some t) (e : Entry) (own : txn_of e ≡ txn) (closes : is_closing e.rec ≡ true) (off : is_on number e ≡ false) (first_off : is_update e.rec ≡ false) where
    c_found : IsOpenAt log number t × (t.begin ≡ txn) × (t.begin < lsn)
    c_found = found log versions number lsn s agrees txn t is

    goes_on_for : (x : ℕ) → (txn == x) ≡ false → is_closed (with log e) x ≡ is_closed log x
    goes_on_for x other = closed_same log e x (and_left (is_of x e) (is_closing e.rec) (ap (λ y. y == x) own ∙ other))

    closed_now : (x : ℕ) → (txn == x) ≡ true → is_closed (with log e) x ≡ true
    closed_now x same = closed_by log e x (and_from (is_of x e) (is_closing e.rec) (ap (λ y. y == x) own ∙ same) closes)

    pub closes_so : (nets : List (List Write)) → AgreesAt (with log e) versions number next (record { next = s.next; shown = s.shown; before = s.before; nets = nets; unclosed = without txn s.unclosed })
    closes_so nets = record {
      shows = agrees.shows ∙ sym (ap (shown_by (slot_at versions number)) (last_same log e number off));
      closed = λ x last none. by_txn x last none (txn == txn_of x) refl;
      opened = all_weaker (λ u. IsOpenAt log number u × (is_unclosed txn u ≡ false)) (IsOpenAt (with log e) number)
          (λ u o. open_off log number u e off (and_left (is_of u.begin e) (is_closing e.rec) (ap (λ y. y == u.begin) own ∙ turned u.begin o.1)) o.0)
          (without txn s.unclosed) (left_others (IsOpenAt log number) txn s.unclosed agrees.opened);
      begun = begun_push e (let f = c_found in omega (arith, own, f.1, f.2, later));
      early = all_filter (λ u. u.begin < next) (λ u. not (is_unclosed txn u)) s.unclosed earlier;
    }
      where
        turned : (x : ℕ) → (x == txn) ≡ false → (txn == x) ≡ false
        turned x other = ne_eqb txn x (λ same. (let bad : true ≡ false = sym (eq-eqb x txn (sym same)) ∙ other in cc))

        by_txn : (x : Entry) → last_on (with log e) number ≡ Some x → find (is_unclosed (txn_of x)) (without txn s.unclosed) ≡ None → (b : Bool) → (txn == txn_of x) ≡ b → is_closed (with log e) (txn_of x) ≡ true
        by_txn x last none true same = closed_now (txn_of x) same
        by_txn x last none false other =
            goes_on_for (txn_of x) other
            ∙ agrees.closed x (sym (last_same log e number off) ∙ last) (sym (ap (λ b. cond b None (find (is_unclosed (txn_of x)) s.unclosed)) other) ∙ sym (found_left txn (txn_of x) s.unclosed) ∙ none)

    -- what it has written counts, and what it hasn't stays
    pub counts : value_of (with log e) versions number ≡ unwrap_or (last_write t.net number) (value_of log versions number)
    counts = by_net (last_write t.net number) refl
      where
        by_net : (o : Option Content) → last_write t.net number ≡ o → value_of (with log e) versions number ≡ unwrap_or (last_write t.net number) (value_of log versions number)
        by_net (Some left) net =
            let w : HasWritten log number t left = subst (Wrote log number t) net c_found.0.wrote in
            value_closed (with log e) versions number w.last (last_same log e number off ∙ w.last_is) (closed_now (txn_of w.last) (eq-eqb txn (txn_of w.last) (sym (w.own ∙ c_found.1)))) ∙ w.leaves
            ∙ sym (ap (λ o. unwrap_or o (value_of log versions number)) net)
        by_net None net = ap (value_after (with log e) number (slot_at versions number)) (last_same log e number off) ∙ by_last (last_on log number) refl ∙ sym (ap (λ o. unwrap_or o (value_of log versions number)) net)
          where
            by_last : (o : Option Entry) → last_on log number ≡ o → value_after (with log e) number (slot_at versions number) o ≡ value_after log number (slot_at versions number) o
            by_last None last = refl
            by_last (Some x) last =
                let w : HasNotWritten log number t = subst (Wrote log number t) net c_found.0.wrote in
                value_same log (with log e) (slot_at versions number) number x
                (goes_on_for (txn_of x) (ne_eqb txn (txn_of x) (λ same. not_last log number t x w last (sym (c_found.1 ∙ same)))))
                (first_same log e (txn_of x) number (and_left (is_update e.rec) (is_on number e) first_off))

  pub commits : (txn n : ℕ) (now : Stream) → Behind lsn (Commit txn n) s now → (nets : List (List Write)) × Goes log versions number next (record { lsn = lsn; rec = Commit txn n }) nets now × (now.nets ≡ s.nets ++ nets)
  commits txn n now (t, is, now_is) = (
    t.net ∷ [],
    record {
      agrees = subst (AgreesAt (with log e) versions number next) (sym now_is) (closes_so txn t is e refl refl refl refl (s.nets ++ t.net ∷ []));
      value = counts txn t is e refl refl refl refl ∙ ap (λ l. unwrap_or (last_write l number) (value_of log versions number)) (sym (append-nil t.net));
    },
    ap (λ (x : Stream). x.nets) now_is,
  )
    where
      e : Entry
      e = record { lsn = lsn; rec = Commit txn n }

  pub ends : (txn : ℕ) (now : Stream) → Behind lsn (End txn) s now → Goes log versions number next (record { lsn = lsn; rec = End txn }) [] now
  ends txn now (t, is, undone_all, now_is) = record {
    agrees = subst (AgreesAt (with log e) versions number next) (sym now_is) (closes_so txn t is e refl refl refl refl s.nets);
    value = counts txn t is e refl refl refl refl ∙ by_net (last_write t.net number) refl;
  }
    where
      e : Entry
      e = record { lsn = lsn; rec = End txn }

      f : IsOpenAt log number t × (t.begin ≡ txn) × (t.begin < lsn)
      f = found log versions number lsn s agrees txn t is

      by_net : (o : Option Content) → last_write t.net number ≡ o → unwrap_or (last_write t.net number) (value_of log versions number) ≡ value_of log versions number
      by_net None net = ap (λ o. unwrap_or o (value_of log versions number)) net
      by_net (Some left) net =
          let w : HasWritten log number t left = subst (Wrote log number t) net f.0.wrote in
          ap (λ o. unwrap_or o (value_of log versions number)) net ∙ sym (ap (undone number left) undone_all) ∙ w.leads_back
          ∙ sym (value_written log versions number t left (let o = f.0 in o.unclosed) w)
