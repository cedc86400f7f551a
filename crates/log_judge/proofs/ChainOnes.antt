-- One unfinished transaction after one record more.
use Rattle.log_judge.proofs.Names.{◌≡◌, ℕ, ◌-◌, ◌<◌, Bool, true, false, true≢false, List, [], ◌∷◌, ◌++◌, length, get_or, map, take, drop, refl, sym, ap, ◌∙◌, arith, get_or-append_seam, length-append, reverse-append, reverse-reverse, take_at, AllByRecursion, reverse, ◌↔◌, IsTrue, IsKept, Kept, begin_at, pending_of, Links, Pending, InTurn-append, Entry, is_update, Compensates, Undoes, last_number, is_clr, open_by, open_updates, LogRecord, Begin, Update, Clr, Commit, End}

-- One record more.

pub open_push : (us rest : List Entry) (e : Entry) → open_updates us (rest ++ e ∷ []) ≡ open_by (open_updates us rest) e e.rec
open_push us [] e = refl
open_push us (x ∷ rest) e = open_push (open_by us x x.rec) rest e

pub last_push : (n : ℕ) (rest : List Entry) (e : Entry) → last_number n (map (λ (x : Entry). x.lsn) (rest ++ e ∷ [])) ≡ e.lsn
last_push n [] e = refl
last_push n (x ∷ rest) e = last_push x.lsn rest e

abbrev kept_of : Entry → Pending
kept_of u = pending_of u.rec

map_drop : (us : List Entry) → drop 1 (map kept_of us) ≡ map kept_of (drop 1 us)
map_drop [] = refl
map_drop (u ∷ us) = refl

pub kept_update : (t : ℕ) (c : Kept) (new : List Pending) (rest : List Entry) (lsn : ℕ) (rec : LogRecord) → is_update rec ≡ true → reverse new ≡ pending_of rec ∷ reverse c.updates → IsKept t c rest →
    Links (begin_at t ∷ rest) (record { lsn = lsn; rec = rec }) → (d : Kept) → d.last ≡ lsn → d.updates ≡ new → IsKept t d (rest ++ record { lsn = lsn; rec = rec } ∷ [])
kept_update t c new rest lsn (Update txn prev page slot before after) is pushed k goes d last items =
    let e : Entry = record { lsn = lsn; rec = Update txn prev page slot before after } in
    record {
      links = InTurn-append Links (begin_at t ∷ []) rest e k.links goes;
      last = last ∙ sym (last_push t rest e);
      left = ap reverse items ∙ pushed ∙ ap (λ (l : List Pending). pending_of e.rec ∷ l) k.left ∙ ap (map kept_of) (sym (open_push [] rest e));
    }
kept_update t c new rest lsn Begin is pushed k goes d last items = absurd (true≢false (sym is))
kept_update t c new rest lsn (Clr txn prev undo_next page slot after) is pushed k goes d last items = absurd (true≢false (sym is))
kept_update t c new rest lsn (Commit txn number) is pushed k goes d last items = absurd (true≢false (sym is))
kept_update t c new rest lsn (End txn) is pushed k goes d last items = absurd (true≢false (sym is))

pub undoes_none : (us : List Entry) (rec : LogRecord) → is_update rec ≡ false → is_clr rec ≡ false → Undoes us rec → ⊥
undoes_none [] Begin a b undoes = undoes
undoes_none (u ∷ us) Begin a b undoes = undoes
undoes_none us (Update txn prev page slot before after) a b undoes = true≢false a
undoes_none us (Clr txn prev undo_next page slot after) a b undoes = true≢false b
undoes_none [] (Commit txn number) a b undoes = undoes
undoes_none (u ∷ us) (Commit txn number) a b undoes = undoes
undoes_none [] (End txn) a b undoes = undoes
undoes_none (u ∷ us) (End txn) a b undoes = undoes

pub kept_clr : (t : ℕ) (c : Kept) (new : List Pending) (rest : List Entry) (lsn : ℕ) (rec : LogRecord) → is_update rec ≡ false → reverse new ≡ drop 1 (reverse c.updates) → IsKept t c rest →
    Links (begin_at t ∷ rest) (record { lsn = lsn; rec = rec }) → (d : Kept) → d.last ≡ lsn → d.updates ≡ new → IsKept t d (rest ++ record { lsn = lsn; rec = rec } ∷ [])
kept_clr t c new rest lsn (Clr txn prev undo_next page slot after) is popped k goes d last items =
    let e : Entry = record { lsn = lsn; rec = Clr txn prev undo_next page slot after } in
    record {
      links = InTurn-append Links (begin_at t ∷ []) rest e k.links goes;
      last = last ∙ sym (last_push t rest e);
      left = ap reverse items ∙ popped ∙ ap (drop 1) k.left ∙ map_drop (open_updates [] rest) ∙ ap (map kept_of) (sym (open_push [] rest e));
    }
kept_clr t c new rest lsn (Update txn prev page slot before after) is popped k goes d last items = absurd (true≢false is)
kept_clr t c new rest lsn Begin is popped k goes d last items = absurd (undoes_none (open_updates [] rest) Begin refl refl goes.undoes)
kept_clr t c new rest lsn (Commit txn number) is popped k goes d last items = absurd (undoes_none (open_updates [] rest) (Commit txn number) refl refl goes.undoes)
kept_clr t c new rest lsn (End txn) is popped k goes d last items = absurd (undoes_none (open_updates [] rest) (End txn) refl refl goes.undoes)

-- the Updates without the last one
pub popped_is : (old new : List Pending) → new ≡ take (length old - 1) old → reverse new ≡ drop 1 (reverse old)
popped_is old new is = ap reverse is ∙ by (reverse old) (sym (reverse-reverse old))
  where
    by : (back : List Pending) → old ≡ reverse back → reverse (take (length old - 1) old) ≡ drop 1 back
    by [] same = ap (λ (l : List Pending). reverse (take (length l - 1) l)) same
    by (x ∷ back) same =
        let ends : old ≡ reverse back ++ x ∷ [] = same ∙ reverse-append (x ∷ []) back in
        let size : length (reverse back ++ x ∷ []) - 1 ≡ length (reverse back) = let more = length-append (reverse back) (x ∷ []) in omega (arith, more) in
        ap (λ (l : List Pending). reverse (take (length l - 1) l)) ends
        ∙ ap (λ (n : ℕ). reverse (take n (reverse back ++ x ∷ []))) size
        ∙ ap reverse (take_at (reverse back) (x ∷ []) (length (reverse back)) refl)
        ∙ reverse-reverse back

-- What a record has to say.

-- what is left are Updates
pub open_are_updates : (us entries : List Entry) → AllByRecursion (λ u. is_update u.rec ≡ true) us → AllByRecursion (λ u. is_update u.rec ≡ true) (open_updates us entries)
open_are_updates us [] all = all
open_are_updates us (e ∷ entries) all = open_are_updates (open_by us e e.rec) entries (one us e.lsn e.rec all)
  where
    less : (xs : List Entry) → AllByRecursion (λ u. is_update u.rec ≡ true) xs → AllByRecursion (λ u. is_update u.rec ≡ true) (drop 1 xs)
    less [] all = tt
    less (x ∷ xs) all = all.1

    one : (xs : List Entry) (lsn : ℕ) (rec : LogRecord) → AllByRecursion (λ u. is_update u.rec ≡ true) xs → AllByRecursion (λ u. is_update u.rec ≡ true) (open_by xs (record { lsn = lsn; rec = rec }) rec)
    one xs lsn Begin all = all
    one xs lsn (Update txn prev page slot before after) all = (refl, all)
    one xs lsn (Clr txn prev undo_next page slot after) all = less xs all
    one xs lsn (Commit txn number) all = all
    one xs lsn (End txn) all = all

pub clr_undoes : (us : List Entry) (clr : LogRecord) (w : Pending) (more : List Pending) (test : Bool) → w ∷ more ≡ map kept_of us → AllByRecursion (λ u. is_update u.rec ≡ true) us → is_clr clr ≡ true →
    ((rec : LogRecord) → is_update rec ≡ true → w ≡ pending_of rec → IsTrue test ↔ Compensates clr rec) → IsTrue test ↔ Undoes us clr
clr_undoes [] clr w more test is all own says = absurd (let e = ap length is in omega (arith, e))
clr_undoes (u ∷ us) (Clr txn prev undo_next page slot after) w more test is all own says = says u.rec all.0 (first is)
  where
    first : w ∷ more ≡ map kept_of (u ∷ us) → w ≡ pending_of u.rec
    first same = cc
clr_undoes (u ∷ us) Begin w more test is all own says = absurd (true≢false (sym own))
clr_undoes (u ∷ us) (Update txn prev page slot before after) w more test is all own says = absurd (true≢false (sym own))
clr_undoes (u ∷ us) (Commit txn number) w more test is all own says = absurd (true≢false (sym own))
clr_undoes (u ∷ us) (End txn) w more test is all own says = absurd (true≢false (sym own))

pub last_first : (items : List Pending) (w : Pending) → 0 < length items → w ≡ get_or items (length items - 1) w → reverse items ≡ w ∷ drop 1 (reverse items)
last_first items w some is = by (reverse items) (sym (reverse-reverse items))
  where
    by : (back : List Pending) → items ≡ reverse back → back ≡ w ∷ drop 1 back
    by [] same = absurd (let e = ap length same in omega (arith, e, some))
    by (x ∷ back) same =
        let ends : items ≡ reverse back ++ x ∷ [] = same ∙ reverse-append (x ∷ []) back in
        let size : length items - 1 ≡ length (reverse back) = let more = length-append (reverse back) (x ∷ []) in let all = ap length ends in omega (arith, more, all) in
        let here : w ≡ x = is ∙ (λ i. get_or (ends i) (size i) w) ∙ get_or-append_seam (reverse back) x [] w in
        ap (λ (y : Pending). y ∷ back) (sym here)
