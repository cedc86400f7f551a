-- The writes of a transaction that stand, as lists.
use Rattle.std.proofs.lemmas.Grind.{common_steps}
use Rattle.log_laws.proofs.Names.{◌≡◌, ◌≤◌, ℕ, suc, zero, ◌-◌, Bool, true, List, [], ◌∷◌, ◌++◌, length, take, drop, refl, sym, ap, ◌∙◌, arith, length-append, length-drop, reverse-append, take-append-le, take-append-drop, filter_map-append, AllByRecursion, option_map, filter_map, find, reverse, write_of, standing_in, last_where-append, Entry, is_on, is_update, entries_of, last_where, after_of, open_by, open_updates, left_open, LogRecord, Write, last_write, all_drop}
use Rattle.std.proofs.Math.Seq.{take-length, drop-append_seam}
use Rattle.log_laws.proofs.Tables.{last_write_of}

-- What stands of Updates, the last one first.

abbrev pub writes_of : List Entry → List Write
writes_of us = filter_map (λ e. write_of e.rec) (reverse us)

pub writes_more : (u : Entry) (us : List Entry) → writes_of (u ∷ us) ≡ writes_of us ++ filter_map (λ e. write_of e.rec) (u ∷ [])
writes_more u us = ap (filter_map (λ e. write_of e.rec)) (reverse-append (u ∷ []) us) ∙ filter_map-append (λ e. write_of e.rec) (reverse us) (u ∷ [])

abbrev pub AreUpdates : List Entry → Type 0
AreUpdates us = AllByRecursion (λ u. is_update u.rec ≡ true) us

one_write : (u : Entry) → is_update u.rec ≡ true → length (filter_map (λ e. write_of e.rec) (u ∷ [])) ≡ 1
one_write u update = grind arith

pub writes_count : (us : List Entry) → AreUpdates us → length (writes_of us) ≡ length us
writes_count [] all = grind arith
writes_count (u ∷ us) all = grind (arith, writes_more, length-append, one_write, (writes_count us all.1))

-- without the last ones
pub writes_dropped : (count : ℕ) (us : List Entry) → AreUpdates us → writes_of (drop count us) ≡ take (length us - count) (writes_of us)
writes_dropped zero us all = grind (arith, common_steps, writes_count, take-length)
writes_dropped (suc count) [] all = grind (arith, common_steps)
writes_dropped (suc count) (u ∷ us) all = grind (arith, common_steps, writes_more, take-append-le, writes_count, (writes_dropped count us all.1))

-- and these
writes_split : (count : ℕ) (us : List Entry) → writes_of us ≡ writes_of (drop count us) ++ writes_of (take count us)
writes_split count us =
    ap writes_of (sym (take-append-drop count us)) ∙ ap (filter_map (λ e. write_of e.rec)) (reverse-append (take count us) (drop count us))
    ∙ filter_map-append (λ e. write_of e.rec) (reverse (drop count us)) (reverse (take count us))

writes_taken : (count : ℕ) (us : List Entry) → AreUpdates us → writes_of (take count us) ≡ drop (length us - count) (writes_of us)
writes_taken count us all =
    let front = writes_count (drop count us) (all_drop (λ u. is_update u.rec ≡ true) count us all) in
    let same : length us - count ≡ length (writes_of (drop count us)) = omega (arith, front, length-drop count us) in
    sym (ap (drop (length us - count)) (writes_split count us) ∙ ap (λ n. drop n (writes_of (drop count us) ++ writes_of (take count us))) same
    ∙ drop-append_seam (writes_of (drop count us)) (writes_of (take count us)))

-- the last of them on a number
last_reverse : (test : Entry → Bool) (us : List Entry) → last_where test (reverse us) ≡ find test us
last_reverse test [] = grind (arith, common_steps)
last_reverse test (u ∷ us) = grind (arith, common_steps, reverse-append, last_where-append, (last_reverse test us))

pub last_standing : (us : List Entry) (number : ℕ) → last_write (writes_of us) number ≡ option_map (λ (u : Entry). after_of u.rec) (find (is_on number) us)
last_standing us number = last_write_of (reverse us) number ∙ ap (option_map (λ (u : Entry). after_of u.rec)) (last_reverse (is_on number) us)

-- The writes of a transaction.

open_are_updates : (us entries : List Entry) → AreUpdates us → AreUpdates (open_updates us entries)
open_are_updates us [] all = all
open_are_updates us (e ∷ entries) all = by e.rec refl (λ vs are. open_are_updates vs entries are)
  where
    by : (rec : LogRecord) → e.rec ≡ rec → ((vs : List Entry) → AreUpdates vs → AreUpdates (open_updates vs entries)) → AreUpdates (open_updates (open_by us e rec) entries)
    by x0 is f = grind (arith, all_drop)

pub left_are_updates : (log : List Entry) (t : ℕ) → AreUpdates (left_open log t)
left_are_updates log t = open_are_updates [] (entries_of t log) tt

pub standing_count : (log : List Entry) (t : ℕ) → length (standing_in t log) ≡ length (left_open log t)
standing_count log t = writes_count (left_open log t) (left_are_updates log t)

-- where its last Updates aren't left any more its last writes don't stand any more
pub standing_dropped : (log log' : List Entry) (t count : ℕ) → left_open log' t ≡ drop count (left_open log t) → standing_in t log' ≡ take (length (standing_in t log) - count) (standing_in t log)
standing_dropped log log' t count left = grind (arith, writes_dropped, left_are_updates, standing_count)

-- and the last ones are those of the first Updates that are left
pub standing_taken : (log : List Entry) (t count : ℕ) (writes : List Write) → writes ≡ standing_in t log → count ≤ length writes → writes_of (take count (left_open log t)) ≡ drop (length writes - count) writes
standing_taken log t count writes are few = grind (arith, writes_taken, left_are_updates, standing_count)
