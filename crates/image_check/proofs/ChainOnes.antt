-- One unfinished transaction after one record more.
use Rattle.std.proofs.lemmas.Grind.{common_steps}
use Rattle.image_check.proofs.Names.{◌≡◌, ℕ, ◌-◌, ◌==◌, nat_eq, Bool, true, false, cond, List, [], ◌∷◌, ◌++◌, length, map, take, drop, Option, Some, None, option_map, refl, sym, ap, subst, ◌∙◌, arith, append-nil, length-append, reverse-append, reverse-reverse, take_at, filter-append, same_Some, AreLast, IsKept, Keeps, begin_at, IsAs, Chain, IndexMap, get, InTurn-append, last_same, last_new, Entry, is_of, is_update, entries_of, number_of, before_of, after_of, last_on, Continues, ShowsLast, prev_of, LogRecord, Begin, Update, Clr, Commit, End, Content, option_or_none}
use Rattle.std.specs.Prelude.{reverse}
use Rattle.log_judge.proofs.ChainOnes.{last_push, open_push, undoes_none}

-- One record more.

map_drop : (us : List Entry) → drop 1 (map (λ (u : Entry). u.rec) us) ≡ map (λ (u : Entry). u.rec) (drop 1 us)
map_drop [] = refl
map_drop (u ∷ us) = refl

pub kept_update : (t : ℕ) (c : Chain) (new : List LogRecord) (rest : List Entry) (lsn : ℕ) (rec : LogRecord) → is_update rec ≡ true → reverse new ≡ rec ∷ reverse c.updates.items → IsKept t c rest →
    Continues (begin_at t ∷ rest) (record { lsn = lsn; rec = rec }) → (d : Chain) → d.last ≡ lsn → d.updates.items ≡ new → AreLast (rest ++ record { lsn = lsn; rec = rec } ∷ []) d.written.last → IsKept t d (rest ++ record { lsn = lsn; rec = rec } ∷ [])
kept_update t c new rest lsn (Update txn prev page slot before after) is pushed k goes d last items written = grind (arith, common_steps, InTurn-append, last_push, open_push)
kept_update t c new rest lsn Begin is pushed k goes d last items written = grind (arith, common_steps)
kept_update t c new rest lsn (Clr txn prev undo_next page slot after) is pushed k goes d last items written = grind (arith, common_steps)
kept_update t c new rest lsn (Commit txn number) is pushed k goes d last items written = grind (arith, common_steps)
kept_update t c new rest lsn (End txn) is pushed k goes d last items written = grind (arith, common_steps)

pub kept_clr : (t : ℕ) (c : Chain) (new : List LogRecord) (rest : List Entry) (lsn : ℕ) (rec : LogRecord) → is_update rec ≡ false → reverse new ≡ drop 1 (reverse c.updates.items) → IsKept t c rest →
    Continues (begin_at t ∷ rest) (record { lsn = lsn; rec = rec }) → (d : Chain) → d.last ≡ lsn → d.updates.items ≡ new → AreLast (rest ++ record { lsn = lsn; rec = rec } ∷ []) d.written.last → IsKept t d (rest ++ record { lsn = lsn; rec = rec } ∷ [])
kept_clr t c new rest lsn (Clr txn prev undo_next page slot after) is popped k goes d last items written = grind (arith, common_steps, InTurn-append, last_push, map_drop, open_push)
kept_clr t c new rest lsn (Update txn prev page slot before after) is popped k goes d last items written = grind (arith, common_steps)
kept_clr t c new rest lsn Begin is popped k goes d last items written = grind (arith, common_steps, undoes_none)
kept_clr t c new rest lsn (Commit txn number) is popped k goes d last items written = grind (arith, common_steps, undoes_none)
kept_clr t c new rest lsn (End txn) is popped k goes d last items written = grind (arith, common_steps, undoes_none)

-- the Updates without the last one
pub popped_is : (old new : List LogRecord) → new ≡ take (length old - 1) old → reverse new ≡ drop 1 (reverse old)
popped_is old new is = ap reverse is ∙ by (reverse old) (sym (reverse-reverse old))
  where
    by : (back : List LogRecord) → old ≡ reverse back → reverse (take (length old - 1) old) ≡ drop 1 back
    by [] same = ap (λ (l : List LogRecord). reverse (take (length l - 1) l)) same
    by (x ∷ back) same =
        let ends : old ≡ reverse back ++ x ∷ [] = same ∙ reverse-append (x ∷ []) back in
        let size : length (reverse back ++ x ∷ []) - 1 ≡ length (reverse back) = let more = length-append (reverse back) (x ∷ []) in omega (arith, more) in
        ap (λ (l : List LogRecord). reverse (take (length l - 1) l)) ends
        ∙ ap (λ (n : ℕ). reverse (take n (reverse back ++ x ∷ []))) size
        ∙ ap reverse (take_at (reverse back) (x ∷ []) (length (reverse back)) refl)
        ∙ reverse-reverse back

-- An Update begins with what was written last on its number.

as_shown : (slot : Content) (o : Option Entry) → IsAs slot (option_map (λ (x : Entry). after_of x.rec) o) → ShowsLast slot o
as_shown slot None same = tt
as_shown slot (Some x) same = same

shown_as : (slot : Content) (o : Option Entry) → ShowsLast slot o → IsAs slot (option_map (λ (x : Entry). after_of x.rec) o)
shown_as slot None same = tt
shown_as slot (Some x) same = same

-- the Begin is on no number
behind_begin : (t : ℕ) (rest : List Entry) (number : ℕ) → last_on (begin_at t ∷ rest) number ≡ last_on rest number
behind_begin t rest number = option_or_none (last_on rest number)

pub update_goes_on : (t : ℕ) (c : Chain) (rest : List Entry) (lsn : ℕ) (rec : LogRecord) (number : ℕ) → is_update rec ≡ true → number_of rec ≡ Some number → prev_of rec ≡ c.last →
    IsAs (before_of rec) (get nat_eq c.written.last number) → IsKept t c rest → Continues (begin_at t ∷ rest) (record { lsn = lsn; rec = rec })
update_goes_on t c rest lsn (Update txn prev page slot before after) number is on linked same k = grind (arith, common_steps, nat_eq, same_Some, behind_begin, as_shown)
update_goes_on t c rest lsn Begin number is on linked same k = grind (arith, common_steps)
update_goes_on t c rest lsn (Clr txn prev undo_next page slot after) number is on linked same k = grind (arith, common_steps)
update_goes_on t c rest lsn (Commit txn n) number is on linked same k = grind (arith, common_steps)
update_goes_on t c rest lsn (End txn) number is on linked same k = grind (arith, common_steps)

pub update_begins : (t : ℕ) (c : Chain) (rest : List Entry) (lsn : ℕ) (rec : LogRecord) (number : ℕ) → is_update rec ≡ true → number_of rec ≡ Some number → IsKept t c rest →
    Continues (begin_at t ∷ rest) (record { lsn = lsn; rec = rec }) → IsAs (before_of rec) (get nat_eq c.written.last number)
update_begins t c rest lsn rec number is on k goes = grind (arith, common_steps, shown_as, behind_begin)

-- What was written last on each number, with one record more.

pub last_unwritten : {S : Type 0} (records : List Entry) (e : Entry) (contents : IndexMap ℕ Content S) → number_of e.rec ≡ None → AreLast records contents → AreLast (records ++ e ∷ []) contents
last_unwritten records e contents none are = grind (arith, common_steps, option_map, last_same)

pub last_written : {S : Type 0} (records : List Entry) (e : Entry) (m : ℕ) (old new : IndexMap ℕ Content S) → number_of e.rec ≡ Some m →
    ((n : ℕ) → get nat_eq new n ≡ cond (m == n) (Some (after_of e.rec)) (get nat_eq old n)) → AreLast records old → AreLast (records ++ e ∷ []) new
last_written records e m old new on updates are = grind (arith, common_steps, nat_eq, option_map, last_new, last_same)

-- The records of one transaction.

pub other_same : (t : ℕ) (records : List Entry) (e : Entry) → is_of t e ≡ false → entries_of t (records ++ e ∷ []) ≡ entries_of t records
other_same t records e other = filter-append (is_of t) records (e ∷ []) ∙ ap (λ (b : Bool). entries_of t records ++ cond b (e ∷ []) []) other ∙ append-nil (entries_of t records)

pub own_more : (t : ℕ) (records : List Entry) (e : Entry) → is_of t e ≡ true → entries_of t (records ++ e ∷ []) ≡ entries_of t records ++ e ∷ []
own_more t records e own = filter-append (is_of t) records (e ∷ []) ∙ ap (λ (b : Bool). entries_of t records ++ cond b (e ∷ []) []) own

pub kept_other : (t : ℕ) (c : Chain) (records : List Entry) (e : Entry) → is_of t e ≡ false → IsKept t c (drop 1 (entries_of t records)) → IsKept t c (drop 1 (entries_of t (records ++ e ∷ [])))
kept_other t c records e other k = subst (λ (l : List Entry). IsKept t c (drop 1 l)) (sym (other_same t records e other)) k

pub kept_begin : (t : ℕ) (c : Chain) (records : List Entry) (e : Entry) → is_of t e ≡ true → entries_of t records ≡ [] → IsKept t c (drop 1 (entries_of t records)) → IsKept t c (drop 1 (entries_of t (records ++ e ∷ [])))
kept_begin t c records e own none k = grind (arith, common_steps, own_more)

pub kept_behind : (t : ℕ) (records : List Entry) (e : Entry) → is_of t e ≡ true → entries_of t records ≡ begin_at t ∷ drop 1 (entries_of t records) → drop 1 (entries_of t records) ++ e ∷ [] ≡ drop 1 (entries_of t (records ++ e ∷ []))
kept_behind t records e own is = sym (ap (drop 1) (own_more t records e own ∙ ap (λ (l : List Entry). l ++ e ∷ []) is))

-- what is kept before the first record
pub kept_first : (t : ℕ) (c : Chain) → c.last ≡ t → c.updates.items ≡ [] → AreLast [] c.written.last → IsKept t c []
kept_first t c last none written = record { continues = tt; last = last; left = ap reverse none; written = written }

pub kept_where : (t : ℕ) (c : Chain) (found : Option Chain) → found ≡ Some c → (rest : List Entry) → Keeps t found rest → IsKept t c rest
kept_where t c found is rest keeps = subst (λ (o : Option Chain). Keeps t o rest) is keeps

pub kept_nowhere : (t : ℕ) (c : Chain) (found : Option Chain) → found ≡ None → c.last ≡ t → c.updates.items ≡ [] → AreLast [] c.written.last → (rest : List Entry) → Keeps t found rest → IsKept t c rest
kept_nowhere t c found is last none written rest keeps = subst (IsKept t c) (sym (subst (λ (o : Option Chain). Keeps t o rest) is keeps)) (kept_first t c last none written)
