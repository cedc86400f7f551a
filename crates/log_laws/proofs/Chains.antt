-- What an unfinished transaction has on a record of the table.
use Rattle.std.proofs.lemmas.Grind.{common_steps}
use Rattle.log_laws.proofs.Names.{◌≡◌, ℕ, ◌+◌, ◌⊎◌, Bool, true, false, true≢false, cond, List, [], ◌∷◌, ◌++◌, length, drop, Some, None, refl, sym, ap, subst, ◌∙◌, append_assoc, arith, or_left, or_right, or_cases, or_parts, eqb-true, append-nil, filter-append, list_any-append, find-append, list_any, option_or, Option, option_map, unwrap_or, find, ⊤, one, last_where-append, Entry, is_on, number_of, updates_in, last_where, before_of, before_first, after_of, Compensates, Continues, IsLoserChain, InTurn, ShowsLast, clrs_in, open_by, open_updates, LogRecord, Begin, Content, option_or_none}
use Rattle.log_laws.proofs.Lists.{or_is_none, last_any, any_find}

-- a CLR and its Update are on one record, and the CLR leaves what stood before
same_number : (c u : LogRecord) → Compensates c u → number_of c ≡ number_of u
same_number _ _ h = grind arith

puts_back : (c u : LogRecord) → Compensates c u → after_of c ≡ before_of u
puts_back x0 x1 h = grind (arith, common_steps)

abbrev pub with_entry : List Entry → Entry → List Entry
with_entry entries e = entries ++ e ∷ []

pub open_append : (updates xs ys : List Entry) → open_updates updates (xs ++ ys) ≡ open_updates (open_updates updates xs) ys
open_append updates [] ys = refl
open_append updates (x ∷ xs) ys = open_append (open_by updates x x.rec) xs ys

-- what is left to be undone are Updates of the list
pub any_open : (test : Entry → Bool) (updates entries : List Entry) → list_any test (open_updates updates entries) ≡ true → (list_any test updates ≡ true) ⊎ (list_any test (updates_in entries) ≡ true)
any_open test updates [] h = grind arith
any_open test updates (e ∷ entries) h = grind (arith, or_right, or_left, or_cases, (any_open test (open_by updates e e.rec) entries h))

any_updates : (test : Entry → Bool) (xs ys : List Entry) → list_any test (updates_in xs) ≡ true → list_any test (updates_in (xs ++ ys)) ≡ true
any_updates test xs ys h = grind (arith, filter-append, list_any-append, or_left)

-- a record of a chain on a number has an Update there
here_updates : (number : ℕ) (earlier : List Entry) (e : Entry) → Continues earlier e → is_on number e ≡ true → list_any (is_on number) (updates_in (with_entry earlier e)) ≡ true
here_updates number earlier e c on = grind (arith, common_steps, filter-append, list_any-append, or_right, or_left, any_updates, any_open, same_number)

any_of_chain : (number : ℕ) (earlier entries : List Entry) → InTurn Continues earlier entries → list_any (is_on number) entries ≡ true → list_any (is_on number) (updates_in (earlier ++ entries)) ≡ true
any_of_chain number earlier [] c h = absurd (grind arith)
any_of_chain number earlier (e ∷ entries) c h = grind (arith, common_steps, append_assoc, any_updates, here_updates, or_cases, (any_of_chain number (with_entry earlier e) entries c.1))

-- an unfinished transaction that has something on a record has an Update there
pub update_of_chain : (number t : ℕ) (entries : List Entry) (x : Entry) → IsLoserChain t entries → last_where (is_on number) entries ≡ Some x → (u : Entry) × (find (is_on number) (updates_in entries) ≡ Some u)
update_of_chain number t entries x chain e =
    any_find (is_on number) (updates_in entries)
    (ap (λ (l : List Entry). list_any (is_on number) (updates_in l)) chain.begins
    ∙ any_of_chain number (record { lsn = t; rec = Begin } ∷ []) (drop 1 entries) chain.continues (sym (ap (list_any (is_on number)) chain.begins) ∙ last_any (is_on number) entries x e))

-- so it has something where it has an Update
pub any_in_chain : (number t : ℕ) (entries : List Entry) → IsLoserChain t entries → list_any (is_on number) entries ≡ list_any (is_on number) (updates_in entries)
any_in_chain number t entries chain = by (list_any (is_on number) entries) (list_any (is_on number) (updates_in entries)) refl refl
  where
    there : list_any (is_on number) entries ≡ true → list_any (is_on number) (updates_in entries) ≡ true
    there on =
        ap (λ (l : List Entry). list_any (is_on number) (updates_in l)) chain.begins
        ∙ any_of_chain number (record { lsn = t; rec = Begin } ∷ []) (drop 1 entries) chain.continues (sym (ap (list_any (is_on number)) chain.begins) ∙ on)

    here : (xs : List Entry) → list_any (is_on number) (updates_in xs) ≡ true → list_any (is_on number) xs ≡ true
    here [] on = on
    here (x ∷ xs) on = grind (arith, or_left, or_right, or_cases, (here xs))

    by : (a b : Bool) → list_any (is_on number) entries ≡ a → list_any (is_on number) (updates_in entries) ≡ b → list_any (is_on number) entries ≡ list_any (is_on number) (updates_in entries)
    by true b any updates = any ∙ sym (there any)
    by false true any updates = here entries updates ∙ sym updates
    by false false any updates = any ∙ sym updates

-- What Updates, the last one first, leave on a number where this stood before them; and each begins with what those
-- before it leave.
abbrev pub top_on : ℕ → Content → List Entry → Content
top_on number first us = unwrap_or (option_map (λ (u : Entry). after_of u.rec) (find (is_on number) us)) first

abbrev pub RunsFrom : ℕ → Content → List Entry → Type 0
RunsFrom number first [] = ⊤
RunsFrom number first (u ∷ us) = (is_on number u ≡ true → before_of u.rec ≡ top_on number first us) × RunsFrom number first us

pub none_on : (number : ℕ) (first : Content) (us : List Entry) → list_any (is_on number) us ≡ false → (top_on number first us ≡ first) × RunsFrom number first us
none_on number first [] none = (refl, tt)
none_on number first (u ∷ us) none = grind (arith, common_steps, or_parts, true≢false, (none_on number first us))

-- The first Update on a number, the last record there, and the Updates that are left to be undone: these begin with what
-- stood before the first one, and the last record leaves what they leave.
abbrev pub Runs : ℕ → Option Entry → Option Entry → List Entry → Type 0
Runs number None None us = list_any (is_on number) us ≡ false
Runs number (Some f) (Some x) us = RunsFrom number (before_of f.rec) us × (after_of x.rec ≡ top_on number (before_of f.rec) us)
Runs number _ _ us = ⊥

abbrev pub RunsAt : ℕ → List Entry → Type 0
RunsAt number entries = Runs number (find (is_on number) (updates_in entries)) (last_where (is_on number) entries) (open_updates [] entries)

top_more : (number : ℕ) (first : Content) (e : Entry) (us : List Entry) (b : Bool) → is_on number e ≡ b → top_on number first (e ∷ us) ≡ cond b (after_of e.rec) (top_on number first us)
top_more number first e us x4 on = grind arith

update_step : (number : ℕ) (f x : Option Entry) (e : Entry) (us : List Entry) (b : Bool) → is_on number e ≡ b → Runs number f x us → (b ≡ true → ShowsLast (before_of e.rec) x) →
    Runs number (option_or f (cond b (Some e) None)) (option_or (cond b (Some e) None) x) (e ∷ us)
update_step number x1 x2 e us b on h n = grind (arith, none_on, top_more)

clr_step : (number : ℕ) (f x : Option Entry) (e u : Entry) (us : List Entry) (b : Bool) → is_on number u ≡ b → after_of e.rec ≡ before_of u.rec → Runs number f x (u ∷ us) → Runs number f (option_or (cond b (Some e) None) x) us
clr_step number x1 x2 e u us b on p h = grind (arith, or_parts, top_more)

pub none_any : (test : Entry → Bool) (xs : List Entry) → last_where test xs ≡ None → list_any test xs ≡ false
none_any test [] h = refl
none_any test (x ∷ xs) h = grind (arith, common_steps, or_is_none, one, (none_any test xs))

runs_more : (number : ℕ) (earlier : List Entry) (e : Entry) → Continues earlier e → RunsAt number earlier → RunsAt number (with_entry earlier e)
runs_more number earlier e c h = grind (arith, open_append, last_where-append, one, filter-append, find-append, update_step, eqb-true, clr_step, puts_back, same_number, option_or_none)

runs_all : (number : ℕ) (earlier entries : List Entry) → InTurn Continues earlier entries → RunsAt number earlier → RunsAt number (earlier ++ entries)
runs_all number earlier [] c h = subst (RunsAt number) (sym (append-nil earlier)) h
runs_all number earlier (e ∷ entries) c h = subst (RunsAt number) (append_assoc earlier (e ∷ []) entries) (runs_all number (with_entry earlier e) entries c.1 (runs_more number earlier e c.0 h))

pub runs_in_chain : (number t : ℕ) (entries : List Entry) → IsLoserChain t entries → RunsAt number entries
runs_in_chain number t entries chain = subst (RunsAt number) (sym chain.begins) (runs_all number (record { lsn = t; rec = Begin } ∷ []) (drop 1 entries) chain.continues refl)

-- where nothing is left to be undone, what stands last on a record is what stood before
pub undone_by_chain : (number t : ℕ) (entries : List Entry) (x : Entry) → IsLoserChain t entries → open_updates [] entries ≡ [] → last_where (is_on number) entries ≡ Some x →
    after_of x.rec ≡ before_first (find (is_on number) (updates_in entries))
undone_by_chain number t entries x chain none e =
    by_first (find (is_on number) (updates_in entries))
    (subst (λ (us : List Entry). Runs number (find (is_on number) (updates_in entries)) (Some x) us) none
    (subst (λ (o : Option Entry). Runs number (find (is_on number) (updates_in entries)) o (open_updates [] entries)) e (runs_in_chain number t entries chain)))
  where
    by_first : (o : Option Entry) → Runs number o (Some x) [] → after_of x.rec ≡ before_first o
    by_first None h = absurd h
    by_first (Some f) h = h.1

-- each CLR takes away one Update
left_count : (earlier entries : List Entry) → InTurn Continues earlier entries → length (open_updates (open_updates [] earlier) entries) + length (clrs_in entries) ≡ length (open_updates [] earlier) + length (updates_in entries)
left_count earlier [] c = grind arith
left_count earlier (e ∷ entries) c = grind (arith, open_append, (left_count (with_entry earlier e) entries c.1))

-- so as many are left as the transaction has more Updates than CLRs
pub left_of_chain : (t : ℕ) (entries : List Entry) → IsLoserChain t entries → length (open_updates [] entries) + length (clrs_in entries) ≡ length (updates_in entries)
left_of_chain t entries chain = grind (arith, common_steps, left_count)
