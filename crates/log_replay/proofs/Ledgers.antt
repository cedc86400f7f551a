-- A ledger behind a record.
use Rattle.std.proofs.lemmas.Grind.{common_steps}
use Rattle.log_replay.proofs.Names.{◌≡◌, ℕ, ◌+◌, ◌*◌, ◌<◌, ◌≤◌, ◌==◌, nat_eq, Bool, true, false, not, ◌&&◌, cond, List, [], ◌∷◌, ◌++◌, length, drop, refl, sym, ap, subst, ◌∙◌, arith, eqb-true, eq-eqb, ne_eqb, length-set, append_assoc, length-append, same_Some, AllByRecursion, nat_lt, Option, Some, None, Ok, Err, Result, IsErrOf, find, slice_set, option_and_then, get, Standing, Stream, Unclosed, after_record, after_update, after_clr, after_commit, after_end, commits_in, is_taken, is_unclosed, same_content, unclosed_of, with_write, without, AreOpen, HoldsItsOwn, begun, compensated, has_written, is_others, number_of, written, Closes, Hears, Puts, StandsAt, Ledger, ReplayFault, BadStream, Memory, Transactions, Content, Write, content_at}
use Rattle.log_records.specs.declared.log_record.LogRecord.TheVariants.{Begin, Update, Clr, Commit, End}
use Rattle.log_replay.proofs.Opens.{found, no_other, owns_update, owns_clr}
use Rattle.log_replay.proofs.OpenOnes.{begins_open, puts_open, closes_open, open_later}

-- How a call ends.

no_fault : {T : Type 0} (x : T) (f : ReplayFault) → IsErrOf {T = T} (Ok x) f → ⊥
no_fault x f is = cc

pub heard : {after : Option Stream} {Leaves : Stream → Type 0} (now : Stream) → after ≡ Some now → Leaves now → Hears (Ok tt) after Leaves
heard now is leaves = record { heard = (now, is, leaves); bad = λ is. absurd (no_fault tt BadStream is) }

pub is_bad : {after : Option Stream} {Leaves : Stream → Type 0} → after ≡ None → Hears (Err BadStream) after Leaves
is_bad none = record { heard = tt; bad = λ is. none }

-- A transaction begins.
pub begins : (pages lsn next : ℕ) (s : Stream) (popped : List (List Write)) (old : Ledger) (kept : Transactions) → lsn < next → StandsAt pages lsn s popped old →
    ((txn : ℕ) → get nat_eq kept.active txn ≡ cond (lsn == txn) (Some (begun lsn)) (get nat_eq old.transactions.active txn)) → kept.writers ≡ old.transactions.writers →
    Hears (Ok tt) (after_record pages lsn Begin s) (λ now. StandsAt pages next now popped (record old { transactions = kept }))
begins pages lsn next s popped old kept later stands opened writers =
    heard _ refl (record { size = stands.size; shown = stands.shown; commits = stands.commits; nets = stands.nets; opened = begins_open lsn next s.unclosed old.transactions kept later stands.opened opened writers })

-- Which Updates follow.

module _ (pages lsn txn prev page slot : ℕ) (before after : Content) (s : Stream) where
  abbrev number : ℕ
  number = 32 * page + slot

  abbrev update : Standing
  update = record { prev = prev; page = page; slot = slot; before = before }

  abbrev behind : Unclosed → Stream
  behind t = with_write lsn txn (number, after) (update ∷ t.standing) t s

  pub updates : (t : Unclosed) → unclosed_of txn s ≡ Some t → (prev == t.last) ≡ true → nat_lt page pages ≡ true → is_taken txn number s.unclosed ≡ false →
      same_content before (content_at s.shown number) ≡ true → after_record pages lsn (Update txn prev page slot before after) s ≡ Some (with_write lsn txn (32 * page + slot, after) (record { prev = prev; page = page; slot = slot; before = before } ∷ t.standing) t s)
  updates t is last on free stood =
      ap (option_and_then (after_update pages lsn update txn after s)) is
      ∙ (λ i. cond (last i && on i && not (free i) && stood i) (Some (behind t)) None)

-- Which CLRs follow.

-- what is said of the last standing Update that a CLR compensates
pub record IsCompensated (page slot number : ℕ) (standing : List Standing) : Type 0 where
  pub update : Standing
  pub others : List Standing
  pub split : standing ≡ update ∷ others
  pub at : number ≡ 32 * page + slot
  pub on : number ≡ number_of update

module _ (lsn txn prev undo_next page slot : ℕ) (after : Content) (s : Stream) where
  abbrev next_clr : Unclosed → Option Stream
  next_clr t = after_clr lsn txn prev undo_next page slot after s t t.standing

  that_one : (t : Unclosed) (standing : List Standing) (number : ℕ) → (prev == t.last) ≡ true → compensated undo_next page slot after standing ≡ Some number →
      (after_clr lsn txn prev undo_next page slot after s t standing ≡ Some (with_write lsn txn (number, after) (drop 1 standing) t s)) × IsCompensated page slot number standing
  that_one t [] number last is = let bad : None ≡ Some number = is in cc
  that_one t (u ∷ us) number last is = by (undo_next == u.prev) (page == u.page) refl (slot == u.slot) refl (same_content after u.before) is
    where
      by : (b c : Bool) → (page == u.page) ≡ c → (d : Bool) → (slot == u.slot) ≡ d → (e : Bool) → cond (b && c && d && e) (Some (32 * page + slot)) None ≡ Some number →
          (cond ((prev == t.last) && b && c && d && e) (Some (with_write lsn txn (32 * page + slot, after) us t s)) None ≡ Some (with_write lsn txn (number, after) us t s)) × IsCompensated page slot number (u ∷ us)
      by true true on true in_slot true same =
          let at : 32 * page + slot ≡ number = same_Some _ _ same in (
            ap (λ b. cond (b && true && true && true && true) (Some (with_write lsn txn (32 * page + slot, after) us t s)) None) last
                ∙ ap (λ n. Some (with_write lsn txn (n, after) us t s)) at,
            record { update = u; others = us; split = refl; at = sym at; on = sym at ∙ (λ i. 32 * eqb-true page u.page on i + eqb-true slot u.slot in_slot i) },
          )
      by false c on d in_slot e same = let bad : None ≡ Some number = same in cc
      by true false on d in_slot e same = let bad : None ≡ Some number = same in cc
      by true true on false in_slot e same = let bad : None ≡ Some number = same in cc
      by true true on true in_slot false same = let bad : None ≡ Some number = same in cc

  pub clrs : (pages : ℕ) (t : Unclosed) (number : ℕ) → unclosed_of txn s ≡ Some t → (prev == t.last) ≡ true → compensated undo_next page slot after t.standing ≡ Some number →
      (after_record pages lsn (Clr txn prev undo_next page slot after) s ≡ Some (with_write lsn txn (number, after) (drop 1 t.standing) t s)) × IsCompensated page slot number t.standing
  clrs pages t number is last that =
      let one = that_one t t.standing number last that in
      (ap (option_and_then next_clr) is ∙ one.0, one.1)

-- A ledger whose transaction was taken out.
pub record Takes (txn : ℕ) (t : Unclosed) (old mid : Ledger) : Type 0 where
  pub taken : get nat_eq old.transactions.active txn ≡ Some t
  pub others : (x : ℕ) → get nat_eq mid.transactions.active x ≡ cond (txn == x) None (get nat_eq old.transactions.active x)
  pub writers : mid.transactions.writers ≡ old.transactions.writers
  pub table : mid.table ≡ old.table
  pub commits : mid.commits ≡ old.commits
  pub waiting : mid.waiting ≡ old.waiting

module _ (pages lsn next txn : ℕ) (s : Stream) (popped : List (List Write)) (old mid new : Ledger) (later : lsn < next) (stands : StandsAt pages lsn s popped old) (t : Unclosed) (takes : Takes txn t old mid) where
  abbrev opens : unclosed_of txn s ≡ Some t
  opens = sym (stands.opened.known txn) ∙ takes.taken

  puts : (write : Write) (standing : List Standing) → is_taken txn write.0 s.unclosed ≡ false → HoldsItsOwn (written lsn write standing t) →
      Puts (written lsn write standing t) write mid new → StandsAt pages next (with_write lsn txn write standing t s) popped new
  puts write standing free own put = record {
    size = length-set s.shown write.0 write.1 ∙ stands.size;
    shown = put.table ∙ ap (λ l. slice_set l write.0 write.1) (takes.table ∙ stands.shown);
    commits = put.commits ∙ takes.commits ∙ stands.commits;
    nets = stands.nets ∙ (λ i. popped ++ (sym (put.waiting ∙ takes.waiting) i).items);
    opened = puts_open lsn next txn s.unclosed t old.transactions new.transactions later stands.opened opens write standing free own
        (λ x. put.opened x ∙ ap (cond (t.begin == x) (Some (written lsn write standing t))) (takes.others x))
        (λ n. put.writers n ∙ (λ i. cond (write.0 == n) (Some t.begin) (get nat_eq (takes.writers i) n)));
  }

  closes : (nets : List (List Write)) → new.table ≡ old.table → new.commits ≡ s.before + length nets → nets ≡ popped ++ new.waiting.items →
      new.transactions.active ≡ mid.transactions.active →
      ((n : ℕ) → get nat_eq new.transactions.writers n ≡ cond (has_written n t) None (get nat_eq mid.transactions.writers n)) →
      StandsAt pages next (record { next = s.next; shown = s.shown; before = s.before; nets = nets; unclosed = without txn s.unclosed }) popped new
  closes nets same counted split active released = record {
    size = stands.size;
    shown = same ∙ stands.shown;
    commits = counted;
    nets = split;
    opened = closes_open lsn next txn s.unclosed t old.transactions new.transactions later stands.opened opens
        (λ x. ap (λ m. get nat_eq m x) active ∙ takes.others x)
        (λ n. released n ∙ (λ i. cond (has_written n t) None (get nat_eq (takes.writers i) n)));
  }

  own : HoldsItsOwn t
  own = (found HoldsItsOwn txn s.unclosed t stands.opened.own opens).0

  pub updated : (prev page slot number : ℕ) (before after : Content) → number ≡ 32 * page + slot → nat_lt page pages ≡ true → same_content before (content_at s.shown number) ≡ true →
      is_taken txn number s.unclosed ≡ false → (prev == t.last) ≡ true →
      Puts (written lsn (number, after) (record { prev = prev; page = page; slot = slot; before = before } ∷ t.standing) t) (number, after) mid new →
      Hears (Ok tt) (after_record pages lsn (Update txn prev page slot before after) s) (λ now. StandsAt pages next now popped new)
  updated prev page slot number before after at on stood free last put =
      let u : Standing = record { prev = prev; page = page; slot = slot; before = before } in
      heard (with_write lsn txn (number, after) (u ∷ t.standing) t s)
      (updates pages lsn txn prev page slot before after s t opens last on (subst (λ n. is_taken txn n s.unclosed ≡ false) at free) (subst (λ n. same_content before (content_at s.shown n) ≡ true) at stood)
      ∙ ap (λ n. Some (with_write lsn txn (n, after) (u ∷ t.standing) t s)) (sym at))
      (puts (number, after) (u ∷ t.standing) free (owns_update lsn (number, after) u t at own) put)

  pub undone : (prev undo_next page slot number : ℕ) (after : Content) → (prev == t.last) ≡ true → compensated undo_next page slot after t.standing ≡ Some number →
      Puts (written lsn (number, after) (drop 1 t.standing) t) (number, after) mid new →
      Hears (Ok tt) (after_record pages lsn (Clr txn prev undo_next page slot after) s) (λ now. StandsAt pages next now popped new)
  undone prev undo_next page slot number after last that put =
      let both = clrs lsn txn prev undo_next page slot after s pages t number opens last that in
      let one = both.1 in
      let has : has_written (number_of one.update) t ≡ true = (subst (AllByRecursion (λ u. has_written (number_of u) t ≡ true)) one.split own).0 in
      let begins_so : t.begin ≡ txn = (found HoldsItsOwn txn s.unclosed t stands.opened.own opens).1 in
      let free : is_taken txn number s.unclosed ≡ false =
      no_other txn number s.unclosed (get nat_eq old.transactions.writers number) (λ x. stands.opened.taken x number) t stands.opened.apart opens begins_so (ap (λ n. has_written n t) one.on ∙ has) in
      let left : drop 1 t.standing ≡ one.others = ap (drop 1) one.split in
      heard (with_write lsn txn (number, after) (drop 1 t.standing) t s) both.0
      (puts (number, after) (drop 1 t.standing) free (subst (λ l. HoldsItsOwn (written lsn (number, after) l t)) (sym left) (owns_clr lsn (number, after) one.update one.others t one.split own)) put)

  pub committed : (number : ℕ) (net : List Write) (closed : Ledger) → Closes t.net net mid closed → number ≡ old.commits + 1 → new.table ≡ closed.table → new.transactions ≡ closed.transactions →
      new.commits ≡ number → new.waiting.items ≡ closed.waiting.items ++ net ∷ [] →
      Hears (Ok tt) (after_record pages lsn (Commit txn number) s) (λ now. StandsAt pages next now popped new)
  committed number net closed close next_is table same counted waits =
      let right : number ≡ commits_in s + 1 = next_is ∙ ap (λ n. n + 1) stands.commits in
      let more = length-append s.nets (t.net ∷ []) in
      heard (record { next = s.next; shown = s.shown; before = s.before; nets = s.nets ++ t.net ∷ []; unclosed = without txn s.unclosed })
      (ap (option_and_then (after_commit txn number s)) opens
      ∙ ap (λ b. cond b (Some (record s { nets = s.nets ++ t.net ∷ []; unclosed = without txn s.unclosed })) None) (eq-eqb number (commits_in s + 1) right))
      (closes (s.nets ++ t.net ∷ []) (table ∙ close.table ∙ takes.table) (omega (arith, counted, right, more))
      (ap (λ l. l ++ t.net ∷ []) stands.nets ∙ append_assoc popped old.waiting.items (t.net ∷ [])
      ∙ (λ i. popped ++ ((sym (close.waiting ∙ takes.waiting) i).items ++ sym close.is i ∷ [])) ∙ ap (λ l. popped ++ l) (sym waits))
      (ap (λ (k : Transactions). k.active) same ∙ close.opened)
      (λ n. ap (λ (k : Transactions). get nat_eq k.writers n) same ∙ close.writers n))

  pub ended : (net : List Write) → Closes t.net net mid new → t.standing ≡ [] →
      Hears (Ok tt) (after_record pages lsn (End txn) s) (λ now. StandsAt pages next now popped new)
  ended net close empty =
      heard (record { next = s.next; shown = s.shown; before = s.before; nets = s.nets; unclosed = without txn s.unclosed })
      (ap (option_and_then (λ (u : Unclosed). after_end txn s u.standing)) opens ∙ ap (after_end txn s) empty)
      (closes s.nets (close.table ∙ takes.table) (close.commits ∙ takes.commits ∙ stands.commits)
      (stands.nets ∙ (λ i. popped ++ (sym (close.waiting ∙ takes.waiting) i).items))
      close.opened close.writers)

-- what number_of tells
pub number_told : (b : Bool) (m n : ℕ) → Some n ≡ cond b (Some m) None → (b ≡ true) × (n ≡ m)
number_told true m n is = (refl, same_Some n m is)
number_told false m n is = let bad : Some n ≡ None = is in cc

-- before a later LSN, too
pub stands_later : (pages lsn next : ℕ) (s : Stream) (popped : List (List Write)) (l : Ledger) → lsn ≤ next → StandsAt pages lsn s popped l → StandsAt pages next s popped l
stands_later pages lsn next s popped l later stands =
    record { size = stands.size; shown = stands.shown; commits = stands.commits; nets = stands.nets; opened = open_later lsn next s.unclosed l.transactions later stands.opened }
