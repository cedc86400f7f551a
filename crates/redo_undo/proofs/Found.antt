-- Undoing what analysis has found, record by record.
use Rattle.redo_undo.proofs.Names.{History, ◌≡◌, ℕ, ◌+◌, ◌-◌, ◌*◌, ◌≤◌, ◌<◌, ◌&&◌, ◌||◌, not, Bool, true, false, List, [], ◌∷◌, ◌++◌, length, Option, None, Some, true≢false, refl, sym, ap, subst, ◌∙◌, arith, append_assoc, append-nil, ltb-false, or_parts, length-append, length-map, none-some, same_Some, list_any, if◌then◌else◌, filter, find, ActiveIsUnfinished, Open, found_in, IsTop, Remains, IsTable, is_active, open_at, listed, Analysis, Loser, Master, next_block_is, kept_by, logical_image_under, master_of, versions_on, listed_is_loser, loser_is_listed, loser_is_not_closed, owed_closing, owed_none, whole_in_order, whole_is_undoable, top_stands, unfinished_from_top, chain_goes_on, first_read, undo_end, Unfinished, IsUnfinished, Follows, IsUndoable, next_lsn, top_lsn, Entry, is_of, is_update, is_loser, is_closed, entries_of, AreOrderly, IsInOrder, IsLoserChain, last_number, is_known, left_open, owed, owed_by, End, has_tail, LogStore, PageStore, Content, Represents, MayGrow, blocks_to, IsOf, Remain, AreUpTo, IsUndoing, IsNextUndo, UndoesSome, UndoesAll, State}
use Rattle.analysis.proofs.Pending.{all_found}
use Rattle.redo_undo.proofs.NextRecords.{order_ends}
use Rattle.log_laws.proofs.Orders.{InTurn-append_all}
use Rattle.std.specs.Prelude.{map, ◌==◌}
use Rattle.redo_undo.proofs.Compensations.{chain}

-- LSNs.

pub last_after : (from : ℕ) (xs : List Entry) (e : Entry) (to : ℕ) → IsInOrder from (xs ++ e ∷ []) to → from ≤ e.lsn
last_after from [] e to order = order.0
last_after from (x ∷ xs) e to order = let a = order.0 in let b = last_after (x.lsn + 1) xs e to order.1 in omega (arith, a, b)

-- the last of records in order has the greatest LSN
pub up_to_last : (from : ℕ) (xs : List Entry) (e : Entry) (to : ℕ) → IsInOrder from (xs ++ e ∷ []) to → AreUpTo e.lsn (xs ++ e ∷ [])
up_to_last from [] e to order = (omega arith, tt)
up_to_last from (x ∷ xs) e to order = (let a = last_after (x.lsn + 1) xs e to order.1 in omega (arith, a), up_to_last (x.lsn + 1) xs e to order.1)

below_end : (from : ℕ) (xs : List Entry) (to known : ℕ) → to ≤ known + 1 → IsInOrder from xs to → AreUpTo known xs
below_end from [] to known less order = tt
below_end from (x ∷ xs) to known less order = (let a = order_ends (x.lsn + 1) to xs order.1 in omega (arith, a, less), below_end (x.lsn + 1) xs to known less order.1)

last_up_to : (n known : ℕ) (test : Entry → Bool) (xs : List Entry) → n ≤ known → AreUpTo known xs → last_number n (map (λ e. e.lsn) (filter test xs)) ≤ known
last_up_to n known test [] less all = grind (arith)
last_up_to n known test (x ∷ xs) less all = grind (arith, (last_up_to n known test xs less all.1), (last_up_to x.lsn known test xs all.0 all.1))

-- What a list says of a transaction is what the records say.

said : (b : Bool) (x y : Open) (active : Bool) → active ≡ b → Some x ≡ (if b then Some y else None) → (active ≡ true) × (x ≡ y)
said true x y active is says = (is, same_Some x y says)
said false x y active is says = absurd (none-some x (sym says))

pub head_of : (updates : List Entry) (lsn : ℕ) → IsTop lsn (map (λ u. u.lsn) updates) → (u : Entry) × (rest : List Entry) × (updates ≡ u ∷ rest) × (u.lsn ≡ lsn)
head_of [] lsn top = absurd top
head_of (u ∷ rest) lsn top = (u, rest, refl, top)

none_any : (test : Entry → Bool) (xs : List Entry) → list_any test xs ≡ false → filter test xs ≡ []
none_any test [] none = grind (arith)
none_any test (x ∷ xs) none = grind (arith, (none_any test xs))

module _ (active : ActiveIsUnfinished) (log : LogStore) (pages : PageStore) (site : State) (newest : Option Master) (records : List Entry) (history : History) (found : Analysis) (h : Represents log pages site newest records history) (is : IsTable [] records (listed found.table)) where
  pub undoable : IsUndoable records
  undoable = subst IsUndoable h.log_holds.runs_on.records_are (whole_is_undoable (logical_image_under newest pages.flash.geometry site.image h.log_holds.blocks) h.log_holds.tail h.log_holds.runs_on.carries)

  pub order : IsInOrder (512 * kept_by newest) records (next_lsn (logical_image_under newest pages.flash.geometry site.image h.log_holds.blocks) h.log_holds.tail)
  order =
      let p = logical_image_under newest pages.flash.geometry site.image h.log_holds.blocks in
      subst (λ (l : List Entry). IsInOrder (512 * kept_by newest) l (next_lsn p h.log_holds.tail)) h.log_holds.runs_on.records_are (whole_in_order p h.log_holds.tail h.log_holds.runs_on.carries)

  pub open_is : (t : ℕ) (x : Open) → found_in (listed found.table) t ≡ Some x → (is_active [] records t ≡ true) × (x ≡ open_at [] records t)
  open_is t x there = said (is_active [] records t) x (open_at [] records t) (is_active [] records t) refl (sym there ∙ is.says t)

  pub lives : (t : ℕ) (x : Open) → found_in (listed found.table) t ≡ Some x → is_loser records t ≡ true
  lives t x there = listed_is_loser records t (sym (active [] records t tt) ∙ (open_is t x there).0)

  its_chain : (t : ℕ) (x : Open) → found_in (listed found.table) t ≡ Some x → IsLoserChain t (entries_of t records)
  its_chain t x there = undoable.undone t (lives t x there)

  -- an active transaction is unfinished
  pub unfinished_of : (t : ℕ) (x : Open) → found_in (listed found.table) t ≡ Some x →
      (chained : List Entry) × IsUnfinished records (record { txn = t; last = x.last; next = top_lsn t (left_open records t); remaining = length x.updates; chain = chained })
  unfinished_of t x there =
      let same = (open_is t x there).1 in
      let p = logical_image_under newest pages.flash.geometry site.image h.log_holds.blocks in
      let from_top = unfinished_from_top (512 * kept_by newest) (next_lsn p h.log_holds.tail) records t order (its_chain t x there) x.last (length x.updates) (lives t x there) (ap (λ (y : Open). y.last) same)
      (ap (λ (y : Open). length y.updates) same ∙ length-map (left_open records t) (λ u. u.lsn)) (top_lsn t (left_open records t)) refl in
      (from_top.0, from_top.1)

  abbrev standing : Loser → ℕ → List Entry → Unfinished
  standing loser lsn chained = record { txn = loser.txn; last = loser.last; next = lsn; remaining = loser.remaining; chain = chained }

  -- and undoing it goes on with the first of its Updates that remain
  pub unfinished_loser : (loser : Loser) (lsn : ℕ) → IsOf (listed found.table) loser → Remains (listed found.table) loser.txn lsn →
      (u : Entry) × (below : List Entry) × IsUnfinished records (standing loser lsn (u ∷ below)) × (is_update u.rec ≡ true)
  unfinished_loser loser lsn of remains =
      let t = loser.txn in
      let same : remains.x ≡ of.x = same_Some remains.x of.x (sym remains.there ∙ of.there) in
      let top : IsTop lsn of.x.updates = subst (λ (y : Open). IsTop lsn y.updates) same remains.top in
      let said = (open_is t of.x of.there).1 in
      let head = head_of (left_open records t) lsn (subst (λ (y : Open). IsTop lsn y.updates) said top) in
      let p = logical_image_under newest pages.flash.geometry site.image h.log_holds.blocks in
      let its = its_chain t of.x of.there in
      let stands = top_stands (512 * kept_by newest) (next_lsn p h.log_holds.tail) records t order its head.0 head.1 head.2 in
      let late = stands.0.late in
      let falls = stands.0.falls in
      let at = head.3 in
      let from_top = unfinished_from_top (512 * kept_by newest) (next_lsn p h.log_holds.tail) records t order its loser.last loser.remaining (lives t of.x of.there)
      (ap (λ (l : Loser). l.last) of.same ∙ ap (λ (y : Open). y.last) said)
      (ap (λ (l : Loser). l.remaining) of.same ∙ ap (λ (y : Open). length y.updates) said ∙ length-map (left_open records t) (λ u. u.lsn)) lsn (sym at ∙ sym (ap (top_lsn t) head.2)) in
      let is : IsUnfinished records (standing loser lsn from_top.0) = from_top.1 in
      let first = chain_goes_on records t lsn from_top.0 is.chain_is (omega (arith, late, falls, at)) in
      let link = (first_read records (standing loser lsn from_top.0) is first.0 first.1 first.2).0 in
      let one : first.0 ≡ head.0 = same_Some first.0 head.0 (sym link.found ∙ ap (λ (n : ℕ). find (λ (v : Entry). v.lsn == n) records) (sym at) ∙ stands.0.found) in
      (first.0, first.1, subst (λ (l : List Entry). IsUnfinished records (standing loser lsn l)) first.2 is, ap (λ (e : Entry). is_update e.rec) one ∙ stands.1)

  -- its last record stands where the others do
  pub last_known : (known : ℕ) (loser : Loser) → AreUpTo known records → IsOf (listed found.table) loser → loser.last ≤ known
  last_known known loser up_to of = grind (arith, unfinished_of, last_up_to)

  found_some : (t : ℕ) → is_loser records t ≡ true → found_in (listed found.table) t ≡ Some (open_at [] records t)
  found_some t loser =
      is.says t ∙ ap (λ (b : Bool). if b then Some (open_at [] records t) else None) (active [] records t tt ∙ loser_is_listed records t undoable loser)

  -- where of each active transaction an Update remains, one remains of each unfinished one
  pub each_remains : Remain (listed found.table) → (t : ℕ) → is_loser records t ≡ true → 0 < length (left_open records t)
  each_remains all t loser = grind (arith, all_found, found_some, length-map)

  -- where none is active none is unfinished
  pub none_unfinished : listed found.table ≡ [] → (t : ℕ) → is_loser records t ≡ false
  none_unfinished none t = grind (arith, none-some, found_some)

  -- each record is of a transaction that has begun, or is closed
  pub own_known : (t : ℕ) → (is_known [] records t || is_closed records t) ≡ false → entries_of t records ≡ []
  own_known t none = none_any (is_of t) records (by (list_any (is_of t) records) refl)
    where
      by : (b : Bool) → list_any (is_of t) records ≡ b → list_any (is_of t) records ≡ false
      by false is_none = is_none
      by true some =
          let parts = or_parts (is_known [] records t) (is_closed records t) none in
          let loser : is_loser records t ≡ true = ap (λ b. b && not (is_closed records t)) some ∙ ap not parts.1 in
          let marked : is_active [] records t ≡ true = active [] records t tt ∙ loser_is_listed records t undoable loser in
          absurd (true≢false (sym marked ∙ ap (λ b. b && not (is_closed records t)) parts.0))

-- The End of a transaction of which nothing remains.
module _ (log : LogStore) (pages : PageStore) (site : State) (newest : Option Master) (records : List Entry) (history : History) (h : Represents log pages site newest records history) (x : Unfinished) (unfinished : IsUnfinished records x) (none : x.remaining ≡ 0) where
  pub owes_end : (lsn : ℕ) → owed records ≡ owed (records ++ record { lsn = lsn; rec = End x.txn } ∷ []) + 1
  owes_end lsn =
      let owes : owed records ≡ owed (records ++ record { lsn = lsn; rec = End x.txn } ∷ []) + owed_by records x.txn =
      owed_closing records (record { lsn = lsn; rec = End x.txn }) refl (loser_is_not_closed records x.txn unfinished.loser) (chain log pages site newest records history h x unfinished) in
      omega (arith, owes, unfinished.remaining_is, none)

  pub room_to_end : blocks_to log + 1 ≤ log.kept + (pages.flash.geometry.blocks - 1)
  room_to_end = let owes = owes_end 0 in let room = h.log_holds.room in omega (arith, owes, room)

  pub end_may : (lsn : ℕ) → MayGrow log pages site.image newest records (record { lsn = lsn; rec = End x.txn })
  end_may lsn =
      let p = logical_image_under newest pages.flash.geometry site.image h.log_holds.blocks in
      let are = h.log_holds.runs_on.records_are in
      record {
        follows = subst (λ (l : List Entry). Follows (master_of newest) (versions_on pages.flash.geometry site.image) l (record { lsn = lsn; rec = End x.txn })) are
            (undo_end p h.log_holds.tail x h.log_holds.runs_on.carries (subst (λ (l : List Entry). IsUnfinished l x) (sym are) unfinished) none lsn);
        no_commit = refl;
        room = omega (arith, owes_end lsn, h.log_holds.room);
      }

-- One record more.
module _ (log : LogStore) (pages : PageStore) (site : State) (newest : Option Master) (records : List Entry) (history : History) (found : Analysis) where
  unfoldable pub one_more : (e : Entry) → Represents log pages site newest (records ++ e ∷ []) history → IsTable [] (records ++ e ∷ []) (listed found.table) → IsNextUndo records e → owed records ≡ owed (records ++ e ∷ []) + 1 →
      (AreOrderly records → AreOrderly (records ++ e ∷ [])) → UndoesSome log pages site newest records history found e.lsn
  one_more e h is next owes orderly =
      let p = logical_image_under newest pages.flash.geometry site.image h.log_holds.blocks in
      record {
        more = e ∷ [];
        now = record {
          holds = h;
          analysis = is;
          up_to = up_to_last (512 * kept_by newest) records e (next_lsn p h.log_holds.tail)
              (subst (λ (l : List Entry). IsInOrder (512 * kept_by newest) l (next_lsn p h.log_holds.tail)) h.log_holds.runs_on.records_are (whole_in_order p h.log_holds.tail h.log_holds.runs_on.carries));
        };
        in_turn = (next, tt);
        count = omega (arith, owes);
        orderly = orderly;
      }

  -- an End
  unfoldable pub one_end : (t lsn : ℕ) → Represents log pages site newest (records ++ record { lsn = lsn; rec = End t } ∷ []) history → IsTable [] (records ++ record { lsn = lsn; rec = End t } ∷ []) (listed found.table) →
      owed records ≡ owed (records ++ record { lsn = lsn; rec = End t } ∷ []) + 1 → (AreOrderly records → AreOrderly (records ++ record { lsn = lsn; rec = End t } ∷ [])) → UndoesSome log pages site newest records history found lsn
  one_end t lsn h is owes orderly =
      one_more (record { lsn = lsn; rec = End t }) h is (record { ends_first = λ clr. absurd (true≢false (sym clr)); greatest = λ clr. absurd (true≢false (sym clr)) }) owes orderly

-- Records in turn.

-- nothing is undone yet
unfoldable pub nothing_undone : (log : LogStore) (pages : PageStore) (site : State) (newest : Option Master) (records : List Entry) (history : History) (found : Analysis) (known : ℕ) → IsUndoing log pages site newest records history found known →
    UndoesSome log pages site newest records history found known
nothing_undone log pages site newest records history found known is = record {
  more = [];
  now = subst (λ (l : List Entry). IsUndoing log pages site newest l history found known) (sym (append-nil records)) is;
  in_turn = tt;
  count = omega (arith, ap owed (append-nil records));
  orderly = λ was. subst AreOrderly (sym (append-nil records)) was;
}

-- and more is, behind what was
unfoldable pub more_undone : (log log' : LogStore) (pages pages' : PageStore) (site site' : State) (newest : Option Master) (records : List Entry) (history : History) (found found' : Analysis) (known known' : ℕ) →
    (a : UndoesSome log pages site newest records history found known) → UndoesSome log' pages' site' newest (records ++ a.more) history found' known' → UndoesSome log' pages' site' newest records history found' known'
more_undone log log' pages pages' site site' newest records history found found' known known' a b =
    let all = append_assoc records a.more b.more in
    record {
      more = a.more ++ b.more;
      now = subst (λ (l : List Entry). IsUndoing log' pages' site' newest l history found' known') all b.now;
      in_turn = InTurn-append_all IsNextUndo records a.more b.more a.in_turn b.in_turn;
      count = omega (arith, a.count, b.count, length-append a.more b.more, ap owed all);
      orderly = λ was. subst AreOrderly all (b.orderly (a.orderly was));
    }

-- until all is
pub all_undone : ActiveIsUnfinished → (log : LogStore) (pages : PageStore) (site : State) (newest : Option Master) (records : List Entry) (history : History) (found : Analysis) (known : ℕ) →
    UndoesSome log pages site newest records history found known → listed found.table ≡ [] → UndoesAll log pages site newest records history
all_undone active log pages site newest records history found known a none =
    let done = none_unfinished active log pages site newest (records ++ a.more) history found a.now.holds a.now.analysis none in
    record {
      more = a.more;
      holds = a.now.holds;
      none = done;
      count = omega (arith, a.count, owed_none (records ++ a.more) done);
      in_turn = a.in_turn;
      orderly = a.orderly;
    }

-- Where each record is sealed all of them stand before the log's next block.
pub sealed_up_to : (log : LogStore) (pages : PageStore) (site : State) (newest : Option Master) (records : List Entry) (history : History) (known : ℕ) → Represents log pages site newest records history → has_tail log ≡ false → known ≡ 512 * log.ring.hi + 1 →
    AreUpTo known records
sealed_up_to log pages site newest records history known h none at =
    let p = logical_image_under newest pages.flash.geometry site.image h.log_holds.blocks in
    let order = subst (λ (l : List Entry). IsInOrder (512 * kept_by newest) l (next_lsn p h.log_holds.tail)) h.log_holds.runs_on.records_are (whole_in_order p h.log_holds.tail h.log_holds.runs_on.carries) in
    let few = ltb-false 2 log.used none in
    below_end (512 * kept_by newest) records (next_lsn p h.log_holds.tail) known (let behind = next_block_is newest h.log_holds.blocks in omega (arith, h.log_holds.ready.blocks.hi, h.log_holds.ready.records.blocks.next, h.log_holds.ready.records.tail.end, few, at, behind)) order
