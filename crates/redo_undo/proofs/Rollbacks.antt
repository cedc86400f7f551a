-- Undoing a transaction, CLR by CLR, and its End.
use Rattle.redo_undo.proofs.Names.{History, ◌≡◌, ◌≢◌, ℕ, ◌+◌, ◌-◌, ◌^◌, ◌≤◌, true, List, [], ◌∷◌, ◌++◌, length, refl, sym, ap, subst, ◌∙◌, arith, append_assoc, append-nil, Option, ne_eqb, length-append, Master, all_append, logical_image_under, master_of, versions_on, loser_is_closed, loser_is_not_closed, loser_stays, owed_closing, chain_ends, undo_end, Unfinished, IsUnfinished, after_clr, past_clr, Follows, IsUndoChain, Entry, txn_of, is_loser, AreOrderly, is_clr, left_open, owed, owed_by, End, LogStore, PageStore, Content, Invariant, Represents, MayGrow, blocks_to, AreClrsOf, Compensates, IsAt, Undone, Passed, UndoCursor, State, Geometry}
use Rattle.redo_undo.specs.Rollback.{RollsBack}
use Rattle.redo_undo.proofs.Compensations.{chain}

-- nothing is compensated yet
unfoldable pub starts : (log : LogStore) (pages : PageStore) (site : State) (newest : Option Master) (records : List Entry) (history : History) (x : Unfinished) (first : UndoCursor) → Represents log pages site newest records history → IsUnfinished records x → IsAt first x →
    Compensates log pages site newest records history x.txn (blocks_to log) first
starts log pages site newest records history x first holds unfinished at =
    record {
      clrs = [];
      own = tt;
      holds = subst (λ (l : List Entry). Represents log pages site newest l history) (sym (append-nil records)) holds;
      x = x;
      left = subst (λ (l : List Entry). IsUnfinished l x) (sym (append-nil records)) unfinished;
      at = at;
      same = refl;
      count = let remains = unfinished.remaining_is in omega (arith, remains);
      owes = let none = ap owed (append-nil records) in omega (arith, none);
      few = omega arith;
      orderly = λ were. subst AreOrderly (sym (append-nil records)) were;
    }

module _ (log : LogStore) (pages : PageStore) (site : State) (newest : Option Master) (records : List Entry) (history : History) (txn blocks : ℕ) (now : UndoCursor) (c : Compensates log pages site newest records history txn blocks now) where
  -- as long as undoing hasn't come to the Begin it reads a record
  pub remains : now.next ≢ now.txn → (e : Entry) × (rest : List Entry) × (c.x.chain ≡ e ∷ rest)
  remains differ = by c.x.chain refl
    where
      by : (chained : List Entry) → c.x.chain ≡ chained → (e : Entry) × (rest : List Entry) × (c.x.chain ≡ e ∷ rest)
      by [] none =
          let ends : c.x.next ≡ c.x.txn = subst (IsUndoChain (records ++ c.clrs) c.x.txn c.x.next) none c.left.chain_is in
          absurd (differ (c.at.next ∙ ends ∙ sym c.at.txn))
      by (e ∷ rest) split = (e, rest, split)

  -- and where it has, none remains
  pub none_remains : now.next ≡ now.txn → c.x.remaining ≡ 0
  none_remains same = grind (arith, chain_ends)

  -- one more CLR
  unfoldable pub goes_on : (log' : LogStore) (pages' : PageStore) (new : State) (next : UndoCursor) → Undone log' pages' new newest (records ++ c.clrs) history c.x next → blocks_to log' ≤ blocks_to log + 1 →
      Compensates log' pages' new newest records history txn blocks next
  goes_on log' pages' new next u one =
      let all = append_assoc records c.clrs (u.e ∷ []) in
      record {
        clrs = c.clrs ++ u.e ∷ [];
        own = all_append (λ (e : Entry). (is_clr e.rec ≡ true) × (txn_of e ≡ txn)) c.clrs (u.e ∷ []) c.own ((u.clr, u.own ∙ c.same), tt);
        holds = subst (λ (l : List Entry). Represents log' pages' new newest l history) all u.holds;
        x = after_clr c.x u.e;
        left = subst (λ (l : List Entry). IsUnfinished l (after_clr c.x u.e)) all u.left;
        at = u.at;
        same = c.same;
        count = let count = c.count in let fewer = u.fewer in omega (arith, count, fewer, length-append c.clrs (u.e ∷ []));
        owes = let owes = c.owes in let less = u.owes in let same = ap owed all in omega (arith, owes, less, same, length-append c.clrs (u.e ∷ []));
        few = let few = c.few in omega (arith, few, one, length-append c.clrs (u.e ∷ []));
        orderly = λ were. subst AreOrderly all (u.orderly (c.orderly were));
      }

  -- one more is passed over
  unfoldable pub passes_on : (log' : LogStore) (pages' : PageStore) (new : State) (e : Entry) (next : UndoCursor) → Passed log log' pages' new newest (records ++ c.clrs) history c.x e next → Compensates log' pages' new newest records history txn blocks next
  passes_on log' pages' new e next p = record {
    clrs = c.clrs;
    own = c.own;
    holds = p.holds;
    x = past_clr c.x e;
    left = p.left;
    at = p.at;
    same = c.same;
    count = c.count;
    owes = c.owes;
    few = let few = c.few in let same = ap blocks_to p.same in omega (arith, few, same);
    orderly = c.orderly;
  }

  -- Where none remains, the End may be logged.
  module _ (none : c.x.remaining ≡ 0) where
    owes_less : (lsn : ℕ) → owed (records ++ c.clrs) ≡ owed ((records ++ c.clrs) ++ record { lsn = lsn; rec = End c.x.txn } ∷ []) + owed_by (records ++ c.clrs) c.x.txn
    owes_less lsn =
        owed_closing (records ++ c.clrs) (record { lsn = lsn; rec = End c.x.txn }) refl (loser_is_not_closed (records ++ c.clrs) c.x.txn c.left.loser)
        (chain log pages site newest (records ++ c.clrs) history c.holds c.x c.left)

    -- then nothing of it is owed
    pub owes_all : (lsn : ℕ) → owed ((records ++ c.clrs) ++ record { lsn = lsn; rec = End txn } ∷ []) + (length c.clrs + 1) ≡ owed records
    owes_all lsn = grind (arith, owes_less)

    pub room_for_end : blocks_to log + 1 ≤ log.kept + (pages.flash.geometry.blocks - 1)
    room_for_end = let owes = owes_less 0 in let room = c.holds.log_holds.room in omega (arith, owes, room)

    pub may_end : (lsn : ℕ) → MayGrow log pages site.image newest (records ++ c.clrs) (record { lsn = lsn; rec = End txn })
    may_end lsn =
        let p = logical_image_under newest pages.flash.geometry site.image c.holds.log_holds.blocks in
        let are = c.holds.log_holds.runs_on.records_are in
        subst (λ (t : ℕ). MayGrow log pages site.image newest (records ++ c.clrs) (record { lsn = lsn; rec = End t })) c.same (record {
          follows = subst (λ (l : List Entry). Follows (master_of newest) (versions_on pages.flash.geometry site.image) l (record { lsn = lsn; rec = End c.x.txn })) are
              (undo_end p c.holds.log_holds.tail c.x c.holds.log_holds.runs_on.carries (subst (λ (l : List Entry). IsUnfinished l c.x) (sym are) c.left) none lsn);
          no_commit = refl;
          room = omega (arith, owes_less lsn, c.holds.log_holds.room);
        })

-- a log has blocks for all Updates of an unfinished transaction that are left
pub few_left : (log : LogStore) (pages : PageStore) (site : State) (newest : Option Master) (records : List Entry) (history : History) → Represents log pages site newest records history → Invariant log pages site → (x : Unfinished) → IsUnfinished records x →
    length (left_open records x.txn) ≤ 2 ^ 64 - 1
few_left log pages site newest records history h going x unfinished =
    let owes = owed_closing records (record { lsn = 0; rec = End x.txn }) refl (loser_is_not_closed records x.txn unfinished.loser) (chain log pages site newest records history h x unfinished) in
    let all = ap (λ (k : Geometry). k.blocks) going.sizes in
    let room = h.log_holds.room in
    let kept = going.log_going.kept in
    let most = going.log_going.limits.blocks in
    omega (arith, owes, all, room, kept, most)

-- all other transactions are as they were
others_stay : (records clrs : List Entry) (txn t : ℕ) → t ≢ txn → AreClrsOf txn clrs → is_loser (records ++ clrs) t ≡ is_loser records t
others_stay records [] txn t differ own = grind (arith, append-nil)
others_stay records (e ∷ clrs) txn t differ own = grind (arith, append_assoc, loser_stays, ne_eqb, (others_stay (records ++ e ∷ []) clrs txn t differ own.1))

-- it is logged
pub rolls_back : (log : LogStore) (pages : PageStore) (site : State) (newest : Option Master) (records : List Entry) (history : History) (txn : ℕ) (clrs : List Entry) (lsn : ℕ) → AreClrsOf txn clrs → length clrs ≡ length (left_open records txn) →
    owed ((records ++ clrs) ++ record { lsn = lsn; rec = End txn } ∷ []) + (length clrs + 1) ≡ owed records →
    Represents log pages site newest ((records ++ clrs) ++ record { lsn = lsn; rec = End txn } ∷ []) history →
    (AreOrderly records → AreOrderly ((records ++ clrs) ++ record { lsn = lsn; rec = End txn } ∷ [])) → RollsBack log pages site newest records history txn
rolls_back log pages site newest records history txn clrs lsn own count owes holds orderly =
    let e : Entry = record { lsn = lsn; rec = End txn } in
    record {
      clrs = clrs;
      lsn = lsn;
      own = own;
      count = count;
      owes = owes;
      holds = holds;
      orderly = orderly;
      closed = loser_is_closed (records ++ clrs) e refl;
      others = λ t differ. loser_stays (records ++ clrs) e t (ne_eqb txn t (λ same. differ (sym same))) ∙ others_stay records clrs txn t differ own;
    }
