-- Where an unfinished transaction has begun.
use Rattle.redo_undo.proofs.Names.{History, ◌≡◌, ℕ, ◌≤◌, Bool, true, false, List, [], ◌∷◌, ◌++◌, length, refl, sym, ap, subst, ◌∙◌, arith, ◌*◌, if◌then◌else◌, filter, Master, logical_image_under, kept_by, in_order_filter, whole_in_order, Unfinished, IsUnfinished, next_lsn, Entry, is_of, IsInOrder, LogStore, PageStore, Content, Represents, State}
use Rattle.std.specs.Prelude.{Option}
use Rattle.redo_undo.proofs.Compensations.{chain}

-- what passes a test stands in the list
pub split_at : (test : Entry → Bool) (xs front : List Entry) (e : Entry) (back : List Entry) → filter test xs ≡ front ++ e ∷ back → (a : List Entry) × (b : List Entry) × (xs ≡ a ++ e ∷ b) × (test e ≡ true)
split_at test [] [] e back is = absurd (let l = ap length is in omega (arith, l))
split_at test [] (f ∷ front) e back is = absurd (let l = ap length is in omega (arith, l))
split_at test (x ∷ xs) front e back is = by (test x) refl front is (split_at test xs)
  where
    by : (t : Bool) → test x ≡ t → (front : List Entry) → (if t then x ∷ filter test xs else filter test xs) ≡ front ++ e ∷ back →
        ((front : List Entry) (e : Entry) (back : List Entry) → filter test xs ≡ front ++ e ∷ back → (a : List Entry) × (b : List Entry) × (xs ≡ a ++ e ∷ b) × (test e ≡ true)) →
        (a : List Entry) × (b : List Entry) × (x ∷ xs ≡ a ++ e ∷ b) × (test e ≡ true)
    by true passes [] is later = let same : x ≡ e = cc in ([], xs, ap (λ (y : Entry). y ∷ xs) same, sym (ap test same) ∙ passes)
    by true passes (f ∷ front) is later =
        let rest : filter test xs ≡ front ++ e ∷ back = cc in
        let found = later front e back rest in
        (x ∷ found.0, found.1, ap (λ (l : List Entry). x ∷ l) found.2, found.3)
    by false fails front is later =
        let found = later front e back is in
        (x ∷ found.0, found.1, ap (λ (l : List Entry). x ∷ l) found.2, found.3)

module _ (log : LogStore) (pages : PageStore) (site : State) (newest : Option Master) (records : List Entry) (history : History) (h : Represents log pages site newest records history) (x : Unfinished) (unfinished : IsUnfinished records x) where
  abbrev end : ℕ
  end = next_lsn (logical_image_under newest pages.flash.geometry site.image h.log_holds.blocks) h.log_holds.tail

  order : IsInOrder (512 * kept_by newest) records end
  order = subst (λ (l : List Entry). IsInOrder (512 * kept_by newest) l end) h.log_holds.runs_on.records_are (whole_in_order (logical_image_under newest pages.flash.geometry site.image h.log_holds.blocks) h.log_holds.tail h.log_holds.runs_on.carries)

  -- it has begun in the kept log
  pub begin_kept : 512 * kept_by newest ≤ x.txn
  begin_kept =
      let its = chain log pages site newest records history h x unfinished in
      (subst (λ (l : List Entry). IsInOrder (512 * kept_by newest) l end) its.begins (in_order_filter (is_of x.txn) (512 * kept_by newest) records end order)).0
