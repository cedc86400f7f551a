-- A Replay behind a line, and behind a net that is popped.
use Rattle.log_replay.proofs.Names.{◌≡◌, ◌⊎◌, inl, inr, ℕ, ◌+◌, ◌*◌, ◌==◌, true, false, true≢false, List, [], ◌∷◌, ◌++◌, length, refl, sym, ap, subst, ◌∙◌, arith, append_assoc, append-nil, same_Some, option_to_list, Option, Some, None, Ok, Err, Result, OnOk, OnErr, IsErrOf, IfSome, IfNone, option_and_then, slice_index_or, AfterLine, Stream, after_block, after_entries, with_next, IsBlockLine, IsEndLine, block_text, end_text, entries_from, IsBlock, LogRecord, AreOpen, Hears, StandsAt, StandsFor, Ledger, ReplayFault, BadStream, Replay, Write}
use Rattle.log_replay.proofs.Ledgers.{heard}

-- The next block.

module _ (pages : ℕ) (s : Stream) (popped : List (List Write)) (old new : Replay) (stands : StandsFor pages s popped old) (records : List LogRecord) where
  abbrev finish : Option Stream → Option Stream
  finish = option_and_then (with_next (s.next + 1))

  block_is : after_block pages records s ≡ finish (after_entries pages (entries_from (512 * old.next + 2) records) s)
  block_is = ap (λ n. finish (after_entries pages (entries_from (512 * n + 2) records) s)) (sym stands.next)

  pub stands_so : StandsAt pages (512 * old.next + 2) s popped old.ledger
  stands_so = subst (λ n. StandsAt pages (512 * n + 2) s popped old.ledger) (sym stands.next) stands.ledger

  module _ (r : Result (Unit {0}) ReplayFault) (hears : Hears r (after_entries pages (entries_from (512 * old.next + 2) records) s) (λ now. StandsAt pages (512 * (old.next + 1) + 2) now popped new.ledger)) where
    pub block_bad : IsErrOf r BadStream → after_block pages records s ≡ None
    block_bad is = block_is ∙ ap finish (hears.bad is)

  pub block_heard : Hears (Ok tt) (after_entries pages (entries_from (512 * old.next + 2) records) s) (λ now. StandsAt pages (512 * (old.next + 1) + 2) now popped new.ledger) → new.next ≡ old.next + 1 →
      Hears (Ok tt) (after_block pages records s) (λ now. StandsFor pages now popped new)
  block_heard hears next =
      let h = hears.heard in
      let behind : StandsAt pages (512 * (s.next + 1) + 2) h.0 popped new.ledger = subst (λ n. StandsAt pages (512 * (n + 1) + 2) h.0 popped new.ledger) stands.next h.2 in
      heard (record h.0 { next = s.next + 1 }) (block_is ∙ ap finish h.1) (record {
        next = next ∙ ap (λ n. n + 1) stands.next;
        ledger = record { size = behind.size; shown = behind.shown; commits = behind.commits; nets = behind.nets; opened = behind.opened };
      })

-- No line is that of a block and an end line.
pub one_kind : (line : List ℕ) (n m : ℕ) (content : List ℕ) → IsBlockLine line n content → IsEndLine line m → ⊥
one_kind line n m content block end =
    let same : block_text n content ≡ end_text m = sym block.text ∙ end.text in
    true≢false (ap (λ (l : List ℕ). slice_index_or l 0 0 == 98) same)

-- what an error tells
pub of_error : {T : Type 0} (r : Result T ReplayFault) (e : ReplayFault) {P : Type 0} → IsErrOf r e → OnErr r P → P
of_error (Ok x) e is says = let bad : Ok x ≡ Err e = is in cc
of_error (Err f) e is says = says

module _ (pages : ℕ) (s : Stream) (popped : List (List Write)) (old new : Replay) (stands : StandsFor pages s popped old) (line : List ℕ) where
  -- an end line
  pub end_accepted : (r : Result (Unit {0}) ReplayFault) → OnOk r (IsEndLine line old.next) → OnOk r ((now : Stream) × AfterLine pages line s now × StandsFor pages now popped old)
  end_accepted (Ok x) is = (s, inr (subst (IsEndLine line) stands.next is, refl), stands)
  end_accepted (Err e) is = tt

  pub end_bad : (r : Result (Unit {0}) ReplayFault) → ((n : ℕ) (content : List ℕ) → IsBlockLine line n content → ⊥) → OnErr r (IsEndLine line old.next → ⊥) → IsErrOf r BadStream → (now : Stream) → AfterLine pages line s now → ⊥
  end_bad r no_block no_end is now (inl block) = no_block s.next block.0 block.2
  end_bad r no_block no_end is now (inr end) = of_error r BadStream is no_end (subst (IsEndLine line) (sym stands.next) end.0)

  -- a block's line
  module _ (found : ℕ × List ℕ) (form : IsBlockLine line found.0 found.1)
      (read : (n : ℕ) (c : List ℕ) → IsBlockLine line n c → Some found ≡ Some (n, c)) where
    pub another_number : (found.0 ≡ old.next → ⊥) → (now : Stream) → AfterLine pages line s now → ⊥
    another_number other now (inl block) = other (ap (λ (x : ℕ × List ℕ). x.0) (same_Some _ _ (read s.next block.0 block.2)) ∙ sym stands.next)
    another_number other now (inr end) = one_kind line found.0 s.next found.1 form end.0

    pub block_accepted : (r : Result (Unit {0}) ReplayFault) → found.0 ≡ old.next → OnOk r ((records : List LogRecord) × IsBlock found.1 records) →
        ((records : List LogRecord) → IsBlock found.1 records → Hears r (after_block pages records s) (λ now. StandsFor pages now popped new)) →
        OnOk r ((now : Stream) × AfterLine pages line s now × StandsFor pages now popped new)
    block_accepted (Ok tt) at records says =
        let h = (says records.0 records.1).heard in
        (h.0, inl (found.1, records.0, subst (λ n. IsBlockLine line n found.1) (at ∙ stands.next) form, records.1, h.1), h.2)
    block_accepted (Err e) at records says = tt

    pub block_refused : (r : Result (Unit {0}) ReplayFault) →
        ((records : List LogRecord) → IsBlock found.1 records → Hears r (after_block pages records s) (λ now. StandsFor pages now popped new)) →
        IsErrOf r BadStream → (now : Stream) → AfterLine pages line s now → ⊥
    block_refused r says is now (inl block) =
        let same : found.1 ≡ block.0 = ap (λ (x : ℕ × List ℕ). x.1) (same_Some _ _ (read s.next block.0 block.2)) in
        let none : after_block pages block.1 s ≡ None = (says block.1 (subst (λ c. IsBlock c block.1) (sym same) block.3)).bad is in
        let some : after_block pages block.1 s ≡ Some now = block.4 in
        let wrong : None ≡ Some now = sym none ∙ some in cc
    block_refused r says is now (inr end) = one_kind line found.0 s.next found.1 form end.0

-- A net is popped.

module _ (pages : ℕ) (s : Stream) (popped : List (List Write)) (old new : Replay) (stands : StandsFor pages s popped old)
    (next : new.next ≡ old.next) (table : new.ledger.table ≡ old.ledger.table) (commits : new.ledger.commits ≡ old.ledger.commits) (same : new.ledger.transactions ≡ old.ledger.transactions) where
  moved : (gone : List (List Write)) → s.nets ≡ gone ++ new.ledger.waiting.items → StandsFor pages s gone new
  moved gone nets =
      let l = stands.ledger in
      record {
        next = next ∙ stands.next;
        ledger = record { size = l.size; shown = table ∙ l.shown; commits = commits ∙ l.commits; nets = nets; opened = subst (λ t. AreOpen (512 * s.next + 2) s.unclosed t) (sym same) l.opened };
      }

  pub pops : (r : Option (List Write)) → old.ledger.waiting.items ≡ option_to_list r ++ new.ledger.waiting.items → IfSome r (λ net. StandsFor pages s (popped ++ net ∷ []) new)
  pops None items = tt
  pops (Some net) items = moved (popped ++ net ∷ []) (stands.ledger.nets ∙ ap (λ l. popped ++ l) items ∙ sym (append_assoc popped (net ∷ []) new.ledger.waiting.items))

  -- all are let go
  pub forgotten : new.ledger.waiting.items ≡ [] → StandsFor pages s s.nets new
  forgotten none = moved s.nets (sym (append-nil s.nets) ∙ ap (λ l. s.nets ++ l) (sym none))

pub none_popped : (r : Option (List Write)) (old new : List (List Write)) → old ≡ option_to_list r ++ new → old ≡ [] → r ≡ None
none_popped None old new items empty = refl
none_popped (Some net) old new items empty = let wrong : net ∷ new ≡ [] = sym items ∙ empty in cc
