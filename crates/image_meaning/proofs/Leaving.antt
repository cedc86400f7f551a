-- What a crash leaves of calls that change images.
use Rattle.image_meaning.proofs.Names.{◌≡◌, ◌⊎◌, inl, inr, ℕ, ◌+◌, List, [], ◌∷◌, ◌++◌, length, take, drop, Option, refl, sym, ap, subst, ◌∙◌, arith, append_assoc, AllByRecursion, Master, LeavesPush, Change, SealsBlock, RewritesPages, AppendsGroup, AppendsSegment, AppendsMaster, ReadsAs, Reaches, IsReached, IsFrontOf, Groups, MayMakeAll, SealsNoCommit, SavesNoMaster, newest_after, blocks_after, newest_after_all, blocks_after_all, next_block_lsn, kept_by, logical_image_under, IsSoundUnder, StandsUnder, LeavesTableUnder, LeavesEitherUnder, LeavesFor, LeavesEitherFor, FrontStandsFor, FrontStands, PushStands, CommitStands, writes_in, Entry, log_from, entries_from, LogicalImage, Means, commit_numbers, LogRecord, Content, table_with, leaves_weaker, LeavesOnly, State, Image, Snapshot, Geometry, all_left}
use Rattle.log_records.specs.declared.log_record.LogRecord.TheVariants.{Commit}
use Rattle.image_changes.proofs.Sequence.{changes_add_up, reaches_parts}
use Rattle.image_meaning.proofs.Versions.{versions_same, version_stays}
use Rattle.image_meaning.proofs.UnchangedImages.{same_is_sound, same_means, same_logical_image}
use Rattle.image_meaning.proofs.Seals.{sealed_image_is_sound, sealed_with_commit}
use Rattle.image_meaning.proofs.Making.{change_keeps_sound, front_keeps_sound, front_keeps_meaning}
use Rattle.image_meaning.proofs.WholePushes.{push_keeps_sound, push_keeps_meaning}

-- changes that append no master unit leave the newest one
pub no_master : (newest : Option Master) (changes : List Change) → AllByRecursion SavesNoMaster changes → newest_after_all newest changes ≡ newest
no_master newest [] none = refl
no_master newest (SealsBlock records ∷ changes) none = no_master newest changes none.1
no_master newest (RewritesPages pages ∷ changes) none = no_master newest changes none.1
no_master newest (AppendsGroup content ∷ changes) none = no_master newest changes none.1
no_master newest (AppendsSegment content ∷ changes) none = no_master newest changes none.1
no_master newest (AppendsMaster content ∷ changes) none = absurd none.0

-- the first ones of a list with one more at its end: first ones of the list, or all
front_more : {X : Type 0} (xs : List X) (x : X) (front left : List X) → xs ++ x ∷ [] ≡ front ++ left → ((rest : List X) × (xs ≡ front ++ rest)) ⊎ (front ≡ xs ++ x ∷ [])
front_more xs x [] left same = inl (xs, refl)
front_more [] x (y ∷ front) left same = inr (one front same) where
  one : (front : List _) → x ∷ [] ≡ (y ∷ front) ++ left → y ∷ front ≡ x ∷ []
  one [] e = sym (ap (take 1) e)
  one (z ∷ front) e = let long = ap length e in absurd (omega (arith, long))
front_more (z ∷ xs) x (y ∷ front) left same =
    let first : z ≡ y = cc in
    let rest : xs ++ x ∷ [] ≡ front ++ left = ap (drop 1) same in
    elim (front_more xs x front left rest) [
      | inl part ↦ inl (part.0, λ i. first i ∷ part.1 i)
      | inr whole ↦ inr (λ i. sym first i ∷ whole i)
    ]

-- which follows where it is known
pub under_leaves_for : (newest : Option Master) (g : Geometry) (old new : State) (table : List Content) (count : ℕ) (so_far : List ℕ) → LeavesOnly old new (LeavesTableUnder newest g table count so_far) → LeavesOnly old new (LeavesFor g table count so_far)
under_leaves_for newest g old new table count so_far leaves =
    leaves_weaker old new (LeavesTableUnder newest g table count so_far) (LeavesFor g table count so_far)
    (λ snapshot is. record { told = is.told; stands = record { newest = newest; stands = is.stands } }) leaves

-- What stands under a newest master stands whatever it is.
pub under_leaves_either_for : (newest : Option Master) (g : Geometry) (old new : State) (before after : List Content) (count : ℕ) (so_far : List ℕ) → LeavesOnly old new (LeavesEitherUnder newest g before after count so_far) → LeavesOnly old new (LeavesEitherFor g before after count so_far)
under_leaves_either_for newest g old new before after count so_far leaves =
    leaves_weaker old new (LeavesEitherUnder newest g before after count so_far) (LeavesEitherFor g before after count so_far) (λ snapshot is. record {
      told = is.told;
      stands = elim is.stands [
        | inl first ↦ inl (record { newest = newest; stands = first })
        | inr then ↦ inr (record { newest = newest; stands = then })
      ];
    }) leaves

-- a push
pub push_stands : PushStands
push_stands newest g old new blocks pages contents group frames table count sound means is_group may leaves =
    leaves_weaker old new (LeavesPush g pages contents group old) (LeavesTableUnder newest g table count old.told) (λ snapshot is. record {
      told = is.told;
      stands = record {
        blocks = blocks;
        sound = push_keeps_sound newest g pages contents group frames old snapshot blocks sound is_group may is;
        means = push_keeps_meaning newest g pages contents group frames old snapshot blocks sound is_group may is table count means;
      };
    }) leaves

-- an image that is reached by the first ones
stands_front : (newest : Option Master) (g : Geometry) (old new : Image) (blocks : List (List LogRecord)) (front left : List Change) (table : List Content) (count : ℕ) → IsSoundUnder newest g old blocks → Means (logical_image_under newest g old blocks) table count → MayMakeAll newest g old blocks (front ++ left) → AllByRecursion SealsNoCommit front → Reaches g front old new → StandsUnder (newest_after_all newest front) g new table count
stands_front newest g old new blocks front left table count sound means may none reached = record {
  blocks = blocks_after_all newest blocks front;
  sound = front_keeps_sound newest g old new blocks front left sound may reached;
  means = front_keeps_meaning newest g old new blocks front left sound may none reached table count means;
}

-- a snapshot that the first ones of the changes have led to
stands_reached : (newest : Option Master) (g : Geometry) (old : State) (blocks : List (List LogRecord)) (changes : List Change) (table : List Content) (count : ℕ) → IsSoundUnder newest g old.image blocks → Means (logical_image_under newest g old.image blocks) table count → MayMakeAll newest g old.image blocks changes → AllByRecursion SealsNoCommit changes → (snapshot : Snapshot) (is : IsReached g (IsFrontOf changes) old snapshot) → StandsUnder (newest_after_all newest is.changes) g snapshot.image table count
stands_reached newest g old blocks changes table count sound means may none snapshot is = grind (arith, stands_front, all_left)

pub front_stands_for : FrontStandsFor
front_stands_for newest g old new blocks changes table count sound means may none leaves =
    leaves_weaker old new (IsReached g (IsFrontOf changes) old) (LeavesFor g table count old.told) (λ snapshot is. record {
      told = is.told;
      stands = record { newest = newest_after_all newest is.changes; stands = stands_reached newest g old blocks changes table count sound means may none snapshot is };
    }) leaves

pub front_stands : FrontStands
front_stands newest g old new blocks changes table count sound means may none kept leaves =
    leaves_weaker old new (IsReached g (IsFrontOf changes) old) (LeavesTableUnder newest g table count old.told) (λ snapshot is. record {
      told = is.told;
      stands = subst (λ (n : Option Master). StandsUnder n g snapshot.image table count) (no_master newest is.changes (all_left SavesNoMaster is.changes is.made.0 (subst (AllByRecursion SavesNoMaster) is.made.1 kept)))
          (stands_reached newest g old blocks changes table count sound means may none snapshot is);
    }) leaves

-- once the first of two lists is made, the second may be, on an image that reads as the one that was reached
may_later : (newest : Option Master) (g : Geometry) (old mid : Image) (blocks : List (List LogRecord)) (first second : List Change) → MayMakeAll newest g old blocks (first ++ second) → Reaches g first old mid → IsSoundUnder newest g old blocks → (end : Image) × MayMakeAll (newest_after_all newest first) g end (blocks_after_all newest blocks first) second × IsSoundUnder (newest_after_all newest first) g end (blocks_after_all newest blocks first) × ReadsAs g end mid
may_later newest g old mid blocks [] second may reads sound = (old, may, sound, reads)
may_later newest g old mid blocks (change ∷ first) second may reached sound =
    may_later (newest_after newest change) g reached.0 mid (blocks_after newest blocks change) first second (may.1 reached.0 reached.1) reached.2 (change_keeps_sound newest g old reached.0 blocks change sound may.0 reached.1)

-- what all changes leave, the last of which seals a Commit
stands_after : (newest : Option Master) (g : Geometry) (old new : Image) (blocks : List (List LogRecord)) (changes : List Change) (records : List LogRecord) (table : List Content) (count : ℕ) (before after : List Entry) (lsn t number : ℕ) → IsSoundUnder newest g old blocks → Means (logical_image_under newest g old blocks) table count → MayMakeAll newest g old blocks (changes ++ SealsBlock records ∷ []) → AllByRecursion SealsNoCommit changes → entries_from (next_block_lsn (newest_after_all newest changes) (blocks_after_all newest blocks changes)) records ≡ before ++ record { lsn = lsn; rec = Commit t number } ∷ after → commit_numbers before ≡ [] → commit_numbers after ≡ [] → Reaches g (changes ++ SealsBlock records ∷ []) old new → StandsUnder (newest_after_all newest changes) g new (table_with table (writes_in t (log_from (kept_by (newest_after_all newest changes)) (blocks_after_all newest blocks changes) ++ before))) (count + 1)
stands_after newest g old new blocks changes records table count before after lsn t number sound means may none parts first last reached =
    let halves = reaches_parts g changes (SealsBlock records ∷ []) old new reached in
    let n = newest_after_all newest changes in
    let all = blocks_after_all newest blocks changes in
    let later = may_later newest g old halves.0 blocks changes (SealsBlock records ∷ []) may halves.1 sound in
    let seal = changes_add_up g [] (SealsBlock records ∷ []) later.0 halves.0 new later.3 halves.2 in
    let same = versions_same g later.0 halves.0 (version_stays g later.0 halves.0 (later.3.rings Groups) later.3.disk) in
    let means_there : Means (logical_image_under n g later.0 all) table count =
    subst (λ (p : LogicalImage). Means p table count) (same_logical_image n g later.0 halves.0 all same)
    (front_keeps_meaning newest g old halves.0 blocks changes (SealsBlock records ∷ []) sound may none halves.1 table count means) in
    record {
      blocks = all ++ records ∷ [];
      sound = same_is_sound n g seal.0 new (all ++ records ∷ []) (sealed_image_is_sound n g later.0 seal.0 all records later.2 later.1.0 seal.1) seal.2;
      means = same_means n g seal.0 new (all ++ records ∷ []) seal.2 (table_with table (writes_in t (log_from (kept_by n) all ++ before))) (count + 1)
          (sealed_with_commit n g later.0 seal.0 all records later.2 later.1.0 seal.1 before after lsn t number parts first last table count means_there);
    }

-- they append no master unit
stands_committed : (newest : Option Master) (g : Geometry) (old new : Image) (blocks : List (List LogRecord)) (changes : List Change) (records : List LogRecord) (table : List Content) (count : ℕ) (before after : List Entry) (lsn t number : ℕ) → IsSoundUnder newest g old blocks → Means (logical_image_under newest g old blocks) table count → MayMakeAll newest g old blocks (changes ++ SealsBlock records ∷ []) → AllByRecursion SealsNoCommit changes → AllByRecursion SavesNoMaster changes → entries_from (next_block_lsn newest (blocks_after_all newest blocks changes)) records ≡ before ++ record { lsn = lsn; rec = Commit t number } ∷ after → commit_numbers before ≡ [] → commit_numbers after ≡ [] → Reaches g (changes ++ SealsBlock records ∷ []) old new → StandsUnder newest g new (table_with table (writes_in t (log_from (kept_by newest) (blocks_after_all newest blocks changes) ++ before))) (count + 1)
stands_committed newest g old new blocks changes records table count before after lsn t number sound means may none kept parts first last reached =
    let all = blocks_after_all newest blocks changes in
    subst (λ (n : Option Master). entries_from (next_block_lsn n all) records ≡ before ++ record { lsn = lsn; rec = Commit t number } ∷ after →
    StandsUnder n g new (table_with table (writes_in t (log_from (kept_by n) all ++ before))) (count + 1)) (no_master newest changes kept)
    (λ parts. stands_after newest g old new blocks changes records table count before after lsn t number sound means may none parts first last reached) parts

pub commit_stands : CommitStands
commit_stands newest g old new blocks changes records table count before after lsn t number sound means may none kept parts first last leaves =
    leaves_weaker old new (IsReached g (IsFrontOf (changes ++ SealsBlock records ∷ [])) old)
    (LeavesEitherUnder newest g table (table_with table (writes_in t (log_from (kept_by newest) (blocks_after_all newest blocks changes) ++ before))) count old.told)
    (λ snapshot is. record {
      told = is.told;
      stands = elim (front_more changes (SealsBlock records) is.changes is.made.0 is.made.1) [
        | inl part ↦
            let split : changes ++ SealsBlock records ∷ [] ≡ is.changes ++ (part.0 ++ SealsBlock records ∷ []) = ap (λ (l : List Change). l ++ SealsBlock records ∷ []) part.1 ∙ append_assoc is.changes part.0 (SealsBlock records ∷ []) in
            inl (subst (λ (n : Option Master). StandsUnder n g snapshot.image table count) (no_master newest is.changes (all_left SavesNoMaster is.changes part.0 (subst (AllByRecursion SavesNoMaster) part.1 kept)))
            (stands_front newest g old.image snapshot.image blocks is.changes (part.0 ++ SealsBlock records ∷ []) table count sound means (subst (MayMakeAll newest g old.image blocks) split may)
            (all_left SealsNoCommit is.changes part.0 (subst (AllByRecursion SealsNoCommit) part.1 none)) is.reaches))
        | inr whole ↦ inr (stands_committed newest g old.image snapshot.image blocks changes records table count before after lsn t number sound means may none kept parts first last
            (subst (λ (l : List Change). Reaches g l old.image snapshot.image) whole is.reaches))
      ];
    }) leaves
