-- Pages are staged, then a group is appended.
use Rattle.image_meaning.proofs.Names.{◌≡◌, ◌⊎◌, inl, inr, ℕ, ◌+◌, ◌-◌, ◌*◌, ◌<◌, List, [], ◌∷◌, ◌++◌, length, take, drop, Option, Some, None, sym, ap, subst, ◌∙◌, arith, get_or_default, same_Some, Contains, slice_index, Master, page_on, changes_of_push, LeavesPush, frames_on, disk_on, last_of_both, Frame, IsGroup, frames_of, last_frame, Change, RewritesPages, AppendsGroup, ReadsAs, Rewrites, Makes, Reaches, IsFrontOf, Groups, Segments, group_shape, segment_shape, front_on, rest_on, MayStage, MayAppend, logical_image_under, IsSoundUnder, version_in, Replaces, LogicalImage, Means, LogRecord, Content, Units, hi_of, Image, Snapshot, State, Geometry}
use Rattle.frame_group.specs.Laws.{IsStaged}
use Rattle.stage_out.specs.Staged.{HasStaged, changes_of}
use Rattle.image_meaning.specs.PushLaws.{MayPushGroup}
use Rattle.image_meaning.proofs.UnchangedImages.{same_is_sound, same_means, same_logical_image}
use Rattle.image_meaning.proofs.Stages.{sound_staged, means_staged, page_kept, same_versions}
use Rattle.image_meaning.proofs.Appends.{pushed_is_sound, pushed_means, frames_before}
pub use Rattle.image_changes.proofs.Sequence.{reaches_parts}

-- what staging makes of an image, whatever pages there are
rewritten : (g : Geometry) (pages : List ℕ) (a b : Image) → Reaches g (changes_of pages) a b → Rewrites g pages a b
rewritten g [] a b reads = grind arith
rewritten g (page ∷ pages) a b reached = grind arith

one_front : {X : Type 0} (x y : X) (ys left : List X) → x ∷ [] ≡ (y ∷ ys) ++ left → y ∷ ys ≡ x ∷ []
one_front x y [] left same = sym (ap (take 1) same)
one_front x y (z ∷ ys) left same = let long = ap length same in absurd (omega (arith, long))

-- the first ones of its changes: none, or all
front_cases : (g : Geometry) (pages : List ℕ) (changes : List Change) (a b : Image) → IsFrontOf (changes_of pages) changes → Reaches g changes a b → ReadsAs g a b ⊎ Rewrites g pages a b
front_cases g pages [] a b front reads = inl reads
front_cases g [] (change ∷ changes) a b front reached = let long = ap length front.1 in absurd (omega (arith, long))
front_cases g (page ∷ pages) (change ∷ changes) a b front reached =
    inr (rewritten g (page ∷ pages) a b (subst (λ (l : List Change). Reaches g l a b) (one_front (RewritesPages (page ∷ pages)) change changes front.0 front.1) reached))

module _ (newest : Option Master) (g : Geometry) (pages : List ℕ) (contents : List (List ℕ)) (group : List ℕ) (frames : List Frame) (old new : Image)
    (blocks : List (List LogRecord)) (sound : IsSoundUnder newest g old blocks) (is_group : IsGroup group frames) (may : MayPushGroup newest g old blocks pages contents frames) where
  page_at : (number : ℕ) (listed : Contains pages number) → slice_index pages listed.0 ≡ number
  page_at number listed = get_or_default pages listed.0 0 number listed.1 ∙ listed.2

  -- each staged page has a valid dirty frame
  may_stage : MayStage g old pages
  may_stage number listed =
      let s = may.staged listed.0 listed.1 in
      (s.frame, ap (λ (n : ℕ). last_frame n (frames_on g old)) (sym (page_at number listed)) ∙ s.last, s.dirty)

  -- while pages are staged
  sound_before : Rewrites g pages old new → IsSoundUnder newest g new blocks
  sound_before made = sound_staged newest g old new blocks pages sound may_stage made

  part_sound : ReadsAs g old new ⊎ Rewrites g pages old new → IsSoundUnder newest g new blocks
  part_sound (inl reads) = same_is_sound newest g old new blocks sound reads
  part_sound (inr made) = sound_before made

  part_means : ReadsAs g old new ⊎ Rewrites g pages old new → (table : List Content) (count : ℕ) → Means (logical_image_under newest g old blocks) table count → Means (logical_image_under newest g new blocks) table count
  part_means (inl reads) table count means = same_means newest g old new blocks reads table count means
  part_means (inr made) table count means = means_staged newest g old new blocks pages sound may_stage made table count means

  -- Once they are staged, the group is appended.
  module _ (mid : Image) (made : Rewrites g pages old mid) (disk : new.disk ≡ mid.disk) (staged : HasStaged pages contents old.disk new.disk) where
    sound_mid : IsSoundUnder newest g mid blocks
    sound_mid = sound_staged newest g old mid blocks pages sound may_stage made

    page_staged : (number : ℕ) (frame : Frame) → Contains pages number → last_frame number (frames_on g old) ≡ Some frame → disk_on mid number ≡ frame.octets
    page_staged number frame listed last =
        let s = may.staged listed.0 listed.1 in
        let at = page_at number listed in
        let same : s.frame ≡ frame = same_Some s.frame frame (sym s.last ∙ ap (λ (n : ℕ). last_frame n (frames_on g old)) at ∙ last) in
        ap (page_on number) (sym disk) ∙ ap (λ (n : ℕ). page_on n new.disk) (sym at) ∙ staged.here listed.0 listed.1 ∙ s.same ∙ ap (λ (f : Frame). f.octets) same

    last_in_front : (number : ℕ) (frame : Frame) → last_frame number (rest_on g old) ≡ None → last_frame number (front_on g old) ≡ Some frame → last_frame number (frames_on g old) ≡ Some frame
    last_in_front number frame none some = grind (arith, frames_before, last_of_both)

    front_staged : (number : ℕ) → last_frame number frames ≡ None → IsStaged (disk_on mid) (front_on g old) (rest_on g old) number
    front_staged number absent frame none some dirty = page_staged number frame (may.left number frame absent none some dirty) (last_in_front number frame none some)

    pub may_append : MayAppend newest g mid blocks frames
    may_append = record {
      none_due = subst (λ (h : ℕ). h < 4 * hi_of (segment_shape g) mid.flash + 4) (sym (ap (λ (u : Units). u.hi) (made.rings Groups).units))
          (subst (λ (k : ℕ). hi_of (group_shape g) old.flash < 4 * k + 4) (sym (ap (λ (u : Units). u.hi) (made.rings Segments).units)) may.none_due);
      are_frames = may.are_frames;
      pushed = record {
        clean = λ number frame last not_dirty.
            may.clean number frame last not_dirty
            ∙ sym (page_kept newest g old mid blocks pages sound may_stage made number (may.apart number frame last not_dirty));
        staged = λ number absent.
            subst (λ (u : Units). IsStaged (disk_on mid) (frames_of (take (length u.live + 1 - (g.groups - 1)) u.live)) (frames_of (drop (length u.live + 1 - (g.groups - 1)) u.live)) number)
            (sym (made.rings Groups).units) (front_staged number absent);
      };
      replace = λ number frame last.
          subst (λ (p : LogicalImage). Replaces p number (version_in frame.octets))
          (sym (same_logical_image newest g old mid blocks (same_versions newest g old mid blocks pages sound may_stage made))) (may.replace number frame last);
    }

    module _ (after : Image) (appended : Makes g (AppendsGroup group) mid after) (reads : ReadsAs g after new) where
      pub all_sound : IsSoundUnder newest g new blocks
      all_sound = same_is_sound newest g after new blocks (pushed_is_sound newest g mid after blocks group frames sound_mid is_group may_append appended) reads

      pub all_means : (table : List Content) (count : ℕ) → Means (logical_image_under newest g old blocks) table count → Means (logical_image_under newest g new blocks) table count
      all_means table count means =
          same_means newest g after new blocks reads table count
          (pushed_means newest g mid after blocks group frames sound_mid is_group may_append appended table count
          (means_staged newest g old mid blocks pages sound may_stage made table count means))

-- Whatever a crash leaves of it is sound,
pub push_keeps_sound : (newest : Option Master) (g : Geometry) (pages : List ℕ) (contents : List (List ℕ)) (group : List ℕ) (frames : List Frame) (old : State) (snapshot : Snapshot) (blocks : List (List LogRecord)) → IsSoundUnder newest g old.image blocks → IsGroup group frames → MayPushGroup newest g old.image blocks pages contents frames → LeavesPush g pages contents group old snapshot → IsSoundUnder newest g snapshot.image blocks
push_keeps_sound newest g pages contents group frames old snapshot blocks sound is_group may leaves = by leaves.either
  where
    by : ((changes : List Change) × IsFrontOf (changes_of pages) changes × Reaches g changes old.image snapshot.image)
        ⊎ (HasStaged pages contents old.image.disk snapshot.image.disk × Reaches g (changes_of_push pages group) old.image snapshot.image) → IsSoundUnder newest g snapshot.image blocks
    by (inl part) = part_sound newest g pages contents group frames old.image snapshot.image blocks sound is_group may (front_cases g pages part.0 old.image snapshot.image part.1 part.2)
    by (inr whole) =
        let parts = reaches_parts g (changes_of pages) (AppendsGroup group ∷ []) old.image snapshot.image whole.1 in
        let last = parts.2 in
        all_sound newest g pages contents group frames old.image snapshot.image blocks sound is_group may parts.0 (rewritten g pages old.image parts.0 parts.1)
        (last.2.disk ∙ last.1.disk) whole.0 last.0 last.1 last.2

-- and stands for the same.
pub push_keeps_meaning : (newest : Option Master) (g : Geometry) (pages : List ℕ) (contents : List (List ℕ)) (group : List ℕ) (frames : List Frame) (old : State) (snapshot : Snapshot) (blocks : List (List LogRecord)) → IsSoundUnder newest g old.image blocks → IsGroup group frames → MayPushGroup newest g old.image blocks pages contents frames → LeavesPush g pages contents group old snapshot → (table : List Content) (count : ℕ) → Means (logical_image_under newest g old.image blocks) table count → Means (logical_image_under newest g snapshot.image blocks) table count
push_keeps_meaning newest g pages contents group frames old snapshot blocks sound is_group may leaves = by leaves.either
  where
    by : ((changes : List Change) × IsFrontOf (changes_of pages) changes × Reaches g changes old.image snapshot.image)
        ⊎ (HasStaged pages contents old.image.disk snapshot.image.disk × Reaches g (changes_of_push pages group) old.image snapshot.image) →
        (table : List Content) (count : ℕ) → Means (logical_image_under newest g old.image blocks) table count → Means (logical_image_under newest g snapshot.image blocks) table count
    by (inl part) = part_means newest g pages contents group frames old.image snapshot.image blocks sound is_group may (front_cases g pages part.0 old.image snapshot.image part.1 part.2)
    by (inr whole) =
        let parts = reaches_parts g (changes_of pages) (AppendsGroup group ∷ []) old.image snapshot.image whole.1 in
        let last = parts.2 in
        all_means newest g pages contents group frames old.image snapshot.image blocks sound is_group may parts.0 (rewritten g pages old.image parts.0 parts.1)
        (last.2.disk ∙ last.1.disk) whole.0 last.0 last.1 last.2
