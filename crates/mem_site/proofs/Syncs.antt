-- A sync of a site in memory is a sync of a site.
use Rattle.std.proofs.Common.{◌≡◌, inl, inr, ℕ, List, [], ◌∷◌, ◌++◌, sym, ◌∙◌, ap, Vec, Global, Result, Ok, Err, OnOk, OnErr}
use Rattle.site.specs.declared.outside.Dev.{Dev}
use Rattle.site.specs.declared.outside.Dev.TheVariants.{Log, Flash, Disk}
use Rattle.site.specs.declared.outside.Failed.{Failed}
use Rattle.site.specs.State.{State, Moment, Range, with_content, loose_of, with_loose, now_of}
use Rattle.site.specs.Calls.{Adds, Synced}
use Rattle.mem_site.specs.declared.change.Change.{Change}
use Rattle.mem_site.specs.declared.change.Change.TheVariants as change
use Rattle.mem_site.specs.declared.change.Span.{Span}
use Rattle.mem_site.specs.declared.area.Area.{Area}
use Rattle.mem_site.specs.History.{moments_of, ranges_of}
use Rattle.mem_site.specs.Area.{Settled, Kept}
use Rattle.mem_site.proofs.Past.{moments_grow}
use Rattle.mem_site.proofs.Writes.{Moved, same_moment, with_content_same, stays}

-- the moment after a sync
abbrev pub settled : Dev → State → Moment
settled dev s = record { told = s.told; telling = []; image = s.image; loose = with_loose dev [] s.loose }

-- the history takes the sync back
pub sync_grows : (dev : Dev) (s : State) (v : Vec Span Global) (h : List Change) → ranges_of v.items ≡ loose_of dev s.loose
    → moments_of (settled dev s) (h ++ change.Synced dev v ∷ []) ≡ moments_of (now_of s) h ++ now_of s ∷ []
sync_grows Log s v h is =
    let back = ap (λ (r : List Range). let m : Moment = record { told = s.told; telling = []; image = s.image; loose = with_loose Log r s.loose } in m) is in
    moments_grow (now_of s) (settled Log s) (now_of s) h (change.Synced Log v) back back
sync_grows Flash s v h is =
    let back = ap (λ (r : List Range). let m : Moment = record { told = s.told; telling = []; image = s.image; loose = with_loose Flash r s.loose } in m) is in
    moments_grow (now_of s) (settled Flash s) (now_of s) h (change.Synced Flash v) back back
sync_grows Disk s v h is =
    let back = ap (λ (r : List Range). let m : Moment = record { told = s.told; telling = []; image = s.image; loose = with_loose Disk r s.loose } in m) is in
    moments_grow (now_of s) (settled Disk s) (now_of s) h (change.Synced Disk v) back back

module _ (dev : Dev) (old new : State) (before now : Area) (h h' : List Change) (moved : Moved dev old new before now h h') where
  pub synced : (result : Result (Unit {0}) Failed) → OnOk result (Settled dev before now h h') → OnErr result (Kept before now h h') → Synced dev old new result
  synced (Ok x) settles none =
      let i : new.image ≡ old.image = moved.image ∙ ap (λ (c : List ℕ). with_content dev c old.image) (settles.content ∙ sym moved.content) ∙ with_content_same dev old.image in
      let l : new.loose ≡ with_loose dev [] old.loose = moved.loose ∙ ap (λ (r : List Range). with_loose dev r old.loose) (ap ranges_of settles.loose) in
      let grown : Adds (now_of old) old new =
      moved.past'
      ∙ ap (moments_of (now_of new)) settles.had.2
      ∙ ap (λ (m : Moment). moments_of m (h ++ change.Synced dev settles.had.0 ∷ [])) (same_moment _ _ _ _ _ _ moved.told i l)
      ∙ sync_grows dev old settles.had.0 h (ap ranges_of settles.had.1 ∙ sym moved.ranges)
      ∙ ap (λ (ms : List Moment). ms ++ now_of old ∷ []) (sym moved.past) in
      record { settled = l; failed = tt; image = i; told = moved.told; left = moved.left; past = inl grown; past_ok = grown }
  synced (Err e) none kept =
      let s = stays dev 0 [] old new before now h h' moved kept in
      record { settled = tt; failed = s.loose; image = s.image; told = moved.told; left = moved.left; past = inr s; past_ok = tt }
