-- A write to a site in memory is a write to a site.
use Rattle.std.proofs.Common.{◌≡◌, ◌⊎◌, inl, inr, ℕ, ◌+◌, ◌≤◌, List, [], ◌∷◌, ◌++◌, length, take, drop, refl, sym, ◌∙◌, ap, subst, Vec, Global, Result, Ok, Err, OnOk, OnErr}
use Rattle.site.specs.declared.outside.Dev.{Dev}
use Rattle.site.specs.declared.outside.Dev.TheVariants.{Log, Flash, Disk}
use Rattle.site.specs.declared.outside.Failed.{Failed}
use Rattle.site.specs.State.{State, Moment, Image, Loose, Range, content_of, with_content, loose_of, with_loose, now_of}
use Rattle.site.specs.Calls.{put, range, within_write, Adds, Lies, Stays, Wrote}
use Rattle.mem_site.specs.declared.change.Change.{Change}
use Rattle.mem_site.specs.declared.change.Change.TheVariants as change
use Rattle.mem_site.specs.declared.area.Area.{Area}
use Rattle.mem_site.specs.History.{moments_of, ranges_of}
use Rattle.mem_site.specs.Area.{Laid, Kept}
use Rattle.mem_site.proofs.Past.{moments_grow, put_back}

-- Of a site with areas and a history: only this device may have changed, besides the history and counts.
pub record Moved (dev : Dev) (old new : State) (before now : Area) (history history' : List Change) : Type 0 where
  pub content : content_of dev old.image ≡ before.content.items
  pub ranges : loose_of dev old.loose ≡ ranges_of before.loose.items
  pub image : new.image ≡ with_content dev now.content.items old.image
  pub loose : new.loose ≡ with_loose dev (ranges_of now.loose.items) old.loose
  pub told : new.told ≡ old.told
  pub left : new.input ≡ old.input
  pub past : old.past ≡ moments_of (now_of old) history
  pub past' : new.past ≡ moments_of (now_of new) history'

-- the same of a device that is this one
pub moved_as : {dev d : Dev} {old new : State} {before now : Area} {h h' : List Change} → dev ≡ d → Moved d old new before now h h' → Moved dev old new before now h h'
moved_as {old} {new} {before} {now} {h} {h'} is moved = subst (λ (x : Dev). Moved x old new before now h h') (sym is) moved

pub with_content_same : (dev : Dev) (image : Image) → with_content dev (content_of dev image) image ≡ image
with_content_same Log image = refl
with_content_same Flash image = refl
with_content_same Disk image = refl

pub with_loose_same : (dev : Dev) (loose : Loose) → with_loose dev (loose_of dev loose) loose ≡ loose
with_loose_same Log loose = refl
with_loose_same Flash loose = refl
with_loose_same Disk loose = refl

-- the moment after a write
abbrev pub written : Dev → ℕ → List ℕ → State → Moment
written dev at bytes s = record {
  told = s.told;
  telling = [];
  image = with_content dev (put (content_of dev s.image) at bytes) s.image;
  loose = with_loose dev (range at (length bytes) ∷ loose_of dev s.loose) s.loose;
}

pub same_moment : (told told' : List ℕ) (image image' : Image) (loose loose' : Loose) → told ≡ told' → image ≡ image' → loose ≡ loose'
    → let m : Moment = record { told = told; telling = []; image = image; loose = loose } in let n : Moment = record { told = told'; telling = []; image = image'; loose = loose' } in m ≡ n
same_moment told told' image image' loose loose' t i l = cc

-- the history takes the write back
pub write_grows : (dev : Dev) (at : ℕ) (bytes : List ℕ) (s : State) (v : Vec ℕ Global) (h : List Change) → at + length bytes ≤ length (content_of dev s.image)
    → v.items ≡ take (length bytes) (drop at (content_of dev s.image))
    → moments_of (written dev at bytes s) (h ++ change.Wrote dev at v ∷ []) ≡ moments_of (now_of s) h ++ within_write dev at (length bytes) s ∷ []
write_grows Log at bytes s v h fits is =
    let back = put_back at bytes v.items s.image.log fits is in
    moments_grow (now_of s) (written Log at bytes s) (within_write Log at (length bytes) s) h (change.Wrote Log at v)
    (ap (λ (c : List ℕ). let m : Moment = record { told = s.told; telling = []; image = with_content Log c s.image; loose = s.loose } in m) back)
    (ap (λ (c : List ℕ). let m : Moment = record { told = s.told; telling = []; image = with_content Log c s.image; loose = with_loose Log (range at (length bytes) ∷ s.loose.log) s.loose } in m) back)
write_grows Flash at bytes s v h fits is =
    let back = put_back at bytes v.items s.image.flash fits is in
    moments_grow (now_of s) (written Flash at bytes s) (within_write Flash at (length bytes) s) h (change.Wrote Flash at v)
    (ap (λ (c : List ℕ). let m : Moment = record { told = s.told; telling = []; image = with_content Flash c s.image; loose = s.loose } in m) back)
    (ap (λ (c : List ℕ). let m : Moment = record { told = s.told; telling = []; image = with_content Flash c s.image; loose = with_loose Flash (range at (length bytes) ∷ s.loose.flash) s.loose } in m) back)
write_grows Disk at bytes s v h fits is =
    let back = put_back at bytes v.items s.image.disk fits is in
    moments_grow (now_of s) (written Disk at bytes s) (within_write Disk at (length bytes) s) h (change.Wrote Disk at v)
    (ap (λ (c : List ℕ). let m : Moment = record { told = s.told; telling = []; image = with_content Disk c s.image; loose = s.loose } in m) back)
    (ap (λ (c : List ℕ). let m : Moment = record { told = s.told; telling = []; image = with_content Disk c s.image; loose = with_loose Disk (range at (length bytes) ∷ s.loose.disk) s.loose } in m) back)

module _ (dev : Dev) (at : ℕ) (bytes : List ℕ) (old new : State) (before now : Area) (h h' : List Change) (moved : Moved dev old new before now h h') where
  lies : Laid dev at bytes before now h h' → Lies dev at bytes old new
  lies laid = record {
    image = moved.image ∙ ap (λ (c : List ℕ). with_content dev c old.image) (laid.content ∙ ap (λ (c : List ℕ). put c at bytes) (sym moved.content));
    loose = moved.loose ∙ ap (λ (r : List Range). with_loose dev r old.loose) (laid.loose ∙ ap (λ (r : List Range). range at (length bytes) ∷ r) (sym moved.ranges));
  }

  adds : at + length bytes ≤ length (content_of dev old.image) → Laid dev at bytes before now h h' → Adds (within_write dev at (length bytes) old) old new
  adds fits laid =
      let there = lies laid in
      moved.past'
      ∙ ap (moments_of (now_of new)) laid.had.2
      ∙ ap (λ (m : Moment). moments_of m (h ++ change.Wrote dev at laid.had.0 ∷ [])) (same_moment _ _ _ _ _ _ moved.told there.image there.loose)
      ∙ write_grows dev at bytes old laid.had.0 h fits (laid.had.1 ∙ ap (λ (c : List ℕ). take (length bytes) (drop at c)) (sym moved.content))
      ∙ ap (λ (ms : List Moment). ms ++ within_write dev at (length bytes) old ∷ []) (sym moved.past)

  pub stays : Kept before now h h' → Stays old new
  stays kept =
      let i : new.image ≡ old.image = moved.image ∙ ap (λ (c : List ℕ). with_content dev c old.image) (kept.content ∙ sym moved.content) ∙ with_content_same dev old.image in
      let l : new.loose ≡ old.loose = moved.loose ∙ ap (λ (r : List Range). with_loose dev r old.loose) (ap ranges_of kept.loose ∙ sym moved.ranges) ∙ with_loose_same dev old.loose in
      record {
        image = i;
        loose = l;
        told = moved.told;
        past = moved.past' ∙ ap (moments_of (now_of new)) kept.history ∙ ap (λ (m : Moment). moments_of m h) (same_moment _ _ _ _ _ _ moved.told i l) ∙ sym moved.past;
      }

  pub wrote : (result : Result (Unit {0}) Failed) → at + length bytes ≤ length (content_of dev old.image)
      → OnOk result (Laid dev at bytes before now h h') → OnErr result (Kept before now h h' ⊎ Laid dev at bytes before now h h') → Wrote dev at bytes old new result
  wrote (Ok x) fits laid none = record {
    written = lies laid;
    failed = tt;
    told = moved.told;
    left = moved.left;
    past = inl (adds fits laid);
    past_ok = adds fits laid;
  }
  wrote (Err e) fits none (inl kept) = record {
    written = tt;
    failed = inl (stays kept);
    told = moved.told;
    left = moved.left;
    past = inr (stays kept);
    past_ok = tt;
  }
  wrote (Err e) fits none (inr laid) = record {
    written = tt;
    failed = inr (bytes, refl, lies laid);
    told = moved.told;
    left = moved.left;
    past = inl (adds fits laid);
    past_ok = tt;
  }
