-- Staging, write by write.
use Rattle.std.proofs.Common.{◌≡◌, ◌≢◌, inl, inr, ℕ, ◌+◌, ◌*◌, ◌<◌, false, List, [], ◌∷◌, length, get_or, refl, sym, ◌∙◌, ap, arith}
use Rattle.std.proofs.lemmas.Bool.{cases_lt, or_from}
use Rattle.std.proofs.lemmas.List.{length-append, get_or_default}
use Rattle.std.specs.List.{All, AllPairs, Contains}
use Rattle.site.specs.declared.outside.Dev.TheVariants.{Disk}
use Rattle.site.specs.State.{State, Snapshot, Range, MayLeave, content_of, loose_of, is_loose, is_within, now_of}
use Rattle.site.specs.Calls.{range, Lies, Adds}
use Rattle.site.specs.Moments.{Leaves, LeavesOnly, ChangesOnly}
use Rattle.site.proofs.Laws.{in_sequence, leaves_weaker, no_call, within_not, changes_in_sequence}
use Rattle.disk_pages.specs.Pages.{LiesOn, page_on, with_page, within_page}
use Rattle.disk_pages.specs.Laws.{HasWritten as HasPage}
use Rattle.disk_pages.proofs.PageLaws.{page_is_written, others_stay}
use Rattle.stage_out.specs.Staged.{IsBesideAll, LeavesBeside, HasLeft, HasWritten, unsynced_in}
use Rattle.stage_out.proofs.Unsynced.{one_unsynced}

-- a page of a list is one of its pages
pub listed : (pages : List ℕ) (k : ℕ) → k < length pages → Contains pages (get_or pages k 0)
listed pages k lt = (k, lt, get_or_default pages k (get_or pages k 0) 0 lt)

-- before the first write
none_left : (pages : List ℕ) (old : State) → Leaves (LeavesBeside pages old) (now_of old)
none_left pages old snapshot left = record {
  size = (left.content Disk).size;
  beside = λ place out stable. (left.content Disk).kept place stable;
}

pub nothing_left : (pages : List ℕ) (old : State) → HasLeft pages old old
nothing_left pages old = record {
  any_moment = no_call old (Leaves (LeavesBeside pages old)) (none_left pages old);
  changes = record { only = no_call old _ (record { told = refl; telling = refl; content = λ d ne. refl; loose = λ d ne. refl }); left = refl };
}

pub nothing_written : (pages : List ℕ) (contents : List (List ℕ)) (old : State) → HasWritten pages contents 0 old old
nothing_written pages contents old = record {
  size = refl;
  here = λ k lt. absurd (omega (arith, lt));
  beside = λ place out. refl;
  loose = λ place out stable. stable;
  calls = omega arith;
  unsynced = omega arith;
  lies_loose = λ some. absurd (omega (arith, some));
}

module _ (pages : List ℕ) (contents : List (List ℕ)) (n : ℕ) (old mid new : State) (few : n < length pages) (so_far : HasWritten pages contents n old mid) where
  abbrev page : ℕ
  page = get_or pages n 0

  abbrev bytes : List ℕ
  bytes = get_or contents n []

  -- beside all pages, what was stable is stable within the write too
  within : (place : ℕ) → IsBesideAll pages place → is_loose old.loose.disk place ≡ false → is_loose (range (4096 * page) 4096 ∷ mid.loose.disk) place ≡ false
  within place out stable = or_from (is_within (range (4096 * page) 4096) place) _ (within_not (4096 * page) 4096 place (out page (listed pages n few))) (so_far.loose place out stable)

  one_left : (s : Snapshot) → MayLeave (within_page page mid) s → LeavesBeside pages old s
  one_left s may = record {
    size = (may.content Disk).size ∙ so_far.size;
    beside = λ place out stable. (may.content Disk).kept place (within place out stable) ∙ so_far.beside place out;
  }

  pub write_leaves : HasLeft pages old mid → ChangesOnly Disk mid new → LeavesOnly mid new (MayLeave (within_page page mid)) → HasLeft pages old new
  write_leaves left changes moments = record {
    any_moment = in_sequence old mid new (Leaves (LeavesBeside pages old)) left.any_moment (leaves_weaker mid new (MayLeave (within_page page mid)) (LeavesBeside pages old) one_left moments);
    changes = changes_in_sequence Disk old mid new left.changes changes;
  }

  pub write_done : AllPairs (λ a b. a ≢ b) pages → All (λ p. LiesOn p old.image.disk) pages → length bytes ≡ 4096 → Lies Disk (4096 * page) bytes mid new → Adds (within_page page mid) mid new → HasWritten pages contents (n + 1) old new
  write_done once lie long lies adds = record {
    size = size;
    here = λ k lt. elim (cases_lt k n) [ inl earlier ↦ stays k earlier | inr from ↦ own k (omega (arith, lt, from)) ];
    beside = λ place out. ap (λ (c : List ℕ). get_or c place 0) disk ∙ page_written.beside place (out page (listed pages n few)) ∙ so_far.beside place out;
    loose = λ place out stable. ap (λ (rs : List Range). is_loose rs place) loose ∙ within place out stable;
    calls = ap length adds ∙ length-append mid.past (within_page page mid ∷ []) ∙ omega (arith, so_far.calls);
    unsynced = ap unsynced_in adds ∙ one_unsynced mid.past (within_page page mid) refl (omega arith) ∙ omega (arith, so_far.unsynced);
    lies_loose = λ some. (let more = ap length loose in omega (arith, more));
  }
    where
      disk : new.image.disk ≡ with_page page bytes mid.image.disk
      disk = ap (content_of Disk) lies.image

      loose : new.loose.disk ≡ range (4096 * page) 4096 ∷ mid.loose.disk
      loose = ap (loose_of Disk) lies.loose ∙ ap (λ (k : ℕ). range (4096 * page) k ∷ mid.loose.disk) long

      lies_mid : (k : ℕ) → k < length pages → LiesOn (get_or pages k 0) mid.image.disk
      lies_mid k lt = let there = lie k 0 lt in omega (arith, there, so_far.size)

      page_written : HasPage page bytes mid.image.disk (with_page page bytes mid.image.disk)
      page_written = page_is_written page bytes mid.image.disk (lies_mid n few) long

      size : length new.image.disk ≡ length old.image.disk
      size = ap length disk ∙ page_written.size ∙ so_far.size

      stays : (k : ℕ) → k < n → page_on (get_or pages k 0) new.image.disk ≡ get_or contents k []
      stays k lt =
          ap (page_on (get_or pages k 0)) disk
          ∙ others_stay page (get_or pages k 0) bytes mid.image.disk (with_page page bytes mid.image.disk) (once k n 0 lt few) (lies_mid k (omega (arith, lt, few))) page_written
          ∙ so_far.here k lt

      own : (k : ℕ) → k ≡ n → page_on (get_or pages k 0) new.image.disk ≡ get_or contents k []
      own k is = ap (λ (m : ℕ). page_on (get_or pages m 0) new.image.disk) is ∙ ap (page_on page) disk ∙ page_written.here ∙ ap (λ (m : ℕ). get_or contents m []) (sym is)
