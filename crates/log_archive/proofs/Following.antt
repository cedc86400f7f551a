-- Archives join, and blocks that follow are accepted.
use Rattle.std.proofs.Common.{◌≡◌, ℕ, suc, ◌+◌, ◌*◌, ◌^◌, ◌<◌, ◌≤◌, List, [], ◌∷◌, ◌++◌, length, refl, sym, ap, subst, arith, inl, inr}
use Rattle.std.specs.Prelude.{Option, Some, None, option_and_then}
use Rattle.std.proofs.lemmas.Option.{same_Some}
use Rattle.log_records.specs.declared.log_record.LogRecord.{LogRecord}
use Rattle.log_records.specs.Log.{entries_from}
use Rattle.log_archive.specs.Lines.{end_text}
use Rattle.log_archive.specs.Accepted.{Accepted, Stream, after_block, after_entries, with_next}
use Rattle.log_archive.specs.Laws.{ArchivesJoin, FollowersAreAccepted, after_blocks, block_texts}

pub join : ArchivesJoin
join pages [] second s mid now first behind = subst (λ (x : Stream). Accepted pages second x now) first behind
join pages (line ∷ lines) second s mid now first behind = (first.0, first.1, join pages lines second first.0 mid now first.2 behind)

-- where the calls behind a first one answer, it did
pub goes_on : (o : Option Stream) (f : Stream → Option Stream) (now : Stream) → option_and_then f o ≡ Some now → (mid : Stream) × (o ≡ Some mid) × (f mid ≡ Some now)
goes_on None f now is = let bad : None ≡ Some now = is in cc
goes_on (Some mid) f now is = (mid, refl, is)

-- a block has one number
pub next_is : (pages : ℕ) (records : List LogRecord) (s mid : Stream) → after_block pages records s ≡ Some mid → mid.next ≡ s.next + 1
next_is pages records s mid is =
    let inner = goes_on (after_entries pages (entries_from (512 * s.next + 2) records) s) (with_next (s.next + 1)) mid is in
    sym (ap (λ (x : Stream). x.next) (same_Some _ _ inner.2))

pub accepted : FollowersAreAccepted
accepted pages [] [] s now hold is few = (s, inr (record { fits = omega (arith, few); text = ap end_text zero_more }, refl), sym (same_Some _ _ is))
  where
    zero_more : s.next + 0 ≡ s.next
    zero_more = omega arith
accepted pages [] (records ∷ blocks) s now hold is few = absurd hold
accepted pages (content ∷ contents) [] s now hold is few = absurd hold
accepted pages (content ∷ contents) (records ∷ blocks) s now hold is few =
    let step = goes_on (after_block pages records s) (after_blocks pages blocks) now is in
    let mid : Stream = step.0 in
    let next : mid.next ≡ s.next + 1 = next_is pages records s mid step.1 in
    let below : s.next < 2 ^ 40 = omega (arith, few) in
    let room : mid.next + length contents ≤ 2 ^ 40 = omega (arith, few, next) in
    let end : mid.next + length contents ≡ s.next + suc (length contents) = omega (arith, next) in
    let rest : Accepted pages (block_texts mid.next contents ++ end_text (mid.next + length contents) ∷ []) mid now = accepted pages contents blocks mid now hold.1 step.2 room in (
      mid,
      inl (content, records, record { fits = below; len = hold.0.len; octets = hold.0.octets; text = refl }, hold.0.block, step.1),
      subst (λ (n : ℕ). Accepted pages (block_texts n contents ++ end_text (s.next + suc (length contents)) ∷ []) mid now) next
          (subst (λ (n : ℕ). Accepted pages (block_texts mid.next contents ++ end_text n ∷ []) mid now) end rest),
    )
