-- Along the blocks of lines: an accepted archive leads to the table of its log.
use Rattle.std.proofs.Common.{◌≡◌, ◌⊎◌, inl, inr, ℕ, zero, suc, ◌+◌, ◌*◌, ◌/◌, ◌%◌, ◌<◌, List, [], ◌∷◌, ◌++◌, length, take, replicate, refl, sym, ap, subst, ◌∙◌, append-nil, append_assoc, arith}
use Rattle.std.specs.Prelude.{Some, None, flat_map, slice_index_or}
use Rattle.std.proofs.Math.Seq.{take-append_seam, take-append-add}
use Rattle.std.proofs.lemmas.List.{append_cancel_left, ext_get_or, length-append, length-replicate}
use Rattle.std.proofs.lemmas.List.Elements.{filter_map-append}
use Rattle.std.proofs.lemmas.Option.{same_Some}
use Rattle.record_model.specs.State.{Content, Write, content_at}
use Rattle.log_records.specs.declared.log_record.LogRecord.{LogRecord}
use Rattle.log_records.specs.Spelling.{AreBlock, IsBlock, spelling}
use Rattle.log_records.specs.Log.{Entry, Version, blank_version, blank_versions, entries_from, log_from, slot_at, table_of, value_of}
use Rattle.log_records.specs.Sound.{IsInOrder, commit_number, commit_numbers}
use Rattle.log_records.proofs.Values.{content_of_table, length_table_of}
use Rattle.log_laws.proofs.Orders.{entries_in_order, in_order_to}
use Rattle.log_laws.proofs.Tables.{content_with, length_table_with}
use Rattle.log_archive.specs.Lines.{IsBlockLine, IsEndLine}
use Rattle.log_archive.specs.Accepted.{Accepted, Stream, after_block, after_entries, archive_table, blank_stream, with_next}
use Rattle.log_archive.specs.Values.{AgreesAt, ArchiveIsTheLog, BlankAgrees, HaveBlocks, TablesAgree, WholeArchiveIsTheLog}
use Rattle.log_archive.proofs.Following.{goes_on, next_is}
use Rattle.log_archive.proofs.Behind.{Grows, grows, grows_then}
use Rattle.log_archive.proofs.Walks.{Walks, cuts, entries_part, front_in_order, left_by, left_then, walk}

-- Blocks that follow one another, each with room for its records.
abbrev pub BlocksFollow : ℕ → List (List LogRecord) → Stream → Stream → Type 0
BlocksFollow pages [] s now = now ≡ s
BlocksFollow pages (records ∷ blocks) s now = (mid : Stream) × (after_block pages records s ≡ Some mid) × AreBlock records × BlocksFollow pages blocks mid now

-- the lines' blocks
pub record Heard (pages : ℕ) (lines : List (List ℕ)) (s now : Stream) : Type 0 where
  pub blocks : List (List LogRecord)
  pub are : HaveBlocks s.next lines blocks
  pub follow : BlocksFollow pages blocks s now

pub heard : (pages : ℕ) (lines : List (List ℕ)) (s now : Stream) → Accepted pages lines s now → Heard pages lines s now
heard pages [] s now is = record { blocks = []; are = refl; follow = is }
heard pages (line ∷ lines) s now (mid, after, accepted) = by (heard pages lines mid now accepted) after
  where
    by : Heard pages lines mid now → ((content : List ℕ) × (records : List LogRecord) × IsBlockLine line s.next content × IsBlock content records × (after_block pages records s ≡ Some mid)) ⊎ (IsEndLine line s.next × (mid ≡ s)) → Heard pages (line ∷ lines) s now
    by rest (inl (content, records, is_line, is_block, is)) = record {
      blocks = records ∷ rest.blocks;
      are = inl (content, records, rest.blocks, is_line, is_block, refl, subst (λ n. HaveBlocks n lines rest.blocks) (next_is pages records s mid is) rest.are);
      follow = (mid, is, is_block.are_block, rest.follow);
    }
    by rest (inr (is_end, is)) = record {
      blocks = rest.blocks;
      are = inr (is_end, subst (λ (x : Stream). HaveBlocks x.next lines rest.blocks) is rest.are);
      follow = subst (λ (x : Stream). BlocksFollow pages rest.blocks x now) is rest.follow;
    }

-- a block's records, and the number behind it
pub record OfBlock (pages : ℕ) (records : List LogRecord) (s mid : Stream) : Type 0 where
  pub inner : Stream
  pub entries : after_entries pages (entries_from (512 * s.next + 2) records) s ≡ Some inner
  pub mid_is : record inner { next = s.next + 1 } ≡ mid

pub of_block : (pages : ℕ) (records : List LogRecord) (s mid : Stream) → after_block pages records s ≡ Some mid → OfBlock pages records s mid
of_block pages records s mid is =
    let step = goes_on (after_entries pages (entries_from (512 * s.next + 2) records) s) (with_next (s.next + 1)) mid is in
    record { inner = step.0; entries = step.1; mid_is = same_Some _ mid step.2 }

block_grows : (pages : ℕ) (records : List LogRecord) (s mid : Stream) → after_block pages records s ≡ Some mid → Grows (entries_from (512 * s.next + 2) records) s mid
block_grows pages records s mid is =
    let b = of_block pages records s mid is in
    let g = grows pages (entries_from (512 * s.next + 2) records) s b.inner b.entries in
    record { nets = g.nets; nets_are = ap (λ (x : Stream). x.nets) (sym b.mid_is) ∙ g.nets_are; count = g.count; size = ap (λ (x : Stream). length x.shown) (sym b.mid_is) ∙ g.size }

pub blocks_grow : (pages : ℕ) (blocks : List (List LogRecord)) (s now : Stream) → BlocksFollow pages blocks s now → Grows (log_from s.next blocks) s now
blocks_grow pages [] s now is = record { nets = []; nets_are = ap (λ (x : Stream). x.nets) is ∙ sym (append-nil s.nets); count = refl; size = ap (λ (x : Stream). length x.shown) is }
blocks_grow pages (records ∷ blocks) s now (mid, is, block, rest) =
    grows_then (entries_from (512 * s.next + 2) records) (log_from (s.next + 1) blocks) s mid now (block_grows pages records s mid is)
    (subst (λ n. Grows (log_from n blocks) mid now) (next_is pages records s mid is) (blocks_grow pages blocks mid now rest))

-- behind some of the records that are told it is what as many of the nets leave as they have commits
abbrev pub LeavesSo : List Version → ℕ → List Entry → List Entry → List (List Write) → Type 0
LeavesSo versions number log front nets = value_of (log ++ front) versions number ≡ left_by number (value_of log versions number) (take (length (commit_numbers front)) nets)

module _ (versions : List Version) (number pages : ℕ) where
  order_of : (next : ℕ) (records : List LogRecord) → AreBlock records → IsInOrder (512 * next + 2) (entries_from (512 * next + 2) records) (512 * (next + 1) + 2)
  order_of next records block =
      in_order_to (512 * next + 2) (entries_from (512 * next + 2) records) (512 * next + 2 + length (flat_map spelling records)) (512 * (next + 1) + 2)
      (let room = block.room in omega (arith, room)) (entries_in_order (512 * next + 2) records)

  block_walk : (log : List Entry) (records : List LogRecord) (s mid : Stream) → AgreesAt log versions number (512 * s.next + 2) s → number < length s.shown → after_block pages records s ≡ Some mid → AreBlock records →
      Walks log versions number (512 * mid.next + 2) (entries_from (512 * s.next + 2) records) s mid
  block_walk log records s mid a within is block =
      let b = of_block pages records s mid is in
      let w = walk versions number pages log (entries_from (512 * s.next + 2) records) (512 * s.next + 2) (512 * (s.next + 1) + 2) s b.inner (order_of s.next records block) a within b.entries in
      subst (λ (x : Stream). Walks log versions number (512 * x.next + 2) (entries_from (512 * s.next + 2) records) s x) b.mid_is (record {
        agrees = record { shows = w.agrees.shows; closed = w.agrees.closed; opened = w.agrees.opened; begun = w.agrees.begun; early = w.agrees.early };
        grows = record { nets = w.grows.nets; nets_are = w.grows.nets_are; count = w.grows.count; size = w.grows.size };
        value = w.value;
      })

  pub blocks_walk : (log : List Entry) (blocks : List (List LogRecord)) (s now : Stream) → AgreesAt log versions number (512 * s.next + 2) s → number < length s.shown → BlocksFollow pages blocks s now →
      AgreesAt (log ++ log_from s.next blocks) versions number (512 * now.next + 2) now
  blocks_walk log [] s now a within is =
      subst (λ l. AgreesAt l versions number (512 * now.next + 2) now) (sym (append-nil log)) (subst (λ (x : Stream). AgreesAt log versions number (512 * x.next + 2) x) (sym is) a)
  blocks_walk log (records ∷ blocks) s now a within (mid, is, block, rest) =
      let w = block_walk log records s mid a within is block in
      let entries : List Entry = entries_from (512 * s.next + 2) records in
      let g = w.grows in
      let b = blocks_walk (log ++ entries) blocks mid now w.agrees (subst (λ n. number < n) (sym g.size) within) rest in
      subst (λ l. AgreesAt l versions number (512 * now.next + 2) now)
      (append_assoc log entries (log_from mid.next blocks) ∙ ap (λ n. log ++ (entries ++ log_from n blocks)) (next_is pages records s mid is)) b

  -- behind each front
  pub fronts : (log : List Entry) (blocks : List (List LogRecord)) (s now : Stream) (nets : List (List Write)) (front rest : List Entry) → AgreesAt log versions number (512 * s.next + 2) s → number < length s.shown →
      BlocksFollow pages blocks s now → now.nets ≡ s.nets ++ nets → log_from s.next blocks ≡ front ++ rest → LeavesSo versions number log front nets
  fronts log [] s now nets [] rest a within follow nets_are is = ap (λ l. value_of l versions number) (append-nil log)
  fronts log [] s now nets (e ∷ front) rest a within follow nets_are is = let bad : [] ≡ e ∷ (front ++ rest) = is in cc
  fronts log (records ∷ blocks) s now nets front rest a within (mid, is, block, follow) nets_are split =
      by (λ log' nets' extra a' within' are' split'. fronts log' blocks mid now nets' extra rest a' within' follow are' split') (cuts entries (log_from (s.next + 1) blocks) front rest split)
    where
      entries : List Entry
      entries = entries_from (512 * s.next + 2) records

      value_0 : Content
      value_0 = value_of log versions number

      w : Walks log versions number (512 * mid.next + 2) entries s mid
      w = block_walk log records s mid a within is block

      g : Grows entries s mid
      g = w.grows

      g2 : Grows (log_from mid.next blocks) mid now
      g2 = blocks_grow pages blocks mid now follow

      both : nets ≡ g.nets ++ g2.nets
      both = append_cancel_left s.nets nets (g.nets ++ g2.nets) (sym nets_are ∙ g2.nets_are ∙ ap (λ l. l ++ g2.nets) g.nets_are ∙ append_assoc s.nets g.nets g2.nets)

      by : ((log' : List Entry) (nets' : List (List Write)) (extra : List Entry) → AgreesAt log' versions number (512 * mid.next + 2) mid → number < length mid.shown → now.nets ≡ mid.nets ++ nets' → log_from mid.next blocks ≡ extra ++ rest → LeavesSo versions number log' extra nets') →
          ((extra : List Entry) × (front ≡ entries ++ extra) × (log_from (s.next + 1) blocks ≡ extra ++ rest)) ⊎ ((extra : List Entry) × (entries ≡ front ++ extra) × (rest ≡ extra ++ log_from (s.next + 1) blocks)) → LeavesSo versions number log front nets
      by go (inl (extra, front_is, more)) =
          let later : LeavesSo versions number (log ++ entries) extra g2.nets =
          go (log ++ entries) g2.nets extra w.agrees (subst (λ n. number < n) (sym g.size) within) g2.nets_are (ap (λ n. log_from n blocks) (next_is pages records s mid is) ∙ more) in
          let count : length (commit_numbers front) ≡ length g.nets + length (commit_numbers extra) =
          ap (λ l. length (commit_numbers l)) front_is ∙ ap length (filter_map-append commit_number entries extra) ∙ length-append (commit_numbers entries) (commit_numbers extra)
          ∙ ap (λ n. n + length (commit_numbers extra)) (sym g.count) in
          let taken : take (length (commit_numbers front)) nets ≡ g.nets ++ take (length (commit_numbers extra)) g2.nets =
          (λ i. take (count i) (both i)) ∙ take-append-add g.nets g2.nets (length (commit_numbers extra)) in
          ap (λ l. value_of (log ++ l) versions number) front_is ∙ ap (λ l. value_of l versions number) (sym (append_assoc log entries extra)) ∙ later
          ∙ ap (λ c. left_by number c (take (length (commit_numbers extra)) g2.nets)) w.value
          ∙ sym (left_then number value_0 g.nets (take (length (commit_numbers extra)) g2.nets)) ∙ sym (ap (left_by number value_0) taken)
      by go (inr (extra, entries_are, rest_is)) =
          let b = of_block pages records s mid is in
          let part = entries_part pages front extra s b.inner (ap (λ l. after_entries pages l s) (sym entries_are) ∙ b.entries) in
          let ordered : IsInOrder (512 * s.next + 2) (front ++ extra) (512 * (s.next + 1) + 2) = subst (λ l. IsInOrder (512 * s.next + 2) l (512 * (s.next + 1) + 2)) entries_are (order_of s.next records block) in
          let v = walk versions number pages log front (512 * s.next + 2) (512 * (s.next + 1) + 2) s part.0 (front_in_order (512 * s.next + 2) (512 * (s.next + 1) + 2) front extra ordered) a within part.1 in
          let h = v.grows in
          let k = grows pages extra part.0 b.inner part.2 in
          let split_nets : g.nets ≡ h.nets ++ k.nets =
          append_cancel_left s.nets g.nets (h.nets ++ k.nets) (sym g.nets_are ∙ ap (λ (x : Stream). x.nets) (sym b.mid_is) ∙ k.nets_are ∙ ap (λ l. l ++ k.nets) h.nets_are ∙ append_assoc s.nets h.nets k.nets) in
          let taken : take (length (commit_numbers front)) nets ≡ h.nets =
          (λ i. take (sym h.count i) ((both ∙ ap (λ l. l ++ g2.nets) split_nets ∙ append_assoc h.nets k.nets g2.nets) i)) ∙ take-append_seam h.nets (k.nets ++ g2.nets) in
          v.value ∙ sym (ap (left_by number value_0) taken)

pub archive_is_the_log : ArchiveIsTheLog
archive_is_the_log versions log lines s now agrees accepted = record {
  blocks = h.blocks;
  are = h.are;
  nets = g.nets;
  nets_are = g.nets_are;
  count = g.count;
  tables = λ front rest split. tables front rest split;
  agrees = record {
    size = g.size ∙ agrees.size;
    at = λ number within. blocks_walk versions number (length versions) log h.blocks s now (agrees.at number within) (inside number within) h.follow;
  };
}
  where
    h : Heard (length versions) lines s now
    h = heard (length versions) lines s now accepted

    g : Grows (log_from s.next h.blocks) s now
    g = blocks_grow (length versions) h.blocks s now h.follow

    inside : (number : ℕ) → number < 32 * length versions → number < length s.shown
    inside number within = subst (λ n. number < n) (sym agrees.size) within

    tables : TablesAgree versions log (log_from s.next h.blocks) g.nets
    tables front rest split =
        ext_get_or None (table_of (log ++ front) versions) (archive_table (table_of log versions) g.nets k)
        (length_table_of (log ++ front) versions ∙ sym (length_table_with (table_of log versions) (flat_map (λ net. net) (take k g.nets)) ∙ length_table_of log versions))
        (λ number within. each number (subst (λ n. number < n) (length_table_of (log ++ front) versions) within))
      where
        k : ℕ
        k = length (commit_numbers front)

        each : (number : ℕ) → number < 32 * length versions → content_at (table_of (log ++ front) versions) number ≡ content_at (archive_table (table_of log versions) g.nets k) number
        each number within =
            content_of_table (log ++ front) versions number within
            ∙ fronts versions number (length versions) log h.blocks s now g.nets front rest (agrees.at number within) (inside number within) h.follow g.nets_are split
            ∙ ap (λ c. left_by number c (take k g.nets)) (sym (content_of_table log versions number within))
            ∙ sym (content_with (table_of log versions) (flat_map (λ net. net) (take k g.nets)) number (subst (λ n. number < n) (sym (length_table_of log versions)) within))

-- what stands in a list of one thing
all_alike : {X : Type 0} (n place : ℕ) (x : X) → slice_index_or (replicate n x) place x ≡ x
all_alike zero place x = refl
all_alike (suc n) zero x = refl
all_alike (suc n) (suc place) x = all_alike n place x

no_slot : (pages number : ℕ) → slot_at (blank_versions pages) number ≡ None
no_slot pages number = ap (λ (v : Version). content_at v.slots (number % 32)) (all_alike pages (number / 32) blank_version)

pub blank_agrees : (pages : ℕ) → BlankAgrees pages
blank_agrees pages = record {
  agrees = record {
    size = length-replicate (32 * pages) None ∙ sym (ap (λ n. 32 * n) (length-replicate pages blank_version));
    at = λ number within. record {
      shows = all_alike (32 * pages) number None ∙ sym (no_slot pages number);
      closed = λ x last none. absurd (let bad : None ≡ Some x = last in cc);
      opened = tt;
      begun = tt;
      early = tt;
    };
  };
  table = ext_get_or None (table_of [] (blank_versions pages)) (replicate (32 * pages) None)
      (length_table_of [] (blank_versions pages) ∙ ap (λ n. 32 * n) (length-replicate pages blank_version) ∙ sym (length-replicate (32 * pages) None))
      (λ number within. content_of_table [] (blank_versions pages) number (subst (λ n. number < n) (length_table_of [] (blank_versions pages)) within)
      ∙ no_slot pages number ∙ sym (all_alike (32 * pages) number None));
}

pub whole_archive : WholeArchiveIsTheLog
whole_archive pages lines now accepted =
    let b = blank_agrees pages in
    let l = archive_is_the_log versions [] lines (blank_stream pages) now b.agrees (subst (λ n. Accepted n lines (blank_stream pages) now) (sym (length-replicate pages blank_version)) accepted) in (
      l.blocks,
      l.are,
      l.tables (log_from 0 l.blocks) [] (sym (append-nil (log_from 0 l.blocks)))
          ∙ (λ i. archive_table (b.table i) (sym l.nets_are i) ((sym l.count ∙ ap length (sym l.nets_are)) i)),
    )
  where
    versions : List Version
    versions = blank_versions pages
