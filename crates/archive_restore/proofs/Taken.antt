-- Where input is asked for.
use Rattle.std.proofs.Common.{◌≡◌, ℕ, ◌+◌, ◌<◌, List, ◌++◌, length, take, true, false, ◌∙◌, ap, subst}
use Rattle.std.specs.List.{AllByRecursion}
use Rattle.std_lemmas.proofs.AllOf.{all_weaker}
use Rattle.site.specs.State.{State as Site, Input}
use Rattle.site.specs.Calls.{IsUnchanged}
use Rattle.site.specs.declared.outside.Take.{Take}
use Rattle.site.specs.declared.geometry.Geometry.{Geometry}
use Rattle.shell_text.specs.Runs.{lines_of}
use Rattle.log_archive.specs.Accepted.{Stream}
use Rattle.stream_lines.specs.Lines.{AsksFor, IsAskedFor, TakesWithin, long}
use Rattle.stream_lines.proofs.Asked.{asks_more}
use Rattle.archive_restore.specs.declared.restoring.Restoring.{Restoring}
use Rattle.archive_restore.specs.Progress.{HasHeard}
use Rattle.archive_restore.specs.Restores.{HasFewCommits}

-- nothing is taken meanwhile
pub asks_still : (P : List (List ℕ) → Type 0) (entry mid new : Site) → AsksFor P entry mid → new.input ≡ mid.input → AsksFor P entry new
asks_still P entry mid new a same = record { takes = a.takes; are = ap (λ (x : Input). x.takes) same ∙ a.are; each = a.each }

-- nothing was taken before
pub asks_since : (P : List (List ℕ) → Type 0) (old entry new : Site) → IsUnchanged old entry → AsksFor P entry new → AsksFor P old new
asks_since P old entry new same a = record { takes = a.takes; are = a.are ∙ ap (λ (x : Input). x.takes ++ a.takes) same.left; each = all_weaker (IsAskedFor P entry) (IsAskedFor P old) since a.takes a.each }
  where
    since : (t : Take) → IsAskedFor P entry t → IsAskedFor P old t
    since t w = record {
      heard = w.heard;
      here = w.here ∙ ap (λ (x : Input). x.heard + w.heard) same.left;
      lines = subst (λ (x : Input). P (lines_of false (take w.heard x.left))) same.left w.lines;
      short = subst (λ (x : Input). AllByRecursion (λ line. length line < long) (lines_of true (take w.heard x.left))) same.left w.short;
      told = w.told ∙ ap length same.told;
    }

-- a line more is to be heard
pub asks_next : (g : Geometry) (lines : List (List ℕ)) (s : Stream) (entry mid new : Site) (r : Restoring) (count : ℕ) → HasHeard g lines s entry mid r → length s.nets < count → mid.told ≡ entry.told → TakesWithin long r.source mid new → AsksFor (HasFewCommits g.pages count) entry mid → AsksFor (HasFewCommits g.pages count) entry new
asks_next g lines s entry mid new r count h less told t before = asks_more (HasFewCommits g.pages count) lines r.source entry mid h.cut (s, h.accepted, less) told new t before
