-- What was heard, while nothing is taken.
use Rattle.std.proofs.Common.{◌≡◌, ℕ, ◌+◌, ◌≤◌, List, ◌++◌, length, true, sym, ◌∙◌, ap, subst}
use Rattle.site.specs.State.{State as Site, Input}
use Rattle.site.specs.declared.geometry.Geometry.{Geometry}
use Rattle.shell_text.specs.Runs.{lines_of}
use Rattle.stream_lines.specs.Lines.{pending}
use Rattle.log_archive.specs.Accepted.{Stream}
use Rattle.archive_restore.specs.declared.restoring.Restoring.{Restoring}
use Rattle.archive_restore.specs.Progress.{HasHeard}

-- nothing of the input is taken while nets are written
pub heard_still : (g : Geometry) (lines : List (List ℕ)) (s : Stream) (entry mid new : Site) (r r' : Restoring) → HasHeard g lines s entry mid r → r'.source ≡ r.source → new.input ≡ mid.input → HasHeard g lines s entry new r'
heard_still g lines s entry mid new r r' h source input = record {
  all = h.all ∙ (λ i. lines ++ lines_of true (pending (sym source i) ++ (sym input i).left));
  accepted = h.accepted;
  ended = λ over. ap (λ (x : Input). x.left) input ∙ h.ended (ap (λ x. x.ended) (sym source) ∙ over);
  count = (λ i. (source i).taken + length (input i).left) ∙ h.count;
  cut = record {
    short = h.cut.short;
    consumed = h.cut.consumed;
    parts = h.cut.parts ∙ (λ i. h.cut.consumed ++ (pending (sym source i) ++ (sym input i).left));
    whole = λ more e over. h.cut.whole more e (λ was. over (ap (λ x. x.ended) source ∙ was));
    heard = ap (λ (x : Input). x.heard + length x.left) input ∙ h.cut.heard;
  };
  each = subst (λ x. length lines + length (pending x) ≤ x.taken) (sym source) h.each;
}
