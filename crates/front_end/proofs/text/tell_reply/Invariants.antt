use Rattle.std.proofs.Common.{◌≡◌, ◌++◌, length, IsTrue}
use Rattle.site.specs.Calls.{Preserves, SameReads}
use Rattle.site.specs.Moments.{EachMoment}
use Rattle.site.specs.Telling.{TellsOnly, TellsPart, SameDevices}
use Rattle.shell_text.specs.Texts.{reply_text, reply_lines}
use Rattle.front_end.proofs.Replies.{first_of}
use Rattle.front_end.specs.Faults.{SameFaults}
use Rattle.front_end.specs.Tells.{HandsLines}
use Rattle.front_end.proofs.text.tell_reply.Given as goal

abbrev pub invariant-loop-place : goal.invariant-loop-place
invariant-loop-place g l =
    let old = g.S.Site.state l.fn.site in
    let now = g.S.Site.state l.site in
    record {
      preserves : Preserves old now;
      faults : SameFaults old now;
      reads : SameReads old now;
      same : IsTrue old.honest → SameDevices old now;
      told : IsTrue old.honest → now.told ≡ old.told ++ first_of l.place (reply_lines l.reply);
      tells_only : IsTrue old.honest → TellsOnly (length (first_of l.place (reply_lines l.reply))) old now;
      moments : IsTrue old.honest → EachMoment old now (TellsPart (reply_text l.reply) old);
      lines : IsTrue old.honest → EachMoment old now (HandsLines (reply_lines l.reply) old.told);
    }
