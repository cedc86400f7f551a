use Rattle.std.proofs.Common.{rules, List, ap, sym, subst}
use Rattle.std.specs.Prelude.{Err}
use Rattle.log_records.specs.Log.{Entry, log_from}
use Rattle.image_form.proofs.Walks.{walked_none}
use Rattle.archive_base.specs.Opening.{HasHeard, IsBeyond}
use Rattle.archive_base.proofs.WalkedLogs.{all_heard, goes_on, stands_among}
use Rattle.archive_base.proofs.reading.read_blocks.Goals as goal

pub loop-opening-init : goal.loop-opening-init
loop-opening-init g c =
    let image = (g.S.Site.state c.args.site.now).image in
    record {
      going = c.requires.going;
      walks = c.start-walk.ensures.walk;
      heard = λ blocks finds has. walked_none c.start-walk.result c.args.log.now image (log_from c.args.kept blocks) (c.start-walk.ensures.stands image blocks has)
          (λ (done : List Entry). HasHeard done c.none-opening.result.transactions) c.none-opening.ensures;
      reads = search rules;
    }

pub loop-opening-preserved : goal.loop-opening-preserved
loop-opening-preserved g c =
    goes_on c.loop-opening.invariant c.in_ok-lsn.field-0 c.next.new.self c.in_ok-lsn.ensures.next c.in-Some.lsn c.in-Some.rec c.in-Some.is c.in_ok-lsn.ensures.walk c.in_ok-lsn.ensures.reads
    (λ (done : List Entry). HasHeard done c.hear.new.self.transactions) (λ done has. c.in-Ok.ensures.heard done has)

pub returns-in-Err-BadStream-clause-heard : goal.returns-in-Err-BadStream-clause-heard
returns-in-Err-BadStream-clause-heard g c = λ blocks finds has.
    let at = stands_among c.loop-opening.invariant c.in_ok-lsn.field-0 c.next.new.self c.in_ok-lsn.ensures.next c.in-Some.lsn c.in-Some.rec c.in-Some.is blocks finds has in
    (at.0, at.1, at.2, at.3, subst (λ (e : Entry). IsBeyond e.rec) (sym at.4) (c.in-Err-BadStream.ensures.bad (ap Err c.in-Err-BadStream.field-0-is)))

pub returns-in-Ok-claimed-clause-heard : goal.returns-in-Ok-claimed-clause-heard
returns-in-Ok-claimed-clause-heard g c = λ blocks finds has.
    c.in-Ok-claimed.ensures (log_from c.args.kept blocks) (all_heard c.loop-opening.invariant c.in_ok-lsn.field-0 c.next.new.self c.in_ok-lsn.ensures.next c.in_default.is blocks finds has)
