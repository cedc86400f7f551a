use Rattle.redo_undo.proofs.Names.{◌+◌, ◌*◌, ◌++◌, ◌∷◌, [], List, append-nil, refl, sym, subst, ◌∙◌, append_assoc, arith, next_of_log, past_one, none_there, past_all, some_octet, one_spelled, Entry, entries_from, some_group, HasTaken, IsReading}
use Rattle.redo_undo.proofs.Judging.{part_read}
use Rattle.redo_undo.proofs.TakenRecords.{part_begins}
use Rattle.redo_undo.proofs.RedoWorks.{asks_more, asks_all, stops_within}
use Rattle.redo_undo.proofs.Calling.{keeps_answered, keeps_redoing, redone_then, logs_answered, logs_nothing, logs_then}
use Rattle.redo_undo.proofs.redo_pass.take_block.Goals as goal

pub loop-at-init : goal.loop-at-init
loop-at-init g c =
    record {
      low = omega arith;
      high = omega (arith, c.requires.low);
      logs = logs_nothing c.requires.going;
      found_going = c.requires.found_going;
      few = omega arith;
      more = omega arith;
      some = λ less. absurd (omega (arith, less));
      owed = omega arith;
      sizes = refl;
      reads = λ o front rest records own h block used is. part_read o c.args.log.now c.args.pages.now (g.S.Site.state c.args.site.now) c.args.so_far.now front
          c.args.block c.args.content.now c.args.used records h block used;
      part = λ o front rest records own h block used is. part_begins o c.args.log.now c.args.pages.now (g.S.Site.state c.args.site.now) c.args.so_far.now front
          c.args.block c.args.content.now c.args.used records c.requires.going.sizes h block used;
      keeps = λ o front rest records own h block used is. keeps_redoing c.requires.going.sizes h.pages_are;
    }

pub loop-at-smaller : goal.loop-at-smaller
loop-at-smaller g c =
    let found = c.in-Ok.ensures.found in
    omega (arith, some_octet c.in-Ok.rec, found.length_is, found.inside, c.loop-at-test.true)

pub loop-at-preserved : goal.loop-at-preserved
loop-at-preserved g c =
    let found = c.in-Ok.ensures.found in
    let i = c.loop-at.invariant in
    let before = c.loop-at-test.true in
    let t = c.in-Ok-take_record.ensures in
    let one = t.records in
    let old = g.S.Site.state c.args.site.now in
    let mid = g.S.Site.state c.loop-at.site in
    let new = g.S.Site.state c.take_record.new.site in
    record {
      low = omega (arith, i.low, found.length_is);
      high = found.inside;
      logs = logs_answered (logs_then i.logs t.logs_nothing);
      found_going = t.found_going;
      few = omega (arith, i.few, one, some_octet c.in-Ok.rec, found.length_is);
      more = omega (arith, one, i.more);
      some = λ less. omega (arith, one, i.more);
      owed = omega (arith, i.owed, t.owed, one);
      sizes = t.sizes ∙ i.sizes;
      reads = λ o front rest records own h block used is.
          let a = i.reads o front rest records own h block used is in
          let e : Entry = record { lsn = 512 * c.args.block + c.loop-at.at; rec = c.in-Ok.rec } in
          let next = next_of_log one_spelled c.args.block c.args.content.now c.args.used c.loop-at.at records a.done a.past front c.in-Ok.rec c.in-Ok.end _ rest before found is in
          record {
            done = a.done ++ e ∷ [];
            past = past_one one_spelled c.args.block c.args.content.now c.args.used c.loop-at.at records a.done a.past c.in-Ok.rec c.in-Ok.end before found;
            reading = subst (IsReading o c.take_record.new.log c.take_record.new.pages new c.take_record.new.so_far) (append_assoc front a.done (e ∷ []))
                (t.reads o (front ++ a.done) next.0 own a.reading next.1);
          };
      part = λ o front rest records own h block used is.
          let a = i.part o front rest records own h block used is in
          let e : Entry = record { lsn = 512 * c.args.block + c.loop-at.at; rec = c.in-Ok.rec } in
          let next = next_of_log one_spelled c.args.block c.args.content.now c.args.used c.loop-at.at records a.done a.past front c.in-Ok.rec c.in-Ok.end _ rest before found is in
          record {
            done = a.done ++ e ∷ [];
            past = past_one one_spelled c.args.block c.args.content.now c.args.used c.loop-at.at records a.done a.past c.in-Ok.rec c.in-Ok.end before found;
            taken = subst (HasTaken o c.take_record.new.log c.take_record.new.pages new c.take_record.new.so_far) (append_assoc front a.done (e ∷ []))
                (t.takes o (front ++ a.done) next.0 own a.taken next.1).taken;
            asked = asks_more o c.args.pages.now c.loop-at.pages c.take_record.new.pages old mid new a.done a.asked _ (e ∷ []) (a.done ++ e ∷ []) refl (t.takes o (front ++ a.done) next.0 own a.taken next.1).asks;
          };
      keeps = λ o front rest records own h block used is.
          let a = i.part o front rest records own h block used is in
          let next = next_of_log one_spelled c.args.block c.args.content.now c.args.used c.loop-at.at records a.done a.past front c.in-Ok.rec c.in-Ok.end _ rest before found is in
          keeps_answered (redone_then h.pages_are.ready.blocks.honest i.logs.works.geometry refl i.logs.works.calls (i.keeps o front rest records own h block used is) (t.takes o (front ++ a.done) next.0 own a.taken next.1).keeps);
    }

pub returns-in_default-clause-takes : goal.returns-in_default-clause-takes
returns-in_default-clause-takes g c o front rest records own h block used is =
    let a = c.loop-at.invariant.part o front rest records own h block used is in
    absurd (none_there one_spelled c.args.block c.args.content.now c.args.used c.loop-at.at records a.done a.past c.loop-at-test.true c.in_default.ensures.bad)

pub returns-in-Err-clause-takes : goal.returns-in-Err-clause-takes
returns-in-Err-clause-takes g c o front rest records own h block used is =
    let i = c.loop-at.invariant in
    let a = i.part o front rest records own h block used is in
    let e : Entry = record { lsn = 512 * c.args.block + c.loop-at.at; rec = c.in-Ok.rec } in
    let entries = entries_from (512 * c.args.block + 2) records in
    let next = next_of_log one_spelled c.args.block c.args.content.now c.args.used c.loop-at.at records a.done a.past front c.in-Ok.rec c.in-Ok.end _ rest c.loop-at-test.true c.in-Ok.ensures.found is in
    let later = next_of_log one_spelled c.args.block c.args.content.now c.args.used c.loop-at.at records a.done a.past [] c.in-Ok.rec c.in-Ok.end entries [] c.loop-at-test.true c.in-Ok.ensures.found (sym (append-nil entries)) in
    let takes = c.in-Err.ensures.takes o (front ++ a.done) next.0 own a.taken next.1 in
    record {
      taken = tt;
      keeps = redone_then h.pages_are.ready.blocks.honest i.logs.works.geometry refl i.logs.works.calls (i.keeps o front rest records own h block used is) takes.keeps;
      asks = stops_within o c.args.pages.now c.loop-at.pages c.take_record.new.pages (g.S.Site.state c.args.site.now) (g.S.Site.state c.loop-at.site) (g.S.Site.state c.take_record.new.site) a.done a.asked
          c.in-Err.stop (e ∷ []) later.0 entries (some_group c.requires.going) later.1 takes.asks;
    }

pub returns-clause-takes : goal.returns-clause-takes
returns-clause-takes g c o front rest records own h block used is =
    let i = c.loop-at.invariant in
    let a = i.part o front rest records own h block used is in
    let all = past_all one_spelled c.args.block c.args.content.now c.args.used c.loop-at.at records a.done a.past c.loop-at-test.false in
    record {
      taken = subst (λ (l : List Entry). HasTaken o c.loop-at.log c.loop-at.pages (g.S.Site.state c.loop-at.site) c.loop-at.so_far (front ++ l)) all a.taken;
      keeps = i.keeps o front rest records own h block used is;
      asks = asks_all _ o c.args.pages.now c.loop-at.pages (g.S.Site.state c.args.site.now) (g.S.Site.state c.loop-at.site) a.done (entries_from (512 * c.args.block + 2) records) all a.asked;
    }

pub returns-clause-reads : goal.returns-clause-reads
returns-clause-reads g c o front rest records own h block used is =
    let a = c.loop-at.invariant.reads o front rest records own h block used is in
    let all = past_all one_spelled c.args.block c.args.content.now c.args.used c.loop-at.at records a.done a.past c.loop-at-test.false in
    subst (λ (l : List Entry). IsReading o c.loop-at.log c.loop-at.pages (g.S.Site.state c.loop-at.site) c.loop-at.so_far (front ++ l)) all a.reading
