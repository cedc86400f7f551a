use Rattle.engine.proofs.Names.{◌∙◌, refl, ap, rules, ends_failed, ends_answered, ends_no_memory, performs_answered, performs_failed, performs_refused, stays_honest, Geometry}
use Rattle.engine.proofs.Asking.{from_other, from_other_fails}
use Rattle.engine.proofs.Starts.{started, unheld}
use Rattle.engine.proofs.RestartedUnits.{next_as, next_at_end, next_no_memory}
use Rattle.engine.proofs.RingCounts.{restart_again, restart_stopped, restart_answered}
use Rattle.engine.proofs.Performing.{memory_refuses}
use Rattle.engine.proofs.engine.Engine.start.Goals as goal

pub returns-clause-opens : goal.returns-clause-opens
returns-clause-opens g c honest k s opening =
    let old = g.S.Site.state c.args.site.now in
    let done = c.in-Ok.ensures.opens honest k opening.newest opening.blocks s.table s.commits opening.sound opening.means in
    let blocks = c.in-Ok.ensures.restarts.blocks ∙ ap (λ (x : Geometry). x.blocks) done.1 in
    (started k old.image _ s c.in-Ok.restarted _ (stays_honest old _ c.restart.ensures.restarts.calls.preserves honest) opening done.0 blocks refl refl refl (search rules) (search rules) (search rules), done.1)

pub returns-in-Err-clause-ends : goal.returns-in-Err-clause-ends
returns-in-Err-clause-ends g c honest k table commits stands = ends_failed (c.in-Err.ensures.ends honest k table commits stands)

pub returns-in-Err-new-clause-ends : goal.returns-in-Err-new-clause-ends
returns-in-Err-new-clause-ends g c honest k table commits stands = ends_no_memory c.in-Err-new.ensures.memory (c.in-Ok.ensures.restarts.calls.stays_quiet honest) (c.in-Ok.ensures.ends honest k table commits stands)

pub returns-clause-ends : goal.returns-clause-ends
returns-clause-ends g c honest k table commits stands = ends_answered (c.in-Ok.ensures.ends honest k table commits stands)

pub returns-in-Err-new-clause-asks : goal.returns-in-Err-new-clause-asks
returns-in-Err-new-clause-asks g c honest k newest blocks sound = from_other_fails c.in-Ok.restarted c.in-Err-new.stop _ _ _ _ _ _ _ _ (c.in-Ok.ensures.asks honest k newest blocks sound)

pub returns-clause-asks : goal.returns-clause-asks
returns-clause-asks g c honest k newest blocks sound = from_other c.in-Ok.restarted _ _ _ _ _ _ _ _ _ refl (c.in-Ok.ensures.asks honest k newest blocks sound)

pub returns-in-Err-clause-numbers : goal.returns-in-Err-clause-numbers
returns-in-Err-clause-numbers g c honest quiet k newest blocks sound = restart_again c.in-Err.stop _ _ k _ _ _ (c.in-Err.ensures.numbers honest quiet k newest blocks sound)

pub returns-in-Err-new-clause-numbers : goal.returns-in-Err-new-clause-numbers
returns-in-Err-new-clause-numbers g c honest quiet k newest blocks sound = restart_stopped c.in-Ok.restarted c.in-Err-new.stop _ _ k _ _ _ (c.in-Ok.ensures.numbers honest quiet k newest blocks sound)

pub returns-clause-numbers : goal.returns-clause-numbers
returns-clause-numbers g c honest quiet k newest blocks sound = restart_answered c.in-Ok.restarted _ _ _ k _ _ _ refl (c.in-Ok.ensures.numbers honest quiet k newest blocks sound)

pub returns-in-Err-clause-next : goal.returns-in-Err-clause-next
returns-in-Err-clause-next g c honest k limits lengths = next_as (c.in-Err.ensures.next honest k limits lengths)

pub returns-in-Err-new-clause-next : goal.returns-in-Err-new-clause-next
returns-in-Err-new-clause-next g c honest k limits lengths = next_no_memory c.in-Err-new.ensures.memory

pub returns-clause-next : goal.returns-clause-next
returns-clause-next g c honest k limits lengths = (let next = (c.in-Ok.ensures.next honest k limits lengths).next in next_at_end next.0 next.1)

pub returns-in-Err-clause-performs : goal.returns-in-Err-clause-performs
returns-in-Err-clause-performs g c honest k newest blocks sound = performs_failed (c.in-Err.ensures.performs honest k newest blocks sound)

pub returns-in-Err-new-clause-performs : goal.returns-in-Err-new-clause-performs
returns-in-Err-new-clause-performs g c honest k newest blocks sound = performs_refused (memory_refuses c.in-Err-new.stop c.in-Err-new.ensures.memory)

pub returns-clause-performs : goal.returns-clause-performs
returns-clause-performs g c honest k newest blocks sound = performs_answered (c.in-Ok.ensures.performs honest k newest blocks sound)

pub returns-clause-going : goal.returns-clause-going
returns-clause-going g c = record {
  footprints = unheld _ _ (search rules);
  store = search rules;
  going = search rules;
  cap = search rules;
  table = search rules;
  room = search rules;
  since = search rules;
  bounded = search rules;
  budget = search rules;
  commits = search rules;
  lasts = search rules;
  differ = search rules;
}
