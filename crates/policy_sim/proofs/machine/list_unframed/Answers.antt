use Rattle.policy_sim.proofs.Names.{◌≡◌, ◌∷◌, ◌++◌, ◌+◌, ℕ, false, List, [], take, get_or, add-one, ap, sym, subst, ◌∙◌, take_all, Mark, IsListedBy, IsPool, but, unless, pages_of}
use Rattle.policy_sim.specs.declared.pool.Pool.{Pool}
use Rattle.policy_sim.proofs.Filled.{take_more}
use Rattle.policy_sim.proofs.Struck.{listed_by}
use Rattle.policy_sim.proofs.Lost.{unless_none, unless_list, unless_stay}
use Rattle.policy_sim.proofs.machine.list_unframed.Goals.{then-is_none+in_ok-list, else-is_none}
use Rattle.policy_sim.proofs.machine.list_unframed.Goals as goal

none : Mark
none = record { page = 0; valid = false; dirty = false; referenced = false }

pub loop-mark-init : goal.loop-mark-init
loop-mark-init c =
    let old = c.args.pool.now in
    record {
      pages = λ i. pages_of old;
      pool = c.requires;
      listed = λ framed listed. listed_by framed (unless [] c.args.queue.now framed) old.pages.entries (λ n held. unless_none c.args.queue.now framed n) listed;
    }

pub loop-mark-preserved : goal.loop-mark-preserved
unfolding none
loop-mark-preserved c =
    let queue = c.args.queue.now in
    let front : List Mark = c.args.front.now in
    let i : ℕ = c.loop-mark.mark-index in
    let before = c.loop-mark.invariant in
    let mark : Mark = get_or front i none in
    let more : take i front ++ mark ∷ [] ≡ take (i + 1) front = sym (ap (λ (n : ℕ). take n front) (add-one i) ∙ take_more front i none c.loop-mark-test.true) in
    elim c.if-is_none.branch [
      | then-is_none+in_ok-list w ↦
          record {
            pages = ap pages_of w.pool-is ∙ w.in_ok-list.ensures.pages ∙ before.pages;
            pool = subst IsPool (sym w.pool-is) w.in_ok-list.ensures.pool;
            listed = λ framed listed.
                subst (λ (pool : Pool). IsListedBy (unless (take (i + 1) front) queue framed) pool.pages.entries) (sym w.pool-is)
                (subst (λ (l : List Mark). IsListedBy (unless l queue framed) w.list.new.self.pages.entries) more
                (listed_by (but mark.page (unless (take i front) queue framed)) (unless (take i front ++ mark ∷ []) queue framed) w.list.new.self.pages.entries
                (λ n held. unless_list (take i front) mark queue framed n (sym c.newest.ensures.frame ∙ w.if-is_none.ensures))
                (w.in_ok-list.ensures.listed (unless (take i front) queue framed) (before.listed framed listed))));
          }
      | else-is_none w ↦
          record {
            pages = ap pages_of w.pool-is ∙ before.pages;
            pool = subst IsPool (sym w.pool-is) before.pool;
            listed = λ framed listed.
                subst (λ (pool : Pool). IsListedBy (unless (take (i + 1) front) queue framed) pool.pages.entries) (sym w.pool-is)
                (subst (λ (l : List Mark). IsListedBy (unless l queue framed) c.loop-mark.pool.pages.entries) more
                (listed_by (unless (take i front) queue framed) (unless (take i front ++ mark ∷ []) queue framed) c.loop-mark.pool.pages.entries
                (λ n held. unless_stay (take i front) mark queue framed n (sym c.newest.ensures.frame ∙ w.if-is_none.ensures))
                (before.listed framed listed)));
          }
    ]

pub returns-clause-listed : goal.returns-clause-listed
returns-clause-listed c pulls framed listed =
    subst (λ (l : List Mark). IsListedBy (unless l c.args.queue.now framed) c.loop-mark.pool.pages.entries) (take_all c.loop-mark.mark-index c.args.front.now c.loop-mark-test.false)
    (c.loop-mark.invariant.listed framed listed)
