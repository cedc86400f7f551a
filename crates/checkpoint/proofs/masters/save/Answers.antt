use Rattle.std.proofs.lemmas.Result.{on_ok_weaker}
use Rattle.checkpoint.proofs.Saving.{ok_three, stands_as, master_is, beside_as, saved_moments, saved_front, saved_reaches}
use Rattle.checkpoint.proofs.masters.save.Goals as goal

pub returns-clause-any_moment : goal.returns-clause-any_moment
returns-clause-any_moment g c honest ready =
    saved_moments c.args.ring.now (g.S.Site.state c.args.site.now) (g.S.Site.state c.append.new.site) c.write_master-content.result c.args.master.now c.requires.shape
    (c.write_master-content.ensures.spelled c.requires.ascend) (c.append.ensures.any_moment honest ready) (c.append.ensures.changes honest).only

pub returns-clause-front : goal.returns-clause-front
returns-clause-front g c geometry limits lengths honest ready quiet =
    saved_front c.args.ring.now (g.S.Site.state c.args.site.now) (g.S.Site.state c.append.new.site) c.write_master-content.result c.args.master.now c.requires.shape
    (c.write_master-content.ensures.spelled c.requires.ascend) (c.append.ensures.any_moment honest ready) (c.append.ensures.changes honest).only geometry limits lengths quiet

pub returns-clause-master : goal.returns-clause-master
returns-clause-master g c honest finds =
    on_ok_weaker c.append.result
    (master_is c.args.ring.now (g.S.Site.state c.args.site.now) (g.S.Site.state c.append.new.site) c.write_master-content.result c.args.master.now c.requires.shape
    (c.write_master-content.ensures.spelled c.requires.ascend)) (c.append.ensures.stands honest finds)

pub returns-clause-reaches : goal.returns-clause-reaches
returns-clause-reaches g c geometry limits lengths honest finds =
    ok_three c.append.result _ _ _ _
    (saved_reaches c.args.ring.now (g.S.Site.state c.args.site.now) (g.S.Site.state c.append.new.site) c.write_master-content.result c.args.master.now c.requires.shape
    (c.write_master-content.ensures.spelled c.requires.ascend) geometry limits lengths (c.append.ensures.changes honest).only c.append.ensures.preserves c.append.new.self c.append.ensures.shape)
    (c.append.ensures.ready honest finds) (c.append.ensures.outside honest) (c.append.ensures.stands honest finds)

pub returns-clause-stands : goal.returns-clause-stands
returns-clause-stands g c honest finds =
    on_ok_weaker c.append.result
    (stands_as c.args.ring.now (g.S.Site.state c.args.site.now) (g.S.Site.state c.append.new.site) c.write_master-content.result c.args.master.now c.requires.shape
    (c.write_master-content.ensures.spelled c.requires.ascend)) (c.append.ensures.stands honest finds)

pub returns-clause-beside : goal.returns-clause-beside
returns-clause-beside g c honest =
    on_ok_weaker c.append.result
    (beside_as c.args.ring.now (g.S.Site.state c.args.site.now) (g.S.Site.state c.append.new.site) c.write_master-content.result c.args.master.now c.requires.shape
    (c.write_master-content.ensures.spelled c.requires.ascend)) (c.append.ensures.outside honest)
