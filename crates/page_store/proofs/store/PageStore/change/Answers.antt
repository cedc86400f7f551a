use Rattle.page_store.proofs.Fitting.{change_fits, change_going}
use Rattle.page_store.proofs.ToldPages.{told_changed}
use Rattle.page_store.proofs.store.PageStore.change.Goals as goal

pub returns-clause-fit : goal.returns-clause-fit
returns-clause-fit c site fits =
    let one = c.frames_of_pages.ensures.changed _ c.change_front.new.self.frames _ _ _ c.requires.there c.change_front.ensures.front in
    change_fits c.args.self.now c.change_front.new.self site one c.change_front.ensures.front.changed fits

pub returns-clause-going : goal.returns-clause-going
returns-clause-going c site going =
    let old = c.args.self.now.pool.frames in
    let one = c.frames_of_pages.ensures.changed old c.change_front.new.self.frames _ _ _ c.requires.there c.change_front.ensures.front in
    change_going c.args.self.now c.change_front.new.self site _ _ _ c.requires.there c.change_front.ensures.front c.change_front.ensures.size
    (told_changed c.args.self.now c.change_front.new.self c.requires.there one c.change_front.ensures.framed going.own.told) going
