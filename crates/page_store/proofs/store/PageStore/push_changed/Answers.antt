use Rattle.page_store.proofs.Names.{rules, arith, refl, ℕ, sym, subst, All, IsSome, frame_of, rules_for, room_for_pages}
use Rattle.page_store.proofs.Saving.{pages_there}
use Rattle.page_store.proofs.Calling.{keeps_still, pushes_still}
use Rattle.page_store.proofs.StagingLaws.{stages_none}
use Rattle.page_store.proofs.store.PageStore.push_changed.Goals as goal

pub contents_of-requires : goal.contents_of-requires
contents_of-requires g c =
    let frames = c.args.self.now.pool.frames in
    subst (All (λ (page : ℕ). IsSome (frame_of frames page))) (sym c.requires.pages) (pages_there (room_for_pages (rules_for c.args.self.now) c.args.self.now.flash.directory) frames c.requires.going.pages_going.own.pool.distinct)

pub returns-in_err-contents : goal.returns-in_err-contents
returns-in_err-contents g c = record {
  keeps = λ list ready. keeps_still c.requires.going.sizes ready (search rules) (search rules) (search rules);
  stands = search rules;
  pushes = pushes_still _ (search rules) (search rules) (search rules) (search rules) (search rules) c.requires.going c.requires.going.pages_going refl refl refl (λ all. all);
  stages = stages_none (search rules) (omega arith) refl;
  saves = search rules;
}
