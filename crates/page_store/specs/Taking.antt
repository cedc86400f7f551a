-- Pages that were taken out of the pool, and the plan that they are pushed by.
use Rattle.std.specs.Prelude.{◌≡◌, ℕ, List, map}
use Rattle.buffer_pool.specs.declared.frame.Frame.{Frame}
use Rattle.second_chance.specs.declared.plan.Plan.{Plan}
use Rattle.flash_cache.specs.Pushed.{staged_marks, chance_marks}
use Rattle.page_store.specs.declared.store.PageStore.{PageStore}
use Rattle.page_store.specs.declared.taking.EvictedPages.{EvictedPages}

-- the machine's plan for what leaves with the next push, and these pages of the pool
pub record IsPlanFor (plan : Plan) (store : PageStore) (pages : List ℕ) : Type 0 where
  pub chances : plan.chances ≡ map (λ f. f.0) (chance_marks store.flash)
  pub staged : plan.staged ≡ map (λ f. f.0) (staged_marks store.flash)
  pub pulled : plan.pulled ≡ pages

-- the pages taken are these
pub record Has (taken : EvictedPages) (frames : List Frame) : Type 0 where
  pub pages : taken.pages.items ≡ map (λ f. f.page) frames
  pub changed : taken.changed.items ≡ map (λ f. f.changed) frames
  pub contents : taken.contents.items ≡ map (λ f. f.content) frames
