use Rattle.flash_cache.proofs.Names.{ℕ, Bool, List, ◌++◌, ◌∷◌, [], sym, ap, ◌∙◌, mark_at}
use Rattle.flash_cache.proofs.Gathering.{mapped_more}
use Rattle.flash_cache.proofs.leaving.pages_at.Goals as goal

pub loop-index-preserved : goal.loop-index-preserved
loop-index-preserved c =
    let front = c.args.front.now in
    let n = c.loop-index.index in
    let place : ℕ = c.at.result in
    record {
      pages = c.in_ok-push.ensures.items ∙ ap (λ (l : List ℕ). l ++ (mark_at front place).page ∷ []) c.loop-index.invariant.pages
          ∙ sym (mapped_more (λ (p : ℕ). (mark_at front p).page) c.args.places.now n place c.at.ensures);
      dirty = c.in_ok-push-2.ensures.items ∙ ap (λ (l : List Bool). l ++ (mark_at front place).dirty ∷ []) c.loop-index.invariant.dirty
          ∙ sym (mapped_more (λ (p : ℕ). (mark_at front p).dirty) c.args.places.now n place c.at.ensures);
    }
