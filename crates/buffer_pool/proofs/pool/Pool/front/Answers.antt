use Rattle.buffer_pool.proofs.Names.{ap, sym, ◌∙◌, frames_in, Frame}
use Rattle.buffer_pool.proofs.Cached.{no_front, front-first}
use Rattle.buffer_pool.proofs.pool.Pool.front.Goals as goal

pub returns-in_err-kept-clause-none : goal.returns-in_err-kept-clause-none
returns-in_err-kept-clause-none c = rw (c.from_residual.ensures, ← c.self.view_is) (ap frames_in (no_front c.self.inside.pages.entries (sym c.in_err-kept.ensures)))

pub returns-clause-content : goal.returns-clause-content
returns-clause-content c = rw (← c.self.view_is)
    (c.deref.ensures ∙ ap (λ (frame : Frame). frame.content) (sym (front-first c.self.inside.pages.entries (c.in_ok-kept.field-0-0.now, c.in_ok-kept.kept.now) (sym c.in_ok-kept.ensures))))
