use Rattle.buffer_pool.proofs.Names.{Some, option_map, refl, ap, sym, ◌∙◌, PoolEntry}
use Rattle.buffer_pool.proofs.Cached.{found, missing, content-lookup}
use Rattle.buffer_pool.proofs.pool.Pool.page.Goals as goal

pub returns-in_err-kept-clause-content : goal.returns-in_err-kept-clause-content
returns-in_err-kept-clause-content c = rw (c.from_residual.ensures, ← c.self.view_is)
    (ap (option_map (λ (kept : PoolEntry). kept.content.value)) c.in_err-kept.ensures ∙ sym (content-lookup c.self.inside.pages.entries c.args.page))

pub returns-in_err-kept-clause-none : goal.returns-in_err-kept-clause-none
returns-in_err-kept-clause-none c = rw (c.from_residual.ensures, ← c.self.view_is) (missing c.self.inside.pages.entries c.args.page (sym c.in_err-kept.ensures))

pub returns-clause-content : goal.returns-clause-content
returns-clause-content c = rw (← c.self.view_is)
    (ap Some c.deref.ensures ∙ ap (option_map (λ (kept : PoolEntry). kept.content.value)) c.in_ok-kept.ensures ∙ sym (content-lookup c.self.inside.pages.entries c.args.page))

pub returns-clause-some : goal.returns-clause-some
returns-clause-some c = rw (← c.self.view_is, found c.self.inside.pages.entries c.args.page c.in_ok-kept.kept.now (sym c.in_ok-kept.ensures)) refl
