use Rattle.archive_report.proofs.Names.{◌++◌, ◌∷◌, [], List, ℕ, ◌∙◌, ap, subst, codes, TellsLines, block_text, stays_honest}
use Rattle.archive_report.proofs.Told.{read_then, unread}
use Rattle.archive_report.proofs.UpTo.{line_at}
use Rattle.archive_report.proofs.report.tell_block.Goals as goal

pub returns-in-Ok-clause-tells : goal.returns-in-Ok-clause-tells
returns-in-Ok-clause-tells g c honest finds =
    let old = g.S.Site.state c.args.site.now in
    let mid = g.S.Site.state c.read_block.new.site in
    let new = g.S.Site.state c.tell_line.new.site in
    let line = line_at c.args.ring.now old c.args.number in
    read_then c.tell_line.result (line ∷ []) old mid new (c.read_block.ensures.same honest)
    (subst (λ (l : List ℕ). TellsLines c.tell_line.result (l ∷ []) mid new)
    (c.as_slice.ensures.value ∙ c.block_line.ensures ∙ ap (λ (content : List ℕ). block_text c.args.number content ++ codes "\n") (c.in-Ok.ensures.block honest finds))
    (c.tell_line.ensures.tells (stays_honest old mid c.read_block.ensures.goes.preserves honest)))

pub returns-in-Err-clause-tells : goal.returns-in-Err-clause-tells
returns-in-Err-clause-tells g c honest finds =
    let old = g.S.Site.state c.args.site.now in
    unread c.in-Err.halt (line_at c.args.ring.now old c.args.number ∷ []) old (g.S.Site.state c.read_block.new.site) (c.read_block.ensures.same honest)
