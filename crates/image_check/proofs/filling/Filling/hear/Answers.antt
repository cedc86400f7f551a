use Rattle.image_check.proofs.Names.{◌≡◌, ◌==◌, ℕ, true, false, sym, ap, ◌∙◌, list_any, Entry, txn_of, losers}
use Rattle.image_check.proofs.Looks.{looked_failed}
use Rattle.image_check.proofs.StrayOnes.{chains_same}
use Rattle.image_check.proofs.filling.Filling.hear.Goals as goal

pub returns-then-not-is_left-clause-heard : goal.returns-then-not-is_left-clause-heard
returns-then-not-is_left-clause-heard g c log records finds versions at left is =
    let e : Entry = record { lsn = c.args.lsn; rec = c.args.rec } in
    let fills = c.in-Ok.ensures.heard records finds versions is.lengths in
    let unlisted : list_any (λ t. t == txn_of e) (losers log) ≡ false = ap (λ (n : ℕ). list_any (λ t. t == n) (losers log)) (sym c.txn_of.ensures) ∙ sym (c.is_left.ensures log left) ∙ c.if-not-is_left.true in
    (record { lengths = fills.kept_so; chains = chains_same log records e c.args.self.now.chains unlisted is.chains }, fills.fits_so)

pub returns-clause-heard : goal.returns-clause-heard
returns-clause-heard g c log records finds versions at left is =
    let e : Entry = record { lsn = c.args.lsn; rec = c.args.rec } in
    let fills = c.in-Ok.ensures.heard records finds versions is.lengths in
    let listed : list_any (λ t. t == txn_of e) (losers log) ≡ true = ap (λ (n : ℕ). list_any (λ t. t == n) (losers log)) (sym c.txn_of.ensures) ∙ sym (c.is_left.ensures log left) ∙ c.if-not-is_left.false in
    (record { lengths = fills.kept_so; chains = c.in_default.ensures.done log records at listed is.chains }, fills.fits_so)

pub returns-in-Err-clause-looks : goal.returns-in-Err-clause-looks
returns-in-Err-clause-looks g c = looked_failed c.in-Err.stop c.args.found.now.log.geometry.pages c.args.self.now.lengths.pages _ (g.S.Site.state c.args.site.now) (g.S.Site.state c.hear.new.site) c.in-Err.ensures.looks.ends

pub returns-then-not-is_left-clause-looks : goal.returns-then-not-is_left-clause-looks
returns-then-not-is_left-clause-looks g c = c.in-Ok.ensures.looks

pub returns-in-Err-hear-clause-looks : goal.returns-in-Err-hear-clause-looks
returns-in-Err-hear-clause-looks g c = looked_failed c.in-Err-hear.stop c.args.found.now.log.geometry.pages c.args.self.now.lengths.pages _ (g.S.Site.state c.args.site.now) (g.S.Site.state c.hear.new.site) c.in-Ok.ensures.looks.ends

pub returns-clause-looks : goal.returns-clause-looks
returns-clause-looks g c = c.in-Ok.ensures.looks
