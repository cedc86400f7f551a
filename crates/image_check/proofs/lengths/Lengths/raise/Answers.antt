use Rattle.image_check.proofs.Names.{rules, ◌≡◌, ◌%◌, ◌/◌, ◌++◌, ◌∷◌, [], ℕ, Some, None, length, refl, sym, ap, ◌∙◌, subst, slice_index_or, slice_set, ◌<◌, cond, nat_eq, Option, true, arith, max, IfSome, IfNone, AreOn, KnownOn, opened, PageLengths, answers_as, ReadsAtMost, versions_on, get, number_of}
use Rattle.std.proofs.Common.{is_some}
use Rattle.image_check.proofs.Looks.{looked_none, looked_failed, looked_put}
use Rattle.image_check.proofs.FilledOnes.{raised_on, opened_off, fills_on, fills_none, fills_past, off_number}
use Rattle.image_check.proofs.lengths.Lengths.raise.Goals as goal

pub returns-in_default-clause-raised : goal.returns-in_default-clause-raised
returns-in_default-clause-raised g c log updates finds versions kept =
    let pages = versions_on c.args.found.now.log.geometry (g.S.Site.state c.args.site.now).image in
    let u = c.args.update.now in
    let none : number_of u ≡ None = sym c.number_of.ensures ∙ c.in_default.is in
    fills_none pages (opened log pages updates) _ (number_of u) c.args.self.now.pages none (λ m off. opened_off log pages updates u m off) kept

pub returns-in-Ok-None-clause-raised : goal.returns-in-Ok-None-clause-raised
returns-in-Ok-None-clause-raised g c log updates finds versions kept =
    let pages = versions_on c.args.found.now.log.geometry (g.S.Site.state c.args.site.now).image in
    let u = c.args.update.now in
    let on : number_of u ≡ Some c.in-Some.number = sym c.number_of.ensures ∙ c.in-Some.is in
    let past = subst (KnownOn pages (opened log pages updates) (c.in-Some.number / 32)) c.in-Ok-None.field-0-is (c.in-Ok-None.ensures.lengths (opened log pages updates) finds versions kept) in
    fills_past pages (opened log pages updates) _ (number_of u) c.in-Some.number c.args.self.now.pages on past (λ m off. opened_off log pages updates u m off) kept

pub returns-clause-raised : goal.returns-clause-raised
returns-clause-raised g c log updates finds versions kept =
    let pages = versions_on c.args.found.now.log.geometry (g.S.Site.state c.args.site.now).image in
    let u = c.args.update.now in
    let on : PageLengths = c.in-Ok-Some.lengths in
    let n : ℕ = c.in-Some.number in
    let is : number_of u ≡ Some n = sym c.number_of.ensures ∙ c.in-Some.is in
    let known = subst (KnownOn pages (opened log pages updates) (n / 32)) c.in-Ok-Some.field-0-is (c.in-Ok-Some.ensures.lengths (opened log pages updates) finds versions kept) in
    let size : length on.lengths ≡ 32 = search rules in
    let now : c.raised-raised.result ≡ record { lsn = on.lsn; lengths = slice_set on.lengths (n % 32) (max (slice_index_or on.lengths (n % 32) 0) c.length_before.result) } = c.raised-raised.ensures in
    let same = subst (λ (k : ℕ). c.raised-raised.result ≡ record { lsn = on.lsn; lengths = slice_set on.lengths (n % 32) (max (slice_index_or on.lengths (n % 32) 0) k) }) c.length_before.ensures now in
    let raised = subst (AreOn pages (opened log pages (updates ++ u ∷ [])) (n / 32)) (sym same) (raised_on log pages updates u (n / 32) n on is refl size known.1) in
    answers_as c.put.result _ _ (λ fits says. fills_on pages (opened log pages (updates ++ u ∷ [])) (number_of u) n c.put.new.self.pages fits is known.0 (says pages (opened log pages updates) (opened log pages (updates ++ u ∷ [])) kept raised
    (λ m other. opened_off log pages updates u m (off_number (number_of u) m n is (λ here. other (ap (λ (k : ℕ). k / 32) here)))))) c.put.ensures.keeps.done

pub returns-in_default-clause-looks : goal.returns-in_default-clause-looks
returns-in_default-clause-looks g c = looked_none true c.args.found.now.log.geometry.pages c.args.self.now.pages (g.S.Site.state c.args.site.now) (g.S.Site.state c.args.site.now) (record { log = omega arith; pages = omega arith })

pub returns-in-Ok-None-clause-looks : goal.returns-in-Ok-None-clause-looks
returns-in-Ok-None-clause-looks g c =
    looked_none true c.args.found.now.log.geometry.pages c.args.self.now.pages (g.S.Site.state c.args.site.now) (g.S.Site.state c.of_page.new.site) (subst (λ (o : Option PageLengths). IfNone o (ReadsAtMost 0 0 (g.S.Site.state c.args.site.now) (g.S.Site.state c.of_page.new.site))) c.in-Ok-None.field-0-is c.in-Ok-None.ensures.none)

pub returns-in-Err-clause-looks : goal.returns-in-Err-clause-looks
returns-in-Err-clause-looks g c = looked_failed c.in-Err.stop c.args.found.now.log.geometry.pages c.args.self.now.pages c.args.self.now.pages (g.S.Site.state c.args.site.now) (g.S.Site.state c.of_page.new.site) c.in-Err.ensures.looks

pub returns-clause-looks : goal.returns-clause-looks
returns-clause-looks g c =
    let some = subst (λ (o : Option PageLengths). IfSome o (λ lengths. ((c.in-Some.number / 32) < c.args.found.now.log.geometry.pages) × ReadsAtMost 0 (cond (is_some (get nat_eq c.args.self.now.pages (c.in-Some.number / 32))) 0 1) (g.S.Site.state c.args.site.now) (g.S.Site.state c.of_page.new.site))) c.in-Ok-Some.field-0-is c.in-Ok-Some.ensures.some in
    looked_put c.put.result c.args.found.now.log.geometry.pages (c.in-Some.number / 32) c.raised-raised.result c.args.self.now.pages c.put.new.self.pages (g.S.Site.state c.args.site.now) (g.S.Site.state c.of_page.new.site) some.0 some.1 c.put.ensures.puts
