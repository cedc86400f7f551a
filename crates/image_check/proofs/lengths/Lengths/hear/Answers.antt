use Rattle.image_check.proofs.Names.{rules, ◌≡◌, ◌%◌, ◌/◌, ◌++◌, ◌∷◌, [], ℕ, Some, None, cond, length, refl, sym, ap, ◌∙◌, subst, slice_set, ◌<◌, nat_eq, Option, true, arith, IfSome, IfNone, AreOn, KnownOn, filled, PageLengths, answers_as, ReadsAtMost, versions_on, get, Entry, number_of}
use Rattle.std.proofs.Common.{is_some}
use Rattle.std.specs.Prelude.{nat_lt}
use Rattle.image_check.proofs.Looks.{looked_none, looked_failed, looked_put}
use Rattle.image_check.proofs.FilledOnes.{after_on, filled_off, fills_on, fills_none, fills_past, off_number}
use Rattle.image_check.proofs.lengths.Lengths.hear.Goals as goal

pub returns-in_default-clause-heard : goal.returns-in_default-clause-heard
returns-in_default-clause-heard g c records finds versions kept =
    let pages = versions_on c.args.found.now.log.geometry (g.S.Site.state c.args.site.now).image in
    let e : Entry = record { lsn = c.args.lsn; rec = c.args.rec.now } in
    let none : number_of c.args.rec.now ≡ None = sym c.number_of.ensures ∙ c.in_default.is in
    fills_none pages (filled pages records) _ (number_of c.args.rec.now) c.args.self.now.pages none (λ m off. filled_off pages records e m off) kept

pub returns-in-Ok-None-clause-heard : goal.returns-in-Ok-None-clause-heard
returns-in-Ok-None-clause-heard g c records finds versions kept =
    let pages = versions_on c.args.found.now.log.geometry (g.S.Site.state c.args.site.now).image in
    let e : Entry = record { lsn = c.args.lsn; rec = c.args.rec.now } in
    let on : number_of c.args.rec.now ≡ Some c.in-Some.number = sym c.number_of.ensures ∙ c.in-Some.is in
    let past = subst (KnownOn pages (filled pages records) (c.in-Some.number / 32)) c.in-Ok-None.field-0-is (c.in-Ok-None.ensures.lengths (filled pages records) finds versions kept) in
    fills_past pages (filled pages records) _ (number_of c.args.rec.now) c.in-Some.number c.args.self.now.pages on past (λ m off. filled_off pages records e m off) kept

pub returns-clause-heard : goal.returns-clause-heard
returns-clause-heard g c records finds versions kept =
    let pages = versions_on c.args.found.now.log.geometry (g.S.Site.state c.args.site.now).image in
    let e : Entry = record { lsn = c.args.lsn; rec = c.args.rec.now } in
    let on : PageLengths = c.in-Ok-Some.lengths in
    let n : ℕ = c.in-Some.number in
    let is : number_of c.args.rec.now ≡ Some n = sym c.number_of.ensures ∙ c.in-Some.is in
    let known = subst (KnownOn pages (filled pages records) (n / 32)) c.in-Ok-Some.field-0-is (c.in-Ok-Some.ensures.lengths (filled pages records) finds versions kept) in
    let size : length on.lengths ≡ 32 = search rules in
    let now : c.after-after.result ≡ cond (nat_lt on.lsn c.args.lsn) (record { lsn = on.lsn; lengths = slice_set on.lengths (n % 32) c.length_after.result }) on = c.after-after.ensures in
    let same = subst (λ (k : ℕ). c.after-after.result ≡ cond (nat_lt on.lsn c.args.lsn) (record { lsn = on.lsn; lengths = slice_set on.lengths (n % 32) k }) on) c.length_after.ensures now in
    let after = subst (AreOn pages (filled pages (records ++ e ∷ [])) (n / 32)) (sym same) (after_on pages records e (n / 32) n on is refl size known.1) in
    answers_as c.put.result _ _ (λ fits says. fills_on pages (filled pages (records ++ e ∷ [])) (number_of c.args.rec.now) n c.put.new.self.pages fits is known.0 (says pages (filled pages records) (filled pages (records ++ e ∷ [])) kept after
    (λ m other. filled_off pages records e m (off_number (number_of c.args.rec.now) m n is (λ here. other (ap (λ (k : ℕ). k / 32) here)))))) c.put.ensures.keeps.done

pub returns-in_default-clause-looks : goal.returns-in_default-clause-looks
returns-in_default-clause-looks g c = looked_none true c.args.found.now.log.geometry.pages c.args.self.now.pages (g.S.Site.state c.args.site.now) (g.S.Site.state c.args.site.now) (record { log = omega arith; pages = omega arith })

pub returns-in-Ok-None-clause-looks : goal.returns-in-Ok-None-clause-looks
returns-in-Ok-None-clause-looks g c =
    looked_none true c.args.found.now.log.geometry.pages c.args.self.now.pages (g.S.Site.state c.args.site.now) (g.S.Site.state c.of_page.new.site) (subst (λ (o : Option PageLengths). IfNone o (ReadsAtMost 0 0 (g.S.Site.state c.args.site.now) (g.S.Site.state c.of_page.new.site))) c.in-Ok-None.field-0-is c.in-Ok-None.ensures.none)

pub returns-in-Err-clause-looks : goal.returns-in-Err-clause-looks
returns-in-Err-clause-looks g c = looked_failed c.in-Err.stop c.args.found.now.log.geometry.pages c.args.self.now.pages c.args.self.now.pages (g.S.Site.state c.args.site.now) (g.S.Site.state c.of_page.new.site) c.in-Err.ensures.looks

pub returns-clause-looks : goal.returns-clause-looks
returns-clause-looks g c =
    let some = subst (λ (o : Option PageLengths). IfSome o (λ lengths. ((c.in-Some.number / 32) < c.args.found.now.log.geometry.pages) × ReadsAtMost 0 (cond (is_some (get nat_eq c.args.self.now.pages (c.in-Some.number / 32))) 0 1) (g.S.Site.state c.args.site.now) (g.S.Site.state c.of_page.new.site))) c.in-Ok-Some.field-0-is c.in-Ok-Some.ensures.some in
    looked_put c.put.result c.args.found.now.log.geometry.pages (c.in-Some.number / 32) c.after-after.result c.args.self.now.pages c.put.new.self.pages (g.S.Site.state c.args.site.now) (g.S.Site.state c.of_page.new.site) some.0 some.1 c.put.ensures.puts
