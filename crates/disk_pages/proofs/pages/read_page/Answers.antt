use Rattle.std.proofs.Common.{◌≡◌, ◌∙◌, ℕ, length, take, drop, ap, arith}
use Rattle.disk_pages.proofs.pages.read_page.Goals as goal

pub returns-clause-read : goal.returns-clause-read
returns-clause-read g c honest =
    let disk = (g.S.Site.state c.args.site.now).image.disk in
    let long : length c.read_at.new.into ≡ 4096 = omega (arith, c.requires.room) in
    (c.in-Ok.ensures.read honest).gives ∙ ap (λ (n : ℕ). take n (drop c.place_of.result disk)) long ∙ ap (λ (p : ℕ). take 4096 (drop p disk)) c.place_of.ensures
