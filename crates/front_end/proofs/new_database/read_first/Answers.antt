use Rattle.std.proofs.Common.{◌≡◌, ◌+◌, ℕ, length, rules, subst, arith}
use Rattle.site.specs.State.{content_of}
use Rattle.front_end.specs.New.{AreZero, IsFirst}
use Rattle.front_end.proofs.Zeros.{zeros_read, first_read}
use Rattle.front_end.proofs.new_database.read_first.Goals as goal

pub returns-in-Some-clause-some : goal.returns-in-Some-clause-some
returns-in-Some-clause-some g c honest =
    let content = content_of c.args.dev (g.S.Site.state c.args.site.now).image in
    let size : length c.read_at.new.into ≡ length c.args.into.now = search rules in
    subst (λ (n : ℕ). IsFirst content c.args.at (c.args.at + n) (c.args.at + c.in-Some.place)) size
    (first_read content c.read_at.new.into c.args.at c.in-Some.place (c.in_ok-read_at.ensures.read honest).gives c.in-Some.ensures.some)

pub returns-in-None-clause-none : goal.returns-in-None-clause-none
returns-in-None-clause-none g c honest =
    let content = content_of c.args.dev (g.S.Site.state c.args.site.now).image in
    let size : length c.read_at.new.into ≡ length c.args.into.now = search rules in
    subst (λ (n : ℕ). AreZero content c.args.at (c.args.at + n)) size
    (zeros_read content c.read_at.new.into c.args.at (length c.read_at.new.into) (c.in_ok-read_at.ensures.read honest).gives (omega arith) c.in-None.ensures.none)
