use Rattle.sealed_ring.proofs.Names.{◌≡◌, ℕ, ◌*◌, ◌%◌, [], ◌++◌, length, take, drop, true≢false, sym, ◌∙◌, ap, subst, arith, length-take-le, region, place, HaveNumbers, StandInRow}
use Rattle.sealed_ring.proofs.InRow.{slots_fit, row_long, row_inside, numbers_in_front, numbers_of_front, numbers_stand, numbers_read, contents_read}
use Rattle.sealed_ring.proofs.ring.Ring.read_units.Goals as goal

pub read_at-requires : goal.read_at-requires
read_at-requires g c =
    let s = c.args.self.now.shape in
    let count = c.count_in_row-count.result in
    let long = length-take-le (count * s.stride) c.args.into.now (slots_fit s c.args.self.now.hi c.args.n (length c.args.into.now) count c.count_in_row-count.ensures) in
    let row = row_inside s (c.args.n % s.slots) count (omega (arith, c.count_in_row-count.ensures)) in
    omega (arith, long, row, c.requires.usable.fits.inside)

pub returns-then-not-have_numbers-clause-read_foreign : goal.returns-then-not-have_numbers-clause-read_foreign
returns-then-not-have_numbers-clause-read_foreign g c says have =
    let s = c.args.self.now.shape in
    let count = c.count_in_row-count.result in
    let read = c.read_at.new.into in
    let rest = drop (count * s.stride) c.args.into.now in
    let long : length read ≡ count * s.stride = row_long s c.args.self.now.hi c.args.n count c.args.into.now read c.count_in_row-count.ensures c.read_at.auto.into in
    let own = numbers_of_front s count read rest c.requires.usable.fits.stride long c.args.n (subst (λ (k : ℕ). HaveNumbers s c.args.n k (read ++ rest)) (sym c.count_in_row-count.ensures) have) in
    true≢false (sym (c.have_numbers.ensures.1 own) ∙ c.if-not-have_numbers.true)

pub returns-then-not-have_numbers-clause-foreign : goal.returns-then-not-have_numbers-clause-foreign
returns-then-not-have_numbers-clause-foreign g c says honest stand =
    let s = c.args.self.now.shape in
    let there = region s (g.S.Site.state c.args.site.now) in
    let count = c.count_in_row-count.result in
    let read = c.read_at.new.into in
    let long : length read ≡ count * s.stride = row_long s c.args.self.now.hi c.args.n count c.args.into.now read c.count_in_row-count.ensures c.read_at.auto.into in
    let is : read ≡ take (count * s.stride) (drop (place s (c.args.n % s.slots)) there) =
    (c.in-Ok.ensures.read honest).gives ∙ ap (λ (k : ℕ). take k (drop (place s (c.args.n % s.slots)) there)) long in
    let own = numbers_read s count read [] c.requires.usable.fits.stride long there c.args.n (omega (arith, c.count_in_row-count.ensures)) is
    (subst (λ (k : ℕ). StandInRow s c.args.n k there) (sym c.count_in_row-count.ensures) stand) in
    true≢false (sym (c.have_numbers.ensures.1 own) ∙ c.if-not-have_numbers.true)

pub returns-clause-units : goal.returns-clause-units
returns-clause-units g c honest hi =
    let s = c.args.self.now.shape in
    let there = region s (g.S.Site.state c.args.site.now) in
    let count = c.count_in_row-count.result in
    let read = c.read_at.new.into in
    let rest = drop (count * s.stride) c.args.into.now in
    let long : length read ≡ count * s.stride = row_long s c.args.self.now.hi c.args.n count c.args.into.now read c.count_in_row-count.ensures c.read_at.auto.into in
    let is : read ≡ take (count * s.stride) (drop (place s (c.args.n % s.slots)) there) =
    (c.in-Ok.ensures.read honest).gives ∙ ap (λ (k : ℕ). take k (drop (place s (c.args.n % s.slots)) there)) long in
    contents_read s count read rest c.requires.usable.fits.stride long there c.args.n (omega (arith, c.count_in_row-count.ensures)) is
    c.args.self.now.hi c.requires.usable.fits.slots hi c.requires.live (omega (arith, c.count_in_row-count.ensures, c.requires.live.below))

pub returns-clause-read_own : goal.returns-clause-read_own
returns-clause-read_own g c =
    let s = c.args.self.now.shape in
    let count = c.count_in_row-count.result in
    let read = c.read_at.new.into in
    let long : length read ≡ count * s.stride = row_long s c.args.self.now.hi c.args.n count c.args.into.now read c.count_in_row-count.ensures c.read_at.auto.into in
    numbers_in_front s count read (drop (count * s.stride) c.args.into.now) c.requires.usable.fits.stride long c.args.n (c.have_numbers.ensures.0 c.if-not-have_numbers.false)

pub returns-clause-own : goal.returns-clause-own
returns-clause-own g c honest =
    let s = c.args.self.now.shape in
    let there = region s (g.S.Site.state c.args.site.now) in
    let count = c.count_in_row-count.result in
    let read = c.read_at.new.into in
    let long : length read ≡ count * s.stride = row_long s c.args.self.now.hi c.args.n count c.args.into.now read c.count_in_row-count.ensures c.read_at.auto.into in
    let is : read ≡ take (count * s.stride) (drop (place s (c.args.n % s.slots)) there) =
    (c.in-Ok.ensures.read honest).gives ∙ ap (λ (k : ℕ). take k (drop (place s (c.args.n % s.slots)) there)) long in
    numbers_stand s count read [] c.requires.usable.fits.stride long there c.args.n (omega (arith, c.count_in_row-count.ensures)) is (c.have_numbers.ensures.0 c.if-not-have_numbers.false)
