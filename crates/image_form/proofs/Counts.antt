-- Calls that only read, by how often they do.
use Rattle.image_form.proofs.Names.{◌≡◌, ◌≢◌, ℕ, ◌+◌, ◌*◌, ◌/◌, ◌≤◌, Bool, true, false, true≢false, refl, ap, sym, ◌∙◌, subst, arith, Result, log_shape, group_shape, segment_shape, ReadsAtMost, ReadsBySizes, HasSizes, Shape, Preserves, State, reads_of, Geometry, Log, Flash, Disk, Stop}
use Rattle.site.specs.declared.outside.Dev.{Dev}
use Rattle.sealed_ring.specs.Reading.{ReadsFrom}
use Rattle.image_form.proofs.FirstRule.{one_size}

-- one call behind another, and a greater bound
pub few_then : (l p l' p' m n : ℕ) (a b c : State) → l + l' ≤ m → p + p' ≤ n → ReadsAtMost l p a b → ReadsAtMost l' p' b c → ReadsAtMost m n a c
few_then l p l' p' m n a b c logs pages first second = grind arith

pub few_more : (l p m n : ℕ) (a b : State) → l ≤ m → p ≤ n → ReadsAtMost l p a b → ReadsAtMost m n a b
few_more l p m n a b logs pages few = grind arith

-- what is read of one device

abbrev of_log : Dev → ℕ → ℕ
of_log Log n = n
of_log Flash n = 0
of_log Disk n = 0

abbrev of_pages : Dev → ℕ → ℕ
of_pages Log n = 0
of_pages Flash n = n
of_pages Disk n = n

abbrev is_log : Dev → Bool
is_log Log = true
is_log Flash = false
is_log Disk = false

abbrev is_flash : Dev → Bool
is_flash Log = false
is_flash Flash = true
is_flash Disk = false

apart : (test : Dev → Bool) (d e : Dev) → test d ≡ true → test e ≡ false → d ≢ e
apart test d e is isnt same = true≢false (sym is ∙ ap test same ∙ isnt)

by_device : (dev : Dev) (n : ℕ) (a b : State) → reads_of dev b ≤ reads_of dev a + n → ((d : Dev) → d ≢ dev → reads_of d b ≡ reads_of d a) → ReadsAtMost (of_log dev n) (of_pages dev n) a b
by_device Log n a b here others =
    let flash = others Flash (λ same. apart is_flash Flash Log refl refl same) in
    let disk = others Disk (λ same. apart is_log Log Disk refl refl (sym same)) in
    record { log = here; pages = omega (arith, flash, disk) }
by_device Flash n a b here others =
    let log = others Log (λ same. apart is_log Log Flash refl refl same) in
    let disk = others Disk (λ same. apart is_flash Flash Disk refl refl (sym same)) in
    record { log = omega (arith, log); pages = omega (arith, here, disk) }
by_device Disk n a b here others =
    let log = others Log (λ same. apart is_log Log Disk refl refl same) in
    let flash = others Flash (λ same. apart is_flash Flash Disk refl refl same) in
    record { log = omega (arith, log); pages = omega (arith, here, flash) }

pub log_few : {T : Type 0} (r : Result T Stop) (dev : Dev) (n k : ℕ) (a b : State) → dev ≡ Log → n ≤ k → ReadsFrom r dev n a b → ReadsAtMost k 0 a b
log_few r dev n k a b is less from = few_more n 0 k 0 a b less (omega arith) (subst (λ (d : Dev). ReadsAtMost (of_log d n) (of_pages d n) a b) is (by_device dev n a b from.reads from.others))

pub flash_few : {T : Type 0} (r : Result T Stop) (dev : Dev) (n k : ℕ) (a b : State) → dev ≡ Flash → n ≤ k → ReadsFrom r dev n a b → ReadsAtMost 0 k a b
flash_few r dev n k a b is less from = few_more 0 n 0 k a b (omega arith) less (subst (λ (d : Dev). ReadsAtMost (of_log d n) (of_pages d n) a b) is (by_device dev n a b from.reads from.others))

pub disk_few : (n k : ℕ) (a b : State) → n ≤ k → reads_of Disk b ≤ reads_of Disk a + n → ((d : Dev) → d ≢ Disk → reads_of d b ≡ reads_of d a) → ReadsAtMost 0 k a b
disk_few n k a b less here others = few_more 0 n 0 k a b (omega arith) less (by_device Disk n a b here others)

-- by sizes

pub by_sizes : (logs pages : Geometry → ℕ) (g : Geometry) (a b : State) → HasSizes g a.image → ReadsAtMost (logs g) (pages g) a b → ReadsBySizes logs pages a b
by_sizes logs pages g a b sizes few = record {
  sizes = λ other has. subst (λ (x : Geometry). ReadsAtMost (logs x) (pages x) a b) (one_size g other a.image sizes has) few;
  none = λ off. absurd (off g sizes);
}

pub by_no_sizes : (logs pages : Geometry → ℕ) (a : State) → ((g : Geometry) → HasSizes g a.image → ⊥) → ReadsBySizes logs pages a a
by_no_sizes logs pages a off = record { sizes = λ g has. absurd (off g has); none = λ none d. refl }

pub by_more : (logs pages more further : Geometry → ℕ) (a b : State) → ((g : Geometry) → logs g ≤ more g) → ((g : Geometry) → pages g ≤ further g) → ReadsBySizes logs pages a b → ReadsBySizes more further a b
by_more logs pages more further a b less fewer by = record { sizes = λ g has. few_more (logs g) (pages g) (more g) (further g) a b (less g) (fewer g) (by.sizes g has); none = by.none }

-- work behind that which found the sizes
pub by_then : (logs pages more further : Geometry → ℕ) (g : Geometry) (l p : ℕ) (a b c : State) → Preserves a b → HasSizes g b.image → logs g + l ≤ more g → pages g + p ≤ further g →
    ReadsBySizes logs pages a b → ReadsAtMost l p b c → ReadsBySizes more further a c
by_then logs pages more further g l p a b c goes sizes less fewer by few =
    let before : HasSizes g a.image = record {
      limits = sizes.limits;
      lengths = record { log = sym (goes.sizes Log) ∙ sizes.lengths.log; flash = sym (goes.sizes Flash) ∙ sizes.lengths.flash; disk = sym (goes.sizes Disk) ∙ sizes.lengths.disk };
    } in
    by_sizes more further g a c before (few_then (logs g) (pages g) l p (more g) (further g) a b c less fewer (by.sizes g before) few)

-- the four rings, one after the other

module _ (g : Geometry) (s0 s1 s2 s3 s4 : State) where
  abbrev Few : State → Type 0
  Few s = ReadsAtMost (2 * g.blocks + 6) (2 * g.groups + 2 * (g.groups / 4 + 3)) s0 s

  first : {T : Type 0} (r : Result T Stop) → ReadsFrom r Log 6 s0 s1 → ReadsAtMost 6 0 s0 s1
  first r from = log_few r Log 6 6 s0 s1 refl (omega arith) from

  pub one_ring : {T : Type 0} (r : Result T Stop) → ReadsFrom r Log 6 s0 s1 → Few s1
  one_ring r from = few_more 6 0 (2 * g.blocks + 6) (2 * g.groups + 2 * (g.groups / 4 + 3)) s0 s1 (omega arith) (omega arith) (first r from)

  second : {T U : Type 0} (r : Result T Stop) (q : Result U Stop) (blocks : Shape) → blocks ≡ log_shape g → ReadsFrom r Log 6 s0 s1 → ReadsFrom q blocks.dev (2 * blocks.slots) s1 s2 → ReadsAtMost (2 * g.blocks + 6) 0 s0 s2
  second r q blocks is from next =
      let slots = ap (λ (s : Shape). s.slots) is in
      few_then 6 0 (2 * g.blocks) 0 (2 * g.blocks + 6) 0 s0 s1 s2 (omega arith) (omega arith) (first r from)
      (log_few q blocks.dev (2 * blocks.slots) (2 * g.blocks) s1 s2 (ap (λ (s : Shape). s.dev) is) (omega (arith, slots)) next)

  pub two_rings : {T U : Type 0} (r : Result T Stop) (q : Result U Stop) (blocks : Shape) → blocks ≡ log_shape g → ReadsFrom r Log 6 s0 s1 → ReadsFrom q blocks.dev (2 * blocks.slots) s1 s2 → Few s2
  two_rings r q blocks is from next = few_more (2 * g.blocks + 6) 0 (2 * g.blocks + 6) (2 * g.groups + 2 * (g.groups / 4 + 3)) s0 s2 (omega arith) (omega arith) (second r q blocks is from next)

  third : {T U V : Type 0} (r : Result T Stop) (q : Result U Stop) (p : Result V Stop) (blocks groups : Shape) → blocks ≡ log_shape g → groups ≡ group_shape g → ReadsFrom r Log 6 s0 s1 →
      ReadsFrom q blocks.dev (2 * blocks.slots) s1 s2 → ReadsFrom p groups.dev (2 * groups.slots) s2 s3 → ReadsAtMost (2 * g.blocks + 6) (2 * g.groups) s0 s3
  third r q p blocks groups is are from next behind =
      let slots = ap (λ (s : Shape). s.slots) are in
      few_then (2 * g.blocks + 6) 0 0 (2 * g.groups) (2 * g.blocks + 6) (2 * g.groups) s0 s2 s3 (omega arith) (omega arith) (second r q blocks is from next)
      (flash_few p groups.dev (2 * groups.slots) (2 * g.groups) s2 s3 (ap (λ (s : Shape). s.dev) are) (omega (arith, slots)) behind)

  pub three_rings : {T U V : Type 0} (r : Result T Stop) (q : Result U Stop) (p : Result V Stop) (blocks groups : Shape) → blocks ≡ log_shape g → groups ≡ group_shape g → ReadsFrom r Log 6 s0 s1 →
      ReadsFrom q blocks.dev (2 * blocks.slots) s1 s2 → ReadsFrom p groups.dev (2 * groups.slots) s2 s3 → Few s3
  three_rings r q p blocks groups is are from next behind =
      few_more (2 * g.blocks + 6) (2 * g.groups) (2 * g.blocks + 6) (2 * g.groups + 2 * (g.groups / 4 + 3)) s0 s3 (omega arith) (omega arith) (third r q p blocks groups is are from next behind)

  pub four_rings : {T U V W : Type 0} (r : Result T Stop) (q : Result U Stop) (p : Result V Stop) (o : Result W Stop) (blocks groups segments : Shape) → blocks ≡ log_shape g → groups ≡ group_shape g → segments ≡ segment_shape g →
      ReadsFrom r Log 6 s0 s1 → ReadsFrom q blocks.dev (2 * blocks.slots) s1 s2 → ReadsFrom p groups.dev (2 * groups.slots) s2 s3 → ReadsFrom o segments.dev (2 * segments.slots) s3 s4 → Few s4
  four_rings r q p o blocks groups segments is are last from next behind end =
      let slots = ap (λ (s : Shape). s.slots) last in
      few_then (2 * g.blocks + 6) (2 * g.groups) 0 (2 * (g.groups / 4 + 3)) (2 * g.blocks + 6) (2 * g.groups + 2 * (g.groups / 4 + 3)) s0 s3 s4 (omega arith) (omega arith) (third r q p blocks groups is are from next behind)
      (flash_few o segments.dev (2 * segments.slots) (2 * (g.groups / 4 + 3)) s3 s4 (ap (λ (s : Shape). s.dev) last) (omega (arith, slots)) end)
