-- Devices are read in one way.
use Rattle.std.proofs.lemmas.Grind.{common_steps}
use Rattle.image_check.proofs.Names.{◌≡◌, ℕ, zero, suc, ◌+◌, ◌-◌, ◌≤◌, min, List, [], ◌∷◌, length, drop, refl, sym, ap, ◌∙◌, subst, arith, cases_lt, length-map, length-drop, AllByRecursion, Master, log_shape, units_on, OneReading, AReading, SoundFailsNone, one_size, Reading, Rule, LogRecord, HasBlocks, IsLive, hi_of, units_from, Image, Geometry}
use Rattle.std.specs.Prelude.{map}
use Rattle.sealed_ring.specs.declared.slots.Shape.{Shape}
use Rattle.sealed_ring.proofs.Heads.{unit_is}
use Rattle.sealed_ring.proofs.Units.{live_count}
use Rattle.log_records.specs.Spelling.{block, AreBlock, IsBlock}
use Rattle.checkpoint.specs.Laws.{OneNewest}
use Rattle.image_form.proofs.LiveUnits.{all_from}
use Rattle.log_store.proofs.OneLog.{one_blocks}

-- One reading.

held_once : (g : Geometry) (kept : ℕ) (a b : List (List LogRecord)) (image : Image) → HasBlocks g kept a image → HasBlocks g kept b image → a ≡ b
held_once g kept a b image first second = grind (arith, common_steps, one_blocks)

pub reads_once : OneNewest → OneReading
reads_once newest image a b first second =
    let sizes : a.g ≡ b.g = one_size a.g b.g image first.formed.sizes second.formed.sizes in
    let masters : a.master ≡ b.master = newest image a.master b.master first.formed.master second.formed.master in
    let moved : HasBlocks a.g a.master.kept b.blocks image = subst (λ (m : Master). HasBlocks a.g m.kept b.blocks image) (sym masters) (subst (λ (g : Geometry). HasBlocks g b.master.kept b.blocks image) (sym sizes) second.blocks) in
    let blocks : a.blocks ≡ b.blocks = held_once a.g a.master.kept a.blocks b.blocks image first.blocks moved in
    (λ i. record { g = sizes i; master = masters i; blocks = blocks i })

-- There is one.

drop_units : (s : Shape) (c : List ℕ) (d first k : ℕ) → drop d (units_from s c first (d + k)) ≡ units_from s c (first + d) k
drop_units s c zero first k =
    let here : first ≡ first + 0 = omega arith in
    let all : 0 + k ≡ k = omega arith in
    (λ i. units_from s c (here i) (all i))
drop_units s c (suc d) first k =
    let all : suc d + k ≡ suc (d + k) = omega arith in
    let there : first + 1 + d ≡ first + suc d = omega arith in
    ap (λ (n : ℕ). drop (suc d) (units_from s c first n)) all ∙ drop_units s c d (first + 1) k ∙ ap (λ (n : ℕ). units_from s c n k) there

lists_of : (contents : List (List ℕ)) → AllByRecursion (λ content. (records : List LogRecord) × IsBlock content records) contents → (blocks : List (List LogRecord)) × AllByRecursion AreBlock blocks × (contents ≡ map block blocks)
lists_of [] all = ([], tt, refl)
lists_of (content ∷ contents) all =
    let later = lists_of contents all.1 in
    (all.0.0 ∷ later.0, (all.0.1.are_block, later.1), (λ i. all.0.1.spelled i ∷ later.2 i))

pub a_reading : AReading
a_reading g m image formed live =
    let s : Shape = log_shape g in
    let c : List ℕ = image.log in
    let hi : ℕ = hi_of s c in
    let k : ℕ = hi - m.kept in
    let d : ℕ = min hi (g.blocks - 1) - k in
    let sixteen = formed.sizes.limits.blocks in
    let low = live.kept_before_redo in
    let high = live.redo_before_end in
    let few = live.kept_is_live in
    let whole : min hi (g.blocks - 1) ≡ d + k = omega (arith, low, high, few, sixteen) in
    let first : hi - (g.blocks - 1) + d ≡ m.kept = omega (arith, low, high, few, sixteen) in
    let part : drop d (units_on s image).live ≡ units_from s c m.kept k =
    ap (λ (n : ℕ). drop d (units_from s c (hi - (g.blocks - 1)) n)) whole ∙ drop_units s c d (hi - (g.blocks - 1)) k ∙ ap (λ (n : ℕ). units_from s c n k) first in
    let all : AllByRecursion (λ content. (records : List LogRecord) × IsBlock content records) (units_from s c m.kept k) = all_from (λ content. (records : List LogRecord) × IsBlock content records) s c m.kept k (λ i less.
    let n : ℕ = m.kept + i in
    let lives : IsLive s hi n = record { below = omega (arith, less); near = omega (arith, less, few, sixteen) } in
    let found = formed.blocks n lives (omega arith) in
    (found.0, subst (λ (content : List ℕ). IsBlock content found.0) (unit_is s hi n c (omega (arith, sixteen)) refl lives) found.1.block)) in
    let found = lists_of (units_from s c m.kept k) all in
    let units : drop d (units_on s image).live ≡ map block found.0 = part ∙ found.2 in
    let size : length (map block found.0) ≡ length found.0 = length-map found.0 block in
    let dropped = length-drop d (units_on s image).live in
    let same = ap length units in
    let lived = live_count s c in
    let count : length found.0 ≡ k = omega (arith, size, dropped, same, lived, whole) in (
      found.0,
      record {
        formed = formed;
        live = live;
        blocks = record {
          form = formed.rings.blocks;
          next = omega (arith, count, low, high);
          few = omega (arith, count, few);
          are_blocks = found.1;
          units =
              let at : length (units_on s image).live - length found.0 ≡ d = omega (arith, count, lived, whole) in
              ap (λ (n : ℕ). drop n (units_on s image).live) at ∙ units;
        };
      },
    )

-- Sound devices fail no rule.

-- no rule has another number
pub no_rule : (i : ℕ) (r : Reading) (image : Image) → (3 ≤ i → i ≤ 12 → ⊥) → Rule i r image
no_rule i r image outside = grind (arith, common_steps)

pub rule_past : (i : ℕ) (r : Reading) (image : Image) → 13 ≤ i → Rule i r image
rule_past i r image past = no_rule i r image (λ low high. omega (arith, past, high))

pub sound_fails_none : OneNewest → SoundFailsNone
sound_fails_none newest image records commits zero sound fails = grind (arith)
sound_fails_none newest image records commits (suc zero) sound fails = grind (arith)
sound_fails_none newest image records commits (suc (suc zero)) sound fails = grind (arith, one_size)
sound_fails_none newest image records commits (suc (suc (suc i))) sound fails = grind (arith, reads_once, cases_lt, rule_past)
