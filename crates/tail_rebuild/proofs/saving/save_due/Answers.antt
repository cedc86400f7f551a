use Rattle.tail_rebuild.proofs.Names.{◌≡◌, ◌≢◌, Bool, false, if◌then◌else◌, inl, inr, ⊎_elim, ℕ, ◌+◌, ◌*◌, true, sym, ◌∙◌, ap, subst, arith, length, eq-eqb, ne_eqb, spelling_of_all, segment_form, Shape, stays_honest, changes_in_sequence, err_again, HasLengths, ChangesOnly, Flash, is_due}
use Rattle.std.proofs.Common.{Err}
use Rattle.tail_rebuild.proofs.Standing.{fits_again}
use Rattle.tail_rebuild.proofs.Save.{none_saved, read_failed, finds_mid, ready_mid, moments, save_gaps, reached, stands_behind, unchanged_changes, finds_later, both_found}
use Rattle.tail_rebuild.proofs.saving.save_due.Goals as goal

-- A segment is due exactly where the numbers of the rings say so; a save takes what it takes where it is due.

not_due : (groups segments at at2 : ℕ) → at ≡ groups → at2 ≡ segments → at ≢ 4 * at2 + 4 → is_due groups segments ≡ false
not_due groups segments at at2 is is2 other = ne_eqb groups (4 * segments + 4) (λ same. other (is ∙ same ∙ ap (λ (n : ℕ). 4 * n + 4) (sym is2)))

now_due : (groups segments at at2 : ℕ) → at ≡ groups → at2 ≡ segments → at ≡ 4 * at2 + 4 → is_due groups segments ≡ true
now_due groups segments at at2 is is2 same = eq-eqb groups (4 * segments + 4) (sym is ∙ same ∙ ap (λ (n : ℕ). 4 * n + 4) is2)

taken : (n : ℕ) {due is : Bool} → due ≡ is → (if due then n else 0) ≡ (if is then n else 0)
taken n same = ap (λ (b : Bool). if b then n else 0) same

pub returns-then-hi-clause-saves : goal.returns-then-hi-clause-saves
returns-then-hi-clause-saves g c first stand saved stands =
    none_saved c.args.geometry.now c.args.groups.now c.args.segments.now first stand saved (g.S.Site.state c.args.site.now)
    (not_due c.args.groups.now.hi c.args.segments.now.hi c.hi.result c.hi-2.result c.hi.ensures c.hi-2.ensures c.if-hi.true) stands

pub returns-then-hi-clause-device_calls : goal.returns-then-hi-clause-device_calls
returns-then-hi-clause-device_calls g c honest =
    let none = taken 5 (not_due c.args.groups.now.hi c.args.segments.now.hi c.hi.result c.hi-2.result c.hi.ensures c.hi-2.ensures c.if-hi.true) in
    omega (arith, none)

pub returns-in-Err-clause-saves : goal.returns-in-Err-clause-saves
returns-in-Err-clause-saves g c first stand saved stands =
    read_failed c.args.geometry.now c.args.groups.now c.args.segments.now first stand saved (g.S.Site.state c.args.site.now) (g.S.Site.state c.read_last_four.new.site) c.in-Err.stop (c.in-Err.ensures.reads.same stands.honest)

pub returns-in-Err-clause-reads : goal.returns-in-Err-clause-reads
returns-in-Err-clause-reads g c =
    let four = taken 4 (now_due c.args.groups.now.hi c.args.segments.now.hi c.hi.result c.hi-2.result c.hi.ensures c.hi-2.ensures c.if-hi.false) in
    omega (arith, four, c.in-Err.ensures.reads.reads)

pub returns-in-Err-clause-foreign : goal.returns-in-Err-clause-foreign
returns-in-Err-clause-foreign g c says first stand saved stands = c.in-Err.ensures.foreign (err_again _ _ says) stands.honest stands.groups_fit first stand stands.has

pub returns-in-Err-clause-stops : goal.returns-in-Err-clause-stops
returns-in-Err-clause-stops g c = ⊎_elim (λ device. inl device) (λ other. ⊎_elim (λ memory. absurd (c.in-Err.ensures.no_memory (ap Err memory))) (λ foreign. inr foreign) other) c.in-Err.ensures.reads.stops

pub write_segment-requires-clause-form : goal.write_segment-requires-clause-form
write_segment-requires-clause-form g c = segment_form c.in-Ok.heads c.in-Ok.ensures.are_heads

pub returns-in-Err-append-clause-saves : goal.returns-in-Err-append-clause-saves
returns-in-Err-append-clause-saves g c first stand saved stands =
    let old = g.S.Site.state c.args.site.now in
    let mid = g.S.Site.state c.read_last_four.new.site in
    let new = g.S.Site.state c.append.new.site in
    let geometry = c.args.geometry.now in
    let groups = c.args.groups.now in
    let segments = c.args.segments.now in
    let is_next : groups.hi ≡ 4 * segments.hi + 4 = (sym c.hi.ensures) ∙ c.if-hi.false ∙ ap (λ (n : ℕ). 4 * n + 4) c.hi-2.ensures in
    let due : is_due groups.hi segments.hi ≡ true = eq-eqb groups.hi (4 * segments.hi + 4) is_next in
    let same = c.in-Ok.ensures.reads.same stands.honest in
    let honest_mid = stays_honest old mid c.in-Ok.ensures.reads.preserves stands.honest in
    let is = c.write_segment.ensures.written ∙ ap spelling_of_all (c.in-Ok.ensures.heads stands.honest stands.groups_fit first stand stands.has) in
    let size : length c.write_segment.new.content ≡ 512 = omega (arith) in
    let changes = c.append.ensures.changes honest_mid in
    record {
      any_moment = λ quiet. moments geometry groups segments first stand saved old mid c.requires.limits c.requires.lengths c.requires.rings due same stands new c.write_segment.new.content is size
          (c.append.ensures.any_moment honest_mid (ready_mid geometry groups segments first stand saved old mid c.requires.limits c.requires.lengths c.requires.rings due same stands quiet)) changes.only quiet;
      gaps = λ quiet. save_gaps geometry groups segments first stand saved old mid c.requires.limits c.requires.lengths c.requires.rings due same stands new c.write_segment.new.content
          (c.append.ensures.any_moment honest_mid (ready_mid geometry groups segments first stand saved old mid c.requires.limits c.requires.lengths c.requires.rings due same stands quiet)) quiet;
      reaches = tt;
      stands = tt;
    }

pub returns-in-Err-append-clause-changes : goal.returns-in-Err-append-clause-changes
returns-in-Err-append-clause-changes g c honest =
    let old = g.S.Site.state c.args.site.now in
    let mid = g.S.Site.state c.read_last_four.new.site in
    changes_in_sequence Flash old mid (g.S.Site.state c.append.new.site) (unchanged_changes Flash old mid (c.in-Ok.ensures.reads.same honest))
    (subst (λ (s : Shape). ChangesOnly s.dev mid (g.S.Site.state c.append.new.site)) c.requires.rings.segments_shape (c.append.ensures.changes (stays_honest old mid c.in-Ok.ensures.reads.preserves honest)))

pub returns-in-Err-append-clause-reads : goal.returns-in-Err-append-clause-reads
returns-in-Err-append-clause-reads g c =
    let four = taken 4 (now_due c.args.groups.now.hi c.args.segments.now.hi c.hi.result c.hi-2.result c.hi.ensures c.hi-2.ensures c.if-hi.false) in
    omega (arith, four, c.append.ensures.reads Flash, c.in-Ok.ensures.reads.reads)

pub returns-clause-saves : goal.returns-clause-saves
returns-clause-saves g c first stand saved stands =
    let old = g.S.Site.state c.args.site.now in
    let mid = g.S.Site.state c.read_last_four.new.site in
    let new = g.S.Site.state c.append.new.site in
    let geometry = c.args.geometry.now in
    let groups = c.args.groups.now in
    let segments = c.args.segments.now in
    let is_next : groups.hi ≡ 4 * segments.hi + 4 = (sym c.hi.ensures) ∙ c.if-hi.false ∙ ap (λ (n : ℕ). 4 * n + 4) c.hi-2.ensures in
    let due : is_due groups.hi segments.hi ≡ true = eq-eqb groups.hi (4 * segments.hi + 4) is_next in
    let same = c.in-Ok.ensures.reads.same stands.honest in
    let honest_mid = stays_honest old mid c.in-Ok.ensures.reads.preserves stands.honest in
    let is = c.write_segment.ensures.written ∙ ap spelling_of_all (c.in-Ok.ensures.heads stands.honest stands.groups_fit first stand stands.has) in
    let size : length c.write_segment.new.content ≡ 512 = omega (arith) in
    let changes = c.append.ensures.changes honest_mid in
    let finds = finds_mid geometry groups segments first stand saved old mid c.requires.limits c.requires.lengths c.requires.rings due same stands in
    let goes = c.append.ensures.preserves in
    let ready = c.in_default.ensures.ready honest_mid finds in
    let outside = c.in_default.ensures.outside honest_mid in
    let units = c.in_default.ensures.stands honest_mid finds in
    let honest_new = stays_honest mid new goes honest_mid in
    record {
      any_moment = λ quiet. moments geometry groups segments first stand saved old mid c.requires.limits c.requires.lengths c.requires.rings due same stands new c.write_segment.new.content is size
          (c.append.ensures.any_moment honest_mid (ready_mid geometry groups segments first stand saved old mid c.requires.limits c.requires.lengths c.requires.rings due same stands quiet)) changes.only quiet;
      gaps = λ quiet. save_gaps geometry groups segments first stand saved old mid c.requires.limits c.requires.lengths c.requires.rings due same stands new c.write_segment.new.content
          (c.append.ensures.any_moment honest_mid (ready_mid geometry groups segments first stand saved old mid c.requires.limits c.requires.lengths c.requires.rings due same stands quiet)) quiet;
      reaches = reached geometry groups segments first stand saved old mid c.requires.limits c.requires.lengths c.requires.rings due same stands new c.append.new.self c.write_segment.new.content is size goes
          c.append.ensures.shape ready outside changes.only units honest_new;
      stands = stands_behind geometry groups segments first stand saved old mid c.requires.limits c.requires.lengths c.requires.rings due same stands new c.append.new.self c.write_segment.new.content is size goes
          c.append.ensures.shape ready outside changes.only units honest_new is_next;
    }

pub returns-clause-fits : goal.returns-clause-fits
returns-clause-fits g c honest groups segments =
    let old = g.S.Site.state c.args.site.now in
    let mid = g.S.Site.state c.read_last_four.new.site in
    let geometry = c.args.geometry.now in
    let reads = c.in-Ok.ensures.reads in
    let same = (reads.same honest).image in
    let honest_mid = stays_honest old mid reads.preserves honest in
    let finds = finds_later c.args.segments.now old mid same segments in
    both_found geometry c.args.groups.now c.args.segments.now c.append.new.self mid (g.S.Site.state c.append.new.site) c.write_segment.new.content c.requires.limits (subst (HasLengths geometry) (sym same) c.requires.lengths)
    c.requires.rings.groups_shape c.requires.rings.segments_shape (omega (arith)) c.append.ensures.preserves c.append.ensures.shape (c.in_default.ensures.ready honest_mid finds) (c.in_default.ensures.outside honest_mid)
    (c.append.ensures.changes honest_mid).only (c.in_default.ensures.stands honest_mid finds) (finds_later c.args.groups.now old mid same groups)

pub returns-clause-changes : goal.returns-clause-changes
returns-clause-changes g c honest =
    let old = g.S.Site.state c.args.site.now in
    let mid = g.S.Site.state c.read_last_four.new.site in
    changes_in_sequence Flash old mid (g.S.Site.state c.append.new.site) (unchanged_changes Flash old mid (c.in-Ok.ensures.reads.same honest))
    (subst (λ (s : Shape). ChangesOnly s.dev mid (g.S.Site.state c.append.new.site)) c.requires.rings.segments_shape (c.append.ensures.changes (stays_honest old mid c.in-Ok.ensures.reads.preserves honest)))

pub returns-clause-reads : goal.returns-clause-reads
returns-clause-reads g c =
    let four = taken 4 (now_due c.args.groups.now.hi c.args.segments.now.hi c.hi.result c.hi-2.result c.hi.ensures c.hi-2.ensures c.if-hi.false) in
    omega (arith, four, c.append.ensures.reads Flash, c.in-Ok.ensures.reads.reads)

pub returns-clause-device_calls : goal.returns-clause-device_calls
returns-clause-device_calls g c honest =
    let same = ap length (c.in-Ok.ensures.reads.same honest).past in
    let due = taken 5 (now_due c.args.groups.now.hi c.args.segments.now.hi c.hi.result c.hi-2.result c.hi.ensures c.hi-2.ensures c.if-hi.false) in
    let five = c.in_default.ensures.device_calls (stays_honest (g.S.Site.state c.args.site.now) (g.S.Site.state c.read_last_four.new.site) c.in-Ok.ensures.reads.preserves honest) in
    omega (arith, same, due, five)

pub returns-clause-segments : goal.returns-clause-segments
returns-clause-segments g c honest fit =
    let old = g.S.Site.state c.args.site.now in
    let mid = g.S.Site.state c.read_last_four.new.site in
    let reads = c.in-Ok.ensures.reads in
    c.in_default.ensures.fits (stays_honest old mid reads.preserves honest) (fits_again c.args.segments.now old mid (reads.same honest).image fit)
