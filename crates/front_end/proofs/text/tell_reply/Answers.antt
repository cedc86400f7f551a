use Rattle.std.proofs.Common.{inl, ◌≡◌, ◌+◌, ◌<◌, ◌++◌, [], List, ℕ, length, get_or, refl, sym, ◌∙◌, ap, subst, arith, append_assoc, add-one, length-append}
use Rattle.std.proofs.lemmas.List.{append-nil}
use Rattle.site.specs.Moments.{EachMoment}
use Rattle.site.specs.Telling.{HandsRest, TellsPart}
use Rattle.site.proofs.Laws.{stays_honest, goes_nowhere, no_call, goes_in_sequence, devices_in_sequence}
use Rattle.shell_text.specs.Texts.{reply_text, reply_lines}
use Rattle.front_end.specs.Tells.{HandsLines}
use Rattle.front_end.proofs.Replies.{all_lines, first_of, line_more, lines_handed, piece_told, nothing_told}
use Rattle.front_end.proofs.text.tell_reply.Goals as goal

pub loop-place-init : goal.loop-place-init
loop-place-init g c =
    let old = g.S.Site.state c.args.site.now in
    record {
      preserves = goes_nowhere old;
      faults = refl;
      reads = λ dev. refl;
      same = λ honest. record { image = refl; loose = refl; left = refl };
      told = λ honest. sym (append-nil old.told);
      tells_only = λ honest. record { calls = omega arith; works = refl };
      moments = λ honest. no_call old (TellsPart (reply_text c.args.reply.now) old) (nothing_told (reply_text c.args.reply.now) old);
      lines = λ honest. no_call old (HandsLines (reply_lines c.args.reply.now) old.told) (inl refl);
    }

pub loop-place-preserved : goal.loop-place-preserved
loop-place-preserved g c =
    let old = g.S.Site.state c.args.site.now in
    let mid = g.S.Site.state c.loop-place.site in
    let new = g.S.Site.state c.tell_all.new.site in
    let place = c.loop-place.place in
    let lines = reply_lines c.args.reply.now in
    let less : place < length lines = omega (arith, c.loop-place-test.true, c.line_count-place-end.ensures) in
    let more = line_more lines place less in
    let piece : c.as_slice.result.now ≡ get_or lines place [] = c.as_slice.ensures.value ∙ c.reply_line.ensures in
    record {
      preserves = goes_in_sequence old mid new c.loop-place.invariant.preserves c.tell_all.ensures.preserves;
      faults = c.in-Ok.ensures.faults ∙ c.loop-place.invariant.faults;
      reads = λ dev. c.tell_all.ensures.reads dev ∙ c.loop-place.invariant.reads dev;
      same = λ honest. devices_in_sequence old mid new (c.loop-place.invariant.same honest) (c.tell_all.ensures.same (stays_honest old mid c.loop-place.invariant.preserves honest));
      told = λ honest.
          let told = c.in-Ok.ensures.told (stays_honest old mid c.loop-place.invariant.preserves honest) in
          told ∙ (λ i. c.loop-place.invariant.told honest i ++ piece i) ∙ append_assoc old.told (first_of place lines) (get_or lines place [])
          ∙ ap (λ (l : List ℕ). old.told ++ l) (sym more.2 ∙ ap (λ (n : ℕ). first_of n lines) (sym (add-one place)));
      tells_only = λ honest.
          let so_far = c.loop-place.invariant.tells_only honest in
          let calls = c.in-Ok.ensures.tells_only (stays_honest old mid c.loop-place.invariant.preserves honest) in
          let octets = ap length piece in
          let all : length (first_of (place + 1) lines) ≡ length (first_of place lines) + length (get_or lines place []) =
          ap length (ap (λ (n : ℕ). first_of n lines) (add-one place) ∙ more.2) ∙ length-append (first_of place lines) (get_or lines place []) in
          record { calls = omega (arith, so_far.calls, calls.calls, octets, all); works = calls.works ∙ so_far.works };
      moments = λ honest.
          piece_told (first_of place lines) (get_or lines place []) more.0 (reply_text c.args.reply.now) old mid new more.1 (c.loop-place.invariant.same honest) (c.loop-place.invariant.told honest) (c.loop-place.invariant.moments honest)
          (subst (λ (t : List ℕ). EachMoment mid new (TellsPart t mid)) piece (c.tell_all.ensures.any_moment (stays_honest old mid c.loop-place.invariant.preserves honest)));
      lines = λ honest. lines_handed lines place old mid new (c.loop-place.invariant.told honest) (c.loop-place.invariant.lines honest)
          (subst (λ (t : List ℕ). EachMoment mid new (HandsRest t mid)) piece (c.tell_all.ensures.hands (stays_honest old mid c.loop-place.invariant.preserves honest)));
    }

pub returns-in-Err-clause-any_moment : goal.returns-in-Err-clause-any_moment
returns-in-Err-clause-any_moment g c honest =
    let old = g.S.Site.state c.args.site.now in
    let mid = g.S.Site.state c.loop-place.site in
    let new = g.S.Site.state c.tell_all.new.site in
    let place = c.loop-place.place in
    let lines = reply_lines c.args.reply.now in
    let less : place < length lines = omega (arith, c.loop-place-test.true, c.line_count-place-end.ensures) in
    let more = line_more lines place less in
    let piece : c.as_slice.result.now ≡ get_or lines place [] = c.as_slice.ensures.value ∙ c.reply_line.ensures in
    piece_told (first_of place lines) (get_or lines place []) more.0 (reply_text c.args.reply.now) old mid new more.1 (c.loop-place.invariant.same honest) (c.loop-place.invariant.told honest) (c.loop-place.invariant.moments honest)
    (subst (λ (t : List ℕ). EachMoment mid new (TellsPart t mid)) piece (c.tell_all.ensures.any_moment (stays_honest old mid c.loop-place.invariant.preserves honest)))

pub returns-in-Err-clause-lines : goal.returns-in-Err-clause-lines
returns-in-Err-clause-lines g c honest =
    let old = g.S.Site.state c.args.site.now in
    let mid = g.S.Site.state c.loop-place.site in
    let new = g.S.Site.state c.tell_all.new.site in
    let place = c.loop-place.place in
    let lines = reply_lines c.args.reply.now in
    let less : place < length lines = omega (arith, c.loop-place-test.true, c.line_count-place-end.ensures) in
    let more = line_more lines place less in
    let piece : c.as_slice.result.now ≡ get_or lines place [] = c.as_slice.ensures.value ∙ c.reply_line.ensures in
    lines_handed lines place old mid new (c.loop-place.invariant.told honest) (c.loop-place.invariant.lines honest)
    (subst (λ (t : List ℕ). EachMoment mid new (HandsRest t mid)) piece (c.tell_all.ensures.hands (stays_honest old mid c.loop-place.invariant.preserves honest)))

pub returns-clause-tells_only : goal.returns-clause-tells_only
returns-clause-tells_only g c honest =
    let lines = reply_lines c.args.reply.now in
    let end : c.loop-place.place ≡ length lines = omega (arith, c.loop-place-test.false, c.loop-place.auto.place-end, c.line_count-place-end.ensures) in
    let whole = ap length (all_lines lines c.loop-place.place end) in
    let few = c.loop-place.invariant.tells_only honest in
    record { calls = omega (arith, few.calls, whole); works = few.works }

pub returns-in-Err-clause-reads : goal.returns-in-Err-clause-reads
returns-in-Err-clause-reads g c dev = c.tell_all.ensures.reads dev ∙ c.loop-place.invariant.reads dev
