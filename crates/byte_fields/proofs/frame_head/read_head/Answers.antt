use Rattle.std.proofs.Common.{◌≡◌, arith, sym, subst, ◌∙◌, true≢false}
use Rattle.std_lemmas.proofs.Results.{on_err}
use Rattle.byte_fields.specs.declared.frame_head.FrameHead.{FrameHead}
use Rattle.byte_fields.specs.FrameHeads.{HasForm}
use Rattle.byte_fields.proofs.HeadParts.{HasParts, parts_of, spelled_by_parts, one_by_parts}
use Rattle.byte_fields.proofs.frame_head.read_head.Goals as goal

pub returns-in_err-present-clause-bad : goal.returns-in_err-present-clause-bad
returns-in_err-present-clause-bad c =
    on_err c.from_residual.result _ (λ head is. c.in_err-present.ensures.bad head.present (parts_of c.args.bytes.now c.args.at head is).present)

pub returns-in_err-dirty-clause-bad : goal.returns-in_err-dirty-clause-bad
returns-in_err-dirty-clause-bad c =
    on_err c.from_residual-in_err-dirty.result _ (λ head is. c.in_err-dirty.ensures.bad head.dirty (parts_of c.args.bytes.now c.args.at head is).dirty)

pub returns-then-get_u16-ne0-clause-bad : goal.returns-then-get_u16-ne0-clause-bad
returns-then-get_u16-ne0-clause-bad c = λ head is. c.if-get_u16-ne0.true (c.get_u16.ensures ∙ (parts_of c.args.bytes.now c.args.at head is).zero)

pub returns-then-has_form-clause-found : goal.returns-then-has_form-clause-found
returns-then-has_form-clause-found c =
    let head : FrameHead = record { present = c.in_ok-present.present; dirty = c.in_ok-dirty.dirty; page = c.get_u32.result; lsn = c.get_u64.result } in
    let parts : HasParts c.args.bytes.now c.args.at head = record {
      present = c.in_ok-present.ensures.found;
      dirty = c.in_ok-dirty.ensures.found;
      zero = sym c.get_u16.ensures ∙ c.if-get_u16-ne0.false;
      page = sym c.get_u32.ensures;
      lsn = sym c.get_u64.ensures;
    } in
    record {
      text = spelled_by_parts c.args.bytes.now c.args.at head (λ i. omega (arith, c.type_inv.bytes i)) c.requires parts;
      has_form = c.has_form.ensures.0 c.if-has_form.true;
      fits_fields = (c.get_u32.type_inv, c.get_u64.type_inv);
    }

pub returns-else-has_form-clause-bad : goal.returns-else-has_form-clause-bad
returns-else-has_form-clause-bad c = λ head is.
    let read : FrameHead = record { present = c.in_ok-present.present; dirty = c.in_ok-dirty.dirty; page = c.get_u32.result; lsn = c.get_u64.result } in
    let parts : HasParts c.args.bytes.now c.args.at read = record {
      present = c.in_ok-present.ensures.found;
      dirty = c.in_ok-dirty.ensures.found;
      zero = sym c.get_u16.ensures ∙ c.if-get_u16-ne0.false;
      page = sym c.get_u32.ensures;
      lsn = sym c.get_u64.ensures;
    } in
    let same : head ≡ read = one_by_parts c.args.bytes.now c.args.at head read (parts_of c.args.bytes.now c.args.at head is) parts in
    true≢false (sym (c.has_form.ensures.1 (subst HasForm same is.has_form)) ∙ c.if-has_form.false)
