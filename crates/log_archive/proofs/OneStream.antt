-- Lines lead to one stream.
use Rattle.std.proofs.Common.{◌≡◌, inl, inr, ℕ, ◌+◌, ◌-◌, ◌==◌, true≢false, List, [], ◌∷◌, ◌++◌, length, take, drop, refl, sym, ap, subst, ◌∙◌, append_assoc, arith}
use Rattle.std.specs.Prelude.{flat_map, slice_index_or}
use Rattle.std.specs.List.{AllByRecursion}
use Rattle.std.specs.Int.{w16, from_be_bytes}
use Rattle.std.proofs.lemmas.List.{drop_at, length-append}
use Rattle.std.proofs.lemmas.Option.{same_Some}
use Rattle.log_records.specs.declared.log_record.LogRecord.{LogRecord}
use Rattle.log_records.specs.Spelling.{spelling, used_by, HasForm, FitsFields, IsBlock, IsSpelledAt}
use Rattle.log_records.proofs.Blocks.{behind, some_octet, one_spelled, spelled_next, used_is}
use Rattle.log_archive.specs.Lines.{IsBlockLine, IsEndLine, block_text, end_text}
use Rattle.log_archive.specs.Accepted.{Accepted, AfterLine, Stream, after_block}
use Rattle.log_archive.specs.Laws.{OneStream}
use Rattle.log_archive.proofs.Lined.{block_content, block_long}

abbrev flat : List LogRecord → List ℕ
flat records = flat_map spelling records

-- octets that begin with as many octets of records begin with the same records
one_list : (n : ℕ) (octets : List ℕ) (a b : List LogRecord) (x y : List ℕ) → AllByRecursion HasForm a → AllByRecursion FitsFields a → AllByRecursion HasForm b → AllByRecursion FitsFields b →
    octets ≡ flat a ++ x → octets ≡ flat b ++ y → length (flat a) ≡ n → length (flat b) ≡ n → a ≡ b
one_list n octets [] [] x y fa ga fb gb isa isb na nb = refl
one_list n octets [] (r ∷ b) x y fa ga fb gb isa isb na nb =
    let some = some_octet r in let all = length-append (spelling r) (flat b) in absurd (omega (arith, some, all, na, nb))
one_list n octets (r ∷ a) [] x y fa ga fb gb isa isb na nb =
    let some = some_octet r in let all = length-append (spelling r) (flat a) in absurd (omega (arith, some, all, na, nb))
one_list n octets (ra ∷ a) (rb ∷ b) x y fa ga fb gb isa isb na nb =
    let la = length-append (spelling ra) (flat a) in
    let lb = length-append (spelling rb) (flat b) in
    let at_a : octets ≡ spelling ra ++ (flat a ++ x) = isa ∙ append_assoc (spelling ra) (flat a) x in
    let at_b : octets ≡ spelling rb ++ (flat b ++ y) = isb ∙ append_assoc (spelling rb) (flat b) y in
    let sa : IsSpelledAt octets 0 n ra (0 + length (spelling ra)) = spelled_next octets n 0 ra (flat a ++ x) at_a (omega (arith, la, na)) fa.0 ga.0 in
    let sb : IsSpelledAt octets 0 n rb (0 + length (spelling rb)) = spelled_next octets n 0 rb (flat b ++ y) at_b (omega (arith, lb, nb)) fb.0 gb.0 in
    let same = one_spelled octets 0 n ra rb (0 + length (spelling ra)) (0 + length (spelling rb)) sa sb in
    let long : length (spelling ra) ≡ length (spelling rb) = ap (λ r. length (spelling r)) same.0 in
    let rest = one_list (n - length (spelling ra)) (drop (length (spelling ra)) octets) a b x y fa.1 ga.1 fb.1 gb.1
    (ap (drop (length (spelling ra))) at_a ∙ drop_at (spelling ra) (flat a ++ x) (length (spelling ra)) refl)
    (ap (λ k. drop k octets) long ∙ ap (drop (length (spelling rb))) at_b ∙ drop_at (spelling rb) (flat b ++ y) (length (spelling rb)) refl)
    (omega (arith, la, na)) (omega (arith, lb, nb, long)) in
    (λ i. same.0 i ∷ rest i)

one_block : (content : List ℕ) (a b : List LogRecord) → IsBlock content a → IsBlock content b → a ≡ b
one_block content a b first second =
    let used = from_be_bytes w16 (take 2 content) in
    let end : used_by a ≡ used_by b = sym (used_is content a used first refl) ∙ used_is content b used second refl in
    one_list (length (flat a)) (drop 2 content) a b _ _ first.are_block.have_form first.are_block.fit_fields second.are_block.have_form second.are_block.fit_fields
    (behind content a first) (behind content b second) refl (omega (arith, end))

one_content : (line : List ℕ) (n : ℕ) (a b : List ℕ) → IsBlockLine line n a → IsBlockLine line n b → a ≡ b
one_content line n a b first second =
    let long = block_long line n a first in
    same_Some a b (sym (block_content line n a first (length line - 1006) (omega (arith, long))) ∙ block_content line n b second (length line - 1006) (omega (arith, long)))

-- no line is that of a block and an end line
one_kind : (line : List ℕ) (n m : ℕ) (content : List ℕ) → IsBlockLine line n content → IsEndLine line m → ⊥
one_kind line n m content block end =
    let same : block_text n content ≡ end_text m = sym block.text ∙ end.text in
    true≢false (ap (λ (l : List ℕ). slice_index_or l 0 0 == 98) same)

one_after : (pages : ℕ) (line : List ℕ) (s a b : Stream) → AfterLine pages line s a → AfterLine pages line s b → a ≡ b
one_after pages line s a b (inl (c, ra, line_a, block_a, is_a)) (inl (d, rb, line_b, block_b, is_b)) =
    let content : d ≡ c = one_content line s.next d c line_b line_a in
    let records : ra ≡ rb = one_block c ra rb block_a (subst (λ x. IsBlock x rb) content block_b) in
    same_Some a b (sym is_a ∙ ap (λ r. after_block pages r s) records ∙ is_b)
one_after pages line s a b (inl (c, ra, line_a, block_a, is_a)) (inr (is_end, is_b)) = absurd (one_kind line s.next s.next c line_a is_end)
one_after pages line s a b (inr (is_end, is_a)) (inl (d, rb, line_b, block_b, is_b)) = absurd (one_kind line s.next s.next d line_b is_end)
one_after pages line s a b (inr (is_end, is_a)) (inr (end_too, is_b)) = is_a ∙ sym is_b

pub one_stream : OneStream
one_stream pages [] s a b first second = first ∙ sym second
one_stream pages (line ∷ lines) s a b (mid, after, rest) (other, after_too, rest_too) =
    let same : other ≡ mid = one_after pages line s other mid after_too after in
    one_stream pages lines mid a b rest (subst (λ (x : Stream). Accepted pages lines x b) same rest_too)
