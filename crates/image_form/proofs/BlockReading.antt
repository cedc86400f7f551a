-- Walking over the records of a block.
use Rattle.std.proofs.lemmas.Grind.{common_steps}
use Rattle.std.proofs.lemmas.List.{at_drop_more}
use Rattle.log_records.specs.declared.log_record.LogRecord.TheVariants.{Begin}
use Rattle.log_records.specs.Spelling.{spelling}
use Rattle.image_form.proofs.Names.{slice_index_or, ◌≡◌, ℕ, ◌+◌, ◌≤◌, ◌<◌, List, [], ◌∷◌, ◌++◌, length, drop, refl, sym, ap, ◌∙◌, subst, append_assoc, arith, length-append, drop-drop, drop_at, flat_map, IsLeft, behind, some_octet, one_spelled, spelled_next, used_by, IsBlock, IsSpelledAt, LogRecord}

-- at first all are left
pub all_left : (content : List ℕ) (used : ℕ) (records : List LogRecord) → IsBlock content records → used ≡ used_by records → IsLeft content used 2 records
all_left content used records is end =
    let flat : List ℕ = flat_map spelling records in
    let text = behind content records is in
    let rest = ap (λ (n : ℕ). drop n content) end ∙ sym (drop-drop (length flat) 2 content) ∙ ap (drop (length flat)) text ∙ drop_at flat _ (length flat) refl in
    record {
      have_form = is.are_block.have_form;
      fit_fields = is.are_block.fit_fields;
      text = text ∙ ap (λ (l : List ℕ). flat ++ l) (sym rest);
      end = end;
    }

module _ (content : List ℕ) (used at : ℕ) (rec : LogRecord) (others : List LogRecord) (l : IsLeft content used at (rec ∷ others)) where
  size : length (flat_map spelling (rec ∷ others)) ≡ length (spelling rec) + length (flat_map spelling others)
  size = length-append (spelling rec) (flat_map spelling others)

  front : drop at content ≡ spelling rec ++ (flat_map spelling others ++ drop used content)
  front = l.text ∙ append_assoc (spelling rec) (flat_map spelling others) (drop used content)

  -- the first one is spelled there
  pub first_spelled : IsSpelledAt content at used rec (at + length (spelling rec))
  first_spelled = spelled_next content used at rec (flat_map spelling others ++ drop used content) front (let end = l.end in omega (arith, end, size)) l.have_form.0 l.fit_fields.0

  -- and behind it the others are left
  pub others_left : IsLeft content used (at + length (spelling rec)) others
  others_left = record {
    have_form = l.have_form.1;
    fit_fields = l.fit_fields.1;
    text = sym (drop-drop (length (spelling rec)) at content) ∙ ap (drop (length (spelling rec))) front ∙ drop_at (spelling rec) (flat_map spelling others ++ drop used content) (length (spelling rec)) refl;
    end = let end = l.end in omega (arith, end, size);
  }

-- before the end one is left
pub one_left : (content : List ℕ) (used at : ℕ) (left : List LogRecord) → IsLeft content used at left → at < used → (rec : LogRecord) × (others : List LogRecord) × (left ≡ rec ∷ others)
one_left content used at [] l before = let end = l.end in absurd (omega (arith, end, before))
one_left content used at (rec ∷ others) l before = (rec, others, refl)

-- at the end none is
pub none_left : (content : List ℕ) (used at : ℕ) (left : List LogRecord) → IsLeft content used at left → used ≤ at → left ≡ []
none_left content used at [] l behind = grind (arith, common_steps)
none_left content used at (rec ∷ others) l behind = grind (arith, common_steps, some_octet, length-append, behind)

-- what is read there is the first of them
pub reads_first : (content : List ℕ) (used at : ℕ) (left : List LogRecord) → IsLeft content used at left → at < used → (rec : LogRecord) (end : ℕ) → IsSpelledAt content at used rec end →
    (others : List LogRecord) × (left ≡ rec ∷ others) × IsLeft content used end others
reads_first content used at left l before rec end spelled =
    let one = one_left content used at left l before in
    let first : IsLeft content used at (one.0 ∷ one.1) = subst (IsLeft content used at) one.2 l in
    let same = one_spelled content at used one.0 rec (at + length (spelling one.0)) end (first_spelled content used at one.0 one.1 first) spelled in
    (one.1, one.2 ∙ ap (λ (x : LogRecord). x ∷ one.1) same.0, subst (λ (n : ℕ). IsLeft content used n one.1) same.1 (others_left content used at one.0 one.1 first))

-- and something is
pub some_spelled : (content : List ℕ) (used at : ℕ) (left : List LogRecord) → IsLeft content used at left → at < used → ((rec : LogRecord) (end : ℕ) → IsSpelledAt content at used rec end → ⊥) → ⊥
some_spelled content used at left l before none =
    let one = one_left content used at left l before in
    none one.0 _ (first_spelled content used at one.0 one.1 (subst (IsLeft content used at) one.2 l))

-- the octet of a Begin
pub begin_spelled : (content : List ℕ) (used at : ℕ) → at < used → used ≤ length content → slice_index_or content at 0 ≡ 1 → IsSpelledAt content at used Begin (at + 1)
unfolding spelling
begin_spelled content used at before inside is =
    spelled_next content used at Begin (drop (at + 1) content) (at_drop_more (λ (x : List ℕ). x) content at 0 (omega (arith, before, inside)) ∙ ap (λ (n : ℕ). n ∷ drop (at + 1) content) is) (omega (arith, before)) tt tt
