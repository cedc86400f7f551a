-- When input is asked for.
use Rattle.face.proofs.Names.{◌≡◌, ℕ, ◌+◌, ◌≤◌, false, List, [], ◌++◌, length, take, sym, ◌∙◌, ap, subst, arith, append_assoc, length-append, append-nil, list_any, Run, first_texts, IsAnswered, AnswersFirst, IsEarly, answered_of, commands_of, pending, to_hear, IsSource, TakesWithin, TookWithin, Source, is_quit, Input, Site, Take, all_append, all_weaker}
use Rattle.face.proofs.Cuts.{Cut, whole_before}

-- none yet
pub answers_none : (run : Run) (old now : Site) → now.input ≡ old.input → AnswersFirst run 0 old now
answers_none run old now same = record {
  waits = record { takes = []; are = ap (λ (input : Input). input.takes) same ∙ sym (append-nil old.input.takes); answered = tt };
  early = tt;
  count = ap (λ (input : Input). input.heard + length input.left) same;
}

-- where nothing more was heard
pub answers_still : (run : Run) (lines : ℕ) (old now new : Site) → new.input ≡ now.input → AnswersFirst run lines old now → AnswersFirst run lines old new
answers_still run lines old now new same answers = record {
  waits = record { takes = answers.waits.takes; are = ap (λ (input : Input). input.takes) same ∙ answers.waits.are; answered = answers.waits.answered };
  early = answers.early;
  count = ap (λ (input : Input). input.heard + length input.left) same ∙ answers.count;
}

-- or more is answered
pub answers_more : (run : Run) (i lines : ℕ) (old now : Site) → i ≤ lines → AnswersFirst run i old now → AnswersFirst run lines old now
answers_more run i lines old now more answers = record {
  waits = answers.waits;
  early = all_weaker (IsEarly i old) (IsEarly lines old) (λ t early heard here. let few = early heard here in omega (arith, few, more)) answers.waits.takes answers.early;
  count = answers.count;
}

-- so many lines were answered, and the next one is heard
pub answers_next : (run : Run) (old mid new : Site) (source : Source) (i : ℕ) (cut : Cut old.input.left source mid i) → IsSource source → mid.told ≡ old.told ++ first_texts run (i + 1)
    → AnswersFirst run i old mid → TakesWithin source mid new → AnswersFirst run i old new
answers_next run old mid new source i cut is_source told answers takes = record {
  waits = record {
    takes = answers.waits.takes ++ takes.takes;
    are = takes.are ∙ ap (λ (l : List Take). l ++ takes.takes) answers.waits.are ∙ append_assoc old.input.takes answers.waits.takes takes.takes;
    answered = all_append (IsAnswered run old) answers.waits.takes takes.takes answers.waits.answered (all_weaker (TookWithin source mid) (IsAnswered run old) is_answered takes.takes takes.within);
  };
  early = all_append (IsEarly i old) answers.waits.takes takes.takes answers.early (all_weaker (TookWithin source mid) (IsEarly i old) is_early takes.takes takes.within);
  count = takes.count ∙ answers.count;
}
  where
    here_is : (t : Take) (took : TookWithin source mid t) → t.heard ≡ old.input.heard + length (cut.octets ++ took.octets)
    here_is t took =
        let here = took.here in
        let count = answers.count in
        let all = ap length cut.all ∙ length-append cut.octets (to_hear source mid) in
        let left = length-append (pending source) mid.input.left in
        let both = length-append cut.octets took.octets in
        omega (arith, here, count, all, left, both)

    number : (t : Take) (took : TookWithin source mid t) → length (answered_of false (take (length (cut.octets ++ took.octets)) old.input.left)) ≡ i
    number t took =
        let whole = whole_before old.input.left source mid i cut is_source took.octets took.rest took.none took.all took.going in
        ap (λ (l : List ℕ). length (answered_of false l)) whole.0 ∙ whole.1

    is_early : (t : Take) → TookWithin source mid t → IsEarly i old t
    is_early t took heard here =
        let own = here_is t took in
        let count = number t took in
        let same : heard ≡ length (cut.octets ++ took.octets) = omega (arith, here, own) in
        subst (λ (n : ℕ). length (answered_of false (take n old.input.left)) ≤ i) (sym same) (omega (arith, count))

    is_answered : (t : Take) → TookWithin source mid t → IsAnswered run old t
    is_answered t took =
        let heard = length (cut.octets ++ took.octets) in
        let count = number t took in
        record {
          heard = heard;
          here = here_is t took;
          told =
              let same : 1 + length (answered_of false (take heard old.input.left)) ≡ i + 1 = omega (arith, count) in
              let is : length (old.told ++ first_texts run (1 + length (answered_of false (take heard old.input.left)))) ≡ t.told = ap (λ (n : ℕ). length (old.told ++ first_texts run n)) same ∙ ap length (sym told) ∙ sym took.told in
              omega (arith, is);
          going = let whole = whole_before old.input.left source mid i cut is_source took.octets took.rest took.none took.all took.going in ap (λ (l : List ℕ). list_any is_quit (commands_of false l)) whole.0 ∙ whole.2;
        }
