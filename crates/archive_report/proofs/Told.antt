-- Lines that are told one after the other.
use Rattle.archive_report.proofs.Names.{◌≡◌, ℕ, List, [], ◌∷◌, ◌++◌, length, take, drop, refl, sym, ◌∙◌, ap, subst, arith, append_assoc, take-append-drop, append-nil, take_at, take_all, concat, Result, Ok, Err, IsErrOf, HasTold, TellsLines, Halt, in_sequence, each_weaker, no_call, unchanged_calm, unchanged_devices, devices_in_sequence, IsUnchanged, EachMoment, State, Moment, now_of, TellsPart, SameDevices}
use Rattle.std.proofs.lemmas.List.Folds.{concat-append}
use Rattle.archive_report.specs.declared.halt.Halt.TheVariants as halt

-- before the first octet
pub nothing_now : (text : List ℕ) (s : State) → TellsPart text s (now_of s)
nothing_now text s = record { image = refl; loose = refl; told = λ j. (0, ap (λ (l : List ℕ). s.told ++ l) (take_all j [] (omega arith))) }

pub nothing_told : (s : State) → HasTold [] s s
nothing_told s = record { moments = no_call s (TellsPart [] s) (nothing_now [] s); told = sym (append-nil s.told); same = record { image = refl; loose = refl; left = refl } }

-- a front of a text is one of a longer text
front_more : (k : ℕ) (text rest : List ℕ) → (n : ℕ) × (take k text ≡ take n (text ++ rest))
front_more k text rest =
    let parted : text ++ rest ≡ take k text ++ (drop k text ++ rest) = ap (λ (l : List ℕ). l ++ rest) (sym (take-append-drop k text)) ∙ append_assoc (take k text) (drop k text) rest in
    (length (take k text), sym (ap (take (length (take k text))) parted ∙ take_at (take k text) (drop k text ++ rest) (length (take k text)) refl))

pub part_more : (text rest : List ℕ) (old : State) (m : Moment) → TellsPart text old m → TellsPart (text ++ rest) old m
part_more text rest old m part = record {
  image = part.image;
  loose = part.loose;
  told = λ j.
      let some = part.told j in
      let front = front_more some.0 text rest in
      (front.0, some.1 ∙ ap (λ (l : List ℕ). old.told ++ l) front.1);
}

-- and behind a text it is one of both
pub front_behind : (before text : List ℕ) (k : ℕ) → (n : ℕ) × (before ++ take k text ≡ take n (before ++ text))
front_behind before text k =
    let parted : before ++ text ≡ (before ++ take k text) ++ drop k text = ap (λ (l : List ℕ). before ++ l) (sym (take-append-drop k text)) ∙ sym (append_assoc before (take k text) (drop k text)) in
    (length (before ++ take k text), sym (ap (take (length (before ++ take k text))) parted ∙ take_at (before ++ take k text) (drop k text) (length (before ++ take k text)) refl))

pub part_behind : (before text : List ℕ) (old mid : State) (m : Moment) → SameDevices old mid → mid.told ≡ old.told ++ before → TellsPart text mid m → TellsPart (before ++ text) old m
part_behind before text old mid m same told part = record {
  image = part.image ∙ same.image;
  loose = part.loose ∙ same.loose;
  told = λ j.
      let some = part.told j in
      let front = front_behind before text some.0 in
      (front.0, some.1 ∙ ap (λ (l : List ℕ). l ++ take some.0 text) told ∙ append_assoc old.told before (take some.0 text) ∙ ap (λ (l : List ℕ). old.told ++ l) front.1);
}

-- a text behind another
pub told_then : (before text : List ℕ) (old mid new : State) → HasTold before old mid → EachMoment mid new (TellsPart text mid) → EachMoment old new (TellsPart (before ++ text) old)
told_then before text old mid new first second =
    in_sequence old mid new (TellsPart (before ++ text) old)
    (each_weaker old mid (TellsPart before old) (TellsPart (before ++ text) old) (part_more before text old) first.moments)
    (each_weaker mid new (TellsPart text mid) (TellsPart (before ++ text) old) (λ (m : Moment) part. part_behind before text old mid m first.same first.told part) second)

-- One line.

pub line_told : {T : Type 0} (x : T) (line : List ℕ) (old new : State) → EachMoment old new (TellsPart line old) → new.told ≡ old.told ++ line → SameDevices old new → TellsLines {T = T} (Ok x) (line ∷ []) old new
line_told x line old new moments told same = record {
  done = line ∷ [];
  rest = [];
  are = refl;
  moments = subst (λ (t : List ℕ). EachMoment old new (TellsPart t old)) (sym (append-nil line)) moments;
  told = λ none. told ∙ ap (λ (t : List ℕ). old.told ++ t) (sym (append-nil line));
  same = same;
  all = refl;
}

pub line_untold : {T : Type 0} (line : List ℕ) (old new : State) → EachMoment old new (TellsPart line old) → SameDevices old new → TellsLines {T = T} (Err halt.Output) (line ∷ []) old new
line_untold line old new moments same = record {
  done = line ∷ [];
  rest = [];
  are = refl;
  moments = subst (λ (t : List ℕ). EachMoment old new (TellsPart t old)) (sym (append-nil line)) moments;
  told = λ none. absurd (none refl);
  same = same;
  all = tt;
}

-- a block can't be read
pub unread : {T : Type 0} (h : Halt) (lines : List (List ℕ)) (old new : State) → IsUnchanged old new → TellsLines {T = T} (Err h) lines old new
unread h lines old new same = record {
  done = [];
  rest = lines;
  are = refl;
  moments = unchanged_calm old old new (TellsPart [] old) (no_call old (TellsPart [] old) (nothing_now [] old)) same;
  told = λ none. same.told ∙ sym (append-nil old.told);
  same = unchanged_devices old new same;
  all = tt;
}

-- Several lines.

-- all of them were told
pub all_told : {T : Type 0} (x : T) (lines : List (List ℕ)) (old new : State) → TellsLines {T = T} (Ok x) lines old new → HasTold (concat lines) old new
all_told x lines old new tells =
    let are : tells.done ≡ lines = sym (tells.are ∙ ap (λ (l : List (List ℕ)). tells.done ++ l) tells.all ∙ append-nil tells.done) in
    subst (λ (l : List (List ℕ)). HasTold (concat l) old new) are (record { moments = tells.moments; told = tells.told (λ is. no_error is); same = tells.same })
  where
    no_error : {T : Type 0} {x : T} → IsErrOf {T = T} {E = Halt} (Ok x) halt.Output → ⊥
    no_error is = cc

pub told_all : {T : Type 0} (x : T) (lines : List (List ℕ)) (old new : State) → HasTold (concat lines) old new → TellsLines {T = T} (Ok x) lines old new
told_all x lines old new told = record { done = lines; rest = []; are = sym (append-nil lines); moments = told.moments; told = λ none. told.told; same = told.same; all = refl }

-- behind others
pub tells_then : {T : Type 0} (result : Result T Halt) (before lines : List (List ℕ)) (old mid new : State) → HasTold (concat before) old mid → TellsLines result lines mid new → TellsLines result (before ++ lines) old new
tells_then result before lines old mid new first second =
    let joined : concat before ++ concat second.done ≡ concat (before ++ second.done) = sym (concat-append before second.done) in
    record {
      done = before ++ second.done;
      rest = second.rest;
      are = ap (λ (l : List (List ℕ)). before ++ l) second.are ∙ sym (append_assoc before second.done second.rest);
      moments = subst (λ (t : List ℕ). EachMoment old new (TellsPart t old)) joined (told_then (concat before) (concat second.done) old mid new first second.moments);
      told = λ none. second.told none ∙ ap (λ (l : List ℕ). l ++ concat second.done) first.told ∙ append_assoc old.told (concat before) (concat second.done) ∙ ap (λ (l : List ℕ). old.told ++ l) joined;
      same = devices_in_sequence old mid new first.same second.same;
      all = second.all;
    }

-- and before others that aren't told any more
pub tells_first : {T : Type 0} (h : Halt) (lines more : List (List ℕ)) (old new : State) → TellsLines {T = T} (Err h) lines old new → TellsLines {T = T} (Err h) (lines ++ more) old new
tells_first h lines more old new tells = record {
  done = tells.done;
  rest = tells.rest ++ more;
  are = ap (λ (l : List (List ℕ)). l ++ more) tells.are ∙ append_assoc tells.done tells.rest more;
  moments = tells.moments;
  told = tells.told;
  same = tells.same;
  all = tt;
}

-- the same error of another type, and another value
pub tells_failed : {A B : Type 0} (h : Halt) (lines : List (List ℕ)) (old new : State) → TellsLines {T = A} (Err h) lines old new → TellsLines {T = B} (Err h) lines old new
tells_failed h lines old new tells = record {
  done = tells.done;
  rest = tells.rest;
  are = tells.are;
  moments = tells.moments;
  told = λ none. tells.told (λ is. none (again is));
  same = tells.same;
  all = tt;
}
  where
    again : {A B : Type 0} {h : Halt} → IsErrOf {T = A} {E = Halt} (Err h) halt.Output → IsErrOf {T = B} {E = Halt} (Err h) halt.Output
    again {h = h} is = let same : h ≡ halt.Output = cc in ap Err same

pub tells_answered : {A B : Type 0} (x : A) (y : B) (lines : List (List ℕ)) (old new : State) → TellsLines {T = A} (Ok x) lines old new → TellsLines {T = B} (Ok y) lines old new
tells_answered x y lines old new tells = told_all y lines old new (all_told x lines old new tells)

-- a call that only reads
pub only_read : (old mid : State) → IsUnchanged old mid → HasTold [] old mid
only_read old mid same = record {
  moments = unchanged_calm old old mid (TellsPart [] old) (no_call old (TellsPart [] old) (nothing_now [] old)) same;
  told = same.told ∙ sym (append-nil old.told);
  same = unchanged_devices old mid same;
}

pub read_then : {T : Type 0} (result : Result T Halt) (lines : List (List ℕ)) (old mid new : State) → IsUnchanged old mid → TellsLines result lines mid new → TellsLines result lines old new
read_then result lines old mid new same tells = tells_then result [] lines old mid new (only_read old mid same) tells
