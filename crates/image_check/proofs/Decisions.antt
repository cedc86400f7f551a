-- The rules one after the other.
use Rattle.std.proofs.lemmas.Grind.{common_steps}
use Rattle.image_check.proofs.Names.{◌≡◌, ◌↔◌, inl, inr, ℕ, zero, suc, ◌+◌, ◌≤◌, true, false, true≢false, Bool, IsTrue, List, refl, sym, ◌∙◌, subst, arith, cases_eq, Ok, ⊤, MeetsBefore, Sees, reading_of, there_later, IsThere, Reading, Reads, Rule, OctetsAreFormed, KeptBlocksAreLive, RecordsFollowBegins, LosersCanBeUndone, LosersHoldOthersOff, VersionsFit, FramesAreClean, SegmentsFollowGroups, UndoHasRoom, MasterNamesTheActive, CommitsAreNumbered, PagesHaveRoom, HoldBefore, FailsFirst, IsSoundWith, logical_image_of, values_of, Found, commit_count, LogRecord, State, Image, OnlyReads}
use Rattle.site.specs.Calls.{Preserves}
use Rattle.image_check.proofs.Readings.{a_reading, no_rule}

-- What was found is there after calls that only read.

pub sees_of : {i : ℕ} {found : Found} {blocks : List (List LogRecord)} {site : State} → MeetsBefore i found blocks site → Sees found blocks site
sees_of meets = record { log = meets.there.log; has = meets.reads.blocks }

meets_later : (i : ℕ) (found : Found) (blocks : List (List LogRecord)) (a b : State) → Preserves a b → b.image ≡ a.image → MeetsBefore i found blocks a → MeetsBefore i found blocks b
meets_later i found blocks a b goes same meets = grind (arith, there_later)

-- The rule of a number.

abbrev pub Numbered : ℕ → Reading → Image → Type 0
Numbered (suc (suc (suc zero))) r image = RecordsFollowBegins (logical_image_of r image)
Numbered (suc (suc (suc (suc zero)))) r image = LosersCanBeUndone (logical_image_of r image)
Numbered (suc (suc (suc (suc (suc zero))))) r image = LosersHoldOthersOff (logical_image_of r image)
Numbered (suc (suc (suc (suc (suc (suc zero)))))) r image = VersionsFit (logical_image_of r image)
Numbered (suc (suc (suc (suc (suc (suc (suc zero))))))) r image = FramesAreClean r.g image
Numbered (suc (suc (suc (suc (suc (suc (suc (suc zero)))))))) r image = SegmentsFollowGroups r.g image
Numbered (suc (suc (suc (suc (suc (suc (suc (suc (suc zero))))))))) r image = UndoHasRoom (logical_image_of r image)
Numbered (suc (suc (suc (suc (suc (suc (suc (suc (suc (suc zero)))))))))) r image = MasterNamesTheActive (logical_image_of r image)
Numbered (suc (suc (suc (suc (suc (suc (suc (suc (suc (suc (suc zero))))))))))) r image = CommitsAreNumbered (logical_image_of r image)
Numbered (suc (suc (suc (suc (suc (suc (suc (suc (suc (suc (suc (suc zero)))))))))))) r image = PagesHaveRoom (logical_image_of r image)
Numbered _ r image = ⊤

-- a rule by its number
pub rule_of : (i : ℕ) (r : Reading) (image : Image) → Numbered i r image → Rule i r image
rule_of i r image holds = record {
  third = λ is. subst (λ (k : ℕ). Numbered k r image) is holds;
  fourth = λ is. subst (λ (k : ℕ). Numbered k r image) is holds;
  fifth = λ is. subst (λ (k : ℕ). Numbered k r image) is holds;
  sixth = λ is. subst (λ (k : ℕ). Numbered k r image) is holds;
  seventh = λ is. subst (λ (k : ℕ). Numbered k r image) is holds;
  eighth = λ is. subst (λ (k : ℕ). Numbered k r image) is holds;
  ninth = λ is. subst (λ (k : ℕ). Numbered k r image) is holds;
  tenth = λ is. subst (λ (k : ℕ). Numbered k r image) is holds;
  eleventh = λ is. subst (λ (k : ℕ). Numbered k r image) is holds;
  twelfth = λ is. subst (λ (k : ℕ). Numbered k r image) is holds;
}

-- no rule is before the third one
pub none_before : (r : Reading) (image : Image) → HoldBefore 3 r image
none_before r image j below = no_rule j r image (λ low high. omega (arith, below, low))

-- one rule more
pub one_more : (i : ℕ) (r : Reading) (image : Image) → HoldBefore i r image → Numbered i r image → HoldBefore (i + 1) r image
one_more i r image before holds j below = elim (cases_eq j i) [
  | inl here ↦ subst (λ (k : ℕ). Rule k r image) (sym here) (rule_of i r image holds)
  | inr other ↦ before j (omega (arith, below, other))
]

-- and the rule by it
numbered_of : (i : ℕ) (r : Reading) (image : Image) → Rule i r image → Numbered i r image
numbered_of (suc (suc (suc zero))) r image rule = rule.third refl
numbered_of (suc (suc (suc (suc zero)))) r image rule = rule.fourth refl
numbered_of (suc (suc (suc (suc (suc zero))))) r image rule = rule.fifth refl
numbered_of (suc (suc (suc (suc (suc (suc zero)))))) r image rule = rule.sixth refl
numbered_of (suc (suc (suc (suc (suc (suc (suc zero))))))) r image rule = rule.seventh refl
numbered_of (suc (suc (suc (suc (suc (suc (suc (suc zero)))))))) r image rule = rule.eighth refl
numbered_of (suc (suc (suc (suc (suc (suc (suc (suc (suc zero))))))))) r image rule = rule.ninth refl
numbered_of (suc (suc (suc (suc (suc (suc (suc (suc (suc (suc zero)))))))))) r image rule = rule.tenth refl
numbered_of (suc (suc (suc (suc (suc (suc (suc (suc (suc (suc (suc zero))))))))))) r image rule = rule.eleventh refl
numbered_of (suc (suc (suc (suc (suc (suc (suc (suc (suc (suc (suc (suc zero)))))))))))) r image rule = rule.twelfth refl
numbered_of i r image rule = tt

-- Calls one after the other.

-- what was found is there after calls that only read, and the rules before one hold
pub record Past (i : ℕ) (found : Found) (blocks : List (List LogRecord)) (old now : State) : Type 0 where
  pub meets : MeetsBefore i found blocks now
  pub same : now.image ≡ old.image

pub at_first : {i : ℕ} {found : Found} {blocks : List (List LogRecord)} {site : State} → MeetsBefore i found blocks site → Past i found blocks site site
at_first meets = record { meets = meets; same = refl }

-- this is the least rule that fails
abbrev pub FailsAt : ℕ → Reading → Image → Type 0
FailsAt i r image = (3 ≤ i) × HoldBefore i r image × (Rule i r image → ⊥)

module _ {i : ℕ} {found : Found} {blocks : List (List LogRecord)} {old a : State} (past : Past i found blocks old a) where
  -- a call more, behind which it is known that the rules before another one hold
  pub reaches : {T : Type 0} {x : T} {b : State} (end : ℕ) → OnlyReads {T = T} (Ok x) a b → HoldBefore end (reading_of found blocks) a.image → Past end found blocks old b
  reaches {b = b} end reads holds = grind (arith, meets_later)

  -- a rule that holds
  pub holds_so : {T : Type 0} {x : T} {b : State} {stand : Bool} → (IsTrue stand ↔ Numbered i (reading_of found blocks) a.image) → OnlyReads {T = T} (Ok x) a b → stand ≡ true → Past (i + 1) found blocks old b
  holds_so says reads is = reaches (i + 1) reads (one_more i (reading_of found blocks) a.image past.meets.rules (says.0 is))

  -- where nothing was called meanwhile
  pub holds_here : Numbered i (reading_of found blocks) a.image → Past (i + 1) found blocks old a
  holds_here holds = record { meets = record { there = past.meets.there; reads = past.meets.reads; rules = one_more i (reading_of found blocks) a.image past.meets.rules holds }; same = past.same }

  -- a rule that fails
  pub fails_by : 3 ≤ i → (Numbered i (reading_of found blocks) a.image → ⊥) → FailsAt i (reading_of found blocks) old.image
  fails_by third fails = subst (FailsAt i (reading_of found blocks)) past.same (third, past.meets.rules, λ rule. fails (numbered_of i (reading_of found blocks) a.image rule))

  pub fails_so : {stand : Bool} → 3 ≤ i → (IsTrue stand ↔ Numbered i (reading_of found blocks) a.image) → stand ≡ false → FailsAt i (reading_of found blocks) old.image
  fails_so third says other = fails_by third (λ holds. true≢false (sym (says.1 holds) ∙ other))

  -- all of them hold
  pub hold_all : HoldBefore i (reading_of found blocks) old.image
  hold_all = subst (HoldBefore i (reading_of found blocks)) past.same past.meets.rules

-- The verdict.

-- the least rule that fails
pub verdict_by : (i : ℕ) {r : Reading} {image : Image} → Reads r image → FailsAt i r image → FailsFirst i image
verdict_by zero reads fails = let third = fails.0 in absurd (omega (arith, third))
verdict_by (suc zero) reads fails = let third = fails.0 in absurd (omega (arith, third))
verdict_by (suc (suc zero)) reads fails = let third = fails.0 in absurd (omega (arith, third))
verdict_by (suc (suc (suc i))) {r} reads fails = (r, reads, fails.1, fails.2)

-- or none does
pub sound_by : {found : Found} {blocks : List (List LogRecord)} {old a : State} (records commits : ℕ) → Past 13 found blocks old a → records ≡ values_of (logical_image_of (reading_of found blocks) a.image) →
    commits ≡ commit_count (logical_image_of (reading_of found blocks) a.image) → IsSoundWith old.image records commits
sound_by {found} {blocks} records commits past values count =
    subst (λ (image : Image). IsSoundWith image records commits) past.same (record { reading = reading_of found blocks; reads = past.meets.reads; rules = past.meets.rules; values = values; count = count })

-- before the third rule
pub meets_both : (found : Found) (site : State) → IsThere found site → OctetsAreFormed found.log.geometry found.master site.image → KeptBlocksAreLive found.log.geometry found.master site.image → (blocks : List (List LogRecord)) × MeetsBefore 3 found blocks site
meets_both found site there formed live = grind (arith, common_steps, a_reading, none_before)

-- the second one
pub fails_kept : (found : Found) (site : State) (stand : Bool) → OctetsAreFormed found.log.geometry found.master site.image → (IsTrue stand ↔ KeptBlocksAreLive found.log.geometry found.master site.image) → stand ≡ false → FailsFirst 2 site.image
fails_kept found site stand formed says other = (found.log.geometry, found.master, formed, λ rule. true≢false (sym (says.1 rule) ∙ other))
