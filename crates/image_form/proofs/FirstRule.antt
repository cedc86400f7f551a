-- What was found, after calls that only read, and the first rule of it.
use Rattle.std.proofs.lemmas.Grind.{common_steps}
use Rattle.image_form.proofs.Names.{◌≡◌, ◌↔◌, true, false, true≢false, Bool, IsTrue, sym, ap, ◌∙◌, subst, arith, Option, Some, is_none, Result, Ok, Err, IfOk, MayBeRead, IsThere, HasSizes, OctetsAreFormed, FailsFirst, Found, Place, Preserves, State, Image, OnlyReads, Geometry, Stop}
use Rattle.std.specs.Prelude.{None}
use Rattle.checkpoint.specs.Laws.{OneNewest}
use Rattle.image_form.proofs.Lasting.{may_read_later, found_later}
use Rattle.image_form.proofs.BlocksJudged.{finds_later, going_later}

-- What was found is there after calls that only read.

pub may_be_read_later : (found : Found) (a b : State) → Preserves a b → MayBeRead found a → MayBeRead found b
may_be_read_later found a b goes may = grind (arith, common_steps, going_later, may_read_later)

pub there_later : (found : Found) (a b : State) → Preserves a b → b.image ≡ a.image → IsThere found a → IsThere found b
there_later found a b goes same there = grind (arith, common_steps, finds_later, found_later)

-- and it is the same as at first
pub record StillThere (found : Found) (old now : State) : Type 0 where
  pub there : IsThere found now
  pub same : now.image ≡ old.image

pub still_there : {T : Type 0} (x : T) (found : Found) (old a b : State) → OnlyReads {T = T} (Ok x) a b → StillThere found old a → StillThere found old b
still_there x found old a b reads still = grind (arith, there_later)

-- what was answered of a part of a rule holds of the image at first
pub part_holds : (P : Image → Type 0) (stand : Bool) (a b : Image) → b ≡ a → (IsTrue stand ↔ P b) → stand ≡ true → P a
part_holds P stand a b same says is = subst P same (says.0 is)

pub part_fails : (P : Image → Type 0) (stand : Bool) (a b : Image) → b ≡ a → (IsTrue stand ↔ P b) → stand ≡ false → P a → ⊥
part_fails P stand a b same says other p = true≢false (sym (says.1 (subst P (sym same) p)) ∙ other)

-- where a place fails a rule it doesn't hold, and where none does it holds
pub placed : (failing : Option Place) (place : Place) → failing ≡ Some place → is_none failing ≡ false
placed failing place is = ap is_none is

pub unplaced : (failing : Option Place) → failing ≡ None → is_none failing ≡ true
unplaced failing is = ap is_none is

-- what is answered, said otherwise
pub answers_as : {T : Type 0} (r : Result T Stop) (P Q : T → Type 0) → ((x : T) → P x → Q x) → IfOk r P → IfOk r Q
answers_as (Ok x) P Q to p = to x p
answers_as (Err e) P Q to p = tt

-- One reading of sizes, and of the first rule.

pub one_size : (a b : Geometry) (image : Image) → HasSizes a image → HasSizes b image → a ≡ b
one_size a b image first second = grind (arith, common_steps)

-- the first rule of what was found is that of all sizes and masters
pub fails_formed : OneNewest → (found : Found) (site : State) (stand : Bool) → IsThere found site → HasSizes found.log.geometry site.image → (IsTrue stand ↔ OctetsAreFormed found.log.geometry found.master site.image) → stand ≡ false →
    FailsFirst 1 site.image
fails_formed newest found site stand there sizes says other g m formed = grind (arith, one_size)
