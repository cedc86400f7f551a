-- What a crash within a write of a page leaves.
use Rattle.std.proofs.Common.{◌≡◌, ℕ, ◌*◌, List, length, subst, arith}
use Rattle.std.specs.Prelude.{Result}
use Rattle.site.specs.declared.outside.Dev.TheVariants.{Disk}
use Rattle.site.specs.declared.outside.Failed.{Failed}
use Rattle.site.specs.State.{State, MayLeave}
use Rattle.site.specs.Calls.{within_write, Wrote}
use Rattle.site.specs.Moments.{LeavesOnly}
use Rattle.site.proofs.Laws.{write_leaves_only}
use Rattle.disk_pages.specs.Pages.{LiesOn, within_page}

pub page_leaves : {T : Type 0} (page at : ℕ) (bytes : List ℕ) (old new : State) (result : Result T Failed) → at ≡ 4096 * page → length bytes ≡ 4096 → LiesOn page old.image.disk
    → Wrote Disk at bytes old new result → LeavesOnly old new (MayLeave (within_page page old))
page_leaves page at bytes old new result place long lies w =
    write_leaves_only Disk at bytes old new result (MayLeave (within_page page old)) (omega (arith, place, long, lies)) w
    (λ s m. subst (λ (p : ℕ). MayLeave (within_write Disk p 4096 old) s) place (subst (λ (n : ℕ). MayLeave (within_write Disk at n old) s) long m))
