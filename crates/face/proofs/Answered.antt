-- Lines that are heard and answered, one after the other.
use Rattle.face.proofs.Names.{◌≡◌, ℕ, suc, List, ◌∷◌, ◌++◌, drop, arith, Ok, sizes_of, QueueIsOnFlash, listing_of, WhereItFits, Engine, CarriesOut, HandsReply, TellsAnswer, IsGood, Begins, Run, answered, listing_at, state_at, step, HasAnswered, HearsOnly, IsSource, TakesWithin, Source, Line, CacheLine, reply_lines, Preserves, EachMoment, Site}
use Rattle.face.proofs.Cuts.{Cut}
use Rattle.face.proofs.Dones.{done_next}
use Rattle.face.proofs.Listed.{asked, left_after, listed_next}
use Rattle.face.proofs.RunsSoFar.{goes_on, moved}
use Rattle.face.proofs.Serving.{served_next}
use Rattle.face.proofs.Waits.{answers_more, answers_next, answers_still}
use Rattle.face.proofs.Written.{written_answered, written_heard}

-- where a run begins it opens well
pub begins_well : (run : Run) (site : Site) → Begins run site → IsGood run.geometry run.opening site
begins_well run site begins = record { honest = begins.honest; quiet = begins.quiet; opens = begins.opens }

module _ {later : List (List CacheLine)} (pool : ℕ) (run : Run) (entry mid new : Site) (engine : Engine) (i : ℕ) where
  -- something is heard
  pub answered_heard : (source : Source) → Cut entry.input.left source mid i → IsSource source → HasAnswered pool run later entry mid engine i → Preserves mid new → HearsOnly mid new → TakesWithin source mid new → HasAnswered pool run later entry new engine i
  answered_heard source cut is_source so_far goes same takes = record {
    progress = moved pool run entry mid new engine i so_far.progress goes same;
    left = so_far.left;
    listed = so_far.listed;
    written = written_heard pool run i entry mid new same so_far.written;
    answers = answers_next run entry mid new source i cut is_source so_far.told so_far.answers takes;
  }

  -- a line is answered
  pub answered_next : {T : Type 0} (x : T) (engine' : Engine) (line : Line) (rest : List Line) → drop i (answered run) ≡ line ∷ rest → HasAnswered pool run (asked line (listing_of engine) ++ later) entry mid engine i → CarriesOut {T = T} (Ok x) line engine engine' mid new →
      TellsAnswer {T = T} (Ok x) (sizes_of engine.store) (state_at run i) (step (state_at run i) line (listing_at run i)) mid new → QueueIsOnFlash → WhereItFits → EachMoment mid new (HandsReply line engine engine' (reply_lines (step (state_at run i) line (listing_at run i)).reply) mid) → HasAnswered pool run later entry new engine' (suc i)
  answered_next {T} x engine' line rest is so_far c tells queue seen hands =
      let served = served_next pool run entry mid engine i so_far.served line rest is engine' new {T = T} x c in
      record {
        progress = goes_on run entry mid engine i so_far.progress new line rest is tells.any_moment engine' served tells.told (done_next pool run entry mid new engine engine' i line rest is so_far.served queue seen so_far.told so_far.tells hands);
        left = left_after line later so_far rest is;
        listed = listed_next line later so_far rest is;
        written = written_answered pool run i entry mid new so_far.told tells.any_moment served.reads so_far.written;
        answers = answers_more run i (suc i) entry new (omega arith) (answers_still run i entry mid new (c.left so_far.fits.honest) so_far.answers);
      }
