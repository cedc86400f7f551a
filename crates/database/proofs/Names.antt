-- The names that most proofs of this crate cite, passed on from one place. Declares nothing.
pub use Rattle.std.proofs.Common.{refl, Bool, false, ◌∙◌, List, [], ap, subst, sym, Some, arith, le-add_right, ℕ, ◌++◌, ◌+◌, ◌∷◌, ◌≡◌, ◌≤◌, suc, true, ⊎_elim, None, Option, drop, inl, le_refl, length, map, true≢false, zero, ◌≢◌}
pub use Rattle.std.specs.Prelude.{Ok, Result, if◌then◌else◌, ◌||◌, Err, IfOk, IfErr, OnOk}
pub use Rattle.database.specs.Course.{Call, Follow, is_answer, lines_of, listings_of, may_commit, run_of, AreAnswers, CallsAreDurable, IsDurable, IsServed, LeavesCommits, begun, commits_asked, commits_in, is_commit, may_commit_in}
pub use Rattle.database.specs.Held.{Held, StandsFor}
pub use Rattle.database.specs.Serving.{Serves, answered, has_stopped, meaning, IsAnswered}
pub use Rattle.database.specs.declared.unanswered.Unanswered.{Unanswered}
pub use Rattle.engine.specs.Invariant.{Invariant, sizes_of}
pub use Rattle.engine.specs.Leaves.{LeavesEither, LeavesTable}
pub use Rattle.engine.specs.Listings.{listing_of}
pub use Rattle.engine.specs.Representation.{Matches}
pub use Rattle.record_model.proofs.RunLaws.{IsRun, commits_make_the_table, turns_are_run}
pub use Rattle.record_model.specs.Laws.{IsCountedAt, IsCountedIn}
pub use Rattle.record_model.specs.Run.{Turn, is_cache, is_committed, is_quit, state_at, turns, after_commits, commit_marks, commits_among, next_listing, replies, turn}
pub use Rattle.record_model.specs.State.{State, Content}
pub use Rattle.record_model.specs.Step.{Outcome, step, answer, carried_through, fills_page, is_accepted, is_page_full, lacks_room, outcome, ready, refusal}
pub use Rattle.record_model.specs.declared.words.CacheLine.{CacheLine}
pub use Rattle.record_model.specs.declared.words.Command.{Command}
pub use Rattle.record_model.specs.declared.words.Command.TheVariants.{Mark, Abort, Back, Begin, Cache, Checkpoint, Commit, Erase, Get, Read, Scan, Set, Stat, Write}
pub use Rattle.record_model.specs.declared.words.Reply.{Reply}
pub use Rattle.record_model.specs.declared.words.Reply.TheVariants.{Done, Listing}
pub use Rattle.redo_laws.proofs.CallsInSequence.{nothing_happens, stands_there}
pub use Rattle.redo_laws.proofs.Endings.{ends_answered, ends_failed, ends_leaving, ends_no_memory, ends_ok}
pub use Rattle.site.proofs.Laws.{leaves_weaker, holds_now, image_is, in_sequence, no_call, told_is}
pub use Rattle.site.proofs.Working.{calls_answered, calls_failed, calls_nothing, calls_refused, err_as, of_error, ok_as}
pub use Rattle.site.specs.Moments.{LeavesOnly, Leaves}
pub use Rattle.site.specs.State.{IsQuiet, Snapshot, Image, MayLeave, State as Site, now_of}
pub use Rattle.site.specs.declared.geometry.Geometry.{Geometry}
pub use Rattle.site.specs.declared.outside.Stop.{Stop}
pub use Rattle.std_lemmas.proofs.Results.{on_ok}
