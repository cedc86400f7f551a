-- The names that most proofs of this crate cite, passed on from one place. Declares nothing.
pub use Rattle.std.proofs.Common.{refl, List, [], ℕ, ◌∷◌, ◌≡◌, Bool, Some, ap, true, ◌∙◌, false, None, Option, arith, length, sym, ◌+◌, subst, ◌<◌, inl, inr, suc, ◌++◌, ◌≤◌, zero, ◌-◌, ◌*◌, add-one, append_assoc, cond, length-append, length-set}
pub use Rattle.std.proofs.lemmas.Bool.{and_parts, cases_Bool, eqb-true, eqb-false, or_parts, or_left, cases_lt, ne_eqb, not-true, or_cases, or_right}
pub use Rattle.std.proofs.lemmas.Bool.Decides.{nat_tests}
pub use Rattle.std.proofs.lemmas.List.{reverse-append, reverse-reverse, take-append-drop}
pub use Rattle.std.proofs.lemmas.List.Folds.{list_any-append}
pub use Rattle.std.specs.List.{range_with_len, list_any, AllByRecursion, cons_option}
pub use Rattle.std.specs.Prelude.{option_map, map, slice_set, ◌&&◌, if◌then◌else◌, slice_index_or, ◌==◌, is_none, ◌||◌, filter_map, IsTrue, filter, nat_le, nat_lt, not, take, unwrap_or, ◌⊎◌, find, is_some, reverse, sum_by, count_by, drop, flat_map, max, min, replicate, slice_get}
pub use Rattle.record_model.specs.Laws.{AreSound, IsCountedIn, IsSoundSession, BackToTheMark, EachLineHasATurn, IsCountedAt, KeepsSizes, PagesFit, PagesStayFit, RefusalsAreTold, SeenFits, SessionsStaySound, SizesStay, TableFits, TurnsFollow, is_refused, moves_mark}
pub use Rattle.record_model.specs.Run.{Line, Turn, line_step, left_by, turn, turns, commit_marks, commits_among, is_committed, is_quit, state_at, after_commits, later_listings, listings_after, next_listing, replies, committed_tables}
pub use Rattle.record_model.specs.Serial.{opened_alone, is_accepted_of, is_begin_line, lines_of, since_begin, table_before, GetsAreSerial, IsOfSession, IsTransaction, Serial, commits_before, committed_by, is_begin, is_session, line_session, session_of, transaction}
pub use Rattle.record_model.specs.State.{State, Content, Session, content_at, writes_of, seen, table_with, busy_read, busy_write, last_write, session_at, is_other, opened, footprint, footprint_with, greatest, kept_by_checkpoint, length_of, longest_write, need, owed, page_of, page_room, reads_of, records_of, standing_writes, used, wrote_of}
pub use Rattle.record_model.specs.Step.{refusal, ready, effect, fills_page, going_back, having_marked, having_read, having_written, lacks_room, outcome, refuse_if, step, wants_record, wants_short, Outcome, answer, found, may_read, may_write, wants_active, wants_standing, carried_through, first_refusal, full, is_accepted, asks_for_checkpoint, dropped, item, left_standing, makes_checkpoint, making, with_session}
pub use Rattle.record_model.specs.declared.words.CacheLine.{CacheLine}
pub use Rattle.record_model.specs.declared.words.Command.{Command}
pub use Rattle.record_model.specs.declared.words.Command.TheVariants.{Begin, Back, Erase, Mark, Read, Scan, Write, Commit, Abort, Set, Get}
pub use Rattle.record_model.specs.declared.words.Reply.{Reply}
pub use Rattle.record_model.specs.declared.words.Why.{Why}
pub use Rattle.record_model.specs.declared.words.Why.TheVariants.{BadSession, BadMark, NoRecord, TooLong}
pub use Rattle.std_lemmas.proofs.AllOf.{each_member, all_member}
pub use Rattle.std_lemmas.proofs.Options.{none_if_is_none}
