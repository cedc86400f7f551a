-- The names that most proofs of this crate cite, passed on from one place. Declares nothing.
pub use Rattle.std.proofs.Common.{◌≡◌, arith, ℕ, List, ◌∙◌, ap, sym, [], refl, subst, ◌++◌, ◌≤◌, ◌∷◌, length, suc, ◌+◌, drop, append_assoc, inl, take, true, ⊎_elim, false, inr, Bool, Ok, ◌-◌, Err, IsTrue, Option, ◌⊎◌, Result, Some, None, if◌then◌else◌, zero, length-append, ◌<◌, ◌≢◌, add-one, map, take-append-drop, count_by, flat_map, ◌*◌, IsErrOf, get_or, OnOk, IfErr, nat_eq, true≢false, ◌&&◌, ◌==◌, ◌||◌, IfOk, cond, is_some, nat_lt, option_map, reverse, ◌/◌, ◌^◌}
pub use Rattle.std.proofs.lemmas.Bool.{cases_lt, false_from_ne_true, or_right}
pub use Rattle.std.proofs.lemmas.Bool.Decides.{Decides-eqb, eqb_tells}
pub use Rattle.std.proofs.lemmas.List.{append-nil, take_all, take-take, length-take-le, take_at, drop_at, length-map, map-append, get_or-append_right, get_or-take, get_or_append_left, length-reverse, length-take, nil_from_length, take-append-le, take-map}
pub use Rattle.std.proofs.lemmas.List.Sums.{length-filter, sum_by-append, sum_by_push}
pub use Rattle.std.specs.List.{AllByRecursion, list_any, starts_with}
pub use Rattle.std.specs.Prelude.{⊤, IfSome, OnErr, filter, filter_map, is_none, slice_get, slice_range}
pub use Rattle.checkpoint.specs.declared.master.Master.{Master}
pub use Rattle.command_line.specs.declared.request.Load.{Load}
pub use Rattle.engine.proofs.Asking.{staged_from, still_writes}
pub use Rattle.engine.proofs.RingCounts.{count_nothing, run_makes}
pub use Rattle.engine.specs.Image.{Stands, IsSound, log_under, Opens}
pub use Rattle.engine.specs.Invariant.{sizes_of, Invariant}
pub use Rattle.engine.specs.Leaves.{LeavesTable, LeavesEither}
pub use Rattle.engine.specs.Listings.{QueueIsOnFlash, listing_of}
pub use Rattle.engine.specs.LogReads.{log_reads_by, restart_log_reads}
pub use Rattle.engine.specs.Paging.{cache_on, restart_works, HasStagedFrom, WritesFrom, AsksFrom}
pub use Rattle.engine.specs.Representation.{Matches}
pub use Rattle.engine.specs.RingWork.{machine_on}
pub use Rattle.engine.specs.SeenVersions.{WhereItFits, VersionsAreSeen}
pub use Rattle.engine.specs.declared.engine.Engine.{Engine}
pub use Rattle.face.specs.Carrying.{CarriesOut, HandsReply, CarriesUntold, TellsAnswer, DoesLine, LinePerforms, LineStepsMachine, halted}
pub use Rattle.face.specs.Causes.{HasCause, HasCauses, AnswerFailsBy, EndsInTime, FailsBy, IsWornOut, WorkEnds}
pub use Rattle.face.specs.Done.{HasDone, TellsDone, lines_at, TellsWhenDone}
pub use Rattle.face.specs.Headline.{IsGood, TellsFault, Durability, Headline, ran, AnswersAlone, IsToldWhole, Resources}
pub use Rattle.face.specs.Image.{BlankLaw, OneMeaning, OneOpening, OpensWhereItStands}
pub use Rattle.face.specs.Lives.{LawOfLives, OpensAgain, LawOfLoads, LoadOpensAgain, OpensAfter}
pub use Rattle.face.specs.Living.{Ends, HasLivedOne, Finds, IsHaltOfTrial, KeepsDevices, IsFoundAfter, IsGivenUp, IsReady}
pub use Rattle.face.specs.Loads.{HasMadeBefore, IsLeftOf, LoadInProgress, LoadTellsDone, LoadWorks, HasBegunLoad, HasCounted, IsOpened, IsUntold, LoadHeadline, LoadStops, TellsOpening, Allows}
pub use Rattle.face.specs.Run.{Run, first_lines, answered, step, turns_of, state_at, listing_at, after_lines, IsFront, StandsFor, LeavesAnswer, Begins, StandsAt, line_checkpoints, AsksFew, IsAsked, checkpoints_of, line_log_reads, listings_left, works_of}
pub use Rattle.face.specs.RunInProgress.{GoesOn, HasAnswered, HasServed, IsPaged, NeverOpens, RunInProgress, IsCounted, IsUnderWay}
pub use Rattle.face.specs.RunMeaning.{first_texts, IsLeft, texts, AsksNoMore, run_of, StandsAfter, cache_by, text_at, IsToldOf, run_text, GivesNumbers, ListsTheMachine, SkipsNoNumber, WritesAsBegun, made_by, staged_by_run, HasBegun, IsWhole, LeavesStaged, all_commits, HasToldBefore, WritesAsTold, WritesSoFar, blocks_by, log_reads_in, masters_by, works_by}
pub use Rattle.face.specs.TopCall.{LoadContract, RunContract, NewContract}
pub use Rattle.face.specs.Trial.{life_line, numbers_of, Between, IsLived, IsNewSite, HaveLived, IsCut, IsLife, IsStatus, IsTextOf, Lives, TellsAll, TellsSome, TrialCauses, TrialContract, at_first, is_within, life_run, script_limit}
pub use Rattle.face.specs.Waiting.{IsAnswered, NobodyWaits}
pub use Rattle.face.specs.Working.{StandsNear, HasHeard, Demands, RunOutcome, AnswersFirst, IsEarly, Stops, StopsTaking, TakingFails, asked_after, log_reads_after, HasTakenAll, IsBetween}
pub use Rattle.face.specs.Workload.{load_run, summary_text, checkpoints_in, makes_one, opening_text, get_line, has_passed, set_line, committed_in, found_in, get_lines, is_value, load_texts, set_lines, summary_of}
pub use Rattle.face.specs.Worn.{WearsNone, WearsFirst, worn_by, WearsNoneBefore, rings_of, IsMirrored, rings_by, HasRings, machine_by}
pub use Rattle.flash_cache.specs.Representation.{IsWorn, start_reads}
pub use Rattle.front_end.proofs.Endings.{ends_with, ends_whole, refuses_devices, ends_done, only_tells}
pub use Rattle.front_end.proofs.Firsts.{first_halted, first_none, first_line}
pub use Rattle.front_end.proofs.Replies.{hands_as}
pub use Rattle.front_end.specs.Faults.{RunFaults, SameFaults, NoFaultRose, after_halt}
pub use Rattle.front_end.specs.Lines.{HearsOnly, commands_of, up_to_quit, IsSource, answered_of, to_hear, HasEnded, HearsLine, limit, total, HeardAll, IsCutOff, TakesWithin, pending, AreLines, Hears, TookWithin}
pub use Rattle.front_end.specs.Refusals.{LacksMemory, memory_fault}
pub use Rattle.front_end.specs.Tells.{Tells, EndsBehind, HandsLines, TellsText}
pub use Rattle.front_end.specs.Texts.{status_of, fault_line, IsLineOf}
pub use Rattle.front_end.specs.declared.halt.Halt.{Halt}
pub use Rattle.front_end.specs.declared.source.Source.{Source}
pub use Rattle.image_changes.specs.Rings.{log_shape, master_shape, group_shape, Blocks, Groups, Masters, segment_shape}
pub use Rattle.image_meaning.specs.Meaning.{logical_image_under, kept_by, AreSegments}
pub use Rattle.log_records.specs.Log.{Entry, log_from, table_of}
pub use Rattle.log_records.specs.declared.log_record.LogRecord.{LogRecord}
pub use Rattle.log_store.specs.declared.store.LogStore.{LogStore}
pub use Rattle.mem_site.specs.Crash.{started, image_left}
pub use Rattle.mem_site.specs.MemState.{state_of, lives_of, IsFresh, fed, limits_of}
pub use Rattle.mem_site.specs.declared.mem.MemSite.{MemSite}
pub use Rattle.page_store.proofs.Counting.{calls_then, unsynced_told, staged_counts_none, staged_counts_then, unsynced_untouched}
pub use Rattle.page_store.specs.Caching.{cache_of, rules}
pub use Rattle.page_store.specs.Costs.{CallsForUnits, unsynced_in, CallsForStaged, cost_of}
pub use Rattle.page_store.specs.Staging.{WritesOnly, HasQueueOn, SavesBefore}
pub use Rattle.page_store.specs.declared.store.PageStore.{PageStore}
pub use Rattle.record_model.specs.Run.{Line, is_quit, later_listings, Turn, next_listing, turns, after_commits, commit_marks, commits_among, is_cache, is_committed, left_by, replies, turn, whole_texts, IsInRange, listings_after, committed_tables, state_at as model_state}
pub use Rattle.record_model.specs.Serial.{Serial}
pub use Rattle.record_model.specs.State.{State, Content, is_due, opened, busy_read, busy_write, content_at, need, page_of, page_room}
pub use Rattle.record_model.specs.Step.{Outcome, carried_through, outcome, refusal, carried_out, first_refusal, found, full, is_accepted, is_page_full, lacks_room, may_read, may_write, ready, refuse_if, wants_record, wants_short}
pub use Rattle.record_model.specs.Touches.{CacheOp, line_touches, run_touches}
pub use Rattle.record_model.specs.declared.words.CacheLine.{CacheLine}
pub use Rattle.record_model.specs.declared.words.Command.{Command}
pub use Rattle.record_model.specs.declared.words.Reply.{Reply}
pub use Rattle.record_model.specs.declared.words.Reply.TheVariants.{Listing}
pub use Rattle.record_model.specs.declared.words.Why.TheVariants.{BadLine, TooLong}
pub use Rattle.redo_laws.proofs.Costs.{ops_compose, numbers_rise, more_next, reads_add_up, staged_add_up}
pub use Rattle.redo_laws.proofs.RingNumbers.{hi_on, leaves_more, leaves_unchanged}
pub use Rattle.redo_laws.specs.Holding.{IsLogWorn, IsSpent, RepresentsIn, RepresentsLog, blocks_to}
pub use Rattle.redo_laws.specs.MachineSteps.{ReadsFor, next_group, NumbersRise, checkpoint_works}
pub use Rattle.redo_laws.specs.Numbers.{HasNumbers, SkipsNone}
pub use Rattle.redo_undo.specs.Mirroring.{MirrorsStore, PerformsStore}
pub use Rattle.redo_undo.specs.StoreCalls.{AreNext, KeepsNext}
pub use Rattle.redo_undo.specs.declared.store.TransactionStore.{TransactionStore}
pub use Rattle.ring_machine.proofs.Performing.{performs_as, performs_answered, performs_by, performs_nothing, performs_then}
pub use Rattle.ring_machine.proofs.Works.{first_stopped, first_then, ring_ops_compose}
pub use Rattle.ring_machine.specs.Commands.{line_work, run_work}
pub use Rattle.ring_machine.specs.Machine.{RingOp, first_worn, Machine, after_all}
pub use Rattle.ring_machine.specs.Performing.{Performs}
pub use Rattle.ring_machine.specs.Restart.{restart_work}
pub use Rattle.sealed_ring.specs.Ring.{hi_of, IsRing}
pub use Rattle.second_chance.proofs.GroupCounts.{groups_add_up}
pub use Rattle.second_chance.specs.Groups.{LinesPushFew, WorkPushesFew, groups_for_all, reads_in}
pub use Rattle.second_chance.specs.Machine.{rules_of, Rules, after_works, Cache, Staged, staged_by_works, listing}
pub use Rattle.shell_text.specs.Reading.{line_of}
pub use Rattle.shell_text.specs.Texts.{reply_text, open_text, reply_lines}
pub use Rattle.site.proofs.Laws.{stays_honest, in_sequence, holds_now, leaves_weaker, each_weaker, tell_leaves, told_is, goes_in_sequence, image_is, calm, each_both, no_call, now_same, goes_nowhere, rose_since, unchanged, rose_then, now_leaves, quiet_settled, stays_quiet}
pub use Rattle.site.proofs.Working.{ok_as, ok_always}
pub use Rattle.site.specs.Calls.{Preserves, SameReads, Rose, FaultRose}
pub use Rattle.site.specs.Faults.{faults_in, with_output_fault, WorkFaults}
pub use Rattle.site.specs.Geometry.{HasLimits, HasLengths, blank_image}
pub use Rattle.site.specs.Moments.{EachMoment, LeavesOnly, Leaves, since, SameAt}
pub use Rattle.site.specs.State.{State as Site, Image, Snapshot, Input, now_of, Moment, IsQuiet, MayLeave, no_loose, faults_of, Loose, content_of, no_input, snapshot_of}
pub use Rattle.site.specs.Telling.{TellsPart, HandsRest, TellsOnly, HandsLine, SameDevices}
pub use Rattle.site.specs.declared.geometry.Geometry.{Geometry}
pub use Rattle.site.specs.declared.outside.Dev.{Dev}
pub use Rattle.site.specs.declared.outside.Dev.TheVariants.{Disk, Log, Flash}
pub use Rattle.site.specs.declared.outside.Failed.{Failed}
pub use Rattle.site.specs.declared.outside.Stop.{Stop}
pub use Rattle.site.specs.declared.outside.Stop.TheVariants.{Worn, Memory, Device, Foreign}
pub use Rattle.site.specs.declared.outside.Take.{Take}
pub use Rattle.std_lemmas.proofs.AllOf.{all_append, all_weaker}
pub use Rattle.workload.specs.Generator.{generated, following, record_of, value_of}
pub use Rattle.workload.specs.Scripts.{lives_of as lives_in, lives_between, stops_from}
