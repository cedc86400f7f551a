-- The names that most proofs of this crate cite, passed on from one place. Declares nothing.
pub use Rattle.std.proofs.Common.{◌≡◌, sym, ◌∙◌, ℕ, ap, arith, subst, refl, List, true, ◌*◌, ◌+◌, [], rules, nat_eq, true≢false, false, cond, ◌∷◌, ◌≤◌, length, ◌++◌, Some, None, ◌<◌, Option, Bool, ◌==◌, inl, inr, suc, map, Err, IsTrue, ◌&&◌, ◌-◌, not, ◌/◌, drop, slice_index_or, take, zero, ◌%◌, ◌↔◌, nat_le, nat_lt, option_map, reverse, slice_set, ◌||◌, get_or, ◌⊎◌, append_assoc, min, option_copied, ◌^◌}
pub use Rattle.std.proofs.lemmas.Bool.{cases_eq, eq-eqb, eqb-true, and_from, and_parts, ne_eqb, not-true, or_left, cases_Bool, cases_lt, le-leb, leb-true, lt-ltb, not_from_false, or_right, and_left, le-ltb, lt-leb, ltb-true}
pub use Rattle.std.proofs.lemmas.Bool.Decides.{nat_tests}
pub use Rattle.std.proofs.lemmas.List.{append-nil, reverse-append, get_or-set_other, get_or-set_same, length-append, map-append, length-drop, length-map, length-set, reverse-reverse, take_all, take_at}
pub use Rattle.std.proofs.lemmas.List.Elements.{filter-append}
pub use Rattle.std.proofs.lemmas.List.Folds.{list_all-map, list_all_at, list_any-append}
pub use Rattle.std.proofs.lemmas.List.FromFn.{get_or-map-range_with_len, length-map-range_with_len, map-range_with_len_more, sum_by-map-range_with_len_more}
pub use Rattle.std.proofs.lemmas.Option.{none-some, same_Some, get_or_from_slice_get, slice_get-get_or, slice_get-map, slice_get_within}
pub use Rattle.std.proofs.lemmas.Result.{err_from_is_err_and}
pub use Rattle.std.specs.BTreeMap.{BTreeMap, is_at, values}
pub use Rattle.std.specs.List.{AllByRecursion, list_any, range_with_len, list_all}
pub use Rattle.std.specs.Map.{lookup}
pub use Rattle.std.specs.Option.{option_or}
pub use Rattle.std.specs.Prelude.{IfSome, Ok, is_some, IfOk, Result, IfNone, is_none, is_ok, filter, slice_get, sum_by, max, OnOk, count_by, flat_map, ⊤}
pub use Rattle.checkpoint.specs.Newest.{seen, HasMaster, IsOf, blank, newest_of}
pub use Rattle.checkpoint.specs.declared.master.Master.{Master}
pub use Rattle.flash_cache.specs.Representation.{version_on, PagesExist}
pub use Rattle.image_changes.specs.Rings.{log_shape, units_on, group_shape, master_shape, segment_shape}
pub use Rattle.image_check.specs.Chaining.{IsKept, Keeps, AreChains, HearsOwn, begin_at, AreLast, AreStrays, Breaks, IsUndoing, StandsIn, StandsThere}
pub use Rattle.image_check.specs.Counting.{CommitsAre, owed_for}
pub use Rattle.image_check.specs.Deciding.{MeetsBefore, IsSurveyOf, HoldOr, log_checked, pages_checked}
pub use Rattle.image_check.specs.Filling.{opened, AreKept, HaveRoom, put_back_by, AreOn, HearsLog, filled, AreKeptOn, Fills, FitsAt, KeepsOpen, KnownOn, Opens, RedoneFits, is_behind, is_news, left_in}
pub use Rattle.image_check.specs.Holding.{AreHeld, IsListed, clashes_by, holds, is_others}
pub use Rattle.image_check.specs.Judgement.{IsVerdictOn}
pub use Rattle.image_check.specs.Judging.{records_of, reading_of, kept_blocks, MayBeJudged, Sees, JudgesBy}
pub use Rattle.image_check.specs.Laws.{AReading, JudgedStands, OneReading, SoundFailsNone, SoundStands, StandingIsJudged, StandingIsSound}
pub use Rattle.image_check.specs.Looking.{without, LooksOnce}
pub use Rattle.image_check.specs.Showing.{FindsVersions, IsAs, HasContents, IsKnownEarly, is_logged, AreExpected, written_by}
pub use Rattle.image_check.specs.Values.{Hears, ShowsLog}
pub use Rattle.image_check.specs.Writing.{AreWritten, before_by, KeepsLast, had_value}
pub use Rattle.image_check.specs.declared.chain.Chain.{Chain}
pub use Rattle.image_check.specs.declared.chains.Chains.{Chains}
pub use Rattle.image_check.specs.declared.filling.Filling.{Filling}
pub use Rattle.image_check.specs.declared.lengths.PageLengths.{PageLengths}
pub use Rattle.image_check.specs.declared.survey.Survey.{Survey}
pub use Rattle.image_check.specs.declared.written.Writings.{Writings}
pub use Rattle.image_check.specs.declared.written.Written.{Written}
pub use Rattle.image_form.proofs.BlockLists.{log_in_order, blocks_on_pages, log_in_table, one_block}
pub use Rattle.image_form.proofs.Counts.{few_more, few_then, by_more, by_then}
pub use Rattle.image_form.proofs.FirstRule.{answers_as, may_be_read_later, one_size, there_later}
pub use Rattle.image_form.proofs.NewestRead.{shown_some}
pub use Rattle.image_form.specs.Counted.{ReadsAtMost, log_looks, page_looks}
pub use Rattle.image_form.specs.Findings.{AreFound, MayRead}
pub use Rattle.image_form.specs.Formed.{IsFormedOr, IsThere, MayBeRead}
pub use Rattle.image_form.specs.Newest.{ShowsFrames}
pub use Rattle.image_form.specs.Octets.{AreVersions, AreGroups, AreBlocks, IsFormed, IsGroupOn, IsOnPage, IsSegmentOn, SegmentsAreFormed}
pub use Rattle.image_form.specs.Verdict.{logical_image_of, LosersCanBeUndone, HoldBefore, PagesHaveRoom, VersionsFit, values_of, OctetsAreFormed, Reading, RecordsFollowBegins, FailsFirst, FramesAreClean, Reads, Rule, SegmentsFollowGroups, CommitsAreNumbered, IsSoundWith, KeptBlocksAreLive, LosersHoldOthersOff, MasterNamesTheActive, UndoHasRoom}
pub use Rattle.image_form.specs.Walking.{to_go, unread, Gives, MayWalk, StandsBefore}
pub use Rattle.image_form.specs.declared.formed.Found.{Found}
pub use Rattle.image_form.specs.declared.place.Place.{Place}
pub use Rattle.image_meaning.proofs.Redos.{slot_of_page, page_of_number}
pub use Rattle.image_meaning.proofs.Versions.{length-versions, version_is}
pub use Rattle.image_meaning.specs.Meaning.{versions_on, version_in, AreOctetsSoundUnder, HasNewest, IsFrameOf, IsNewest, IsSoundUnder, StandsFor, StandsUnder, kept_by, logical_image_under}
pub use Rattle.indexmap.specs.IndexMap.{get, IndexMap}
pub use Rattle.log_judge.proofs.Outcomes.{goes_well, memory_as}
pub use Rattle.log_judge.specs.Unended.{AreLeft, entry_of, Comes}
pub use Rattle.log_judge.specs.declared.unfinished.Left.{Left}
pub use Rattle.log_laws.proofs.Listing.{listed_is_loser, begun_is_listed}
pub use Rattle.log_laws.proofs.Lists.{last_where-filter, last_passes, one_true}
pub use Rattle.log_laws.proofs.Orderly.{fresh_of}
pub use Rattle.log_laws.proofs.Orders.{InTurn-append, filter_none, InTurn-all, InTurn-weaker, all_from, filter_all, none_passes}
pub use Rattle.log_laws.proofs.Parts.{all_below, InTurn-right, in_order_filter}
pub use Rattle.log_laws.proofs.Values.{last_new, last_same, closed_push, closed_same, first_is, first_push, first_same, is_number-Some, own_last, updates_there, with}
pub use Rattle.log_laws.specs.Analysis.{unfinished_at}
pub use Rattle.log_records.proofs.Entries.{in_order_left}
pub use Rattle.log_records.proofs.Lists.{one, all_last, last_where-append}
pub use Rattle.log_records.specs.Log.{Entry, number_of, txn_of, entries_of, is_closed, is_of, is_update, value_of, Version, after_of, is_closing, is_on, version_at, before_of, is_number, last_on, last_where, slot_at, table_of, blank_version, first_update, log_from, shown, shown_by, txn_by}
pub use Rattle.log_records.specs.Sound.{LogicalImage, IsInOrder, Pairwise, HoldsOff, HaveBegunBefore, IsLoserChain, ShowsLast, before_block, commit_count, last_known, Continues, InTurn, Means, commit_numbers, redone}
pub use Rattle.log_records.specs.Unfinished.{losers, is_begin, left_open, prev_of}
pub use Rattle.log_records.specs.declared.log_record.LogRecord.{LogRecord}
pub use Rattle.log_records.specs.declared.log_record.LogRecord.TheVariants.{Update, Begin, Clr, Commit, End}
pub use Rattle.log_store.specs.Representation.{HasBlocks, Finds, block_on}
pub use Rattle.record_model.specs.State.{Content, content_at, length_of, page_room, greatest}
pub use Rattle.sealed_ring.specs.Ring.{IsLive, hi_of, IsRing, live, units_from}
pub use Rattle.second_chance.specs.Queue.{Queue}
pub use Rattle.site.proofs.Working.{looks_then, looks_answered, looks_failed}
pub use Rattle.site.specs.State.{Image, State}
pub use Rattle.site.specs.Work.{OnlyReads}
pub use Rattle.site.specs.declared.geometry.Geometry.{Geometry}
pub use Rattle.site.specs.declared.outside.Stop.{Stop}
pub use Rattle.slotted_page.specs.Layout.{slots_of, lsn_of, IsSound, content_length, offset_of}
pub use Rattle.std_lemmas.proofs.AllOf.{all_left, all_push, all_right, all_weaker, all_append, all_at, all_between, all_filter}
pub use Rattle.std_lemmas.proofs.Bools.{and_true, eq_turned}
pub use Rattle.std_lemmas.proofs.Options.{option_or_none, option_or_assoc, some_mapped}
