-- The names that most proofs of this crate cite, passed on from one place. Declares nothing.
pub use Rattle.std.proofs.Common.{length, ◌≡◌, [], ◌∙◌, ap, arith, refl, ◌∷◌, ◌≤◌, List, ℕ, Bool, false, true, ◌+◌, ◌||◌, not, ◌&&◌, ◌++◌, filter, suc, sym, cond, map, take, length-append, reverse, slice_get, zero, ◌==◌, Some, ◌-◌, ◌<◌, AllPairs, None, append-nil, append_assoc, drop, filter_map, get_or, option_map, rules, take-append-drop, ◌*◌, ◌≢◌}
pub use Rattle.std.proofs.lemmas.Bool.{eq-eqb, and_parts, eqb-false, leb-true, ne_eqb, or_parts}
pub use Rattle.std.proofs.lemmas.List.{length-map, length-drop, length-reverse, length-take, map-append, reverse-append, take-append-le, take_all}
pub use Rattle.std.proofs.lemmas.List.Elements.{All-from_recursion, filter-append, filter_agree, filter_more, recursion_from_All}
pub use Rattle.std.proofs.lemmas.List.FromFn.{length-enumerate_from, get_or-enumerate_from, length-range_with_len}
pub use Rattle.std.specs.List.{enumerate_from, AllByRecursion, list_any}
pub use Rattle.std.specs.Prelude.{if◌then◌else◌, All, Option, is_none, is_some, unwrap_or}
pub use Rattle.byte_fields.specs.declared.frame_head.Mark.{Mark}
pub use Rattle.record_model.specs.Touches.{CacheOp, flush, line_touches, page_touches, read_touch, record_touches, tested_touches, touch, write_touch}
pub use Rattle.second_chance.specs.Groups.{groups_for_all, FlushPushesChanged, LinesCounted, LinesPushFew, NearlyAllArePushed, TouchPushesOne, WorkPushesFew, groups_for, reads_by, reads_told}
pub use Rattle.second_chance.specs.Laws.{changed_count, names, AreApart, ChancesAreNotStaged, ChancesFew, ChancesStand, EvictionIsPlanned, FlushIsPlanned, IsStagedIn, given_again, staged_from}
pub use Rattle.second_chance.specs.Machine.{leaving, Cache, PoolPage, is_pulled, pool_marks, Rules, flushed, flushed_by, is_changed, is_full, pool_mark, push_changed, saved, wants_flush, without, after_eviction, apply_op, chance_frame, evict_first, in_front, must_be_pushed, next_group, pool_frame, push_evicted, saved_page, staged_in_flush, staged_in_push, touched, with_room}
pub use Rattle.second_chance.specs.Plans.{chances_of, Placed, staged_of, is_among, pulled_at_eviction, pulled_at_flush, eviction_plan, flush_plan}
pub use Rattle.second_chance.specs.Queue.{Queue, in_group, pushed, frame_of, group_marks, group_read, groups_read, has_frame, in_groups, is_last, with_read}
pub use Rattle.second_chance.specs.declared.frame.Frame.{Frame}
pub use Rattle.second_chance.specs.declared.plan.PoolMark.{PoolMark}
pub use Rattle.std_lemmas.proofs.AllOf.{all_both, all_passed, all_take, all_filter, all_map, all_reverse}
