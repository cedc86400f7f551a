-- The names that most proofs of this crate cite, passed on from one place. Declares nothing.
pub use Rattle.std.proofs.Common.{◌≡◌, ap, ◌∙◌, ℕ, sym, arith, List, take, length, ◌∷◌, [], ◌++◌, subst, ◌+◌, Bool, refl, false, Some, nat_eq, ◌||◌, ◌≤◌, not, ◌==◌, rules, true, ◌&&◌, ◌<◌, get_or, if◌then◌else◌, suc, zero, ◌-◌, None, Option, append-nil, map, append_assoc, cond, drop, filter, is_some, length-append, set, slice_get, IfSome, IsTrue, add-one, nat_le, nat_lt, reverse, ◌^◌, ◌↔◌, ◌≢◌}
pub use Rattle.std.proofs.lemmas.Bool.{eqb-true, ne_eqb, eq-eqb, eqb-false, ltb-false, ltb-true, or_cases, or_parts}
pub use Rattle.std.proofs.lemmas.List.{map-append, length-map, reverse-append, take_all, length-drop, reverse-reverse, take-take, take_at, take_more_set}
pub use Rattle.std.proofs.lemmas.List.Elements.{filter-append, filter_map-append}
pub use Rattle.std.proofs.lemmas.Option.{none-some, slice_get_read}
pub use Rattle.std.specs.BTreeMap.{insert_entry}
pub use Rattle.std.specs.List.{AllByRecursion, list_any}
pub use Rattle.std.specs.Map.{keys_of, remove_entry, lookup, set_value, lookup_entry}
pub use Rattle.std.specs.Ordering.{nat_cmp}
pub use Rattle.std.specs.Prelude.{unwrap_or, All, slice_set}
pub use Rattle.byte_fields.specs.declared.frame_head.Mark.{Mark}
pub use Rattle.flash_directory.proofs.Keeping.{entered_more, newest_at, newest_read, place_at, places_left, places_pushed, some_newest, valid_at}
pub use Rattle.flash_directory.specs.Heads.{newest, last_among, IsNewest, IsQueue, place_in, read_at}
pub use Rattle.flash_directory.specs.Places.{elsewhere, newer}
pub use Rattle.lru.specs.LruCache.{LruCache, last_entry, put_entries}
pub use Rattle.policy_sim.specs.Listing.{IsListedBy, listed_of, AreStamped, but, kept_of, unless, IsPool, none_kept, struck, enlisted, IsListed, if_listed}
pub use Rattle.policy_sim.specs.Machines.{IsAfter, State, after_touch, after_touches, eviction_pushes, made_by, one_where}
pub use Rattle.policy_sim.specs.Pools.{pages_in, pages_of, group_of, page_of, entry_page, is_movable, movable, pulled_frames, candidates}
pub use Rattle.policy_sim.specs.Steps.{cache_of, rules_in}
pub use Rattle.policy_sim.specs.Tables.{at_page}
pub use Rattle.policy_sim.specs.declared.counts.Counts.{Counts}
pub use Rattle.policy_sim.specs.declared.entry.Entry.{Entry}
pub use Rattle.policy_sim.specs.declared.entry.Kept.{Kept}
pub use Rattle.second_chance.proofs.Unread.{length-groups_read, read_has, with_read_none}
pub use Rattle.second_chance.specs.Laws.{names, given_again, AreApart, EvictionIsPlanned, eviction_done, plan_for_eviction}
pub use Rattle.second_chance.specs.Machine.{PoolPage, holds, without, Cache, is_changed, staged_in_push, Rules, leaving, must_be_pushed, pool_mark, pool_marks, push_evicted, after_eviction, evict_coldest, evict_first, is_full, staged_in_eviction, touched, with_room}
pub use Rattle.second_chance.specs.Plans.{eviction_plan, chances_of, staged_of}
pub use Rattle.second_chance.specs.Queue.{Queue, has_frame, group_marks, pushed, front_marks, in_group, with_read, frame_of, groups_read, in_groups, mark_of}
pub use Rattle.second_chance.specs.declared.frame.Frame.{Frame}
pub use Rattle.second_chance.specs.declared.plan.Plan.{Plan}
pub use Rattle.second_chance.specs.declared.plan.PoolMark.{PoolMark}
pub use Rattle.std_lemmas.proofs.Bools.{and_true, eq_turned, or_assoc, or_false, or_true, and_false, or_without}
pub use Rattle.std_lemmas.proofs.Lists.{take_next}
