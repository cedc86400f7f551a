-- The names that most proofs of this crate cite, passed on from one place. Declares nothing.
pub use Rattle.std.proofs.Common.{◌≡◌, ap, arith, sym, ℕ, ◌+◌, ◌∙◌, length, List, drop, take, [], get_or, subst, ◌∷◌, ◌≤◌, Some, false, refl, ◌++◌, Bool, add-one, nat_eq, suc, true, zero, None, Option, cond, is_some, set, ◌<◌, ◌==◌, option_map, map, ◌-◌, ◌||◌, IsTrue, length-append, not, slice_get, ◌^◌, ◌↔◌, All, append-nil, append_assoc, if◌then◌else◌, length-drop, ◌&&◌}
pub use Rattle.std.proofs.Math.ListN.{length-set}
pub use Rattle.std.proofs.lemmas.Bool.{eqb-true, cond-true, eq-eqb, ne_eqb, true≢false}
pub use Rattle.std.proofs.lemmas.List.{take_all, take_more, drop_all, length-map, length-take-le, take_more_set}
pub use Rattle.std.proofs.lemmas.List.Sums.{prefix_len-le-length, take_while-cons}
pub use Rattle.std.proofs.lemmas.Option.{none-some, same_Some}
pub use Rattle.std.specs.List.{AllByRecursion, refill}
pub use Rattle.std.specs.Map.{lookup}
pub use Rattle.std.specs.Option.{option_or}
pub use Rattle.byte_fields.specs.declared.frame_head.FrameHead.{FrameHead}
pub use Rattle.flash_directory.specs.Heads.{frames_in, last_among, last_in, newest, IsQueue, last_place, place_in, in_first, in_next, read_at, IsNewest}
pub use Rattle.flash_directory.specs.Places.{newer, elsewhere, FindsNewest}
pub use Rattle.flash_directory.specs.declared.place.Place.{Place}
pub use Rattle.indexmap.specs.IndexMap.{get, spare}
pub use Rattle.second_chance.proofs.Unread.{group_read_none, groups_read_none, length-groups_read}
pub use Rattle.second_chance.specs.Queue.{Queue, in_group, in_groups, group_marks, groups_read, is_last, frame_of, group_read, mark_of, marks_of_groups, pushed, with_read}
pub use Rattle.second_chance.specs.declared.frame.Frame.{Frame}
pub use Rattle.std_lemmas.proofs.Bools.{and_false, or_true, same_bools}
pub use Rattle.std_lemmas.proofs.Options.{some_mapped, none_if_no_some, option_or_assoc, option_or_none}
