-- The names that most proofs of this crate cite, passed on from one place. Declares nothing.
pub use Rattle.std.proofs.Common.{ap, sym, ◌∙◌, length, ◌≡◌, List, refl, arith, subst, ◌∷◌, [], nat_eq, ℕ, ◌++◌, None, Some, ◌<◌, Bool, cond, false, map, length-append, take, Option, true, filter, is_some, option_map, ◌-◌, ◌==◌, ◌≢◌, ◌≤◌, append-nil, drop, reverse, slice_set, IfOk, not, option_copied, slice_get, ◌+◌, ◌||◌}
pub use Rattle.std.proofs.lemmas.Bool.{eqb-true, eq-eqb, ne_eqb, cond-false, cond-true, eqb-false, true≢false}
pub use Rattle.std.proofs.lemmas.List.{map-append, length-map, reverse-append, take_all, append_assoc, length-take, take-append-le, take-map, take_at}
pub use Rattle.std.proofs.lemmas.List.Elements.{filter-append}
pub use Rattle.std.proofs.lemmas.Map.{length-set_value, lookup-remove_entry, lookup-set_value}
pub use Rattle.std.proofs.lemmas.Option.{none-some}
pub use Rattle.std.specs.List.{AllByRecursion, list_any}
pub use Rattle.std.specs.Map.{set_value, remove_entry, lookup, lookup_entry, keys_of}
pub use Rattle.buffer_pool.specs.Entries.{frames_in, state_in, framed_pages, frame_in}
pub use Rattle.buffer_pool.specs.Frames.{State, frame_of, AreDistinct, mark_of, touched, IsPool, front_of, cleared, without, ChangesFront, Knows, KnowsSame, cleared_at, coldest_movable, is_framed, clear, coldest_changed, in_front, is_movable}
pub use Rattle.buffer_pool.specs.Listing.{struck, IsIndex, enlisted, AreStamped, if_listed, is_listed, listed_of}
pub use Rattle.buffer_pool.specs.declared.frame.Frame.{Frame}
pub use Rattle.buffer_pool.specs.declared.pool_entry.PoolEntry.{PoolEntry}
pub use Rattle.lru.specs.LruCache.{last_entry, promoted, put_entries, LruCache}
pub use Rattle.slotted_page.specs.Layout.{IsSound, slots_of, FitsPage, lsn_of}
pub use Rattle.std_lemmas.proofs.Bools.{eq_turned}
