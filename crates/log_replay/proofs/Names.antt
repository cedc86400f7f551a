-- The names that most proofs of this crate cite, passed on from one place. Declares nothing.
pub use Rattle.std.proofs.Common.{◌≡◌, sym, ◌∙◌, refl, ap, ℕ, ◌+◌, [], arith, ◌∷◌, ◌==◌, List, true, ◌*◌, false, subst, cond, length, nat_eq, ◌++◌, Bool, take, ◌<◌, ◌≤◌, drop, not, ◌&&◌, ◌-◌, ◌||◌, ◌⊎◌, Equal, Greater, Less, inl, inr, suc, true≢false}
pub use Rattle.std.proofs.lemmas.Bool.{eqb-true, eq-eqb, and_right, ne_eqb, cases_eq}
pub use Rattle.std.proofs.lemmas.List.{append_assoc, append-nil, length-append, length-replicate, reverse-append, drop-drop, drop_at, length-set, length-take-le, replicate-append-replicate, take_all}
pub use Rattle.std.proofs.lemmas.Option.{same_Some, none-some}
pub use Rattle.std.specs.List.{AllByRecursion, list_any}
pub use Rattle.std.specs.Option.{option_to_list}
pub use Rattle.std.specs.Prelude.{None, Option, Some, Err, Ok, Result, find, nat_lt, option_and_then, reverse, IsErrOf, OnOk, replicate, slice_index_or, IfNone, IfSome, OnErr, filter, flat_map, slice_set}
pub use Rattle.indexmap.specs.IndexMap.{get}
pub use Rattle.log_archive.specs.Accepted.{Unclosed, Stream, is_taken, Standing, after_record, is_unclosed, without, after_entries, put_in, same_content, AfterLine, after_block, after_clr, after_commit, after_end, after_update, commits_in, unclosed_of, with_next, with_write}
pub use Rattle.log_archive.specs.Lines.{IsBlockLine, IsEndLine, block_text, end_text}
pub use Rattle.log_records.proofs.Blocks.{some_octet, behind, one_spelled, spelled_next, used_is, used_low}
pub use Rattle.log_records.specs.Log.{entries_from, Entry}
pub use Rattle.log_records.specs.Spelling.{IsBlock, FitsFields, HasForm, IsSpelledAt, spelling, used_by}
pub use Rattle.log_records.specs.declared.log_record.LogRecord.{LogRecord}
pub use Rattle.log_replay.specs.Opened.{written, AreOpen, HoldsItsOwn, begun, has_written, is_others, EachOnce, number_of, compensated}
pub use Rattle.log_replay.specs.Stands.{StandsAt, Hears, Puts, Closes, StandsFor}
pub use Rattle.log_replay.specs.declared.ledger.Ledger.{Ledger}
pub use Rattle.log_replay.specs.declared.ledger.ReplayFault.{ReplayFault}
pub use Rattle.log_replay.specs.declared.ledger.ReplayFault.TheVariants.{BadStream, Memory}
pub use Rattle.log_replay.specs.declared.replay.Replay.{Replay}
pub use Rattle.log_replay.specs.declared.transactions.Transactions.{Transactions}
pub use Rattle.record_model.specs.State.{Write, Content, content_at}
