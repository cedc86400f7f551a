-- What a session sees behind a call of a line.
use Rattle.std.proofs.Common.{◌≡◌, ℕ, zero, suc, ◌<◌, Bool, true, false, List, [], ◌∷◌, ◌++◌, length, Option, Some, None, refl, sym, ap, ◌∙◌, subst, arith}
use Rattle.std.proofs.lemmas.Grind.{common_steps}
use Rattle.std.specs.Prelude.{if◌then◌else◌, ◌&&◌, not, is_none, option_map, slice_index_or, slice_set}
use Rattle.record_model.specs.declared.words.CacheLine.{CacheLine}
use Rattle.record_model.specs.declared.words.Command.{Command}
use Rattle.record_model.specs.declared.words.Command.TheVariants as command
use Rattle.record_model.specs.declared.words.Reply.{Reply}
use Rattle.record_model.specs.declared.words.Reply.TheVariants as reply
use Rattle.record_model.specs.declared.words.Why.TheVariants.{BadSession}
use Rattle.record_model.specs.State.{Content, Session, State, content_at, seen, session_at, table_with, writes_of}
use Rattle.record_model.specs.State as state
use Rattle.record_model.specs.Step.{Outcome, answer, carried_through, effect, fills_page, first_refusal, found, full, having_read, having_written, lacks_room, outcome, ready, refusal, step, wants_active, wants_record, with_session}
use Rattle.record_model.specs.Laws.{is_refused}
use Rattle.record_model.proofs.RefusalLaws.{refusals_are_told}
use Rattle.log_laws.proofs.Tables.{content_with}
use Rattle.named_keys.specs.Laws.{seen_table}

-- A command that its reply doesn't refuse.

module _ (s : State) (c : Command) (listing : List CacheLine) where
  of_page : (s : State) (lacks : Bool) (page : Option Reply) → (not lacks && is_none page) ≡ true →
      (if lacks then record { after = s; reply = full s } else carried_through s c listing page) ≡ record { after = effect s c; reply = answer s c listing }
  of_page s true page e = absurd cc
  of_page s false (Some refused) e = absurd cc
  of_page s false None e = refl

  of_tests : (r : Option Reply) → ((is_none r && not (lacks_room (ready s c) c)) && is_none (fills_page (ready s c) c)) ≡ true →
      (r ≡ None) × (outcome s c listing r ≡ record { after = effect (ready s c) c; reply = answer (ready s c) c listing })
  of_tests (Some refused) e = absurd cc
  of_tests None e = (refl, of_page (ready s c) (lacks_room (ready s c) c) (fills_page (ready s c) c) e)

  pub carried_out : is_refused (step s c listing).reply ≡ false → (refusal s c ≡ None) × (step s c listing ≡ record { after = effect (ready s c) c; reply = answer (ready s c) c listing })
  carried_out passes = of_tests (refusal s c) (refusals_are_told s c listing ∙ ap not passes)

-- Its tests.

none_first : (first : Option Reply) (later : List (Option Reply)) → first_refusal (first ∷ later) ≡ None → (first ≡ None) × (first_refusal later ≡ None)
none_first (Some refused) later e = absurd cc
none_first None later e = (refl, e)

is_active : (s : State) (n : ℕ) → wants_active s n ≡ None → (session : Session) × (session_at s n ≡ Some session)
is_active s n passes = by (session_at s n) refl passes
  where
    by : (o : Option Session) → session_at s n ≡ o → (if is_none o then Some (reply.Refused BadSession) else None) ≡ None → (session : Session) × (session_at s n ≡ Some session)
    by None is e = absurd cc
    by (Some session) is e = (session, is)

has_record : (s : State) (number : ℕ) → wants_record s number ≡ None → number < length s.table
has_record s number passes = grind (arith, common_steps)

-- The session behind it.

placed : (sessions : List (Option Session)) (n : ℕ) (old new : Session) → slice_index_or sessions n None ≡ Some old → slice_index_or (slice_set sessions n (Some new)) n None ≡ Some new
placed [] n old new e = absurd cc
placed (o ∷ sessions) zero old new e = refl
placed (o ∷ sessions) (suc n) old new e = placed sessions n old new e

session_behind : (s : State) (n : ℕ) (f : Session → Session) (session : Session) → session_at s n ≡ Some session → session_at (with_session s n (option_map f (session_at s n))) n ≡ Some (f session)
session_behind s n f session is = ap (λ (o : Option Session). slice_index_or (slice_set s.sessions n (option_map f o)) n None) is ∙ placed s.sessions n session (f session) is

table_more : (table : List Content) (writes : List state.Write) (w : state.Write) → table_with table (writes ++ w ∷ []) ≡ slice_set (table_with table writes) w.0 w.1
table_more table [] w = refl
table_more table (first ∷ writes) w = table_more (slice_set table first.0 first.1) writes w

-- a read, and a write
pub record IsRead (s after : State) (n number : ℕ) (content : Content) : Type 0 where
  pub is_seen : content ≡ content_at (seen_table s n) number
  pub sees : seen_table after n ≡ seen_table s n
  pub table : after.table ≡ s.table
  pub commits : after.commits ≡ s.commits

pub record IsWritten (s after : State) (n number : ℕ) (value : List ℕ) : Type 0 where
  pub sees : seen_table after n ≡ slice_set (seen_table s n) number (Some value)
  pub table : after.table ≡ s.table
  pub commits : after.commits ≡ s.commits

found_same : (a b : Content) → found a ≡ found b → a ≡ b
found_same None None e = refl
found_same None (Some value) e = absurd cc
found_same (Some value) None e = absurd cc
found_same (Some value) (Some other) e = cc

found_passes : (content : Content) → is_refused (found content) ≡ false
found_passes None = refl
found_passes (Some value) = refl

pub read_is : (s : State) (n number : ℕ) (content : Content) (listing : List CacheLine) → found content ≡ (step s (command.Read n number) listing).reply → IsRead s (step s (command.Read n number) listing).after n number content
read_is s n number content listing tells =
    let c = command.Read n number in
    let out = carried_out s c listing (ap is_refused (sym tells) ∙ found_passes content) in
    let tests = none_first _ _ out.0 in
    let active = is_active s n tests.0 in
    let less = has_record s number (none_first _ _ tests.1).0 in
    let seen_is = found_same content (seen s n number) (tells ∙ ap (λ (o : Outcome). o.reply) out.1) in
    subst (λ (o : Outcome). IsRead s o.after n number content) (sym out.1) (record {
      is_seen = seen_is ∙ sym (content_with s.table (writes_of (session_at s n)) number less);
      sees = ap (λ (o : Option Session). table_with s.table (writes_of o)) (session_behind s n (having_read (number ∷ [])) active.0 active.1) ∙ sym (ap (λ (o : Option Session). table_with s.table (writes_of o)) active.1);
      table = refl;
      commits = refl;
    })

pub write_is : (s : State) (n number : ℕ) (value : List ℕ) (listing : List CacheLine) → reply.Done ≡ (step s (command.Write n number value) listing).reply → IsWritten s (step s (command.Write n number value) listing).after n number value
write_is s n number value listing tells =
    let c = command.Write n number value in
    let out = carried_out s c listing (ap is_refused (sym tells)) in
    let tests = none_first _ _ out.0 in
    let active = is_active s n tests.0 in
    subst (λ (o : Outcome). IsWritten s o.after n number value) (sym out.1) (record {
      sees = ap (λ (o : Option Session). table_with s.table (writes_of o)) (session_behind s n (having_written (number, Some value)) active.0 active.1) ∙ table_more s.table active.0.writes (number, Some value)
          ∙ ap (λ (o : Option Session). slice_set (table_with s.table (writes_of o)) number (Some value)) (sym active.1);
      table = refl;
      commits = refl;
    })
