use Rattle.engine.proofs.Names.{◌≡◌, ◌<◌, ◌≤◌, ℕ, true, false, [], ◌∷◌, Option, Some, None, ◌∙◌, sym, ap, subst, refl, arith, le-ltb, lt-ltb, same_Some, nat_lt, unwrap_or, Session, State, session_at, writes_of, first_refusal, refuse_if, wants_standing, Back, BadMark, entry_is, Active}
use Rattle.std.specs.Prelude.{length}
use Rattle.engine.proofs.Actives.{some_active}
use Rattle.engine.proofs.Replies.{carried_out, idle_session, refused, wants_active_is}
use Rattle.record_model.specs.declared.words.Reply.TheVariants as reply
use Rattle.engine.proofs.engine.Engine.back_refusal.Goals as goal

-- so many of a session's writes stand
stand : (s : State) (n : ℕ) (standing : Option ℕ) (session : Session) (mark writes : ℕ) → session_at s n ≡ Some session → writes ≡ length session.writes → unwrap_or standing mark ≤ writes → wants_standing s n standing ≡ None
stand s n None session mark writes is count less = refl
stand s n (Some k) session mark writes is count less =
    let test : nat_lt (length (writes_of (session_at s n))) k ≡ false = le-ltb (length (writes_of (session_at s n))) k (omega (arith, less, count, ap (λ (o : Option Session). length (writes_of o)) is)) in
    λ i. refuse_if (test i) (reply.Refused BadMark)

-- or fewer do
lack : (s : State) (n : ℕ) (standing : Option ℕ) (session : Session) (mark writes : ℕ) → session_at s n ≡ Some session → writes ≡ length session.writes → mark ≤ writes → writes < unwrap_or standing mark → wants_standing s n standing ≡ Some (reply.Refused BadMark)
lack s n None session mark writes is count fits less = absurd (omega (arith, fits, less))
lack s n (Some k) session mark writes is count fits less =
    let test : nat_lt (length (writes_of (session_at s n))) k ≡ true = lt-ltb (length (writes_of (session_at s n))) k (omega (arith, less, count, ap (λ (o : Option Session). length (writes_of o)) is)) in
    λ i. refuse_if (test i) (reply.Refused BadMark)

pub returns-in_default-clause-refused : goal.returns-in_default-clause-refused
returns-in_default-clause-refused c s site fits =
    refused s (Back c.args.session c.args.standing) _ (λ i. first_refusal (idle_session c.args.session fits (sym c.find.ensures.entry ∙ c.in_default.is) i ∷ wants_standing s c.args.session c.args.standing ∷ []))

pub returns-then-entry-stays-clause-refused : goal.returns-then-entry-stays-clause-refused
returns-then-entry-stays-clause-refused c s site fits =
    let at = sym c.find.ensures.entry ∙ c.in-Some.is in
    let found = some_active fits.newest fits.records c.args.self.now.active s fits.sessions c.args.session c.in-Some.entry at in
    let entry = entry_is c.args.self.now.active c.args.session c.in-Some.entry c.find.ensures.table at in
    let short = lack s c.args.session c.args.standing found.session c.in-Some.entry.mark c.in-Some.entry.writes found.is found.under_way.count entry.mark (omega (arith, c.if-entry-stays.true, c.stays.ensures)) in
    refused s (Back c.args.session c.args.standing) _ (λ i. first_refusal (wants_active_is s c.args.session found.session found.is i ∷ short i ∷ []))

pub returns-clause-accepted : goal.returns-clause-accepted
returns-clause-accepted c s site fits =
    let at = sym c.find.ensures.entry ∙ c.in-Some.is in
    let found = some_active fits.newest fits.records c.args.self.now.active s fits.sessions c.args.session c.in-Some.entry at in
    let there = stand s c.args.session c.args.standing found.session c.in-Some.entry.mark c.in-Some.entry.writes found.is found.under_way.count (omega (arith, c.if-entry-stays.false, c.stays.ensures)) in
    carried_out s (Back c.args.session c.args.standing) refl (λ i. first_refusal (wants_active_is s c.args.session found.session found.is i ∷ there i ∷ [])) refl refl

pub returns-clause-stand : goal.returns-clause-stand
returns-clause-stand c entry at =
    let same : c.in-Some.entry ≡ entry = same_Some c.in-Some.entry entry (sym (sym c.find.ensures.entry ∙ c.in-Some.is) ∙ at) in
    subst (λ (x : Active). unwrap_or c.args.standing x.mark ≤ x.writes) same (omega (arith, c.if-entry-stays.false, c.stays.ensures))
