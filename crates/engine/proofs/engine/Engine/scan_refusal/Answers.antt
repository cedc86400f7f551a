use Rattle.engine.proofs.Names.{◌≡◌, ◌∙◌, ◌+◌, ◌-◌, ◌*◌, ◌≤◌, ◌<◌, ◌^◌, ◌∷◌, map, None, Some, refl, sym, rules, arith, range_with_len, sizes_of, first_refusal, may_read, wants_record, Scan, entry_is}
use Rattle.engine.proofs.Replies.{refused, carried_out, has_record, lacks_record, idle_session, is_active, has}
use Rattle.engine.proofs.Scans.{busy_is, past_all}
use Rattle.engine.proofs.engine.Engine.scan_refusal.Goals as goal

pub returns-clause-may : goal.returns-clause-may
returns-clause-may c =
    let own = has _ (search rules) in
    let end : c.in-Some.end ≡ c.args.number + c.args.count = search rules in
    let below : c.in-Some.end - 1 < 32 * (sizes_of c.args.self.now.store).pages = search rules in
    record {
      session = (entry_is c.args.self.now.active c.args.session own.own c.find.ensures.table own.is).small;
      active = search rules;
      small = search rules;
      there = omega (arith, end, below);
      free = sym c.first_busy.ensures ∙ c.in_default-first_busy.is;
    }

pub returns-in_default-clause-refused : goal.returns-in_default-clause-refused
returns-in_default-clause-refused c s site fits =
    let last = c.args.number + c.args.count - 1 in
    let big : 2 ^ 32 ≤ c.args.number + c.args.count = search rules in
    let active = is_active c.args.session fits (search rules) in
    let lacks = lacks_record last fits (past_all (sizes_of c.args.self.now.store) c.requires.going.1.store.both.pages_going.flash.limits last (omega (arith, big))) in
    refused s (Scan c.args.session c.args.number c.args.count) _ (λ i. first_refusal (active i ∷ lacks i ∷ map (may_read s (Some c.args.session)) (range_with_len c.args.number c.args.count)))

pub returns-then-lacks-clause-refused : goal.returns-then-lacks-clause-refused
returns-then-lacks-clause-refused c s site fits =
    let end : c.in-Some.end ≡ c.args.number + c.args.count = search rules in
    let past : 32 * (sizes_of c.args.self.now.store).pages ≤ c.in-Some.end - 1 = search rules in
    let active = is_active c.args.session fits (search rules) in
    let lacks = lacks_record (c.args.number + c.args.count - 1) fits (omega (arith, end, past)) in
    refused s (Scan c.args.session c.args.number c.args.count) _ (λ i. first_refusal (active i ∷ lacks i ∷ map (may_read s (Some c.args.session)) (range_with_len c.args.number c.args.count)))

pub returns-in-Some-first_busy-clause-refused : goal.returns-in-Some-first_busy-clause-refused
returns-in-Some-first_busy-clause-refused c s site fits =
    let end : c.in-Some.end ≡ c.args.number + c.args.count = search rules in
    let below : c.in-Some.end - 1 < 32 * (sizes_of c.args.self.now.store).pages = search rules in
    let active = is_active c.args.session fits (search rules) in
    let there = has_record (c.args.number + c.args.count - 1) fits (omega (arith, end, below)) in
    let numbers = range_with_len c.args.number c.args.count in
    let busy : first_refusal (map (may_read s (Some c.args.session)) numbers) ≡ Some c.in-Some-first_busy.busy = sym (busy_is c.args.self.now.locks s fits.locks_are c.args.session numbers) ∙ sym c.first_busy.ensures ∙ c.in-Some-first_busy.is in
    refused s (Scan c.args.session c.args.number c.args.count) _
    ((λ i. first_refusal (active i ∷ there i ∷ map (may_read s (Some c.args.session)) numbers)) ∙ busy)

pub returns-clause-accepted : goal.returns-clause-accepted
returns-clause-accepted c s site fits =
    let end : c.in-Some.end ≡ c.args.number + c.args.count = search rules in
    let below : c.in-Some.end - 1 < 32 * (sizes_of c.args.self.now.store).pages = search rules in
    let active = is_active c.args.session fits (search rules) in
    let there = has_record (c.args.number + c.args.count - 1) fits (omega (arith, end, below)) in
    let numbers = range_with_len c.args.number c.args.count in
    let free : first_refusal (map (may_read s (Some c.args.session)) numbers) ≡ None = sym (busy_is c.args.self.now.locks s fits.locks_are c.args.session numbers) ∙ sym c.first_busy.ensures ∙ c.in_default-first_busy.is in
    carried_out s (Scan c.args.session c.args.number c.args.count) refl
    ((λ i. first_refusal (active i ∷ there i ∷ map (may_read s (Some c.args.session)) numbers)) ∙ free) refl refl

pub returns-then-is_none-clause-refused : goal.returns-then-is_none-clause-refused
returns-then-is_none-clause-refused c s site fits =
    let last = c.args.number + c.args.count - 1 in
    refused s (Scan c.args.session c.args.number c.args.count) _ (λ i. first_refusal
    ((idle_session c.args.session fits (search rules)) i ∷ wants_record s last ∷ map (may_read s (Some c.args.session)) (range_with_len c.args.number c.args.count)))
