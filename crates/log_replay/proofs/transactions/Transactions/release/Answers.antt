use Rattle.log_replay.proofs.Names.{◌≡◌, ◌==◌, ◌||◌, nat_eq, Bool, true, false, cond, ℕ, take, refl, sym, ap, ◌∙◌, arith, take_all, list_any, Option, None, slice_index_or, get, Write}
use Rattle.std.proofs.lemmas.List.Folds.{list_any_more}
use Rattle.log_replay.proofs.transactions.Transactions.release.Goals as goal

pub loop-place-preserved : goal.loop-place-preserved
loop-place-preserved c = (
  c.loop-place.invariant.0,
  λ n.
      let is_on : Write → Bool = λ write. write.0 == n in
      let net = c.args.net.now in
      c.swap_remove.ensures.updates.0 n
      ∙ ap (λ o. cond (c.number.result == n) None o) (c.loop-place.invariant.1 n)
      ∙ by (c.number.result == n) (list_any is_on (take c.loop-place.place net)) (get nat_eq c.args.self.now.writers n)
      ∙ ap (λ k. cond (list_any is_on (take c.loop-place.place net) || (k == n)) None (get nat_eq c.args.self.now.writers n)) c.number.ensures
      ∙ ap (λ b. cond b None (get nat_eq c.args.self.now.writers n)) (sym (list_any_more is_on net c.loop-place.place (0, None) (omega (arith, c.loop-place-test.true, c.len-place-end.ensures)))),
)
  where
    by : (q b : Bool) (o : Option ℕ) → cond q None (cond b None o) ≡ cond (b || q) None o
    by true true o = refl
    by true false o = refl
    by false true o = refl
    by false false o = refl

pub returns-clause-writers : goal.returns-clause-writers
returns-clause-writers c = λ n.
    c.loop-place.invariant.1 n
    ∙ ap (λ l. cond (list_any (λ write. write.0 == n) l) None (get nat_eq c.args.self.now.writers n))
    (take_all c.loop-place.place c.args.net.now (omega (arith, c.len-place-end.ensures, c.loop-place-test.false)))
