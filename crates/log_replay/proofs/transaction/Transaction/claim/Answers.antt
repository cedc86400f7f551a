use Rattle.log_replay.proofs.Names.{◌≡◌, ◌==◌, ◌||◌, nat_eq, Bool, true, false, cond, ℕ, List, [], ◌∷◌, refl, sym, ap, ◌∙◌, arith, list_any, Option, Some, get, Unclosed, has_written, Write}
use Rattle.std.specs.Prelude.{map}
use Rattle.log_replay.proofs.transaction.Transaction.claim.Goals as goal

any_number : (n : ℕ) (net : List Write) → list_any (λ k. k == n) (map (λ (w : Write). w.0) net) ≡ list_any (λ (w : Write). w.0 == n) net
any_number n [] = refl
any_number n (w ∷ net) = ap (λ b. (w.0 == n) || b) (any_number n net)

one_more : (first later : Bool) (own old : Option ℕ) → cond later own (cond first own old) ≡ cond (first || later) own old
one_more true true own old = refl
one_more true false own old = refl
one_more false later own old = refl

pub loop-number-init : goal.loop-number-init
loop-number-init c = λ n.
    ap (λ b. cond b (Some c.args.self.now.begin) (get nat_eq c.args.writers.now n))
    (ap (list_any (λ k. k == n)) (c.into_iter-number-iterator.ensures.into_iter_gives ∙ c.keys-number-items.ensures.rest)
    ∙ any_number n c.self.inside.net.entries ∙ ap (has_written n) c.self.view_is)

pub loop-number-preserved : goal.loop-number-preserved
loop-number-preserved c = λ n.
    ap (λ o. cond (list_any (λ k. k == n) c.next.new.self) (Some c.args.self.now.begin) o) (c.in_ok-insert.ensures.updates.0 n)
    ∙ ap (λ b. cond (list_any (λ k. k == n) c.next.new.self) (Some c.args.self.now.begin) (cond (c.in-Some.number.now == n) (Some b) (get nat_eq c.loop-number.writers n))) (ap (λ (u : Unclosed). u.begin) c.self.view_is)
    ∙ one_more (c.in-Some.number.now == n) (list_any (λ k. k == n) c.next.new.self) (Some c.args.self.now.begin) (get nat_eq c.loop-number.writers n)
    ∙ ap (λ l. cond (list_any (λ k. k == n) l) (Some c.args.self.now.begin) (get nat_eq c.loop-number.writers n)) (sym c.in-Some.ensures.steps)
    ∙ c.loop-number.invariant n

pub returns : goal.returns
returns c = λ n.
    ap (λ l. cond (list_any (λ k. k == n) l) (Some c.args.self.now.begin) (get nat_eq c.loop-number.writers n)) (sym c.in-None.ensures.steps.0)
    ∙ c.loop-number.invariant n
