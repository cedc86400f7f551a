use Rattle.policy_sim.proofs.Names.{◌≡◌, ◌∷◌, ◌++◌, ◌∙◌, ◌-◌, ℕ, nat_eq, [], take, length, ap, sym, subst, keys_of, LruCache, AreStamped, IsListedBy, listed_of, struck, entry_page, pages_in, Kept, holds, has_frame}
use Rattle.std.specs.List.{IsDistinct}
use Rattle.policy_sim.proofs.Pooled.{Entries, last_page, split_last}
use Rattle.policy_sim.proofs.Struck.{gone_front, listed_front, stamped_front, struck_coldest}
use Rattle.policy_sim.proofs.pool.Pool.take_coldest.Goals as goal

pub returns-clause-some : goal.returns-clause-some
returns-clause-some c =
    let es : Entries = c.args.self.now.pages.entries in
    last_page es (c.in_ok-page.page, c.in_ok-page.kept) (sym c.in_ok-page.ensures.value)
    ∙ ap (λ (l : Entries). pages_in l ++ entry_page (c.in_ok-page.page, c.in_ok-page.kept) ∷ []) (sym (ap (λ (p : LruCache ℕ Kept). p.entries) (c.strike.ensures.pages ∙ c.in_ok-page.ensures.entries)))

pub returns-clause-gone : goal.returns-clause-gone
returns-clause-gone c =
    let es : Entries = c.args.self.now.pages.entries in
    let split = split_last es (c.in_ok-page.page, c.in_ok-page.kept) (sym c.in_ok-page.ensures.value) in
    let left : c.strike.new.self.pages.entries ≡ take (length es - 1) es = ap (λ (p : LruCache ℕ Kept). p.entries) (c.strike.ensures.pages ∙ c.in_ok-page.ensures.entries) in
    ap (λ (l : Entries). holds (pages_in l) c.in_ok-page.page) left
    ∙ gone_front (take (length es - 1) es) (c.in_ok-page.page, c.in_ok-page.kept) (subst (λ (l : Entries). IsDistinct nat_eq (keys_of l)) split c.len-len.ensures.valid.0)

pub returns-clause-pool : goal.returns-clause-pool
returns-clause-pool c =
    let es : Entries = c.args.self.now.pages.entries in
    let e : ℕ × Kept = (c.in_ok-page.page, c.in_ok-page.kept) in
    let split = split_last es e (sym c.in_ok-page.ensures.value) in
    let left : c.strike.new.self.pages.entries ≡ take (length es - 1) es = ap (λ (p : LruCache ℕ Kept). p.entries) (c.strike.ensures.pages ∙ c.in_ok-page.ensures.entries) in
    record {
      cap = ap (λ (p : LruCache ℕ Kept). p.cap) (c.strike.ensures.pages ∙ c.in_ok-page.ensures.entries) ∙ c.requires.cap;
      listed = c.strike.ensures.listed ∙ ap (struck c.in_ok-page.kept) (c.requires.listed ∙ ap listed_of split) ∙ struck_coldest (take (length es - 1) es) e ∙ ap listed_of (sym left);
      stamped = subst (λ (n : ℕ). AreStamped n c.strike.new.self.pages.entries) (sym c.strike.ensures.next) (subst (λ (l : Entries). AreStamped c.args.self.now.next l) (sym left)
          (stamped_front c.args.self.now.next (take (length es - 1) es) e (subst (λ (l : Entries). AreStamped c.args.self.now.next l) split c.requires.stamped)));
    }

pub returns-clause-listed : goal.returns-clause-listed
returns-clause-listed c queue listed =
    let es : Entries = c.args.self.now.pages.entries in
    let e : ℕ × Kept = (c.in_ok-page.page, c.in_ok-page.kept) in
    let split = split_last es e (sym c.in_ok-page.ensures.value) in
    let left : c.strike.new.self.pages.entries ≡ take (length es - 1) es = ap (λ (p : LruCache ℕ Kept). p.entries) (c.strike.ensures.pages ∙ c.in_ok-page.ensures.entries) in
    subst (λ (l : Entries). IsListedBy (has_frame queue) l) (sym left) (listed_front (has_frame queue) (take (length es - 1) es) e (subst (λ (l : Entries). IsListedBy (has_frame queue) l) split listed))
