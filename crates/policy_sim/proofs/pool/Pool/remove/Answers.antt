use Rattle.policy_sim.proofs.Names.{◌≡◌, ◌∙◌, ℕ, nat_eq, ap, sym, subst, keys_of, remove_entry, LruCache, AreStamped, IsListedBy, listed_of, pages_in, Kept, has_frame}
use Rattle.std.specs.List.{IsDistinct}
use Rattle.policy_sim.proofs.Pooled.{Entries, removed}
use Rattle.policy_sim.proofs.Struck.{listed_removed, stamped_removed}
use Rattle.policy_sim.proofs.pool.Pool.remove.Goals as goal

pub returns-clause-pages : goal.returns-clause-pages
returns-clause-pages c =
    let pages = c.unlist.ensures.pages in
    ap pages_in (ap (λ (p : LruCache ℕ Kept). p.entries) c.pop.ensures.entries ∙ ap (λ (p : LruCache ℕ Kept). remove_entry (nat_eq c.args.page) p.entries) pages)
    ∙ removed c.args.page c.args.self.now.pages.entries (subst (λ (p : LruCache ℕ Kept). IsDistinct nat_eq (keys_of p.entries)) pages c.len-len.ensures.valid.0)

pub returns-clause-pool : goal.returns-clause-pool
returns-clause-pool c =
    let pages = c.unlist.ensures.pages in
    let entries : c.pop.new.self.entries ≡ remove_entry (nat_eq c.args.page) c.args.self.now.pages.entries =
    ap (λ (p : LruCache ℕ Kept). p.entries) c.pop.ensures.entries ∙ ap (λ (p : LruCache ℕ Kept). remove_entry (nat_eq c.args.page) p.entries) pages in
    record {
      cap = ap (λ (p : LruCache ℕ Kept). p.cap) c.pop.ensures.entries ∙ ap (λ (p : LruCache ℕ Kept). p.cap) pages ∙ c.requires.cap;
      listed = c.unlist.ensures.listed ∙ ap listed_of (sym entries);
      stamped = subst (λ (n : ℕ). AreStamped n c.pop.new.self.entries) (sym c.unlist.ensures.next) (subst (λ (l : Entries). AreStamped c.args.self.now.next l) (sym entries)
          (stamped_removed c.args.self.now.next c.args.page c.args.self.now.pages.entries c.requires.stamped));
    }

pub returns-clause-listed : goal.returns-clause-listed
returns-clause-listed c queue listed =
    let pages = c.unlist.ensures.pages in
    let entries : c.pop.new.self.entries ≡ remove_entry (nat_eq c.args.page) c.args.self.now.pages.entries =
    ap (λ (p : LruCache ℕ Kept). p.entries) c.pop.ensures.entries ∙ ap (λ (p : LruCache ℕ Kept). remove_entry (nat_eq c.args.page) p.entries) pages in
    subst (λ (l : Entries). IsListedBy (has_frame queue) l) (sym entries) (listed_removed (has_frame queue) c.args.page c.args.self.now.pages.entries listed)
