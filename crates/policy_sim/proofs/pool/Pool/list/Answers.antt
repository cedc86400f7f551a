use Rattle.policy_sim.proofs.Names.{◌≡◌, ◌∙◌, ℕ, Some, nat_eq, ap, sym, subst, insert_entry, lookup, set_value, nat_cmp, LruCache, AreStamped, IsListedBy, but, listed_of, pages_in, Entry, Kept}
use Rattle.policy_sim.proofs.Pooled.{Entries, absent_here}
use Rattle.policy_sim.proofs.Struck.{Listed, but_absent, but_listed, but_set, listed_here, now_listed, set_pages, set_stamped}
use Rattle.policy_sim.proofs.pool.Pool.list.Goals as goal

pub returns-in_default-clause-listed : goal.returns-in_default-clause-listed
returns-in_default-clause-listed c framed listed =
    let es : Entries = c.args.self.now.pages.entries in
    but_absent c.args.page framed es (absent_here c.args.page es (sym c.in_default.ensures)) listed

pub returns-then-kept-clause-listed : goal.returns-then-kept-clause-listed
returns-then-kept-clause-listed c framed listed =
    but_listed c.args.page framed c.in-Some.kept.now c.args.self.now.pages.entries c.len-len.ensures.valid.0 (sym c.in-Some.ensures) c.if-kept.true listed

pub returns-clause-pages : goal.returns-clause-pages
returns-clause-pages c =
    let kept : Kept = c.in-Some.kept.now in
    ap (λ (p : LruCache ℕ Kept). pages_in (set_value (nat_eq c.args.page) p.entries (now_listed kept))) c.in_ok-enlist.ensures.pages
    ∙ set_pages c.args.page kept c.args.self.now.pages.entries (sym c.in-Some.ensures)

pub returns-clause-pool : goal.returns-clause-pool
returns-clause-pool c =
    let old = c.args.self.now in
    let kept : Kept = c.in-Some.kept.now in
    let pages : c.enlist.new.self.pages ≡ old.pages = c.in_ok-enlist.ensures.pages in
    let found : lookup (nat_eq c.args.page) old.pages.entries ≡ Some kept = sym c.in-Some.ensures in
    let entry : Entry = record { page = c.args.page; changed = kept.changed } in
    record {
      cap = ap (λ (p : LruCache ℕ Kept). p.cap) pages ∙ c.requires.cap;
      listed =
          c.in_ok-enlist.ensures.listed ∙ ap (λ (l : Listed). insert_entry nat_cmp l kept.stamp entry) c.requires.listed
          ∙ listed_here old.next c.args.page kept old.pages.entries c.requires.stamped found c.if-kept.false
          ∙ sym (ap (λ (p : LruCache ℕ Kept). listed_of (set_value (nat_eq c.args.page) p.entries (now_listed kept))) pages);
      stamped = subst (λ (n : ℕ). AreStamped n (set_value (nat_eq c.args.page) c.enlist.new.self.pages.entries (now_listed kept))) (sym c.in_ok-enlist.ensures.next)
          (subst (λ (p : LruCache ℕ Kept). AreStamped old.next (set_value (nat_eq c.args.page) p.entries (now_listed kept))) (sym pages)
          (set_stamped old.next c.args.page kept old.pages.entries c.requires.stamped found));
    }

pub returns-clause-listed : goal.returns-clause-listed
returns-clause-listed c framed listed =
    let kept : Kept = c.in-Some.kept.now in
    subst (λ (p : LruCache ℕ Kept). IsListedBy (but c.args.page framed) (set_value (nat_eq c.args.page) p.entries (now_listed kept))) (sym c.in_ok-enlist.ensures.pages)
    (but_set c.args.page framed kept c.args.self.now.pages.entries c.len-len.ensures.valid.0 (sym c.in-Some.ensures) listed)
