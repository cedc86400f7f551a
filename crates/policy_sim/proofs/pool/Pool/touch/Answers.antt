use Rattle.policy_sim.proofs.Names.{rules, ◌≡◌, ◌∷◌, ◌+◌, ◌&&◌, ◌||◌, refl, nat_eq, ℕ, Bool, not, ap, sym, subst, ◌∙◌, arith, keys_of, remove_entry, LruCache, AreStamped, IsListedBy, kept_of, listed_of, pages_in, Kept, holds, has_frame}
use Rattle.std.specs.List.{IsDistinct}
use Rattle.policy_sim.proofs.Pooled.{Entries, put_is}
use Rattle.policy_sim.proofs.Struck.{listed_removed, touched_listed}
use Rattle.policy_sim.proofs.Fronted.{front_listed, front_pages, front_stamped}
use Rattle.policy_sim.proofs.pool.Pool.touch.Goals as goal

touched_as : Kept → Bool → Bool → ℕ → Kept
touched_as before change list stamp = record { changed = before.changed || change; listed = before.listed || list; stamp = stamp }

pub returns-clause-ok : goal.returns-clause-ok
returns-clause-ok c =
    let es : Entries = c.args.self.now.pages.entries in
    let pages : c.enlist.new.self.pages ≡ c.args.self.now.pages = c.in_ok-enlist.ensures.pages ∙ c.unlist-before.ensures.pages in
    let distinct : IsDistinct nat_eq (keys_of es) = subst (λ (p : LruCache ℕ Kept). IsDistinct nat_eq (keys_of p.entries)) pages c.len-len.ensures.valid.0 in
    let cap = ap (λ (p : LruCache ℕ Kept). p.cap) pages ∙ c.requires.cap in
    let entries : c.put.new.self.entries ≡ (c.args.page, c.touched-kept.result) ∷ remove_entry (nat_eq c.args.page) es =
    ap (λ (p : LruCache ℕ Kept). p.entries) c.in_ok-put.ensures.entries
    ∙ put_is c.enlist.new.self.pages c.args.page c.touched-kept.result (omega (arith, c.len-len.ensures.fits, c.len-len.ensures.len, cap))
    ∙ ap (λ (p : LruCache ℕ Kept). (c.args.page, c.touched-kept.result) ∷ remove_entry (nat_eq c.args.page) p.entries) pages in
    let changed = ap (λ (k : Kept). k.changed) c.touched-kept.ensures ∙ ap (λ (k : Kept). k.changed || c.args.change) c.unlist-before.ensures.kept in
    ap pages_in entries ∙ front_pages es c.args.page c.touched-kept.result c.args.change distinct changed

pub returns-clause-pool : goal.returns-clause-pool
returns-clause-pool c =
    let es : Entries = c.args.self.now.pages.entries in
    let pages : c.enlist.new.self.pages ≡ c.args.self.now.pages = c.in_ok-enlist.ensures.pages ∙ c.unlist-before.ensures.pages in
    let cap = ap (λ (p : LruCache ℕ Kept). p.cap) pages ∙ c.requires.cap in
    let entries : c.put.new.self.entries ≡ (c.args.page, c.touched-kept.result) ∷ remove_entry (nat_eq c.args.page) es =
    ap (λ (p : LruCache ℕ Kept). p.entries) c.in_ok-put.ensures.entries
    ∙ put_is c.enlist.new.self.pages c.args.page c.touched-kept.result (omega (arith, c.len-len.ensures.fits, c.len-len.ensures.len, cap))
    ∙ ap (λ (p : LruCache ℕ Kept). (c.args.page, c.touched-kept.result) ∷ remove_entry (nat_eq c.args.page) p.entries) pages in
    let stamp : c.touched-kept.result.stamp ≡ c.args.self.now.next = ap (λ (k : Kept). k.stamp) c.touched-kept.ensures ∙ c.unlist-before.ensures.next in
    let next : c.enlist.new.self.next ≡ c.args.self.now.next = c.in_ok-enlist.ensures.next ∙ c.unlist-before.ensures.next in
    let more : c.in-Some.next ≡ c.enlist.new.self.next + 1 = search rules in
    record {
      cap = ap (λ (p : LruCache ℕ Kept). p.cap) c.in_ok-put.ensures.entries ∙ cap;
      listed =
          front_listed es c.args.page c.touched-kept.result c.args.self.now.next c.unlist-before.new.self.listed.entries c.enlist.new.self.listed.entries stamp c.requires.stamped
          c.unlist-before.ensures.listed c.in_ok-enlist.ensures.listed
          ∙ ap listed_of (sym entries);
      stamped = subst (λ (l : Entries). AreStamped c.in-Some.next l) (sym entries)
          (front_stamped es c.args.page c.touched-kept.result c.args.self.now.next c.in-Some.next stamp (omega (arith, more, next)) c.requires.stamped);
    }

pub returns-clause-listed : goal.returns-clause-listed
unfolding touched_as
returns-clause-listed c queue listed is =
    let es : Entries = c.args.self.now.pages.entries in
    let pages : c.enlist.new.self.pages ≡ c.args.self.now.pages = c.in_ok-enlist.ensures.pages ∙ c.unlist-before.ensures.pages in
    let cap = ap (λ (p : LruCache ℕ Kept). p.cap) pages ∙ c.requires.cap in
    let entries : c.put.new.self.entries ≡ (c.args.page, c.touched-kept.result) ∷ remove_entry (nat_eq c.args.page) es =
    ap (λ (p : LruCache ℕ Kept). p.entries) c.in_ok-put.ensures.entries
    ∙ put_is c.enlist.new.self.pages c.args.page c.touched-kept.result (omega (arith, c.len-len.ensures.fits, c.len-len.ensures.len, cap))
    ∙ ap (λ (p : LruCache ℕ Kept). (c.args.page, c.touched-kept.result) ∷ remove_entry (nat_eq c.args.page) p.entries) pages in
    let kept = c.touched-kept.ensures ∙ ap (λ (k : Kept). touched_as k c.args.change c.args.list c.unlist-before.new.self.next) c.unlist-before.ensures.kept in
    subst (λ (l : Entries). IsListedBy (has_frame queue) l) (sym entries) (
      ap (λ (k : Kept). k.listed) kept
          ∙ ap (λ b. (kept_of c.args.page es).listed || b) is
          ∙ touched_listed (has_frame queue) c.args.page es c.args.change (not (holds (pages_in es) c.args.page) && not (has_frame queue c.args.page)) listed refl
          ∙ sym (ap (λ (k : Kept). k.changed || not (has_frame queue c.args.page)) kept),
      listed_removed (has_frame queue) c.args.page es listed,
    )
