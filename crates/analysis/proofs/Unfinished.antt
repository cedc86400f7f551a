-- One list of the active transactions, and that it is the list of the unfinished ones.
use Rattle.std.proofs.lemmas.Grind.{common_steps}
use Rattle.analysis.proofs.Names.{◌≡◌, ℕ, ◌+◌, ◌==◌, ◌&&◌, not, Bool, true, cond, List, [], ◌∷◌, map, Some, None, refl, sym, ap, ◌∙◌, arith, eqb-true, length-map, list_any, filter, fold, has_begun, HaveBegun, OneTable, ActiveIsUnfinished, TableOfUnfinished, OwedOfUnfinished, found_in, AscendFrom, owed_one, open_at, Entry, is_closed, Active, IsInOrder, is_known, is_begin, losers, owed_by}
use Rattle.analysis.proofs.Tables.{ascend_lower, same_tables}
use Rattle.analysis.proofs.Pending.{order_filter}

pub one_table : OneTable
one_table named records a b first second = same_tables 0 a b first.ascend second.ascend (λ t. first.says t ∙ sym (second.says t))

-- The unfinished ones.

-- whom a master names has begun
named_begun : (named : List Active) (records : List Entry) (t : ℕ) → HaveBegun named records → list_any (λ a. a.begin == t) named ≡ true → has_begun records t ≡ true
named_begun [] records t begun h = grind arith
named_begun (a ∷ named) records t begun h = grind (arith, eqb-true, (named_begun named records t begun.1))

known_is : (named : List Active) (records : List Entry) (t : ℕ) → HaveBegun named records → is_known named records t ≡ has_begun records t
known_is named records t begun = grind (arith, named_begun)

abbrev pub lives_in : List Entry → Entry → Bool
lives_in records e = is_begin e.rec && not (is_closed records e.lsn)

abbrev pub begins_as : ℕ → Entry → Bool
begins_as t e = is_begin e.rec && (e.lsn == t)

pub listed_is : (records xs : List Entry) (t : ℕ) → list_any (λ s. s == t) (map (λ (e : Entry). e.lsn) (filter (lives_in records) xs)) ≡ (list_any (begins_as t) xs && not (is_closed records t))
listed_is records [] t = refl
listed_is records (x ∷ xs) t = grind (arith, common_steps, (listed_is records xs t))

pub active_is_unfinished : ActiveIsUnfinished
active_is_unfinished named records t begun = ap (λ b. b && not (is_closed records t)) (known_is named records t begun) ∙ sym (listed_is records records t)

found_listed : (named : List Active) (records : List Entry) (ns : List ℕ) (t : ℕ) → found_in (map (open_at named records) ns) t ≡ cond (list_any (λ s. s == t) ns) (Some (open_at named records t)) None
found_listed named records [] t = refl
found_listed named records (n ∷ ns) t = grind (arith, eqb-true, (found_listed named records ns t))

ascend_listed : (named : List Active) (records : List Entry) (from to : ℕ) (xs : List Entry) → IsInOrder from xs to → AscendFrom from (map (open_at named records) (map (λ (e : Entry). e.lsn) xs))
ascend_listed named records from to [] order = tt
ascend_listed named records from to (x ∷ xs) order = (order.0, ascend_listed named records (x.lsn + 1) to xs order.1)

pub table_of_unfinished : TableOfUnfinished
table_of_unfinished named records from to begun order = record {
  ascend = ascend_lower 0 from (map (open_at named records) (losers records)) (omega arith) (ascend_listed named records from to (filter (lives_in records) records) (order_filter (lives_in records) from to records order));
  says = λ t. found_listed named records (losers records) t ∙ ap (λ b. cond b (Some (open_at named records t)) None) (sym (active_is_unfinished named records t begun));
}

sums_of : (named : List Active) (records : List Entry) (ns : List ℕ) (a : ℕ) → fold (λ n x. n + owed_one x) a (map (open_at named records) ns) ≡ fold (λ n t. n + owed_by records t) a ns
sums_of named records [] a = refl
sums_of named records (t ∷ ns) a = grind (arith, length-map, (sums_of named records ns (a + owed_by records t)))

pub owed_of_unfinished : OwedOfUnfinished
owed_of_unfinished named records = sums_of named records (losers records) 0
