use Rattle.std.proofs.Common.{[], ◌∷◌, ◌+◌, ◌≡◌, ◌≤◌, List, None, Option, Some, ap, arith, length, subst, ℕ}
use Rattle.std.specs.Prelude.{IfSome}
use Rattle.qt_keys.specs.Read.{IsRead}
use Rattle.qt_keys.specs.Set.{with_key}
use Rattle.qt_keys.specs.Table.{table_bytes}
use Rattle.qt_keys.specs.declared.table.KeyTable.{KeyTable}
use Rattle.qt_keys.proofs.Growth.{grows}
use Rattle.qt_keys.proofs.tests.sets_and_removes_keys.Goals as goal

-- a table that was read of bytes has their length
of_length : (b : List ℕ) (found : Option KeyTable) → IfSome found (λ t. table_bytes t ≡ b) → IfSome found (λ t. length (table_bytes t) ≡ length b)
of_length b None e = tt
of_length b (Some t) e = ap length e

-- the table that was found is one that is read, of so many bytes
read_of : (found : Option KeyTable) (t : KeyTable) (n : ℕ) → IfSome found IsRead → IfSome found (λ u. length (table_bytes u) ≡ n) → found ≡ Some t → IsRead t × (length (table_bytes t) ≡ n)
read_of found t n r l e = (subst (λ o. IfSome o IsRead) e r, subst (λ o. IfSome o (λ u. length (table_bytes u) ≡ n)) e l)

-- a table with a value set has at most so many bytes more
set_longer : (name raw : List ℕ) (t u : KeyTable) → IsRead t → u ≡ with_key name (Some raw) t → length (table_bytes u) ≤ length (table_bytes t) + (24 + length name + length raw)
set_longer name raw t u r e = omega (arith, grows name (Some raw) t r, ap (λ v. length (table_bytes v)) e)

-- and one with it removed has none
no_longer : (name : List ℕ) (t u : KeyTable) → IsRead t → u ≡ with_key name None t → length (table_bytes u) ≤ length (table_bytes t)
no_longer name t u r e = omega (arith, grows name None t r, ap (λ v. length (table_bytes v)) e)

pub set_key-requires-clause-small : goal.set_key-requires-clause-small
set_key-requires-clause-small g c =
    let t = c.in-Some.table in
    let r = read_of c.in_ok-table.field-0 t 92 c.in_ok-table.ensures.read (of_length _ c.in_ok-table.field-0 c.in_ok-table.ensures.spelled) c.in-Some.is in
    omega (arith, grows (97 ∷ []) (Some (0 ∷ 0 ∷ 0 ∷ 1 ∷ 0 ∷ 0 ∷ 0 ∷ 0 ∷ 72 ∷ 111 ∷ [])) t r.0, r.1)

pub set_key-requires-2-clause-small : goal.set_key-requires-2-clause-small
set_key-requires-2-clause-small g c =
    let t = c.in-Some.table in
    let r = read_of c.in_ok-table.field-0 t 92 c.in_ok-table.ensures.read (of_length _ c.in_ok-table.field-0 c.in_ok-table.ensures.spelled) c.in-Some.is in
    let more = set_longer (97 ∷ []) (0 ∷ 0 ∷ 0 ∷ 1 ∷ 0 ∷ 0 ∷ 0 ∷ 0 ∷ 72 ∷ 111 ∷ []) t c.in_ok-other.other r.0 c.in_ok-other.ensures.set in
    omega (arith, grows (97 ∷ []) None c.in_ok-other.other c.in_ok-other.ensures.read, more, r.1)

pub set_key-requires-3-clause-small : goal.set_key-requires-3-clause-small
set_key-requires-3-clause-small g c =
    let t = c.in-Some.table in
    let r = read_of c.in_ok-table.field-0 t 92 c.in_ok-table.ensures.read (of_length _ c.in_ok-table.field-0 c.in_ok-table.ensures.spelled) c.in-Some.is in
    let more = set_longer (97 ∷ []) (0 ∷ 0 ∷ 0 ∷ 1 ∷ 0 ∷ 0 ∷ 0 ∷ 0 ∷ 72 ∷ 111 ∷ []) t c.in_ok-other.other r.0 c.in_ok-other.ensures.set in
    let less = no_longer (97 ∷ []) c.in_ok-other.other c.in_ok-none.none c.in_ok-other.ensures.read c.in_ok-none.ensures.set in
    omega (arith, grows (97 ∷ []) (Some (0 ∷ 0 ∷ 0 ∷ 1 ∷ 0 ∷ 0 ∷ 0 ∷ 0 ∷ 72 ∷ 105 ∷ [])) c.in_ok-none.none c.in_ok-none.ensures.read, less, more, r.1)
