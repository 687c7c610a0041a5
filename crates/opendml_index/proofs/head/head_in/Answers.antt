use Rattle.std.proofs.Common.{◌≤◌, ℕ, List, length, subst, arith}
use Rattle.opendml_index.specs.Heads.{OfKind, IsFront, kind_wanted}
use Rattle.opendml_index.proofs.Front.{of_front, front_of, head_is, is_wanted, header_true, entries_false, entries_true, no_entries, all_there}
use Rattle.opendml_index.proofs.head.head_in.Goals as goal

pub returns-then-len-from-clause-head : goal.returns-then-len-from-clause-head
returns-then-len-from-clause-head c body same len =
    let kind = c.in-Some.kind in
    let of = of_front body kind (subst (λ (x : List ℕ). OfKind x kind) same c.in-Some.ensures.0) in
    let front = front_of body kind c.head_of-head.result (subst (λ (x : List ℕ). IsFront x kind c.head_of-head.result) same c.head_of-head.ensures) in
    let head = head_is body kind c.head_of-head.result of front in
    let long : 24 ≤ length body = omega arith in
    no_entries (kind_wanted c.args.standard) body (header_true body long) (is_wanted c.args.standard c.args.first.now body same c.in-Some.ensures.1) (entries_false body c.head_of-head.result c.from.result c.from-2.result head c.from.ensures c.from-2.ensures long (omega arith))

pub returns-clause-head : goal.returns-clause-head
returns-clause-head c body same len =
    let kind = c.in-Some.kind in
    let of = of_front body kind (subst (λ (x : List ℕ). OfKind x kind) same c.in-Some.ensures.0) in
    let front = front_of body kind c.head_of-head.result (subst (λ (x : List ℕ). IsFront x kind c.head_of-head.result) same c.head_of-head.ensures) in
    let head = head_is body kind c.head_of-head.result of front in
    let long : 24 ≤ length body = omega arith in (
      all_there (kind_wanted c.args.standard) body (header_true body long) (is_wanted c.args.standard c.args.first.now body same c.in-Some.ensures.1) (entries_true body c.head_of-head.result c.from.result c.from-2.result head c.from.ensures c.from-2.ensures long (omega arith)),
      head,
    )
