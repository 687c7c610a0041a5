use Rattle.std.proofs.Common.{◌≤◌, ◌<◌, ◌∙◌, arith, ap, get_or, length, rules, sym, subst, ℕ}
use Rattle.me_disk.specs.Holds.{Holds, Inside}
use Rattle.me_disk.proofs.Holds.{holds_on}
use Rattle.std.specs.Prelude.{Some}
use Rattle.std.proofs.lemmas.List.{drop_all}
use Rattle.edit_planner.proofs.AviLoops.{HeadLeft, ascend_next, head_next, none_found}
use Rattle.edit_planner.proofs.Loads.{inside_on, no_part}
use Rattle.edit_planner.proofs.head.head_of.Goals as goal

pub is_head-requires-clause-inside : goal.is_head-requires-clause-inside
is_head-requires-clause-inside g c = λ b holds.
    let parts = c.args.parts.now in
    let k = c.parts.part-index in
    let lt : k < length parts = omega arith in
    let next = ascend_next c.args.from c.args.end parts k lt c.parts.invariant.ascend in
    let inside : Inside c.args.end (g.D.Depot.disk c.parts.depot) = inside_on (g.D.Depot.disk c.args.depot.now) (g.D.Depot.disk c.parts.depot) c.args.end c.parts.invariant.reads c.requires.inside in
    omega (arith, next.inside, inside b holds)

pub is_head-requires-clause-small : goal.is_head-requires-clause-small
is_head-requires-clause-small g c =
    let parts = c.args.parts.now in
    let k = c.parts.part-index in
    let lt : k < length parts = omega arith in
    let next = ascend_next c.args.from c.args.end parts k lt c.parts.invariant.ascend in
    omega (arith, next.inside, c.requires.small)

pub returns-then-branch-clause-head : goal.returns-then-branch-clause-head
returns-then-branch-clause-head g c = λ b holds role cs e s r.
    let parts = c.args.parts.now in
    let k = c.parts.part-index in
    let lt : k < length parts = omega arith in
    let next = head_next role b c.args.from cs parts k lt (c.parts.invariant.left b holds role cs e s r) in
    let now : Holds (g.D.Depot.disk c.parts.depot) b = holds_on (g.D.Depot.disk c.args.depot.now) (g.D.Depot.disk c.parts.depot) b c.parts.invariant.reads holds in
    let is = c.in_ok-is_head.ensures.head b now (role next.at next.chunk) next.at next.chunk next.is_part next.stands next.riff in
    ap (λ (n : ℕ). Some (record { number = n; body = (get_or parts k no_part).body })) c.parts.invariant.count ∙ sym (next.found (sym is ∙ c.if-branch.true))

pub returns-then-branch-clause-stands : goal.returns-then-branch-clause-stands
returns-then-branch-clause-stands g c =
    let parts = c.args.parts.now in
    let k = c.parts.part-index in
    let lt : k < length parts = omega arith in
    let next = ascend_next c.args.from c.args.end parts k lt c.parts.invariant.ascend in
    record { low = next.low; typed = c.in_ok-is_head.ensures.typed c.if-branch.true; inside = next.inside }

pub parts-preserved : goal.parts-preserved
parts-preserved g c =
    let parts = c.args.parts.now in
    let k = c.parts.part-index in
    let lt : k < length parts = omega arith in
    record {
      count = omega (arith, c.parts.invariant.count);
      ascend = (ascend_next c.args.from c.args.end parts k lt c.parts.invariant.ascend).later;
      left = λ b holds role cs e s r.
          let next = head_next role b c.args.from cs parts k lt (c.parts.invariant.left b holds role cs e s r) in
          let now : Holds (g.D.Depot.disk c.parts.depot) b = holds_on (g.D.Depot.disk c.args.depot.now) (g.D.Depot.disk c.parts.depot) b c.parts.invariant.reads holds in
          let is = c.in_ok-is_head.ensures.head b now (role next.at next.chunk) next.at next.chunk next.is_part next.stands next.riff in
          next.later (sym is ∙ c.if-branch.false);
      reads = search rules;
    }

pub returns-clause-head : goal.returns-clause-head
returns-clause-head g c = λ b holds role cs e s r.
    let left = c.parts.invariant.left b holds role cs e s r in
    sym (none_found role b c.args.from cs c.parts.part-index (subst (HeadLeft role b c.args.from cs c.parts.part-index) (drop_all c.parts.part-index c.args.parts.now (omega arith)) left))
