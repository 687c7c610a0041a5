use Rattle.std.proofs.Common.{◌≡◌, ◌∙◌, ◌+◌, suc, List, length, drop, ap, arith}
use Rattle.avi_plan.specs.Changes.{IsNamed, IsSound, changes_up_to}
use Rattle.avi_plan.specs.Made.{made_of}
use Rattle.avi_plan.specs.declared.table.Change.{Change}
use Rattle.avi_plan.proofs.Made.{all_or, left_none, more_at, none_at, step_more, up_to_end}
use Rattle.avi_plan.proofs.segments.Rewritten.push_changes.Goals as goal

pub returns-then-end-place-clause-next : goal.returns-then-end-place-clause-next
returns-then-end-place-clause-next c =
    let none = none_at c.args.place c.args.changes.now c.changes.next c.in-Some.end _ c.changes-test.true c.in-Some.ensures c.if-end-place.true in
    let few : length (changes_up_to c.args.place (drop c.changes.next c.args.changes.now)) ≡ 0 = ap (λ (us : List Change). length us) none in
    omega (arith, few, c.changes.invariant.next)

pub returns-then-end-place-clause-bytes : goal.returns-then-end-place-clause-bytes
returns-then-end-place-clause-bytes c = λ ms b rest.
    left_none ms b c.changes.self.at rest (made_of ms b c.changes.self) (changes_up_to c.args.place (drop c.changes.next c.args.changes.now)) (none_at c.args.place c.args.changes.now c.changes.next c.in-Some.end _ c.changes-test.true c.in-Some.ensures c.if-end-place.true)
    ∙ c.changes.invariant.bytes ms b rest

pub changes-preserved : goal.changes-preserved
changes-preserved c =
    let cs = c.args.changes.now in
    let i = c.changes.next in
    let p = c.args.place in
    let more = more_at p cs i c.in-Some.end _ c.changes-test.true c.in-Some.ensures c.if-end-place.false in
    let some : length (changes_up_to p (drop i cs)) ≡ suc (length (changes_up_to p (drop (i + 1) cs))) = ap (λ (us : List Change). length us) more in
    record {
      inside = omega (arith, c.changes-test.true);
      order = omega (arith, c.changes.invariant.order, c.in_ok-push_change.ensures.order, c.in_ok-push_change.ensures.at);
      next = omega (arith, c.changes.invariant.next, some);
      bytes = λ ms b rest.
          step_more ms b c.changes.self.at c.push_change.new.self.at _ (made_of ms b c.changes.self) (made_of ms b c.push_change.new.self) (changes_up_to p (drop i cs)) (changes_up_to p (drop (i + 1) cs)) rest more c.in_ok-push_change.ensures.order c.in_ok-push_change.ensures.at (c.in_ok-push_change.ensures.bytes ms b)
          ∙ c.changes.invariant.bytes ms b rest;
      sound = λ b s m. c.in_ok-push_change.ensures.sound b (all_or (IsSound (length b)) cs i _ c.changes-test.true s) (c.changes.invariant.sound b s m);
      named = λ ms b s m. c.in_ok-push_change.ensures.named ms b (all_or (IsNamed ms b) cs i _ c.changes-test.true s) (c.changes.invariant.named ms b s m);
    }

pub returns-clause-bytes : goal.returns-clause-bytes
returns-clause-bytes c = λ ms b rest.
    left_none ms b c.changes.self.at rest (made_of ms b c.changes.self) (changes_up_to c.args.place (drop c.changes.next c.args.changes.now)) (up_to_end c.args.place c.args.changes.now c.changes.next c.changes-test.false)
    ∙ c.changes.invariant.bytes ms b rest
