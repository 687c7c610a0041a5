use Rattle.std.proofs.Common.{arith, rules, ℕ, ◌≡◌, ◌≤◌, ◌++◌, List, [], ◌∷◌, length, ap, inr}
use Rattle.part_tree.specs.Patches.{all_bytes}
use Rattle.carrier_model.proofs.Patches.{all_bytes-append}
use Rattle.part_tree.specs.declared.plan.Patch.{Patch}
use Rattle.avi_plan.proofs.Patched.{push_much}
use Rattle.avi_plan.proofs.patches.Patched.push.Goals as goal

pub returns-then-total-gt-MOST_BYTES-clause-none :
    goal.returns-then-total-gt-MOST_BYTES-clause-none
returns-then-total-gt-MOST_BYTES-clause-none c = λ e.
    let some : 1 ≤ length c.args.bytes.now = search rules in
    push_much c.args.self.now.patches.items c.args.at c.args.bytes.now some (inr (omega (arith, c.requires.sum, c.if-total-gt-MOST_BYTES.true)))

pub returns-clause-sum : goal.returns-clause-sum
returns-clause-sum c = λ e.
    let last : Patch = record { at = c.args.at; bytes = c.in_ok-copy.copy } in
    let items : c.push.new.self.items ≡ c.args.self.now.patches.items ++ last ∷ [] = search rules in
    omega (arith, ap all_bytes items, all_bytes-append c.args.self.now.patches.items (last ∷ []), ap (λ (x : List ℕ). length x) c.in_ok-copy.ensures, c.requires.sum)
