use Rattle.std.proofs.Common.{rules, ◌≡◌, ◌∙◌, List, length, sym, ap, subst, arith}
use Rattle.std.proofs.lemmas.List.Sorted.{IsPartitionPoint-from_clause}
use Rattle.part_tree.specs.Moves.{Move, Ascend}
use Rattle.part_tree.proofs.Moved.{none_of, last_of, partitioned, Begins, Cut}
use Rattle.part_tree.proofs.moves.Moves.before.Goals as goal

-- the ranges, as they are seen and as they are held
same : (c : goal.After-partition_point) → c.deref.result.now ≡ c.args.self.now
same c = c.deref.ensures.value ∙ c.self.view_is

order : (c : goal.After-partition_point) → Ascend 0 c.deref.result.now
order c = let A : List Move → Type 0 = λ moves. Ascend 0 moves in subst A (sym c.deref.ensures.value) c.self.invariant

cut : (c : goal.After-partition_point) → Cut c.args.at c.deref.result.now c.partition_point.result
cut c = IsPartitionPoint-from_clause (Begins c.args.at) _ _ c.partition_point.ensures.partitioned (partitioned 0 c.deref.result.now c.args.at (order c)) (λ a r q k. search rules)

pub returns-clause-none : goal.returns-clause-none
returns-clause-none c zero =
    let C : List Move → Type 0 = λ moves. Cut c.args.at moves c.partition_point.result in
    none_of c.args.self.now c.args.at c.partition_point.result (subst C (same c) (cut c)) zero

pub returns-clause-last : goal.returns-clause-last
returns-clause-last c d some =
    let C : List Move → Type 0 = λ moves. Cut c.args.at moves c.partition_point.result in
    let A : List Move → Type 0 = λ moves. Ascend 0 moves in
    last_of c.args.self.now c.args.at c.partition_point.result d (subst A (same c) (order c)) (omega (arith, c.partition_point.ensures.bound, ap length (same c))) (subst C (same c) (cut c)) some
