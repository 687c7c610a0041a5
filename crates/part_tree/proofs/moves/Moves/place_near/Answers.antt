use Rattle.std.proofs.Common.{rules, arith, subst, List}
use Rattle.part_tree.specs.Moves.{Move, Ascend}
use Rattle.part_tree.proofs.Moved.{found_there, last_tells}
use Rattle.part_tree.proofs.moves.Moves.place_near.Goals as goal

pub returns-then-is_some-clause-place : goal.returns-then-is_some-clause-place
returns-then-is_some-clause-place c =
    let A : List Move → Type 0 = λ moves. Ascend 0 moves in
    found_there c.args.self.now c.args.near.now c.args.at c.place_by-there.result (subst A c.self.view_is c.self.invariant) (search rules) c.place_by-there.ensures.there (search rules)

pub returns-clause-place : goal.returns-clause-place
returns-clause-place c = last_tells c.args.self.now c.before-before.result c.args.at c.place_by.result (omega (arith, c.if-before-eq0.false)) c.before-before.ensures.last c.place_by.ensures.there
