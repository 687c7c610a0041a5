use Rattle.std.proofs.Common.{◌≡◌, ℕ, ◌+◌, ◌<◌, ◌^◌, List, length, get_or, arith, sym, subst, ap}
use Rattle.part_tree.specs.Moves.{Move, Ascend}
use Rattle.part_tree.proofs.Moved.{new_fits}
use Rattle.part_tree.proofs.moves.Moves.place_by.Goals as goal

-- the pair of this number ends before 2^63 at its new place
small : (held now : List Move) (k : ℕ) (m : Move) → Ascend 0 held → held ≡ now → k < length now → m ≡ get_or held k m → m.1 + m.0.len < 2 ^ 63
small held now k m order same low is =
    let Small : Move → Type 0 = λ x. x.1 + x.0.len < 2 ^ 63 in
    subst Small (sym is) (new_fits 0 held k m order (omega (arith, low, ap length same)))

pub overflow_add-result : goal.overflow_add-result
overflow_add-result c =
    let fits = small c.self.inside.held.items c.args.self.now c.args.k c.index.result.now c.self.invariant c.self.view_is c.requires c.index.ensures in
    omega (arith, fits)

pub returns-then-at-span-clause-small : goal.returns-then-at-span-clause-small
returns-then-at-span-clause-small c =
    let fits = small c.self.inside.held.items c.args.self.now c.args.k c.index.result.now c.self.invariant c.self.view_is c.requires c.index.ensures in
    omega (arith, fits)
